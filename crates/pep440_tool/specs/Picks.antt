-- The output of `pick`: the newest candidate that the lists of the requirement lines of that name contain.
use Rattle.std.specs.Prelude.{◌≡◌, ◌⊎◌, ℕ, List, Bool, true, false, codes, Option, option_and_then, slice_get, if◌then◌else◌}
use Rattle.std.specs.List.{enumerate_from}
use Rattle.std.specs.Option.{option_map_or}
use Rattle.pep440_pick.specs.Allowed.{lists_of}
use Rattle.pep440_pick.specs.Names.{is_name}
use Rattle.pep440_pick.specs.Newest.{Newest}
use Rattle.pep440_pick.specs.RequirementGrammar.{DerivesRequirement, Needed, RejectsRequirement, RequirementRejection, Specifiers}
use Rattle.pep440_pick.specs.Requirements.{requirement_rejection_text}
use Rattle.pep440_rs.specs.Specifiers.{Spec}
use Rattle.pep440_version.specs.ErrorTexts.{rejection_text}
use Rattle.pep440_version.specs.Grammar.{Derives}
use Rattle.pep440_version.specs.Print.{print}
use Rattle.pep440_version.specs.Record.{Record}
use Rattle.pep440_version.specs.Rejections.{Rejection, Rejects}
use Rattle.pep440_tool.specs.Answers.{ReadsEach, ToolAnswer, candidate_fault_text, line_fault_text, shown_error, shown_list_error, shown}
use Rattle.pep440_tool.specs.Lines.{LineDenotes, RejectsLine, numbered_lines}

-- ---- candidates

-- the candidate denotes this version
abbrev pub CandidateDenotes : ℕ × List ℕ → Record → Type 0
CandidateDenotes text r = Derives text.1 r

-- the answer is the error of a candidate that is no version
abbrev pub RejectsCandidate : ℕ × List ℕ → ToolAnswer → Type 0
RejectsCandidate text a = (f : Rejection) × Rejects text.1 f × (a ≡ shown_error (candidate_fault_text text.0 (rejection_text f)))

-- ---- requirements

-- the requirement is invalid by its list of specifiers
abbrev pub is_of_list : RequirementRejection → Bool
is_of_list (Specifiers list f) = true
is_of_list _ = false

-- the error of an invalid requirement; the message of a list's error has line ends of its own
abbrev pub shown_requirement_error : ℕ → RequirementRejection → ToolAnswer
shown_requirement_error number f = let text = line_fault_text number (requirement_rejection_text f) in if is_of_list f then shown_list_error text else shown_error text

-- ---- the answer

-- the normalized form of the version at the index, or `none`
abbrev pub newest_text : List Record → Option ℕ → List ℕ
newest_text candidates position = option_map_or print (option_and_then (slice_get candidates) position) (codes "none")

-- the answer is the newest candidate by the lists
abbrev pub PrintsNewest : List (List Spec) → List Record → ToolAnswer → Type 0
PrintsNewest lists candidates a = (position : Option ℕ) × Newest lists candidates position × (a ≡ shown (newest_text candidates position))

-- the answer is the newest candidate by the lists of the lines of that name
abbrev pub ShowsNewest : List ℕ → List Record → List Needed → ToolAnswer → Type 0
ShowsNewest name candidates found = PrintsNewest (lists_of name found) candidates

-- `pick NAME V..`: NAME is checked, then the candidates are parsed, and then the lines of the input
abbrev pub PickAnswer : List ℕ → List (List ℕ) → List ℕ → ToolAnswer → Type 0
PickAnswer name texts input a = ((is_name name ≡ false) × (a ≡ shown_error (codes "name: not a valid name")))
    ⊎ ((is_name name ≡ true) × ReadsEach CandidateDenotes RejectsCandidate (enumerate_from 1 texts) (λ candidates.
    ReadsEach (LineDenotes DerivesRequirement) (RejectsLine RejectsRequirement shown_requirement_error) (numbered_lines input) (λ found. ShowsNewest name candidates found a) a) a)
