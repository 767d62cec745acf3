-- The messages of the errors of commands, and what holds of what is given, or of the answer that an error prints.
use Rattle.std.specs.Prelude.{◌≡◌, ℕ, List, Bool, true, false, codes, is_none, option_map, Option, Some, Result, Ok, Err, if◌then◌else◌}
use Rattle.pep440_version.specs.Changes.ChangeWords.{not_a_change_text}
use Rattle.pep440_pick.specs.Requirements.{requirement_text_of}
use Rattle.pep440_pick.specs.declared.error.RequirementError.{RequirementError}
use Rattle.pep440_pick.specs.declared.error.RequirementError.TheVariants as requirement
use Rattle.pep440_rs.specs.ErrorTexts.{range_error_text}
use Rattle.pep440_rs.specs.Lists.ListResults.{line_of, list_kind_of}
use Rattle.pep440_rs.specs.Lists.ListErrorTexts.{list_text_of}
use Rattle.pep440_rs.specs.declared.list.error.SpecifiersErrorKind.{SpecifiersErrorKind}
use Rattle.pep440_rs.specs.declared.list.error.SpecifiersErrorKind.TheVariants as list
use Rattle.pep440_rs.specs.declared.range.error.RangeError.{RangeError}
use Rattle.pep440_rs.specs.declared.range.error.RangeError.TheVariants as range
use Rattle.pep440_version.specs.ErrorTexts.{change_error_text, error_text}
use Rattle.pep440_version.specs.Errors.{kind_of, rejection_of}
use Rattle.pep440_version.specs.declared.change.ChangeError.{ChangeError}
use Rattle.pep440_version.specs.declared.change.ChangeError.TheVariants as change
use Rattle.pep440_tool.specs.Answers.{ToolAnswer, candidate_fault_text, line_fault_text, shown_error, shown_list_error}
use Rattle.pep440_tool.specs.declared.error.CommandError.{CommandError}
use Rattle.pep440_tool.specs.declared.error.CommandError.TheVariants as error

abbrev pub error_text_of : CommandError → Option (List ℕ)
error_text_of (error.Version e) = error_text (rejection_of (kind_of e))
error_text_of (error.List e) = list_text_of (list_kind_of e) (line_of e)
error_text_of (error.NotAChange n) = Some (not_a_change_text n)
error_text_of (error.Change e) = Some (change_error_text e)
error_text_of (error.Range e) = Some (range_error_text e)
error_text_of error.Name = Some (codes "name: not a valid name")
error_text_of (error.Candidate n e) = option_map (candidate_fault_text n) (error_text (rejection_of (kind_of e)))
error_text_of (error.NotUtf8 n) = Some (line_fault_text n (codes "not UTF-8"))
error_text_of (error.Line n e) = option_map (line_fault_text n) (error_text (rejection_of (kind_of e)))
error_text_of (error.Requirement n e) = option_map (line_fault_text n) (requirement_text_of e)
error_text_of error.OutOfMemory = Some (codes "out of memory")

-- ---- out of memory

abbrev pub is_list_memory : SpecifiersErrorKind → Bool
is_list_memory list.OutOfMemory = true
is_list_memory _ = false

abbrev pub is_change_memory : ChangeError → Bool
is_change_memory change.OutOfMemory = true
is_change_memory _ = false

abbrev pub is_range_memory : RangeError → Bool
is_range_memory range.OutOfMemory = true
is_range_memory _ = false

abbrev pub is_requirement_memory : RequirementError → Bool
is_requirement_memory requirement.OutOfMemory = true
is_requirement_memory _ = false

abbrev pub lacks_memory : CommandError → Bool
lacks_memory (error.Version e) = is_none (rejection_of (kind_of e))
lacks_memory (error.List e) = is_list_memory (list_kind_of e)
lacks_memory (error.Change e) = is_change_memory e
lacks_memory (error.Range e) = is_range_memory e
lacks_memory (error.Candidate n e) = is_none (rejection_of (kind_of e))
lacks_memory (error.Line n e) = is_none (rejection_of (kind_of e))
lacks_memory (error.Requirement n e) = is_requirement_memory e
lacks_memory error.OutOfMemory = true
lacks_memory _ = false

-- ---- what is printed

abbrev pub is_list_error : RequirementError → Bool
is_list_error (requirement.Specifiers e) = true
is_list_error _ = false

-- the message of a list's error ends its own lines
abbrev pub ends_lines : CommandError → Bool
ends_lines (error.List e) = true
ends_lines (error.Requirement n e) = is_list_error e
ends_lines _ = false

-- what an error with this message prints
abbrev pub error_answer : Bool → List ℕ → ToolAnswer
error_answer ends text = if ends then shown_list_error text else shown_error text

-- what holds of the answer that an error prints, unless it is out of memory
abbrev pub ErrorPrints : (ToolAnswer → Type 0) → CommandError → Type 0
ErrorPrints Q e = lacks_memory e ≡ false → (text : List ℕ) × (error_text_of e ≡ Some text) × Q (error_answer (ends_lines e) text)

-- what holds of what is given, or of the answer that the error prints
abbrev pub HoldsOrPrints : {X : Type 0} → (X → Type 0) → (ToolAnswer → Type 0) → Result X CommandError → Type 0
HoldsOrPrints P Q (Ok x) = P x
HoldsOrPrints P Q (Err e) = ErrorPrints Q e
