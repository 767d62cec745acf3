-- What the check of requirements files reports.
use Rattle.std.specs.Prelude.{◌≡◌, ℕ, ◌+◌, ◌-◌, ◌^◌, List, [], ◌∷◌, ◌++◌, Bool, false, bytes_eq, length, min, not, codes}
use Rattle.std.specs.List.{AllZip, filter, flat_map, list_any}
use Rattle.pyver_findings.specs.Demands.{Demand}
use Rattle.pyver_findings.specs.FileLines.{Conflicting, File, FileLine, Finding, NoRequirement, all_lines}
use Rattle.pyver_findings.specs.Hashes.{lacks_hashes}
use Rattle.pyver_findings.specs.NamedFiles.{constraints_files}
use Rattle.pyver_findings.specs.LineMeanings.{Asks, IsNone, LeftOut, LineMeaning, AsksNothing, IsMeaning, constraint_faults, has_part}
use Rattle.pyver_findings.specs.MarkedConflicts.{FindsOfNames, everywhere}
use Rattle.pyver_requirements.specs.declared.cause.Cause.{Cause}
use Rattle.pyver_findings.specs.declared.finding.Conflict.{Conflict}
use Rattle.pyver_findings.specs.declared.finding.Conflict.TheVariants.{NoVersion, PinOutside, TwoPins}
use Rattle.pyver_findings.specs.declared.finding.FindingKind.{FindingKind}
use Rattle.pyver_findings.specs.declared.finding.FindingKind.TheVariants as kind

-- ---- the kinds of findings, each with a code and a word

abbrev pub conflict_kind_of : Conflict → FindingKind
conflict_kind_of NoVersion = kind.NoVersion
conflict_kind_of PinOutside = kind.PinOutside
conflict_kind_of TwoPins = kind.TwoPins

abbrev pub finding_kind : Finding → FindingKind
finding_kind (NoRequirement l reason column) = kind.NoRequirement
finding_kind (Conflicting conflict lines environment) = conflict_kind_of conflict

abbrev pub kind_code : FindingKind → List ℕ
kind_code kind.NoRequirement = codes "PV001"
kind_code kind.NoVersion = codes "PV002"
kind_code kind.PinOutside = codes "PV003"
kind_code kind.TwoPins = codes "PV004"

abbrev pub kind_summary : FindingKind → List ℕ
kind_summary kind.NoRequirement = codes "A line or string is malformed, or what it names is missing."
kind_summary kind.NoVersion = codes "No version satisfies the lines."
kind_summary kind.PinOutside = codes "A line is pinned to a version that another excludes."
kind_summary kind.TwoPins = codes "Two lines are pinned to two versions."

abbrev pub kind_word : FindingKind → List ℕ
kind_word kind.NoRequirement = codes "no-requirement"
kind_word kind.NoVersion = codes "no-version"
kind_word kind.PinOutside = codes "pin-outside"
kind_word kind.TwoPins = codes "two-pins"

-- ---- comments that ignore findings

-- the comment that ignores findings of a kind
abbrev pub ignore_comment : FindingKind → List ℕ
ignore_comment k = codes "# pyver: ignore[" ++ (kind_code k ++ codes "]")

-- the line has this comment
abbrev pub ignores : FindingKind → FileLine → Bool
ignores k l = has_part (ignore_comment k) l.comment

-- the line has the comment for this kind, or one of the lines that cannot be satisfied together
abbrev pub is_ignored : Finding → Bool
is_ignored (NoRequirement l reason column) = ignores kind.NoRequirement l
is_ignored (Conflicting conflict lines environment) = list_any (ignores (conflict_kind_of conflict)) lines

-- ---- reports

-- the findings, those that a comment ignores, the number of lines and of files, and for each line and set of markers that was left out why
pub record Report : Type 0 where
  pub findings : List Finding
  pub ignored : List Finding
  pub lines : ℕ
  pub files : ℕ
  pub left_out : List Cause

-- the requirement of a line that is one
abbrev pub demands_in : LineMeaning → List Demand
demands_in (Asks a) = a ∷ []
demands_in (IsNone f) = []
demands_in (LeftOut c) = []
demands_in AsksNothing = []

-- the finding of a line that is no requirement
abbrev pub invalid_in : LineMeaning → List Finding
invalid_in (Asks a) = []
invalid_in (IsNone f) = f ∷ []
invalid_in (LeftOut c) = []
invalid_in AsksNothing = []

-- why a line is left out
abbrev pub left_out_in : LineMeaning → List Cause
left_out_in (Asks a) = []
left_out_in (IsNone f) = []
left_out_in (LeftOut c) = c ∷ []
left_out_in AsksNothing = []

-- the faults of the lines of these files of constraints
abbrev pub constraint_findings : List File → List Finding
constraint_findings files = flat_map constraint_faults (all_lines files)

-- what is found of single lines that are read so: first those that are no requirements, in order; then what cannot be a constraint; then what lacks a hash
abbrev pub found_in : List File → List LineMeaning → List Finding
found_in files xs = flat_map invalid_in xs ++ (constraint_findings (constraints_files files) ++ lacks_hashes (all_lines files) (flat_map demands_in xs))

-- the report of the files, whatever comments ignore: behind these findings those of requirements that have no version in common
abbrev pub IsReport : List File → Report → Type 0
IsReport files r = (xs : List LineMeaning) × AllZip IsMeaning (all_lines files) xs
    × (fs : List Finding) × (cs : List Cause) × FindsOfNames everywhere (flat_map demands_in xs) fs cs × (r ≡ record {
      findings = found_in files xs ++ fs;
      ignored = [];
      lines = length (all_lines files);
      files = length files;
      left_out = flat_map left_out_in xs ++ cs;
    })

-- the report of no files
abbrev pub empty_report : Report
empty_report = record { findings = []; ignored = []; lines = 0; files = 0; left_out = [] }

-- both counts together, up to 2^64 - 1
abbrev pub both_counts : ℕ → ℕ → ℕ
both_counts a b = min (a + b) (2 ^ 64 - 1)

-- two reports as one, the first one's findings first
abbrev pub joined_report : Report → Report → Report
joined_report a b = record {
  findings = a.findings ++ b.findings;
  ignored = a.ignored ++ b.ignored;
  lines = both_counts a.lines b.lines;
  files = both_counts a.files b.files;
  left_out = a.left_out ++ b.left_out;
}

-- the report whose findings are those that no comment ignores
abbrev pub without_ignored : Report → Report
without_ignored r = record {
  findings = filter (λ f. not (is_ignored f)) r.findings;
  ignored = r.ignored ++ filter is_ignored r.findings;
  lines = r.lines;
  files = r.files;
  left_out = r.left_out;
}

-- the lines are of two files, or more
abbrev pub are_of_several : List FileLine → Bool
are_of_several [] = false
are_of_several (l ∷ rest) = list_any (λ (m : FileLine). not (bytes_eq m.file l.file)) rest

-- lines of two files, or more, are reported together
abbrev pub spans_files : Finding → Bool
spans_files (NoRequirement l reason column) = false
spans_files (Conflicting conflict lines environment) = are_of_several lines
