-- The command `check`: what is wrong in requirements files.
use Rattle.std.specs.Prelude.{◌≡◌, ◌⊎◌, ℕ, List, [], ◌∷◌, ◌++◌, Bool, true, false, Option, Some, None, codes, map, if◌then◌else◌}
use Rattle.std.specs.Fmt.{decimal}
use Rattle.std.specs.List.{flat_map, list_any}
use Rattle.cli_io.specs.Runs.{Outcome}
use Rattle.pyver_tool.specs.Settings.{findings_text}
use Rattle.pyver_tool.specs.RequirementFiles.{FilesRead, ReadsFiles, FailsInFiles, UnopenedFile}
use Rattle.pyver_commands.specs.Sources.{KnownFile, failure_reason, source_names}
use Rattle.pyver_tool.specs.declared.check.CheckOptions.{CheckOptions}
use Rattle.pyver_commands.specs.declared.sources.stream.RunFailure.{RunFailure}
use Rattle.pyver_commands.specs.declared.sources.stream.RunFailure.TheVariants as run_failure
use Rattle.cli_io.specs.Escapes.{escaped}
use Rattle.pyver_findings.specs.FileLines.{Finding}
use Rattle.pyver_findings.specs.NamedFiles.{Position}
use Rattle.pyver_findings.specs.ReportTexts.{summary_text}
use Rattle.pyver_findings.specs.Reports.{IsReport, Report, empty_report, joined_report, spans_files, without_ignored}
use Rattle.pyver_documents.specs.Comparing.{IsDocumentsReport}

-- ---- what is found

-- what was found of the files that were read, and the files that were not opened
pub record CheckResult : Type 0 where
  pub report : Report
  pub unopened : List UnopenedFile

abbrev pub none_checked : CheckResult
none_checked = record { report = empty_report; unopened = [] }

-- the words by groups, which are checked each by itself: one group, or a group for each
abbrev pub word_groups : Bool → List (List ℕ) → List (List (List ℕ))
word_groups each words = if each then map (λ word. word ∷ []) (source_names words) else source_names words ∷ []

-- this report follows, and these files that were not opened
abbrev pub with_report : List UnopenedFile → CheckResult → Report → CheckResult
with_report unopened a r = record { report = joined_report a.report r; unopened = a.unopened ++ unopened }

-- the report of these files follows, without what comments ignore: of all requirements files together, and of all documents
abbrev pub GainsReport : FilesRead → CheckResult → CheckResult → Type 0
GainsReport read a b = (r : Report) × (s : Report) × IsReport read.requirements r × IsDocumentsReport read.documents s
    × (b ≡ with_report read.unopened a (without_ignored (joined_report r s)))

module _ {R : Type 0} (options : CheckOptions) (files : List ℕ → KnownFile) (paths : List ℕ → Option (List ℕ)) (remaining : R → Option (List ℕ)) where
  -- the files that the words name were read, and their report follows
  abbrev pub ChecksGroup : List (List ℕ) → CheckResult → CheckResult → R → R → Type 0
  ChecksGroup words a b reader reader' = (read : FilesRead) × ReadsFiles options.kind files paths remaining options.seeks_locks words reader reader' read × GainsReport read a b

  -- the groups, each in turn
  abbrev pub ChecksGroups : List (List (List ℕ)) → CheckResult → CheckResult → R → R → Type 0
  ChecksGroups [] a b reader reader' = (b ≡ a) × (reader' ≡ reader)
  ChecksGroups (words ∷ groups) a b reader reader' = (c : CheckResult) × (middle : R) × ChecksGroup words a c reader middle × ChecksGroups groups c b middle reader'

  -- reading the files that the words name stopped, or an allocation failed after it
  abbrev pub FailsInGroup : List (List ℕ) → R → R → RunFailure → Type 0
  FailsInGroup words reader reader' why = FailsInFiles options.kind files paths remaining options.seeks_locks words reader reader' why
      ⊎ ((why ≡ run_failure.OutOfMemory) × ((read : FilesRead) × ReadsFiles options.kind files paths remaining options.seeks_locks words reader reader' read))

  -- some groups were checked, and the next one stopped
  abbrev pub FailsInGroups : List (List (List ℕ)) → CheckResult → R → R → RunFailure → Type 0
  FailsInGroups [] a reader reader' why = ⊥
  FailsInGroups (words ∷ groups) a reader reader' why = FailsInGroup words reader reader' why
      ⊎ ((c : CheckResult) × (middle : R) × ChecksGroup words a c reader middle × FailsInGroups groups c middle reader' why)

-- ---- what is written

-- 2 where a file was not opened, and otherwise 1 where something was found
abbrev pub check_status : List UnopenedFile → List Finding → ℕ
check_status [] [] = 0
check_status [] (f ∷ rest) = 1
check_status (file ∷ others) found = 2

-- the file, the line and the column of the path that a line names, if one does
abbrev pub position_text : Option Position → List ℕ
position_text None = []
position_text (Some p) = escaped p.file ++ (codes ":" ++ (decimal p.line ++ (codes ":" ++ (decimal p.column ++ codes ": "))))

-- the message of a file that was not opened
abbrev pub unopened_text : UnopenedFile → List ℕ
unopened_text file = codes "pyver: " ++ (position_text file.named.position ++ (escaped file.named.name ++ (codes ": " ++ (failure_reason file.failure ++ codes "\n"))))

-- there are two words, or more
abbrev pub are_several : List (List ℕ) → Bool
are_several (a ∷ (b ∷ rest)) = true
are_several _ = false

-- that files are taken together, where lines of several are reported together and the words could have been taken one by one
abbrev pub together_note : CheckOptions → List (List ℕ) → List Finding → List ℕ
together_note options words found =
    if options.each then [] else if are_several words then (if list_any spans_files found then codes "pyver: files are taken together; --each takes them one by one\n" else []) else []

-- how much was read, and how
abbrev pub summary : CheckOptions → List (List ℕ) → Report → List ℕ
summary options words r = if options.quiet then [] else together_note options words r.findings ++ summary_text r

-- the findings, the files that were not opened, and how much was read
abbrev pub check_outcome : CheckOptions → List (List ℕ) → CheckResult → Outcome
check_outcome options words c = record {
  output = if options.quiet then [] else findings_text options.output c.report;
  errors = flat_map unopened_text c.unopened ++ summary options words c.report;
  status = check_status c.unopened c.report.findings;
}

module _ {R : Type 0} (files : List ℕ → KnownFile) (paths : List ℕ → Option (List ℕ)) (remaining : R → Option (List ℕ)) where
  -- all files were read, and this is to be written
  abbrev pub Checks : CheckOptions → List (List ℕ) → R → R → Outcome → Type 0
  Checks options words reader reader' o = (c : CheckResult) × ChecksGroups options files paths remaining (word_groups options.each words) none_checked c reader reader' × (o ≡ check_outcome options words c)

  -- nothing is to be written: reading stopped, or an allocation failed after it
  abbrev pub FailsInCheck : CheckOptions → List (List ℕ) → R → R → RunFailure → Type 0
  FailsInCheck options words reader reader' why = FailsInGroups options files paths remaining (word_groups options.each words) none_checked reader reader' why
      ⊎ ((why ≡ run_failure.OutOfMemory) × ((c : CheckResult) × ChecksGroups options files paths remaining (word_groups options.each words) none_checked c reader reader'))
