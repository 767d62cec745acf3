-- What the crate's own types hold, and what is read of lines and errors on the way, apart from where it lies in memory.
use Rattle.std.specs.Prelude.{Bool, List, None, Option, [], bytes_eq, false, map, option_map, string_bytes, true, ℕ, ◌++◌, ◌≡◌}
use Rattle.std.specs.Borrow.{Bor}
use Rattle.std.specs.Global.{Vec}
use Rattle.std.specs.HashMap.{HashMap, get_by}
use Rattle.std.specs.Option.{option_map_or}
use Rattle.pyver_findings.specs.Demands.{Demand}
use Rattle.pyver_findings.specs.FileLines.{Conflicting, File, FileLine, Finding, NoRequirement}
use Rattle.pyver_findings.specs.NamedFiles.{NamedFile, Position}
use Rattle.pyver_findings.specs.LineMeanings.{Asks, AsksNothing, IsMeaning, IsNone, LeftOut, LineMeaning}
use Rattle.pyver_findings.specs.MarkedConflicts.{Branch, ConflictingSets}
use Rattle.pyver_findings.specs.Reports.{Report, demands_in, invalid_in, left_out_in}
use Rattle.pyver_requirements.specs.declared.cause.Cause.{Cause}
use Rattle.pyver_findings.specs.declared.demand.Demand.{Demand as DemandValue}
use Rattle.pyver_findings.specs.declared.file_line.FileLine.{FileLine as FileLineValue}
use Rattle.pyver_findings.specs.declared.file_line.SourceFile.{SourceFile}
use Rattle.pyver_findings.specs.declared.finding.Finding.{Finding as FindingValue}
use Rattle.pyver_findings.specs.declared.line_meaning.LineMeaning.{LineMeaning as LineMeaningValue}
use Rattle.pyver_findings.specs.declared.marker_sets.Branch.{Branch as BranchValue}
use Rattle.pyver_findings.specs.declared.marker_sets.FoundSets.{FoundSets}
use Rattle.pyver_findings.specs.declared.named_files.NamedFile.{NamedFile as NamedFileValue}
use Rattle.pyver_findings.specs.declared.named_files.Position.{Position as PositionValue}
use Rattle.pyver_findings.specs.declared.report.Report.{Report as ReportValue}
use Rattle.std.specs.List.{AllZip, flat_map}
use Rattle.pep440_pick.specs.Requirements.{requirement_rejection_text, requirement_rejection_of}
use Rattle.pep440_pick.specs.declared.error.RequirementError.{RequirementError}
use Rattle.pep440_rs.specs.ErrorTexts.{specifier_error_text}
use Rattle.pep440_rs.specs.Errors.{parse_kind_of, specifier_rejection_of}
use Rattle.pep440_rs.specs.Lists.ListResults.{list_kind_of}
use Rattle.pep440_rs.specs.declared.list.error.SpecifiersErrorKind.{SpecifiersErrorKind}
use Rattle.pyver_findings.specs.declared.report.Readings.{Readings}
use Rattle.pyver_findings.specs.declared.finding.Finding.TheVariants as finding
use Rattle.pyver_findings.specs.declared.line_meaning.LineMeaning.TheVariants as reading
use Rattle.pep440_pick.specs.declared.error.RequirementError.TheVariants as error
use Rattle.pep440_rs.specs.declared.list.error.SpecifiersErrorKind.TheVariants as list

abbrev pub file_of : SourceFile → File
file_of f = record { name = f.name.items; text = f.text.items }

abbrev pub file_line_of : FileLineValue → FileLine
file_line_of l = record { file = l.file.items; number = l.number; text = l.text.items; comment = l.comment.items }

abbrev pub position_of : PositionValue → Position
position_of p = record { file = p.file.items; line = p.line; column = p.column }

abbrev pub named_file_of : NamedFileValue → NamedFile
named_file_of f = record { name = f.name.items; position = option_map position_of f.position }

-- names, in order
unfoldable pub names_of : List (Vec ℕ) → List (List ℕ)
names_of names = map (λ n. n.items) names

abbrev pub demand_of : DemandValue → Demand
demand_of a = record { line = file_line_of a.line; name = a.name.items; extras = names_of a.extras.items; marker = option_map (λ m. m.items) a.marker; pinned = a.pinned; specifiers = a.specifiers }

-- those that these references point to
abbrev pub demands_at : List (Bor DemandValue) → List Demand
demands_at lines = map (λ x. demand_of x.now) lines

-- those of each of these lists
abbrev pub demands_of_sets : List (Vec (Bor DemandValue)) → List (List Demand)
demands_of_sets sets = map (λ s. demands_at s.items) sets

abbrev pub branch_of : BranchValue → Branch
branch_of b = record { kept = demands_at b.kept.items; free = demands_at b.free.items }

abbrev pub found_sets_of : FoundSets → ConflictingSets
found_sets_of f = record { sets = demands_of_sets f.sets.items; whole = f.whole }

-- those of a group, if there is one
abbrev pub demands_of_group : Option (Vec (Bor DemandValue)) → List Demand
demands_of_group group = demands_at (option_map_or (λ g. g.items) group [])

-- those that the groups have at the key
abbrev pub group_at : {S : Type 0} → HashMap (Bor (List ℕ)) (Vec (Bor DemandValue)) S → List ℕ → List Demand
group_at groups key = demands_of_group (get_by (λ k. bytes_eq key k.now) groups)

abbrev pub finding_of : FindingValue → Finding
finding_of (finding.NoRequirement line reason column) = NoRequirement (file_line_of line) (string_bytes reason) column
finding_of (finding.Conflicting kind lines environment) = Conflicting kind (map file_line_of lines.items) (option_map (λ e. e.items) environment)

-- the second findings are the first, and these behind them
abbrev pub AddsFindings : List FindingValue → List FindingValue → List Finding → Type 0
AddsFindings old new more = map finding_of new ≡ map finding_of old ++ more

-- behind the first findings and causes stand such findings and causes
abbrev pub AddsFound : (List Finding → List Cause → Type 0) → List FindingValue → List FindingValue → List Cause → List Cause → Type 0
AddsFound Finds old new before after = (fs : List Finding) × (cs : List Cause) × Finds fs cs × AddsFindings old new fs × (after ≡ before ++ cs)

abbrev pub line_meaning_of : LineMeaningValue → LineMeaning
line_meaning_of (reading.Asks a) = Asks (demand_of a)
line_meaning_of (reading.IsNone f) = IsNone (finding_of f)
line_meaning_of (reading.LeftOut c) = LeftOut c
line_meaning_of reading.AsksNothing = AsksNothing

abbrev pub report_of : ReportValue → Report
report_of r = record { findings = map finding_of r.findings.items; ignored = map finding_of r.ignored.items; lines = r.lines; files = r.files; left_out = r.left_out.items }

-- the message of the invalid piece of a list, or None if an allocation failed
abbrev pub piece_text_of : SpecifiersErrorKind → Option (List ℕ)
piece_text_of (list.Piece error start stop) = specifier_error_text (specifier_rejection_of (parse_kind_of error))
piece_text_of list.OutOfMemory = None

-- the message of an error, of a list that of its piece, or None if an allocation failed
abbrev pub reason_text_of : RequirementError → Option (List ℕ)
reason_text_of (error.Specifiers e) = piece_text_of (list_kind_of e)
reason_text_of error.OutOfMemory = None
reason_text_of e = option_map requirement_rejection_text (requirement_rejection_of e)

-- a requirement was not read because an allocation failed
abbrev pub is_memory_error : RequirementError → Bool
is_memory_error error.OutOfMemory = true
is_memory_error _ = false

-- the lines were read, and this is kept of what they are
abbrev pub KeepsReadings : List FileLine → Readings → Type 0
KeepsReadings lines kept = (xs : List LineMeaning) × AllZip IsMeaning lines xs × (map finding_of kept.invalid.items ≡ flat_map invalid_in xs)
    × (map demand_of kept.demands.items ≡ flat_map demands_in xs) × (kept.left_out.items ≡ flat_map left_out_in xs)
