-- What a line of a requirements file is to the check: a requirement, none, a line that is left out, or one that asks for no package.
-- The columns at which requirements, lists and markers are invalid.
use Rattle.std.specs.Prelude.{ℕ, ◌+◌, ◌-◌, List, [], ◌∷◌, bytes_eq, codes, drop, length, if◌then◌else◌, ◌≡◌, ◌⊎◌, ◌==◌, ◌&&◌, ◌||◌, Bool, true, false, Option, Some, None, Result, Ok, Err, is_none, nat_eq, not}
use Rattle.std.specs.Char.{is_ascii_whitespace}
use Rattle.std.specs.List.{list_any, list_all, prefix_len, starts_with}
use Rattle.std.specs.Option.{option_map_or}
use Rattle.pep440_rs.specs.Lists.ListGrammar.{PieceRejection, DerivesList, RejectsList}
use Rattle.pep440_pick.specs.RequirementGrammar.{RequirementRejection, Specifiers, DerivesRequirement, Needed, RejectsRequirement}
use Rattle.pep440_pick.specs.RequirementReading.{list_position, rejection_position}
use Rattle.pep440_version.specs.Reading.{lead, past}
use Rattle.pyver_requirements.specs.LineParts.{LineParts, is_blank_byte, pip_parts}
use Rattle.pyver_requirements.specs.MarkerTokens.{is_operator_byte}
use Rattle.pep440_pick.specs.Requirements.{requirement_rejection_text}
use Rattle.pep440_rs.specs.ErrorTexts.{specifier_rejection_text}
use Rattle.pep440_rs.specs.Specifiers.{Spec}
use Rattle.pep440_sets.specs.Common.{common_version}
use Rattle.pyver_requirements.specs.LineKinds.{ConstraintsFile, Editable, Invalid, LineKind, Location, PipOption, Requirement, RequirementsFile, Variable, has_variable, line_kind}
use Rattle.pyver_requirements.specs.MarkerReading.{marker}
use Rattle.pyver_requirements.specs.MarkerSteps.{Misfit, marker_reason}
use Rattle.pyver_requirements.specs.declared.line_fault.LineFault.{LineFault}
use Rattle.pyver_findings.specs.Demands.{Demand, line_demand}
use Rattle.cli_io.specs.Escapes.{is_printable}
use Rattle.pyver_findings.specs.FileLines.{Conflicting, FileLine, Finding, NoRequirement}
use Rattle.pyver_requirements.specs.declared.cause.Cause.{Cause}
use Rattle.pyver_findings.specs.declared.finding.Conflict.TheVariants.{NoVersion}
use Rattle.pyver_requirements.specs.declared.line_fault.LineFault.TheVariants as fault
use Rattle.pyver_requirements.specs.declared.cause.Cause.TheVariants as cause

-- the operators
abbrev pub operators : List (List ℕ)
operators = codes "~=" ∷ (codes "==" ∷ (codes "!=" ∷ (codes "<=" ∷ (codes ">=" ∷ (codes "<" ∷ (codes ">" ∷ (codes "===" ∷ [])))))))

-- what stands after the operator that the string begins with, and after the blanks behind it; the whole string where it is none
abbrev pub behind_operator : List ℕ → List ℕ
behind_operator text = if list_any (bytes_eq (lead is_operator_byte text)) operators then past is_ascii_whitespace (past is_operator_byte text) else text

-- what stands from the position on at which the list is invalid: the invalid specifier behind its operator
abbrev pub rest_in_list : List ℕ → PieceRejection → List ℕ
rest_in_list text f = behind_operator (past is_ascii_whitespace (drop f.start text))

-- the column of that position, in bytes from 0
abbrev pub list_column : List ℕ → PieceRejection → ℕ
list_column text f = length text - length (rest_in_list text f)

-- the column at which the requirement is invalid, in bytes from 0: in its list that of the specifier
abbrev pub column : List ℕ → RequirementRejection → ℕ
column text (Specifiers list f) = list_position text + list_column (drop (list_position text) text) f
column text f = rejection_position text f

-- the column of this position in the marker, in bytes from 0
abbrev pub marker_column : LineParts → ℕ → ℕ
marker_column p position = length p.text - (length (option_map_or (λ m. m) p.marker []) - position)

-- a requirement; a line that is none; a line that is left out, and why; a line that asks for no package, as the name of another file
pub data LineMeaning : Type 0 where
  Asks : Demand → LineMeaning
  IsNone : Finding → LineMeaning
  LeftOut : Cause → LineMeaning
  AsksNothing : LineMeaning

-- ---- another file

-- this part stands somewhere in the string
abbrev pub has_part : List ℕ → List ℕ → Bool
has_part part [] = false
has_part part (b ∷ rest) = starts_with nat_eq (b ∷ rest) part || has_part part rest

-- a URL's `://` stands somewhere in the string
abbrev pub has_scheme : List ℕ → Bool
has_scheme text = has_part (codes "://") text

-- the line that names this file
abbrev pub names_file : List ℕ → LineMeaning
names_file path = if has_variable path then LeftOut cause.Variable else (if has_scheme path then LeftOut cause.Url else AsksNothing)

-- ---- neither a requirement nor an option

abbrev pub fault_reason : LineFault → List ℕ
fault_reason fault.UnknownOption = codes "pip 26.2 has no such option"
fault_reason fault.AmbiguousOption = codes "several options of pip begin so"
fault_reason fault.MissingValue = codes "the option has no value"
fault_reason fault.UnwantedValue = codes "the option takes no value"
fault_reason fault.WrongHash = codes "a hash begins with sha256:, sha384: or sha512:"
fault_reason fault.WrongSetting = codes "a setting has the form KEY=VALUE"
fault_reason fault.UnclosedQuote = codes "a quote or a backslash in the options has no end"
fault_reason fault.ConflictMark = codes "the mark of a merge conflict"
fault_reason fault.Utf16 = codes "the file is UTF-16, which is not read"

-- the line that is neither, for this reason and from this column on
abbrev pub invalid_line : FileLine → LineFault → ℕ → LineMeaning
invalid_line line f column = IsNone (NoRequirement line (fault_reason f) column)

-- ---- a requirement

-- the reason, without what the message of a list repeats
abbrev pub requirement_reason : RequirementRejection → List ℕ
requirement_reason (Specifiers list f) = specifier_rejection_text f.error
requirement_reason f = requirement_rejection_text f

-- a URL has no blank, and no list stands before it
abbrev pub has_right_url : List ℕ → Needed → Bool
has_right_url url n = (length n.specifiers == 0) && not (list_any is_blank_byte url)

-- why one cannot stand there
abbrev pub url_reason : Needed → List ℕ
url_reason n = if length n.specifiers == 0 then codes "';' is expected behind the URL" else codes "version specifiers stand before a URL"

-- what the line is with this URL, which is left out
abbrev pub before_url : FileLine → ℕ → Needed → List ℕ → LineMeaning
before_url line column n url = if has_right_url url n then LeftOut cause.Url else IsNone (NoRequirement line (url_reason n) column)

-- after `@` a URL stands; this is what the line is under this marker, or always
abbrev pub with_url : FileLine → LineParts → Needed → Option (List ℕ) → Option (List ℕ) → LineMeaning
with_url line p n m None = Asks (line_demand line m n)
with_url line p n m (Some []) = IsNone (NoRequirement line (codes "no URL follows '@'") (length p.requirement))
with_url line p n m (Some (b ∷ url)) = before_url line (length p.requirement) n (b ∷ url)

-- what the line is whose marker was read so
abbrev pub under_marker : FileLine → LineParts → Needed → Result (List ℕ) Misfit → LineMeaning
under_marker line p n (Ok m) = with_url line p n (Some m) p.url
under_marker line p n (Err f) = IsNone (NoRequirement line (marker_reason f.fault) (marker_column p f.position))

-- after `;` a marker stands; this is what the line is
abbrev pub with_marker : FileLine → LineParts → Needed → Option (List ℕ) → LineMeaning
with_marker line p n None = with_url line p n None p.url
with_marker line p n (Some text) = under_marker line p n (marker text)

-- what the line is whose part before `@` and `;` is this requirement
abbrev pub requirement_meaning : FileLine → LineParts → Needed → LineMeaning
requirement_meaning line p n = with_marker line p n p.marker

-- what the line is whose part before `@` and `;` is none, for this reason
abbrev pub rejection_meaning : FileLine → LineParts → RequirementRejection → LineMeaning
rejection_meaning line p f = IsNone (NoRequirement line (requirement_reason f) (column p.requirement f))

-- a byte of a requirement: a tab, or printable ASCII (PEP 508, "Grammar")
abbrev pub is_plain_byte : ℕ → Bool
is_plain_byte b = (b == 9) || is_printable b

-- the string has no other byte
abbrev pub IsPlain : List ℕ → Type 0
IsPlain text = list_all is_plain_byte text ≡ true

-- what the line is whose part before `@` and `;` has another byte: none, at the first of them
abbrev pub not_plain : FileLine → LineParts → LineMeaning
not_plain line p = IsNone (NoRequirement line (codes "neither printable ASCII nor a tab") (prefix_len is_plain_byte p.requirement))

-- what a line with these parts is
abbrev pub IsPartsMeaning : FileLine → LineParts → LineMeaning → Type 0
IsPartsMeaning line p x = ((¬ IsPlain p.requirement) × (x ≡ not_plain line p))
    ⊎ (IsPlain p.requirement × (((n : Needed) × DerivesRequirement p.requirement n × (x ≡ requirement_meaning line p n))
    ⊎ ((f : RequirementRejection) × RejectsRequirement p.requirement f × (x ≡ rejection_meaning line p f))))

-- ---- a list

-- what a list of specifiers is, which asks for no package: some version matches it, or none
abbrev pub list_meaning : FileLine → List Spec → LineMeaning
list_meaning line list = if is_none (common_version list) then IsNone (Conflicting NoVersion (line ∷ []) None) else AsksNothing

-- what a string of this line is that is to be a list of specifiers
abbrev pub IsListMeaning : FileLine → List ℕ → LineMeaning → Type 0
IsListMeaning line text x = ((list : List Spec) × DerivesList text list × (x ≡ list_meaning line list))
    ⊎ ((f : PieceRejection) × RejectsList text f × (x ≡ IsNone (NoRequirement line (specifier_rejection_text f.error) (list_column text f))))

-- ---- all lines

-- what a line of this kind is
abbrev pub IsKindMeaning : FileLine → LineKind → LineMeaning → Type 0
IsKindMeaning line (RequirementsFile path) x = x ≡ names_file path
IsKindMeaning line (ConstraintsFile path) x = x ≡ names_file path
IsKindMeaning line (Invalid f column) x = x ≡ invalid_line line f column
IsKindMeaning line Editable x = x ≡ LeftOut cause.Editable
IsKindMeaning line PipOption x = x ≡ LeftOut cause.PipOption
IsKindMeaning line Variable x = x ≡ LeftOut cause.Variable
IsKindMeaning line Location x = x ≡ LeftOut cause.Location
IsKindMeaning line Requirement x = IsPartsMeaning line (pip_parts line.text) x

-- what a line is
abbrev pub IsMeaning : FileLine → LineMeaning → Type 0
IsMeaning line x = IsKindMeaning line (line_kind line.text) x

-- ---- constraints

-- something but blanks stands behind this bracket, before `]`
abbrev pub opens_extras : List ℕ → Bool
opens_extras [] = false
opens_extras (b ∷ inside) = list_any (λ x. not (is_ascii_whitespace x)) (lead (λ x. not (x == 93)) inside)

-- extras stand behind the name
abbrev pub has_extras : List ℕ → Bool
has_extras requirement = opens_extras (past (λ b. not (b == 91)) requirement)

-- what is wrong with a constraint that has this before `@` and `;`: pip takes no extras
abbrev pub extras_faults : FileLine → List ℕ → List Finding
extras_faults l requirement =
    if has_extras requirement then NoRequirement l (codes "constraints cannot have extras") (prefix_len (λ b. not (b == 91)) requirement) ∷ [] else []

-- what is wrong with a line of this kind as a constraint: pip takes no editable either
abbrev pub kind_faults : FileLine → LineKind → List Finding
kind_faults l Editable = NoRequirement l (codes "constraints cannot be editable") 0 ∷ []
kind_faults l Requirement = extras_faults l (pip_parts l.text).requirement
kind_faults l _ = []

-- what is wrong with the line as a constraint
abbrev pub constraint_faults : FileLine → List Finding
constraint_faults l = kind_faults l (line_kind l.text)
