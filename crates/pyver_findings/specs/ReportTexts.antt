-- The report as text, for people and as commands to GitHub Actions, and as a JSON array of objects; text as a JSON string, from which the bytes can be had
-- again (RFC 8259); and how much was read.
use Rattle.std.specs.Prelude.{Bool, List, [], None, Option, Some, codes, count_by, false, if◌then◌else◌, length, map, take, true, ℕ, ◌++◌, ◌+◌, ◌-◌, ◌==◌, ◌∷◌, nat_le, nat_lt, ◌&&◌, ◌<◌, ◌||◌, ◌≡◌}
use Rattle.std.specs.Fmt.{decimal}
use Rattle.std.specs.List.{flat_map, All}
use Rattle.pyver_findings.specs.FileLines.{Conflicting, FileLine, Finding, NoRequirement}
use Rattle.pyver_findings.specs.Reports.{Report, finding_kind, kind_code, kind_word}
use Rattle.pyver_requirements.specs.declared.cause.Cause.{Cause}
use Rattle.pyver_findings.specs.declared.finding.Conflict.{Conflict}
use Rattle.pyver_findings.specs.declared.finding.Conflict.TheVariants.{NoVersion, PinOutside, TwoPins}
use Rattle.cli_io.specs.Escapes.{escaped, hex_digits, is_printable}
use Rattle.pyver_findings.specs.declared.finding.FindingKind.{FindingKind}
use Rattle.std.specs.Str.{is_utf8}
use Rattle.pyver_requirements.specs.declared.cause.Cause.TheVariants as cause

-- ---- findings

-- the file and the number of the line
abbrev pub line_position_text : FileLine → List ℕ
line_position_text l = escaped l.file ++ (codes ":" ++ (decimal l.number ++ codes ": "))

-- the same with the column, from 1
abbrev pub column_position_text : FileLine → ℕ → List ℕ
column_position_text l column = escaped l.file ++ (codes ":" ++ (decimal l.number ++ (codes ":" ++ (decimal (column + 1) ++ codes ": "))))

-- the file and line number of the first line
abbrev pub first_position_text : List FileLine → List ℕ
first_position_text [] = []
first_position_text (l ∷ rest) = line_position_text l

-- a line of its own, indented, with a file, a line number and the line
abbrev pub quoted_line : FileLine → List ℕ
quoted_line l = codes "\n    " ++ (line_position_text l ++ escaped l.text)

abbrev pub conflict_text : Conflict → List ℕ
conflict_text NoVersion = codes "no version satisfies:"
conflict_text PinOutside = codes "pinned to a version that another line excludes:"
conflict_text TwoPins = codes "two versions are named:"

-- how many lines more there are, if any
abbrev pub more_text : ℕ → List ℕ
more_text count = if count == 0 then [] else codes "\n    and " ++ (decimal count ++ codes " more")

-- at most 20 lines, and how many more
abbrev pub quoted_lines : List FileLine → List ℕ
quoted_lines lines = flat_map quoted_line (take 20 lines) ++ more_text (length lines - 20)

-- a line of its own, indented, with the environment, if there is one
abbrev pub environment_line : Option (List ℕ) → List ℕ
environment_line None = []
environment_line (Some environment) = codes "\n    where " ++ escaped environment

-- the reason and the line, or why lines cannot be satisfied together, these, and where
abbrev pub finding_message : Finding → List ℕ
finding_message (NoRequirement l reason column) = escaped reason ++ (codes "\n    " ++ escaped l.text)
finding_message (Conflicting conflict lines environment) = conflict_text conflict ++ (quoted_lines lines ++ environment_line environment)

-- the position at which the line is no requirement, or of the first line
abbrev pub finding_position : Finding → List ℕ
finding_position (NoRequirement l reason column) = column_position_text l column
finding_position (Conflicting conflict lines environment) = first_position_text lines

-- a line of its own: a blank for each character that is printed before the column, and a caret
abbrev pub caret_text : List ℕ → ℕ → List ℕ
caret_text text column = codes "\n    " ++ (map (λ _. 32) (escaped (take column text)) ++ codes "^")

-- the caret under the position at which the line is no requirement
abbrev pub finding_caret : Finding → List ℕ
finding_caret (NoRequirement l reason column) = caret_text l.text column
finding_caret (Conflicting conflict lines environment) = []

-- the position, the message, and the caret
abbrev pub finding_text : Finding → List ℕ
finding_text f = finding_position f ++ (finding_message f ++ (finding_caret f ++ codes "\n"))

-- one finding after another
abbrev pub report_text : Report → List ℕ
report_text r = flat_map finding_text r.findings

-- ---- counts

abbrev pub same_cause : Cause → Cause → Bool
same_cause cause.Editable cause.Editable = true
same_cause cause.PipOption cause.PipOption = true
same_cause cause.Variable cause.Variable = true
same_cause cause.Location cause.Location = true
same_cause cause.Url cause.Url = true
same_cause cause.OtherSyntax cause.OtherSyntax = true
same_cause cause.OtherTable cause.OtherTable = true
same_cause cause.Undecided cause.Undecided = true
same_cause _ _ = false

abbrev pub cause_text : Cause → List ℕ
cause_text cause.Editable = codes "pyver: editable requirements left out: "
cause_text cause.PipOption = codes "pyver: options of pip left out: "
cause_text cause.Variable = codes "pyver: lines with a variable left out: "
cause_text cause.Location = codes "pyver: paths, archives and URLs left out: "
cause_text cause.Url = codes "pyver: requirements and files by URL left out: "
cause_text cause.OtherSyntax = codes "pyver: requirements in another syntax left out: "
cause_text cause.OtherTable = codes "pyver: tables of requirements left out: "
cause_text cause.Undecided = codes "pyver: sets of markers not decided: "

-- a line with a number
abbrev pub count_text : List ℕ → ℕ → List ℕ
count_text start count = start ++ (decimal count ++ codes "\n")

-- how many lines were left out for the cause; nothing if there are none
abbrev pub left_out_text : List Cause → Cause → List ℕ
left_out_text causes c = if count_by (same_cause c) causes == 0 then [] else count_text (cause_text c) (count_by (same_cause c) causes)

-- how many lines were left out, by cause
abbrev pub left_out_lines : List Cause → List ℕ
left_out_lines causes = left_out_text causes cause.Editable ++ (left_out_text causes cause.PipOption ++ (left_out_text causes cause.Variable
    ++ (left_out_text causes cause.Location ++ (left_out_text causes cause.Url ++ left_out_text causes cause.OtherSyntax))))

-- how many tables and sets of markers
abbrev pub left_out_others : List Cause → List ℕ
left_out_others causes = left_out_text causes cause.OtherTable ++ left_out_text causes cause.Undecided

-- both
abbrev pub left_out_texts : List Cause → List ℕ
left_out_texts causes = left_out_lines causes ++ left_out_others causes

-- so many of this noun
abbrev pub counted : ℕ → List ℕ → List ℕ
counted count noun = decimal count ++ (codes " " ++ (noun ++ (if count == 1 then [] else codes "s")))

-- how many findings there are, and how many files were read
abbrev pub problems_text : ℕ → ℕ → List ℕ
problems_text found files = codes "pyver: " ++ (counted found (codes "problem") ++ (codes " in " ++ (counted files (codes "file") ++ codes "\n")))

-- how many findings comments ignore; nothing if there are none
abbrev pub ignored_text : ℕ → List ℕ
ignored_text count = if count == 0 then [] else count_text (codes "pyver: findings ignored: ") count

-- how many lines were read, how many were left out, how many findings are ignored, and how many there are else in how many files
abbrev pub summary_text : Report → List ℕ
summary_text r = count_text (codes "pyver: lines read: ") r.lines ++ (left_out_texts r.left_out
    ++ (ignored_text (length r.ignored) ++ problems_text (length r.findings) r.files))

-- a byte of a message: `%`, a carriage return and a newline are escaped
abbrev pub message_byte : ℕ → List ℕ
message_byte b = if b == 37 then codes "%25" else if b == 13 then codes "%0D" else if b == 10 then codes "%0A" else b ∷ []

-- a byte of a property: so are `:` and `,`
abbrev pub property_byte : ℕ → List ℕ
property_byte b = if b == 58 then codes "%3A" else if b == 44 then codes "%2C" else message_byte b

-- the properties `file` and `line`
abbrev pub line_properties : FileLine → List ℕ
line_properties l = codes "file=" ++ (flat_map property_byte l.file ++ (codes ",line=" ++ (decimal l.number ++ codes ",")))

-- those of the first line
abbrev pub first_properties : List FileLine → List ℕ
first_properties [] = []
first_properties (l ∷ rest) = line_properties l

-- the properties of a finding but its title: the position of the line with the column, from 1, or of the first line
abbrev pub finding_properties : Finding → List ℕ
finding_properties (NoRequirement l reason column) = line_properties l ++ (codes "col=" ++ (decimal (column + 1) ++ codes ","))
finding_properties (Conflicting conflict lines environment) = first_properties lines

-- the command of a finding, whose title is its code
abbrev pub finding_command : Finding → List ℕ
finding_command f =
    codes "::error " ++ (finding_properties f ++ (codes "title=" ++ (kind_code (finding_kind f)
    ++ (codes "::" ++ (flat_map message_byte (finding_message f) ++ codes "\n")))))

-- one command after another
abbrev pub report_commands : Report → List ℕ
report_commands r = flat_map finding_command r.findings

-- a byte of a string that is UTF-8 or not: itself, after a backslash if it is a quote or a backslash; `\u00` and its digits if it is a
-- control character; and of a string that is not UTF-8 the surrogate `\udc` and its digits for a byte beyond ASCII
abbrev pub json_byte : Bool → ℕ → List ℕ
json_byte in_utf8 b =
    if (b == 34) || (b == 92) then 92 ∷ (b ∷ [])
    else if is_printable b || (in_utf8 && nat_le 128 b) then b ∷ []
    else if nat_lt b 128 then codes "\\u00" ++ hex_digits b
    else codes "\\udc" ++ hex_digits b

-- the bytes as a JSON string
abbrev pub json_string : List ℕ → List ℕ
json_string text = codes "\"" ++ (flat_map (json_byte (is_utf8 text)) text ++ codes "\"")

-- different bytes are different strings
abbrev pub JsonStringsDiffer : Type 0
JsonStringsDiffer = (a b : List ℕ) → All (λ x. x < 256) a → All (λ x. x < 256) b → json_string a ≡ json_string b → a ≡ b

-- the members `file`, `line` and `text`
abbrev pub line_members : FileLine → List ℕ
line_members l = codes "\"file\":" ++ (json_string l.file ++ (codes ",\"line\":" ++ (decimal l.number ++ (codes ",\"text\":" ++ json_string l.text))))

-- a line as an object
abbrev pub line_object : FileLine → List ℕ
line_object l = codes "{" ++ (line_members l ++ codes "}")

abbrev pub next_line : FileLine → List ℕ
next_line l = codes "," ++ line_object l

-- the lines in brackets, with commas between them
abbrev pub line_array : List FileLine → List ℕ
line_array [] = codes "[]"
line_array (l ∷ rest) = codes "[" ++ (line_object l ++ (flat_map next_line rest ++ codes "]"))

-- the members `reason` and `column`
abbrev pub reason_members : List ℕ → ℕ → List ℕ
reason_members reason column = codes ",\"reason\":" ++ (json_string reason ++ (codes ",\"column\":" ++ decimal column))

-- the member `environment`, if there is one
abbrev pub environment_member : Option (List ℕ) → List ℕ
environment_member None = []
environment_member (Some environment) = codes ",\"environment\":" ++ json_string environment

-- the members of a finding after its kind: the line with the reason and the column, or the lines and the environment
abbrev pub finding_members : Finding → List ℕ
finding_members (NoRequirement l reason column) = line_members l ++ reason_members reason column
finding_members (Conflicting conflict lines environment) = codes "\"lines\":" ++ (line_array lines ++ environment_member environment)

-- the members `kind` and `code`
abbrev pub kind_members : FindingKind → List ℕ
kind_members k = codes "\"kind\":\"" ++ (kind_word k ++ (codes "\",\"code\":\"" ++ (kind_code k ++ codes "\",")))

-- a finding as an object
abbrev pub finding_object : Finding → List ℕ
finding_object f = codes "{" ++ (kind_members (finding_kind f) ++ (finding_members f ++ codes "}"))

abbrev pub next_finding : Finding → List ℕ
next_finding f = codes "," ++ finding_object f

-- the findings in brackets, with commas between them
abbrev pub finding_array : List Finding → List ℕ
finding_array [] = codes "[]"
finding_array (f ∷ rest) = codes "[" ++ (finding_object f ++ (flat_map next_finding rest ++ codes "]"))

-- the findings of a report, and a newline
abbrev pub report_object : Report → List ℕ
report_object r = finding_array r.findings ++ codes "\n"
