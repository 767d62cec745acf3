-- The findings of a report as a log of SARIF 2.1.0 with one run, whose columns count UTF-16 code units from 1.
use Rattle.std.specs.Prelude.{ℕ, ◌+◌, ◌==◌, ◌||◌, List, [], ◌∷◌, ◌++◌, Bool, codes, count_by, nat_le, nat_lt, take, if◌then◌else◌}
use Rattle.std.specs.Char.{is_ascii_alphanumeric}
use Rattle.std.specs.Fmt.{decimal}
use Rattle.std.specs.List.{flat_map}
use Rattle.cli_io.specs.Escapes.{hex_digits}
use Rattle.pep440_rs.specs.Blanks.{opens}
use Rattle.pyver_findings.specs.FileLines.{Conflicting, FileLine, Finding, NoRequirement}
use Rattle.pyver_findings.specs.Reports.{Report, finding_kind, is_ignored, kind_code, kind_summary, kind_word}
use Rattle.pyver_findings.specs.ReportTexts.{json_string, finding_message}
use Rattle.pyver_findings.specs.declared.finding.FindingKind.{FindingKind}
use Rattle.pyver_findings.specs.declared.finding.FindingKind.TheVariants as kind

-- ---- positions

-- a byte at which a character begins in UTF-8
abbrev pub begins_character : ℕ → Bool
begins_character b = nat_lt b 128 || nat_le 192 b

-- a byte at which a character beyond U+FFFF begins, which is two code units of UTF-16
abbrev pub begins_pair : ℕ → Bool
begins_pair b = nat_le 240 b

-- how many code units of UTF-16 the string has
abbrev pub utf16_length : List ℕ → ℕ
utf16_length text = count_by begins_character text + count_by begins_pair text

-- a byte that a path of a URI has as it is: an unreserved one (RFC 3986, section 2.3), or `/`
abbrev pub is_path_byte : ℕ → Bool
is_path_byte b = is_ascii_alphanumeric b || ((b == 45) || ((b == 46) || ((b == 95) || ((b == 126) || (b == 47)))))

-- the byte, or `%` and its two digits
abbrev pub path_byte : ℕ → List ℕ
path_byte b = if is_path_byte b then b ∷ [] else 37 ∷ hex_digits b

-- the scheme of an absolute path
abbrev pub scheme : List ℕ → List ℕ
scheme path = if opens 47 path then codes "file://" else []

-- the URI of a file: relative to the working folder, or absolute as its path is
abbrev pub file_uri : List ℕ → List ℕ
file_uri path = scheme path ++ flat_map path_byte path

-- the physical location of a line, up to its region's line number
unfoldable pub line_start : FileLine → List ℕ
line_start l =
    codes "{\"physicalLocation\":{\"artifactLocation\":{\"uri\":\""
    ++ (file_uri l.file ++ (codes "\"},\"region\":{\"startLine\":" ++ decimal l.number))

-- the location of the first line
abbrev pub first_location : List FileLine → List ℕ
first_location [] = []
first_location (l ∷ rest) = line_start l ++ codes "}}}"

-- the location of the line with the column
unfoldable pub line_location : FileLine → ℕ → List ℕ
line_location l column =
    line_start l ++ (codes ",\"startColumn\":" ++ (decimal (utf16_length (take column l.text) + 1) ++ codes "}}}"))

-- the location of the line with the column, or of the first line
abbrev pub finding_location : Finding → List ℕ
finding_location (NoRequirement l reason column) = line_location l column
finding_location (Conflicting conflict lines environment) = first_location lines

-- ---- results

-- the suppression of a finding that a comment ignores; of another none
abbrev pub suppression : Bool → List ℕ
suppression ignored = if ignored then codes "{\"kind\":\"inSource\"}" else []

-- a finding: its code, the message, the location and the suppression
unfoldable pub finding_result : Finding → List ℕ
finding_result f =
    codes "{\"ruleId\":\"" ++ (kind_code (finding_kind f) ++ (codes "\",\"level\":\"error\",\"message\":{\"text\":"
    ++ (json_string (finding_message f) ++ (codes "},\"locations\":[" ++ (finding_location f
    ++ (codes "],\"suppressions\":[" ++ (suppression (is_ignored f) ++ codes "]}")))))))

abbrev pub next_result : Finding → List ℕ
next_result f = codes "," ++ finding_result f

-- the findings, with commas between them
abbrev pub finding_results : List Finding → List ℕ
finding_results [] = []
finding_results (f ∷ rest) = finding_result f ++ flat_map next_result rest

-- ---- the log

-- a kind: its code, its word, and what it says of a finding
unfoldable pub rule : FindingKind → List ℕ
rule k =
    codes "{\"id\":\"" ++ (kind_code k ++ (codes "\",\"name\":\"" ++ (kind_word k
    ++ (codes "\",\"shortDescription\":{\"text\":\"" ++ (kind_summary k ++ codes "\"}}")))))

-- all kinds, with commas between them
abbrev pub all_rules : List ℕ
all_rules =
    rule kind.NoRequirement ++ (codes "," ++ (rule kind.NoVersion ++ (codes "," ++ (rule kind.PinOutside ++ (codes "," ++ rule kind.TwoPins)))))

-- the run of the tool, with the findings that comments ignore
abbrev pub log_run : Report → List ℕ
log_run r =
    codes "{\"tool\":{\"driver\":{\"name\":\"pyver\",\"rules\":["
    ++ (all_rules ++ (codes "]}},\"columnKind\":\"utf16CodeUnits\",\"results\":[" ++ (finding_results (r.findings ++ r.ignored) ++ codes "]}")))

-- all kinds and all findings, and a newline
abbrev pub report_log : Report → List ℕ
report_log r =
    codes "{\"version\":\"2.1.0\","
    ++ (codes "\"$schema\":\"https://json.schemastore.org/sarif-2.1.0.json\",\"runs\":[" ++ (log_run r ++ codes "]}\n"))
