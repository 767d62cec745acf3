-- What options set: of two that contradict each other the last counts. And the forms in which findings are printed.
use Rattle.std.specs.Prelude.{ℕ, ◌==◌, List, [], ◌∷◌, true, false, Option, Some, None, bytes_eq, codes, if◌then◌else◌}
use Rattle.std.specs.Option.{option_map}
use Rattle.pyver_tool.specs.SplitWords.{file_kind_of, unknown_kind, Named}
use Rattle.pyver_commands.specs.Sources.InvalidLines.{invalid_lines_of}
use Rattle.pyver_commands.specs.Sources.LineOptions.{no_line_options}
use Rattle.pyver_commands.specs.Readings.{word_number}
use Rattle.pyver_commands.specs.Parts.{part_of}
use Rattle.pyver_tool.specs.declared.settings.OutputForm.TheVariants as output_form
use Rattle.pyver_commands.specs.declared.sources.line_options.LineOptions.{LineOptions}
use Rattle.pyver_commands.specs.declared.prerelease_rule.Prereleases.TheVariants as prereleases
use Rattle.pyver_tool.specs.declared.settings.Settings.{Settings}
use Rattle.pyver_commands.specs.declared.show.ShowFormat.TheVariants as format
use Rattle.pyver_tool.specs.declared.settings.OutputForm.{OutputForm}
use Rattle.pyver_findings.specs.ReportTexts.{report_commands, report_text, report_object}
use Rattle.pyver_findings.specs.Reports.{Report}
use Rattle.pyver_findings.specs.SarifLogs.{report_log}

-- the value of `--output`
abbrev pub output_form_of : List ℕ → Option OutputForm
output_form_of word =
    if bytes_eq word (codes "text") then Some output_form.Text
    else if bytes_eq word (codes "json") then Some output_form.Json
    else if bytes_eq word (codes "github") then Some output_form.Github
    else if bytes_eq word (codes "sarif") then Some output_form.Sarif
    else None

-- the findings in this form
abbrev pub findings_text : OutputForm → Report → List ℕ
findings_text output_form.Text r = report_text r
findings_text output_form.Json r = report_object r
findings_text output_form.Github r = report_commands r
findings_text output_form.Sarif r = report_log r

-- the number without 0
abbrev pub from_one : Option ℕ → Option ℕ
from_one None = None
from_one (Some n) = if n == 0 then None else Some n

-- the number of a field that the word writes: 1 or more
abbrev pub field_number_of : List ℕ → Option ℕ
field_number_of word = from_one (word_number word)

-- the byte between fields: the word has only this one
abbrev pub delimiter_of : List ℕ → Option ℕ
delimiter_of (b ∷ []) = Some b
delimiter_of _ = None

-- what an option of lines sets, if its value is right
abbrev pub with_line_option : LineOptions → List ℕ → List ℕ → Option LineOptions
with_line_option lines name value =
    if bytes_eq name (codes "--field") then option_map (λ n. record lines { field = Some n }) (field_number_of value)
    else if bytes_eq name (codes "--delimiter") then option_map (λ b. record lines { delimiter = b }) (delimiter_of value)
    else if bytes_eq name (codes "--header") then Some (record lines { header = true })
    else if bytes_eq name (codes "--invalid") then option_map (λ i. record lines { invalid = i }) (invalid_lines_of value)
    else None

-- what an option of `check`, of `marker` or of lines sets, if its value is right
unfoldable pub with_check_option : Settings → List ℕ → List ℕ → Option Settings
with_check_option settings name value =
    if bytes_eq name (codes "--each") then Some (record settings { each = true })
    else if bytes_eq name (codes "--format") then option_map (λ kind. record settings { kind = kind }) (file_kind_of value)
    else if bytes_eq name (codes "--output") then option_map (λ form. record settings { output = form }) (output_form_of value)
    else if bytes_eq name (codes "--no-lock") then Some (record settings { seeks_locks = false })
    else if bytes_eq name (codes "--any-system") then Some (record settings { linked = false })
    else option_map (λ lines. record settings { lines = lines }) (with_line_option settings.lines name value)

-- what an option sets, if its value is right
abbrev pub with_option : Settings → List ℕ → List ℕ → Option Settings
with_option settings name value =
    if bytes_eq name (codes "--quiet") then Some (record settings { quiet = true })
    else if bytes_eq name (codes "--pre") then Some (record settings { prereleases = prereleases.Always })
    else if bytes_eq name (codes "--no-pre") then Some (record settings { prereleases = prereleases.Never })
    else if bytes_eq name (codes "--invert-match") then Some (record settings { inverted = true })
    else if bytes_eq name (codes "--reverse") then Some (record settings { reversed = true })
    else if bytes_eq name (codes "--unique") then Some (record settings { unique = true })
    else if bytes_eq name (codes "--last") then option_map (λ n. record settings { last = Some n }) (word_number value)
    else if bytes_eq name (codes "--json") then Some (record settings { format = format.Json; output = output_form.Json })
    else if bytes_eq name (codes "--part") then option_map (λ part. record settings { format = format.Part part }) (part_of value)
    else if bytes_eq name (codes "--to") then option_map (λ n. record settings { to = Some n }) (word_number value)
    else with_check_option settings name value

-- without an option
abbrev pub no_settings : Settings
no_settings = record { quiet = false; prereleases = prereleases.Listed; inverted = false; reversed = false; unique = false; last = None; lines = no_line_options; format = format.Normal; to = None; each = false; kind = unknown_kind; output = output_form.Text; seeks_locks = true; linked = true }

-- what options set, or the first of them with a wrong value
pub data Effect : Type 0 where
  Sets : Settings → Effect
  WrongValue : Named → List ℕ → Effect

-- what the others set after this one, or its wrong value
abbrev pub by_option : Named → List ℕ → Option Settings → (Settings → Effect) → Effect
by_option option value None others = WrongValue option value
by_option option value (Some settings) others = others settings

abbrev pub effect : Settings → List (Named × List ℕ) → Effect
effect settings [] = Sets settings
effect settings (given ∷ rest) = by_option given.0 given.1 (with_option settings given.0.0.name given.1) (λ taken. effect taken rest)
