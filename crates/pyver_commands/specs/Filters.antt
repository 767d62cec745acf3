-- `filter SPECS [FILE..]`: the lines of the sources whose version the list allows, or the others.
use Rattle.std.specs.Prelude.{◌≡◌, ℕ, List, ◌++◌, Bool, false, Option, codes, length, not, take, if◌then◌else◌}
use Rattle.std.specs.List.{AllZip, concat, filter, flat_map}
use Rattle.pep440_rs.specs.LiteralMatching.{list_allows_literally}
use Rattle.pep440_rs.specs.Specifiers.{Spec}
use Rattle.pyver_commands.specs.Sources.InputLines.{filled_lines}
use Rattle.pyver_commands.specs.Sources.InvalidLines.{last_message, lines_status, message_limit}
use Rattle.pyver_commands.specs.Matches.{DenotesList, ListFails, ReadsSpecifiers, SpecifiersReading, list_fault, takes_prereleases}
use Rattle.cli_io.specs.Runs.{Outcome}
use Rattle.pyver_commands.specs.Sources.ReadLines.{Entry, Header, IsRead, LineReading, ReadLine, faults}
use Rattle.pyver_commands.specs.Readings.{Denotes, Fails}
use Rattle.pyver_commands.specs.Sources.{Input, UnopenedSource, unopened_message, unopened_status}
use Rattle.pep440_version.specs.Record.{Record}
use Rattle.pyver_commands.specs.declared.filter.FilterOptions.{FilterOptions}
use Rattle.pyver_commands.specs.declared.filter.FilterRule.{FilterRule}
use Rattle.pyver_commands.specs.declared.filter.Selection.{Selection}
use Rattle.pyver_commands.specs.declared.filter.Selection.TheVariants as wanted

-- a version is printed that the list allows or not; of the newest nothing is printed
abbrev pub is_wanted : Selection → Bool → Bool
is_wanted wanted.Allowed allowed = allowed
is_wanted wanted.Others allowed = not allowed
is_wanted wanted.Newest allowed = false

-- a header is printed that is the first or not
abbrev pub is_wanted_header : Selection → Bool → Bool
is_wanted_header wanted.Allowed first = first
is_wanted_header wanted.Others first = first
is_wanted_header wanted.Newest first = false

-- the version is printed: the list allows it, or, with `-v`, does not
abbrev pub is_shown : FilterRule → Record → Bool
is_shown rule r = is_wanted rule.wanted (list_allows_literally rule.takes rule.list r)

-- the line is printed: it is the header of the first source, or its version is printed
abbrev pub is_printed : FilterRule → Bool → LineReading → Bool
is_printed rule first Header = is_wanted_header rule.wanted first
is_printed rule first (Entry (Denotes r)) = is_shown rule r
is_printed rule first (Entry (Fails reason)) = false

-- the lines that are printed, in the order of the sources
abbrev pub printed_lines : FilterRule → List ReadLine → List ℕ
printed_lines rule found = flat_map (λ (x : ReadLine). x.line.text ++ codes "\n") (filter (λ (x : ReadLine). is_printed rule x.line.origin.is_first x.reading) found)

-- the printed lines, the messages of the first invalid lines, the last message of these, and that of a file that was not opened
abbrev pub filter_outcome : FilterRule → List ReadLine → Option UnopenedSource → Outcome
filter_outcome rule found unopened = record {
  output = printed_lines rule found;
  errors = concat (take (message_limit rule.lines.invalid) (faults found)) ++ (last_message rule.lines.invalid (length (faults found)) ++ unopened_message unopened);
  status = unopened_status unopened (lines_status rule.lines.invalid (length (faults found)));
}

-- the outcome of the lines by a valid list
abbrev pub Filters : FilterRule → Input → Outcome → Type 0
Filters rule input o = (found : List ReadLine) × AllZip (IsRead rule.lines) (filled_lines input.sources) found × (o ≡ filter_outcome rule found input.unopened)

-- with `-v` the lines whose version the list does not allow
abbrev pub wanted_by : Bool → Selection
wanted_by inverted = if inverted then wanted.Others else wanted.Allowed

-- the rule of the options and the list
abbrev pub rule_of : FilterOptions → List Spec → FilterRule
rule_of options list = record { wanted = wanted_by options.inverted; takes = takes_prereleases options.prereleases list; lines = options.lines; list = list }

-- the outcome of the lines by a valid list, or the error of an invalid one
abbrev pub FiltersBy : List ℕ → FilterOptions → List ℕ → SpecifiersReading → Input → Outcome → Type 0
FiltersBy usage options specifiers (DenotesList list) input o = Filters (rule_of options list) input o
FiltersBy usage options specifiers (ListFails message) input o = o ≡ list_fault usage specifiers message

-- the outcome of `filter`: SPECS is parsed, and then the lines
abbrev pub FiltersLines : List ℕ → FilterOptions → List ℕ → Input → Outcome → Type 0
FiltersLines usage options specifiers input o = (x : SpecifiersReading) × ReadsSpecifiers specifiers x × FiltersBy usage options specifiers x input o
