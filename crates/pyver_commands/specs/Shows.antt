-- `show [--part PART | --json] V..`: versions in normal form, a part of each, or all parts of each as JSON.
use Rattle.std.specs.Prelude.{◌≡◌, ℕ, List, [], ◌++◌, codes}
use Rattle.std.specs.List.{AllZip}
use Rattle.pep440_version.specs.Print.{print}
use Rattle.pep440_version.specs.Record.{Record}
use Rattle.pyver_commands.specs.JsonObjects.{json_object}
use Rattle.cli_io.specs.Runs.{Outcome}
use Rattle.pyver_commands.specs.Outcomes.{fault, in_turn}
use Rattle.pyver_commands.specs.Parts.{part_text}
use Rattle.pyver_commands.specs.Readings.{Denotes, Fails, Reading, Reads}
use Rattle.pyver_commands.specs.declared.show.ShowFormat.{ShowFormat}
use Rattle.pyver_commands.specs.declared.show.ShowFormat.TheVariants as format

-- the version in the asked form: normalized, one part, or JSON
abbrev pub show_text : ShowFormat → Record → List ℕ
show_text format.Normal r = print r
show_text (format.Part part) r = part_text part r
show_text format.Json r = json_object r

-- that form as a line
abbrev pub show_line : ShowFormat → Record → List ℕ
show_line asked r = show_text asked r ++ codes "\n"

-- the outcome of a word: its line and status 0, or its error
abbrev pub show_outcome : ShowFormat → List ℕ → Reading → Outcome
show_outcome asked word (Denotes r) = record { output = show_line asked r; errors = []; status = 0 }
show_outcome asked word (Fails reason) = fault word reason

-- the outcome of one word
abbrev pub ShowsWord : ShowFormat → List ℕ → Outcome → Type 0
ShowsWord asked word o = (x : Reading) × Reads word x × (o ≡ show_outcome asked word x)

-- the outcome of `show`: that of the words, one after another
abbrev pub Shows : ShowFormat → List (List ℕ) → Outcome → Type 0
Shows asked words o = (os : List Outcome) × AllZip (ShowsWord asked) words os × (o ≡ in_turn os)
