-- The lines that are left of an input.
use Rattle.std.specs.Prelude.{ℕ, ◌+◌, List, [], Option, length}
use Rattle.std.specs.Borrow.{Bor}
use Rattle.std.specs.Option.{option_map_or}
use Rattle.cli_io.specs.Newlines.{input_lines}
use Rattle.pep440_tool.specs.Lines.{numbered_from}
use Rattle.pep440_tool.specs.declared.input_lines.Lines.{Lines}

-- those that are not skipped, with their numbers, by what is left of the input and how many lines were read
abbrev pub left_of : ℕ → Option (Bor (List ℕ)) → List (ℕ × List ℕ)
left_of read rest = numbered_from (read + 1) (option_map_or (λ r. input_lines r.now) rest [])

abbrev pub left : Lines → List (ℕ × List ℕ)
left l = left_of l.read l.rest

-- how many bytes and lines are left
abbrev pub bytes_left : Lines → ℕ
bytes_left l = option_map_or (λ r. length r.now + 1) l.rest 0
