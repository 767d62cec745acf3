-- The lines of sources that are read: those that are not blank, with their sources and numbers.
use Rattle.std.specs.Prelude.{ℕ, ◌==◌, ◌&&◌, List, ◌∷◌, Bool, map, not, if◌then◌else◌}
use Rattle.std.specs.Char.{is_ascii_whitespace}
use Rattle.std.specs.List.{enumerate_from, filter, flat_map, list_all}
use Rattle.std.specs.Str.Lines.{strip_carriage_return}

-- where lines come from: whether no other source comes before it, and the name of a file, or `-` for standard input
pub record Origin : Type 0 where
  pub is_first : Bool
  pub name : List ℕ

-- a line: its source, its number there, and its text
pub record SourceLine : Type 0 where
  pub origin : Origin
  pub number : ℕ
  pub text : List ℕ

-- a source and its lines
pub record Source : Type 0 where
  pub origin : Origin
  pub lines : List (List ℕ)

-- the bytes without a byte order mark at the start
abbrev pub without_mark : List ℕ → List ℕ
without_mark (a ∷ b ∷ c ∷ rest) = if (a == 239) && ((b == 187) && (c == 191)) then rest else a ∷ (b ∷ (c ∷ rest))
without_mark line = line

-- a line with its number, without a carriage return at its end, and the first without a byte order mark
abbrev pub numbered : ℕ × List ℕ → ℕ × List ℕ
numbered line = (line.0, strip_carriage_return (if line.0 == 1 then without_mark line.1 else line.1))

-- a numbered line, as a line of its source
abbrev pub line_in : Origin → ℕ × List ℕ → SourceLine
line_in origin line = record { origin = origin; number = (numbered line).0; text = (numbered line).1 }

-- an empty line, or one of tabs, form feeds, carriage returns and spaces only
abbrev pub is_blank : List ℕ → Bool
is_blank text = list_all is_ascii_whitespace text

-- the lines that are not blank, each with its number, counted from this number
abbrev pub filled_lines_from : Origin → ℕ → List (List ℕ) → List SourceLine
filled_lines_from origin first texts = filter (λ (line : SourceLine). not (is_blank line.text)) (map (line_in origin) (enumerate_from first texts))

-- the lines of a source that are not blank, counted from 1
abbrev pub source_lines : Source → List SourceLine
source_lines source = filled_lines_from source.origin 1 source.lines

-- the lines of sources that are not blank, of one source after the other
abbrev pub filled_lines : List Source → List SourceLine
filled_lines sources = flat_map source_lines sources
