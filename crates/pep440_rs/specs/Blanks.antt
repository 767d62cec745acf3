-- Strings without the blanks at their ends: a blank is a tab, a line feed, a form feed, a carriage return or a space.
use Rattle.std.specs.Prelude.{◌==◌, ℕ, List, [], ◌∷◌, Bool, if◌then◌else◌}
use Rattle.std.specs.Char.{is_ascii_whitespace}
use Rattle.std.specs.List.{list_all}
use Rattle.pep440_version.specs.Grammar.{starts}
use Rattle.pep440_version.specs.Reading.{past}

-- the string begins with this byte
abbrev pub opens : ℕ → List ℕ → Bool
opens b text = starts (λ x. x == b) text

-- the string without the blanks at its end
abbrev pub trimmed_end : List ℕ → List ℕ
trimmed_end [] = []
trimmed_end (b ∷ rest) = if list_all is_ascii_whitespace (b ∷ rest) then [] else b ∷ trimmed_end rest

-- the string without the blanks at its ends
abbrev pub trim_blanks : List ℕ → List ℕ
trim_blanks text = trimmed_end (past is_ascii_whitespace text)
