-- Names of packages and of extras, and when two are the same.
use Rattle.std.specs.Prelude.{ℕ, ◌||◌, ◌&&◌, Bool, List, [], ◌∷◌, bytes_eq, if◌then◌else◌}
use Rattle.std.specs.Char.{is_ascii_alphanumeric, to_ascii_lowercase}
use Rattle.std.specs.List.{list_all}
use Rattle.pep440_version.specs.Grammar.{is_separator, starts}
use Rattle.pep440_version.specs.Rejections.{ends}

-- ASCII letters and digits, `.`, `-` and `_`
abbrev pub is_name_byte : ℕ → Bool
is_name_byte b = is_ascii_alphanumeric b || is_separator b

-- one or more of these, with a letter or digit at both ends
abbrev pub is_name : List ℕ → Bool
is_name text = list_all is_name_byte text && (starts is_ascii_alphanumeric text && ends is_ascii_alphanumeric text)

-- the name in lower case, with each run of `.`, `-` and `_` as one `-`
abbrev pub normal : List ℕ → List ℕ
normal [] = []
normal (b ∷ rest) = if is_separator b then (if starts is_separator rest then normal rest else 45 ∷ normal rest) else to_ascii_lowercase b ∷ normal rest

-- two names are equal but for case and runs of separators
abbrev pub same_name : List ℕ → List ℕ → Bool
same_name one other = bytes_eq (normal one) (normal other)
