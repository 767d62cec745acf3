-- The parts of a string that is a requirement (PEP 508, "Grammar"), and of a line of a requirements file: such a string, and options behind it
-- (pip, "Requirements File Format").
use Rattle.std.specs.Prelude.{ℕ, ◌==◌, ◌&&◌, ◌||◌, List, [], ◌∷◌, Bool, Option, Some, None, not, if◌then◌else◌}
use Rattle.pep440_rs.specs.Blanks.{opens}
use Rattle.pep440_version.specs.Reading.{lead, past}

-- a space or a tab
abbrev pub is_blank_byte : ℕ → Bool
is_blank_byte b = (b == 32) || (b == 9)

-- the string without the blanks at its start
abbrev pub skip_blanks : List ℕ → List ℕ
skip_blanks text = past is_blank_byte text

-- what stands before the first such byte
abbrev pub before_byte : ℕ → List ℕ → List ℕ
before_byte b text = lead (λ x. not (x == b)) text

-- the string without its first byte, if it has one
abbrev pub rest_of : List ℕ → Option (List ℕ)
rest_of [] = None
rest_of (b ∷ rest) = Some rest

-- what stands after the first such byte, if there is one
abbrev pub behind_byte : ℕ → List ℕ → Option (List ℕ)
behind_byte b text = rest_of (past (λ x. not (x == b)) text)

-- the string that was split; its name with the extras and the list of specifiers; what stands after `@`, up to the marker; the marker
pub record LineParts : Type 0 where
  pub text : List ℕ
  pub requirement : List ℕ
  pub url : Option (List ℕ)
  pub marker : Option (List ℕ)

-- ---- strings

-- neither `@` nor `;`, which end the list
abbrev pub is_list_byte : ℕ → Bool
is_list_byte b = not ((b == 64) || (b == 59))

-- no blank, which ends a URL
abbrev pub is_url_byte : ℕ → Bool
is_url_byte b = not (is_blank_byte b)

-- what follows the URL that the string begins with, without blanks
abbrev pub behind_url : List ℕ → List ℕ
behind_url text = skip_blanks (past is_url_byte text)

-- the parts of a string that has this before `@`, and this after it and blanks; of which this follows the URL
abbrev pub parts_behind : List ℕ → List ℕ → List ℕ → List ℕ → LineParts
parts_behind text requirement rest [] = record { text = text; requirement = requirement; url = Some (lead is_url_byte rest); marker = None }
parts_behind text requirement rest (b ∷ marker) =
    if b == 59 then record { text = text; requirement = requirement; url = Some (lead is_url_byte rest); marker = Some marker }
    else record { text = text; requirement = requirement; url = Some rest; marker = None }

-- the same: `;` ends a URL only behind a blank, and another byte there is a part of it, which is then none
abbrev pub url_parts : List ℕ → List ℕ → List ℕ → LineParts
url_parts text requirement rest = parts_behind text requirement rest (behind_url rest)

-- the parts of a string whose list ends before this rest
abbrev pub parts_before : List ℕ → List ℕ → List ℕ → LineParts
parts_before text requirement [] = record { text = text; requirement = requirement; url = None; marker = None }
parts_before text requirement (b ∷ rest) =
    if b == 64 then url_parts text requirement (skip_blanks rest) else record { text = text; requirement = requirement; url = None; marker = Some rest }

-- the parts of a string
abbrev pub line_parts : List ℕ → LineParts
line_parts text = parts_before text (lead is_list_byte text) (past is_list_byte text)

-- ---- lines of requirements files

-- what stands before the options of a line, of which the first begins with `-` behind a space
abbrev pub before_options : List ℕ → List ℕ
before_options [] = []
before_options (b ∷ rest) = if (b == 32) && opens 45 rest then [] else b ∷ before_options rest

-- the parts of a string whose marker stands behind its first `;`
abbrev pub semicolon_parts : List ℕ → LineParts
semicolon_parts text = record {
  text = text;
  requirement = (line_parts (before_byte 59 text)).requirement;
  url = (line_parts (before_byte 59 text)).url;
  marker = behind_byte 59 text;
}

-- the parts of a line, without its options: pip splits it at the first `;`, also behind a URL without a blank
abbrev pub pip_parts : List ℕ → LineParts
pip_parts text = semicolon_parts (before_options text)
