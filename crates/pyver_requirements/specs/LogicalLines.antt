-- The logical lines of a requirements file (pip, "Requirements File Format").
use Rattle.std.specs.Prelude.{ℕ, zero, suc, ◌+◌, ◌-◌, ◌==◌, ◌&&◌, ◌||◌, List, [], ◌∷◌, ◌++◌, Bool, true, false, drop, length, map, nat_le, not, take, if◌then◌else◌}
use Rattle.std.specs.Char.{is_ascii_whitespace}
use Rattle.std.specs.List.{filter, slice_split, suffix_len}
use Rattle.pep440_rs.specs.Blanks.{opens, trim_blanks}
use Rattle.pep440_version.specs.Grammar.{starts}
use Rattle.pep440_version.specs.Reading.{past}
use Rattle.pep440_version.specs.Rejections.{ends}

-- physical lines that are joined, and the number of the first of them
pub record JoinedLine : Type 0 where
  pub number : ℕ
  pub text : List ℕ

-- a logical line: the number of its first physical line, what stands before its comment, and the comment
pub record Line : Type 0 where
  pub number : ℕ
  pub text : List ℕ
  pub comment : List ℕ

-- ---- physical lines

-- the bytes without a byte order mark at the start
abbrev pub after_mark : List ℕ → List ℕ
after_mark (a ∷ b ∷ c ∷ rest) = if (a == 239) && ((b == 187) && (c == 191)) then rest else a ∷ (b ∷ (c ∷ rest))
after_mark text = text

-- the bytes begin with the mark of UTF-16, in either order of bytes
abbrev pub is_utf16 : List ℕ → Bool
is_utf16 (a ∷ (b ∷ rest)) = ((a == 255) && (b == 254)) || ((a == 254) && (b == 255))
is_utf16 _ = false

-- a line feed, a vertical tab, a form feed, a carriage return, and a separator of files, of groups or of records
abbrev pub is_line_end : ℕ → Bool
is_line_end b = (nat_le 10 b && nat_le b 13) || (nat_le 28 b && nat_le b 30)

-- the last byte of U+2028, the line separator, or of U+2029, the paragraph separator
abbrev pub ends_separator : ℕ → Bool
ends_separator b = (b == 168) || (b == 169)

-- the number of bytes of the line end that the string begins with, or 0: a carriage return and a line feed are one, U+0085 has two
-- bytes, and U+2028 and U+2029 have three
abbrev pub line_end : List ℕ → ℕ
line_end [] = 0
line_end (a ∷ []) = if is_line_end a then 1 else 0
line_end (a ∷ b ∷ rest) = if (a == 13) && (b == 10) then 2 else (if is_line_end a then 1
    else (if (a == 194) && (b == 133) then 2 else (if (a == 226) && ((b == 128) && starts ends_separator rest) then 3 else 0)))

-- the string with a newline for each line end, without so many bytes at its start
abbrev pub with_newlines : ℕ → List ℕ → List ℕ
with_newlines skipped [] = []
with_newlines (suc skipped) (b ∷ rest) = with_newlines skipped rest
with_newlines zero (b ∷ rest) = if line_end (b ∷ rest) == 0 then b ∷ with_newlines 0 rest else 10 ∷ with_newlines (line_end (b ∷ rest) - 1) rest

-- the lines of a string: each ends at a line end or with the string
abbrev pub physical_lines : List ℕ → List (List ℕ)
physical_lines text = slice_split (λ b. b == 10) (with_newlines 0 text)

-- ---- joined lines

-- the first byte that is no blank is `#`
abbrev pub is_comment_line : List ℕ → Bool
is_comment_line line = opens 35 (past is_ascii_whitespace line)

-- the line ends with `\` and is no comment line: the next one is joined with it
abbrev pub continues : List ℕ → Bool
continues line = ends (λ b. b == 92) line && not (is_comment_line line)

-- the string without the backslashes at its ends
abbrev pub trim_backslashes : List ℕ → List ℕ
trim_backslashes text = let rest = past (λ b. b == 92) text in take (length rest - suffix_len (λ b. b == 92) rest) rest

-- what a line adds to its logical line: a comment line nothing, and one that continues what stands between the backslashes at its ends
abbrev pub added : List ℕ → List ℕ
added line = if is_comment_line line then [] else (if ends (λ b. b == 92) line then trim_backslashes line else line)

-- the lines with this text in front of the first, which then has this number; only the text where there are none
abbrev pub prefixed : ℕ → List ℕ → List JoinedLine → List JoinedLine
prefixed number text [] = record { number = number; text = text } ∷ []
prefixed number text (line ∷ later) = record { number = number; text = text ++ line.text } ∷ later

-- the physical lines, counted from this number, with each that continues in front of the next
abbrev pub joined_from : ℕ → List (List ℕ) → List JoinedLine
joined_from number [] = []
joined_from number (line ∷ rest) = if continues line then prefixed number (added line) (joined_from (number + 1) rest)
    else record { number = number; text = added line } ∷ joined_from (number + 1) rest

-- ---- comments

-- how many bytes stand before the comment, which begins with a `#` after a blank, or here if it may
abbrev pub comment_start : Bool → List ℕ → ℕ
comment_start here [] = 0
comment_start here (b ∷ rest) = if here && (b == 35) then 0 else suc (comment_start (is_ascii_whitespace b) rest)

-- the line without its comment, and without blanks at both ends; a comment may begin at the start
abbrev pub content : List ℕ → List ℕ
content text = trim_blanks (take (comment_start true text) text)

-- the comment of a line, or nothing
abbrev pub comment : List ℕ → List ℕ
comment text = drop (comment_start true text) text

-- joined lines as a logical line
abbrev pub split_joined : JoinedLine → Line
split_joined l = record { number = l.number; text = content l.text; comment = comment l.text }

-- the logical lines of these, but for those without content
abbrev pub filled : List JoinedLine → List Line
filled lines = filter (λ (l : Line). not (length l.text == 0)) (map split_joined lines)

-- the logical lines of a string in UTF-8
abbrev pub joined_lines : List ℕ → List Line
joined_lines text = filled (joined_from 1 (physical_lines (after_mark text)))

-- the logical lines of a file; of one in UTF-16 only its mark
abbrev pub logical_lines : List ℕ → List Line
logical_lines text = if is_utf16 text then record { number = 1; text = take 2 text; comment = [] } ∷ [] else joined_lines text
