-- How numbers and releases are read, from the left: a second view of the grammar, with the reason of an invalid string.
use Rattle.std.specs.Prelude.{◌≡◌, ◌++◌, length, ℕ, zero, suc, ◌^◌, ◌==◌, ◌&&◌, Bool, List, [], ◌∷◌, take, drop, Result, Ok, Err, if◌then◌else◌, nat_lt}
use Rattle.std.specs.Char.{is_ascii_digit}
use Rattle.std.specs.List.{prefix_len}
use Rattle.std.specs.Str.Parse.{digits_value}
use Rattle.pep440_version.specs.Grammar.{is_v, starts}
use Rattle.pep440_version.specs.Rejections.{NumberTooBig, Rejection}

-- what a parser returns, or why the string is rejected
abbrev pub Read : Type 0 → Type 0
Read A = Result A Rejection

-- a reader, and the next one on what it found
infixl 10 ◌>>=◌
abbrev pub ◌>>=◌ : {A B : Type 0} → Result A Rejection → (A → Result B Rejection) → Result B Rejection
(Ok x) >>= f = f x
(Err e) >>= f = Err e

-- the longest prefix of bytes that pass the test, and the rest
abbrev pub lead : (ℕ → Bool) → List ℕ → List ℕ
lead test text = take (prefix_len test text) text

-- what follows the longest prefix that passes the test
abbrev pub past : (ℕ → Bool) → List ℕ → List ℕ
past test text = drop (prefix_len test text) text

-- the string without a leading letter v
abbrev pub skip_v : List ℕ → List ℕ
skip_v text = if starts is_v text then drop 1 text else text

-- the string begins with a digit
abbrev pub starts_with_number : List ℕ → Bool
starts_with_number text = starts is_ascii_digit text

-- the leading number, if there is a digit
unfoldable pub parse_number : List ℕ → Read (ℕ × List ℕ)
parse_number text = if nat_lt (digits_value 10 (lead is_ascii_digit text)) (2 ^ 64)
    then Ok (digits_value 10 (lead is_ascii_digit text), past is_ascii_digit text)
    else Err (NumberTooBig (lead is_ascii_digit text))

-- a dot and a digit
abbrev pub has_next_number : List ℕ → Bool
has_next_number text = starts (λ b. b == 46) text && starts_with_number (drop 1 text)

-- the leading numbers, at most as many as the first argument
unfoldable pub parse_release : ℕ → List ℕ → Read (List ℕ × List ℕ)
parse_release zero text = Ok ([], text)
parse_release (suc more) text = parse_number text >>= λ n.
    if has_next_number n.1 then (parse_release more (drop 1 n.1) >>= λ rest. Ok (n.0 ∷ rest.0, rest.1)) else Ok (n.0 ∷ [], n.1)

-- a string and its end
abbrev pub EndsWith : List ℕ → List ℕ → Type 0
EndsWith text rest = (prefix : List ℕ) × (text ≡ prefix ++ rest)

-- ---- a release in turn, as the code reads it: after its first number

-- the numbers that go on a release
abbrev pub parse_more_numbers : ℕ → List ℕ → Read (List ℕ × List ℕ)
parse_more_numbers k text = if has_next_number text then parse_release k (drop 1 text) else Ok ([], text)

-- a release, after its first number
abbrev pub parse_release_from : ℕ → List ℕ → Read (List ℕ × List ℕ)
parse_release_from first text = parse_more_numbers (length text) text >>= λ x. Ok (first ∷ x.0, x.1)
