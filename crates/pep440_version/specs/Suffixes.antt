-- How the parts after the release are read, from the left.
use Rattle.std.specs.Prelude.{ℕ, ◌==◌, ◌&&◌, Bool, true, false, List, [], ◌∷◌, length, drop, Ok, Option, Some, None, if◌then◌else◌}
use Rattle.std.specs.Char.{to_ascii_lowercase}
use Rattle.pep440_version.specs.declared.prerelease.PrereleaseKind.{PrereleaseKind}
use Rattle.pep440_version.specs.declared.prerelease.Prerelease.{Prerelease}
use Rattle.pep440_version.specs.Grammar.{Spellings, is_separator, pre_spellings, post_spellings, dev_spellings, starts}
use Rattle.pep440_version.specs.Reading.{Read, ◌>>=◌, starts_with_number, parse_number}

-- the string begins with the word, but for case
abbrev pub starts_with_word : List ℕ → List ℕ → Bool
starts_with_word [] text = true
starts_with_word (c ∷ cs) [] = false
starts_with_word (c ∷ cs) (b ∷ text) = (to_ascii_lowercase b == c) && starts_with_word cs text

-- the first word of the table that the string begins with, and its length
abbrev pub spelled : {A : Type 0} → Spellings A → List ℕ → Option (A × ℕ)
spelled [] text = None
spelled (s ∷ rest) text = if starts_with_word s.0 text then Some (s.1, length s.0) else spelled rest text

-- the string without a leading separator
abbrev pub skip_separator : List ℕ → List ℕ
skip_separator text = if starts is_separator text then drop 1 text else text

-- a number, or 0 if there is no digit
abbrev pub parse_count : List ℕ → Read (ℕ × List ℕ)
parse_count text = if starts_with_number text then parse_number text else Ok (0, text)

-- what follows a spelling
abbrev pub after_spelling : {A : Type 0} → List ℕ → List ℕ → Option (A × ℕ) → Read (Option (A × ℕ) × List ℕ)
after_spelling text word None = Ok (None, text)
after_spelling text word (Some x) = parse_count (skip_separator (drop x.1 word)) >>= λ n. Ok (Some (x.0, n.0), n.1)

-- a spelled part, or nothing
abbrev pub parse_suffix : {A : Type 0} → Spellings A → List ℕ → Read (Option (A × ℕ) × List ℕ)
parse_suffix table text = after_spelling text (skip_separator text) (spelled table (skip_separator text))

-- the number of a part that is there
abbrev pub suffix_number : {A : Type 0} → Option (A × ℕ) → Option ℕ
suffix_number None = None
suffix_number (Some x) = Some x.1

-- the pre-release of a part that is there
abbrev pub suffix_prerelease : Option (PrereleaseKind × ℕ) → Option Prerelease
suffix_prerelease None = None
suffix_prerelease (Some x) = Some (record { kind = x.0; number = x.1 })

-- a pre-release, or nothing
abbrev pub parse_pre : List ℕ → Read (Option Prerelease × List ℕ)
parse_pre text = parse_suffix pre_spellings text >>= λ x. Ok (suffix_prerelease x.0, x.1)

-- `-` and a digit
abbrev pub is_implicit_post : List ℕ → Bool
is_implicit_post text = starts (λ b. b == 45) text && starts_with_number (drop 1 text)

-- a post-release that is spelled
abbrev pub parse_spelled_post : List ℕ → Read (Option ℕ × List ℕ)
parse_spelled_post text = parse_suffix post_spellings text >>= λ x. Ok (suffix_number x.0, x.1)

-- a post-release, or nothing
abbrev pub parse_post : List ℕ → Read (Option ℕ × List ℕ)
parse_post text = if is_implicit_post text then (parse_number (drop 1 text) >>= λ n. Ok (Some n.0, n.1))
    else parse_spelled_post text

-- a developmental release, or nothing
abbrev pub parse_dev : List ℕ → Read (Option ℕ × List ℕ)
parse_dev text = parse_suffix dev_spellings text >>= λ x. Ok (suffix_number x.0, x.1)
