-- The strings that denote versions (PEP 440, "Public version identifiers", "Normalization" and Appendix B): a string denotes a
-- record if it can be split into w1 v e n p q d l w2, each the string of its part.
use Rattle.std.specs.Prelude.{◌≡◌, ℕ, ◌<◌, ◌==◌, ◌||◌, ◌⊎◌, Bool, true, List, [], ◌∷◌, ◌++◌, codes, length, ◌^◌, ◌&&◌, false, map, Option, Some, None, nat_lt, if◌then◌else◌}
use Rattle.std.specs.Char.{is_ascii_digit, is_ascii_alphanumeric, to_ascii_lowercase, is_ascii_whitespace}
use Rattle.std.specs.List.{list_all}
use Rattle.std.specs.Str.Parse.{digits_value}
use Rattle.pep440_version.specs.Record.{Fits, Record, LocalSegmentValue, Text, Number}
use Rattle.pep440_version.specs.declared.prerelease.PrereleaseKind.{PrereleaseKind}
use Rattle.pep440_version.specs.declared.prerelease.PrereleaseKind.TheVariants.{Alpha, Beta, Rc}
use Rattle.pep440_version.specs.declared.prerelease.Prerelease.{Prerelease}

-- the first byte passes the test
abbrev pub starts : (ℕ → Bool) → List ℕ → Bool
starts test [] = false
starts test (b ∷ rest) = test b

-- any number of blanks: tab, line feed, form feed, carriage return and space, the bytes 9, 10, 12, 13 and 32 (PEP 440,
-- "Leading and Trailing Whitespace", without the vertical tab)
abbrev pub AreBlanks : List ℕ → Type 0
AreBlanks text = list_all is_ascii_whitespace text ≡ true

-- the letter v, in either case
abbrev pub is_v : ℕ → Bool
is_v b = (b == 118) || (b == 86)

-- the letter v, or nothing (PEP 440, "Preceding v character")
abbrev pub IsLeadingV : List ℕ → Type 0
IsLeadingV text = (text ≡ []) ⊎ (text ≡ codes "v") ⊎ (text ≡ codes "V")

-- one or more digits, with leading zeros or without, whose value is below 2^64 (PEP 440, "Integer Normalization")
abbrev pub IsNumber : List ℕ → ℕ → Type 0
IsNumber digits n = (0 < length digits) × (list_all is_ascii_digit digits ≡ true) × (digits_value 10 digits ≡ n) × Fits n

-- nothing, or a number and `!` (PEP 440, "Version epochs")
abbrev pub IsEpoch : List ℕ → ℕ → Type 0
IsEpoch text epoch = ((text ≡ []) × (epoch ≡ 0)) ⊎ ((digits : List ℕ) × IsNumber digits epoch × (text ≡ digits ++ codes "!"))

-- numbers joined by `.`, at least one (PEP 440, "Final releases")
abbrev pub IsRelease : List ℕ → List ℕ → Type 0
IsRelease text [] = ⊥
IsRelease text (n ∷ []) = IsNumber text n
IsRelease text (n ∷ m ∷ rest) = (digits after : List ℕ) × IsNumber digits n × IsRelease after (m ∷ rest) × (text ≡ digits ++ (codes "." ++ after))

-- `.`, `-` and `_`
abbrev pub is_separator : ℕ → Bool
is_separator b = (b == 46) || (b == 45) || (b == 95)

-- a separator, or nothing
abbrev pub IsSeparator : List ℕ → Type 0
IsSeparator text = (text ≡ []) ⊎ ((b : ℕ) × (is_separator b ≡ true) × (text ≡ b ∷ []))

-- a number, or nothing for 0 (PEP 440, "Implicit pre-release number" and its siblings)
abbrev pub IsCount : List ℕ → ℕ → Type 0
IsCount text n = ((text ≡ []) × (n ≡ 0)) ⊎ IsNumber text n

-- how parts are spelled, in lower case, and what each spelling stands for
abbrev pub Spellings : Type 0 → Type 0
Spellings A = List (List ℕ × A)

-- the spellings of pre-releases (PEP 440, "Pre-release spelling")
abbrev pub pre_spellings : Spellings PrereleaseKind
pre_spellings = (codes "alpha", Alpha) ∷ (codes "a", Alpha) ∷ (codes "beta", Beta) ∷ (codes "b", Beta)
    ∷ (codes "rc", Rc) ∷ (codes "c", Rc) ∷ (codes "preview", Rc) ∷ (codes "pre", Rc) ∷ []

-- the spellings of post-releases (PEP 440, "Post release spelling")
abbrev pub post_spellings : Spellings (Unit {0})
post_spellings = (codes "post", tt) ∷ (codes "rev", tt) ∷ (codes "r", tt) ∷ []

-- the spelling of dev releases (PEP 440, "Development release separators")
abbrev pub dev_spellings : Spellings (Unit {0})
dev_spellings = (codes "dev", tt) ∷ []

-- a word of the table, in any case, and what the word stands for
abbrev pub IsSpelling : {A : Type 0} → Spellings A → List ℕ → A → Type 0
IsSpelling [] word a = ⊥
IsSpelling (s ∷ rest) word a = ((map to_ascii_lowercase word ≡ s.0) × (a ≡ s.1)) ⊎ IsSpelling rest word a

-- a spelled part: separator, spelling, separator, count, of which all but the spelling may be absent; what follows the part is
-- given. A separator directly after the spelling belongs to the part, and so do digits that then follow: so `-RC_2` is `-`,
-- `RC`, `_` and `2`, and stands for Rc and 2; `rc` by itself stands for Rc and 0.
pub record IsSpelled {A : Type 0} (table : Spellings A) (part after : List ℕ) (a : A) (n : ℕ) : Type 0 where
  pub before : List ℕ
  pub word : List ℕ
  pub between : List ℕ
  pub digits : List ℕ
  pub decomposition : part ≡ before ++ (word ++ (between ++ digits))
  pub first : IsSeparator before
  pub spelling : IsSpelling table word a
  pub second : IsSeparator between
  pub count : IsCount digits n
  pub keeps_separator : between ≡ [] → digits ≡ [] → starts is_separator after ≡ false
  pub keeps_digits : starts is_ascii_digit after ≡ false

-- the pre-release part, before what comes after it (PEP 440, "Pre-releases")
abbrev pub IsPre : List ℕ → List ℕ → Option Prerelease → Type 0
IsPre part after None = part ≡ []
IsPre part after (Some p) = IsSpelled pre_spellings part after p.kind p.number

-- the post-release part: `-` and a number, or spelled (PEP 440, "Post-releases", "Implicit post releases")
abbrev pub IsPost : List ℕ → List ℕ → Option ℕ → Type 0
IsPost part after None = part ≡ []
IsPost part after (Some n) = ((digits : List ℕ) × IsNumber digits n × (part ≡ codes "-" ++ digits)) ⊎ IsSpelled post_spellings part after tt n

-- the dev part (PEP 440, "Developmental releases")
abbrev pub IsDev : List ℕ → List ℕ → Option ℕ → Type 0
IsDev part after None = part ≡ []
IsDev part after (Some n) = IsSpelled dev_spellings part after tt n

-- only digits, whose value is below 2^64
abbrev pub is_numeral : List ℕ → Bool
is_numeral text = list_all is_ascii_digit text && nat_lt (digits_value 10 text) (2 ^ 64)

-- the value of a segment: a numeral is a number, every other segment its lower-cased string (PEP 440, "Local version
-- identifiers" and "Case sensitivity")
abbrev pub parse_segment : List ℕ → LocalSegmentValue
parse_segment text = if is_numeral text then Number (digits_value 10 text) else Text (map to_ascii_lowercase text)

-- one or more ASCII letters and digits
abbrev pub IsSegment : List ℕ → LocalSegmentValue → Type 0
IsSegment text s = (0 < length text) × (list_all is_ascii_alphanumeric text ≡ true) × (s ≡ parse_segment text)

-- segments joined by separators (PEP 440, "Local version segments")
abbrev pub AreSegments : List ℕ → List LocalSegmentValue → Type 0
AreSegments text [] = ⊥
AreSegments text (s ∷ []) = IsSegment text s
AreSegments text (s ∷ t ∷ rest) = (first after : List ℕ) × (b : ℕ) × IsSegment first s × (is_separator b ≡ true) × AreSegments after (t ∷ rest) × (text ≡ first ++ (b ∷ after))

-- nothing, or `+` and segments
abbrev pub IsLocal : List ℕ → List LocalSegmentValue → Type 0
IsLocal part [] = part ≡ []
IsLocal part (s ∷ rest) = (text : List ℕ) × AreSegments text (s ∷ rest) × (part ≡ codes "+" ++ text)

-- the string denotes the record: it splits into blanks w1, the letter v, epoch e, release n, pre p, post q, dev d, local l and
-- blanks w2
pub record Derives (text : List ℕ) (r : Record) : Type 0 where
  pub w1 : List ℕ
  pub v : List ℕ
  pub e : List ℕ
  pub n : List ℕ
  pub p : List ℕ
  pub q : List ℕ
  pub d : List ℕ
  pub l : List ℕ
  pub w2 : List ℕ
  pub decomposition : text ≡ w1 ++ (v ++ (e ++ (n ++ (p ++ (q ++ (d ++ (l ++ w2)))))))
  pub blanks : AreBlanks w1
  pub letter : IsLeadingV v
  pub epoch : IsEpoch e r.epoch
  pub release : IsRelease n r.release
  pub pre : IsPre p (q ++ (d ++ (l ++ w2))) r.pre
  pub post : IsPost q (d ++ (l ++ w2)) r.post
  pub dev : IsDev d (l ++ w2) r.dev
  pub local : IsLocal l r.local
  pub end : AreBlanks w2
  pub no_min : r.min ≡ None
  pub no_max : r.max ≡ None
