-- Why a version string is rejected, by its prefixes. Exactly one line holds of a string that the grammar does
-- not derive, and none of one that it derives.
use Rattle.std.specs.Prelude.{◌≡◌, ℕ, ◌<◌, ◌≤◌, ◌^◌, ◌==◌, ◌⊎◌, Bool, true, false, List, [], ◌∷◌, ◌++◌, codes, length}
use Rattle.std.specs.Char.{is_ascii_digit, is_ascii_alphanumeric, is_ascii_whitespace}
use Rattle.std.specs.List.{list_all, list_any}
use Rattle.std.specs.Str.Parse.{digits_value}
use Rattle.pep440_version.specs.Grammar.{AreBlanks, IsLeadingV, IsNumber, IsEpoch, IsRelease, Derives, is_separator, starts, is_v}
use Rattle.pep440_version.specs.Record.{Record}

-- why a version string is rejected
pub data Rejection : Type 0 where
  Wildcard : Rejection
  NumberTooBig : (digits : List ℕ) → Rejection
  NoLeadingNumber : Rejection
  NoLeadingReleaseNumber : Rejection
  LocalEmpty : (precursor : ℕ) → Rejection
  UnexpectedEnd : (version remaining : List ℕ) → Rejection

-- why a pattern string is rejected
pub data PatternRejection : Type 0 where
  OfVersion : Rejection → PatternRejection
  WildcardNotTrailing : PatternRejection

-- the last byte passes the test
abbrev pub ends : (ℕ → Bool) → List ℕ → Bool
ends test [] = false
ends test (b ∷ []) = test b
ends test (b ∷ c ∷ rest) = ends test (c ∷ rest)

-- blanks and the letter v, each as long as possible, and then the rest
abbrev pub Opens : List ℕ → List ℕ → Type 0
Opens text rest = (w1 v : List ℕ) × (text ≡ w1 ++ (v ++ rest)) × AreBlanks w1 × IsLeadingV v × (starts is_ascii_whitespace (v ++ rest) ≡ false) × (v ≡ [] → starts is_v rest ≡ false)

-- digits with a value of 2^64 or more, with no digit before or after them
abbrev pub IsBigRun : List ℕ → List ℕ → List ℕ → Type 0
IsBigRun prefix digits rest = (list_all is_ascii_digit digits ≡ true) × (2 ^ 64 ≤ digits_value 10 digits)
    × (ends is_ascii_digit prefix ≡ false) × (starts is_ascii_digit rest ≡ false)

-- epoch, release and a star, and then the rest
abbrev pub HasStar : List ℕ → List ℕ → Type 0
HasStar text rest = (e n release : List ℕ) × (epoch : ℕ) × Opens text (e ++ (n ++ (codes ".*" ++ rest))) × IsEpoch e epoch × IsRelease n release

-- the string is split after the longest prefix that the grammar derives
pub record IsLongest (text prefix rest : List ℕ) : Type 0 where
  pub decomposition : text ≡ prefix ++ rest
  pub means : Record
  pub derived : Derives prefix means
  pub longest : (other after : List ℕ) (q : Record) → text ≡ other ++ after → Derives other q → length other ≤ length prefix

-- a byte after which a segment must stand: `+`, or a separator in a local part
abbrev pub IsPrecursor : Record → ℕ → Type 0
IsPrecursor r c = ((c ≡ 43) × (length r.local ≡ 0)) ⊎ ((is_separator c ≡ true) × (0 < length r.local))

-- the reasons of every kind but the last
abbrev pub RejectsEarlier : List ℕ → Rejection → Type 0
RejectsEarlier text Wildcard = (rest : List ℕ) × HasStar text rest
RejectsEarlier text (NumberTooBig digits) = (prefix rest : List ℕ) × (r : Record) × (text ≡ prefix ++ (digits ++ rest)) × IsBigRun prefix digits rest
    × (list_any (λ b. b == 43) prefix ≡ false) × Derives (prefix ++ codes "0") r
RejectsEarlier text NoLeadingNumber = (rest : List ℕ) × Opens text rest × (starts is_ascii_digit rest ≡ false)
RejectsEarlier text NoLeadingReleaseNumber = (digits rest : List ℕ) × (n : ℕ) × Opens text (digits ++ (codes "!" ++ rest)) × IsNumber digits n × (starts is_ascii_digit rest ≡ false)
RejectsEarlier text (LocalEmpty c) = (prefix rest : List ℕ) × (r : Record) × (h : Derives prefix r) × (h.w2 ≡ []) × (text ≡ prefix ++ (c ∷ rest))
    × IsPrecursor r c × (starts is_ascii_alphanumeric rest ≡ false)
RejectsEarlier text (UnexpectedEnd version remaining) = ⊥

-- the reason of an invalid string; it is of the last kind if no other holds
abbrev pub Rejects : List ℕ → Rejection → Type 0
Rejects text (UnexpectedEnd version remaining) = (0 < length remaining) × IsLongest text version remaining × ((f : Rejection) → RejectsEarlier text f → ⊥)
Rejects text f = RejectsEarlier text f

-- the reason of a string that is no pattern: a star at its end is no reason
abbrev pub RejectsPattern : List ℕ → PatternRejection → Type 0
RejectsPattern text WildcardNotTrailing = (rest : List ℕ) × (0 < length rest) × HasStar text rest
RejectsPattern text (OfVersion Wildcard) = ⊥
RejectsPattern text (OfVersion f) = Rejects text f
