-- What a string begins with, as its compiled form is written; and why it has none.
use Rattle.std.specs.Prelude.{◌≡◌, List, ℕ, ◌∷◌, ◌++◌, ◌⊎◌, false}
use Rattle.std.specs.Char.{is_ascii_digit}
use Rattle.std.specs.Str.{IsUtf8}
use Rattle.pep440_compiled.specs.declared.error.CompileStringError.{CompileStringError}
use Rattle.pep440_compiled.specs.declared.error.CompileStringError.TheVariants.{NotAVersion, OutOfMemory}
use Rattle.pep440_keys.specs.SortKeys.{segment_bytes}
use Rattle.pep440_version.specs.Grammar.{IsNumber, IsSegment, starts}
use Rattle.pep440_version.specs.Print.{print_segment}
use Rattle.pep440_version.specs.Record.{LocalSegmentValue, SegmentFits}
use Rattle.pep440_version.specs.Rejections.{Rejection, Rejects}
use Rattle.pep440_version.specs.RoundTrip.{SegmentRoundTrips, is_lower}

-- no release goes on here: neither with a digit nor with a dot and a digit
abbrev pub EndsRelease : List ℕ → Type 0
EndsRelease text = (starts is_ascii_digit text ≡ false) × ((rest : List ℕ) → text ≡ 46 ∷ rest → starts is_ascii_digit rest ≡ false)

-- the leading segment is no number below 2^64
abbrev pub HasNoNumeral : List ℕ → Type 0
HasNoNumeral text = (digits rest : List ℕ) (n : ℕ) → IsNumber digits n → starts is_lower rest ≡ false → text ≡ digits ++ rest → ⊥

-- a segment leads the string, and its bytes follow the old ones
abbrev pub HasSegment : List ℕ → List ℕ → List ℕ → List ℕ → Type 0
HasSegment text rest old new = (segment : List ℕ) × (s : LocalSegmentValue) × IsSegment segment s × (text ≡ segment ++ rest) × (new ≡ old ++ segment_bytes s)

-- the normal form of a segment leads the string, and ends before the rest
pub record IsPrinted (text : List ℕ) (s : LocalSegmentValue) (rest : List ℕ) : Type 0 where
  pub valid : SegmentFits s
  pub round_trips : SegmentRoundTrips s
  pub ended : starts is_lower rest ≡ false
  pub is : text ≡ print_segment s ++ rest

-- the bytes are not UTF-8, or a string that is rejected; out of memory may take the place of both
abbrev pub IsCompileStringError : List ℕ → CompileStringError → Type 0
IsCompileStringError text NotAVersion = (¬ IsUtf8 text) ⊎ (IsUtf8 text × (rejection : Rejection) × Rejects text rejection)
IsCompileStringError text OutOfMemory = Unit {0}
