-- The bytes of a compiled version: its sort key, and the one thing that the key leaves out, how many zeros end the release.
use Rattle.std.specs.Prelude.{◌≡◌, ℕ, ◌≤◌, List, ◌∷◌, ◌++◌, Some, drop, length, map, slice_get}
use Rattle.pep440_keys.specs.SortKeys.{key_bytes}
use Rattle.pep440_version.specs.Record.{Record}
use Rattle.pep440_version.specs.RoundTrip.{IsParsed}
use Rattle.pep440_version.specs.Key.Trim.{trim}

-- a byte 1 for each zero that ends the release
abbrev pub zero_bytes : List ℕ → List ℕ
zero_bytes release = map (λ n. 1) (drop (length (trim release)) release)

-- the sort key, and these zeros
abbrev pub version_bytes : Record → List ℕ
version_bytes r = key_bytes r ++ zero_bytes r.release

-- the bytes begin with the format byte 4, which those of older formats do not
abbrev pub HasVersionFormat : List ℕ → Type 0
HasVersionFormat bytes = slice_get bytes 0 ≡ Some 4

-- after the format byte 4
abbrev pub compiled_bytes : Record → List ℕ
compiled_bytes r = 4 ∷ version_bytes r

-- the bytes are those of this version
pub record DenotesVersion (bytes : List ℕ) (r : Record) : Type 0 where
  pub parsed : IsParsed r
  pub same : bytes ≡ compiled_bytes r

-- the records whose compiled form has at most 64 bytes: a string in normal form is compiled to it without an allocation
pub record HasShortForm (r : Record) : Type 0 where
  pub parsed : IsParsed r
  pub bytes : length (compiled_bytes r) ≤ 64
