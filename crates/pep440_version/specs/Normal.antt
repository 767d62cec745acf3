-- Few release numbers and suffixes in their normal spelling (PEP 440, "Normalization").
use Rattle.std.specs.Prelude.{◌≡◌, ℕ, ◌≤◌, ◌<◌, ◌⊎◌, ◌==◌, ◌++◌, List, [], codes, length, slice_index, take, false, Option, Some, None, if◌then◌else◌}
use Rattle.std.specs.Char.{is_ascii_digit}
use Rattle.pep440_version.specs.declared.prerelease.PrereleaseKind.{PrereleaseKind}
use Rattle.pep440_version.specs.declared.prerelease.PrereleaseKind.TheVariants.{Alpha, Beta, Rc}
use Rattle.pep440_version.specs.Grammar.{IsNumber, IsRelease, starts}
use Rattle.pep440_version.specs.Reading.{skip_v}

-- the first numbers of four, with zeros after them
pub record IsPadded (count : ℕ) (numbers : List ℕ) : Type 0 where
  pub some : 0 < count
  pub few : count ≤ 4
  pub four : length numbers ≡ 4
  pub zeros : (k : ℕ) → count ≤ k → slice_index numbers k ≡ 0

-- the string begins with a release of the first numbers of four, after the letter v or not, and goes on with the rest
abbrev pub HasRelease : List ℕ → List ℕ → ℕ → List ℕ → Type 0
HasRelease text numbers count rest = IsPadded count numbers × ((release : List ℕ) × IsRelease release (take count numbers) × (skip_v text ≡ release ++ rest))

-- the classes of a suffix that a string can have: dev, alpha, beta, rc and post
abbrev pub IsClass : ℕ → Type 0
IsClass class = (class ≡ 1) ⊎ (class ≡ 2) ⊎ (class ≡ 3) ⊎ (class ≡ 4) ⊎ (class ≡ 6)

-- the normal spelling of a class, with the dot before it
abbrev pub spelling : ℕ → List ℕ
spelling class = if class == 1 then codes ".dev" else (if class == 2 then codes "a" else (if class == 3 then codes "b" else (if class == 4 then codes "rc" else codes ".post")))

-- the string is a suffix of this class and number, or is empty, which is class 5
abbrev pub IsSuffix : List ℕ → ℕ → ℕ → Type 0
IsSuffix text class n = ((text ≡ []) × (class ≡ 5) × (n ≡ 0)) ⊎ (IsClass class × ((digits : List ℕ) × IsNumber digits n × (text ≡ spelling class ++ digits)))

-- the class and the number of a suffix, or of none, which is class 5
abbrev pub IsKnown : ℕ → ℕ → Type 0
IsKnown class n = ((class ≡ 5) × (n ≡ 0)) ⊎ IsClass class

-- the classes of pre-releases
abbrev pub IsClassOfKind : ℕ → PrereleaseKind → Type 0
IsClassOfKind class kind = ((class ≡ 2) × (kind ≡ Alpha)) ⊎ ((class ≡ 3) × (kind ≡ Beta)) ⊎ ((class ≡ 4) × (kind ≡ Rc))

-- the string begins with a suffix of this class and number, whose digits end there, or with none, and then rest
abbrev pub HasSuffix : ℕ → List ℕ → Option ℕ → List ℕ → Type 0
HasSuffix class text None rest = text ≡ rest
HasSuffix class text (Some n) rest = (digits : List ℕ) × IsNumber digits n × (starts is_ascii_digit rest ≡ false) × (text ≡ spelling class ++ (digits ++ rest))
