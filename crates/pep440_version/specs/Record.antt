-- What a version denotes (PEP 440, "Public version identifiers" and "Local version identifiers"), apart
-- from how it is stored. min and max are sentinels of the crate, to which no string parses.
use Rattle.std.specs.Prelude.{ℕ, ◌<◌, ◌^◌, List, [], ◌∷◌, length, Option, Some, None, IfSome}
use Rattle.std.specs.List.{All}
use Rattle.pep440_version.specs.declared.prerelease.Prerelease.{Prerelease}
use Rattle.pep440_version.specs.declared.prerelease.PrereleaseKind.TheVariants.{Alpha}

-- a segment of a local version: a string, by its bytes, or a number
pub data LocalSegmentValue : Type 0 where
  Text : List ℕ → LocalSegmentValue
  Number : ℕ → LocalSegmentValue

-- the parts of a version, each absent or present; numbers are natural numbers
pub record Record : Type 0 where
  pub epoch : ℕ
  pub release : List ℕ
  pub pre : Option Prerelease
  pub post : Option ℕ
  pub dev : Option ℕ
  pub local : List LocalSegmentValue
  pub min : Option ℕ
  pub max : Option ℕ

-- a number below 2^64
abbrev pub Fits : ℕ → Type 0
Fits n = n < 2 ^ 64

-- a number that fits, or any string
abbrev pub SegmentFits : LocalSegmentValue → Type 0
SegmentFits (Text t) = Unit {0}
SegmentFits (Number n) = Fits n

-- the records of versions: each number fits, and the release is not empty
pub record IsRecord (r : Record) : Type 0 where
  pub epoch : Fits r.epoch
  pub some : 0 < length r.release
  pub release : All Fits r.release
  pub pre : IfSome r.pre (λ p. Fits p.number)
  pub post : IfSome r.post Fits
  pub dev : IfSome r.dev Fits
  pub local : All SegmentFits r.local
  pub min : IfSome r.min Fits
  pub max : IfSome r.max Fits

-- the record of a release and no other part
abbrev pub from_release : List ℕ → Record
from_release numbers = record { epoch = 0; release = numbers; pre = None; post = None; dev = None; local = []; min = None; max = None }

-- the record of an epoch and a release and no other part
abbrev pub epoch_and_release : ℕ → List ℕ → Record
epoch_and_release epoch release = record (from_release release) { epoch = epoch }

-- a record of its parts, without sentinels
abbrev pub from_parts : ℕ → List ℕ → Option Prerelease → Option ℕ → Option ℕ → List LocalSegmentValue → Record
from_parts epoch release pre post dev local = record { epoch = epoch; release = release; pre = pre; post = post; dev = dev; local = local; min = None; max = None }

-- the record of `0a0.dev0`
abbrev pub zero_alpha_dev : Record
zero_alpha_dev = record (from_release (0 ∷ [])) { pre = Some (record { kind = Alpha; number = 0 }); dev = Some 0 }
