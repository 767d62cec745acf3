-- Sort keys: versions as bytes. Compared byte by byte, a prefix below what it starts (`memcmp`, and then the length), keys have
-- the order of the versions.
use Rattle.std.specs.Prelude.{ℕ, ◌+◌, ◌*◌, ◌<◌, ◌==◌, List, [], ◌∷◌, ◌++◌, length, if◌then◌else◌}
use Rattle.std.specs.Int.{w64, to_be_bytes}
use Rattle.std.specs.List.{All, flat_map}
use Rattle.pep440_version.specs.Key.{key, stage_rank, post_rank, dev_rank}
use Rattle.pep440_version.specs.Record.{Record, IsRecord, LocalSegmentValue, Text, Number}
use Rattle.pep440_version.specs.Key.Trim.{trim}

-- bytes without leading zeros
abbrev pub trim_leading_zeros : List ℕ → List ℕ
trim_leading_zeros [] = []
trim_leading_zeros (b ∷ rest) = if b == 0 then trim_leading_zeros rest else b ∷ rest

-- the bytes that a number below 2^64 needs, the greatest first; none for 0
unfoldable pub needed_bytes : ℕ → List ℕ
needed_bytes n = trim_leading_zeros (to_be_bytes w64 n)

-- a number: one byte, which is a base plus how many bytes follow, and then the bytes that it needs
abbrev pub number_bytes : ℕ → ℕ → List ℕ
number_bytes base n = (base + length (needed_bytes n)) ∷ needed_bytes n

-- a release: its numbers without zeros at its end, each on base 1, then 0
abbrev pub release_bytes : List ℕ → List ℕ
release_bytes numbers = flat_map (number_bytes 1) (trim numbers) ++ 0 ∷ []

-- a stage, post or dev: its number, on a base that is 16 more for each rank
abbrev pub rank_bytes : ℕ × ℕ → List ℕ
rank_bytes p = number_bytes (16 * p.0) p.1

-- a segment: 1, the string and 0; or a number on base 2
abbrev pub segment_bytes : LocalSegmentValue → List ℕ
segment_bytes (Text t) = 1 ∷ t ++ 0 ∷ []
segment_bytes (Number n) = number_bytes 2 n

-- a local part: its segments, then 0
abbrev pub local_bytes : List LocalSegmentValue → List ℕ
local_bytes segments = flat_map segment_bytes segments ++ 0 ∷ []

-- the sort key of a version: the bytes of each part of its key
abbrev pub key_bytes : Record → List ℕ
key_bytes r =
    number_bytes 0 (key r).epoch ++ release_bytes (key r).release ++ rank_bytes (stage_rank (key r).stage)
    ++ rank_bytes (post_rank (key r).post) ++ rank_bytes (dev_rank (key r).dev) ++ local_bytes (key r).local

-- a string without a zero byte, or a number
abbrev pub HasNoZero : LocalSegmentValue → Type 0
HasNoZero (Text t) = All (λ b. 0 < b) t
HasNoZero (Number n) = Unit {0}

-- the records that sort keys distinguish: those of versions, whose local strings have no zero byte
pub record IsKeyed (r : Record) : Type 0 where
  pub valid : IsRecord r
  pub local : All HasNoZero r.local
