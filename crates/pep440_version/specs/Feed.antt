-- What a version gives to a hasher: the parts of its key, each number as a write of its own.
use Rattle.std.specs.Prelude.{◌+◌, List, [], ◌∷◌, ◌++◌, length}
use Rattle.std.specs.Hash.{HashWrites, u64}
use Rattle.std.specs.List.{flat_map}
use Rattle.pep440_version.specs.declared.prerelease.PrereleaseKind.{PrereleaseKind}
use Rattle.pep440_version.specs.declared.prerelease.Prerelease.{Prerelease}
use Rattle.pep440_version.specs.Key.{Key, key, Stage, Pre, stage_rank, kind_rank, PostPart, NoPost, PostAt, PostTop, DevPart, DevAt, NoDev}
use Rattle.pep440_version.specs.Record.{Record, LocalSegmentValue, Text, Number}
use Rattle.pep440_version.specs.Key.Trim.{trim}

-- its rank: Min 0, Dev 1, Alpha 2, Beta 3, Rc 4, Final 5; a pre-release is followed by its number
abbrev pub feed_stage : Stage → HashWrites
feed_stage (Pre k n) = u64 (2 + kind_rank k) ++ u64 n
feed_stage s = u64 (stage_rank s).0

-- 0, or 1 and the number, or 2 and the number of the sentinel
abbrev pub feed_post : PostPart → HashWrites
feed_post NoPost = u64 0
feed_post (PostAt p) = u64 1 ++ u64 p
feed_post (PostTop m) = u64 2 ++ u64 m

-- 0 and the number, or 1
abbrev pub feed_dev : DevPart → HashWrites
feed_dev (DevAt d) = u64 0 ++ u64 d
feed_dev NoDev = u64 1

-- a string is its length and its bytes
abbrev pub feed_segment : LocalSegmentValue → HashWrites
feed_segment (Text t) = u64 0 ++ u64 (length t) ++ (t ∷ [])
feed_segment (Number n) = u64 1 ++ u64 n

-- the count of the items, then each of them
abbrev pub feed_items : {A : Type 0} → (A → HashWrites) → List A → HashWrites
feed_items feed_item items = u64 (length items) ++ flat_map feed_item items

-- part after part, the release without the zeros at its end
abbrev pub feed_key : Key → HashWrites
feed_key k = u64 k.epoch ++ feed_items u64 (trim k.release) ++ feed_stage k.stage ++ feed_post k.post ++ feed_dev k.dev ++ feed_items feed_segment k.local

-- a version is fed by its key, so equal versions feed alike
abbrev pub feed : Record → HashWrites
feed r = feed_key (key r)

-- a kind by its rank
abbrev pub feed_kind : PrereleaseKind → HashWrites
feed_kind k = u64 (kind_rank k)

-- a pre-release by its kind, then its number
abbrev pub feed_prerelease : Prerelease → HashWrites
feed_prerelease p = feed_kind p.kind ++ u64 p.number
