-- How versions are ordered (PEP 440, "Summary of permitted suffixes and relative ordering"): each record
-- has a key, and keys are compared part by part. Absence is a case of its own.
pub mod Trim
pub mod KeyLaws
pub mod Ties
use Rattle.std.specs.Prelude.{ℕ, ◌+◌, List, [], ◌∷◌, Option, Some, None}
use Rattle.std.specs.Ordering.{nat_cmp, on, ordering_then, then_cmp}
use Rattle.std.specs.declared.cmp.Ordering.{Ordering}
use Rattle.std.specs.declared.cmp.Ordering.TheVariants.{Less, Equal, Greater}
use Rattle.std.specs.Cmp.Lexicographic.{slice_cmp}
use Rattle.pep440_version.specs.declared.prerelease.PrereleaseKind.{PrereleaseKind}
use Rattle.pep440_version.specs.declared.prerelease.PrereleaseKind.TheVariants.{Alpha, Beta, Rc}
use Rattle.pep440_version.specs.declared.prerelease.Prerelease.{Prerelease}
use Rattle.pep440_version.specs.Record.{Record, LocalSegmentValue, Text, Number}

-- the stage of a version within its release; a pre-release has its kind and number
pub data Stage : Type 0 where
  Min : Stage
  Dev : Stage
  Pre : PrereleaseKind → ℕ → Stage
  Final : Stage

-- no post-release, the post-release of a number, or the sentinel above all of them
pub data PostPart : Type 0 where
  NoPost : PostPart
  PostAt : ℕ → PostPart
  PostTop : ℕ → PostPart

-- the dev release of a number, or none, which is above all of them
pub data DevPart : Type 0 where
  DevAt : ℕ → DevPart
  NoDev : DevPart

-- what versions are compared by
pub record Key : Type 0 where
  pub epoch : ℕ
  pub release : List ℕ
  pub stage : Stage
  pub post : PostPart
  pub dev : DevPart
  pub local : List LocalSegmentValue

-- ---- the key of a record

-- the stage, by min, pre, dev, post and max: a min hides pre and dev, and a dev counts here only by itself
abbrev pub stage_of : Option ℕ → Option Prerelease → Option ℕ → Option ℕ → Option ℕ → Stage
stage_of (Some n) pre dev post max = Min
stage_of None (Some p) dev post max = Pre p.kind p.number
stage_of None None (Some d) None None = Dev
stage_of None None dev post max = Final

-- the post part, by max and post
abbrev pub post_of : Option ℕ → Option ℕ → PostPart
post_of (Some m) post = PostTop m
post_of None (Some p) = PostAt p
post_of None None = NoPost

-- the dev part, by min and dev
abbrev pub dev_of : Option ℕ → Option ℕ → DevPart
dev_of (Some n) dev = DevAt n
dev_of None (Some d) = DevAt d
dev_of None None = NoDev

-- the key of a record: stage, post and dev beside epoch, release and local part
abbrev pub key : Record → Key
key r = record {
  epoch = r.epoch;
  release = r.release;
  stage = stage_of r.min r.pre r.dev r.post r.max;
  post = post_of r.max r.post;
  dev = dev_of r.min r.dev;
  local = r.local;
}

-- ---- the order of keys

-- releases as if the shorter were padded with zeros
abbrev pub release_cmp : List ℕ → List ℕ → Ordering
release_cmp [] [] = Equal
release_cmp [] (y ∷ ys) = ordering_then (nat_cmp 0 y) (release_cmp [] ys)
release_cmp (x ∷ xs) [] = ordering_then (nat_cmp x 0) (release_cmp xs [])
release_cmp (x ∷ xs) (y ∷ ys) = ordering_then (nat_cmp x y) (release_cmp xs ys)

-- Alpha < Beta < Rc
abbrev pub kind_rank : PrereleaseKind → ℕ
kind_rank Alpha = 0
kind_rank Beta = 1
kind_rank Rc = 2

-- Min < Dev < Pre Alpha < Pre Beta < Pre Rc < Final; pre-releases of one kind by number
abbrev pub stage_rank : Stage → ℕ × ℕ
stage_rank Min = (0, 0)
stage_rank Dev = (1, 0)
stage_rank (Pre k n) = (2 + kind_rank k, n)
stage_rank Final = (5, 0)

-- NoPost < PostAt < PostTop; two of one case by number
abbrev pub post_rank : PostPart → ℕ × ℕ
post_rank NoPost = (0, 0)
post_rank (PostAt p) = (1, p)
post_rank (PostTop m) = (2, m)

-- DevAt < NoDev; dev releases by number
abbrev pub dev_rank : DevPart → ℕ × ℕ
dev_rank (DevAt d) = (0, d)
dev_rank NoDev = (1, 0)

-- by rank, then by number
abbrev pub rank_cmp : ℕ × ℕ → ℕ × ℕ → Ordering
rank_cmp = then_cmp (on (λ p. p.0) nat_cmp) (on (λ p. p.1) nat_cmp)

-- a string is below every number; strings by their bytes, numbers by their value
abbrev pub segment_cmp : LocalSegmentValue → LocalSegmentValue → Ordering
segment_cmp (Text s) (Text t) = slice_cmp nat_cmp s t
segment_cmp (Text s) (Number n) = Less
segment_cmp (Number m) (Text t) = Greater
segment_cmp (Number m) (Number n) = nat_cmp m n

-- local parts are compared segment by segment, a prefix below a longer one
abbrev pub local_cmp : List LocalSegmentValue → List LocalSegmentValue → Ordering
local_cmp = slice_cmp segment_cmp

-- keys are compared part by part
abbrev pub key_cmp : Key → Key → Ordering
key_cmp = then_cmp (on (λ (k : Key). k.epoch) nat_cmp) (then_cmp (on (λ (k : Key). k.release) release_cmp)
    (then_cmp (on (λ (k : Key). stage_rank k.stage) rank_cmp) (then_cmp (on (λ (k : Key). post_rank k.post) rank_cmp)
    (then_cmp (on (λ (k : Key). dev_rank k.dev) rank_cmp) (on (λ (k : Key). k.local) local_cmp)))))

-- the order of records
abbrev pub record_cmp : Record → Record → Ordering
record_cmp = on key key_cmp

-- stages, posts and devs by their ranks
abbrev pub stage_cmp : Stage → Stage → Ordering
stage_cmp = on stage_rank rank_cmp

abbrev pub post_cmp : PostPart → PostPart → Ordering
post_cmp = on post_rank rank_cmp

abbrev pub dev_cmp : DevPart → DevPart → Ordering
dev_cmp = on dev_rank rank_cmp

-- by epoch, then by release
abbrev pub base_cmp : Record → Record → Ordering
base_cmp r q = ordering_then (nat_cmp r.epoch q.epoch) (release_cmp r.release q.release)

-- by what follows the release, up to the local part
abbrev pub suffix_cmp : Record → Record → Ordering
suffix_cmp r q = ordering_then (stage_cmp (key r).stage (key q).stage) (ordering_then (post_cmp (key r).post (key q).post) (dev_cmp (key r).dev (key q).dev))

-- pre-releases are compared by kind, then by number
abbrev pub prerelease_cmp : Prerelease → Prerelease → Ordering
prerelease_cmp = on (λ (p : Prerelease). (kind_rank p.kind, p.number)) rank_cmp
