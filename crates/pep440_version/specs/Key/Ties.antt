-- Records that tie have the same key, but for zeros at the end of the release; so they feed a hasher alike.
use Rattle.std.specs.Hash.{u64}
use Rattle.std.proofs.Common.{◌≡◌, ◌==◌, ℕ, List, ◌++◌, refl, sym, ap, ◌∙◌, true, cond}
use Rattle.std.specs.Ordering.{nat_cmp, ordering_then, eq_by_cmp, is_eq}
use Rattle.std.specs.Prelude.{string_bytes}
use Rattle.std.proofs.lemmas.Bool.{true≢false}
use Rattle.std.specs.Cmp.{Equal-is, first_so, second_so, unsigned_Decides}
use Rattle.std.specs.Cmp.Lexicographic.{slice_cmp, pointwise_decides}
use Rattle.std.specs.FinMap.{nat_cmp-IsAntisymmetric, slice_cmp-IsAntisymmetric}
use Rattle.std.specs.declared.cmp.Ordering.{Ordering}
use Rattle.std.specs.declared.cmp.Ordering.TheVariants.{Less, Equal, Greater}
use Rattle.pep440_version.specs.declared.prerelease.PrereleaseKind.TheVariants.{Alpha, Beta, Rc}
use Rattle.pep440_version.specs.Feed.{feed, feed_items, feed_stage, feed_post, feed_dev, feed_segment, feed_kind, feed_prerelease}
use Rattle.pep440_version.specs.Key.{Key, key, key_cmp, record_cmp, Stage, Min, Dev, Pre, Final, PostPart, NoPost, PostAt, PostTop, DevPart, DevAt, NoDev, stage_cmp, stage_rank, post_cmp, post_rank, dev_cmp, dev_rank, segment_cmp}
use Rattle.pep440_version.specs.Key.KeyLaws.{release_cmp-trim, segment_cmp-ranks, segment_rank, segment_string, segment_number}
use Rattle.pep440_version.specs.Record.{Record, LocalSegmentValue, Text, Number}
use Rattle.pep440_version.specs.Segments.{segment}
use Rattle.pep440_version.specs.Key.Trim.{trim}
use Rattle.pep440_version.specs.contracts.prerelease.PrereleaseKindPartialEq.TheImpl.{eq-value as equal_kinds}
use Rattle.pep440_version.specs.contracts.prerelease.PrereleasePartialEq.TheImpl.{eq-value as equal_prereleases}
use Rattle.pep440_version.specs.contracts.segment.LocalSegmentPartialEq.TheImpl.{eq-value as equal_segments}
use Rattle.pep440_version.specs.declared.segment.LocalSegment.{LocalSegment}
use Rattle.pep440_version.specs.declared.segment.LocalSegment.TheVariants as local_segment
use Rattle.pep440_version.specs.declared.prerelease.PrereleaseKind.{PrereleaseKind}
use Rattle.pep440_version.specs.declared.prerelease.Prerelease.{Prerelease}

-- both parts of a comparison that ties tie
then_equal_first : (r s : Ordering) → ordering_then r s ≡ Equal → r ≡ Equal
then_equal_first Less s e = absurd (true≢false (sym (ap is_eq e)))
then_equal_first Equal s e = refl
then_equal_first Greater s e = absurd (true≢false (sym (ap is_eq e)))

then_equal_second : (r s : Ordering) → ordering_then r s ≡ Equal → s ≡ Equal
then_equal_second Less s e = absurd (true≢false (sym (ap is_eq e)))
then_equal_second Equal s e = e
then_equal_second Greater s e = absurd (true≢false (sym (ap is_eq e)))

stage_from : ℕ → ℕ → Stage
stage_from rank n = cond (rank == 0) Min (cond (rank == 1) Dev (cond (rank == 2) (Pre Alpha n) (cond (rank == 3) (Pre Beta n) (cond (rank == 4) (Pre Rc n) Final))))

stage_back : (s : Stage) → stage_from (stage_rank s).0 (stage_rank s).1 ≡ s
unfolding stage_from
stage_back Min = refl
stage_back Dev = refl
stage_back (Pre Alpha n) = refl
stage_back (Pre Beta n) = refl
stage_back (Pre Rc n) = refl
stage_back Final = refl

post_from : ℕ → ℕ → PostPart
post_from rank n = cond (rank == 0) NoPost (cond (rank == 1) (PostAt n) (PostTop n))

post_back : (s : PostPart) → post_from (post_rank s).0 (post_rank s).1 ≡ s
unfolding post_from
post_back NoPost = refl
post_back (PostAt n) = refl
post_back (PostTop n) = refl

dev_from : ℕ → ℕ → DevPart
dev_from rank n = cond (rank == 0) (DevAt n) NoDev

dev_back : (s : DevPart) → dev_from (dev_rank s).0 (dev_rank s).1 ≡ s
unfolding dev_from
dev_back (DevAt n) = refl
dev_back NoDev = refl

segment_from : ℕ → List ℕ → ℕ → LocalSegmentValue
segment_from rank t n = cond (rank == 0) (Text t) (Number n)

segment_back : (s : LocalSegmentValue) → segment_from (segment_rank s) (segment_string s) (segment_number s) ≡ s
unfolding segment_from
segment_back (Text t) = refl
segment_back (Number n) = refl

same_number : (m n : ℕ) → nat_cmp m n ≡ Equal → m ≡ n
same_number = nat_cmp-IsAntisymmetric

same_text : (s t : List ℕ) → slice_cmp nat_cmp s t ≡ Equal → s ≡ t
same_text = slice_cmp-IsAntisymmetric nat_cmp-IsAntisymmetric

same_stage : (x y : Stage) → stage_cmp x y ≡ Equal → x ≡ y
same_stage x y e =
    let rank = same_number _ _ (then_equal_first _ _ e) in
    let number = same_number _ _ (then_equal_second _ _ e) in
    sym (stage_back x) ∙ (λ i. stage_from (rank i) (number i)) ∙ stage_back y

same_post : (x y : PostPart) → post_cmp x y ≡ Equal → x ≡ y
same_post x y e =
    let rank = same_number _ _ (then_equal_first _ _ e) in
    let number = same_number _ _ (then_equal_second _ _ e) in
    sym (post_back x) ∙ (λ i. post_from (rank i) (number i)) ∙ post_back y

same_dev : (x y : DevPart) → dev_cmp x y ≡ Equal → x ≡ y
same_dev x y e =
    let rank = same_number _ _ (then_equal_first _ _ e) in
    let number = same_number _ _ (then_equal_second _ _ e) in
    sym (dev_back x) ∙ (λ i. dev_from (rank i) (number i)) ∙ dev_back y

same_segment : (x y : LocalSegmentValue) → segment_cmp x y ≡ Equal → x ≡ y
same_segment x y h =
    let e = sym (segment_cmp-ranks x y) ∙ h in
    let rank = same_number _ _ (then_equal_first _ _ e) in
    let rest = then_equal_second _ _ e in
    let text = same_text _ _ (then_equal_first _ _ rest) in
    let number = same_number _ _ (then_equal_second _ _ rest) in
    sym (segment_back x) ∙ (λ i. segment_from (rank i) (text i) (number i)) ∙ segment_back y

-- equal keys, but for zeros at the end of the release
pub record SameKey (x y : Key) : Type 0 where
  pub epoch : x.epoch ≡ y.epoch
  pub release : trim x.release ≡ trim y.release
  pub stage : x.stage ≡ y.stage
  pub post : x.post ≡ y.post
  pub dev : x.dev ≡ y.dev
  pub local : x.local ≡ y.local

pub ties : (x y : Key) → key_cmp x y ≡ Equal → SameKey x y
ties x y e =
    let a = then_equal_second _ _ e in
    let b = then_equal_second _ _ a in
    let c = then_equal_second _ _ b in
    let d = then_equal_second _ _ c in
    record {
      epoch = same_number x.epoch y.epoch (then_equal_first _ _ e);
      release = same_text (trim x.release) (trim y.release) (sym (release_cmp-trim x.release y.release) ∙ then_equal_first _ _ a);
      stage = same_stage x.stage y.stage (then_equal_first _ _ b);
      post = same_post x.post y.post (then_equal_first _ _ c);
      dev = same_dev x.dev y.dev (then_equal_first _ _ d);
      local = slice_cmp-IsAntisymmetric same_segment x.local y.local (then_equal_second _ _ d);
    }

pub feeds_alike : (x y : Record) → eq_by_cmp record_cmp x y ≡ true → feed x ≡ feed y
feeds_alike x y e =
    let t = ties (key x) (key y) ((Equal-is (record_cmp x y)).0 e) in
    λ i. u64 (t.epoch i) ++ feed_items u64 (t.release i) ++ feed_stage (t.stage i) ++ feed_post (t.post i) ++ feed_dev (t.dev i) ++ feed_items feed_segment (t.local i)

-- segments that are equal as they are stored denote the same
same_stored_segment : (x y : LocalSegment) → equal_segments.it x y ≡ true → segment x ≡ segment y
same_stored_segment (local_segment.String s) (local_segment.String t) e = ap Text ((pointwise_decides unsigned_Decides (string_bytes s) (string_bytes t)).0 e)
same_stored_segment (local_segment.String s) (local_segment.Number n) e = cc e
same_stored_segment (local_segment.Number m) (local_segment.String t) e = cc e
same_stored_segment (local_segment.Number m) (local_segment.Number n) e = ap Number ((unsigned_Decides m n).0 e)

pub segments_feed_alike : (x y : LocalSegment) → equal_segments.it x y ≡ true → feed_segment (segment x) ≡ feed_segment (segment y)
segments_feed_alike x y e = ap feed_segment (same_stored_segment x y e)

pub kinds_feed_alike : (x y : PrereleaseKind) → equal_kinds.it x y ≡ true → feed_kind x ≡ feed_kind y
kinds_feed_alike Alpha Alpha e = refl
kinds_feed_alike Alpha Beta e = cc e
kinds_feed_alike Alpha Rc e = cc e
kinds_feed_alike Beta Alpha e = cc e
kinds_feed_alike Beta Beta e = refl
kinds_feed_alike Beta Rc e = cc e
kinds_feed_alike Rc Alpha e = cc e
kinds_feed_alike Rc Beta e = cc e
kinds_feed_alike Rc Rc e = refl

pub prereleases_feed_alike : (x y : Prerelease) → equal_prereleases.it x y ≡ true → feed_prerelease x ≡ feed_prerelease y
prereleases_feed_alike x y e =
    let kind = kinds_feed_alike x.kind y.kind (first_so (equal_kinds.it x.kind y.kind) (x.number == y.number) e) in
    let number = (unsigned_Decides x.number y.number).0 (second_so (equal_kinds.it x.kind y.kind) (x.number == y.number) e) in
    λ i. kind i ++ u64 (number i)
