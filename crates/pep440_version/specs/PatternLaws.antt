-- Equality of patterns is an equivalence, and equal patterns feed a hasher alike.
use Rattle.std.proofs.Common.{◌≡◌, ◌&&◌, Bool, true, false, ◌++◌, refl, if◌then◌else◌}
use Rattle.std.specs.Cmp.{IsEquivalence, and_equiv, on_equiv, bool_eq_equiv, booleans_Decides}
use Rattle.std.specs.Bool.{beq}
use Rattle.std.specs.Hash.{u64}
use Rattle.std.specs.Ordering.{eq_by_cmp}
use Rattle.pep440_version.specs.Feed.{feed}
use Rattle.pep440_version.specs.Key.{record_cmp}
use Rattle.pep440_version.specs.Key.KeyLaws.{record_equiv}
use Rattle.pep440_version.specs.Patterns.{pattern_eq, feed_pattern}
use Rattle.pep440_version.specs.Record.{Record}
use Rattle.pep440_version.specs.Key.Ties.{feeds_alike}

pub pattern_equiv : IsEquivalence pattern_eq
pattern_equiv = and_equiv (on_equiv (λ (p : Record × Bool). p.0) record_equiv) (on_equiv (λ (p : Record × Bool). p.1) bool_eq_equiv)

-- both parts of a test that holds hold
and_first : (a b : Bool) → (a && b) ≡ true → a ≡ true
and_first true b e = refl
and_first false b e = cc e

and_second : (a b : Bool) → (a && b) ≡ true → b ≡ true
and_second true b e = e
and_second false b e = cc e

pub patterns_feed_alike : (p q : Record × Bool) → pattern_eq p q ≡ true → feed_pattern p ≡ feed_pattern q
patterns_feed_alike p q e =
    let version : feed p.0 ≡ feed q.0 = feeds_alike p.0 q.0 (and_first (eq_by_cmp record_cmp p.0 q.0) (beq p.1 q.1) e) in
    let star : p.1 ≡ q.1 = (booleans_Decides p.1 q.1).0 (and_second (eq_by_cmp record_cmp p.0 q.0) (beq p.1 q.1) e) in
    λ i. version i ++ u64 (if star i then 1 else 0)
