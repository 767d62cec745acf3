use Rattle.std.proofs.Common.{◌≡◌, ◌∙◌, ◌+◌, false, List, Bor, IfSome, Option, map, subst, sym, take, take_all, ℕ}
use Rattle.pep440_calls.proofs.Placed.{below_more, found_more, kept_more, out_of}
use Rattle.pep440_calls.specs.CallerBytes.{BytesDenote}
use Rattle.pep440_calls.specs.Batches.{IsContainedString}
use Rattle.pep440_pick.specs.Newest.{preference, Greatest, is_above}
use Rattle.pep440_version.specs.Record.{Record}
use Rattle.pep440_calls.proofs.newest_string.find_newest.Goals as goal
use Rattle.pep440_calls.proofs.newest_string.find_newest.Goals.{then-is_above, else-is_above+in-UnpackedFields-1, else-is_above+in-PackedWord-1}

pub loop-position-preserved-then-is_passed : goal.loop-position-preserved-then-is_passed
loop-position-preserved-then-is_passed c = (
  kept_more c.args.takes c.args.list.now c.args.texts.now c.loop-position.position _ c.loop-position.newest c.loop-position-test.true (λ r h. c.is_passed.ensures c.if-is_passed.true r h.0) c.loop-position.invariant.0,
  c.loop-position.invariant.1,
)

pub loop-position-preserved-in_default : goal.loop-position-preserved-in_default
loop-position-preserved-in_default c =
    let out = rw c.in_default.is at c.in_ok-version.ensures in (
      kept_more c.args.takes c.args.list.now c.args.texts.now c.loop-position.position _ c.loop-position.newest c.loop-position-test.true (λ r h. absurd (out_of c.args.takes c.args.list.now _ out r h)) c.loop-position.invariant.0,
      c.loop-position.invariant.1,
    )

pub loop-position-preserved : goal.loop-position-preserved
loop-position-preserved c =
    let has = rw c.in-Some.is at c.in_ok-version.ensures in
    let Kept : Option (ℕ × Record) → Type 0 = λ n. Greatest (IsContainedString c.args.list.now) (preference c.args.takes) (map (λ t. t.now) (take (c.loop-position.position + 1) c.args.texts.now)) n in
    let Both : Option (ℕ × Record) × Bor (List ℕ) → Type 0 = λ q. Kept q.0 × IfSome q.0 (λ p. BytesDenote q.1.now p.1) in
    let kept : is_above (preference c.args.takes) c.loop-position.newest c.in-Some.version ≡ false → Both (c.loop-position.newest, c.loop-position.best) =
    λ below. (
      below_more c.args.takes c.args.list.now c.args.texts.now c.loop-position.position _ c.loop-position.newest c.loop-position-test.true c.in-Some.version has below c.loop-position.invariant.0,
      c.loop-position.invariant.1,
    ) in
    elim c.if-is_above.branch [
      | then-is_above w ↦
          subst Both (λ i. (sym w.newest-is i, sym w.best-is i)) (
            found_more c.args.takes c.args.list.now c.args.texts.now c.loop-position.position _ c.loop-position.newest c.loop-position-test.true c.in-Some.version has (sym c.is_above.ensures ∙ w.if-is_above.true) c.loop-position.invariant.0,
            has.0,
          )
      | else-is_above+in-UnpackedFields-1 w ↦ subst Both (λ i. (sym w.newest-is i, sym w.best-is i)) (kept (sym c.is_above.ensures ∙ w.if-is_above.false))
      | else-is_above+in-PackedWord-1 w ↦ subst Both (λ i. (sym w.newest-is i, sym w.best-is i)) (kept (sym c.is_above.ensures ∙ w.if-is_above.false))
    ]

pub returns : goal.returns
returns c =
    subst (λ (l : List (Bor (List ℕ))). Greatest (IsContainedString c.args.list.now) (preference c.args.takes) (map (λ t. t.now) l) c.loop-position.newest) (take_all c.loop-position.position c.args.texts.now c.loop-position-test.false) c.loop-position.invariant.0
