use Rattle.std.proofs.Common.{◌≡◌, ◌<◌, ◌+◌, ◌-◌, ◌∙◌, ℕ, List, arith, ap, false, get_or, inl, inr, length, sym}
use Rattle.std.proofs.lemmas.Bool.{cases_lt}
use Rattle.std.proofs.lemmas.List.{get_or_default}
use Rattle.std.specs.Ordering.{is_lt}
use Rattle.pep440_rs.specs.Arrangement.{version_cmp}
use Rattle.pep440_rs.specs.Specifiers.{Spec}
use Rattle.pep440_rs.proofs.list.is_arranged.Goals as goal

-- two neighbours, at any default
neighbours : (members : List Spec) (i k : ℕ) (x y d : Spec) → k + 1 ≡ i → i < length members → x ≡ get_or members i x → y ≡ get_or members (i - 1) y
    → is_lt (version_cmp x y) ≡ false → is_lt (version_cmp (get_or members (k + 1) d) (get_or members k d)) ≡ false
neighbours members i k x y d e inside hx hy h =
    let before : i - 1 ≡ k = omega (arith, e) in
    let first : x ≡ get_or members (k + 1) d = hx ∙ get_or_default members i x d inside ∙ ap (λ j. get_or members j d) (sym e) in
    let second : y ≡ get_or members k d = hy ∙ get_or_default members (i - 1) y d (omega arith) ∙ ap (λ j. get_or members j d) before in
    (λ j. is_lt (version_cmp (sym first j) (sym second j))) ∙ h

pub loop-i-preserved : goal.loop-i-preserved
loop-i-preserved c = λ k d h. elim (cases_lt (k + 1) c.loop-i.i) [
  | inl l ↦ c.loop-i.invariant k d l
  | inr g ↦
      let same : k + 1 ≡ c.loop-i.i = omega (arith, h, g) in
      let inside : c.loop-i.i < length c.args.members.now = omega arith in
      let fine : is_lt (version_cmp c.index-members-i.result c.index-members-i-in-loop-i.result) ≡ false = ap is_lt (sym c.cmp_versions.ensures) ∙ sym c.is_lt.ensures ∙ c.if-is_lt.false in
      neighbours c.args.members.now c.loop-i.i k c.index-members-i.result c.index-members-i-in-loop-i.result d same inside c.index-members-i.is c.index-members-i-in-loop-i.is fine
]
