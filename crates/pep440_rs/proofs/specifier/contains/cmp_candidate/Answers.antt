use Rattle.std.proofs.Common.{◌≡◌, ◌∙◌, ◌<◌, ◌==◌, ℕ, Bool, false, List, [], ◌∷◌, IsTrue, length, not, refl, ap, sym, arith, cond}
use Rattle.std.proofs.lemmas.Bool.Decides.{nat_tests}
use Rattle.pep440_version.specs.Key.{record_cmp}
use Rattle.pep440_version.specs.Record.{LocalSegmentValue, Record}
use Rattle.pep440_rs.specs.Matching.{candidate}
use Rattle.pep440_rs.proofs.specifier.contains.cmp_candidate.Goals as goal

some : (n : ℕ) → 0 < n → (n == 0) ≡ false
some n inside = grind (arith, nat_tests)

kept : (n : ℕ) (v w : Record) → 0 < n → cond (not (n == 0)) v w ≡ v
kept n v w inside = rw (some n inside) refl

lacks : (local : List LocalSegmentValue) (b : Bool) → (0 < length local → IsTrue b) → b ≡ false → local ≡ []
lacks [] b some none = refl
lacks (x ∷ local) b some none = cc (some (omega arith))

bare : (s v : Record) → s.local ≡ [] → record_cmp (record v { local = [] }) (record s { local = [] }) ≡ record_cmp (candidate s v) s
bare s v none = λ i. record_cmp (cond (not (length (sym none i) == 0)) v (record v { local = [] })) (record s { local = sym none i })

pub returns-then-is_local : goal.returns-then-is_local
returns-then-is_local c =
    c.cmp.ensures ∙ ap (λ r. record_cmp r c.args.specifier.now) (sym (kept (length c.args.specifier.now.local) c.args.version.now _ (c.is_local.ensures.0 c.if-is_local.true)))

pub returns-else-is_local : goal.returns-else-is_local
returns-else-is_local c =
    c.cmp_without_local.ensures ∙ bare c.args.specifier.now c.args.version.now (lacks c.args.specifier.now.local c.is_local.result c.is_local.ensures.1 c.if-is_local.false)
