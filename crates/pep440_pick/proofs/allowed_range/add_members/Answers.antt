use Rattle.std.proofs.Common.{◌≡◌, ◌++◌, ◌∙◌, List, Result, Ok, Err, ap}
use Rattle.std.proofs.lemmas.List.Elements.{same_from_all_zip}
use Rattle.std.specs.List.{AppendsClones}
use Rattle.std.specs.Prelude.{IfOk, OnOk}
use Rattle.pep440_pick.proofs.allowed_range.add_members.Goals as goal

-- clones are the same
appended : {X T E : Type 0} (old new more : List X) (r : Result T E) → OnOk r (AppendsClones (λ x copy. copy ≡ x) old new more) → IfOk r (λ _. new ≡ old ++ more)
appended {X} old new more (Ok x) h = h.1 ∙ ap (λ (ys : List X). old ++ ys) (same_from_all_zip (λ x copy. copy ≡ x) more h.0 h.2 (λ x y e. e))
appended old new more (Err e) h = tt

pub returns : goal.returns
returns c = rw c.as_slice.ensures.value at (appended c.args.members.now.items c.extend_with_clones.new.self.items c.as_slice.result.now c.extend_with_clones.result c.extend_with_clones.ensures.items)
