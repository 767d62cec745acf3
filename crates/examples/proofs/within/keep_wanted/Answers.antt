use Rattle.std.proofs.Common.{◌≡◌, ◌∙◌, List, [], ◌∷◌, Bool, cond, refl, ap}
use Rattle.std.proofs.lemmas.List.Elements.{All-head, All-tail, All-weaker}
use Rattle.std.specs.List.{All, filter}
use Rattle.pep440_ranges.specs.RangeSegments.{contains}
use Rattle.pep440_version.specs.Key.{record_cmp}
use Rattle.pep440_version.specs.Record.{Record}
use Rattle.pep440_rs.specs.Agreement.{IsCandidate}
use Rattle.pep440_rs.specs.Matching.{list_matches}
use Rattle.examples.proofs.within.keep_wanted.Goals as goal

-- two tests that agree on the items keep the same of them
alike : (p q : Record → Bool) (xs : List Record) → All (λ x. p x ≡ q x) xs → filter p xs ≡ filter q xs
alike p q [] same = refl
alike p q (x ∷ xs) same =
    let here = All-head (λ x. p x ≡ q x) x xs same in
    let there = alike p q xs (All-tail (λ x. p x ≡ q x) x xs same) in
    ap (λ (b : Bool). cond b (x ∷ filter p xs) (filter p xs)) here ∙ ap (λ (ys : List Record). cond (q x) (x ∷ ys) ys) there

pub returns-clause-agrees : goal.returns-clause-agrees
returns-clause-agrees c = λ operands comparable.
    c.keep.ensures ∙ alike (contains record_cmp c.in_ok-range.range) (list_matches c.args.wanted) c.args.versions.now.items
    (All-weaker (λ v. All (λ m. IsCandidate m v) c.args.wanted) (λ v. contains record_cmp c.in_ok-range.range v ≡ list_matches c.args.wanted v) (λ v can. c.in_ok-range.ensures.agrees operands v can) c.args.versions.now.items comparable)
