-- An environment in which a marker is defined is in one of its boxes exactly if the marker has the wanted value there.
use Rattle.std.proofs.Common.{◌≡◌, ◌∙◌, ◌+◌, ◌*◌, ◌++◌, ◌&&◌, ◌||◌, ◌-◌, ◌≤◌, List, [], ◌∷◌, Bool, true, false, not, Option, Some, None, ap, append_assoc, arith, drop, get_or, length, refl, sym, take}
use Rattle.std.proofs.lemmas.Bool.{true≢false}
use Rattle.std.proofs.lemmas.List.{take_all}
use Rattle.std.proofs.lemmas.List.Folds.{list_all-append, list_any-append}
use Rattle.std.specs.Prelude.{IfSome, map, nat_lt, if◌then◌else◌}
use Rattle.pyver_requirements.specs.MarkerGrammar.{Both, Comparison, Either, Marker}
use Rattle.pyver_markers.specs.Boxes.{Box, Condition, HasValueInBoxes, agrees, both_boxes, boxes, either_boxes, in_box, in_boxes, is_met, meets, products}
use Rattle.pyver_markers.specs.Conditions.{Domain, IsEnvironment, IsNever}
use Rattle.pyver_markers.specs.Environments.{Environment}
use Rattle.pyver_markers.specs.MarkerComparisons.{compare}
use Rattle.pyver_markers.specs.MarkerValues.{both_hold, either_holds, value}

-- ---- lists

-- the first element of a list, and the rest
pub first_and_rest : {W : Type 0} (xs : List W) (d : W) → 1 ≤ length xs → xs ≡ get_or xs 0 d ∷ take (length xs - 1) (drop 1 xs)
first_and_rest [] d long = absurd (omega arith)
first_and_rest (x ∷ rest) d long =
    let whole : take (length (x ∷ rest) - 1) rest ≡ rest = take_all (length (x ∷ rest) - 1) rest (omega arith) in
    ap (λ l. x ∷ l) (sym whole)

-- ---- tests

none_of_all : (a : Bool) → false ≡ (a && false)
none_of_all true = refl
none_of_all false = refl

factor_left : (a b c : Bool) → ((a && b) || (a && c)) ≡ (a && (b || c))
factor_left true b c = refl
factor_left false b c = refl

factor_right : (a b c : Bool) → ((a && c) || (b && c)) ≡ ((a || b) && c)
factor_right true true true = refl
factor_right true true false = refl
factor_right true false true = refl
factor_right true false false = refl
factor_right false true c = refl
factor_right false false c = refl

neither : (a b : Bool) → (not a && not b) ≡ not (a || b)
neither true b = refl
neither false b = refl

not_both : (a b : Bool) → (not a || not b) ≡ not (a && b)
not_both true b = refl
not_both false b = refl

-- ---- products

in_joined : (e : Environment) (a : Box) (others : List Box) → in_boxes e (map (λ b. a ++ b) others) ≡ (in_box e a && in_boxes e others)
in_joined e a [] = none_of_all (in_box e a)
in_joined e a (b ∷ others) =
    ap (λ x. x || in_boxes e (map (λ c. a ++ c) others)) (list_all-append (meets e) a b)
    ∙ ap (λ x. (in_box e a && in_box e b) || x) (in_joined e a others)
    ∙ factor_left (in_box e a) (in_box e b) (in_boxes e others)

in_products : (e : Environment) (all others : List Box) → in_boxes e (products all others) ≡ (in_boxes e all && in_boxes e others)
in_products e [] others = refl
in_products e (a ∷ rest) others =
    list_any-append (in_box e) (map (λ b. a ++ b) others) (products rest others)
    ∙ ap (λ x. x || in_boxes e (products rest others)) (in_joined e a others)
    ∙ ap (λ x. (in_box e a && in_boxes e others) || x) (in_products e rest others)
    ∙ factor_right (in_box e a) (in_boxes e rest) (in_boxes e others)

pub multiplied : (all more : List Box) (one : Box) (rest boxes others : List Box) → 1 ≤ length rest → one ≡ get_or rest 0 one → more ≡ all ++ map (λ b. one ++ b) others
    → all ++ products rest others ≡ products boxes others → more ++ products (take (length rest - 1) (drop 1 rest)) others ≡ products boxes others
multiplied all more one rest boxes others long first is so_far =
    let later = take (length rest - 1) (drop 1 rest) in
    ap (λ l. l ++ products later others) is
    ∙ append_assoc all (map (λ b. one ++ b) others) (products later others)
    ∙ ap (λ (b : Box). all ++ products (b ∷ later) others) first
    ∙ ap (λ l. all ++ products l others) (sym (first_and_rest rest one long))
    ∙ so_far

-- ---- joins

within : (b : Bool) (xs all : List Box) → (if b then None else Some xs) ≡ Some all → xs ≡ all
within true xs all is = cc
within false xs all is = cc

-- two lists of boxes, and where an environment is
abbrev Joined : Environment → (Bool → Bool → Bool) → Option (List Box) → Option (List Box) → List Box → Type 0
Joined e joined x y all = (ps : List Box) × (qs : List Box) × (x ≡ Some ps) × (y ≡ Some qs) × (in_boxes e all ≡ joined (in_boxes e ps) (in_boxes e qs))

both_is_product : (e : Environment) (x y : Option (List Box)) (all : List Box) → both_boxes x y ≡ Some all → Joined e (λ a b. a && b) x y all
both_is_product e (Some ps) (Some qs) all is =
    (ps, qs, refl, refl, ap (in_boxes e) (sym (within (nat_lt 1000 (length ps * length qs)) (products ps qs) all is)) ∙ in_products e ps qs)
both_is_product e (Some ps) None all is = cc
both_is_product e None None all is = cc
both_is_product e None (Some qs) all is = cc

either_is_union : (e : Environment) (x y : Option (List Box)) (all : List Box) → either_boxes x y ≡ Some all → Joined e (λ a b. a || b) x y all
either_is_union e (Some ps) (Some qs) all is =
    (ps, qs, refl, refl, ap (in_boxes e) (sym (within (nat_lt 1000 (length ps + length qs)) (ps ++ qs) all is)) ∙ list_any-append (in_box e) ps qs)
either_is_union e (Some ps) None all is = cc
either_is_union e None None all is = cc
either_is_union e None (Some qs) all is = cc

-- ---- values

abbrev pub Parts : (Bool → Bool → Bool) → Option Bool → Option Bool → Bool → Type 0
Parts joined p q v = (a : Bool) × (b : Bool) × (p ≡ Some a) × (q ≡ Some b) × (joined a b ≡ v)

pub parts_of_both : (p q : Option Bool) (v : Bool) → both_hold p q ≡ Some v → Parts (λ a b. a && b) p q v
parts_of_both (Some a) (Some b) v is = (a, b, refl, refl, cc)
parts_of_both (Some a) None v is = cc
parts_of_both None None v is = cc
parts_of_both None (Some b) v is = cc

pub parts_of_either : (p q : Option Bool) (v : Bool) → either_holds p q ≡ Some v → Parts (λ a b. a || b) p q v
parts_of_either (Some a) (Some b) v is = (a, b, refl, refl, cc)
parts_of_either (Some a) None v is = cc
parts_of_either None None v is = cc
parts_of_either None (Some b) v is = cc

-- ---- markers

-- the boxes of the marker hold as wanted in this environment
abbrev Holds : Environment → Bool → Marker → Type 0
Holds e wanted m = (all : List Box) (v : Bool) → boxes wanted m ≡ Some all → value e m ≡ Some v → in_boxes e all ≡ agrees wanted v

one_comparison : (wanted v : Bool) (p : Option Bool) → p ≡ Some v → ((is_met wanted p && true) || false) ≡ agrees wanted v
one_comparison true true p is = rw is refl
one_comparison true false p is = rw is refl
one_comparison false true p is = rw is refl
one_comparison false false p is = rw is refl

comparison_holds : (e : Environment) (c : Condition) (all : List Box) (v : Bool) → Some ((c ∷ []) ∷ []) ≡ Some all → compare e c.left c.operator c.right ≡ Some v
    → in_boxes e all ≡ agrees c.wanted v
comparison_holds e c all v is has =
    let one : (c ∷ []) ∷ [] ≡ all = cc in
    ap (in_boxes e) (sym one) ∙ one_comparison c.wanted v (compare e c.left c.operator c.right) has

both_hold_so : (e : Environment) (wanted : Bool) (a b : Marker) → Holds e wanted a → Holds e wanted b → Holds e wanted (Both a b)
both_hold_so e true a b ha hb all v is has =
    let (ps, qs, ia, ib, in_all) = both_is_product e (boxes true a) (boxes true b) all is in
    let (x, y, va, vb, joined) = parts_of_both (value e a) (value e b) v has in
    in_all ∙ ap (λ i. i && in_boxes e qs) (ha ps x ia va) ∙ ap (λ i. x && i) (hb qs y ib vb) ∙ joined
both_hold_so e false a b ha hb all v is has =
    let (ps, qs, ia, ib, in_all) = either_is_union e (boxes false a) (boxes false b) all is in
    let (x, y, va, vb, joined) = parts_of_both (value e a) (value e b) v has in
    in_all ∙ ap (λ i. i || in_boxes e qs) (ha ps x ia va) ∙ ap (λ i. not x || i) (hb qs y ib vb) ∙ not_both x y ∙ ap not joined

either_holds_so : (e : Environment) (wanted : Bool) (a b : Marker) → Holds e wanted a → Holds e wanted b → Holds e wanted (Either a b)
either_holds_so e true a b ha hb all v is has =
    let (ps, qs, ia, ib, in_all) = either_is_union e (boxes true a) (boxes true b) all is in
    let (x, y, va, vb, joined) = parts_of_either (value e a) (value e b) v has in
    in_all ∙ ap (λ i. i || in_boxes e qs) (ha ps x ia va) ∙ ap (λ i. x || i) (hb qs y ib vb) ∙ joined
either_holds_so e false a b ha hb all v is has =
    let (ps, qs, ia, ib, in_all) = both_is_product e (boxes false a) (boxes false b) all is in
    let (x, y, va, vb, joined) = parts_of_either (value e a) (value e b) v has in
    in_all ∙ ap (λ i. i && in_boxes e qs) (ha ps x ia va) ∙ ap (λ i. not x && i) (hb qs y ib vb) ∙ neither x y ∙ ap not joined

hold : (e : Environment) (wanted : Bool) (m : Marker) → Holds e wanted m
hold e wanted (Comparison left o right) = λ all v is has.
    comparison_holds e (record { left = left; operator = o; right = right; wanted = wanted }) all v is has
hold e wanted (Both a b) = both_hold_so e wanted a b (hold e wanted a) (hold e wanted b)
hold e wanted (Either a b) = either_holds_so e wanted a b (hold e wanted a) (hold e wanted b)

pub hold_in_boxes : (wanted : Bool) (m : Marker) (found : Option (List Box)) → found ≡ boxes wanted m → IfSome found (HasValueInBoxes wanted m)
hold_in_boxes wanted m None is = tt
hold_in_boxes wanted m (Some all) is = λ e v has. hold e wanted m all v (sym is) has

-- ---- emptiness

same_agree : (b : Bool) → agrees b b ≡ true
same_agree true = refl
same_agree false = refl

-- where no environment is in the boxes, none gives the value
pub never : (d : Domain) (wanted : Bool) (m : Marker) (all : List Box) → HasValueInBoxes wanted m all
    → ((e : Environment) → IsEnvironment d e → in_boxes e all ≡ false) → IsNever d wanted m
never d wanted m all holds empty e known has = true≢false (sym (holds e wanted has ∙ same_agree wanted) ∙ empty e known)
