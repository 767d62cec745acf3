-- The members of a list asked in order, up to the first `===`.
use Rattle.std.proofs.Common.{◌≡◌, ◌≢◌, ◌<◌, ◌+◌, ◌∙◌, ℕ, suc, Bool, true, false, not, ◌&&◌, ◌||◌, IsTrue, List, [], ◌∷◌, ◌++◌, take_while, cond, length, get_or, take, drop, drop-cons, refl, sym, ap, subst, arith}
use Rattle.std.proofs.lemmas.List.Elements.{All-tail}
use Rattle.std.specs.List.{All, list_all, prefix_len}
use Rattle.pep440_rs.specs.Matching.{list_matches, matches}
use Rattle.pep440_rs.specs.Specifiers.{Spec}
use Rattle.pep440_rs.specs.declared.specifier.operator.Operator.{Operator}
use Rattle.pep440_rs.specs.declared.specifier.operator.Operator.TheVariants.{Equal, EqualStar, ExactEqual, NotEqual, NotEqualStar, TildeEqual, LessThan, LessThanEqual, GreaterThan, GreaterThanEqual}
use Rattle.pep440_version.specs.Record.{Record}

abbrev is_exact : Operator → Bool
is_exact ExactEqual = true
is_exact _ = false

-- the members before the first `===` decide whether the list contains v: they are all there are, or one of them doesn't contain it
abbrev pub is_told_before_exact : List Spec → Record → Bool
is_told_before_exact members v =
    list_all (λ m. not (is_exact m.operator)) members || not (list_matches (take_while (λ m. not (is_exact m.operator)) members) v)

first_of : (n : ℕ) (m : Spec) (rest : List Spec) → take (1 + n) (m ∷ rest) ≡ m ∷ take n rest
first_of n m rest = let at : 1 + n ≡ suc n = omega arith in ap (λ k. take k (m ∷ rest)) at

later : (p b : Bool) (n : ℕ) (m : Spec) (rest : List Spec) (v : Record) → matches m.operator m.version v ≡ true →
    IsTrue ((p && b) || not (list_matches (take (cond p (1 + n) 0) (m ∷ rest)) v)) → IsTrue (b || not (list_matches (take n rest) v))
later true b n m rest v e h =
    subst (λ x. IsTrue (b || not (x && list_matches (take n rest) v))) e (subst (λ l. IsTrue (b || not (list_matches l v))) (first_of n m rest) h)
later false b n m rest v e h = cc h

-- past a member that contains v the same is told of the others
pub told_later : (m : Spec) (rest : List Spec) (v : Record) → matches m.operator m.version v ≡ true → IsTrue (is_told_before_exact (m ∷ rest) v) → IsTrue (is_told_before_exact rest v)
told_later m rest v e h = later (not (is_exact m.operator)) (list_all (λ (n : Spec). not (is_exact n.operator)) rest) (prefix_len (λ (n : Spec). not (is_exact n.operator)) rest) m rest v e h

-- the first of them is no `===`
pub told_first : (o : Operator) (s v : Record) (rest : List Spec) → IsTrue (is_told_before_exact (record { operator = o; version = s } ∷ rest) v) → o ≢ ExactEqual
told_first Equal s v rest h = λ e. cc e
told_first EqualStar s v rest h = λ e. cc e
told_first ExactEqual s v rest h = λ e. cc h
told_first NotEqual s v rest h = λ e. cc e
told_first NotEqualStar s v rest h = λ e. cc e
told_first TildeEqual s v rest h = λ e. cc e
told_first LessThan s v rest h = λ e. cc e
told_first LessThanEqual s v rest h = λ e. cc e
told_first GreaterThan s v rest h = λ e. cc e
told_first GreaterThanEqual s v rest h = λ e. cc e

decomposition : (items : List Spec) (i : ℕ) (m : Spec) → i < length items → m ≡ get_or items i m → drop i items ≡ m ∷ drop (i + 1) items
decomposition items i m inside is =
    let at : suc i ≡ i + 1 = omega arith in
    drop-cons items i m inside ∙ ap (λ n. get_or items i m ∷ drop n items) at ∙ ap (λ x. x ∷ drop (i + 1) items) (sym is)

-- the same at a place of the list
pub told_step : (items : List Spec) (i : ℕ) (m : Spec) (v : Record) → i < length items → m ≡ get_or items i m → matches m.operator m.version v ≡ true →
    IsTrue (is_told_before_exact (drop i items) v) → IsTrue (is_told_before_exact (drop (i + 1) items) v)
told_step items i m v inside is e h = told_later m (drop (i + 1) items) v e (subst (λ l. IsTrue (is_told_before_exact l v)) (decomposition items i m inside is) h)

pub told_open : (items : List Spec) (i : ℕ) (m : Spec) (v : Record) → i < length items → m ≡ get_or items i m → IsTrue (is_told_before_exact (drop i items) v) → m.operator ≢ ExactEqual
told_open items i m v inside is h = told_first m.operator m.version v (drop (i + 1) items) (subst (λ l. IsTrue (is_told_before_exact l v)) (decomposition items i m inside is) h)

-- the other members decide where this one passes
pub all_step : (p : Spec → Bool) (items : List Spec) (i : ℕ) (m : Spec) → i < length items → m ≡ get_or items i m → p m ≡ true → list_all p (drop i items) ≡ list_all p (drop (i + 1) items)
all_step p items i m inside is e = ap (list_all p) (decomposition items i m inside is) ∙ ap (λ b. b && list_all p (drop (i + 1) items)) e

pub un_not : (b : Bool) → not b ≡ false → b ≡ true
un_not true h = refl
un_not false h = cc h

no_exact : (o : Operator) → o ≢ ExactEqual → is_exact o ≡ false
no_exact Equal none = refl
no_exact EqualStar none = refl
no_exact ExactEqual none = absurd (none refl)
no_exact NotEqual none = refl
no_exact NotEqualStar none = refl
no_exact TildeEqual none = refl
no_exact LessThan none = refl
no_exact LessThanEqual none = refl
no_exact GreaterThan none = refl
no_exact GreaterThanEqual none = refl

-- a member that is no `===` and does not contain v decides
decides : (e x b : Bool) (n : ℕ) (m : Spec) (rest : List Spec) (v : Record) → e ≡ false → matches m.operator m.version v ≡ x →
    (x ≡ true → IsTrue (b || not (list_matches (take n rest) v))) → IsTrue ((not e && b) || not (list_matches (take (cond (not e) (1 + n) 0) (m ∷ rest)) v))
decides true x b n m rest v none is goes = cc none
decides false false b n m rest v none is goes =
    subst (λ l. IsTrue (b || not (list_matches l v))) (sym (first_of n m rest)) (subst (λ y. IsTrue (b || not (y && list_matches (take n rest) v))) (sym is) (or_true b))
  where
    or_true : (b : Bool) → IsTrue (b || true)
    or_true true = refl
    or_true false = refl
decides false true b n m rest v none is goes =
    subst (λ l. IsTrue (b || not (list_matches l v))) (sym (first_of n m rest)) (subst (λ y. IsTrue (b || not (y && list_matches (take n rest) v))) (sym is) (goes refl))

-- so members before every `===` do, one of which does not contain v
pub told_of : (members before after : List Spec) (v : Record) → members ≡ before ++ after → All (λ m. m.operator ≢ ExactEqual) before → IsTrue (not (list_matches before v)) → IsTrue (is_told_before_exact members v)
told_of members before after v is none out = subst (λ l. IsTrue (is_told_before_exact l v)) (sym is) (told before none out)
  where
    told : (before : List Spec) → All (λ m. m.operator ≢ ExactEqual) before → IsTrue (not (list_matches before v)) → IsTrue (is_told_before_exact (before ++ after) v)
    told [] none out = cc out
    told (m ∷ before) none out =
        decides (is_exact m.operator) (matches m.operator m.version v) _ _ m (before ++ after) v (no_exact m.operator (none 0 m (omega arith))) refl
        (λ yes. told before (All-tail (λ m. m.operator ≢ ExactEqual) m before none) (subst (λ y. IsTrue (not (y && list_matches before v))) yes out))
