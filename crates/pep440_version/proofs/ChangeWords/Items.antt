-- Lists that are read from the left, item by item.
use Rattle.std.proofs.Common.{Bor, ◌≡◌, ◌+◌, ◌<◌, ℕ, List, [], ◌∷◌, ◌++◌, length, drop, get_or, map, Option, Some, None, refl, sym, ap, ◌∙◌, append_assoc, option_and_then, Result, Ok, Err, subst}
use Rattle.std.specs.Option.{option_map}
use Rattle.std.proofs.lemmas.List.{drop_more, get_or-map, length-map}
use Rattle.pep440_version.specs.Changes.ChangeWords.{all_of}
use Rattle.std.specs.Prelude.{IsErrAnd}
use Rattle.pep440_version.specs.Changes.ChangeWordResults.{Lacks, ReadsAs}
use Rattle.pep440_version.specs.declared.change_word.ChangeWordError.{ChangeWordError}
use Rattle.pep440_version.specs.declared.change_word.ChangeWordError.TheVariants as no

-- items that were found, and then the rest
abbrev pub before : {A : Type 0} → List A → Option (List A) → Option (List A)
before found = option_map (λ rest. found ++ rest)

join : {A : Type 0} (found : List A) (a : A) (o : Option (List A)) → before found (option_map (λ others. a ∷ others) o) ≡ before (found ++ a ∷ []) o
join found a None = refl
join found a (Some rest) = ap Some (sym (append_assoc found (a ∷ []) rest))

-- an item of no list
abbrev pub no_text : Bor (List ℕ)
no_text = record { ref_ptr = (0, 0); now = [] }

-- what is left from i on begins with the item there
pub rest_is : {X Y : Type 0} (f : Y → X) (ys : List Y) (i : ℕ) (x d : Y) → i < length ys → x ≡ get_or ys i d → drop i (map f ys) ≡ f x ∷ drop (i + 1) (map f ys)
rest_is f ys i x d inside is =
    let far : i < length (map f ys) = rw length-map inside in
    drop_more (map f ys) i (f d) far
    ∙ ap (λ (y : _). y ∷ drop (i + 1) (map f ys)) (get_or-map f ys i d (f d) inside ∙ ap f (sym is))

-- one more item was found
pub more : {X Y A : Type 0} (read : X → Option A) (f : Y → X) (ys : List Y) (i : ℕ) (x d : Y) (found : List A) (a : A) → i < length ys → x ≡ get_or ys i d → read (f x) ≡ Some a
    → all_of read (map f ys) ≡ before found (all_of read (drop i (map f ys))) → all_of read (map f ys) ≡ before (found ++ a ∷ []) (all_of read (drop (i + 1) (map f ys)))
more {X} {Y} {A} read f ys i x d found a inside here is all =
    all ∙ ap (λ (xs : List X). before found (all_of read xs)) (rest_is f ys i x d inside here)
    ∙ ap (λ (o : Option A). before found (option_and_then (λ b. option_map (λ others. b ∷ others) (all_of read (drop (i + 1) (map f ys)))) o)) is
    ∙ join found a (all_of read (drop (i + 1) (map f ys)))

-- an item is none
pub stop : {X Y A : Type 0} (read : X → Option A) (f : Y → X) (ys : List Y) (i : ℕ) (x d : Y) (found : List A) → i < length ys → x ≡ get_or ys i d → read (f x) ≡ None
    → all_of read (map f ys) ≡ before found (all_of read (drop i (map f ys))) → all_of read (map f ys) ≡ None
stop {X} {Y} {A} read f ys i x d found inside here is all =
    all ∙ ap (λ (xs : List X). before found (all_of read xs)) (rest_is f ys i x d inside here)
    ∙ ap (λ (o : Option A). before found (option_and_then (λ b. option_map (λ others. b ∷ others) (all_of read (drop (i + 1) (map f ys)))) o)) is

-- ---- a part that is not read leaves the whole unread

lacks_weaker : (P Q : Type 0) → (P → Q) → (e : ChangeWordError) → Lacks P e → Lacks Q e
lacks_weaker P Q all no.NotAChange h = all h
lacks_weaker P Q all no.OutOfMemory h = tt

pub not_read : {X A : Type 0} (view : X → A) (read : Option A) (P : Type 0) (e : ChangeWordError) (result : Result X ChangeWordError) → Lacks P e → (P → read ≡ None) → IsErrAnd result (λ x. x ≡ e) → ReadsAs view result read
not_read view read P e (Ok x) h all never = absurd never
not_read view read P e (Err x) h all same = subst (Lacks (read ≡ None)) (sym same) (lacks_weaker P (read ≡ None) all e h)
