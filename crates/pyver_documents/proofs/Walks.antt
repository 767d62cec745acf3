-- Lists beside lists, lists that are made of each element, strings that are read one after another, and names that are known, repeated or those of packages.
use Rattle.std.proofs.Common.{List, [], refl, ◌++◌, ◌+◌, ◌∷◌, ◌≡◌, Bool, false, true, ◌||◌, ap, map, ◌&&◌, arith, get_or, length, subst, suc, zero, ℕ, ◌<◌, sym, take, take_all, drop, ◌∙◌, ◌≤◌, if◌then◌else◌, None, Option, Some, is_none, IfSome, inr, inl, Err, IfOk, Ok, Result, ◌⊎◌, cond, not, ◌==◌, Bor, Vec, bytes_eq, nat_lt}
use Rattle.std.proofs.lemmas.Bool.{true≢false, and_parts, false_from_ne_true}
use Rattle.std.proofs.lemmas.List.{map-append, take_more, length-map}
use Rattle.std.proofs.lemmas.List.Elements.{All-cons, All-head, All-nil, All-tail, All-append}
use Rattle.std.proofs.lemmas.Slice.Eq.{bytes_eq-Decides}
use Rattle.std.proofs.lemmas.Slice.Zip.{all_zipped_more}
use Rattle.std.specs.List.{list_all, AllZip, Contains, list_any, zip, All, flat_map, filter}
use Rattle.std.specs.Option.{option_map_or}
use Rattle.pep440_rs.specs.Lists.ListErrors.{IsListLifted, lacks_list_memory, list_rejection_of}
use Rattle.pep440_rs.specs.Lists.ListGrammar.{PieceRejection}
use Rattle.pep440_rs.specs.declared.list.error.SpecifiersErrorKind.{SpecifiersErrorKind}
use Rattle.pep440_version.specs.ErrorTexts.{error_text, rejection_text}
use Rattle.pep440_version.specs.Rejections.{Rejection, Rejects}
use Rattle.pyver_documents.specs.Comparing.{accepts_version, excluded, has_name, is_allowed, locked_line, outside}
use Rattle.pyver_documents.specs.DocumentViews.{stands_before}
use Rattle.pyver_documents.specs.Meanings.{IsVersionReading, LockedReading, IsConditionReading, IsLockedReading, package_line}
use Rattle.pyver_findings.specs.Demands.{Demand}
use Rattle.pyver_findings.specs.FileLines.{FileLine}
use Rattle.pyver_findings.specs.NamedFiles.{folder}
use Rattle.pyver_locks.specs.KnownEnvironments.{ReadCondition}
use Rattle.pyver_locks.specs.LockContents.{LockedPackage}
use Rattle.pyver_locks.specs.LockedFiles.{has_slash, last_section}
use Rattle.pyver_projects.proofs.Walks.{flat_map-filter}
use Rattle.pyver_projects.specs.ProjectStrings.{Inclusion, includes_by, includes_within, includes}

pub left_nil : {X : Type 0} (xs ys : List X) → xs ++ ys ≡ [] → xs ≡ []
left_nil [] ys e = refl
left_nil (x ∷ xs) ys e = cc e

pub right_nil : {X : Type 0} (xs ys : List X) → xs ++ ys ≡ [] → ys ≡ []
right_nil [] ys e = e
right_nil (x ∷ xs) ys e = cc e

pub left_false : (a b : Bool) → (a || b) ≡ false → a ≡ false
left_false true b e = absurd (true≢false e)
left_false false b e = refl

pub right_false : (a b : Bool) → (a || b) ≡ false → b ≡ false
right_false true b e = absurd (true≢false e)
right_false false b e = e

-- all are so of what is seen of them
pub all_viewed : {X Y : Type 0} (p : Y → Bool) (view : X → Y) (xs : List X) → list_all p (map view xs) ≡ list_all (λ x. p (view x)) xs
all_viewed p view [] = refl
all_viewed p view (x ∷ xs) = ap (λ b. p (view x) && b) (all_viewed p view xs)

-- an element has another beside it
pub beside_it : {X Y : Type 0} (R : X → Y → Type 0) (xs : List X) (ys : List Y) (x : X) (k : ℕ) → k < length xs → get_or xs k x ≡ x → AllZip R xs ys → (y : Y) × Contains ys y × R x y
beside_it R [] ys x k inside at h = absurd (omega (arith, inside))
beside_it R (z ∷ xs) [] x k inside at h = absurd h
beside_it R (z ∷ xs) (y ∷ ys) x zero inside at h = (y, (zero, omega arith, refl), subst (λ q. R q y) at h.0)
beside_it R (z ∷ xs) (y ∷ ys) x (suc k) inside at h =
    let (w, (j, within, here), r) = beside_it R xs ys x k (omega (arith, inside)) at h.1 in
    (w, (suc j, omega (arith, within), here), r)

module _ {X Y : Type 0} (R : X → Y → Type 0) (p : Y → Bool) where
  some_by : (b : Bool) (x : X) (xs : List X) (y : Y) (rest : Bool) → p y ≡ b → R x y → (rest ≡ true → (q : X) × (z : Y) × Contains xs q × R q z × (p z ≡ true)) → (b || rest) ≡ true → (q : X) × (z : Y) × Contains (x ∷ xs) q × R q z × (p z ≡ true)
  some_by true x xs y rest is r later e = (x, y, (zero, omega arith, refl), r, is)
  some_by false x xs y rest is r later e = let (q, z, (k, inside, at), s, passes) = later e in (q, z, (suc k, omega (arith, inside), at), s, passes)

  -- an element that passes the test stands beside another
  pub beside_some : (xs : List X) (ys : List Y) → AllZip R xs ys → list_any p ys ≡ true → (x : X) × (y : Y) × Contains xs x × R x y × (p y ≡ true)
  beside_some [] [] h e = absurd (true≢false (sym e))
  beside_some [] (y ∷ ys) h e = absurd h
  beside_some (x ∷ xs) [] h e = absurd h
  beside_some (x ∷ xs) (y ∷ ys) (r, h) e = some_by (p y) x xs y (list_any p ys) refl r (beside_some xs ys h) e

-- and they are a pair
pub beside_pair : {X Y : Type 0} (R : X → Y → Type 0) (xs : List X) (ys : List Y) (x : X) (k : ℕ) → k < length xs → get_or xs k x ≡ x → AllZip R xs ys → (y : Y) × Contains (zip xs ys) (x, y) × R x y
beside_pair R [] ys x k inside at h = absurd (omega (arith, inside))
beside_pair R (z ∷ xs) [] x k inside at h = absurd h
beside_pair R (z ∷ xs) (y ∷ ys) x zero inside at h = (y, (zero, omega arith, λ j. (at j, y)), subst (λ q. R q y) at h.0)
beside_pair R (z ∷ xs) (y ∷ ys) x (suc k) inside at h =
    let (w, (j, within, here), r) = beside_pair R xs ys x k (omega (arith, inside)) at h.1 in
    (w, (suc j, omega (arith, within), here), r)

-- what holds of elements and those beside them holds of the pairs
pub pairs_each : {X Y : Type 0} (R : X → Y → Type 0) (K : X → Type 0) (Q : X × Y → Type 0) → ((x : X) (y : Y) → K x → R x y → Q (x, y)) → (xs : List X) (ys : List Y) → All K xs → AllZip R xs ys → All Q (zip xs ys)
pairs_each R K Q f [] [] known h = All-nil Q
pairs_each R K Q f [] (y ∷ ys) known h = absurd h
pairs_each R K Q f (x ∷ xs) [] known h = absurd h
pairs_each R K Q f (x ∷ xs) (y ∷ ys) known h = All-cons Q (x, y) (zip xs ys) (f x y (All-head K x xs known) h.0) (pairs_each R K Q f xs ys (All-tail K x xs known) h.1)

-- pairs are made of their parts
pub zip_of : {Z X Y : Type 0} (f : Z → X) (g : Z → Y) (zs : List Z) → zip (map f zs) (map g zs) ≡ map (λ z. (f z, g z)) zs
zip_of f g [] = refl
zip_of f g (z ∷ zs) = ap (λ rest. (f z, g z) ∷ rest) (zip_of f g zs)

-- all were read, each of its own
pub paired : {L M B C : Type 0} (view : L → B) (show : M → B) (other : M → C) (xs : List L) (i : ℕ) (ys : List M) → length xs ≤ i → map show ys ≡ map view (take i xs)
    → zip (map view xs) (map other ys) ≡ map (λ y. (show y, other y)) ys
paired view show other xs i ys end alike = (λ j. zip (sym (alike ∙ ap (map view) (take_all i xs end)) j) (map other ys)) ∙ zip_of show other ys

-- the folder is no longer than the path
pub folder_fits : (path : List ℕ) → length (folder path) ≤ length path
folder_fits [] = omega arith
folder_fits (b ∷ rest) = fits_by (has_slash (b ∷ rest)) (folder_fits rest)
  where
    fits_by : (c : Bool) → length (folder rest) ≤ length rest → length (if c then b ∷ folder rest else []) ≤ suc (length rest)
    fits_by true k = omega (arith, k)
    fits_by false k = omega arith

-- what follows it is the last section
pub section_is : (path : List ℕ) → drop (length (folder path)) path ≡ last_section path
section_is [] = refl
section_is (b ∷ rest) = by (section_is rest) (has_slash (b ∷ rest))
  where
    by : drop (length (folder rest)) rest ≡ last_section rest → (c : Bool) → drop (length (if c then b ∷ folder rest else [])) (b ∷ rest) ≡ (if c then last_section rest else b ∷ rest)
    by is true = is
    by is false = refl

-- what holds of each element holds of those beside them
pub zip_each : {X Y : Type 0} (R : X → Y → Type 0) (K : X → Type 0) (Q : Y → Type 0) → ((x : X) (y : Y) → K x → R x y → Q y) → (xs : List X) (ys : List Y) → All K xs → AllZip R xs ys → All Q ys
zip_each R K Q f [] [] known h = All-nil Q
zip_each R K Q f [] (y ∷ ys) known h = absurd h
zip_each R K Q f (x ∷ xs) [] known h = absurd h
zip_each R K Q f (x ∷ xs) (y ∷ ys) known h = All-cons Q y ys (f x y (All-head K x xs known) h.0) (zip_each R K Q f xs ys (All-tail K x xs known) h.1)

-- elements have one list beside them
pub zip_once : {X Y : Type 0} (R : X → Y → Type 0) (K : X → Type 0) → ((x : X) (y z : Y) → K x → R x y → R x z → y ≡ z) → (xs : List X) (ys zs : List Y) → All K xs → AllZip R xs ys → AllZip R xs zs → ys ≡ zs
zip_once R K f [] [] [] known h k = refl
zip_once R K f [] [] (z ∷ zs) known h k = absurd k
zip_once R K f [] (y ∷ ys) zs known h k = absurd h
zip_once R K f (x ∷ xs) [] zs known h k = absurd h
zip_once R K f (x ∷ xs) (y ∷ ys) [] known h k = absurd k
zip_once R K f (x ∷ xs) (y ∷ ys) (z ∷ zs) known h k =
    let first = f x y z (All-head K x xs known) h.0 k.0 in
    let others = zip_once R K f xs ys zs (All-tail K x xs known) h.1 k.1 in
    λ j. first j ∷ others j

-- what holds of all that is made of each element holds of all
pub all_flat : {X Y : Type 0} (P : Y → Type 0) (f : X → List Y) (xs : List X) → All (λ x. All P (f x)) xs → All P (flat_map f xs)
all_flat P f [] k = All-nil P
all_flat P f (x ∷ xs) k = All-append P (f x) (flat_map f xs) (All-head (λ y. All P (f y)) x xs k) (all_flat P f xs (All-tail (λ y. All P (f y)) x xs k))

-- where nothing is made, nothing is made of an element
pub nil_at : {X Y : Type 0} (f : X → List Y) (xs : List X) (x : X) (k : ℕ) → k < length xs → get_or xs k x ≡ x → flat_map f xs ≡ [] → f x ≡ []
nil_at f [] x k inside at e = absurd (omega (arith, inside))
nil_at f (z ∷ xs) x zero inside at e = ap f (sym at) ∙ left_nil (f z) (flat_map f xs) e
nil_at f (z ∷ xs) x (suc k) inside at e = nil_at f xs x k (omega (arith, inside)) at (right_nil (f z) (flat_map f xs) e)

-- one more was read
pub read_more : {L M A B : Type 0} (view : L → A) (show : M → B) (R : A → B → Type 0) (xs : List L) (i : ℕ) (x : L) (old new : List M) (y : M) → i < length xs → x ≡ get_or xs i x
    → new ≡ old ++ y ∷ [] → R (view x) (show y) → AllZip R (map view (take i xs)) (map show old) → AllZip R (map view (take (i + 1) xs)) (map show new)
read_more view show R xs i x old new y inside is more reads h =
    let taken : map view (take (i + 1) xs) ≡ map view (take i xs) ++ view x ∷ [] = ap (map view) (take_more xs i x inside ∙ ap (λ z. take i xs ++ z ∷ []) (sym is)) ∙ map-append view (take i xs) (x ∷ []) in
    let shown : map show new ≡ map show old ++ show y ∷ [] = ap (map show) more ∙ map-append show old (y ∷ []) in
    subst (λ ls. AllZip R ls (map show new)) (sym taken) (subst (λ ms. AllZip R (map view (take i xs) ++ view x ∷ []) ms) (sym shown) (all_zipped_more R (map view (take i xs)) (map show old) (view x) (show y) h reads))

-- and the lists go on alike
pub alike_more : {L M B : Type 0} (view : L → B) (show : M → B) (xs : List L) (i : ℕ) (x : L) (old new : List M) (y : M) → i < length xs → x ≡ get_or xs i x → new ≡ old ++ y ∷ [] → show y ≡ view x
    → map show old ≡ map view (take i xs) → map show new ≡ map view (take (i + 1) xs)
alike_more view show xs i x old new y inside is more same alike =
    let taken : map view (take (i + 1) xs) ≡ map view (take i xs) ++ view x ∷ [] = ap (map view) (take_more xs i x inside ∙ ap (λ z. take i xs ++ z ∷ []) (sym is)) ∙ map-append view (take i xs) (x ∷ []) in
    ap (map show) more ∙ (map-append show old (y ∷ []) ∙ ((λ j. alike j ++ same j ∷ []) ∙ sym taken))

-- all were read
pub read_all : {L M A B : Type 0} (view : L → A) (show : M → B) (R : A → B → Type 0) (xs : List L) (i : ℕ) (ys : List M) → length xs ≤ i → AllZip R (map view (take i xs)) (map show ys) → AllZip R (map view xs) (map show ys)
read_all view show R xs i ys end h = subst (λ ls. AllZip R (map view ls) (map show ys)) (take_all i xs end) h

-- an error that is no want of memory has a reason
pub refusal : {F : Type 0} (o : Option F) → is_none o ≡ false → (f : F) × (o ≡ Some f)
refusal None e = absurd (true≢false e)
refusal (Some f) e = (f, refl)

-- the reason of the refusal is printed
pub version_reason_is : (f : Rejection) (s : List ℕ) → error_text (Some f) ≡ Some (rejection_text f) → IfSome (error_text (Some f)) (λ t. s ≡ t) → s ≡ rejection_text f
version_reason_is f s told is = subst (λ (o : Option (List ℕ)). IfSome o (λ t. s ≡ t)) told is

-- a list that is no want of memory has a reason
reason_by : (kind : SpecifiersErrorKind) (o : Option PieceRejection) → list_rejection_of kind ≡ o → lacks_list_memory kind ≡ false → IsListLifted kind → (f : PieceRejection) × (o ≡ Some f)
reason_by kind None is some lifted = absurd (true≢false (sym (ap lacks_list_memory (lifted is)) ∙ some))
reason_by kind (Some f) is some lifted = (f, refl)

pub list_reason : (kind : SpecifiersErrorKind) → lacks_list_memory kind ≡ false → IsListLifted kind → (f : PieceRejection) × (list_rejection_of kind ≡ Some f)
list_reason kind some lifted = reason_by kind (list_rejection_of kind) refl some lifted

condition_is : (line : FileLine) (name : List ℕ) (c : Option ReadCondition) (w : Option (List ℕ)) (y : LockedReading) → IsVersionReading line name c w y → c ≡ y.condition
condition_is line name c None y is = ap (λ (z : LockedReading). z.condition) (sym is)
condition_is line name c (Some text) y (inl (r, d, is)) = ap (λ (z : LockedReading). z.condition) (sym is)
condition_is line name c (Some text) y (inr (f, r, is)) = ap (λ (z : LockedReading). z.condition) (sym is)

-- a package under this condition
pub locked_so : (file : List ℕ) (p : LockedPackage) (line : FileLine) (c : Option ReadCondition) (y : LockedReading) → line ≡ package_line file p → IsConditionReading p.condition c
    → IsVersionReading line p.name c p.version y → IsLockedReading file p y
locked_so file p line c y at read version =
    let so = condition_is line p.name c p.version y version in (
      subst (IsConditionReading p.condition) so read,
      subst (λ d. IsVersionReading (package_line file p) p.name d p.version y) so (subst (λ l. IsVersionReading l p.name c p.version y) at version),
    )

-- a string is no version for its reason
pub version_read : {Y E : Type 0} (r : Result Y E) (o : Option Rejection) (text : List ℕ) (A : Y → Type 0) (Q : Rejection → Y → Type 0) → IfSome o (Rejects text) → IfOk r (λ y. (f : Rejection) × (o ≡ Some f) × Q f y)
    → IfOk r (λ y. A y ⊎ ((f : Rejection) × Rejects text f × Q f y))
version_read (Ok y) o text A Q refuses (f, some, q) = inr (f, subst (λ (p : Option Rejection). IfSome p (Rejects text)) some refuses, q)
version_read (Err e) o text A Q refuses h = tt

-- what holds of what is made of each element holds at one
pub sound_at : {X Y : Type 0} (f : Y → X) (P : X → Type 0) (xs : List Y) (i : ℕ) (x : Y) → i < length xs → x ≡ get_or xs i x → All P (map f xs) → P (f x)
sound_at f P [] i x inside is k = absurd (omega arith)
sound_at f P (y ∷ xs) zero x inside is k = subst P (ap f (sym is)) (All-head P (f y) (map f xs) k)
sound_at f P (y ∷ xs) (suc i) x inside is k = sound_at f P xs i x (omega arith) is (All-tail P (f y) (map f xs) k)

module _ {X : Type 0} (p : X → Bool) where
  some : (b : Bool) (x : X) (xs : List X) → not (length (filter p xs) == 0) ≡ list_any p xs → not (length (cond b (x ∷ filter p xs) (filter p xs)) == 0) ≡ (b || list_any p xs)
  some true x xs e = grind arith
  some false x xs e = e

  -- one passes the test where those that do are not none
  any-filter : (xs : List X) → not (length (filter p xs) == 0) ≡ list_any p xs
  any-filter [] = refl
  any-filter (x ∷ xs) = some (p x) x xs (any-filter xs)

module _ {X : Type 0} (p q : X → Bool) where
  both_by : (b : Bool) (x : X) (xs : List X) → list_any q (filter p xs) ≡ list_any (λ y. p y && q y) xs → list_any q (cond b (x ∷ filter p xs) (filter p xs)) ≡ ((b && q x) || list_any (λ y. p y && q y) xs)
  both_by true x xs e = ap (λ rest. q x || rest) e
  both_by false x xs e = e

  -- one of those that pass the first test passes the second where one passes both
  pub any-both : (xs : List X) → list_any q (filter p xs) ≡ list_any (λ y. p y && q y) xs
  any-both [] = refl
  any-both (x ∷ xs) = both_by (p x) x xs (any-both xs)

module _ {X : Type 0} (p q : X → Bool) where
  kept_both : (b : Bool) (x : X) (xs : List X) → filter q (filter p xs) ≡ filter (λ y. p y && q y) xs → filter q (cond b (x ∷ filter p xs) (filter p xs)) ≡ cond (b && q x) (x ∷ filter (λ y. p y && q y) xs) (filter (λ y. p y && q y) xs)
  kept_both true x xs e = ap (λ rest. cond (q x) (x ∷ rest) rest) e
  kept_both false x xs e = e

  -- what passes two tests passes both
  pub filter-both : (xs : List X) → filter q (filter p xs) ≡ filter (λ y. p y && q y) xs
  filter-both [] = refl
  filter-both (x ∷ xs) = kept_both (p x) x xs (filter-both xs)

kept_some : {X : Type 0} (b c : Bool) (x : X) (rest : List X) → (b || c) ≡ true → (c ≡ true → rest ≡ [] → ⊥) → cond b (x ∷ rest) rest ≡ [] → ⊥
kept_some true c x rest some later none = cc none
kept_some false c x rest some later none = later some none

-- where one passes the test, some are kept
pub filter_some : {X : Type 0} (p : X → Bool) (xs : List X) → list_any p xs ≡ true → filter p xs ≡ [] → ⊥
filter_some p [] some none = true≢false (sym some)
filter_some p (x ∷ xs) some none = kept_some (p x) (list_any p xs) x (filter p xs) some (filter_some p xs) none

-- the packages of a name are the group under it
pub named : {L A : Type 0} (view : L → LockedReading) (ys : List LockedReading) (name of : List ℕ) (o group : Option (Bor (Vec L A))) → map view (option_map_or (λ g. g.now.items) o []) ≡ filter (λ y. bytes_eq name y.name) ys
    → name ≡ of → o ≡ group → map view (option_map_or (λ g. g.now.items) group []) ≡ filter (λ y. bytes_eq of y.name) ys
named view ys name of o group is same found = ap (λ g. map view (option_map_or (λ v. v.now.items) g [])) (sym found) ∙ is ∙ ap (λ n. filter (λ y. bytes_eq n y.name) ys) same

module _ {L : Type 0} (view : L → LockedReading) (a : Demand) (ys : List LockedReading) (group : List L) (is : map view group ≡ filter (has_name a) ys) where
  -- a package has the name where the group is not empty
  pub has_some : (e : Bool) → e ≡ (length group == 0) → not e ≡ list_any (has_name a) ys
  has_some e empty = ap not (empty ∙ ap (λ n. n == 0) (sym (length-map group view) ∙ ap length is)) ∙ any-filter (has_name a) ys

  -- what is excluded of all is what is excluded of the group
  pub excluded_of : (if list_any (λ y. accepts_version a.specifiers y.version) (map view group) then [] else outside a.line (flat_map locked_line (map view group))) ≡ excluded a ys
  excluded_of =
      ap (λ g. if list_any (λ y. accepts_version a.specifiers y.version) g then [] else outside a.line (flat_map locked_line g)) is
      ∙ ap (λ b. if b then [] else outside a.line (flat_map locked_line (filter (has_name a) ys))) (any-both (has_name a) (λ y. accepts_version a.specifiers y.version) ys)
      ∙ ap (λ lines. if list_any (is_allowed a) ys then [] else outside a.line lines) (flat_map-filter (has_name a) locked_line ys)

below : (m n : ℕ) → nat_lt m n ≡ true → m < n
below m n e = grind arith

module _ (place : List ℕ → ℕ) (low : ℕ) (has : List ℕ → Bool) (known : (q : List ℕ) → has q ≡ true → low ≤ place q) (name : List ℕ) where
  by_step : (b : Bool) (i : Inclusion) (is : List Inclusion) → includes_by has name i ≡ b → (b || list_any (includes_by has name) is) ≡ true → stands_before place i ≡ true → (list_any (includes_by has name) is ≡ true → low ≤ place name) → low ≤ place name
  by_step true i is e any before later =
      let same : name ≡ i.included = (bytes_eq-Decides name i.included).0 ((and_parts (bytes_eq name i.included) (has i.group) e).0) in
      let first : low ≤ place i.group = known i.group ((and_parts (bytes_eq name i.included) (has i.group) e).1) in
      let rises : place i.group < place i.included = below (place i.group) (place i.included) before in
      subst (λ (n : List ℕ). low ≤ place n) (sym same) (omega (arith, first, rises))
  by_step false i is e any before later = later any

  by_steps : (is : List Inclusion) → list_all (stands_before place) is ≡ true → list_any (includes_by has name) is ≡ true → low ≤ place name
  by_steps [] ordered any = absurd (true≢false (sym any))
  by_steps (i ∷ is) ordered any =
      by_step (includes_by has name i) i is refl any ((and_parts (stands_before place i) (list_all (stands_before place) is) ordered).0) (by_steps is ((and_parts (stands_before place i) (list_all (stands_before place) is) ordered).1))

module _ (place : List ℕ → ℕ) (is : List Inclusion) (ordered : list_all (stands_before place) is ≡ true) (group : List ℕ) where
  after_more : (b c : Bool) (name : List ℕ) → (b || c) ≡ true → (b ≡ true → place group ≤ place name) → (c ≡ true → place group ≤ place name) → place group ≤ place name
  after_more true c name e first second = first refl
  after_more false c name e first second = second e

  stands_after : (n : ℕ) (name : List ℕ) → includes_within is group n name ≡ true → place group ≤ place name
  stands_after zero name e = subst (λ (g : List ℕ). place g ≤ place name) ((bytes_eq-Decides name group).0 e) (omega arith)
  stands_after (suc n) name e =
      after_more (includes_within is group n name) (list_any (includes_by (includes_within is group n) name) is) name e (stands_after n name)
      (by_steps place (place group) (includes_within is group n) (stands_after n) name is ordered)

-- what stands before a group is not included by it
pub not_included : (place : List ℕ → ℕ) (is : List Inclusion) (right : Bool) (group name : List ℕ) → right ≡ list_all (stands_before place) is → (right && nat_lt (place name) (place group)) ≡ true → includes is group name ≡ false
not_included place is right group name known before =
    let ordered : list_all (stands_before place) is ≡ true = sym known ∙ (and_parts right (nat_lt (place name) (place group)) before).0 in
    let apart : place name < place group = below (place name) (place group) ((and_parts right (nat_lt (place name) (place group)) before).1) in
    false_from_ne_true (includes is group name) (λ e. let after : place group ≤ place name = stands_after place is ordered group (length is) name e in absurd (omega (arith, apart, after)))
