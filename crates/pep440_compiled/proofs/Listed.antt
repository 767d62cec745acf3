-- Bytes denote at most one list.
use Rattle.std.proofs.Common.{◌≡◌, ◌∙◌, ℕ, List, ◌++◌, append_assoc, length, sym, ap, take, ◌+◌, refl, arith, subst, Bool, true, false, inl, inr, [], ◌∷◌, get_or, ◌<◌, All}
use Rattle.std.proofs.Math.Seq.{drop-append_seam, take-append_seam}
use Rattle.std.proofs.lemmas.List.Elements.{recursion_from_All, All-push}
use Rattle.std.specs.Cmp.{nat_cmp_is}
use Rattle.std.specs.Cmp.Lexicographic.{slice_cmp}
use Rattle.std.specs.FinMap.{nat_cmp-IsAntisymmetric}
use Rattle.std.specs.List.{AllByRecursion, flat_map}
use Rattle.std.specs.Ordering.{nat_cmp}
use Rattle.std.specs.Prelude.{drop}
use Rattle.std.specs.declared.cmp.Ordering.TheVariants.{Equal}
use Rattle.std.specs.declared.cmp.Ordering.TheVariants as ordering
use Rattle.pep440_compiled.proofs.Fronts.{member_version, both_tie, itself}
use Rattle.pep440_compiled.specs.Lists.{DenotesList, DenotesMembers, DenotesWithSet, IsFormBy, IsListForm, IsParsedMember, has_set, member_bytes, members_bytes}
use Rattle.pep440_compiled.specs.SetBytes.{sized_bytes, set_bytes}
use Rattle.pep440_keys.proofs.Codes.{number_is_code}
use Rattle.pep440_keys.specs.SortKeys.{number_bytes}
use Rattle.pep440_rs.specs.OperatorLaws.{same_operator}
use Rattle.pep440_rs.specs.Operators.{operator_rank}
use Rattle.pep440_rs.specs.Specifiers.{Spec}
use Rattle.pep440_sets.specs.Sets.{list_set}
use Rattle.pep440_version.specs.Record.{Fits}
use Rattle.std.proofs.lemmas.List.{take_more}
use Rattle.pep440_compiled.specs.KeyParts.{BeginsOtherwise}
use Rattle.pep440_rs.proofs.Arranging.Arranged.{arranged_again, one_arrangement}
use Rattle.pep440_rs.specs.Arrangement.{Arranges, IsArranged}

pub more_holds : {A : Type 0} (P : A → Type 0) (xs : List A) (i : ℕ) (x : A) → x ≡ get_or xs i x → i < length xs → All P (take i xs) → P x → All P (take (i + 1) xs)
more_holds P xs i x is inside all h = subst (All P) (sym (take_more xs i x inside)) (All-push P (take i xs) (get_or xs i x) all (subst P is h))

-- ---- from the first of the members on

-- no member begins as a zero of the version before it does
pub no_zero_first : (list : List Spec) → BeginsOtherwise 1 (flat_map member_bytes list)
no_zero_first [] = tt
no_zero_first (s ∷ list) = λ e. omega (arith, e)

-- bytes that are not empty begin with a member
pub record First (left : List ℕ) (list : List Spec) : Type 0 where
  pub member : Spec
  pub more : List Spec
  pub parsed : IsParsedMember member
  pub all : AllByRecursion IsParsedMember more
  pub split : list ≡ member ∷ more
  pub bytes : left ≡ member_bytes member ++ flat_map member_bytes more

pub first_member : (left : List ℕ) (list : List Spec) → 0 < length left → AllByRecursion IsParsedMember list → left ≡ flat_map member_bytes list → First left list
first_member left [] some all e = absurd (omega (arith, some, ap length e))
first_member left (s ∷ list) some all e = record { member = s; more = list; parsed = all.0; all = all.1; split = refl; bytes = e }

-- no bytes, no member
pub none_left : (left : List ℕ) (list : List Spec) → length left ≡ 0 → left ≡ flat_map member_bytes list → list ≡ []
none_left left [] none e = refl
none_left left (s ∷ list) none e = absurd (omega (arith, none, ap length e))

-- ---- whole lists

pub same_list : (members list arranged : List Spec) → members ≡ list → IsArranged list → Arranges members arranged → list ≡ arranged
same_list members list arranged e up a = one_arrangement list list arranged (arranged_again list up) (subst (λ l. Arranges l arranged) e a)

-- ---- bytes after their count are told from what follows them

same_count : (m n : ℕ) (u v : List ℕ) → Fits m → Fits n → number_bytes 0 m ++ u ≡ number_bytes 0 n ++ v → m ≡ n
same_count m n u v f g e =
    let tie : slice_cmp nat_cmp (number_bytes 0 m ++ u) (number_bytes 0 n ++ v) ≡ Equal = ap (λ l. slice_cmp nat_cmp (number_bytes 0 m ++ u) l) (sym e) ∙ itself (number_bytes 0 m ++ u) in
    nat_cmp-IsAntisymmetric m n (both_tie (nat_cmp m n) (slice_cmp nat_cmp u v) (sym ((number_is_code 0).splits m n f g u v) ∙ tie)).0

rest_of : (front u v : List ℕ) → front ++ u ≡ front ++ v → u ≡ v
rest_of front u v e = sym (drop-append_seam front u) ∙ ap (drop (length front)) e ∙ drop-append_seam front v

one_sized : (a b u v : List ℕ) → Fits (length a) → Fits (length b) → sized_bytes a ++ u ≡ sized_bytes b ++ v → (a ≡ b) × (u ≡ v)
one_sized a b u v f g e =
    let whole = sym (append_assoc (number_bytes 0 (length a)) a u) ∙ e ∙ append_assoc (number_bytes 0 (length b)) b v in
    let count = same_count (length a) (length b) (a ++ u) (b ++ v) f g whole in
    let bytes : a ++ u ≡ b ++ v = rest_of (number_bytes 0 (length a)) (a ++ u) (b ++ v) (whole ∙ ap (λ n. number_bytes 0 n ++ (b ++ v)) (sym count)) in
    let same : a ≡ b = sym (take-append_seam a u) ∙ ap (take (length a)) bytes ∙ ap (λ n. take n (b ++ v)) count ∙ take-append_seam b v in
    (same, sym (drop-append_seam a u) ∙ ap (drop (length a)) bytes ∙ ap (λ n. drop n (b ++ v)) count ∙ drop-append_seam b v)

same_rank : (s t : Spec) → 16 + operator_rank s.operator ≡ 16 + operator_rank t.operator → s.operator ≡ t.operator
same_rank s t e = same_operator s.operator t.operator (sym (nat_cmp_is (operator_rank s.operator) (operator_rank t.operator) ordering.Equal (omega (arith, e))))

same_members : (l m : List Spec) → AllByRecursion IsParsedMember l → AllByRecursion IsParsedMember m → flat_map member_bytes l ≡ flat_map member_bytes m → l ≡ m
same_members [] [] p q e = refl
same_members [] (t ∷ m) p q e = absurd (omega (arith, ap length e))
same_members (s ∷ l) [] p q e = absurd (omega (arith, ap length e))
same_members (s ∷ l) (t ∷ m) p q e =
    let operator = same_rank s t (ap (λ b. get_or b 0 0) e) in
    let versions = member_version s.version t.version (flat_map member_bytes l) (flat_map member_bytes m) p.0.version q.0.version (no_zero_first l) (no_zero_first m) (ap (drop 1) e) in
    let rest = same_members l m p.1 q.1 versions.1 in
    (λ i. record { operator = operator i; version = versions.0 i } ∷ rest i)

pub one_denoted_members : (bytes : List ℕ) (l m : List Spec) → DenotesMembers bytes l → DenotesMembers bytes m → l ≡ m
one_denoted_members bytes l m d e = same_members l m (recursion_from_All _ l d.members) (recursion_from_All _ m e.members) (ap (drop 1) (sym d.same ∙ e.same))

pub first_byte : (a b : ℕ) (s t : List ℕ) → a ∷ s ≡ b ∷ t → a ≡ b
first_byte a b s t e = ap (λ l. get_or l 0 0) e

one_with_set : (bytes : List ℕ) (l m : List Spec) → DenotesWithSet bytes l → DenotesWithSet bytes m → l ≡ m
one_with_set bytes l m d e =
    let split = one_sized (set_bytes (list_set l)) (set_bytes (list_set m)) (members_bytes l) (members_bytes m) d.size e.size (ap (drop 1) (sym d.same ∙ e.same)) in
    one_denoted_members (members_bytes l) l m d.members (subst (λ b. DenotesMembers b m) (sym split.1) e.members)

pub one_denoted_list : (bytes : List ℕ) (l m : List Spec) → DenotesList bytes l → DenotesList bytes m → l ≡ m
one_denoted_list bytes l m (inl d) (inl e) = one_denoted_members bytes l m d e
one_denoted_list bytes l m (inr d) (inr e) = one_with_set bytes l m d e
one_denoted_list bytes l m (inl d) (inr e) = absurd (omega (arith, first_byte 5 6 _ _ (sym d.same ∙ e.same)))
one_denoted_list bytes l m (inr d) (inl e) = absurd (omega (arith, first_byte 6 5 _ _ (sym d.same ∙ e.same)))

-- members alone do not begin with the byte of sets
pub never_members : (bytes later : List ℕ) (l : List Spec) → bytes ≡ 6 ∷ later → DenotesMembers bytes l → ⊥
never_members bytes later l e d = omega (arith, first_byte 6 5 _ _ (sym e ∙ d.same))

-- ---- what a list compiles to

-- the one form of a list
pub one_form : (a b : List ℕ) (l : List Spec) → IsListForm a l → IsListForm b l → a ≡ b
one_form a b l p q = go (has_set l) p q
  where
    go : (e : Bool) → IsFormBy e a l → IsFormBy e b l → a ≡ b
    go true d e = d.same ∙ sym e.same
    go false d e = d.same ∙ sym e.same

pub form_denotes : (bytes : List ℕ) (l : List Spec) → IsListForm bytes l → DenotesList bytes l
form_denotes bytes l p = go (has_set l) p
  where
    go : (e : Bool) → IsFormBy e bytes l → DenotesList bytes l
    go true d = inr d
    go false d = inl d

pub set_is_form : (bytes : List ℕ) (l : List Spec) → DenotesWithSet bytes l → IsListForm bytes l
set_is_form bytes l d = subst (λ e. IsFormBy e bytes l) (sym d.given) d
