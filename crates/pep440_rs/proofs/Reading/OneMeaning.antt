-- A text means at most one specifier and one list, or is refused for one reason.
use Rattle.std.proofs.Common.{◌≡◌, ◌⊎◌, inl, inr, ℕ, List, Result, Ok, Err, refl, subst}
use Rattle.pep440_rs.specs.Arrangement.{Arranges}
use Rattle.pep440_rs.specs.Lists.ListGrammar.{DerivesList, PieceRejection, RejectsList}
use Rattle.pep440_rs.specs.Lists.ListReading.{read_members}
use Rattle.pep440_rs.specs.Specifiers.SpecifierGrammar.{DerivesSpecifier, RejectsSpecifier, SpecifierRejection}
use Rattle.pep440_rs.specs.Specifiers.SpecifierReading.{read_specifier}
use Rattle.pep440_rs.specs.Specifiers.{Spec}
use Rattle.pep440_rs.proofs.Arranging.Arranged.{one_arrangement, some_arrangement}
use Rattle.pep440_rs.proofs.Reading.ListTells.{derived_members, list_decides, list_found, list_refusal}
use Rattle.pep440_rs.proofs.Reading.Tells.{Tells, decides, tells}

ok_once : {X E : Type 0} (read : Result X E) (x y : X) → read ≡ Ok x → read ≡ Ok y → x ≡ y
ok_once read x y e h = cc

err_once : {X E : Type 0} (read : Result X E) (x y : E) → read ≡ Err x → read ≡ Err y → x ≡ y
err_once read x y e h = cc

never : {X E : Type 0} (read : Result X E) (x : X) (y : E) → read ≡ Ok x → read ≡ Err y → ⊥
never read x y e h = cc

-- ---- specifiers

pub one_specifier : (text : List ℕ) (s t : Spec) → DerivesSpecifier text s → DerivesSpecifier text t → s ≡ t
one_specifier text s t d e = ok_once (read_specifier text) s t (decides text (Ok s) d) (decides text (Ok t) e)

pub one_specifier_refusal : (text : List ℕ) (f g : SpecifierRejection) → RejectsSpecifier text f → RejectsSpecifier text g → f ≡ g
one_specifier_refusal text f g d e = err_once (read_specifier text) f g (decides text (Err f) d) (decides text (Err g) e)

pub not_both_specifier : (text : List ℕ) (s : Spec) (f : SpecifierRejection) → DerivesSpecifier text s → RejectsSpecifier text f → ⊥
not_both_specifier text s f d e = never (read_specifier text) s f (decides text (Ok s) d) (decides text (Err f) e)

pub either_specifier : (text : List ℕ) → ((s : Spec) × DerivesSpecifier text s) ⊎ ((f : SpecifierRejection) × RejectsSpecifier text f)
either_specifier text = go (read_specifier text) (tells text)
  where
    go : (x : Result Spec SpecifierRejection) → Tells text x → ((s : Spec) × DerivesSpecifier text s) ⊎ ((f : SpecifierRejection) × RejectsSpecifier text f)
    go (Ok s) h = inl (s, h)
    go (Err f) h = inr (f, h)

-- ---- lists

pub one_list : (text : List ℕ) (l m : List Spec) → DerivesList text l → DerivesList text m → l ≡ m
one_list text l m d e =
    let a = derived_members text l d in
    let b = derived_members text m e in
    let same : b.0 ≡ a.0 = ok_once (read_members text) b.0 a.0 b.1 a.1 in
    one_arrangement a.0 l m a.2 (subst (λ x. Arranges x m) same b.2)

pub one_list_refusal : (text : List ℕ) (f g : PieceRejection) → RejectsList text f → RejectsList text g → f ≡ g
one_list_refusal text f g d e = err_once (read_members text) f g (list_decides text f d) (list_decides text g e)

pub not_both_list : (text : List ℕ) (l : List Spec) (f : PieceRejection) → DerivesList text l → RejectsList text f → ⊥
not_both_list text l f d e = let a = derived_members text l d in never (read_members text) a.0 f a.1 (list_decides text f e)

pub either_list : (text : List ℕ) → ((l : List Spec) × DerivesList text l) ⊎ ((f : PieceRejection) × RejectsList text f)
either_list text = go (read_members text) refl
  where
    go : (x : Result (List Spec) PieceRejection) → read_members text ≡ x → ((l : List Spec) × DerivesList text l) ⊎ ((f : PieceRejection) × RejectsList text f)
    go (Ok members) e = let arranged = some_arrangement members in inl (arranged.0, list_found text arranged.0 members e arranged.1)
    go (Err f) e = inr (f, list_refusal text f e)
