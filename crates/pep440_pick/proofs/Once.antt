-- A text means one requirement or is refused for one reason, and there is one newest candidate.
use Rattle.std.proofs.Common.{◌≡◌, ◌∙◌, ◌⊎◌, ◌||◌, ℕ, List, Bool, Option, Some, Result, Ok, Err, refl, sym, ap, inl, inr}
use Rattle.std.proofs.lemmas.Option.{IfSome_then}
use Rattle.std.specs.Cmp.{IsTotalOrder, bool_cmp_total, on_total, then_total}
use Rattle.std.specs.Prelude.{IfErr, IfOk, IfSome, not}
use Rattle.pep440_rs.specs.Matching.{any_prerelease}
use Rattle.pep440_rs.proofs.Reading.OneMeaning.{either_list, not_both_list, one_list, one_list_refusal}
use Rattle.pep440_rs.specs.Lists.ListGrammar.{DerivesList, PieceRejection, RejectsList}
use Rattle.pep440_rs.specs.Specifiers.{Spec}
use Rattle.pep440_version.specs.Key.{record_cmp}
use Rattle.pep440_version.specs.Key.KeyLaws.{record_total}
use Rattle.pep440_version.specs.Record.{Record}
use Rattle.pep440_pick.specs.Newest.{IsContained, Newest, preference}
use Rattle.pep440_pick.proofs.Choosing.{one_greatest}
use Rattle.std.specs.Option.{option_map}
use Rattle.pep440_pick.specs.RequirementGrammar.{DerivesRequirement, HasRequirementPrefix, Needed, RejectsRequirement, RequirementRejection, Specifiers}
use Rattle.pep440_pick.specs.RequirementReading.{RequirementPrefix, read_prefix}
use Rattle.pep440_pick.proofs.Tells.{FrontTells, prefix_only, prefix_tells}
use Rattle.pep440_pick.specs.Requirements.{ReturnsRequirement, needed, requirement_rejection_of}
use Rattle.pep440_pick.specs.declared.error.RequirementError.{RequirementError}
use Rattle.pep440_pick.specs.declared.requirement.Requirement.{Requirement}
use Rattle.pep440_pick.proofs.Whole.{err_of, front, prefix_err_decided, parts_of, refusal_of_list, told_prefix}

-- ---- requirements

abbrev Outcome : List ℕ → Type 0
Outcome text = ((n : Needed) × DerivesRequirement text n) ⊎ ((f : RequirementRejection) × RejectsRequirement text f)

with_prefix : (text : List ℕ) (prefix : RequirementPrefix) → HasRequirementPrefix text prefix.name prefix.extras prefix.list → ((list : List Spec) × DerivesList prefix.list list) ⊎ ((p : PieceRejection) × RejectsList prefix.list p) → Outcome text
with_prefix text prefix has (inl (list, d)) = inl (record { name = prefix.name; extras = prefix.extras; specifiers = list }, (prefix.list, has, d))
with_prefix text prefix has (inr (p, r)) = inr (Specifiers prefix.list p, (prefix.name, prefix.extras, has, r))

pub either_requirement : (text : List ℕ) → Outcome text
either_requirement text = go (read_prefix text) (prefix_tells text)
  where
    go : (r : Result RequirementPrefix RequirementRejection) → FrontTells text r → Outcome text
    go (Ok prefix) h = with_prefix text prefix h (either_list prefix.list)
    go (Err f) h = inr (f, told_prefix text f h)

pub one_requirement : (text : List ℕ) (n m : Needed) → DerivesRequirement text n → DerivesRequirement text m → n ≡ m
one_requirement text n m (list, has, derives) d =
    let f = front n.name n.extras list in
    let parts = parts_of text f (prefix_only text f has) m d in
    let same : n.specifiers ≡ m.specifiers = one_list list n.specifiers m.specifiers derives parts.2 in
    λ i. record { name = sym parts.0 i; extras = sym parts.1 i; specifiers = same i }

pub not_both_requirement : (text : List ℕ) (n : Needed) (f : RequirementRejection) → DerivesRequirement text n → RejectsRequirement text f → ⊥
not_both_requirement text n f (list, has, derives) r =
    let prefix = front n.name n.extras list in
    let piece = refusal_of_list text prefix (prefix_only text prefix has) f r in
    not_both_list list n.specifiers piece.0 derives piece.2

pub one_refusal : (text : List ℕ) (f g : RequirementRejection) → RejectsRequirement text f → RejectsRequirement text g → f ≡ g
one_refusal text f g r s = go (read_prefix text) refl
  where
    inside : (x y : RequirementRejection) → (let e : Result Needed RequirementRejection = Err x in e) ≡ Err y → x ≡ y
    inside x y e = cc

    go : (out : Result RequirementPrefix RequirementRejection) → read_prefix text ≡ out → f ≡ g
    go (Ok prefix) e =
        let p = refusal_of_list text prefix e f r in
        let q = refusal_of_list text prefix e g s in
        p.1 ∙ ap (λ x. Specifiers prefix.list x) (one_list_refusal prefix.list p.0 q.0 p.2 q.2) ∙ sym q.1
    go (Err x) e = inside f x (prefix_err_decided text (Some x) e f r) ∙ sym (inside g x (prefix_err_decided text (Some x) e g s))

-- what a string denotes is returned, where what is returned is what it denotes or its error
pub only_answer : (text : List ℕ) (result : Result Requirement RequirementError) → IfOk result (λ r. DerivesRequirement text (needed r)) → IfErr result (λ e. IfSome (requirement_rejection_of e) (RejectsRequirement text))
    → (n : Needed) → DerivesRequirement text n → ReturnsRequirement result (Ok n)
only_answer text (Ok r) found refused n d = ap (λ m. Ok m) (one_requirement text n (needed r) d found)
only_answer text (Err e) found refused n d = IfSome_then (requirement_rejection_of e) refused (λ f r. absurd (not_both_requirement text n f d r))

-- and so is its error
pub only_refusal : (text : List ℕ) (result : Result Requirement RequirementError) → IfOk result (λ r. DerivesRequirement text (needed r)) → IfErr result (λ e. IfSome (requirement_rejection_of e) (RejectsRequirement text))
    → (f : RequirementRejection) → RejectsRequirement text f → ReturnsRequirement result (Err f)
only_refusal text (Ok r) found refused f h = absurd (not_both_requirement text (needed r) f found h)
only_refusal text (Err e) found refused f h = IfSome_then (requirement_rejection_of e) refused (λ g r. ap err_of (one_refusal text f g h r))

-- ---- the newest

pub preference_total : (takes : Bool) → IsTotalOrder (preference takes)
preference_total takes = then_total (on_total (λ (r : Record). takes || not (any_prerelease r)) bool_cmp_total) record_total

pub only_candidate : (lists : List (List Spec)) (candidate v w : Record) → IsContained lists candidate v → IsContained lists candidate w → v ≡ w
only_candidate lists candidate v w h k = sym h.0 ∙ k.0

pub one_newest : (lists : List (List Spec)) (candidates : List Record) (a b : Option ℕ) → Newest lists candidates a → Newest lists candidates b → a ≡ b
one_newest lists candidates a b (x, h, is) (y, k, so) = is ∙ ap (option_map (λ (p : ℕ × Record). p.0)) (one_greatest (IsContained lists) (only_candidate lists) record_cmp record_total candidates x y h k) ∙ sym so
