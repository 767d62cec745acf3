-- What is answered exactly where the greatest number there is has to be raised.
use Rattle.std.proofs.Common.{◌≡◌, ◌∙◌, ℕ, List, ◌∷◌, Bool, true, false, Option, Some, None, Result, Ok, Err, nat_eq, refl, sym, ap, subst, arith, ◌||◌}
use Rattle.std.proofs.lemmas.Bool.Decides.{nat_tests}
use Rattle.std.specs.List.{list_any}
use Rattle.std.specs.Prelude.{IfOk, IsErrOf}
use Rattle.std.specs.Option.{option_eq}
use Rattle.pep440_rs.specs.Bounds.{Segments}
use Rattle.pep440_rs.specs.RaisedNumbers.{FailsAtMax, ReportsMax, raises_max}
use Rattle.pep440_rs.specs.Specifiers.{Spec, IsSpec}
use Rattle.pep440_rs.specs.declared.specifier.operator.Operator.{Operator}
use Rattle.pep440_rs.specs.declared.range.error.RangeError.{RangeError}
use Rattle.pep440_rs.specs.declared.range.error.RangeError.TheVariants.{NumberAtMax, OutOfMemory}
use Rattle.pep440_version.specs.Record.{Record}

some_none : {A : Type 0} (x : A) → Some x ≡ None → ⊥
some_none x h = cc

abbrev is_at_max : Option ℕ → Bool
is_at_max o = option_eq nat_eq o (Some 18446744073709551615)

at_max : (o : Option ℕ) → o ≡ Some 18446744073709551615 → is_at_max o ≡ true
at_max o h = ap is_at_max h

not_at_max : (o : Option ℕ) → (o ≡ Some 18446744073709551615 → ⊥) → is_at_max o ≡ false
not_at_max None h = refl
not_at_max (Some n) h = grind (arith, nat_tests)

module _ (conversion : Operator → Record → Option Segments) (number : Operator → Record → Option ℕ) (refused : FailsAtMax conversion number) where
  tells : (s : Spec) → IsSpec s → (result : Result Segments RangeError) → IfOk result (λ r. conversion s.operator s.version ≡ Some r)
      → (IsErrOf result NumberAtMax → conversion s.operator s.version ≡ None) → ReportsMax (raises_max number s) result
  tells s valid (Ok range) is none = not_at_max (number s.operator s.version) (λ g. some_none range (sym is ∙ (refused s valid).1 g))
  tells s valid (Err NumberAtMax) is none = at_max (number s.operator s.version) ((refused s valid).0 (none refl))
  tells s valid (Err OutOfMemory) is none = tt

  -- as a call has it: p are the parts that were converted
  pub tells_max : (s : Spec) → IsSpec s → (p : Operator × Record) → p ≡ (s.operator, s.version) → (result : Result Segments RangeError)
      → IfOk result (λ r. conversion p.0 p.1 ≡ Some r) → (IsErrOf result NumberAtMax → conversion p.0 p.1 ≡ None) → ReportsMax (raises_max number s) result
  tells_max s valid p parts result is none =
      tells s valid result (subst (λ (q : Operator × Record). IfOk result (λ r. conversion q.0 q.1 ≡ Some r)) parts is)
      (subst (λ (q : Operator × Record). IsErrOf result NumberAtMax → conversion q.0 q.1 ≡ None) parts none)

-- ---- of a list: those that are left raise the greatest number exactly where some member does

abbrev pub Left : (Spec → Bool) → List Spec → List Spec → Type 0
Left test left members = list_any test left ≡ list_any test members

pub left_step : (test : Spec → Bool) (m : Spec) (left rest members : List Spec) → left ≡ m ∷ rest → test m ≡ false → Left test left members → Left test rest members
left_step test m left rest members l none kept = ap (λ b. b || list_any test rest) (sym none) ∙ ap (list_any test) (sym l) ∙ kept

pub left_found : (test : Spec → Bool) (m : Spec) (left rest members : List Spec) → left ≡ m ∷ rest → test m ≡ true → Left test left members → list_any test members ≡ true
left_found test m left rest members l some kept = sym kept ∙ ap (list_any test) l ∙ ap (λ b. b || list_any test rest) some
