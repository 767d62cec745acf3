-- One step of the loop over the members of a list: what is left, from the range so far on, gives the list's range.
use Rattle.std.proofs.Common.{◌≡◌, List, ◌∷◌, Option, Some, None, option_and_then, sym, ap, ◌∙◌}
use Rattle.pep440_rs.specs.Bounds.{Segments, range_from, list_range}
use Rattle.pep440_rs.specs.Specifiers.{Spec}
use Rattle.pep440_rs.specs.declared.specifier.operator.Operator.{Operator}
use Rattle.pep440_ranges.specs.Intersection.{overlaps}
use Rattle.pep440_version.specs.Key.{record_cmp}
use Rattle.pep440_version.specs.Record.{Record}

module _ (conversion : Operator → Record → Option Segments) where
  -- the range so far and the members that are left give the list's range
  abbrev pub Kept : Segments → List Spec → List Spec → Type 0
  Kept now left members = range_from conversion now left ≡ list_range conversion members

  first : (now : Segments) (o : Option Segments) (m : Spec) (left rest members : List Spec) → left ≡ m ∷ rest → conversion m.operator m.version ≡ o → Kept now left members →
      option_and_then (λ r. range_from conversion (overlaps record_cmp now r) rest) o ≡ list_range conversion members
  first now o m left rest members l e k = ap (option_and_then (λ r. range_from conversion (overlaps record_cmp now r) rest)) (sym e) ∙ ap (range_from conversion now) (sym l) ∙ k

  pub kept_step : (now next new : Segments) (m : Spec) (left rest members : List Spec) → left ≡ m ∷ rest → conversion m.operator m.version ≡ Some next →
      new ≡ overlaps record_cmp now next → Kept now left members → Kept new rest members
  kept_step now next new m left rest members l e n k = ap (λ r. range_from conversion r rest) n ∙ first now (Some next) m left rest members l e k

  pub kept_refused : (now : Segments) (m : Spec) (left rest members : List Spec) → left ≡ m ∷ rest → conversion m.operator m.version ≡ None → Kept now left members → list_range conversion members ≡ None
  kept_refused now m left rest members l e k = sym (first now None m left rest members l e k)
