-- What a string begins with.
use Rattle.std.proofs.Common.{◌≡◌, ℕ, true, false, List, drop, Option, Some, None, refl, sym, subst, ap, ◌∙◌}
use Rattle.std.specs.Option.{option_copied, MatchOption}
use Rattle.std.specs.Str.{IsCharBoundary}
use Rattle.std.specs.Str.Pattern.{FindsTextPrefix, StripsPrefix}
use Rattle.std.proofs.lemmas.Str.Pattern.{starts_text}
use Rattle.pep440_version.specs.Changes.ChangeWords.{after}
use Rattle.std.proofs.Common.{Bor}

-- `strip_prefix` of a string
pub after_is : (n s : List ℕ) (r : Option (Bor (List ℕ))) → MatchOption r (FindsTextPrefix n s None) (λ x. StripsPrefix (FindsTextPrefix n) s x.now) → option_copied r ≡ after n s
after_is n s None h = rw (← starts_text false n s h) refl
after_is n s (Some x) (k, f, is, len) =
    let at : IsCharBoundary s k = subst (IsCharBoundary s) (sym f.0) f.2 in
    let begins = starts_text true n s (k, f, at) in
    rw (← begins) (ap Some (is ∙ ap (λ (m : ℕ). drop m s) f.0))
