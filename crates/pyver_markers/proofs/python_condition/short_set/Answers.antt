use Rattle.std.proofs.Common.{◌∙◌, subst, sym}
use Rattle.std.specs.Prelude.{IfSome}
use Rattle.pyver_markers.proofs.ShortVersions.{is_own, own_denotable, own_match, with_own, without_own}
use Rattle.pyver_markers.specs.Conditions.{HoldsMatchesOf}
use Rattle.pyver_markers.proofs.python_condition.short_set.Goals as goal

pub specifier_set-requires : goal.specifier_set-requires
specifier_set-requires c =
    own_denotable c.args.specifier c.equals_star_version-star.result
    (is_own c.args.specifier c.equals_star_version-star.result c.version.result.now c.in_ok-short.short c.version.ensures.value c.in_ok-short.ensures c.equals_star_version-star.ensures)
    c.requires

pub returns-then-matches : goal.returns-then-matches
returns-then-matches c =
    with_own c.args.specifier (sym c.is_exact.ensures ∙ c.if-is_exact.false) c.in_ok-matches.matches
    (own_match c.args.specifier c.version.result.now c.in_ok-short.short c.in_ok-matches.matches c.version.ensures.value c.in_ok-short.ensures c.in_ok-matches.ensures.value)
    c.in-Some-2.set c.in-Some.own (subst (λ o. IfSome o (HoldsMatchesOf c.args.specifier)) c.in-Some-2.is c.in_ok-set.ensures) c.equals_star_version-star.result
    (is_own c.args.specifier c.equals_star_version-star.result c.version.result.now c.in_ok-short.short c.version.ensures.value c.in_ok-short.ensures c.equals_star_version-star.ensures)
    (subst (λ o. IfSome o (HoldsMatchesOf c.equals_star_version-star.result)) c.in-Some.is c.in_ok-own.ensures) c.in_ok-union.field-0 c.if-matches.true c.in_ok-union.ensures

pub returns : goal.returns
returns c =
    without_own c.args.specifier (sym c.is_exact.ensures ∙ c.if-is_exact.false) c.in_ok-matches.matches
    (own_match c.args.specifier c.version.result.now c.in_ok-short.short c.in_ok-matches.matches c.version.ensures.value c.in_ok-short.ensures c.in_ok-matches.ensures.value)
    c.in-Some-2.set c.in-Some.own (subst (λ o. IfSome o (HoldsMatchesOf c.args.specifier)) c.in-Some-2.is c.in_ok-set.ensures) c.equals_star_version-star.result
    (is_own c.args.specifier c.equals_star_version-star.result c.version.result.now c.in_ok-short.short c.version.ensures.value c.in_ok-short.ensures c.equals_star_version-star.ensures)
    (subst (λ o. IfSome o (HoldsMatchesOf c.equals_star_version-star.result)) c.in-Some.is c.in_ok-own.ensures) c.in_ok-difference.field-0 c.if-matches.false c.in_ok-difference.ensures
