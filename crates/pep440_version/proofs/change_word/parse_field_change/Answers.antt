use Rattle.std.proofs.Common.{◌≡◌, ◌∙◌, ℕ, List, Option, Some, None, Result, ap, sym, subst}
use Rattle.std.specs.Option.{option_map, MatchOption, IsSomeAnd}
use Rattle.pep440_version.specs.declared.change.Change.{Change}
use Rattle.pep440_version.specs.declared.change.Change.TheVariants as change
use Rattle.pep440_version.specs.declared.change_word.ChangeWordError.{ChangeWordError}
use Rattle.pep440_version.specs.Changes.{Edit, edit, Release, Local}
use Rattle.pep440_version.specs.Changes.ChangeWords.{field_change}
use Rattle.pep440_version.specs.Changes.ChangeWordResults.{ReadsAs}
use Rattle.pep440_version.proofs.ChangeWords.Items.{not_read}
use Rattle.pep440_version.proofs.change_word.parse_field_change.Goals as goal

-- the change that a value is made into
made : {A : Type 0} (make : A → Change) (value read : Option A) (result : Option Change) → value ≡ read → MatchOption value (result ≡ None) (λ x. IsSomeAnd result (λ k. k ≡ make x)) →
    option_map edit result ≡ option_map (λ x. edit (make x)) read
made make None read result same h = ap (option_map edit) h ∙ ap (option_map (λ x. edit (make x))) same
made make (Some x) read (Some c) same h = ap (λ k. Some (edit k)) h ∙ ap (option_map (λ x. edit (make x))) same
made make (Some x) read None same h = absurd h

-- by the name of its field
named : (field name value : List ℕ) (read : Option Edit) (result : Result Change ChangeWordError) → field ≡ name → read ≡ field_change name value → ReadsAs edit result read → ReadsAs edit result (field_change field value)
named field name value read result is same h = subst (ReadsAs edit result) (same ∙ ap (λ f. field_change f value) (sym is)) h

pub returns-in_err-parse_numbers-in-release : goal.returns-in_err-parse_numbers-in-release
returns-in_err-parse_numbers-in-release c =
    not_read _ _ _ c.in_err-parse_numbers-in-release.field-0.0 c.from_residual.result c.in_err-parse_numbers-in-release.ensures
    (λ none. ap (λ f. field_change f c.args.value.now) c.in-release.is ∙ ap (option_map Release) none) c.from_residual.ensures.1

pub returns-in_err-parse_segments-in-local : goal.returns-in_err-parse_segments-in-local
returns-in_err-parse_segments-in-local c =
    not_read _ _ _ c.in_err-parse_segments-in-local.field-0.0 c.from_residual-in_err-parse_segments-in-local.result c.in_err-parse_segments-in-local.ensures
    (λ none. ap (λ f. field_change f c.args.value.now) c.in-local.is ∙ ap (option_map Local) none) c.from_residual-in_err-parse_segments-in-local.ensures.1

pub returns-in_ok-parse_numbers-in-release : goal.returns-in_ok-parse_numbers-in-release
returns-in_ok-parse_numbers-in-release c = ap (λ f. field_change f c.args.value.now) c.in-release.is ∙ ap (option_map Release) c.in_ok-parse_numbers-in-release.ensures

pub returns-in_ok-parse_segments-in-local : goal.returns-in_ok-parse_segments-in-local
returns-in_ok-parse_segments-in-local c = ap (λ f. field_change f c.args.value.now) c.in-local.is ∙ ap (option_map Local) c.in_ok-parse_segments-in-local.ensures

pub returns-in-epoch : goal.returns-in-epoch
returns-in-epoch c = named _ _ c.args.value.now _ _ c.in-epoch.is (made change.Epoch _ _ _ c.parse_number.ensures c.map.ensures.cases) c.require_change.ensures

pub returns-in-pre : goal.returns-in-pre
returns-in-pre c = named _ _ c.args.value.now _ _ c.in-pre.is (made change.Pre _ _ _ c.parse_optional_prerelease.ensures c.map-in-pre.ensures.cases) c.require_change-in-pre.ensures

pub returns-in-post : goal.returns-in-post
returns-in-post c = named _ _ c.args.value.now _ _ c.in-post.is (made change.Post _ _ _ c.parse_optional_number.ensures c.map-in-post.ensures.cases) c.require_change-in-post.ensures

pub returns-in-dev : goal.returns-in-dev
returns-in-dev c = named _ _ c.args.value.now _ _ c.in-dev.is (made change.Dev _ _ _ c.parse_optional_number-in-dev.ensures c.map-in-dev.ensures.cases) c.require_change-in-dev.ensures

pub returns-in-min : goal.returns-in-min
returns-in-min c = named _ _ c.args.value.now _ _ c.in-min.is (made change.Min _ _ _ c.parse_optional_number-in-min.ensures c.map-in-min.ensures.cases) c.require_change-in-min.ensures

pub returns-in-max : goal.returns-in-max
returns-in-max c = named _ _ c.args.value.now _ _ c.in-max.is (made change.Max _ _ _ c.parse_optional_number-in-max.ensures c.map-in-max.ensures.cases) c.require_change-in-max.ensures
