use Rattle.std.proofs.Common.{◌≡◌, ◌∙◌, ◌<◌, ℕ, Bool, List, Some, None, ap, true, false, nat_lt, arith, length, lit<, lt-ltb, subst, sym}
use Rattle.std.proofs.lemmas.Bool.{le-ltb}
use Rattle.std.proofs.lemmas.Str.Pattern.{split_once_first}
use Rattle.std.specs.List.{after_first, before_first, position_or_len}
use Rattle.std.specs.Prelude.{if◌then◌else◌}
use Rattle.pep440_version.specs.Changes.{edit}
use Rattle.pep440_version.specs.Changes.ChangeWordResults.{ReadsAs}
use Rattle.pep440_version.specs.Changes.ChangeWords.{bare_change, change_of, field_change, is_equals}
use Rattle.pep440_version.proofs.change_word.parse_change.Goals as goal

-- a word whose first `=` is, or is not, before its end
decided : (word : List ℕ) (b : Bool) → nat_lt (position_or_len is_equals word) (length word) ≡ b
    → change_of word ≡ (if b then field_change (before_first is_equals word) (after_first is_equals word) else bare_change word)
decided word b e = ap (λ (b : Bool). if b then field_change (before_first is_equals word) (after_first is_equals word) else bare_change word) e

pub returns-in-Some : goal.returns-in-Some
returns-in-Some c =
    let word = c.args.word.now in
    let is = split_once_first 61 word (Some (c.in-Some.field, c.in-Some.value)) c.in-Some.ensures.cases (lit< tt) in
    let whole = ap (λ f. field_change f c.in-Some.value.now) is.1 ∙ ap (field_change (before_first is_equals word)) is.2 ∙ sym (decided word true (lt-ltb _ _ is.0)) in
    subst (ReadsAs edit c.parse_field_change.result) whole c.parse_field_change.ensures

pub returns-in-None : goal.returns-in-None
returns-in-None c =
    let word = c.args.word.now in
    let none = split_once_first 61 word None c.in-None.ensures.cases (lit< tt) in
    subst (ReadsAs edit c.require_change.result) (c.parse_bare_change.ensures ∙ sym (decided word false (le-ltb _ _ (omega arith)))) c.require_change.ensures
