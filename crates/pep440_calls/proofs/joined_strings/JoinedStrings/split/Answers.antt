use Rattle.std.proofs.Common.{◌≡◌, [], length, rules, subst, sym}
use Rattle.pep440_calls.proofs.Placed.{IsSplit, next_fits, next_of, split_begun, split_done, split_more}
use Rattle.pep440_calls.proofs.joined_strings.JoinedStrings.split.Goals as goal

pub loop-end-init : goal.loop-end-init
loop-end-init c strings joins =
    let begun = split_begun strings c.args.self.now.bytes.items c.args.self.now.ends.items joins in
    let bytes = subst (λ b. IsSplit strings [] b 0 c.args.self.now.ends.items) (sym c.as_slice-left.ensures.value) begun in
    let ends = subst (λ e. IsSplit strings [] c.as_slice-left.result.now 0 e) (sym c.as_slice-ends.ensures.value) bytes in
    subst (λ l. IsSplit strings l c.as_slice-left.result.now 0 c.as_slice-ends.result.now) (sym c.in_ok-found.ensures.items) ends

pub overflow_sub-end : goal.overflow_sub-end
overflow_sub-end c =
    let strings = c.requires.0 in
    let at = subst (λ l. IsSplit strings c.loop-end.found.items c.loop-end.left.now c.loop-end.start l) c.in-Some.ensures.cases.0 (c.loop-end.invariant strings c.requires.1) in
    (next_fits strings _ _ _ _ _ (next_of strings c.loop-end.found.items c.loop-end.left.now c.loop-end.start c.in-Some.end.now c.in-Some.later.now at)).0

pub split_at-requires : goal.split_at-requires
split_at-requires c =
    let strings = c.requires.0 in
    let at = subst (λ l. IsSplit strings c.loop-end.found.items c.loop-end.left.now c.loop-end.start l) c.in-Some.ensures.cases.0 (c.loop-end.invariant strings c.requires.1) in
    (next_fits strings _ _ _ _ _ (next_of strings c.loop-end.found.items c.loop-end.left.now c.loop-end.start c.in-Some.end.now c.in-Some.later.now at)).1

pub loop-end-preserved : goal.loop-end-preserved
loop-end-preserved c strings joins =
    let at = subst (λ l. IsSplit strings c.loop-end.found.items c.loop-end.left.now c.loop-end.start l) c.in-Some.ensures.cases.0 (c.loop-end.invariant strings joins) in
    let next = next_of strings c.loop-end.found.items c.loop-end.left.now c.loop-end.start c.in-Some.end.now c.in-Some.later.now at in
    split_more strings c.loop-end.found.items c.push.new.self.items c.loop-end.left.now _ c.loop-end.start c.in-Some.end.now c.in-Some.later.now _ next c.split_at.ensures.front c.split_at.ensures.back
    c.in_ok-push.ensures.items

pub returns : goal.returns
returns c strings joins =
    let none : length c.loop-end.ends.now ≡ 0 = search rules in
    split_done strings c.loop-end.found.items c.loop-end.left.now c.loop-end.start c.loop-end.ends.now none (c.loop-end.invariant strings joins)
