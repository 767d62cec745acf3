use Rattle.std.proofs.Common.{rules, ◌≡◌, ◌<◌, ◌++◌, ◌∙◌, ◌==◌, ap, length, not}
use Rattle.pep440_compiled.proofs.SetMerging.{after_low, end_bytes, ends_named, first_gap, start_bytes, two_passed}
use Rattle.pep440_compiled.proofs.set_operations.ends_in_key.Goals as goal
use Rattle.pep440_compiled.specs.SetBytes.{set_bytes, sized_bytes}

pub returns-then-is_empty-clause-found : goal.returns-then-is_empty-clause-found
returns-then-is_empty-clause-found c end s all fits e =
    let at = c.loop-left.invariant.keys end s all fits e in
    let read = c.in_ok-high.ensures.found (end_bytes at.last) (set_bytes at.more) at.fits at.left_is in
    let none : length c.in_ok-high.rest.now ≡ 0 = search rules in
    let is : (length c.in_ok-high.high.now == 0) ≡ c.is_empty-then-is_empty.result = search rules in
    let named = ends_named end s c.args.keys.now c.loop-left.left.now c.in_ok-high.high.now c.in_ok-high.rest.now at read.0 read.1 none in
    (λ b. named.0 (ap not is ∙ b), λ b. named.1 (ap not is ∙ b))

pub returns-in_err-later-clause-found : goal.returns-in_err-later-clause-found
returns-in_err-later-clause-found c end s all fits e =
    let at = c.loop-left.invariant.keys end s all fits e in
    let read = c.in_ok-high.ensures.found (end_bytes at.last) (set_bytes at.more) at.fits at.left_is in
    let some : 0 < length c.in_ok-high.rest.now = search rules in
    let first = first_gap c.in_ok-high.rest.now at.more some at.sized read.1 in
    absurd (c.in_err-later.ensures.found (start_bytes first.first.0) (sized_bytes (end_bytes first.first.1) ++ set_bytes first.more) first.sized.0 (after_low c.in_ok-high.rest.now at.more first))

pub loop-left-preserved : goal.loop-left-preserved
loop-left-preserved c = record {
  keys = λ end s all fits e.
      let at = c.loop-left.invariant.keys end s all fits e in
      let read = c.in_ok-high.ensures.found (end_bytes at.last) (set_bytes at.more) at.fits at.left_is in
      let some : 0 < length c.in_ok-high.rest.now = search rules in
      let first = first_gap c.in_ok-high.rest.now at.more some at.sized read.1 in
      let passed = c.in_ok-later.ensures.found (start_bytes first.first.0) (sized_bytes (end_bytes first.first.1) ++ set_bytes first.more) first.sized.0 (after_low c.in_ok-high.rest.now at.more first) in
      two_passed end s c.args.keys.now c.loop-left.left.now c.in_ok-high.rest.now c.in_ok-later.later.now at first read.1 passed.1;
  shorter = search rules;
}
