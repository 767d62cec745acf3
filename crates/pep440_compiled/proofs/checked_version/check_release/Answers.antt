use Rattle.std.proofs.Common.{◌∙◌, ◌+◌, ◌-◌, ◌++◌, ◌∷◌, [], ◌≡◌, arith, length, refl, sym, true≢false}
use Rattle.std.proofs.lemmas.List.Elements.{recursion_from_All}
use Rattle.pep440_compiled.proofs.Checking.{ends_by_count, ends_first, may_end_there, one_more, release_tested, all_read, one_read}
use Rattle.pep440_compiled.proofs.Loops.{end_of_numbers, next_number, not_nil, whole_number}
use Rattle.pep440_compiled.proofs.Rewritten.{coded_again, none_coded, one_coded, one_counted}
use Rattle.pep440_compiled.proofs.checked_version.check_release.Goals as goal
use Rattle.pep440_keys.specs.SortKeys.{needed_bytes, number_bytes}
use Rattle.pep440_version.specs.Record.{Fits}
use Rattle.pep440_version.specs.Key.Trim.{trim}

pub loop-rest-init : goal.loop-rest-init
loop-rest-init c = record {
  seen = [];
  fit = tt;
  reads = λ xs rest p e. (xs, p, refl, e);
  coded = refl;
  ends = ends_first c.args.zeros;
}

pub loop-rest-preserved : goal.loop-rest-preserved
loop-rest-preserved c =
    let s = c.loop-rest.invariant in
    let left = c.loop-rest.left.now in
    let rest = c.in-Some.rest.now in
    let tested = c.in-Some.ensures.exact in
    let number = tested.0 in
    record {
      seen = s.seen ++ number ∷ [];
      fit = one_more Fits s.seen number s.fit tested.1;
      reads = λ numbers behind all e.
          let later = needed_bytes number ++ rest in
          let before = s.reads numbers behind all e in
          let next = next_number Fits (1 + length (needed_bytes number)) left later behind before.0 before.1 tested.3 (λ z. omega (arith, z)) before.3 in
          let same = one_counted number next.number (length (needed_bytes number)) later _ _ tested.1 next.holds refl (omega (arith, next.count)) refl next.bytes in (
            next.more,
            next.all,
            one_read numbers s.seen before.0 next.more (s.seen ++ number ∷ []) next.number number before.2 next.split same refl,
            c.in-Some.ensures.found next.number _ (omega (arith, next.count, tested.2)) (whole_number (1 + length (needed_bytes number)) left later behind before.0 next tested.3),
          );
      coded = one_coded (number_bytes 1) c.args.bytes.now left rest s.seen (s.seen ++ number ∷ []) number s.coded tested.3 refl;
      ends = ends_by_count c.args.zeros s.seen number 2 tested.1 (omega (arith, tested.2));
    }

pub loop-first-init : goal.loop-first-init
loop-first-init c = c.loop-rest.invariant

pub returns-then-not-may_end-clause-found : goal.returns-then-not-may_end-clause-found
returns-then-not-may_end-clause-found c release rest fit some z e =
    let s = c.loop-first.invariant in
    let left = s.reads (trim release) rest (recursion_from_All Fits (trim release) fit) e in
    let end = end_of_numbers c.in-Some-split_first.first.now c.loop-first.left.now c.in-Some-split_first.later.now rest left.0 c.in-Some-split_first.ensures.cases.0 c.if-first-eq0.true left.3 in
    absurd (true≢false (sym (may_end_there s.seen release c.args.zeros c.loop-first.may_end s.ends (all_read (trim release) s.seen left.0 left.2 end.0) z some) ∙ c.if-not-may_end.true))

pub returns-then-first-eq0-clause-found : goal.returns-then-first-eq0-clause-found
returns-then-first-eq0-clause-found c release rest fit some z e =
    let s = c.loop-first.invariant in
    let left = s.reads (trim release) rest (recursion_from_All Fits (trim release) fit) e in
    (end_of_numbers c.in-Some-split_first.first.now c.loop-first.left.now c.in-Some-split_first.later.now rest left.0 c.in-Some-split_first.ensures.cases.0 c.if-first-eq0.true left.3).1

pub returns-then-first-eq0-clause-exact : goal.returns-then-first-eq0-clause-exact
returns-then-first-eq0-clause-exact c =
    let s = c.loop-first.invariant in
    release_tested c.args.bytes.now c.in-Some-split_first.later.now s.seen c.args.zeros s.fit (s.ends.trimmed c.if-not-may_end.false) (s.ends.some c.if-not-may_end.false)
    (none_coded (number_bytes 1) c.args.bytes.now c.loop-first.left.now c.in-Some-split_first.later.now s.seen c.in-Some-split_first.first.now s.coded c.in-Some-split_first.ensures.cases.0 c.if-first-eq0.true)

pub returns-in_err-rest-clause-found : goal.returns-in_err-rest-clause-found
returns-in_err-rest-clause-found c release rest fit some z e =
    let left = c.loop-first.invariant.reads (trim release) rest (recursion_from_All Fits (trim release) fit) e in
    let next = next_number Fits c.in-Some-split_first.first.now c.loop-first.left.now c.in-Some-split_first.later.now rest left.0 left.1 c.in-Some-split_first.ensures.cases.0 c.if-first-eq0.false left.3 in
    absurd (c.in_err-rest.ensures.found next.number _ (omega (arith, next.count)) next.bytes)

pub loop-first-preserved : goal.loop-first-preserved
loop-first-preserved c =
    let s = c.loop-first.invariant in
    let first = c.in-Some-split_first.first.now in
    let later = c.in-Some-split_first.later.now in
    let tested = c.in_ok-rest.ensures.exact in
    let number = tested.0 in
    record {
      seen = s.seen ++ number ∷ [];
      fit = one_more Fits s.seen number s.fit tested.1;
      reads = λ numbers rest all e.
          let left = s.reads numbers rest all e in
          let next = next_number Fits first c.loop-first.left.now later rest left.0 left.1 c.in-Some-split_first.ensures.cases.0 c.if-first-eq0.false left.3 in
          let count : first - 1 ≡ length (needed_bytes next.number) = omega (arith, next.count) in
          let same = one_counted number next.number (first - 1) later _ _ tested.1 next.holds tested.2 count tested.3 next.bytes in
          (next.more, next.all, one_read numbers s.seen left.0 next.more (s.seen ++ number ∷ []) next.number number left.2 next.split same refl, c.in_ok-rest.ensures.found next.number _ count next.bytes);
      coded =
          let code = coded_again 1 c.loop-first.left.now later c.in_ok-rest.rest.now first (first - 1) number c.in-Some-split_first.ensures.cases.0 (omega (arith, c.if-first-eq0.false)) tested.2 tested.3 in
          one_coded (number_bytes 1) c.args.bytes.now c.loop-first.left.now c.in_ok-rest.rest.now s.seen (s.seen ++ number ∷ []) number s.coded code refl;
      ends = ends_by_count c.args.zeros s.seen number first tested.1 (omega (arith, c.if-first-eq0.false, tested.2));
    }

pub returns-clause-found : goal.returns-clause-found
returns-clause-found c release rest fit some z e =
    let left = c.loop-first.invariant.reads (trim release) rest (recursion_from_All Fits (trim release) fit) e in
    not_nil (number_bytes 1) c.loop-first.left.now rest left.0 c.in_default-split_first.ensures.cases left.3
