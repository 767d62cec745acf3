use Rattle.std.proofs.Common.{◌≡◌, ◌+◌, ap, arith, length, refl}
use Rattle.pyver_commands.proofs.SourceReads.{front_all, front_more, front_none, keeps_same, less_left, lines_left, size_left}
use Rattle.pyver_commands.specs.Sources.SourceViews.{origin_of}
use Rattle.pyver_commands.proofs.sources.version_line.VersionLines.push_source.Goals as goal

pub loop-rest-init : goal.loop-rest-init
loop-rest-init c = record {
  front = front_none c.args.options (origin_of c.args.origin) c.args.text _ refl;
  lines = omega arith;
  faults = omega arith;
}

pub push_line-requires : goal.push_line-requires
push_line-requires c =
    let left : size_left c.loop-rest.rest ≡ length c.in-Some.left.now + 1 = ap size_left c.in-Some.is in
    (omega (arith, left, c.loop-rest.invariant.faults, c.requires), omega (arith, left, c.loop-rest.invariant.lines, c.requires))

pub loop-rest-preserved : goal.loop-rest-preserved
loop-rest-preserved c =
    let left : size_left c.loop-rest.rest ≡ length c.in-Some.left.now + 1 = ap size_left c.in-Some.is in
    let less = less_left c.in-Some.left c.split_line.result.1 c.split_line.ensures.shorter in
    record {
      front = front_more c.args.options (origin_of c.args.origin) c.args.text.now c.loop-rest.rest c.in-Some.left _ c.split_line.result.1 _ c.loop-rest.self c.push_line.new.self c.in-Some.is c.split_line.ensures.lines
          c.in_ok-push_line.ensures.count c.in_ok-push_line.ensures.lines c.loop-rest.invariant.front;
      lines = omega (arith, left, less, c.in_ok-push_line.ensures.count, c.loop-rest.invariant.lines);
      faults = omega (arith, left, less, c.in_ok-push_line.ensures.faults, c.loop-rest.invariant.faults);
    }

pub returns-clause-lines : goal.returns-clause-lines
returns-clause-lines c = λ lines k.
    front_all c.args.options (origin_of c.args.origin) c.args.text.now c.loop-rest.rest _ c.loop-rest.self (ap lines_left c.in_default.is) c.loop-rest.invariant.front lines
    (keeps_same c.args.options c.args.self.now _ (record { header = refl; versions = refl; invalid = refl; fault_count = refl; errors = refl }) lines k)
