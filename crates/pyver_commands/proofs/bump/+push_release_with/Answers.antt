use Rattle.std.proofs.Common.{◌<◌, arith}
use Rattle.pyver_commands.proofs.CommandLaws.{empty_appended, more_appended}
use Rattle.pyver_commands.proofs.bump.+push_release_with.Goals as goal

pub returns-in_ok-push-in-empty-2 : goal.returns-in_ok-push-in-empty-2
returns-in_ok-push-in-empty-2 t c =
    let some : 0 < c.args.index = omega arith in
    empty_appended c.push_release_with.result c.args.index c.args.number c.args.release.now c.args.numbers.now.items c.push-in-empty.new.self.items c.push_release_with.new.numbers.items c.in-empty.len_below some c.in_ok-push-in-empty-2.ensures.items c.push_release_with.ensures

pub returns-in_ok-push-in-len1-up-2 : goal.returns-in_ok-push-in-len1-up-2
returns-in_ok-push-in-len1-up-2 t c =
    let some : 0 < c.args.index = omega arith in
    more_appended c.push_release_with-in-len1-up.result c.args.index c.args.number c.args.release.now c.args.numbers.now.items c.push-in-len1-up.new.self.items c.push_release_with-in-len1-up.new.numbers.items c.in-len1-up.len_at_least some c.in_ok-push-in-len1-up-2.ensures.items c.push_release_with-in-len1-up.ensures
