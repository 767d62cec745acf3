use Rattle.std.proofs.Common.{◌≡◌, ◌<◌, length, rules}
use Rattle.pep440_compiled.proofs.Checking.{all_read, one_read}
use Rattle.pep440_compiled.proofs.Listed.{first_member, no_zero_first, none_left}
use Rattle.pep440_compiled.proofs.list_members.decode_members.Goals as goal

pub returns-in_default : goal.returns-in_default
returns-in_default c list all e =
    let left = c.loop-left.invariant list all e in
    let some : 0 < length c.loop-left.left.now = search rules in
    let first = first_member c.loop-left.left.now left.0 some left.1 left.2 in
    c.in_default.ensures.found first.member _ first.parsed (no_zero_first first.more) first.bytes

pub returns-in_default-2 : goal.returns-in_default-2
returns-in_default-2 c list all e =
    let left = c.loop-left.invariant list all e in
    let some : 0 < length c.loop-left.left.now = search rules in
    let first = first_member c.loop-left.left.now left.0 some left.1 left.2 in
    let view = c.in-Some.ensures.found first.member _ first.parsed (no_zero_first first.more) first.bytes in
    let same = c.in_ok-specifier.ensures first.member first.parsed view.0 view.1 in
    absurd (cc)

pub loop-left-preserved : goal.loop-left-preserved
loop-left-preserved c list all e =
    let left = c.loop-left.invariant list all e in
    let some : 0 < length c.loop-left.left.now = search rules in
    let first = first_member c.loop-left.left.now left.0 some left.1 left.2 in
    let view = c.in-Some.ensures.found first.member _ first.parsed (no_zero_first first.more) first.bytes in
    let found = c.in_ok-specifier.ensures first.member first.parsed view.0 view.1 in
    let same : c.in-Some-2.specifier ≡ first.member = cc in
    (first.more, first.all, view.2, one_read list c.loop-left.members.items left.0 first.more c.push.new.self.items first.member c.in-Some-2.specifier left.3 first.split same c.in_ok-push.ensures.items)

pub returns : goal.returns
returns c list all e =
    let left = c.loop-left.invariant list all e in
    let none : length c.loop-left.left.now ≡ 0 = search rules in
    all_read list c.loop-left.members.items left.0 left.3 (none_left c.loop-left.left.now left.0 none left.2)
