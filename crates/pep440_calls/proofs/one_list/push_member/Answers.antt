use Rattle.std.proofs.Common.{◌∙◌}
use Rattle.pep440_rs.specs.Operators.{operator_text}
use Rattle.pep440_calls.specs.CallResults.{version_string}
use Rattle.pep440_calls.proofs.Placed.{pushed}
use Rattle.pep440_calls.proofs.one_list.push_member.Goals as goal

pub returns : goal.returns
returns c = λ strings joins.
    pushed (operator_text c.args.member.now.operator) (version_string c.args.member.now) strings c.as_bytes.result.now c.as_bytes-2.result.now c.args.found.now.bytes.items c.push.new.self.bytes.items c.push-2.new.self.bytes.items
    c.args.found.now.ends.items c.push.new.self.ends.items c.push-2.new.self.ends.items (c.as_bytes.ensures.value ∙ c.in_ok-operator.ensures) (c.as_bytes-2.ensures.value ∙ c.in_ok-version.ensures)
    c.in_ok-push.ensures.bytes c.in_ok-push.ensures.ends c.in_ok-push-2.ensures.bytes c.in_ok-push-2.ensures.ends joins
