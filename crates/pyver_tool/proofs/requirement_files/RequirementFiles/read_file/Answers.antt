use Rattle.std.proofs.Common.{Some, subst}
use Rattle.pyver_tool.proofs.RunEnds.{step_refused}
use Rattle.pyver_tool.specs.RequirementFiles.{StepsOrFailsOpening}
use Rattle.pyver_findings.specs.Views.{named_file_of}
use Rattle.pyver_tool.proofs.requirement_files.RequirementFiles.read_file.Goals as goal

pub returns-in_ok-push_unopened_file-in-Some-clause-read : goal.returns-in_ok-push_unopened_file-in-Some-clause-read
returns-in_ok-push_unopened_file-in-Some-clause-read g c =
    let known = g.F.Files.known c.args.files.now in
    let paths = g.F.Files.path c.args.files.now in
    let step = rw c.in-Some.is at c.in_ok-read_next.ensures.read in
    step_refused c.args.kind known paths g.R.Read.remaining (named_file_of c.args.named) c.in-Some.failure c.args.self.now c.read_next.new.self c.push_unopened_file.new.self c.args.input.now c.read_next.new.input c.requires
    (subst (λ n. StepsOrFailsOpening c.args.kind known paths g.R.Read.remaining n c.args.self.now c.read_next.new.self c.args.input.now c.read_next.new.input (Some c.in-Some.failure)) c.as_slice.ensures.value step) c.in_ok-push_unopened_file-in-Some.ensures
