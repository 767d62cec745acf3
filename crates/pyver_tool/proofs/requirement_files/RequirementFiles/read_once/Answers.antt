use Rattle.std.proofs.Common.{◌∙◌, ap, arith, string_bytes, subst, sym}
use Rattle.pyver_tool.proofs.RunEnds.{step_opened}
use Rattle.pyver_tool.specs.RequirementFiles.{has_path, read_of}
use Rattle.pyver_commands.specs.Sources.{ReadsWhole}
use Rattle.pyver_tool.proofs.requirement_files.RequirementFiles.read_once.Goals as goal

pub returns-in_ok-push_file-in-Ok-clause-read : goal.returns-in_ok-push_file-in-Ok-clause-read
returns-in_ok-push_file-in-Ok-clause-read g c =
    let known = g.F.Files.known c.args.files.now in
    let paths = g.F.Files.path c.args.files.now in
    let name = c.args.name.now in
    let text = c.in-Ok.text.items in
    let read = rw c.in-Ok.is at c.in_ok-text.ensures.read in
    let limits = rw c.in-Ok.is at c.in_ok-text.ensures.limits in
    let gains = c.in_ok-push_file-in-Ok.ensures.gains in
    let count = c.in_ok-push_file-in-Ok.ensures.count in
    step_opened c.args.kind known paths g.R.Read.remaining name (string_bytes c.in_ok-path.path) text c.args.self.now c.push_file.new.self c.args.input.now c.read_by_name.new.input c.utf8.name c.in_ok-path.ensures.path
    (ap (has_path (read_of c.args.self.now)) (sym c.as_str.ensures.value) ∙ sym c.has_path.ensures ∙ c.if-has_path.false)
    (subst (λ k. ReadsWhole k g.R.Read.remaining name c.args.input.now c.read_by_name.new.input text) c.in_ok-path.ensures.kept read)
    (record { read = gains.read; names = gains.names }) (omega (arith, limits.0, count)) (omega (arith, limits.1, count))
