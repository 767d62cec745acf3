use Rattle.std.proofs.Common.{◌∙◌, ◌++◌, [], ap, codes, cond, ne_eqb, sym}
use Rattle.std.specs.Fmt.{decimal}
use Rattle.pyver_commands.proofs.InputOutput.{three_appended}
use Rattle.pyver_commands.proofs.sources.invalid_lines.push_count.Goals as goal

pub returns : goal.returns
returns c =
    let start = c.args.start.now in
    let old = c.args.errors.now.items in
    three_appended old start (decimal c.args.count) c.as_bytes-2.result.now (codes "\n") _ _ _ (c.in_ok-extend_from_slice.ensures.items ∙ ap (λ t. old ++ t) c.as_bytes.ensures.value) c.in_ok-extend_from_slice-2.ensures.items
    (c.as_bytes-2.ensures.value ∙ c.in_ok-to_string.ensures.ok) c.in_ok-push.ensures.items
    ∙ ap (λ b. old ++ cond b [] (start ++ (decimal c.args.count ++ codes "\n"))) (sym (ne_eqb c.args.count 0 c.if-count-eq0.false))
