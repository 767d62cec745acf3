use Rattle.std.proofs.Common.{map, refl}
use Rattle.pyver_commands.proofs.InputOutput.{printed_is, sorts_parts}
use Rattle.pyver_commands.specs.Sources.VersionLineViews.{input_parts_of, version_line_of}
use Rattle.pyver_commands.proofs.sort.sort_versions.Goals as goal

pub returns : goal.returns
returns c =
    let sorted = map version_line_of c.in_ok-sorted.sorted.items in
    let printed = printed_is c.args.options sorted c.in_ok-texts.texts.items c.args.lines.invalid.items c.extend_from_slice.new.self.items c.take_last_texts.result.now c.args.lines.header.items c.push_lines.new.output.items
    (rw c.as_slice.ensures.value at c.in_ok-texts.ensures) (rw c.as_slice-2.ensures.value at c.in_ok-extend_from_slice.ensures.items) (rw c.as_slice-3.ensures.value at c.take_last_texts.ensures) c.in_ok-push_lines.ensures in
    sorts_parts c.args.options (input_parts_of c.args.lines) c.args.lines.versions.items c.in_ok-sorted.sorted.items _ refl c.in_ok-sorted.ensures (λ i. record { output = printed i; errors = c.args.lines.errors.items; status = 0 })
