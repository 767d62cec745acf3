use Rattle.std.proofs.Common.{◌∙◌, ◌-◌, ap, arith, drop, length, take}
use Rattle.std.proofs.Math.Seq.{take_all}
use Rattle.std.proofs.lemmas.List.{length-drop}
use Rattle.std.specs.Slice.Scan.{big_endian}
use Rattle.pep440_compiled.proofs.byte_order.read_last_word.Goals as goal

pub returns : goal.returns
returns c =
    let start = length c.args.bytes.now - 8 in
    c.read_word.ensures ∙ ap (λ l. big_endian 0 (take 8 l)) (take_all (length c.args.bytes.now - start) (drop start c.args.bytes.now) (omega (arith, length-drop start c.args.bytes.now)))
