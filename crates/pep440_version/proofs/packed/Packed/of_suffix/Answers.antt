use Rattle.std.proofs.Common.{◌≡◌, ◌∙◌, arith, sym}
use Rattle.pep440_version.specs.Word.{word_of}
use Rattle.pep440_version.proofs.Reading.NormalParts.{packs, short_is}
use Rattle.pep440_version.proofs.packed.Packed.of_suffix.Goals as goal

pub returns-then-not-are_small-clause-none : goal.returns-then-not-are_small-clause-none
returns-then-not-are_small-clause-none c = short_is c.args.numbers c.args.count c.requires.padded ∙ sym c.are_small.ensures ∙ c.if-not-are_small.true

pub returns-clause-some : goal.returns-clause-some
returns-clause-some c =
    let sum : c.pack_word.result ≡ word_of c.args.numbers (c.args.class, c.args.number) = omega arith in
    let short = short_is c.args.numbers c.args.count c.requires.padded ∙ sym c.are_small.ensures ∙ c.if-not-are_small.false in
    packs c.args.numbers c.args.count c.args.class c.args.number c.pack_word.result c.requires.padded c.requires.known c.requires.small short sum
