use Rattle.std.proofs.Common.{rules, ◌≡◌, ◌∙◌, true, false, ap, arith, inr, map, refl, string_bytes, subst, sym}
use Rattle.cli_io.proofs.Bytes.{WroteBeginning-none}
use Rattle.pep440_tool.specs.AnswerValues.{answer_value}
use Rattle.pep440_tool.specs.Commands.{IsAnswer, request_of_words, reads_input}
use Rattle.pep440_tool.specs.Runs.{TookInput}
use Rattle.pep440_tool.proofs.Runs.{ends_answered, ends_cut, ends_refused}
use Rattle.pep440_tool.proofs.program.run.Goals as goal

pub returns-in-Err-Io : goal.returns-in-Err-Io
returns-in-Err-Io g c =
    let reads : reads_input (request_of_words (map string_bytes c.args.words.now)) ≡ true = ap reads_input (sym c.parse-command.ensures) ∙ sym c.reads_input.ensures ∙ c.if-reads_input.true in
    record {
      ends = ends_refused g.R.Read.remaining g.W.Write.contents (map string_bytes c.args.words.now) c.args.reader.now c.read_whole.new.reader c.args.writer.now c.args.writer.now 4 (inr refl) (WroteBeginning-none _ _);
      memory = λ three. absurd (omega (arith, three));
      unread = λ no. let both : true ≡ false = sym reads ∙ no in cc both;
    }

pub returns-in-Err-OutOfMemory-clause-ends : goal.returns-in-Err-OutOfMemory-clause-ends
returns-in-Err-OutOfMemory-clause-ends g c =
    ends_refused g.R.Read.remaining g.W.Write.contents (map string_bytes c.args.words.now) c.args.reader.now c.read_whole.new.reader c.args.writer.now c.refuse.new.writer c.refuse.result c.refuse.ensures.status c.refuse.ensures.beginning

pub returns-in_default-clause-ends : goal.returns-in_default-clause-ends
returns-in_default-clause-ends g c =
    ends_refused g.R.Read.remaining g.W.Write.contents (map string_bytes c.args.words.now) c.args.reader.now c.if-reads_input.reader c.args.writer.now c.refuse-in_default.new.writer c.refuse-in_default.result c.refuse-in_default.ensures.status c.refuse-in_default.ensures.beginning

pub returns-in-Ok-write_whole-clause-ends : goal.returns-in-Ok-write_whole-clause-ends
returns-in-Ok-write_whole-clause-ends g c =
    let words = map string_bytes c.args.words.now in
    let took : TookInput g.R.Read.remaining (reads_input (request_of_words (map string_bytes c.args.words.now))) c.args.reader.now c.if-reads_input.reader c.if-reads_input.input.items = search rules in
    let is = subst (λ i. IsAnswer (request_of_words words) i (answer_value c.in-Ok-answer.answer)) c.as_slice.ensures.value (subst (λ k. IsAnswer k c.as_slice.result.now (answer_value c.in-Ok-answer.answer)) c.parse-command.ensures c.in-Ok-answer.ensures.answer) in
    ends_answered g.R.Read.remaining g.W.Write.contents words c.args.reader.now c.if-reads_input.reader c.args.writer.now c.write_whole.new.writer c.in-Ok-answer.answer.status c.if-reads_input.input.items took (answer_value c.in-Ok-answer.answer) is
    refl c.in-Ok-answer.ensures.known (rw c.as_slice-2.ensures.value at c.in-Ok-write_whole.ensures.whole)

pub returns-clause-ends : goal.returns-clause-ends
returns-clause-ends g c =
    let words = map string_bytes c.args.words.now in
    let took : TookInput g.R.Read.remaining (reads_input (request_of_words (map string_bytes c.args.words.now))) c.args.reader.now c.if-reads_input.reader c.if-reads_input.input.items = search rules in
    let is = subst (λ i. IsAnswer (request_of_words words) i (answer_value c.in-Ok-answer.answer)) c.as_slice.ensures.value (subst (λ k. IsAnswer k c.as_slice.result.now (answer_value c.in-Ok-answer.answer)) c.parse-command.ensures c.in-Ok-answer.ensures.answer) in
    ends_cut g.R.Read.remaining g.W.Write.contents words c.args.reader.now c.if-reads_input.reader c.args.writer.now c.write_whole.new.writer 4 c.if-reads_input.input.items took (answer_value c.in-Ok-answer.answer) is
    refl (rw c.as_slice-2.ensures.value at c.write_whole.ensures.beginning)
