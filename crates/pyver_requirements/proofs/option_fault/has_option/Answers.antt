use Rattle.std.proofs.Common.{◌≡◌, ◌∙◌, ◌<◌, ◌&&◌, List, ℕ, ap, drop, false, inl, inr, length, not, rules, sym, true}
use Rattle.std.proofs.lemmas.List.{take_rest}
use Rattle.std.specs.Char.{is_ascii_whitespace}
use Rattle.pep440_rs.proofs.Blanks.{start_trimmed}
use Rattle.pep440_version.proofs.Reading.Prefixes.{past-stops}
use Rattle.pep440_version.specs.Grammar.{starts}
use Rattle.pep440_version.specs.Reading.{past}
use Rattle.pyver_requirements.proofs.OptionWords.{behind_blanks, found_here, found_later, not_found}
use Rattle.pyver_requirements.specs.LineKinds.{word_step_of}
use Rattle.pyver_requirements.specs.Options.{Awaits, Ends, Taken, Wrong, is_among, option_name, option_words, names_option}
use Rattle.pyver_requirements.proofs.option_fault.has_option.Goals as goal
use Rattle.pyver_requirements.proofs.option_fault.has_option.Goals.{in-Awaits, in-Taken}

pub loop-rest-init : goal.loop-rest-init
loop-rest-init c =
    let option = c.args.option.now in
    let text = c.options_in.result.now in
    let trimmed = start_trimmed text c.trim_ascii_start-rest.result.now c.trim_ascii_start-rest.ensures.value in
    record {
      same = ap (λ (t : List ℕ). is_among option false (option_words 0 t)) trimmed ∙ ap (is_among option false) (behind_blanks text)
          ∙ ap (λ (t : List ℕ). is_among option false (option_words 0 t)) c.options_in.ensures;
      filled = ap (starts is_ascii_whitespace) trimmed ∙ past-stops is_ascii_whitespace text;
    }

pub returns-then-is_option : goal.returns-then-is_option
returns-then-is_option c =
    let some : 0 < length c.loop-rest.rest.now = search rules in
    sym (found_here c.args.option.now c.loop-rest.is_value c.loop-rest.rest.now c.take_word-word.result.now _ some c.loop-rest.invariant.filled c.take_word-word.ensures.value c.loop-rest.invariant.same
    (ap (λ (o : List ℕ). not c.loop-rest.is_value && names_option o (option_name c.take_word-word.result.now)) (sym c.as_bytes.ensures.value) ∙ sym c.is_option.ensures ∙ c.if-is_option.true))

pub returns-in-Wrong : goal.returns-in-Wrong
returns-in-Wrong c =
    let some : 0 < length c.loop-rest.rest.now = search rules in
    let later = found_later c.args.option.now c.loop-rest.is_value c.loop-rest.rest.now c.take_word-word.result.now _ some c.loop-rest.invariant.filled c.take_word-word.ensures.value c.loop-rest.invariant.same
    (ap (λ (o : List ℕ). not c.loop-rest.is_value && names_option o (option_name c.take_word-word.result.now)) (sym c.as_bytes.ensures.value) ∙ sym c.is_option.ensures ∙ c.if-is_option.false) in
    elim c.in-Wrong.is [
      | inl w ↦ later (Wrong w.0) (sym c.check_either.ensures ∙ ap word_step_of w.1)
      | inr e ↦ later Ends (sym c.check_either.ensures ∙ ap word_step_of e)
    ]

pub loop-rest-preserved : goal.loop-rest-preserved
loop-rest-preserved c =
    let option = c.args.option.now in
    let rest = c.loop-rest.rest.now in
    let word = c.take_word-word.result.now in
    let next = c.trim_ascii_start-rest-in-loop-rest.result.now in
    let some : 0 < length c.loop-rest.rest.now = search rules in
    let trimmed : next ≡ past is_ascii_whitespace (drop (length word) rest) = start_trimmed _ next c.trim_ascii_start-rest-in-loop-rest.ensures.value ∙ ap (past is_ascii_whitespace) (take_rest rest (length word)) in
    let later = found_later option c.loop-rest.is_value rest word _ some c.loop-rest.invariant.filled c.take_word-word.ensures.value c.loop-rest.invariant.same
    (ap (λ (o : List ℕ). not c.loop-rest.is_value && names_option o (option_name c.take_word-word.result.now)) (sym c.as_bytes.ensures.value) ∙ sym c.is_option.ensures ∙ c.if-is_option.false) in
    record {
      same = elim c.match-check_either.branch [
        | in-Awaits w ↦ ap (λ v. is_among option v (option_words 0 next)) w.is_value-is ∙ ap (λ (t : List ℕ). is_among option true (option_words 0 t)) trimmed
            ∙ later (Awaits w.in-Awaits.field-0.now) (sym c.check_either.ensures ∙ ap word_step_of w.in-Awaits.is)
        | in-Taken w ↦ ap (λ v. is_among option v (option_words 0 next)) w.is_value-is ∙ ap (λ (t : List ℕ). is_among option false (option_words 0 t)) trimmed
            ∙ later Taken (sym c.check_either.ensures ∙ ap word_step_of w.in-Taken.is)
      ];
      filled = ap (starts is_ascii_whitespace) trimmed ∙ past-stops is_ascii_whitespace (drop (length word) rest);
    }

pub returns : goal.returns
returns c =
    let none : length c.loop-rest.rest.now ≡ 0 = search rules in
    sym (not_found c.args.option.now c.loop-rest.is_value c.loop-rest.rest.now _ none c.loop-rest.invariant.same)
