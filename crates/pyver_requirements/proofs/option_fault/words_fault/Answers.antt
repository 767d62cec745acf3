use Rattle.std.proofs.Common.{◌≡◌, ◌∙◌, ◌<◌, None, Some, List, ℕ, ap, drop, false, length, option_map, rules, sym}
use Rattle.std.proofs.lemmas.List.{take_rest}
use Rattle.std.specs.Char.{is_ascii_whitespace}
use Rattle.pep440_rs.proofs.Blanks.{start_trimmed}
use Rattle.pep440_version.proofs.Reading.Prefixes.{past-stops}
use Rattle.pep440_version.specs.Grammar.{starts}
use Rattle.pep440_version.specs.Reading.{past}
use Rattle.pyver_requirements.proofs.OptionWords.{at_end, behind_blanks, goes_on}
use Rattle.pyver_requirements.specs.LineKinds.{word_step_of}
use Rattle.pyver_requirements.specs.Options.{Awaits, Ends, Taken, Wrong, option_words, words_fault}
use Rattle.pyver_requirements.proofs.option_fault.words_fault.Goals as goal
use Rattle.pyver_requirements.proofs.option_fault.words_fault.Goals.{in-Awaits, in-Taken}

pub loop-rest-init : goal.loop-rest-init
loop-rest-init c =
    let text = c.args.text.now in
    let trimmed = start_trimmed text c.trim_ascii_start-rest.result.now c.trim_ascii_start-rest.ensures.value in
    record {
      same = ap (λ (t : List ℕ). words_fault None (option_words 0 t)) trimmed ∙ ap (words_fault None) (behind_blanks text);
      filled = ap (starts is_ascii_whitespace) trimmed ∙ past-stops is_ascii_whitespace text;
    }

pub returns-in-Wrong : goal.returns-in-Wrong
returns-in-Wrong c =
    let some : 0 < length c.loop-rest.rest.now = search rules in
    goes_on (option_map (λ x. x.now) c.loop-rest.awaited) c.loop-rest.rest.now c.take_word-word.result.now _ some c.loop-rest.invariant.filled c.take_word-word.ensures.value c.loop-rest.invariant.same
    (Wrong c.in-Wrong.fault) (sym c.check_word.ensures ∙ ap word_step_of c.in-Wrong.is)

pub returns-in-Ends : goal.returns-in-Ends
returns-in-Ends c =
    let some : 0 < length c.loop-rest.rest.now = search rules in
    goes_on (option_map (λ x. x.now) c.loop-rest.awaited) c.loop-rest.rest.now c.take_word-word.result.now _ some c.loop-rest.invariant.filled c.take_word-word.ensures.value c.loop-rest.invariant.same
    Ends (sym c.check_word.ensures ∙ ap word_step_of c.in-Ends.is)

pub loop-rest-preserved : goal.loop-rest-preserved
loop-rest-preserved c =
    let rest = c.loop-rest.rest.now in
    let word = c.take_word-word.result.now in
    let later = c.trim_ascii_start-rest-in-loop-rest.result.now in
    let some : 0 < length c.loop-rest.rest.now = search rules in
    let trimmed : later ≡ past is_ascii_whitespace (drop (length word) rest) = start_trimmed _ later c.trim_ascii_start-rest-in-loop-rest.ensures.value ∙ ap (past is_ascii_whitespace) (take_rest rest (length word)) in
    let ends : starts is_ascii_whitespace later ≡ false = ap (starts is_ascii_whitespace) trimmed ∙ past-stops is_ascii_whitespace (drop (length word) rest) in
    elim c.match-check_word.branch [
      | in-Awaits w ↦ record {
        same = ap (λ a. words_fault (option_map (λ x. x.now) a) (option_words 0 later)) w.awaited-is ∙ ap (λ (t : List ℕ). words_fault (Some w.in-Awaits.name.now) (option_words 0 t)) trimmed
            ∙ goes_on (option_map (λ x. x.now) c.loop-rest.awaited) rest word _ some c.loop-rest.invariant.filled c.take_word-word.ensures.value c.loop-rest.invariant.same
            (Awaits w.in-Awaits.name.now) (sym c.check_word.ensures ∙ ap word_step_of w.in-Awaits.is);
        filled = ends;
      }
      | in-Taken w ↦ record {
        same = ap (λ a. words_fault (option_map (λ x. x.now) a) (option_words 0 later)) w.awaited-is ∙ ap (λ (t : List ℕ). words_fault None (option_words 0 t)) trimmed
            ∙ goes_on (option_map (λ x. x.now) c.loop-rest.awaited) rest word _ some c.loop-rest.invariant.filled c.take_word-word.ensures.value c.loop-rest.invariant.same
            Taken (sym c.check_word.ensures ∙ ap word_step_of w.in-Taken.is);
        filled = ends;
      }
    ]

pub returns : goal.returns
returns c =
    let none : length c.loop-rest.rest.now ≡ 0 = search rules in
    c.end_fault.ensures ∙ at_end (option_map (λ x. x.now) c.loop-rest.awaited) c.loop-rest.rest.now _ none c.loop-rest.invariant.same
