use Rattle.std.proofs.Common.{◌≡◌, None, false, length, option_map}
use Rattle.std.specs.Char.{is_ascii_whitespace}
use Rattle.pep440_version.specs.Grammar.{starts}
use Rattle.pyver_requirements.specs.Options.{option_words, words_fault}
use Rattle.pyver_requirements.proofs.option_fault.words_fault.Given as goal

-- what comes of the words that are left is the whole
abbrev pub invariant-loop-rest : goal.invariant-loop-rest
invariant-loop-rest l = record {
  same : words_fault (option_map (λ x. x.now) l.awaited) (option_words 0 l.rest) ≡ words_fault None (option_words 0 l.text);
  filled : starts is_ascii_whitespace l.rest ≡ false;
}

abbrev pub decreases-loop-rest : goal.decreases-loop-rest
decreases-loop-rest l = length l.rest
