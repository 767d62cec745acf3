use Rattle.std.proofs.Common.{◌≡◌, false, length}
use Rattle.std.specs.Char.{is_ascii_whitespace}
use Rattle.pep440_version.specs.Grammar.{starts}
use Rattle.pyver_requirements.specs.Options.{has_option, is_among, option_words}
use Rattle.pyver_requirements.proofs.option_fault.has_option.Given as goal

-- the words that are left decide
abbrev pub invariant-loop-rest : goal.invariant-loop-rest
invariant-loop-rest l = record {
  same : is_among l.option l.is_value (option_words 0 l.rest) ≡ has_option l.option l.text;
  filled : starts is_ascii_whitespace l.rest ≡ false;
}

abbrev pub decreases-loop-rest : goal.decreases-loop-rest
decreases-loop-rest l = length l.rest
