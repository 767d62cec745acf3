-- What the reader of patterns answers, as the reading from the left computes it.
use Rattle.std.proofs.Common.{◌≡◌, ℕ, List, Bool, Option, Some, None, Result, Ok, Err}
use Rattle.std.specs.Prelude.{IfErr, IfOk, IfSome}
use Rattle.pep440_version.specs.Errors.{ReturnsOutcome, pattern_error_rejection, pattern_kind_of, pattern_rejection_of}
use Rattle.pep440_version.specs.Patterns.{DerivesPattern}
use Rattle.pep440_version.specs.Record.{Record}
use Rattle.pep440_version.specs.Rejections.{PatternRejection, RejectsPattern}
use Rattle.pep440_version.specs.Whole.{read_pattern}
use Rattle.pep440_version.specs.declared.error.VersionPatternParseError.{VersionPatternParseError}
use Rattle.pep440_version.proofs.Reading.Agreement.{only_pattern}
use Rattle.pep440_version.proofs.Rejections.ExactlyOne.{decides_pattern}

refused_reads : (text : List ℕ) (o : Option PatternRejection) → IfSome o (RejectsPattern text) → IfSome o (λ f. read_pattern text ≡ Err f)
refused_reads text None h = tt
refused_reads text (Some f) h = decides_pattern text f h

pub reads_pattern : (text : List ℕ) (result : Result (Record × Bool) VersionPatternParseError) → IfOk result (λ p. DerivesPattern text p.0 p.1)
    → IfErr result (λ e. IfSome (pattern_rejection_of (pattern_kind_of e)) (RejectsPattern text)) → ReturnsOutcome pattern_error_rejection result (read_pattern text)
reads_pattern text (Ok p) found refused = only_pattern text p.0 p.1 found
reads_pattern text (Err e) found refused = refused_reads text (pattern_rejection_of (pattern_kind_of e)) refused
