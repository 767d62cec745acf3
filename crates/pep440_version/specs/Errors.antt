-- What an error reports, apart from its address in memory.
use Rattle.std.specs.Prelude.{◌≡◌, Option, option_map, Some, None, Result, Ok, Err, string_bytes, IfSome}
use Rattle.std.specs.Result.{result_map_both}
use Rattle.pep440_version.specs.declared.error.ErrorKind.{ErrorKind}
use Rattle.pep440_version.specs.declared.error.ErrorKind.TheVariants as kind
use Rattle.pep440_version.specs.declared.error.VersionParseError.{VersionParseError}
use Rattle.pep440_version.specs.declared.error.PatternErrorKind.{PatternErrorKind}
use Rattle.pep440_version.specs.declared.error.PatternErrorKind.TheVariants as pattern
use Rattle.pep440_version.specs.declared.error.VersionPatternParseError.{VersionPatternParseError}
use Rattle.pep440_version.specs.Reading.{Read}
use Rattle.pep440_version.specs.Rejections.{PatternRejection, OfVersion, WildcardNotTrailing, Rejection, Wildcard, NumberTooBig, NoLeadingNumber, NoLeadingReleaseNumber, LocalEmpty, UnexpectedEnd}

-- the kind of an error
abbrev pub kind_of : VersionParseError → ErrorKind
kind_of e = e.kind

-- the reason that a kind stands for, or None if out of memory
abbrev pub rejection_of : ErrorKind → Option Rejection
rejection_of kind.Wildcard = Some Wildcard
rejection_of (kind.NumberTooBig bytes) = Some (NumberTooBig bytes.items)
rejection_of kind.NoLeadingNumber = Some NoLeadingNumber
rejection_of kind.NoLeadingReleaseNumber = Some NoLeadingReleaseNumber
rejection_of (kind.LocalEmpty c) = Some (LocalEmpty c)
rejection_of (kind.UnexpectedEnd v r) = Some (UnexpectedEnd (string_bytes v) (string_bytes r))
rejection_of kind.OutOfMemory = None

-- the reason of an error, or None if out of memory
abbrev pub error_rejection : VersionParseError → Option Rejection
error_rejection e = rejection_of (kind_of e)

-- the kind of a pattern's error
abbrev pub pattern_kind_of : VersionPatternParseError → PatternErrorKind
pattern_kind_of e = e.kind

-- the reason that a pattern's kind stands for, or None if out of memory
abbrev pub pattern_rejection_of : PatternErrorKind → Option PatternRejection
pattern_rejection_of (pattern.Version e) = option_map OfVersion (rejection_of (kind_of e))
pattern_rejection_of pattern.WildcardNotTrailing = Some WildcardNotTrailing

-- the reason of a pattern's error, or None if out of memory
abbrev pub pattern_error_rejection : VersionPatternParseError → Option PatternRejection
pattern_error_rejection e = pattern_rejection_of (pattern_kind_of e)

-- a parser returns what the reading gives, unless out of memory; `refusal` is the reason of an error
abbrev pub ReturnsOutcome : {X E F : Type 0} → (E → Option F) → Result X E → Result X F → Type 0
ReturnsOutcome refusal (Ok x) read = read ≡ Ok x
ReturnsOutcome refusal (Err e) read = IfSome (refusal e) (λ f. read ≡ Err f)

-- an inner parser returns what the reading gives, unless out of memory; its value is seen by view
abbrev pub ReturnsOutcomeBy : {X Y : Type 0} → (X → Y) → Result X ErrorKind → Read Y → Type 0
ReturnsOutcomeBy view result read = ReturnsOutcome rejection_of (result_map_both view (λ e. e) result) read
