-- The messages of the errors. Nothing is stated of a number that is not ASCII digits; no parser returns one.
use Rattle.std.specs.Prelude.{ℕ, List, ◌++◌, Option, Some, None, codes, if◌then◌else◌, decimal}
use Rattle.std.specs.Char.{is_ascii_digit, encode_utf8}
use Rattle.std.specs.List.{list_all}
use Rattle.pep440_version.specs.declared.change.ChangeError.{ChangeError}
use Rattle.pep440_version.specs.declared.change.ChangeError.TheVariants as change
use Rattle.pep440_version.specs.Rejections.{Rejection, Wildcard, NumberTooBig, NoLeadingNumber, NoLeadingReleaseNumber, LocalEmpty, UnexpectedEnd, PatternRejection, OfVersion, WildcardNotTrailing}

-- the message of a reason
abbrev pub rejection_text : Rejection → List ℕ
rejection_text Wildcard = codes "wildcards are not allowed in a version"
rejection_text (NumberTooBig digits) = codes "expected number less than or equal to 18446744073709551615, but number found in \"" ++ (digits ++ codes "\" exceeds it")
rejection_text NoLeadingNumber = codes "expected version to start with a number, but no leading ASCII digits were found"
rejection_text NoLeadingReleaseNumber = codes "expected version to have a non-empty release component after an epoch, but no ASCII digits after the epoch were found"
rejection_text (LocalEmpty c) = codes "found a `" ++ (encode_utf8 c ++ (codes "` indicating the start of a local component in a version, but did not find any alphanumeric ASCII segment following the `"
    ++ (encode_utf8 c ++ codes "`")))
rejection_text (UnexpectedEnd version remaining) = codes "after parsing `" ++ (version ++ (codes "`, found `" ++ (remaining ++ codes "`, which is not part of a valid version")))

-- the message of an error by its reason; without one, out of memory. None for a number that is not ASCII digits
abbrev pub error_text : Option Rejection → Option (List ℕ)
error_text None = Some (codes "out of memory")
error_text (Some (NumberTooBig digits)) = if list_all is_ascii_digit digits then Some (rejection_text (NumberTooBig digits)) else None
error_text (Some f) = Some (rejection_text f)

-- the message of why a string is no pattern
abbrev pub pattern_rejection_text : PatternRejection → List ℕ
pattern_rejection_text (OfVersion f) = rejection_text f
pattern_rejection_text WildcardNotTrailing = codes "wildcards in versions must be at the end"

-- the message of a pattern's error; the message of its version's error if the version is invalid
abbrev pub pattern_error_text : Option PatternRejection → Option (List ℕ)
pattern_error_text None = error_text None
pattern_error_text (Some (OfVersion f)) = error_text (Some f)
pattern_error_text (Some WildcardNotTrailing) = Some (pattern_rejection_text WildcardNotTrailing)

-- the message of a change that cannot be made: its position and the cause
abbrev pub change_error_text : ChangeError → List ℕ
change_error_text (change.EmptyRelease position) = codes "change " ++ (decimal position ++ codes ": a release needs at least one number")
change_error_text (change.MinNotAllowed position) = codes "change " ++ (decimal position ++ codes ": min is not allowed on pre-release or dev versions")
change_error_text (change.MaxNotAllowed position) = codes "change " ++ (decimal position ++ codes ": max is not allowed on post-release or dev versions")
change_error_text change.OutOfMemory = codes "out of memory"
