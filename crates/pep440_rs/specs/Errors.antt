-- What an error reports, apart from its address in memory.
use Rattle.std.specs.Prelude.{◌≡◌, ℕ, List, Option, option_map, Some, None, Result, Ok, Err, string_bytes, IfSome}
use Rattle.pep440_version.specs.Errors.{ReturnsOutcome, pattern_kind_of, pattern_rejection_of}
use Rattle.pep440_rs.specs.Build.{BuildRejection, OperatorLocalCombo, OperatorWithStar, CompatibleRelease}
use Rattle.pep440_rs.specs.Specifiers.SpecifierGrammar.{SpecifierRejection, MissingOperator, InvalidOperator, MissingVersion, InvalidVersion, InvalidSpecifier, InvalidTrailing}
use Rattle.pep440_rs.specs.Specifiers.{Spec}
use Rattle.pep440_rs.specs.declared.specifier.error.OperatorErrorKind.{OperatorErrorKind}
use Rattle.pep440_rs.specs.declared.specifier.error.OperatorErrorKind.TheVariants as operator
use Rattle.pep440_rs.specs.declared.specifier.error.OperatorParseError.{OperatorParseError}
use Rattle.pep440_rs.specs.declared.specifier.error.BuildErrorKind.{BuildErrorKind}
use Rattle.pep440_rs.specs.declared.specifier.error.BuildErrorKind.TheVariants as build
use Rattle.pep440_rs.specs.declared.specifier.error.VersionSpecifierBuildError.{VersionSpecifierBuildError}
use Rattle.pep440_rs.specs.declared.specifier.error.ParseErrorKind.{ParseErrorKind}
use Rattle.pep440_rs.specs.declared.specifier.error.ParseErrorKind.TheVariants as parse
use Rattle.pep440_rs.specs.declared.specifier.error.VersionSpecifierParseError.{VersionSpecifierParseError}

-- the kind of an operator's error
abbrev pub operator_kind_of : OperatorParseError → OperatorErrorKind
operator_kind_of e = e.kind

-- the string that is no operator, or `None` when out of memory
abbrev pub unknown_of : OperatorErrorKind → Option (List ℕ)
unknown_of (operator.Unknown got) = Some (string_bytes got)
unknown_of operator.OutOfMemory = None

-- the kind of an error of building a specifier
abbrev pub build_kind_of : VersionSpecifierBuildError → BuildErrorKind
build_kind_of e = e.kind

-- the reason that such a kind stands for
abbrev pub build_rejection_of : BuildErrorKind → BuildRejection
build_rejection_of (build.OperatorLocalCombo o v) = OperatorLocalCombo o v
build_rejection_of (build.OperatorWithStar o) = OperatorWithStar o
build_rejection_of build.CompatibleRelease = CompatibleRelease

-- the result is what the build rules give
abbrev pub Builds : Result Spec VersionSpecifierBuildError → Result Spec BuildRejection → Type 0
Builds = ReturnsOutcome (λ e. Some (build_rejection_of (build_kind_of e)))

-- the kind of a specifier's parse error
abbrev pub parse_kind_of : VersionSpecifierParseError → ParseErrorKind
parse_kind_of e = e.kind

-- the reason of an error, or `None` when out of memory
abbrev pub specifier_rejection_of : ParseErrorKind → Option SpecifierRejection
specifier_rejection_of parse.MissingOperator = Some MissingOperator
specifier_rejection_of (parse.InvalidOperator e) = option_map InvalidOperator (unknown_of (operator_kind_of e))
specifier_rejection_of parse.MissingVersion = Some MissingVersion
specifier_rejection_of (parse.InvalidVersion e) = option_map InvalidVersion (pattern_rejection_of (pattern_kind_of e))
specifier_rejection_of (parse.InvalidSpecifier e) = Some (InvalidSpecifier (build_rejection_of (build_kind_of e)))
specifier_rejection_of (parse.InvalidTrailing rest) = Some (InvalidTrailing (string_bytes rest))
specifier_rejection_of parse.OutOfMemory = None

-- out of memory is the outer error's own kind, never inside another
abbrev pub IsLifted : ParseErrorKind → Type 0
IsLifted kind = specifier_rejection_of kind ≡ None → kind ≡ parse.OutOfMemory

-- what was read is what reading gives, unless an allocation failed
abbrev pub ParsesSpecifier : Result Spec ParseErrorKind → Result Spec SpecifierRejection → Type 0
ParsesSpecifier (Ok s) read = read ≡ Ok s
ParsesSpecifier (Err kind) read = IfSome (specifier_rejection_of kind) (λ f. read ≡ Err f) × IsLifted kind

-- the public parser returns what the grammar and the reasons give, unless an allocation failed
abbrev pub ReturnsSpecifier : Result Spec VersionSpecifierParseError → Result Spec SpecifierRejection → Type 0
ReturnsSpecifier = ReturnsOutcome (λ e. specifier_rejection_of (parse_kind_of e))
