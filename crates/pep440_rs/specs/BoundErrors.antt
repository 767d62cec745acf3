-- The results of calls that make a specifier of a bound.
use Rattle.std.specs.Prelude.{Option, Some, None, Result}
use Rattle.pep440_version.specs.Errors.{ReturnsOutcome}
use Rattle.pep440_rs.specs.Build.{BuildRejection}
use Rattle.pep440_rs.specs.Errors.{build_kind_of, build_rejection_of}
use Rattle.pep440_rs.specs.Specifiers.{Spec}
use Rattle.pep440_rs.specs.declared.bounds.error.BoundError.{BoundError}
use Rattle.pep440_rs.specs.declared.bounds.error.BoundError.TheVariants as bound

-- the reason of an error, or `None` when out of memory
abbrev pub bound_rejection_of : BoundError → Option BuildRejection
bound_rejection_of (bound.Build e) = Some (build_rejection_of (build_kind_of e))
bound_rejection_of bound.OutOfMemory = None

-- the result is this outcome, unless an allocation failed
abbrev pub ReturnsBound : Result (Option Spec) BoundError → Result (Option Spec) BuildRejection → Type 0
ReturnsBound = ReturnsOutcome bound_rejection_of
