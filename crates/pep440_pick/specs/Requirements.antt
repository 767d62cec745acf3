-- The values of a requirement and of its error, apart from their address in memory, and the messages of errors.
use Rattle.std.specs.Prelude.{◌≡◌, ℕ, List, Option, option_map, Some, None, Result, Ok, Err, IfSome, map, string_bytes, codes}
use Rattle.pep440_rs.specs.Lists.ListResults.{line_of, list_kind_of}
use Rattle.pep440_rs.specs.Lists.ListErrors.{list_rejection_of}
use Rattle.pep440_rs.specs.Lists.ListGrammar.{PieceRejection, RejectsList}
use Rattle.pep440_pick.specs.RequirementGrammar.{InvalidExtras, InvalidName, Marker, Needed, RequirementRejection, Specifiers, Unclosed, Url}
use Rattle.pep440_pick.specs.RequirementReading.{RequirementPrefix, listed_extras, rejection_position}
use Rattle.pep440_pick.specs.declared.error.RequirementError.{RequirementError}
use Rattle.pep440_pick.specs.declared.error.RequirementParseError.{RequirementParseError}
use Rattle.pep440_pick.specs.declared.requirement_parts.SplitRequirement.{SplitRequirement}
use Rattle.pep440_pick.specs.declared.requirement.Requirement.{Requirement}
use Rattle.pep440_rs.specs.Lists.ListErrorTexts.{list_rejection_text, list_text_of}
use Rattle.pep440_pick.specs.declared.error.RequirementError.TheVariants as error

-- the name, the extras and the members of the list
abbrev pub needed : Requirement → Needed
needed r = record { name = string_bytes r.name; extras = map string_bytes r.extras.items; specifiers = r.specifiers }

-- the reason of an error, or `None` when out of memory
abbrev pub requirement_rejection_of : RequirementError → Option RequirementRejection
requirement_rejection_of error.Marker = Some Marker
requirement_rejection_of error.Url = Some Url
requirement_rejection_of error.InvalidName = Some InvalidName
requirement_rejection_of error.InvalidExtras = Some InvalidExtras
requirement_rejection_of error.Unclosed = Some Unclosed
requirement_rejection_of (error.Specifiers e) = option_map (λ f. Specifiers (line_of e) f) (list_rejection_of (list_kind_of e))
requirement_rejection_of error.OutOfMemory = None

-- out of memory is the outer error's own kind, never inside another
abbrev pub IsRequirementLifted : RequirementError → Type 0
IsRequirementLifted e = requirement_rejection_of e ≡ None → e ≡ error.OutOfMemory

-- the result is this outcome, unless an allocation failed
abbrev pub ReturnsRequirement : Result Requirement RequirementError → Result Needed RequirementRejection → Type 0
ReturnsRequirement (Ok r) outcome = outcome ≡ Ok (needed r)
ReturnsRequirement (Err e) outcome = IfSome (requirement_rejection_of e) (λ f. outcome ≡ Err f)

-- the position of the error is that at which the string is invalid
abbrev pub IsPositioned : List ℕ → RequirementParseError → Type 0
IsPositioned text e = IfSome (requirement_rejection_of e.kind) (λ f. e.position ≡ rejection_position text f)

-- ---- what the parsers of the parts return

abbrev pub prefix_of : SplitRequirement → RequirementPrefix
prefix_of p = record { name = p.name.now; extras = listed_extras p.extras.now; list = p.list.now }

-- the parts were read as reading gives them, unless an allocation failed
abbrev pub ParsesPrefix : Result SplitRequirement RequirementParseError → Result RequirementPrefix RequirementRejection → Type 0
ParsesPrefix (Ok p) read = read ≡ Ok (prefix_of p)
ParsesPrefix (Err e) read = IfSome (requirement_rejection_of e.kind) (λ f. read ≡ Err f)

-- the error is that of the list of this string
abbrev pub IsOfList : List ℕ → RequirementRejection → Type 0
IsOfList text g = (f : PieceRejection) × RejectsList text f × (g ≡ Specifiers text f)

-- the message of a reason
abbrev pub requirement_rejection_text : RequirementRejection → List ℕ
requirement_rejection_text Marker = codes "markers are not supported"
requirement_rejection_text Url = codes "URLs are not supported"
requirement_rejection_text InvalidName = codes "not a valid name"
requirement_rejection_text InvalidExtras = codes "not valid extras"
requirement_rejection_text Unclosed = codes "unclosed parenthesis"
requirement_rejection_text (Specifiers list f) = list_rejection_text f list

-- the message of an error
abbrev pub requirement_text_of : RequirementError → Option (List ℕ)
requirement_text_of (error.Specifiers e) = list_text_of (list_kind_of e) (line_of e)
requirement_text_of error.OutOfMemory = Some (codes "out of memory")
requirement_text_of e = option_map requirement_rejection_text (requirement_rejection_of e)
