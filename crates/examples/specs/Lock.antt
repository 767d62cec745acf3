-- What a line of a lock file holds, `NAME; LIST; VERSION`, and which lines are broken.
use Rattle.std.specs.Prelude.{◌≡◌, ◌⊎◌, ◌==◌, ℕ, List, Bool, filter, length, map, not, string_bytes, IfSome}
use Rattle.std.specs.List.{after_first, before_first, position_or_len}
use Rattle.pep440_version.specs.Errors.{error_rejection}
use Rattle.pep440_version.specs.Rejections.{Rejects}
use Rattle.pep440_rs.specs.Lists.ListResults.{list_kind_of}
use Rattle.pep440_rs.specs.Lists.ListErrors.{list_rejection_of}
use Rattle.pep440_rs.specs.Lists.ListGrammar.{DerivesList, RejectsList}
use Rattle.pep440_rs.specs.Matching.{list_matches}
use Rattle.pep440_rs.specs.Specifiers.{Spec}
use Rattle.examples.specs.declared.lock.LockEntry.{LockEntry}
use Rattle.examples.specs.declared.lock.LockError.{LockError}
use Rattle.examples.specs.declared.lock.LockError.TheVariants.{Parts, Wanted, Version, OutOfMemory}

-- the byte `;`
abbrev pub is_semicolon : ℕ → Bool
is_semicolon b = b == 59

-- what stands before the first semicolon
abbrev pub name_part : List ℕ → List ℕ
name_part line = before_first is_semicolon line

-- what stands between the first two semicolons
abbrev pub list_part : List ℕ → List ℕ
list_part line = before_first is_semicolon (after_first is_semicolon line)

-- what stands after the second semicolon
abbrev pub version_part : List ℕ → List ℕ
version_part line = after_first is_semicolon (after_first is_semicolon line)

-- there is no semicolon
abbrev pub IsWhole : List ℕ → Type 0
IsWhole text = position_or_len is_semicolon text ≡ length text

-- there are fewer than two semicolons
abbrev pub IsShort : List ℕ → Type 0
IsShort line = IsWhole line ⊎ IsWhole (after_first is_semicolon line)

-- why the line is rejected: the first fault from the left
abbrev pub IsFault : List ℕ → LockError → Type 0
IsFault line Parts = IsShort line
IsFault line (Wanted e) = (¬ IsShort line) × IfSome (list_rejection_of (list_kind_of e)) (RejectsList (list_part line))
IsFault line (Version e) = (¬ IsShort line) × ((list : List Spec) × DerivesList (list_part line) list) × IfSome (error_rejection e) (Rejects (version_part line))
IsFault line OutOfMemory = Unit {0}

-- its list does not contain its version
abbrev pub is_broken : LockEntry → Bool
is_broken l = not (list_matches l.wanted l.version)

-- the names of the broken lines, in order
abbrev pub broken_names : List LockEntry → List (List ℕ)
broken_names lock = map (λ (l : LockEntry). string_bytes l.name) (filter is_broken lock)
