-- Whether a specifier contains a version (PEP 440, "Version specifiers"): for each operator one condition
-- on the specifier's record s and the candidate's record v.
use Rattle.std.specs.Prelude.{ℕ, ◌==◌, Bool, true, not, ◌&&◌, ◌||◌, List, [], ◌∷◌, length, is_some, bytes_eq, if◌then◌else◌}
use Rattle.std.specs.List.{list_all}
use Rattle.std.specs.Ordering.{is_lt, is_le, is_gt, is_ge, is_eq}
use Rattle.pep440_rs.specs.Specifiers.{Spec}
use Rattle.pep440_rs.specs.declared.specifier.operator.Operator.{Operator}
use Rattle.pep440_rs.specs.declared.specifier.operator.Operator.TheVariants.{Equal, EqualStar, ExactEqual, NotEqual, NotEqualStar, TildeEqual, LessThan, LessThanEqual, GreaterThan, GreaterThanEqual}
use Rattle.pep440_version.specs.Key.{record_cmp, release_cmp}
use Rattle.pep440_version.specs.Print.{print}
use Rattle.pep440_version.specs.Record.{Record}

-- ---- releases

-- the release begins with these numbers, padded with zeros where it is shorter
abbrev pub begins_with : List ℕ → List ℕ → Bool
begins_with numbers [] = true
begins_with [] (p ∷ prefix) = (0 == p) && begins_with [] prefix
begins_with (n ∷ numbers) (p ∷ prefix) = (n == p) && begins_with numbers prefix

-- the release without its last number
abbrev pub without_last : List ℕ → List ℕ
without_last [] = []
without_last (x ∷ []) = []
without_last (x ∷ y ∷ ys) = x ∷ without_last (y ∷ ys)

-- equal epochs, and equal releases as if the shorter were padded with zeros
abbrev pub same_release : Record → Record → Bool
same_release s v = (v.epoch == s.epoch) && is_eq (release_cmp v.release s.release)

-- equal epochs, and v's release begins with these numbers
abbrev pub has_prefix : Record → List ℕ → Record → Bool
has_prefix s prefix v = (v.epoch == s.epoch) && begins_with v.release prefix

-- ---- parts

-- there is a pre-release or a developmental part
abbrev pub any_prerelease : Record → Bool
any_prerelease r = is_some r.pre || is_some r.dev

-- there is a local part
abbrev pub has_local : Record → Bool
has_local r = not (length r.local == 0)

-- the version that is compared: v, without its local part if s has none
abbrev pub candidate : Record → Record → Record
candidate s v = if has_local s then v else record v { local = [] }

-- ---- the operators

-- v is a pre-release of the very release that s names, and s isn't one (PEP 440, "Exclusive ordered comparison")
abbrev pub is_early : Record → Record → Bool
is_early s v = same_release s v && not (any_prerelease s) && any_prerelease v

-- v is of the very release that s names, and is a post-release where s is none, or is compared with its local part
abbrev pub is_late : Record → Record → Bool
is_late s v = same_release s v && ((is_some v.post && not (is_some s.post)) || has_local (candidate s v))

-- the operator's condition on s and v (PEP 440, "Version matching", "Version exclusion", "Inclusive ordered comparison",
-- "Arbitrary equality", "Compatible release" and "Exclusive ordered comparison")
abbrev pub matches : Operator → Record → Record → Bool
matches Equal s v = is_eq (record_cmp (candidate s v) s)
matches NotEqual s v = not (is_eq (record_cmp (candidate s v) s))
matches GreaterThanEqual s v = is_ge (record_cmp (candidate s v) s)
matches LessThanEqual s v = is_le (record_cmp (candidate s v) s)
matches EqualStar s v = has_prefix s s.release v
matches NotEqualStar s v = not (has_prefix s s.release v)
matches ExactEqual s v = bytes_eq (print s) (print v)
matches TildeEqual s v = has_prefix s (without_last s.release) v && is_ge (record_cmp (candidate s v) s)
matches LessThan s v = is_lt (record_cmp (candidate s v) s) && not (is_early s v)
matches GreaterThan s v = is_gt (record_cmp (candidate s v) s) && not (is_late s v)

-- ---- lists

-- every member matches v
abbrev pub list_matches : List Spec → Record → Bool
list_matches members v = list_all (λ m. matches m.operator m.version v) members
