-- Lines of one name that no version can satisfy together, and a smallest list of them.
use Rattle.std.specs.Prelude.{◌≡◌, ℕ, ◌&&◌, ◌||◌, List, [], ◌∷◌, ◌++◌, Bool, true, false, Option, Some, None, bytes_eq, is_none, map, reverse, if◌then◌else◌}
use Rattle.std.specs.List.{All, filter, flat_map, list_any}
use Rattle.pep440_rs.specs.Bounds.{Segments}
use Rattle.pep440_rs.specs.Specifiers.{Spec}
use Rattle.pep440_sets.specs.Common.{common_version}
use Rattle.pep440_sets.specs.Sets.{HoldsListMatches}
use Rattle.pyver_findings.specs.Demands.{Demand, IsSound}
use Rattle.pyver_findings.specs.FileLines.{Conflicting, Finding}
use Rattle.pyver_findings.specs.declared.finding.Conflict.{Conflict}
use Rattle.pyver_findings.specs.declared.finding.Conflict.TheVariants.{NoVersion, PinOutside, TwoPins}

-- ---- names and markers

-- the two lines have one name
abbrev pub has_same_name : Demand → Demand → Bool
has_same_name a b = bytes_eq a.name b.name

-- both markers have the same normal form, or there is neither
abbrev pub same_marker : Option (List ℕ) → Option (List ℕ) → Bool
same_marker None None = true
same_marker None (Some b) = false
same_marker (Some a) None = false
same_marker (Some a) (Some b) = bytes_eq a b

-- the two lines have the same marker
abbrev pub has_same_marker : Demand → Demand → Bool
has_same_marker a b = same_marker a.marker b.marker

-- the line has the marker
abbrev pub has_marker : List ℕ → Demand → Bool
has_marker marker a = same_marker (Some marker) a.marker

-- the lines before which no other is the same, after those
abbrev pub first_mentions : (Demand → Demand → Bool) → List Demand → List Demand → List Demand
first_mentions same before [] = []
first_mentions same before (a ∷ rest) = (if list_any (same a) before then [] else a ∷ []) ++ first_mentions same (before ++ a ∷ []) rest

-- ---- lines that have no version in common

-- the members of the lists of the lines
abbrev pub specifiers_of : List Demand → List Spec
specifiers_of lines = flat_map (λ (a : Demand). a.specifiers) lines

-- no version is found that the lists of all these lines contain
abbrev pub have_none : List Demand → Bool
have_none lines = is_none (common_version (specifiers_of lines))

-- of lines from the last to the first those to keep: one is left out if without it those before it and those that are kept have no
-- version in common
abbrev pub keep : List Demand → List Demand → List Demand
keep kept [] = kept
keep kept (a ∷ before) = if have_none (reverse before ++ kept) then keep kept before else keep (a ∷ kept) before

-- of lines that have no version in common a smallest list that has none
abbrev pub smallest : List Demand → List Demand
smallest lines = keep [] (reverse lines)

-- of the lines these are to be kept, whatever others stand before and after them that allow the versions of the set
abbrev pub IsNeeded : Segments → List Demand → List Demand → Type 0
IsNeeded set lines kept = (front later : List Demand) → All IsSound front → All IsSound later → HoldsListMatches (specifiers_of (front ++ later)) set
    → keep later (reverse (front ++ lines)) ≡ keep (kept ++ later) (reverse front)

-- both lines name a version, or one does, or none
abbrev pub pin_conflict : Demand → Demand → Conflict
pin_conflict a b = if a.pinned && b.pinned then TwoPins else (if a.pinned || b.pinned then PinOutside else NoVersion)

-- two lines differ by the versions that they name
abbrev pub conflict_kind : List Demand → Conflict
conflict_kind (a ∷ (b ∷ [])) = pin_conflict a b
conflict_kind _ = NoVersion

-- they have no version in common, in this environment, if one is named
abbrev pub of_all : Option (List ℕ) → List Demand → List Finding
of_all environment lines =
    if have_none lines then Conflicting (conflict_kind (smallest lines)) (map (λ (a : Demand). a.line) (smallest lines)) environment ∷ [] else []

-- the lines without a marker
abbrev pub unmarked : List Demand → List Demand
unmarked lines = filter (λ (a : Demand). is_none a.marker) lines
