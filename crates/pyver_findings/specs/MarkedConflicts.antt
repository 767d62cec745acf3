-- Lines of one name that no version can satisfy together: those without a marker, and those whose markers hold in one environment of a domain.
use Rattle.std.specs.Prelude.{◌≡◌, ◌⊎◌, ⊤, ℕ, ◌&&◌, ◌||◌, List, [], ◌∷◌, ◌++◌, Bool, true, false, not, Option, None, Some, is_none, length, nat_lt, suc, zero, if◌then◌else◌}
use Rattle.std.specs.List.{All, filter, flat_map, list_all, list_any}
use Rattle.pyver_findings.specs.Conflicts.{first_mentions, has_same_marker, has_same_name, have_none, of_all, smallest, unmarked}
use Rattle.pyver_findings.specs.Demands.{Demand}
use Rattle.pyver_findings.specs.FileLines.{Finding}
use Rattle.pyver_requirements.specs.declared.cause.Cause.{Cause}
use Rattle.pyver_requirements.specs.declared.cause.Cause.TheVariants as cause
use Rattle.pyver_findings.specs.declared.marked_conflicts.Decision.{Decision}
use Rattle.pyver_findings.specs.declared.marked_conflicts.Decision.TheVariants.{Apart, Together, Unknown}
use Rattle.pyver_markers.specs.Conditions.{Domain, IsEnvironment, IsNever}
use Rattle.pyver_markers.specs.Environments.{Assignment, Environment, Extends, assigned, environment_text}
use Rattle.pyver_markers.specs.Extents.{IsExample, is_writable}
use Rattle.pyver_markers.specs.MarkerValues.{value}
use Rattle.pyver_requirements.specs.MarkerGrammar.{Both, DenotesMarker, Marker}
use Rattle.pyver_requirements.specs.MarkerSteps.{Step, steps}

-- ---- environments

-- all environments, each of one system
abbrev pub everywhere : Domain
everywhere = record { linked = true; python = None }

-- ---- lines whose markers hold together

-- the marker, in its normal form, holds in the environment
abbrev pub HoldsIn : Environment → List ℕ → Type 0
HoldsIn e text = (m : Marker) × DenotesMarker text m × (value e m ≡ Some true)

-- the line has no marker, or one that holds in the environment
abbrev pub AsksIn : Environment → Demand → Type 0
AsksIn e a = (a.marker ≡ None) ⊎ ((m : List ℕ) × (a.marker ≡ Some m) × HoldsIn e m)

-- in some environment of the domain the variables are so, as a marker can name them, and wherever they are, all these lines ask
pub record AskWhere (d : Domain) (set : List Demand) (variables : List Assignment) : Type 0 where
  pub environment : Environment
  pub known : IsEnvironment d environment
  pub has : Extends (assigned variables) environment
  pub ask : (e : Environment) → Extends (assigned variables) e → All (AsksIn e) set
  pub writable : list_all (λ (v : Assignment). is_writable v.text) variables ≡ true

-- the marker says what variables are, and wherever they are so, all these lines ask
abbrev pub AskUnder : Domain → List Demand → List ℕ → Type 0
AskUnder d set environment = (variables : List Assignment) × AskWhere d set variables × (environment ≡ environment_text variables)

-- of lines: all ask where this marker says; there is no environment of the domain in which all ask; nothing is known
abbrev pub IsDecision : Domain → List Demand → Decision → Type 0
IsDecision d set (Together environment) = AskUnder d set environment.items
IsDecision d set Apart = (e : Environment) → IsEnvironment d e → ¬ All (AsksIn e) set
IsDecision d set Unknown = ⊤

-- ---- joined markers

-- the line has this marker
abbrev pub HasDenoted : Demand → Marker → Type 0
HasDenoted a m = (text : List ℕ) × (a.marker ≡ Some text) × DenotesMarker text m

-- each of these lines has a marker, and this one holds where all of them do
abbrev pub AreJoined : List Demand → Marker → Type 0
AreJoined [] m = ⊥
AreJoined (a ∷ []) m = HasDenoted a m
AreJoined (a ∷ (b ∷ rest)) m = (x : Marker) × (y : Marker) × HasDenoted a x × AreJoined (b ∷ rest) y × (m ≡ Both x y)

-- ---- by steps

-- there is such a marker, and these are its steps
abbrev pub IsDenotedBySteps : (Marker → Type 0) → List Step → Type 0
IsDenotedBySteps Is all = ((m : Marker) × Is m) × ((m : Marker) → Is m → all ≡ steps m)

-- the marker with these steps holds where the other one says what variables are
abbrev pub HoldsUnder : Domain → List Step → List ℕ → Type 0
HoldsUnder d all environment = (variables : List Assignment) × ((m : Marker) → all ≡ steps m → IsExample d m variables) × (environment ≡ environment_text variables)

-- what is known of the marker that has these steps
abbrev pub KnowsSteps : Domain → List Step → Decision → Type 0
KnowsSteps d all (Together environment) = HoldsUnder d all environment.items
KnowsSteps d all Apart = (m : Marker) → all ≡ steps m → IsNever d true m
KnowsSteps d all Unknown = ⊤

-- ---- lines of one name

-- one line more, if it has a marker that none of those has
abbrev pub with_first : List Demand → Demand → List Demand
with_first firsts a = if is_none a.marker || list_any (has_same_marker a) firsts then firsts else firsts ++ a ∷ []

-- of each marker the first line, after those
abbrev pub first_lines : List Demand → List Demand → List Demand
first_lines firsts [] = firsts
first_lines firsts (a ∷ rest) = first_lines (with_first firsts a) rest

-- the line has no marker, or that of one of these
abbrev pub counts_with : List Demand → Demand → Bool
counts_with set a = is_none a.marker || list_any (has_same_marker a) set

-- those without a marker, and those with the marker of one of these
abbrev pub under_any : List Demand → List Demand → List Demand
under_any set lines = filter (counts_with set) lines

-- those whose lines have a version in common with the lines without a marker
abbrev pub open_lines : List Demand → List Demand → List Demand
open_lines lines firsts = filter (λ (a : Demand). not (have_none (under_any (a ∷ []) lines))) firsts

-- of each marker the first line; none if there are more than 32 markers
abbrev pub few_first_lines : List Demand → Option (List Demand)
few_first_lines lines = if nat_lt 32 (length (first_lines [] lines)) then None else Some (first_lines [] lines)

-- those that are paired: none if there are fewer than two
abbrev pub lines_to_pair : List Demand → List Demand → List Demand
lines_to_pair lines firsts = if nat_lt (length firsts) 2 then [] else open_lines lines firsts

-- ---- sets of markers, each by the first line that has it

-- these have each marker of the set
abbrev pub has_all : List Demand → List Demand → Bool
has_all firsts set = list_all (λ (a : Demand). list_any (has_same_marker a) firsts) set

-- the first set of which these have each marker
abbrev pub set_among : List Demand → List (List Demand) → Option (List Demand)
set_among firsts [] = None
set_among firsts (set ∷ rest) = if has_all firsts set then Some set else set_among firsts rest

-- those with the markers of a smallest list of their lines that have no version in common
abbrev pub smallest_set : List Demand → List Demand → List Demand
smallest_set lines firsts = filter (λ (a : Demand). list_any (has_same_marker a) (smallest (under_any firsts lines))) firsts

-- one set more, if their lines have no version in common and none of these sets says so
abbrev pub with_set : List Demand → List Demand → List (List Demand) → List (List Demand)
with_set lines firsts sets = if is_none (set_among firsts sets) && have_none (under_any firsts lines) then sets ++ smallest_set lines firsts ∷ [] else sets

-- of two markers whose lines have no version in common
abbrev pub conflicting_pair : List Demand → Demand → Demand → List (List Demand)
conflicting_pair lines a b = if have_none (under_any (a ∷ (b ∷ [])) lines) then (a ∷ (b ∷ [])) ∷ [] else []

-- each of these beside each behind it
abbrev pub conflicting_pairs : List Demand → List Demand → List (List Demand)
conflicting_pairs lines [] = []
conflicting_pairs lines (a ∷ rest) = flat_map (conflicting_pair lines a) rest ++ conflicting_pairs lines rest

-- markers that hold in an environment, and others of which any may
pub record Branch : Type 0 where
  pub kept : List Demand
  pub free : List Demand

-- all but those with this marker
abbrev pub others_than : Demand → List Demand → List Demand
others_than a firsts = filter (λ (b : Demand). not (has_same_marker a b)) firsts

-- where not all markers of the set hold, the first of them does not that is not kept, or it holds and one behind it does not
abbrev pub branches : List Demand → List Demand → List Demand → List Branch
branches kept free [] = []
branches kept free (a ∷ set) = if list_any (has_same_marker a) kept then branches kept free set
    else record { kept = kept; free = others_than a free } ∷ branches (kept ++ a ∷ []) (others_than a free) set

abbrev pub branches_of : Branch → Option (List Demand) → List Branch
branches_of b None = []
branches_of b (Some set) = branches b.kept b.free set

-- sets whose lines have no version in common, and whether in each environment the lines of one of them ask, or lines that have one
pub record ConflictingSets : Type 0 where
  pub sets : List (List Demand)
  pub whole : Bool

-- of each branch a set; the others are those of environments in which not all of its markers hold
abbrev pub search_branches : List Demand → List Branch → ℕ → List (List Demand) → ConflictingSets
search_branches lines [] tries sets = record { sets = sets; whole = true }
search_branches lines (b ∷ queue) zero sets = record { sets = sets; whole = false }
search_branches lines (b ∷ queue) (suc tries) sets =
    let firsts = b.kept ++ b.free in
    let more = with_set lines firsts sets in
    search_branches lines (queue ++ branches_of b (set_among firsts more)) tries more

-- of these markers any may hold
abbrev pub first_branches : List Demand → List Branch
first_branches [] = []
first_branches (a ∷ rest) = record { kept = []; free = a ∷ rest } ∷ []

-- first pairs, and then larger sets, in at most 1,000 branches
abbrev pub conflicting_sets : List Demand → List Demand → ConflictingSets
conflicting_sets lines firsts = search_branches lines (first_branches firsts) 1000 (conflicting_pairs lines firsts)

-- ---- what is found

-- no finding, and no cause for which there may be more
abbrev pub FindsNothing : List Finding → List Cause → Type 0
FindsNothing fs cs = (fs ≡ []) × (cs ≡ [])

-- of each element, in their order
abbrev pub FindsOfEach : {X : Type 0} → (X → List Finding → List Cause → Type 0) → List X → List Finding → List Cause → Type 0
FindsOfEach P [] fs cs = FindsNothing fs cs
FindsOfEach P (x ∷ rest) fs cs =
    (f : List Finding) × (g : List Finding) × (c : List Cause) × (d : List Cause) × P x f c × FindsOfEach P rest g d × (fs ≡ f ++ g) × (cs ≡ c ++ d)

-- of lines that have no version in common, if all their markers hold in one environment of the domain, which is named
abbrev pub FindsDecided : Decision → List Demand → List Finding → List Cause → Type 0
FindsDecided (Together environment) lines fs cs = (fs ≡ of_all (Some environment.items) lines) × (cs ≡ [])
FindsDecided Apart lines fs cs = FindsNothing fs cs
FindsDecided Unknown lines fs cs = (fs ≡ []) × (cs ≡ (if have_none lines then cause.Undecided ∷ [] else []))

-- of the lines under the markers of a set
abbrev pub FindsOfSet : Domain → List Demand → List Demand → List Finding → List Cause → Type 0
FindsOfSet d lines set fs cs = (decision : Decision) × IsDecision d set decision × FindsDecided decision (under_any set lines) fs cs

-- of each of these sets; whether there are others may not be known
abbrev pub FindsOfSets : Domain → List Demand → List (List Demand) → Bool → List Finding → List Cause → Type 0
FindsOfSets d lines sets true fs cs = FindsOfEach (FindsOfSet d lines) sets fs cs
FindsOfSets d lines sets false fs cs = (told : List Cause) × FindsOfEach (FindsOfSet d lines) sets fs told × (cs ≡ told ++ cause.Undecided ∷ [])

-- of lines of one name under several markers; too many markers are not looked at
abbrev pub FindsOfFirsts : Domain → List Demand → Option (List Demand) → List Finding → List Cause → Type 0
FindsOfFirsts d lines None fs cs = (fs ≡ []) × (cs ≡ cause.Undecided ∷ [])
FindsOfFirsts d lines (Some firsts) fs cs =
    FindsOfSets d lines (conflicting_sets lines (lines_to_pair lines firsts)).sets (conflicting_sets lines (lines_to_pair lines firsts)).whole fs cs

-- of lines of one name under one marker, for each, in the order in which they are first mentioned
abbrev pub FindsOfMarkers : Domain → List Demand → List Finding → List Cause → Type 0
FindsOfMarkers d lines = FindsOfEach (λ (a : Demand). FindsOfSet d lines (a ∷ [])) (first_mentions has_same_marker [] lines)

-- what the first one finds, and then what the second one does
abbrev pub FindsBoth : (List Finding → List Cause → Type 0) → (List Finding → List Cause → Type 0) → List Finding → List Cause → Type 0
FindsBoth P Q fs cs = (f : List Finding) × (g : List Finding) × (c : List Cause) × (d : List Cause) × P f c × Q g d × (fs ≡ f ++ g) × (cs ≡ c ++ d)

-- of lines of one name: those without a marker, if they have no version in common; and otherwise those of each marker, and those of several
abbrev pub FindsByUnmarked : Domain → List Demand → Bool → List Finding → List Cause → Type 0
FindsByUnmarked d lines true fs cs = (fs ≡ of_all None (unmarked lines)) × (cs ≡ [])
FindsByUnmarked d lines false fs cs = FindsBoth (FindsOfMarkers d lines) (FindsOfFirsts d lines (few_first_lines lines)) fs cs

abbrev pub FindsOfName : Domain → List Demand → List Finding → List Cause → Type 0
FindsOfName d lines = FindsByUnmarked d lines (have_none (unmarked lines))

-- of each name, in the order in which they are first mentioned
abbrev pub FindsOfNames : Domain → List Demand → List Finding → List Cause → Type 0
FindsOfNames d lines = FindsOfEach (λ (a : Demand). FindsOfName d (filter (has_same_name a) lines)) (first_mentions has_same_name [] lines)
