-- The value of an environment marker in an environment (PEP 508, "Environment Markers"): true, false, or undefined, where one of its comparisons is.
use Rattle.std.specs.Prelude.{◌&&◌, ◌||◌, List, [], ◌∷◌, Bool, Option, Some, None}
use Rattle.pyver_requirements.specs.MarkerGrammar.{Both, Comparison, Either, Marker}
use Rattle.pyver_requirements.specs.MarkerSteps.{Compare, JoinBoth, JoinEither, Step}
use Rattle.pyver_requirements.specs.MarkerTokens.{Side}
use Rattle.pyver_requirements.specs.declared.marker_operator.MarkerOperator.{MarkerOperator}
use Rattle.pyver_markers.specs.MarkerComparisons.{compare}
use Rattle.pyver_markers.specs.Environments.{Environment}

-- `and`, and `or`
abbrev pub both_hold : Option Bool → Option Bool → Option Bool
both_hold (Some a) (Some b) = Some (a && b)
both_hold _ _ = None

abbrev pub either_holds : Option Bool → Option Bool → Option Bool
either_holds (Some a) (Some b) = Some (a || b)
either_holds _ _ = None

-- the value of the marker
abbrev pub value : Environment → Marker → Option Bool
value environment (Comparison left o right) = compare environment left o right
value environment (Both a b) = both_hold (value environment a) (value environment b)
value environment (Either a b) = either_holds (value environment a) (value environment b)

-- ---- by steps

-- what two become
abbrev pub Join : Type 0 → Type 0
Join A = Option A → Option A → Option A

-- the last value, and those before it
abbrev pub last_value : {A : Type 0} → List (Option A) → Option A
last_value [] = None
last_value (v ∷ values) = v

abbrev pub earlier_values : {A : Type 0} → List (Option A) → List (Option A)
earlier_values [] = []
earlier_values (v ∷ values) = values

-- the last two values in one
abbrev pub join_values : {A : Type 0} → Join A → List (Option A) → List (Option A)
join_values joined values = joined (last_value (earlier_values values)) (last_value values) ∷ earlier_values (earlier_values values)

-- the values after a step, the last one first, by what a comparison gives, and by `and` and `or` of two values
abbrev pub after_step : {A : Type 0} → (Side → MarkerOperator → Side → Option A) → Join A → Join A → Step → List (Option A) → List (Option A)
after_step compared both either (Compare left o right) values = compared left o right ∷ values
after_step compared both either JoinBoth values = join_values both values
after_step compared both either JoinEither values = join_values either values

-- the values after these steps
abbrev pub after_steps : {A : Type 0} → (Side → MarkerOperator → Side → Option A) → Join A → Join A → List Step → List (Option A) → List (Option A)
after_steps compared both either [] values = values
after_steps compared both either (s ∷ steps) values = after_steps compared both either steps (after_step compared both either s values)
