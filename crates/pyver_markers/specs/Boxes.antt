-- Markers as sets of environments: boxes, each with the environments that meet all of its conditions.
use Rattle.std.specs.Prelude.{◌≡◌, ◌+◌, ◌*◌, List, [], ◌∷◌, ◌++◌, Bool, true, false, not, Option, Some, None, length, map, nat_lt, if◌then◌else◌}
use Rattle.std.specs.List.{list_all, list_any}
use Rattle.pyver_requirements.specs.MarkerGrammar.{Both, Comparison, Either, Marker}
use Rattle.pyver_requirements.specs.MarkerTokens.{Side}
use Rattle.pyver_requirements.specs.declared.marker_operator.MarkerOperator.{MarkerOperator}
use Rattle.pyver_markers.specs.Environments.{Environment}
use Rattle.pyver_markers.specs.MarkerComparisons.{compare}
use Rattle.pyver_markers.specs.MarkerValues.{value}

-- a comparison, and what it is to give
pub record Condition : Type 0 where
  pub left : Side
  pub operator : MarkerOperator
  pub right : Side
  pub wanted : Bool

abbrev pub Box : Type 0
Box = List Condition

-- ---- environments

abbrev pub agrees : Bool → Bool → Bool
agrees true b = b
agrees false b = not b

-- the value is the wanted one; an undefined value is none
abbrev pub is_met : Bool → Option Bool → Bool
is_met wanted None = false
is_met wanted (Some b) = agrees wanted b

abbrev pub meets : Environment → Condition → Bool
meets e c = is_met c.wanted (compare e c.left c.operator c.right)

abbrev pub in_box : Environment → Box → Bool
in_box e box = list_all (meets e) box

abbrev pub in_boxes : Environment → List Box → Bool
in_boxes e boxes = list_any (in_box e) boxes

-- ---- operations

-- what is in a box of the first list and in one of the second
abbrev pub products : List Box → List Box → List Box
products [] others = []
products (a ∷ rest) others = map (λ b. a ++ b) others ++ products rest others

-- both, and either; none of more than 1,000 boxes
abbrev pub both_boxes : Option (List Box) → Option (List Box) → Option (List Box)
both_boxes (Some a) (Some b) = if nat_lt 1000 (length a * length b) then None else Some (products a b)
both_boxes _ _ = None

abbrev pub either_boxes : Option (List Box) → Option (List Box) → Option (List Box)
either_boxes (Some a) (Some b) = if nat_lt 1000 (length a + length b) then None else Some (a ++ b)
either_boxes _ _ = None

-- ---- markers

-- what `and` joins is true where both are, and false where either is
abbrev pub join_boxes : Bool → Option (List Box) → Option (List Box) → Option (List Box)
join_boxes true a b = both_boxes a b
join_boxes false a b = either_boxes a b

-- where one comparison gives what is wanted
abbrev pub comparison_boxes : Bool → Side → MarkerOperator → Side → Option (List Box)
comparison_boxes wanted left o right = Some ((record { left = left; operator = o; right = right; wanted = wanted } ∷ []) ∷ [])

-- the boxes in which the marker has the wanted value
abbrev pub boxes : Bool → Marker → Option (List Box)
boxes wanted (Comparison left o right) = comparison_boxes wanted left o right
boxes wanted (Both a b) = join_boxes wanted (boxes wanted a) (boxes wanted b)
boxes wanted (Either a b) = join_boxes (not wanted) (boxes wanted a) (boxes wanted b)

-- an environment in which the marker is defined is in one of these boxes exactly if the marker has the wanted value there
abbrev pub HasValueInBoxes : Bool → Marker → List Box → Type 0
HasValueInBoxes wanted m all = (e : Environment) (v : Bool) → value e m ≡ Some v → in_boxes e all ≡ agrees wanted v
