-- What the reader of markers holds, apart from where it lies in memory.
use Rattle.std.specs.Prelude.{map, ◌≡◌, ⊤, ℕ, List, Result, Err}
use Rattle.pyver_requirements.specs.declared.marker_steps.Group.{Group}
use Rattle.pyver_requirements.specs.declared.marker_steps.OpenGroups.{OpenGroups}
use Rattle.pyver_requirements.specs.declared.marker_steps.Step.{Step}
use Rattle.std.specs.BTreeSet.{BTreeSet}
use Rattle.std.specs.Global.{Vec}
use Rattle.pyver_requirements.specs.MarkerSteps.{Misfit}
use Rattle.pyver_requirements.specs.MarkerTokens.{Constant, Invalid, Variable}
use Rattle.pyver_requirements.specs.declared.marker_fault.MarkerError.{MarkerError}
use Rattle.pyver_requirements.specs.declared.marker_terms.Terms.{Terms}
use Rattle.pyver_requirements.specs.declared.marker_token.Side.{Side}
use Rattle.pyver_requirements.specs.declared.marker_token.Token.{Token}
use Rattle.pyver_requirements.specs.MarkerSteps as steps
use Rattle.pyver_requirements.specs.declared.marker_steps.Step.TheVariants as step
use Rattle.pyver_requirements.specs.MarkerTerms as terms
use Rattle.pyver_requirements.specs.MarkerTokens as tokens
use Rattle.pyver_requirements.specs.declared.marker_fault.MarkerError.TheVariants as error
use Rattle.pyver_requirements.specs.declared.marker_terms.Terms.TheVariants as code
use Rattle.pyver_requirements.specs.declared.marker_token.Side.TheVariants as side
use Rattle.pyver_requirements.specs.declared.marker_token.Token.TheVariants as token

abbrev pub side_of : Side → tokens.Side
side_of (side.Variable name) = Variable name.now
side_of (side.Constant text) = Constant text.now
side_of (side.Invalid f) = Invalid f

abbrev pub step_of : Step → steps.Step
step_of (step.Compare left o right) = steps.Compare (side_of left) o (side_of right)
step_of step.JoinBoth = steps.JoinBoth
step_of step.JoinEither = steps.JoinEither

abbrev pub group_of : Group → steps.Group
group_of g = record { has_alternatives = g.has_alternatives; has_chain = g.has_chain }

abbrev pub open_groups_of : OpenGroups → steps.OpenGroups
open_groups_of s = record { length = s.length; outer = map group_of s.outer.items; inner = group_of s.inner; steps = map step_of s.steps.items; wants_operand = s.wants_operand }

abbrev pub token_of : Token → tokens.Token
token_of token.Open = tokens.Open
token_of token.Close = tokens.Close
token_of token.And = tokens.And
token_of token.Or = tokens.Or
token_of (token.Compares left o right) = tokens.Compares (side_of left) o (side_of right)
token_of (token.Faulty f left) = tokens.Faulty f left

-- the strings of a set, in their order
abbrev pub set_of : BTreeSet (Vec ℕ) → List (List ℕ)
set_of s = map (λ t. t.items) s.keys

abbrev pub terms_of : Terms → terms.Terms
terms_of (code.All s) = terms.All (set_of s)
terms_of (code.Any s) = terms.Any (set_of s)

-- the error is the fault that was to be found, or an allocation failed
abbrev pub IsMarkerFault : {A : Type 0} → Result A Misfit → MarkerError → Type 0
IsMarkerFault found (error.Invalid f position) = found ≡ Err (record { fault = f; position = position })
IsMarkerFault found error.OutOfMemory = ⊤
