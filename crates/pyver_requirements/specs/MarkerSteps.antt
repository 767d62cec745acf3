-- An environment marker as steps: what `and` and `or` join stands before them, so that no parenthesis is needed; and how the steps are read.
use Rattle.std.specs.Prelude.{◌≡◌, ℕ, ◌-◌, List, [], ◌∷◌, ◌++◌, Bool, true, false, Result, Ok, Err, codes, length, nat_lt, if◌then◌else◌}
use Rattle.pyver_requirements.specs.MarkerGrammar.{Both, Comparison, DenotesMarker, Either, Marker}
use Rattle.pyver_requirements.specs.MarkerTokens.{And, Close, Compares, Faulty, Lexeme, Open, Or, Side, Token, lexemes}
use Rattle.pyver_requirements.specs.declared.marker_fault.MarkerFault.{MarkerFault}
use Rattle.pyver_requirements.specs.declared.marker_fault.MarkerFault.TheVariants as fault
use Rattle.pyver_requirements.specs.declared.marker_operator.MarkerOperator.{MarkerOperator}

-- a comparison; `and` or `or` of the two markers whose steps end before it
pub data Step : Type 0 where
  Compare : Side → MarkerOperator → Side → Step
  JoinBoth : Step
  JoinEither : Step

-- the steps of a marker
abbrev pub steps : Marker → List Step
steps (Comparison left o right) = Compare left o right ∷ []
steps (Both a b) = steps a ++ (steps b ++ JoinBoth ∷ [])
steps (Either a b) = steps a ++ (steps b ++ JoinEither ∷ [])

-- ---- reading

-- what stands in a parenthesis so far: whether there is something up to the last `or`, and something since then
pub record Group : Type 0 where
  pub has_alternatives : Bool
  pub has_chain : Bool

-- nothing yet
abbrev pub empty_group : Group
empty_group = record { has_alternatives = false; has_chain = false }

-- the step that joins an operand with the chain before it
abbrev pub join_chain : Group → List Step
join_chain g = if g.has_chain then JoinBoth ∷ [] else []

-- the step that joins the chain with the alternatives before it
abbrev pub join_alternatives : Group → List Step
join_alternatives g = if g.has_alternatives then JoinEither ∷ [] else []

-- the length of the string; the groups around the innermost, from inside to outside; the innermost; the steps; whether an operand must follow
pub record OpenGroups : Type 0 where
  pub length : ℕ
  pub outer : List Group
  pub inner : Group
  pub steps : List Step
  pub wants_operand : Bool

-- before the first token of a string of this length
abbrev pub no_groups : ℕ → OpenGroups
no_groups n = record { length = n; outer = []; inner = empty_group; steps = []; wants_operand = true }

-- a fault, and its position
pub record Misfit : Type 0 where
  pub fault : MarkerFault
  pub position : ℕ

-- why a string is no marker, in words
abbrev pub marker_reason : MarkerFault → List ℕ
marker_reason fault.MissingOperand = codes "a variable or a string is expected"
marker_reason fault.UnclosedString = codes "the string has no closing quote"
marker_reason fault.MissingOperator = codes "an operator is expected"
marker_reason fault.Backslash = codes "a backslash stands in the string"
marker_reason fault.NoConnective = codes "'and' or 'or' is expected"
marker_reason fault.Unclosed = codes "')' is expected"
marker_reason fault.TooDeep = codes "more than 100 parentheses are open"

-- the fault, with so many bytes of the string from it on
abbrev pub stray : {A : Type 0} → OpenGroups → MarkerFault → ℕ → Result A Misfit
stray s f left = Err (record { fault = f; position = s.length - left })

-- the groups after `(`: at most 100 stand around the innermost
abbrev pub open_group : OpenGroups → ℕ → Result OpenGroups Misfit
open_group s left = if nat_lt (length s.outer) 100
    then Ok (record { length = s.length; outer = s.inner ∷ s.outer; inner = empty_group; steps = s.steps; wants_operand = true }) else stray s fault.TooDeep left

-- the groups behind an operand of this one, with those around it; the steps end with those of the operand
abbrev pub behind_operand : ℕ → List Group → Group → List Step → OpenGroups
behind_operand n outer inner taken = record {
  length = n;
  outer = outer;
  inner = record { has_alternatives = inner.has_alternatives; has_chain = true };
  steps = taken ++ join_chain inner;
  wants_operand = false;
}

-- the groups after a token that begins an operand, or is to
abbrev pub take_operand : OpenGroups → Token → ℕ → Result OpenGroups Misfit
take_operand s Open left = open_group s left
take_operand s (Compares a o b) left = Ok (behind_operand s.length s.outer s.inner (s.steps ++ Compare a o b ∷ []))
take_operand s (Faulty f at) left = stray s f at
take_operand s _ left = stray s fault.MissingOperand left

-- the groups after `)`, with these around it
abbrev pub close_group : OpenGroups → List Group → ℕ → Result OpenGroups Misfit
close_group s [] left = stray s fault.NoConnective left
close_group s (inner ∷ outer) left = Ok (behind_operand s.length outer inner (s.steps ++ join_alternatives s.inner))

-- the groups after a token behind an operand
abbrev pub take_connective : OpenGroups → Token → ℕ → Result OpenGroups Misfit
take_connective s And left = Ok (record { length = s.length; outer = s.outer; inner = s.inner; steps = s.steps; wants_operand = true })
take_connective s Or left = Ok (record {
  length = s.length;
  outer = s.outer;
  inner = record { has_alternatives = true; has_chain = false };
  steps = s.steps ++ join_alternatives s.inner;
  wants_operand = true;
})
take_connective s Close left = close_group s s.outer left
take_connective s _ left = stray s fault.NoConnective left

-- the groups after the next token
abbrev pub take_token : OpenGroups → Token → ℕ → Result OpenGroups Misfit
take_token s t left = if s.wants_operand then take_operand s t left else take_connective s t left

-- the steps at the end
abbrev pub end_steps_in : OpenGroups → List Group → Result (List Step) Misfit
end_steps_in s [] = Ok (s.steps ++ join_alternatives s.inner)
end_steps_in s (g ∷ outer) = stray s fault.Unclosed 0

abbrev pub end_steps : OpenGroups → Result (List Step) Misfit
end_steps s = if s.wants_operand then stray s fault.MissingOperand 0 else end_steps_in s s.outer

-- what comes of the groups, unless there is a fault
abbrev pub unless_stray : Result OpenGroups Misfit → (OpenGroups → Result (List Step) Misfit) → Result (List Step) Misfit
unless_stray (Err f) next = Err f
unless_stray (Ok s) next = next s

-- the steps from these groups and tokens
unfoldable pub read_tokens : OpenGroups → List Lexeme → Result (List Step) Misfit
read_tokens s [] = end_steps s
read_tokens s (l ∷ rest) = unless_stray (take_token s l.token l.left) (λ t. read_tokens t rest)

-- the steps of the marker, or its fault
unfoldable pub marker_steps : List ℕ → Result (List Step) Misfit
marker_steps text = read_tokens (no_groups (length text)) (lexemes 0 text)

-- ---- the grammar

-- of what the grammar derives the steps are read
abbrev pub StepsAreRead : Type 0
StepsAreRead = (text : List ℕ) (m : Marker) → DenotesMarker text m → marker_steps text ≡ Ok (steps m)

-- steps that are read are those of a marker that the grammar derives
abbrev pub ReadStepsAreDerived : Type 0
ReadStepsAreDerived = (text : List ℕ) (taken : List Step) → marker_steps text ≡ Ok taken → (m : Marker) × DenotesMarker text m × (taken ≡ steps m)
