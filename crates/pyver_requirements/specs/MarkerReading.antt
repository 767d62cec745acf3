-- The normal form of a marker, by its steps.
use Rattle.std.specs.Prelude.{◌≡◌, ℕ, List, [], ◌∷◌, Result, Ok, Err}
use Rattle.pyver_requirements.specs.MarkerGrammar.{DenotesMarker, Marker, terms}
use Rattle.pyver_requirements.specs.MarkerSteps.{Compare, JoinBoth, JoinEither, Misfit, Step, marker_steps}
use Rattle.pyver_requirements.specs.MarkerTerms.{All, Terms, both, comparison_text, either, terms_text}

-- the last terms, and those before them
abbrev pub last_terms : List Terms → Terms
last_terms [] = All []
last_terms (t ∷ rest) = t

abbrev pub earlier_terms : List Terms → List Terms
earlier_terms [] = []
earlier_terms (t ∷ rest) = rest

-- the last two terms in one
abbrev pub join_terms : (Terms → Terms → Terms) → List Terms → List Terms
join_terms join ts = join (last_terms (earlier_terms ts)) (last_terms ts) ∷ earlier_terms (earlier_terms ts)

-- the terms after a step, the last first
abbrev pub terms_after_step : Step → List Terms → List Terms
terms_after_step (Compare left o right) ts = All (comparison_text left o right ∷ []) ∷ ts
terms_after_step JoinBoth ts = join_terms both ts
terms_after_step JoinEither ts = join_terms either ts

-- the terms after these steps
abbrev pub terms_after_steps : List Step → List Terms → List Terms
terms_after_steps [] ts = ts
terms_after_steps (s ∷ steps) ts = terms_after_steps steps (terms_after_step s ts)

-- the normal form of what was read
abbrev pub normal_form : Result (List Step) Misfit → Result (List ℕ) Misfit
normal_form (Ok steps) = Ok (terms_text (last_terms (terms_after_steps steps [])))
normal_form (Err f) = Err f

-- the marker in its normal form, or its fault
unfoldable pub marker : List ℕ → Result (List ℕ) Misfit
marker text = normal_form (marker_steps text)

-- ---- the grammar

-- what the grammar derives is read, as its normal form
abbrev pub MarkersAreRead : Type 0
MarkersAreRead = (text : List ℕ) (m : Marker) → DenotesMarker text m → marker text ≡ Ok (terms_text (terms m))

-- what is read the grammar derives, and it is read as its normal form
abbrev pub ReadMarkersAreDerived : Type 0
ReadMarkersAreDerived = (text normal : List ℕ) → marker text ≡ Ok normal → (m : Marker) × DenotesMarker text m × (normal ≡ terms_text (terms m))
