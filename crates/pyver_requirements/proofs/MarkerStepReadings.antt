-- The steps of what the grammar derives are read.
use Rattle.std.proofs.Common.{◌≡◌, ◌∙◌, ◌+◌, ◌<◌, ◌≤◌, ℕ, List, [], ◌∷◌, ◌++◌, Bool, true, false, Ok, ap, append_assoc, arith, length, nat_lt, refl, sym, ◌-◌, zero, suc, Err, drop, sub-one}
use Rattle.std.proofs.lemmas.Bool.Decides.{nat_tests}
use Rattle.std.proofs.lemmas.List.{append-nil, drop_all}
use Rattle.pyver_requirements.specs.MarkerGrammar.{Conjunction, Denotes, Disjunction, Marker, Operand, alone, at, both, compared, either, enclosed, one}
use Rattle.pyver_requirements.specs.MarkerSteps.{Compare, Group, OpenGroups, JoinBoth, JoinEither, Step, StepsAreRead, join_alternatives, join_chain, marker_steps, read_tokens, steps, Misfit, end_steps, take_token}
use Rattle.pyver_requirements.specs.MarkerTokens.{And, Close, Compares, Lexeme, Open, Or, Side, lexemes, Token, behind_token, token}
use Rattle.pyver_requirements.specs.declared.marker_operator.MarkerOperator.{MarkerOperator}
use Rattle.std.specs.Prelude.{Result}
use Rattle.pyver_requirements.specs.LineParts.{is_blank_byte}
use Rattle.pyver_requirements.specs.MarkerViews.{IsMarkerFault}
use Rattle.pyver_requirements.specs.declared.marker_fault.MarkerError.{MarkerError}
use Rattle.pyver_requirements.specs.declared.marker_fault.MarkerError.TheVariants as error

-- ---- what the grammar derives

abbrev pub group : Bool → Bool → Group
group alternatives chain = record { has_alternatives = alternatives; has_chain = chain }

-- before an operand, and behind one
abbrev pub before : ℕ → List Group → Group → List Step → OpenGroups
before n outer inner taken = record { length = n; outer = outer; inner = inner; steps = taken; wants_operand = true }

abbrev pub behind : ℕ → List Group → Bool → List Step → OpenGroups
behind n outer alternatives taken = record { length = n; outer = outer; inner = group alternatives true; steps = taken; wants_operand = false }

open_step : (n k : ℕ) (outer : List Group) (inner : Group) (taken : List Step) (rest : List Lexeme) → length outer < 100
    → read_tokens (before n outer inner taken) (at Open k ∷ rest) ≡ read_tokens (before n (inner ∷ outer) (group false false) taken) rest
unfolding read_tokens
open_step n k outer inner taken rest room = let fits : nat_lt (length outer) 100 ≡ true = grind (arith, nat_tests) in rw fits refl

close_step : (n k : ℕ) (outer : List Group) (inner : Group) (a : Bool) (taken all : List Step) (rest : List Lexeme) → taken ++ join_alternatives (group a true) ≡ all
    → read_tokens (behind n (inner ∷ outer) a taken) (at Close k ∷ rest) ≡ read_tokens (behind n outer inner.has_alternatives (all ++ join_chain inner)) rest
unfolding read_tokens
close_step n k outer inner a taken all rest is = ap (λ x. read_tokens (behind n outer inner.has_alternatives (x ++ join_chain inner)) rest) is

and_step : (n k : ℕ) (outer : List Group) (a : Bool) (taken : List Step) (rest : List Lexeme)
    → read_tokens (behind n outer a taken) (at And k ∷ rest) ≡ read_tokens (before n outer (group a true) taken) rest
unfolding read_tokens
and_step n k outer a taken rest = refl

or_step : (n k : ℕ) (outer : List Group) (a : Bool) (taken all : List Step) (rest : List Lexeme) → taken ++ join_alternatives (group a true) ≡ all
    → read_tokens (behind n outer a taken) (at Or k ∷ rest) ≡ read_tokens (before n outer (group true false) all) rest
unfolding read_tokens
or_step n k outer a taken all rest is = ap (λ x. read_tokens (before n outer (group true false) x) rest) is

compared_step : (n k : ℕ) (outer : List Group) (inner : Group) (taken : List Step) (left : Side) (o : MarkerOperator) (right : Side) (rest : List Lexeme)
    → read_tokens (before n outer inner taken) (at (Compares left o right) k ∷ rest)
    ≡ read_tokens (behind n outer inner.has_alternatives ((taken ++ Compare left o right ∷ []) ++ join_chain inner)) rest
unfolding read_tokens
compared_step n k outer inner taken left o right rest = refl

joined : (taken xs ys zs : List Step) → ((taken ++ xs) ++ ys) ++ zs ≡ taken ++ (xs ++ (ys ++ zs))
joined taken xs ys zs = append_assoc (taken ++ xs) ys zs ∙ append_assoc taken xs (ys ++ zs)

mutual
  operand_taken : {depth : ℕ} {tokens : List Lexeme} {m : Marker} → Denotes Operand depth tokens m → (n : ℕ) (outer : List Group) (inner : Group) (taken : List Step) (rest : List Lexeme)
      → length outer + depth ≤ 100
      → read_tokens (before n outer inner taken) (tokens ++ rest) ≡ read_tokens (behind n outer inner.has_alternatives ((taken ++ steps m) ++ join_chain inner)) rest
  operand_taken (compared left o right k) n outer inner taken rest room = compared_step n k outer inner taken left o right rest
  operand_taken (enclosed {tokens = tokens} {m = m} i k d) n outer inner taken rest room =
      let inside = disjunction_taken d n (inner ∷ outer) taken (at Close k ∷ rest) (omega arith) in
      open_step n i outer inner taken ((tokens ++ at Close k ∷ []) ++ rest) (omega arith)
      ∙ ap (λ r. read_tokens (before n (inner ∷ outer) (group false false) taken) r) (append_assoc tokens (at Close k ∷ []) rest)
      ∙ inside.3 ∙ close_step n k outer inner inside.0 inside.1 (taken ++ steps m) rest inside.2

  conjunction_taken : {depth : ℕ} {tokens : List Lexeme} {m : Marker} → Denotes Conjunction depth tokens m → (n : ℕ) (outer : List Group) (a : Bool) (taken : List Step) (rest : List Lexeme)
      → length outer + depth ≤ 100
      → read_tokens (before n outer (group a false) taken) (tokens ++ rest) ≡ read_tokens (behind n outer a (taken ++ steps m)) rest
  conjunction_taken (one {m = m} d) n outer a taken rest room =
      operand_taken d n outer (group a false) taken rest room ∙ ap (λ x. read_tokens (behind n outer a x) rest) (append-nil (taken ++ steps m))
  conjunction_taken (both {first = first} {second = second} {a = x} {b = y} k d e) n outer a taken rest room =
      ap (λ r. read_tokens (before n outer (group a false) taken) r) (append_assoc first (at And k ∷ second) rest)
      ∙ conjunction_taken d n outer a taken (at And k ∷ (second ++ rest)) room
      ∙ and_step n k outer a (taken ++ steps x) (second ++ rest)
      ∙ operand_taken e n outer (group a true) (taken ++ steps x) rest room
      ∙ ap (λ z. read_tokens (behind n outer a z) rest) (joined taken (steps x) (steps y) (JoinBoth ∷ []))

  disjunction_taken : {depth : ℕ} {tokens : List Lexeme} {m : Marker} → Denotes Disjunction depth tokens m → (n : ℕ) (outer : List Group) (taken : List Step) (rest : List Lexeme)
      → length outer + depth ≤ 100
      → (a : Bool) × (all : List Step) × (all ++ join_alternatives (group a true) ≡ taken ++ steps m)
      × (read_tokens (before n outer (group false false) taken) (tokens ++ rest) ≡ read_tokens (behind n outer a all) rest)
  disjunction_taken (alone {m = m} d) n outer taken rest room = (false, taken ++ steps m, append-nil (taken ++ steps m), conjunction_taken d n outer false taken rest room)
  disjunction_taken (either {first = first} {second = second} {a = x} {b = y} k d e) n outer taken rest room =
      let former = disjunction_taken d n outer taken (at Or k ∷ (second ++ rest)) room in (
        true,
        (taken ++ steps x) ++ steps y,
        joined taken (steps x) (steps y) (JoinEither ∷ []),
        ap (λ r. read_tokens (before n outer (group false false) taken) r) (append_assoc first (at Or k ∷ second) rest)
            ∙ former.3 ∙ or_step n k outer former.0 former.1 (taken ++ steps x) (second ++ rest) former.2
            ∙ conjunction_taken e n outer true (taken ++ steps x) rest room,
      )

-- at the end
last_step : (n : ℕ) (a : Bool) (all whole : List Step) → all ++ join_alternatives (group a true) ≡ whole → read_tokens (behind n [] a all) [] ≡ Ok whole
unfolding read_tokens
last_step n a all whole is = ap (λ x. Ok x) is

pub steps_are_read : StepsAreRead
unfolding marker_steps
steps_are_read text m d =
    let whole = disjunction_taken d (length text) [] [] [] (omega arith) in
    ap (λ r. read_tokens (before (length text) [] (group false false) []) r) (sym (append-nil (lexemes 0 text)))
    ∙ whole.3 ∙ last_step (length text) whole.0 whole.1 (steps m) whole.2

-- a byte of a token that was read
pub skipped_byte : (k b : ℕ) (rest : List ℕ) → 0 < k → lexemes k (b ∷ rest) ≡ lexemes (k - 1) rest
unfolding lexemes
skipped_byte zero b rest h = absurd (omega arith)
skipped_byte (suc j) b rest h = rw sub-one refl

-- a blank
pub blank_byte : (b : ℕ) (rest : List ℕ) → true ≡ is_blank_byte b → lexemes 0 (b ∷ rest) ≡ lexemes 0 rest
unfolding lexemes
blank_byte b rest h = rw (← h) refl

-- the first token
first_lexeme : (b : ℕ) (rest : List ℕ) → false ≡ is_blank_byte b
    → lexemes 0 (b ∷ rest) ≡ record { token = token (b ∷ rest); left = length (b ∷ rest) } ∷ lexemes (length rest - length (behind_token (b ∷ rest))) rest
unfolding lexemes
first_lexeme b rest h = rw (← h) refl

-- the groups after a token
pub token_taken : (s t : OpenGroups) (r : List ℕ) (b : ℕ) (rest : List ℕ) (k : ℕ) (x : Token) (whole : Result (List Step) Misfit) → r ≡ b ∷ rest → false ≡ is_blank_byte b → x ≡ token r
    → take_token s x (length r) ≡ Ok t → k ≡ (length r - 1) - length (behind_token r) → read_tokens s (lexemes 0 (b ∷ rest)) ≡ whole → read_tokens t (lexemes k rest) ≡ whole
unfolding read_tokens
token_taken s t r b rest k x whole is_front filled is_token stepped skips kept =
    let read_so = rw (first_lexeme b rest filled) at kept in
    let first = rw (is_token, is_front) at stepped in
    let count = rw (is_front, sub-one) at skips in
    rw count (rw first at read_so)

-- a fault
pub token_stray : (s : OpenGroups) (f : Misfit) (r : List ℕ) (b : ℕ) (rest : List ℕ) (x : Token) (whole : Result (List Step) Misfit) → r ≡ b ∷ rest → false ≡ is_blank_byte b → x ≡ token r
    → take_token s x (length r) ≡ Err f → read_tokens s (lexemes 0 (b ∷ rest)) ≡ whole → whole ≡ Err f
unfolding read_tokens
token_stray s f r b rest x whole is_front filled is_token stepped kept =
    let read_so = rw (first_lexeme b rest filled) at kept in
    let first = rw (is_token, is_front) at stepped in
    sym (rw first at read_so)

-- an error that is the fault of a step is that of the whole
pub lifted_stray : (e : MarkerError) (found : Result OpenGroups Misfit) (whole : Result (List Step) Misfit) → IsMarkerFault found e → ((f : Misfit) → found ≡ Err f → whole ≡ Err f) → IsMarkerFault whole e
lifted_stray (error.Invalid f position) found whole is lift = lift (record { fault = f; position = position }) is
lifted_stray error.OutOfMemory found whole is lift = tt

-- no tokens are left
no_lexemes : (k : ℕ) → lexemes k [] ≡ []
unfolding lexemes
no_lexemes k = refl

-- the end of the text
pub at_last : (s : OpenGroups) (k at : ℕ) (text : List ℕ) (whole : Result (List Step) Misfit) → length text ≤ at → read_tokens s (lexemes k (drop at text)) ≡ whole → end_steps s ≡ whole
unfolding read_tokens
at_last s k at text whole past kept = rw (drop_all at text past, no_lexemes k) at kept
