-- What holds of a JSON string's reader, from what holds of the reader of its text.
use Rattle.std.proofs.Common.{◌≡◌, ℕ, List, Option, Some, None, Result, Ok, Err, refl}
use Rattle.std.specs.Prelude.{IfErr, IfOk, IfSome, IsErrAnd, IsSomeAnd, MatchOption, MatchResult}
use Rattle.pep440_version.specs.Errors.{ReturnsOutcome}
use Rattle.pep440_rs.specs.Json.{IfParserError, ReturnsFromJson}
use Rattle.pep440_rs.specs.declared.json.error.JsonError.{JsonError}
use Rattle.pep440_rs.specs.declared.json.error.JsonError.TheVariants.{Text, OutOfMemory}

-- the one text of a value
pub one_text : {A : Type 0} (a b : A) (o : Option A) → o ≡ Some a → o ≡ Some b → a ≡ b
one_text a b o first second = cc

-- a fact of the value's text is a fact of the text that was read
pub from_text : {A X : Type 0} (P : A → X → Type 0) (a b : A) (o : Option A) (x : X) → o ≡ Some a → o ≡ Some b → P b x → P a x
from_text P a b o x first second fact = rw (one_text a b o first second) fact

module _ {E F : Type 0} (refusal : E → Option F) where
  -- the error of a text, or out of memory
  abbrev pub IsMade : E → JsonError E → Type 0
  IsMade e j = MatchOption (refusal e) (j ≡ OutOfMemory) (λ _. j ≡ Text e)

  refuses : (e : E) (Q : F → Type 0) (o : Option F) → refusal e ≡ o → (j : JsonError E) → MatchOption o (j ≡ OutOfMemory) (λ _. j ≡ Text e) → IfSome o Q
      → IfParserError j (λ inner. IsSomeAnd (refusal inner) Q)
  refuses e Q None is j made fact = rw made tt
  refuses e Q (Some f) is j made fact = rw (made, is) fact

  -- the error of the text within is a refusal, and what it says still holds
  still_refused : (e : E) (Q : F → Type 0) (j : JsonError E) → IsMade e j → IfSome (refusal e) Q → IfParserError j (λ inner. IsSomeAnd (refusal inner) Q)
  still_refused e Q j made fact = refuses e Q (refusal e) refl j made fact

  answers : {X : Type 0} (e : E) (outcome : Result X F) (o : Option F) → refusal e ≡ o → (j : JsonError E) → MatchOption o (j ≡ OutOfMemory) (λ _. j ≡ Text e)
      → IfSome o (λ f. outcome ≡ Err f) → ReturnsFromJson refusal (Err j) outcome
  answers e outcome None is j made fact = rw made tt
  answers e outcome (Some f) is j made fact = rw (made, is) fact

  -- the outcome of the text is still the answer
  still_answers : {X : Type 0} (e : E) (outcome : Result X F) (j : JsonError E) → IsMade e j → IfSome (refusal e) (λ f. outcome ≡ Err f) → ReturnsFromJson refusal (Err j) outcome
  still_answers e outcome j made fact = answers e outcome (refusal e) refl j made fact

  -- what the reader of the text answers, its error made one of JSON
  abbrev Made : {X : Type 0} → Result X E → Result X (JsonError E) → Type 0
  Made read made = MatchResult read (λ x. made ≡ Ok x) (λ e. IsErrAnd made (IsMade e))

  pub made_answers : {X : Type 0} (read : Result X E) (made : Result X (JsonError E)) (outcome : Result X F) → Made read made → ReturnsOutcome refusal read outcome → ReturnsFromJson refusal made outcome
  made_answers (Ok x) made outcome is fact = rw is fact
  made_answers (Err e) (Ok x) outcome is fact = absurd is
  made_answers (Err e) (Err j) outcome is fact = still_answers e outcome j is fact

  pub made_refused : {X : Type 0} (read : Result X E) (made : Result X (JsonError E)) (Q : F → Type 0) → Made read made → IfErr read (λ e. IfSome (refusal e) Q)
      → IfErr made (λ e. IfParserError e (λ inner. IsSomeAnd (refusal inner) Q))
  made_refused (Ok x) made Q is fact = rw is tt
  made_refused (Err e) (Ok x) Q is fact = absurd is
  made_refused (Err e) (Err j) Q is fact = still_refused e Q j is fact

  pub made_found : {X : Type 0} (read : Result X E) (made : Result X (JsonError E)) (P Q : X → Type 0) → ((x : X) → P x → Q x) → Made read made → IfOk read P → IfOk made Q
  made_found (Ok x) made P Q all is fact = rw is (all x fact)
  made_found (Err e) (Ok x) P Q all is fact = absurd is
  made_found (Err e) (Err j) P Q all is fact = tt

  -- what holds of the error of the text
  text_of_made : (e : E) (P : E → Type 0) (o : Option F) (j : JsonError E) → MatchOption o (j ≡ OutOfMemory) (λ _. j ≡ Text e) → IfSome o (λ _. P e) → IfParserError j P
  text_of_made e P None j is fact = rw is tt
  text_of_made e P (Some f) j is fact = rw is fact

  pub made_error : {X : Type 0} (read : Result X E) (made : Result X (JsonError E)) (P : E → Type 0) → Made read made → IfErr read (λ e. IfSome (refusal e) (λ _. P e)) → IfErr made (λ e. IfParserError e P)
  made_error (Ok x) made P is fact = rw is tt
  made_error (Err e) (Ok x) P is fact = absurd is
  made_error (Err e) (Err j) P is fact = text_of_made e P (refusal e) j is fact

  twice : (o : Option F) (Q : F → Type 0) → IfSome o Q → IfSome o (λ _. IfSome o Q)
  twice None Q fact = tt
  twice (Some f) Q fact = fact

  of_error : {X : Type 0} (read : Result X E) (Q : E → F → Type 0) → IfErr read (λ e. IfSome (refusal e) (Q e)) → IfErr read (λ e. IfSome (refusal e) (λ _. IfSome (refusal e) (Q e)))
  of_error (Ok x) Q fact = tt
  of_error (Err e) Q fact = twice (refusal e) (Q e) fact

  -- what is told of the refusal of the text
  pub made_told : {X : Type 0} (read : Result X E) (made : Result X (JsonError E)) (Q : E → F → Type 0) → Made read made → IfErr read (λ e. IfSome (refusal e) (Q e))
      → IfErr made (λ e. IfParserError e (λ inner. IfSome (refusal inner) (Q inner)))
  made_told read made Q is fact = made_error read made (λ e. IfSome (refusal e) (Q e)) is (of_error read Q fact)

-- what a refusal says of the text is said of the value's text
with_text : {F : Type 0} (R : List ℕ → F → Type 0) (a : List ℕ) (o : Option (List ℕ)) (r : Option F) → o ≡ Some a → IfSome r (R a) → IfSome r (λ f. (t : List ℕ) × (o ≡ Some t) × R t f)
with_text R a o None is fact = tt
with_text R a o (Some f) is fact = (a, is, fact)

pub with_texts : {X E F : Type 0} (refusal : E → Option F) (R : List ℕ → F → Type 0) (a : List ℕ) (o : Option (List ℕ)) (read : Result X E) → o ≡ Some a → IfErr read (λ e. IfSome (refusal e) (R a))
    → IfErr read (λ e. IfSome (refusal e) (λ f. (t : List ℕ) × (o ≡ Some t) × R t f))
with_texts refusal R a o (Ok x) is fact = tt
with_texts refusal R a o (Err e) is fact = with_text R a o (refusal e) is fact
