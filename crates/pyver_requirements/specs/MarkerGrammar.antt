-- The grammar of environment markers (PEP 508, "Grammar"), without the order in which tokens are read.
use Rattle.std.specs.Prelude.{ℕ, suc, List, [], ◌∷◌, ◌++◌}
use Rattle.pyver_requirements.specs.MarkerTerms.{All, Terms, comparison_text}
use Rattle.pyver_requirements.specs.MarkerTerms as terms_of
use Rattle.pyver_requirements.specs.MarkerTokens.{And, Close, Compares, Lexeme, Open, Or, Side, Token, lexemes}
use Rattle.pyver_requirements.specs.declared.marker_operator.MarkerOperator.{MarkerOperator}

-- a comparison; two markers of which both are to hold; two of which either is
pub data Marker : Type 0 where
  Comparison : Side → MarkerOperator → Side → Marker
  Both : Marker → Marker → Marker
  Either : Marker → Marker → Marker

-- its terms
abbrev pub terms : Marker → Terms
terms (Comparison left o right) = All (comparison_text left o right ∷ [])
terms (Both a b) = terms_of.both (terms a) (terms b)
terms (Either a b) = terms_of.either (terms a) (terms b)

-- what an expression may be: an operand, what `and` joins, or what `or` joins
pub data Rank : Type 0 where
  Operand : Rank
  Conjunction : Rank
  Disjunction : Rank

-- the token, at any position
abbrev pub at : Token → ℕ → Lexeme
at t left = record { token = t; left = left }

-- the tokens are an expression of this rank, with at most so many parentheses in one another, and denote this marker
pub data Denotes : Rank → ℕ → List Lexeme → Marker → Type 0 where
  compared : {depth : ℕ} (left : Side) (o : MarkerOperator) (right : Side) (n : ℕ) → Denotes Operand depth (at (Compares left o right) n ∷ []) (Comparison left o right)
  enclosed : {depth : ℕ} {tokens : List Lexeme} {m : Marker} (n k : ℕ) → Denotes Disjunction depth tokens m → Denotes Operand (suc depth) (at Open n ∷ (tokens ++ at Close k ∷ [])) m
  one : {depth : ℕ} {tokens : List Lexeme} {m : Marker} → Denotes Operand depth tokens m → Denotes Conjunction depth tokens m
  both : {depth : ℕ} {first second : List Lexeme} {a b : Marker} (n : ℕ) → Denotes Conjunction depth first a → Denotes Operand depth second b → Denotes Conjunction depth (first ++ at And n ∷ second) (Both a b)
  alone : {depth : ℕ} {tokens : List Lexeme} {m : Marker} → Denotes Conjunction depth tokens m → Denotes Disjunction depth tokens m
  either : {depth : ℕ} {first second : List Lexeme} {a b : Marker} (n : ℕ) → Denotes Disjunction depth first a → Denotes Conjunction depth second b → Denotes Disjunction depth (first ++ at Or n ∷ second) (Either a b)

-- the text denotes the marker: at most 100 parentheses stand in one another
abbrev pub DenotesMarker : List ℕ → Marker → Type 0
DenotesMarker text m = Denotes Disjunction 100 (lexemes 0 text) m
