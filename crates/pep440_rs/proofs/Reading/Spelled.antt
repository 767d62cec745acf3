-- The operator that a text spells, as reading finds it.
use Rattle.std.proofs.Common.{◌≡◌, ◌==◌, ℕ, List, Bool, true, false, Option, Some, None, codes, length, refl, subst, if◌then◌else◌}
use Rattle.std.proofs.lemmas.Slice.Eq.{bytes_eq-Decides}
use Rattle.std.specs.Str.{bytes_eq}
use Rattle.pep440_rs.specs.Operators.{Spells}
use Rattle.pep440_rs.specs.Specifiers.SpecifierReading.{read_operator}
use Rattle.pep440_rs.specs.declared.specifier.operator.Operator.{Operator}
use Rattle.pep440_rs.specs.declared.specifier.operator.Operator.TheVariants.{Equal, EqualStar, ExactEqual, NotEqual, NotEqualStar, TildeEqual, LessThan, LessThanEqual, GreaterThan, GreaterThanEqual}

pub spelled_read : (t : List ℕ) (o : Operator) → Spells t o → read_operator t ≡ Some o
spelled_read t Equal h = rw (h.0) refl
spelled_read t EqualStar h = cc (h.1)
spelled_read t ExactEqual h = rw (h.0) refl
spelled_read t NotEqual h = rw (h.0) refl
spelled_read t NotEqualStar h = cc (h.1)
spelled_read t TildeEqual h = rw (h.0) refl
spelled_read t LessThan h = rw (h.0) refl
spelled_read t LessThanEqual h = rw (h.0) refl
spelled_read t GreaterThan h = rw (h.0) refl
spelled_read t GreaterThanEqual h = rw (h.0) refl

-- a text is the first of a table, or is looked for in the rest
one_of : (t : List ℕ) (b : Bool) (x : Operator) (rest : Option Operator) (o : Operator) → (b ≡ true → Spells t x) → (rest ≡ Some o → Spells t o) → (if b then Some x else rest) ≡ Some o → Spells t o
one_of t true x rest o here there e = let same : x ≡ o = cc in subst (Spells t) same (here refl)
one_of t false x rest o here there e = there e

tested : (t s : List ℕ) → bytes_eq t s ≡ true → t ≡ s
tested t s e = (bytes_eq-Decides t s).0 e

pub read_spelled : (t : List ℕ) (o : Operator) → read_operator t ≡ Some o → Spells t o
read_spelled t o =
    one_of t (bytes_eq t (codes "==")) Equal _ o (λ e. (tested t (codes "==") e, refl))
    (one_of t (bytes_eq t (codes "===")) ExactEqual _ o (λ e. (tested t (codes "===") e, refl))
    (one_of t (bytes_eq t (codes "!=")) NotEqual _ o (λ e. (tested t (codes "!=") e, refl))
    (one_of t (bytes_eq t (codes "~=")) TildeEqual _ o (λ e. (tested t (codes "~=") e, refl))
    (one_of t (bytes_eq t (codes "<")) LessThan _ o (λ e. (tested t (codes "<") e, refl))
    (one_of t (bytes_eq t (codes "<=")) LessThanEqual _ o (λ e. (tested t (codes "<=") e, refl))
    (one_of t (bytes_eq t (codes ">")) GreaterThan _ o (λ e. (tested t (codes ">") e, refl))
    (one_of t (bytes_eq t (codes ">=")) GreaterThanEqual None o (λ e. (tested t (codes ">=") e, refl)) (λ e. cc e))))))))

pub none_spelled : (t : List ℕ) → read_operator t ≡ None → (o : Operator) → Spells t o → ⊥
none_spelled t e o h = let some = spelled_read t o h in cc

pub spelled_none : (t : List ℕ) → ((o : Operator) → Spells t o → ⊥) → read_operator t ≡ None
spelled_none t none = by_answer (read_operator t) refl
  where
    by_answer : (x : Option Operator) → read_operator t ≡ x → x ≡ None
    by_answer None e = refl
    by_answer (Some o) e = absurd (none o (read_spelled t o e))

pub spelled_some : (t : List ℕ) (o : Operator) → Spells t o → (length t == 0) ≡ false
spelled_some t Equal h = rw (h.0) refl
spelled_some t EqualStar h = rw (h.0) refl
spelled_some t ExactEqual h = rw (h.0) refl
spelled_some t NotEqual h = rw (h.0) refl
spelled_some t NotEqualStar h = rw (h.0) refl
spelled_some t TildeEqual h = rw (h.0) refl
spelled_some t LessThan h = rw (h.0) refl
spelled_some t LessThanEqual h = rw (h.0) refl
spelled_some t GreaterThan h = rw (h.0) refl
spelled_some t GreaterThanEqual h = rw (h.0) refl
