-- The physical lines of a string, those that are joined, and strings that are the same but for their case.
use Rattle.std.proofs.Common.{◌≡◌, ◌≢◌, ◌∙◌, ◌+◌, ◌-◌, ◌==◌, ◌<◌, ℕ, zero, suc, List, [], ◌∷◌, false, cond, length, take, refl, sym, ap, arith, drop, ◌↔◌, Bool, true, map, Bor, ◌≤◌, ◌^◌, ◌++◌, not, Option, Some, IfSome, inl, inr, append_assoc}
use Rattle.std.proofs.lemmas.Bool.{cond-false, ne_eqb, cases_from_iff, cases_Bool}
use Rattle.std.proofs.lemmas.List.{drop-drop, map-append}
use Rattle.std.proofs.lemmas.List.Splits.{slice_split-cons_no}
use Rattle.std.specs.List.{onto_first, slice_split, filter}
use Rattle.pyver_requirements.specs.LogicalLines.{line_end, physical_lines, with_newlines, JoinedLine, Line, added, continues, filled, joined_from, prefixed, split_joined}
use Rattle.std.specs.Bool.{MatchBool}
use Rattle.std.specs.Char.{eq_ignore_ascii_case, to_ascii_lowercase}
use Rattle.std.specs.Cmp.Derive.Mapped.{pointwise-map}
use Rattle.std.specs.Cmp.Lexicographic.{pointwise, told_text}
use Rattle.std.specs.Prelude.{IsTrue, nat_eq}
use Rattle.std.proofs.lemmas.List.Elements.{filter-append}
use Rattle.std.specs.Option.{option_map_or}
use Rattle.pyver_requirements.specs.LineKinds.{logical_line_of, lines_with}
use Rattle.pyver_requirements.specs.declared.logical_line.LineJoiner.{LineJoiner}

-- no line end begins before this index
abbrev pub HasNoLineEnd : List ℕ → ℕ → Type 0
HasNoLineEnd text i = (k : ℕ) → k < i → line_end (drop k text) ≡ 0

abbrev split_lines : List ℕ → List (List ℕ)
split_lines text = slice_split (λ b. b == 10) text

-- a byte at which no line end begins
next_byte : (b : ℕ) (rest : List ℕ) → line_end (b ∷ rest) ≡ 0 → with_newlines 0 (b ∷ rest) ≡ b ∷ with_newlines 0 rest
next_byte b rest none = ap (λ (n : ℕ). cond (n == 0) (b ∷ with_newlines 0 rest) (10 ∷ with_newlines (n - 1) rest)) none

some_end : (n : ℕ) (x y : List ℕ) → 0 < n → cond (n == 0) x y ≡ y
some_end n x y some = cond-false (n == 0) x y (ne_eqb n 0 (λ e. omega (arith, some, e)))

-- a byte at which one begins
end_here : (b : ℕ) (rest : List ℕ) → 0 < line_end (b ∷ rest) → with_newlines 0 (b ∷ rest) ≡ 10 ∷ with_newlines (line_end (b ∷ rest) - 1) rest
end_here b rest some = some_end (line_end (b ∷ rest)) (b ∷ with_newlines 0 rest) (10 ∷ with_newlines (line_end (b ∷ rest) - 1) rest) some

newline_ends : (rest : List ℕ) → line_end (10 ∷ rest) ≢ 0
newline_ends [] e = absurd (omega (arith, e))
newline_ends (c ∷ rest) e = absurd (omega (arith, e))

no_newline : (b : ℕ) (rest : List ℕ) → line_end (b ∷ rest) ≡ 0 → (b == 10) ≡ false
no_newline b rest none = ne_eqb b 10 (λ e. newline_ends rest (ap (λ x. line_end (x ∷ rest)) (sym e) ∙ none))

kept : (b : ℕ) (rest : List ℕ) → line_end (b ∷ rest) ≡ 0 → split_lines (with_newlines 0 (b ∷ rest)) ≡ onto_first b (split_lines (with_newlines 0 rest))
kept b rest none = ap split_lines (next_byte b rest none) ∙ slice_split-cons_no (λ x. x == 10) b (with_newlines 0 rest) (no_newline b rest none)

without_first : (n : ℕ) (text : List ℕ) → with_newlines n text ≡ with_newlines 0 (drop n text)
without_first zero text = refl
without_first (suc n) [] = refl
without_first (suc n) (b ∷ rest) = without_first n rest

line_here : (text : List ℕ) (i : ℕ) → i < length text → HasNoLineEnd text i → 0 < line_end (drop i text)
    → split_lines (with_newlines 0 text) ≡ take i text ∷ split_lines (with_newlines (line_end (drop i text) - 1) (drop (suc i) text))
line_here [] i inside before some = absurd (omega (arith, inside))
line_here (b ∷ rest) zero inside before some = ap split_lines (end_here b rest some)
line_here (b ∷ rest) (suc i) inside before some =
    kept b rest (before 0 (omega arith))
    ∙ ap (onto_first b) (line_here rest i (omega (arith, inside)) (λ k lt. before (suc k) (omega (arith, lt))) some)

-- the first line ends at the first line end
pub first_line : (text : List ℕ) (i n : ℕ) → i < length text → n ≡ line_end (drop i text) → 0 < n → HasNoLineEnd text i → physical_lines text ≡ take i text ∷ physical_lines (drop (i + n) text)
first_line text i n inside is some before =
    let ends : 0 < line_end (drop i text) = rw is at some in
    let sum : suc i + (line_end (drop i text) - 1) ≡ i + n = omega (arith, ends, is) in
    line_here text i inside before ends
    ∙ ap (λ l. take i text ∷ split_lines l)
    (without_first (line_end (drop i text) - 1) (drop (suc i) text) ∙ ap (with_newlines 0) (drop-drop (line_end (drop i text) - 1) (suc i) text ∙ ap (λ k. drop k text) sum))

-- without a line end the text is one line
pub one_line : (text : List ℕ) → HasNoLineEnd text (length text) → physical_lines text ≡ text ∷ []
one_line [] none = refl
one_line (b ∷ rest) none = kept b rest (none 0 (omega arith)) ∙ ap (onto_first b) (one_line rest (λ k lt. none (suc k) (omega (arith, lt))))

-- ---- strings that are the same but for their case

decided_alike : (r s : Bool) (P : Type 0) → MatchBool r P (P → ⊥) → MatchBool s P (P → ⊥) → r ≡ s
decided_alike true true P a b = refl
decided_alike true false P a b = absurd (b a)
decided_alike false true P a b = absurd (a b)
decided_alike false false P a b = refl

-- what a test has told that ignores case
pub case_ignored : (r : Bool) (xs ys : List ℕ) → (IsTrue r ↔ (map to_ascii_lowercase xs ≡ map to_ascii_lowercase ys)) → r ≡ pointwise eq_ignore_ascii_case xs ys
case_ignored r xs ys told =
    let lower_xs : List ℕ = map to_ascii_lowercase xs in
    let lower_ys : List ℕ = map to_ascii_lowercase ys in
    decided_alike r (pointwise nat_eq lower_xs lower_ys) (lower_xs ≡ lower_ys) (cases_from_iff told) (told_text lower_xs lower_ys (pointwise nat_eq lower_xs lower_ys) refl)
    ∙ pointwise-map to_ascii_lowercase nat_eq xs ys

abbrev pub line : ℕ → List ℕ → JoinedLine
line number text = record { number = number; text = text }

prefixed_twice : (n m : ℕ) (s t : List ℕ) (lines : List JoinedLine) → prefixed n s (prefixed m t lines) ≡ prefixed n (s ++ t) lines
prefixed_twice n m s t [] = refl
prefixed_twice n m s t (l ∷ later) = ap (λ x. line n x ∷ later) (sym (append_assoc s t l.text))

joined_on : (n : ℕ) (text : List ℕ) (rest : List (List ℕ)) → continues text ≡ true → joined_from n (text ∷ rest) ≡ prefixed n (added text) (joined_from (n + 1) rest)
joined_on n text rest e = ap (λ (b : Bool). cond b (prefixed n (added text) (joined_from (n + 1) rest)) (line n (added text) ∷ joined_from (n + 1) rest)) e

joined_end : (n : ℕ) (text : List ℕ) (rest : List (List ℕ)) → continues text ≡ false → joined_from n (text ∷ rest) ≡ line n (added text) ∷ joined_from (n + 1) rest
joined_end n text rest e = ap (λ (b : Bool). cond b (prefixed n (added text) (joined_from (n + 1) rest)) (line n (added text) ∷ joined_from (n + 1) rest)) e

-- nothing in front changes nothing
pub prefixed_none : (n : ℕ) (rest : List (List ℕ)) → filled (prefixed n [] (joined_from n rest)) ≡ filled (joined_from n rest)
prefixed_none n [] = refl
prefixed_none n (text ∷ rest) = elim (cases_Bool (continues text)) [
  | inl h ↦
      ap (λ l. filled (prefixed n [] l)) (joined_on n text rest h) ∙ ap filled (prefixed_twice n n [] (added text) (joined_from (n + 1) rest)) ∙ ap filled (sym (joined_on n text rest h))
  | inr h ↦
      ap (λ l. filled (prefixed n [] l)) (joined_end n text rest h) ∙ ap filled (sym (joined_end n text rest h))
]

filled-append : (xs ys : List JoinedLine) → filled (xs ++ ys) ≡ filled xs ++ filled ys
filled-append xs ys =
    let test = λ (l : Line). not (length l.text == 0) in
    ap (filter test) (map-append split_joined xs ys) ∙ filter-append test (map split_joined xs) (map split_joined ys)

-- a line that ends its logical line
pub push_end : (a b : LineJoiner) (text : List ℕ) → continues text ≡ false → map logical_line_of b.lines.items ≡ map logical_line_of a.lines.items ++ filled (line a.first (a.text.items ++ added text) ∷ [])
    → b.text.items ≡ [] → b.first ≡ a.next + 1 → b.next ≡ a.next + 1 → (rest : List (List ℕ)) → lines_with b rest ≡ lines_with a (text ∷ rest)
push_end a b text ended lines none first next rest =
    let whole : JoinedLine = line a.first (a.text.items ++ added text) in
    let later : List JoinedLine = joined_from (a.next + 1) rest in
    (λ i. lines i ++ filled (prefixed (first i) (none i) (joined_from (next i) rest)))
    ∙ ap (λ l. (map logical_line_of a.lines.items ++ filled (whole ∷ [])) ++ l) (prefixed_none (a.next + 1) rest)
    ∙ append_assoc (map logical_line_of a.lines.items) (filled (whole ∷ [])) (filled later)
    ∙ ap (λ l. map logical_line_of a.lines.items ++ l) (sym (filled-append (whole ∷ []) later) ∙ ap (λ l. filled (prefixed a.first a.text.items l)) (sym (joined_end a.next text rest ended)))

-- ---- the physical lines that are left

abbrev pub lines_left : Option (Bor (List ℕ)) → List (List ℕ)
lines_left rest = option_map_or (λ r. physical_lines r.now) rest []

-- no more lines were read than there are bytes
abbrev pub HasRoom : ℕ → Option (Bor (List ℕ)) → Type 0
HasRoom next rest = (r : Bor (List ℕ)) → rest ≡ Some r → next + length r.now ≤ 2 ^ 63

pub room_none : (text : Bor (List ℕ)) (next : ℕ) → next ≡ 1 → length text.now < 2 ^ 63 → HasRoom next (Some text)
room_none text next one short = λ r at.
    let same : text ≡ r = cc at in
    let long : length text.now ≡ length r.now = ap (λ (t : Bor (List ℕ)). length t.now) same in
    omega (arith, long, one, short)

pub room_more : (next more : ℕ) (rest : Option (Bor (List ℕ))) (text : Bor (List ℕ)) (later : Option (Bor (List ℕ))) → rest ≡ Some text → more ≡ next + 1 → IfSome later (λ r. length r.now < length text.now) → HasRoom next rest → HasRoom more later
room_more next more rest text later is count shorter room = λ r at.
    let less : length r.now < length text.now = rw at at shorter in
    let here : next + length text.now ≤ 2 ^ 63 = room text is in
    omega (arith, less, here, count)
