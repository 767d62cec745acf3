-- Loops over items whose codes begin with a byte above 0, up to a byte 0.
use Rattle.std.proofs.Common.{◌≡◌, ◌∙◌, ℕ, ◌+◌, ◌-◌, ◌<◌, refl, sym, ap, arith, List, [], ◌∷◌, ◌++◌, append_assoc, get_or, length}
use Rattle.std.specs.List.{All, AllByRecursion, flat_map}
use Rattle.std.specs.Prelude.{drop, map, take}
use Rattle.pep440_compiled.specs.KeyParts.{BeginsOtherwise}
use Rattle.std.proofs.Math.Seq.{drop-append_seam, take-append_seam}
use Rattle.std.proofs.lemmas.List.{append-nil, length-append}
use Rattle.pep440_keys.proofs.Codes.{Opens, number_opens, segment_opens}
use Rattle.pep440_keys.specs.SortKeys.{HasNoZero, needed_bytes, number_bytes, segment_bytes}
use Rattle.pep440_version.specs.Record.{LocalSegmentValue, Number, Text}

-- where the bytes have items up to a 0, what is left of them has items up to this 0
abbrev pub Leads : {A : Type 0} → (A → Type 0) → (A → List ℕ) → List ℕ → List ℕ → Type 0
Leads {A} P code bytes left = (xs : List A) (rest : List ℕ) → AllByRecursion P xs → bytes ≡ flat_map code xs ++ 0 ∷ rest → (ys : List A) × AllByRecursion P ys × (left ≡ flat_map code ys ++ 0 ∷ rest)

pub leads_first : {A : Type 0} (P : A → Type 0) (code : A → List ℕ) (bytes : List ℕ) → Leads P code bytes bytes
leads_first P code bytes xs rest p e = (xs, p, e)

module _ {A : Type 0} {code : A → List ℕ} (o : (a : A) → Opens (code a)) where
  no_item : (x : A) (later more : List ℕ) → 0 ∷ later ≡ code x ++ more → ⊥
  no_item x later more e =
      let w = o x in
      let first : 0 ≡ w.first = ap (λ l. get_or l 0 0) (e ∙ ap (λ l. l ++ more) w.is) in
      omega (arith, first, w.above)

  -- before it
  pub leads_on : (P : A → Type 0) (first : ℕ) (later rest : List ℕ) (ys : List A) → 0 < first → AllByRecursion P ys → first ∷ later ≡ flat_map code ys ++ 0 ∷ rest
      → (y : A) × (more : List A) × P y × AllByRecursion P more × (ys ≡ y ∷ more) × (first ∷ later ≡ code y ++ (flat_map code more ++ 0 ∷ rest))
  leads_on P first later rest [] h p e = absurd (let same : first ≡ 0 = ap (λ l. get_or l 0 0) e in omega (arith, same, h))
  leads_on P first later rest (y ∷ ys) h p e = (y, ys, p.0, p.1, refl, e ∙ append_assoc (code y) (flat_map code ys) (0 ∷ rest))

-- where the bytes have items up to a 0, those that were read are the first of them, and what is left has the others
abbrev pub Reads : {A : Type 0} → (A → Type 0) → (A → List ℕ) → List ℕ → List A → List ℕ → Type 0
Reads {A} P code bytes seen left = (xs : List A) (rest : List ℕ) → AllByRecursion P xs → bytes ≡ flat_map code xs ++ 0 ∷ rest → (ys : List A) × AllByRecursion P ys × (xs ≡ seen ++ ys) × (left ≡ flat_map code ys ++ 0 ∷ rest)

-- ---- strings

-- where the bytes have a string up to a 0, what is left of them has the end of one up to this 0
abbrev pub LeadsText : List ℕ → List ℕ → Type 0
LeadsText bytes left = (text rest : List ℕ) → AllByRecursion (λ b. 0 < b) text → bytes ≡ text ++ 0 ∷ rest → (more : List ℕ) × AllByRecursion (λ b. 0 < b) more × (left ≡ more ++ 0 ∷ rest)

-- ---- zeros of a release

abbrev pub LeadsZeros : List ℕ → List ℕ → Type 0
LeadsZeros bytes left = (numbers rest : List ℕ) → BeginsOtherwise 1 rest → bytes ≡ map (λ n. 1) numbers ++ rest → (more : List ℕ) × (left ≡ map (λ n. 1) more ++ rest)

abbrev pub EndsZeros : List ℕ → List ℕ → Type 0
EndsZeros bytes left = (key numbers : List ℕ) → bytes ≡ (key ++ 0 ∷ []) ++ map (λ n. 1) numbers → (more : List ℕ) × (left ≡ (key ++ 0 ∷ []) ++ map (λ n. 1) more)

-- ---- numbers

pub every : (xs : List ℕ) → AllByRecursion (λ (n : ℕ). Unit {0}) xs
every [] = tt
every (x ∷ xs) = (tt, every xs)

-- a first byte that is not 0 is that of a number, and its bytes follow
pub record Next (P : ℕ → Type 0) (first : ℕ) (later rest : List ℕ) (ys : List ℕ) : Type 0 where
  pub number : ℕ
  pub more : List ℕ
  pub holds : P number
  pub all : AllByRecursion P more
  pub split : ys ≡ number ∷ more
  pub count : first ≡ 1 + length (needed_bytes number)
  pub bytes : later ≡ needed_bytes number ++ (flat_map (number_bytes 1) more ++ 0 ∷ rest)

pub next_number : (P : ℕ → Type 0) (first : ℕ) (left later rest ys : List ℕ) → AllByRecursion P ys → left ≡ first ∷ later → (first ≡ 0 → ⊥) → left ≡ flat_map (number_bytes 1) ys ++ 0 ∷ rest → Next P first later rest ys
next_number P first left later rest ys all e other f =
    let some : 0 < first = omega (arith, other) in
    let next = leads_on number_opens P first later rest ys some all (sym e ∙ f) in
    record {
      number = next.0;
      more = next.1;
      holds = next.2;
      all = next.3;
      split = next.4;
      count = ap (λ l. get_or l 0 0) next.5;
      bytes = ap (drop 1) next.5;
    }

pub end_of_numbers : (first : ℕ) (left later rest ys : List ℕ) → left ≡ first ∷ later → first ≡ 0 → left ≡ flat_map (number_bytes 1) ys ++ 0 ∷ rest → (ys ≡ []) × (later ≡ rest)
end_of_numbers first left later rest [] e z f = (refl, ap (drop 1) (sym e ∙ f))
end_of_numbers first left later rest (y ∷ ys) e z f = absurd (let same : first ≡ 1 + length (needed_bytes y) = ap (λ l. get_or l 0 0) (sym e ∙ f) in omega (arith, same, z))

-- a number with the byte that counts its bytes
pub whole_number : {P : ℕ → Type 0} (first : ℕ) (left later rest ys : List ℕ) (next : Next P first later rest ys) → left ≡ first ∷ later
    → left ≡ number_bytes 1 next.number ++ (flat_map (number_bytes 1) next.more ++ 0 ∷ rest)
whole_number first left later rest ys next e = e ∙ (λ i. next.count i ∷ next.bytes i)

-- what stands behind so many bytes
pub behind : (count : ℕ) (later front back u v : List ℕ) → count ≡ length u → later ≡ u ++ v → back ≡ drop count later → back ≡ v
behind count later front back u v n e f = f ∙ (λ i. drop (n i) (e i)) ∙ drop-append_seam u v

pub enough : (count : ℕ) (later u v : List ℕ) → count ≡ length u → later ≡ u ++ v → length later < count → ⊥
enough count later u v n e few = omega (arith, few, n, ap length e, length-append u v)

pub not_nil : {A : Type 0} (code : A → List ℕ) (left rest : List ℕ) (ys : List A) → length left ≡ 0 → left ≡ flat_map code ys ++ 0 ∷ rest → ⊥
not_nil code left rest ys n e = omega (arith, n, ap length e, length-append (flat_map code ys) (0 ∷ rest))

-- the bytes up to a rest
pub up_to : (bytes front rest found : List ℕ) → bytes ≡ front ++ rest → found ≡ rest → take (length bytes - length found) bytes ≡ front
up_to bytes front rest found e f =
    let count : length bytes - length found ≡ length front = omega (arith, ap length e, ap length f, length-append front rest) in
    (λ i. take (count i) (e i)) ∙ take-append_seam front rest

-- ---- strings

pub text_end : (first : ℕ) (left later rest ys : List ℕ) → AllByRecursion (λ b. 0 < b) ys → left ≡ first ∷ later → first ≡ 0 → left ≡ ys ++ 0 ∷ rest → (ys ≡ []) × (later ≡ rest)
text_end first left later rest [] all e z f = (refl, ap (drop 1) (sym e ∙ f))
text_end first left later rest (y ∷ ys) all e z f = absurd (let same : first ≡ y = ap (λ l. get_or l 0 0) (sym e ∙ f) in omega (arith, same, z, all.0))

pub text_next : (first : ℕ) (left later rest ys : List ℕ) → AllByRecursion (λ b. 0 < b) ys → left ≡ first ∷ later → (first ≡ 0 → ⊥) → left ≡ ys ++ 0 ∷ rest → (more : List ℕ) × AllByRecursion (λ b. 0 < b) more × (ys ≡ first ∷ more) × (later ≡ more ++ 0 ∷ rest)
text_next first left later rest [] all e other f = absurd (other (ap (λ l. get_or l 0 0) (sym e ∙ f)))
text_next first left later rest (y ∷ ys) all e other f =
    let same : y ≡ first = ap (λ l. get_or l 0 0) (sym f ∙ e) in
    (ys, all.1, (λ i. same i ∷ ys), ap (drop 1) (sym e ∙ f))

pub text_left : (left rest ys : List ℕ) → length left ≡ 0 → left ≡ ys ++ 0 ∷ rest → ⊥
text_left left rest ys n e = omega (arith, n, ap length e, length-append ys (0 ∷ rest))

-- ---- zeros

abbrev ones : List ℕ → List ℕ
ones numbers = map (λ n. 1) numbers

pub zeros_end : (first : ℕ) (left later rest ys : List ℕ) → left ≡ first ∷ later → (first ≡ 1 → ⊥) → left ≡ ones ys ++ rest → left ≡ rest
zeros_end first left later rest [] e other f = f
zeros_end first left later rest (y ∷ ys) e other f = absurd (other (ap (λ l. get_or l 0 0) (sym e ∙ f)))

not_otherwise : (rest later : List ℕ) → BeginsOtherwise 1 rest → 1 ∷ later ≡ rest → ⊥
not_otherwise [] later o e = cc
not_otherwise (b ∷ rest) later o e = o (sym (ap (λ l. get_or l 0 0) e))

pub zeros_next : (first : ℕ) (left later rest ys : List ℕ) → BeginsOtherwise 1 rest → left ≡ first ∷ later → first ≡ 1 → left ≡ ones ys ++ rest → (more : List ℕ) × (later ≡ ones more ++ rest)
zeros_next first left later rest [] o e one f = absurd (not_otherwise rest later o (ap (λ n. n ∷ later) (sym one) ∙ sym e ∙ f))
zeros_next first left later rest (y ∷ ys) o e one f = (ys, ap (drop 1) (sym e ∙ f))

ones_more : (y : ℕ) (ys : List ℕ) → ones (y ∷ ys) ≡ ones ys ++ 1 ∷ []
ones_more y [] = refl
ones_more y (x ∷ ys) = ap (λ l. 1 ∷ l) (ones_more x ys)

last_exact : (s t : List ℕ) (a b : ℕ) → s ++ a ∷ [] ≡ t ++ b ∷ [] → (s ≡ t) × (a ≡ b)
last_exact [] [] a b e = (refl, ap (λ l. get_or l 0 0) e)
last_exact [] (y ∷ t) a b e = absurd (omega (arith, ap length e, length-append t (b ∷ [])))
last_exact (x ∷ s) [] a b e = absurd (omega (arith, ap length e, length-append s (a ∷ [])))
last_exact (x ∷ s) (y ∷ t) a b e =
    let rest = last_exact s t a b (ap (drop 1) e) in
    let first : x ≡ y = ap (λ l. get_or l 0 0) e in
    ((λ i. first i ∷ rest.0 i), rest.1)

-- the last of some bytes and ones
last_one : (pre front : List ℕ) (last y : ℕ) (ys : List ℕ) → front ++ last ∷ [] ≡ pre ++ ones (y ∷ ys) → (front ≡ pre ++ ones ys) × (last ≡ 1)
last_one pre front last y ys e = last_exact front (pre ++ ones ys) last 1 (e ∙ ap (λ l. pre ++ l) (ones_more y ys) ∙ sym (append_assoc pre (ones ys) (1 ∷ [])))

pub ends_there : (last : ℕ) (left front key ys : List ℕ) → left ≡ front ++ last ∷ [] → (last ≡ 1 → ⊥) → left ≡ (key ++ 0 ∷ []) ++ ones ys → left ≡ key ++ 0 ∷ []
ends_there last left front key [] e other f = f ∙ append-nil (key ++ 0 ∷ [])
ends_there last left front key (y ∷ ys) e other f = absurd (other (last_one (key ++ 0 ∷ []) front last y ys (sym e ∙ f)).1)

pub ends_before : (last : ℕ) (left front key ys : List ℕ) → left ≡ front ++ last ∷ [] → last ≡ 1 → left ≡ (key ++ 0 ∷ []) ++ ones ys → (more : List ℕ) × (front ≡ (key ++ 0 ∷ []) ++ ones more)
ends_before last left front key [] e one f =
    let zero : last ≡ 0 = (last_exact front key last 0 (sym e ∙ f ∙ append-nil (key ++ 0 ∷ []))).1 in
    absurd (omega (arith, zero, one))
ends_before last left front key (y ∷ ys) e one f = (ys, (last_one (key ++ 0 ∷ []) front last y ys (sym e ∙ f)).0)

-- ---- local segments

pub end_of_segments : (first : ℕ) (left later rest : List ℕ) (ys : List LocalSegmentValue) → left ≡ first ∷ later → first ≡ 0 → left ≡ flat_map segment_bytes ys ++ 0 ∷ rest → (ys ≡ []) × (later ≡ rest)
end_of_segments first left later rest [] e z f = (refl, ap (drop 1) (sym e ∙ f))
end_of_segments first left later rest (y ∷ ys) e z f = absurd (no_item segment_opens y later (flat_map segment_bytes ys ++ 0 ∷ rest) (ap (λ n. n ∷ later) (sym z) ∙ sym e ∙ f ∙ append_assoc (segment_bytes y) (flat_map segment_bytes ys) (0 ∷ rest)))

pub next_segment : (P : LocalSegmentValue → Type 0) (first : ℕ) (left later rest : List ℕ) (ys : List LocalSegmentValue) → AllByRecursion P ys → left ≡ first ∷ later → (first ≡ 0 → ⊥) → left ≡ flat_map segment_bytes ys ++ 0 ∷ rest
    → (y : LocalSegmentValue) × (more : List LocalSegmentValue) × P y × AllByRecursion P more × (ys ≡ y ∷ more) × (first ∷ later ≡ segment_bytes y ++ (flat_map segment_bytes more ++ 0 ∷ rest))
next_segment P first left later rest ys all e other f = leads_on segment_opens P first later rest ys (omega (arith, other)) all (sym e ∙ f)

-- the rest of a string's segment, and of a number's
pub after_text : (first : ℕ) (later rest : List ℕ) (s : LocalSegmentValue) → HasNoZero s → first ≡ 1 → first ∷ later ≡ segment_bytes s ++ rest → (text : List ℕ) × All (λ b. 0 < b) text × (s ≡ Text text) × (later ≡ text ++ 0 ∷ rest)
after_text first later rest (Text t) h one e = (t, h, refl, ap (drop 1) e ∙ append_assoc t (0 ∷ []) rest)
after_text first later rest (Number n) h one e = absurd (let same : first ≡ 2 + length (needed_bytes n) = ap (λ l. get_or l 0 0) e in omega (arith, same, one))
