-- A reader on a text that goes on: it reads what it reads of the front, or past the front.
use Rattle.std.proofs.Common.{◌≡◌, ◌≤◌, ◌<◌, ◌^◌, ◌+◌, ◌==◌, ◌⊎◌, ℕ, suc, Bool, true, false, List, [], ◌∷◌, ◌++◌, refl, sym, ap, ◌∙◌, arith, drop, take, length, inl, inr, Ok, Result, Option, Some, None, subst, nat_lt}
use Rattle.std.proofs.lemmas.Bool.{cases_Bool}
use Rattle.std.proofs.lemmas.List.{append_assoc, length-append, take-append-drop}
use Rattle.std.specs.Char.{is_ascii_digit, to_ascii_lowercase}
use Rattle.std.specs.List.{prefix_len}
use Rattle.std.specs.Str.Parse.{digits_value}
use Rattle.pep440_version.specs.Grammar.{Spellings, is_separator, pre_spellings, post_spellings, dev_spellings, starts}
use Rattle.pep440_version.specs.Reading.{◌>>=◌, lead, past, starts_with_number, parse_number}
use Rattle.pep440_version.specs.Rejections.{Rejection}
use Rattle.pep440_version.specs.Suffixes.{starts_with_word, spelled, skip_separator, parse_count, after_spelling, parse_suffix, suffix_number, suffix_prerelease, parse_pre, is_implicit_post, parse_post, parse_dev}
use Rattle.pep440_version.proofs.Reading.Prefixes.{both_first, both_second}
use Rattle.pep440_version.proofs.Reading.ReadIsDerived.{bind_ok, chosen, inside, split, drop_one}
use Rattle.pep440_version.proofs.Reading.SpelledIsRead.{BeginWithLetters, letters_pre, letters_post, letters_dev, some}

abbrev pub Reader : Type 0 → Type 0
Reader A = List ℕ → Result (A × List ℕ) Rejection

-- b is at the end of a
abbrev pub IsEnd : List ℕ → List ℕ → Type 0
IsEnd a b = (prefix : List ℕ) × (a ≡ prefix ++ b)

-- b is at the end of a, after at least one byte
abbrev pub IsLater : List ℕ → List ℕ → Type 0
IsLater a b = (prefix : List ℕ) × (0 < length prefix) × (a ≡ prefix ++ b)

pub end_of : (a b c : List ℕ) → IsEnd a b → IsEnd b c → IsEnd a c
end_of a b c h g = (h.0 ++ g.0, h.1 ∙ ap (λ t. h.0 ++ t) g.1 ∙ sym (append_assoc h.0 g.0 c))

pub later_end : (a b c : List ℕ) → IsLater a b → IsEnd b c → IsLater a c
later_end a b c h g =
    let long = length-append h.0 g.0 in
    (h.0 ++ g.0, omega (arith, long, h.1), h.2 ∙ ap (λ t. h.0 ++ t) g.1 ∙ sym (append_assoc h.0 g.0 c))

pub past_one : (p : ℕ → Bool) (x : ℕ) (t : List ℕ) → p x ≡ true → past p (x ∷ t) ≡ past p t
past_one p x t e = let s : 1 + prefix_len p t ≡ suc (prefix_len p t) = omega arith in rw (e, s) refl

pub lead_one : (p : ℕ → Bool) (x : ℕ) (t : List ℕ) → p x ≡ true → lead p (x ∷ t) ≡ x ∷ lead p t
lead_one p x t e = let s : 1 + prefix_len p t ≡ suc (prefix_len p t) = omega arith in rw (e, s) refl

-- a run ends in the front, or goes past it
pub past_later : (p : ℕ → Bool) (t : List ℕ) → starts p t ≡ true → IsLater t (past p t)
past_later p [] s = cc s
past_later p (b ∷ t) s = (b ∷ lead p t, omega arith, rw (past_one p b t s) (ap (λ l. b ∷ l) (split p t)))

pub past_split : (p : ℕ → Bool) (t back : List ℕ) → ((past p (t ++ back) ≡ past p t ++ back) × (lead p (t ++ back) ≡ lead p t)) ⊎ IsLater back (past p (t ++ back))
past_split p [] [] = inl (refl, refl)
past_split p [] (b ∷ r) = elim (cases_Bool (p b)) [
  | inl e ↦ inr (past_later p (b ∷ r) e)
  | inr e ↦ inl (rw e refl, rw e refl)
]
past_split p (x ∷ t) back = elim (cases_Bool (p x)) [
  | inl e ↦ elim (past_split p t back) [
    | inl h ↦ inl (past_one p x (t ++ back) e ∙ h.0 ∙ ap (λ l. l ++ back) (sym (past_one p x t e)), lead_one p x (t ++ back) e ∙ ap (λ l. x ∷ l) h.1 ∙ sym (lead_one p x t e))
    | inr h ↦ inr (subst (IsLater back) (sym (past_one p x (t ++ back) e)) h)
  ]
  | inr e ↦ inl (rw e refl, rw e refl)
]

-- ---- numbers

pub number_rest : (t : List ℕ) (y : ℕ × List ℕ) → parse_number t ≡ Ok y → past is_ascii_digit t ≡ y.1
unfolding parse_number
number_rest t y e = elim (chosen (nat_lt (digits_value 10 (lead is_ascii_digit t)) (2 ^ 64)) _ _ _ e) [
  | inl h ↦ ap (λ (p : ℕ × List ℕ). p.1) (inside _ _ h.1)
  | inr h ↦ cc h.1
]

pub number_end : (t : List ℕ) (y : ℕ × List ℕ) → parse_number t ≡ Ok y → IsEnd t y.1
number_end t y e = subst (IsEnd t) (number_rest t y e) (lead is_ascii_digit t, split is_ascii_digit t)

number_split : (t back : List ℕ) (y : ℕ × List ℕ) → parse_number (t ++ back) ≡ Ok y → ((u : List ℕ) × (parse_number t ≡ Ok (y.0, u)) × (y.1 ≡ u ++ back)) ⊎ IsLater back y.1
unfolding parse_number
number_split t back y e = elim (chosen (nat_lt (digits_value 10 (lead is_ascii_digit (t ++ back))) (2 ^ 64)) _ _ _ e) [
  | inl h ↦
      let both = inside _ _ h.1 in
      let value : digits_value 10 (lead is_ascii_digit (t ++ back)) ≡ y.0 = ap (λ (p : ℕ × List ℕ). p.0) both in
      let rest : past is_ascii_digit (t ++ back) ≡ y.1 = ap (λ (p : ℕ × List ℕ). p.1) both in
      elim (past_split is_ascii_digit t back) [
        | inl c ↦
            let fits : nat_lt (digits_value 10 (lead is_ascii_digit t)) (2 ^ 64) ≡ true = subst (λ l. nat_lt (digits_value 10 l) (2 ^ 64) ≡ true) c.1 h.0 in
            let same : digits_value 10 (lead is_ascii_digit t) ≡ y.0 = ap (digits_value 10) (sym c.1) ∙ value in
            inl (past is_ascii_digit t, rw (fits, same) refl, sym rest ∙ c.0)
        | inr c ↦ inr (subst (IsLater back) rest c)
      ]
  | inr h ↦ cc h.1
]

-- a number where a digit stands
pub digits_split : (t back : List ℕ) (y : ℕ × List ℕ) → starts_with_number (t ++ back) ≡ true → parse_number (t ++ back) ≡ Ok y
    → ((u : List ℕ) × (starts_with_number t ≡ true) × (parse_number t ≡ Ok (y.0, u)) × (y.1 ≡ u ++ back)) ⊎ IsLater back y.1
digits_split [] back y s e = inr (subst (IsLater back) (number_rest back y e) (past_later is_ascii_digit back s))
digits_split (b ∷ t) back y s e = elim (number_split (b ∷ t) back y e) [
  | inl c ↦ inl (c.0, s, c.1, c.2)
  | inr c ↦ inr c
]

pub starts_prefix : (p : ℕ → Bool) (t back : List ℕ) → starts p (t ++ back) ≡ false → starts p t ≡ false
starts_prefix p [] back s = refl
starts_prefix p (b ∷ t) back s = s

pub count_end : (t : List ℕ) (y : ℕ × List ℕ) → parse_count t ≡ Ok y → IsEnd t y.1
count_end t y e = elim (chosen (starts_with_number t) _ _ _ e) [
  | inl h ↦ number_end t y h.1
  | inr h ↦ ([], ap (λ (p : ℕ × List ℕ). p.1) (inside _ _ h.1))
]

count_split : (t back : List ℕ) (y : ℕ × List ℕ) → parse_count (t ++ back) ≡ Ok y → ((u : List ℕ) × (parse_count t ≡ Ok (y.0, u)) × (y.1 ≡ u ++ back)) ⊎ IsLater back y.1
count_split t back y e = elim (chosen (starts_with_number (t ++ back)) _ _ _ e) [
  | inl h ↦ elim (digits_split t back y h.0 h.1) [
    | inl c ↦ inl (c.0, rw c.1 c.2, c.3)
    | inr c ↦ inr c
  ]
  | inr h ↦
      let same = inside _ _ h.1 in
      let none : 0 ≡ y.0 = ap (λ (p : ℕ × List ℕ). p.0) same in
      inl (t, rw (starts_prefix is_ascii_digit t back h.0) (λ i. Ok (none i, t)), sym (ap (λ (p : ℕ × List ℕ). p.1) same))
]

-- ---- spelled parts

pub separator_end : (t : List ℕ) → IsEnd t (skip_separator t)
separator_end [] = ([], refl)
separator_end (b ∷ t) = elim (cases_Bool (is_separator b)) [
  | inl e ↦ (b ∷ [], rw e refl)
  | inr e ↦ ([], rw e refl)
]

separator_split : (t back : List ℕ) → (skip_separator (t ++ back) ≡ skip_separator t ++ back) ⊎ IsLater back (skip_separator (t ++ back))
separator_split [] [] = inl refl
separator_split [] (b ∷ r) = elim (cases_Bool (is_separator b)) [
  | inl e ↦ inr (b ∷ [], omega arith, rw e refl)
  | inr e ↦ inl (rw e refl)
]
separator_split (b ∷ t) back = elim (cases_Bool (is_separator b)) [
  | inl e ↦ inl (rw e refl)
  | inr e ↦ inl (rw e refl)
]

begins_on : (w t back : List ℕ) → starts_with_word w t ≡ true → starts_with_word w (t ++ back) ≡ true
begins_on [] t back e = refl
begins_on (c ∷ cs) [] back e = cc e
begins_on (c ∷ cs) (b ∷ t) back e = rw (both_first (to_ascii_lowercase b == c) _ e) (begins_on cs t back (both_second (to_ascii_lowercase b == c) _ e))

begins_split : (w t back : List ℕ) → starts_with_word w (t ++ back) ≡ true → ((starts_with_word w t ≡ true) × (drop (length w) (t ++ back) ≡ drop (length w) t ++ back)) ⊎ IsLater back (drop (length w) (t ++ back))
begins_split [] t back e = inl (refl, refl)
begins_split (c ∷ cs) [] [] e = cc e
begins_split (c ∷ cs) [] (b ∷ r) e = inr (b ∷ take (length cs) r, omega arith, ap (λ l. b ∷ l) (sym (take-append-drop (length cs) r)))
begins_split (c ∷ cs) (b ∷ t) back e = elim (begins_split cs t back (both_second (to_ascii_lowercase b == c) _ e)) [
  | inl h ↦ inl (rw (both_first (to_ascii_lowercase b == c) _ e) h.0, h.1)
  | inr h ↦ inr h
]

spelled_split : {A : Type 0} (table : Spellings A) (t back : List ℕ) (x : A × ℕ) → spelled table (t ++ back) ≡ Some x
    → ((spelled table t ≡ Some x) × (drop x.1 (t ++ back) ≡ drop x.1 t ++ back)) ⊎ IsLater back (drop x.1 (t ++ back))
spelled_split [] t back x e = cc e
spelled_split {A} (s ∷ more) t back x e = elim (chosen (starts_with_word s.0 (t ++ back)) _ _ _ e) [
  | inl h ↦
      let same = some _ _ h.1 in
      let long : length s.0 ≡ x.1 = ap (λ (p : A × ℕ). p.1) same in
      elim (begins_split s.0 t back h.0) [
        | inl c ↦ inl (rw c.0 (ap (λ (p : A × ℕ). Some p) same), subst (λ k. drop k (t ++ back) ≡ drop k t ++ back) long c.1)
        | inr c ↦ inr (subst (λ k. IsLater back (drop k (t ++ back))) long c)
      ]
  | inr h ↦ elim (cases_Bool (starts_with_word s.0 t)) [
    | inl g ↦ let on = begins_on s.0 t back g in cc (h.0, on)
    | inr g ↦ elim (spelled_split more t back x h.1) [
      | inl c ↦ inl (rw g c.0, c.1)
      | inr c ↦ inr c
    ]
  ]
]

spelled_none : {A : Type 0} (table : Spellings A) (t back : List ℕ) → spelled table (t ++ back) ≡ None → spelled table t ≡ None
spelled_none [] t back e = refl
spelled_none (s ∷ more) t back e = elim (chosen (starts_with_word s.0 (t ++ back)) _ _ _ e) [
  | inl h ↦ cc h.1
  | inr h ↦ elim (cases_Bool (starts_with_word s.0 t)) [
    | inl g ↦ let on = begins_on s.0 t back g in cc (h.0, on)
    | inr g ↦ rw g (spelled_none more t back h.1)
  ]
]

-- ---- readers in a row

abbrev pub Takes : {A : Type 0} → Reader A → Type 0
Takes {A} f = (t : List ℕ) (y : A × List ℕ) → f t ≡ Ok y → IsEnd t y.1

-- on a longer text the reader reads what it reads of the front, or goes past the front
abbrev pub Cuts : {A : Type 0} → Reader A → Type 0
Cuts {A} f = (t back : List ℕ) (y : A × List ℕ) → f (t ++ back) ≡ Ok y → ((u : List ℕ) × (f t ≡ Ok (y.0, u)) × (y.1 ≡ u ++ back)) ⊎ IsLater back y.1

pub bind_takes : {A B : Type 0} (f : Reader A) (k : A → Reader B) → Takes f → ((a : A) → Takes (k a)) → Takes (λ t. f t >>= λ x. k x.0 x.1)
bind_takes {A} {B} f k hf hk t y e =
    let r = bind_ok (f t) (λ (x : A × List ℕ). k x.0 x.1) y e in
    end_of t r.0.1 y.1 (hf t r.0 r.1) (hk r.0.0 r.0.1 y r.2)

pub bind_cuts : {A B : Type 0} (f : Reader A) (k : A → Reader B) → Cuts f → ((a : A) → Takes (k a)) → ((a : A) → Cuts (k a)) → Cuts (λ t. f t >>= λ x. k x.0 x.1)
bind_cuts {A} {B} f k cf tk ck t back y e =
    let r = bind_ok (f (t ++ back)) (λ (x : A × List ℕ). k x.0 x.1) y e in
    elim (cf t back r.0 r.1) [
      | inl h ↦
          let on : k r.0.0 (h.0 ++ back) ≡ Ok y = ap (k r.0.0) (sym h.2) ∙ r.2 in
          elim (ck r.0.0 h.0 back y on) [
            | inl g ↦ inl (g.0, rw h.1 g.1, g.2)
            | inr g ↦ inr g
          ]
      | inr h ↦ inr (later_end back r.0.1 y.1 h (tk r.0.0 r.0.1 y r.2))
    ]

pub done : {A : Type 0} (a : A) → Takes (λ t. Ok (a, t))
done {A} a t y e = ([], ap (λ (p : A × List ℕ). p.1) (inside _ _ e))

pub done_cuts : {A : Type 0} (a : A) → Cuts (λ t. Ok (a, t))
done_cuts {A} a t back y e =
    let same = inside _ _ e in
    let value : a ≡ y.0 = ap (λ (p : A × List ℕ). p.0) same in
    inl (t, (λ i. Ok (value i, t)), sym (ap (λ (p : A × List ℕ). p.1) same))

-- ---- a part that is spelled

counted_end : (t : List ℕ) (y : ℕ × List ℕ) → parse_count (skip_separator t) ≡ Ok y → IsEnd t y.1
counted_end t y e = end_of t (skip_separator t) y.1 (separator_end t) (count_end (skip_separator t) y e)

counted_split : (t back : List ℕ) (y : ℕ × List ℕ) → parse_count (skip_separator (t ++ back)) ≡ Ok y → ((u : List ℕ) × (parse_count (skip_separator t) ≡ Ok (y.0, u)) × (y.1 ≡ u ++ back)) ⊎ IsLater back y.1
counted_split t back y e = elim (separator_split t back) [
  | inl h ↦ count_split (skip_separator t) back y (ap parse_count (sym h) ∙ e)
  | inr h ↦ inr (later_end back (skip_separator (t ++ back)) y.1 h (count_end (skip_separator (t ++ back)) y e))
]

pub drop_end : (k : ℕ) (t : List ℕ) → IsEnd t (drop k t)
drop_end k t = (take k t, sym (take-append-drop k t))

pub suffix_end : {A : Type 0} (table : Spellings A) → Takes (parse_suffix table)
suffix_end {A} table t y e = by (spelled table (skip_separator t)) e
  where
    by : (o : Option (A × ℕ)) → after_spelling t (skip_separator t) o ≡ Ok y → IsEnd t y.1
    by None e = ([], ap (λ (p : Option (A × ℕ) × List ℕ). p.1) (inside _ _ e))
    by (Some x) e =
        let r = bind_ok (parse_count (skip_separator (drop x.1 (skip_separator t)))) _ y e in
        let left : r.0.1 ≡ y.1 = ap (λ (p : Option (A × ℕ) × List ℕ). p.1) (inside _ _ r.2) in
        subst (IsEnd t) left (end_of t (skip_separator t) r.0.1 (separator_end t) (end_of (skip_separator t) (drop x.1 (skip_separator t)) r.0.1 (drop_end x.1 (skip_separator t)) (counted_end _ r.0 r.1)))

begins_nothing : (u : List ℕ) → 0 < length u → starts_with_word u [] ≡ false
begins_nothing [] l = absurd (omega (arith, l))
begins_nothing (c ∷ cs) l = refl

letters_some : (u : List ℕ) → 97 ≤ Rattle.std.specs.Prelude.get_or u 0 0 → 0 < length u
letters_some [] l = absurd (omega (arith, l))
letters_some (c ∷ cs) l = omega arith

pub spelled_nothing : {A : Type 0} (table : Spellings A) → BeginWithLetters table → spelled table [] ≡ None
spelled_nothing [] l = refl
spelled_nothing (s ∷ more) l = rw (begins_nothing s.0 (letters_some s.0 l.0.0), spelled_nothing more l.1) refl

pub suffix_split : {A : Type 0} (table : Spellings A) → BeginWithLetters table → Cuts (parse_suffix table)
suffix_split {A} table letters t back y e = by (spelled table (skip_separator (t ++ back))) refl e
  where
    none : (t back : List ℕ) → spelled table (skip_separator (t ++ back)) ≡ None → spelled table (skip_separator t) ≡ None
    none [] back s = spelled_nothing table letters
    none (b ∷ t) back s = elim (cases_Bool (is_separator b)) [
      | inl e ↦ let s2 = rw e at s in rw e (spelled_none table t back s2)
      | inr e ↦ let s2 = rw e at s in rw e (spelled_none table (b ∷ t) back s2)
    ]

    by : (o : Option (A × ℕ)) → spelled table (skip_separator (t ++ back)) ≡ o → after_spelling (t ++ back) (skip_separator (t ++ back)) o ≡ Ok y
        → ((u : List ℕ) × (parse_suffix table t ≡ Ok (y.0, u)) × (y.1 ≡ u ++ back)) ⊎ IsLater back y.1
    by None s e =
        let same = inside _ _ e in
        let value : None ≡ y.0 = ap (λ (p : Option (A × ℕ) × List ℕ). p.0) same in
        inl (t, rw (none t back s) (λ i. Ok (value i, t)), sym (ap (λ (p : Option (A × ℕ) × List ℕ). p.1) same))
    by (Some x) s e =
        let r = bind_ok (parse_count (skip_separator (drop x.1 (skip_separator (t ++ back))))) _ y e in
        let same = inside _ _ r.2 in
        let value : Some (x.0, r.0.0) ≡ y.0 = ap (λ (p : Option (A × ℕ) × List ℕ). p.0) same in
        let left : r.0.1 ≡ y.1 = ap (λ (p : Option (A × ℕ) × List ℕ). p.1) same in
        let ends : IsEnd (drop x.1 (skip_separator (t ++ back))) y.1 = subst (IsEnd (drop x.1 (skip_separator (t ++ back)))) left (counted_end _ r.0 r.1) in
        elim (separator_split t back) [
          | inl c ↦ elim (spelled_split table (skip_separator t) back x (ap (spelled table) (sym c) ∙ s)) [
            | inl g ↦
                let at_word : drop x.1 (skip_separator (t ++ back)) ≡ drop x.1 (skip_separator t) ++ back = ap (drop x.1) c ∙ g.1 in
                elim (counted_split (drop x.1 (skip_separator t)) back r.0 (ap (λ l. parse_count (skip_separator l)) (sym at_word) ∙ r.1)) [
                  | inl d ↦ inl (d.0, rw (g.0, d.1) (λ i. Ok (value i, d.0)), sym left ∙ d.2)
                  | inr d ↦ inr (subst (IsLater back) left d)
                ]
            | inr g ↦ inr (later_end back (drop x.1 (skip_separator t ++ back)) y.1 g (subst (λ l. IsEnd (drop x.1 l) y.1) c ends))
          ]
          | inr c ↦ inr (later_end back (skip_separator (t ++ back)) y.1 c (end_of (skip_separator (t ++ back)) (drop x.1 (skip_separator (t ++ back))) y.1 (drop_end x.1 _) ends))
        ]

pub pre_end : Takes parse_pre
pre_end = bind_takes (parse_suffix pre_spellings) (λ x t. Ok (suffix_prerelease x, t)) (suffix_end pre_spellings) (λ x. done (suffix_prerelease x))

pub pre_split : Cuts parse_pre
pre_split = bind_cuts (parse_suffix pre_spellings) (λ x t. Ok (suffix_prerelease x, t)) (suffix_split pre_spellings letters_pre) (λ x. done (suffix_prerelease x)) (λ x. done_cuts (suffix_prerelease x))

pub dev_end : Takes parse_dev
dev_end = bind_takes (parse_suffix dev_spellings) (λ x t. Ok (suffix_number x, t)) (suffix_end dev_spellings) (λ x. done (suffix_number x))

pub dev_split : Cuts parse_dev
dev_split = bind_cuts (parse_suffix dev_spellings) (λ x t. Ok (suffix_number x, t)) (suffix_split dev_spellings letters_dev) (λ x. done (suffix_number x)) (λ x. done_cuts (suffix_number x))

parse_spelled_post : Reader (Option ℕ)
parse_spelled_post t = parse_suffix post_spellings t >>= λ x. Ok (suffix_number x.0, x.1)

spelled_post_end : Takes parse_spelled_post
unfolding parse_spelled_post
spelled_post_end = bind_takes (parse_suffix post_spellings) (λ x t. Ok (suffix_number x, t)) (suffix_end post_spellings) (λ x. done (suffix_number x))

spelled_post_split : Cuts parse_spelled_post
unfolding parse_spelled_post
spelled_post_split = bind_cuts (parse_suffix post_spellings) (λ x t. Ok (suffix_number x, t)) (suffix_split post_spellings letters_post) (λ x. done (suffix_number x)) (λ x. done_cuts (suffix_number x))

bare_post_at : Reader (Option ℕ)
bare_post_at t = parse_number t >>= λ n. Ok (Some n.0, n.1)

bare_post_end : Takes bare_post_at
unfolding bare_post_at
bare_post_end = bind_takes parse_number (λ x t. Ok (Some x, t)) number_end (λ x. done (Some x))

bare_post_split : (t back : List ℕ) (y : Option ℕ × List ℕ) → starts_with_number (t ++ back) ≡ true → bare_post_at (t ++ back) ≡ Ok y
    → ((u : List ℕ) × (starts_with_number t ≡ true) × (bare_post_at t ≡ Ok (y.0, u)) × (y.1 ≡ u ++ back)) ⊎ IsLater back y.1
unfolding bare_post_at
bare_post_split t back y s e =
    let r = bind_ok (parse_number (t ++ back)) _ y e in
    let same = inside _ _ r.2 in
    let value : Some r.0.0 ≡ y.0 = ap (λ (p : Option ℕ × List ℕ). p.0) same in
    let left : r.0.1 ≡ y.1 = ap (λ (p : Option ℕ × List ℕ). p.1) same in
    elim (digits_split t back r.0 s r.1) [
      | inl c ↦ inl (c.0, c.1, rw c.2 (λ i. Ok (value i, c.0)), sym left ∙ c.3)
      | inr c ↦ inr (subst (IsLater back) left c)
    ]

pub post_end : Takes parse_post
unfolding bare_post_at parse_spelled_post
post_end t y e = elim (chosen (is_implicit_post t) _ _ _ e) [
  | inl h ↦ end_of t (drop 1 t) y.1 (drop_end 1 t) (bare_post_end (drop 1 t) y h.1)
  | inr h ↦ spelled_post_end t y h.1
]

bare_prefix : (t back : List ℕ) → is_implicit_post (t ++ back) ≡ false → is_implicit_post t ≡ false
bare_prefix [] back e = refl
bare_prefix (b ∷ []) back e = elim (cases_Bool (b == 45)) [ inl h ↦ rw h refl | inr h ↦ rw h refl ]
bare_prefix (b ∷ c ∷ t) back e = e

pub post_split : Cuts parse_post
unfolding bare_post_at parse_spelled_post
post_split t back y e = elim (chosen (is_implicit_post (t ++ back)) _ _ _ e) [
  | inl h ↦ bare t h.0 h.1
  | inr h ↦ elim (spelled_post_split t back y h.1) [
    | inl c ↦ inl (c.0, rw (bare_prefix t back h.0) c.1, c.2)
    | inr c ↦ inr c
  ]
]
  where
    bare : (t : List ℕ) → is_implicit_post (t ++ back) ≡ true → bare_post_at (drop 1 (t ++ back)) ≡ Ok y → ((u : List ℕ) × (parse_post t ≡ Ok (y.0, u)) × (y.1 ≡ u ++ back)) ⊎ IsLater back y.1
    bare [] s e = inr (later_end back (drop 1 back) y.1 (45 ∷ [], omega arith, drop_one 45 back (both_first _ _ s)) (bare_post_end (drop 1 back) y e))
    bare (b ∷ t) s e = elim (bare_post_split t back y (both_second (b == 45) _ s) e) [
      | inl c ↦ inl (c.0, rw (both_first (b == 45) _ s, c.1) c.2, c.3)
      | inr c ↦ inr c
    ]
