-- What is read is derived by the grammar.
use Rattle.std.proofs.Common.{◌≡◌, ◌≤◌, ◌<◌, ◌^◌, ◌+◌, ◌==◌, ◌⊎◌, ℕ, suc, zero, Bool, true, false, List, [], ◌∷◌, ◌++◌, refl, sym, ap, ◌∙◌, arith, drop, length, inl, inr, Ok, Err, Result, ltb-true, cond, nat_lt, eqb-true, subst, lt-ltb}
use Rattle.std.proofs.lemmas.Bool.{cases_Bool}
use Rattle.std.proofs.lemmas.List.{append_assoc, append-nil, length-append, take-append-drop, nil_from_length}
use Rattle.std.specs.Char.{is_ascii_digit, is_ascii_whitespace}
use Rattle.std.specs.List.{list_all, prefix_len}
use Rattle.std.specs.Str.Parse.{digits_value}
use Rattle.pep440_version.specs.Grammar.{IsNumber, IsRelease, IsLeadingV, AreBlanks, starts}
use Rattle.pep440_version.specs.Reading.{◌>>=◌, lead, past, skip_v, parse_number, has_next_number, parse_release}
use Rattle.pep440_version.specs.Rejections.{Rejection}
use Rattle.pep440_version.proofs.Reading.Prefixes.{both_first, both_second, lead-all, past-stops, lead-run, past-run, digit_not_blank, digit_not_v, blank_not_digit, blank_not_dot, blank_not_bang}

pub bind_ok : {A B : Type 0} (r : Result A Rejection) (f : A → Result B Rejection) (y : B) → (r >>= f) ≡ Ok y → (x : A) × (r ≡ Ok x) × (f x ≡ Ok y)
bind_ok (Ok x) f y e = (x, refl, e)
bind_ok (Err d) f y e = cc e

pub chosen : {A : Type 0} (b : Bool) (x y z : A) → cond b x y ≡ z → ((b ≡ true) × (x ≡ z)) ⊎ ((b ≡ false) × (y ≡ z))
chosen true x y z e = inl (refl, e)
chosen false x y z e = inr (refl, e)

pub inside : {A : Type 0} (x y : A) → (let r : Result A Rejection = Ok x in r) ≡ Ok y → x ≡ y
inside {A} x y e = ap (λ (r : Result A Rejection). elim r as (λ _. A) [ Ok z ↦ z | Err f ↦ x ]) e

pub lead-some : (p : ℕ → Bool) (t : List ℕ) → starts p t ≡ true → 0 < length (lead p t)
lead-some p [] s = cc s
lead-some p (b ∷ rest) s =
    let one : 1 + prefix_len p rest ≡ suc (prefix_len p rest) = omega arith in
    rw (s, one) (omega arith)

pub split : (p : ℕ → Bool) (t : List ℕ) → t ≡ lead p t ++ past p t
split p t = sym (take-append-drop (prefix_len p t) t)

pub number_takes : (t : List ℕ) (x : ℕ × List ℕ) → starts is_ascii_digit t ≡ true → parse_number t ≡ Ok x → (ds : List ℕ) × IsNumber ds x.0 × (t ≡ ds ++ x.1)
unfolding parse_number
number_takes t x s e = elim (chosen (nat_lt (digits_value 10 (lead is_ascii_digit t)) (2 ^ 64)) _ _ _ e) [
  | inl h ↦
      let both = inside _ _ h.1 in
      let value : digits_value 10 (lead is_ascii_digit t) ≡ x.0 = ap (λ (p : ℕ × List ℕ). p.0) both in
      let rest : past is_ascii_digit t ≡ x.1 = ap (λ (p : ℕ × List ℕ). p.1) both in
      (lead is_ascii_digit t, (lead-some is_ascii_digit t s, lead-all is_ascii_digit t, value, subst (λ n. n < 2 ^ 64) value (ltb-true _ _ h.0)), split is_ascii_digit t ∙ ap (λ r. lead is_ascii_digit t ++ r) rest)
  | inr h ↦ cc h.1
]

release_cons : (ds n : List ℕ) (x : ℕ) (ns : List ℕ) → IsNumber ds x → IsRelease n ns → IsRelease (ds ++ (46 ∷ n)) (x ∷ ns)
release_cons ds n x [] h r = absurd r
release_cons ds n x (m ∷ more) h r = (ds, n, h, r, refl)

pub drop_one : (c : ℕ) (t : List ℕ) → starts (λ b. b == c) t ≡ true → t ≡ c ∷ drop 1 t
drop_one c [] s = cc s
drop_one c (b ∷ rest) s = ap (λ d. d ∷ rest) (eqb-true b c s)

pub release_takes : (k : ℕ) (t : List ℕ) (x : List ℕ × List ℕ) → starts is_ascii_digit t ≡ true → length t ≤ k → parse_release k t ≡ Ok x → (n : List ℕ) × IsRelease n x.0 × (t ≡ n ++ x.1)
unfolding parse_release
release_takes zero [] x s room e = cc s
release_takes zero (b ∷ t) x s room e = absurd (omega (arith, room))
release_takes (suc k) t x s room e =
    let n = bind_ok (parse_number t) _ x e in
    let prefix = number_takes t n.0 s n.1 in
    elim (chosen (has_next_number n.0.1) _ _ _ n.2) [
      | inl h ↦
          let dot = drop_one 46 n.0.1 (both_first _ _ h.0) in
          let more = bind_ok (parse_release k (drop 1 n.0.1)) _ x h.1 in
          let long = ap length prefix.2 ∙ length-append prefix.0 n.0.1 in
          let shorter = ap length dot in
          let later = release_takes k (drop 1 n.0.1) more.0 (both_second _ _ h.0) (omega (arith, long, shorter, prefix.1.0, room)) more.1 in
          let same = inside _ _ more.2 in
          let numbers : n.0.0 ∷ more.0.0 ≡ x.0 = ap (λ (p : List ℕ × List ℕ). p.0) same in
          let rest : more.0.1 ≡ x.1 = ap (λ (p : List ℕ × List ℕ). p.1) same in (
            prefix.0 ++ (46 ∷ later.0),
            subst (IsRelease (prefix.0 ++ (46 ∷ later.0))) numbers (release_cons prefix.0 later.0 n.0.0 more.0.0 prefix.1 later.1),
            prefix.2 ∙ ap (λ r. prefix.0 ++ r) (dot ∙ ap (λ r. 46 ∷ r) (later.2 ∙ ap (λ r. later.0 ++ r) rest)) ∙ sym (append_assoc prefix.0 (46 ∷ later.0) x.1),
          )
      | inr h ↦
          let same = inside _ _ h.1 in
          let numbers : n.0.0 ∷ [] ≡ x.0 = ap (λ (p : List ℕ × List ℕ). p.0) same in
          let rest : n.0.1 ≡ x.1 = ap (λ (p : List ℕ × List ℕ). p.1) same in
          (prefix.0, subst (IsRelease prefix.0) numbers prefix.1, prefix.2 ∙ ap (λ r. prefix.0 ++ r) rest)
    ]

pub blank_end : (t : List ℕ) → (length (past is_ascii_whitespace t) == 0) ≡ true → AreBlanks t
blank_end t e =
    let nothing : past is_ascii_whitespace t ≡ [] = nil_from_length (past is_ascii_whitespace t) (eqb-true _ _ e) in
    let whole : t ≡ lead is_ascii_whitespace t = split is_ascii_whitespace t ∙ ap (λ r. lead is_ascii_whitespace t ++ r) nothing ∙ append-nil (lead is_ascii_whitespace t) in
    ap (list_all is_ascii_whitespace) whole ∙ lead-all is_ascii_whitespace t

pub v_takes : (t : List ℕ) → (v : List ℕ) × IsLeadingV v × (t ≡ v ++ skip_v t)
v_takes [] = ([], inl refl, refl)
v_takes (b ∷ rest) = elim (cases_Bool (b == 118)) [
  | inl e ↦ (118 ∷ [], inr (inl refl), rw (eqb-true b 118 e) refl)
  | inr e ↦ elim (cases_Bool (b == 86)) [
    | inl f ↦ (86 ∷ [], inr (inr refl), rw (eqb-true b 86 f) refl)
    | inr f ↦ ([], inl refl, rw (e, f) refl)
  ]
]

pub number_stops : (t : List ℕ) (x : ℕ × List ℕ) → parse_number t ≡ Ok x → starts is_ascii_digit x.1 ≡ false
unfolding parse_number
number_stops t x e = elim (chosen (nat_lt (digits_value 10 (lead is_ascii_digit t)) (2 ^ 64)) _ _ _ e) [
  | inl h ↦ subst (λ l. starts is_ascii_digit l ≡ false) (ap (λ (p : ℕ × List ℕ). p.1) (inside _ _ h.1)) (past-stops is_ascii_digit t)
  | inr h ↦ cc h.1
]

-- ---- what the grammar derives is read so: the record is the only one

pub number_first : (ds rest : List ℕ) (n : ℕ) → IsNumber ds n → starts is_ascii_digit (ds ++ rest) ≡ true
number_first [] rest n h = absurd (omega (arith, h.0))
number_first (d ∷ ds) rest n h = both_first (is_ascii_digit d) (list_all is_ascii_digit ds) h.1

pub number_again : (ds rest : List ℕ) (n : ℕ) → IsNumber ds n → starts is_ascii_digit rest ≡ false → parse_number (ds ++ rest) ≡ Ok (n, rest)
unfolding parse_number
number_again ds rest n h s =
    rw (lead-run is_ascii_digit ds rest h.1 s, past-run is_ascii_digit ds rest h.1 s, h.2, lt-ltb n (2 ^ 64) h.3) refl

pub release_first : (t rest : List ℕ) (ns : List ℕ) → IsRelease t ns → starts is_ascii_digit (t ++ rest) ≡ true
release_first t rest [] h = absurd h
release_first t rest (n ∷ []) h = number_first t rest n h
release_first t rest (n ∷ m ∷ more) h = rw (h.4, append_assoc h.0 (46 ∷ h.1) rest) (number_first h.0 (46 ∷ h.1 ++ rest) n h.2)

pub release_again : (k : ℕ) (t rest : List ℕ) (ns : List ℕ) → IsRelease t ns → length t ≤ k → starts is_ascii_digit rest ≡ false → has_next_number rest ≡ false
    → parse_release k (t ++ rest) ≡ Ok (ns, rest)
unfolding parse_release
release_again k t rest [] h room s g = absurd h
release_again zero t rest (n ∷ []) h room s g = absurd (omega (arith, h.0))
release_again (suc k) t rest (n ∷ []) h room s g = rw (number_again t rest n h s, g) refl
release_again zero t rest (n ∷ m ∷ more) h room s g =
    let long = ap length h.4 ∙ length-append h.0 (46 ∷ h.1) in
    absurd (omega (arith, long))
release_again (suc k) t rest (n ∷ m ∷ more) h room s g =
    let long = ap length h.4 ∙ length-append h.0 (46 ∷ h.1) in
    let first = release_first h.1 rest (m ∷ more) h.3 in
    let later = release_again k h.1 rest (m ∷ more) h.3 (omega (arith, long, h.2.0)) s g in
    rw (h.4, append_assoc h.0 (46 ∷ h.1) rest, number_again h.0 (46 ∷ h.1 ++ rest) n h.2 refl, first, later) refl

-- what follows a release is blanks
pub blanks_stop : (w : List ℕ) → AreBlanks w → (starts is_ascii_digit w ≡ false) × (has_next_number w ≡ false) × (starts (λ b. b == 33) w ≡ false) × (past is_ascii_whitespace w ≡ [])
blanks_stop [] h = (refl, refl, refl, refl)
blanks_stop (b ∷ rest) h =
    let first = both_first (is_ascii_whitespace b) (list_all is_ascii_whitespace rest) h in
    (blank_not_digit b first, rw (blank_not_dot b first) refl, blank_not_bang b first, ap (past is_ascii_whitespace) (sym (append-nil (b ∷ rest))) ∙ past-run is_ascii_whitespace (b ∷ rest) [] h refl)

pub v_again : (v rest : List ℕ) → IsLeadingV v → starts is_ascii_digit rest ≡ true → skip_v (v ++ rest) ≡ rest
v_again v [] h s = cc s
v_again v (d ∷ rest) (inl e) s = rw (e, digit_not_v d s) refl
v_again v (d ∷ rest) (inr (inl e)) s = rw e refl
v_again v (d ∷ rest) (inr (inr e)) s = rw e refl

pub v_not_blank : (v rest : List ℕ) → IsLeadingV v → starts is_ascii_digit rest ≡ true → starts is_ascii_whitespace (v ++ rest) ≡ false
v_not_blank v [] h s = cc s
v_not_blank v (d ∷ rest) (inl e) s = rw e (digit_not_blank d s)
v_not_blank v (d ∷ rest) (inr (inl e)) s = rw e refl
v_not_blank v (d ∷ rest) (inr (inr e)) s = rw e refl
