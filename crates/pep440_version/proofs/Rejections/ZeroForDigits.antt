-- A run of digits above the limit, and `0` in its place: what is read before it does not change.
use Rattle.std.proofs.Common.{◌≡◌, ◌≤◌, ◌<◌, ◌^◌, ◌==◌, ◌&&◌, ◌⊎◌, ℕ, Bool, true, false, List, [], ◌∷◌, ◌++◌, refl, sym, ap, ◌∙◌, arith, drop, length, inl, inr, Ok, Err, Option, Some, None, codes, subst, nat_lt, nat_le, ◌||◌, suc, zero, eqb-true}
use Rattle.std.proofs.lemmas.Bool.{cases_Bool, le-ltb}
use Rattle.std.proofs.lemmas.Bool.Decides.{nat_tests}
use Rattle.std.specs.Char.{is_ascii_digit, to_ascii_lowercase, is_ascii_whitespace}
use Rattle.std.specs.List.{list_all}
use Rattle.std.specs.Str.Parse.{digits_value}
use Rattle.pep440_version.specs.Grammar.{Spellings, is_separator, pre_spellings, post_spellings, dev_spellings, starts, is_v}
use Rattle.pep440_version.specs.Reading.{◌>>=◌, lead, past, starts_with_number, parse_number, Read, skip_v, has_next_number, parse_release}
use Rattle.pep440_version.specs.Rejections.{Rejection, NumberTooBig, ends, NoLeadingNumber, NoLeadingReleaseNumber}
use Rattle.pep440_version.specs.Suffixes.{starts_with_word, spelled, skip_separator, parse_count, parse_suffix, suffix_number, suffix_prerelease, parse_pre, is_implicit_post, parse_post, parse_dev}
use Rattle.pep440_version.proofs.Reading.Prefixes.{both_first, both_second, lead-run, digit_not_blank, digit_not_v}
use Rattle.pep440_version.proofs.Reading.ReadIsDerived.{chosen, split}
use Rattle.pep440_version.proofs.Reading.SpelledIsRead.{is_letter, digit_no_separator, digit_no_letter, some}
use Rattle.pep440_version.proofs.Rejections.LongerTexts.{Reader, IsEnd, end_of, past_one, lead_one, separator_end, drop_end, number_end}
use Rattle.std.proofs.lemmas.List.{append-nil, length-append}
use Rattle.pep440_version.specs.Locals.{starts_local, parse_local}
use Rattle.pep440_version.specs.Whole.{parse_release_after_epoch, parse_epoch_and_release, parse_through_release, parse_parts, starts_with_star}
use Rattle.pep440_version.proofs.Rejections.LongerParts.{record_of, end_long, v_end}

-- digits above the limit, and no digit after them
pub record IsRun (d after : List ℕ) : Type 0 where
  pub digits : list_all is_ascii_digit d ≡ true
  pub big : 2 ^ 64 ≤ digits_value 10 d
  pub stops : starts is_ascii_digit after ≡ false

pub run_starts : (d after rest : List ℕ) → IsRun d after → starts_with_number (d ++ rest) ≡ true
run_starts [] after rest r = absurd (omega (arith, r.big))
run_starts (b ∷ d) after rest r = both_first (is_ascii_digit b) (list_all is_ascii_digit d) r.digits

pub run_refused : (d after : List ℕ) → IsRun d after → parse_number (d ++ after) ≡ Err (NumberTooBig d)
unfolding parse_number
run_refused d after r = rw (lead-run is_ascii_digit d after r.digits r.stops, le-ltb (digits_value 10 d) (2 ^ 64) r.big) refl

pub number_zero : parse_number (codes "0") ≡ Ok (0, [])
unfolding parse_number
number_zero = refl

-- a text before digits: a reader stays before them, or stops at them, or fails before them
pub data Twin {A : Type 0} (f : Reader A) (prefix d after : List ℕ) : Type 0 where
  Stays : (a : A) (u : List ℕ) → IsEnd prefix u → ((z : List ℕ) → starts_with_number z ≡ true → f (prefix ++ z) ≡ Ok (a, u ++ z)) → Twin f prefix d after
  Stops : (a : A) → f (prefix ++ codes "0") ≡ Ok (a, []) → f (prefix ++ (d ++ after)) ≡ Err (NumberTooBig d) → Twin f prefix d after
  Fails : (e : Rejection) → ((z : List ℕ) → starts_with_number z ≡ true → f (prefix ++ z) ≡ Err e) → Twin f prefix d after

abbrev pub Twins : {A : Type 0} → Reader A → Type 0
Twins {A} f = (prefix d after : List ℕ) → IsRun d after → ends is_ascii_digit prefix ≡ false → Twin f prefix d after

-- ---- the last byte

pub ends_append : (p : ℕ → Bool) (a : List ℕ) (b : ℕ) (t : List ℕ) → ends p (a ++ (b ∷ t)) ≡ ends p (b ∷ t)
ends_append p [] b t = refl
ends_append p (x ∷ []) b t = refl
ends_append p (x ∷ y ∷ a) b t = ends_append p (y ∷ a) b t

pub ends_end : (p : ℕ → Bool) (a b : List ℕ) → IsEnd a b → ends p a ≡ false → ends p b ≡ false
ends_end p a [] h e = refl
ends_end p a (x ∷ b) h e = sym (ends_append p h.0 x b) ∙ ap (ends p) (sym h.1) ∙ e

pub ends_last : (p : ℕ → Bool) (a : List ℕ) → ends p a ≡ true → (g : List ℕ) × (c : ℕ) × (a ≡ g ++ (c ∷ [])) × (p c ≡ true)
ends_last p [] e = cc e
ends_last p (x ∷ []) e = ([], x, refl, e)
ends_last p (x ∷ y ∷ a) e = let h = ends_last p (y ∷ a) e in (x ∷ h.0, h.1, ap (λ l. x ∷ l) h.2, h.3)

-- ---- readers in a row

pub twin_after : {A : Type 0} (f g : Reader A) (prefix later d after : List ℕ) → IsRun d after → IsEnd prefix later → ((z : List ℕ) → starts_with_number z ≡ true → f (prefix ++ z) ≡ g (later ++ z))
    → Twin g later d after → Twin f prefix d after
twin_after f g prefix later d after r h same (Stays a u e k) = Stays a u (end_of prefix later u h e) (λ z s. same z s ∙ k z s)
twin_after f g prefix later d after r h same (Stops a x y) = Stops a (same (codes "0") refl ∙ x) (same (d ++ after) (run_starts d after after r) ∙ y)
twin_after f g prefix later d after r h same (Fails e k) = Fails e (λ z s. same z s ∙ k z s)

pub bind_twin : {A B : Type 0} (f : Reader A) (k : A → Reader B) (prefix d after : List ℕ) → Twin f prefix d after
    → ((a : A) (u : List ℕ) → IsEnd prefix u → Twin (k a) u d after) → ((a : A) → (b : B) × (k a [] ≡ Ok (b, []))) → IsRun d after → Twin (λ t. f t >>= λ x. k x.0 x.1) prefix d after
bind_twin f k prefix d after (Fails e h) next idle r = Fails e (λ z s. rw (h z s) refl)
bind_twin f k prefix d after (Stops a x y) next idle r = let i = idle a in Stops i.0 (rw x i.1) (rw y refl)
bind_twin f k prefix d after (Stays a u h g) next idle r = twin_after (λ t. f t >>= λ x. k x.0 x.1) (k a) prefix u d after r h (λ z s. rw (g z s) refl) (next a u h)

pub done_twin : {A : Type 0} (a : A) (prefix d after : List ℕ) → Twin (λ t. Ok (a, t)) prefix d after
done_twin a prefix d after = Stays a prefix ([], refl) (λ z s. refl)

-- ---- numbers

run_stays : (p : ℕ → Bool) (t z : List ℕ) → 0 < length t → ends p t ≡ false → (lead p (t ++ z) ≡ lead p t) × (past p (t ++ z) ≡ past p t ++ z)
run_stays p [] z l e = absurd (omega (arith, l))
run_stays p (b ∷ []) z l e = (rw e refl, rw e refl)
run_stays p (b ∷ c ∷ t) z l e = elim (cases_Bool (p b)) [
  | inl h ↦
      let more = run_stays p (c ∷ t) z (omega arith) e in
      (lead_one p b (c ∷ t ++ z) h ∙ ap (λ s. b ∷ s) more.0 ∙ sym (lead_one p b (c ∷ t) h), past_one p b (c ∷ t ++ z) h ∙ more.1 ∙ ap (λ s. s ++ z) (sym (past_one p b (c ∷ t) h)))
  | inr h ↦ (rw h refl, rw h refl)
]

-- a number in a front that does not end in a digit
pub number_stays : (t : List ℕ) → 0 < length t → ends is_ascii_digit t ≡ false
    → ((a : ℕ) × (u : List ℕ) × IsEnd t u × ((z : List ℕ) → parse_number (t ++ z) ≡ Ok (a, u ++ z))) ⊎ ((e : Rejection) × ((z : List ℕ) → parse_number (t ++ z) ≡ Err e))
unfolding parse_number
number_stays t l e = elim (cases_Bool (nat_lt (digits_value 10 (lead is_ascii_digit t)) (2 ^ 64))) [
  | inl h ↦ inl (
    digits_value 10 (lead is_ascii_digit t),
    past is_ascii_digit t,
    (lead is_ascii_digit t, split is_ascii_digit t),
    λ z. let s = run_stays is_ascii_digit t z l e in rw (s.0, s.1, h) refl,
  )
  | inr h ↦ inr (NumberTooBig (lead is_ascii_digit t), λ z. let s = run_stays is_ascii_digit t z l e in rw (s.0, s.1, h) refl)
]

pub number_twins : Twins parse_number
number_twins [] d after r e = Stops 0 number_zero (run_refused d after r)
number_twins (b ∷ t) d after r e = elim (number_stays (b ∷ t) (omega arith) e) [
  | inl h ↦ Stays h.0 h.1 h.2 (λ z s. h.3 z)
  | inr h ↦ Fails h.0 (λ z s. h.1 z)
]

pub count_twins : Twins parse_count
count_twins [] d after r e = Stops 0 number_zero (rw (run_starts d after after r) (run_refused d after r))
count_twins (b ∷ t) d after r e = elim (cases_Bool (is_ascii_digit b)) [
  | inl h ↦ twin_after parse_count parse_number (b ∷ t) (b ∷ t) d after r ([], refl) (λ z s. rw h refl) (number_twins (b ∷ t) d after r e)
  | inr h ↦ Stays 0 (b ∷ t) ([], refl) (λ z s. rw h refl)
]

-- ---- what digits are not

pub digit_not : (b c : ℕ) → is_ascii_digit b ≡ true → c < 48 → (b == c) ≡ false
digit_not b c h l = grind (arith, nat_tests)

pub starts_not : (p q : ℕ → Bool) → ((b : ℕ) → p b ≡ true → q b ≡ false) → (t : List ℕ) → starts p t ≡ true → starts q t ≡ false
starts_not p q not [] s = refl
starts_not p q not (b ∷ t) s = not b s

-- a test that the text that goes on does not pass
pub starts_stays : (p : ℕ → Bool) (t z : List ℕ) → starts p z ≡ false → starts p (t ++ z) ≡ starts p t
starts_stays p [] z s = s
starts_stays p (b ∷ t) z s = refl

pub separator_stays : (t z : List ℕ) → starts is_separator z ≡ false → skip_separator (t ++ z) ≡ skip_separator t ++ z
separator_stays [] z s = rw s refl
separator_stays (b ∷ t) z s = elim (cases_Bool (is_separator b)) [ inl h ↦ rw h refl | inr h ↦ rw h refl ]

pub past_stays : (p : ℕ → Bool) (t z : List ℕ) → starts p z ≡ false → past p (t ++ z) ≡ past p t ++ z
past_stays p [] [] s = refl
past_stays p [] (b ∷ z) s = rw s refl
past_stays p (b ∷ t) z s = elim (cases_Bool (p b)) [
  | inl h ↦ past_one p b (t ++ z) h ∙ past_stays p t z s ∙ ap (λ l. l ++ z) (sym (past_one p b t h))
  | inr h ↦ rw h refl
]

-- ---- spelled parts

abbrev pub all_letters : List ℕ → Bool
all_letters = list_all (λ c. nat_le 97 c && nat_le c 122)

abbrev pub AllLetters : {A : Type 0} → Spellings A → Type 0
AllLetters [] = Unit {0}
AllLetters (s ∷ rest) = (all_letters s.0 ≡ true) × AllLetters rest

no_letter : (b c : ℕ) → is_letter b ≡ false → (nat_le 97 c && nat_le c 122) ≡ true → (to_ascii_lowercase b == c) ≡ false
unfolding is_letter
no_letter b c n l = grind (arith, nat_tests)

begins_stays : (w t z : List ℕ) → all_letters w ≡ true → starts is_letter z ≡ false → starts_with_word w (t ++ z) ≡ starts_with_word w t
begins_stays [] t z l s = refl
begins_stays (c ∷ cs) [] [] l s = refl
begins_stays (c ∷ cs) [] (b ∷ z) l s = rw (no_letter b c s (both_first (nat_le 97 c && nat_le c 122) _ l)) refl
begins_stays (c ∷ cs) (b ∷ t) z l s = ap (λ x. (to_ascii_lowercase b == c) && x) (begins_stays cs t z (both_second (nat_le 97 c && nat_le c 122) _ l) s)

pub spelled_stays : {A : Type 0} (table : Spellings A) (t z : List ℕ) → AllLetters table → starts is_letter z ≡ false → spelled table (t ++ z) ≡ spelled table t
spelled_stays [] t z l s = refl
spelled_stays (w ∷ more) t z l s = rw (begins_stays w.0 t z l.0 s, spelled_stays more t z l.1 s) refl

begins_drop : (w t z : List ℕ) → starts_with_word w t ≡ true → drop (length w) (t ++ z) ≡ drop (length w) t ++ z
begins_drop [] t z e = refl
begins_drop (c ∷ cs) [] z e = cc e
begins_drop (c ∷ cs) (b ∷ t) z e = begins_drop cs t z (both_second (to_ascii_lowercase b == c) _ e)

pub spelled_drop : {A : Type 0} (table : Spellings A) (t z : List ℕ) (x : A × ℕ) → spelled table t ≡ Some x → drop x.1 (t ++ z) ≡ drop x.1 t ++ z
spelled_drop [] t z x e = cc e
spelled_drop {A} (s ∷ more) t z x e = elim (chosen (starts_with_word s.0 t) _ _ _ e) [
  | inl h ↦ let long : length s.0 ≡ x.1 = ap (λ (p : A × ℕ). p.1) (some _ _ h.1) in subst (λ k. drop k (t ++ z) ≡ drop k t ++ z) long (begins_drop s.0 t z h.0)
  | inr h ↦ spelled_drop more t z x h.1
]

pub letters_of_pre : AllLetters pre_spellings
letters_of_pre = (refl, (refl, (refl, (refl, (refl, (refl, (refl, (refl, tt))))))))

pub letters_of_post : AllLetters post_spellings
letters_of_post = (refl, (refl, (refl, tt)))

pub letters_of_dev : AllLetters dev_spellings
letters_of_dev = (refl, tt)

-- what stands after a spelling
counted_at : {A : Type 0} → A → Reader (Option (A × ℕ))
counted_at a t = parse_count (skip_separator t) >>= λ n. Ok (Some (a, n.0), n.1)

counted_twin : {A : Type 0} (a : A) → Twins (counted_at a)
unfolding counted_at
counted_twin {A} a prefix d after r e =
    let h = separator_end prefix in
    twin_after (counted_at a) (λ t. parse_count t >>= λ n. Ok (Some (a, n.0), n.1)) prefix (skip_separator prefix) d after r h (λ z s. rw (separator_stays prefix z (starts_not is_ascii_digit is_separator digit_no_separator z s)) refl)
    (bind_twin parse_count (λ n t. Ok (Some (a, n), t)) (skip_separator prefix) d after (count_twins (skip_separator prefix) d after r (ends_end is_ascii_digit prefix (skip_separator prefix) h e))
    (λ n u g. done_twin (Some (a, n)) u d after) (λ n. (Some (a, n), refl)) r)

pub suffix_twins : {A : Type 0} (table : Spellings A) → AllLetters table → Twins (parse_suffix table)
unfolding counted_at
suffix_twins {A} table letters prefix d after r e = by (spelled table (skip_separator prefix)) refl
  where
    word : (z : List ℕ) → starts_with_number z ≡ true → skip_separator (prefix ++ z) ≡ skip_separator prefix ++ z
    word z s = separator_stays prefix z (starts_not is_ascii_digit is_separator digit_no_separator z s)

    same : (z : List ℕ) → starts_with_number z ≡ true → spelled table (skip_separator prefix ++ z) ≡ spelled table (skip_separator prefix)
    same z s = spelled_stays table (skip_separator prefix) z letters (starts_not is_ascii_digit is_letter digit_no_letter z s)

    by : (o : Option (A × ℕ)) → spelled table (skip_separator prefix) ≡ o → Twin (parse_suffix table) prefix d after
    by None o = Stays None prefix ([], refl) (λ z s. rw (word z s, same z s, o) refl)
    by (Some x) o =
        let h = end_of prefix (skip_separator prefix) (drop x.1 (skip_separator prefix)) (separator_end prefix) (drop_end x.1 (skip_separator prefix)) in
        twin_after (parse_suffix table) (counted_at x.0) prefix (drop x.1 (skip_separator prefix)) d after r h
        (λ z s. rw (word z s, same z s, o, spelled_drop table (skip_separator prefix) z x o) refl)
        (counted_twin x.0 (drop x.1 (skip_separator prefix)) d after r (ends_end is_ascii_digit prefix _ h e))

pub pre_twins : Twins parse_pre
pre_twins prefix d after r e = bind_twin (parse_suffix pre_spellings) (λ x t. Ok (suffix_prerelease x, t)) prefix d after (suffix_twins pre_spellings letters_of_pre prefix d after r e) (λ x u h. done_twin (suffix_prerelease x) u d after) (λ x. (suffix_prerelease x, refl)) r

pub dev_twins : Twins parse_dev
dev_twins prefix d after r e = bind_twin (parse_suffix dev_spellings) (λ x t. Ok (suffix_number x, t)) prefix d after (suffix_twins dev_spellings letters_of_dev prefix d after r e) (λ x u h. done_twin (suffix_number x) u d after) (λ x. (suffix_number x, refl)) r

parse_spelled_post : Reader (Option ℕ)
parse_spelled_post t = parse_suffix post_spellings t >>= λ x. Ok (suffix_number x.0, x.1)

spelled_post_twins : Twins parse_spelled_post
unfolding parse_spelled_post
spelled_post_twins prefix d after r e = bind_twin (parse_suffix post_spellings) (λ x t. Ok (suffix_number x, t)) prefix d after (suffix_twins post_spellings letters_of_post prefix d after r e) (λ x u h. done_twin (suffix_number x) u d after) (λ x. (suffix_number x, refl)) r

bare_post_at : Reader (Option ℕ)
bare_post_at t = parse_number t >>= λ n. Ok (Some n.0, n.1)

bare_post_twins : Twins bare_post_at
unfolding bare_post_at
bare_post_twins prefix d after r e = bind_twin parse_number (λ x t. Ok (Some x, t)) prefix d after (number_twins prefix d after r e) (λ x u h. done_twin (Some x) u d after) (λ x. (Some x, refl)) r

digit_no_bare : (z : List ℕ) → starts_with_number z ≡ true → is_implicit_post z ≡ false
digit_no_bare [] s = refl
digit_no_bare (b ∷ z) s = rw (digit_not b 45 s (omega arith)) refl

pub post_twins : Twins parse_post
unfolding parse_spelled_post bare_post_at
post_twins [] d after r e = twin_after parse_post parse_spelled_post [] [] d after r ([], refl) (λ z s. rw (digit_no_bare z s) refl) (spelled_post_twins [] d after r e)
post_twins (b ∷ []) d after r e = elim (cases_Bool (b == 45)) [
  | inl h ↦ twin_after parse_post bare_post_at (b ∷ []) [] d after r (b ∷ [], refl) (λ z s. rw (h, s) refl) (bare_post_twins [] d after r refl)
  | inr h ↦ twin_after parse_post parse_spelled_post (b ∷ []) (b ∷ []) d after r ([], refl) (λ z s. rw h refl) (spelled_post_twins (b ∷ []) d after r e)
]
post_twins (b ∷ c ∷ t) d after r e = elim (cases_Bool (is_implicit_post (b ∷ c ∷ t))) [
  | inl h ↦ twin_after parse_post bare_post_at (b ∷ c ∷ t) (c ∷ t) d after r (b ∷ [], refl) (λ z s. rw h refl) (bare_post_twins (c ∷ t) d after r e)
  | inr h ↦ twin_after parse_post parse_spelled_post (b ∷ c ∷ t) (b ∷ c ∷ t) d after r ([], refl) (λ z s. rw h refl) (spelled_post_twins (b ∷ c ∷ t) d after r e)
]

-- ---- a run of digits above the limit, and `0` in its place: a release, an epoch and the parts after them

-- ---- the release

pub goes_short : (t : List ℕ) → has_next_number t ≡ true → suc (length (drop 1 t)) ≡ length t
goes_short [] e = cc e
goes_short (b ∷ t) e = refl

pub no_room : (t : List ℕ) → starts_with_number t ≡ true → length t ≤ 0 → ⊥
no_room [] s l = cc s
no_room (b ∷ t) s l = omega (arith, l)

-- as many numbers as there are
pub fuel : (k j : ℕ) (t : List ℕ) → starts_with_number t ≡ true → length t ≤ k → length t ≤ j → parse_release k t ≡ parse_release j t
unfolding parse_release
fuel zero j t s a b = absurd (no_room t s a)
fuel (suc k) zero t s a b = absurd (no_room t s b)
fuel (suc k) (suc j) t s a b = by (λ u. fuel k j u) (parse_number t) refl
  where
    by : ((u : List ℕ) → starts_with_number u ≡ true → length u ≤ k → length u ≤ j → parse_release k u ≡ parse_release j u) → (r : Read (ℕ × List ℕ)) → parse_number t ≡ r → parse_release (suc k) t ≡ parse_release (suc j) t
    by again (Err e) o = rw o refl
    by again (Ok n) o = elim (cases_Bool (has_next_number n.1)) [
      | inl h ↦
          let short = goes_short n.1 h in
          let long = end_long t n.1 (number_end t n o) in
          rw (o, h, again (drop 1 n.1) (both_second _ _ h) (omega (arith, short, long, a)) (omega (arith, short, long, b))) refl
      | inr h ↦ rw (o, h) refl
    ]

unfoldable pub all_release : Reader (List ℕ)
all_release t = parse_release (length t) t

release_refused : (t : List ℕ) (e : Rejection) → starts_with_number t ≡ true → parse_number t ≡ Err e → all_release t ≡ Err e
unfolding all_release parse_release
release_refused [] e s h = cc s
release_refused (b ∷ t) e s h = rw h refl

pub release_one : all_release (codes "0") ≡ Ok (0 ∷ [], [])
unfolding all_release parse_release
release_one = rw number_zero refl

digit_no_goes : (z : List ℕ) → starts_with_number z ≡ true → has_next_number z ≡ false
digit_no_goes [] s = refl
digit_no_goes (b ∷ z) s = rw (digit_not b 46 s (omega arith)) refl

-- the release goes on, or ends there
release_step : (b : ℕ) (t z u : List ℕ) (a : ℕ) → parse_number (b ∷ t ++ z) ≡ Ok (a, u ++ z) → has_next_number (u ++ z) ≡ false → all_release (b ∷ t ++ z) ≡ Ok (a ∷ [], u ++ z)
unfolding all_release parse_release
release_step b t z u a h g = rw (h, g) refl

release_more : (b : ℕ) (t z u : List ℕ) (a : ℕ) → parse_number (b ∷ t ++ z) ≡ Ok (a, 46 ∷ u ++ z) → starts_with_number (u ++ z) ≡ true → length u ≤ length t
    → all_release (b ∷ t ++ z) ≡ (all_release (u ++ z) >>= λ rest. Ok (a ∷ rest.0, rest.1))
unfolding all_release parse_release
release_more b t z u a h g l =
    let l1 = length-append t z in
    let l2 = length-append u z in
    rw (h, g, fuel (length (t ++ z)) (length (u ++ z)) (u ++ z) g (omega (arith, l, l1, l2)) (omega arith)) refl

release_then : (m : ℕ) → ((prefix d after : List ℕ) → length prefix ≤ m → (prefix ≡ []) ⊎ (starts_with_number prefix ≡ true) → IsRun d after → ends is_ascii_digit prefix ≡ false → Twin all_release prefix d after)
    → (b : ℕ) (t u d after : List ℕ) (a : ℕ) → length t ≤ m → IsRun d after → IsEnd (b ∷ t) u → ends is_ascii_digit u ≡ false
    → ((z : List ℕ) → parse_number (b ∷ t ++ z) ≡ Ok (a, u ++ z)) → Twin all_release (b ∷ t) d after
release_then m again b t [] d after a room r end e h = Stays (a ∷ []) [] end (λ z s. release_step b t z [] a (h z) (digit_no_goes z s))
release_then m again b t (c ∷ u) d after a room r end e h = elim (cases_Bool (c == 46)) [
  | inl dot ↦
      let short = end_long (b ∷ t) (c ∷ u) end in
      more u (omega (arith, short)) end e (eqb-true c 46 dot) h
  | inr none ↦ Stays (a ∷ []) (c ∷ u) end (λ z s. release_step b t z (c ∷ u) a (h z) (rw none refl))
]
  where
    more : (u : List ℕ) → length u ≤ length t → IsEnd (b ∷ t) (c ∷ u) → ends is_ascii_digit (c ∷ u) ≡ false → c ≡ 46 → ((z : List ℕ) → parse_number (b ∷ t ++ z) ≡ Ok (a, (c ∷ u) ++ z)) → Twin all_release (b ∷ t) d after
    more [] short end e dot h =
        let later : IsEnd (b ∷ t) [] = (b ∷ t, sym (append-nil (b ∷ t))) in
        twin_after all_release (λ t. all_release t >>= λ rest. Ok (a ∷ rest.0, rest.1)) (b ∷ t) [] d after r later (λ z s. release_more b t z [] a (h z ∙ (λ i. Ok (a, dot i ∷ z))) s (omega arith))
        (bind_twin all_release (λ ns t. Ok (a ∷ ns, t)) [] d after (again [] d after (omega arith) (inl refl) r refl) (λ ns v g. done_twin (a ∷ ns) v d after) (λ ns. (a ∷ ns, refl)) r)
    more (x ∷ u) short end e dot h = elim (cases_Bool (is_ascii_digit x)) [
      | inl digit ↦
          let later : IsEnd (b ∷ t) (x ∷ u) = end_of (b ∷ t) (c ∷ x ∷ u) (x ∷ u) end (c ∷ [], refl) in
          twin_after all_release (λ t. all_release t >>= λ rest. Ok (a ∷ rest.0, rest.1)) (b ∷ t) (x ∷ u) d after r later (λ z s. release_more b t z (x ∷ u) a (h z ∙ (λ i. Ok (a, dot i ∷ x ∷ u ++ z))) digit short)
          (bind_twin all_release (λ ns t. Ok (a ∷ ns, t)) (x ∷ u) d after (again (x ∷ u) d after (omega (arith, short, room)) (inr digit) r e) (λ ns v g. done_twin (a ∷ ns) v d after) (λ ns. (a ∷ ns, refl)) r)
      | inr none ↦ Stays (a ∷ []) (c ∷ x ∷ u) end (λ z s. release_step b t z (c ∷ x ∷ u) a (h z) (rw (dot, none) refl))
    ]

pub release_twin : (m : ℕ) (prefix d after : List ℕ) → length prefix ≤ m → (prefix ≡ []) ⊎ (starts_with_number prefix ≡ true) → IsRun d after → ends is_ascii_digit prefix ≡ false → Twin all_release prefix d after
release_twin m [] d after room first r e = Stops (0 ∷ []) release_one (release_refused (d ++ after) (NumberTooBig d) (run_starts d after after r) (run_refused d after r))
release_twin zero (b ∷ t) d after room first r e = absurd (omega (arith, room))
release_twin (suc m) (b ∷ t) d after room (inl none) r e = cc none
release_twin (suc m) (b ∷ t) d after room (inr first) r e = elim (number_stays (b ∷ t) (omega arith) e) [
  | inl h ↦ release_then m (release_twin m) b t h.1 d after h.0 (omega (arith, room)) r h.2 (ends_end is_ascii_digit (b ∷ t) h.1 h.2 e) h.3
  | inr h ↦ Fails h.0 (λ z s. release_refused (b ∷ t ++ z) h.0 first (h.1 z))
]

pub after_twin : (epoch : ℕ) (prefix d after : List ℕ) → (prefix ≡ []) ⊎ (starts_with_number prefix ≡ true) → IsRun d after → ends is_ascii_digit prefix ≡ false → Twin (parse_release_after_epoch epoch) prefix d after
unfolding all_release
after_twin epoch prefix d after first r e =
    bind_twin all_release (λ ns t. Ok ((epoch, ns), t)) prefix d after (release_twin (length prefix) prefix d after (omega arith) first r e) (λ ns u h. done_twin (epoch, ns) u d after) (λ ns. ((epoch, ns), refl)) r

-- ---- epoch and release

pub prefix_zero : parse_epoch_and_release (codes "0") ≡ Ok ((0, 0 ∷ []), [])
unfolding parse_epoch_and_release all_release parse_release
prefix_zero = rw number_zero refl

prefix_refused : (t : List ℕ) (e : Rejection) → starts_with_number t ≡ true → parse_number t ≡ Err e → parse_epoch_and_release t ≡ Err e
unfolding parse_epoch_and_release
prefix_refused t e s h = rw (s, h) refl

no_bang : (z : List ℕ) → starts_with_number z ≡ true → starts (λ b. b == 33) z ≡ false
no_bang [] s = refl
no_bang (b ∷ z) s = digit_not b 33 s (omega arith)

pub prefix_twins : Twins parse_epoch_and_release
unfolding parse_epoch_and_release
prefix_twins [] d after r e = Stops (0, 0 ∷ []) prefix_zero (prefix_refused (d ++ after) (NumberTooBig d) (run_starts d after after r) (run_refused d after r))
prefix_twins (b ∷ t) d after r e = elim (cases_Bool (is_ascii_digit b)) [
  | inl first ↦ elim (number_stays (b ∷ t) (omega arith) e) [
    | inl h ↦ on h.0 h.1 first h.2 h.3
    | inr h ↦ Fails h.0 (λ z s. rw (first, h.1 z) refl)
  ]
  | inr none ↦ Fails NoLeadingNumber (λ z s. rw none refl)
]
  where
    on : (a : ℕ) (u : List ℕ) → is_ascii_digit b ≡ true → IsEnd (b ∷ t) u → ((z : List ℕ) → parse_number (b ∷ t ++ z) ≡ Ok (a, u ++ z)) → Twin parse_epoch_and_release (b ∷ t) d after
    on a [] first end h = twin_after parse_epoch_and_release (parse_release_after_epoch 0) (b ∷ t) (b ∷ t) d after r ([], refl) (λ z s. rw (first, h z, no_bang z s) refl) (after_twin 0 (b ∷ t) d after (inr first) r e)
    on a (c ∷ u) first end h = elim (cases_Bool (c == 33)) [
      | inl bang ↦ epoch u bang (end_of (b ∷ t) (c ∷ u) u end (c ∷ [], refl)) h
      | inr none ↦ twin_after parse_epoch_and_release (parse_release_after_epoch 0) (b ∷ t) (b ∷ t) d after r ([], refl) (λ z s. rw (first, h z, none) refl) (after_twin 0 (b ∷ t) d after (inr first) r e)
    ]
      where
        epoch : (u : List ℕ) → (c == 33) ≡ true → IsEnd (b ∷ t) u → ((z : List ℕ) → parse_number (b ∷ t ++ z) ≡ Ok (a, (c ∷ u) ++ z)) → Twin parse_epoch_and_release (b ∷ t) d after
        epoch [] bang later h = twin_after parse_epoch_and_release (parse_release_after_epoch a) (b ∷ t) [] d after r later (λ z s. rw (first, h z, bang, s) refl) (after_twin a [] d after (inl refl) r refl)
        epoch (x ∷ u) bang later h = elim (cases_Bool (is_ascii_digit x)) [
          | inl digit ↦ twin_after parse_epoch_and_release (parse_release_after_epoch a) (b ∷ t) (x ∷ u) d after r later (λ z s. rw (first, h z, bang, digit) refl) (after_twin a (x ∷ u) d after (inr digit) r (ends_end is_ascii_digit (b ∷ t) (x ∷ u) later e))
          | inr none ↦ Fails NoLeadingReleaseNumber (λ z s. rw (first, h z, bang, none) refl)
        ]

pub v_stays : (t z : List ℕ) → starts is_v z ≡ false → skip_v (t ++ z) ≡ skip_v t ++ z
v_stays [] z s = rw s refl
v_stays (b ∷ t) z s = elim (cases_Bool (is_v b)) [ inl h ↦ rw h refl | inr h ↦ rw h refl ]

pub opening_twins : Twins parse_through_release
opening_twins prefix d after r e =
    let later : List ℕ = skip_v (past is_ascii_whitespace prefix) in
    let end : IsEnd prefix later = end_of prefix (past is_ascii_whitespace prefix) later (lead is_ascii_whitespace prefix, split is_ascii_whitespace prefix) (v_end (past is_ascii_whitespace prefix)) in
    twin_after parse_through_release parse_epoch_and_release prefix later d after r end
    (λ z s. ap (λ l. parse_epoch_and_release (skip_v l)) (past_stays is_ascii_whitespace prefix z (starts_not is_ascii_digit is_ascii_whitespace digit_not_blank z s)) ∙ ap parse_epoch_and_release (v_stays (past is_ascii_whitespace prefix) z (starts_not is_ascii_digit is_v digit_not_v z s)))
    (prefix_twins later d after r (ends_end is_ascii_digit prefix later end e))

pub star_stays : (u z : List ℕ) → starts_with_number z ≡ true → starts_with_star (u ++ z) ≡ starts_with_star u
star_stays [] [] s = cc s
star_stays [] (b ∷ z) s = rw (digit_not b 46 s (omega arith)) refl
star_stays (c ∷ []) [] s = cc s
star_stays (c ∷ []) (b ∷ z) s = ap (λ x. (c == 46) && x) (digit_not b 42 s (omega arith))
star_stays (c ∷ x ∷ u) z s = refl

-- ---- the parts after the release, where no `+` is

abbrev pub Lacks : List ℕ → Type 0
Lacks t = Rattle.std.specs.List.list_any (λ b. b == 43) t ≡ false

pub lacks_end : (a b : List ℕ) → IsEnd a b → Lacks a → Lacks b
lacks_end a b h e = both (Rattle.std.specs.List.list_any (λ b. b == 43) h.0) (Rattle.std.specs.List.list_any (λ b. b == 43) b) (sym (Rattle.std.proofs.lemmas.List.Folds.list_any-append (λ b. b == 43) h.0 b) ∙ ap (Rattle.std.specs.List.list_any (λ b. b == 43)) (sym h.1) ∙ e)
  where
    both : (x y : Bool) → (x || y) ≡ false → y ≡ false
    both false y e = e
    both true y e = cc e

plus_first : (t : List ℕ) → Lacks t → starts_local t ≡ false
plus_first [] e = refl
plus_first (b ∷ t) e = elim (cases_Bool (b == 43)) [ inl h ↦ let none = rw h at e in cc none | inr h ↦ h ]

no_plus : (z : List ℕ) → starts_with_number z ≡ true → starts_local z ≡ false
no_plus [] s = refl
no_plus (b ∷ z) s = digit_not b 43 s (omega arith)

local_twin : (prefix d after : List ℕ) → Lacks prefix → Twin parse_local prefix d after
local_twin prefix d after l = Stays [] prefix ([], refl) (λ z s. rw (starts_stays (λ b. b == 43) prefix z (no_plus z s), plus_first prefix l) refl)

pub parts_twin : (epoch : ℕ) (release : List ℕ) (prefix d after : List ℕ) → IsRun d after → ends is_ascii_digit prefix ≡ false → Lacks prefix → Twin (parse_parts epoch release) prefix d after
unfolding parse_parts
parts_twin epoch release prefix d after r e l =
    bind_twin parse_pre (λ p t. parse_post t >>= λ q. parse_dev q.1 >>= λ d. parse_local d.1 >>= λ l. Ok (record_of epoch release p q.0 d.0 l.0, l.1)) prefix d after (pre_twins prefix d after r e) (λ p u hu.
    bind_twin parse_post (λ q t. parse_dev t >>= λ d. parse_local d.1 >>= λ l. Ok (record_of epoch release p q d.0 l.0, l.1)) u d after (post_twins u d after r (ends_end is_ascii_digit prefix u hu e)) (λ q v hv.
    let fv = end_of prefix u v hu hv in
    bind_twin parse_dev (λ d t. parse_local t >>= λ l. Ok (record_of epoch release p q d l.0, l.1)) v d after (dev_twins v d after r (ends_end is_ascii_digit prefix v fv e)) (λ x w hw.
    let fw = end_of prefix v w fv hw in
    bind_twin parse_local (λ l t. Ok (record_of epoch release p q x l, t)) w d after (local_twin w d after (lacks_end prefix w fw l)) (λ l y hy. done_twin (record_of epoch release p q x l) y d after)
    (λ l. (record_of epoch release p q x l, refl)) r) (λ x. (record_of epoch release p q x [], refl)) r) (λ q. (record_of epoch release p q None [], refl)) r) (λ p. (record_of epoch release p None None [], refl)) r
