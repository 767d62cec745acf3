-- Where a text is refused, a line of the refusals tells it.
use Rattle.std.proofs.Common.{◌≡◌, ◌<◌, ◌^◌, ◌==◌, ◌⊎◌, ℕ, Bool, true, false, List, [], ◌∷◌, ◌++◌, refl, sym, ap, ◌∙◌, arith, drop, length, inl, inr, Ok, Err, Result, Option, Some, None, codes, nat_lt, ◌≤◌, suc, zero, subst}
use Rattle.std.proofs.lemmas.Bool.{cases_Bool, ltb-false}
use Rattle.std.proofs.lemmas.List.{append_assoc, length-append, append_cancel_right, append-nil}
use Rattle.std.specs.Char.{is_ascii_digit, is_ascii_alphanumeric}
use Rattle.std.specs.Str.Parse.{digits_value}
use Rattle.pep440_version.specs.Grammar.{Spellings, is_separator, pre_spellings, post_spellings, dev_spellings, IsLocal, AreSegments, parse_segment, starts}
use Rattle.pep440_version.specs.Reading.{Read, ◌>>=◌, lead, past, starts_with_number, parse_number}
use Rattle.pep440_version.specs.Rejections.{Rejection, NumberTooBig, ends, LocalEmpty, IsPrecursor}
use Rattle.pep440_version.specs.Suffixes.{spelled, skip_separator, parse_count, after_spelling, parse_suffix, suffix_number, suffix_prerelease, parse_pre, is_implicit_post, parse_post, parse_dev}
use Rattle.pep440_version.proofs.Reading.Prefixes.{both_first, past-stops, lead-all}
use Rattle.pep440_version.proofs.Reading.ReadIsDerived.{chosen, inside, split, drop_one, lead-some}
use Rattle.pep440_version.proofs.Reading.SpelledIsRead.{BeginWithLetters, letters_pre, letters_post, letters_dev, is_letter, digit_no_separator, digit_no_letter}
use Rattle.pep440_version.proofs.Rejections.LongerTexts.{suffix_end, spelled_nothing, Reader, IsEnd, end_of, Takes, drop_end, separator_end, done, done_cuts, IsLater, Cuts, bind_takes, bind_cuts, pre_end, post_end, dev_end, pre_split, post_split, dev_split}
use Rattle.pep440_version.proofs.Rejections.LongestPrefix.{fails}
use Rattle.pep440_version.proofs.Rejections.ZeroForDigits.{IsRun, run_starts, Twin, Twins, Stays, Stops, Fails, ends_append, ends_last, starts_not, separator_stays, spelled_stays, spelled_drop, AllLetters, letters_of_pre, letters_of_post, letters_of_dev, suffix_twins, number_zero, pre_twins, post_twins, dev_twins}
use Rattle.pep440_version.specs.declared.prerelease.Prerelease.{Prerelease}
use Rattle.pep440_version.specs.Locals.{first_byte, parse_segments, starts_local, parse_local}
use Rattle.pep440_version.specs.Record.{Record, LocalSegmentValue}
use Rattle.pep440_version.specs.Whole.{parse_parts}
use Rattle.pep440_version.proofs.Reading.LocalAgrees.{local_again, segments_cons, lead_segment, separator_head}
use Rattle.pep440_version.proofs.Rejections.LongerParts.{record_of}

-- a reader that stops at a number above the limit, and reads the text with `0` in its place
pub record Stop {A : Type 0} (f : Reader A) (t : List ℕ) (e : Rejection) : Type 0 where
  pub d : List ℕ
  pub prefix : List ℕ
  pub after : List ℕ
  pub kind : e ≡ NumberTooBig d
  pub run : IsRun d after
  pub decomposition : t ≡ prefix ++ (d ++ after)
  pub before : ends is_ascii_digit prefix ≡ false
  pub value : A
  pub zero : f (prefix ++ codes "0") ≡ Ok (value, [])

pub number_error : (t : List ℕ) (e : Rejection) → parse_number t ≡ Err e → (e ≡ NumberTooBig (lead is_ascii_digit t)) × IsRun (lead is_ascii_digit t) (past is_ascii_digit t)
unfolding parse_number
number_error t e h = elim (chosen (nat_lt (digits_value 10 (lead is_ascii_digit t)) (2 ^ 64)) _ _ _ h) [
  | inl g ↦ cc g.1
  | inr g ↦ (sym (fails {A = ℕ × List ℕ} _ _ g.1), record { digits = lead-all is_ascii_digit t; big = ltb-false _ _ g.0; stops = past-stops is_ascii_digit t })
]

pub bind_err : {A B : Type 0} (r : Result A Rejection) (f : A → Result B Rejection) (e : Rejection) → (r >>= f) ≡ Err e → (r ≡ Err e) ⊎ ((x : A) × (r ≡ Ok x) × (f x ≡ Err e))
bind_err {A} {B} (Ok x) f e h = inr (x, refl, h)
bind_err {A} {B} (Err d) f e h = inl (λ i. Err (fails {A = B} d e h i))

ends_some : (p : ℕ → Bool) (a b : List ℕ) → 0 < length b → ends p b ≡ false → ends p (a ++ b) ≡ false
ends_some p a [] l e = absurd (omega (arith, l))
ends_some p a (x ∷ b) l e = ends_append p a x b ∙ e

abbrev pub StopLater : {A : Type 0} → Reader A → List ℕ → Rejection → Type 0
StopLater {A} f t e = (s : Stop f t e) × (0 < length s.prefix)

some_prefix : (g b : List ℕ) → 0 < length b → 0 < length (g ++ b)
some_prefix g b l = let long = length-append g b in omega (arith, long, l)

-- a reader before one that stops
before_stop : {A B : Type 0} (f : Reader A) (k : A → Reader B) (t : List ℕ) (x : A × List ℕ) (e : Rejection) → Takes f → Twins f → f t ≡ Ok x → StopLater (k x.0) x.1 e → StopLater (λ t. f t >>= λ x. k x.0 x.1) t e
before_stop {A} {B} f k t x e takes twins o h =
    let s : Stop (k x.0) x.1 e = h.0 in
    let g = takes t x o in
    let prefix : List ℕ = g.0 ++ s.prefix in
    let decomposition : t ≡ prefix ++ (s.d ++ s.after) = g.1 ∙ ap (λ l. g.0 ++ l) s.decomposition ∙ sym (append_assoc g.0 s.prefix (s.d ++ s.after)) in
    let before = ends_some is_ascii_digit g.0 s.prefix h.1 s.before in (
      record { d = s.d; prefix = prefix; after = s.after; kind = s.kind; run = s.run; decomposition = decomposition; before = before; value = s.value; zero = zero (twins prefix s.d s.after s.run before) (ap f (sym decomposition) ∙ o) },
      some_prefix g.0 s.prefix h.1,
    )
  where
    zero : Twin f ((takes t x o).0 ++ h.0.prefix) h.0.d h.0.after → f (((takes t x o).0 ++ h.0.prefix) ++ (h.0.d ++ h.0.after)) ≡ Ok x
        → (f (((takes t x o).0 ++ h.0.prefix) ++ codes "0") >>= λ x. k x.0 x.1) ≡ Ok (h.0.value, [])
    zero (Stays a u end z) o =
        let same : (a, u ++ (h.0.d ++ h.0.after)) ≡ x = inside _ _ (sym (z (h.0.d ++ h.0.after) (run_starts h.0.d h.0.after h.0.after h.0.run)) ∙ o) in
        let left : u ≡ h.0.prefix = append_cancel_right u h.0.prefix (h.0.d ++ h.0.after) (ap (λ (p : A × List ℕ). p.1) same ∙ h.0.decomposition) in
        rw (z (codes "0") refl) (ap (λ (p : A × List ℕ). k p.0 (u ++ codes "0")) same ∙ ap (λ l. k x.0 (l ++ codes "0")) left ∙ h.0.zero)
    zero (Stops a y n) o = cc (n, o)
    zero (Fails g n) o = let none = n (h.0.d ++ h.0.after) (run_starts h.0.d h.0.after h.0.after h.0.run) in cc (none, o)

pub bind_stop : {A B : Type 0} (f : Reader A) (k : A → Reader B) (t : List ℕ) (e : Rejection) → Takes f → Twins f → ((e : Rejection) → f t ≡ Err e → StopLater f t e)
    → ((a : A) → (b : B) × (k a [] ≡ Ok (b, []))) → ((x : A × List ℕ) → f t ≡ Ok x → k x.0 x.1 ≡ Err e → StopLater (k x.0) x.1 e)
    → (f t >>= λ x. k x.0 x.1) ≡ Err e → StopLater (λ t. f t >>= λ x. k x.0 x.1) t e
bind_stop {A} {B} f k t e takes twins stop idle next h = elim (bind_err (f t) (λ (x : A × List ℕ). k x.0 x.1) e h) [
  | inl g ↦
      let s = stop e g in
      let i = idle s.0.value in
      (record { d = s.0.d; prefix = s.0.prefix; after = s.0.after; kind = s.0.kind; run = s.0.run; decomposition = s.0.decomposition; before = s.0.before; value = i.0; zero = rw s.0.zero i.1 }, s.1)
  | inr g ↦ before_stop f k t g.0 e takes twins g.1 (next g.0 g.1 g.2)
]

-- ---- spelled parts

count_error : (t : List ℕ) (e : Rejection) → parse_count t ≡ Err e → (starts_with_number t ≡ true) × (e ≡ NumberTooBig (lead is_ascii_digit t)) × IsRun (lead is_ascii_digit t) (past is_ascii_digit t)
count_error t e h = elim (chosen (starts_with_number t) _ _ _ h) [
  | inl g ↦ let s = number_error t e g.1 in (g.0, s.0, s.1)
  | inr g ↦ cc g.1
]

-- the spelling in a front before digits
record Worded {A : Type 0} (table : Spellings A) (x : A × ℕ) (prefix z : List ℕ) : Type 0 where
  word : skip_separator (prefix ++ z) ≡ skip_separator prefix ++ z
  spell : spelled table (skip_separator prefix) ≡ Some x
  same : spelled table (skip_separator prefix ++ z) ≡ Some x
  rest : drop x.1 (skip_separator prefix ++ z) ≡ drop x.1 (skip_separator prefix) ++ z
  left : skip_separator (drop x.1 (skip_separator prefix) ++ z) ≡ skip_separator (drop x.1 (skip_separator prefix)) ++ z

worded_of : {A : Type 0} (table : Spellings A) (x : A × ℕ) (prefix z : List ℕ) → AllLetters table → starts_with_number z ≡ true → spelled table (skip_separator prefix) ≡ Some x → Worded table x prefix z
worded_of table x prefix z letters s spell =
    let sep = starts_not is_ascii_digit is_separator digit_no_separator z s in
    record {
      word = separator_stays prefix z sep;
      spell = spell;
      same = spelled_stays table (skip_separator prefix) z letters (starts_not is_ascii_digit is_letter digit_no_letter z s) ∙ spell;
      rest = spelled_drop table (skip_separator prefix) z x spell;
      left = separator_stays (drop x.1 (skip_separator prefix)) z sep;
    }

worded : {A : Type 0} (table : Spellings A) (x : A × ℕ) (prefix z : List ℕ) → AllLetters table → starts_with_number z ≡ true → spelled table (skip_separator (prefix ++ z)) ≡ Some x → Worded table x prefix z
worded table x prefix z letters s spell =
    let word = separator_stays prefix z (starts_not is_ascii_digit is_separator digit_no_separator z s) in
    worded_of table x prefix z letters s (sym (spelled_stays table (skip_separator prefix) z letters (starts_not is_ascii_digit is_letter digit_no_letter z s)) ∙ ap (spelled table) (sym word) ∙ spell)

worded_left : {A : Type 0} (table : Spellings A) (x : A × ℕ) (prefix z : List ℕ) → Worded table x prefix z → skip_separator (drop x.1 (skip_separator (prefix ++ z))) ≡ skip_separator (drop x.1 (skip_separator prefix)) ++ z
worded_left table x prefix z w = ap (λ l. skip_separator (drop x.1 l)) w.word ∙ ap skip_separator w.rest ∙ w.left

nothing_before : (a b : List ℕ) → a ++ b ≡ b → a ≡ []
nothing_before [] b e = refl
nothing_before (c ∷ a) b e = let long = ap length e in let two = length-append a b in absurd (omega (arith, long, two))

pub suffix_stop : {A : Type 0} (table : Spellings A) → BeginWithLetters table → AllLetters table → (t : List ℕ) (e : Rejection) → parse_suffix table t ≡ Err e → StopLater (parse_suffix table) t e
suffix_stop {A} table letters all t e h = by (spelled table (skip_separator t)) refl h
  where
    by : (o : Option (A × ℕ)) → spelled table (skip_separator t) ≡ o → after_spelling t (skip_separator t) o ≡ Err e → StopLater (parse_suffix table) t e
    by None o h = cc h
    by (Some x) o h = elim (bind_err (parse_count (skip_separator (drop x.1 (skip_separator t)))) _ e h) [
      | inl g ↦
          let v : List ℕ = skip_separator (drop x.1 (skip_separator t)) in
          let c = count_error v e g in
          let end : IsEnd t v = end_of t (skip_separator t) v (separator_end t) (end_of (skip_separator t) (drop x.1 (skip_separator t)) v (drop_end x.1 (skip_separator t)) (separator_end (drop x.1 (skip_separator t)))) in
          let w = worded table x end.0 v all c.0 (ap (λ l. spelled table (skip_separator l)) (sym end.1) ∙ o) in
          let left : v ≡ skip_separator (drop x.1 (skip_separator end.0)) ++ v = ap (λ l. skip_separator (drop x.1 (skip_separator l))) end.1 ∙ worded_left table x end.0 v w in
          let none : skip_separator (drop x.1 (skip_separator end.0)) ≡ [] = nothing_before _ v (sym left) in
          let z = worded_of table x end.0 (codes "0") all refl w.spell in (
            record {
              d = lead is_ascii_digit v;
              prefix = end.0;
              after = past is_ascii_digit v;
              kind = c.1;
              run = c.2;
              decomposition = end.1 ∙ ap (λ l. end.0 ++ l) (split is_ascii_digit v);
              before = no_digit x v o c.0 refl end.0 end.1;
              value = Some (x.0, 0);
              zero = rw (z.word, z.same, z.rest, z.left, none, number_zero) refl;
            },
            some_word x end.0 w.spell,
          )
      | inr g ↦ cc g.2
    ]
      where
        some_word : (x : A × ℕ) (prefix : List ℕ) → spelled table (skip_separator prefix) ≡ Some x → 0 < length prefix
        some_word x [] s = let none = spelled_nothing table letters in cc (none, s)
        some_word x (b ∷ prefix) s = omega arith

        no_digit : (x : A × ℕ) (v : List ℕ) → spelled table (skip_separator t) ≡ Some x → starts_with_number v ≡ true → skip_separator (drop x.1 (skip_separator t)) ≡ v → (prefix : List ℕ) → t ≡ prefix ++ v → ends is_ascii_digit prefix ≡ false
        no_digit x v o s is prefix decomposition = elim (cases_Bool (ends is_ascii_digit prefix)) [
          | inl e ↦
              let l = ends_last is_ascii_digit prefix e in
              let text : t ≡ l.0 ++ (l.1 ∷ v) = decomposition ∙ ap (λ f. f ++ v) l.2 ∙ append_assoc l.0 (l.1 ∷ []) v in
              let w = worded table x l.0 (l.1 ∷ v) all l.3 (ap (λ l. spelled table (skip_separator l)) (sym text) ∙ o) in
              let left : skip_separator (drop x.1 (skip_separator t)) ≡ skip_separator (drop x.1 (skip_separator l.0)) ++ (l.1 ∷ v) = ap (λ l. skip_separator (drop x.1 (skip_separator l))) text ∙ worded_left table x l.0 (l.1 ∷ v) w in
              let long = ap length (sym is ∙ left) ∙ length-append (skip_separator (drop x.1 (skip_separator l.0))) (l.1 ∷ v) in
              absurd (omega (arith, long))
          | inr e ↦ e
        ]

abbrev pub mapped : {A B : Type 0} → (A → B) → Reader A → Reader B
mapped g f t = f t >>= λ x. Ok (g x.0, x.1)

map_stop : {A B : Type 0} (g : A → B) (f : Reader A) (t : List ℕ) (e : Rejection) → Takes f → Twins f → ((e : Rejection) → f t ≡ Err e → StopLater f t e) → mapped g f t ≡ Err e → StopLater (mapped g f) t e
map_stop {A} {B} g f t e takes twins stop h = bind_stop f (λ (x : A) (t : List ℕ). (let y : Read (B × List ℕ) = Ok (g x, t) in y)) t e takes twins stop (λ x. (g x, refl)) (λ x o n. cc n) h

pub pre_stop : (t : List ℕ) (e : Rejection) → parse_pre t ≡ Err e → StopLater parse_pre t e
pre_stop t e h = map_stop suffix_prerelease (parse_suffix pre_spellings) t e (suffix_end pre_spellings) (suffix_twins pre_spellings letters_of_pre) (suffix_stop pre_spellings letters_pre letters_of_pre t) h

pub dev_stop : (t : List ℕ) (e : Rejection) → parse_dev t ≡ Err e → StopLater parse_dev t e
dev_stop t e h = map_stop suffix_number (parse_suffix dev_spellings) t e (suffix_end dev_spellings) (suffix_twins dev_spellings letters_of_dev) (suffix_stop dev_spellings letters_dev letters_of_dev t) h

-- `-` and a digit stand at the front, or do not
bare_zero : parse_post (45 ∷ codes "0") ≡ Ok (Some 0, [])
bare_zero = rw number_zero refl

bare_stop : (t : List ℕ) (e : Rejection) → is_implicit_post t ≡ true → parse_number (drop 1 t) ≡ Err e → StopLater parse_post t e
bare_stop t e b h =
    let c = number_error (drop 1 t) e h in (
      record {
        d = lead is_ascii_digit (drop 1 t);
        prefix = 45 ∷ [];
        after = past is_ascii_digit (drop 1 t);
        kind = c.0;
        run = c.1;
        decomposition = drop_one 45 t (both_first _ _ b) ∙ ap (λ l. 45 ∷ l) (split is_ascii_digit (drop 1 t));
        before = refl;
        value = Some 0;
        zero = bare_zero;
      },
      omega arith,
    )

parse_spelled_post : Reader (Option ℕ)
parse_spelled_post t = parse_suffix post_spellings t >>= λ x. Ok (suffix_number x.0, x.1)

spelled_post_stop : (t : List ℕ) (e : Rejection) → parse_spelled_post t ≡ Err e → StopLater parse_spelled_post t e
unfolding parse_spelled_post
spelled_post_stop t e h = map_stop suffix_number (parse_suffix post_spellings) t e (suffix_end post_spellings) (suffix_twins post_spellings letters_of_post) (suffix_stop post_spellings letters_post letters_of_post t) h

-- with `0` in place of the run no bare post stands there either
no_bare : (f z : List ℕ) (v : Option ℕ) → 0 < length f → starts_with_number z ≡ true → is_implicit_post (f ++ z) ≡ false → is_implicit_post (f ++ codes "0") ≡ false
no_bare [] z v l s e = absurd (omega (arith, l))
no_bare (b ∷ []) z v l s e = let no = rw s at e in elim (cases_Bool (b == 45)) [ inl h ↦ let none = rw (h, s) at e in cc none | inr h ↦ rw h refl ]
no_bare (b ∷ c ∷ f) z v l s e = e

pub post_stop : (t : List ℕ) (e : Rejection) → parse_post t ≡ Err e → StopLater parse_post t e
unfolding parse_spelled_post
post_stop t e h = elim (chosen (is_implicit_post t) _ _ _ h) [
  | inl g ↦ elim (bind_err (parse_number (drop 1 t)) _ e g.1) [ inl k ↦ bare_stop t e g.0 k | inr k ↦ cc k.2 ]
  | inr g ↦
      let s = spelled_post_stop t e g.1 in
      let none : is_implicit_post (s.0.prefix ++ (s.0.d ++ s.0.after)) ≡ false = ap is_implicit_post (sym s.0.decomposition) ∙ g.0 in (
        record {
          d = s.0.d;
          prefix = s.0.prefix;
          after = s.0.after;
          kind = s.0.kind;
          run = s.0.run;
          decomposition = s.0.decomposition;
          before = s.0.before;
          value = s.0.value;
          zero = rw (no_bare s.0.prefix (s.0.d ++ s.0.after) None s.1 (run_starts s.0.d s.0.after s.0.after s.0.run) none) s.0.zero;
        },
        s.1,
      )
]

-- ---- where the parts after the release are refused, with the local part: a line of the refusals tells it

-- ---- the parts before the local one

abbrev pub Suffixed : Type 0
Suffixed = Option Prerelease × Option ℕ × Option ℕ

abbrev pub suffixes_at : Reader Suffixed
suffixes_at t = parse_pre t >>= λ p. parse_post p.1 >>= λ q. parse_dev q.1 >>= λ d. Ok ((p.0, q.0, d.0), d.1)

pub suffixes_end : Takes suffixes_at
suffixes_end =
    bind_takes parse_pre (λ p t. parse_post t >>= λ q. parse_dev q.1 >>= λ d. Ok ((p, q.0, d.0), d.1)) pre_end (λ p.
    bind_takes parse_post (λ q t. parse_dev t >>= λ d. Ok ((p, q, d.0), d.1)) post_end (λ q.
    bind_takes parse_dev (λ d t. Ok ((p, q, d), t)) dev_end (λ d. done (p, q, d))))

pub suffixes_split : Cuts suffixes_at
suffixes_split =
    bind_cuts parse_pre (λ p t. parse_post t >>= λ q. parse_dev q.1 >>= λ d. Ok ((p, q.0, d.0), d.1)) pre_split
    (λ p. bind_takes parse_post (λ q t. parse_dev t >>= λ d. Ok ((p, q, d.0), d.1)) post_end (λ q. bind_takes parse_dev (λ d t. Ok ((p, q, d), t)) dev_end (λ d. done (p, q, d)))) (λ p.
    bind_cuts parse_post (λ q t. parse_dev t >>= λ d. Ok ((p, q, d.0), d.1)) post_split
    (λ q. bind_takes parse_dev (λ d t. Ok ((p, q, d), t)) dev_end (λ d. done (p, q, d))) (λ q.
    bind_cuts parse_dev (λ d t. Ok ((p, q, d), t)) dev_split (λ d. done (p, q, d)) (λ d. done_cuts (p, q, d))))

pub suffixes_stop : (t : List ℕ) (e : Rejection) → suffixes_at t ≡ Err e → StopLater suffixes_at t e
suffixes_stop t e h =
    bind_stop parse_pre (λ p t. parse_post t >>= λ q. parse_dev q.1 >>= λ d. Ok ((p, q.0, d.0), d.1)) t e pre_end pre_twins (pre_stop t) (λ p. ((p, None, None), refl)) (λ p o n.
    bind_stop parse_post (λ q t. parse_dev t >>= λ d. Ok ((p.0, q, d.0), d.1)) p.1 e post_end post_twins (post_stop p.1) (λ q. ((p.0, q, None), refl)) (λ q o n.
    bind_stop parse_dev (λ d t. Ok ((p.0, q.0, d), t)) q.1 e dev_end dev_twins (dev_stop q.1) (λ d. ((p.0, q.0, d), refl)) (λ d o n. cc n) n) n) h

pub parts_by : (epoch : ℕ) (release t : List ℕ) → parse_parts epoch release t ≡ (suffixes_at t >>= λ x. parse_local x.1 >>= λ l. Ok (record_of epoch release x.0.0 x.0.1 x.0.2 l.0, l.1))
unfolding parse_parts
parts_by epoch release t = by (parse_pre t) refl
  where
    three : (p : Option Prerelease × List ℕ) (q : Option ℕ × List ℕ) → parse_pre t ≡ Ok p → parse_post p.1 ≡ Ok q → (d : Read (Option ℕ × List ℕ)) → parse_dev q.1 ≡ d → parse_parts epoch release t ≡ (suffixes_at t >>= λ x. parse_local x.1 >>= λ l. Ok (record_of epoch release x.0.0 x.0.1 x.0.2 l.0, l.1))
    three p q hp hq (Err e) hd = rw (hp, hq, hd) refl
    three p q hp hq (Ok d) hd = rw (hp, hq, hd) refl

    two : (p : Option Prerelease × List ℕ) → parse_pre t ≡ Ok p → (q : Read (Option ℕ × List ℕ)) → parse_post p.1 ≡ q → parse_parts epoch release t ≡ (suffixes_at t >>= λ x. parse_local x.1 >>= λ l. Ok (record_of epoch release x.0.0 x.0.1 x.0.2 l.0, l.1))
    two p hp (Err e) hq = rw (hp, hq) refl
    two p hp (Ok q) hq = three p q hp hq (parse_dev q.1) refl

    by : (p : Read (Option Prerelease × List ℕ)) → parse_pre t ≡ p → parse_parts epoch release t ≡ (suffixes_at t >>= λ x. parse_local x.1 >>= λ l. Ok (record_of epoch release x.0.0 x.0.1 x.0.2 l.0, l.1))
    by (Err e) hp = rw hp refl
    by (Ok p) hp = two p hp (parse_post p.1) refl

-- ---- the local part

pub record LocalFault (t : List ℕ) (e : Rejection) : Type 0 where
  pub c : ℕ
  pub l : List ℕ
  pub rest : List ℕ
  pub segments : List LocalSegmentValue
  pub kind : e ≡ LocalEmpty c
  pub decomposition : t ≡ l ++ (c ∷ rest)
  pub again : parse_local l ≡ Ok (segments, [])
  pub precursor : ((c ≡ 43) × (length segments ≡ 0)) ⊎ ((is_separator c ≡ true) × (0 < length segments))
  pub stop : starts is_ascii_alphanumeric rest ≡ false

-- an empty segment at the front, or after segments
record SegmentFault (t : List ℕ) (e : Rejection) : Type 0 where
  c : ℕ
  l : List ℕ
  rest : List ℕ
  segments : List LocalSegmentValue
  kind : e ≡ LocalEmpty c
  decomposition : t ≡ l ++ (c ∷ rest)
  are : AreSegments l segments
  separator : is_separator c ≡ true
  stop : starts is_ascii_alphanumeric rest ≡ false

segment_error : (k c : ℕ) (t : List ℕ) (e : Rejection) → length t ≤ k → parse_segments k c t ≡ Err e → ((e ≡ LocalEmpty c) × (starts is_ascii_alphanumeric t ≡ false)) ⊎ SegmentFault t e
unfolding parse_segments
segment_error zero c [] e room h = inl (sym (fails {A = List LocalSegmentValue × List ℕ} _ _ h), refl)
segment_error zero c (b ∷ t) e room h = absurd (omega (arith, room))
segment_error (suc k) c t e room h = elim (chosen (starts is_ascii_alphanumeric t) _ _ _ h) [
  | inl g ↦
      let prefix : List ℕ = lead is_ascii_alphanumeric t in
      let back : List ℕ = past is_ascii_alphanumeric t in
      let decomposition : t ≡ prefix ++ back = split is_ascii_alphanumeric t in
      elim (chosen (starts is_separator back) _ _ _ g.1) [
        | inl d ↦
            let head = separator_head back d.0 in
            let long = ap length decomposition ∙ length-append prefix back in
            let more = lead-some is_ascii_alphanumeric t g.0 in
            let short = ap length head.0 in
            elim (bind_err (parse_segments k (first_byte back) (drop 1 back)) _ e d.1) [
              | inl m ↦ elim (segment_error k (first_byte back) (drop 1 back) e (omega (arith, long, more, short, room)) m) [
                | inl s ↦ inr (record {
                  c = first_byte back;
                  l = prefix;
                  rest = drop 1 back;
                  segments = parse_segment prefix ∷ [];
                  kind = s.0;
                  decomposition = decomposition ∙ ap (λ x. prefix ++ x) head.0;
                  are = lead_segment t g.0;
                  separator = head.1;
                  stop = s.1;
                })
                | inr s ↦ inr (record {
                  c = s.c;
                  l = prefix ++ (first_byte back ∷ s.l);
                  rest = s.rest;
                  segments = parse_segment prefix ∷ s.segments;
                  kind = s.kind;
                  decomposition = decomposition ∙ ap (λ x. prefix ++ x) (head.0 ∙ ap (λ x. first_byte back ∷ x) s.decomposition) ∙ sym (append_assoc prefix (first_byte back ∷ s.l) (s.c ∷ s.rest));
                  are = segments_cons prefix s.l (first_byte back) (parse_segment prefix) s.segments (lead_segment t g.0) head.1 s.are;
                  separator = s.separator;
                  stop = s.stop;
                })
              ]
              | inr m ↦ cc m.2
            ]
        | inr d ↦ cc d.1
      ]
  | inr g ↦ inl (sym (fails {A = List LocalSegmentValue × List ℕ} _ _ g.1), g.0)
]

are_some : (l : List ℕ) (ss : List LocalSegmentValue) → AreSegments l ss → IsLocal (43 ∷ l) ss × (0 < length ss)
are_some l [] h = absurd h
are_some l (s ∷ ss) h = ((l, h, refl), omega arith)

local_error : (t : List ℕ) (e : Rejection) → parse_local t ≡ Err e → LocalFault t e
local_error t e h = elim (chosen (starts_local t) _ _ _ h) [
  | inl g ↦
      let plus = drop_one 43 t g.0 in
      elim (segment_error (length (drop 1 t)) 43 (drop 1 t) e (omega arith) g.1) [
        | inl s ↦ record { c = 43; l = []; rest = drop 1 t; segments = []; kind = s.0; decomposition = plus; again = refl; precursor = inl (refl, refl); stop = s.1 }
        | inr s ↦
            let is = are_some s.l s.segments s.are in
            record {
              c = s.c;
              l = 43 ∷ s.l;
              rest = s.rest;
              segments = s.segments;
              kind = s.kind;
              decomposition = plus ∙ ap (λ x. 43 ∷ x) s.decomposition;
              again = ap parse_local (sym (append-nil (43 ∷ s.l))) ∙ local_again (43 ∷ s.l) [] s.segments is.0 refl;
              precursor = inr (s.separator, is.1);
              stop = s.stop;
            }
      ]
  | inr g ↦ cc g.1
]

-- the parts before an empty segment are read
pub record PartsFault (epoch : ℕ) (release : List ℕ) (t : List ℕ) (e : Rejection) : Type 0 where
  pub c : ℕ
  pub prefix : List ℕ
  pub rest : List ℕ
  pub r : Record
  pub kind : e ≡ LocalEmpty c
  pub decomposition : t ≡ prefix ++ (c ∷ rest)
  pub again : parse_parts epoch release prefix ≡ Ok (r, [])
  pub precursor : IsPrecursor r c
  pub stop : starts is_ascii_alphanumeric rest ≡ false

pub not_later : (a b : List ℕ) → IsLater b (a ++ b) → ⊥
not_later a b h = let long = ap length h.2 ∙ length-append h.0 (a ++ b) in let two = length-append a b in omega (arith, long, two, h.1)

parts_local : (epoch : ℕ) (release t : List ℕ) (e : Rejection) (x : Suffixed × List ℕ) → suffixes_at t ≡ Ok x → LocalFault x.1 e → PartsFault epoch release t e
parts_local epoch release t e x o f =
    let g = suffixes_end t x o in
    let back : List ℕ = f.c ∷ f.rest in
    let prefix : List ℕ = g.0 ++ f.l in
    let decomposition : t ≡ prefix ++ back = g.1 ∙ ap (λ l. g.0 ++ l) f.decomposition ∙ sym (append_assoc g.0 f.l back) in
    let r : Record = record_of epoch release x.0.0 x.0.1 x.0.2 f.segments in
    record {
      c = f.c;
      prefix = prefix;
      rest = f.rest;
      r = r;
      kind = f.kind;
      decomposition = decomposition;
      precursor = f.precursor;
      stop = f.stop;
      again = parts_by epoch release prefix ∙ (elim (suffixes_split prefix back x (ap suffixes_at (sym decomposition) ∙ o)) [
        | inl h ↦
            let left : h.0 ≡ f.l = append_cancel_right h.0 f.l back (sym h.2 ∙ f.decomposition) in
            let read : suffixes_at prefix ≡ Ok (x.0, f.l) = h.1 ∙ (λ i. Ok (x.0, left i)) in
            rw (read, f.again) refl
        | inr h ↦ absurd (not_later f.l back (subst (IsLater back) f.decomposition h))
      ]);
    }

pub parts_error : (epoch : ℕ) (release t : List ℕ) (e : Rejection) → parse_parts epoch release t ≡ Err e
    → ((s : StopLater (parse_parts epoch release) t e) × (length s.0.value.local ≡ 0)) ⊎ PartsFault epoch release t e
parts_error epoch release t e h = elim (bind_err (suffixes_at t) (λ x. parse_local x.1 >>= λ l. Ok (record_of epoch release x.0.0 x.0.1 x.0.2 l.0, l.1)) e (sym (parts_by epoch release t) ∙ h)) [
  | inl g ↦
      let s = suffixes_stop t e g in
      inl (
        (
          record {
            d = s.0.d;
            prefix = s.0.prefix;
            after = s.0.after;
            kind = s.0.kind;
            run = s.0.run;
            decomposition = s.0.decomposition;
            before = s.0.before;
            value = record_of epoch release s.0.value.0 s.0.value.1 s.0.value.2 [];
            zero = parts_by epoch release (s.0.prefix ++ codes "0") ∙ rw s.0.zero refl;
          },
          s.1,
        ),
        refl,
      )
  | inr g ↦ elim (bind_err (parse_local g.0.1) (λ l. Ok (record_of epoch release g.0.0.0 g.0.0.1 g.0.0.2 l.0, l.1)) e g.2) [
    | inl k ↦ inr (parts_local epoch release t e g.0 g.1 (local_error g.0.1 e k))
    | inr k ↦ cc k.2
  ]
]
