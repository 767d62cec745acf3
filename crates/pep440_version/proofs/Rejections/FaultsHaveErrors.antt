-- A text that is refused is told by a line of the refusals: and by one alone.
use Rattle.std.proofs.Common.{◌≡◌, ◌≤◌, ◌<◌, ◌-◌, ◌==◌, ℕ, suc, zero, Bool, true, false, List, [], ◌∷◌, ◌++◌, refl, sym, ap, ◌∙◌, arith, drop, take, length, inl, inr, Ok, Err, None, codes, subst, eqb-true}
use Rattle.std.proofs.lemmas.Bool.{cases_Bool}
use Rattle.std.proofs.lemmas.Bool.Decides.{nat_tests}
use Rattle.std.proofs.lemmas.List.{append_assoc, length-append, append_cancel_right}
use Rattle.std.specs.Char.{is_ascii_digit, is_ascii_whitespace}
use Rattle.pep440_version.specs.Grammar.{IsLeadingV, IsNumber, starts, is_v}
use Rattle.pep440_version.specs.Reading.{Read, ◌>>=◌, lead, past, starts_with_number, skip_v, parse_number, has_next_number, parse_release}
use Rattle.pep440_version.specs.Record.{Record}
use Rattle.pep440_version.specs.Rejections.{Rejection, Wildcard, NumberTooBig, NoLeadingNumber, NoLeadingReleaseNumber, LocalEmpty, UnexpectedEnd, OfVersion, ends, Opens, IsBigRun, HasStar, RejectsEarlier, Rejects}
use Rattle.pep440_version.specs.Whole.{parse_release_after_epoch, parse_through_release, parse_epoch_and_release, parse_parts, parse_end, starts_with_star, without_star, pattern_from, read_pattern, version_of, read_version}
use Rattle.pep440_version.proofs.Reading.Prefixes.{both_first, both_second, past-stops, lead-all, digit_not_blank, digit_not_v}
use Rattle.pep440_version.proofs.Reading.ReadIsDerived.{chosen, inside, split, drop_one, number_takes, number_first, number_again}
use Rattle.pep440_version.proofs.Reading.Agreement.{prefix_takes, drop_two}
use Rattle.pep440_version.proofs.Rejections.LongerTexts.{IsEnd, IsLater, end_of, number_end}
use Rattle.pep440_version.proofs.Rejections.LongerParts.{opening_end, opening_split, end_long}
use Rattle.pep440_version.proofs.Rejections.LongestPrefix.{Fault, AtOpening, AtStar, AtParts, AtEnd, fails, fault, longest, prefix_derived, some_rest, lacks_derived, lacks_prefix}
use Rattle.pep440_version.proofs.Rejections.ZeroForDigits.{IsRun, run_starts, run_refused, Twin, Stays, Stops, Fails, ends_append, ends_last, starts_not, starts_stays, past_stays, number_stays, opening_twins, v_stays, all_release, fuel, release_one, prefix_zero, no_room, goes_short}
use Rattle.pep440_version.proofs.Rejections.FaultsOfParts.{Stop, StopLater, number_error, bind_err, PartsFault, parts_error, not_later}
use Rattle.pep440_version.proofs.Rejections.LinesDecide.{first_decides}

-- ---- the release

starts_zero : (f z : List ℕ) → starts_with_number (f ++ z) ≡ true → starts_with_number (f ++ codes "0") ≡ true
starts_zero [] z s = refl
starts_zero (b ∷ f) z s = s

ends_cons : (p : ℕ → Bool) (b : ℕ) (t : List ℕ) → p b ≡ false → ends p t ≡ false → ends p (b ∷ t) ≡ false
ends_cons p b [] e h = e
ends_cons p b (c ∷ t) e h = h

release_joined : (ds u ns v : List ℕ) (n : ℕ) → IsNumber ds n → starts_with_number u ≡ true → all_release u ≡ Ok (ns, v) → all_release (ds ++ (46 ∷ u)) ≡ Ok (n ∷ ns, v)
unfolding all_release parse_release
release_joined [] u ns v n h s e = absurd (omega (arith, h.0))
release_joined (b ∷ ds) u ns v n h s e =
    let long = length-append ds (46 ∷ u) in
    rw (number_again (b ∷ ds) (46 ∷ u) n h refl, s, fuel (length (ds ++ (46 ∷ u))) (length u) u s (omega (arith, long)) (omega arith), e) refl

pub release_stop : (k : ℕ) (t : List ℕ) (e : Rejection) → starts_with_number t ≡ true → length t ≤ k → parse_release k t ≡ Err e → Stop all_release t e
unfolding parse_release
release_stop zero t e s room h = absurd (no_room t s room)
release_stop (suc k) t e s room h = elim (bind_err (parse_number t) _ e h) [
  | inl g ↦
      let c = number_error t e g in
      record { d = lead is_ascii_digit t; prefix = []; after = past is_ascii_digit t; kind = c.0; run = c.1; decomposition = split is_ascii_digit t; before = refl; value = 0 ∷ []; zero = release_one }
  | inr n ↦ elim (chosen (has_next_number n.0.1) _ _ _ n.2) [
    | inl g ↦
        let long = end_long t n.0.1 (number_end t n.0 n.1) in
        let short = goes_short n.0.1 g.0 in
        elim (bind_err (parse_release k (drop 1 n.0.1)) _ e g.1) [
          | inl m ↦ joined n.0 n.1 g.0 (release_stop k (drop 1 n.0.1) e (both_second _ _ g.0) (omega (arith, long, short, room)) m)
          | inr m ↦ cc m.2
        ]
    | inr g ↦ cc g.1
  ]
]
  where
    joined : (n : ℕ × List ℕ) → parse_number t ≡ Ok n → has_next_number n.1 ≡ true → Stop all_release (drop 1 n.1) e → Stop all_release t e
    joined n o g m =
        let takes = number_takes t n s o in
        let ds : List ℕ = takes.0 in
        let prefix : List ℕ = ds ++ (46 ∷ m.prefix) in
        let decomposition : t ≡ prefix ++ (m.d ++ m.after) = takes.2 ∙ ap (λ l. ds ++ l) (drop_one 46 n.1 (both_first (starts (λ b. b == 46) n.1) (starts_with_number (drop 1 n.1)) g) ∙ ap (λ l. 46 ∷ l) m.decomposition) ∙ sym (append_assoc ds (46 ∷ m.prefix) (m.d ++ m.after)) in
        let first : starts_with_number (m.prefix ++ codes "0") ≡ true = starts_zero m.prefix (m.d ++ m.after) (ap starts_with_number (sym m.decomposition) ∙ both_second (starts (λ b. b == 46) n.1) (starts_with_number (drop 1 n.1)) g) in
        record {
          d = m.d;
          prefix = prefix;
          after = m.after;
          kind = m.kind;
          run = m.run;
          decomposition = decomposition;
          before = ends_append is_ascii_digit ds 46 m.prefix ∙ ends_cons is_ascii_digit 46 m.prefix refl m.before;
          value = n.0 ∷ m.value;
          zero = ap all_release (append_assoc ds (46 ∷ m.prefix) (codes "0")) ∙ release_joined ds (m.prefix ++ codes "0") m.value [] n.0 takes.1 first m.zero;
        }

after_stop : (epoch : ℕ) (t : List ℕ) (e : Rejection) → starts_with_number t ≡ true → parse_release_after_epoch epoch t ≡ Err e → Stop (parse_release_after_epoch epoch) t e
unfolding all_release
after_stop epoch t e s h = elim (bind_err (parse_release (length t) t) _ e h) [
  | inl g ↦
      let m = release_stop (length t) t e s (omega arith) g in
      record { d = m.d; prefix = m.prefix; after = m.after; kind = m.kind; run = m.run; decomposition = m.decomposition; before = m.before; value = (epoch, m.value); zero = rw m.zero refl }
  | inr g ↦ cc g.2
]

-- ---- epoch and release

pub data FrontFault (t : List ℕ) (e : Rejection) : Type 0 where
  NoNumber : starts_with_number t ≡ false → e ≡ NoLeadingNumber → FrontFault t e
  NoRelease : (ds rest : List ℕ) (n : ℕ) → t ≡ ds ++ (33 ∷ rest) → IsNumber ds n → starts is_ascii_digit rest ≡ false → e ≡ NoLeadingReleaseNumber → FrontFault t e
  BigNumber : Stop parse_epoch_and_release t e → FrontFault t e

prefix_epoch : (ds u : List ℕ) (n : ℕ) → IsNumber ds n → starts_with_number u ≡ true → parse_epoch_and_release (ds ++ (33 ∷ u)) ≡ parse_release_after_epoch n u
unfolding parse_epoch_and_release
prefix_epoch ds u n h s = rw (number_first ds (33 ∷ u) n h, number_again ds (33 ∷ u) n h refl, s) refl

digit_not_bang : (b : ℕ) → is_ascii_digit b ≡ true → (b == 33) ≡ false
digit_not_bang b h = grind (arith, nat_tests)

number_prefix : (t : List ℕ) (f d after : List ℕ) (n : ℕ × List ℕ) → t ≡ f ++ (d ++ after) → IsRun d after → ends is_ascii_digit f ≡ false → parse_number t ≡ Ok n → starts (λ b. b == 33) n.1 ≡ false
    → (x : ℕ) × (u : List ℕ) × (parse_number (f ++ codes "0") ≡ Ok (x, u ++ codes "0")) × (starts (λ b. b == 33) (u ++ codes "0") ≡ false)
number_prefix t [] d after n decomposition run e o b = let none = run_refused d after run in let read = ap parse_number (sym decomposition) ∙ o in cc (none, read)
number_prefix t (c ∷ f) d after n decomposition run e o b = elim (number_stays (c ∷ f) (omega arith) e) [
  | inl h ↦
      let same : (h.0, h.1 ++ (d ++ after)) ≡ n = inside _ _ (sym (h.3 (d ++ after)) ∙ ap parse_number (sym decomposition) ∙ o) in
      let stop : starts (λ b. b == 33) (h.1 ++ (d ++ after)) ≡ false = ap (λ (p : ℕ × List ℕ). starts (λ b. b == 33) p.1) same ∙ b in
      let digit = starts_not is_ascii_digit (λ b. b == 33) digit_not_bang (d ++ after) (run_starts d after after run) in
      let first : starts (λ b. b == 33) h.1 ≡ false = sym (starts_stays (λ b. b == 33) h.1 (d ++ after) digit) ∙ stop in
      (h.0, h.1, h.3 (codes "0"), starts_stays (λ b. b == 33) h.1 (codes "0") refl ∙ first)
  | inr h ↦ let none = h.1 (d ++ after) in let read = ap parse_number (sym decomposition) ∙ o in cc (none, read)
]

pub prefix_error : (t : List ℕ) (e : Rejection) → parse_epoch_and_release t ≡ Err e → FrontFault t e
unfolding parse_epoch_and_release
prefix_error t e h = elim (chosen (starts_with_number t) _ _ _ h) [
  | inr g ↦ NoNumber g.0 (sym (fails {A = (ℕ × List ℕ) × List ℕ} _ _ g.1))
  | inl g ↦ elim (bind_err (parse_number t) _ e g.1) [
    | inl m ↦
        let c = number_error t e m in
        BigNumber (record { d = lead is_ascii_digit t; prefix = []; after = past is_ascii_digit t; kind = c.0; run = c.1; decomposition = split is_ascii_digit t; before = refl; value = (0, 0 ∷ []); zero = prefix_zero })
    | inr n ↦ elim (chosen (starts (λ b. b == 33) n.0.1) _ _ _ n.2) [
      | inl b ↦
          let takes = number_takes t n.0 g.0 n.1 in
          let decomposition : t ≡ takes.0 ++ (33 ∷ drop 1 n.0.1) = takes.2 ∙ ap (λ l. takes.0 ++ l) (drop_one 33 n.0.1 b.0) in
          elim (chosen (starts_with_number (drop 1 n.0.1)) _ _ _ b.1) [
            | inl d ↦ BigNumber (epoch takes.0 (drop 1 n.0.1) n.0.0 decomposition takes.1 d.0 (after_stop n.0.0 (drop 1 n.0.1) e d.0 d.1))
            | inr d ↦ NoRelease takes.0 (drop 1 n.0.1) n.0.0 decomposition takes.1 d.0 (sym (fails {A = (ℕ × List ℕ) × List ℕ} _ _ d.1))
          ]
      | inr b ↦ BigNumber (plain g.0 n.0 n.1 b.0 (after_stop 0 t e g.0 b.1))
    ]
  ]
]
  where
    epoch : (ds u : List ℕ) (n : ℕ) → t ≡ ds ++ (33 ∷ u) → IsNumber ds n → starts_with_number u ≡ true → Stop (parse_release_after_epoch n) u e → Stop parse_epoch_and_release t e
    epoch ds u n decomposition number s m =
        record {
          d = m.d;
          prefix = ds ++ (33 ∷ m.prefix);
          after = m.after;
          kind = m.kind;
          run = m.run;
          decomposition = decomposition ∙ ap (λ l. ds ++ (33 ∷ l)) m.decomposition ∙ sym (append_assoc ds (33 ∷ m.prefix) (m.d ++ m.after));
          before = ends_append is_ascii_digit ds 33 m.prefix ∙ ends_cons is_ascii_digit 33 m.prefix refl m.before;
          value = m.value;
          zero = ap parse_epoch_and_release (append_assoc ds (33 ∷ m.prefix) (codes "0")) ∙ prefix_epoch ds (m.prefix ++ codes "0") n number (starts_zero m.prefix (m.d ++ m.after) (ap starts_with_number (sym m.decomposition) ∙ s)) ∙ m.zero;
        }

    plain : starts_with_number t ≡ true → (n : ℕ × List ℕ) → parse_number t ≡ Ok n → starts (λ b. b == 33) n.1 ≡ false → Stop (parse_release_after_epoch 0) t e → Stop parse_epoch_and_release t e
    plain s n o b m =
        let f = number_prefix t m.prefix m.d m.after n m.decomposition m.run m.before o b in
        let first = starts_zero m.prefix (m.d ++ m.after) (ap starts_with_number (sym m.decomposition) ∙ s) in
        record { d = m.d; prefix = m.prefix; after = m.after; kind = m.kind; run = m.run; decomposition = m.decomposition; before = m.before; value = m.value; zero = rw (first, f.2, f.3) m.zero }

-- ---- blanks and the letter v

v_parts : (t : List ℕ) → (v : List ℕ) × IsLeadingV v × (t ≡ v ++ skip_v t) × (v ≡ [] → starts is_v (skip_v t) ≡ false)
v_parts [] = ([], inl refl, refl, λ _. refl)
v_parts (b ∷ rest) = elim (cases_Bool (b == 118)) [
  | inl e ↦ (118 ∷ [], inr (inl refl), rw (eqb-true b 118 e) refl, λ h. cc h)
  | inr e ↦ elim (cases_Bool (b == 86)) [
    | inl f ↦ (86 ∷ [], inr (inr refl), rw (eqb-true b 86 f) refl, λ h. cc h)
    | inr f ↦ ([], inl refl, rw (e, f) refl, λ _. rw (e, f) (rw (e, f) refl))
  ]
]

abbrev opened : List ℕ → List ℕ
opened text = skip_v (past is_ascii_whitespace text)

opens : (text : List ℕ) → Opens text (opened text)
opens text =
    let m = v_parts (past is_ascii_whitespace text) in
    (lead is_ascii_whitespace text, m.0, split is_ascii_whitespace text ∙ ap (λ l. lead is_ascii_whitespace text ++ l) m.2, lead-all is_ascii_whitespace text, m.1, ap (starts is_ascii_whitespace) (sym m.2) ∙ past-stops is_ascii_whitespace text, m.3)

opened_end : (text : List ℕ) → IsEnd text (opened text)
opened_end text = let m = v_parts (past is_ascii_whitespace text) in end_of text (past is_ascii_whitespace text) (opened text) (lead is_ascii_whitespace text, split is_ascii_whitespace text) (m.0, m.2)

opened_stays : (t z : List ℕ) → starts_with_number z ≡ true → opened (t ++ z) ≡ opened t ++ z
opened_stays t z s = ap skip_v (past_stays is_ascii_whitespace t z (starts_not is_ascii_digit is_ascii_whitespace digit_not_blank z s)) ∙ v_stays (past is_ascii_whitespace t) z (starts_not is_ascii_digit is_v digit_not_v z s)

opening_stop : (text : List ℕ) (e : Rejection) → Stop parse_epoch_and_release (opened text) e → Stop parse_through_release text e
opening_stop text e m =
    let g = opened_end text in
    let run : List ℕ = m.d ++ m.after in
    let prefix : List ℕ = g.0 ++ m.prefix in
    let first = run_starts m.d m.after m.after m.run in
    let decomposition : text ≡ prefix ++ run = g.1 ∙ ap (λ l. g.0 ++ l) m.decomposition ∙ sym (append_assoc g.0 m.prefix run) in
    let left : opened prefix ≡ m.prefix = append_cancel_right (opened prefix) m.prefix run (sym (opened_stays prefix run first) ∙ ap opened (sym decomposition) ∙ m.decomposition) in
    record {
      d = m.d;
      prefix = prefix;
      after = m.after;
      kind = m.kind;
      run = m.run;
      decomposition = decomposition;
      before = no_digit prefix run decomposition first m.decomposition left;
      value = m.value;
      zero = ap parse_epoch_and_release (opened_stays prefix (codes "0") refl ∙ ap (λ l. l ++ codes "0") left) ∙ m.zero;
    }
  where
    no_digit : (prefix run : List ℕ) → text ≡ prefix ++ run → starts_with_number run ≡ true → opened text ≡ m.prefix ++ run → opened prefix ≡ m.prefix → ends is_ascii_digit prefix ≡ false
    no_digit prefix run decomposition s is left = elim (cases_Bool (ends is_ascii_digit prefix)) [
      | inr e ↦ e
      | inl e ↦
          let l = ends_last is_ascii_digit prefix e in
          let other : opened text ≡ opened l.0 ++ (l.1 ∷ run) = ap opened (decomposition ∙ ap (λ f. f ++ run) l.2 ∙ append_assoc l.0 (l.1 ∷ []) run) ∙ opened_stays l.0 (l.1 ∷ run) l.3 in
          let same : m.prefix ≡ opened l.0 ++ (l.1 ∷ []) = append_cancel_right m.prefix (opened l.0 ++ (l.1 ∷ [])) run (sym is ∙ other ∙ sym (append_assoc (opened l.0) (l.1 ∷ []) run)) in
          let one : ends is_ascii_digit m.prefix ≡ true = ap (ends is_ascii_digit) same ∙ ends_append is_ascii_digit (opened l.0) l.1 [] ∙ l.3 in
          let none = m.before in cc (one, none)
    ]

-- ---- every refusal is told

big_run : (prefix d after : List ℕ) → IsRun d after → ends is_ascii_digit prefix ≡ false → IsBigRun prefix d after
big_run prefix d after r e = (r.digits, r.big, e, r.stops)

parts_nothing : (epoch : ℕ) (release : List ℕ) → (r : Record) × (parse_parts epoch release [] ≡ Ok (r, [])) × (length r.local ≡ 0)
unfolding parse_parts
parts_nothing epoch release = (Rattle.pep440_version.proofs.Rejections.LongerParts.record_of epoch release None None None [], refl, refl)

-- a text that is read with `0` in place of a run
told_run : (text : List ℕ) (f : Rejection) (d prefix after : List ℕ) (x : (ℕ × List ℕ) × List ℕ) (r : Record) → f ≡ NumberTooBig d → IsRun d after → text ≡ prefix ++ (d ++ after) → ends is_ascii_digit prefix ≡ false
    → parse_through_release (prefix ++ codes "0") ≡ Ok x → parse_parts x.0.0 x.0.1 x.1 ≡ Ok (r, []) → length r.local ≡ 0 → RejectsEarlier text f
told_run text f d prefix after x r kind run decomposition before o p none =
    let h = prefix_derived (prefix ++ codes "0") [] x.1 x r o p refl in
    subst (RejectsEarlier text) (sym kind) (prefix, after, r, decomposition, big_run prefix d after run before, lacks_prefix prefix (codes "0") (lacks_derived (prefix ++ codes "0") r h.0 none), h.0)

told_opening : (text : List ℕ) (f : Rejection) → parse_through_release text ≡ Err f → RejectsEarlier text f
told_opening text f h = by (prefix_error (opened text) f h)
  where
    by : FrontFault (opened text) f → RejectsEarlier text f
    by (NoNumber s k) = subst (RejectsEarlier text) (sym k) (opened text, opens text, s)
    by (NoRelease ds rest n decomposition number s k) = subst (RejectsEarlier text) (sym k) (ds, rest, n, subst (Opens text) decomposition (opens text), number, s)
    by (BigNumber m) =
        let s = opening_stop text f m in
        let p = parts_nothing s.value.0 s.value.1 in
        told_run text f s.d s.prefix s.after (s.value, []) p.0 s.kind s.run s.decomposition s.before s.zero p.1 p.2

pub told_star : (text : List ℕ) (x : (ℕ × List ℕ) × List ℕ) → parse_through_release text ≡ Ok x → starts_with_star x.1 ≡ true → HasStar text (drop 2 x.1)
told_star text x o star =
    let f = prefix_takes (opened text) x o in
    let decomposition : opened text ≡ f.0 ++ (f.1 ++ (46 ∷ 42 ∷ drop 2 x.1)) = f.4 ∙ ap (λ l. f.0 ++ (f.1 ++ l)) (drop_two x.1 star) in
    (f.0, f.1, x.0.1, x.0.0, subst (Opens text) decomposition (opens text), f.2, f.3)

some_prefix : (g b : List ℕ) → 0 < length b → ends is_ascii_digit b ≡ false → ends is_ascii_digit (g ++ b) ≡ false
some_prefix g [] l e = absurd (omega (arith, l))
some_prefix g (x ∷ b) l e = ends_append is_ascii_digit g x b ∙ e

told_parts_run : (text : List ℕ) (f : Rejection) (x : (ℕ × List ℕ) × List ℕ) → parse_through_release text ≡ Ok x → (s : StopLater (parse_parts x.0.0 x.0.1) x.1 f) → length s.0.value.local ≡ 0 → RejectsEarlier text f
told_parts_run text f x o h none =
    let s : Stop (parse_parts x.0.0 x.0.1) x.1 f = h.0 in
    let g = opening_end text x o in
    let run : List ℕ = s.d ++ s.after in
    let prefix : List ℕ = g.0 ++ s.prefix in
    let decomposition : text ≡ prefix ++ run = g.1 ∙ ap (λ l. g.0 ++ l) s.decomposition ∙ sym (append_assoc g.0 s.prefix run) in
    let before = some_prefix g.0 s.prefix h.1 s.before in
    let zero = at prefix decomposition (opening_twins prefix s.d s.after s.run before) in
    told_run text f s.d prefix s.after (x.0, s.prefix ++ codes "0") s.value s.kind s.run decomposition before zero s.zero none
  where
    at : (prefix : List ℕ) → text ≡ prefix ++ (h.0.d ++ h.0.after) → Twin parse_through_release prefix h.0.d h.0.after → parse_through_release (prefix ++ codes "0") ≡ Ok (x.0, h.0.prefix ++ codes "0")
    at prefix decomposition (Stops a y n) = let read = ap parse_through_release (sym decomposition) ∙ o in cc (n, read)
    at prefix decomposition (Fails g n) = let none = n (h.0.d ++ h.0.after) (run_starts h.0.d h.0.after h.0.after h.0.run) in let read = ap parse_through_release (sym decomposition) ∙ o in cc (none, read)
    at prefix decomposition (Stays a u end z) =
        let same : (a, u ++ (h.0.d ++ h.0.after)) ≡ x = inside _ _ (sym (z (h.0.d ++ h.0.after) (run_starts h.0.d h.0.after h.0.after h.0.run)) ∙ ap parse_through_release (sym decomposition) ∙ o) in
        let left : u ≡ h.0.prefix = append_cancel_right u h.0.prefix (h.0.d ++ h.0.after) (ap (λ (p : (ℕ × List ℕ) × List ℕ). p.1) same ∙ h.0.decomposition) in
        let first : a ≡ x.0 = ap (λ (p : (ℕ × List ℕ) × List ℕ). p.0) same in
        z (codes "0") refl ∙ (λ i. Ok (first i, left i ++ codes "0"))

told_empty : (text : List ℕ) (f : Rejection) (x : (ℕ × List ℕ) × List ℕ) → parse_through_release text ≡ Ok x → PartsFault x.0.0 x.0.1 x.1 f → RejectsEarlier text f
told_empty text f x o p =
    let g = opening_end text x o in
    let back : List ℕ = p.c ∷ p.rest in
    let prefix : List ℕ = g.0 ++ p.prefix in
    let decomposition : text ≡ prefix ++ back = g.1 ∙ ap (λ l. g.0 ++ l) p.decomposition ∙ sym (append_assoc g.0 p.prefix back) in
    let read : parse_through_release prefix ≡ Ok (x.0, p.prefix) = elim (opening_split prefix back x (ap parse_through_release (sym decomposition) ∙ o)) [
      | inl h ↦ let left : h.0 ≡ p.prefix = append_cancel_right h.0 p.prefix back (sym h.2 ∙ p.decomposition) in h.1 ∙ (λ i. Ok (x.0, left i))
      | inr h ↦ absurd (not_later p.prefix back (subst (IsLater back) p.decomposition h))
    ] in
    let d = prefix_derived prefix [] p.prefix x p.r read p.again refl in
    subst (RejectsEarlier text) (sym p.kind) (prefix, p.rest, p.r, d.0, d.1, decomposition, p.precursor, p.stop)

told_parts : (text : List ℕ) (f : Rejection) (x : (ℕ × List ℕ) × List ℕ) → parse_through_release text ≡ Ok x → parse_parts x.0.0 x.0.1 x.1 ≡ Err f → RejectsEarlier text f
told_parts text f x o h = elim (parts_error x.0.0 x.0.1 x.1 f h) [
  | inl s ↦ told_parts_run text f x o s.0 s.1
  | inr p ↦ told_empty text f x o p
]

refuses_of : (text : List ℕ) (f : Rejection) → RejectsEarlier text f → Rejects text f
refuses_of text Wildcard h = h
refuses_of text (NumberTooBig d) h = h
refuses_of text NoLeadingNumber h = h
refuses_of text NoLeadingReleaseNumber h = h
refuses_of text (LocalEmpty c) h = h
refuses_of text (UnexpectedEnd v r) h = absurd h

-- the kind that the reading answers is one that the text shows
pub sound : (text : List ℕ) (f : Rejection) → read_version text ≡ Err f → Rejects text f
sound text f e = by (fault text f e)
  where
    by : Fault text f → Rejects text f
    by (AtOpening h) = refuses_of text f (told_opening text f h)
    by (AtStar x o s k) = subst (Rejects text) (sym k) (drop 2 x.1, told_star text x o s)
    by (AtParts x o s h) = refuses_of text f (told_parts text f x o h)
    by (AtEnd x z s n k) =
        let l = longest text x z s in
        let rest : List ℕ = past is_ascii_whitespace z.1 in
        subst (Rejects text) (sym k) (
          some_rest (length rest) n,
          l,
          λ g h. let other = first_decides text g h in let one : UnexpectedEnd (take (length text - length rest) text) rest ≡ g = fails {A = Record} _ _ (sym (e ∙ ap Err k) ∙ other) in none g one h,
        )
      where
        none : (g : Rejection) → UnexpectedEnd (take (length text - length (past is_ascii_whitespace z.1)) text) (past is_ascii_whitespace z.1) ≡ g → RejectsEarlier text g → ⊥
        none (UnexpectedEnd v r) one h = h
        none Wildcard one h = cc one
        none (NumberTooBig d) one h = cc one
        none NoLeadingNumber one h = cc one
        none NoLeadingReleaseNumber one h = cc one
        none (LocalEmpty c) one h = cc one

-- ---- the pattern reader gives `Wildcard` by a star alone

prefix_wildcard : (t : List ℕ) → FrontFault t Wildcard → ⊥
prefix_wildcard t (NoNumber s k) = cc k
prefix_wildcard t (NoRelease ds rest n decomposition number s k) = cc k
prefix_wildcard t (BigNumber m) = let k = m.kind in cc k

pub no_wildcard : (text : List ℕ) → read_pattern text ≡ Err (OfVersion Wildcard) → ⊥
no_wildcard text e = by (parse_through_release text) refl e
  where
    parts : (x : (ℕ × List ℕ) × List ℕ) → (p : Read (Record × List ℕ)) → parse_parts x.0.0 x.0.1 x.1 ≡ p → without_star (p >>= parse_end text) ≡ Err (OfVersion Wildcard) → ⊥
    parts x (Ok z) o e = elim (cases_Bool (length (past is_ascii_whitespace z.1) == 0)) [ inl h ↦ let no = rw h at e in cc no | inr h ↦ let no = rw h at e in cc no ]
    parts x (Err g) o e =
        let same : g ≡ Wildcard = fails {A = Record} g Wildcard (ap version_of e) in
        elim (parts_error x.0.0 x.0.1 x.1 Wildcard (o ∙ (λ i. Err (same i)))) [ inl s ↦ let k = s.0.0.kind in cc k | inr p ↦ let k = p.kind in cc k ]

    by : (o : Read ((ℕ × List ℕ) × List ℕ)) → parse_through_release text ≡ o → pattern_from text o ≡ Err (OfVersion Wildcard) → ⊥
    by (Err g) o e = let same : g ≡ Wildcard = fails {A = Record} g Wildcard (ap version_of e) in prefix_wildcard (opened text) (prefix_error (opened text) Wildcard (o ∙ (λ i. Err (same i))))
    by (Ok x) o e = elim (cases_Bool (starts_with_star x.1)) [
      | inl s ↦ elim (cases_Bool (length (drop 2 x.1) == 0)) [ inl n ↦ let no = rw (s, n) at e in cc no | inr n ↦ let no = rw (s, n) at e in cc no ]
      | inr s ↦ let on = rw s at e in parts x (parse_parts x.0.0 x.0.1 x.1) refl on
    ]
