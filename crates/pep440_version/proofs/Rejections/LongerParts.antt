-- A release, a local part and a whole text that go on: they are read as of the front, or past the front.
use Rattle.std.proofs.Common.{◌≡◌, ◌≤◌, ◌<◌, ◌==◌, ◌⊎◌, ℕ, suc, zero, Bool, true, false, List, [], ◌∷◌, ◌++◌, refl, sym, ap, ◌∙◌, arith, drop, length, inl, inr, Ok, Option, None, subst, if◌then◌else◌}
use Rattle.std.proofs.lemmas.Bool.{cases_Bool}
use Rattle.std.proofs.lemmas.List.{length-append}
use Rattle.std.specs.Char.{is_ascii_alphanumeric, is_ascii_whitespace}
use Rattle.pep440_version.specs.declared.prerelease.Prerelease.{Prerelease}
use Rattle.pep440_version.specs.Grammar.{is_separator, parse_segment, starts, is_v}
use Rattle.pep440_version.specs.Locals.{first_byte, parse_segments, starts_local, parse_local}
use Rattle.pep440_version.specs.Reading.{◌>>=◌, lead, past, starts_with_number, skip_v, parse_number, has_next_number, parse_release}
use Rattle.pep440_version.specs.Record.{Record, LocalSegmentValue}
use Rattle.pep440_version.specs.Suffixes.{parse_pre, parse_post, parse_dev}
use Rattle.pep440_version.specs.Whole.{parse_release_after_epoch, parse_epoch_and_release, parse_through_release, parse_parts}
use Rattle.pep440_version.proofs.Reading.Prefixes.{both_first, both_second}
use Rattle.pep440_version.proofs.Reading.ReadIsDerived.{bind_ok, chosen, inside, split, drop_one}
use Rattle.pep440_version.proofs.Rejections.LongerTexts.{IsEnd, IsLater, end_of, later_end, past_later, past_split, number_end, digits_split, starts_prefix, Takes, Cuts, bind_takes, bind_cuts, done, done_cuts, drop_end, pre_end, pre_split, dev_end, dev_split, post_end, post_split}

-- ---- the release

goes_on_prefix : (t back : List ℕ) → has_next_number (t ++ back) ≡ false → has_next_number t ≡ false
goes_on_prefix [] back e = refl
goes_on_prefix (b ∷ []) back e = elim (cases_Bool (b == 46)) [ inl h ↦ rw h refl | inr h ↦ rw h refl ]
goes_on_prefix (b ∷ c ∷ t) back e = e

pub release_end : (k : ℕ) → Takes (parse_release k)
unfolding parse_release
release_end zero t y e = ([], ap (λ (p : List ℕ × List ℕ). p.1) (inside _ _ e))
release_end (suc k) t y e =
    let n = bind_ok (parse_number t) _ y e in
    elim (chosen (has_next_number n.0.1) _ _ _ n.2) [
      | inl h ↦
          let more = bind_ok (parse_release k (drop 1 n.0.1)) _ y h.1 in
          let left : more.0.1 ≡ y.1 = ap (λ (p : List ℕ × List ℕ). p.1) (inside _ _ more.2) in
          subst (IsEnd t) left (end_of t n.0.1 _ (number_end t n.0 n.1) (end_of n.0.1 (drop 1 n.0.1) _ (drop_end 1 n.0.1) (release_end k (drop 1 n.0.1) more.0 more.1)))
      | inr h ↦ subst (IsEnd t) (ap (λ (p : List ℕ × List ℕ). p.1) (inside _ _ h.1)) (number_end t n.0 n.1)
    ]

-- past the first number
release_past : (k : ℕ) (t : List ℕ) (n : ℕ × List ℕ) (y : List ℕ × List ℕ) → 0 < k → parse_number t ≡ Ok n → parse_release k t ≡ Ok y → IsEnd n.1 y.1
unfolding parse_release
release_past zero t n y room f e = absurd (omega (arith, room))
release_past (suc k) t n y room f e =
    let on = rw f at e in
    elim (chosen (has_next_number n.1) _ _ _ on) [
      | inl h ↦
          let more = bind_ok (parse_release k (drop 1 n.1)) _ y h.1 in
          let left : more.0.1 ≡ y.1 = ap (λ (p : List ℕ × List ℕ). p.1) (inside _ _ more.2) in
          subst (IsEnd n.1) left (end_of n.1 (drop 1 n.1) _ (drop_end 1 n.1) (release_end k (drop 1 n.1) more.0 more.1))
      | inr h ↦ subst (IsEnd n.1) (ap (λ (p : List ℕ × List ℕ). p.1) (inside _ _ h.1)) ([], refl)
    ]

pub end_long : (a b : List ℕ) → IsEnd a b → length b ≤ length a
end_long a b h = let long = ap length h.1 ∙ length-append h.0 b in omega (arith, long)

pub release_split : (k j : ℕ) (t back : List ℕ) (y : List ℕ × List ℕ) → length (t ++ back) ≤ k → length t ≤ j → starts_with_number (t ++ back) ≡ true → parse_release k (t ++ back) ≡ Ok y
    → ((u : List ℕ) × (starts_with_number t ≡ true) × (parse_release j t ≡ Ok (y.0, u)) × (y.1 ≡ u ++ back)) ⊎ IsLater back y.1
unfolding parse_release
release_split zero j t back y room fits s e = absurd (none (t ++ back) s room)
  where
    none : (t : List ℕ) → starts_with_number t ≡ true → length t ≤ 0 → ⊥
    none [] s l = cc s
    none (b ∷ t) s l = omega (arith, l)
release_split (suc k) j t back y room fits s e =
    let n = bind_ok (parse_number (t ++ back)) _ y e in
    elim (digits_split t back n.0 s n.1) [
      | inl c ↦ on (λ i u x. release_split k i u back x) j fits n.0 n.1 n.2 c
      | inr c ↦ elim (chosen (has_next_number n.0.1) _ _ _ n.2) [
        | inl h ↦
            let more = bind_ok (parse_release k (drop 1 n.0.1)) _ y h.1 in
            let left : more.0.1 ≡ y.1 = ap (λ (p : List ℕ × List ℕ). p.1) (inside _ _ more.2) in
            inr (subst (IsLater back) left (later_end back n.0.1 _ c (end_of n.0.1 (drop 1 n.0.1) _ (drop_end 1 n.0.1) (release_end k (drop 1 n.0.1) more.0 more.1))))
        | inr h ↦ inr (subst (IsLater back) (ap (λ (p : List ℕ × List ℕ). p.1) (inside _ _ h.1)) c)
      ]
    ]
  where
    some_room : (t : List ℕ) (j : ℕ) → starts_with_number t ≡ true → length t ≤ j → (i : ℕ) × (j ≡ suc i)
    some_room [] j s l = cc s
    some_room (b ∷ t) zero s l = absurd (omega (arith, l))
    some_room (b ∷ t) (suc i) s l = (i, refl)

    split_goes : ((i : ℕ) (u : List ℕ) (x : List ℕ × List ℕ) → length (u ++ back) ≤ k → length u ≤ i → starts_with_number (u ++ back) ≡ true → parse_release k (u ++ back) ≡ Ok x
        → ((v : List ℕ) × (starts_with_number u ≡ true) × (parse_release i u ≡ Ok (x.0, v)) × (x.1 ≡ v ++ back)) ⊎ IsLater back x.1)
        → (u : List ℕ) (x : List ℕ × List ℕ) (i : ℕ) → length (u ++ back) ≤ suc k → length u ≤ suc i → has_next_number (u ++ back) ≡ true → parse_release k (drop 1 (u ++ back)) ≡ Ok x
        → ((v : List ℕ) × (has_next_number u ≡ true) × (parse_release i (drop 1 u) ≡ Ok (x.0, v)) × (x.1 ≡ v ++ back)) ⊎ IsLater back x.1
    split_goes again [] x i r1 r2 g m = inr (later_end back (drop 1 back) x.1 (46 ∷ [], omega arith, drop_one 46 back (both_first _ _ g)) (release_end k (drop 1 back) x m))
    split_goes again (b ∷ u) x i r1 r2 g m = elim (again i u x (omega (arith, r1)) (omega (arith, r2)) (both_second (b == 46) _ g) m) [
      | inl c ↦ inl (c.0, rw (both_first (b == 46) _ g) c.1, c.2, c.3)
      | inr c ↦ inr c
    ]

    on : ((i : ℕ) (u : List ℕ) (x : List ℕ × List ℕ) → length (u ++ back) ≤ k → length u ≤ i → starts_with_number (u ++ back) ≡ true → parse_release k (u ++ back) ≡ Ok x
        → ((v : List ℕ) × (starts_with_number u ≡ true) × (parse_release i u ≡ Ok (x.0, v)) × (x.1 ≡ v ++ back)) ⊎ IsLater back x.1)
        → (j : ℕ) → length t ≤ j → (n : ℕ × List ℕ) → parse_number (t ++ back) ≡ Ok n
        → (if has_next_number n.1 then (parse_release k (drop 1 n.1) >>= λ rest. Ok (n.0 ∷ rest.0, rest.1)) else Ok (n.0 ∷ [], n.1)) ≡ Ok y
        → (u : List ℕ) × (starts_with_number t ≡ true) × (parse_number t ≡ Ok (n.0, u)) × (n.1 ≡ u ++ back)
        → ((u : List ℕ) × (starts_with_number t ≡ true) × (parse_release j t ≡ Ok (y.0, u)) × (y.1 ≡ u ++ back)) ⊎ IsLater back y.1
    on again j fits n ne e c =
        let i = some_room t j c.1 fits in
        let l1 = end_long (t ++ back) n.1 (number_end (t ++ back) n ne) in
        let l2 = end_long t c.0 (number_end t (n.0, c.0) c.2) in
        let l3 = ap length c.3 in
        elim (chosen (has_next_number n.1) _ _ _ e) [
          | inl h ↦
              let more = bind_ok (parse_release k (drop 1 n.1)) _ y h.1 in
              let same = inside _ _ more.2 in
              let value : n.0 ∷ more.0.0 ≡ y.0 = ap (λ (p : List ℕ × List ℕ). p.0) same in
              let left : more.0.1 ≡ y.1 = ap (λ (p : List ℕ × List ℕ). p.1) same in
              elim (split_goes again c.0 more.0 i.0 (omega (arith, l1, l3, room)) (omega (arith, l2, fits, i.1)) (ap has_next_number (sym c.3) ∙ h.0) (ap (λ l. parse_release k (drop 1 l)) (sym c.3) ∙ more.1)) [
                | inl d ↦ inl (d.0, c.1, rw (i.1, c.2, d.1, d.2) (λ z. Ok (value z, d.0)), sym left ∙ d.3)
                | inr d ↦ inr (subst (IsLater back) left d)
              ]
          | inr h ↦
              let same = inside _ _ h.1 in
              let value : n.0 ∷ [] ≡ y.0 = ap (λ (p : List ℕ × List ℕ). p.0) same in
              let stop : has_next_number c.0 ≡ false = goes_on_prefix c.0 back (ap has_next_number (sym c.3) ∙ h.0) in
              inl (c.0, c.1, rw (i.1, c.2, stop) (λ z. Ok (value z, c.0)), sym (ap (λ (p : List ℕ × List ℕ). p.1) same) ∙ c.3)
        ]

pub after_end : (epoch : ℕ) → Takes (parse_release_after_epoch epoch)
after_end epoch t y e =
    let r = bind_ok (parse_release (length t) t) _ y e in
    subst (IsEnd t) (ap (λ (p : (ℕ × List ℕ) × List ℕ). p.1) (inside _ _ r.2)) (release_end (length t) t r.0 r.1)

pub after_split : (epoch : ℕ) (t back : List ℕ) (y : (ℕ × List ℕ) × List ℕ) → starts_with_number (t ++ back) ≡ true → parse_release_after_epoch epoch (t ++ back) ≡ Ok y
    → ((u : List ℕ) × (starts_with_number t ≡ true) × (parse_release_after_epoch epoch t ≡ Ok (y.0, u)) × (y.1 ≡ u ++ back)) ⊎ IsLater back y.1
after_split epoch t back y s e =
    let r = bind_ok (parse_release (length (t ++ back)) (t ++ back)) _ y e in
    let same = inside _ _ r.2 in
    let value : (epoch, r.0.0) ≡ y.0 = ap (λ (p : (ℕ × List ℕ) × List ℕ). p.0) same in
    let left : r.0.1 ≡ y.1 = ap (λ (p : (ℕ × List ℕ) × List ℕ). p.1) same in
    elim (release_split (length (t ++ back)) (length t) t back r.0 (omega arith) (omega arith) s r.1) [
      | inl c ↦ inl (c.0, c.1, rw c.2 (λ z. Ok (value z, c.0)), sym left ∙ c.3)
      | inr c ↦ inr (subst (IsLater back) left c)
    ]

is_bang : ℕ → Bool
is_bang b = b == 33

pub prefix_end : Takes parse_epoch_and_release
unfolding parse_epoch_and_release
prefix_end t y e = elim (chosen (starts_with_number t) _ _ _ e) [
  | inl h ↦
      let n = bind_ok (parse_number t) _ y h.1 in
      elim (chosen (starts (λ b. b == 33) n.0.1) _ _ _ n.2) [
        | inl g ↦ elim (chosen (starts_with_number (drop 1 n.0.1)) _ _ _ g.1) [
          | inl d ↦ end_of t n.0.1 y.1 (number_end t n.0 n.1) (end_of n.0.1 (drop 1 n.0.1) y.1 (drop_end 1 n.0.1) (after_end n.0.0 (drop 1 n.0.1) y d.1))
          | inr d ↦ cc d.1
        ]
        | inr g ↦ after_end 0 t y g.1
      ]
  | inr h ↦ cc h.1
]

after_past : (epoch : ℕ) (t : List ℕ) (n : ℕ × List ℕ) (y : (ℕ × List ℕ) × List ℕ) → starts_with_number t ≡ true → parse_number t ≡ Ok n → parse_release_after_epoch epoch t ≡ Ok y → IsEnd n.1 y.1
after_past epoch [] n y s f e = cc s
after_past epoch (b ∷ t) n y s f e =
    let r = bind_ok (parse_release (length (b ∷ t)) (b ∷ t)) _ y e in
    subst (IsEnd n.1) (ap (λ (p : (ℕ × List ℕ) × List ℕ). p.1) (inside _ _ r.2)) (release_past (length (b ∷ t)) (b ∷ t) n r.0 (omega arith) f r.1)

pub prefix_split : Cuts parse_epoch_and_release
unfolding parse_epoch_and_release
prefix_split t back y e = elim (chosen (starts_with_number (t ++ back)) _ _ _ e) [
  | inl h ↦
      let n = bind_ok (parse_number (t ++ back)) _ y h.1 in
      elim (digits_split t back n.0 h.0 n.1) [
        | inl c ↦ elim (chosen (starts (λ b. b == 33) n.0.1) _ _ _ n.2) [
          | inl g ↦ elim (chosen (starts_with_number (drop 1 n.0.1)) _ _ _ g.1) [
            | inl d ↦ bang n.0 c (ap (starts (λ b. b == 33)) (sym c.3) ∙ g.0) (ap (λ l. starts_with_number (drop 1 l)) (sym c.3) ∙ d.0) (ap (λ l. parse_release_after_epoch n.0.0 (drop 1 l)) (sym c.3) ∙ d.1)
            | inr d ↦ cc d.1
          ]
          | inr g ↦
              let stop : starts (λ b. b == 33) c.0 ≡ false = starts_prefix (λ b. b == 33) c.0 back (ap (starts (λ b. b == 33)) (sym c.3) ∙ g.0) in
              elim (after_split 0 t back y h.0 g.1) [
                | inl d ↦ inl (d.0, rw (c.1, c.2, stop) d.2, d.3)
                | inr d ↦ inr d
              ]
        ]
        | inr c ↦ elim (chosen (starts (λ b. b == 33) n.0.1) _ _ _ n.2) [
          | inl g ↦ elim (chosen (starts_with_number (drop 1 n.0.1)) _ _ _ g.1) [
            | inl d ↦ inr (later_end back n.0.1 y.1 c (end_of n.0.1 (drop 1 n.0.1) y.1 (drop_end 1 n.0.1) (after_end n.0.0 (drop 1 n.0.1) y d.1)))
            | inr d ↦ cc d.1
          ]
          | inr g ↦ inr (later_end back n.0.1 y.1 c (after_past 0 (t ++ back) n.0 y h.0 n.1 g.1))
        ]
      ]
  | inr h ↦ cc h.1
]
  where
    bang_at : (u : List ℕ) (epoch : ℕ) → starts (λ b. b == 33) (u ++ back) ≡ true → starts_with_number (drop 1 (u ++ back)) ≡ true → parse_release_after_epoch epoch (drop 1 (u ++ back)) ≡ Ok y
        → ((w : List ℕ) × (starts (λ b. b == 33) u ≡ true) × (starts_with_number (drop 1 u) ≡ true) × (parse_release_after_epoch epoch (drop 1 u) ≡ Ok (y.0, w)) × (y.1 ≡ w ++ back)) ⊎ IsLater back y.1
    bang_at [] epoch b s e = inr (later_end back (drop 1 back) y.1 (33 ∷ [], omega arith, drop_one 33 back b) (after_end epoch (drop 1 back) y e))
    bang_at (x ∷ u) epoch b s e = elim (after_split epoch u back y s e) [
      | inl d ↦ inl (d.0, b, d.1, d.2, d.3)
      | inr d ↦ inr d
    ]

    bang : (n : ℕ × List ℕ) → (c : (u : List ℕ) × (starts_with_number t ≡ true) × (parse_number t ≡ Ok (n.0, u)) × (n.1 ≡ u ++ back))
        → starts (λ b. b == 33) (c.0 ++ back) ≡ true → starts_with_number (drop 1 (c.0 ++ back)) ≡ true → parse_release_after_epoch n.0 (drop 1 (c.0 ++ back)) ≡ Ok y
        → ((u : List ℕ) × (parse_epoch_and_release t ≡ Ok (y.0, u)) × (y.1 ≡ u ++ back)) ⊎ IsLater back y.1
    bang n c b s e = elim (bang_at c.0 n.0 b s e) [
      | inl d ↦ inl (d.0, rw (c.1, c.2, d.1, d.2) d.3, d.4)
      | inr d ↦ inr d
    ]

-- ---- the local part

pub segments_end : (k c : ℕ) → Takes (parse_segments k c)
unfolding parse_segments
segments_end zero c t y e = cc e
segments_end (suc k) c t y e = elim (chosen (starts is_ascii_alphanumeric t) _ _ _ e) [
  | inl h ↦
      let first : IsEnd t (past is_ascii_alphanumeric t) = (lead is_ascii_alphanumeric t, split is_ascii_alphanumeric t) in
      elim (chosen (starts is_separator (past is_ascii_alphanumeric t)) _ _ _ h.1) [
        | inl g ↦
            let more = bind_ok (parse_segments k (first_byte (past is_ascii_alphanumeric t)) (drop 1 (past is_ascii_alphanumeric t))) _ y g.1 in
            let left : more.0.1 ≡ y.1 = ap (λ (p : List LocalSegmentValue × List ℕ). p.1) (inside _ _ more.2) in
            subst (IsEnd t) left (end_of t _ _ first (end_of _ (drop 1 (past is_ascii_alphanumeric t)) _ (drop_end 1 _) (segments_end k _ _ more.0 more.1)))
        | inr g ↦ subst (IsEnd t) (ap (λ (p : List LocalSegmentValue × List ℕ). p.1) (inside _ _ g.1)) first
      ]
  | inr h ↦ cc h.1
]

pub segments_later : (k c : ℕ) (t : List ℕ) (y : List LocalSegmentValue × List ℕ) → parse_segments k c t ≡ Ok y → IsLater t y.1
unfolding parse_segments
segments_later zero c t y e = cc e
segments_later (suc k) c t y e = elim (chosen (starts is_ascii_alphanumeric t) _ _ _ e) [
  | inl h ↦
      let first : IsLater t (past is_ascii_alphanumeric t) = past_later is_ascii_alphanumeric t h.0 in
      elim (chosen (starts is_separator (past is_ascii_alphanumeric t)) _ _ _ h.1) [
        | inl g ↦
            let more = bind_ok (parse_segments k (first_byte (past is_ascii_alphanumeric t)) (drop 1 (past is_ascii_alphanumeric t))) _ y g.1 in
            let left : more.0.1 ≡ y.1 = ap (λ (p : List LocalSegmentValue × List ℕ). p.1) (inside _ _ more.2) in
            subst (IsLater t) left (later_end t _ _ first (end_of _ (drop 1 (past is_ascii_alphanumeric t)) _ (drop_end 1 _) (segments_end k _ _ more.0 more.1)))
        | inr g ↦ subst (IsLater t) (ap (λ (p : List LocalSegmentValue × List ℕ). p.1) (inside _ _ g.1)) first
      ]
  | inr h ↦ cc h.1
]

pub segments_more : (k c : ℕ) (t : List ℕ) (x : List LocalSegmentValue × List ℕ) → starts is_ascii_alphanumeric t ≡ true → starts is_separator (past is_ascii_alphanumeric t) ≡ true
    → parse_segments k (first_byte (past is_ascii_alphanumeric t)) (drop 1 (past is_ascii_alphanumeric t)) ≡ Ok x → parse_segments (suc k) c t ≡ Ok (parse_segment (lead is_ascii_alphanumeric t) ∷ x.0, x.1)
unfolding parse_segments
segments_more k c t x s g m = rw (s, g, m) refl

pub segments_last : (k c : ℕ) (t : List ℕ) → starts is_ascii_alphanumeric t ≡ true → starts is_separator (past is_ascii_alphanumeric t) ≡ false
    → parse_segments (suc k) c t ≡ Ok (parse_segment (lead is_ascii_alphanumeric t) ∷ [], past is_ascii_alphanumeric t)
unfolding parse_segments
segments_last k c t s g = rw (s, g) refl

pub segments_split : (k j c : ℕ) (t back : List ℕ) (y : List LocalSegmentValue × List ℕ) → length t ≤ j → parse_segments k c (t ++ back) ≡ Ok y
    → ((u : List ℕ) × (parse_segments j c t ≡ Ok (y.0, u)) × (y.1 ≡ u ++ back)) ⊎ IsLater back y.1
unfolding parse_segments
segments_split zero j c t back y fits e = cc e
segments_split (suc k) j c [] back y fits e = inr (segments_later (suc k) c back y e)
segments_split (suc k) zero c (b ∷ t) back y fits e = absurd (omega (arith, fits))
segments_split (suc k) (suc j) c (b ∷ t) back y fits e = elim (chosen (is_ascii_alphanumeric b) _ _ _ e) [
  | inl h ↦ elim (past_split is_ascii_alphanumeric (b ∷ t) back) [
    | inl p ↦ elim (chosen (starts is_separator (past is_ascii_alphanumeric (b ∷ t ++ back))) _ _ _ h.1) [
      | inl g ↦
          let more = bind_ok (parse_segments k (first_byte (past is_ascii_alphanumeric (b ∷ t ++ back))) (drop 1 (past is_ascii_alphanumeric (b ∷ t ++ back)))) _ y g.1 in
          let same = inside _ _ more.2 in
          let value : parse_segment (lead is_ascii_alphanumeric (b ∷ t)) ∷ more.0.0 ≡ y.0 = ap (λ l. parse_segment l ∷ more.0.0) (sym p.1) ∙ ap (λ (p : List LocalSegmentValue × List ℕ). p.0) same in
          let left : more.0.1 ≡ y.1 = ap (λ (p : List LocalSegmentValue × List ℕ). p.1) same in
          let short = past_short t in
          elim (goes (λ u x. segments_split k j (first_byte u) (drop 1 u) back x) (past is_ascii_alphanumeric (b ∷ t)) more.0 (omega (arith, fits, short)) (ap (starts is_separator) (sym p.0) ∙ g.0)
          (ap (λ l. parse_segments k (first_byte l) (drop 1 l)) (sym p.0) ∙ more.1)) [
            | inl d ↦ inl (d.0, segments_more j c (b ∷ t) (more.0.0, d.0) h.0 d.1 d.2 ∙ (λ z. Ok (value z, d.0)), sym left ∙ d.3)
            | inr d ↦ inr (subst (IsLater back) left d)
          ]
      | inr g ↦
          let same = inside _ _ g.1 in
          let value : parse_segment (lead is_ascii_alphanumeric (b ∷ t)) ∷ [] ≡ y.0 = ap (λ l. parse_segment l ∷ []) (sym p.1) ∙ ap (λ (p : List LocalSegmentValue × List ℕ). p.0) same in
          let stop : starts is_separator (past is_ascii_alphanumeric (b ∷ t)) ≡ false = starts_prefix is_separator (past is_ascii_alphanumeric (b ∷ t)) back (ap (starts is_separator) (sym p.0) ∙ g.0) in
          inl (past is_ascii_alphanumeric (b ∷ t), segments_last j c (b ∷ t) h.0 stop ∙ (λ z. Ok (value z, past is_ascii_alphanumeric (b ∷ t))), sym (ap (λ (p : List LocalSegmentValue × List ℕ). p.1) same) ∙ p.0)
    ]
    | inr p ↦ inr (later_past p h.1)
  ]
  | inr h ↦ cc h.1
]
  where
    past_short : (t : List ℕ) → length (past is_ascii_alphanumeric (b ∷ t)) ≤ suc (length t)
    past_short t = end_long (b ∷ t) _ (lead is_ascii_alphanumeric (b ∷ t), split is_ascii_alphanumeric (b ∷ t))

    later_past : IsLater back (past is_ascii_alphanumeric (b ∷ t ++ back))
        → (if starts is_separator (past is_ascii_alphanumeric (b ∷ t ++ back)) then
        (parse_segments k (first_byte (past is_ascii_alphanumeric (b ∷ t ++ back))) (drop 1 (past is_ascii_alphanumeric (b ∷ t ++ back)))
        >>= λ rest. Ok (parse_segment (lead is_ascii_alphanumeric (b ∷ t ++ back)) ∷ rest.0, rest.1))
        else Ok (parse_segment (lead is_ascii_alphanumeric (b ∷ t ++ back)) ∷ [], past is_ascii_alphanumeric (b ∷ t ++ back))) ≡ Ok y → IsLater back y.1
    later_past p e = elim (chosen (starts is_separator (past is_ascii_alphanumeric (b ∷ t ++ back))) _ _ _ e) [
      | inl g ↦
          let more = bind_ok (parse_segments k (first_byte (past is_ascii_alphanumeric (b ∷ t ++ back))) (drop 1 (past is_ascii_alphanumeric (b ∷ t ++ back)))) _ y g.1 in
          let left : more.0.1 ≡ y.1 = ap (λ (p : List LocalSegmentValue × List ℕ). p.1) (inside _ _ more.2) in
          subst (IsLater back) left (later_end back _ _ p (end_of _ (drop 1 (past is_ascii_alphanumeric (b ∷ t ++ back))) _ (drop_end 1 _) (segments_end k _ _ more.0 more.1)))
      | inr g ↦ subst (IsLater back) (ap (λ (p : List LocalSegmentValue × List ℕ). p.1) (inside _ _ g.1)) p
    ]

    goes : ((u : List ℕ) (x : List LocalSegmentValue × List ℕ) → length (drop 1 u) ≤ j → parse_segments k (first_byte u) (drop 1 u ++ back) ≡ Ok x → ((v : List ℕ) × (parse_segments j (first_byte u) (drop 1 u) ≡ Ok (x.0, v)) × (x.1 ≡ v ++ back)) ⊎ IsLater back x.1)
        → (u : List ℕ) (x : List LocalSegmentValue × List ℕ) → length u ≤ suc j → starts is_separator (u ++ back) ≡ true → parse_segments k (first_byte (u ++ back)) (drop 1 (u ++ back)) ≡ Ok x
        → ((v : List ℕ) × (starts is_separator u ≡ true) × (parse_segments j (first_byte u) (drop 1 u) ≡ Ok (x.0, v)) × (x.1 ≡ v ++ back)) ⊎ IsLater back x.1
    goes again [] x l s e = inr (later_end back (drop 1 back) x.1 (past_drop back s) (segments_end k _ (drop 1 back) x e))
      where
        past_drop : (t : List ℕ) → starts is_separator t ≡ true → IsLater t (drop 1 t)
        past_drop [] s = cc s
        past_drop (b ∷ t) s = (b ∷ [], omega arith, refl)
    goes again (a ∷ u) x l s e = elim (again (a ∷ u) x (omega (arith, l)) e) [
      | inl d ↦ inl (d.0, s, d.1, d.2)
      | inr d ↦ inr d
    ]

pub local_end : Takes parse_local
local_end t y e = elim (chosen (starts_local t) _ _ _ e) [
  | inl h ↦ end_of t (drop 1 t) y.1 (drop_end 1 t) (segments_end _ 43 (drop 1 t) y h.1)
  | inr h ↦ ([], ap (λ (p : List LocalSegmentValue × List ℕ). p.1) (inside _ _ h.1))
]

pub local_split : Cuts parse_local
local_split [] back y e = elim (chosen (starts_local back) _ _ _ e) [
  | inl h ↦ inr (later_end back (drop 1 back) y.1 (43 ∷ [], omega arith, drop_one 43 back h.0) (segments_end _ 43 (drop 1 back) y h.1))
  | inr h ↦
      let same = inside _ _ h.1 in
      let value : [] ≡ y.0 = ap (λ (p : List LocalSegmentValue × List ℕ). p.0) same in
      inl ([], (λ i. Ok (value i, [])), sym (ap (λ (p : List LocalSegmentValue × List ℕ). p.1) same))
]
local_split (b ∷ t) back y e = elim (chosen (b == 43) _ _ _ e) [
  | inl h ↦ elim (segments_split (length (t ++ back)) (length t) 43 t back y (omega arith) h.1) [
    | inl d ↦ inl (d.0, rw (h.0, d.1) refl, d.2)
    | inr d ↦ inr d
  ]
  | inr h ↦
      let same = inside _ _ h.1 in
      let value : [] ≡ y.0 = ap (λ (p : List LocalSegmentValue × List ℕ). p.0) same in
      inl (b ∷ t, rw h.0 (λ i. Ok (value i, b ∷ t)), sym (ap (λ (p : List LocalSegmentValue × List ℕ). p.1) same))
]

-- ---- the whole

pub v_end : (t : List ℕ) → IsEnd t (skip_v t)
v_end [] = ([], refl)
v_end (b ∷ t) = elim (cases_Bool (is_v b)) [
  | inl e ↦ (b ∷ [], rw e refl)
  | inr e ↦ ([], rw e refl)
]

v_split : (t back : List ℕ) → (skip_v (t ++ back) ≡ skip_v t ++ back) ⊎ IsLater back (skip_v (t ++ back))
v_split [] [] = inl refl
v_split [] (b ∷ r) = elim (cases_Bool (is_v b)) [
  | inl e ↦ inr (b ∷ [], omega arith, rw e refl)
  | inr e ↦ inl (rw e refl)
]
v_split (b ∷ t) back = elim (cases_Bool (is_v b)) [
  | inl e ↦ inl (rw e refl)
  | inr e ↦ inl (rw e refl)
]

blanks_end : (t : List ℕ) → IsEnd t (past is_ascii_whitespace t)
blanks_end t = (lead is_ascii_whitespace t, split is_ascii_whitespace t)

pub opening_end : Takes parse_through_release
opening_end t y e = end_of t (past is_ascii_whitespace t) y.1 (blanks_end t) (end_of (past is_ascii_whitespace t) (skip_v (past is_ascii_whitespace t)) y.1 (v_end (past is_ascii_whitespace t)) (prefix_end (skip_v (past is_ascii_whitespace t)) y e))

pub opening_split : Cuts parse_through_release
opening_split t back y e = elim (past_split is_ascii_whitespace t back) [
  | inl h ↦ elim (v_split (past is_ascii_whitespace t) back) [
    | inl g ↦ prefix_split (skip_v (past is_ascii_whitespace t)) back y (ap parse_epoch_and_release (sym g) ∙ ap (λ l. parse_epoch_and_release (skip_v l)) (sym h.0) ∙ e)
    | inr g ↦ inr (later_end back (skip_v (past is_ascii_whitespace t ++ back)) y.1 g (prefix_end _ y (ap (λ l. parse_epoch_and_release (skip_v l)) (sym h.0) ∙ e)))
  ]
  | inr h ↦ inr (later_end back (past is_ascii_whitespace (t ++ back)) y.1 h (end_of _ (skip_v (past is_ascii_whitespace (t ++ back))) y.1 (v_end _) (prefix_end _ y e)))
]

abbrev pub record_of : ℕ → List ℕ → Option Prerelease → Option ℕ → Option ℕ → List LocalSegmentValue → Record
record_of epoch release pre post dev local = record { epoch = epoch; release = release; pre = pre; post = post; dev = dev; local = local; min = None; max = None }

pub parts_end : (epoch : ℕ) (release : List ℕ) → Takes (parse_parts epoch release)
unfolding parse_parts
parts_end epoch release =
    bind_takes parse_pre (λ p t. parse_post t >>= λ q. parse_dev q.1 >>= λ d. parse_local d.1 >>= λ l. Ok (record_of epoch release p q.0 d.0 l.0, l.1)) pre_end (λ p.
    bind_takes parse_post (λ q t. parse_dev t >>= λ d. parse_local d.1 >>= λ l. Ok (record_of epoch release p q d.0 l.0, l.1)) post_end (λ q.
    bind_takes parse_dev (λ d t. parse_local t >>= λ l. Ok (record_of epoch release p q d l.0, l.1)) dev_end (λ d.
    bind_takes parse_local (λ l t. Ok (record_of epoch release p q d l, t)) local_end (λ l. done (record_of epoch release p q d l)))))

pub parts_split : (epoch : ℕ) (release : List ℕ) → Cuts (parse_parts epoch release)
unfolding parse_parts
parts_split epoch release =
    bind_cuts parse_pre (λ p t. parse_post t >>= λ q. parse_dev q.1 >>= λ d. parse_local d.1 >>= λ l. Ok (record_of epoch release p q.0 d.0 l.0, l.1)) pre_split (λ p.
    bind_takes parse_post (λ q t. parse_dev t >>= λ d. parse_local d.1 >>= λ l. Ok (record_of epoch release p q d.0 l.0, l.1)) post_end (λ q.
    bind_takes parse_dev (λ d t. parse_local t >>= λ l. Ok (record_of epoch release p q d l.0, l.1)) dev_end (λ d.
    bind_takes parse_local (λ l t. Ok (record_of epoch release p q d l, t)) local_end (λ l. done (record_of epoch release p q d l))))) (λ p.
    bind_cuts parse_post (λ q t. parse_dev t >>= λ d. parse_local d.1 >>= λ l. Ok (record_of epoch release p q d.0 l.0, l.1)) post_split (λ q.
    bind_takes parse_dev (λ d t. parse_local t >>= λ l. Ok (record_of epoch release p q d l.0, l.1)) dev_end (λ d.
    bind_takes parse_local (λ l t. Ok (record_of epoch release p q d l, t)) local_end (λ l. done (record_of epoch release p q d l)))) (λ q.
    bind_cuts parse_dev (λ d t. parse_local t >>= λ l. Ok (record_of epoch release p q d l.0, l.1)) dev_split (λ d.
    bind_takes parse_local (λ l t. Ok (record_of epoch release p q d l, t)) local_end (λ l. done (record_of epoch release p q d l))) (λ d.
    bind_cuts parse_local (λ l t. Ok (record_of epoch release p q d l, t)) local_split (λ l. done (record_of epoch release p q d l)) (λ l. done_cuts (record_of epoch release p q d l)))))
