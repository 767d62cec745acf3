-- The front at which the reading stops is the longest that the grammar derives.
use Rattle.std.specs.Char.{is_ascii_whitespace, is_ascii_digit, to_ascii_lowercase}
use Rattle.std.proofs.Common.{◌≡◌, ◌<◌, ◌-◌, ◌==◌, ◌⊎◌, ℕ, suc, zero, Bool, true, false, List, [], ◌∷◌, ◌++◌, refl, sym, ap, ◌∙◌, arith, drop, take, length, inl, inr, Ok, Err, Result, subst, ◌&&◌, Option, Some, None, nat_le, map, get_or}
use Rattle.std.proofs.lemmas.Bool.{cases_Bool}
use Rattle.std.proofs.lemmas.List.{length-append}
use Rattle.std.proofs.Math.Seq.{take-append_seam}
use Rattle.std.specs.List.{list_all}
use Rattle.pep440_version.specs.Grammar.{AreBlanks, Derives, IsLeadingV, IsNumber, IsEpoch, IsRelease, Spellings, IsSpelled, IsSpelling, IsSeparator, IsCount, is_separator, IsPre, IsPost, IsDev, IsLocal}
use Rattle.pep440_version.specs.Reading.{Read, ◌>>=◌, lead, past}
use Rattle.pep440_version.specs.Record.{Record, LocalSegmentValue}
use Rattle.pep440_version.specs.Rejections.{Rejection, Wildcard, UnexpectedEnd, IsLongest}
use Rattle.pep440_version.specs.Whole.{parse_through_release, parse_parts, parse_end, starts_with_star, pattern_from, read_pattern, version_of, read_version, without_star}
use Rattle.pep440_version.proofs.Reading.Prefixes.{both_first, both_second}
use Rattle.pep440_version.proofs.Reading.ReadIsDerived.{inside, split, blank_end}
use Rattle.pep440_version.proofs.Rejections.LongerTexts.{past_split, IsEnd, IsLater, end_of, later_end, past_one}
use Rattle.pep440_version.proofs.Rejections.LongerParts.{opening_end, opening_split, parts_end, parts_split, end_long}
use Rattle.pep440_version.proofs.Reading.PartsAgree.{parts_take}
use Rattle.pep440_version.proofs.Reading.Agreement.{opening_takes, derived, version_is, sure, only}
use Rattle.std.proofs.lemmas.Bool.Decides.{nat_tests}
use Rattle.pep440_version.specs.declared.prerelease.Prerelease.{Prerelease}
use Rattle.pep440_version.proofs.Rejections.ZeroForDigits.{AllLetters, all_letters, letters_of_pre, letters_of_post, letters_of_dev, Lacks}
use Rattle.pep440_version.proofs.Reading.LocalAgrees.{blank_not_plus}

-- where a text is refused
pub record Stopped (text : List ℕ) (x : (ℕ × List ℕ) × List ℕ) (z : Record × List ℕ) : Type 0 where
  pub opened : parse_through_release text ≡ Ok x
  pub star : starts_with_star x.1 ≡ false
  pub parts : parse_parts x.0.0 x.0.1 x.1 ≡ Ok z

pub data Fault (text : List ℕ) (f : Rejection) : Type 0 where
  AtOpening : parse_through_release text ≡ Err f → Fault text f
  AtStar : (x : (ℕ × List ℕ) × List ℕ) → parse_through_release text ≡ Ok x → starts_with_star x.1 ≡ true → f ≡ Wildcard → Fault text f
  AtParts : (x : (ℕ × List ℕ) × List ℕ) → parse_through_release text ≡ Ok x → starts_with_star x.1 ≡ false → parse_parts x.0.0 x.0.1 x.1 ≡ Err f → Fault text f
  AtEnd : (x : (ℕ × List ℕ) × List ℕ) (z : Record × List ℕ) → Stopped text x z → (length (past is_ascii_whitespace z.1) == 0) ≡ false
      → f ≡ UnexpectedEnd (take (length text - length (past is_ascii_whitespace z.1)) text) (past is_ascii_whitespace z.1) → Fault text f

pub fails : {A : Type 0} (x y : Rejection) → (let r : Result A Rejection = Err x in r) ≡ Err y → x ≡ y
fails {A} x y e = ap (λ (r : Result A Rejection). elim r as (λ _. Rejection) [ Ok z ↦ x | Err f ↦ f ]) e

pub fault : (text : List ℕ) (f : Rejection) → read_version text ≡ Err f → Fault text f
fault text f e = by (parse_through_release text) refl e
  where
    closed : (x : (ℕ × List ℕ) × List ℕ) → parse_through_release text ≡ Ok x → starts_with_star x.1 ≡ false → (r : Read (Record × List ℕ)) → parse_parts x.0.0 x.0.1 x.1 ≡ r → version_of (without_star (r >>= parse_end text)) ≡ Err f → Fault text f
    closed x o s (Err g) p e = AtParts x o s (p ∙ (λ i. Err (fails {A = Record} g f e i)))
    closed x o s (Ok z) p e = elim (cases_Bool (length (past is_ascii_whitespace z.1) == 0)) [
      | inl h ↦ let none = rw h at e in cc none
      | inr h ↦ let same = rw h at e in AtEnd x z (record { opened = o; star = s; parts = p }) h (sym (fails {A = Record} _ _ same))
    ]

    by : (o : Read ((ℕ × List ℕ) × List ℕ)) → parse_through_release text ≡ o → version_of (pattern_from text o) ≡ Err f → Fault text f
    by (Err g) o e = AtOpening (o ∙ (λ i. Err (fails {A = Record} g f e i)))
    by (Ok x) o e = elim (cases_Bool (starts_with_star x.1)) [
      | inl h ↦ elim (cases_Bool (length (drop 2 x.1) == 0)) [
        | inl g ↦ let same = rw (h, g) at e in AtStar x o h (sym (fails {A = Record} _ _ same))
        | inr g ↦ let same = rw (h, g) at e in AtStar x o h (sym (fails {A = Record} _ _ same))
      ]
      | inr h ↦ let on = rw h at e in closed x o h (parse_parts x.0.0 x.0.1 x.1) refl on
    ]

-- how a text is read whole
pub record Whole (text : List ℕ) (r : Record) : Type 0 where
  pub x : (ℕ × List ℕ) × List ℕ
  pub rest : List ℕ
  pub stopped : Stopped text x (r, rest)
  pub blanks : AreBlanks rest

pub whole : (text : List ℕ) (r : Record) → read_version text ≡ Ok r → Whole text r
whole text r e = by (parse_through_release text) refl (version_is (read_pattern text) r e)
  where
    closed : (x : (ℕ × List ℕ) × List ℕ) → parse_through_release text ≡ Ok x → starts_with_star x.1 ≡ false → (p : Read (Record × List ℕ)) → parse_parts x.0.0 x.0.1 x.1 ≡ p → without_star (p >>= parse_end text) ≡ Ok (r, false) → Whole text r
    closed x o s (Err g) p e = cc e
    closed x o s (Ok z) p e = elim (cases_Bool (length (past is_ascii_whitespace z.1) == 0)) [
      | inl h ↦
          let on = rw h at e in
          let same : z.0 ≡ r = ap (λ (p : Record × Bool). p.0) (sure (z.0, false) (r, false) on) in
          record { x = x; rest = z.1; stopped = record { opened = o; star = s; parts = p ∙ (λ i. Ok (same i, z.1)) }; blanks = blank_end z.1 h }
      | inr h ↦ let none = rw h at e in cc none
    ]

    by : (o : Read ((ℕ × List ℕ) × List ℕ)) → parse_through_release text ≡ o → pattern_from text o ≡ Ok (r, false) → Whole text r
    by (Err g) o e = cc e
    by (Ok x) o e = elim (cases_Bool (starts_with_star x.1)) [
      | inl h ↦ elim (cases_Bool (length (drop 2 x.1) == 0)) [
        | inl g ↦ let none = rw (h, g) at e in let no = ap (λ (p : Record × Bool). p.1) (sure _ _ none) in cc no
        | inr g ↦ let none = rw (h, g) at e in cc none
      ]
      | inr h ↦ let on = rw h at e in closed x o h (parse_parts x.0.0 x.0.1 x.1) refl on
    ]

-- ---- the longest front

not_later : (a : List ℕ) → IsLater a a → ⊥
not_later a h = let long = ap length h.2 ∙ length-append h.0 a in omega (arith, long, h.1)

past_end : (p : ℕ → Bool) (prefix back : List ℕ) → list_all p prefix ≡ true → IsEnd back (past p (prefix ++ back))
past_end p [] back h = (lead p back, split p back)
past_end p (x ∷ prefix) back h = subst (IsEnd back) (sym (past_one p x (prefix ++ back) (both_first (p x) (list_all p prefix) h))) (past_end p prefix back (both_second (p x) (list_all p prefix) h))

pub some_rest : (n : ℕ) → (n == 0) ≡ false → 0 < n
some_rest zero e = cc e
some_rest (suc n) e = omega arith

nothing_more : (a b : List ℕ) → b ≡ a ++ b → length a ≡ 0
nothing_more a b e = let long = ap length e ∙ length-append a b in omega (arith, long)

-- blanks at the end of a front, when the rest begins with none
blank_rest : (w rest : List ℕ) → past is_ascii_whitespace (w ++ rest) ≡ rest → AreBlanks w
blank_rest w rest e = elim (past_split is_ascii_whitespace w rest) [
  | inl h ↦
      let none : length (past is_ascii_whitespace w) ≡ 0 = nothing_more (past is_ascii_whitespace w) rest (sym e ∙ h.0) in
      blank_end w (rw none refl)
  | inr h ↦ absurd (not_later rest (subst (IsLater rest) e h))
]

-- what is left is at the end of the text
pub left : (text : List ℕ) (x : (ℕ × List ℕ) × List ℕ) (z : Record × List ℕ) → Stopped text x z → IsEnd text z.1
left text x z s = end_of text x.1 z.1 (opening_end text x s.opened) (parts_end x.0.0 x.0.1 x.1 z s.parts)

-- what is read of a front, where the reading stops in what follows or before
pub prefix_read : (prefix back : List ℕ) (x : (ℕ × List ℕ) × List ℕ) (z : Record × List ℕ) → Stopped (prefix ++ back) x z
    → ((u w : List ℕ) × (parse_through_release prefix ≡ Ok (x.0, u)) × (x.1 ≡ u ++ back) × (parse_parts x.0.0 x.0.1 u ≡ Ok (z.0, w)) × (z.1 ≡ w ++ back)) ⊎ IsLater back z.1
prefix_read prefix back x z s = elim (opening_split prefix back x s.opened) [
  | inl h ↦ elim (parts_split x.0.0 x.0.1 h.0 back z (ap (parse_parts x.0.0 x.0.1) (sym h.2) ∙ s.parts)) [
    | inl g ↦ inl (h.0, g.0, h.1, h.2, g.1, g.2)
    | inr g ↦ inr g
  ]
  | inr h ↦ inr (later_end back x.1 z.1 h (parts_end x.0.0 x.0.1 x.1 z s.parts))
]

-- a front that is read up to blanks is derived
pub prefix_derived : (prefix w u : List ℕ) (x : (ℕ × List ℕ) × List ℕ) (r : Record) → parse_through_release prefix ≡ Ok (x.0, u) → parse_parts x.0.0 x.0.1 u ≡ Ok (r, w) → AreBlanks w
    → (h : Derives prefix r) × (h.w2 ≡ w)
unfolding derived
prefix_derived prefix w u x r o p blanks = (derived prefix w x.0.0 x.0.1 u r (opening_takes prefix (x.0, u) o) (parts_take x.0.0 x.0.1 u (r, w) p) blanks, refl)

prefix_means : (prefix : List ℕ) (x : (ℕ × List ℕ) × List ℕ) (z : Record × List ℕ) → Stopped (prefix ++ past is_ascii_whitespace z.1) x z → Derives prefix z.0
prefix_means prefix x z s = elim (prefix_read prefix (past is_ascii_whitespace z.1) x z s) [
  | inl h ↦ let d = prefix_derived prefix h.1 h.0 x z.0 h.2 h.4 (blank_rest h.1 (past is_ascii_whitespace z.1) (ap (past is_ascii_whitespace) (sym h.5))) in d.0
  | inr h ↦ absurd (not_later (past is_ascii_whitespace z.1) (later_end (past is_ascii_whitespace z.1) z.1 (past is_ascii_whitespace z.1) h (lead is_ascii_whitespace z.1, split is_ascii_whitespace z.1)))
]

second : (x y : (ℕ × List ℕ) × List ℕ) → (let r : Read ((ℕ × List ℕ) × List ℕ) = Ok x in r) ≡ Ok y → x ≡ y
second x y e = inside x y e

-- what is left of a text is at the end of what follows a front that is derived
derived_end : (other after : List ℕ) (q : Record) (x : (ℕ × List ℕ) × List ℕ) (z : Record × List ℕ) → Derives other q → Stopped (other ++ after) x z → IsEnd after (past is_ascii_whitespace z.1)
derived_end other after q x z d s =
    let o = whole other q (only other q d) in
    elim (prefix_read other after x z s) [
      | inl h ↦
          let same : o.x ≡ (x.0, h.0) = inside o.x (x.0, h.0) (sym o.stopped.opened ∙ h.2) in
          let read : parse_parts x.0.0 x.0.1 h.0 ≡ Ok (q, o.rest) = subst (λ (y : (ℕ × List ℕ) × List ℕ). parse_parts y.0.0 y.0.1 y.1 ≡ Ok (q, o.rest)) same o.stopped.parts in
          let rest : h.1 ≡ o.rest = ap (λ (p : Record × List ℕ). p.1) (inside (z.0, h.1) (q, o.rest) (sym h.4 ∙ read)) in
          subst (λ l. IsEnd after (past is_ascii_whitespace l)) (sym h.5) (past_end is_ascii_whitespace h.1 after (subst AreBlanks (sym rest) o.blanks))
      | inr h ↦ end_of after z.1 (past is_ascii_whitespace z.1) (h.0, h.2) (lead is_ascii_whitespace z.1, split is_ascii_whitespace z.1)
    ]

pub longest : (text : List ℕ) (x : (ℕ × List ℕ) × List ℕ) (z : Record × List ℕ) → Stopped text x z
    → let rest : List ℕ = past is_ascii_whitespace z.1 in IsLongest text (take (length text - length rest) text) rest
longest text x z s =
    let rest : List ℕ = past is_ascii_whitespace z.1 in
    let decomposition : IsEnd text rest = end_of text z.1 rest (left text x z s) (lead is_ascii_whitespace z.1, split is_ascii_whitespace z.1) in
    let long = ap length decomposition.1 ∙ length-append decomposition.0 rest in
    let at : length text - length rest ≡ length decomposition.0 = omega (arith, long) in
    let prefix : take (length text - length rest) text ≡ decomposition.0 = (λ i. take (at i) (decomposition.1 i)) ∙ take-append_seam decomposition.0 rest in
    record {
      decomposition = decomposition.1 ∙ ap (λ l. l ++ rest) (sym prefix);
      means = z.0;
      derived = subst (λ l. Derives l z.0) (sym prefix) (prefix_means decomposition.0 x z (subst (λ l. Stopped l x z) decomposition.1 s));
      longest = λ other after q e d.
          let l1 = end_long after rest (derived_end other after q x z d (subst (λ l. Stopped l x z) e s)) in
          let l2 = ap length e ∙ length-append other after in
          let l3 = ap length prefix in
          omega (arith, l1, l2, l3, long);
    }

-- ---- a text that is derived with no local part has no `+`

lacks_cons : (b : ℕ) (t : List ℕ) → (b == 43) ≡ false → Lacks t → Lacks (b ∷ t)
lacks_cons b t e h = rw e h

lacks_append : (a b : List ℕ) → Lacks a → Lacks b → Lacks (a ++ b)
lacks_append [] b h g = g
lacks_append (x ∷ a) b h g = elim (cases_Bool (x == 43)) [
  | inl e ↦ let none = rw e at h in cc none
  | inr e ↦ lacks_cons x (a ++ b) e (lacks_append a b (let on = rw e at h in on) g)
]

lacks_of : (p : ℕ → Bool) → ((b : ℕ) → p b ≡ true → (b == 43) ≡ false) → (t : List ℕ) → list_all p t ≡ true → Lacks t
lacks_of p not [] h = refl
lacks_of p not (b ∷ t) h = lacks_cons b t (not b (both_first (p b) _ h)) (lacks_of p not t (both_second (p b) _ h))

digit_not_plus : (b : ℕ) → is_ascii_digit b ≡ true → (b == 43) ≡ false
digit_not_plus b h = grind (arith, nat_tests)

separator_not_plus : (b : ℕ) → is_separator b ≡ true → (b == 43) ≡ false
separator_not_plus b h = grind (arith, nat_tests)

letter_not_plus : (b c : ℕ) → to_ascii_lowercase b ≡ c → (nat_le 97 c && nat_le c 122) ≡ true → (b == 43) ≡ false
letter_not_plus b c e l = grind (arith, nat_tests)

lacks_number : (t : List ℕ) (n : ℕ) → IsNumber t n → Lacks t
lacks_number t n h = lacks_of is_ascii_digit digit_not_plus t h.1

lacks_v : (v : List ℕ) → IsLeadingV v → Lacks v
lacks_v v (inl e) = rw e refl
lacks_v v (inr (inl e)) = rw e refl
lacks_v v (inr (inr e)) = rw e refl

lacks_epoch : (t : List ℕ) (n : ℕ) → IsEpoch t n → Lacks t
lacks_epoch t n (inl h) = rw h.0 refl
lacks_epoch t n (inr h) = subst Lacks (sym h.2) (lacks_append h.0 (33 ∷ []) (lacks_number h.0 n h.1) refl)

lacks_release : (t : List ℕ) (ns : List ℕ) → IsRelease t ns → Lacks t
lacks_release t [] h = absurd h
lacks_release t (n ∷ []) h = lacks_number t n h
lacks_release t (n ∷ m ∷ rest) h = subst Lacks (sym h.4) (lacks_append h.0 (46 ∷ h.1) (lacks_number h.0 n h.2) (lacks_release h.1 (m ∷ rest) h.3))

lacks_separator : (t : List ℕ) → IsSeparator t → Lacks t
lacks_separator t (inl e) = rw e refl
lacks_separator t (inr h) = subst Lacks (sym h.2) (lacks_cons h.0 [] (separator_not_plus h.0 h.1) refl)

lacks_count : (t : List ℕ) (n : ℕ) → IsCount t n → Lacks t
lacks_count t n (inl h) = rw h.0 refl
lacks_count t n (inr h) = lacks_number t n h

lacks_word : (w u : List ℕ) → map to_ascii_lowercase w ≡ u → all_letters u ≡ true → Lacks w
lacks_word [] u e l = refl
lacks_word (b ∷ w) [] e l = cc e
lacks_word (b ∷ w) (c ∷ u) e l =
    let one : to_ascii_lowercase b ≡ c = ap (λ t. get_or t 0 0) e in
    lacks_cons b w (letter_not_plus b c one (both_first (nat_le 97 c && nat_le c 122) _ l)) (lacks_word w u (ap (drop 1) e) (both_second (nat_le 97 c && nat_le c 122) _ l))

lacks_spelling : {A : Type 0} (table : Spellings A) (w : List ℕ) (a : A) → AllLetters table → IsSpelling table w a → Lacks w
lacks_spelling [] w a l h = elim h [ ]
lacks_spelling (s ∷ more) w a l (inl h) = lacks_word w s.0 h.0 l.0
lacks_spelling (s ∷ more) w a l (inr h) = lacks_spelling more w a l.1 h

lacks_spelled : {A : Type 0} (table : Spellings A) (part after : List ℕ) (a : A) (n : ℕ) → AllLetters table → IsSpelled table part after a n → Lacks part
lacks_spelled table part after a n l h = subst Lacks (sym h.decomposition) (lacks_append h.before _ (lacks_separator h.before h.first) (lacks_append h.word _ (lacks_spelling table h.word a l h.spelling)
    (lacks_append h.between h.digits (lacks_separator h.between h.second) (lacks_count h.digits n h.count))))

lacks_pre : (part after : List ℕ) (x : Option Prerelease) → IsPre part after x → Lacks part
lacks_pre part after None h = rw h refl
lacks_pre part after (Some x) h = lacks_spelled _ part after x.kind x.number letters_of_pre h

lacks_post : (part after : List ℕ) (x : Option ℕ) → IsPost part after x → Lacks part
lacks_post part after None h = rw h refl
lacks_post part after (Some n) (inl h) = subst Lacks (sym h.2) (lacks_number h.0 n h.1)
lacks_post part after (Some n) (inr h) = lacks_spelled _ part after tt n letters_of_post h

lacks_dev : (part after : List ℕ) (x : Option ℕ) → IsDev part after x → Lacks part
lacks_dev part after None h = rw h refl
lacks_dev part after (Some n) h = lacks_spelled _ part after tt n letters_of_dev h

no_local : (l : List ℕ) (ss : List LocalSegmentValue) → IsLocal l ss → length ss ≡ 0 → l ≡ []
no_local l [] h e = h
no_local l (s ∷ ss) h e = absurd (omega (arith, e))

pub lacks_derived : (t : List ℕ) (r : Record) → Derives t r → length r.local ≡ 0 → Lacks t
lacks_derived t r h e = subst Lacks (sym h.decomposition)
    (lacks_append h.w1 _ (lacks_of is_ascii_whitespace blank_not_plus h.w1 h.blanks) (lacks_append h.v _ (lacks_v h.v h.letter) (lacks_append h.e _ (lacks_epoch h.e r.epoch h.epoch)
    (lacks_append h.n _ (lacks_release h.n r.release h.release) (lacks_append h.p _ (lacks_pre h.p _ r.pre h.pre) (lacks_append h.q _ (lacks_post h.q _ r.post h.post)
    (lacks_append h.d _ (lacks_dev h.d _ r.dev h.dev) (lacks_append h.l h.w2 (subst Lacks (sym (no_local h.l r.local h.local e)) refl) (lacks_of is_ascii_whitespace blank_not_plus h.w2 h.end)))))))))

pub lacks_prefix : (a b : List ℕ) → Lacks (a ++ b) → Lacks a
lacks_prefix [] b h = refl
lacks_prefix (x ∷ a) b h = elim (cases_Bool (x == 43)) [
  | inl e ↦ let none = rw e at h in cc none
  | inr e ↦ lacks_cons x a e (lacks_prefix a b (let on = rw e at h in on))
]
