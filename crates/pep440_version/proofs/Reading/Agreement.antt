-- What is read of a text is what the text means, and what it means is read.
use Rattle.std.proofs.Common.{◌≡◌, ◌<◌, ◌==◌, ℕ, Bool, true, false, List, [], ◌∷◌, ◌++◌, refl, sym, ap, ◌∙◌, arith, drop, length, inl, inr, Ok, Err, Result, subst, eqb-true}
use Rattle.std.proofs.lemmas.List.{append_assoc, append-nil, length-append, nil_from_length}
use Rattle.std.specs.Char.{is_ascii_digit, is_ascii_whitespace}
use Rattle.pep440_version.specs.Grammar.{IsNumber, IsRelease, IsEpoch, IsLeadingV, IsPre, IsPost, IsDev, IsLocal, AreBlanks, Derives, starts}
use Rattle.pep440_version.specs.Patterns.{DerivesStar, DerivesPattern}
use Rattle.pep440_version.specs.Reading.{EndsWith, Read, lead, past, starts_with_number, skip_v, parse_number, has_next_number, parse_release}
use Rattle.pep440_version.specs.Record.{Record, epoch_and_release}
use Rattle.pep440_version.specs.Rejections.{PatternRejection, OfVersion, WildcardNotTrailing}
use Rattle.pep440_version.specs.Whole.{parse_release_after_epoch, parse_epoch_and_release, parse_through_release, parse_parts, parse_end, parse_after_release, starts_with_star, without_star, pattern_from, read_pattern, version_of, read_version}
use Rattle.pep440_version.proofs.Reading.Prefixes.{both_first, both_second, past-run, lead-all}
use Rattle.pep440_version.proofs.Reading.ReadIsDerived.{bind_ok, chosen, inside, split, number_takes, release_takes, drop_one, v_takes, blank_end, number_first, number_again, release_first, release_again, blanks_stop, v_again, v_not_blank}
use Rattle.pep440_version.proofs.Reading.Endings.{some_numbers}
use Rattle.pep440_version.proofs.Reading.AfterRelease.{follows_local, follows_dev, follows_post, follows_pre}
use Rattle.pep440_version.proofs.Reading.PartsAgree.{Parts, from_parts, parts_take, parts_again}

after_takes : (epoch : ℕ) (t : List ℕ) (x : (ℕ × List ℕ) × List ℕ) → starts is_ascii_digit t ≡ true → parse_release_after_epoch epoch t ≡ Ok x
    → (n : List ℕ) × IsRelease n x.0.1 × (epoch ≡ x.0.0) × (t ≡ n ++ x.1)
after_takes epoch t x s e =
    let read = bind_ok (parse_release (length t) t) _ x e in
    let takes = release_takes (length t) t read.0 s (omega arith) read.1 in
    let same = inside _ _ read.2 in
    let first : epoch ≡ x.0.0 = ap (λ (p : (ℕ × List ℕ) × List ℕ). p.0.0) same in
    let numbers : read.0.0 ≡ x.0.1 = ap (λ (p : (ℕ × List ℕ) × List ℕ). p.0.1) same in
    let rest : read.0.1 ≡ x.1 = ap (λ (p : (ℕ × List ℕ) × List ℕ). p.1) same in
    (takes.0, subst (IsRelease takes.0) numbers takes.1, first, takes.2 ∙ ap (λ r. takes.0 ++ r) rest)

pub prefix_takes : (t : List ℕ) (x : (ℕ × List ℕ) × List ℕ) → parse_epoch_and_release t ≡ Ok x → (e n : List ℕ) × IsEpoch e x.0.0 × IsRelease n x.0.1 × (t ≡ e ++ (n ++ x.1))
unfolding parse_epoch_and_release
prefix_takes t x e = elim (chosen (starts_with_number t) _ _ _ e) [
  | inl h ↦
      let n = bind_ok (parse_number t) _ x h.1 in
      let prefix = number_takes t n.0 h.0 n.1 in
      elim (chosen (starts (λ b. b == 33) n.0.1) _ _ _ n.2) [
        | inl g ↦ elim (chosen (starts_with_number (drop 1 n.0.1)) _ _ _ g.1) [
          | inl d ↦
              let a = after_takes n.0.0 (drop 1 n.0.1) x d.0 d.1 in (
                prefix.0 ++ (33 ∷ []),
                a.0,
                inr (prefix.0, subst (IsNumber prefix.0) a.2 prefix.1, refl),
                a.1,
                prefix.2 ∙ ap (λ l. prefix.0 ++ l) (drop_one 33 n.0.1 g.0 ∙ ap (λ l. 33 ∷ l) a.3) ∙ sym (append_assoc prefix.0 (33 ∷ []) (a.0 ++ x.1)),
              )
          | inr d ↦ cc d.1
        ]
        | inr g ↦ let a = after_takes 0 t x h.0 g.1 in ([], a.0, inl (refl, sym a.2), a.1, a.3)
      ]
  | inr h ↦ cc h.1
]

-- blanks, the letter v, epoch and release, as they are read
pub record Opened (text rest : List ℕ) (epoch : ℕ) (release : List ℕ) : Type 0 where
  pub w1 : List ℕ
  pub v : List ℕ
  pub e : List ℕ
  pub n : List ℕ
  pub decomposition : text ≡ w1 ++ (v ++ (e ++ (n ++ rest)))
  pub blanks : AreBlanks w1
  pub letter : IsLeadingV v
  pub is_epoch : IsEpoch e epoch
  pub is_release : IsRelease n release

pub opening_takes : (text : List ℕ) (x : (ℕ × List ℕ) × List ℕ) → parse_through_release text ≡ Ok x → Opened text x.1 x.0.0 x.0.1
opening_takes text x e =
    let letter = v_takes (past is_ascii_whitespace text) in
    let f = prefix_takes (skip_v (past is_ascii_whitespace text)) x e in
    record {
      w1 = lead is_ascii_whitespace text;
      v = letter.0;
      e = f.0;
      n = f.1;
      decomposition = split is_ascii_whitespace text ∙ ap (λ t. lead is_ascii_whitespace text ++ t) (letter.2 ∙ ap (λ t. letter.0 ++ t) f.4);
      blanks = lead-all is_ascii_whitespace text;
      letter = letter.1;
      is_epoch = f.2;
      is_release = f.3;
    }

pub end_takes : (text : List ℕ) (x : Record × List ℕ) (r : Record) → parse_end text x ≡ Ok r → (x.0 ≡ r) × AreBlanks x.1
end_takes text x r e = elim (chosen (length (past is_ascii_whitespace x.1) == 0) _ _ _ e) [ inl h ↦ (inside _ _ h.1, blank_end x.1 h.0) | inr h ↦ cc h.1 ]

unfoldable pub derived : (text after : List ℕ) (epoch : ℕ) (release rest : List ℕ) (r : Record) → Opened text rest epoch release → Parts rest after epoch release r → AreBlanks after → Derives text r
derived text after epoch release rest r o p blanks =
    let is_epoch : epoch ≡ r.epoch = ap (λ (q : Record). q.epoch) (sym p.is) in
    let is_release : release ≡ r.release = ap (λ (q : Record). q.release) (sym p.is) in
    record {
      w1 = o.w1;
      v = o.v;
      e = o.e;
      n = o.n;
      p = p.p;
      q = p.q;
      d = p.d;
      l = p.l;
      w2 = after;
      decomposition = o.decomposition ∙ ap (λ t. o.w1 ++ (o.v ++ (o.e ++ (o.n ++ t)))) p.decomposition;
      blanks = o.blanks;
      letter = o.letter;
      epoch = subst (IsEpoch o.e) is_epoch o.is_epoch;
      release = subst (IsRelease o.n) is_release o.is_release;
      pre = p.pre;
      post = p.post;
      dev = p.dev;
      local = p.local;
      end = blanks;
      no_min = ap (λ (q : Record). q.min) p.is;
      no_max = ap (λ (q : Record). q.max) p.is;
    }

closing_takes : (text : List ℕ) (x : (ℕ × List ℕ) × List ℕ) (r : Record) → parse_through_release text ≡ Ok x → parse_after_release text x ≡ Ok r → Derives text r
closing_takes text x r o e =
    let parts = bind_ok (parse_parts x.0.0 x.0.1 x.1) (parse_end text) r e in
    let last = end_takes text parts.0 r parts.2 in
    subst (Derives text) last.0 (derived text parts.0.1 x.0.0 x.0.1 x.1 parts.0.0 (opening_takes text x o) (parts_take x.0.0 x.0.1 x.1 parts.0 parts.1) last.1)

pub sure : (x y : Record × Bool) → (let z : Result (Record × Bool) PatternRejection = Ok x in z) ≡ Ok y → x ≡ y
sure x y e = ap (λ (z : Result (Record × Bool) PatternRejection). elim z as (λ _. Record × Bool) [ Ok u ↦ u | Err f ↦ x ]) e

pub without_star_is : (read : Read Record) (r : Record) (star : Bool) → without_star read ≡ Ok (r, star) → (read ≡ Ok r) × (false ≡ star)
without_star_is (Ok q) r star e = let same = sure _ _ e in (ap (λ (p : Record × Bool). (let y : Read Record = Ok p.0 in y)) same, ap (λ (p : Record × Bool). p.1) same)
without_star_is (Err f) r star e = cc e

pub drop_two : (t : List ℕ) → starts_with_star t ≡ true → t ≡ 46 ∷ 42 ∷ drop 2 t
drop_two [] s = cc s
drop_two (a ∷ []) s = let none = both_second (a == 46) false s in cc none
drop_two (a ∷ b ∷ t) s = λ i. eqb-true a 46 (both_first (a == 46) (b == 42) s) i ∷ eqb-true b 42 (both_second (a == 46) (b == 42) s) i ∷ t

-- what is opened is derived, with nothing after the release
unfoldable opened_alone : (text rest : List ℕ) (epoch : ℕ) (release : List ℕ) → (f : Opened text rest epoch release) → Derives (f.w1 ++ (f.v ++ (f.e ++ f.n))) (epoch_and_release epoch release)
opened_alone text rest epoch release f = record {
  w1 = f.w1;
  v = f.v;
  e = f.e;
  n = f.n;
  p = [];
  q = [];
  d = [];
  l = [];
  w2 = [];
  decomposition = ap (λ t. f.w1 ++ (f.v ++ (f.e ++ t))) (sym (append-nil f.n));
  blanks = f.blanks;
  letter = f.letter;
  epoch = f.is_epoch;
  release = f.is_release;
  pre = refl;
  post = refl;
  dev = refl;
  local = refl;
  end = refl;
  no_min = refl;
  no_max = refl;
}

four : (a b c d s : List ℕ) → a ++ (b ++ (c ++ (d ++ s))) ≡ (a ++ (b ++ (c ++ d))) ++ s
four a b c d s = sym (simp append_assoc)

star_takes : (text : List ℕ) (x : (ℕ × List ℕ) × List ℕ) → parse_through_release text ≡ Ok x → starts_with_star x.1 ≡ true → (length (drop 2 x.1) == 0) ≡ true → DerivesStar text (epoch_and_release x.0.0 x.0.1)
unfolding opened_alone
star_takes text x o s last =
    let f = opening_takes text x o in
    let end : x.1 ≡ 46 ∷ 42 ∷ [] = drop_two x.1 s ∙ ap (λ t. 46 ∷ 42 ∷ t) (nil_from_length (drop 2 x.1) (eqb-true _ _ last)) in (
      f.w1 ++ (f.v ++ (f.e ++ f.n)),
      opened_alone text x.1 x.0.0 x.0.1 f,
      f.decomposition ∙ ap (λ t. f.w1 ++ (f.v ++ (f.e ++ (f.n ++ t)))) end ∙ four f.w1 f.v f.e f.n (46 ∷ 42 ∷ []),
      refl,
      refl,
    )

pub found_pattern : (text : List ℕ) (r : Record) (star : Bool) → read_pattern text ≡ Ok (r, star) → DerivesPattern text r star
found_pattern text r star e = by (parse_through_release text) refl e
  where
    by : (o : Read ((ℕ × List ℕ) × List ℕ)) → parse_through_release text ≡ o → pattern_from text o ≡ Ok (r, star) → DerivesPattern text r star
    by (Err f) o e = cc e
    by (Ok x) o e = elim (chosen (starts_with_star x.1) _ _ _ e) [
      | inl h ↦ elim (chosen (length (drop 2 x.1) == 0) _ _ _ h.1) [
        | inl g ↦ let same = sure _ _ g.1 in subst (λ (p : Record × Bool). DerivesPattern text p.0 p.1) same (star_takes text x o h.0 g.0)
        | inr g ↦ cc g.1
      ]
      | inr h ↦ let s = without_star_is (parse_after_release text x) r star h.1 in subst (DerivesPattern text r) s.1 (closing_takes text x r o s.0)
    ]

pub version_is : (p : Result (Record × Bool) PatternRejection) (r : Record) → version_of p ≡ Ok r → p ≡ Ok (r, false)
version_is (Ok (q, true)) r e = cc e
version_is (Ok (q, false)) r e = ap (λ (x : Record). (let y : Result (Record × Bool) PatternRejection = Ok (x, false) in y)) (inside _ _ e)
version_is (Err (OfVersion f)) r e = cc e
version_is (Err WildcardNotTrailing) r e = cc e

-- what is read is derived
pub found : (text : List ℕ) (r : Record) → read_version text ≡ Ok r → Derives text r
found text r e = found_pattern text r false (version_is (read_pattern text) r e)

-- ---- what is derived is read

-- the first number of a release, and what follows it
release_prefix : (n w ns : List ℕ) → IsRelease n ns → starts is_ascii_digit w ≡ false → starts (λ b. b == 33) w ≡ false
    → (ds rest : List ℕ) × (x : ℕ) × IsNumber ds x × (n ++ w ≡ ds ++ rest) × (starts is_ascii_digit rest ≡ false) × (starts (λ b. b == 33) rest ≡ false)
release_prefix n w [] h digit bang = absurd h
release_prefix n w (x ∷ []) h digit bang = (n, w, x, h, refl, digit, bang)
release_prefix n w (x ∷ m ∷ more) h digit bang = (h.0, 46 ∷ h.1 ++ w, x, h.2, ap (λ t. t ++ w) h.4 ∙ append_assoc h.0 (46 ∷ h.1) w, refl, refl)

after_again : (epoch : ℕ) (n w ns : List ℕ) → IsRelease n ns → starts is_ascii_digit w ≡ false → has_next_number w ≡ false → parse_release_after_epoch epoch (n ++ w) ≡ Ok ((epoch, ns), w)
after_again epoch n w ns h digit goes = let long = length-append n w in rw (release_again (length (n ++ w)) n w ns h (omega (arith, long)) digit goes) refl

pub prefix_again : (e n w : List ℕ) (epoch : ℕ) (ns : List ℕ) → IsEpoch e epoch → IsRelease n ns → starts is_ascii_digit w ≡ false → has_next_number w ≡ false → starts (λ b. b == 33) w ≡ false
    → (starts is_ascii_digit (e ++ (n ++ w)) ≡ true) × (parse_epoch_and_release (e ++ (n ++ w)) ≡ Ok ((epoch, ns), w))
unfolding parse_epoch_and_release
prefix_again e n w epoch ns (inl h) hn digit goes bang =
    let f = release_prefix n w ns hn digit bang in
    let first : starts is_ascii_digit (n ++ w) ≡ true = release_first n w ns hn in
    let number : parse_number (n ++ w) ≡ Ok (f.2, f.1) = ap parse_number f.4 ∙ number_again f.0 f.1 f.2 f.3 f.5 in
    (rw h.0 first, rw (h.0, h.1, first, number, f.6) (after_again 0 n w ns hn digit goes))
prefix_again e n w epoch ns (inr h) hn digit goes bang =
    let prefix : e ++ (n ++ w) ≡ h.0 ++ (33 ∷ (n ++ w)) = ap (λ t. t ++ (n ++ w)) h.2 ∙ append_assoc h.0 (33 ∷ []) (n ++ w) in
    let first = number_first h.0 (33 ∷ (n ++ w)) epoch h.1 in
    (rw prefix first, rw (prefix, first, number_again h.0 (33 ∷ (n ++ w)) epoch h.1 refl, release_first n w ns hn) (after_again epoch n w ns hn digit goes))

pub opening_again : (text w1 v t : List ℕ) → text ≡ w1 ++ (v ++ t) → AreBlanks w1 → IsLeadingV v → starts is_ascii_digit t ≡ true → parse_through_release text ≡ parse_epoch_and_release t
opening_again text w1 v t decomposition blanks letter first =
    let rest : past is_ascii_whitespace text ≡ v ++ t = ap (past is_ascii_whitespace) decomposition ∙ past-run is_ascii_whitespace w1 (v ++ t) blanks (v_not_blank v t letter first) in
    ap (λ x. parse_epoch_and_release (skip_v x)) rest ∙ ap parse_epoch_and_release (v_again v t letter first)

end_again : (text : List ℕ) (r : Record) (w : List ℕ) → AreBlanks w → parse_end text (r, w) ≡ Ok r
end_again text r w blanks = rw (blanks_stop w blanks).3 refl

derives_again : (text : List ℕ) (r : Record) → Derives text r → read_pattern text ≡ Ok (r, false)
derives_again text r h =
    let tail : List ℕ = h.p ++ (h.q ++ (h.d ++ (h.l ++ h.w2))) in
    let follows = follows_pre h.p _ r.pre h.pre (follows_post h.q _ r.post h.post (follows_dev h.d _ r.dev h.dev (follows_local h.l h.w2 r.local h.local h.end))) in
    let f = prefix_again h.e h.n tail r.epoch r.release h.epoch h.release follows.digit follows.goes follows.bang in
    let o : parse_through_release text ≡ Ok ((r.epoch, r.release), tail) = opening_again text h.w1 h.v (h.e ++ (h.n ++ tail)) h.decomposition h.blanks h.letter f.0 ∙ f.1 in
    let parts = parts_again r.epoch r.release h.p h.q h.d h.l h.w2 r.pre r.post r.dev r.local h.pre h.post h.dev h.local h.end in
    let is : from_parts r.epoch r.release r.pre r.post r.dev r.local ≡ r = λ i. record r { min = sym h.no_min i; max = sym h.no_max i } in
    let closed : parse_after_release text ((r.epoch, r.release), tail) ≡ Ok r = rw parts (end_again text (from_parts r.epoch r.release r.pre r.post r.dev r.local) h.w2 h.end ∙ ap Ok is) in
    ap (pattern_from text) o ∙ rw (follows.star, closed) refl

-- a front that means epoch and release alone, and ends without blanks, ends with the release
ends_at_release : (prefix : List ℕ) (r : Record) → (h : Derives prefix r) → h.w2 ≡ [] → r ≡ epoch_and_release r.epoch r.release → prefix ≡ h.w1 ++ (h.v ++ (h.e ++ h.n))
ends_at_release prefix r h none plain =
    let p : h.p ≡ [] = subst (λ o. IsPre h.p (h.q ++ (h.d ++ (h.l ++ h.w2))) o) (ap (λ (x : Record). x.pre) plain) h.pre in
    let q : h.q ≡ [] = subst (λ o. IsPost h.q (h.d ++ (h.l ++ h.w2)) o) (ap (λ (x : Record). x.post) plain) h.post in
    let d : h.d ≡ [] = subst (λ o. IsDev h.d (h.l ++ h.w2) o) (ap (λ (x : Record). x.dev) plain) h.dev in
    let l : h.l ≡ [] = subst (λ o. IsLocal h.l o) (ap (λ (x : Record). x.local) plain) h.local in
    h.decomposition ∙ (λ i. h.w1 ++ (h.v ++ (h.e ++ (h.n ++ (p i ++ (q i ++ (d i ++ (l i ++ none i)))))))) ∙ ap (λ t. h.w1 ++ (h.v ++ (h.e ++ t))) (append-nil h.n)

star_again : (text : List ℕ) (r : Record) → DerivesStar text r → read_pattern text ≡ Ok (r, true)
star_again text r (prefix, h, decomposition, none, plain) =
    let f = prefix_again h.e h.n (46 ∷ 42 ∷ []) r.epoch r.release h.epoch h.release refl refl refl in
    let whole : text ≡ h.w1 ++ (h.v ++ (h.e ++ (h.n ++ (46 ∷ 42 ∷ [])))) = decomposition ∙ ap (λ t. t ++ (46 ∷ 42 ∷ [])) (ends_at_release prefix r h none plain) ∙ sym (four h.w1 h.v h.e h.n (46 ∷ 42 ∷ [])) in
    let o : parse_through_release text ≡ Ok ((r.epoch, r.release), 46 ∷ 42 ∷ []) = opening_again text h.w1 h.v (h.e ++ (h.n ++ (46 ∷ 42 ∷ []))) whole h.blanks h.letter f.0 ∙ f.1 in
    ap (pattern_from text) o ∙ ap (λ (x : Record). (let y : Result (Record × Bool) PatternRejection = Ok (x, true) in y)) (sym plain)

pub only_pattern : (text : List ℕ) (r : Record) (star : Bool) → DerivesPattern text r star → read_pattern text ≡ Ok (r, star)
only_pattern text r true h = star_again text r h
only_pattern text r false h = derives_again text r h

-- what is derived is read
pub only : (text : List ℕ) (r : Record) → Derives text r → read_version text ≡ Ok r
only text r h = ap version_of (derives_again text r h)

-- a text means at most one record
pub one_record : (text : List ℕ) (r q : Record) → Derives text r → Derives text q → r ≡ q
one_record text r q h g = inside r q (sym (only text r h) ∙ only text q g)

-- a pattern text means at most one record, with a star or without
pub one_pattern : (text : List ℕ) (r q : Record) (s t : Bool) → DerivesPattern text r s → DerivesPattern text q t → (r ≡ q) × (s ≡ t)
one_pattern text r q s t h g =
    let same = sure (r, s) (q, t) (sym (only_pattern text r s h) ∙ only_pattern text q t g) in
    (ap (λ (p : Record × Bool). p.0) same, ap (λ (p : Record × Bool). p.1) same)

-- ---- what is left of a text stands at its end

pub opening_ends : (text : List ℕ) (x : (ℕ × List ℕ) × List ℕ) → parse_through_release text ≡ Ok x → EndsWith text x.1
opening_ends text x o =
    let f = opening_takes text x o in (
      f.w1 ++ (f.v ++ (f.e ++ f.n)),
      f.decomposition ∙ rw (append_assoc f.w1 (f.v ++ (f.e ++ f.n)) x.1, append_assoc f.v (f.e ++ f.n) x.1, append_assoc f.e f.n x.1) refl,
    )

pub opening_some : (text : List ℕ) (x : (ℕ × List ℕ) × List ℕ) → parse_through_release text ≡ Ok x → 0 < length x.0.1
opening_some text x o = let f = opening_takes text x o in some_numbers f.n x.0.1 f.is_release

pub parts_end : (epoch : ℕ) (release t : List ℕ) (x : Record × List ℕ) → parse_parts epoch release t ≡ Ok x → EndsWith t x.1
parts_end epoch release t x e =
    let c = parts_take epoch release t x e in (
      c.p ++ (c.q ++ (c.d ++ c.l)),
      c.decomposition ∙ rw (append_assoc c.p (c.q ++ (c.d ++ c.l)) x.1, append_assoc c.q (c.d ++ c.l) x.1, append_assoc c.d c.l x.1) refl,
    )
