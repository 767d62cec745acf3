-- A text that a line of the refusals tells is refused so.
use Rattle.std.proofs.Common.{◌≡◌, ◌≤◌, ◌<◌, ◌==◌, ◌⊎◌, ℕ, suc, zero, Bool, true, false, List, [], ◌∷◌, ◌++◌, refl, sym, ap, ◌∙◌, arith, length, inl, inr, Ok, Err, Option, Some, None, codes, subst}
use Rattle.std.proofs.lemmas.Bool.{cases_Bool}
use Rattle.std.proofs.lemmas.List.{append_assoc, append-nil, length-append}
use Rattle.std.specs.Char.{is_ascii_digit, is_ascii_alphanumeric, is_ascii_whitespace}
use Rattle.pep440_version.specs.declared.prerelease.Prerelease.{Prerelease}
use Rattle.pep440_version.specs.Grammar.{AreBlanks, IsLeadingV, Spellings, IsSpelled, is_separator, IsPre, IsPost, IsDev, IsLocal, AreSegments, starts}
use Rattle.pep440_version.specs.Locals.{parse_segments, parse_local}
use Rattle.pep440_version.specs.Reading.{past, skip_v}
use Rattle.pep440_version.specs.Record.{Record, LocalSegmentValue}
use Rattle.pep440_version.specs.Rejections.{Rejection, Wildcard, NumberTooBig, NoLeadingNumber, NoLeadingReleaseNumber, LocalEmpty, UnexpectedEnd, Opens, RejectsEarlier}
use Rattle.pep440_version.specs.Whole.{parse_through_release, parse_epoch_and_release, parse_parts, starts_with_star, pattern_from, version_of, read_version}
use Rattle.pep440_version.proofs.Reading.Prefixes.{past-run, lead-run}
use Rattle.pep440_version.proofs.Reading.ReadIsDerived.{inside, number_first, number_again}
use Rattle.pep440_version.proofs.Reading.AfterRelease.{IsQuiet, pre_again, post_again, dev_again, Follows, follows_pre, follows_post, follows_dev, plus_no_letter}
use Rattle.pep440_version.proofs.Reading.Agreement.{prefix_again, opening_again, only}
use Rattle.pep440_version.proofs.Rejections.LongestPrefix.{Whole, whole}
use Rattle.pep440_version.proofs.Rejections.ZeroForDigits.{IsRun, run_starts, Twin, Stays, Stops, Fails, ends_end, opening_twins, parts_twin, star_stays, lacks_end}
use Rattle.pep440_version.proofs.Reading.LocalAgrees.{segment_first, separator_no_alphanumeric}

pub opens_again : (text rest : List ℕ) → Opens text rest → parse_through_release text ≡ parse_epoch_and_release rest
opens_again text rest (w1, v, decomposition, blanks, letter, stop, first) =
    let past : past is_ascii_whitespace text ≡ v ++ rest = ap (past is_ascii_whitespace) decomposition ∙ past-run is_ascii_whitespace w1 (v ++ rest) blanks stop in
    ap (λ l. parse_epoch_and_release (skip_v l)) past ∙ ap parse_epoch_and_release (lettered letter)
  where
    lettered : IsLeadingV v → skip_v (v ++ rest) ≡ rest
    lettered (inl e) = ap (λ l. skip_v (l ++ rest)) e ∙ rw (first e) refl
    lettered (inr (inl e)) = rw e refl
    lettered (inr (inr e)) = rw e refl

opening_refused : (text : List ℕ) (f : Rejection) → parse_through_release text ≡ Err f → read_version text ≡ Err f
opening_refused text f o = ap (λ x. version_of (pattern_from text x)) o

pub no_leading : (text : List ℕ) → RejectsEarlier text NoLeadingNumber → read_version text ≡ Err NoLeadingNumber
unfolding parse_epoch_and_release
no_leading text (rest, o, none) = opening_refused text NoLeadingNumber (opens_again text rest o ∙ rw none refl)

pub no_leading_release : (text : List ℕ) → RejectsEarlier text NoLeadingReleaseNumber → read_version text ≡ Err NoLeadingReleaseNumber
unfolding parse_epoch_and_release
no_leading_release text (digits, rest, n, o, number, none) =
    opening_refused text NoLeadingReleaseNumber (opens_again text (digits ++ (33 ∷ rest)) o ∙ rw (number_first digits (33 ∷ rest) n number, number_again digits (33 ∷ rest) n number refl, none) refl)

pub wildcard : (text : List ℕ) → RejectsEarlier text Wildcard → read_version text ≡ Err Wildcard
wildcard text (rest, (e, n, release, epoch, o, he, hn)) =
    let f = prefix_again e n (46 ∷ 42 ∷ rest) epoch release he hn refl refl refl in
    ap (λ x. version_of (pattern_from text x)) (opens_again text (e ++ (n ++ (46 ∷ 42 ∷ rest))) o ∙ f.1) ∙ (elim (cases_Bool (length rest == 0)) [ inl h ↦ rw h refl | inr h ↦ rw h refl ])

-- ---- a number above the limit

no_blank_zero : (u : List ℕ) → AreBlanks (u ++ codes "0") → ⊥
no_blank_zero [] h = cc h
no_blank_zero (b ∷ u) h = no_blank_zero u (Rattle.pep440_version.proofs.Reading.Prefixes.both_second (is_ascii_whitespace b) _ h)

pub make_number_too_big : (text digits : List ℕ) → RejectsEarlier text (NumberTooBig digits) → read_version text ≡ Err (NumberTooBig digits)
make_number_too_big text d (prefix, rest, r, decomposition, big, lacks, derived) =
    let run : IsRun d rest = record { digits = big.0; big = big.1; stops = big.3 } in
    let w = whole (prefix ++ codes "0") r (only (prefix ++ codes "0") r derived) in
    ap read_version decomposition ∙ by run w (opening_twins prefix d rest run big.2)
  where
    parts : (run : IsRun d rest) (w : Whole (prefix ++ codes "0") r) (a : ℕ × List ℕ) (u : List ℕ) → w.x ≡ (a, u ++ codes "0") → parse_through_release (prefix ++ (d ++ rest)) ≡ Ok (a, u ++ (d ++ rest)) → Twin (parse_parts a.0 a.1) u d rest
        → read_version (prefix ++ (d ++ rest)) ≡ Err (NumberTooBig d)
    parts run w a u same o (Fails e k) = let read = subst (λ (x : (ℕ × List ℕ) × List ℕ). parse_parts x.0.0 x.0.1 x.1 ≡ Ok (r, w.rest)) same w.stopped.parts in let none = k (codes "0") refl in cc (read, none)
    parts run w a u same o (Stays b v h k) =
        let read = subst (λ (x : (ℕ × List ℕ) × List ℕ). parse_parts x.0.0 x.0.1 x.1 ≡ Ok (r, w.rest)) same w.stopped.parts in
        let left : w.rest ≡ v ++ codes "0" = ap (λ (p : Record × List ℕ). p.1) (inside _ _ (sym read ∙ k (codes "0") refl)) in
        absurd (no_blank_zero v (subst AreBlanks left w.blanks))
    parts run w a u same o (Stops b x y) =
        let star : starts_with_star (u ++ (d ++ rest)) ≡ false = star_stays u (d ++ rest) (run_starts d rest rest run) ∙ sym (star_stays u (codes "0") refl) ∙ ap (λ (x : (ℕ × List ℕ) × List ℕ). starts_with_star x.1) (sym same) ∙ w.stopped.star in
        ap (λ x. version_of (pattern_from (prefix ++ (d ++ rest)) x)) o ∙ rw (star, y) refl

    by : IsRun d rest → Whole (prefix ++ codes "0") r → Twin parse_through_release prefix d rest → read_version (prefix ++ (d ++ rest)) ≡ Err (NumberTooBig d)
    by run w (Fails e k) = let none = k (codes "0") refl in let read = w.stopped.opened in cc (read, none)
    by run w (Stops a x y) = opening_refused (prefix ++ (d ++ rest)) (NumberTooBig d) y
    by run w (Stays a u h k) =
        let same : w.x ≡ (a, u ++ codes "0") = inside _ _ (sym w.stopped.opened ∙ k (codes "0") refl) in
        parts run w a u same (k (d ++ rest) (run_starts d rest rest run)) (parts_twin a.0 a.1 u d rest run (ends_end is_ascii_digit prefix u h big.2) (lacks_end prefix u h lacks))

-- ---- a segment that is empty

nothing_there : (k c : ℕ) (t : List ℕ) → starts is_ascii_alphanumeric t ≡ false → parse_segments k c t ≡ Err (LocalEmpty c)
unfolding parse_segments
nothing_there zero c t s = refl
nothing_there (suc k) c t s = rw s refl

segments_refuse : (k c0 : ℕ) (t : List ℕ) (c : ℕ) (rest : List ℕ) (ss : List LocalSegmentValue) → AreSegments t ss → length t ≤ k → is_separator c ≡ true → starts is_ascii_alphanumeric rest ≡ false
    → parse_segments k c0 (t ++ (c ∷ rest)) ≡ Err (LocalEmpty c)
unfolding parse_segments
segments_refuse k c0 t c rest [] h room s a = absurd h
segments_refuse zero c0 t c rest (x ∷ []) h room s a = absurd (omega (arith, h.0, room))
segments_refuse (suc k) c0 t c rest (x ∷ []) h room s a =
    let stop = separator_no_alphanumeric c s in
    rw (segment_first t (c ∷ rest) x h, lead-run is_ascii_alphanumeric t (c ∷ rest) h.1 stop, past-run is_ascii_alphanumeric t (c ∷ rest) h.1 stop, s, nothing_there k c rest a) refl
segments_refuse zero c0 t c rest (x ∷ y ∷ more) h room s a =
    let long = ap length h.6 ∙ length-append h.0 (h.2 ∷ h.1) in
    absurd (omega (arith, long, room))
segments_refuse (suc k) c0 t c rest (x ∷ y ∷ more) h room s a =
    let long = ap length h.6 ∙ length-append h.0 (h.2 ∷ h.1) in
    let after : List ℕ = h.2 ∷ (h.1 ++ (c ∷ rest)) in
    let stop = separator_no_alphanumeric h.2 h.4 in
    let later = segments_refuse k h.2 h.1 c rest (y ∷ more) h.5 (omega (arith, long, h.3.0, room)) s a in
    rw (h.6, append_assoc h.0 (h.2 ∷ h.1) (c ∷ rest), segment_first h.0 after x h.3, lead-run is_ascii_alphanumeric h.0 after h.3.1 stop, past-run is_ascii_alphanumeric h.0 after h.3.1 stop, h.4, later) refl

-- what follows a part is told by its first byte
prefix_stays : (p : ℕ → Bool) (t a b : List ℕ) → starts p b ≡ false → starts p (t ++ a) ≡ false → starts p (t ++ b) ≡ false
prefix_stays p [] a b s e = s
prefix_stays p (x ∷ t) a b s e = e

pub spelled_before : {A : Type 0} (table : Spellings A) (part t a b : List ℕ) (x : A) (n : ℕ) → IsSpelled table part (t ++ a) x n → starts is_separator b ≡ false → starts is_ascii_digit b ≡ false → IsSpelled table part (t ++ b) x n
spelled_before table part t a b x n h s d =
    record {
      before = h.before;
      word = h.word;
      between = h.between;
      digits = h.digits;
      decomposition = h.decomposition;
      first = h.first;
      spelling = h.spelling;
      second = h.second;
      count = h.count;
      keeps_separator = λ e f. prefix_stays is_separator t a b s (h.keeps_separator e f);
      keeps_digits = prefix_stays is_ascii_digit t a b d h.keeps_digits;
    }

pre_before : (part t a b : List ℕ) (x : Option Prerelease) → IsPre part (t ++ a) x → starts is_separator b ≡ false → starts is_ascii_digit b ≡ false → IsPre part (t ++ b) x
pre_before part t a b None h s d = h
pre_before part t a b (Some x) h s d = spelled_before _ part t a b x.kind x.number h s d

post_before : (part t a b : List ℕ) (x : Option ℕ) → IsPost part (t ++ a) x → starts is_separator b ≡ false → starts is_ascii_digit b ≡ false → IsPost part (t ++ b) x
post_before part t a b None h s d = h
post_before part t a b (Some n) (inl h) s d = inl h
post_before part t a b (Some n) (inr h) s d = inr (spelled_before _ part t a b tt n h s d)

dev_before : (part t a b : List ℕ) (x : Option ℕ) → IsDev part (t ++ a) x → starts is_separator b ≡ false → starts is_ascii_digit b ≡ false → IsDev part (t ++ b) x
dev_before part t a b None h s d = h
dev_before part t a b (Some n) h s d = spelled_before _ part t a b tt n h s d

-- a text before `+`
plus_parts : (epoch : ℕ) (release p q d l t : List ℕ) (pre : Option Prerelease) (post dev : Option ℕ) (f : Rejection)
    → IsPre p (q ++ (d ++ l)) pre → IsPost q (d ++ l) post → IsDev d l dev → parse_local (43 ∷ t) ≡ Err f
    → (parse_parts epoch release (p ++ (q ++ (d ++ (43 ∷ t)))) ≡ Err f) × Follows (p ++ (q ++ (d ++ (43 ∷ t))))
unfolding parse_parts
plus_parts epoch release p q d l t pre post dev f hp hq hd hl =
    let quiet : IsQuiet (43 ∷ t) = record { separator = refl; letter = plus_no_letter; digit = refl; extension = refl; bare = refl } in
    let follows : Follows (43 ∷ t) = record { digit = refl; goes = refl; star = refl; bang = refl } in
    let gp : IsPre p (q ++ (d ++ (43 ∷ t))) pre = subst (λ x. IsPre p x pre) (append_assoc q d (43 ∷ t)) (pre_before p (q ++ d) l (43 ∷ t) pre (subst (λ x. IsPre p x pre) (sym (append_assoc q d l)) hp) refl refl) in
    let gq : IsPost q (d ++ (43 ∷ t)) post = post_before q d l (43 ∷ t) post hq refl refl in
    let gd : IsDev d (43 ∷ t) dev = dev_before d [] l (43 ∷ t) dev hd refl refl in (
      rw (pre_again p q d (43 ∷ t) pre post dev gp gq gd quiet, post_again q d (43 ∷ t) post dev gq gd quiet, dev_again d (43 ∷ t) dev gd quiet) (rw hl refl),
      follows_pre p _ pre gp (follows_post q _ post gq (follows_dev d _ dev gd follows)),
    )

local_refuse : (l : List ℕ) (c : ℕ) (rest : List ℕ) (ss : List LocalSegmentValue) → IsLocal l ss → ((c ≡ 43) × (length ss ≡ 0)) ⊎ ((is_separator c ≡ true) × (0 < length ss)) → starts is_ascii_alphanumeric rest ≡ false
    → (t : List ℕ) × (l ++ (c ∷ rest) ≡ 43 ∷ t) × (parse_local (43 ∷ t) ≡ Err (LocalEmpty c))
local_refuse l c rest [] h (inl e) a = (rest, rw h (ap (λ x. x ∷ rest) e.0), nothing_there (length rest) 43 rest a ∙ (λ i. Err (LocalEmpty (sym e.0 i))))
local_refuse l c rest [] h (inr e) a = absurd (omega (arith, e.1))
local_refuse l c rest (s ∷ ss) h (inl e) a = absurd (omega (arith, e.1))
local_refuse l c rest (s ∷ ss) h (inr e) a =
    let long = length-append h.0 (c ∷ rest) in
    (h.0 ++ (c ∷ rest), rw h.2 refl, segments_refuse (length (h.0 ++ (c ∷ rest))) 43 h.0 c rest (s ∷ ss) h.1 (omega (arith, long)) e.0 a)

pub make_local_empty : (text : List ℕ) (c : ℕ) → RejectsEarlier text (LocalEmpty c) → read_version text ≡ Err (LocalEmpty c)
make_local_empty text c (prefix, rest, r, h, none, decomposition, precursor, a) =
    let lo = local_refuse h.l c rest r.local h.local precursor a in
    let nil : h.l ++ h.w2 ≡ h.l = ap (λ w. h.l ++ w) none ∙ append-nil h.l in
    let parts = plus_parts r.epoch r.release h.p h.q h.d (h.l ++ h.w2) lo.0 r.pre r.post r.dev (LocalEmpty c) h.pre h.post h.dev lo.2 in
    let tail : List ℕ = h.p ++ (h.q ++ (h.d ++ (43 ∷ lo.0))) in
    let f = prefix_again h.e h.n tail r.epoch r.release h.epoch h.release parts.1.digit parts.1.goes parts.1.bang in
    let whole : text ≡ h.w1 ++ (h.v ++ (h.e ++ (h.n ++ tail))) = decomposition ∙ ap (λ x. x ++ (c ∷ rest)) (h.decomposition ∙ ap (λ x. h.w1 ++ (h.v ++ (h.e ++ (h.n ++ (h.p ++ (h.q ++ (h.d ++ x))))))) nil)
    ∙ eight h.w1 h.v h.e h.n h.p h.q h.d h.l (c ∷ rest) ∙ ap (λ x. h.w1 ++ (h.v ++ (h.e ++ (h.n ++ (h.p ++ (h.q ++ (h.d ++ x))))))) lo.1 in
    let o : parse_through_release text ≡ Ok ((r.epoch, r.release), tail) = opening_again text h.w1 h.v (h.e ++ (h.n ++ tail)) whole h.blanks h.letter f.0 ∙ f.1 in
    ap (λ x. version_of (pattern_from text x)) o ∙ rw (parts.1.star, parts.0) refl
  where
    eight : (a b c d e f g h z : List ℕ) → (a ++ (b ++ (c ++ (d ++ (e ++ (f ++ (g ++ h))))))) ++ z ≡ a ++ (b ++ (c ++ (d ++ (e ++ (f ++ (g ++ (h ++ z)))))))
    eight a b c d e f g h z =
        append_assoc a (b ++ (c ++ (d ++ (e ++ (f ++ (g ++ h)))))) z ∙ ap (λ x. a ++ x) (append_assoc b (c ++ (d ++ (e ++ (f ++ (g ++ h))))) z
        ∙ ap (λ x. b ++ x) (append_assoc c (d ++ (e ++ (f ++ (g ++ h)))) z ∙ ap (λ x. c ++ x) (append_assoc d (e ++ (f ++ (g ++ h))) z
        ∙ ap (λ x. d ++ x) (append_assoc e (f ++ (g ++ h)) z ∙ ap (λ x. e ++ x) (append_assoc f (g ++ h) z ∙ ap (λ x. f ++ x) (append_assoc g h z))))))

-- a line tells the reading
pub first_decides : (text : List ℕ) (f : Rejection) → RejectsEarlier text f → read_version text ≡ Err f
first_decides text Wildcard h = wildcard text h
first_decides text (NumberTooBig d) h = make_number_too_big text d h
first_decides text NoLeadingNumber h = no_leading text h
first_decides text NoLeadingReleaseNumber h = no_leading_release text h
first_decides text (LocalEmpty c) h = make_local_empty text c h
first_decides text (UnexpectedEnd v r) h = absurd h
