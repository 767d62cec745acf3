-- Exactly one line of the refusals holds of a text that is not derived, and none of one that is.
use Rattle.std.proofs.Common.{◌≡◌, ◌<◌, ◌==◌, ◌⊎◌, ℕ, Bool, true, false, List, [], ◌∷◌, ◌++◌, refl, sym, ap, ◌∙◌, arith, drop, length, inl, inr, Ok, Err, Result}
use Rattle.std.proofs.lemmas.Bool.{cases_Bool}
use Rattle.std.proofs.lemmas.Bool.Decides.{nat_tests}
use Rattle.std.proofs.lemmas.List.{append-nil, length-append, append_cancel_left}
use Rattle.pep440_version.specs.Grammar.{Derives}
use Rattle.pep440_version.specs.Patterns.{DerivesPattern}
use Rattle.pep440_version.specs.Reading.{Read, ◌>>=◌}
use Rattle.pep440_version.specs.Record.{Record}
use Rattle.pep440_version.specs.Rejections.{Rejection, Wildcard, NumberTooBig, NoLeadingNumber, NoLeadingReleaseNumber, LocalEmpty, UnexpectedEnd, PatternRejection, OfVersion, WildcardNotTrailing, HasStar, IsLongest, Rejects, RejectsPattern}
use Rattle.pep440_version.specs.Whole.{parse_through_release, parse_parts, parse_end, starts_with_star, without_star, pattern_from, read_pattern, version_of, read_version}
use Rattle.pep440_version.proofs.Reading.Agreement.{only, found, prefix_again, only_pattern, found_pattern}
use Rattle.pep440_version.proofs.Rejections.LongestPrefix.{fails, some_rest}
use Rattle.pep440_version.proofs.Rejections.LinesDecide.{first_decides, opens_again}
use Rattle.pep440_version.proofs.Rejections.FaultsHaveErrors.{sound, told_star, no_wildcard}

same_length : (a b c d : List ℕ) → a ++ b ≡ c ++ d → length a ≡ length c → a ≡ c
same_length [] b [] d e l = refl
same_length [] b (y ∷ c) d e l = cc l
same_length (x ∷ a) b [] d e l = cc l
same_length (x ∷ a) b (y ∷ c) d e l =
    let more = same_length a b c d (ap (drop 1) e) (omega (arith, l)) in
    let first : x ≡ y = ap (λ t. Rattle.std.specs.Prelude.get_or t 0 0) e in
    λ i. first i ∷ more i

-- two fronts that are the longest are one
one_prefix : (text v r w s : List ℕ) → IsLongest text v r → IsLongest text w s → (v ≡ w) × (r ≡ s)
one_prefix text v r w s h g =
    let a = h.longest w s g.means g.decomposition g.derived in
    let b = g.longest v r h.means h.decomposition h.derived in
    let same : v ≡ w = same_length v r w s (sym h.decomposition ∙ g.decomposition) (omega (arith, a, b)) in
    (same, append_cancel_left v r s (sym h.decomposition ∙ g.decomposition ∙ ap (λ l. l ++ s) (sym same)))

end_decides : (text v r : List ℕ) → Rejects text (UnexpectedEnd v r) → read_version text ≡ Err (UnexpectedEnd v r)
end_decides text v r (more, h, none) = by (read_version text) refl
  where
    told : (g : Rejection) → read_version text ≡ Err g → Rejects text g → read_version text ≡ Err (UnexpectedEnd v r)
    told Wildcard e k = absurd (none Wildcard k)
    told (NumberTooBig d) e k = absurd (none (NumberTooBig d) k)
    told NoLeadingNumber e k = absurd (none NoLeadingNumber k)
    told NoLeadingReleaseNumber e k = absurd (none NoLeadingReleaseNumber k)
    told (LocalEmpty c) e k = absurd (none (LocalEmpty c) k)
    told (UnexpectedEnd w s) e k = let same = one_prefix text v r w s h k.1 in e ∙ (λ i. Err (UnexpectedEnd (sym same.0 i) (sym same.1 i)))

    by : (o : Read Record) → read_version text ≡ o → read_version text ≡ Err (UnexpectedEnd v r)
    by (Ok q) e =
        let long = h.longest text [] q (sym (append-nil text)) (found text q e) in
        let whole = ap length h.decomposition ∙ length-append v r in
        absurd (omega (arith, long, whole, more))
    by (Err g) e = told g e (sound text g e)

-- a line tells what the reading answers
pub decides : (text : List ℕ) (f : Rejection) → Rejects text f → read_version text ≡ Err f
decides text Wildcard h = first_decides text Wildcard h
decides text (NumberTooBig d) h = first_decides text (NumberTooBig d) h
decides text NoLeadingNumber h = first_decides text NoLeadingNumber h
decides text NoLeadingReleaseNumber h = first_decides text NoLeadingReleaseNumber h
decides text (LocalEmpty c) h = first_decides text (LocalEmpty c) h
decides text (UnexpectedEnd v r) h = end_decides text v r h

-- no two lines hold, with two contents of one kind neither
pub one_refusal : (text : List ℕ) (f g : Rejection) → Rejects text f → Rejects text g → f ≡ g
one_refusal text f g h k = fails {A = Record} f g (sym (decides text f h) ∙ decides text g k)

-- none holds of a text that is derived
pub not_both : (text : List ℕ) (r : Record) (f : Rejection) → Derives text r → Rejects text f → ⊥
not_both text r f d h = let read = only text r d in let none = decides text f h in cc (read, none)

-- every text is derived or refused
pub one_or_other : (text : List ℕ) → ((r : Record) × Derives text r) ⊎ ((f : Rejection) × Rejects text f)
one_or_other text = by (read_version text) refl
  where
    by : (o : Read Record) → read_version text ≡ o → ((r : Record) × Derives text r) ⊎ ((f : Rejection) × Rejects text f)
    by (Ok r) e = inl (r, found text r e)
    by (Err f) e = inr (f, sound text f e)

-- ---- patterns

of_version : (text : List ℕ) (g : Rejection) → read_pattern text ≡ Err (OfVersion g) → Rejects text g → RejectsPattern text (OfVersion g)
of_version text Wildcard e h = no_wildcard text e
of_version text (NumberTooBig d) e h = h
of_version text NoLeadingNumber e h = h
of_version text NoLeadingReleaseNumber e h = h
of_version text (LocalEmpty c) e h = h
of_version text (UnexpectedEnd v r) e h = h

pattern_version : (text : List ℕ) (g : Rejection) → RejectsPattern text (OfVersion g) → (Rejects text g) × ((g ≡ Wildcard) → ⊥)
pattern_version text Wildcard h = absurd h
pattern_version text (NumberTooBig d) h = (h, λ e. cc e)
pattern_version text NoLeadingNumber h = (h, λ e. cc e)
pattern_version text NoLeadingReleaseNumber h = (h, λ e. cc e)
pattern_version text (LocalEmpty c) h = (h, λ e. cc e)
pattern_version text (UnexpectedEnd v r) h = (h, λ e. cc e)

no_rest : (n : ℕ) → 0 < n → (n == 0) ≡ false
no_rest n l = grind (arith, nat_tests)

pub sound_pattern : (text : List ℕ) (f : PatternRejection) → read_pattern text ≡ Err f → RejectsPattern text f
sound_pattern text (OfVersion g) e = of_version text g e (sound text g (ap version_of e))
sound_pattern text WildcardNotTrailing e = by (parse_through_release text) refl e
  where
    closed : (o : Read Record) → without_star o ≡ Err WildcardNotTrailing → ⊥
    closed (Ok r) e = cc e
    closed (Err g) e = cc e

    by : (o : Read ((ℕ × List ℕ) × List ℕ)) → parse_through_release text ≡ o → pattern_from text o ≡ Err WildcardNotTrailing → (rest : List ℕ) × (0 < length rest) × HasStar text rest
    by (Err g) o e = cc e
    by (Ok x) o e = elim (cases_Bool (starts_with_star x.1)) [
      | inl s ↦ elim (cases_Bool (length (drop 2 x.1) == 0)) [
        | inl n ↦ let no = rw (s, n) at e in cc no
        | inr n ↦ let t = told_star text x o s in (drop 2 x.1, some_rest (length (drop 2 x.1)) n, t)
      ]
      | inr s ↦ let on = rw s at e in absurd (closed (parse_parts x.0.0 x.0.1 x.1 >>= parse_end text) on)
    ]

star_decides : (text rest : List ℕ) → 0 < length rest → HasStar text rest → read_pattern text ≡ Err WildcardNotTrailing
star_decides text rest more (e, n, release, epoch, o, he, hn) =
    let f = prefix_again e n (46 ∷ 42 ∷ rest) epoch release he hn refl refl refl in
    ap (pattern_from text) (opens_again text (e ++ (n ++ (46 ∷ 42 ∷ rest))) o ∙ f.1) ∙ rw (no_rest (length rest) more) refl

version_err : (p : Result (Record × Bool) PatternRejection) (g : Rejection) → ((g ≡ Wildcard) → ⊥) → version_of p ≡ Err g → p ≡ Err (OfVersion g)
version_err (Ok (r, true)) g n e = absurd (n (sym (fails {A = Record} Wildcard g e)))
version_err (Ok (r, false)) g n e = cc e
version_err (Err (OfVersion f)) g n e = λ i. Err (OfVersion (fails {A = Record} f g e i))
version_err (Err WildcardNotTrailing) g n e = absurd (n (sym (fails {A = Record} Wildcard g e)))

pub decides_pattern : (text : List ℕ) (f : PatternRejection) → RejectsPattern text f → read_pattern text ≡ Err f
decides_pattern text WildcardNotTrailing h = star_decides text h.0 h.1 h.2
decides_pattern text (OfVersion g) h = let k = pattern_version text g h in version_err (read_pattern text) g k.1 (decides text g k.0)

pattern_fails : (x y : PatternRejection) → (let r : Result (Record × Bool) PatternRejection = Err x in r) ≡ Err y → x ≡ y
pattern_fails x y e = ap (λ (r : Result (Record × Bool) PatternRejection). elim r as (λ _. PatternRejection) [ Ok z ↦ x | Err f ↦ f ]) e

pub one_pattern_refusal : (text : List ℕ) (f g : PatternRejection) → RejectsPattern text f → RejectsPattern text g → f ≡ g
one_pattern_refusal text f g h k = pattern_fails f g (sym (decides_pattern text f h) ∙ decides_pattern text g k)

pub not_both_pattern : (text : List ℕ) (r : Record) (star : Bool) (f : PatternRejection) → DerivesPattern text r star → RejectsPattern text f → ⊥
not_both_pattern text r star f d h = let read = only_pattern text r star d in let none = decides_pattern text f h in cc (read, none)

pub one_or_other_pattern : (text : List ℕ) → ((r : Record) × (star : Bool) × DerivesPattern text r star) ⊎ ((f : PatternRejection) × RejectsPattern text f)
one_or_other_pattern text = by (read_pattern text) refl
  where
    by : (o : Result (Record × Bool) PatternRejection) → read_pattern text ≡ o → ((r : Record) × (star : Bool) × DerivesPattern text r star) ⊎ ((f : PatternRejection) × RejectsPattern text f)
    by (Ok x) e = inl (x.0, x.1, found_pattern text x.0 x.1 e)
    by (Err f) e = inr (f, sound_pattern text f e)
