-- Where a text is read, its parts are read, too: so no refusal is made, which alone takes memory.
use Rattle.std.proofs.Common.{◌≡◌, ◌≤◌, ◌<◌, ◌==◌, ℕ, suc, zero, Bool, true, false, List, [], ◌∷◌, ◌++◌, refl, sym, ap, ◌∙◌, arith, drop, length, inl, inr, Ok, Err, Option, subst}
use Rattle.std.proofs.lemmas.List.{length-append}
use Rattle.std.specs.Char.{is_ascii_alphanumeric}
use Rattle.pep440_version.specs.declared.prerelease.Prerelease.{Prerelease}
use Rattle.pep440_version.specs.Grammar.{is_separator, starts, parse_segment}
use Rattle.pep440_version.specs.Locals.{first_byte, parse_segments, parse_local}
use Rattle.pep440_version.specs.Reading.{Read, ◌>>=◌, lead, past, starts_with_number, parse_number, has_next_number, parse_more_numbers, parse_release_from}
use Rattle.pep440_version.specs.Record.{Record, LocalSegmentValue, epoch_and_release, from_parts}
use Rattle.pep440_version.specs.Rejections.{Rejection}
use Rattle.pep440_version.specs.Suffixes.{parse_pre, parse_post, parse_dev}
use Rattle.pep440_version.specs.Whole.{parse_release_after_first, parse_epoch_and_release, parse_through_release, parse_parts, parse_end, parse_after_release, starts_with_star, pattern_from, read_pattern}
use Rattle.pep440_version.specs.Word.{is_packed}
use Rattle.pep440_version.proofs.Reading.AfterRelease.{more_on}
use Rattle.pep440_version.proofs.Reading.Agreement.{end_takes, sure, without_star_is}
use Rattle.pep440_version.proofs.Reading.Digits.{with_prefix}
use Rattle.pep440_version.proofs.Reading.PartsAgree.{parts_take}
use Rattle.pep440_version.proofs.Reading.ReadIsDerived.{bind_ok, chosen, inside}
use Rattle.pep440_version.proofs.Words.Blocks.{packed}

-- where a fault of a part is a fault of the whole, and the whole is read, the part is read
pub read_too : {X Y : Type 0} (read : Read X) (out : Read Y) → ((f : Rejection) → read ≡ Err f → out ≡ Err f) → (y : Y) → out ≡ Ok y → (x : X) × (read ≡ Ok x)
read_too (Ok x) out on y e = (x, refl)
read_too (Err f) out on y e = cc (sym (on f refl) ∙ e)

-- ---- the release

longer : (prefix : List ℕ) (read : Read (List ℕ × List ℕ)) (x : List ℕ × List ℕ) → with_prefix prefix read ≡ Ok x → length prefix ≤ length x.0
longer prefix (Ok y) x e =
    let same : prefix ++ y.0 ≡ x.0 = ap (λ (p : List ℕ × List ℕ). p.0) (inside _ _ e) in
    omega (arith, length-append prefix y.0, ap length same)
longer prefix (Err f) x e = cc e

-- where a number is still to be read, more is read in the end than was read before
pub still_more : (k : ℕ) (rest after prefix : List ℕ) (n : ℕ) (x : List ℕ × List ℕ) → has_next_number rest ≡ true → parse_number (drop 1 rest) ≡ Ok (n, after)
    → with_prefix prefix (parse_more_numbers (suc k) rest) ≡ Ok x → length prefix < length x.0
still_more k rest after prefix n x g e h =
    let more = longer (prefix ++ n ∷ []) (parse_more_numbers k after) x (sym (more_on k rest after prefix n g e) ∙ h) in
    omega (arith, length-append prefix (n ∷ []), more)

pub release_too : (epoch first : ℕ) (text : List ℕ) (x : (ℕ × List ℕ) × List ℕ) → parse_release_after_first epoch first text ≡ Ok x
    → (y : List ℕ × List ℕ) × (parse_release_from first text ≡ Ok y) × (y.0 ≡ x.0.1)
release_too epoch first text x e =
    let read = bind_ok (parse_release_from first text) _ x e in
    (read.0, read.1, ap (λ (p : (ℕ × List ℕ) × List ℕ). p.0.1) (inside _ _ read.2))

pub prefix_number : (text : List ℕ) (x : (ℕ × List ℕ) × List ℕ) → parse_epoch_and_release text ≡ Ok x → (y : ℕ × List ℕ) × (parse_number text ≡ Ok y)
unfolding parse_epoch_and_release
prefix_number text x e = elim (chosen (starts_with_number text) _ _ _ e) [
  | inl h ↦ let n = bind_ok (parse_number text) _ x h.1 in (n.0, n.1)
  | inr h ↦ cc h.1
]

-- ---- the local part

some_of : (s : LocalSegmentValue) (more : List LocalSegmentValue) (rest : List ℕ) (x : List LocalSegmentValue × List ℕ) → (let p : List LocalSegmentValue × List ℕ = (s ∷ more, rest) in p) ≡ x → x.0 ≡ [] → ⊥
some_of s more rest x e none = cc (ap (λ (p : List LocalSegmentValue × List ℕ). p.0) e ∙ none)

some_segments : (k c : ℕ) (t : List ℕ) (x : List LocalSegmentValue × List ℕ) → parse_segments k c t ≡ Ok x → x.0 ≡ [] → ⊥
unfolding parse_segments
some_segments zero c t x e none = cc e
some_segments (suc k) c t x e none = elim (chosen (starts is_ascii_alphanumeric t) _ _ _ e) [
  | inl h ↦ elim (chosen (starts is_separator (past is_ascii_alphanumeric t)) _ _ _ h.1) [
    | inl g ↦
        let more = bind_ok (parse_segments k (first_byte (past is_ascii_alphanumeric t)) (drop 1 (past is_ascii_alphanumeric t))) _ x g.1 in
        some_of (parse_segment (lead is_ascii_alphanumeric t)) more.0.0 more.0.1 x (inside _ _ more.2) none
    | inr g ↦ some_of (parse_segment (lead is_ascii_alphanumeric t)) [] (past is_ascii_alphanumeric t) x (inside _ _ g.1) none
  ]
  | inr h ↦ cc h.1
]

-- a plus is followed by a segment
pub plus_gives : (text : List ℕ) (x : List LocalSegmentValue × List ℕ) → starts (λ b. b == 43) text ≡ true → parse_local text ≡ Ok x → x.0 ≡ [] → ⊥
plus_gives text x plus e none = elim (chosen (starts (λ b. b == 43) text) _ _ _ e) [
  | inl h ↦ some_segments (length (drop 1 text)) 43 (drop 1 text) x h.1 none
  | inr h ↦ cc (sym plus ∙ h.0)
]

-- ---- the parts after the release

pub pre_too : (epoch : ℕ) (release t : List ℕ) (x : Record × List ℕ) → parse_parts epoch release t ≡ Ok x → (p : Option Prerelease × List ℕ) × (parse_pre t ≡ Ok p)
unfolding parse_parts
pre_too epoch release t x e = let p = bind_ok (parse_pre t) _ x e in (p.0, p.1)

pub post_too : (epoch : ℕ) (release t after : List ℕ) (pre : Option Prerelease) (x : Record × List ℕ) → parse_pre t ≡ Ok (pre, after) → parse_parts epoch release t ≡ Ok x
    → (q : Option ℕ × List ℕ) × (parse_post after ≡ Ok q)
unfolding parse_parts
post_too epoch release t after pre x p e = read_too (parse_post after) (parse_parts epoch release t) (λ f h. rw (p, h) refl) x e

pub local_too : (epoch : ℕ) (release t a b c : List ℕ) (pre : Option Prerelease) (post dev : Option ℕ) (x : Record × List ℕ) → parse_pre t ≡ Ok (pre, a) → parse_post a ≡ Ok (post, b) → parse_dev b ≡ Ok (dev, c)
    → parse_parts epoch release t ≡ Ok x → (l : List LocalSegmentValue × List ℕ) × (parse_local c ≡ Ok l) × (l.0 ≡ x.0.local)
unfolding parse_parts
local_too epoch release t a b c pre post dev x p q d e =
    let left : parse_parts epoch release t ≡ (parse_local c >>= λ l. Ok (from_parts epoch release pre post dev l.0, l.1)) = rw (p, q, d) refl in
    let l = bind_ok (parse_local c) _ x (sym left ∙ e) in
    (l.0, l.1, ap (λ (y : Record × List ℕ). y.0.local) (inside _ _ l.2))

-- a packed record has no local part
pub no_local : (r : Record) (local : List LocalSegmentValue) → local ≡ r.local → is_packed r ≡ true → local ≡ []
no_local r local same fits = same ∙ (packed r fits).no_local

-- ---- the whole text

pub parts_too : (text : List ℕ) (x : (ℕ × List ℕ) × List ℕ) (r : Record) → parse_after_release text x ≡ Ok r → is_packed r ≡ true
    → (y : Record × List ℕ) × (parse_parts x.0.0 x.0.1 x.1 ≡ Ok y) × (is_packed y.0 ≡ true)
parts_too text x r e fits =
    let parts = bind_ok (parse_parts x.0.0 x.0.1 x.1) (parse_end text) r e in
    let last = end_takes text parts.0 r parts.2 in
    (parts.0, parts.1, ap is_packed last.0 ∙ fits)

-- the release of what is read is the one that is opened
closed_release : (text : List ℕ) (x : (ℕ × List ℕ) × List ℕ) (r : Record) → parse_after_release text x ≡ Ok r → r.release ≡ x.0.1
closed_release text x r e =
    let parts = bind_ok (parse_parts x.0.0 x.0.1 x.1) (parse_end text) r e in
    let last = end_takes text parts.0 r parts.2 in
    let taken = parts_take x.0.0 x.0.1 x.1 parts.0 parts.1 in
    ap (λ (q : Record). q.release) (sym last.0) ∙ ap (λ (q : Record). q.release) taken.is

-- without a star, what is read is what is closed
pub closed_too : (text : List ℕ) (o : (ℕ × List ℕ) × List ℕ) (x : Record × Bool) → parse_through_release text ≡ Ok o → starts_with_star o.1 ≡ false → read_pattern text ≡ Ok x → parse_after_release text o ≡ Ok x.0
closed_too text o x e none h = elim (chosen (starts_with_star o.1) _ _ _ (sym (ap (pattern_from text) e) ∙ h)) [
  | inl s ↦ cc (sym none ∙ s.0)
  | inr s ↦ (without_star_is (parse_after_release text o) x.0 x.1 s.1).0
]

-- with a star, what is read is epoch and release
pub starred_too : (text : List ℕ) (o : (ℕ × List ℕ) × List ℕ) (x : Record × Bool) → parse_through_release text ≡ Ok o → starts_with_star o.1 ≡ true → read_pattern text ≡ Ok x → epoch_and_release o.0.0 o.0.1 ≡ x.0
starred_too text o x e star h = elim (chosen (starts_with_star o.1) _ _ _ (sym (ap (pattern_from text) e) ∙ h)) [
  | inl s ↦ elim (chosen (length (drop 2 o.1) == 0) _ _ _ s.1) [
    | inl g ↦ ap (λ (p : Record × Bool). p.0) (sure _ _ g.1)
    | inr g ↦ cc g.1
  ]
  | inr s ↦ cc (sym star ∙ s.0)
]

-- where a packed record is read, epoch and a release of at most four numbers are opened
pub opened_too : (text : List ℕ) (x : Record × Bool) → read_pattern text ≡ Ok x → is_packed x.0 ≡ true → (o : (ℕ × List ℕ) × List ℕ) × (parse_through_release text ≡ Ok o) × (length o.0.1 ≤ 4)
opened_too text x h fits = by (parse_through_release text) refl h
  where
    few : length x.0.release ≤ 4
    few = (packed x.0 fits).short.few

    by : (o : Read ((ℕ × List ℕ) × List ℕ)) → parse_through_release text ≡ o → pattern_from text o ≡ Ok x → (y : (ℕ × List ℕ) × List ℕ) × (parse_through_release text ≡ Ok y) × (length y.0.1 ≤ 4)
    by (Err f) e g = cc g
    by (Ok o) e g = elim (chosen (starts_with_star o.1) _ _ _ g) [
      | inl s ↦
          let same : o.0.1 ≡ x.0.release = ap (λ (r : Record). r.release) (starred_too text o x e s.0 h) in
          (o, e, subst (λ l. length l ≤ 4) (sym same) few)
      | inr s ↦
          let same : x.0.release ≡ o.0.1 = closed_release text o x.0 (closed_too text o x e s.0 h) in
          (o, e, subst (λ l. length l ≤ 4) same few)
    ]
