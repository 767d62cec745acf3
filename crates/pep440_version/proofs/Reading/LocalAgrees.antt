-- The local part: what is read is one, and what is one is read so.
use Rattle.std.proofs.Common.{◌≡◌, ◌≤◌, ◌==◌, ℕ, suc, zero, true, false, List, [], ◌∷◌, ◌++◌, refl, sym, ap, ◌∙◌, arith, drop, length, inl, inr, Ok, subst, ◌<◌, Bool, Err, Option, Some, None, map, if◌then◌else◌}
use Rattle.std.proofs.lemmas.Bool.Decides.{nat_tests}
use Rattle.std.proofs.lemmas.List.{append_assoc, length-append}
use Rattle.std.specs.Char.{is_ascii_alphanumeric, is_ascii_whitespace}
use Rattle.std.specs.List.{list_all}
use Rattle.pep440_version.specs.Grammar.{AreBlanks, is_separator, parse_segment, IsSegment, AreSegments, IsLocal, starts}
use Rattle.pep440_version.specs.Locals.{first_byte, parse_segments, parse_local}
use Rattle.pep440_version.specs.Reading.{lead, past, Read, ◌>>=◌}
use Rattle.pep440_version.specs.Record.{LocalSegmentValue}
use Rattle.pep440_version.proofs.Reading.Prefixes.{both_first, lead-run, past-run, lead-all}
use Rattle.pep440_version.proofs.Reading.ReadIsDerived.{bind_ok, chosen, inside, split, drop_one, lead-some}
use Rattle.std.proofs.lemmas.Bool.{cases_Bool}
use Rattle.pep440_version.specs.Rejections.{LocalEmpty}
use Rattle.pep440_version.proofs.Reading.SpelledIsRead.{some}

pub segments_cons : (first after : List ℕ) (b : ℕ) (s : LocalSegmentValue) (ss : List LocalSegmentValue) → IsSegment first s → is_separator b ≡ true → AreSegments after ss → AreSegments (first ++ (b ∷ after)) (s ∷ ss)
segments_cons first after b s [] h sep more = absurd more
segments_cons first after b s (t ∷ rest) h sep more = (first, after, b, h, sep, more, refl)

pub separator_head : (t : List ℕ) → starts is_separator t ≡ true → (t ≡ first_byte t ∷ drop 1 t) × (is_separator (first_byte t) ≡ true)
separator_head [] s = cc s
separator_head (b ∷ t) s = (refl, s)

pub lead_segment : (t : List ℕ) → starts is_ascii_alphanumeric t ≡ true → IsSegment (lead is_ascii_alphanumeric t) (parse_segment (lead is_ascii_alphanumeric t))
lead_segment t s = (lead-some is_ascii_alphanumeric t s, lead-all is_ascii_alphanumeric t, refl)

pub segments_takes : (k c : ℕ) (t : List ℕ) (x : List LocalSegmentValue × List ℕ) → parse_segments k c t ≡ Ok x → (text : List ℕ) × AreSegments text x.0 × (t ≡ text ++ x.1)
unfolding parse_segments
segments_takes zero c t x e = cc e
segments_takes (suc k) c t x e = elim (chosen (starts is_ascii_alphanumeric t) _ _ _ e) [
  | inl h ↦
      let prefix : List ℕ = lead is_ascii_alphanumeric t in
      let back : List ℕ = past is_ascii_alphanumeric t in
      elim (chosen (starts is_separator back) _ _ _ h.1) [
        | inl g ↦
            let head = separator_head back g.0 in
            let more = bind_ok (parse_segments k (first_byte back) (drop 1 back)) _ x g.1 in
            let later = segments_takes k (first_byte back) (drop 1 back) more.0 more.1 in
            let same = inside _ _ more.2 in
            let segments : parse_segment prefix ∷ more.0.0 ≡ x.0 = ap (λ (p : List LocalSegmentValue × List ℕ). p.0) same in
            let rest : more.0.1 ≡ x.1 = ap (λ (p : List LocalSegmentValue × List ℕ). p.1) same in
            let text : List ℕ = prefix ++ (first_byte back ∷ later.0) in (
              text,
              subst (AreSegments text) segments (segments_cons prefix later.0 (first_byte back) (parse_segment prefix) more.0.0 (lead_segment t h.0) head.1 later.1),
              split is_ascii_alphanumeric t ∙ ap (λ r. prefix ++ r) (head.0 ∙ ap (λ r. first_byte back ∷ r) (later.2 ∙ ap (λ r. later.0 ++ r) rest)) ∙ sym (append_assoc prefix (first_byte back ∷ later.0) x.1),
            )
        | inr g ↦
            let same = inside _ _ g.1 in
            let segments : parse_segment prefix ∷ [] ≡ x.0 = ap (λ (p : List LocalSegmentValue × List ℕ). p.0) same in
            let rest : back ≡ x.1 = ap (λ (p : List LocalSegmentValue × List ℕ). p.1) same in
            (prefix, subst (AreSegments prefix) segments (lead_segment t h.0), split is_ascii_alphanumeric t ∙ ap (λ r. prefix ++ r) rest)
      ]
  | inr h ↦ cc h.1
]

local_cons : (text : List ℕ) (ss : List LocalSegmentValue) → AreSegments text ss → IsLocal (43 ∷ text) ss
local_cons text [] h = absurd h
local_cons text (s ∷ rest) h = (text, h, refl)

pub local_takes : (t : List ℕ) (x : List LocalSegmentValue × List ℕ) → parse_local t ≡ Ok x → (part : List ℕ) × IsLocal part x.0 × (t ≡ part ++ x.1)
local_takes t x e = elim (chosen (starts (λ b. b == 43) t) _ _ _ e) [
  | inl h ↦
      let s = segments_takes (length (drop 1 t)) 43 (drop 1 t) x h.1 in
      (43 ∷ s.0, local_cons s.0 x.0 s.1, drop_one 43 t h.0 ∙ ap (λ r. 43 ∷ r) s.2)
  | inr h ↦
      let same = inside _ _ h.1 in
      ([], subst (IsLocal []) (ap (λ (p : List LocalSegmentValue × List ℕ). p.0) same) refl, ap (λ (p : List LocalSegmentValue × List ℕ). p.1) same)
]

pub separator_no_alphanumeric : (b : ℕ) → is_separator b ≡ true → is_ascii_alphanumeric b ≡ false
separator_no_alphanumeric b s = grind (arith, nat_tests)

pub segment_first : (t rest : List ℕ) (s : LocalSegmentValue) → IsSegment t s → starts is_ascii_alphanumeric (t ++ rest) ≡ true
segment_first [] rest s h = absurd (omega (arith, h.0))
segment_first (b ∷ t) rest s h = both_first (is_ascii_alphanumeric b) (list_all is_ascii_alphanumeric t) h.1

pub segments_again : (k c : ℕ) (t rest : List ℕ) (ss : List LocalSegmentValue) → AreSegments t ss → length t ≤ k → starts is_ascii_alphanumeric rest ≡ false → starts is_separator rest ≡ false
    → parse_segments k c (t ++ rest) ≡ Ok (ss, rest)
unfolding parse_segments
segments_again k c t rest [] h room a p = absurd h
segments_again zero c t rest (s ∷ []) h room a p = absurd (omega (arith, h.0, room))
segments_again (suc k) c t rest (s ∷ []) h room a p =
    rw (segment_first t rest s h, lead-run is_ascii_alphanumeric t rest h.1 a, past-run is_ascii_alphanumeric t rest h.1 a, p, h.2) refl
segments_again zero c t rest (s ∷ u ∷ more) h room a p =
    let long = ap length h.6 ∙ length-append h.0 (h.2 ∷ h.1) in
    absurd (omega (arith, long, room))
segments_again (suc k) c t rest (s ∷ u ∷ more) h room a p =
    let long = ap length h.6 ∙ length-append h.0 (h.2 ∷ h.1) in
    let after : List ℕ = h.2 ∷ (h.1 ++ rest) in
    let stop = separator_no_alphanumeric h.2 h.4 in
    let later = segments_again k h.2 h.1 rest (u ∷ more) h.5 (omega (arith, long, h.3.0, room)) a p in
    rw (h.6, append_assoc h.0 (h.2 ∷ h.1) rest, segment_first h.0 after s h.3, lead-run is_ascii_alphanumeric h.0 after h.3.1 stop, past-run is_ascii_alphanumeric h.0 after h.3.1 stop, h.4, later, h.3.2) refl

pub blank_not_separator : (b : ℕ) → is_ascii_whitespace b ≡ true → is_separator b ≡ false
blank_not_separator b h = grind (arith, nat_tests)

blank_not_alphanumeric : (b : ℕ) → is_ascii_whitespace b ≡ true → is_ascii_alphanumeric b ≡ false
blank_not_alphanumeric b h = grind (arith, nat_tests)

pub blank_not_plus : (b : ℕ) → is_ascii_whitespace b ≡ true → (b == 43) ≡ false
blank_not_plus b h = grind (arith, nat_tests)

after_local : (w : List ℕ) → AreBlanks w → (starts is_ascii_alphanumeric w ≡ false) × (starts is_separator w ≡ false) × (starts (λ b. b == 43) w ≡ false)
after_local [] h = (refl, refl, refl)
after_local (b ∷ w) h = let first = both_first (is_ascii_whitespace b) (list_all is_ascii_whitespace w) h in (blank_not_alphanumeric b first, blank_not_separator b first, blank_not_plus b first)

pub local_again : (l w : List ℕ) (ss : List LocalSegmentValue) → IsLocal l ss → AreBlanks w → parse_local (l ++ w) ≡ Ok (ss, w)
local_again l w [] h blanks = rw (h, (after_local w blanks).2) refl
local_again l w (s ∷ rest) h blanks =
    let stop = after_local w blanks in
    let long = length-append h.0 w in
    rw h.2 (segments_again (length (h.0 ++ w)) 43 h.0 w (s ∷ rest) h.1 (omega (arith, long)) stop.0 stop.1)

-- ---- the loop over the segments of a local version

-- what is read, after segments that were read before
abbrev pub with_segments : List LocalSegmentValue → Read (List LocalSegmentValue × List ℕ) → Read (List LocalSegmentValue × List ℕ)
with_segments prefix read = read >>= λ x. Ok (prefix ++ x.0, x.1)

with_segments_more : (prefix : List LocalSegmentValue) (s : LocalSegmentValue) (read : Read (List LocalSegmentValue × List ℕ)) → with_segments prefix (read >>= λ x. Ok (s ∷ x.0, x.1)) ≡ with_segments (prefix ++ s ∷ []) read
with_segments_more prefix s (Ok x) = ap (λ l. Ok (l, x.1)) (sym (append_assoc prefix (s ∷ []) x.0))
with_segments_more prefix s (Err e) = refl

pub next_segment : (k c : ℕ) (t : List ℕ) (prefix : List LocalSegmentValue) → starts is_ascii_alphanumeric t ≡ true → starts is_separator (past is_ascii_alphanumeric t) ≡ true
    → with_segments prefix (parse_segments (suc k) c t) ≡ with_segments (prefix ++ parse_segment (lead is_ascii_alphanumeric t) ∷ []) (parse_segments k (first_byte (past is_ascii_alphanumeric t)) (drop 1 (past is_ascii_alphanumeric t)))
unfolding parse_segments
next_segment k c t prefix s p = rw (s, p) (with_segments_more prefix (parse_segment (lead is_ascii_alphanumeric t)) (parse_segments k (first_byte (past is_ascii_alphanumeric t)) (drop 1 (past is_ascii_alphanumeric t))))

pub last_segment : (k c : ℕ) (t : List ℕ) (prefix : List LocalSegmentValue) → starts is_ascii_alphanumeric t ≡ true → starts is_separator (past is_ascii_alphanumeric t) ≡ false
    → with_segments prefix (parse_segments (suc k) c t) ≡ Ok (prefix ++ parse_segment (lead is_ascii_alphanumeric t) ∷ [], past is_ascii_alphanumeric t)
unfolding parse_segments
last_segment k c t prefix s p = rw (s, p) refl

pub no_segment : (k c : ℕ) (t : List ℕ) (prefix : List LocalSegmentValue) → starts is_ascii_alphanumeric t ≡ false → with_segments prefix (parse_segments k c t) ≡ Err (LocalEmpty c)
unfolding parse_segments
no_segment zero c t prefix s = refl
no_segment (suc k) c t prefix s = rw s refl

pub no_fuel : (k c : ℕ) (t : List ℕ) (prefix : List LocalSegmentValue) → k ≡ 0 → with_segments prefix (parse_segments k c t) ≡ Err (LocalEmpty c)
unfolding parse_segments
no_fuel k c t prefix none = rw none refl

pub lead_empty : (p : ℕ → Bool) (t : List ℕ) → length (lead p t) ≡ 0 → starts p t ≡ false
lead_empty p t e = elim (cases_Bool (starts p t)) [
  | inl s ↦ let some = lead-some p t s in absurd (omega (arith, some, e))
  | inr s ↦ s
]

pub lead_not_empty : (p : ℕ → Bool) (t : List ℕ) → 0 < length (lead p t) → starts p t ≡ true
lead_not_empty p [] e = absurd (omega (arith, e))
lead_not_empty p (x ∷ t) e = elim (cases_Bool (p x)) [
  | inl s ↦ s
  | inr s ↦ let none = rw s at e in absurd (omega (arith, none))
]

map_one : {H : Type 0} (view : H → LocalSegmentValue) (local_segment : List H) (s : H) → map view (local_segment ++ s ∷ []) ≡ map view local_segment ++ view s ∷ []
map_one view [] s = refl
map_one view (h ∷ local_segment) s = ap (λ l. view h ∷ l) (map_one view local_segment s)

none_there : (b : Bool) (x : ℕ) → (let o : Option ℕ = None in o) ≡ (if b then Some x else None) → b ≡ false
none_there true x e = cc e
none_there false x e = refl

some_there : (b : Bool) (x y : ℕ) → Some y ≡ (if b then Some x else None) → (b ≡ true) × (x ≡ y)
some_there true x y e = (refl, some _ _ (sym e))
some_there false x y e = cc e

not_empty : (n : ℕ) → (n == 0) ≡ false → 0 < n
not_empty n e = grind (arith, nat_tests)

-- the last segment
pub segments_end : {H : Type 0} (view : H → LocalSegmentValue) (local_segment : List H) (s : H) (k c : ℕ) (t prefix after : List ℕ) → prefix ≡ lead is_ascii_alphanumeric t → after ≡ past is_ascii_alphanumeric t → (length prefix == 0) ≡ false
    → (let o : Option ℕ = None in o) ≡ (if starts is_separator after then Some (first_byte after) else None) → view s ≡ parse_segment prefix
    → with_segments (map view local_segment) (parse_segments (suc k) c t) ≡ Ok (map view (local_segment ++ s ∷ []), after)
segments_end view local_segment s k c t prefix after f a some none v =
    let first = lead_not_empty is_ascii_alphanumeric t (subst (λ l. 0 < length l) f (not_empty (length prefix) some)) in
    let stop = subst (λ l. starts is_separator l ≡ false) a (none_there (starts is_separator after) (first_byte after) none) in
    last_segment k c t (map view local_segment) first stop ∙ rw (map_one view local_segment s, v, f, a) refl

-- one segment of several
pub segments_on : {H : Type 0} (view : H → LocalSegmentValue) (local_segment : List H) (s : H) (k c sep : ℕ) (t prefix after : List ℕ) → prefix ≡ lead is_ascii_alphanumeric t → after ≡ past is_ascii_alphanumeric t → (length prefix == 0) ≡ false
    → Some sep ≡ (if starts is_separator after then Some (first_byte after) else None) → view s ≡ parse_segment prefix
    → with_segments (map view local_segment) (parse_segments (suc k) c t) ≡ with_segments (map view (local_segment ++ s ∷ [])) (parse_segments k sep (drop 1 after))
segments_on view local_segment s k c sep t prefix after f a some there v =
    let first = lead_not_empty is_ascii_alphanumeric t (subst (λ l. 0 < length l) f (not_empty (length prefix) some)) in
    let both = some_there (starts is_separator after) (first_byte after) sep there in
    let go = subst (λ l. starts is_separator l ≡ true) a both.0 in
    next_segment k c t (map view local_segment) first go ∙ rw (map_one view local_segment s, v, f, sym both.1, a) refl
