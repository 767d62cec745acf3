-- A part that is spelled is read so.
use Rattle.std.proofs.Common.{◌≡◌, ◌≤◌, ◌==◌, ◌||◌, ◌&&◌, ℕ, Bool, true, false, List, [], ◌∷◌, ◌++◌, refl, sym, ap, ◌∙◌, arith, drop, length, inl, inr, Ok, Option, Some, None, map, codes, get_or, nat_le, take, subst, eqb-true}
use Rattle.std.proofs.lemmas.Bool.Decides.{nat_tests}
use Rattle.std.proofs.lemmas.List.{append_assoc, length-map, take-append-drop}
use Rattle.std.proofs.Math.Seq.{drop-append_seam}
use Rattle.std.specs.Char.{is_ascii_digit, to_ascii_lowercase}
use Rattle.pep440_version.specs.declared.prerelease.PrereleaseKind.{PrereleaseKind}
use Rattle.pep440_version.specs.Grammar.{IsNumber, Spellings, IsSpelling, IsSpelled, IsSeparator, IsCount, is_separator, pre_spellings, post_spellings, dev_spellings, starts}
use Rattle.pep440_version.specs.Suffixes.{starts_with_word, spelled, skip_separator, parse_count, parse_suffix, is_implicit_post, after_spelling}
use Rattle.pep440_version.proofs.Reading.ReadIsDerived.{number_first, number_again, bind_ok, chosen, inside, number_takes, number_stops}
use Rattle.std.proofs.lemmas.Bool.{cases_Bool}
use Rattle.pep440_version.specs.Reading.{starts_with_number}
use Rattle.pep440_version.proofs.Reading.Prefixes.{both_first, both_second}

-- a word and its spelling look alike
pub begins_lower : (v w u rest : List ℕ) → map to_ascii_lowercase w ≡ u → map to_ascii_lowercase u ≡ u → starts_with_word v (w ++ rest) ≡ starts_with_word v (u ++ rest)
begins_lower [] w u rest e lower = refl
begins_lower (c ∷ cs) [] [] rest e lower = refl
begins_lower (c ∷ cs) [] (d ∷ u) rest e lower = cc e
begins_lower (c ∷ cs) (b ∷ w) [] rest e lower = cc e
begins_lower (c ∷ cs) (b ∷ w) (d ∷ u) rest e lower =
    let one : to_ascii_lowercase b ≡ d = ap (λ l. get_or l 0 0) e in
    let same : to_ascii_lowercase d ≡ d = ap (λ l. get_or l 0 0) lower in
    rw (one, same, begins_lower cs w u rest (ap (drop 1) e) (ap (drop 1) lower)) refl

-- letters that go on from a shorter spelling to a longer one: l, e, v and c
abbrev pub is_extension : ℕ → Bool
is_extension b = (to_ascii_lowercase b == 108) || (to_ascii_lowercase b == 101) || (to_ascii_lowercase b == 118) || (to_ascii_lowercase b == 99)

pub spelled_lower : {A : Type 0} (table : Spellings A) (w u rest : List ℕ) → map to_ascii_lowercase w ≡ u → map to_ascii_lowercase u ≡ u → spelled table (w ++ rest) ≡ spelled table (u ++ rest)
spelled_lower [] w u rest e lower = refl
spelled_lower (s ∷ more) w u rest e lower = rw (begins_lower s.0 w u rest e lower, spelled_lower more w u rest e lower) refl

-- no longer spelling goes on there
record Stops (rest : List ℕ) : Type 0 where
  l : (cs : List ℕ) → starts_with_word (108 ∷ cs) rest ≡ false
  e : (cs : List ℕ) → starts_with_word (101 ∷ cs) rest ≡ false
  v : (cs : List ℕ) → starts_with_word (118 ∷ cs) rest ≡ false
  c : (cs : List ℕ) → starts_with_word (99 ∷ cs) rest ≡ false

four_false : (a b c d : Bool) → (a || b || c || d) ≡ false → (a ≡ false) × (b ≡ false) × (c ≡ false) × (d ≡ false)
four_false false false false false e = (refl, refl, refl, refl)
four_false true b c d e = cc e
four_false false true c d e = cc e
four_false false false true d e = cc e
four_false false false false true e = cc e

stops : (rest : List ℕ) → starts is_extension rest ≡ false → Stops rest
stops [] x = record { l = λ cs. refl; e = λ cs. refl; v = λ cs. refl; c = λ cs. refl }
stops (b ∷ t) x =
    let f = four_false (to_ascii_lowercase b == 108) (to_ascii_lowercase b == 101) (to_ascii_lowercase b == 118) (to_ascii_lowercase b == 99) x in
    record { l = λ cs. rw f.0 refl; e = λ cs. rw f.1 refl; v = λ cs. rw f.2 refl; c = λ cs. rw f.3 refl }

named : {A : Type 0} (w u : List ℕ) (a b : A) → map to_ascii_lowercase w ≡ u → a ≡ b → (let o : Option (A × ℕ) = Some (b, length u) in o) ≡ Some (a, length w)
named w u a b e same = let long : length u ≡ length w = ap length (sym e) ∙ length-map w to_ascii_lowercase in rw (same, long) refl

pub spelled_pre : (w rest : List ℕ) (a : PrereleaseKind) → IsSpelling pre_spellings w a → starts is_extension rest ≡ false → spelled pre_spellings (w ++ rest) ≡ Some (a, length w)
spelled_pre w rest a (inl h) x = spelled_lower pre_spellings w (codes "alpha") rest h.0 refl ∙ named w (codes "alpha") a _ h.0 h.1
spelled_pre w rest a (inr (inl h)) x = let s = stops rest x in
    spelled_lower pre_spellings w (codes "a") rest h.0 refl ∙ rw (s.l (codes "pha")) (named w (codes "a") a _ h.0 h.1)
spelled_pre w rest a (inr (inr (inl h))) x = spelled_lower pre_spellings w (codes "beta") rest h.0 refl ∙ named w (codes "beta") a _ h.0 h.1
spelled_pre w rest a (inr (inr (inr (inl h)))) x = let s = stops rest x in
    spelled_lower pre_spellings w (codes "b") rest h.0 refl ∙ rw (s.e (codes "ta")) (named w (codes "b") a _ h.0 h.1)
spelled_pre w rest a (inr (inr (inr (inr (inl h))))) x = spelled_lower pre_spellings w (codes "rc") rest h.0 refl ∙ named w (codes "rc") a _ h.0 h.1
spelled_pre w rest a (inr (inr (inr (inr (inr (inl h)))))) x = spelled_lower pre_spellings w (codes "c") rest h.0 refl ∙ named w (codes "c") a _ h.0 h.1
spelled_pre w rest a (inr (inr (inr (inr (inr (inr (inl h))))))) x = spelled_lower pre_spellings w (codes "preview") rest h.0 refl ∙ named w (codes "preview") a _ h.0 h.1
spelled_pre w rest a (inr (inr (inr (inr (inr (inr (inr (inl h)))))))) x = let s = stops rest x in
    spelled_lower pre_spellings w (codes "pre") rest h.0 refl ∙ rw (s.v (codes "iew")) (named w (codes "pre") a _ h.0 h.1)
spelled_pre w rest a (inr (inr (inr (inr (inr (inr (inr (inr none)))))))) x = elim none [ ]

pub spelled_post : (w rest : List ℕ) → IsSpelling post_spellings w tt → starts is_extension rest ≡ false → spelled post_spellings (w ++ rest) ≡ Some (tt, length w)
spelled_post w rest (inl h) x = spelled_lower post_spellings w (codes "post") rest h.0 refl ∙ named w (codes "post") tt _ h.0 h.1
spelled_post w rest (inr (inl h)) x = spelled_lower post_spellings w (codes "rev") rest h.0 refl ∙ named w (codes "rev") tt _ h.0 h.1
spelled_post w rest (inr (inr (inl h))) x = let s = stops rest x in
    spelled_lower post_spellings w (codes "r") rest h.0 refl ∙ rw (s.e (codes "v")) (named w (codes "r") tt _ h.0 h.1)
spelled_post w rest (inr (inr (inr none))) x = elim none [ ]

pub spelled_dev : (w rest : List ℕ) → IsSpelling dev_spellings w tt → spelled dev_spellings (w ++ rest) ≡ Some (tt, length w)
spelled_dev w rest (inl h) = spelled_lower dev_spellings w (codes "dev") rest h.0 refl ∙ named w (codes "dev") tt _ h.0 h.1
spelled_dev w rest (inr none) = elim none [ ]

-- a post or a dev is no pre, and a dev is no post
pub post_no_pre : (w rest : List ℕ) → IsSpelling post_spellings w tt → starts is_extension rest ≡ false → spelled pre_spellings (w ++ rest) ≡ None
post_no_pre w rest (inl h) x = spelled_lower pre_spellings w (codes "post") rest h.0 refl
post_no_pre w rest (inr (inl h)) x = spelled_lower pre_spellings w (codes "rev") rest h.0 refl
post_no_pre w rest (inr (inr (inl h))) x = let s = stops rest x in spelled_lower pre_spellings w (codes "r") rest h.0 refl ∙ rw (s.c []) refl
post_no_pre w rest (inr (inr (inr none))) x = elim none [ ]

pub dev_no_pre : (w rest : List ℕ) → IsSpelling dev_spellings w tt → spelled pre_spellings (w ++ rest) ≡ None
dev_no_pre w rest (inl h) = spelled_lower pre_spellings w (codes "dev") rest h.0 refl
dev_no_pre w rest (inr none) = elim none [ ]

pub dev_no_post : (w rest : List ℕ) → IsSpelling dev_spellings w tt → spelled post_spellings (w ++ rest) ≡ None
dev_no_post w rest (inl h) = spelled_lower post_spellings w (codes "dev") rest h.0 refl
dev_no_post w rest (inr none) = elim none [ ]

-- ---- a part that is spelled

-- each spelling begins with a lower-case letter
abbrev pub BeginWithLetters : {A : Type 0} → Spellings A → Type 0
BeginWithLetters [] = Unit {0}
BeginWithLetters (s ∷ rest) = ((97 ≤ get_or s.0 0 0) × (get_or s.0 0 0 ≤ 122)) × BeginWithLetters rest

letter_no_separator : (b c : ℕ) → to_ascii_lowercase b ≡ c → 97 ≤ c → is_separator b ≡ false
letter_no_separator b c e low = grind (arith, nat_tests)

pub no_separator : {A : Type 0} (table : Spellings A) (w rest : List ℕ) (a : A) → BeginWithLetters table → IsSpelling table w a → starts is_separator (w ++ rest) ≡ false
no_separator [] w rest a l h = elim h [ ]
no_separator (s ∷ more) [] rest a l (inl h) = let none : get_or s.0 0 0 ≡ 0 = ap (λ t. get_or t 0 0) (sym h.0) in absurd (omega (arith, none, l.0.0))
no_separator (s ∷ more) (b ∷ w) rest a l (inl h) = letter_no_separator b (get_or s.0 0 0) (ap (λ t. get_or t 0 0) h.0) l.0.0
no_separator (s ∷ more) w rest a l (inr h) = no_separator more w rest a l.1 h

separator_again : (before t : List ℕ) → IsSeparator before → starts is_separator t ≡ false → skip_separator (before ++ t) ≡ t
separator_again before t (inl e) s = rw (e, s) refl
separator_again before t (inr h) s = rw (h.2, h.1) refl

pub digit_no_separator : (b : ℕ) → is_ascii_digit b ≡ true → is_separator b ≡ false
digit_no_separator b d = grind (arith, nat_tests)

starts_no_separator : (t : List ℕ) → starts is_ascii_digit t ≡ true → starts is_separator t ≡ false
starts_no_separator [] s = refl
starts_no_separator (b ∷ t) s = digit_no_separator b s

-- the separator after a spelling is passed, and the count is read
count_again : (between digits after : List ℕ) (n : ℕ) → IsSeparator between → IsCount digits n → (between ≡ [] → digits ≡ [] → starts is_separator after ≡ false) → starts is_ascii_digit after ≡ false
    → parse_count (skip_separator (between ++ (digits ++ after))) ≡ Ok (n, after)
count_again between digits after n (inl e) (inl h) keeps stop = rw (e, h.0, h.1, keeps e h.0, stop) refl
count_again between digits after n (inl e) (inr h) keeps stop =
    let first = number_first digits after n h in
    rw (e, starts_no_separator (digits ++ after) first, first) (number_again digits after n h stop)
count_again between digits after n (inr s) (inl h) keeps stop = rw (s.2, s.1, h.0, h.1, stop) refl
count_again between digits after n (inr s) (inr h) keeps stop =
    rw (s.2, s.1, number_first digits after n h) (number_again digits after n h stop)

pub suffix_again : {A : Type 0} (table : Spellings A) (part after : List ℕ) (a : A) (n : ℕ) → BeginWithLetters table → (h : IsSpelled table part after a n)
    → spelled table (h.word ++ (h.between ++ (h.digits ++ after))) ≡ Some (a, length h.word) → parse_suffix table (part ++ after) ≡ Ok (Some (a, n), after)
suffix_again table part after a n letters h found =
    let rest : List ℕ = h.between ++ (h.digits ++ after) in
    let decomposition : part ++ after ≡ h.before ++ (h.word ++ rest) = rw (h.decomposition, append_assoc h.before (h.word ++ (h.between ++ h.digits)) after, append_assoc h.word (h.between ++ h.digits) after, append_assoc h.between h.digits after) refl in
    let past : skip_separator (h.before ++ (h.word ++ rest)) ≡ h.word ++ rest = separator_again h.before (h.word ++ rest) h.first (no_separator table h.word rest a letters h.spelling) in
    rw (decomposition, past, found, drop-append_seam h.word rest, count_again h.between h.digits after n h.second h.count h.keeps_separator h.keeps_digits) refl

letter : {c : ℕ} → 97 ≤ c → c ≤ 122 → (97 ≤ c) × (c ≤ 122)
letter low high = (low, high)

pub letters_pre : BeginWithLetters pre_spellings
letters_pre = (
  letter (omega arith) (omega arith),
  (
    letter (omega arith) (omega arith),
    (
      letter (omega arith) (omega arith),
      (
        letter (omega arith) (omega arith),
        (letter (omega arith) (omega arith), (letter (omega arith) (omega arith), (letter (omega arith) (omega arith), (letter (omega arith) (omega arith), tt)))),
      ),
    ),
  ),
)

pub letters_post : BeginWithLetters post_spellings
letters_post = (letter (omega arith) (omega arith), (letter (omega arith) (omega arith), (letter (omega arith) (omega arith), tt)))

-- ---- a part that is not there

-- a byte that is no letter
unfoldable pub is_letter : ℕ → Bool
is_letter b = nat_le 97 (to_ascii_lowercase b) && nat_le (to_ascii_lowercase b) 122

no_letter : (b c : ℕ) → is_letter b ≡ false → 97 ≤ c → c ≤ 122 → (to_ascii_lowercase b == c) ≡ false
unfolding is_letter
no_letter b c n low high = grind (arith, nat_tests)

none_spelled : {A : Type 0} (table : Spellings A) (t : List ℕ) → BeginWithLetters table → starts is_letter t ≡ false → spelled table t ≡ None
none_spelled [] t l n = refl
none_spelled (s ∷ more) t l n = rw (at s.0 t l.0 n, none_spelled more t l.1 n) refl
  where
    at : (u : List ℕ) (t : List ℕ) → (97 ≤ get_or u 0 0) × (get_or u 0 0 ≤ 122) → starts is_letter t ≡ false → starts_with_word u t ≡ false
    at [] t l n = absurd (omega (arith, l.0))
    at (c ∷ cs) [] l n = refl
    at (c ∷ cs) (b ∷ t) l n = rw (no_letter b c n l.0 l.1) refl

pub digit_no_letter : (b : ℕ) → is_ascii_digit b ≡ true → is_letter b ≡ false
unfolding is_letter
digit_no_letter b d = grind (arith, nat_tests)

-- neither a separator nor a letter stands there
pub absent_before : {A : Type 0} (table : Spellings A) (t : List ℕ) → BeginWithLetters table → starts is_separator t ≡ false → starts is_letter t ≡ false → parse_suffix table t ≡ Ok (None, t)
absent_before table t l s n = rw (s, none_spelled table t l n) refl

-- a part of another table stands there
pub absent_spelled : {A B : Type 0} (table : Spellings A) (other : Spellings B) (part after : List ℕ) (a : B) (n : ℕ) → BeginWithLetters other → (h : IsSpelled other part after a n)
    → spelled table (h.word ++ (h.between ++ (h.digits ++ after))) ≡ None → parse_suffix table (part ++ after) ≡ Ok (None, part ++ after)
absent_spelled table other part after a n letters h none =
    let rest : List ℕ = h.between ++ (h.digits ++ after) in
    let decomposition : part ++ after ≡ h.before ++ (h.word ++ rest) = rw (h.decomposition, append_assoc h.before (h.word ++ (h.between ++ h.digits)) after, append_assoc h.word (h.between ++ h.digits) after, append_assoc h.between h.digits after) refl in
    let past : skip_separator (part ++ after) ≡ h.word ++ rest = ap skip_separator decomposition ∙ separator_again h.before (h.word ++ rest) h.first (no_separator other h.word rest a letters h.spelling) in
    rw (past, none) refl

pub letters_dev : BeginWithLetters dev_spellings
letters_dev = (letter (omega arith) (omega arith), tt)

-- ---- how a part that is spelled begins

pub regroup : {A : Type 0} (table : Spellings A) (part after : List ℕ) (a : A) (n : ℕ) → (h : IsSpelled table part after a n) → part ++ after ≡ h.before ++ (h.word ++ (h.between ++ (h.digits ++ after)))
regroup table part after a n h = rw (h.decomposition, append_assoc h.before (h.word ++ (h.between ++ h.digits)) after, append_assoc h.word (h.between ++ h.digits) after, append_assoc h.between h.digits after) refl

pub and_false : (a : Bool) → (a && false) ≡ false
and_false true = refl
and_false false = refl

letter_no_dash : (b c : ℕ) → to_ascii_lowercase b ≡ c → 97 ≤ c → c ≤ 122 → (b == 45) ≡ false
letter_no_dash b c e low high = grind (arith, nat_tests)

letter_no_digit : (b c : ℕ) → to_ascii_lowercase b ≡ c → 97 ≤ c → c ≤ 122 → is_ascii_digit b ≡ false
letter_no_digit b c e low high = grind (arith, nat_tests)

word_begins : {A : Type 0} (table : Spellings A) (w rest : List ℕ) (a : A) → BeginWithLetters table → IsSpelling table w a → (starts (λ b. b == 45) (w ++ rest) ≡ false) × (starts is_ascii_digit (w ++ rest) ≡ false)
word_begins [] w rest a l h = elim h [ ]
word_begins (s ∷ more) [] rest a l (inl h) = let none : get_or s.0 0 0 ≡ 0 = ap (λ t. get_or t 0 0) (sym h.0) in absurd (omega (arith, none, l.0.0))
word_begins (s ∷ more) (b ∷ w) rest a l (inl h) =
    let e = ap (λ t. get_or t 0 0) h.0 in
    (letter_no_dash b (get_or s.0 0 0) e l.0.0 l.0.1, letter_no_digit b (get_or s.0 0 0) e l.0.0 l.0.1)
word_begins (s ∷ more) w rest a l (inr h) = word_begins more w rest a l.1 h

bare_before : (before t : List ℕ) → IsSeparator before → starts (λ b. b == 45) t ≡ false → starts is_ascii_digit t ≡ false → is_implicit_post (before ++ t) ≡ false
bare_before before t (inl e) dash digit = rw (e, dash) refl
bare_before before t (inr h) dash digit = rw (h.2, digit) (and_false (h.0 == 45))

pub not_bare : {A : Type 0} (table : Spellings A) (part after : List ℕ) (a : A) (n : ℕ) → BeginWithLetters table → (h : IsSpelled table part after a n) → is_implicit_post (part ++ after) ≡ false
not_bare table part after a n l h =
    let rest : List ℕ = h.between ++ (h.digits ++ after) in
    let w = word_begins table h.word rest a l h.spelling in
    rw (regroup table part after a n h) (bare_before h.before (h.word ++ rest) h.first w.0 w.1)

separator_no_extension : (b : ℕ) → is_separator b ≡ true → is_extension b ≡ false
separator_no_extension b s = grind (arith, nat_tests)

digit_no_extension : (b : ℕ) → is_ascii_digit b ≡ true → is_extension b ≡ false
digit_no_extension b s = grind (arith, nat_tests)

extension_before : (before t : List ℕ) → IsSeparator before → starts is_extension t ≡ false → starts is_extension (before ++ t) ≡ false
extension_before before t (inl e) x = rw e x
extension_before before t (inr h) x = rw h.2 (separator_no_extension h.0 h.1)

is_extension_letter : ℕ → Bool
is_extension_letter c = (c == 108) || (c == 101) || (c == 118) || (c == 99)

extension_word : (w rest : List ℕ) (c : ℕ) (u : List ℕ) → map to_ascii_lowercase w ≡ c ∷ u → is_extension_letter c ≡ false → starts is_extension (w ++ rest) ≡ false
unfolding is_extension_letter
extension_word [] rest c u e x = cc e
extension_word (b ∷ w) rest c u e x = let one : to_ascii_lowercase b ≡ c = ap (λ t. get_or t 0 0) e in rw one x

pub post_extension : (part after : List ℕ) (n : ℕ) → IsSpelled post_spellings part after tt n → starts is_extension (part ++ after) ≡ false
unfolding is_extension_letter
post_extension part after n h =
    rw (regroup post_spellings part after tt n h) (extension_before h.before (h.word ++ (h.between ++ (h.digits ++ after))) h.first (word h.word h.spelling))
  where
    word : (w : List ℕ) → IsSpelling post_spellings w tt → starts is_extension (w ++ (h.between ++ (h.digits ++ after))) ≡ false
    word w (inl e) = extension_word w _ 112 (codes "ost") e.0 refl
    word w (inr (inl e)) = extension_word w _ 114 (codes "ev") e.0 refl
    word w (inr (inr (inl e))) = extension_word w _ 114 [] e.0 refl
    word w (inr (inr (inr e))) = elim e [ ]

pub dev_extension : (part after : List ℕ) (n : ℕ) → IsSpelled dev_spellings part after tt n → starts is_extension (part ++ after) ≡ false
unfolding is_extension_letter
dev_extension part after n h =
    rw (regroup dev_spellings part after tt n h) (extension_before h.before (h.word ++ (h.between ++ (h.digits ++ after))) h.first (word h.word h.spelling))
  where
    word : (w : List ℕ) → IsSpelling dev_spellings w tt → starts is_extension (w ++ (h.between ++ (h.digits ++ after))) ≡ false
    word w (inl e) = extension_word w _ 100 (codes "ev") e.0 refl
    word w (inr e) = elim e [ ]

-- what stands after a spelling goes on no spelling
pub count_extension : (between digits after : List ℕ) (n : ℕ) → IsSeparator between → IsCount digits n → starts is_extension after ≡ false → starts is_extension (between ++ (digits ++ after)) ≡ false
count_extension between digits after n s (inl h) x = rw h.0 (extension_before between after s x)
count_extension between digits after n s (inr h) x = extension_before between (digits ++ after) s (number (digits ++ after) (number_first digits after n h))
  where
    number : (t : List ℕ) → starts is_ascii_digit t ≡ true → starts is_extension t ≡ false
    number [] d = refl
    number (b ∷ t) d = digit_no_extension b d

-- `-` and digits: no spelling stands there
pub absent_digits : {A : Type 0} (table : Spellings A) (digits after : List ℕ) (n : ℕ) → BeginWithLetters table → IsNumber digits n → parse_suffix table (45 ∷ (digits ++ after)) ≡ Ok (None, 45 ∷ (digits ++ after))
absent_digits table digits after n l h = rw (none_spelled table (digits ++ after) l (number (digits ++ after) (number_first digits after n h))) refl
  where
    number : (t : List ℕ) → starts is_ascii_digit t ≡ true → starts is_letter t ≡ false
    number [] d = refl
    number (b ∷ t) d = digit_no_letter b d

pub separator_no_digit : (b : ℕ) → is_separator b ≡ true → is_ascii_digit b ≡ false
separator_no_digit b s = grind (arith, nat_tests)

digit_before : (before t : List ℕ) → IsSeparator before → starts is_ascii_digit t ≡ false → starts is_ascii_digit (before ++ t) ≡ false
digit_before before t (inl e) x = rw e x
digit_before before t (inr h) x = rw h.2 (separator_no_digit h.0 h.1)

pub no_digit : {A : Type 0} (table : Spellings A) (part after : List ℕ) (a : A) (n : ℕ) → BeginWithLetters table → (h : IsSpelled table part after a n) → starts is_ascii_digit (part ++ after) ≡ false
no_digit table part after a n l h =
    let rest : List ℕ = h.between ++ (h.digits ++ after) in
    rw (regroup table part after a n h) (digit_before h.before (h.word ++ rest) h.first (word_begins table h.word rest a l h.spelling).1)

-- ---- what is read as a part that is spelled is one

begins_takes : (u t : List ℕ) → starts_with_word u t ≡ true → map to_ascii_lowercase (take (length u) t) ≡ u
begins_takes [] t e = refl
begins_takes (c ∷ cs) [] e = cc e
begins_takes (c ∷ cs) (b ∷ t) e =
    let one : to_ascii_lowercase b ≡ c = eqb-true _ _ (both_first _ _ e) in
    let more = begins_takes cs t (both_second (to_ascii_lowercase b == c) _ e) in
    λ i. one i ∷ more i

pub some : {A : Type 0} (x y : A) → (let o : Option A = Some x in o) ≡ Some y → x ≡ y
some {A} x y e = ap (λ (o : Option A). elim o as (λ _. A) [ Some z ↦ z | None ↦ x ]) e

spelled_takes : {A : Type 0} (table : Spellings A) (t : List ℕ) (a : A) (k : ℕ) → spelled table t ≡ Some (a, k) → IsSpelling table (take k t) a
spelled_takes [] t a k e = cc e
spelled_takes {A} (s ∷ more) t a k e = elim (chosen (starts_with_word s.0 t) _ _ _ e) [
  | inl h ↦
      let same = some _ _ h.1 in
      let long : length s.0 ≡ k = ap (λ (p : A × ℕ). p.1) same in
      inl (ap (λ j. map to_ascii_lowercase (take j t)) (sym long) ∙ begins_takes s.0 t h.0, sym (ap (λ (p : A × ℕ). p.0) same))
  | inr h ↦ inr (spelled_takes more t a k h.1)
]

separator_takes : (t : List ℕ) → (b : List ℕ) × IsSeparator b × (t ≡ b ++ skip_separator t) × (b ≡ [] → starts is_separator t ≡ false)
separator_takes [] = ([], inl refl, refl, λ _. refl)
separator_takes (c ∷ t) = elim (cases_Bool (is_separator c)) [
  | inl e ↦ (c ∷ [], inr (c, e, refl), rw e refl, λ h. cc h)
  | inr e ↦ ([], inl refl, rw e refl, λ _. e)
]

count_takes : (t : List ℕ) (n : ℕ) (after : List ℕ) → parse_count t ≡ Ok (n, after) → (ds : List ℕ) × IsCount ds n × (t ≡ ds ++ after) × (starts is_ascii_digit after ≡ false)
count_takes t n after e = elim (chosen (starts_with_number t) _ _ _ e) [
  | inl h ↦ let x = number_takes t (n, after) h.0 h.1 in (x.0, inr x.1, x.2, number_stops t (n, after) h.1)
  | inr h ↦
      let same = inside _ _ h.1 in
      let none : 0 ≡ n = ap (λ (p : ℕ × List ℕ). p.0) same in
      let rest : t ≡ after = ap (λ (p : ℕ × List ℕ). p.1) same in
      ([], inl (refl, sym none), rest, subst (λ l. starts is_ascii_digit l ≡ false) rest h.0)
]

pub suffix_takes : {A : Type 0} (table : Spellings A) (t after : List ℕ) (a : A) (n : ℕ) → parse_suffix table t ≡ Ok (Some (a, n), after) → (part : List ℕ) × IsSpelled table part after a n × (t ≡ part ++ after)
suffix_takes {A} table t after a n e = by (spelled table (skip_separator t)) refl e
  where
    by : (o : Option (A × ℕ)) → spelled table (skip_separator t) ≡ o → after_spelling t (skip_separator t) o ≡ Ok (Some (a, n), after) → (part : List ℕ) × IsSpelled table part after a n × (t ≡ part ++ after)
    by None s e = let none = ap (λ (p : Option (A × ℕ) × List ℕ). p.0) (inside _ _ e) in cc none
    by (Some x) s e =
        let first = separator_takes t in
        let word : List ℕ = take x.1 (skip_separator t) in
        let rest : List ℕ = drop x.1 (skip_separator t) in
        let second = separator_takes rest in
        let read = bind_ok (parse_count (skip_separator rest)) _ _ e in
        let same = inside _ _ read.2 in
        let answer : Some (x.0, read.0.0) ≡ Some (a, n) = ap (λ (p : Option (A × ℕ) × List ℕ). p.0) same in
        let pair = some _ _ answer in
        let which : x.0 ≡ a = ap (λ (p : A × ℕ). p.0) pair in
        let number : read.0.0 ≡ n = ap (λ (p : A × ℕ). p.1) pair in
        let left : read.0.1 ≡ after = ap (λ (p : Option (A × ℕ) × List ℕ). p.1) same in
        let count = count_takes (skip_separator rest) n after (read.1 ∙ (λ i. Ok (number i, left i))) in
        let decomposition : t ≡ (first.0 ++ (word ++ (second.0 ++ count.0))) ++ after =
        first.2 ∙ ap (λ l. first.0 ++ l) (sym (take-append-drop x.1 (skip_separator t)) ∙ ap (λ l. word ++ l) (second.2 ∙ ap (λ l. second.0 ++ l) count.2))
        ∙ sym (append_assoc first.0 (word ++ (second.0 ++ count.0)) after ∙ ap (λ l. first.0 ++ l) (append_assoc word (second.0 ++ count.0) after ∙ ap (λ l. word ++ l) (append_assoc second.0 count.0 after))) in
        let bare : second.0 ≡ [] → count.0 ≡ [] → rest ≡ after = λ e f. second.2 ∙ ap (λ b. b ++ skip_separator rest) e ∙ count.2 ∙ ap (λ d. d ++ after) f in (
          first.0 ++ (word ++ (second.0 ++ count.0)),
          record {
            before = first.0;
            word = word;
            between = second.0;
            digits = count.0;
            decomposition = refl;
            first = first.1;
            spelling = subst (IsSpelling table word) which (spelled_takes table (skip_separator t) x.0 x.1 s);
            second = second.1;
            count = count.1;
            keeps_separator = λ e f. subst (λ l. starts is_separator l ≡ false) (bare e f) (second.3 e);
            keeps_digits = count.3;
          },
          decomposition,
        )
