-- What may follow a release.
use Rattle.std.proofs.Common.{◌≡◌, ℕ, false, List, ◌++◌, refl, inl, inr, Ok, Option, Some, None, ◌≤◌, ◌<◌, ◌==◌, true, [], ◌∷◌, sym, ap, arith, get_or, suc, zero, length, drop, ◌∙◌, Err, if◌then◌else◌, option_map}
use Rattle.std.specs.Char.{is_ascii_digit, to_ascii_lowercase, is_ascii_whitespace}
use Rattle.pep440_version.specs.declared.prerelease.Prerelease.{Prerelease}
use Rattle.pep440_version.specs.Grammar.{is_separator, pre_spellings, post_spellings, dev_spellings, IsPre, IsPost, IsDev, starts, AreBlanks, Spellings, IsSpelling, IsSpelled, IsSeparator, IsLocal}
use Rattle.pep440_version.specs.Suffixes.{is_implicit_post, parse_pre, parse_post, parse_dev, spelled, skip_separator, parse_count, after_spelling, parse_suffix, suffix_prerelease, suffix_number}
use Rattle.pep440_version.proofs.Reading.ReadIsDerived.{number_first, number_again, drop_one, number_takes}
use Rattle.pep440_version.proofs.Reading.SpelledIsRead.{is_extension, is_letter, letters_pre, letters_post, letters_dev, suffix_again, absent_before, absent_spelled, spelled_pre, spelled_post, spelled_dev, post_no_pre, dev_no_pre, dev_no_post, not_bare, no_digit, post_extension, dev_extension, count_extension, absent_digits, BeginWithLetters, regroup, separator_no_digit, and_false, some}
use Rattle.std.proofs.lemmas.Bool.Decides.{nat_tests}
use Rattle.std.specs.List.{list_all}
use Rattle.pep440_version.specs.Reading.{has_next_number, Read, ◌>>=◌, starts_with_number, parse_number, parse_release, parse_more_numbers, parse_release_from}
use Rattle.pep440_version.specs.Record.{LocalSegmentValue}
use Rattle.pep440_version.specs.Whole.{starts_with_star, parse_release_after_first, parse_epoch_and_release}
use Rattle.pep440_version.proofs.Reading.Prefixes.{both_first, blank_not_digit, blank_not_dot, blank_not_bang, both_second}
use Rattle.pep440_version.proofs.Reading.LocalAgrees.{blank_not_separator}
use Rattle.std.proofs.lemmas.Bool.{cases_Bool}
use Rattle.std.proofs.lemmas.List.{append_assoc, append-nil, length-append}
use Rattle.pep440_version.specs.Rejections.{Rejection}
use Rattle.pep440_version.proofs.Reading.Digits.{with_prefix}
use Rattle.pep440_version.specs.declared.prerelease.PrereleaseKind.{PrereleaseKind}

-- ---- the parts after the release are read as the grammar cuts them: one cut, one reading

-- neither a separator, nor a letter, nor a digit
pub record IsQuiet (t : List ℕ) : Type 0 where
  pub separator : starts is_separator t ≡ false
  pub letter : starts is_letter t ≡ false
  pub digit : starts is_ascii_digit t ≡ false
  pub extension : starts is_extension t ≡ false
  pub bare : is_implicit_post t ≡ false

-- what stands at a dev or a quiet end goes on no spelling
ends_extension : (d rest : List ℕ) (dev : Option ℕ) → IsDev d rest dev → IsQuiet rest → starts is_extension (d ++ rest) ≡ false
ends_extension d rest None h quiet = rw h quiet.extension
ends_extension d rest (Some n) h quiet = dev_extension d rest n h

ends_digit : (d rest : List ℕ) (dev : Option ℕ) → IsDev d rest dev → IsQuiet rest → starts is_ascii_digit (d ++ rest) ≡ false
ends_digit d rest None h quiet = rw h quiet.digit
ends_digit d rest (Some n) h quiet = no_digit dev_spellings d rest tt n letters_dev h

tail_extension : (q d rest : List ℕ) (post dev : Option ℕ) → IsPost q (d ++ rest) post → IsDev d rest dev → IsQuiet rest → starts is_extension (q ++ (d ++ rest)) ≡ false
tail_extension q d rest None dev h g quiet = rw h (ends_extension d rest dev g quiet)
tail_extension q d rest (Some n) dev (inl h) g quiet = rw h.2 refl
tail_extension q d rest (Some n) dev (inr h) g quiet = post_extension q (d ++ rest) n h

pub dev_again : (d rest : List ℕ) (dev : Option ℕ) → IsDev d rest dev → IsQuiet rest → parse_dev (d ++ rest) ≡ Ok (dev, rest)
dev_again d rest None h quiet = rw (h, absent_before dev_spellings rest letters_dev quiet.separator quiet.letter) refl
dev_again d rest (Some n) h quiet = rw (suffix_again dev_spellings d rest tt n letters_dev h (spelled_dev h.word (h.between ++ (h.digits ++ rest)) h.spelling)) refl

pub post_again : (q d rest : List ℕ) (post dev : Option ℕ) → IsPost q (d ++ rest) post → IsDev d rest dev → IsQuiet rest → parse_post (q ++ (d ++ rest)) ≡ Ok (post, d ++ rest)
post_again q d rest None None h g quiet = rw (h, g, quiet.bare, absent_before post_spellings rest letters_post quiet.separator quiet.letter) refl
post_again q d rest None (Some n) h g quiet =
    rw (h, not_bare dev_spellings d rest tt n letters_dev g, absent_spelled post_spellings dev_spellings d rest tt n letters_dev g (dev_no_post g.word (g.between ++ (g.digits ++ rest)) g.spelling)) refl
post_again q d rest (Some m) dev (inl h) g quiet =
    rw (h.2, number_first h.0 (d ++ rest) m h.1, number_again h.0 (d ++ rest) m h.1 (ends_digit d rest dev g quiet)) refl
post_again q d rest (Some m) dev (inr h) g quiet =
    rw (
      not_bare post_spellings q (d ++ rest) tt m letters_post h,
      suffix_again post_spellings q (d ++ rest) tt m letters_post h (spelled_post h.word (h.between ++ (h.digits ++ (d ++ rest))) h.spelling
          (count_extension h.between h.digits (d ++ rest) m h.second h.count (ends_extension d rest dev g quiet))),
    ) refl

pub pre_again : (p q d rest : List ℕ) (pre : Option Prerelease) (post dev : Option ℕ) → IsPre p (q ++ (d ++ rest)) pre → IsPost q (d ++ rest) post → IsDev d rest dev → IsQuiet rest
    → parse_pre (p ++ (q ++ (d ++ rest))) ≡ Ok (pre, q ++ (d ++ rest))
pre_again p q d rest (Some r) post dev h g k quiet =
    let after : List ℕ = q ++ (d ++ rest) in
    rw (suffix_again pre_spellings p after r.kind r.number letters_pre h (spelled_pre h.word (h.between ++ (h.digits ++ after)) r.kind h.spelling
    (count_extension h.between h.digits after r.number h.second h.count (tail_extension q d rest post dev g k quiet)))) refl
pre_again p q d rest None (Some n) dev h (inl g) k quiet = rw (h, g.2, absent_digits pre_spellings g.0 (d ++ rest) n letters_pre g.1) refl
pre_again p q d rest None (Some n) dev h (inr g) k quiet =
    rw (
      h,
      absent_spelled pre_spellings post_spellings q (d ++ rest) tt n letters_post g (post_no_pre g.word (g.between ++ (g.digits ++ (d ++ rest))) g.spelling
          (count_extension g.between g.digits (d ++ rest) n g.second g.count (ends_extension d rest dev k quiet))),
    ) refl
pre_again p q d rest None None (Some n) h g k quiet =
    rw (h, g, absent_spelled pre_spellings dev_spellings d rest tt n letters_dev k (dev_no_pre k.word (k.between ++ (k.digits ++ rest)) k.spelling)) refl
pre_again p q d rest None None None h g k quiet = rw (h, g, k, absent_before pre_spellings rest letters_pre quiet.separator quiet.letter) refl

-- no digit, no dot before a digit or a star, no `!`
pub record Follows (t : List ℕ) : Type 0 where
  pub digit : starts is_ascii_digit t ≡ false
  pub goes : has_next_number t ≡ false
  pub star : starts_with_star t ≡ false
  pub bang : starts (λ b. b == 33) t ≡ false

letter_is : (b c : ℕ) → to_ascii_lowercase b ≡ c → 97 ≤ c → c ≤ 122 → is_letter b ≡ true
unfolding is_letter
letter_is b c e low high = grind (arith, nat_tests)

pub word_letter : {A : Type 0} (table : Spellings A) (w rest : List ℕ) (a : A) → BeginWithLetters table → IsSpelling table w a → starts is_letter (w ++ rest) ≡ true
word_letter [] w rest a l h = elim h [ ]
word_letter (s ∷ more) [] rest a l (inl h) = let none : get_or s.0 0 0 ≡ 0 = ap (λ t. get_or t 0 0) (sym h.0) in absurd (omega (arith, none, l.0.0))
word_letter (s ∷ more) (b ∷ w) rest a l (inl h) = letter_is b (get_or s.0 0 0) (ap (λ t. get_or t 0 0) h.0) l.0.0 l.0.1
word_letter (s ∷ more) w rest a l (inr h) = word_letter more w rest a l.1 h

letter_not_digit : (b : ℕ) → is_letter b ≡ true → is_ascii_digit b ≡ false
unfolding is_letter
letter_not_digit b h = grind (arith, nat_tests)

letter_not : (b c : ℕ) → is_letter b ≡ true → c < 65 → (b == c) ≡ false
unfolding is_letter
letter_not b c h low = grind (arith, nat_tests)

separator_not_bang : (b : ℕ) → is_separator b ≡ true → (b == 33) ≡ false
separator_not_bang b h = grind (arith, nat_tests)

follows_word : (t : List ℕ) → starts is_letter t ≡ true → Follows t
follows_word [] s = cc s
follows_word (b ∷ t) s = record { digit = letter_not_digit b s; goes = rw (letter_not b 46 s (omega arith)) refl; star = rw (letter_not b 46 s (omega arith)) refl; bang = letter_not b 33 s (omega arith) }

first_not_digit : (t : List ℕ) → starts is_letter t ≡ true → starts is_ascii_digit t ≡ false
first_not_digit [] s = refl
first_not_digit (b ∷ t) s = letter_not_digit b s

first_not_star : (t : List ℕ) → starts is_letter t ≡ true → starts (λ b. b == 42) t ≡ false
first_not_star [] s = refl
first_not_star (b ∷ t) s = letter_not b 42 s (omega arith)

follows_before : (before t : List ℕ) → IsSeparator before → starts is_letter t ≡ true → Follows (before ++ t)
follows_before before t (inl e) s = rw e (follows_word t s)
follows_before before t (inr h) s = rw h.2 (after h.0 h.1)
  where
    after : (b : ℕ) → is_separator b ≡ true → Follows (b ∷ t)
    after b sep = record { digit = separator_no_digit b sep; goes = rw (first_not_digit t s) (and_false (b == 46)); star = rw (first_not_star t s) (and_false (b == 46)); bang = separator_not_bang b sep }

pub follows_spelled : {A : Type 0} (table : Spellings A) (part after : List ℕ) (a : A) (n : ℕ) → BeginWithLetters table → IsSpelled table part after a n → Follows (part ++ after)
follows_spelled table part after a n l h =
    let rest : List ℕ = h.between ++ (h.digits ++ after) in
    rw (regroup table part after a n h) (follows_before h.before (h.word ++ rest) h.first (word_letter table h.word rest a l h.spelling))

blank_not_letter : (b : ℕ) → is_ascii_whitespace b ≡ true → is_letter b ≡ false
unfolding is_letter
blank_not_letter b h = grind (arith, nat_tests)

blank_not_extension : (b : ℕ) → is_ascii_whitespace b ≡ true → is_extension b ≡ false
blank_not_extension b h = grind (arith, nat_tests)

blank_not_dash : (b : ℕ) → is_ascii_whitespace b ≡ true → (b == 45) ≡ false
blank_not_dash b h = grind (arith, nat_tests)

follows_blanks : (w : List ℕ) → AreBlanks w → Follows w
follows_blanks [] h = record { digit = refl; goes = refl; star = refl; bang = refl }
follows_blanks (b ∷ w) h =
    let f = both_first (is_ascii_whitespace b) (list_all is_ascii_whitespace w) h in
    record { digit = blank_not_digit b f; goes = rw (blank_not_dot b f) refl; star = rw (blank_not_dot b f) refl; bang = blank_not_bang b f }

quiet_blanks : (w : List ℕ) → AreBlanks w → IsQuiet w
quiet_blanks [] h = record { separator = refl; letter = refl; digit = refl; extension = refl; bare = refl }
quiet_blanks (b ∷ w) h =
    let f = both_first (is_ascii_whitespace b) (list_all is_ascii_whitespace w) h in
    record { separator = blank_not_separator b f; letter = blank_not_letter b f; digit = blank_not_digit b f; extension = blank_not_extension b f; bare = rw (blank_not_dash b f) refl }

pub plus_no_letter : is_letter 43 ≡ false
unfolding is_letter
plus_no_letter = refl

pub quiet_local : (l w : List ℕ) (ss : List LocalSegmentValue) → IsLocal l ss → AreBlanks w → IsQuiet (l ++ w)
quiet_local l w [] h blanks = rw h (quiet_blanks w blanks)
quiet_local l w (s ∷ rest) h blanks = rw h.2 (record { separator = refl; letter = plus_no_letter; digit = refl; extension = refl; bare = refl })

pub follows_local : (l w : List ℕ) (ss : List LocalSegmentValue) → IsLocal l ss → AreBlanks w → Follows (l ++ w)
follows_local l w [] h blanks = rw h (follows_blanks w blanks)
follows_local l w (s ∷ rest) h blanks = rw h.2 (record { digit = refl; goes = refl; star = refl; bang = refl })

pub follows_dev : (d rest : List ℕ) (dev : Option ℕ) → IsDev d rest dev → Follows rest → Follows (d ++ rest)
follows_dev d rest None h f = rw h f
follows_dev d rest (Some n) h f = follows_spelled dev_spellings d rest tt n letters_dev h

pub follows_post : (q rest : List ℕ) (post : Option ℕ) → IsPost q rest post → Follows rest → Follows (q ++ rest)
follows_post q rest None h f = rw h f
follows_post q rest (Some n) (inl h) f = rw h.2 (record { digit = refl; goes = refl; star = refl; bang = refl })
follows_post q rest (Some n) (inr h) f = follows_spelled post_spellings q rest tt n letters_post h

pub follows_pre : (p rest : List ℕ) (pre : Option Prerelease) → IsPre p rest pre → Follows rest → Follows (p ++ rest)
follows_pre p rest None h f = rw h f
follows_pre p rest (Some x) h f = follows_spelled pre_spellings p rest x.kind x.number letters_pre h

-- ---- a release whose first number is read already

-- what follows a dot is shorter
shorter : (t after : List ℕ) (n : ℕ) → starts is_ascii_digit t ≡ true → parse_number t ≡ Ok (n, after) → length after < length t
shorter t after n s e =
    let x = number_takes t (n, after) s e in
    let long = ap length x.2 ∙ length-append x.0 after in
    omega (arith, long, x.1.0)

past_dot : (t : List ℕ) → has_next_number t ≡ true → suc (length (drop 1 t)) ≡ length t
past_dot t g = sym (ap length (drop_one 46 t (both_first _ (starts_with_number (drop 1 t)) g)))

-- the numbers from a first one on
abbrev numbers : ℕ → Read (ℕ × List ℕ) → Read (List ℕ × List ℕ)
numbers k r = r >>= λ n. if has_next_number n.1 then (parse_release k (drop 1 n.1) >>= λ rest. Ok (n.0 ∷ rest.0, rest.1)) else Ok (n.0 ∷ [], n.1)

-- more rounds than bytes change nothing
pub release_fuel : (k j : ℕ) (t : List ℕ) → starts is_ascii_digit t ≡ true → length t ≤ k → length t ≤ j → parse_release k t ≡ parse_release j t
unfolding parse_release
release_fuel k j [] s less more = cc s
release_fuel zero j (b ∷ t) s less more = absurd (omega (arith, less))
release_fuel k zero (b ∷ t) s less more = absurd (omega (arith, more))
release_fuel (suc k) (suc j) (b ∷ t) s less more = by (λ u. release_fuel k j u) (parse_number (b ∷ t)) refl
  where
    by : ((u : List ℕ) → starts is_ascii_digit u ≡ true → length u ≤ k → length u ≤ j → parse_release k u ≡ parse_release j u) → (r : Read (ℕ × List ℕ)) → parse_number (b ∷ t) ≡ r → numbers k r ≡ numbers j r
    by again (Err f) e = refl
    by again (Ok n) e = elim (cases_Bool (has_next_number n.1)) [
      | inl g ↦
          let down = shorter (b ∷ t) n.1 n.0 s e in
          let dot = past_dot n.1 g in
          rw (g, again (drop 1 n.1) (both_second (starts (λ c. c == 46) n.1) _ g) (omega (arith, down, dot, less)) (omega (arith, down, dot, more))) refl
      | inr g ↦ rw g refl
    ]

-- a release is its first number and what follows it
pub release_split : (t after : List ℕ) (n : ℕ) → starts is_ascii_digit t ≡ true → parse_number t ≡ Ok (n, after) → parse_release (length t) t ≡ parse_release_from n after
unfolding parse_release
release_split [] after n s e = cc s
release_split (b ∷ t) after n s e = rw e (elim (cases_Bool (has_next_number after)) [
  | inl g ↦
      let down = shorter (b ∷ t) after n s e in
      let dot = past_dot after g in
      rw (g, release_fuel (length t) (length after) (drop 1 after) (both_second (starts (λ c. c == 46) after) _ g) (omega (arith, down, dot)) (omega (arith, dot))) refl
  | inr g ↦ rw g refl
])

-- one more number
pub more_on : (k : ℕ) (rest after prefix : List ℕ) (n : ℕ) → has_next_number rest ≡ true → parse_number (drop 1 rest) ≡ Ok (n, after) → with_prefix prefix (parse_more_numbers (suc k) rest) ≡ with_prefix (prefix ++ n ∷ []) (parse_more_numbers k after)
unfolding parse_release
more_on k rest after prefix n g e = rw (g, e) (elim (cases_Bool (has_next_number after)) [
  | inl h ↦ rw h (again (parse_release k (drop 1 after)))
  | inr h ↦ rw h (ap (λ l. Ok (l, after)) (sym (append-nil (prefix ++ n ∷ []))))
])
  where
    again : (r : Read (List ℕ × List ℕ)) → with_prefix prefix (with_prefix (n ∷ []) r) ≡ with_prefix (prefix ++ n ∷ []) r
    again (Ok x) = ap (λ l. Ok (l, x.1)) (sym (append_assoc prefix (n ∷ []) x.0))
    again (Err f) = refl

pub more_end : (k : ℕ) (rest prefix : List ℕ) → has_next_number rest ≡ false → with_prefix prefix (parse_more_numbers k rest) ≡ Ok (prefix, rest)
more_end k rest prefix g = rw g (ap (λ l. Ok (l, rest)) (append-nil prefix))

pub more_err : (k : ℕ) (rest prefix : List ℕ) (f : Rejection) → has_next_number rest ≡ true → parse_number (drop 1 rest) ≡ Err f → with_prefix prefix (parse_more_numbers (suc k) rest) ≡ Err f
unfolding parse_release
more_err k rest prefix f g e = rw (g, e) refl

pub nothing_left : (rest : List ℕ) → length rest ≤ 0 → has_next_number rest ≡ false
nothing_left [] h = refl
nothing_left (b ∷ t) h = absurd (omega (arith, h))

pub more_shorter : (k : ℕ) (rest after : List ℕ) (n : ℕ) → has_next_number rest ≡ true → parse_number (drop 1 rest) ≡ Ok (n, after) → length rest ≤ suc k → length after ≤ k
more_shorter k rest after n g e h =
    let down = shorter (drop 1 rest) after n (both_second (starts (λ c. c == 46) rest) _ g) e in
    let dot = past_dot rest g in
    omega (arith, down, dot, h)

release_err : (t : List ℕ) (f : Rejection) → starts is_ascii_digit t ≡ true → parse_number t ≡ Err f → parse_release (length t) t ≡ Err f
unfolding parse_release
release_err [] f s e = cc s
release_err (b ∷ t) f s e = rw e refl

-- ---- epoch and release, number by number

pub prefix_plain : (t after : List ℕ) (n : ℕ) → starts_with_number t ≡ true → parse_number t ≡ Ok (n, after) → starts (λ b. b == 33) after ≡ false → parse_epoch_and_release t ≡ parse_release_after_first 0 n after
unfolding parse_epoch_and_release
prefix_plain t after n s e none = rw (s, e, none) (ap (λ (r : Read (List ℕ × List ℕ)). r >>= λ x. Ok ((0, x.0), x.1)) (release_split t after n s e))

pub prefix_epoch : (t after behind : List ℕ) (n first : ℕ) → starts_with_number t ≡ true → parse_number t ≡ Ok (n, after) → starts (λ b. b == 33) after ≡ true → starts_with_number (drop 1 after) ≡ true → parse_number (drop 1 after) ≡ Ok (first, behind)
    → parse_epoch_and_release t ≡ parse_release_after_first n first behind
unfolding parse_epoch_and_release
prefix_epoch t after behind n first s e bang d g = rw (s, e, bang, d) (ap (λ (r : Read (List ℕ × List ℕ)). r >>= λ x. Ok ((n, x.0), x.1)) (release_split (drop 1 after) behind first d g))

pub prefix_err : (t after : List ℕ) (n : ℕ) (f : Rejection) → starts_with_number t ≡ true → parse_number t ≡ Ok (n, after) → starts (λ b. b == 33) after ≡ true → starts_with_number (drop 1 after) ≡ true → parse_number (drop 1 after) ≡ Err f → parse_epoch_and_release t ≡ Err f
unfolding parse_epoch_and_release
prefix_err t after n f s e bang d g = rw (s, e, bang, d) (ap (λ (r : Read (List ℕ × List ℕ)). r >>= λ x. Ok ((n, x.0), x.1)) (release_err (drop 1 after) f d g))

-- ---- what follows a spelling that was found

suffix_ok : {A : Type 0} (table : Spellings A) (t after rest : List ℕ) (a : A) (n : ℕ) → option_map {U = A × List ℕ} (λ x. (x.0, drop x.1 (skip_separator t))) (spelled table (skip_separator t)) ≡ Some (a, after)
    → parse_count (skip_separator after) ≡ Ok (n, rest) → parse_suffix table t ≡ Ok (Some (a, n), rest)
suffix_ok {A} table t after rest a n h e = by (spelled table (skip_separator t)) h
  where
    by : (o : Option (A × ℕ)) → option_map {U = A × List ℕ} (λ x. (x.0, drop x.1 (skip_separator t))) o ≡ Some (a, after) → after_spelling t (skip_separator t) o ≡ Ok (Some (a, n), rest)
    by None h = cc h
    by (Some x) h =
        let same = some _ _ h in
        let which : x.0 ≡ a = ap (λ (p : A × List ℕ). p.0) same in
        let left : drop x.1 (skip_separator t) ≡ after = ap (λ (p : A × List ℕ). p.1) same in
        rw (left, e, which) refl

suffix_err : {A : Type 0} (table : Spellings A) (t after : List ℕ) (f : Rejection) → option_map (λ x. drop x.1 (skip_separator t)) (spelled table (skip_separator t)) ≡ Some after
    → parse_count (skip_separator after) ≡ Err f → parse_suffix table t ≡ Err f
suffix_err {A} table t after f h e = by (spelled table (skip_separator t)) h
  where
    by : (o : Option (A × ℕ)) → option_map (λ x. drop x.1 (skip_separator t)) o ≡ Some after → after_spelling t (skip_separator t) o ≡ Err f
    by None h = cc h
    by (Some x) h = rw (some _ _ h, e) refl

forget : {A : Type 0} (w after : List ℕ) (a : A) (o : Option (A × ℕ)) → option_map {U = A × List ℕ} (λ x. (x.0, drop x.1 w)) o ≡ Some (a, after) → option_map (λ x. drop x.1 w) o ≡ Some after
forget w after a None h = cc h
forget {A} w after a (Some x) h = ap Some (ap (λ (p : A × List ℕ). p.1) (some _ _ h))

pub pre_ok : (t after rest : List ℕ) (k : PrereleaseKind) (n : ℕ) → option_map {U = PrereleaseKind × List ℕ} (λ x. (x.0, drop x.1 (skip_separator t))) (spelled pre_spellings (skip_separator t)) ≡ Some (k, after)
    → parse_count (skip_separator after) ≡ Ok (n, rest) → parse_pre t ≡ Ok (Some (record { kind = k; number = n }), rest)
pre_ok t after rest k n h e = ap (λ r. r >>= λ x. Ok (suffix_prerelease x.0, x.1)) (suffix_ok pre_spellings t after rest k n h e)

pub pre_err : (t after : List ℕ) (k : PrereleaseKind) (f : Rejection) → option_map {U = PrereleaseKind × List ℕ} (λ x. (x.0, drop x.1 (skip_separator t))) (spelled pre_spellings (skip_separator t)) ≡ Some (k, after)
    → parse_count (skip_separator after) ≡ Err f → parse_pre t ≡ Err f
pre_err t after k f h e = ap (λ r. r >>= λ x. Ok (suffix_prerelease x.0, x.1)) (suffix_err pre_spellings t after f (forget (skip_separator t) after k (spelled pre_spellings (skip_separator t)) h) e)

-- the number of a part that has nothing else, post or dev
abbrev pub numbered : Read (Option (Unit {0} × ℕ) × List ℕ) → Read (Option ℕ × List ℕ)
numbered r = r >>= λ x. Ok (suffix_number x.0, x.1)

pub number_err : (table : Spellings (Unit {0})) (t after : List ℕ) (a : Unit {0}) (f : Rejection) → option_map {U = Unit {0} × List ℕ} (λ x. (x.0, drop x.1 (skip_separator t))) (spelled table (skip_separator t)) ≡ Some (a, after)
    → parse_count (skip_separator after) ≡ Err f → numbered (parse_suffix table t) ≡ Err f
number_err table t after a f h e = ap numbered (suffix_err table t after f (forget (skip_separator t) after a (spelled table (skip_separator t)) h) e)
