-- An epoch, few small numbers and suffixes in their normal spelling, read one after another.
use Rattle.std.proofs.Common.{◌≡◌, ◌<◌, ◌≤◌, ◌+◌, ◌*◌, ◌-◌, ◌^◌, ◌&&◌, ℕ, Bool, true, List, [], ◌∷◌, ◌++◌, length, drop, take, get_or, set, false, zero, suc, refl, sym, ap, ◌∙◌, subst, inl, inr, arith, Option, Some, None, codes, nat_le}
use Rattle.std.proofs.lemmas.Bool.{cases_lt, le-leb}
use Rattle.std.proofs.lemmas.Bool.Decides.{nat_tests}
use Rattle.std.proofs.lemmas.Int.Digits.{digits_value_push}
use Rattle.std.proofs.lemmas.List.{append_assoc, append-nil, length-drop, length-take-le, take-append-drop, drop_more, take_more, take_more_set, get_or-take, get_or-set_other, length-set}
use Rattle.std.proofs.lemmas.List.Folds.{list_all-append}
use Rattle.std.proofs.lemmas.Str.{digit_value_digit}
use Rattle.std.proofs.Math.ListN.{get_or-eq_default}
use Rattle.std.proofs.Math.Seq.{take-length}
use Rattle.std.specs.Char.{is_ascii_digit, digit_value}
use Rattle.std.specs.Int.{IsInRange}
use Rattle.std.specs.List.{list_all}
use Rattle.std.specs.Str.Parse.{digits_value}
use Rattle.pep440_version.specs.declared.prerelease.Prerelease.{Prerelease}
use Rattle.pep440_version.specs.declared.prerelease.PrereleaseKind.TheVariants.{Alpha, Beta, Rc}
use Rattle.pep440_version.specs.Form.{IsWord, packed_record, record_in}
use Rattle.pep440_version.specs.Grammar.{Derives, IsEpoch, IsLeadingV, IsLocal, IsNumber, IsRelease, IsSpelled, IsSpelling, IsPre, IsPost, IsDev, Spellings, IsSeparator, pre_spellings, post_spellings, dev_spellings, starts}
use Rattle.pep440_version.specs.Normal.{IsClass, IsKnown, IsPadded, IsSuffix, spelling, HasSuffix, IsClassOfKind}
use Rattle.pep440_version.specs.Patterns.{DerivesStar}
use Rattle.pep440_version.specs.Record.{LocalSegmentValue, from_parts}
use Rattle.pep440_version.specs.Word.{is_short, word_of}
use Rattle.pep440_version.proofs.Words.Replaced.{Given, shown}
use Rattle.pep440_version.specs.declared.prerelease.PrereleaseKind.{PrereleaseKind}

-- ---- few small numbers and one suffix in its normal spelling, read byte by byte

-- ---- a number

-- the text is a digit and the rest, of which so many bytes are digits, too, and their value
pub record Digits (text rest : List ℕ) (i n : ℕ) : Type 0 where
  pub first : ℕ
  pub whole : text ≡ first ∷ rest
  pub all : list_all is_ascii_digit (first ∷ take i rest) ≡ true
  pub value : digits_value 10 (first ∷ take i rest) ≡ n

digit_range : (b : ℕ) → is_ascii_digit b ≡ true → IsInRange 48 57 b
digit_range b h = grind (arith, nat_tests)

digit_is : (b : ℕ) → is_ascii_digit b ≡ true → digit_value b ≡ b - 48
digit_is b h = omega (arith, digit_value_digit b (digit_range b h))

pub one_digit : (text rest : List ℕ) (first : ℕ) → text ≡ first ∷ rest → is_ascii_digit first ≡ true → Digits text rest 0 (first - 48)
one_digit text rest first whole h =
    let value : 0 * 10 + digit_value first ≡ first - 48 = omega (arith, digit_is first h) in
    record {
      first = first;
      whole = whole;
      all = rw h refl;
      value = digits_value_push 10 [] first ∙ value;
    }

pub digit_more : (text rest : List ℕ) (i n : ℕ) → i < length rest → Digits text rest i n → is_ascii_digit (get_or rest i 0) ≡ true
    → Digits text rest (i + 1) (n * 10 + (get_or rest i 0 - 48))
digit_more text rest i n inside d h =
    let more : d.first ∷ take (i + 1) rest ≡ (d.first ∷ take i rest) ++ (get_or rest i 0 ∷ []) = ap (λ t. d.first ∷ t) (take_more rest i 0 inside) in
    record {
      first = d.first;
      whole = d.whole;
      all = ap (list_all is_ascii_digit) more ∙ list_all-append is_ascii_digit (d.first ∷ take i rest) (get_or rest i 0 ∷ []) ∙ rw (d.all, h) refl;
      value = ap (digits_value 10) more ∙ digits_value_push 10 (d.first ∷ take i rest) (get_or rest i 0) ∙ (λ j. d.value j * 10 + digit_is (get_or rest i 0) h j);
    }

pub number_ends : (text after rest : List ℕ) (i n : ℕ) → Digits text rest i n → n ≤ 2147483647 → after ≡ drop i rest
    → (digits : List ℕ) × IsNumber digits n × (n ≤ 2147483647) × (text ≡ digits ++ after)
number_ends text after rest i n d small end = (
  d.first ∷ take i rest,
  (omega arith, d.all, d.value, omega (arith, small)),
  small,
  d.whole ∙ ap (λ t. d.first ∷ t) (sym (take-append-drop i rest)) ∙ ap (λ t. d.first ∷ (take i rest ++ t)) (sym end),
)

-- what stands behind a place
pub rest_of : (i : ℕ) (rest : List ℕ) → take (length rest - i) (drop i rest) ≡ drop i rest
rest_of i rest = ap (λ n. take n (drop i rest)) (sym (length-drop i rest)) ∙ take-length (drop i rest)

-- and begins with the byte there
pub starts_at : (p : ℕ → Bool) (i : ℕ) (rest : List ℕ) → i < length rest → p (get_or rest i 0) ≡ false → starts p (take (length rest - i) (drop i rest)) ≡ false
starts_at p i rest inside h = ap (starts p) (rest_of i rest ∙ drop_more rest i 0 inside) ∙ h

-- ---- a release

pub release_more : (a ds ns : List ℕ) (n : ℕ) → IsRelease a ns → IsNumber ds n → IsRelease (a ++ (46 ∷ ds)) (ns ++ n ∷ [])
release_more a ds [] n h d = absurd h
release_more a ds (x ∷ []) n h d = (a, ds, h, d, refl)
release_more a ds (x ∷ m ∷ more) n h d = (
  h.0,
  h.1 ++ (46 ∷ ds),
  h.2,
  release_more h.1 ds (m ∷ more) n h.3 d,
  ap (λ t. t ++ (46 ∷ ds)) h.4 ∙ append_assoc h.0 (46 ∷ h.1) (46 ∷ ds),
)

-- numbers that are padded, a release that they are, and the rest of the text
pub record Released (text rest : List ℕ) (count : ℕ) (numbers : List ℕ) : Type 0 where
  pub padded : IsPadded count numbers
  pub release : List ℕ
  pub is : IsRelease release (take count numbers)
  pub decomposition : text ≡ release ++ rest

zeros_from : (n : ℕ) (k : ℕ) → 1 ≤ k → get_or (n ∷ 0 ∷ 0 ∷ 0 ∷ []) k 0 ≡ 0
zeros_from n zero h = absurd (omega (arith, h))
zeros_from n (suc zero) h = refl
zeros_from n (suc (suc zero)) h = refl
zeros_from n (suc (suc (suc zero))) h = refl
zeros_from n (suc (suc (suc (suc k)))) h = refl

pub one_number : (text rest : List ℕ) (n : ℕ) → ((digits : List ℕ) × IsNumber digits n × (n ≤ 2147483647) × (text ≡ digits ++ rest)) → Released text rest 1 (n ∷ 0 ∷ 0 ∷ 0 ∷ [])
one_number text rest n h = record {
  padded = record { some = omega arith; few = omega arith; four = refl; zeros = zeros_from n };
  release = h.0;
  is = h.1;
  decomposition = h.3;
}

pub number_more : (text rest after numbers : List ℕ) (count n : ℕ) → count < 4 → Released text rest count numbers
    → ((digits : List ℕ) × IsNumber digits n × (n ≤ 2147483647) × (rest ≡ 46 ∷ (digits ++ after))) → Released text after (count + 1) (set numbers count n)
number_more text rest after numbers count n room r h =
    let inside : count < length numbers = omega (arith, r.padded.four) in
    record {
      padded = record {
        some = omega arith;
        few = omega arith;
        four = length-set numbers count n ∙ r.padded.four;
        zeros = λ k past. get_or-set_other numbers count k n 0 (λ e. omega (arith, e, past)) ∙ r.padded.zeros k (omega (arith, past));
      };
      release = r.release ++ (46 ∷ h.0);
      is = subst (IsRelease (r.release ++ (46 ∷ h.0))) (sym (take_more_set numbers count n inside)) (release_more r.release h.0 (take count numbers) n r.is h.1);
      decomposition = r.decomposition ∙ ap (λ t. r.release ++ t) h.3 ∙ sym (append_assoc r.release (46 ∷ h.0) after);
    }

-- ---- a word

same_number : (numbers : List ℕ) (count k : ℕ) → IsPadded count numbers → get_or (take count numbers) k 0 ≡ get_or numbers k 0
same_number numbers count k p = elim (cases_lt k count) [
  | inl h ↦ get_or-take count numbers k 0 h
  | inr h ↦
      let long = length-take-le count numbers (omega (arith, p.few, p.four)) in
      get_or-eq_default (take count numbers) 0 (omega (arith, long, h)) ∙ sym (p.zeros k h)
]

known : (release : List ℕ) (class n : ℕ) → IsKnown class n → is_short release ≡ true → nat_le n 2097151 ≡ true → Given (record_in release class n) class n
known release class n k short small = elim k [
  | inl h ↦ subst (λ c. Given (record_in release c n) c n) (sym h.0) (subst (λ m. Given (record_in release 5 m) 5 m) (sym h.1) (record { packed = λ i. short i && true; found = refl }))
  | inr h ↦ elim h [
    | inl e ↦ subst (λ c. Given (record_in release c n) c n) (sym e) (record { packed = λ i. short i && small i; found = refl })
    | inr h ↦ elim h [
      | inl e ↦ subst (λ c. Given (record_in release c n) c n) (sym e) (record { packed = λ i. short i && small i; found = refl })
      | inr h ↦ elim h [
        | inl e ↦ subst (λ c. Given (record_in release c n) c n) (sym e) (record { packed = λ i. short i && small i; found = refl })
        | inr h ↦ elim h [
          | inl e ↦ subst (λ c. Given (record_in release c n) c n) (sym e) (record { packed = λ i. short i && small i; found = refl })
          | inr e ↦ subst (λ c. Given (record_in release c n) c n) (sym e) (record { packed = λ i. short i && small i; found = refl })
        ]
      ]
    ]
  ]
]

-- padded numbers are short where each has room in its place
pub short_is : (numbers : List ℕ) (count : ℕ) → IsPadded count numbers
    → is_short (take count numbers) ≡ (nat_le (get_or numbers 0 0) 65535 && (nat_le (get_or numbers 1 0) 255 && (nat_le (get_or numbers 2 0) 255 && nat_le (get_or numbers 3 0) 255)))
short_is numbers count p =
    let long = length-take-le count numbers (omega (arith, p.few, p.four)) in
    let same = λ (k : ℕ). same_number numbers count k p in
    (λ i. nat_le (long i) 4 && (nat_le (same 0 i) 65535 && (nat_le (same 1 i) 255 && (nat_le (same 2 i) 255 && nat_le (same 3 i) 255))))
    ∙ (λ i. le-leb count 4 p.few i && (nat_le (get_or numbers 0 0) 65535 && (nat_le (get_or numbers 1 0) 255 && (nat_le (get_or numbers 2 0) 255 && nat_le (get_or numbers 3 0) 255))))

-- the word of padded numbers and a suffix shows them
pub packs : (numbers : List ℕ) (count class n w : ℕ) → IsPadded count numbers → IsKnown class n → n ≤ 2097151 → is_short (take count numbers) ≡ true
    → w ≡ word_of numbers (class, n) → IsWord count w numbers × (packed_record count w numbers ≡ record_in (take count numbers) class n)
packs numbers count class n w p k small short sum =
    let long = length-take-le count numbers (omega (arith, p.few, p.four)) in
    let same = λ (k : ℕ). same_number numbers count k p in
    let word : word_of numbers (class, n) ≡ word_of (take count numbers) (class, n) =
    λ i. sym (same 0) i * 2 ^ 48 + sym (same 1) i * 2 ^ 40 + sym (same 2) i * 2 ^ 32 + sym (same 3) i * 2 ^ 24 + class * 2 ^ 21 + n in
    shown count w class n numbers (record_in (take count numbers) class n) refl (sym long) (known (take count numbers) class n k short (le-leb n 2097151 small)) (sum ∙ word)

-- ---- a version

abbrev pub with_epoch : (text v e release p q d ns : List ℕ) (epoch : ℕ) (pre : Option Prerelease) (post dev : Option ℕ) → text ≡ v ++ (e ++ (release ++ (p ++ (q ++ (d ++ []))))) → IsLeadingV v
    → IsEpoch e epoch → IsRelease release ns → IsPre p (q ++ (d ++ [])) pre → IsPost q (d ++ []) post → IsDev d [] dev → Derives text (from_parts epoch ns pre post dev [])
with_epoch text v e release p q d ns epoch pre post dev decomposition hv he hr hp hq hd = record {
  w1 = [];
  v = v;
  e = e;
  n = release;
  p = p;
  q = q;
  d = d;
  l = [];
  w2 = [];
  decomposition = decomposition;
  blanks = refl;
  letter = hv;
  epoch = he;
  release = hr;
  pre = hp;
  post = hq;
  dev = hd;
  local = refl;
  end = refl;
  no_min = refl;
  no_max = refl;
}

-- the same before a local part
pub with_local : (text v e release p q d l ns : List ℕ) (epoch : ℕ) (pre : Option Prerelease) (post dev : Option ℕ) (local : List LocalSegmentValue) → text ≡ v ++ (e ++ (release ++ (p ++ (q ++ (d ++ l)))))
    → IsLeadingV v → IsEpoch e epoch → IsRelease release ns → IsPre p (q ++ (d ++ l)) pre → IsPost q (d ++ l) post → IsDev d l dev → IsLocal l local → Derives text (from_parts epoch ns pre post dev local)
with_local text v e release p q d l ns epoch pre post dev local decomposition hv he hr hp hq hd hl =
    let to_end : l ≡ l ++ [] = sym (append-nil l) in
    record {
      w1 = [];
      v = v;
      e = e;
      n = release;
      p = p;
      q = q;
      d = d;
      l = l;
      w2 = [];
      decomposition = decomposition ∙ ap (λ t. v ++ (e ++ (release ++ (p ++ (q ++ (d ++ t)))))) to_end;
      blanks = refl;
      letter = hv;
      epoch = he;
      release = hr;
      pre = subst (λ t. IsPre p (q ++ (d ++ t)) pre) to_end hp;
      post = subst (λ t. IsPost q (d ++ t) post) to_end hq;
      dev = subst (λ t. IsDev d t dev) to_end hd;
      local = hl;
      end = refl;
      no_min = refl;
      no_max = refl;
    }

parted : (text v release p q d ns : List ℕ) (pre : Option Prerelease) (post dev : Option ℕ) → text ≡ v ++ (release ++ (p ++ (q ++ (d ++ [])))) → IsLeadingV v
    → IsRelease release ns → IsPre p (q ++ (d ++ [])) pre → IsPost q (d ++ []) post → IsDev d [] dev → Derives text (from_parts 0 ns pre post dev [])
parted text v release p q d ns pre post dev decomposition hv hr hp hq hd = with_epoch text v [] release p q d ns 0 pre post dev decomposition hv (inl (refl, refl)) hr hp hq hd

pub spelled_so : {A : Type 0} (table : Spellings A) (before word digits after : List ℕ) (a : A) (n : ℕ) → IsSeparator before → IsSpelling table word a → IsNumber digits n
    → starts is_ascii_digit after ≡ false → IsSpelled table (before ++ (word ++ digits)) after a n
spelled_so table before word digits after a n hb hw hn ended = record {
  before = before;
  word = word;
  between = [];
  digits = digits;
  decomposition = refl;
  first = hb;
  spelling = hw;
  second = inl refl;
  count = inr hn;
  keeps_separator = λ _ none. absurd (omega (arith, ap length none, hn.0));
  keeps_digits = ended;
}

split_of : (text v release rest part : List ℕ) → text ≡ v ++ (release ++ rest) → rest ≡ part → text ≡ v ++ (release ++ (part ++ []))
split_of text v release rest part decomposition is = decomposition ∙ ap (λ t. v ++ (release ++ t)) (is ∙ sym (append-nil part))

of_class : (text v release rest digits ns : List ℕ) (class n : ℕ) → text ≡ v ++ (release ++ rest) → IsLeadingV v → IsRelease release ns → IsClass class → IsNumber digits n
    → rest ≡ spelling class ++ digits → Derives text (record_in ns class n)
of_class text v release rest digits ns class n decomposition hv hr k hn is = elim k [
  | inl e ↦
      subst (λ c. Derives text (record_in ns c n)) (sym e)
      (parted text v release [] [] (codes ".dev" ++ digits) ns None None (Some n) (split_of text v release rest (codes ".dev" ++ digits) decomposition (is ∙ ap (λ c. spelling c ++ digits) e)) hv hr refl refl
      (spelled_so dev_spellings (codes ".") (codes "dev") digits [] tt n (inr (46, refl, refl)) (inl (refl, refl)) hn refl))
  | inr k ↦ elim k [
    | inl e ↦
        subst (λ c. Derives text (record_in ns c n)) (sym e)
        (parted text v release (codes "a" ++ digits) [] [] ns (Some (record { kind = Alpha; number = n })) None None (split_of text v release rest (codes "a" ++ digits) decomposition (is ∙ ap (λ c. spelling c ++ digits) e)) hv hr
        (spelled_so pre_spellings [] (codes "a") digits [] Alpha n (inl refl) (inr (inl (refl, refl))) hn refl) refl refl)
    | inr k ↦ elim k [
      | inl e ↦
          subst (λ c. Derives text (record_in ns c n)) (sym e)
          (parted text v release (codes "b" ++ digits) [] [] ns (Some (record { kind = Beta; number = n })) None None (split_of text v release rest (codes "b" ++ digits) decomposition (is ∙ ap (λ c. spelling c ++ digits) e)) hv hr
          (spelled_so pre_spellings [] (codes "b") digits [] Beta n (inl refl) (inr (inr (inr (inl (refl, refl))))) hn refl) refl refl)
      | inr k ↦ elim k [
        | inl e ↦
            subst (λ c. Derives text (record_in ns c n)) (sym e)
            (parted text v release (codes "rc" ++ digits) [] [] ns (Some (record { kind = Rc; number = n })) None None (split_of text v release rest (codes "rc" ++ digits) decomposition (is ∙ ap (λ c. spelling c ++ digits) e)) hv hr
            (spelled_so pre_spellings [] (codes "rc") digits [] Rc n (inl refl) (inr (inr (inr (inr (inl (refl, refl)))))) hn refl) refl refl)
        | inr e ↦
            subst (λ c. Derives text (record_in ns c n)) (sym e)
            (parted text v release [] (codes ".post" ++ digits) [] ns None (Some n) None (split_of text v release rest (codes ".post" ++ digits) decomposition (is ∙ ap (λ c. spelling c ++ digits) e)) hv hr refl
            (inr (spelled_so post_spellings (codes ".") (codes "post") digits [] tt n (inr (46, refl, refl)) (inl (refl, refl)) hn refl)) refl)
      ]
    ]
  ]
]

-- a letter v, a release and a suffix are a version
pub normal : (text v after release rest ns : List ℕ) (class n : ℕ) → text ≡ v ++ after → IsLeadingV v → after ≡ release ++ rest → IsRelease release ns → IsSuffix rest class n
    → Derives text (record_in ns class n)
normal text v after release rest ns class n decomposition hv after_is hr s =
    let whole : text ≡ v ++ (release ++ rest) = decomposition ∙ ap (λ t. v ++ t) after_is in
    elim s [
      | inl h ↦
          subst (λ c. Derives text (record_in ns c n)) (sym h.1)
          (parted text v release [] [] [] ns None None None (whole ∙ ap (λ t. v ++ (release ++ t)) h.0) hv hr refl refl refl)
      | inr h ↦ of_class text v release rest h.1.0 ns class n whole hv hr h.0 h.1.1 h.1.2
    ]

-- a text of two bytes
pub by_two : (a b : ℕ) (text : List ℕ) → length text ≡ 2 → get_or text 0 0 ≡ a → get_or text 1 0 ≡ b → text ≡ a ∷ b ∷ []
by_two a b [] two f g = absurd (omega (arith, two))
by_two a b (x ∷ []) two f g = absurd (omega (arith, two))
by_two a b (x ∷ y ∷ []) two f g = λ i. f i ∷ g i ∷ []
by_two a b (x ∷ y ∷ z ∷ rest) two f g = absurd (omega (arith, two))

-- a letter v, a release and a star are a pattern
pub starred : (text v after release rest ns : List ℕ) → text ≡ v ++ after → IsLeadingV v → after ≡ release ++ rest → IsRelease release ns → rest ≡ codes ".*" → DerivesStar text (record_in ns 5 0)
starred text v after release rest ns decomposition hv after_is hr is = (
  v ++ (release ++ []),
  with_epoch (v ++ (release ++ [])) v [] release [] [] [] ns 0 None None None refl hv (inl (refl, refl)) hr refl refl refl,
  decomposition ∙ ap (λ t. v ++ t) (after_is ∙ ap (λ t. release ++ t) is ∙ ap (λ t. t ++ codes ".*") (sym (append-nil release))) ∙ sym (append_assoc v (release ++ []) (codes ".*")),
  refl,
  refl,
)

-- the text of a part, which is there or not
abbrev pub PartOf : (List ℕ → Type 0) → List ℕ → List ℕ → Type 0
PartOf Is text rest = (part : List ℕ) × Is part × (text ≡ part ++ rest)

-- a text by its first byte
pub by_first : (b : ℕ) (text : List ℕ) → 0 < length text → get_or text 0 0 ≡ b → text ≡ b ∷ take (length text - 1) (drop 1 text)
by_first b text some is = drop_more text 0 0 some ∙ (λ i. is i ∷ sym (rest_of 1 text) i)

split_at : (class : ℕ) (text digits rest : List ℕ) → text ≡ spelling class ++ (digits ++ rest) → text ≡ (spelling class ++ digits) ++ rest
split_at class text digits rest e = e ∙ sym (append_assoc (spelling class) digits rest)

pub pre_part : (text digits rest : List ℕ) (class n : ℕ) (k : PrereleaseKind) → IsClassOfKind class k → IsNumber digits n → starts is_ascii_digit rest ≡ false
    → text ≡ spelling class ++ (digits ++ rest) → PartOf (λ p. IsPre p rest (Some (record { kind = k; number = n }))) text rest
pre_part text digits rest class n k is hn ended e = elim is [
  | inl h ↦ (
    spelling 2 ++ digits,
    subst (λ kind. IsPre (spelling 2 ++ digits) rest (Some (record { kind = kind; number = n }))) (sym h.1) (spelled_so pre_spellings [] (codes "a") digits rest Alpha n (inl refl) (inr (inl (refl, refl))) hn ended),
    split_at 2 text digits rest (e ∙ ap (λ c. spelling c ++ (digits ++ rest)) h.0),
  )
  | inr is ↦ elim is [
    | inl h ↦ (
      spelling 3 ++ digits,
      subst (λ kind. IsPre (spelling 3 ++ digits) rest (Some (record { kind = kind; number = n }))) (sym h.1) (spelled_so pre_spellings [] (codes "b") digits rest Beta n (inl refl) (inr (inr (inr (inl (refl, refl))))) hn ended),
      split_at 3 text digits rest (e ∙ ap (λ c. spelling c ++ (digits ++ rest)) h.0),
    )
    | inr h ↦ (
      spelling 4 ++ digits,
      subst (λ kind. IsPre (spelling 4 ++ digits) rest (Some (record { kind = kind; number = n }))) (sym h.1) (spelled_so pre_spellings [] (codes "rc") digits rest Rc n (inl refl) (inr (inr (inr (inr (inl (refl, refl)))))) hn ended),
      split_at 4 text digits rest (e ∙ ap (λ c. spelling c ++ (digits ++ rest)) h.0),
    )
  ]
]

pub post_part : (text rest : List ℕ) (post : Option ℕ) → HasSuffix 6 text post rest → PartOf (λ q. IsPost q rest post) text rest
post_part text rest None h = ([], refl, h)
post_part text rest (Some n) (digits, hn, ended, e) =
    (spelling 6 ++ digits, inr (spelled_so post_spellings (codes ".") (codes "post") digits rest tt n (inr (46, refl, refl)) (inl (refl, refl)) hn ended), split_at 6 text digits rest e)

pub dev_part : (text rest : List ℕ) (dev : Option ℕ) → HasSuffix 1 text dev rest → PartOf (λ d. IsDev d rest dev) text rest
dev_part text rest None h = ([], refl, h)
dev_part text rest (Some n) (digits, hn, ended, e) =
    (spelling 1 ++ digits, spelled_so dev_spellings (codes ".") (codes "dev") digits rest tt n (inr (46, refl, refl)) (inl (refl, refl)) hn ended, split_at 1 text digits rest e)

-- a letter v and parts up to a local part, or to the end, are a version
pub parts_derive : (text v a b c d f l ns : List ℕ) (epoch : ℕ) (pre : Option Prerelease) (post dev : Option ℕ) (local : List LocalSegmentValue) → text ≡ v ++ a → IsLeadingV v → PartOf (λ e. IsEpoch e epoch) a b → PartOf (λ n. IsRelease n ns) b c
    → PartOf (λ p. IsPre p d pre) c d → PartOf (λ q. IsPost q f post) d f → PartOf (λ t. IsDev t l dev) f l → IsLocal l local → Derives text (from_parts epoch ns pre post dev local)
parts_derive text v a b c d f l ns epoch pre post dev local whole hv (e, he, ea) (n, hn, eb) (p, hp, ec) (q, hq, ed) (t, ht, ef) hl =
    let to_d : d ≡ q ++ (t ++ l) = ed ∙ ap (λ s. q ++ s) ef in
    let to_c : c ≡ p ++ (q ++ (t ++ l)) = ec ∙ ap (λ s. p ++ s) to_d in
    let to_b : b ≡ n ++ (p ++ (q ++ (t ++ l))) = eb ∙ ap (λ s. n ++ s) to_c in
    with_local text v e n p q t l ns epoch pre post dev local (whole ∙ ap (λ s. v ++ s) (ea ∙ ap (λ s. e ++ s) to_b)) hv he hn (subst (λ s. IsPre p s pre) to_d hp) (subst (λ s. IsPost q s post) ef hq) ht hl
