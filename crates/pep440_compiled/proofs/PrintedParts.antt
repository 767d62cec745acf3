-- The normalized form, part by part: where each part is absent, what follows does not begin as it would; and what begins with a number is read as that.
use mathlib.Core.Bool.{true≢false}
use Rattle.std.proofs.Common.{◌≡◌, ◌<◌, ◌==◌, ◌&&◌, ◌||◌, ◌⊎◌, ℕ, Bool, List, [], ◌∷◌, ◌++◌, length, drop, true, false, refl, sym, ap, ◌∙◌, eqb-true, arith, inl, inr, Option, Some, None, codes, ◌≤◌, ◌+◌, take, zero, suc, get_or, map, if◌then◌else◌, replicate, subst}
use Rattle.std.proofs.lemmas.Bool.{cases_Bool}
use Rattle.std.proofs.lemmas.Bool.Decides.{nat_tests}
use Rattle.std.proofs.lemmas.Grind.{flat_map-append}
use Rattle.std.proofs.lemmas.List.{append_assoc, append-nil, length-append, length-replicate, take-append-drop}
use Rattle.std.proofs.lemmas.List.Elements.{All-head, All-tail}
use Rattle.std.proofs.lemmas.List.Folds.{list_all-append}
use Rattle.std.proofs.lemmas.Str.Parse.{digits_value-take-le}
use Rattle.std.proofs.Math.Seq.{take-append_seam}
use Rattle.std.specs.Char.{is_ascii_digit, to_ascii_lowercase}
use Rattle.std.specs.Fmt.{decimal}
use Rattle.std.specs.List.{All, flat_map, list_all}
use Rattle.std.specs.Str.Parse.{digits_value}
use Rattle.pep440_version.proofs.Reading.NormalParts.{Digits}
use Rattle.pep440_version.proofs.Reading.Prefixes.{lead-all, past-stops, same_front}
use Rattle.pep440_version.proofs.Reading.ReadIsDerived.{number_first, v_again}
use Rattle.pep440_version.proofs.Reading.SpelledIsRead.{some}
use Rattle.pep440_version.proofs.RoundTrip.PrintIsRead.{decimal_number}
use Rattle.pep440_keys.specs.SortKeys.{local_bytes, number_bytes, rank_bytes}
use Rattle.pep440_version.specs.Grammar.{IsNumber, IsSeparator, IsSpelling, is_separator, pre_spellings, starts}
use Rattle.pep440_version.specs.Key.Trim.{trim}
use Rattle.pep440_version.specs.Print.{dotted, epoch_text, labelled, local_text, pre_text, prerelease_kind_text, print}
use Rattle.pep440_version.specs.Reading.{skip_v, lead, past}
use Rattle.pep440_version.specs.Record.{Fits, LocalSegmentValue, Record, from_parts}
use Rattle.pep440_version.specs.RoundTrip.{IsParsed}
use Rattle.pep440_version.specs.Key.{dev_of, dev_rank, post_of, post_rank, stage_of, stage_rank}
use Rattle.pep440_version.specs.declared.prerelease.Prerelease.{Prerelease}
use Rattle.pep440_version.specs.declared.prerelease.PrereleaseKind.{PrereleaseKind}
use Rattle.pep440_version.specs.declared.prerelease.PrereleaseKind.TheVariants.{Alpha, Beta, Rc}
use Rattle.pep440_compiled.proofs.Checking.{ones}
use Rattle.pep440_compiled.proofs.Fronts.{none_needed, trim_pad}
use Rattle.pep440_compiled.specs.KeyParts.{ending_zeros}
use Rattle.pep440_compiled.specs.Strings.{EndsRelease}
use Rattle.pep440_compiled.specs.Version.{HasShortForm, compiled_bytes, zero_bytes}

-- ---- what follows a part

abbrev pub after_post : Option ℕ → List LocalSegmentValue → List ℕ
after_post dev local = labelled (codes ".dev") dev ++ local_text local

abbrev pub after_pre : Option ℕ → Option ℕ → List LocalSegmentValue → List ℕ
after_pre post dev local = labelled (codes ".post") post ++ after_post dev local

abbrev pub after_release : Record → List ℕ
after_release r = pre_text r.pre ++ after_pre r.post r.dev r.local

-- what follows a suffix does not have its spelling
pub local_no_dev : (local : List LocalSegmentValue) (after : List ℕ) → local_text local ≡ codes ".dev" ++ after → ⊥
local_no_dev [] after e = cc e
local_no_dev (s ∷ rest) after e = true≢false (ap (starts (λ b. b == 43)) e)

pub dev_no_post : (dev : Option ℕ) (local : List LocalSegmentValue) (after : List ℕ) → after_post dev local ≡ codes ".post" ++ after → ⊥
dev_no_post None [] after e = cc e
dev_no_post None (s ∷ rest) after e = true≢false (ap (starts (λ b. b == 43)) e)
dev_no_post (Some n) local after e = true≢false (ap (λ t. starts (λ b. b == 100) (drop 1 t)) e)

-- ---- a number is followed by no digit, and no exclamation mark

abbrev pub Ends : List ℕ → Type 0
Ends text = EndsRelease text × (starts (λ b. b == 33) text ≡ false)

pub local_ends : (local : List LocalSegmentValue) → Ends (local_text local)
local_ends [] = ((refl, λ rest e. cc e), refl)
local_ends (s ∷ rest) = ((refl, λ rest e. absurd (true≢false (ap (starts (λ b. b == 43)) e))), refl)

label_ends : (b : ℕ) (label : List ℕ) (n : Option ℕ) (after : List ℕ) → is_ascii_digit b ≡ false → Ends after → Ends (labelled (46 ∷ b ∷ label) n ++ after)
label_ends b label None after h ends = ends
label_ends b label (Some n) after h ends = ((refl, λ rest e. ap (λ t. starts is_ascii_digit (drop 1 t)) (sym e) ∙ h), refl)

pub post_ends : (dev : Option ℕ) (local : List LocalSegmentValue) → Ends (after_post dev local)
post_ends dev local = label_ends 100 (codes "ev") dev (local_text local) refl (local_ends local)

pub pre_ends : (post dev : Option ℕ) (local : List LocalSegmentValue) → Ends (after_pre post dev local)
pre_ends post dev local = label_ends 112 (codes "ost") post (after_post dev local) refl (post_ends dev local)

pre_text_ends : (pre : Option Prerelease) (after : List ℕ) → Ends after → Ends (pre_text pre ++ after)
pre_text_ends None after ends = ends
pre_text_ends (Some p) after ends = by p.kind
  where
    by : (k : PrereleaseKind) → Ends ((prerelease_kind_text k ++ decimal p.number) ++ after)
    by Alpha = ((refl, λ rest e. absurd (true≢false (ap (starts (λ b. b == 97)) e))), refl)
    by Beta = ((refl, λ rest e. absurd (true≢false (ap (starts (λ b. b == 98)) e))), refl)
    by Rc = ((refl, λ rest e. absurd (true≢false (ap (starts (λ b. b == 114)) e))), refl)

pub release_ends : (r : Record) → Ends (after_release r)
release_ends r = pre_text_ends r.pre (after_pre r.post r.dev r.local) (pre_ends r.post r.dev r.local)

-- ---- an epoch and a release

-- numbers, each after a dot
abbrev pub dots : List ℕ → List ℕ
dots ns = flat_map (λ n. codes "." ++ decimal n) ns

-- no number goes on where others, or the end of the release, follow
pub dots_end : (ns after : List ℕ) → Ends after → (starts is_ascii_digit (dots ns ++ after) ≡ false) × (starts (λ b. b == 33) (dots ns ++ after) ≡ false)
dots_end [] after ends = (ends.0.0, ends.1)
dots_end (n ∷ ns) after ends = (refl, refl)

-- a text that begins with an epoch and a number: without an epoch if it is 0
pub by_epoch : (text after : List ℕ) (epoch : ℕ) → text ≡ epoch_text epoch ++ after → ((epoch ≡ 0) × (text ≡ after)) ⊎ (text ≡ decimal epoch ++ (33 ∷ after))
by_epoch text after epoch e = elim (cases_Bool (epoch == 0)) [
  | inl z ↦ let is : text ≡ after = rw z at e in inl (eqb-true epoch 0 z, is)
  | inr z ↦ let is : text ≡ (decimal epoch ++ codes "!") ++ after = rw z at e in inr (is ∙ append_assoc (decimal epoch) (codes "!") after)
]

-- the normalized form by its first number, with which it begins, and not with the letter v
pub printed_skips : (r : Record) (n : ℕ) (ns : List ℕ) → r.release ≡ n ∷ ns → Fits r.epoch → Fits n
    → skip_v (print r) ≡ epoch_text r.epoch ++ (decimal n ++ (dots ns ++ after_release r))
printed_skips r n ns is epoch first = v_again [] (print r) (inl refl) digit ∙ split
  where
    split : print r ≡ epoch_text r.epoch ++ (decimal n ++ (dots ns ++ after_release r))
    split = ap (λ release. epoch_text r.epoch ++ (dotted decimal release ++ after_release r)) is ∙ ap (λ t. epoch_text r.epoch ++ t) (append_assoc (decimal n) (dots ns) (after_release r))

    begins : (epoch : ℕ) (after : List ℕ) → Fits epoch → starts is_ascii_digit after ≡ true → starts is_ascii_digit (epoch_text epoch ++ after) ≡ true
    begins epoch after fits is = elim (cases_Bool (epoch == 0)) [
      | inl e ↦ rw e is
      | inr e ↦ rw e (ap (starts is_ascii_digit) (append_assoc (decimal epoch) (codes "!") after) ∙ number_first (decimal epoch) _ epoch (decimal_number epoch fits))
    ]

    digit : starts is_ascii_digit (print r) ≡ true
    digit = ap (starts is_ascii_digit) split ∙ begins r.epoch _ epoch (number_first (decimal n) _ n (decimal_number n first))

-- ---- what begins with a number is read as that

-- what begins with a number begins with a digit
pub no_number : (text : List ℕ) → starts is_ascii_digit text ≡ false → (digits rest : List ℕ) (n : ℕ) → IsNumber digits n → text ≡ digits ++ rest → ⊥
no_number text none digits rest n is e = cc (sym none ∙ ap (starts is_ascii_digit) e ∙ number_first digits rest n is)

-- the digits up to where they end are those of the number
pub number_is : (text tail after : List ℕ) (i m : ℕ) → Digits text tail i m → after ≡ drop i tail → starts is_ascii_digit after ≡ false
    → (digits rest : List ℕ) (n : ℕ) → IsNumber digits n → starts is_ascii_digit rest ≡ false → text ≡ digits ++ rest → (m ≡ n) × (after ≡ rest)
number_is text tail after i m d end ended digits rest n number stop e =
    let whole : (d.first ∷ take i tail) ++ after ≡ text = ap (λ t. d.first ∷ (take i tail ++ t)) end ∙ ap (λ t. d.first ∷ t) (take-append-drop i tail) ∙ sym d.whole in
    let same = same_front is_ascii_digit (d.first ∷ take i tail) after digits rest d.all ended number.1 stop (whole ∙ e) in
    (sym d.value ∙ ap (digits_value 10) same.0 ∙ number.2, same.1)

-- and the value of fewer of them is at most the number
pub number_bounds : (text tail : List ℕ) (i m : ℕ) → Digits text tail i m → (digits rest : List ℕ) (n : ℕ) → IsNumber digits n → starts is_ascii_digit rest ≡ false → text ≡ digits ++ rest → m ≤ n
number_bounds text tail i m d digits rest n number stop e =
    let front : List ℕ = d.first ∷ take i tail in
    let more : List ℕ = lead is_ascii_digit (drop i tail) in
    let after : List ℕ = past is_ascii_digit (drop i tail) in
    let all : list_all is_ascii_digit (front ++ more) ≡ true = list_all-append is_ascii_digit front more ∙ rw (d.all, lead-all is_ascii_digit (drop i tail)) refl in
    let split : more ++ after ≡ drop i tail = take-append-drop _ (drop i tail) in
    let whole : (front ++ more) ++ after ≡ text = append_assoc front more after ∙ ap (λ t. front ++ t) split ∙ ap (λ t. d.first ∷ t) (take-append-drop i tail) ∙ sym d.whole in
    let same = same_front is_ascii_digit (front ++ more) after digits rest all (past-stops is_ascii_digit (drop i tail)) number.1 stop (whole ∙ e) in
    let less = digits_value-take-le 10 (front ++ more) (length front) (omega arith) in
    omega (arith, less, ap (digits_value 10) (take-append_seam front more), d.value, ap (digits_value 10) same.0, number.2)

-- ---- a release that goes on

-- with the zeros that a trimmed release leaves out
pub untrimmed : (numbers : List ℕ) → flat_map (number_bytes 1) numbers ≡ flat_map (number_bytes 1) (trim numbers) ++ replicate (ending_zeros numbers) 1
untrimmed numbers =
    ap (flat_map (number_bytes 1)) (trim_pad numbers) ∙ flat_map-append (number_bytes 1) (trim numbers) (replicate (ending_zeros numbers) 0)
    ∙ ap (λ l. flat_map (number_bytes 1) (trim numbers) ++ l) (zeros_are_ones (ending_zeros numbers))
  where
    zeros_are_ones : (k : ℕ) → flat_map (number_bytes 1) (replicate k 0) ≡ replicate k 1
    zeros_are_ones zero = refl
    zeros_are_ones (suc k) = λ i. ((1 + length (none_needed i)) ∷ none_needed i) ++ zeros_are_ones k i

-- the first numbers of the release are written, but for the zeros at their end, and the others follow
pub record GoesOn (release rest after : List ℕ) (zeros : ℕ) (old form : List ℕ) : Type 0 where
  pub done : List ℕ
  pub more : List ℕ
  pub is : release ≡ done ++ more
  pub fit : All Fits more
  pub split : after ≡ dots more ++ rest
  pub zeros_are : zeros ≡ ending_zeros done
  pub written : form ≡ old ++ flat_map (number_bytes 1) (trim done)

-- what holds of each number after a dot that the text begins with
abbrev pub OfNext : List ℕ → (ℕ → List ℕ → Type 0) → Type 0
OfNext text P = (digits rest : List ℕ) (n : ℕ) → IsNumber digits n → starts is_ascii_digit rest ≡ false → text ≡ 46 ∷ (digits ++ rest) → P n rest

dots_stop : (more rest : List ℕ) → EndsRelease rest → starts is_ascii_digit (dots more ++ rest) ≡ false
dots_stop [] rest ends = ends.0
dots_stop (n ∷ more) rest ends = refl

-- the next of them is this number, and then later ones follow
pub record NextOn (release rest : List ℕ) (number : ℕ) (later done : List ℕ) : Type 0 where
  pub more : List ℕ
  pub is : release ≡ done ++ number ∷ more
  pub fit : All Fits more
  pub split : later ≡ dots more ++ rest

pub next_on : {release rest after later old form : List ℕ} {zeros number : ℕ} → (g : GoesOn release rest after zeros old form) → EndsRelease rest
    → ((digits : List ℕ) × IsNumber digits number × (after ≡ 46 ∷ (digits ++ later))) → OfNext after (λ n next. (number ≡ n) × (later ≡ next)) → NextOn release rest number later g.done
next_on {release} {rest} {after} {later} {old} {form} {zeros} {number} g ends one found = by g.more g.is g.fit g.split
  where
    by : (more : List ℕ) → release ≡ g.done ++ more → All Fits more → after ≡ dots more ++ rest → NextOn release rest number later g.done
    by [] is fit split = cc (sym (ends.1 (one.0 ++ later) (sym split ∙ one.2)) ∙ number_first one.0 later number one.1)
    by (n ∷ more) is fit split =
        let same = found (decimal n) (dots more ++ rest) n (decimal_number n (All-head Fits n more fit)) (dots_stop more rest ends) (split ∙ append_assoc (46 ∷ decimal n) (dots more) rest) in
        record { more = more; is = is ∙ ap (λ k. g.done ++ k ∷ more) (sym same.0); fit = All-tail Fits n more fit; split = same.1 }

-- and there is capacity for it, and for the zeros before it
pub next_fits : {release rest after later old form : List ℕ} {zeros number : ℕ} → (g : GoesOn release rest after zeros old form) → NextOn release rest number later g.done
    → length old + length (flat_map (number_bytes 1) release) ≤ 64 → length form + (zeros + length (number_bytes 1 number)) ≤ 64
next_fits {release} {rest} {after} {later} {old} {form} {zeros} {number} g next fits =
    let code : List ℕ → List ℕ = flat_map (number_bytes 1) in
    let all : code release ≡ code g.done ++ (number_bytes 1 number ++ code next.more) = ap code next.is ∙ flat_map-append (number_bytes 1) g.done (number ∷ next.more) in
    omega (
      arith,
      fits,
      ap length all,
      length-append (code g.done) (number_bytes 1 number ++ code next.more),
      length-append (number_bytes 1 number) (code next.more),
      ap length (untrimmed g.done),
      length-append (code (trim g.done)) (replicate (ending_zeros g.done) 1),
      length-replicate {A = ℕ} (ending_zeros g.done) 1,
      g.zeros_are,
      ap length g.written,
      length-append old (code (trim g.done)),
    )

pub goes_on_next : {release rest after later old form new : List ℕ} {zeros ending number : ℕ} → (g : GoesOn release rest after zeros old form) → NextOn release rest number later g.done
    → (ending ≡ ending_zeros (g.done ++ number ∷ [])) × (new ≡ old ++ flat_map (number_bytes 1) (trim (g.done ++ number ∷ []))) → GoesOn release rest later ending old new
goes_on_next {release} {rest} {after} {later} {old} {form} {new} {zeros} {ending} {number} g next pushed = record {
  done = g.done ++ number ∷ [];
  more = next.more;
  is = next.is ∙ sym (append_assoc g.done (number ∷ []) next.more);
  fit = next.fit;
  split = next.split;
  zeros_are = pushed.0;
  written = pushed.1;
}

-- where no number follows, all of them are written
pub goes_on_no_more : {release rest after old form : List ℕ} {zeros : ℕ} → GoesOn release rest after zeros old form → EndsRelease rest → OfNext after (λ _ _. ⊥)
    → (zeros ≡ ending_zeros release) × (after ≡ rest) × (form ≡ old ++ flat_map (number_bytes 1) (trim release))
goes_on_no_more {release} {rest} {after} {old} {form} {zeros} g ends none = by g.more g.is g.fit g.split
  where
    by : (more : List ℕ) → release ≡ g.done ++ more → All Fits more → after ≡ dots more ++ rest → (zeros ≡ ending_zeros release) × (after ≡ rest) × (form ≡ old ++ flat_map (number_bytes 1) (trim release))
    by [] is fit split =
        let done = sym (is ∙ append-nil g.done) in
        (g.zeros_are ∙ ap ending_zeros done, split, g.written ∙ ap (λ l. old ++ flat_map (number_bytes 1) (trim l)) done)
    by (n ∷ more) is fit split =
        absurd (none (decimal n) (dots more ++ rest) n (decimal_number n (All-head Fits n more fit)) (dots_stop more rest ends) (split ∙ append_assoc (46 ∷ decimal n) (dots more) rest))

-- ---- a pre-release

-- the first two bytes, in lower case, of the spellings of pre-releases
is_kind_first : ℕ → ℕ → Bool
is_kind_first k l = (k == 97) || ((k == 98) || ((k == 99) || ((k == 114) || ((k == 112) && (l == 114)))))

spelled_first : (spelling word after text : List ℕ) → 0 < length spelling → map to_ascii_lowercase word ≡ spelling → text ≡ word ++ after → to_ascii_lowercase (get_or text 0 0) ≡ get_or spelling 0 0
spelled_first spelling [] after text some is split = absurd (omega (arith, some, ap length is))
spelled_first spelling (w ∷ word) after text some is split = ap (λ t. to_ascii_lowercase (get_or t 0 0)) split ∙ ap (λ t. get_or t 0 0) is

spelled_second : (spelling word after text : List ℕ) → 1 < length spelling → map to_ascii_lowercase word ≡ spelling → text ≡ word ++ after → to_ascii_lowercase (get_or text 1 0) ≡ get_or spelling 1 0
spelled_second spelling [] after text some is split = absurd (omega (arith, some, ap length is))
spelled_second spelling (w ∷ []) after text some is split = absurd (omega (arith, some, ap length is))
spelled_second spelling (w ∷ v ∷ word) after text some is split = ap (λ t. to_ascii_lowercase (get_or t 1 0)) split ∙ ap (λ t. get_or t 1 0) is

abbrev begins_kind : List ℕ → Bool
begins_kind text = is_kind_first (to_ascii_lowercase (get_or text 0 0)) (to_ascii_lowercase (get_or text 1 0))

kind_first : (text word after : List ℕ) (kind : PrereleaseKind) → IsSpelling pre_spellings word kind → text ≡ word ++ after → begins_kind text ≡ true
unfolding is_kind_first
kind_first text word after kind is split = elim is [
  | inl e ↦ by 97 (spelled_first (codes "alpha") word after text (omega arith) e.0 split) refl
  | inr is ↦ elim is [
    | inl e ↦ by 97 (spelled_first (codes "a") word after text (omega arith) e.0 split) refl
    | inr is ↦ elim is [
      | inl e ↦ by 98 (spelled_first (codes "beta") word after text (omega arith) e.0 split) refl
      | inr is ↦ elim is [
        | inl e ↦ by 98 (spelled_first (codes "b") word after text (omega arith) e.0 split) refl
        | inr is ↦ elim is [
          | inl e ↦ by 114 (spelled_first (codes "rc") word after text (omega arith) e.0 split) refl
          | inr is ↦ elim is [
            | inl e ↦ by 99 (spelled_first (codes "c") word after text (omega arith) e.0 split) refl
            | inr is ↦ elim is [
              | inl e ↦ pre (spelled_first (codes "preview") word after text (omega arith) e.0 split) (spelled_second (codes "preview") word after text (omega arith) e.0 split)
              | inr is ↦ elim is [
                | inl e ↦ pre (spelled_first (codes "pre") word after text (omega arith) e.0 split) (spelled_second (codes "pre") word after text (omega arith) e.0 split)
                | inr never ↦ absurd never
              ]
            ]
          ]
        ]
      ]
    ]
  ]
]
  where
    by : (k : ℕ) → to_ascii_lowercase (get_or text 0 0) ≡ k → is_kind_first k (to_ascii_lowercase (get_or text 1 0)) ≡ true → begins_kind text ≡ true
    by k e is = ap (λ k. is_kind_first k (to_ascii_lowercase (get_or text 1 0))) e ∙ is

    pre : to_ascii_lowercase (get_or text 0 0) ≡ 112 → to_ascii_lowercase (get_or text 1 0) ≡ 114 → begins_kind text ≡ true
    pre e f = λ i. is_kind_first (e i) (f i)

-- a text without a leading separator is kept
pub no_separator : (text rest : List ℕ) → ((separator : List ℕ) × IsSeparator separator × (text ≡ separator ++ rest)) → starts is_separator text ≡ false → rest ≡ text
no_separator text rest (separator, inl e, split) none = sym (split ∙ ap (λ s. s ++ rest) e)
no_separator text rest (separator, inr (b, is, e), split) none = absurd (true≢false (sym is ∙ ap (starts is_separator) (sym (split ∙ ap (λ s. s ++ rest) e)) ∙ none))

-- no pre-release is what follows one
pub no_kind : (post dev : Option ℕ) (local : List LocalSegmentValue) (rest : List ℕ) → ((separator : List ℕ) × IsSeparator separator × (after_pre post dev local ≡ separator ++ rest))
    → (word after : List ℕ) (kind : PrereleaseKind) → IsSpelling pre_spellings word kind → rest ≡ word ++ after → ⊥
unfolding is_kind_first
no_kind post dev local rest separated word after kind is split = true≢false (sym (kind_first rest word after kind is split) ∙ none post dev local separated)
  where
    none : (post dev : Option ℕ) (local : List LocalSegmentValue) → ((separator : List ℕ) × IsSeparator separator × (after_pre post dev local ≡ separator ++ rest)) → begins_kind rest ≡ false
    none post dev local (separator, inl e, s) = ap begins_kind (sym (s ∙ ap (λ l. l ++ rest) e)) ∙ whole post dev local
      where
        whole : (post dev : Option ℕ) (local : List LocalSegmentValue) → begins_kind (after_pre post dev local) ≡ false
        whole (Some n) dev local = refl
        whole None (Some n) local = refl
        whole None None [] = refl
        whole None None (s ∷ local) = refl
    none (Some n) dev local (separator, inr (b, is, e), s) = ap (λ t. begins_kind (drop 1 t)) (sym (s ∙ ap (λ l. l ++ rest) e))
    none None (Some n) local (separator, inr (b, is, e), s) = ap (λ t. begins_kind (drop 1 t)) (sym (s ∙ ap (λ l. l ++ rest) e))
    none None None [] (separator, inr (b, is, e), s) = absurd (omega (arith, ap length (s ∙ ap (λ l. l ++ rest) e)))
    none None None (x ∷ local) (separator, inr (b, is, e), s) = absurd (true≢false (sym is ∙ ap (starts is_separator) (sym (s ∙ ap (λ l. l ++ rest) e))))

-- the kind whose normal spelling and a digit lead, and what follows the spelling
kind_at : List ℕ → Option (PrereleaseKind × List ℕ)
kind_at [] = None
kind_at (b ∷ t) =
    if (b == 97) && starts is_ascii_digit t then Some (Alpha, t)
    else if (b == 98) && starts is_ascii_digit t then Some (Beta, t)
    else if (b == 114) && ((get_or t 0 0 == 99) && starts is_ascii_digit (drop 1 t)) then Some (Rc, drop 1 t)
    else None

printed_kind : (kind : PrereleaseKind) (digits : List ℕ) → starts is_ascii_digit digits ≡ true → kind_at (prerelease_kind_text kind ++ digits) ≡ Some (kind, digits)
unfolding kind_at
printed_kind Alpha digits digit = rw digit refl
printed_kind Beta digits digit = rw digit refl
printed_kind Rc digits digit = rw digit refl

-- where another kind leads, this is none of those
pub other_kind : (text rest : List ℕ) → (text ≡ codes "alpha" ++ rest) ⊎ (text ≡ codes "beta" ++ rest) ⊎ (text ≡ codes "pre" ++ rest) ⊎ (text ≡ codes "c" ++ rest)
    → (kind : PrereleaseKind) (digits : List ℕ) → starts is_ascii_digit digits ≡ true → text ≡ prerelease_kind_text kind ++ digits → ⊥
unfolding kind_at
other_kind text rest is kind digits digit e = none is
  where
    never : (other : List ℕ) → kind_at other ≡ None → text ≡ other → ⊥
    never other at is = cc (sym at ∙ ap kind_at (sym is ∙ e) ∙ printed_kind kind digits digit)

    none : (text ≡ codes "alpha" ++ rest) ⊎ (text ≡ codes "beta" ++ rest) ⊎ (text ≡ codes "pre" ++ rest) ⊎ (text ≡ codes "c" ++ rest) → ⊥
    none (inl is) = never (codes "alpha" ++ rest) refl is
    none (inr (inl is)) = never (codes "beta" ++ rest) refl is
    none (inr (inr (inl is))) = never (codes "pre" ++ rest) refl is
    none (inr (inr (inr is))) = never (codes "c" ++ rest) refl is

-- the kind that leads is that
pub same_kind : (text rest : List ℕ) (kind other : PrereleaseKind) → text ≡ prerelease_kind_text kind ++ rest → (digits : List ℕ) → starts is_ascii_digit digits ≡ true
    → text ≡ prerelease_kind_text other ++ digits → (kind ≡ other) × (rest ≡ digits)
unfolding kind_at
same_kind text rest kind other is digits digit e = elim (cases_Bool (starts is_ascii_digit rest)) [
  | inl h ↦ let same = some _ _ (sym (printed_kind kind rest h) ∙ ap kind_at (sym is ∙ e) ∙ printed_kind other digits digit) in (ap (λ (p : PrereleaseKind × List ℕ). p.0) same, ap (λ (p : PrereleaseKind × List ℕ). p.1) same)
  | inr h ↦ cc (sym (unspelled kind h) ∙ ap kind_at (sym is ∙ e) ∙ printed_kind other digits digit)
]
  where
    unspelled : (kind : PrereleaseKind) → starts is_ascii_digit rest ≡ false → kind_at (prerelease_kind_text kind ++ rest) ≡ None
    unspelled Alpha h = rw h refl
    unspelled Beta h = rw h refl
    unspelled Rc h = rw h refl

-- no normal spelling of a pre-release begins with a separator, and no number
pub pre_no_separator : {text : List ℕ} (kind : PrereleaseKind) (digits : List ℕ) → text ≡ prerelease_kind_text kind ++ digits → starts is_separator text ≡ false
pre_no_separator Alpha digits e = ap (starts is_separator) e
pre_no_separator Beta digits e = ap (starts is_separator) e
pre_no_separator Rc digits e = ap (starts is_separator) e

pub number_no_separator : (text : List ℕ) → starts is_ascii_digit text ≡ true → starts is_separator text ≡ false
number_no_separator [] digit = refl
number_no_separator (b ∷ rest) digit = grind (arith, nat_tests)

-- what is nothing, or begins with a plus, is a local part alone
pub only_local : {text : List ℕ} (pre : Option Prerelease) (post dev : Option ℕ) (local : List LocalSegmentValue) → text ≡ pre_text pre ++ after_pre post dev local → (text ≡ []) ⊎ (starts (λ b. b == 43) text ≡ true)
    → (pre ≡ None) × (post ≡ None) × (dev ≡ None) × (text ≡ local_text local)
only_local {text} (Some p) post dev local e begins = by p.kind e
  where
    by : (k : PrereleaseKind) → text ≡ (prerelease_kind_text k ++ decimal p.number) ++ after_pre post dev local → (Some p ≡ None) × (post ≡ None) × (dev ≡ None) × (text ≡ local_text local)
    by Alpha e = elim begins [ inl none ↦ cc (sym none ∙ e) | inr plus ↦ absurd (true≢false (sym plus ∙ ap (starts (λ b. b == 43)) e)) ]
    by Beta e = elim begins [ inl none ↦ cc (sym none ∙ e) | inr plus ↦ absurd (true≢false (sym plus ∙ ap (starts (λ b. b == 43)) e)) ]
    by Rc e = elim begins [ inl none ↦ cc (sym none ∙ e) | inr plus ↦ absurd (true≢false (sym plus ∙ ap (starts (λ b. b == 43)) e)) ]
only_local None (Some n) dev local e begins = elim begins [ inl none ↦ cc (sym none ∙ e) | inr plus ↦ absurd (true≢false (sym plus ∙ ap (starts (λ b. b == 43)) e)) ]
only_local None None (Some n) local e begins = elim begins [ inl none ↦ cc (sym none ∙ e) | inr plus ↦ absurd (true≢false (sym plus ∙ ap (starts (λ b. b == 43)) e)) ]
only_local None None None local e begins = (refl, refl, refl, e)

-- ---- the normalized form of a short compiled form

-- a normalized form by its first number
pub record Printed (text : List ℕ) (r : Record) : Type 0 where
  pub first : ℕ
  pub others : List ℕ
  pub release : first ∷ others ≡ r.release
  pub fit : Fits first
  pub fits : All Fits others
  pub skipped : skip_v text ≡ epoch_text r.epoch ++ (decimal first ++ (dots others ++ after_release r))

pub printed : (text : List ℕ) (r : Record) → IsParsed r → text ≡ print r → Printed text r
printed text r h e = by r.release h.valid.some h.valid.release refl
  where
    by : (release : List ℕ) → 0 < length release → All Fits release → r.release ≡ release → Printed text r
    by [] some fits is = absurd (omega (arith, some))
    by (n ∷ ns) some fits is =
        let fit = All-head Fits n ns fits in
        record { first = n; others = ns; release = sym is; fit = fit; fits = All-tail Fits n ns fits; skipped = ap skip_v e ∙ printed_skips r n ns is h.valid.epoch fit }

form_length : (epoch numbers stage post dev local zero_ends : List ℕ) → length (((4 ∷ epoch) ++ (numbers ++ 0 ∷ []) ++ stage ++ post ++ dev ++ local) ++ zero_ends)
    ≡ 1 + (length epoch + ((length numbers + length zero_ends) + (length (0 ∷ (stage ++ post ++ dev)) + length local)))
form_length epoch numbers stage post dev local zero_ends =
    omega (
      arith,
      length-append ((4 ∷ epoch) ++ (numbers ++ 0 ∷ []) ++ stage ++ post ++ dev ++ local) zero_ends,
      length-append ((4 ∷ epoch) ++ (numbers ++ 0 ∷ []) ++ stage ++ post ++ dev) local,
      length-append ((4 ∷ epoch) ++ (numbers ++ 0 ∷ []) ++ stage ++ post) dev,
      length-append ((4 ∷ epoch) ++ (numbers ++ 0 ∷ []) ++ stage) post,
      length-append ((4 ∷ epoch) ++ (numbers ++ 0 ∷ [])) stage,
      length-append (4 ∷ epoch) (numbers ++ 0 ∷ []),
      length-append numbers (0 ∷ []),
      length-append (stage ++ post) dev,
      length-append stage post,
    )

-- the bytes of the suffix of these parts
abbrev pub ranks : Option Prerelease → Option ℕ → Option ℕ → List ℕ
ranks pre post dev = rank_bytes (stage_rank (stage_of None pre dev post None)) ++ rank_bytes (post_rank (post_of None post)) ++ rank_bytes (dev_rank (dev_of None dev))

-- the parts of a short form have capacity, with a byte for each number of the release
pub short_parts : (r : Record) → HasShortForm r
    → 1 + (length (number_bytes 0 r.epoch) + (length (flat_map (number_bytes 1) r.release) + (length (0 ∷ ranks r.pre r.post r.dev) + length (local_bytes r.local)))) ≤ 64
short_parts r h =
    let code = flat_map (number_bytes 1) (trim r.release) in
    let parts : r ≡ from_parts r.epoch r.release r.pre r.post r.dev r.local = (λ i. record {
      epoch = r.epoch;
      release = r.release;
      pre = r.pre;
      post = r.post;
      dev = r.dev;
      local = r.local;
      min = h.parsed.round_trips.no_min i;
      max = h.parsed.round_trips.no_max i;
    }) in
    omega (
      arith,
      subst (λ q. length (compiled_bytes q) ≤ 64) parts h.bytes,
      form_length (number_bytes 0 r.epoch) code (rank_bytes (stage_rank (stage_of None r.pre r.dev r.post None))) (rank_bytes (post_rank (post_of None r.post))) (rank_bytes (dev_rank (dev_of None r.dev))) (local_bytes r.local) (zero_bytes r.release),
      ap length (untrimmed r.release),
      length-append code (replicate (ending_zeros r.release) 1),
      length-replicate {A = ℕ} (ending_zeros r.release) 1,
      ap length (ones (drop (length (trim r.release)) r.release)),
      length-replicate {A = ℕ} (length (drop (length (trim r.release)) r.release)) 1,
    )
