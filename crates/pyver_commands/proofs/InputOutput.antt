-- What is read, lines of a string that grows byte by byte, and lines with their numbers; and what is written in turn: sources of which one may be the
-- output, bytes that were appended, words with their outcomes.
-- Lines in order, seen as what they say; and what `newest` answers once the lines were read.
use Rattle.std.proofs.Common.{◌≡◌, ◌∙◌, ◌+◌, ◌==◌, ◌<◌, ℕ, List, [], ◌∷◌, ◌++◌, cond, false, not, length, take, map, get_or, refl, sym, ap, subst, arith, append_assoc, append-nil, ◌≤◌, zero, suc, Option, Some, None, drop, inl, inr, true, IfSome, is_none, take_all, Bor, ◌-◌, Bool, ◌⊎◌}
use Rattle.std.specs.List.{AllZip, enumerate_from, filter, flat_map, concat}
use Rattle.std.proofs.lemmas.Grind.{flat_map-append}
use Rattle.std.proofs.lemmas.List.{map-append, take_more, drop-map, get_or-map, length-map}
use Rattle.std.proofs.lemmas.List.Elements.{All-nil, All-push, filter-append}
use Rattle.std.proofs.lemmas.List.Splits.{length-slice_split, slice_split_at, slice_split_none}
use Rattle.pyver_commands.specs.FilterSteps.{SplitsLines, HasNoNewline, AllFinish, AllFail}
use Rattle.cli_io.specs.Newlines.{input_lines}
use Rattle.pyver_commands.specs.Sources.InputLines.{SourceLine, Origin, Source, filled_lines, filled_lines_from, is_blank, line_in, numbered, source_lines}
use Rattle.std.specs.Prelude.{Bool}
use Rattle.pyver_commands.specs.Sources.{FindsOutput, IsKnownOutput, IsOutcomeOfSources, KnownFile, FailsReading, UnopenedSource, last_name}
use Rattle.pep440_rs.specs.Lists.ListErrors.{lacks_list_memory}
use Rattle.pep440_rs.specs.Lists.ListErrorTexts.{list_rejection_text}
use Rattle.pep440_rs.specs.Lists.ListGrammar.{PieceRejection, RejectsList}
use Rattle.pep440_rs.specs.declared.list.error.SpecifiersErrorKind.{SpecifiersErrorKind}
use Rattle.pep440_version.specs.ErrorTexts.{rejection_text}
use Rattle.pep440_version.specs.Rejections.{Rejection, Rejects}
use Rattle.std.proofs.lemmas.List.Sums.{fold-append}
use Rattle.std.proofs.lemmas.Slice.Zip.{all_zipped_more}
use Rattle.cli_io.specs.Runs.{Outcome}
use Rattle.pyver_commands.specs.Outcomes.{in_turn, followed_by, no_outcome}
use Rattle.pep440_rs.specs.declared.list.error.SpecifiersErrorKind.TheVariants as list
use Rattle.std.proofs.lemmas.List.Folds.{flat_map-map}
use Rattle.std.proofs.lemmas.List.Sorted.{IsPermutation-map, IsStrictWeakOrder-flip, length_permutation, ranks_by}
use Rattle.std.specs.Cmp.{IsStrictWeakOrder, IsTotalOrder, on_total}
use Rattle.std.specs.List.Sorted.{IsSorted, IsStable, ties}
use Rattle.std.specs.Option.{option_map, option_map_or}
use Rattle.std.specs.Ordering.{is_lt, on}
use Rattle.pep440_rs.proofs.Arranging.Arranged.{same_by_ties}
use Rattle.pep440_rs.specs.Arrangement.{ArrangesBy}
use Rattle.pep440_version.specs.Key.{record_cmp}
use Rattle.pep440_version.specs.Key.KeyLaws.{record_total}
use Rattle.pep440_version.specs.Record.{Record}
use Rattle.pyver_commands.specs.Sorts.{SortsParts, firsts, last_texts, line_order, lines_text, sort_outcome, sorted_texts, version_order, without_repeats}
use Rattle.pyver_commands.specs.Sources.VersionLines.{InputParts, VersionLine, OfVersions, line_messages, version_lines}
use Rattle.pyver_commands.specs.Sources.VersionLineViews.{version_line_of, version_line_order}
use Rattle.pyver_commands.specs.declared.sort.SortOptions.{SortOptions}
use Rattle.pyver_commands.specs.declared.sources.version_line.VersionLine.{VersionLine as LineInMemory}
use Rattle.std.specs.Io.KnownBytes.{Appends}
use Rattle.pyver_commands.specs.Sources.InvalidLines.{last_message, lines_status, message_limit}
use Rattle.pyver_commands.specs.NewestOutcomes.{FindsNewest, NewestLine, newest_outcome, taken, IsMatchedLine}
use Rattle.pyver_commands.specs.AnswerViews.{kept_line}
use Rattle.pyver_commands.specs.Matches.{takes_prereleases}
use Rattle.pyver_commands.specs.Sources.ReadLines.{faults}
use Rattle.pyver_commands.specs.Sources.RunFailures.{IsRunFailureOf, FailsWithoutOutcome}
use Rattle.pyver_commands.specs.declared.filter.FilterRule.{FilterRule}
use Rattle.pyver_commands.specs.declared.filter.FilterState.{FilterState}
use Rattle.pyver_commands.specs.declared.filter.Selection.TheVariants as wanted
use Rattle.pyver_commands.specs.declared.newest.NewestRule.{NewestRule}
use Rattle.pyver_commands.specs.declared.sources.stream.RunFailure.{RunFailure}
use Rattle.pyver_commands.specs.declared.sources.stream.RunFailure.TheVariants as run_failure
use Rattle.std.proofs.lemmas.Bool.{both_ways}
use Rattle.std.specs.declared.cmp.Ordering.{Ordering}
use Rattle.pep440_pick.proofs.Choosing as greatest
use Rattle.pep440_pick.proofs.Once.{preference_total}
use Rattle.pep440_pick.specs.Newest.{is_above, preference}
use Rattle.pep440_rs.specs.LiteralMatching.{list_matches_literally}
use Rattle.pep440_rs.specs.Specifiers.{Spec}
use Rattle.pyver_commands.specs.declared.newest_lines.KeptLine.{KeptLine}

-- ---- the lines of a string

pub no_newline_none : HasNoNewline []
no_newline_none = All-nil (λ b. (b == 10) ≡ false)

pub cuts_none : (line : List ℕ) → HasNoNewline line → SplitsLines (line ++ []) [] line
cuts_none line one = record { all = λ rest. ap (λ t. input_lines (t ++ rest)) (append-nil line); one = one }

-- one byte more
pub cuts_byte : (text : List ℕ) (ended : List (List ℕ)) (line : List ℕ) (b : ℕ) → (b == 10) ≡ false → SplitsLines text ended line → SplitsLines (text ++ b ∷ []) ended (line ++ b ∷ [])
cuts_byte text ended line b other k = record {
  all = λ rest. ap input_lines (append_assoc text (b ∷ []) rest) ∙ k.all (b ∷ rest) ∙ ap (λ t. ended ++ input_lines t) (sym (append_assoc line (b ∷ []) rest));
  one = All-push (λ x. (x == 10) ≡ false) line b k.one other;
}

-- a newline more
pub cuts_newline : (text : List ℕ) (ended : List (List ℕ)) (line : List ℕ) → SplitsLines text ended line → SplitsLines (text ++ 10 ∷ []) (ended ++ line ∷ []) []
cuts_newline text ended line k = record {
  all = λ rest. ap input_lines (append_assoc text (10 ∷ []) rest) ∙ k.all (10 ∷ rest) ∙ ap (λ t. ended ++ t) (slice_split_at (λ b. b == 10) line 10 rest k.one refl) ∙ sym (append_assoc ended (line ∷ []) (input_lines rest));
  one = no_newline_none;
}

-- the one and then the other
pub cuts_more : (text : List ℕ) (ended : List (List ℕ)) (line more : List ℕ) (later : List (List ℕ)) (next : List ℕ) → SplitsLines text ended line → SplitsLines (line ++ more) later next → SplitsLines (text ++ more) (ended ++ later) next
cuts_more text ended line more later next k m = record {
  all = λ rest. ap input_lines (append_assoc text more rest) ∙ k.all (more ++ rest) ∙ ap (λ t. ended ++ t) (ap input_lines (sym (append_assoc line more rest)) ∙ m.all rest) ∙ sym (append_assoc ended later (input_lines (next ++ rest)));
  one = m.one;
}

-- the line that has begun ends with the text
pub cuts_all : (text : List ℕ) (ended : List (List ℕ)) (line : List ℕ) → SplitsLines text ended line → input_lines (text ++ []) ≡ (ended ++ line ∷ []) ++ []
cuts_all text ended line k = k.all [] ∙ ap (λ t. ended ++ input_lines t) (append-nil line) ∙ ap (λ t. ended ++ t) (slice_split_none (λ b. b == 10) line k.one) ∙ sym (append-nil (ended ++ line ∷ []))

-- there is a line in any text
pub some_line : (text : List ℕ) → input_lines text ≡ [] → ⊥
some_line text e = absurd (omega (arith, length-slice_split (λ b. b == 10) text, ap length e))

-- the bytes before the index and that at it
pub taken_byte : (line bytes : List ℕ) (i b : ℕ) → i < length bytes → b ≡ get_or bytes i 0 → (line ++ take i bytes) ++ b ∷ [] ≡ line ++ take (i + 1) bytes
taken_byte line bytes i b inside is = append_assoc line (take i bytes) (b ∷ []) ∙ ap (λ t. line ++ t) (sym (take_more bytes i 0 inside ∙ ap (λ x. take i bytes ++ x ∷ []) (sym is)))

pub bytes_newline : (line bytes : List ℕ) (i b : ℕ) (ended : List (List ℕ)) (begun next : List ℕ) → i < length bytes → b ≡ get_or bytes i 0 → b ≡ 10 → SplitsLines (line ++ take i bytes) ended begun → next ≡ []
    → SplitsLines (line ++ take (i + 1) bytes) (ended ++ begun ∷ []) next
bytes_newline line bytes i b ended begun next inside is newline k none =
    subst (λ t. SplitsLines t (ended ++ begun ∷ []) next) (taken_byte line bytes i b inside is)
    (subst (λ n. SplitsLines ((line ++ take i bytes) ++ b ∷ []) (ended ++ begun ∷ []) n) (sym none) (subst (λ x. SplitsLines ((line ++ take i bytes) ++ x ∷ []) (ended ++ begun ∷ []) []) (sym newline) (cuts_newline (line ++ take i bytes) ended begun k)))

pub bytes_other : (line bytes : List ℕ) (i b : ℕ) (ended : List (List ℕ)) (begun next : List ℕ) → i < length bytes → b ≡ get_or bytes i 0 → (b == 10) ≡ false → SplitsLines (line ++ take i bytes) ended begun → next ≡ begun ++ b ∷ []
    → SplitsLines (line ++ take (i + 1) bytes) ended next
bytes_other line bytes i b ended begun next inside is other k more =
    subst (λ t. SplitsLines t ended next) (taken_byte line bytes i b inside is) (subst (λ n. SplitsLines ((line ++ take i bytes) ++ b ∷ []) ended n) (sym more) (cuts_byte (line ++ take i bytes) ended begun b other k))

-- ---- lines with their numbers

enumerate_from-append : {X : Type 0} (n : ℕ) (xs ys : List X) → enumerate_from n (xs ++ ys) ≡ enumerate_from n xs ++ enumerate_from (n + length xs) ys
enumerate_from-append n [] ys = ap (λ m. enumerate_from m ys) (omega arith)
enumerate_from-append n (x ∷ xs) ys = ap (λ l. (n, x) ∷ l) (enumerate_from-append (n + 1) xs ys ∙ ap (λ m. enumerate_from (n + 1) xs ++ enumerate_from m ys) (omega arith))

pub filled_lines_from-append : (origin : Origin) (n m : ℕ) (xs ys : List (List ℕ)) → m ≡ n + length xs → filled_lines_from origin n (xs ++ ys) ≡ filled_lines_from origin n xs ++ filled_lines_from origin m ys
filled_lines_from-append origin n m xs ys e =
    let test = λ (line : SourceLine). not (is_blank line.text) in
    ap (λ l. filter test (map (line_in origin) l)) (enumerate_from-append n xs ys) ∙ ap (filter test) (map-append (line_in origin) (enumerate_from n xs) (enumerate_from (n + length xs) ys))
    ∙ filter-append test (map (line_in origin) (enumerate_from n xs)) (map (line_in origin) (enumerate_from (n + length xs) ys)) ∙ ap (λ k. filled_lines_from origin n xs ++ filled_lines_from origin k ys) (sym e)

-- one line
pub filled_one : (origin : Origin) (n : ℕ) (line text : List ℕ) → (n, text) ≡ numbered (n, line) → filled_lines_from origin n (line ∷ []) ≡ cond (not (is_blank text)) (record { origin = origin; number = n; text = text } ∷ []) []
filled_one origin n line text is = ap (λ (p : ℕ × List ℕ). filter (λ (l : SourceLine). not (is_blank l.text)) (record { origin = origin; number = p.0; text = p.1 } ∷ [])) (sym is)

-- one source more
pub filled_lines-last : (xs : List Source) (s : Source) → filled_lines (xs ++ s ∷ []) ≡ filled_lines xs ++ source_lines s
filled_lines-last xs s = flat_map-append source_lines xs (s ∷ []) ∙ ap (λ l. filled_lines xs ++ l) (append-nil (source_lines s))

pub all_append : {A B : Type 0} (R : A → B → Type 0) (xs : List A) (ys : List B) (us : List A) (vs : List B) → AllZip R xs ys → AllZip R us vs → AllZip R (xs ++ us) (ys ++ vs)
all_append R [] [] us vs h k = k
all_append R [] (y ∷ ys) us vs h k = absurd h
all_append R (x ∷ xs) [] us vs h k = absurd h
all_append R (x ∷ xs) (y ∷ ys) us vs h k = (h.0, all_append R xs ys us vs h.1 k)

-- ---- what is written in turn: sources of which one may be the output

module _ {X : Type 0} (view : X → List ℕ) (outputs : List ℕ → Option Bool) where
  -- one source more that is not the output
  pub output_next : (names : List X) (i : ℕ) (x : X) (found : Option (List ℕ)) → i < length names → x ≡ get_or names i x → IsKnownOutput (outputs (view x)) false
      → FindsOutput outputs (map view (drop (i + 1) names)) found → FindsOutput outputs (map view (drop i names)) found
  output_next [] i x found inside is known h = absurd (omega (arith, inside))
  output_next (n ∷ names) zero x found inside is known h = inr (subst (λ (y : X). IsKnownOutput (outputs (view y)) false) is known, h)
  output_next (n ∷ names) (suc i) x found inside is known h =
      let at : suc i + 1 ≡ suc (i + 1) = omega arith in
      output_next names i x found (omega (arith, inside)) is known (subst (λ m. FindsOutput outputs (map view (drop m (n ∷ names))) found) at h)

  -- this source is the output
  pub output_here : (names : List X) (i : ℕ) (x : X) → i < length names → x ≡ get_or names i x → IsKnownOutput (outputs (view x)) true → FindsOutput outputs (map view (drop i names)) (Some (view x))
  output_here [] i x inside is known = absurd (omega (arith, inside))
  output_here (n ∷ names) zero x inside is known = inl (subst (λ (y : X). IsKnownOutput (outputs (view y)) true) is known, ap (λ (y : X). Some (view y)) is)
  output_here (n ∷ names) (suc i) x inside is known = output_here names i x (omega (arith, inside)) is known

  -- none is left
  pub output_none : (names : List X) (i : ℕ) → length names ≤ i → FindsOutput outputs (map view (drop i names)) None
  output_none [] zero end = refl
  output_none [] (suc i) end = refl
  output_none (n ∷ names) zero end = absurd (omega (arith, end))
  output_none (n ∷ names) (suc i) end = output_none names i (omega (arith, end))

-- ---- strings that are rejected, by the errors of their readers

-- an error that is not 'out of memory' has the message of a refusal
pub told : (text : List ℕ) (o : Option Rejection) (m : Option (List ℕ)) (s : List ℕ) → is_none o ≡ false → IfSome o (Rejects text) → IfSome o (λ f. m ≡ Some (rejection_text f)) → IfSome m (λ t. s ≡ t)
    → (f : Rejection) × Rejects text f × (s ≡ rejection_text f)
told text None m s lacks why is at = cc lacks
told text (Some f) m s lacks why is at = (f, why, subst (λ (n : Option (List ℕ)). IfSome n (λ t. s ≡ t)) is at)

pub told_list : (text : List ℕ) (kind : SpecifiersErrorKind) (o : Option PieceRejection) (m : Option (List ℕ)) (s : List ℕ) → lacks_list_memory kind ≡ false → (o ≡ None → kind ≡ list.OutOfMemory) → IfSome o (RejectsList text)
    → IfSome o (λ f. m ≡ Some (list_rejection_text f text)) → IfSome m (λ t. s ≡ t) → (f : PieceRejection) × RejectsList text f × (s ≡ list_rejection_text f text)
told_list text kind None m s lacks lifted why is at = let full : lacks_list_memory kind ≡ true = ap lacks_list_memory (lifted refl) in cc (full, lacks)
told_list text kind (Some f) m s lacks lifted why is at = (f, why, subst (λ (n : Option (List ℕ)). IfSome n (λ t. s ≡ t)) is at)

-- ---- bytes that were appended one after another

-- one part more, in front of the others
pub appended_more : (a x y b c : List ℕ) → b ≡ a ++ x → c ≡ b ++ y → c ≡ a ++ (x ++ y)
appended_more a x y b c first rest = rest ∙ ap (λ l. l ++ y) first ∙ append_assoc a x y

-- three parts, of which the one in the middle has another name
pub three_appended : (a x y w z b c d : List ℕ) → b ≡ a ++ x → c ≡ b ++ w → w ≡ y → d ≡ c ++ z → d ≡ a ++ (x ++ (y ++ z))
three_appended a x y w z b c d first second same third =
    third ∙ ap (λ l. l ++ z) (second ∙ ap (λ l. l ++ w) first ∙ ap (λ l. (a ++ x) ++ l) same) ∙ ap (λ l. l ++ z) (append_assoc a x y) ∙ append_assoc a (x ++ y) z ∙ ap (λ l. a ++ l) (append_assoc x y z)

-- ---- words that are taken one after another, each with its outcome

-- the first i words were taken, and this is what was written of them
abbrev pub Taken : {X : Type 0} → (X → List ℕ) → (List ℕ → Outcome → Type 0) → List X → ℕ → Outcome → Type 0
Taken view Each words i o = (os : List Outcome) × AllZip Each (map view (take i words)) os × (o ≡ in_turn os)

-- one word more
pub taken_more : {X : Type 0} (view : X → List ℕ) (Each : List ℕ → Outcome → Type 0) (words : List X) (i : ℕ) (x : X) (a b o : Outcome) → i < length words → x ≡ get_or words i x → Each (view x) o → b ≡ followed_by a o
    → Taken view Each words i a → Taken view Each words (i + 1) b
taken_more view Each words i x a b o inside is each more k =
    let parts = map-append view (take i words) (x ∷ []) in
    let split = take_more words i x inside ∙ ap (λ y. take i words ++ y ∷ []) (sym is) in (
      k.0 ++ o ∷ [],
      subst (λ ws. AllZip Each ws (k.0 ++ o ∷ [])) (sym (ap (map view) split ∙ parts)) (all_zipped_more Each (map view (take i words)) k.0 (view x) o k.1 each),
      more ∙ ap (λ z. followed_by z o) k.2 ∙ sym (fold-append followed_by no_outcome k.0 (o ∷ [])),
    )

-- all words were taken
pub taken_all : {X : Type 0} (view : X → List ℕ) (Each : List ℕ → Outcome → Type 0) (words : List X) (i : ℕ) (o : Outcome) → length words ≤ i → Taken view Each words i o → (os : List Outcome) × AllZip Each (map view words) os × (o ≡ in_turn os)
taken_all view Each words i o end k = (k.0, subst (λ ws. AllZip Each (map view ws) k.0) (take_all i words end) k.1, k.2)

-- ---- the order

-- it is one, from the oldest on or from the newest on
pub order_weak : {X : Type 0} (version : X → Record) (reversed : Bool) → IsStrictWeakOrder (λ (x y : X). is_lt (version_order reversed (version x) (version y)))
order_weak {X} version true = IsStrictWeakOrder-flip (λ (x y : X). is_lt (record_cmp (version x) (version y))) (ranks_by record_total version)
order_weak version false = ranks_by record_total version

pub one_sorted : (reversed : Bool) (given a b : List VersionLine) → ArrangesBy (line_order reversed) given a → ArrangesBy (line_order reversed) given b → a ≡ b
one_sorted reversed given a b h g =
    same_by_ties (λ (x y : VersionLine). is_lt (line_order reversed x y)) (order_weak (λ (x : VersionLine). x.version) reversed) a b h.rises g.rises (λ z. h.stable z ∙ sym (g.stable z))

-- ---- lines in memory and what they say

filter_map : {X Y : Type 0} (f : X → Y) (p : Y → Bool) (q : X → Bool) → ((x : X) → p (f x) ≡ q x) → (xs : List X) → filter p (map f xs) ≡ map f (filter q xs)
filter_map f p q same [] = refl
filter_map f p q same (x ∷ xs) =
    ap (λ b. cond b (f x ∷ filter p (map f xs)) (filter p (map f xs))) (same x) ∙ ap (λ l. cond (q x) (f x ∷ l) l) (filter_map f p q same xs) ∙ both (q x)
  where
    both : (b : Bool) → cond b (f x ∷ map f (filter q xs)) (map f (filter q xs)) ≡ map f (cond b (x ∷ filter q xs) (filter q xs))
    both true = refl
    both false = refl

view_rises : (reversed : Bool) (xs : List LineInMemory) → IsSorted (version_line_order reversed) xs → IsSorted (line_order reversed) (map version_line_of xs)
view_rises reversed [] up k d low high = absurd (omega (arith, high))
view_rises reversed (x ∷ xs) up k d low high =
    let here : k + 1 < length (x ∷ xs) = omega (arith, high, length-map xs version_line_of) in
    rw (get_or-map version_line_of (x ∷ xs) (k + 1) x d here, get_or-map version_line_of (x ∷ xs) k x d (omega (arith, here))) (up k x low here)

-- a line in memory with this version, where there is a line
view_stable : (reversed : Bool) (given sorted : List LineInMemory) → length sorted ≡ length given → IsStable (version_line_order reversed) given sorted → IsStable (line_order reversed) (map version_line_of given) (map version_line_of sorted)
view_stable reversed [] [] same stable y = refl
view_stable reversed [] (x ∷ sorted) same stable y = absurd (omega (arith, same))
view_stable reversed (x ∷ given) sorted same stable y =
    let z : LineInMemory = record x { version = y.version } in
    let test = ties (λ (a b : VersionLine). is_lt (line_order reversed a b)) y in
    let below = ties (λ (a b : LineInMemory). is_lt (version_line_order reversed a b)) z in
    filter_map version_line_of test below (λ w. refl) sorted ∙ ap (map version_line_of) (stable z) ∙ sym (filter_map version_line_of test below (λ w. refl) (x ∷ given))

pub view_arranged : (reversed : Bool) (given sorted : List LineInMemory) → ArrangesBy (version_line_order reversed) given sorted → ArrangesBy (line_order reversed) (map version_line_of given) (map version_line_of sorted)
view_arranged reversed given sorted k = record {
  same = IsPermutation-map version_line_of given sorted k.same;
  rises = view_rises reversed sorted k.rises;
  stable = view_stable reversed given sorted (length_permutation given sorted k.same) k.stable;
}

-- ---- what is printed

last_map : {X Y : Type 0} (f : X → Y) (last : Option ℕ) (xs : List X) → map f (option_map_or (λ count. drop (length xs - count) xs) last xs) ≡ option_map_or (λ count. drop (length (map f xs) - count) (map f xs)) last (map f xs)
last_map f None xs = refl
last_map f (Some count) xs = sym (drop-map f (length xs - count) xs) ∙ ap (λ n. drop (n - count) (map f xs)) (sym (length-map xs f))

last_is : (last : Option ℕ) (texts : List (List ℕ)) → option_map_or (λ count. drop (length texts - count) texts) last texts ≡ last_texts last texts
last_is None texts = refl
last_is (Some count) texts = refl

abbrev now : Bor (List ℕ) → List ℕ
now t = t.now

-- the texts of versions and then those of invalid lines, of which the last are printed after the header
pub printed_is : (options : SortOptions) (sorted : List VersionLine) (texts invalid both shown : List (Bor (List ℕ))) (header output : List ℕ) → map (λ t. t.now) texts ≡ map (λ (x : VersionLine). x.text) (without_repeats options.unique sorted)
    → both ≡ texts ++ invalid → shown ≡ option_map_or (λ count. drop (length both - count) both) options.last both → output ≡ header ++ flat_map (λ t. t.now ++ 10 ∷ []) shown
    → output ≡ header ++ lines_text (last_texts options.last (sorted_texts options sorted (map (λ t. t.now) invalid)))
printed_is options sorted texts invalid both shown header output same joined last printed =
    let line : List ℕ → List ℕ = λ t. t ++ 10 ∷ [] in
    let cut : List (List ℕ) → List (List ℕ) = λ l. option_map_or (λ count. drop (length l - count) l) options.last l in
    let all : map now both ≡ sorted_texts options sorted (map now invalid) = ap (map now) joined ∙ map-append now texts invalid ∙ ap (λ l. l ++ map now invalid) same in
    printed ∙ ap (λ l. header ++ l) (sym (flat_map-map line now shown) ∙ ap (λ l. flat_map line (map now l)) last ∙ ap (flat_map line) (last_map now options.last both)
    ∙ ap (λ l. flat_map line (cut l)) all ∙ ap (flat_map line) (last_is options.last (sorted_texts options sorted (map now invalid))))

pub sorts_parts : (options : SortOptions) (parts : InputParts) (given sorted : List LineInMemory) (o : Outcome) → parts.versions ≡ map version_line_of given → ArrangesBy (version_line_order options.reversed) given sorted
    → o ≡ sort_outcome options parts (map version_line_of sorted) → SortsParts options parts o
sorts_parts options parts given sorted o lines k is = (map version_line_of sorted, subst (λ l. ArrangesBy (line_order options.reversed) l (map version_line_of sorted)) (sym lines) (view_arranged options.reversed given sorted k), is)

-- ---- one of equal ones

-- what is kept of the lines that are left, by the version before them
abbrev pub kept_after : Bool → Option (Bor Record) → List LineInMemory → List VersionLine
kept_after true before lines = firsts (option_map (λ v. v.now) before) (map version_line_of lines)
kept_after false before lines = map version_line_of lines

-- ---- what `newest` answers

abbrev pub newest_filter : NewestRule → Bool → FilterRule
newest_filter rule takes = record { wanted = wanted.Newest; takes = takes; lines = rule.lines; list = rule.list }

appended : (a b : Option (List ℕ)) (t xs : List ℕ) → a ≡ Some [] → b ≡ Some t → Appends a b xs → t ≡ xs
appended a b t xs old new k = subst (λ y. Appends (Some []) y xs) new (subst (λ x. Appends x b xs) old k)

module _ {R W E : Type 0} (files : List ℕ → KnownFile) (remaining : R → Option (List ℕ)) (contents : W → Option (List ℕ)) (error_contents : E → Option (List ℕ)) (rule : NewestRule) (takes : Bool) (names : List (List ℕ)) (b : FilterState) (reader reader' : R) (out out' : W) (err err' : E) where
  -- an allocation failed after all was read
  pub stops_after : (unopened : Option UnopenedSource) → AllFinish files remaining contents error_contents (newest_filter rule takes) names unopened b reader reader' out out' err err' → FailsWithoutOutcome files remaining names reader reader' run_failure.OutOfMemory
  stops_after unopened k = record { input = record { sources = k.sources; unopened = unopened }; reads = inr (refl, k.reads); stops = tt }

  module _ (unopened : Option UnopenedSource) (all : AllFinish files remaining contents error_contents (newest_filter rule takes) names unopened b reader reader' out out' err err') (none : unopened ≡ None) (told messages : List ℕ) (old : error_contents err ≡ Some []) (new : error_contents err' ≡ Some told) (ends : messages ≡ told ++ last_message rule.lines.invalid b.fault_count) where
    k : AllFinish files remaining contents error_contents (newest_filter rule takes) names None b reader reader' out out' err err'
    k = rw none at all

    told_messages : messages ≡ line_messages rule.lines.invalid k.wrote.found
    told_messages =
        ends ∙ ap (λ t. t ++ last_message rule.lines.invalid b.fault_count) (appended (error_contents err) (error_contents err') told _ old new k.wrote.errors)
        ∙ ap (λ n. concat (take (message_limit rule.lines.invalid) (faults k.wrote.found)) ++ last_message rule.lines.invalid n) k.wrote.fault_count

    -- the newest line is printed, if there is one
    pub newest_answers : (newest : Option VersionLine) → lines_status rule.lines.invalid b.fault_count ≡ 0 → takes ≡ takes_prereleases rule.prereleases rule.list → newest ≡ taken rule.prereleases (option_map kept_line b.newest)
        → IsOutcomeOfSources files remaining (OfVersions rule.lines (FindsNewest rule)) names reader reader' (newest_outcome messages newest)
    newest_answers newest no_faults asked is = record {
      input = record { sources = k.sources; unopened = None };
      reads = k.reads;
      is = (
        k.wrote.found,
        k.wrote.are,
        inl (
          ap (lines_status rule.lines.invalid) (sym k.wrote.fault_count) ∙ no_faults,
          (
            option_map kept_line b.newest,
            subst (λ t. NewestLine t rule.list (version_lines k.wrote.found) (option_map kept_line b.newest)) asked (k.wrote.newest refl),
            λ i. newest_outcome (told_messages i) (is i),
          ),
        ),
      );
    }

-- a run that stopped before the end of the sources
module _ {R W E : Type 0} (files : List ℕ → KnownFile) (remaining : R → Option (List ℕ)) (contents : W → Option (List ℕ)) (error_contents : E → Option (List ℕ)) (rule : FilterRule) (names : List (List ℕ)) (reader reader' : R) (out out' : W) (err err' : E) (why stop : RunFailure) where
  pub stops_within : AllFail files remaining contents error_contents rule names reader reader' out out' err err' why → (why ≡ run_failure.OutOfMemory → stop ≡ run_failure.OutOfMemory) → ((last : Option (List ℕ)) → IsRunFailureOf last why → IsRunFailureOf last stop)
      → FailsWithoutOutcome files remaining names reader reader' stop
  stops_within k memory of = record { input = record { sources = k.sources; unopened = None }; reads = inl (by k.reads); stops = of (last_name k.sources) k.stops }
    where
      by : FailsReading files remaining (why ≡ run_failure.OutOfMemory) names reader reader' k.sources → FailsReading files remaining (stop ≡ run_failure.OutOfMemory) names reader reader' k.sources
      by (inl front) = inl front
      by (inr before) = inr (memory before.0, before.1)

module _ (takes : Bool) (list : List Spec) where
  abbrev order : VersionLine → VersionLine → Ordering
  order = on (λ (x : VersionLine). x.version) (preference takes)

  total : IsTotalOrder order
  total = on_total (λ (x : VersionLine). x.version) (preference_total takes)

  only : (x y z : VersionLine) → IsMatchedLine list x y → IsMatchedLine list x z → y ≡ z
  only x y z h k = sym h.0 ∙ k.0

  -- it is newer than the newest so far, if there is one
  abbrev pub is_newer : Option KeptLine → Record → Bool
  is_newer newest r = option_map_or (λ (x : KeptLine). is_lt (preference takes x.version r)) newest true

  newer_than : (newest : Option KeptLine) (g : Option (ℕ × VersionLine)) (line : VersionLine) → option_map kept_line newest ≡ option_map (λ (p : ℕ × VersionLine). p.1) g → is_above order g line ≡ is_newer newest line.version
  newer_than None None line is = refl
  newer_than None (Some p) line is = cc is
  newer_than (Some x) None line is = cc is
  newer_than (Some x) (Some p) line is = let same : kept_line x ≡ p.1 = cc is in ap (λ y. is_lt (order y line)) (sym same)

  module _ (lines : List VersionLine) (line : VersionLine) (newest : Option KeptLine) (n : NewestLine takes list lines (option_map kept_line newest)) where
    pub found_more : is_newer newest line.version ≡ true → list_matches_literally list line.version ≡ true → NewestLine takes list (lines ++ line ∷ []) (Some line)
    found_more above has = record {
      greatest = Some (length lines, line);
      is = greatest.found_more (IsMatchedLine list) only order total lines line line n.greatest n.is (refl, has) (newer_than newest n.greatest line n.line ∙ above);
      line = refl;
    }

    pub kept_more : (is_newer newest line.version ≡ false) ⊎ (list_matches_literally list line.version ≡ false) → NewestLine takes list (lines ++ line ∷ []) (option_map kept_line newest)
    kept_more out = record {
      greatest = n.greatest;
      is = greatest.kept_more (IsMatchedLine list) only order total lines line n.greatest n.is (λ k has. not_above k has out);
      line = n.line;
    }
      where
        not_above : (k : VersionLine) → IsMatchedLine list line k → (is_newer newest line.version ≡ false) ⊎ (list_matches_literally list line.version ≡ false) → is_above order n.greatest k ≡ false
        not_above k has (inl below) = subst (λ y. is_above order n.greatest y ≡ false) has.0 (newer_than newest n.greatest line n.line ∙ below)
        not_above k has (inr out) = absurd (both_ways (list_matches_literally list k.version) (ap (λ (x : VersionLine). list_matches_literally list x.version) (sym has.0) ∙ out) has.1)

  pub no_lines : NewestLine takes list [] None
  no_lines = record { greatest = None; is = λ k d below. absurd (omega (arith, below)); line = refl }

  -- there is one newest line
  pub one_newest : (lines : List VersionLine) (a b : Option VersionLine) → NewestLine takes list lines a → NewestLine takes list lines b → a ≡ b
  one_newest lines a b h k = h.line ∙ ap (option_map (λ (p : ℕ × VersionLine). p.1)) (greatest.one_greatest (IsMatchedLine list) only order total lines h.greatest k.greatest h.is k.is) ∙ sym k.line
