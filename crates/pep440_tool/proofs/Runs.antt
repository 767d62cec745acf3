-- Texts with their numbers that are read one after another, what was found in them, and which are rejected; and how runs end.
use Rattle.std.proofs.Common.{◌≡◌, ◌+◌, ◌<◌, ◌≤◌, ◌∙◌, ℕ, List, [], ◌∷◌, ◌++◌, length, get_or, Option, Some, true, inl, inr, drop, map, refl, sym, ap, subst, append_assoc, append-nil, ◌⊎◌, Bool, false, None, IfSome, Result, Ok, Err, codes, is_none, Bor, ◌^◌, cond, not, arith}
use Rattle.std.proofs.lemmas.List.{map-append}
use Rattle.std.proofs.lemmas.List.Elements.{filter-append}
use Rattle.std.proofs.lemmas.List.Folds.{flat_map-map}
use Rattle.std.proofs.lemmas.Option.{slice_get_read}
use Rattle.std.proofs.lemmas.Slice.Zip.{all_zipped_more}
use Rattle.std.specs.List.{AllZip, enumerate_from, filter, flat_map}
use Rattle.std.specs.List.Sorted.{IsPermutation, IsSorted, IsStable}
use Rattle.std.specs.Option.{option_map_or}
use Rattle.std.specs.Prelude.{slice_get, IsErrAnd, option_map}
use Rattle.pep440_pick.specs.Allowed.{lists_of}
use Rattle.pep440_pick.specs.Names.{is_name, same_name}
use Rattle.pep440_pick.specs.Newest.{Newest}
use Rattle.pep440_pick.specs.RequirementGrammar.{DerivesRequirement, Needed, RejectsRequirement, RequirementRejection, InvalidExtras, InvalidName, Marker, Specifiers, Unclosed, Url}
use Rattle.pep440_rs.specs.Matching.{list_matches}
use Rattle.pep440_rs.specs.Specifiers.{Spec}
use Rattle.pep440_version.specs.Key.{record_cmp}
use Rattle.pep440_version.specs.Print.{print}
use Rattle.pep440_version.specs.Record.{Record}
use Rattle.pep440_tool.specs.Answers.{line, RejectsFirst, ToolAnswer, shown, RangeAnswer, edited_answer, line_fault_text, range_answer, memory_text}
use Rattle.pep440_tool.specs.Lines.{LineDenotes, ShowsContained, numbered_lines, RejectsLine, numbered_from}
use Rattle.pep440_tool.specs.Picks.{CandidateDenotes, PickAnswer, PrintsNewest, is_of_list, shown_requirement_error}
use Rattle.pep440_version.proofs.ChangeWords.Items.{rest_is}
use Rattle.std.specs.Str.{IsUtf8}
use Rattle.pep440_pick.specs.Requirements.{requirement_rejection_text, requirement_rejection_of}
use Rattle.pep440_pick.specs.declared.error.RequirementError.{RequirementError}
use Rattle.pep440_pick.specs.declared.error.RequirementError.TheVariants as error
use Rattle.pep440_rs.specs.Bounds.{list_range, range_of}
use Rattle.pep440_rs.specs.ErrorTexts.{range_error_text}
use Rattle.pep440_rs.specs.Lists.ListResults.{line_of, list_kind_of}
use Rattle.pep440_rs.specs.Lists.ListErrorTexts.{list_rejection_text}
use Rattle.pep440_rs.specs.Lists.ListErrors.{list_rejection_of}
use Rattle.pep440_rs.specs.Lists.ListGrammar.{DerivesList, PieceRejection, RejectsList}
use Rattle.pep440_rs.specs.declared.list.error.SpecifiersErrorKind.{SpecifiersErrorKind}
use Rattle.pep440_rs.specs.declared.list.error.SpecifiersErrorKind.TheVariants as list
use Rattle.pep440_rs.specs.declared.range.error.RangeError.{RangeError}
use Rattle.pep440_rs.specs.declared.range.error.RangeError.TheVariants as range
use Rattle.pep440_version.specs.ErrorTexts.{change_error_text, rejection_text}
use Rattle.pep440_version.specs.declared.change.ChangeError.{ChangeError}
use Rattle.pep440_version.specs.declared.change.ChangeError.TheVariants as change
use Rattle.pep440_version.specs.Rejections.{Rejection, Rejects}
use Rattle.pep440_tool.specs.CommandErrors.{HoldsOrPrints, ErrorPrints, ends_lines, error_answer, is_change_memory, is_list_error, is_list_memory, is_requirement_memory}
use Rattle.pep440_tool.specs.declared.error.CommandError.{CommandError}
use Rattle.pep440_tool.specs.declared.error.CommandError.TheVariants.{Change, NotUtf8, Range}
use Rattle.pep440_tool.specs.declared.output.Answer.{Answer}
use Rattle.pep440_tool.specs.AnswerValues.{HoldsOfAnswer, answer_value}
use Rattle.std.proofs.KnownBytes.{Appends-nil}
use Rattle.std.specs.Io.KnownBytes.{Appends}
use Rattle.cli_io.proofs.Bytes.{WroteBeginning-none}
use Rattle.cli_io.specs.Runs.{AtOnce, Nothing}
use Rattle.cli_io.specs.Streams.{WroteBeginning}
use Rattle.pep440_tool.specs.Commands.{IsAnswer, request_of_words, reads_input}
use Rattle.pep440_tool.specs.Runs.{RunEnds, TookInput}
use Rattle.cli_io.specs.Newlines.{input_lines}
use Rattle.pep440_tool.specs.LinesLeft.{left_of}

-- what was found, of which this holds, and the texts that are left
pub record Found {A : Type 0} (Means : ℕ × List ℕ → A → Type 0) (texts left : List (ℕ × List ℕ)) (P : List A → Type 0) : Type 0 where
  pub found : List A
  pub before : List (ℕ × List ℕ)
  pub split : texts ≡ before ++ left
  pub means : AllZip Means before found
  pub holds : P found

pub found_none : {A : Type 0} (Means : ℕ × List ℕ → A → Type 0) (texts : List (ℕ × List ℕ)) (P : List A → Type 0) → P [] → Found Means texts texts P
found_none Means texts P h = record { found = []; before = []; split = refl; means = tt; holds = h }

-- one text more
pub found_more : {A : Type 0} (Means : ℕ × List ℕ → A → Type 0) (texts left later : List (ℕ × List ℕ)) (P Q : List A → Type 0) (text : ℕ × List ℕ) (x : A)
    → left ≡ text ∷ later → Means text x → ((xs : List A) → P xs → Q (xs ++ x ∷ [])) → Found Means texts left P → Found Means texts later Q
found_more Means texts left later P Q text x decomposition means next k = record {
  found = k.found ++ x ∷ [];
  before = k.before ++ text ∷ [];
  split = k.split ∙ ap (λ (ts : List (ℕ × List ℕ)). k.before ++ ts) decomposition ∙ sym (append_assoc k.before (text ∷ []) later);
  means = all_zipped_more Means k.before k.found text x k.means means;
  holds = next k.found k.holds;
}

-- a text is rejected
pub found_rejected : {A : Type 0} (Means : ℕ × List ℕ → A → Type 0) (RejectsText : ℕ × List ℕ → ToolAnswer → Type 0) (texts left later : List (ℕ × List ℕ)) (P : List A → Type 0) (text : ℕ × List ℕ)
    (a : ToolAnswer) → left ≡ text ∷ later → RejectsText text a → Found Means texts left P → RejectsFirst Means RejectsText texts a
found_rejected Means RejectsText texts left later P text a decomposition why k = record {
  before = k.before;
  text = text;
  after = later;
  split = k.split ∙ ap (λ (ts : List (ℕ × List ℕ)). k.before ++ ts) decomposition;
  found = k.found;
  means = k.means;
  why = why;
}

-- no text is left
pub found_all : {A : Type 0} (Means : ℕ × List ℕ → A → Type 0) (texts left : List (ℕ × List ℕ)) (P : List A → Type 0) → left ≡ [] → Found Means texts left P → (found : List A) × AllZip Means texts found × P found
found_all Means texts left P none k =
    (k.found, subst (λ (ts : List (ℕ × List ℕ)). AllZip Means ts k.found) (sym (k.split ∙ ap (λ (ts : List (ℕ × List ℕ)). k.before ++ ts) none ∙ append-nil k.before)) k.means, k.holds)

-- ---- words, by a loop over their indices

abbrev pub words_left : {Y : Type 0} → (Y → List ℕ) → List Y → ℕ → List (ℕ × List ℕ)
words_left view ys i = enumerate_from (i + 1) (drop i (map view ys))

pub word_left : {Y : Type 0} (view : Y → List ℕ) (ys : List Y) (i : ℕ) (y : Y) → i < length ys → y ≡ get_or ys i y → words_left view ys i ≡ (i + 1, view y) ∷ words_left view ys (i + 1)
word_left view ys i y inside is = ap (enumerate_from (i + 1)) (rest_is view ys i y y inside is)

-- ---- what is shown

-- the contained versions in order
pub shows_contained : (list : List Spec) (found : List Record) (a : ToolAnswer) (versions shown : List Record) (text : List ℕ) → versions ≡ filter (list_matches list) found → IsPermutation versions shown
    → IsSorted record_cmp shown → IsStable record_cmp versions shown → text ≡ flat_map (λ v. line (print v)) shown → a ≡ record { output = text; status = 0 } → ShowsContained list found a
shows_contained list found a versions shown text are same rises stable lines is_answer = (
  shown,
  record { same = rw are at same; rises = rises; stable = rw are at stable },
  is_answer ∙ ap (λ (t : List ℕ). record { output = t; status = 0 }) (lines ∙ sym (flat_map-map line print shown)),
)

-- one requirement more
pub lists_append : (name : List ℕ) (xs : List Needed) (x : Needed) → lists_of name (xs ++ x ∷ []) ≡ lists_of name xs ++ lists_of name (x ∷ [])
lists_append name xs x = ap (map (λ (n : Needed). n.specifiers)) (filter-append (λ (n : Needed). same_name n.name name) xs (x ∷ []))
    ∙ map-append (λ (n : Needed). n.specifiers) (filter (λ (n : Needed). same_name n.name name) xs) (filter (λ (n : Needed). same_name n.name name) (x ∷ []))

-- the newest is shown by its place
pub shown_at : (lists : List (List Spec)) (versions : List Record) (position : ℕ) (v : Record) (t : List ℕ) (a : ToolAnswer) → Newest lists versions (Some position) → position < length versions → v ≡ get_or versions position v → t ≡ print v
    → a ≡ shown t → PrintsNewest lists versions a
shown_at lists versions position v t a newest inside is text is_answer =
    let shows : slice_get versions position ≡ Some v = slice_get_read versions (length versions) position v refl inside is in
    (Some position, newest, is_answer ∙ ap shown (text ∙ ap (λ (o : Option Record). option_map_or print o (codes "none")) (sym shows)))

-- the newest is shown of the candidates and the lists that were read
pub picked : (name : List ℕ) (texts : List (List ℕ)) (input : List ℕ) (versions given : List Record) (lists held : List (List Spec)) (a : ToolAnswer) → is_name name ≡ true → AllZip CandidateDenotes (enumerate_from 1 texts) versions
    → (found : List Needed) × AllZip (LineDenotes DerivesRequirement) (numbered_lines input) found × (lists ≡ lists_of name found) → held ≡ lists → given ≡ versions → PrintsNewest held given a → PickAnswer name texts input a
picked name texts input versions given lists held a valid_name means k held_is given_is prints =
    let by_name = subst (λ (l : List (List Spec)). PrintsNewest l given a) (held_is ∙ k.2) prints in
    inr (valid_name, inl (versions, means, inl (k.0, k.1, subst (λ (g : List Record). PrintsNewest (lists_of name k.0) g a) given_is by_name)))

-- ---- texts that are rejected, by the errors of their readers that say why

-- an error that is not 'out of memory' has the text of a refusal
pub told : (text : List ℕ) (o : Option Rejection) (m : Option (List ℕ)) → is_none o ≡ false → IfSome o (Rejects text) → IfSome o (λ f. m ≡ Some (rejection_text f))
    → (f : Rejection) × Rejects text f × (m ≡ Some (rejection_text f))
told text None m lacks why is = cc lacks
told text (Some f) m lacks why is = (f, why, is)

pub told_list : (text : List ℕ) (kind : SpecifiersErrorKind) (o : Option PieceRejection) (m : Option (List ℕ)) → is_list_memory kind ≡ false → (o ≡ None → kind ≡ list.OutOfMemory) → IfSome o (RejectsList text)
    → IfSome o (λ f. m ≡ Some (list_rejection_text f text)) → (f : PieceRejection) × RejectsList text f × (m ≡ Some (list_rejection_text f text))
told_list text kind None m lacks lifted why is = let full : is_list_memory kind ≡ true = ap is_list_memory (lifted refl) in cc (full, lacks)
told_list text kind (Some f) m lacks lifted why is = (f, why, is)

some_none : {P : Type 0} (f : RequirementRejection) → None ≡ Some f → P
some_none f e = cc e

same : (f g : RequirementRejection) → Some f ≡ Some g → is_of_list f ≡ is_of_list g
same f g e = ap is_of_list (inside f g e)
  where
    inside : (f g : RequirementRejection) → Some f ≡ Some g → f ≡ g
    inside f g e = cc

of_list : (o : Option PieceRejection) (line : List ℕ) (f : RequirementRejection) → option_map (λ p. Specifiers line p) o ≡ Some f → true ≡ is_of_list f
of_list None line f e = some_none f e
of_list (Some p) line f e = same (Specifiers line p) f e

list_or_not : (e : RequirementError) (f : RequirementRejection) → requirement_rejection_of e ≡ Some f → is_list_error e ≡ is_of_list f
list_or_not error.Marker f e = same Marker f e
list_or_not error.Url f e = same Url f e
list_or_not error.InvalidName f e = same InvalidName f e
list_or_not error.InvalidExtras f e = same InvalidExtras f e
list_or_not error.Unclosed f e = same Unclosed f e
list_or_not (error.Specifiers inner) f e = of_list (list_rejection_of (list_kind_of inner)) (line_of inner) f e
list_or_not error.OutOfMemory f e = some_none f e

pub told_requirement : (text : List ℕ) (number : ℕ) (e : RequirementError) (m : Option (List ℕ)) → is_requirement_memory e ≡ false → (requirement_rejection_of e ≡ None → e ≡ error.OutOfMemory)
    → IfSome (requirement_rejection_of e) (RejectsRequirement text) → IfSome (requirement_rejection_of e) (λ f. m ≡ Some (requirement_rejection_text f))
    → (f : RequirementRejection) × RejectsRequirement text f × (m ≡ Some (requirement_rejection_text f)) × (error_answer (is_list_error e) (line_fault_text number (requirement_rejection_text f)) ≡ shown_requirement_error number f)
told_requirement text number e m lacks lifted why is = go (requirement_rejection_of e) refl lifted why is
  where
    go : (o : Option RequirementRejection) → requirement_rejection_of e ≡ o → (o ≡ None → e ≡ error.OutOfMemory) → IfSome o (RejectsRequirement text) → IfSome o (λ f. m ≡ Some (requirement_rejection_text f))
        → (f : RequirementRejection) × RejectsRequirement text f × (m ≡ Some (requirement_rejection_text f)) × (error_answer (is_list_error e) (line_fault_text number (requirement_rejection_text f)) ≡ shown_requirement_error number f)
    go None at lifted why is = let full : is_requirement_memory e ≡ true = ap is_requirement_memory (lifted refl) in cc (full, lacks)
    go (Some f) at lifted why is = (f, why, is, ap (λ (b : Bool). error_answer b (line_fault_text number (requirement_rejection_text f))) (list_or_not e f at))

-- changes that cannot be made, and a list without a range
pub told_change : (e : ChangeError) (r : Result Record ChangeError) → (e ≡ change.OutOfMemory) ⊎ (r ≡ Err e) → ErrorPrints (λ a. a ≡ edited_answer r) (Change e)
told_change e r (inl full) = λ lacks. let is : is_change_memory e ≡ true = ap is_change_memory full in cc (is, lacks)
told_change e r (inr made) = λ lacks. (change_error_text e, refl, sym (ap edited_answer made))

pub told_range : (word : List ℕ) (list : List Spec) (e : RangeError) → DerivesList word list → (e ≡ range.NumberAtMax → list_range range_of list ≡ None) → ErrorPrints (RangeAnswer word) (Range e)
told_range word list range.NumberAtMax means none = λ lacks. (range_error_text range.NumberAtMax, refl, inl (list, means, sym (ap range_answer (none refl))))
told_range word list range.OutOfMemory means none = λ lacks. cc lacks

-- a line that is not UTF-8
pub not_text : {F : Type 0} (Rejects : List ℕ → F → Type 0) (answer_at : ℕ → F → ToolAnswer) (number : ℕ) (bytes : List ℕ) (e : CommandError) → (¬ IsUtf8 bytes) × (e ≡ NotUtf8 number)
    → ErrorPrints (RejectsLine Rejects answer_at (number, bytes)) e
not_text Rejects answer_at number bytes e h =
    subst (ErrorPrints (RejectsLine Rejects answer_at (number, bytes))) (sym h.1) (λ lacks. (line_fault_text number (codes "not UTF-8"), refl, inl (h.0, refl)))

-- ---- commands that end there

pub rejects_weaker : (Q R : ToolAnswer → Type 0) → ((a : ToolAnswer) → Q a → R a) → (e : CommandError) → ErrorPrints Q e → ErrorPrints R e
rejects_weaker Q R all e h = λ lacks. let p = h lacks in (p.0, p.1, all (error_answer (ends_lines e) p.0) p.2)

pub answered_weaker : (Q R : ToolAnswer → Type 0) → ((a : ToolAnswer) → Q a → R a) → (result : Result Answer CommandError) → HoldsOfAnswer Q result → HoldsOfAnswer R result
answered_weaker Q R all (Ok a) h = all (answer_value a) h
answered_weaker Q R all (Err e) h = rejects_weaker Q R all e h

-- what ended a call ends its caller
pub stopped : {X : Type 0} (P : X → Type 0) (Q R : ToolAnswer → Type 0) → ((a : ToolAnswer) → Q a → R a) → (e : CommandError) → ErrorPrints Q e → (result : Result X CommandError) → IsErrAnd result (λ x. x ≡ e) → HoldsOrPrints P R result
stopped P Q R all e h (Ok x) none = absurd none
stopped P Q R all e h (Err x) same = subst (ErrorPrints R) (sym same) (rejects_weaker Q R all e h)

-- ---- how runs end, by what was written

module _ {R W : Type 0} (remaining : R → Option (List ℕ)) (contents : W → Option (List ℕ)) (words : List (List ℕ)) (reader reader' : R) (writer writer' : W) (status : ℕ) where
  -- the message of an allocation that failed was written, or a beginning of it
  pub ends_refused : (status ≡ 3) ⊎ (status ≡ 4) → WroteBeginning (contents writer) (contents writer') memory_text → RunEnds remaining contents words reader reader' writer writer' status
  ends_refused known wrote = (writer, inr (record { begun = Nothing; message = memory_text; why = (known, refl); begins = (refl, wrote) }))

  module _ (input : List ℕ) (took : TookInput remaining (reads_input (request_of_words words)) reader reader' input) (a : ToolAnswer) (is : IsAnswer (request_of_words words) input a) where
    pub ends_answered : status ≡ a.status → status ≤ 2 → Appends (contents writer) (contents writer') a.output → RunEnds remaining contents words reader reader' writer writer' status
    ends_answered ended low wrote = (
      writer',
      inl (record {
        outcome = record { output = a.output; errors = []; status = a.status };
        is = record { input = input; took = took; answer = a; is = is; outcome = refl };
        output = wrote;
        errors = Appends-nil (contents writer');
        ended = ended;
        low = low;
      }),
    )

    -- a write of the answer failed
    pub ends_cut : status ≡ 4 → WroteBeginning (contents writer) (contents writer') a.output → RunEnds remaining contents words reader reader' writer writer' status
    ends_cut four wrote = (
      writer',
      inr (record {
        begun = AtOnce (record { output = a.output; errors = []; status = a.status });
        message = [];
        why = (four, refl, record { input = input; took = took; answer = a; is = is; outcome = refl });
        begins = inl (wrote, WroteBeginning-none (contents writer') []);
      }),
    )

-- ---- the lines that are left of an input

-- one line more was read, of what was left
one_line : (read : ℕ) (rest : Option (Bor (List ℕ))) (text : Bor (List ℕ)) (line : List ℕ) (later : List (List ℕ)) → rest ≡ Some text → input_lines text.now ≡ line ∷ later → left_of read rest ≡ numbered_from (read + 1) (line ∷ later)
one_line read rest text line later is decomposition = ap (left_of read) is ∙ ap (numbered_from (read + 1)) decomposition

choice : (b : Bool) (x : ℕ × List ℕ) (xs : List (ℕ × List ℕ)) (c : Bool) → b ≡ c → cond (not b) (x ∷ xs) xs ≡ cond (not c) (x ∷ xs) xs
choice b x xs c e = ap (λ (d : Bool). cond (not d) (x ∷ xs) xs) e

-- fewer lines were read than there are bytes
abbrev pub HasRoom : ℕ → Option (Bor (List ℕ)) → Type 0
HasRoom read rest = (r : Bor (List ℕ)) → rest ≡ Some r → read + length r.now < 2 ^ 63

pub room_more : (read : ℕ) (rest : Option (Bor (List ℕ))) (text : Bor (List ℕ)) (later : Option (Bor (List ℕ))) → rest ≡ Some text → IfSome later (λ r. length r.now < length text.now) → HasRoom read rest → HasRoom (read + 1) later
room_more read rest text later is shorter room = λ r at.
    let less : length r.now < length text.now = rw at at shorter in
    let here : read + length text.now < 2 ^ 63 = room text is in
    omega (arith, less, here)
