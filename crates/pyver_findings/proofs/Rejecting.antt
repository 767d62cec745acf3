-- What is reported of a line by itself: it is a line of the files and no requirement, for this reason. The reasons of errors.
use Rattle.std.proofs.Common.{Bool, Err, IfOk, IfSome, List, None, Ok, Option, Result, Some, [], ap, codes, false, if◌then◌else◌, inl, inr, is_none, option_map, refl, subst, sym, true, ℕ, ◌++◌, ◌∙◌, ◌∷◌, ◌≡◌}
use Rattle.std.proofs.lemmas.Bool.{true≢false}
use Rattle.std.proofs.lemmas.List.Elements.{All-append, All-cons, All-head, All-nil, All-tail}
use Rattle.std.specs.List.{All, AllZip, Contains, flat_map}
use Rattle.pep440_pick.proofs.Once.{not_both_requirement, one_requirement}
use Rattle.pep440_pick.specs.RequirementGrammar.{DerivesRequirement, InvalidExtras, InvalidName, Marker, Needed, RejectsRequirement, RequirementRejection, Specifiers, Unclosed, Url}
use Rattle.pyver_findings.specs.FileLines.{FileLine, NoRequirement}
use Rattle.pyver_findings.specs.FindingLaws.{FitsUrl, IsRequirementLine, IsRight}
use Rattle.pyver_findings.specs.LineMeanings.{AsksNothing, IsKindMeaning, IsListMeaning, IsMeaning, IsNone, IsPartsMeaning, IsPlain, LeftOut, LineMeaning, has_right_url, has_scheme, invalid_line, names_file, not_plain, rejection_meaning, requirement_meaning, requirement_reason, under_marker, with_marker, with_url, list_column}
use Rattle.pyver_findings.specs.Reports.{invalid_in}
use Rattle.pyver_requirements.specs.LineKinds.{ConstraintsFile, Editable, Invalid, LineKind, Location, PipOption, Requirement, RequirementsFile, Variable, has_variable, line_kind}
use Rattle.pyver_requirements.specs.declared.line_fault.LineFault.{LineFault}
use Rattle.pyver_requirements.specs.LineParts.{LineParts, pip_parts}
use Rattle.pyver_requirements.specs.MarkerReading.{marker}
use Rattle.pyver_requirements.specs.MarkerSteps.{Misfit}
use Rattle.std.proofs.lemmas.List.{append_cancel_left, append_cancel_right}
use Rattle.pep440_pick.specs.Requirements.{requirement_rejection_text, requirement_text_of, requirement_rejection_of}
use Rattle.pep440_pick.specs.declared.error.RequirementError.{RequirementError}
use Rattle.pep440_rs.specs.ErrorTexts.{specifier_error_text, specifier_rejection_text}
use Rattle.pep440_rs.specs.Errors.{parse_kind_of, specifier_rejection_of}
use Rattle.pep440_rs.specs.Lists.ListResults.{line_for, line_of, list_kind_of}
use Rattle.pep440_rs.specs.Lists.ListErrorTexts.{caret_line, list_rejection_text, list_text_of, piece_text}
use Rattle.pep440_rs.specs.Lists.ListErrors.{list_rejection_of}
use Rattle.pep440_rs.specs.Lists.ListGrammar.{PieceRejection, RejectsList}
use Rattle.pep440_rs.specs.Specifiers.SpecifierGrammar.{SpecifierRejection}
use Rattle.pep440_rs.specs.declared.list.error.SpecifiersErrorKind.{SpecifiersErrorKind}
use Rattle.pyver_findings.specs.Views.{is_memory_error, line_meaning_of, piece_text_of, reason_text_of}
use Rattle.pyver_findings.specs.declared.line_meaning.LineMeaning.{LineMeaning as LineMeaningValue}
use Rattle.std.specs.declared.alloc.AllocError.{AllocError}
use Rattle.std.proofs.lemmas.Result.{IfOk-weaker}
use Rattle.pyver_requirements.specs.declared.cause.Cause.TheVariants as cause
use Rattle.pep440_pick.specs.declared.error.RequirementError.TheVariants as error
use Rattle.pep440_rs.specs.declared.list.error.SpecifiersErrorKind.TheVariants as list

-- ---- why a line is no requirement

module _ (l : FileLine) where
  not_invalid : (f : LineFault) (column : ℕ) → line_kind l.text ≡ Invalid f column → IsRequirementLine l → ⊥
  not_invalid f column is (kind, (text, (m, e, (marker, fits)))) = let same : Invalid f column ≡ Requirement = sym is ∙ kind in cc same

  no_plain : (IsPlain (pip_parts l.text).requirement → ⊥) → IsRequirementLine l → ⊥
  no_plain none (kind, (text, (m, e, (marker, fits)))) = none text

  refused : (f : RequirementRejection) → RejectsRequirement (pip_parts l.text).requirement f → IsRequirementLine l → ⊥
  refused f r (kind, (text, (m, e, (marker, fits)))) = not_both_requirement (pip_parts l.text).requirement m f e r

  no_marker : (t : List ℕ) (f : Misfit) → (pip_parts l.text).marker ≡ Some t → marker t ≡ Err f → IsRequirementLine l → ⊥
  no_marker t f is read (kind, (text, (m, e, ((None, has), fits)))) = let same : Some (Err f) ≡ None = ap Some (sym read) ∙ ap (option_map marker) (sym is) ∙ has in cc same
  no_marker t f is read (kind, (text, (m, e, ((Some n, has), fits)))) = let same : Some (Err f) ≡ Some (Ok n) = ap Some (sym read) ∙ ap (option_map marker) (sym is) ∙ has in cc same

  no_url : (pip_parts l.text).url ≡ Some [] → IsRequirementLine l → ⊥
  no_url is (kind, (text, (m, e, (marker, fits)))) = (subst (λ (u : Option (List ℕ)). FitsUrl u m) is fits).0 refl

  before_the_url : (n : Needed) (url : List ℕ) → DerivesRequirement (pip_parts l.text).requirement n → has_right_url url n ≡ false → (pip_parts l.text).url ≡ Some url → IsRequirementLine l → ⊥
  before_the_url n url d wrong is (kind, (text, (m, e, (marker, fits)))) =
      let same : n ≡ m = one_requirement (pip_parts l.text).requirement n m d e in
      true≢false (sym (subst (λ (u : Option (List ℕ)). FitsUrl u m) is fits).1 ∙ sym (ap (has_right_url url) same) ∙ wrong)

-- ---- what is reported

module _ (read : List FileLine) where
  module _ (l : FileLine) (known : Contains read l) where
    one_invalid : (reason : List ℕ) (column : ℕ) → (IsRequirementLine l → ⊥) → IsMeaning l (IsNone (NoRequirement l reason column)) → All (IsRight read) (invalid_in (IsNone (NoRequirement l reason column)))
    one_invalid reason column none means = All-cons (IsRight read) (NoRequirement l reason column) [] (known, none, means) (All-nil (IsRight read))

    of_file : (a b : Bool) → All (IsRight read) (invalid_in (if a then LeftOut cause.Variable else (if b then LeftOut cause.Url else AsksNothing)))
    of_file true b = All-nil (IsRight read)
    of_file false true = All-nil (IsRight read)
    of_file false false = All-nil (IsRight read)

    -- what stands before `@` and `;` is a requirement
    module _ (n : Needed) (d : DerivesRequirement (pip_parts l.text).requirement n) where
      of_specifiers : (b : Bool) (url reason : List ℕ) (column : ℕ) → has_right_url url n ≡ b → (pip_parts l.text).url ≡ Some url
          → IsMeaning l (if b then LeftOut cause.Url else IsNone (NoRequirement l reason column)) → All (IsRight read) (invalid_in (if b then LeftOut cause.Url else IsNone (NoRequirement l reason column)))
      of_specifiers true url reason column right is means = All-nil (IsRight read)
      of_specifiers false url reason column wrong is means = one_invalid reason column (before_the_url l n url d wrong is) means

      of_url : (m url : Option (List ℕ)) → (pip_parts l.text).url ≡ url → IsMeaning l (with_url l (pip_parts l.text) n m url) → All (IsRight read) (invalid_in (with_url l (pip_parts l.text) n m url))
      of_url m None is means = All-nil (IsRight read)
      of_url m (Some []) is means = one_invalid _ _ (no_url l is) means
      of_url m (Some (b ∷ url)) is means = of_specifiers (has_right_url (b ∷ url) n) (b ∷ url) _ _ refl is means

      of_result : (t : List ℕ) (r : Result (List ℕ) Misfit) → (pip_parts l.text).marker ≡ Some t → marker t ≡ r → IsMeaning l (under_marker l (pip_parts l.text) n r)
          → All (IsRight read) (invalid_in (under_marker l (pip_parts l.text) n r))
      of_result t (Ok m) is found means = of_url (Some m) (pip_parts l.text).url refl means
      of_result t (Err f) is found means = one_invalid _ _ (no_marker l t f is found) means

      of_marker : (t : Option (List ℕ)) → (pip_parts l.text).marker ≡ t → IsMeaning l (with_marker l (pip_parts l.text) n t) → All (IsRight read) (invalid_in (with_marker l (pip_parts l.text) n t))
      of_marker None is means = of_url None (pip_parts l.text).url refl means
      of_marker (Some t) is means = of_result t (marker t) is refl means

    same_invalid : (x y : LineMeaning) → x ≡ y → IsMeaning l x → (IsMeaning l y → All (IsRight read) (invalid_in y)) → All (IsRight read) (invalid_in x)
    same_invalid x y is means k = subst (λ (z : LineMeaning). All (IsRight read) (invalid_in z)) (sym is) (k (subst (IsMeaning l) is means))

    of_kind : (kind : LineKind) (x : LineMeaning) → line_kind l.text ≡ kind → IsKindMeaning l kind x → IsMeaning l x → All (IsRight read) (invalid_in x)
    of_kind (RequirementsFile path) x kind is means = same_invalid x (names_file path) is means (λ _. of_file (has_variable path) (has_scheme path))
    of_kind (ConstraintsFile path) x kind is means = same_invalid x (names_file path) is means (λ _. of_file (has_variable path) (has_scheme path))
    of_kind (Invalid f column) x kind is means = same_invalid x (invalid_line l f column) is means (λ m. one_invalid _ _ (not_invalid l f column kind) m)
    of_kind Editable x kind is means = same_invalid x _ is means (λ _. All-nil (IsRight read))
    of_kind PipOption x kind is means = same_invalid x _ is means (λ _. All-nil (IsRight read))
    of_kind Variable x kind is means = same_invalid x _ is means (λ _. All-nil (IsRight read))
    of_kind Location x kind is means = same_invalid x _ is means (λ _. All-nil (IsRight read))
    of_kind Requirement x kind (inl (none, is)) means = same_invalid x (not_plain l (pip_parts l.text)) is means (λ m. one_invalid _ _ (no_plain l none) m)
    of_kind Requirement x kind (inr (text, inl (n, d, is))) means = same_invalid x (requirement_meaning l (pip_parts l.text) n) is means (λ m. of_marker n d (pip_parts l.text).marker refl m)
    of_kind Requirement x kind (inr (text, inr (f, r, is))) means = same_invalid x (rejection_meaning l (pip_parts l.text) f) is means (λ m. one_invalid _ _ (refused l f r) m)

  pub invalid_right : (lines : List FileLine) (xs : List LineMeaning) → All (Contains read) lines → AllZip IsMeaning lines xs → All (IsRight read) (flat_map invalid_in xs)
  invalid_right [] [] known h = All-nil (IsRight read)
  invalid_right [] (x ∷ xs) known h = absurd h
  invalid_right (l ∷ lines) [] known h = absurd h
  invalid_right (l ∷ lines) (x ∷ xs) known h =
      All-append (IsRight read) (invalid_in x) (flat_map invalid_in xs) (of_kind l (All-head (Contains read) l lines known) (line_kind l.text) x refl h.0 h.0)
      (invalid_right lines xs (All-tail (Contains read) l lines known) h.1)

-- messages of lists are equal only where those of the pieces are
inner_is : (t u line : List ℕ) (start stop : ℕ) → piece_text t line start stop ≡ piece_text u line start stop → t ≡ u
inner_is t u line start stop e =
    let behind = codes ":\n" ++ (line ++ (codes "\n" ++ caret_line line start stop)) in
    append_cancel_right t u behind (append_cancel_left (codes "Failed to parse version: ") (t ++ behind) (u ++ behind) e)

some_is : (m : Option (List ℕ)) (t line s : List ℕ) (start stop : ℕ) → option_map (λ inner. piece_text inner line start stop) m ≡ Some (piece_text t line start stop) → IfSome m (λ u. s ≡ u) → s ≡ t
some_is None t line s start stop e is = cc e
some_is (Some u) t line s start stop e is = let same : piece_text u line start stop ≡ piece_text t line start stop = cc e in is ∙ inner_is u t line start stop same

of_piece : (o : Option SpecifierRejection) (line s : List ℕ) (start stop : ℕ) (f : RequirementRejection)
    → option_map (λ (g : PieceRejection). Specifiers line g) (option_map (λ r. record { error = r; start = start; stop = stop }) o) ≡ Some f
    → option_map (λ inner. piece_text inner line start stop) (specifier_error_text o) ≡ Some (requirement_rejection_text f) → IfSome (specifier_error_text o) (λ u. s ≡ u) → s ≡ requirement_reason f
of_piece None line s start stop f is text so = cc is
of_piece (Some r) line s start stop f is text so =
    let g : PieceRejection = record { error = r; start = start; stop = stop } in
    let same : Specifiers line g ≡ f = cc is in
    subst (λ (h : RequirementRejection). s ≡ requirement_reason h) same
    (some_is (specifier_error_text (Some r)) (specifier_rejection_text r) line s start stop (subst (λ (h : RequirementRejection). option_map (λ inner. piece_text inner line start stop) (specifier_error_text (Some r)) ≡ Some (requirement_rejection_text h)) (sym same) text) so)

of_list : (kind : SpecifiersErrorKind) (line s : List ℕ) (f : RequirementRejection) → option_map (λ (g : PieceRejection). Specifiers line g) (list_rejection_of kind) ≡ Some f → list_text_of kind line ≡ Some (requirement_rejection_text f)
    → IfSome (piece_text_of kind) (λ u. s ≡ u) → s ≡ requirement_reason f
of_list (list.Piece error start stop) line s f is text so = of_piece (specifier_rejection_of (parse_kind_of error)) line s start stop f is text so
of_list list.OutOfMemory line s f is text so = cc is

-- the reason of a list that is printed is that of the refusal
pub list_reason_is : (kind : SpecifiersErrorKind) (line text s : List ℕ) (f : PieceRejection) → line ≡ line_for text kind → list_rejection_of kind ≡ Some f → list_text_of kind line ≡ Some (list_rejection_text f text)
    → IfSome (piece_text_of kind) (λ u. s ≡ u) → s ≡ specifier_rejection_text f.error
list_reason_is (list.Piece error start stop) line text s f same is told so =
    of_list (list.Piece error start stop) line s (Specifiers line f) (ap (option_map (λ (g : PieceRejection). Specifiers line g)) is) (told ∙ ap (λ t. Some (list_rejection_text f t)) (sym same)) so
list_reason_is list.OutOfMemory line text s f same is told so = cc is

-- a list that is no want of memory has a refusal
pub list_refusal : (o : Option PieceRejection) → is_none o ≡ false → (f : PieceRejection) × (o ≡ Some f)
list_refusal None e = absurd (true≢false e)
list_refusal (Some f) e = (f, refl)

-- a string is no list for its reason
pub list_read : (result : Result LineMeaningValue AllocError) (l : FileLine) (text : List ℕ) (o : Option PieceRejection) → IfSome o (RejectsList text)
    → IfOk result (λ x. (f : PieceRejection) × (o ≡ Some f) × (line_meaning_of x ≡ IsNone (NoRequirement l (specifier_rejection_text f.error) (list_column text f)))) → IfOk result (λ x. IsListMeaning l text (line_meaning_of x))
list_read result l text o refuses =
    IfOk-weaker result (λ x. (f : PieceRejection) × (o ≡ Some f) × (line_meaning_of x ≡ IsNone (NoRequirement l (specifier_rejection_text f.error) (list_column text f)))) (λ x. IsListMeaning l text (line_meaning_of x))
    (λ x (f, some, is). inr (f, subst (λ (p : Option PieceRejection). IfSome p (RejectsList text)) some refuses, is))

-- the reason that is printed is that of the refusal
pub reason_is : (e : RequirementError) (f : RequirementRejection) (s : List ℕ) → requirement_rejection_of e ≡ Some f → requirement_text_of e ≡ Some (requirement_rejection_text f) → IfSome (reason_text_of e) (λ u. s ≡ u) → s ≡ requirement_reason f
reason_is error.Marker f s is text so = let same : Marker ≡ f = cc is in subst (λ (h : RequirementRejection). s ≡ requirement_reason h) same so
reason_is error.Url f s is text so = let same : Url ≡ f = cc is in subst (λ (h : RequirementRejection). s ≡ requirement_reason h) same so
reason_is error.InvalidName f s is text so = let same : InvalidName ≡ f = cc is in subst (λ (h : RequirementRejection). s ≡ requirement_reason h) same so
reason_is error.InvalidExtras f s is text so = let same : InvalidExtras ≡ f = cc is in subst (λ (h : RequirementRejection). s ≡ requirement_reason h) same so
reason_is error.Unclosed f s is text so = let same : Unclosed ≡ f = cc is in subst (λ (h : RequirementRejection). s ≡ requirement_reason h) same so
reason_is (error.Specifiers e) f s is text so = of_list (list_kind_of e) (line_of e) s f is text so
reason_is error.OutOfMemory f s is text so = cc is

-- the refusal of an error that is not 'out of memory'
pub refusal_in : (o : Option RequirementRejection) (e : RequirementError) → is_memory_error e ≡ false → (o ≡ None → e ≡ error.OutOfMemory) → (f : RequirementRejection) × (o ≡ Some f)
refusal_in None e lacks lifted = let full : is_memory_error e ≡ true = ap is_memory_error (lifted refl) in cc (full, lacks)
refusal_in (Some f) e lacks lifted = (f, refl)

-- the line of an error is none for its reason
pub error_read : (result : Result LineMeaningValue AllocError) (l : FileLine) (p : LineParts) (e : RequirementError) → IsPlain p.requirement → IfSome (requirement_rejection_of e) (RejectsRequirement p.requirement)
    → IfOk result (λ x. (f : RequirementRejection) × (requirement_rejection_of e ≡ Some f) × (line_meaning_of x ≡ rejection_meaning l p f)) → IfOk result (λ x. IsPartsMeaning l p (line_meaning_of x))
error_read result l p e text why read =
    IfOk-weaker result (λ x. (f : RequirementRejection) × (requirement_rejection_of e ≡ Some f) × (line_meaning_of x ≡ rejection_meaning l p f)) (λ x. IsPartsMeaning l p (line_meaning_of x))
    (λ x r. inr (text, inr (r.0, subst (λ o. IfSome o (RejectsRequirement p.requirement)) r.1 why, r.2))) read
