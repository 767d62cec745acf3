-- What is reported: each line that ought to be a requirement and is none, each constraint that pip does not take, and some of the lines of a name
-- that have no version in common; and that there is one meaning and one report.
use Rattle.std.proofs.Common.{Bool, Err, List, None, Ok, Option, Result, Some, [], ap, arith, false, get_or, if◌then◌else◌, inl, inr, length, map, not, option_map, refl, subst, suc, sym, true, zero, ℕ, ◌++◌, ◌<◌, ◌∙◌, ◌∷◌, ◌≡◌}
use Rattle.std.proofs.lemmas.Bool.{true≢false}
use Rattle.std.proofs.lemmas.List.{append_assoc, map-append}
use Rattle.std.proofs.lemmas.List.Elements.{All-contains_itself, All-weaker}
use Rattle.std.specs.List.{All, AllZip, Contains, filter, flat_map}
use Rattle.pep440_pick.specs.RequirementGrammar.{DerivesRequirement, Needed, RequirementRejection}
use Rattle.pyver_findings.proofs.Grouping.{Some_is, any_is, in_left, in_right}
use Rattle.pyver_findings.proofs.LackedHashes.{lacking_found}
use Rattle.pyver_findings.proofs.Holding.{IsAsked, all_asked, derived_sound}
use Rattle.pyver_findings.proofs.SmallestLists.{none_by, some_allowed}
use Rattle.pyver_findings.specs.Conflicts.{have_none}
use Rattle.pyver_findings.specs.Demands.{Demand, IsSound}
use Rattle.pyver_findings.specs.FileLines.{Conflicting, File, FileLine, Finding, NoRequirement, all_lines}
use Rattle.pyver_findings.specs.Hashes.{lacks_hashes}
use Rattle.pyver_findings.specs.NamedFiles.{constraints_files}
use Rattle.pyver_findings.specs.FindingLaws.{FitsUrl, HasMarker, HaveNone, InvalidLinesHaveFindings, IsAlone, IsRequirementLine, IsWrongConstraint, LackedHashesHaveFindings, LacksRequirement, MeaningsOnce, ReportsOnce, WrongConstraintsHaveFindings, without_environment, without_environments}
use Rattle.pyver_findings.specs.LineMeanings.{IsKindMeaning, IsMeaning, IsNone, IsPartsMeaning, IsPlain, LeftOut, LineMeaning, constraint_faults, has_extras, has_right_url, invalid_line, kind_faults, not_plain, rejection_meaning, requirement_meaning, under_marker, with_marker, with_url}
use Rattle.pyver_findings.specs.MarkedConflicts.{FindsOfNames, everywhere}
use Rattle.pyver_findings.specs.Views.{AddsFindings, AddsFound, KeepsReadings, demand_of, finding_of}
use Rattle.pyver_findings.specs.Reports.{IsReport, Report, both_counts, constraint_findings, demands_in, found_in, invalid_in, is_ignored, joined_report, left_out_in, without_ignored}
use Rattle.pyver_requirements.specs.declared.cause.Cause.{Cause}
use Rattle.pyver_findings.specs.declared.finding.Finding.{Finding as FindingValue}
use Rattle.pyver_findings.specs.declared.report.Readings.{Readings}
use Rattle.pyver_requirements.specs.LineKinds.{ConstraintsFile, Editable, Invalid, LineKind, Location, PipOption, Requirement, RequirementsFile, Variable, line_kind}
use Rattle.pyver_requirements.specs.declared.line_fault.LineFault.{LineFault}
use Rattle.pyver_requirements.specs.LineParts.{LineParts, pip_parts}
use Rattle.pyver_requirements.specs.MarkerReading.{marker}
use Rattle.pyver_requirements.specs.MarkerSteps.{Misfit}
use Rattle.pep440_pick.proofs.Once.{not_both_requirement, one_refusal, one_requirement}
use Rattle.pyver_findings.proofs.MarkedConflicts.{names_once, names_tell, no_causes}
use Rattle.pyver_requirements.specs.declared.cause.Cause.TheVariants as cause

-- ---- one meaning, and one report

-- a requirement, or what is to be one, has one meaning
pub one_parts : (l : FileLine) (p : LineParts) (x y : LineMeaning) → IsPartsMeaning l p x → IsPartsMeaning l p y → x ≡ y
one_parts l p x y (inl (none, a)) (inl (again, b)) = a ∙ sym b
one_parts l p x y (inl (none, a)) (inr (text, b)) = absurd (none text)
one_parts l p x y (inr (text, a)) (inl (none, b)) = absurd (none text)
one_parts l p x y (inr (text, inl (n, d, a))) (inr (again, inl (m, e, b))) = a ∙ ap (λ (q : Needed). requirement_meaning l p q) (one_requirement p.requirement n m d e) ∙ sym b
one_parts l p x y (inr (text, inl (n, d, a))) (inr (again, inr (f, r, b))) = absurd (not_both_requirement p.requirement n f d r)
one_parts l p x y (inr (text, inr (f, r, a))) (inr (again, inl (n, d, b))) = absurd (not_both_requirement p.requirement n f d r)
one_parts l p x y (inr (text, inr (f, r, a))) (inr (again, inr (g, s, b))) = a ∙ ap (λ (h : RequirementRejection). rejection_meaning l p h) (one_refusal p.requirement f g r s) ∙ sym b

of_kind : (l : FileLine) (kind : LineKind) (x y : LineMeaning) → IsKindMeaning l kind x → IsKindMeaning l kind y → x ≡ y
of_kind l (RequirementsFile path) x y a b = a ∙ sym b
of_kind l (ConstraintsFile path) x y a b = a ∙ sym b
of_kind l (Invalid f column) x y a b = a ∙ sym b
of_kind l Editable x y a b = a ∙ sym b
of_kind l PipOption x y a b = a ∙ sym b
of_kind l Variable x y a b = a ∙ sym b
of_kind l Location x y a b = a ∙ sym b
of_kind l Requirement x y a b = one_parts l (pip_parts l.text) x y a b

pub meanings_once : MeaningsOnce
meanings_once l x y a b = of_kind l (line_kind l.text) x y a b

pub of_lines : (lines : List FileLine) (xs ys : List LineMeaning) → AllZip IsMeaning lines xs → AllZip IsMeaning lines ys → xs ≡ ys
of_lines [] [] [] h k = refl
of_lines [] [] (y ∷ ys) h k = absurd k
of_lines [] (x ∷ xs) ys h k = absurd h
of_lines (l ∷ lines) [] ys h k = absurd h
of_lines (l ∷ lines) (x ∷ xs) [] h k = absurd k
of_lines (l ∷ lines) (x ∷ xs) (y ∷ ys) h k = λ j. meanings_once l x y h.0 k.0 j ∷ of_lines lines xs ys h.1 k.1 j

pub reports_once : ReportsOnce
reports_once files r s (xs, h, fs, cs, finds, a) (ys, k, gs, ds, also, b) decided again =
    let same = of_lines (all_lines files) xs ys h k in
    let asked : flat_map demands_in ys ≡ flat_map demands_in xs = ap (flat_map demands_in) (sym same) in
    let none = no_causes (flat_map left_out_in xs) cs (names_tell everywhere (flat_map demands_in xs) fs cs finds) (λ known. decided (subst (λ (q : Report). Contains q.left_out cause.Undecided) (sym a) known)) in
    let nothing = no_causes (flat_map left_out_in ys) ds (names_tell everywhere (flat_map demands_in ys) gs ds also) (λ known. again (subst (λ (q : Report). Contains q.left_out cause.Undecided) (sym b) known)) in
    let found : map without_environment fs ≡ map without_environment gs =
    names_once everywhere (flat_map demands_in xs) fs gs (subst (FindsOfNames everywhere (flat_map demands_in xs) fs) none finds) (subst (FindsOfNames everywhere (flat_map demands_in xs) gs) nothing (subst (λ demands. FindsOfNames everywhere demands gs ds) asked also)) in
    let left : cs ≡ ds = none ∙ sym nothing in
    let all : map without_environment (found_in files xs ++ fs) ≡ map without_environment (found_in files ys ++ gs) =
    map-append without_environment (found_in files xs) fs ∙ (λ j. map without_environment (found_in files (same j)) ++ found j) ∙ sym (map-append without_environment (found_in files ys) gs) in
    ap without_environments a
    ∙ (λ j. record { findings = all j; ignored = []; lines = length (all_lines files); files = length files; left_out = flat_map left_out_in (same j) ++ left j })
    ∙ sym (ap without_environments b)

-- two reports as one name the environments of both
pub joined_alike : (r s : Report) → without_environments (joined_report r s) ≡ joined_report (without_environments r) (without_environments s)
joined_alike r s = λ j. record {
  findings = map-append without_environment r.findings s.findings j;
  ignored = map-append without_environment r.ignored s.ignored j;
  lines = both_counts r.lines s.lines;
  files = both_counts r.files s.files;
  left_out = r.left_out ++ s.left_out;
}

ignored_so : (f : Finding) → is_ignored f ≡ is_ignored (without_environment f)
ignored_so (NoRequirement l reason column) = refl
ignored_so (Conflicting conflict lines environment) = refl

kept_by : (b c : Bool) (f : Finding) (gs hs : List Finding) → b ≡ c → map without_environment gs ≡ hs
    → map without_environment (if b then f ∷ gs else gs) ≡ (if c then without_environment f ∷ hs else hs)
kept_by true true f gs hs same rest = ap (λ l. without_environment f ∷ l) rest
kept_by true false f gs hs same rest = absurd (true≢false same)
kept_by false true f gs hs same rest = absurd (true≢false (sym same))
kept_by false false f gs hs same rest = rest

filtered_alike : (keeps : Finding → Bool) → ((f : Finding) → keeps f ≡ keeps (without_environment f)) → (fs : List Finding)
    → map without_environment (filter keeps fs) ≡ filter keeps (map without_environment fs)
filtered_alike keeps so [] = refl
filtered_alike keeps so (f ∷ fs) = kept_by (keeps f) (keeps (without_environment f)) f (filter keeps fs) (filter keeps (map without_environment fs)) (so f) (filtered_alike keeps so fs)

-- comments ignore findings whatever environment these name
pub ignored_alike : (r : Report) → without_environments (without_ignored r) ≡ without_ignored (without_environments r)
ignored_alike r =
    let kept = filtered_alike (λ f. not (is_ignored f)) (λ f. ap not (ignored_so f)) r.findings in
    let left = map-append without_environment r.ignored (filter is_ignored r.findings) ∙ ap (λ l. map without_environment r.ignored ++ l) (filtered_alike is_ignored ignored_so r.findings) in
    λ j. record { findings = kept j; ignored = left j; lines = r.lines; files = r.files; left_out = r.left_out }

-- ---- lines that are no requirements

module _ (l : FileLine) where
  -- what stands before `@` and `;` is a requirement
  module _ (kind : line_kind l.text ≡ Requirement) (text : IsPlain (pip_parts l.text).requirement) (n : Needed) (d : DerivesRequirement (pip_parts l.text).requirement n) (lacks : IsRequirementLine l → ⊥) where
    by_list : (m : Option (List ℕ)) → HasMarker (pip_parts l.text) m → (url : List ℕ) → ¬ (url ≡ []) → (pip_parts l.text).url ≡ Some url → (b : Bool) (reason : List ℕ) (column : ℕ) → has_right_url url n ≡ b
        → Some_is (IsAlone l) (invalid_in (if b then LeftOut cause.Url else IsNone (NoRequirement l reason column)))
    by_list m has url some is true reason column right = absurd (lacks (kind, (text, (n, d, ((m, has), subst (λ (u : Option (List ℕ)). FitsUrl u n) (sym is) (some, right))))))
    by_list m has url some is false reason column wrong = inl refl

    by_url : (m : Option (List ℕ)) → HasMarker (pip_parts l.text) m → (url : Option (List ℕ)) → (pip_parts l.text).url ≡ url → Some_is (IsAlone l) (invalid_in (with_url l (pip_parts l.text) n m url))
    by_url m has None is = absurd (lacks (kind, (text, (n, d, ((m, has), subst (λ (u : Option (List ℕ)). FitsUrl u n) (sym is) tt)))))
    by_url m has (Some []) is = inl refl
    by_url m has (Some (b ∷ url)) is = by_list m has (b ∷ url) (λ e. cc e) is (has_right_url (b ∷ url) n) _ _ refl

    by_result : (t : List ℕ) (r : Result (List ℕ) Misfit) → (pip_parts l.text).marker ≡ Some t → marker t ≡ r → Some_is (IsAlone l) (invalid_in (under_marker l (pip_parts l.text) n r))
    by_result t (Ok m) is read = by_url (Some m) (ap (option_map marker) is ∙ ap Some read) (pip_parts l.text).url refl
    by_result t (Err f) is read = inl refl

    by_marker : (t : Option (List ℕ)) → (pip_parts l.text).marker ≡ t → Some_is (IsAlone l) (invalid_in (with_marker l (pip_parts l.text) n t))
    by_marker None is = by_url None (ap (option_map marker) is) (pip_parts l.text).url refl
    by_marker (Some t) is = by_result t (marker t) is refl

  same_found : (x y : LineMeaning) → x ≡ y → Some_is (IsAlone l) (invalid_in y) → Some_is (IsAlone l) (invalid_in x)
  same_found x y is k = subst (λ (z : LineMeaning). Some_is (IsAlone l) (invalid_in z)) (sym is) k

  -- a line of another kind is none of those that ought to be requirements
  other : {X : Type 0} (kind : LineKind) → ((f : LineFault) (column : ℕ) → kind ≡ Invalid f column → ⊥) → (kind ≡ Requirement → ⊥) → line_kind l.text ≡ kind → LacksRequirement l → X
  other kind invalid requirement is (inl (f, column, found)) = absurd (invalid f column (sym is ∙ found))
  other kind invalid requirement is (inr lacks) = absurd (requirement (sym is ∙ lacks.0))

  by_kind : (kind : LineKind) (x : LineMeaning) → line_kind l.text ≡ kind → LacksRequirement l → IsKindMeaning l kind x → Some_is (IsAlone l) (invalid_in x)
  by_kind (RequirementsFile path) x kind lacks is = other (RequirementsFile path) (λ f c e. cc e) (λ e. cc e) kind lacks
  by_kind (ConstraintsFile path) x kind lacks is = other (ConstraintsFile path) (λ f c e. cc e) (λ e. cc e) kind lacks
  by_kind (Invalid f column) x kind lacks is = same_found x (invalid_line l f column) is (inl refl)
  by_kind Editable x kind lacks is = other Editable (λ f c e. cc e) (λ e. cc e) kind lacks
  by_kind PipOption x kind lacks is = other PipOption (λ f c e. cc e) (λ e. cc e) kind lacks
  by_kind Variable x kind lacks is = other Variable (λ f c e. cc e) (λ e. cc e) kind lacks
  by_kind Location x kind lacks is = other Location (λ f c e. cc e) (λ e. cc e) kind lacks
  by_kind Requirement x kind (inl (f, column, found)) is = let same : Requirement ≡ Invalid f column = sym kind ∙ found in cc same
  by_kind Requirement x kind (inr lacks) (inl (none, is)) = same_found x (not_plain l (pip_parts l.text)) is (inl refl)
  by_kind Requirement x kind (inr lacks) (inr (text, inl (n, d, is))) = same_found x (requirement_meaning l (pip_parts l.text) n) is (by_marker kind text n d lacks.1 (pip_parts l.text).marker refl)
  by_kind Requirement x kind (inr lacks) (inr (text, inr (f, r, is))) = same_found x (rejection_meaning l (pip_parts l.text) f) is (inl refl)

  in_lines : LacksRequirement l → (lines : List FileLine) (xs : List LineMeaning) (k : ℕ) → k < length lines → get_or lines k l ≡ l → AllZip IsMeaning lines xs → Some_is (IsAlone l) (flat_map invalid_in xs)
  in_lines lacks [] xs k inside is h = absurd (omega (arith, inside))
  in_lines lacks (m ∷ lines) [] k inside is h = absurd h
  in_lines lacks (m ∷ lines) (x ∷ xs) zero inside is h =
      in_left (IsAlone l) (invalid_in x) (flat_map invalid_in xs) (by_kind (line_kind l.text) x refl lacks (subst (λ (q : FileLine). IsMeaning q x) is h.0))
  in_lines lacks (m ∷ lines) (x ∷ xs) (suc k) inside is h = in_right (IsAlone l) (invalid_in x) (flat_map invalid_in xs) (in_lines lacks lines xs k (omega (arith, inside)) is h.1)

pub invalid_lines_have_findings : InvalidLinesHaveFindings
invalid_lines_have_findings files r l (xs, h, fs, cs, finds, is) (k, inside, at) lacks =
    any_is (IsAlone l) r.findings
    (subst (λ (q : Report). Some_is (IsAlone l) q.findings) (sym is)
    (in_left (IsAlone l) (found_in files xs) fs
    (in_left (IsAlone l) (flat_map invalid_in xs) (constraint_findings (constraints_files files) ++ lacks_hashes (all_lines files) (flat_map demands_in xs))
    (in_lines l lacks (all_lines files) xs k inside at h))))

-- ---- constraints

module _ (l : FileLine) where
  one_found : (b : Bool) (reason : List ℕ) (column : ℕ) → b ≡ true → Some_is (IsAlone l) (if b then NoRequirement l reason column ∷ [] else [])
  one_found true reason column e = inl refl
  one_found false reason column e = absurd (true≢false (sym e))

  wrong_found : IsWrongConstraint l → Some_is (IsAlone l) (constraint_faults l)
  wrong_found (inl is) = subst (λ (k : LineKind). Some_is (IsAlone l) (kind_faults l k)) (sym is) (inl refl)
  wrong_found (inr (is, extras)) =
      subst (λ (k : LineKind). Some_is (IsAlone l) (kind_faults l k)) (sym is) (one_found (has_extras (pip_parts l.text).requirement) _ _ extras)

  in_constraints : IsWrongConstraint l → (lines : List FileLine) (k : ℕ) → k < length lines → get_or lines k l ≡ l → Some_is (IsAlone l) (flat_map constraint_faults lines)
  in_constraints wrong [] k inside is = absurd (omega (arith, inside))
  in_constraints wrong (m ∷ lines) zero inside is =
      in_left (IsAlone l) (constraint_faults m) (flat_map constraint_faults lines) (subst (λ (q : FileLine). Some_is (IsAlone l) (constraint_faults q)) (sym is) (wrong_found wrong))
  in_constraints wrong (m ∷ lines) (suc k) inside is = in_right (IsAlone l) (constraint_faults m) (flat_map constraint_faults lines) (in_constraints wrong lines k (omega (arith, inside)) is)

pub wrong_constraints_have_findings : WrongConstraintsHaveFindings
wrong_constraints_have_findings files r l (xs, h, fs, cs, finds, is) (k, inside, at) wrong =
    any_is (IsAlone l) r.findings
    (subst (λ (q : Report). Some_is (IsAlone l) q.findings) (sym is)
    (in_left (IsAlone l) (found_in files xs) fs
    (in_right (IsAlone l) (flat_map invalid_in xs) (constraint_findings (constraints_files files) ++ lacks_hashes (all_lines files) (flat_map demands_in xs))
    (in_left (IsAlone l) (constraint_findings (constraints_files files)) (lacks_hashes (all_lines files) (flat_map demands_in xs))
    (in_constraints l wrong (all_lines (constraints_files files)) k inside at)))))

-- ---- hashes

pub lacked_hashes_have_findings : LackedHashesHaveFindings
lacked_hashes_have_findings files r demands a (xs, h, fs, cs, finds, is) (ys, k, are) lacks =
    let same : demands ≡ flat_map demands_in xs = are ∙ ap (flat_map demands_in) (of_lines (all_lines files) ys xs k h) in
    any_is (IsAlone a.line) r.findings
    (subst (λ (q : Report). Some_is (IsAlone a.line) q.findings) (sym is)
    (in_left (IsAlone a.line) (found_in files xs) fs
    (in_right (IsAlone a.line) (flat_map invalid_in xs) (constraint_findings (constraints_files files) ++ lacks_hashes (all_lines files) (flat_map demands_in xs))
    (in_right (IsAlone a.line) (constraint_findings (constraints_files files)) (lacks_hashes (all_lines files) (flat_map demands_in xs))
    (subst (λ ds. Some_is (IsAlone a.line) (lacks_hashes (all_lines files) ds)) same (lacking_found files demands a lacks))))))

-- ---- lines of a name

-- strings give the members of the lists of lines
pub asked_sound : (lines : List FileLine) (xs : List LineMeaning) → AllZip IsMeaning lines xs → All IsSound (flat_map demands_in xs)
asked_sound lines xs h = All-weaker (IsAsked pip_parts lines) IsSound (λ a asked. derived_sound pip_parts a asked.1) (flat_map demands_in xs) (all_asked lines lines xs (All-contains_itself lines) h)

pub readings_sound : (lines : List FileLine) (kept : Readings) → KeepsReadings lines kept → All IsSound (map demand_of kept.demands.items)
readings_sound lines kept (xs, h, invalid, demands, left_out) = subst (All IsSound) (sym demands) (asked_sound lines xs h)

-- none is found where there is none
pub none_found : (lines : List Demand) → All IsSound lines → HaveNone lines → have_none lines ≡ true
none_found lines sound none = none_by lines (have_none lines) refl (λ some. let found = some_allowed lines sound some in none found.0 found.1 found.2)

-- ---- the report

-- what was read and found of the files, step by step
pub is_report : (files : List File) (kept : Readings) (one two all : List FindingValue) (left : List Cause) (r : Report) → KeepsReadings (all_lines files) kept → AddsFindings kept.invalid.items one (constraint_findings (constraints_files files))
    → AddsFindings one two (lacks_hashes (all_lines files) (map demand_of kept.demands.items))
    → AddsFound (FindsOfNames everywhere (map demand_of kept.demands.items)) two all kept.left_out.items left
    → r ≡ record { findings = map finding_of all; ignored = []; lines = length (all_lines files); files = length files; left_out = left } → IsReport files r
is_report files kept one two all left r (xs, h, invalid, demands, left_out) constraints hashes (fs, cs, finds, adds, also) is =
    let second = constraint_findings (constraints_files files) in
    let third = lacks_hashes (all_lines files) in
    let added : map finding_of two ≡ found_in files xs =
    hashes ∙ (λ j. (constraints ∙ ap (λ l. l ++ second) invalid) j ++ third (demands j)) ∙ append_assoc (flat_map invalid_in xs) second (third (flat_map demands_in xs)) in
    let found : map finding_of all ≡ found_in files xs ++ fs = adds ∙ ap (λ l. l ++ fs) added in
    let rest : left ≡ flat_map left_out_in xs ++ cs = also ∙ ap (λ l. l ++ cs) left_out in
    (xs, h, fs, cs, subst (λ d. FindsOfNames everywhere d fs cs) demands finds, is ∙ (λ j. record { findings = found j; ignored = []; lines = length (all_lines files); files = length files; left_out = rest j }))
