-- Where nothing is found, each requirement contains a locked version of its name, and requirements that hold together have a version in common: all of
-- them, and so those of each part.
use Rattle.std.proofs.Common.{◌≡◌, ◌∙◌, List, Some, None, sym, ap, subst, inl, inr, ℕ, [], Bool, true, if◌then◌else◌, false, not, ◌||◌, refl, bytes_eq, ◌∷◌, ◌++◌, Option, ◌&&◌, length, get_or, ◌<◌, map, cond, is_some, is_none, nat_lt, option_map}
use Rattle.std.specs.Prelude.{⊤}
use Rattle.std.proofs.lemmas.Bool.{true≢false}
use Rattle.std.proofs.lemmas.Grind.{flat_map-append}
use Rattle.std.proofs.lemmas.List.Elements.{All-contains_itself, All-head, All-tail, All-filter, All-cons, All-nil, All-contains, All-weaker}
use Rattle.std.proofs.lemmas.List.Folds.{list_any-append, list_any_at}
use Rattle.std.proofs.lemmas.Slice.Eq.{bytes_eq-Decides}
use Rattle.std.specs.List.{AllZip, flat_map, Contains, list_any, zip, find, All, filter}
use Rattle.pep440_pick.specs.Names.{normal}
use Rattle.pep440_pick.specs.RequirementGrammar.{Needed}
use Rattle.pep440_ranges.specs.RangeSegments.{contains}
use Rattle.pep440_rs.proofs.Reading.OneMeaning.{not_both_list, one_list}
use Rattle.pep440_rs.specs.Bounds.{Segments}
use Rattle.pep440_rs.specs.Lists.ListGrammar.{DerivesList}
use Rattle.pep440_rs.specs.Specifiers.{Spec}
use Rattle.pep440_version.proofs.Reading.Agreement.{one_record}
use Rattle.pep440_version.proofs.Rejections.ExactlyOne.{not_both}
use Rattle.pep440_version.specs.Grammar.{Derives}
use Rattle.pep440_version.specs.Key.{record_cmp}
use Rattle.pep440_version.specs.Record.{Record}
use Rattle.toml.specs.Data.{Members}
use Rattle.pyver_documents.proofs.Holding.{asks_so, findings_of, sections_same, sound_part, sound_string, each_flat, of_part_so}
use Rattle.pyver_documents.proofs.LockedPackages.{none_so, not_excluded, some_named, met_everywhere}
use Rattle.pyver_documents.proofs.Once.{entered, required, one_locked_set, one_string}
use Rattle.pyver_documents.proofs.Walks.{left_nil, beside_pair, nil_at, right_nil, zip_once, zip_each, beside_it, all_flat}
use Rattle.pyver_documents.specs.Comparing.{compared, compared_demand, Excuse, is_locked, beside_all, differing, found_beside, found_in_pair, belongs, is_beside, in_one_folder, is_excused, is_plain_for_uv, python_difference, replaced_names, stale_beside, stale_in_pair, first_difference, is_in_one, python_minors, overrides_read, unmet_extras, excluded, excluded_in, is_overridden, leaves_out, missing, is_installer, is_project_reading, names_read, lack_without_marker, absent, lacking, taken_packages, unlocked, unmet, unmet_demand, invalid_package, own_report, with_own_reports, FindsOfReading, documents_report, with_found}
use Rattle.pyver_documents.specs.DocumentLaws.{HasTable, HasContents, AreTogether, HasLock, HasProject, AllOfOnePython, AllEntered, AllRequired, replaces, AllContained, ContainsVersion, IsPresent, needed_by, AllMet, AllPresent, AllOfVersion, AllAlone, NoFindingImpliesContained, IsPart, extras_of, NoFindingImpliesSatisfiable}
use Rattle.pyver_documents.specs.Meanings.{groups, DocumentReading, IsDocumentReading, IsProject, IsStringReading, StringReading, IsLockReading, LockedReading, AreLockedPythons, Document, IsRequirementReading, reference_marker, requirement_line, ExtraReading, IsBroken, IsLock, string_line, IsLockedReading, fault_meaning, IsFileReading, file_meaning, is_of_version, extra_inclusions, inclusions, IsSoundString}
use Rattle.pyver_documents.specs.Together.{parts, project_python, is_standard, same_part, section_part, sections, with_new, same_finding, FindsOfPart, FindsOfParts, part_demands, project_domain, is_marked, all_demands, demand_in_part, has_extra, has_group}
use Rattle.pyver_documents.specs.declared.document_kind.DocumentKind.{DocumentKind}
use Rattle.pyver_documents.specs.declared.document_kind.DocumentKind.TheVariants.{Project, Lock}
use Rattle.pyver_findings.proofs.Grouping.{Some_is, under_unmarked}
use Rattle.pyver_findings.proofs.MarkedConflicts.{contains_told, tells_right, of_marker_of, set_shared, of_name_of, found_nothing}
use Rattle.pyver_findings.proofs.SetsFound.{In, Spreads, each_in, in_list, FindsOrTells, asking_found, or_tells, some_spreads, unmarked_found}
use Rattle.pyver_findings.proofs.SmallestLists.{Allows, more_none, none_allowed}
use Rattle.pyver_findings.specs.Conflicts.{has_same_name, unmarked, first_mentions, has_same_marker, have_none}
use Rattle.pyver_findings.specs.Demands.{Demand, line_demand, IsSound}
use Rattle.pyver_findings.specs.FileLines.{File, Finding}
use Rattle.pyver_findings.specs.FindingLaws.{IsAmong, IsAmongIn}
use Rattle.pyver_findings.specs.LineMeanings.{Asks, LineMeaning}
use Rattle.pyver_findings.specs.MarkedConflicts.{FindsOfEach, FindsOfNames, first_lines, FindsByUnmarked, FindsOfFirsts, FindsOfName, few_first_lines}
use Rattle.pyver_findings.specs.NamedFiles.{folder}
use Rattle.pyver_findings.specs.Reports.{demands_in, invalid_in, Report, empty_report}
use Rattle.pyver_findings.specs.Views.{AddsFound, finding_of}
use Rattle.pyver_findings.specs.declared.finding.Finding.{Finding as FindingValue}
use Rattle.pyver_locks.specs.KnownEnvironments.{python_record}
use Rattle.pyver_locks.specs.LockContents.{LockContents, LockParts, LockedRequirement, LockedFile, LockFault}
use Rattle.pyver_locks.specs.declared.lock_kind.LockKind.{LockKind}
use Rattle.pyver_markers.specs.Conditions.{Domain}
use Rattle.pyver_projects.specs.ProjectStrings.{Section, ProjectString, Build, Dependencies, Extra, Group, Inclusion}
use Rattle.pyver_projects.specs.ProjectTables.{has_group_tool, overridden_names, project_names, sources}
use Rattle.pyver_requirements.specs.MarkerReading.{marker as read_marker}
use Rattle.pyver_requirements.specs.declared.cause.Cause.{Cause}
use Rattle.pyver_requirements.specs.declared.cause.Cause.TheVariants as cause

-- a project with this table was read
pub project_read : (file : File) (t : Members) (x : DocumentReading) → HasTable file t → IsDocumentReading (record { kind = Project; file = file }) x → (xs : List StringReading) × AllZip (IsStringReading (groups t) file) (sources t) xs × (x ≡ IsProject t (has_group_tool t) (project_names t) (overridden_names t) xs)
project_read file t x (text, e) (inl (none, (position, told))) = absurd (none text)
project_read file t x (text, e) (inr (again, inr (none, broken))) = let same : Some t ≡ None = sym e ∙ none in cc same
project_read file t x (text, e) (inr (again, inl (u, f, (xs, h, is)))) =
    let same : Some u ≡ Some t = sym f ∙ e in
    let table : u ≡ t = cc same in
    (xs, subst (λ (m : Members). AllZip (IsStringReading (groups m) file) (sources m) xs) table h, is ∙ ap (λ (m : Members). IsProject m (has_group_tool m) (project_names m) (overridden_names m) xs) table)

-- a lock with this was read
lock_read : (file : File) (kind : LockKind) (l : LockContents) (x : DocumentReading) → HasContents kind file l → IsDocumentReading (record { kind = Lock kind; file = file }) x → IsLockReading file.name l x
lock_read file kind l x (text, e) (inl (none, (position, told))) = absurd (none text)
lock_read file kind l x (text, e) (inr (again, inr (none, broken))) = let same : Some l ≡ None = sym e ∙ none in cc same
lock_read file kind l x (text, e) (inr (again, inl (m, f, is))) =
    let same : Some m ≡ Some l = sym f ∙ e in
    let equal : m ≡ l = cc same in
    subst (λ (c : LockContents). IsLockReading file.name c x) equal is

-- nothing is found of a string, which always asks for this
not_compared : (kind : LockKind) (parts : LockParts) (names : List (List ℕ)) (excused : List ℕ → Excuse) (near : Bool) (ys : List LockedReading) (a : Demand) (section : Section) (x : StringReading) → x.section ≡ section → x.meaning ≡ Asks a → is_locked near section ≡ true → compared kind parts names excused near ys x ≡ [] → compared_demand kind parts names excused near ys section a ≡ []
not_compared kind parts names excused near ys a section x same is counts e =
    let here : (if is_locked near section then flat_map (compared_demand kind parts names excused near ys section) (demands_in (Asks a)) else []) ≡ [] =
    (λ j. if is_locked near (sym same j) then flat_map (compared_demand kind parts names excused near ys (sym same j)) (demands_in (sym is j)) else []) ∙ e in
    let counted : flat_map (compared_demand kind parts names excused near ys section) (demands_in (Asks a)) ≡ [] = ap (λ (b : Bool). if b then flat_map (compared_demand kind parts names excused near ys section) (demands_in (Asks a)) else []) (sym counts) ∙ here in
    left_nil (compared_demand kind parts names excused near ys section a) [] counted

counted : (b : Bool) (found : List Finding) → b ≡ true → (if b then found else []) ≡ [] → found ≡ []
counted true found is none = none
counted false found is none = cc is

not_lacking : (b : Bool) (fs : List Finding) → b ≡ false → (if b then [] else fs) ≡ [] → fs ≡ []
not_lacking true fs unlike e = absurd (true≢false unlike)
not_lacking false fs unlike e = e

-- nothing is found in a project beside the lock in its folder
module _ (documents : List Document) (zs : List DocumentReading) (h : AllZip IsDocumentReading documents zs) (found : flat_map (beside_all (is_excused zs) (zip documents zs)) (zip documents zs) ≡ []) (file lock : File) (kind : LockKind) (l : LockContents) (t : Members) where
  abbrev Nothing : Type 0
  Nothing = (xs : List StringReading) × (es : List LineMeaning) × AllZip (IsStringReading (groups t) file) (sources t) xs × AllZip (IsRequirementReading lock.name) l.entries es
      × (python : Option Segments) × AreLockedPythons l.parts.python python
      × (python_difference lock (project_python xs) python ++ (if is_plain_for_uv t then differing (replaced_names t (project_names t)) xs es else []) ≡ [])

  nothing_stale : HasProject documents file t → HasLock documents kind lock l → belongs l.parts lock.name file.name ≡ true → folder file.name ≡ folder lock.name → Nothing
  nothing_stale ((k, inside, at), table) ((m, below, there), other) beside near =
      let project : Document = record { kind = Project; file = file } in
      let locked : Document = record { kind = Lock kind; file = lock } in
      let pairs = zip documents zs in
      let (x, (a, in_x, is_x), rx) = beside_pair IsDocumentReading documents zs project k inside at h in
      let (y, (b, in_y, is_y), ry) = beside_pair IsDocumentReading documents zs locked m below there h in
      let (xs, g, is_project) = project_read file t x table rx in
      let (python, pythons, ys, ms, os, es, fs, q, required, optional, entered, files, is_lock) = lock_read lock kind l y other ry in
      let nothing : stale_in_pair (project, x) (locked, y) ≡ [] =
      left_nil (stale_in_pair (project, x) (locked, y)) (found_beside (is_excused zs) (in_one_folder project locked) (Lock kind) x y)
      (counted (is_beside file.name lock.name y) (stale_in_pair (project, x) (locked, y) ++ found_beside (is_excused zs) (in_one_folder project locked) (Lock kind) x y) (ap (is_beside file.name lock.name) is_lock ∙ beside)
      (nil_at (found_in_pair (is_excused zs) (project, x)) pairs (locked, y) b in_y is_y (nil_at (beside_all (is_excused zs) pairs) pairs (project, x) a in_x is_x found))) in
      let here : stale_beside lock x y ≡ [] = counted (in_one_folder project locked) (stale_beside lock x y) ((bytes_eq-Decides (folder file.name) (folder lock.name)).1 near) nothing in
      (xs, es, g, entered, python, pythons, (λ e. stale_beside lock (sym is_project e) (sym is_lock e)) ∙ here)

  nothing_differs : AreTogether documents file t lock kind l → belongs l.parts lock.name file.name ≡ true
      → (xs : List StringReading) × (es : List LineMeaning) × AllZip (IsStringReading (groups t) file) (sources t) xs × AllZip (IsRequirementReading lock.name) l.entries es × (differing (replaced_names t (project_names t)) xs es ≡ [])
  nothing_differs are beside =
      let (xs, es, g, entered, python, pythons, nothing) = nothing_stale are.has are.known beside are.beside in
      let requirements = if is_plain_for_uv t then differing (replaced_names t (project_names t)) xs es else [] in
      (xs, es, g, entered, counted (is_plain_for_uv t) (differing (replaced_names t (project_names t)) xs es) are.plain (right_nil (python_difference lock (project_python xs) python) requirements nothing))

-- where none differs, both are the same
none_differs : (a b : Bool) → (if a then not b else b) ≡ false → a ≡ b
none_differs true true e = refl
none_differs true false e = absurd (true≢false e)
none_differs false true e = absurd (true≢false e)
none_differs false false e = refl

first_nil : (lock : File) (found : Option ℕ) → first_difference lock found ≡ [] → found ≡ None
first_nil lock None e = refl
first_nil lock (Some k) e = cc e

all_of_one_python : (documents : List Document) (zs : List DocumentReading) → AllZip IsDocumentReading documents zs → flat_map (beside_all (is_excused zs) (zip documents zs)) (zip documents zs) ≡ [] → AllOfOnePython documents
all_of_one_python documents zs h found file lock kind l t own locked k has known beside near have within =
    let (xs, es, g, entered, python, pythons, nothing) = nothing_stale documents zs h found file lock kind l t has known beside near in
    let requirements = if is_plain_for_uv t then differing (replaced_names t (project_names t)) xs es else [] in
    let none : python_difference lock (project_python xs) python ≡ [] =
    left_nil (python_difference lock (project_python xs) python) requirements nothing in
    let one : xs ≡ have.readings = zip_once (IsStringReading (groups t) file) (Contains (sources t)) (λ s v w known n o. one_string (groups t) file s v w n o) (sources t) xs have.readings (All-contains_itself (sources t)) g have.read in
    let of_project : project_python xs ≡ Some own = ap project_python one ∙ have.project in
    let of_lock : python ≡ Some locked = one_locked_set l.parts.python python (Some locked) pythons have.lock in
    let same : first_difference lock (find (is_in_one own locked) python_minors) ≡ [] = (λ i. python_difference lock (sym of_project i) (sym of_lock i)) ∙ none in
    none_differs (contains record_cmp own (python_record k)) (contains record_cmp locked (python_record k))
    (none_so (is_in_one own locked) python_minors k within (first_nil lock (find (is_in_one own locked) python_minors) same))

all_entered : (documents : List Document) (zs : List DocumentReading) → AllZip IsDocumentReading documents zs → flat_map (beside_all (is_excused zs) (zip documents zs)) (zip documents zs) ≡ [] → AllEntered documents
all_entered documents zs h found file lock kind l t s n are beside some within counts requires other =
    let (xs, es, g, entries, nothing) = nothing_differs documents zs h found file lock kind l t are beside in
    entered (groups t) file lock (replaced_names t (project_names t)) (sources t) l.entries xs g es entries nothing s n within some counts requires other

all_required : (documents : List Document) (zs : List DocumentReading) → AllZip IsDocumentReading documents zs → flat_map (beside_all (is_excused zs) (zip documents zs)) (zip documents zs) ≡ [] → AllRequired documents
all_required documents zs h found file lock kind l t q list are beside within read plain other =
    let (xs, es, g, entries, nothing) = nothing_differs documents zs h found file lock kind l t are beside in
    required (groups t) file lock (replaced_names t (project_names t)) (sources t) l.entries xs g es entries nothing q list within read plain other

-- a requirement asks for its list
asks_for : (file : List ℕ) (q : LockedRequirement) (list : List Spec) (m : LineMeaning) → DerivesList q.list list → IsRequirementReading file q m → m ≡ Asks (line_demand (requirement_line file q) (reference_marker q.is_reference) (record { name = q.name; extras = q.extras; specifiers = list }))
asks_for file q list m d (inl (other, e, is)) =
    is ∙ ap (λ (l : List Spec). Asks (line_demand (requirement_line file q) (reference_marker q.is_reference) (record { name = q.name; extras = q.extras; specifiers = l }))) (one_list q.list other list e d)
asks_for file q list m d (inr (f, r, is)) = absurd (not_both_list q.list list f d r)

-- none of the documents that were read names this
module _ (documents : List Document) (name : List ℕ) (named : DocumentReading → List (List ℕ)) (of_lock : (parts : LockParts) (python : Option Segments) (ys : List LockedReading) (ms : List LineMeaning) (os : List ExtraReading) (es fs : List LineMeaning) → named (IsLock parts python ys ms os es fs) ≡ []) (of_broken : (f : Finding) → named (IsBroken f) ≡ [])
    (others : (other : File) (u : Members) (xs : List StringReading) → HasProject documents other u → list_any (bytes_eq name) (named (IsProject u (has_group_tool u) (project_names u) (overridden_names u) xs)) ≡ false) where
  abbrev OtherNames : DocumentReading → Type 0
  OtherNames x = list_any (bytes_eq name) (named x) ≡ false

  told_so : (x y : DocumentReading) → x ≡ y → OtherNames y → OtherNames x
  told_so x y is h = ap (λ (z : DocumentReading). list_any (bytes_eq name) (named z)) is ∙ h

  broken_so : (f : Finding) → OtherNames (IsBroken f)
  broken_so f = ap (list_any (bytes_eq name)) (of_broken f)

  not_named : (kind : DocumentKind) (file : File) (x : DocumentReading) → Contains documents (record { kind = kind; file = file }) → IsDocumentReading (record { kind = kind; file = file }) x → OtherNames x
  not_named kind file x known (inl (none, (position, is))) = told_so x _ is (broken_so _)
  not_named Project file x known (inr (text, inl (t, e, (xs, h, is)))) = told_so x _ is (others file t xs (known, (text, e)))
  not_named Project file x known (inr (text, inr (none, (position, reason, is)))) = told_so x _ is (broken_so _)
  not_named (Lock kind) file x known (inr (text, inl (l, e, (python, pythons, ys, ms, os, es, fs, g, h, optional, entered, k, is)))) = told_so x _ is (ap (list_any (bytes_eq name)) (of_lock l.parts python ys ms os es _))
  not_named (Lock kind) file x known (inr (text, inr (none, (position, reason, is)))) = told_so x _ is (broken_so _)

  none_named_so : (zs : List DocumentReading) → All OtherNames zs → list_any (bytes_eq name) (flat_map named zs) ≡ false
  none_named_so [] k = refl
  none_named_so (z ∷ zs) k =
      list_any-append (bytes_eq name) (named z) (flat_map named zs)
      ∙ (λ j. All-head OtherNames z zs k j || none_named_so zs (All-tail OtherNames z zs k) j)

  nowhere_named : (zs : List DocumentReading) → AllZip IsDocumentReading documents zs → list_any (bytes_eq name) (flat_map named zs) ≡ false
  nowhere_named zs h = none_named_so zs (zip_each IsDocumentReading (Contains documents) OtherNames (λ d y known s. not_named d.kind d.file y known s) documents zs (All-contains_itself documents) h)

-- no project overrides this name
not_overridden : (documents : List Document) (name : List ℕ) (zs : List DocumentReading) → AllZip IsDocumentReading documents zs
    → ((other : File) (u : Members) → HasProject documents other u → list_any (bytes_eq name) (overridden_names u) ≡ false) → (is_excused zs name).overrides ≡ false
not_overridden documents name zs h others = nowhere_named documents name overrides_read (λ parts python ys ms os es fs. refl) (λ f. refl) (λ other u xs known. others other u known) zs h

-- no project replaces what the string requires
not_replaced : (documents : List Document) (s : ProjectString) (n : Needed) (zs : List DocumentReading) → AllZip IsDocumentReading documents zs
    → ((other : File) (u : Members) → HasProject documents other u → replaces s n.name u ≡ false) → (b : Bool) → is_standard s.section ≡ b → (b && (is_excused zs (normal n.name)).overrides) ≡ false
not_replaced documents s n zs h others true is =
    not_overridden documents (normal n.name) zs h (λ other u known. ap (λ b. b && list_any (bytes_eq (normal n.name)) (overridden_names u)) (sym is) ∙ others other u known)
not_replaced documents s n zs h others false is = refl

all_contained : (documents : List Document) (zs : List DocumentReading) → AllZip IsDocumentReading documents zs → flat_map (beside_all (is_excused zs) (zip documents zs)) (zip documents zs) ≡ [] → AllContained documents
all_contained documents zs h found file lock kind l s p n v (t, ((k, inside, at), table), (i, within, here)) ((m, below, there), other) (j, under, this) beside counts has_it asks kept locks =
    let project : Document = record { kind = Project; file = file } in
    let locked : Document = record { kind = Lock kind; file = lock } in
    let pairs = zip documents zs in
    let near = in_one_folder project locked in
    let (x, (a, in_x, is_x), rx) = beside_pair IsDocumentReading documents zs project k inside at h in
    let (y, (b, in_y, is_y), ry) = beside_pair IsDocumentReading documents zs locked m below there h in
    let (xs, g, is_project) = project_read file t x table rx in
    let (python, pythons, ys, ms, os, es, fs, q, required, optional, entered, files, is_lock) = lock_read lock kind l y other ry in
    let nothing : found_beside (is_excused zs) near (Lock kind) x y ≡ [] =
    right_nil (stale_in_pair (project, x) (locked, y)) (found_beside (is_excused zs) near (Lock kind) x y)
    (counted (is_beside file.name lock.name y) (stale_in_pair (project, x) (locked, y) ++ found_beside (is_excused zs) near (Lock kind) x y) (ap (is_beside file.name lock.name) is_lock ∙ beside)
    (nil_at (found_in_pair (is_excused zs) (project, x)) pairs (locked, y) b in_y is_y (nil_at (beside_all (is_excused zs) pairs) pairs (project, x) a in_x is_x found))) in
    let compares : flat_map (compared kind l.parts (project_names t) (is_excused zs) near ys) xs ≡ [] =
    left_nil (flat_map (compared kind l.parts (project_names t) (is_excused zs) near ys) xs) (unmet_extras kind l.parts (is_excused zs) near ys os xs) ((λ e. found_beside (is_excused zs) near (Lock kind) (sym is_project e) (sym is_lock e)) ∙ nothing) in
    let (z, (c, in_z, is_z), rz) = beside_it (IsStringReading (groups t) file) (sources t) xs s i within here g in
    let (plain, derives, always, url) = asks in
    let meaning = asks_so (string_line file s) n plain derives None (ap (option_map read_marker) always) url (groups t) s.text near s.section z.meaning counts rz.1 in
    let asked = line_demand (string_line file s) None n in
    let both : missing kind l.parts (project_names t) ys s.section asked ++ excluded_in kind l.parts (project_names t) ys s.section asked ≡ [] =
    not_lacking (is_overridden (is_excused zs) s.section asked.name) (missing kind l.parts (project_names t) ys s.section asked ++ excluded_in kind l.parts (project_names t) ys s.section asked) (not_replaced documents s n zs h kept (is_standard s.section) refl)
    (not_compared kind l.parts (project_names t) (is_excused zs) near ys asked s.section z rz.0 meaning counts (nil_at (compared kind l.parts (project_names t) (is_excused zs) near ys) xs z c in_z is_z compares)) in
    not_excluded lock.name l.packages (string_line file s) n ys q p j under this v locks
    (not_lacking (leaves_out kind l.parts.names s.section) (excluded asked ys) has_it (right_nil (missing kind l.parts (project_names t) ys s.section asked) (excluded_in kind l.parts (project_names t) ys s.section asked) both))

-- there is a project, and none of this name, which is no installer
not_excused : (documents : List Document) (name : List ℕ) (zs : List DocumentReading) → AllZip IsDocumentReading documents zs
    → ((other : File) (u : Members) → HasProject documents other u → list_any (bytes_eq name) (project_names u) ≡ false) → (file : File) (t : Members) → HasProject documents file t → is_installer name ≡ false → (is_excused zs name).lacks ≡ false
not_excused documents name zs h others file t ((k, inside, at), table) unlike =
    let (x, (j, in_x, is_x), r) = beside_it IsDocumentReading documents zs (record { kind = Project; file = file }) k inside at h in
    let (xs, g, is) = project_read file t x table r in
    let there : list_any is_project_reading zs ≡ true = list_any_at is_project_reading zs j x in_x (ap is_project_reading (is_x ∙ is)) in
    let named : list_any (bytes_eq name) (flat_map names_read zs) ≡ false = nowhere_named documents name names_read (λ parts python ys ms os es fs. refl) (λ f. refl) (λ other u xs known. others other u known) zs h in
    λ i. unlike i || (not (there i) || named i)

-- what is required for a package is met where nothing is found of it
module _ (documents : List Document) (zs : List DocumentReading) (h : AllZip IsDocumentReading documents zs) (lock : File) (l : LockContents) (ys : List LockedReading) (packages : AllZip (IsLockedReading lock.name) l.packages ys) where
  module _ (q : LockedRequirement) (list : List Spec) (d : DerivesList q.list list) (z : LineMeaning) (r : IsRequirementReading lock.name q z) (met : unmet (is_excused zs) l.parts ys z ≡ [])
      (kept : (other : File) (u : Members) → HasProject documents other u → list_any (bytes_eq (normal q.name)) (overridden_names u) ≡ false) where
    abbrev n : Needed
    n = needed_by q list

    abbrev asked : Demand
    asked = line_demand (requirement_line lock.name q) (reference_marker q.is_reference) n

    both_nil : lacking (is_excused zs) l.parts ys asked ++ excluded asked ys ≡ []
    both_nil =
        not_lacking (is_excused zs asked.name).overrides (lacking (is_excused zs) l.parts ys asked ++ excluded asked ys) (not_overridden documents (normal q.name) zs h kept)
        (left_nil (unmet_demand (is_excused zs) l.parts ys asked) [] (ap (unmet (is_excused zs) l.parts ys) (sym (asks_for lock.name q list z d r)) ∙ met))

    contains_version : ContainsVersion l q list
    contains_version p v (j, under, this) locks = not_excluded lock.name l.packages (requirement_line lock.name q) n ys packages p j under this v locks (right_nil (lacking (is_excused zs) l.parts ys asked) (excluded asked ys) both_nil)

    is_present : (is_excused zs (normal q.name)).lacks ≡ false → IsPresent l q list
    is_present unlike =
        let has_all : unlocked l.parts ys asked ≡ [] = not_lacking (is_excused zs asked.name).lacks (unlocked l.parts ys asked) unlike (left_nil (lacking (is_excused zs) l.parts ys asked) (excluded asked ys) both_nil) in
        let none : excluded asked ys ≡ [] = right_nil (lacking (is_excused zs) l.parts ys asked) (excluded asked ys) both_nil in
        let always : q.is_reference ≡ false → unlocked l.parts ys (line_demand (requirement_line lock.name q) None n) ≡ [] =
        λ is. ap (λ b. unlocked l.parts ys (line_demand (requirement_line lock.name q) (reference_marker b) n)) (sym is) ∙ has_all in (
          some_named lock.name l.packages (requirement_line lock.name q) n ys packages (left_nil (absent ys asked) (lack_without_marker l.parts asked (taken_packages ys asked)) has_all),
          (λ k is inside. met_everywhere lock.name l.packages (requirement_line lock.name q) n ys packages l.parts (always is) none k inside),
        )

  -- nothing is found of a requirement that the lock has
  module _ (q : LockedRequirement) (i : ℕ) (within : i < length l.requirements) (here : get_or l.requirements i q ≡ q) (ms : List LineMeaning) (requirements : AllZip (IsRequirementReading lock.name) l.requirements ms) (front : List Finding) (faults : List LineMeaning) (nothing : front ++ (flat_map invalid_in faults ++ flat_map (unmet (is_excused zs) l.parts ys) ms) ≡ []) where
    unmet_nil : (z : LineMeaning) × IsRequirementReading lock.name q z × (unmet (is_excused zs) l.parts ys z ≡ [])
    unmet_nil =
        let (z, (c, in_z, is_z), r) = beside_it (IsRequirementReading lock.name) l.requirements ms q i within here requirements in
        (z, r, nil_at (unmet (is_excused zs) l.parts ys) ms z c in_z is_z (right_nil (flat_map invalid_in faults) (flat_map (unmet (is_excused zs) l.parts ys) ms) (right_nil front (flat_map invalid_in faults ++ flat_map (unmet (is_excused zs) l.parts ys) ms) nothing)))

all_met : (documents : List Document) (zs : List DocumentReading) → AllZip IsDocumentReading documents zs → flat_map (λ x. (own_report (is_excused zs) x).findings) zs ≡ [] → AllMet documents
all_met documents zs h own lock kind l q list ((m, below, there), other) (i, within, here) d kept =
    let (y, (b, in_y, is_y), ry) = beside_it IsDocumentReading documents zs (record { kind = Lock kind; file = lock }) m below there h in
    let (python, pythons, ys, ms, os, es, fs, packages, requirements, optional, entered, files, is_lock) = lock_read lock kind l y other ry in
    let faults = fs ++ map (fault_meaning lock.name) l.faults in
    let nothing : flat_map invalid_package ys ++ (flat_map invalid_in faults ++ flat_map (unmet (is_excused zs) l.parts ys) ms) ≡ [] = ap (λ (e : DocumentReading). (own_report (is_excused zs) e).findings) (sym is_lock) ∙ nil_at (λ x. (own_report (is_excused zs) x).findings) zs y b in_y is_y own in
    let (z, r, none) = unmet_nil documents zs h lock l ys packages q i within here ms requirements (flat_map invalid_package ys) faults nothing in
    contains_version documents zs h lock l ys packages q list d z r none kept

all_present : (documents : List Document) (zs : List DocumentReading) → AllZip IsDocumentReading documents zs → flat_map (λ x. (own_report (is_excused zs) x).findings) zs ≡ [] → AllPresent documents
all_present documents zs h own lock file kind l t q list ((m, below, there), other) (i, within, here) d project others unlike =
    let (y, (b, in_y, is_y), ry) = beside_it IsDocumentReading documents zs (record { kind = Lock kind; file = lock }) m below there h in
    let (python, pythons, ys, ms, os, es, fs, packages, requirements, optional, entered, files, is_lock) = lock_read lock kind l y other ry in
    let faults = fs ++ map (fault_meaning lock.name) l.faults in
    let nothing : flat_map invalid_package ys ++ (flat_map invalid_in faults ++ flat_map (unmet (is_excused zs) l.parts ys) ms) ≡ [] = ap (λ (e : DocumentReading). (own_report (is_excused zs) e).findings) (sym is_lock) ∙ nil_at (λ x. (own_report (is_excused zs) x).findings) zs y b in_y is_y own in
    let (z, r, none) = unmet_nil documents zs h lock l ys packages q i within here ms requirements (flat_map invalid_package ys) faults nothing in
    is_present documents zs h lock l ys packages q list d z r none (λ other u known. (others other u known).1) (not_excused documents (normal q.name) zs h (λ other u known. (others other u known).0) file t project unlike)

-- where nothing is found of both, nothing is of each
front_nil : (fs gs : List LineMeaning) → flat_map invalid_in (fs ++ gs) ≡ [] → flat_map invalid_in fs ≡ []
front_nil fs gs none = left_nil (flat_map invalid_in fs) (flat_map invalid_in gs) (sym (flat_map-append invalid_in fs gs) ∙ none)

back_nil : (fs gs : List LineMeaning) → flat_map invalid_in (fs ++ gs) ≡ [] → flat_map invalid_in gs ≡ []
back_nil fs gs none = right_nil (flat_map invalid_in fs) (flat_map invalid_in gs) (sym (flat_map-append invalid_in fs gs) ∙ none)

-- nothing is found of a file, whose name has a version, as its package has
same_as_package : (file : List ℕ) (f : LockedFile) (m : LineMeaning) (r q : Record) (b : Bool) → Derives f.version r → Derives f.written q → IsFileReading file f m → invalid_in m ≡ [] → is_of_version r q ≡ b → b ≡ true
same_as_package file f m r q true d e is none same = refl
same_as_package file f m r q false d e (inr (inl (k, rejects), is)) none same = absurd (not_both f.version r k d rejects)
same_as_package file f m r q false d e (inr (inr (k, rejects), is)) none same = absurd (not_both f.written q k e rejects)
same_as_package file f m r q false d e (inl (s, p, g, h, is)) none same =
    let other : m ≡ file_meaning file f false = is ∙ (λ i. file_meaning file f (is_of_version (one_record f.version s r g d i) (one_record f.written p q h e i))) ∙ ap (file_meaning file f) same in
    let some : invalid_in (file_meaning file f false) ≡ [] = ap invalid_in (sym other) ∙ none in
    cc some

all_of_version : (documents : List Document) (zs : List DocumentReading) → AllZip IsDocumentReading documents zs → flat_map (λ x. (own_report (is_excused zs) x).findings) zs ≡ [] → AllOfVersion documents
all_of_version documents zs h own lock kind l f r q ((m, below, there), other) (i, within, here) d e =
    let (y, (b, in_y, is_y), ry) = beside_it IsDocumentReading documents zs (record { kind = Lock kind; file = lock }) m below there h in
    let (python, pythons, ys, ms, os, es, fs, packages, requirements, optional, entered, files, is_lock) = lock_read lock kind l y other ry in
    let faults = fs ++ map (fault_meaning lock.name) l.faults in
    let nothing : flat_map invalid_package ys ++ (flat_map invalid_in faults ++ flat_map (unmet (is_excused zs) l.parts ys) ms) ≡ [] = ap (λ (e : DocumentReading). (own_report (is_excused zs) e).findings) (sym is_lock) ∙ nil_at (λ x. (own_report (is_excused zs) x).findings) zs y b in_y is_y own in
    let (z, (c, in_z, is_z), rz) = beside_it (IsFileReading lock.name) l.files fs f i within here files in
    let none : invalid_in z ≡ [] = nil_at invalid_in fs z c in_z is_z (front_nil fs (map (fault_meaning lock.name) l.faults) (left_nil (flat_map invalid_in faults) (flat_map (unmet (is_excused zs) l.parts ys) ms) (right_nil (flat_map invalid_package ys) (flat_map invalid_in faults ++ flat_map (unmet (is_excused zs) l.parts ys) ms) nothing))) in
    same_as_package lock.name f z r q (is_of_version r q) d e rz none refl

-- nothing is found of packages beside one another
no_fault : (file : List ℕ) (fs : List LockFault) → flat_map invalid_in (map (fault_meaning file) fs) ≡ [] → fs ≡ []
no_fault file [] none = refl
no_fault file (f ∷ fs) none = cc none

all_alone : (documents : List Document) (zs : List DocumentReading) → AllZip IsDocumentReading documents zs → flat_map (λ x. (own_report (is_excused zs) x).findings) zs ≡ [] → AllAlone documents
all_alone documents zs h own lock kind l ((m, below, there), other) =
    let (y, (b, in_y, is_y), ry) = beside_it IsDocumentReading documents zs (record { kind = Lock kind; file = lock }) m below there h in
    let (python, pythons, ys, ms, os, es, fs, packages, requirements, optional, entered, files, is_lock) = lock_read lock kind l y other ry in
    let faults = fs ++ map (fault_meaning lock.name) l.faults in
    let nothing : flat_map invalid_package ys ++ (flat_map invalid_in faults ++ flat_map (unmet (is_excused zs) l.parts ys) ms) ≡ [] = ap (λ (e : DocumentReading). (own_report (is_excused zs) e).findings) (sym is_lock) ∙ nil_at (λ x. (own_report (is_excused zs) x).findings) zs y b in_y is_y own in
    no_fault lock.name l.faults (back_nil fs (map (fault_meaning lock.name) l.faults) (left_nil (flat_map invalid_in faults) (flat_map (unmet (is_excused zs) l.parts ys) ms) (right_nil (flat_map invalid_package ys) (flat_map invalid_in faults ++ flat_map (unmet (is_excused zs) l.parts ys) ms) nothing)))

pub no_finding_means_contained : NoFindingImpliesContained
no_finding_means_contained documents r (zs, h, fs, cs, finds, is) none =
    let compared = flat_map (beside_all (is_excused zs) (zip documents zs)) (zip documents zs) in
    let found : (with_own_reports (is_excused zs) empty_report zs).findings ++ compared ≡ [] = left_nil ((with_own_reports (is_excused zs) empty_report zs).findings ++ compared) fs (sym (ap (λ (e : Report). e.findings) is) ∙ none) in
    let own : flat_map (λ x. (own_report (is_excused zs) x).findings) zs ≡ [] = sym (findings_of documents (is_excused zs) empty_report zs) ∙ left_nil (with_own_reports (is_excused zs) empty_report zs).findings compared found in
    let beside : compared ≡ [] = right_nil (with_own_reports (is_excused zs) empty_report zs).findings compared found in
    (all_contained documents zs h beside, (all_met documents zs h own, (all_present documents zs h own, (all_of_version documents zs h own, (all_alone documents zs h own, (all_entered documents zs h beside, (all_required documents zs h beside, all_of_one_python documents zs h beside)))))))

-- parts that are the same are equal
same_is : (a b : Section) → same_part a b ≡ true → a ≡ b
same_is Dependencies Dependencies e = refl
same_is (Extra a) (Extra b) e = ap Extra ((bytes_eq-Decides a b).0 e)
same_is (Group a) (Group b) e = ap Group ((bytes_eq-Decides a b).0 e)
same_is Build Build e = refl
same_is a b e = cc e

-- ---- parts, each once

self_by : (part q : Section) (parts : List Section) (b : Bool) → same_part part q ≡ b → (b || list_any (same_part part) parts) ≡ true → (list_any (same_part part) parts ≡ true → In part parts) → In part (q ∷ parts)
self_by part q parts true is e later = inl (sym (same_is part q is))
self_by part q parts false is e later = inr (later e)

self_or : (part : Section) (parts : List Section) → list_any (same_part part) parts ≡ true → In part parts
self_or part [] e = absurd (true≢false (sym e))
self_or part (q ∷ parts) e = self_by part q parts (same_part part q) refl e (self_or part parts)

in_front_of : {X : Type 0} (x y : X) (xs : List X) → In x xs → In x (xs ++ y ∷ [])
in_front_of x y [] h = absurd h
in_front_of x y (z ∷ xs) (inl is) = inl is
in_front_of x y (z ∷ xs) (inr h) = inr (in_front_of x y xs h)

at_end : {X : Type 0} (x : X) (xs : List X) → In x (xs ++ x ∷ [])
at_end x [] = inl refl
at_end x (y ∷ xs) = inr (at_end x xs)

module _ (part : Section) where
  stays_by : (q : Section) (parts : List Section) (b : Bool) → In part parts → In part (if b then parts else parts ++ q ∷ [])
  stays_by q parts true h = h
  stays_by q parts false h = in_front_of part q parts h

  stays_in : (parts more : List Section) → In part parts → In part (with_new same_part parts more)
  stays_in parts [] h = h
  stays_in parts (q ∷ more) h = stays_in (if list_any (same_part q) parts then parts else parts ++ q ∷ []) more (stays_by q parts (list_any (same_part q) parts) h)

  comes_by : (parts : List Section) (b : Bool) → list_any (same_part part) parts ≡ b → In part (if b then parts else parts ++ part ∷ [])
  comes_by parts true is = self_or part parts is
  comes_by parts false is = at_end part parts

  -- the part of each string is among the parts
  part_in : (parts : List Section) (xs : List StringReading) (x : StringReading) → section_part x.section ≡ part → In x xs → In part (with_new same_part parts (map section_part (sections xs)))
  part_in parts [] x is h = absurd h
  part_in parts (y ∷ ys) x is (inl at) =
      let here : section_part y.section ≡ part = ap (λ (z : StringReading). section_part z.section) at ∙ is in
      stays_in (if list_any (same_part (section_part y.section)) parts then parts else parts ++ section_part y.section ∷ []) (map section_part (sections ys))
      (subst (λ q. In part (if list_any (same_part q) parts then parts else parts ++ q ∷ [])) (sym here) (comes_by parts (list_any (same_part part) parts) refl))
  part_in parts (y ∷ ys) x is (inr h) = part_in (if list_any (same_part (section_part y.section)) parts then parts else parts ++ section_part y.section ∷ []) ys x is h

-- ---- findings, each once

in_front : (f g : Finding) (found : List Finding) (b : Bool) → (if b then f ∷ found else (f ∷ found) ++ g ∷ []) ≡ f ∷ (if b then found else found ++ g ∷ [])
in_front f g found true = refl
in_front f g found false = refl

stays : (f : Finding) (found fs : List Finding) → with_new same_finding (f ∷ found) fs ≡ [] → ⊥
stays f found [] e = cc e
stays f found (g ∷ fs) e =
    stays f (if list_any (same_finding g) (f ∷ found) then found else found ++ g ∷ []) fs (ap (λ (new : List Finding). with_new same_finding new fs) (sym (in_front f g found (list_any (same_finding g) (f ∷ found)))) ∙ e)

none_new : (fs : List Finding) → with_new same_finding [] fs ≡ [] → fs ≡ []
none_new [] e = refl
none_new (f ∷ fs) e = absurd (stays f [] fs e)

-- something is found
abbrev Something : Finding → Type 0
Something f = ⊤

not_nil : (fs : List Finding) → Some_is Something fs → fs ≡ [] → ⊥
not_nil [] h e = h
not_nil (f ∷ fs) h e = cc e

some_is : (fs : List Finding) → (fs ≡ [] → ⊥) → Some_is Something fs
some_is [] never = absurd (never refl)
some_is (f ∷ fs) never = inl tt

-- so it is of each finding once
some_once : (fs : List Finding) → Some_is Something fs → Some_is Something (with_new same_finding [] fs)
some_once fs h = some_is (with_new same_finding [] fs) (λ e. not_nil fs h (none_new fs e))

-- what is found of a part is found in the report
module _ (R : List Finding → List Cause → Type 0) (spreads : Spreads R) (once : (fs : List Finding) (cs : List Cause) → R fs cs → R (with_new same_finding [] fs) cs) (documents : List Document) (zs : List DocumentReading) (h : AllZip IsDocumentReading documents zs)
    (d : Domain) (lines : List Demand) (p : IsPart documents d lines) (found : All IsSound lines → (fs : List Finding) (cs : List Cause) → FindsOfNames d lines fs cs → R fs cs) where
  abbrev together : Bool
  together = has_group_tool p.table

  abbrev part : Section
  part = section_part p.string.section

  sound_lines : All IsSound lines
  sound_lines =
      subst (All IsSound) (sym p.are)
      (sound_part together (overridden_names p.table) (groups p.table).inclusions (extras_of p.table) part p.readings
      (zip_each (IsStringReading (groups p.table) p.file) (Contains (sources p.table)) IsSoundString (λ s v known n. sound_string (groups p.table) p.file s v n) (sources p.table) p.readings (All-contains_itself (sources p.table)) p.read))

  found_part : (fs : List Finding) (cs : List Cause) → FindsOfPart together (overridden_names p.table) p.readings part fs cs → R fs cs
  found_part fs cs finds =
      let same : inclusions (sections p.readings) ≡ (groups p.table).inclusions = ap inclusions (sections_same (groups p.table) p.file (sources p.table) p.readings p.read) in
      let also : extra_inclusions (sections p.readings) ≡ extras_of p.table = ap extra_inclusions (sections_same (groups p.table) p.file (sources p.table) p.readings p.read) in
      found sound_lines fs cs
      (subst (λ (b : Domain). FindsOfNames b lines fs cs) (sym p.bounds)
      (subst (λ l. FindsOfNames (project_domain p.readings) l fs cs) ((λ j. part_demands together (overridden_names p.table) (same j) (also j) part p.readings) ∙ sym p.are) finds))

  found_parts : (fs : List Finding) (cs : List Cause) → FindsOfParts together (overridden_names p.table) p.readings fs cs → R fs cs
  found_parts fs cs (all, finds, is) =
      let (i, within, at) = p.within in
      let (z, (j, in_z, is_z), rz) = beside_it (IsStringReading (groups p.table) p.file) (sources p.table) p.readings p.string i within at p.read in
      subst (λ l. R l cs) (sym is)
      (once all cs (each_in R spreads (FindsOfPart together (overridden_names p.table) p.readings) part found_part (parts p.readings) (part_in part [] p.readings z (ap section_part rz.0) (in_list z p.readings j in_z is_z)) all cs finds))

  reached : (fs : List Finding) (cs : List Cause) → FindsOfEach FindsOfReading zs fs cs → R fs cs
  reached =
      let ((k, inside, at), table) = p.has in
      let (x, (c, in_x, is_x), rx) = beside_it IsDocumentReading documents zs (record { kind = Project; file = p.file }) k inside at h in
      let (ys, q, is_project) = project_read p.file p.table x table rx in
      let one : ys ≡ p.readings = zip_once (IsStringReading (groups p.table) p.file) (Contains (sources p.table)) (λ s v w known n o. one_string (groups p.table) p.file s v w n o) (sources p.table) ys p.readings (All-contains_itself (sources p.table)) q p.read in
      each_in R spreads FindsOfReading x
      (λ fs cs finds. found_parts fs cs (subst (λ l. FindsOfParts together (overridden_names p.table) l fs cs) one (subst (λ (y : DocumentReading). FindsOfReading y fs cs) is_project finds))) zs (in_list x zs c in_x is_x)

none_reported : (documents : List Document) (zs : List DocumentReading) (r : Report) (fs : List Finding) (cs : List Cause) → r ≡ with_found (documents_report documents zs) fs cs → r.findings ≡ [] → fs ≡ []
none_reported documents zs r fs cs is none = right_nil (documents_report documents zs).findings fs (sym (ap (λ (e : Report). e.findings) is) ∙ none)

pub no_finding_means_satisfiable : NoFindingImpliesSatisfiable
no_finding_means_satisfiable documents r (zs, h, fs, cs, finds, is) none =
    let nil : fs ≡ [] = none_reported documents zs r fs cs is none in (
      λ d lines a p inside empty.
          not_nil fs
          (reached (λ gs ds. Some_is Something gs) (some_spreads Something) (λ gs ds some. some_once gs some) documents zs h d lines p
          (λ sound gs ds one. some_is gs (λ e. subst (Some_is (IsAmong (map (λ (b : Demand). b.line) (unmarked (filter (has_same_name a) lines))))) e (unmarked_found d a lines inside sound empty gs ds one))) fs cs finds) nil,
      λ decided d lines a e asking p inside is_one ones empty.
          elim (reached (FindsOrTells Something) (or_tells Something)
          (λ gs ds some. elim some [ inl f ↦ inl (some_once gs f) | inr told ↦ inr told ]) documents zs h d lines p
          (λ sound gs ds one. elim (asking_found d e is_one a lines inside (All-filter (has_same_name a) IsSound lines sound) asking ones empty gs ds one) [
            | inl some ↦ inl (some_is gs (λ n. subst (Some_is (IsAmongIn e a lines)) n some))
            | inr told ↦ inr told
          ]) fs cs finds) [
            | inl some ↦ not_nil fs some nil
            | inr told ↦ decided (subst (λ (q : Report). Contains q.left_out cause.Undecided) (sym is) (contains_told ((documents_report documents zs).left_out ++ cs) (tells_right (documents_report documents zs).left_out cs told)))
          ],
    )

everywhere : {X : Type 0} (P : X → Type 0) → ((x : X) → P x) → (xs : List X) → All P xs
everywhere P so [] = All-nil P
everywhere P so (x ∷ xs) = All-cons P x xs (so x) (everywhere P so xs)

false_by : (b : Bool) → (b ≡ true → ⊥) → b ≡ false
false_by true never = absurd (never refl)
false_by false never = refl

-- ---- filters

module _ {X : Type 0} (Q : X → Type 0) (p : X → Bool) where
  -- it holds of the element, if that passes the test
  abbrev pub HoldsIf : X → Type 0
  HoldsIf x = p x ≡ true → Q x

  whole_by : (b : Bool) (x : X) (xs : List X) → p x ≡ b → (All Q (filter p xs) → All HoldsIf xs) → All Q (cond b (x ∷ filter p xs) (filter p xs)) → All HoldsIf (x ∷ xs)
  whole_by true x xs e next k = All-cons HoldsIf x xs (λ passes. All-head Q x (filter p xs) k) (next (All-tail Q x (filter p xs) k))
  whole_by false x xs e next k = All-cons HoldsIf x xs (λ passes. absurd (true≢false (sym passes ∙ e))) (next k)

  whole : (xs : List X) → All Q (filter p xs) → All HoldsIf xs
  whole [] k = All-nil HoldsIf
  whole (x ∷ xs) k = whole_by (p x) x xs refl (whole xs) k

  chosen_by : (b : Bool) (x : X) (xs : List X) → p x ≡ b → All Q (filter p xs) → All HoldsIf (x ∷ xs) → All Q (cond b (x ∷ filter p xs) (filter p xs))
  chosen_by true x xs e rest k = All-cons Q x (filter p xs) (All-head HoldsIf x xs k e) rest
  chosen_by false x xs e rest k = rest

  chosen : (xs : List X) → All HoldsIf xs → All Q (filter p xs)
  chosen [] k = All-nil Q
  chosen (x ∷ xs) k = chosen_by (p x) x xs refl (chosen xs (All-tail HoldsIf x xs k)) k

-- what holds of the elements of a list that pass two tests holds of those of its part
of_part : {X : Type 0} (Q : X → Type 0) (p q : X → Bool) (all part : List X) → All (Contains all) part → All Q (filter p (filter q all)) → All Q (filter p (filter q part))
of_part Q p q all part known k =
    let each : All (HoldsIf (HoldsIf Q p) q) all = whole (HoldsIf Q p) q all (whole Q p (filter q all) k) in
    let here : All (HoldsIf (HoldsIf Q p) q) part = All-weaker (Contains all) (HoldsIf (HoldsIf Q p) q) (λ x is. All-contains (HoldsIf (HoldsIf Q p) q) all x each is) part known in
    chosen Q p (filter q part) (chosen (HoldsIf Q p) q part here)

-- ---- lines that count together

module _ (P : Demand → Type 0) (same : Demand → Demand → Bool) where
  mention_by : (b : Bool) (a : Demand) (rest : List Demand) → P a → All P rest → All P ((if b then [] else a ∷ []) ++ rest)
  mention_by true a rest k m = m
  mention_by false a rest k m = All-cons P a rest k m

  mentions : (before lines : List Demand) → All P lines → All P (first_mentions same before lines)
  mentions before [] k = All-nil P
  mentions before (a ∷ lines) k =
      mention_by (list_any (same a) before) a (first_mentions same (before ++ a ∷ []) lines) (All-head P a lines k) (mentions (before ++ a ∷ []) lines (All-tail P a lines k))

-- ---- no markers

abbrev Unmarked : Demand → Type 0
Unmarked a = is_some a.marker ≡ false

left_false : (a b : Bool) → (a || b) ≡ false → a ≡ false
left_false true b e = e
left_false false b e = refl

right_false : (a b : Bool) → (a || b) ≡ false → b ≡ false
right_false true b e = absurd (true≢false e)
right_false false b e = e

all_unmarked : (lines : List Demand) → list_any is_marked lines ≡ false → All Unmarked lines
all_unmarked [] none = All-nil Unmarked
all_unmarked (a ∷ rest) none =
    All-cons Unmarked a rest (left_false (is_marked a) (list_any is_marked rest) none) (all_unmarked rest (right_false (is_marked a) (list_any is_marked rest) none))

skipped : (m : Option (List ℕ)) (a : Demand) → is_some m ≡ false → (if is_none m || false then [] else a ∷ []) ≡ []
skipped None a e = refl
skipped (Some m) a e = absurd (true≢false e)

no_firsts : (lines : List Demand) → All Unmarked lines → first_lines [] lines ≡ []
no_firsts [] k = refl
no_firsts (a ∷ rest) k = ap (λ l. first_lines l rest) (skipped a.marker a (All-head Unmarked a rest k)) ∙ no_firsts rest (All-tail Unmarked a rest k)

no_marker : (m : Option (List ℕ)) → is_some m ≡ false → m ≡ None
no_marker None e = refl
no_marker (Some m) e = absurd (true≢false e)

nothing_each : {X : Type 0} (P : X → List Finding → List Cause → Type 0) (xs : List X) → All (λ x. P x [] []) xs → FindsOfEach P xs [] []
nothing_each P [] k = (refl, refl)
nothing_each P (x ∷ xs) k = ([], [], [], [], All-head (λ y. P y [] []) x xs k, nothing_each P xs (All-tail (λ y. P y [] []) x xs k), refl, refl)

-- nothing is found of lines without markers that have a version in common
nothing_of : (d : Domain) (lines : List Demand) → All Unmarked lines → have_none (unmarked lines) ≡ false → FindsOfName d lines [] []
nothing_of d lines bare some =
    let few : Some [] ≡ few_first_lines lines = ap (λ l. if nat_lt 32 (length l) then None else Some l) (sym (no_firsts lines bare)) in
    let one : (a : Demand) → Unmarked a → of_marker_of d lines a [] [] = λ a is.
    let (fs, cs, finds, adds, also) = set_shared d lines (a ∷ []) [] [] [] [] (ap have_none (under_unmarked a (no_marker a.marker is) lines) ∙ some) refl refl in
    subst (λ l. of_marker_of d lines a l []) (sym adds) (subst (λ l. of_marker_of d lines a fs l) (sym also) finds) in
    subst (λ b. FindsByUnmarked d lines b [] []) (sym some) (
      [],
      [],
      [],
      [],
      nothing_each (of_marker_of d lines) (first_mentions has_same_marker [] lines) (mentions (λ a. of_marker_of d lines a [] []) has_same_marker [] lines (All-weaker Unmarked (λ a. of_marker_of d lines a [] []) one lines bare)),
      subst (λ (f : Option (List Demand)). FindsOfFirsts d lines f [] []) few (refl, refl),
      refl,
      refl,
    )

module _ (d : Domain) (all part : List Demand) (sound : All IsSound all) (bare : All Unmarked all) (known : All (Contains all) part) (cs : List Cause) (none : FindsOfNames d all [] cs) where
  some_of : (a : Demand) → Contains all a → have_none (unmarked (filter (has_same_name a) part)) ≡ false
  some_of a is =
      let p = λ (x : Demand). is_none x.marker in
      let q = has_same_name a in
      let part_sound = All-weaker (Contains all) IsSound (λ x at. All-contains IsSound all x sound at) part known in
      let whole_sound = All-filter p IsSound (filter q all) (All-filter q IsSound all sound) in
      false_by (have_none (unmarked (filter q part))) (λ empty.
      let gone = more_none (filter p (filter q part)) (filter p (filter q all)) (All-filter p IsSound (filter q part) (All-filter q IsSound part part_sound)) whole_sound (λ v. of_part (Allows v) p q all part known) empty in
      unmarked_found d a all is sound (λ v denoted k. none_allowed (filter p (filter q all)) whole_sound gone v denoted k) [] cs none)

  -- nothing is wrong with some of the lines, where nothing is wrong with all
  nothing_in_part : FindsOfNames d part [] []
  nothing_in_part =
      let nothing : (a : Demand) → Contains all a → of_name_of d part a [] [] = λ a is.
      nothing_of d (filter (has_same_name a) part) (All-filter (has_same_name a) Unmarked part (All-weaker (Contains all) Unmarked (λ x at. All-contains Unmarked all x bare at) part known)) (some_of a is) in
      nothing_each (of_name_of d part) (first_mentions has_same_name [] part)
      (mentions (λ a. of_name_of d part a [] []) has_same_name [] part (All-weaker (Contains all) (λ a. of_name_of d part a [] []) nothing part known))

-- ---- parts of a project

-- the requirements of a part are some of all
pub part_known : (together : Bool) (overridden : List (List ℕ)) (is es : List Inclusion) (part : Section) (xs : List StringReading) → All (Contains (all_demands xs)) (part_demands together overridden is es part xs)
part_known together overridden is es part xs =
    let all = all_demands xs in
    all_flat (Contains all) (demand_in_part together overridden (has_group is part) (has_extra es part) part) xs
    (All-weaker (λ x. All (Contains all) (demands_in x.meaning)) (λ x. All (Contains all) (demand_in_part together overridden (has_group is part) (has_extra es part) part x))
    (λ x k. of_part_so (Contains all) together overridden (has_group is part) (has_extra es part) part x k) xs
    (each_flat (Contains all) (λ (x : StringReading). demands_in x.meaning) xs (All-contains_itself all)))

-- nothing is found of any part, where nothing is found of all requirements, and none has a marker
pub nothing_in_parts : (together : Bool) (overridden : List (List ℕ)) (xs : List StringReading) → list_any is_marked (all_demands xs) ≡ false → All IsSound (all_demands xs) → (cs : List Cause) → FindsOfNames (project_domain xs) (all_demands xs) [] cs → FindsOfParts together overridden xs [] []
nothing_in_parts together overridden xs bare sound cs none =
    let all = all_demands xs in
    let is = inclusions (sections xs) in
    let es = extra_inclusions (sections xs) in (
      [],
      nothing_each (FindsOfPart together overridden xs) (parts xs)
          (everywhere (λ part. FindsOfPart together overridden xs part [] [])
          (λ part. nothing_in_part (project_domain xs) all (part_demands together overridden is es part xs) sound (all_unmarked all bare) (part_known together overridden is es part xs) cs none) (parts xs)),
      refl,
    )

-- where nothing was added, nothing is found of all requirements
pub nothing_of_all : (xs : List StringReading) (d : Domain) (lines : List Demand) (old new : List FindingValue) (before after : List Cause) → d ≡ project_domain xs → lines ≡ all_demands xs → old ≡ [] → new ≡ []
    → AddsFound (FindsOfNames d lines) old new before after → (cs : List Cause) × FindsOfNames (project_domain xs) (all_demands xs) [] cs
nothing_of_all xs d lines old new before after same are none nil adds =
    let (cs, finds) = found_nothing (FindsOfNames d lines) old new before after none nil adds in
    (cs, subst (λ b. FindsOfNames b (all_demands xs) [] cs) same (subst (λ l. FindsOfNames d l [] cs) are finds))

-- the lists of all strings are sound
pub sound_all : (xs : List StringReading) → All IsSoundString xs → All IsSound (all_demands xs)
sound_all xs k = all_flat IsSound (λ (x : StringReading). demands_in x.meaning) xs k

-- ---- findings, each once

pub parts_found : (together : Bool) (overridden : List (List ℕ)) (xs : List StringReading) (pairs once : List FindingValue) (before after : List Cause) → map finding_of once ≡ with_new same_finding [] (map finding_of pairs) → AddsFound (FindsOfEach (FindsOfPart together overridden xs) (parts xs)) [] pairs before after
    → AddsFound (FindsOfParts together overridden xs) [] once before after
parts_found together overridden xs pairs once before after is (fs, cs, finds, adds, also) = (with_new same_finding [] fs, cs, (fs, finds, refl), is ∙ ap (with_new same_finding []) adds, also)
