-- Each finding of a report of documents is right, as are requirements of a project that have no version in common; documents that were read have
-- lists that strings can give; and requirements that count always.
use Rattle.std.proofs.Common.{Bool, List, None, Option, ap, true, ℕ, ◌∙◌, ◌≡◌, refl, subst, sym, [], ◌∷◌, false, if◌then◌else◌, not, ◌++◌, ◌+◌, map, Some, bytes_eq, codes, inl, inr, is_none, length, take}
use Rattle.std.proofs.lemmas.Bool.{true≢false}
use Rattle.std.proofs.lemmas.List.{append-nil, append_assoc}
use Rattle.std.proofs.lemmas.List.Elements.{All-cons, All-nil, All-contains_itself, All-head, All-weaker, All-filter, All-tail, All-append, All-map}
use Rattle.std.proofs.lemmas.Slice.Eq.{bytes_eq-Decides}
use Rattle.std.specs.List.{Contains, All, filter, flat_map, AllZip, list_any, find, zip}
use Rattle.std.specs.Str.{IsUtf8}
use Rattle.pep440_pick.specs.Names.{normal, same_name}
use Rattle.pep440_pick.specs.RequirementGrammar.{DerivesRequirement, Needed}
use Rattle.pep440_ranges.specs.RangeSegments.{contains}
use Rattle.pep440_rs.specs.Bounds.{Segments}
use Rattle.pep440_rs.specs.Lists.ListGrammar.{DerivesList}
use Rattle.pep440_rs.specs.Specifiers.{Spec}
use Rattle.pep440_version.specs.ErrorTexts.{rejection_text}
use Rattle.pep440_version.specs.Key.{record_cmp}
use Rattle.toml.specs.Data.{Members}
use Rattle.toml.specs.Parse.{parse_document}
use Rattle.pyver_documents.proofs.LockedPackages.{IsLackHere, IsOutsideHere, excluded_right, found_so, none_named, partly_right}
use Rattle.pyver_documents.proofs.Once.{asks_by, AsksFor, of_section, differing_right}
use Rattle.pyver_documents.proofs.Walks.{all_flat, zip_each, pairs_each}
use Rattle.pyver_documents.specs.Comparing.{is_locked, lack_without_marker, project_asks, unmet_extra, unmet_extras, Excuse, absent, beside_all, compared, compared_demand, differing, documents_report, excluded, excluded_in, missing, first_difference, found_beside, found_in_pair, has_name, invalid_package, invalid_string, is_beside, is_excused, is_in_one, is_installer, is_needed, is_overridden, is_plain_for_uv, in_one_folder, lacking, leaves_out, own_report, partly_locked, python_difference, python_finding, python_minors, replaced_names, stale_beside, stale_in_pair, taken_packages, unlocked, unmet, unmet_demand, with_own_reports, FindsOfReading}
use Rattle.pyver_documents.specs.DocumentKinds.{locked}
use Rattle.pyver_documents.specs.DocumentLaws.{line_in_part, IsRightPart, extras_of, part_lines, IsRequired, needed_by, AlwaysAsks, AreTogether, HasLock, HasPackage, HasProject, IsDocumentFinding, IsReadable, IsReadableAs, DocumentFindingsHold}
use Rattle.pyver_documents.specs.Meanings.{Groups, IsSectionMeaning, left_out_if_none, IsSoundString, IsStringReading, StringReading, string_line, extra_inclusions, groups, inclusions, ExtraReading, IsExtraReading, AreLockedPythons, Document, DocumentReading, IsBroken, IsBrokenReading, IsDocumentReading, IsFileReading, IsLock, IsLockedReading, IsProject, IsRequirementReading, IsVersionReading, LockedReading, fault_meaning, file_meaning, is_of_version, package_line, reference_marker, requirement_line, position_line, last_bytes, IsSoundDocument}
use Rattle.pyver_documents.specs.Together.{demand_in_part, holds_in, is_replaced, has_extra, has_group, part_demands, sections, same_finding, with_new, FindsOfPart, FindsOfParts, parts, project_domain, project_python}
use Rattle.pyver_documents.specs.declared.document_kind.DocumentKind.{DocumentKind}
use Rattle.pyver_documents.specs.declared.document_kind.DocumentKind.TheVariants.{Lock, Project}
use Rattle.pyver_findings.proofs.Holding.{IsAsked, derived_sound, found_each, names_right}
use Rattle.pyver_findings.specs.Demands.{line_demand, Demand, IsSound}
use Rattle.pyver_findings.specs.FileLines.{FileLine, File, Finding, NoRequirement}
use Rattle.pyver_findings.specs.FindingLaws.{HasMarker, IsRightConflict}
use Rattle.pyver_findings.specs.LineMeanings.{Asks, IsPartsMeaning, IsPlain, LineMeaning, AsksNothing, IsNone, LeftOut}
use Rattle.pyver_findings.specs.MarkedConflicts.{FindsOfEach}
use Rattle.pyver_findings.specs.NamedFiles.{folder}
use Rattle.pyver_findings.specs.Reports.{demands_in, Report, empty_report, invalid_in, joined_report}
use Rattle.pyver_locks.specs.KnownEnvironments.{python_record}
use Rattle.pyver_locks.specs.LockContents.{LockedExtra, LockContents, LockFault, LockParts, LockedFile, LockedPackage, LockedRequirement}
use Rattle.pyver_locks.specs.declared.lock_kind.LockKind.{LockKind}
use Rattle.pyver_projects.specs.ProjectStrings.{Build, Constraint, Dependencies, Entry, Extra, Group, Include, Invalid, OwnExtras, Python, Section, Unread, Version, ProjectString, Inclusion, includes}
use Rattle.pyver_projects.specs.ProjectTables.{has_group_tool, overridden_names, sources, project_names}
use Rattle.pyver_requirements.specs.LineParts.{line_parts}
use Rattle.pyver_requirements.specs.declared.cause.Cause.{Cause}

module _ (line : FileLine) (n : Needed) (plain : IsPlain (line_parts line.text).requirement) (d : DerivesRequirement (line_parts line.text).requirement n) (m : Option (List ℕ)) (has : HasMarker (line_parts line.text) m) (url : (line_parts line.text).url ≡ None) where
  of_its_requirement : (x : LineMeaning) → IsPartsMeaning line (line_parts line.text) x → x ≡ Asks (line_demand line m n)
  of_its_requirement x is = asks_by line n plain d url m x has is

  -- a requirement without a URL asks for it
  pub asks_so : (all : Groups) (text : List ℕ) (near : Bool) (section : Section) (x : LineMeaning) → is_locked near section ≡ true → IsSectionMeaning all section line text x → x ≡ Asks (line_demand line m n)
  asks_so all text near Dependencies x counts is = of_its_requirement x is
  asks_so all text near (Extra name) x counts is = of_its_requirement x is
  asks_so all text near (Group name) x counts is = of_its_requirement x is
  asks_so all text near (Include group included) x counts is = cc counts
  asks_so all text near (Invalid table reason) x counts is = cc counts
  asks_so all text near Constraint x counts is = of_its_requirement x is
  asks_so all text near (OwnExtras asker extras) x counts is = cc counts
  asks_so all text near (Entry table name) x counts (y, is, e) = e ∙ ap left_out_if_none (of_its_requirement y is)
  asks_so all text near (Unread c) x counts is = cc counts
  asks_so all text near Build x counts is = cc counts
  asks_so all text near Python x counts is = cc counts
  asks_so all text near Version x counts is = cc counts

-- ---- requirements that hold together

-- what a string asks for, its line asks for
asked_in_line : (read : List FileLine) (line : FileLine) (a : Demand) → Contains read line → AsksFor line (line_parts line.text) a → IsAsked line_parts read a
asked_in_line read line a known k = subst (λ (b : Demand). IsAsked line_parts read b) (sym k.is) (known, (k.needed, k.derives, refl, refl, refl), k.has)

asked_of : (all : Groups) (read : List FileLine) (line : FileLine) (text : List ℕ) (section : Section) (m : LineMeaning) → Contains read line → IsSectionMeaning all section line text m → All (IsAsked line_parts read) (demands_in m)
asked_of all read line text section (Asks a) known is = All-cons (IsAsked line_parts read) a [] (asked_in_line read line a known (of_section all line text a section is)) (All-nil (IsAsked line_parts read))
asked_of all read line text section (IsNone f) known is = All-nil (IsAsked line_parts read)
asked_of all read line text section (LeftOut c) known is = All-nil (IsAsked line_parts read)
asked_of all read line text section AsksNothing known is = All-nil (IsAsked line_parts read)

-- the lists of a string are sound
pub sound_string : (all : Groups) (file : File) (s : ProjectString) (x : StringReading) → IsStringReading all file s x → IsSoundString x
sound_string all file s x (same, is, python) =
    let line = string_line file s in
    All-weaker (IsAsked line_parts (line ∷ [])) IsSound (λ a asks. derived_sound line_parts a asks.1) (demands_in x.meaning)
    (asked_of all (line ∷ []) line s.text s.section x.meaning (All-head (Contains (line ∷ [])) line [] (All-contains_itself (line ∷ []))) is)

-- what holds of requirements holds of those of them that count
kept_by : (P : Demand → Type 0) (b : Bool) (p : Demand → Bool) (lines : List Demand) → All P (if b then lines else []) → All P (if b then filter p lines else [])
kept_by P true p lines k = All-filter p P lines k
kept_by P false p lines k = All-nil P

some_by : (P : Demand → Type 0) (b : Bool) (lines : List Demand) → All P lines → All P (if b then lines else [])
some_by P true lines k = k
some_by P false lines k = All-nil P

-- and of those of a string that hold in a part
pub of_part_so : (P : Demand → Type 0) (together : Bool) (overridden : List (List ℕ)) (in_groups in_extras : List ℕ → Bool) (part : Section) (x : StringReading) → All P (demands_in x.meaning) → All P (demand_in_part together overridden in_groups in_extras part x)
of_part_so P together overridden in_groups in_extras part x k =
    kept_by P (holds_in together in_groups in_extras part x.section) (λ (a : Demand). not (is_replaced overridden x.section a.name)) (demands_in x.meaning) (some_by P (holds_in together in_groups in_extras part x.section) (demands_in x.meaning) k)

-- the lists of a part are sound
pub sound_part : (together : Bool) (overridden : List (List ℕ)) (is es : List Inclusion) (part : Section) (xs : List StringReading) → All IsSoundString xs → All IsSound (part_demands together overridden is es part xs)
sound_part together overridden is es part xs k =
    all_flat IsSound (demand_in_part together overridden (has_group is part) (has_extra es part) part) xs
    (All-weaker IsSoundString (λ x. All IsSound (demand_in_part together overridden (has_group is part) (has_extra es part) part x)) (λ x sound. of_part_so IsSound together overridden (has_group is part) (has_extra es part) part x sound) xs k)

module _ {X : Type 0} (P : X → Type 0) where
  -- what holds of everything holds of all
  everywhere : ((x : X) → P x) → (xs : List X) → All P xs
  everywhere f [] = All-nil P
  everywhere f (x ∷ xs) = All-cons P x xs (f x) (everywhere f xs)

  left_all : (xs ys : List X) → All P (xs ++ ys) → All P xs
  left_all [] ys k = All-nil P
  left_all (x ∷ xs) ys k = All-cons P x xs (All-head P x (xs ++ ys) k) (left_all xs ys (All-tail P x (xs ++ ys) k))

  right_all : (xs ys : List X) → All P (xs ++ ys) → All P ys
  right_all [] ys k = k
  right_all (x ∷ xs) ys k = right_all xs ys (All-tail P x (xs ++ ys) k)

  -- what holds of all that is made of elements holds of what is made of each
  pub each_flat : {Y : Type 0} (f : Y → List X) (ys : List Y) → All P (flat_map f ys) → All (λ y. All P (f y)) ys
  each_flat f [] k = All-nil (λ y. All P (f y))
  each_flat f (y ∷ ys) k = All-cons (λ z. All P (f z)) y ys (left_all (f y) (flat_map f ys) k) (each_flat f ys (right_all (f y) (flat_map f ys) k))

  of_one : (b : Bool) (x : X) → b ≡ true → All P (if b then x ∷ [] else []) → P x
  of_one true x e k = All-head P x [] k
  of_one false x e k = absurd (true≢false (sym e))

-- sections stay as they are
pub sections_same : (all : Groups) (file : File) (ss : List ProjectString) (xs : List StringReading) → AllZip (IsStringReading all file) ss xs → sections xs ≡ map (λ (s : ProjectString). s.section) ss
sections_same all file [] [] h = refl
sections_same all file [] (x ∷ xs) h = absurd h
sections_same all file (s ∷ ss) [] h = absurd h
sections_same all file (s ∷ ss) (x ∷ xs) (r, h) = let rest = sections_same all file ss xs h in λ j. r.0 j ∷ rest j

-- ---- a part

module _ (all : Groups) (file : File) (together : Bool) (overridden : List (List ℕ)) (in_groups in_extras : List ℕ → Bool) (part : Section) (read : List FileLine) where
  -- the line of the string is known, if that holds in the part
  abbrev pub IsKnown : ProjectString → Type 0
  IsKnown s = All (Contains read) (line_in_part together in_groups in_extras part file s)

  of_part_string : (s : ProjectString) (x : StringReading) (b : Bool) → holds_in together in_groups in_extras part s.section ≡ b → IsKnown s → IsStringReading all file s x → All (IsAsked line_parts read) (if b then demands_in x.meaning else [])
  of_part_string s x true e known (same, is, python) = asked_of all read (string_line file s) s.text s.section x.meaning (of_one (Contains read) (holds_in together in_groups in_extras part s.section) (string_line file s) e known) is
  of_part_string s x false e known r = All-nil (IsAsked line_parts read)

  one_string : (s : ProjectString) (x : StringReading) → IsKnown s → IsStringReading all file s x → All (IsAsked line_parts read) (demand_in_part together overridden in_groups in_extras part x)
  one_string s x known r =
      kept_by (IsAsked line_parts read) (holds_in together in_groups in_extras part x.section) (λ (a : Demand). not (is_replaced overridden x.section a.name)) (demands_in x.meaning)
      (subst (λ (section : Section). All (IsAsked line_parts read) (if holds_in together in_groups in_extras part section then demands_in x.meaning else [])) (sym r.0)
      (of_part_string s x (holds_in together in_groups in_extras part s.section) refl known r))

  in_part : (ss : List ProjectString) (xs : List StringReading) → All IsKnown ss → AllZip (IsStringReading all file) ss xs → All (IsAsked line_parts read) (flat_map (demand_in_part together overridden in_groups in_extras part) xs)
  in_part ss xs known h = all_flat (IsAsked line_parts read) (demand_in_part together overridden in_groups in_extras part) xs (zip_each (IsStringReading all file) IsKnown (λ x. All (IsAsked line_parts read) (demand_in_part together overridden in_groups in_extras part x)) one_string ss xs known h)

module _ (P : Finding → Type 0) where
  by_new : (b : Bool) (found : List Finding) (f : Finding) → All P found → P f → All P (if b then found else found ++ f ∷ [])
  by_new true found f k right = k
  by_new false found f k right = All-append P found (f ∷ []) k (All-cons P f [] right (All-nil P))

  with_new_all : (found fs : List Finding) → All P found → All P fs → All P (with_new same_finding found fs)
  with_new_all found [] k each = k
  with_new_all found (f ∷ fs) k each =
      with_new_all (if list_any (same_finding f) found then found else found ++ f ∷ []) fs (by_new (list_any (same_finding f) found) found f k (All-head P f fs each)) (All-tail P f fs each)

-- what is found of requirements that hold together
module _ (P : Finding → Type 0) (file : File) (t : Members) (so : (part : Section) (f : Finding) → IsRightPart file t (part_lines file t part) f → P f) where
  part_holds : (xs : List StringReading) → AllZip (IsStringReading (groups t) file) (sources t) xs → (part : Section) (fs : List Finding) (cs : List Cause) → FindsOfPart (has_group_tool t) (overridden_names t) xs part fs cs → All P fs
  part_holds xs h part fs cs finds =
      let read = part_lines file t part in
      let known = each_flat (Contains read) (line_in_part (has_group_tool t) (has_group (groups t).inclusions part) (has_extra (extras_of t) part) part file) (sources t) (All-contains_itself read) in
      let asks = in_part (groups t) file (has_group_tool t) (overridden_names t) (has_group (groups t).inclusions part) (has_extra (extras_of t) part) part read (sources t) xs known h in
      let same : inclusions (sections xs) ≡ (groups t).inclusions = ap inclusions (sections_same (groups t) file (sources t) xs h) in
      let also : extra_inclusions (sections xs) ≡ extras_of t = ap extra_inclusions (sections_same (groups t) file (sources t) xs h) in
      let domain = project_domain xs in
      All-weaker (IsRightConflict line_parts domain read) P (λ f right. so part f (domain, (xs, h, refl), right)) fs
      (names_right line_parts read domain (part_demands (has_group_tool t) (overridden_names t) (inclusions (sections xs)) (extra_inclusions (sections xs)) part xs)
      (subst (λ (is : List Inclusion). All (IsAsked line_parts read) (part_demands (has_group_tool t) (overridden_names t) is (extra_inclusions (sections xs)) part xs)) (sym same)
      (subst (λ (es : List Inclusion). All (IsAsked line_parts read) (part_demands (has_group_tool t) (overridden_names t) (groups t).inclusions es part xs)) (sym also) asks)) fs cs finds)

  pub conflicts_hold : (xs : List StringReading) → AllZip (IsStringReading (groups t) file) (sources t) xs → (fs : List Finding) (cs : List Cause) → FindsOfParts (has_group_tool t) (overridden_names t) xs fs cs → All P fs
  conflicts_hold xs h fs cs (found, finds, is) =
      subst (All P) (sym is) (with_new_all P [] found (All-nil P) (found_each P (FindsOfPart (has_group_tool t) (overridden_names t) xs) (λ part gs ds one. part_holds xs h part gs ds one) (parts xs) found cs finds))

-- it holds of what is found of each element of a list
known_each : {X : Type 0} (Q : Finding → Type 0) (P : X → List Finding → List Cause → Type 0) (xs : List X) → All (λ x. (fs : List Finding) (cs : List Cause) → P x fs cs → All Q fs) xs → (fs : List Finding) (cs : List Cause) → FindsOfEach P xs fs cs → All Q fs
known_each Q P [] k fs cs (is, also) = subst (All Q) (sym is) (All-nil Q)
known_each Q P (x ∷ xs) k fs cs (f, g, c, d, here, later, is, also) =
    subst (All Q) (sym is)
    (All-append Q f g (All-head (λ y. (gs : List Finding) (ds : List Cause) → P y gs ds → All Q gs) x xs k f c here)
    (known_each Q P xs (All-tail (λ y. (gs : List Finding) (ds : List Cause) → P y gs ds → All Q gs) x xs k) g d later))

module _ (documents : List Document) where
  abbrev pub Right : Finding → Type 0
  Right f = IsDocumentFinding documents f

  -- ---- documents by themselves

  unread : (excused : List ℕ → Excuse) (d : Document) (x : DocumentReading) → Contains documents d → (IsReadable d → ⊥) → IsBrokenReading d.file x → All Right (own_report excused x).findings
  unread excused d x known none (position, reason, is) =
      let line = position_line d.file position in
      let column = last_bytes (take position d.file.text) in
      subst (λ (y : DocumentReading). All Right (own_report excused y).findings) (sym is)
      (All-cons Right (NoRequirement line reason column) [] (inr (inr (inl (record { document = d; line = line; reason = reason; column = column; has = known; none = none; place = refl; is = refl })))) (All-nil Right))

  of_string : (file : File) (t : Members) (s : ProjectString) (m : LineMeaning) → HasProject documents file t → Contains (sources t) s → IsSectionMeaning (groups t) s.section (string_line file s) s.text m → All Right (invalid_in m)
  of_string file t s (Asks a) has at is = All-nil Right
  of_string file t s (IsNone f) has at is = All-cons Right f [] (inl (record { file = file; string = s; table = t; has = has; within = at; is = is })) (All-nil Right)
  of_string file t s (LeftOut c) has at is = All-nil Right
  of_string file t s AsksNothing has at is = All-nil Right

  of_package : (file : File) (p : LockedPackage) (v : Option (List ℕ)) (y : LockedReading) → HasPackage documents file p → p.version ≡ v → IsVersionReading (package_line file.name p) p.name y.condition v y → All Right (invalid_package y)
  of_package file p None y has at is = subst (λ (z : LockedReading). All Right (invalid_package z)) (sym is) (All-nil Right)
  of_package file p (Some text) y has at (inl (r, d, is)) = subst (λ (z : LockedReading). All Right (invalid_package z)) (sym is) (All-nil Right)
  of_package file p (Some text) y has at (inr (f, r, is)) =
      subst (λ (z : LockedReading). All Right (invalid_package z)) (sym is)
      (All-cons Right (NoRequirement (package_line file.name p) (rejection_text f) (length p.name + 1)) [] (inr (inl (record { file = file; locked = p; text = text; reason = f; has = has; version = at; refuses = r; is = refl }))) (All-nil Right))

  unless_right : (b : Bool) (fs : List Finding) → All Right fs → All Right (if b then [] else fs)
  unless_right true fs k = All-nil Right
  unless_right false fs k = k

  when_right : (b : Bool) (fs : List Finding) → All Right fs → All Right (if b then fs else [])
  when_right true fs k = k
  when_right false fs k = All-nil Right

  absent_right : (lock : File) (kind : LockKind) (l : LockContents) → HasLock documents kind lock l → (q : LockedRequirement) → IsRequired documents kind lock l q → (ys : List LockedReading) → AllZip (IsLockedReading lock.name) l.packages ys
      → (n : Needed) (b : Bool) → n.name ≡ q.name → list_any (has_name (line_demand (requirement_line lock.name q) None n)) ys ≡ b
      → All Right (if b then [] else NoRequirement (requirement_line lock.name q) (codes "the lock has no package of this name") 0 ∷ [])
  absent_right lock kind l known q at ys h n true named e = All-nil Right
  absent_right lock kind l known q at ys h n false named e =
      let line = requirement_line lock.name q in
      All-cons Right (NoRequirement line (codes "the lock has no package of this name") 0) []
      (inr (inr (inr (inr (inr (inr (inr (inl (record {
        lock = lock;
        kind = kind;
        contents = l;
        requirement = q;
        known = known;
        within = at;
        none = subst (λ (name : List ℕ). All (λ (p : LockedPackage). same_name name p.name ≡ false) l.packages) named (none_named lock.name l.packages line n l.packages ys h e);
        is = refl;
      }))))))))) (All-nil Right)

  -- a file of a package
  of_file : (lock : File) (kind : LockKind) (l : LockContents) → HasLock documents kind lock l → (p : LockedFile) → Contains l.files p → (m : LineMeaning) → IsFileReading lock.name p m → All Right (invalid_in m)
  of_file lock kind l known p at m (inr (none, is)) = subst (λ (x : LineMeaning). All Right (invalid_in x)) (sym is) (All-nil Right)
  of_file lock kind l known p at m (inl (r, q, d, e, is)) = subst (λ (x : LineMeaning). All Right (invalid_in x)) (sym is) (by_order (is_of_version r q) refl)
    where
      by_order : (b : Bool) → is_of_version r q ≡ b → All Right (invalid_in (file_meaning lock.name p b))
      by_order true same = All-nil Right
      by_order false differ =
          All-cons Right _ [] (inr (inr (inr (inr (inr (inr (inr (inr (inl (record {
            lock = lock;
            kind = kind;
            contents = l;
            locked = p;
            known = known;
            within = at;
            version = r;
            other = q;
            derives = d;
            written = e;
            differ = differ;
            is = refl;
          })))))))))) (All-nil Right)

  -- a package beside others
  of_fault : (lock : File) (kind : LockKind) (l : LockContents) → HasLock documents kind lock l → (q : LockFault) → Contains l.faults q → All Right (invalid_in (fault_meaning lock.name q))
  of_fault lock kind l known q at =
      All-cons Right _ [] (inr (inr (inr (inr (inr (inr (inr (inr (inr (inl (record { lock = lock; kind = kind; contents = l; fault = q; known = known; within = at; is = refl }))))))))))) (All-nil Right)

  -- a requirement of a package that does not only refer to another one
  lack_right : (lock : File) (kind : LockKind) (l : LockContents) → HasLock documents kind lock l → (q : LockedRequirement) → IsRequired documents kind lock l q → (ys : List LockedReading) → AllZip (IsLockedReading lock.name) l.packages ys
      → (list : List Spec) → DerivesList q.list list → (b : Bool) → q.is_reference ≡ b
      → All Right (if is_none (reference_marker b) then partly_locked l.parts (requirement_line lock.name q) (taken_packages ys (line_demand (requirement_line lock.name q) None (needed_by q list))) else [])
  lack_right lock kind l known q at ys h list read true is = All-nil Right
  lack_right lock kind l known q at ys h list read false is =
      let n : Needed = needed_by q list in
      let line = requirement_line lock.name q in
      All-weaker (IsLackHere lock.name l.packages line n l.parts) Right
      (λ f lack. inr (inr (inr (inr (inr (inr (inr (inr (inr (inr (inr (inl (record {
        lock = lock;
        kind = kind;
        contents = l;
        requirement = q;
        list = list;
        known = known;
        within = at;
        read = read;
        always = is;
        lack = lack;
      })))))))))))))
      (partly_locked l.parts line (taken_packages ys (line_demand line None n))) (partly_right lock.name l.packages line n ys h l.parts)

  -- a requirement of a package
  of_requirement : (lock : File) (kind : LockKind) (l : LockContents) → HasLock documents kind lock l → (q : LockedRequirement) → IsRequired documents kind lock l q → (ys : List LockedReading) → AllZip (IsLockedReading lock.name) l.packages ys
      → (excused : List ℕ → Excuse) (m : LineMeaning) → IsRequirementReading lock.name q m → All Right (unmet excused l.parts ys m)
  of_requirement lock kind l known q at ys h excused m (inr (f, r, is)) = subst (λ (x : LineMeaning). All Right (unmet excused l.parts ys x)) (sym is) (All-nil Right)
  of_requirement lock kind l known q at ys h excused m (inl (list, read, is)) =
      let n : Needed = needed_by q list in
      let line = requirement_line lock.name q in
      let asked = line_demand line (reference_marker q.is_reference) n in
      subst (λ (x : LineMeaning). All Right (unmet excused l.parts ys x)) (sym is)
      (All-append Right (unmet_demand excused l.parts ys asked) []
      (unless_right (excused asked.name).overrides (lacking excused l.parts ys asked ++ excluded asked ys)
      (All-append Right (lacking excused l.parts ys asked) (excluded asked ys)
      (unless_right (excused asked.name).lacks (unlocked l.parts ys asked)
      (All-append Right (absent ys asked) (lack_without_marker l.parts asked (taken_packages ys asked))
      (absent_right lock kind l known q at ys h n (list_any (has_name asked) ys) refl refl) (lack_right lock kind l known q at ys h list read q.is_reference refl)))
      (All-weaker (IsOutsideHere lock.name l.packages line n) Right
      (λ f out. inr (inr (inr (inr (inr (inr (inl (record { lock = lock; kind = kind; contents = l; requirement = q; list = list; known = known; within = at; read = read; outside = out })))))))) (excluded asked ys)
      (excluded_right lock.name l.packages line n ys h)))) (All-nil Right))

  no_utf8 : (kind : DocumentKind) (file : File) → (IsUtf8 file.text → ⊥) → IsReadableAs kind file → ⊥
  no_utf8 Project file none (t, (text, e)) = none text
  no_utf8 (Lock kind) file none (l, (text, e)) = none text

  no_toml : (file : File) → parse_document file.text ≡ None → IsReadableAs Project file → ⊥
  no_toml file none (t, (text, e)) = let same : None ≡ Some t = sym none ∙ e in cc same

  no_contents : (kind : LockKind) (file : File) → locked kind file.text ≡ None → IsReadableAs (Lock kind) file → ⊥
  no_contents kind file none (l, (text, e)) = let same : None ≡ Some l = sym none ∙ e in cc same

  of_document : (excused : List ℕ → Excuse) (kind : DocumentKind) (file : File) (x : DocumentReading) → Contains documents (record { kind = kind; file = file }) → IsDocumentReading (record { kind = kind; file = file }) x
      → All Right (own_report excused x).findings
  of_document excused kind file x known (inl (none, (position, told))) = unread excused (record { kind = kind; file = file }) x known (no_utf8 kind file none) (position, _, told)
  of_document excused Project file x known (inr (text, inr (none, broken))) = unread excused (record { kind = Project; file = file }) x known (no_toml file none) broken
  of_document excused (Lock kind) file x known (inr (text, inr (none, broken))) = unread excused (record { kind = Lock kind; file = file }) x known (no_contents kind file none) broken
  of_document excused Project file x known (inr (text, inl (t, e, (xs, h, is)))) =
      subst (λ (y : DocumentReading). All Right (own_report excused y).findings) (sym is)
      (all_flat Right invalid_string xs
      (zip_each (IsStringReading (groups t) file) (Contains (sources t)) (λ z. All Right (invalid_string z)) (λ s z at r. of_string file t s z.meaning (known, (text, e)) at r.1) (sources t) xs (All-contains_itself (sources t)) h))
  of_document excused (Lock kind) file x known (inr (text, inl (l, e, (python, pythons, ys, ms, os, es, fs, g, h, optional, entered, k, is)))) =
      let faults = fs ++ map (fault_meaning file.name) l.faults in
      subst (λ (y : DocumentReading). All Right (own_report excused y).findings) (sym is)
      (All-append Right (flat_map invalid_package ys) (flat_map invalid_in faults ++ flat_map (unmet excused l.parts ys) ms)
      (all_flat Right invalid_package ys
      (zip_each (IsLockedReading file.name) (Contains l.packages) (λ z. All Right (invalid_package z)) (λ p z at r. of_package file p p.version z (kind, l, (known, (text, e)), at) refl r.1) l.packages ys (All-contains_itself l.packages) g))
      (All-append Right (flat_map invalid_in faults) (flat_map (unmet excused l.parts ys) ms)
      (all_flat Right invalid_in faults
      (All-append (λ m. All Right (invalid_in m)) fs (map (fault_meaning file.name) l.faults)
      (zip_each (IsFileReading file.name) (Contains l.files) (λ m. All Right (invalid_in m)) (λ p m at r. of_file file kind l (known, (text, e)) p at m r) l.files fs (All-contains_itself l.files) k)
      (All-map (λ m. All Right (invalid_in m)) (fault_meaning file.name) l.faults
      (All-weaker (Contains l.faults) (λ q. All Right (invalid_in (fault_meaning file.name q))) (λ q at. of_fault file kind l (known, (text, e)) q at) l.faults (All-contains_itself l.faults)))))
      (all_flat Right (unmet excused l.parts ys) ms
      (zip_each (IsRequirementReading file.name) (Contains l.requirements) (λ m. All Right (unmet excused l.parts ys m)) (λ q m at r. of_requirement file kind l (known, (text, e)) q (inl at) ys g excused m r) l.requirements ms (All-contains_itself l.requirements) h))))

  -- ---- a project beside a lock

  module _ (excused : List ℕ → Excuse) (near : Bool) (file lock : File) (kind : LockKind) (t : Members) (u : LockContents) (known : HasProject documents file t) (other : HasLock documents kind lock u) where
    module _ (s : ProjectString) (at : Contains (sources t) s) where
      module _ (n : Needed) (asks : AlwaysAsks s n) where
        -- what the requirement asks for
        abbrev pub asked : Demand
        asked = line_demand (string_line file s) None n

        excludes : leaves_out kind u.parts.names s.section ≡ false → (f : Finding) → IsOutsideHere lock.name u.packages (string_line file s) n f → Right f
        excludes within f out = inr (inr (inr (inr (inl (record { file = file; string = s; lock = lock; kind = kind; contents = u; needed = n; has = (t, known, at); counts = within; asks = asks; known = other; outside = out })))))

        module _ (ys : List LockedReading) (h : AllZip (IsLockedReading lock.name) u.packages ys) where
          partly_missing : is_needed kind u.parts.names s.section ≡ true → All Right (partly_locked u.parts (string_line file s) (taken_packages ys asked))
          partly_missing needs =
              All-weaker (IsLackHere lock.name u.packages (string_line file s) n u.parts) Right
              (λ f lack. inr (inr (inr (inr (inr (inr (inr (inr (inr (inr (inl (record {
                file = file;
                string = s;
                lock = lock;
                kind = kind;
                contents = u;
                needed = n;
                has = (t, known, at);
                counts = needs;
                asks = asks;
                known = other;
                lack = lack;
              }))))))))))))
              (partly_locked u.parts (string_line file s) (taken_packages ys asked)) (partly_right lock.name u.packages (string_line file s) n ys h u.parts)

          absent_here : (c : Bool) → is_needed kind u.parts.names s.section ≡ true → list_any (has_name asked) ys ≡ c
              → All Right (if c then [] else NoRequirement (string_line file s) (codes "the lock has no package of this name") 0 ∷ [])
          absent_here true needs e = All-nil Right
          absent_here false needs e =
              All-cons Right (NoRequirement (string_line file s) (codes "the lock has no package of this name") 0) []
              (inr (inr (inr (inl (record {
                file = file;
                string = s;
                lock = lock;
                kind = kind;
                contents = u;
                needed = n;
                has = (t, known, at);
                counts = needs;
                asks = asks;
                known = other;
                none = none_named lock.name u.packages (string_line file s) n u.packages ys h e;
                is = refl;
              }))))) (All-nil Right)

          missing_right : (b : Bool) → is_needed kind u.parts.names s.section ≡ b → All Right (if b then unlocked u.parts ys asked else [])
          missing_right false needs = All-nil Right
          missing_right true needs =
              All-append Right (absent ys asked) (lack_without_marker u.parts asked (taken_packages ys asked)) (absent_here (list_any (has_name asked) ys) needs refl) (partly_missing needs)

          excluded_here : (b : Bool) → leaves_out kind u.parts.names s.section ≡ b → All Right (if b then [] else excluded asked ys)
          excluded_here true within = All-nil Right
          excluded_here false within =
              All-weaker (IsOutsideHere lock.name u.packages (string_line file s) n) Right (excludes within) (excluded asked ys) (excluded_right lock.name u.packages (string_line file s) n ys h)

          unless : (b : Bool) (fs : List Finding) → All Right fs → All Right (if b then [] else fs)
          unless true fs right = All-nil Right
          unless false fs right = right

          everywhere_right : All Right (if is_overridden excused s.section asked.name then [] else missing kind u.parts (project_names t) ys s.section asked ++ excluded_in kind u.parts (project_names t) ys s.section asked)
          everywhere_right =
              unless (is_overridden excused s.section asked.name) _
              (All-append Right _ (excluded_in kind u.parts (project_names t) ys s.section asked) (unless (is_installer asked.name) _ (unless (list_any (bytes_eq asked.name) (project_names t)) _ (missing_right (is_needed kind u.parts.names s.section) refl)))
              (excluded_here (leaves_out kind u.parts.names s.section) refl))

      module _ (ys : List LockedReading) (h : AllZip (IsLockedReading lock.name) u.packages ys) where
        by_marker : (a : Demand) (k : AsksFor (string_line file s) (line_parts s.text) a) (m : Option (List ℕ)) → k.marker ≡ m
            → All Right (if is_none m then (if is_overridden excused s.section (normal k.needed.name) then [] else missing kind u.parts (project_names t) ys s.section (line_demand (string_line file s) m k.needed) ++ excluded_in kind u.parts (project_names t) ys s.section (line_demand (string_line file s) m k.needed)) else [])
        by_marker a k None is = everywhere_right k.needed (k.text, k.derives, k.always is, k.url) ys h
        by_marker a k (Some m) is = All-nil Right

        of_asked : (a : Demand) → AsksFor (string_line file s) (line_parts s.text) a → All Right (compared_demand kind u.parts (project_names t) excused near ys s.section a)
        of_asked a k = subst (λ (b : Demand). All Right (compared_demand kind u.parts (project_names t) excused near ys s.section b)) (sym k.is) (by_marker a k k.marker refl)

        of_meaning : (m : LineMeaning) → IsSectionMeaning (groups t) s.section (string_line file s) s.text m → All Right (flat_map (compared_demand kind u.parts (project_names t) excused near ys s.section) (demands_in m))
        of_meaning (Asks a) is = All-append Right (compared_demand kind u.parts (project_names t) excused near ys s.section a) [] (of_asked a (of_section (groups t) (string_line file s) s.text a s.section is)) (All-nil Right)
        of_meaning (IsNone f) is = All-nil Right
        of_meaning (LeftOut c) is = All-nil Right
        of_meaning AsksNothing is = All-nil Right

        by_section : (b : Bool) (m : LineMeaning) → IsSectionMeaning (groups t) s.section (string_line file s) s.text m → All Right (if b then flat_map (compared_demand kind u.parts (project_names t) excused near ys s.section) (demands_in m) else [])
        by_section true m is = of_meaning m is
        by_section false m is = All-nil Right

        compared_right : (x : StringReading) → IsStringReading (groups t) file s x → All Right (compared kind u.parts (project_names t) excused near ys x)
        compared_right x (same, is, python) =
            subst (λ section. All Right (if is_locked near section then flat_map (compared_demand kind u.parts (project_names t) excused near ys section) (demands_in x.meaning) else [])) (sym same) (by_section (is_locked near s.section) x.meaning is)

    -- what is required for an extra that the project asks for
    module _ (xs : List StringReading) (ys : List LockedReading) (os : List ExtraReading) (g : AllZip (IsStringReading (groups t) file) (sources t) xs) (h : AllZip (IsLockedReading lock.name) u.packages ys) (k : AllZip (IsExtraReading lock.name) u.optional os) where
      abbrev asks : List Inclusion
      asks = project_asks kind u.parts excused near xs os

      when_asked : (o : LockedExtra) (x : ExtraReading) → Contains u.optional o → IsExtraReading lock.name o x → (b : Bool) → includes asks [] x.key ≡ b → All Right (if b then unmet excused u.parts ys x.meaning else [])
      when_asked o x at (key, is) false e = All-nil Right
      when_asked o x at (key, is) true e =
          of_requirement lock kind u other o.requirement
          (inr (o, at, refl, record { file = file; table = t; near = near; excused = excused; strings = xs; extras = os; has = known; read = g; required = k; asks = ap (includes asks []) (sym key) ∙ e })) ys h excused x.meaning is

      pub extras_right : All Right (unmet_extras kind u.parts excused near ys os xs)
      extras_right =
          all_flat Right (unmet_extra kind u.parts excused near (includes asks []) ys) os
          (zip_each (IsExtraReading lock.name) (Contains u.optional) (λ x. All Right (unmet_extra kind u.parts excused near (includes asks []) ys x)) (λ o x at r. when_asked o x at r (includes asks [] x.key) refl) u.optional os (All-contains_itself u.optional) k)

    pub strings_right : (xs : List StringReading) (ys : List LockedReading) → AllZip (IsStringReading (groups t) file) (sources t) xs → AllZip (IsLockedReading lock.name) u.packages ys → All Right (flat_map (compared kind u.parts (project_names t) excused near ys) xs)
    strings_right xs ys g h =
        all_flat Right (compared kind u.parts (project_names t) excused near ys) xs (zip_each (IsStringReading (groups t) file) (Contains (sources t)) (λ x. All Right (compared kind u.parts (project_names t) excused near ys x)) (λ s x at r. compared_right s at ys h x r) (sources t) xs (All-contains_itself (sources t)) g)

    pub pair_right : (xs : List StringReading) (ys : List LockedReading) (os : List ExtraReading) → AllZip (IsStringReading (groups t) file) (sources t) xs → AllZip (IsLockedReading lock.name) u.packages ys → AllZip (IsExtraReading lock.name) u.optional os
        → All Right (flat_map (compared kind u.parts (project_names t) excused near ys) xs ++ unmet_extras kind u.parts excused near ys os xs)
    pair_right xs ys os g h k =
        All-append Right (flat_map (compared kind u.parts (project_names t) excused near ys) xs) (unmet_extras kind u.parts excused near ys os xs) (strings_right xs ys g h) (extras_right xs ys os g h k)

  -- ---- a document beside another

  module _ (excused : List ℕ → Excuse) (near : Bool) where
    nothing_broken : (kind : DocumentKind) (f : Finding) (y : DocumentReading) → All Right (found_beside excused near kind (IsBroken f) y)
    nothing_broken Project f y = All-nil Right
    nothing_broken (Lock kind) f y = All-nil Right

    nothing_beside : (kind : DocumentKind) (t : Members) (together : Bool) (names overridden : List (List ℕ)) (xs : List StringReading) (f : Finding) → All Right (found_beside excused near kind (IsProject t together names overridden xs) (IsBroken f))
    nothing_beside Project t together names overridden xs f = All-nil Right
    nothing_beside (Lock kind) t together names overridden xs f = All-nil Right

    nothing_of_lock : (kind : DocumentKind) (parts : LockParts) (python : Option Segments) (ys : List LockedReading) (ms : List LineMeaning) (os : List ExtraReading) (es fs : List LineMeaning) (y : DocumentReading) → All Right (found_beside excused near kind (IsLock parts python ys ms os es fs) y)
    nothing_of_lock Project parts python ys ms os es fs y = All-nil Right
    nothing_of_lock (Lock kind) parts python ys ms os es fs y = All-nil Right

    broken_right : (kind : DocumentKind) (file : File) (x y : DocumentReading) → IsBrokenReading file x → All Right (found_beside excused near kind x y)
    broken_right kind file x y (position, reason, is) = subst (λ (z : DocumentReading). All Right (found_beside excused near kind z y)) (sym is) (nothing_broken kind (NoRequirement (position_line file position) reason (last_bytes (take position file.text))) y)

    module _ (file : File) (t : Members) (known : HasProject documents file t) (xs : List StringReading) (g : AllZip (IsStringReading (groups t) file) (sources t) xs) where
      beside_broken : (kind : DocumentKind) (other : File) (y : DocumentReading) → IsBrokenReading other y → All Right (found_beside excused near kind (IsProject t (has_group_tool t) (project_names t) (overridden_names t) xs) y)
      beside_broken kind other y (position, reason, is) =
          subst (λ (z : DocumentReading). All Right (found_beside excused near kind (IsProject t (has_group_tool t) (project_names t) (overridden_names t) xs) z)) (sym is) (nothing_beside kind t (has_group_tool t) (project_names t) (overridden_names t) xs (NoRequirement (position_line other position) reason (last_bytes (take position other.text))))

      beside_project : (kind : DocumentKind) (other : File) (y : DocumentReading) → Contains documents (record { kind = kind; file = other }) → IsDocumentReading (record { kind = kind; file = other }) y
          → All Right (found_beside excused near kind (IsProject t (has_group_tool t) (project_names t) (overridden_names t) xs) y)
      beside_project kind other y at (inl (none, (position, told))) = beside_broken kind other y (position, _, told)
      beside_project Project other y at (inr (text, inr (none, broken))) = beside_broken Project other y broken
      beside_project (Lock kind) other y at (inr (text, inr (none, broken))) = beside_broken (Lock kind) other y broken
      beside_project Project other y at (inr (text, inl (u, e, (zs, h, is)))) = subst (λ (z : DocumentReading). All Right (found_beside excused near Project (IsProject t (has_group_tool t) (project_names t) (overridden_names t) xs) z)) (sym is) (All-nil Right)
      beside_project (Lock kind) other y at (inr (text, inl (u, e, (python, pythons, ys, ms, os, es, fs, h, required, optional, entered, files, is)))) =
          subst (λ (z : DocumentReading). All Right (found_beside excused near (Lock kind) (IsProject t (has_group_tool t) (project_names t) (overridden_names t) xs) z)) (sym is) (pair_right excused near file other kind t u known (at, (text, e)) xs ys os g h optional)

    beside_right : (kind : DocumentKind) (file : File) (other : Document) (x y : DocumentReading) → Contains documents (record { kind = kind; file = file }) → Contains documents other → IsDocumentReading (record { kind = kind; file = file }) x
        → IsDocumentReading other y → All Right (found_beside excused near other.kind x y)
    beside_right kind file other x y known at (inl (none, (position, told))) r = broken_right other.kind file x y (position, _, told)
    beside_right Project file other x y known at (inr (text, inr (none, broken))) r = broken_right other.kind file x y broken
    beside_right (Lock kind) file other x y known at (inr (text, inr (none, broken))) r = broken_right other.kind file x y broken
    beside_right (Lock kind) file other x y known at (inr (text, inl (t, e, (python, pythons, ys, ms, os, es, fs, g, h, optional, entered, k, is)))) r = subst (λ (z : DocumentReading). All Right (found_beside excused near other.kind z y)) (sym is) (nothing_of_lock other.kind t.parts python ys ms os es (fs ++ map (fault_meaning file.name) t.faults) y)
    beside_right Project file other x y known at (inr (text, inl (t, e, (xs, h, is)))) r =
        subst (λ (z : DocumentReading). All Right (found_beside excused near other.kind z y)) (sym is) (beside_project file t (known, (text, e)) xs h other.kind other.file y at r)

  -- ---- a lock beside the project in its folder

  one_differs : (a b : Bool) → (if a then not b else b) ≡ true → a ≡ b → ⊥
  one_differs true true e same = true≢false (sym e)
  one_differs true false e same = true≢false same
  one_differs false true e same = true≢false (sym same)
  one_differs false false e same = true≢false (sym e)

  -- the versions of Python of a project beside those of its lock
  module _ (file lock : File) (kind : LockKind) (t : Members) (l : LockContents) (known : HasProject documents file t) (has : HasLock documents kind lock l) (near : folder file.name ≡ folder lock.name) (xs : List StringReading) (g : AllZip (IsStringReading (groups t) file) (sources t) xs) (python : Option Segments) (pythons : AreLockedPythons l.parts.python python) where
    first_right : (own locked : Segments) → project_python xs ≡ Some own → python ≡ Some locked → (found : Option ℕ) → find (is_in_one own locked) python_minors ≡ found → All Right (first_difference lock found)
    first_right own locked of_project of_lock None found = All-nil Right
    first_right own locked of_project of_lock (Some k) found = All-cons Right (python_finding lock k) [] (inr (inr (inr (inr (inr (inr (inr (inr (inr (inr (inr (inr (inr (inr (record {
      file = file;
      table = t;
      lock = lock;
      kind = kind;
      contents = l;
      minor = k;
      own = own;
      locked = locked;
      has = known;
      known = has;
      beside = near;
      have = record { readings = xs; read = g; project = of_project; lock = subst (AreLockedPythons l.parts.python) of_lock pythons };
      differ = one_differs (contains record_cmp own (python_record k)) (contains record_cmp locked (python_record k)) (found_so (is_in_one own locked) python_minors k found);
      is = refl;
    }))))))))))))))) (All-nil Right)

    difference_right : (own locked : Option Segments) → project_python xs ≡ own → python ≡ locked → All Right (python_difference lock own locked)
    difference_right (Some own) (Some locked) of_project of_lock = first_right own locked of_project of_lock (find (is_in_one own locked) python_minors) refl
    difference_right (Some own) None of_project of_lock = All-nil Right
    difference_right None locked of_project of_lock = All-nil Right

  module _ (file lock : File) (kind : LockKind) (t : Members) (l : LockContents) (known : HasProject documents file t) (has : HasLock documents kind lock l) (near : folder file.name ≡ folder lock.name) (xs : List StringReading) (g : AllZip (IsStringReading (groups t) file) (sources t) xs) (es : List LineMeaning) (h : AllZip (IsRequirementReading lock.name) l.entries es) where
    differences : (b : Bool) → is_plain_for_uv t ≡ b → All Right (if b then differing (replaced_names t (project_names t)) xs es else [])
    differences true plain =
        let are : AreTogether documents file t lock kind l = record { has = known; known = has; beside = near; plain = plain } in
        differing_right Right (groups t) file lock (replaced_names t (project_names t)) (sources t) l.entries
        (λ s n within counts requires none. inr (inr (inr (inr (inr (inr (inr (inr (inr (inr (inr (inr (inl (record { file = file; table = t; string = s; needed = n; lock = lock; kind = kind; contents = l; are = are; within = within; counts = counts; requires = requires; none = none; is = refl }))))))))))))))
        (λ q within none. inr (inr (inr (inr (inr (inr (inr (inr (inr (inr (inr (inr (inr (inl (record { file = file; table = t; lock = lock; kind = kind; contents = l; requirement = q; are = are; within = within; none = none; is = refl })))))))))))))))
        xs es g h
    differences false plain = All-nil Right

  module _ (file : File) (t : Members) (known : HasProject documents file t) (xs : List StringReading) (g : AllZip (IsStringReading (groups t) file) (sources t) xs) where
    abbrev IsRightBeside : File → DocumentReading → Type 0
    IsRightBeside lock y = All Right (stale_beside lock (IsProject t (has_group_tool t) (project_names t) (overridden_names t) xs) y)

    fresh_broken : (lock : File) (y : DocumentReading) → IsBrokenReading lock y → IsRightBeside lock y
    fresh_broken lock y (position, reason, is) = subst (IsRightBeside lock) (sym is) (All-nil Right)

    project_fresh : (kind : DocumentKind) (lock : File) (y : DocumentReading) → folder file.name ≡ folder lock.name → Contains documents (record { kind = kind; file = lock }) → IsDocumentReading (record { kind = kind; file = lock }) y → IsRightBeside lock y
    project_fresh kind lock y near at (inl (none, (position, told))) = fresh_broken lock y (position, _, told)
    project_fresh Project lock y near at (inr (text, inr (none, broken))) = fresh_broken lock y broken
    project_fresh (Lock kind) lock y near at (inr (text, inr (none, broken))) = fresh_broken lock y broken
    project_fresh Project lock y near at (inr (text, inl (u, e, (zs, h, is)))) = subst (IsRightBeside lock) (sym is) (All-nil Right)
    project_fresh (Lock kind) lock y near at (inr (text, inl (u, e, (python, pythons, ys, ms, os, es, fs, h, required, optional, entered, files, is)))) =
        subst (IsRightBeside lock) (sym is)
        (All-append Right (python_difference lock (project_python xs) python) (if is_plain_for_uv t then differing (replaced_names t (project_names t)) xs es else [])
        (difference_right file lock kind t u known (at, (text, e)) near xs g python pythons (project_python xs) python refl refl)
        (differences file lock kind t u known (at, (text, e)) near xs g es entered (is_plain_for_uv t) refl))

  broken_fresh : (lock file : File) (x y : DocumentReading) → IsBrokenReading file x → All Right (stale_beside lock x y)
  broken_fresh lock file x y (position, reason, is) = subst (λ (z : DocumentReading). All Right (stale_beside lock z y)) (sym is) (All-nil Right)

  fresh_right : (kind : DocumentKind) (file : File) (other : Document) (x y : DocumentReading) → folder file.name ≡ folder other.file.name → Contains documents (record { kind = kind; file = file }) → Contains documents other
      → IsDocumentReading (record { kind = kind; file = file }) x → IsDocumentReading other y → All Right (stale_beside other.file x y)
  fresh_right kind file other x y near known at (inl (none, (position, told))) r = broken_fresh other.file file x y (position, _, told)
  fresh_right Project file other x y near known at (inr (text, inr (none, broken))) r = broken_fresh other.file file x y broken
  fresh_right (Lock kind) file other x y near known at (inr (text, inr (none, broken))) r = broken_fresh other.file file x y broken
  fresh_right (Lock kind) file other x y near known at (inr (text, inl (t, e, (python, pythons, ys, ms, os, es, fs, g, h, optional, entered, k, is)))) r = subst (λ (z : DocumentReading). All Right (stale_beside other.file z y)) (sym is) (All-nil Right)
  fresh_right Project file other x y near known at (inr (text, inl (t, e, (xs, h, is)))) r =
      subst (λ (z : DocumentReading). All Right (stale_beside other.file z y)) (sym is) (project_fresh file t (known, (text, e)) xs h other.kind other.file y near at r)

  near_right : (d e : Document) (x y : DocumentReading) → Contains documents d → Contains documents e → IsDocumentReading d x → IsDocumentReading e y → (b : Bool) → in_one_folder d e ≡ b → All Right (if b then stale_beside e.file x y else [])
  near_right d e x y known at r s true near = fresh_right d.kind d.file e x y ((bytes_eq-Decides (folder d.file.name) (folder e.file.name)).0 near) known at r s
  near_right d e x y known at r s false near = All-nil Right

  -- ---- all documents

  pub findings_of : (excused : List ℕ → Excuse) (a : Report) (xs : List DocumentReading) → (with_own_reports excused a xs).findings ≡ a.findings ++ flat_map (λ x. (own_report excused x).findings) xs
  findings_of excused a [] = sym (append-nil a.findings)
  findings_of excused a (x ∷ xs) =
      findings_of excused (joined_report a (own_report excused x)) xs ∙ append_assoc a.findings (own_report excused x).findings (flat_map (λ y. (own_report excused y).findings) xs)

  counted_right : (b : Bool) (fs : List Finding) → All Right fs → All Right (if b then fs else [])
  counted_right true fs k = k
  counted_right false fs k = All-nil Right

  pub all_right : (xs : List DocumentReading) → AllZip IsDocumentReading documents xs → All Right (documents_report documents xs).findings
  all_right xs h =
      let pairs = zip documents xs in
      All-append Right (with_own_reports (is_excused xs) empty_report xs).findings (flat_map (beside_all (is_excused xs) pairs) pairs)
      (subst (λ fs. All Right fs) (sym (findings_of (is_excused xs) empty_report xs))
      (all_flat Right (λ x. (own_report (is_excused xs) x).findings) xs
      (zip_each IsDocumentReading (Contains documents) (λ x. All Right (own_report (is_excused xs) x).findings) (λ d x known r. of_document (is_excused xs) d.kind d.file x known r) documents xs (All-contains_itself documents) h)))
      (all_flat Right (beside_all (is_excused xs) pairs) pairs
      (pairs_each IsDocumentReading (Contains documents) (λ a. All Right (beside_all (is_excused xs) pairs a))
      (λ d x known r. all_flat Right (found_in_pair (is_excused xs) (d, x)) pairs
      (pairs_each IsDocumentReading (Contains documents) (λ b. All Right (found_in_pair (is_excused xs) (d, x) b))
      (λ e y at s. counted_right (is_beside d.file.name e.file.name y) (stale_in_pair (d, x) (e, y) ++ found_beside (is_excused xs) (in_one_folder d e) e.kind x y)
      (All-append Right (stale_in_pair (d, x) (e, y)) (found_beside (is_excused xs) (in_one_folder d e) e.kind x y) (near_right d e x y known at r s (in_one_folder d e) refl) (beside_right (is_excused xs) (in_one_folder d e) d.kind d.file e x y known at r s)))
      documents xs (All-contains_itself documents) h)) documents xs
      (All-contains_itself documents) h))

-- what is found of the requirements of a document
module _ (documents : List Document) where
  none_found : (fs : List Finding) → fs ≡ [] → All (IsDocumentFinding documents) fs
  none_found fs none = subst (All (IsDocumentFinding documents)) (sym none) (All-nil (IsDocumentFinding documents))

  broken_conflicts : (file : File) (x : DocumentReading) → IsBrokenReading file x → (fs : List Finding) (cs : List Cause) → FindsOfReading x fs cs → All (IsDocumentFinding documents) fs
  broken_conflicts file x (position, reason, is) fs cs finds = none_found fs (subst (λ (z : DocumentReading). FindsOfReading z fs cs) is finds).0

  reading_conflicts : (kind : DocumentKind) (file : File) (x : DocumentReading) → Contains documents (record { kind = kind; file = file }) → IsDocumentReading (record { kind = kind; file = file }) x → (fs : List Finding) (cs : List Cause)
      → FindsOfReading x fs cs → All (IsDocumentFinding documents) fs
  reading_conflicts kind file x known (inl (none, (position, told))) fs cs finds = broken_conflicts file x (position, _, told) fs cs finds
  reading_conflicts Project file x known (inr (text, inr (none, broken))) fs cs finds = broken_conflicts file x broken fs cs finds
  reading_conflicts (Lock kind) file x known (inr (text, inr (none, broken))) fs cs finds = broken_conflicts file x broken fs cs finds
  reading_conflicts (Lock kind) file x known (inr (text, inl (t, e, (python, pythons, ys, ms, os, es, files, g, h, optional, entered, k, is)))) fs cs finds = none_found fs (subst (λ (z : DocumentReading). FindsOfReading z fs cs) is finds).0
  reading_conflicts Project file x known (inr (text, inl (t, e, (xs, h, is)))) fs cs finds =
      conflicts_hold (IsDocumentFinding documents) file t
      (λ part f right. inr (inr (inr (inr (inr (inl (record { file = file; table = t; part = part; has = (known, (text, e)); right = right }))))))) xs h fs cs (subst (λ (z : DocumentReading). FindsOfReading z fs cs) is finds)

pub findings_hold : DocumentFindingsHold
findings_hold documents r (xs, h, fs, cs, finds, is) =
    let P = IsDocumentFinding documents in
    subst (λ (q : Report). All P q.findings) (sym is)
    (All-append P (documents_report documents xs).findings fs (all_right documents xs h)
    (known_each P FindsOfReading xs (zip_each IsDocumentReading (Contains documents) (λ x. (gs : List Finding) (ds : List Cause) → FindsOfReading x gs ds → All P gs) (λ d x known one. reading_conflicts documents d.kind d.file x known one) documents xs (All-contains_itself documents) h) fs cs finds))

sound_broken : (file : File) (x : DocumentReading) → IsBrokenReading file x → IsSoundDocument x
sound_broken file x (position, reason, is) = subst (λ (y : DocumentReading). IsSoundDocument y) (sym is) tt

sound_document : (kind : DocumentKind) (file : File) (x : DocumentReading) → IsDocumentReading (record { kind = kind; file = file }) x → IsSoundDocument x
sound_document kind file x (inl (none, (position, told))) = sound_broken file x (position, _, told)
sound_document Project file x (inr (text, inr (none, broken))) = sound_broken file x broken
sound_document (Lock kind) file x (inr (text, inr (none, broken))) = sound_broken file x broken
sound_document Project file x (inr (text, inl (t, e, (xs, h, is)))) =
    subst (λ (y : DocumentReading). IsSoundDocument y) (sym is)
    (zip_each (IsStringReading (groups t) file) (Contains (sources t)) IsSoundString (λ s z known r. sound_string (groups t) file s z r) (sources t) xs (All-contains_itself (sources t)) h)
sound_document (Lock kind) file x (inr (text, inl (l, e, (python, pythons, ys, ms, os, es, fs, g, h, optional, entered, k, is)))) = subst (λ (y : DocumentReading). IsSoundDocument y) (sym is) tt

pub sound_documents : (documents : List Document) (xs : List DocumentReading) → AllZip IsDocumentReading documents xs → All IsSoundDocument xs
sound_documents documents xs h = zip_each IsDocumentReading (Contains documents) IsSoundDocument (λ d x known r. sound_document d.kind d.file x r) documents xs (All-contains_itself documents) h
