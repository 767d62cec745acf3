-- Documents that are read have one report; and what a lock says that its project requires, beside that project: what is found is right, and where nothing is
-- found each has the other's.
use Rattle.std.proofs.Common.{◌≡◌, ◌∙◌, ℕ, List, sym, inl, inr, ap, Option, Some, None, ◌+◌, length, subst, ◌++◌, map, Bool, refl, [], ◌∷◌, ◌||◌, false, if◌then◌else◌, true, Err, Ok, Result, option_map, ◌&&◌, is_some, bytes_eq, nat_lt}
use Rattle.std.proofs.lemmas.Bool.{true≢false}
use Rattle.std.proofs.lemmas.List.{map-append}
use Rattle.std.proofs.lemmas.List.Elements.{All-contains_itself, All-cons, All-nil, All-append}
use Rattle.std.specs.List.{Contains, list_any, All, AllZip, flat_map}
use Rattle.pep440_pick.specs.Names.{normal, same_name}
use Rattle.pep440_pick.specs.RequirementGrammar.{DerivesRequirement, Needed}
use Rattle.pep440_rs.proofs.Reading.OneMeaning.{not_both_list, one_list, one_list_refusal}
use Rattle.pep440_rs.specs.Bounds.{Segments}
use Rattle.pep440_rs.specs.ErrorTexts.{specifier_rejection_text}
use Rattle.pep440_rs.specs.Lists.ListGrammar.{PieceRejection, DerivesList}
use Rattle.pep440_rs.specs.Specifiers.{Spec}
use Rattle.pep440_version.proofs.Reading.Agreement.{one_record}
use Rattle.pep440_version.proofs.Rejections.ExactlyOne.{not_both, one_refusal}
use Rattle.pep440_version.specs.ErrorTexts.{rejection_text}
use Rattle.pep440_version.specs.Record.{Record}
use Rattle.pep440_version.specs.Rejections.{Rejection}
use Rattle.toml.specs.Data.{Members}
use Rattle.pyver_documents.proofs.Walks.{zip_once, left_false, right_false, all_flat, zip_each, beside_it, beside_some, left_nil, nil_at, right_nil}
use Rattle.pyver_documents.specs.Comparing.{FindsOfReading, with_found, documents_report, is_declared, same_extras, is_in_lock, is_same_requirement, same_list, is_in_project, differing, unentered, unentered_in, unentered_reason, unmatched, unrequired, unrequired_in, unrequired_reason}
use Rattle.pyver_documents.specs.DocumentLaws.{IsReadableAs, DocumentReportsOnce, IsReadable, IsDeclared, IsEntryFor, IsOtherString, Requires}
use Rattle.pyver_documents.specs.Meanings.{Groups, has_each_extra, if_it_has, left_out_if_none, IsSectionMeaning, AreVersions, list_versions, AreLockedPythons, ArePythons, IsStringReading, StringReading, string_line, IsVersionReading, LockedReading, IsConditionReading, IsLockedReading, package_line, groups, DocumentReading, IsProject, IsProjectReading, IsRequirementReading, reference_marker, requirement_line, ExtraReading, IsExtraReading, IsFileReading, file_meaning, is_of_version, IsLock, IsLockReading, fault_meaning, IsDocumentReading, extra_inclusions, inclusions, IsBroken, no_group, has_own_extras}
use Rattle.pyver_documents.specs.Together.{FindsOfPart, part_demands, project_domain, sections, parts, same_finding, with_new}
use Rattle.pyver_documents.specs.declared.document_kind.DocumentKind.{DocumentKind}
use Rattle.pyver_documents.specs.declared.document_kind.DocumentKind.TheVariants.{Lock, Project}
use Rattle.pyver_findings.proofs.Complete.{one_parts}
use Rattle.pyver_findings.proofs.MarkedConflicts.{IsTold, names_tell, each_told, IsOnce, each_once, names_once, no_causes}
use Rattle.pyver_findings.specs.LineMeanings.{list_column, LineMeaning, IsNone, list_meaning, Asks, IsPlain, IsPartsMeaning, LeftOut, has_right_url, under_marker, with_marker, with_url, AsksNothing}
use Rattle.pyver_findings.specs.Demands.{line_demand, Demand}
use Rattle.pyver_findings.specs.FileLines.{FileLine, NoRequirement, File, Finding, Conflicting}
use Rattle.pyver_findings.specs.FindingLaws.{without_environment, IsUndecided, without_environments, HasMarker}
use Rattle.pyver_findings.specs.MarkedConflicts.{FindsOfEach}
use Rattle.pyver_findings.specs.Reports.{Report, demands_in}
use Rattle.pyver_locks.specs.KnownEnvironments.{ReadCondition}
use Rattle.pyver_locks.specs.LockContents.{PackageCondition, LockedPackage, LockedRequirement, LockedExtra, LockedFile, LockContents}
use Rattle.pyver_projects.specs.ProjectStrings.{Build, Constraint, Dependencies, Entry, Extra, Group, Include, Invalid, OwnExtras, Section, Python, Unread, Version, ProjectString}
use Rattle.pyver_projects.specs.ProjectTables.{has_group_tool, overridden_names, project_names, sources}
use Rattle.pyver_requirements.specs.LineParts.{line_parts, LineParts}
use Rattle.pyver_requirements.specs.MarkerReading.{marker as read_marker}
use Rattle.pyver_requirements.specs.MarkerSteps.{Misfit}
use Rattle.pyver_requirements.specs.declared.cause.Cause.{Cause}
use Rattle.pyver_requirements.specs.declared.cause.Cause.TheVariants as cause

one_meaning : (all : Groups) (line : FileLine) (text : List ℕ) (section : Section) (x y : LineMeaning) → IsSectionMeaning all section line text x → IsSectionMeaning all section line text y → x ≡ y
one_meaning all line text Dependencies x y a b = one_parts line (line_parts line.text) x y a b
one_meaning all line text (Extra name) x y a b = one_parts line (line_parts line.text) x y a b
one_meaning all line text (Group name) x y a b = one_parts line (line_parts line.text) x y a b
one_meaning all line text (Include group included) x y a b = a ∙ sym b
one_meaning all line text (Invalid table reason) x y a b = a ∙ sym b
one_meaning all line text (Entry table name) x y (m, a, v) (n, b, w) = v ∙ ap left_out_if_none (one_parts line (line_parts line.text) m n a b) ∙ sym w
one_meaning all line text (Unread c) x y a b = a ∙ sym b
one_meaning all line text Constraint x y a b = one_parts line (line_parts line.text) x y a b
one_meaning all line text (OwnExtras asker extras) x y (m, a, v) (n, b, w) = v ∙ ap (if_it_has (has_each_extra all.extras extras) line) (one_parts line (line_parts line.text) m n a b) ∙ sym w
one_meaning all line text Build x y a b = one_parts line (line_parts line.text) x y a b
one_meaning all line text Python x y (inl (l, d, a)) (inl (m, e, b)) = a ∙ ap (list_meaning line) (one_list text l m d e) ∙ sym b
one_meaning all line text Python x y (inl (l, d, a)) (inr (f, r, b)) = absurd (not_both_list text l f d r)
one_meaning all line text Python x y (inr (f, r, a)) (inl (l, d, b)) = absurd (not_both_list text l f d r)
one_meaning all line text Python x y (inr (f, r, a)) (inr (g, s, b)) = a ∙ ap (λ (h : PieceRejection). IsNone (NoRequirement line (specifier_rejection_text h.error) (list_column text h))) (one_list_refusal text f g r s) ∙ sym b
one_meaning all line text Version x y (inl (l, d, a)) (inl (m, e, b)) = a ∙ sym b
one_meaning all line text Version x y (inl (l, d, a)) (inr (f, r, b)) = absurd (not_both text l f d r)
one_meaning all line text Version x y (inr (f, r, a)) (inl (l, d, b)) = absurd (not_both text l f d r)
one_meaning all line text Version x y (inr (f, r, a)) (inr (g, s, b)) = a ∙ ap (λ (h : Rejection). IsNone (NoRequirement line (rejection_text h) 0)) (one_refusal text f g r s) ∙ sym b

one_set : (text : List ℕ) (p q : Option Segments) → AreVersions text p → AreVersions text q → p ≡ q
one_set text p q (inl (l, d, a)) (inl (m, e, b)) = a ∙ ap list_versions (one_list text l m d e) ∙ sym b
one_set text p q (inl (l, d, a)) (inr (f, r, b)) = absurd (not_both_list text l f d r)
one_set text p q (inr (f, r, a)) (inl (l, d, b)) = absurd (not_both_list text l f d r)
one_set text p q (inr (f, r, a)) (inr (g, s, b)) = a ∙ sym b

-- a lock is for one set of versions of Python
pub one_locked_set : (text : Option (List ℕ)) (p q : Option Segments) → AreLockedPythons text p → AreLockedPythons text q → p ≡ q
one_locked_set None p q a b = a ∙ sym b
one_locked_set (Some text) p q a b = one_set text p q a b

one_python : (section : Section) (text : List ℕ) (p q : Option Segments) → ArePythons section text p → ArePythons section text q → p ≡ q
one_python Python text p q a b = one_set text p q a b
one_python Version text p q a b = a ∙ sym b
one_python Dependencies text p q a b = a ∙ sym b
one_python (Extra name) text p q a b = a ∙ sym b
one_python (Group name) text p q a b = a ∙ sym b
one_python (Include group included) text p q a b = a ∙ sym b
one_python (Invalid table reason) text p q a b = a ∙ sym b
one_python (Entry table name) text p q a b = a ∙ sym b
one_python (Unread c) text p q a b = a ∙ sym b
one_python Constraint text p q a b = a ∙ sym b
one_python (OwnExtras asker extras) text p q a b = a ∙ sym b
one_python Build text p q a b = a ∙ sym b

pub one_string : (all : Groups) (file : File) (s : ProjectString) (x y : StringReading) → IsStringReading all file s x → IsStringReading all file s y → x ≡ y
one_string all file s x y (p, a, v) (q, b, w) =
    let section = p ∙ sym q in
    let meaning = one_meaning all (string_line file s) s.text s.section x.meaning y.meaning a b in
    let python = one_python s.section s.text x.python y.python v w in
    λ j. record { section = section j; meaning = meaning j; python = python j }

one_version : (line : FileLine) (name : List ℕ) (c : Option ReadCondition) (v : Option (List ℕ)) (x y : LockedReading) → IsVersionReading line name c v x → IsVersionReading line name c v y → x ≡ y
one_version line name c None x y a b = a ∙ sym b
one_version line name c (Some text) x y (inl (r, d, a)) (inl (q, e, b)) = a ∙ ap (λ (v : Record). record { line = line; name = normal name; condition = c; version = Some v; invalid = None }) (one_record text r q d e) ∙ sym b
one_version line name c (Some text) x y (inl (r, d, a)) (inr (f, e, b)) = absurd (not_both text r f d e)
one_version line name c (Some text) x y (inr (f, e, a)) (inl (r, d, b)) = absurd (not_both text r f d e)
one_version line name c (Some text) x y (inr (f, r, a)) (inr (g, s, b)) =
    a ∙ ap (λ (h : Rejection). record { line = line; name = normal name; condition = c; version = None; invalid = Some (NoRequirement line (rejection_text h) (length name + 1)) }) (one_refusal text f g r s) ∙ sym b

one_condition : (p : Option PackageCondition) (c d : Option ReadCondition) → IsConditionReading p c → IsConditionReading p d → c ≡ d
one_condition None c d a b = a ∙ sym b
one_condition (Some p) c d (inl (l, f, a)) (inl (m, g, b)) = a ∙ ap (λ (list : List Spec). Some (record { python = list; marker = p.marker })) (one_list p.python l m f g) ∙ sym b
one_condition (Some p) c d (inl (l, f, a)) (inr (g, r, b)) = absurd (not_both_list p.python l g f r)
one_condition (Some p) c d (inr (f, r, a)) (inl (l, g, b)) = absurd (not_both_list p.python l f g r)
one_condition (Some p) c d (inr (f, r, a)) (inr (g, s, b)) = a ∙ sym b

one_package : (file : List ℕ) (p : LockedPackage) (x y : LockedReading) → IsLockedReading file p x → IsLockedReading file p y → x ≡ y
one_package file p x y (a, b) (c, d) =
    let same : x.condition ≡ y.condition = one_condition p.condition x.condition y.condition a c in
    one_version (package_line file p) p.name y.condition p.version x y (subst (λ z. IsVersionReading (package_line file p) p.name z p.version x) same b) d

one_project : (file : File) (t : Members) (x y : DocumentReading) → IsProjectReading file t x → IsProjectReading file t y → x ≡ y
one_project file t x y (xs, g, a) (ys, h, b) =
    a ∙ ap (λ (zs : List StringReading). IsProject t (has_group_tool t) (project_names t) (overridden_names t) zs)
    (zip_once (IsStringReading (groups t) file) (Contains (sources t)) (λ s v w known p q. one_string (groups t) file s v w p q) (sources t) xs ys (All-contains_itself (sources t)) g h) ∙ sym b

one_requirement : (file : List ℕ) (q : LockedRequirement) (x y : LineMeaning) → IsRequirementReading file q x → IsRequirementReading file q y → x ≡ y
one_requirement file q x y (inl (l, d, a)) (inl (m, e, b)) =
    a ∙ ap (λ (list : List Spec). Asks (line_demand (requirement_line file q) (reference_marker q.is_reference) (record { name = q.name; extras = q.extras; specifiers = list }))) (one_list q.list l m d e) ∙ sym b
one_requirement file q x y (inl (l, d, a)) (inr (f, r, b)) = absurd (not_both_list q.list l f d r)
one_requirement file q x y (inr (f, r, a)) (inl (l, d, b)) = absurd (not_both_list q.list l f d r)
one_requirement file q x y (inr (f, r, a)) (inr (g, s, b)) = a ∙ sym b

pub one_extra : (file : List ℕ) (o : LockedExtra) (x y : ExtraReading) → IsExtraReading file o x → IsExtraReading file o y → x ≡ y
one_extra file o x y (k, a) (l, b) =
    let keys = k ∙ sym l in
    let meanings = one_requirement file o.requirement x.meaning y.meaning a b in
    λ j. record { key = keys j; meaning = meanings j }

one_file : (file : List ℕ) (f : LockedFile) (x y : LineMeaning) → IsFileReading file f x → IsFileReading file f y → x ≡ y
one_file file f x y (inl (r, q, d, e, a)) (inl (s, p, g, h, b)) =
    a ∙ (λ i. file_meaning file f (is_of_version (one_record f.version r s d g i) (one_record f.written q p e h i))) ∙ sym b
one_file file f x y (inl (r, q, d, e, a)) (inr (inl (j, k), b)) = absurd (not_both f.version r j d k)
one_file file f x y (inl (r, q, d, e, a)) (inr (inr (j, k), b)) = absurd (not_both f.written q j e k)
one_file file f x y (inr (inl (j, k), a)) (inl (r, q, d, e, b)) = absurd (not_both f.version r j d k)
one_file file f x y (inr (inr (j, k), a)) (inl (r, q, d, e, b)) = absurd (not_both f.written q j e k)
one_file file f x y (inr (none, a)) (inr (other, b)) = a ∙ sym b

one_lock : (file : List ℕ) (l : LockContents) (x y : DocumentReading) → IsLockReading file l x → IsLockReading file l y → x ≡ y
one_lock file l x y (p, c, ys, ms, os, es, fs, g, h, u, n, i, a) (q, d, zs, ns, ps, ds, gs, j, k, v, o, m, b) =
    let pythons = one_locked_set l.parts.python p q c d in
    let packages = zip_once (IsLockedReading file) (Contains l.packages) (λ p v w known q r. one_package file p v w q r) l.packages ys zs (All-contains_itself l.packages) g j in
    let requirements = zip_once (IsRequirementReading file) (Contains l.requirements) (λ p v w known q r. one_requirement file p v w q r) l.requirements ms ns (All-contains_itself l.requirements) h k in
    let extras = zip_once (IsExtraReading file) (Contains l.optional) (λ p v w known q r. one_extra file p v w q r) l.optional os ps (All-contains_itself l.optional) u v in
    let entries = zip_once (IsRequirementReading file) (Contains l.entries) (λ p v w known q r. one_requirement file p v w q r) l.entries es ds (All-contains_itself l.entries) n o in
    let files = zip_once (IsFileReading file) (Contains l.files) (λ p v w known q r. one_file file p v w q r) l.files fs gs (All-contains_itself l.files) i m in
    a ∙ (λ n. IsLock l.parts (pythons n) (packages n) (requirements n) (extras n) (entries n) (files n ++ map (fault_meaning file) l.faults)) ∙ sym b

pub one_document : (kind : DocumentKind) (file : File) (x y : DocumentReading) → IsReadableAs kind file → IsDocumentReading (record { kind = kind; file = file }) x → IsDocumentReading (record { kind = kind; file = file }) y → x ≡ y
one_document Project file x y (t, (text, e)) (inl (none, a)) b = absurd (none text)
one_document Project file x y (t, (text, e)) (inr a) (inl (none, b)) = absurd (none text)
one_document Project file x y (t, (text, e)) (inr (u, inr (none, a))) (inr b) = let same : None ≡ Some t = sym none ∙ e in cc same
one_document Project file x y (t, (text, e)) (inr (u, inl a)) (inr (v, inr (none, b))) = let same : None ≡ Some t = sym none ∙ e in cc same
one_document Project file x y (t, (text, e)) (inr (u, inl (m, f, a))) (inr (v, inl (n, g, b))) =
    let same : Some n ≡ Some m = sym g ∙ f in
    let table : n ≡ m = cc same in
    one_project file m x y a (subst (λ (q : Members). IsProjectReading file q y) table b)
one_document (Lock kind) file x y (ps, (text, e)) (inl (none, a)) b = absurd (none text)
one_document (Lock kind) file x y (ps, (text, e)) (inr a) (inl (none, b)) = absurd (none text)
one_document (Lock kind) file x y (ps, (text, e)) (inr (u, inr (none, a))) (inr b) = let same : None ≡ Some ps = sym none ∙ e in cc same
one_document (Lock kind) file x y (ps, (text, e)) (inr (u, inl a)) (inr (v, inr (none, b))) = let same : None ≡ Some ps = sym none ∙ e in cc same
one_document (Lock kind) file x y (ps, (text, e)) (inr (u, inl (ms, f, a))) (inr (v, inl (ns, g, b))) =
    let same : Some ns ≡ Some ms = sym g ∙ f in
    let equal : ns ≡ ms = cc same in
    one_lock file.name ms x y a (subst (λ (l : LockContents). IsLockReading file.name l y) equal b)

-- ---- requirements that have no version in common

part_told : (together : Bool) (overridden : List (List ℕ)) (xs : List StringReading) (part : Section) (fs : List Finding) (cs : List Cause) → FindsOfPart together overridden xs part fs cs → IsTold cs
part_told together overridden xs part fs cs finds = names_tell (project_domain xs) (part_demands together overridden (inclusions (sections xs)) (extra_inclusions (sections xs)) part xs) fs cs finds

reading_told : (x : DocumentReading) (fs : List Finding) (cs : List Cause) → FindsOfReading x fs cs → IsTold cs
reading_told (IsProject t together names overridden xs) fs cs (found, finds, is) = each_told (FindsOfPart together overridden xs) (part_told together overridden xs) (parts xs) found cs finds
reading_told (IsLock parts python ys ms os es files) fs cs (is, also) = inl also
reading_told (IsBroken f) fs cs (is, also) = inl also

alike : (f g : Finding) → same_finding f g ≡ same_finding (without_environment f) (without_environment g)
alike (Conflicting kind xs environment) (Conflicting other ys elsewhere) = refl
alike (Conflicting kind xs environment) (NoRequirement line reason column) = refl
alike (NoRequirement line reason column) g = refl

any_alike : (f : Finding) (found : List Finding) → list_any (same_finding f) found ≡ list_any (same_finding (without_environment f)) (map without_environment found)
any_alike f [] = refl
any_alike f (g ∷ found) = λ j. alike f g j || any_alike f found j

mapped_new : (b c : Bool) (f : Finding) (found : List Finding) → b ≡ c
    → map without_environment (if b then found else found ++ f ∷ []) ≡ (if c then map without_environment found else map without_environment found ++ without_environment f ∷ [])
mapped_new true true f found is = refl
mapped_new true false f found is = absurd (true≢false is)
mapped_new false true f found is = absurd (true≢false (sym is))
mapped_new false false f found is = map-append without_environment found (f ∷ [])

-- each finding once, but for environments
new_alike : (found fs : List Finding) → map without_environment (with_new same_finding found fs) ≡ with_new same_finding (map without_environment found) (map without_environment fs)
new_alike found [] = refl
new_alike found (f ∷ fs) =
    new_alike (if list_any (same_finding f) found then found else found ++ f ∷ []) fs
    ∙ ap (λ l. with_new same_finding l (map without_environment fs)) (mapped_new (list_any (same_finding f) found) (list_any (same_finding (without_environment f)) (map without_environment found)) f found (any_alike f found))

reading_once : (x : DocumentReading) → IsOnce (FindsOfReading x)
reading_once (IsProject t together names overridden xs) fs gs (found, finds, is) (others, also, so) =
    ap (map without_environment) is ∙ new_alike [] found
    ∙ ap (with_new same_finding []) (each_once (FindsOfPart together overridden xs) (λ part. names_once (project_domain xs) (part_demands together overridden (inclusions (sections xs)) (extra_inclusions (sections xs)) part xs)) (parts xs) found others finds also)
    ∙ sym (new_alike [] others) ∙ ap (map without_environment) (sym so)
reading_once (IsLock parts python ys ms os es files) fs gs (is, _) (so, _) = ap (map without_environment) (is ∙ sym so)
reading_once (IsBroken f) fs gs (is, _) (so, _) = ap (map without_environment) (is ∙ sym so)

in_report : (a r : Report) (fs : List Finding) (cs : List Cause) → r ≡ with_found a fs cs → Contains (a.left_out ++ cs) cause.Undecided → IsUndecided r
in_report a r fs cs is known = subst (λ (q : Report). Contains q.left_out cause.Undecided) (sym is) known

pub document_reports_once : DocumentReportsOnce
document_reports_once documents r s readable (xs, g, fs, cs, finds, a) (ys, h, gs, ds, also, b) decided again =
    let same : xs ≡ ys = zip_once IsDocumentReading IsReadable (λ d v w known p q. one_document d.kind d.file v w known p q) documents xs ys readable g h in
    let none : cs ≡ [] = no_causes (documents_report documents xs).left_out cs (each_told FindsOfReading reading_told xs fs cs finds) (λ known. decided (in_report (documents_report documents xs) r fs cs a known)) in
    let nothing : ds ≡ [] = no_causes (documents_report documents ys).left_out ds (each_told FindsOfReading reading_told ys gs ds also) (λ known. again (in_report (documents_report documents ys) s gs ds b known)) in
    let found : map without_environment fs ≡ map without_environment gs =
    each_once FindsOfReading reading_once xs fs gs (subst (FindsOfEach FindsOfReading xs fs) none finds) (subst (FindsOfEach FindsOfReading xs gs) nothing (subst (λ l. FindsOfEach FindsOfReading l gs ds) (sym same) also)) in
    let left : cs ≡ ds = none ∙ sym nothing in
    let one = documents_report documents xs in
    let other = documents_report documents ys in
    let all : map without_environment (one.findings ++ fs) ≡ map without_environment (other.findings ++ gs) =
    map-append without_environment one.findings fs ∙ (λ j. map without_environment (documents_report documents (same j)).findings ++ found j) ∙ sym (map-append without_environment other.findings gs) in
    ap without_environments a
    ∙ (λ j. let so = documents_report documents (same j) in record { findings = all j; ignored = map without_environment so.ignored; lines = so.lines; files = so.files; left_out = so.left_out ++ left j })
    ∙ sym (ap without_environments b)

-- ---- what a lock says that its project requires

-- ---- what a string asks for

-- the line asks for this
pub record AsksFor (line : FileLine) (p : LineParts) (a : Demand) : Type 0 where
  pub needed : Needed
  pub text : IsPlain p.requirement
  pub derives : DerivesRequirement p.requirement needed
  pub url : p.url ≡ None
  pub marker : Option (List ℕ)
  pub always : marker ≡ None → p.marker ≡ None
  pub has : HasMarker p marker
  pub is : a ≡ line_demand line marker needed

module _ (line : FileLine) (p : LineParts) (a : Demand) where
  no_list : (b : Bool) (reason : List ℕ) (column : ℕ) → Asks a ≡ (if b then LeftOut cause.Url else IsNone (NoRequirement line reason column)) → ⊥
  no_list true reason column e = cc e
  no_list false reason column e = cc e

  module _ (n : Needed) (text : IsPlain p.requirement) (d : DerivesRequirement p.requirement n) where
    by_url : (m : Option (List ℕ)) → (m ≡ None → p.marker ≡ None) → HasMarker p m → (url : Option (List ℕ)) → p.url ≡ url → Asks a ≡ with_url line p n m url → AsksFor line p a
    by_url m always has None is e = let same : a ≡ line_demand line m n = cc e in record { needed = n; text = text; derives = d; url = is; marker = m; always = always; has = has; is = same }
    by_url m always has (Some []) is e = cc e
    by_url m always has (Some (b ∷ url)) is e = absurd (no_list (has_right_url (b ∷ url) n) _ _ e)

    by_read : (r : Result (List ℕ) Misfit) → option_map read_marker p.marker ≡ Some r → Asks a ≡ under_marker line p n r → AsksFor line p a
    by_read (Ok m) read e = by_url (Some m) (λ none. cc none) read p.url refl e
    by_read (Err f) read e = cc e

    by_its_marker : (m : Option (List ℕ)) → p.marker ≡ m → Asks a ≡ with_marker line p n m → AsksFor line p a
    by_its_marker None is e = by_url None (λ _. is) (ap (option_map read_marker) is) p.url refl e
    by_its_marker (Some written) is e = by_read (read_marker written) (ap (option_map read_marker) is) e

  of_parts : IsPartsMeaning line p (Asks a) → AsksFor line p a
  of_parts (inl (none, e)) = cc e
  of_parts (inr (text, inl (n, d, e))) = by_its_marker n text d p.marker refl e
  of_parts (inr (text, inr (f, r, e))) = cc e

-- the name of an included group asks for nothing
no_include : (a : Demand) (line : FileLine) (b c : Bool) (one other : List ℕ) → Asks a ≡ (if b then (if c then no_group line one else AsksNothing) else no_group line other) → ⊥
no_include a line true true one other e = cc e
no_include a line true false one other e = cc e
no_include a line false c one other e = cc e

-- nor does a list
never_asks : (a : Demand) (f : Finding) (b : Bool) → Asks a ≡ (if b then IsNone f else AsksNothing) → ⊥
never_asks a f true e = cc e
never_asks a f false e = cc e

-- what is left out if it is none asks for what it asked
of_entry : (line : FileLine) (a : Demand) (m : LineMeaning) → IsPartsMeaning line (line_parts line.text) m → Asks a ≡ left_out_if_none m → AsksFor line (line_parts line.text) a
of_entry line a (Asks b) is e = of_parts line (line_parts line.text) a (subst (λ (c : LineMeaning). IsPartsMeaning line (line_parts line.text) c) (sym e) is)
of_entry line a (IsNone f) is e = cc e
of_entry line a (LeftOut c) is e = cc e
of_entry line a AsksNothing is e = cc e

of_own : (line : FileLine) (a : Demand) (has : Bool) (m : LineMeaning) → IsPartsMeaning line (line_parts line.text) m → Asks a ≡ if_it_has has line m → AsksFor line (line_parts line.text) a
of_own line a true (Asks b) is e = of_parts line (line_parts line.text) a (subst (λ (c : LineMeaning). IsPartsMeaning line (line_parts line.text) c) (sym e) is)
of_own line a false (Asks b) is e = cc e
of_own line a has (IsNone f) is e = cc e
of_own line a true (LeftOut c) is e = cc e
of_own line a false (LeftOut c) is e = cc e
of_own line a has AsksNothing is e = cc e

-- what a string asks for
pub of_section : (all : Groups) (line : FileLine) (text : List ℕ) (a : Demand) (section : Section) → IsSectionMeaning all section line text (Asks a) → AsksFor line (line_parts line.text) a
of_section all line text a Python (inl (list, d, e)) = absurd (never_asks a _ _ e)
of_section all line text a Python (inr (f, r, e)) = cc e
of_section all line text a Version (inl (v, d, e)) = cc e
of_section all line text a Version (inr (f, r, e)) = cc e
of_section all line text a Dependencies is = of_parts line (line_parts line.text) a is
of_section all line text a (Extra name) is = of_parts line (line_parts line.text) a is
of_section all line text a (Group name) is = of_parts line (line_parts line.text) a is
of_section all line text a (Include group included) is = absurd (no_include a line _ _ _ _ is)
of_section all line text a (Invalid table reason) is = cc is
of_section all line text a (Entry table name) (m, is, e) = of_entry line a m is e
of_section all line text a (Unread c) is = cc is
of_section all line text a Constraint is = of_parts line (line_parts line.text) a is
of_section all line text a (OwnExtras asker extras) (m, is, e) = of_own line a (has_each_extra all.extras extras) m is e
of_section all line text a Build is = of_parts line (line_parts line.text) a is

module _ (line : FileLine) (n : Needed) (plain : IsPlain (line_parts line.text).requirement) (d : DerivesRequirement (line_parts line.text).requirement n) (url : (line_parts line.text).url ≡ None) (m : Option (List ℕ)) where
  abbrev asked : LineMeaning
  asked = Asks (line_demand line m n)

  no_url : with_url line (line_parts line.text) n m (line_parts line.text).url ≡ asked
  no_url = ap (λ (u : Option (List ℕ)). with_url line (line_parts line.text) n m u) url

  by_marker : (written : Option (List ℕ)) (k : Option (List ℕ)) → k ≡ m → option_map read_marker written ≡ option_map Ok k → with_marker line (line_parts line.text) n written ≡ asked
  by_marker None None is e = ap (λ (k : Option (List ℕ)). with_url line (line_parts line.text) n k (line_parts line.text).url) is ∙ no_url
  by_marker None (Some k) is e = cc e
  by_marker (Some text) None is e = cc e
  by_marker (Some text) (Some k) is e =
      let read : read_marker text ≡ Ok k = cc e in
      ap (under_marker line (line_parts line.text) n) read ∙ ap (λ (k : Option (List ℕ)). with_url line (line_parts line.text) n k (line_parts line.text).url) is ∙ no_url

  means : HasMarker (line_parts line.text) m → IsPartsMeaning line (line_parts line.text) asked
  means has = inr (plain, inl (n, d, sym (by_marker (line_parts line.text).marker m refl has)))

  pub asks_by : (x : LineMeaning) → HasMarker (line_parts line.text) m → IsPartsMeaning line (line_parts line.text) x → x ≡ asked
  asks_by x has is = one_parts line (line_parts line.text) x asked is (means has)

  -- a requirement asks for it
  asks : (all : Groups) (text : List ℕ) (section : Section) (x : LineMeaning) → HasMarker (line_parts line.text) m → IsDeclared all section → IsSectionMeaning all section line text x → x ≡ asked
  asks all text Dependencies x has counts is = asks_by x has is
  asks all text (Extra name) x has counts is = asks_by x has is
  asks all text (Group name) x has counts is = asks_by x has is
  asks all text (Include group included) x has counts is = cc counts
  asks all text (Invalid table reason) x has counts is = cc counts
  asks all text (Entry table name) x has counts is = cc counts
  asks all text Constraint x has counts is = cc counts
  asks all text (OwnExtras asker extras) x has counts (k, is, e) = e ∙ ap (if_it_has (has_each_extra all.extras extras) line) (asks_by k has is) ∙ ap (λ b. if_it_has b line asked) counts
  asks all text (Unread c) x has counts is = cc counts
  asks all text Build x has counts is = cc counts
  asks all text Python x has counts is = cc counts
  asks all text Version x has counts is = cc counts

declared_left : (a b : Bool) → (a && b) ≡ true → a ≡ true
declared_left true b e = refl
declared_left false b e = absurd (true≢false (sym e))

own_so : (line : FileLine) (a : Demand) (b : Bool) (m : LineMeaning) → Asks a ≡ if_it_has b line m → b ≡ true
own_so line a true m e = refl
own_so line a false (Asks c) e = cc e
own_so line a false (IsNone f) e = cc e
own_so line a false (LeftOut c) e = cc e
own_so line a false AsksNothing e = cc e

-- a string that asks for something asks for extras that the project has
declared_so : (all : Groups) (line : FileLine) (text : List ℕ) (a : Demand) (section : Section) → is_declared section ≡ true → IsSectionMeaning all section line text (Asks a) → IsDeclared all section
declared_so all line text a Dependencies counts is = refl
declared_so all line text a (Extra name) counts is = refl
declared_so all line text a (Group name) counts is = refl
declared_so all line text a (OwnExtras asker extras) counts (m, parts, e) = own_so line a (has_each_extra all.extras extras) m e
declared_so all line text a (Include group included) counts is = cc counts
declared_so all line text a (Invalid table reason) counts is = cc counts
declared_so all line text a (Entry table name) counts is = cc counts
declared_so all line text a Constraint counts is = cc counts
declared_so all line text a (Unread c) counts is = cc counts
declared_so all line text a Build counts is = cc counts
declared_so all line text a Python counts is = cc counts
declared_so all line text a Version counts is = cc counts

-- ---- what an entry asks for

reference : (b : Bool) → is_some (reference_marker b) ≡ b
reference true = refl
reference false = refl

or_no : (b : Bool) → (b || false) ≡ b
or_no true = refl
or_no false = refl

module _ (lock : List ℕ) (q : LockedRequirement) where
  abbrev entry_demand : List Spec → Demand
  entry_demand list = line_demand (requirement_line lock q) (reference_marker q.is_reference) (record { name = q.name; extras = q.extras; specifiers = list })

  abbrev is_of : Needed → List Spec → Bool
  is_of n list = same_name n.name q.name && (same_extras (map normal n.extras) (map normal q.extras) && (q.is_reference || same_list n.specifiers list))

  module _ (line : FileLine) (m : Option (List ℕ)) (n : Needed) where
    same_so : (list : List Spec) → is_same_requirement (line_demand line m n) (entry_demand list) ≡ is_of n list
    same_so list = ap (λ b. same_name n.name q.name && (same_extras (map normal n.extras) (map normal q.extras) && (b || same_list n.specifiers list))) (reference q.is_reference)

    in_lock_so : (list : List Spec) (x : LineMeaning) → x ≡ Asks (entry_demand list) → is_in_lock (line_demand line m n) x ≡ is_of n list
    in_lock_so list x is = ap (is_in_lock (line_demand line m n)) is ∙ or_no (is_same_requirement (line_demand line m n) (entry_demand list)) ∙ same_so list

    not_of : (x : LineMeaning) → IsRequirementReading lock q x → is_in_lock (line_demand line m n) x ≡ false → ¬ IsEntryFor n q
    not_of x (inl (list, d, is)) e (l, other, so) =
        true≢false (sym so ∙ ap (is_of n) (one_list q.list l list other d) ∙ sym (in_lock_so list x is) ∙ e)
    not_of x (inr (f, r, is)) e (l, other, so) = not_both_list q.list l f other r

    entry_of : (x : LineMeaning) → IsRequirementReading lock q x → is_in_lock (line_demand line m n) x ≡ true → IsEntryFor n q
    entry_of x (inl (list, d, is)) e = (list, d, sym (in_lock_so list x is) ∙ e)
    entry_of x (inr (f, r, is)) e = let left : is_in_lock (line_demand line m n) x ≡ false = ap (is_in_lock (line_demand line m n)) is in absurd (true≢false (sym e ∙ left))

module _ (lock : List ℕ) (line : FileLine) (m : Option (List ℕ)) (n : Needed) where
  abbrev NoEntry : LockedRequirement → Type 0
  NoEntry q = ¬ IsEntryFor n q

  none_of : (qs : List LockedRequirement) (xs : List LineMeaning) → AllZip (IsRequirementReading lock) qs xs → list_any (is_in_lock (line_demand line m n)) xs ≡ false → All NoEntry qs
  none_of [] [] h e = All-nil NoEntry
  none_of [] (x ∷ xs) h e = absurd h
  none_of (q ∷ qs) [] h e = absurd h
  none_of (q ∷ qs) (x ∷ xs) (r, h) e =
      All-cons NoEntry q qs (not_of lock q line m n x r (left_false (is_in_lock (line_demand line m n) x) (list_any (is_in_lock (line_demand line m n)) xs) e))
      (none_of qs xs h (right_false (is_in_lock (line_demand line m n) x) (list_any (is_in_lock (line_demand line m n)) xs) e))

-- ---- strings

module _ (lock : List ℕ) (q : LockedRequirement) (list : List Spec) (read : DerivesList q.list list) (all : Groups) (file : File) where
  abbrev here : Demand
  here = entry_demand lock q list

  in_project : (b : Bool) (x : LineMeaning) (a : Demand) → b ≡ true → x ≡ Asks a → list_any (λ (c : Demand). is_same_requirement c here) (if b then demands_in x else []) ≡ is_same_requirement a here
  in_project b x a counts is =
      (λ i. list_any (λ (c : Demand). is_same_requirement c here) (if counts i then demands_in (is i) else [])) ∙ or_no (is_same_requirement a here)

  other_string : (s : ProjectString) (x : StringReading) → IsStringReading all file s x → is_in_project here x ≡ false → IsOtherString all q s
  other_string s x (same, is, python) e counts n (plain, d, (m, has), url) (l, other, so) =
      let line = string_line file s in
      true≢false (sym so ∙ ap (is_of lock q n) (one_list q.list l list other read) ∙ sym (same_so lock q line m n list)
      ∙ sym (in_project (is_declared x.section) x.meaning (line_demand line m n) (ap is_declared same ∙ declared_left (is_declared s.section) (has_own_extras all s.section) counts) (asks line n plain d url m all s.text s.section x.meaning has counts is)) ∙ e)

  other_strings : (ss : List ProjectString) (xs : List StringReading) → AllZip (IsStringReading all file) ss xs → list_any (is_in_project here) xs ≡ false → All (IsOtherString all q) ss
  other_strings [] [] h e = All-nil (IsOtherString all q)
  other_strings [] (x ∷ xs) h e = absurd h
  other_strings (s ∷ ss) [] h e = absurd h
  other_strings (s ∷ ss) (x ∷ xs) (r, h) e =
      All-cons (IsOtherString all q) s ss (other_string s x r (left_false (is_in_project here x) (list_any (is_in_project here) xs) e))
      (other_strings ss xs h (right_false (is_in_project here x) (list_any (is_in_project here) xs) e))

  -- a string asks for it
  abbrev pub IsSome : ProjectString → Type 0
  IsSome s = (n : Needed) × IsDeclared all s.section × Requires s n × IsEntryFor n q

  some_by : (s : ProjectString) (b : Bool) (x : LineMeaning) → is_declared s.section ≡ b → IsSectionMeaning all s.section (string_line file s) s.text x → list_any (λ (c : Demand). is_same_requirement c here) (if b then demands_in x else []) ≡ true → IsSome s
  some_by s true (Asks a) counts is e =
      let line = string_line file s in
      let k : AsksFor line (line_parts line.text) a = of_section all line s.text a s.section is in
      let so : is_same_requirement a here ≡ true = sym (or_no (is_same_requirement a here)) ∙ e in
      let passes : is_of lock q k.needed list ≡ true = sym (same_so lock q line k.marker k.needed list) ∙ sym (ap (λ (c : Demand). is_same_requirement c here) k.is) ∙ so in
      (k.needed, declared_so all line s.text a s.section counts is, (k.text, k.derives, (k.marker, k.has), k.url), (list, read, passes))
  some_by s true (IsNone f) counts is e = absurd (true≢false (sym e))
  some_by s true (LeftOut c) counts is e = absurd (true≢false (sym e))
  some_by s true AsksNothing counts is e = absurd (true≢false (sym e))
  some_by s false x counts is e = absurd (true≢false (sym e))

  some_string : (s : ProjectString) (x : StringReading) → IsStringReading all file s x → is_in_project here x ≡ true → IsSome s
  some_string s x (same, is, python) e =
      some_by s (is_declared s.section) x.meaning refl is (subst (λ section. list_any (λ (c : Demand). is_same_requirement c here) (if is_declared section then demands_in x.meaning else []) ≡ true) same e)

-- ---- findings

module _ (Right : Finding → Type 0) (all : Groups) (file lock : File) (names : List (List ℕ)) (ss : List ProjectString) (qs : List LockedRequirement) where
  module _ (entered : (s : ProjectString) (n : Needed) → Contains ss s → IsDeclared all s.section → Requires s n → All (λ q. ¬ IsEntryFor n q) qs → Right (NoRequirement (string_line file s) unentered_reason 0)) (xs : List LineMeaning) (h : AllZip (IsRequirementReading lock.name) qs xs) (s : ProjectString) (known : Contains ss s) where
    of_needed : (m : Option (List ℕ)) (n : Needed) → IsDeclared all s.section → Requires s n → (b c : Bool) → list_any (is_in_lock (line_demand (string_line file s) m n)) xs ≡ c → All Right (if b then [] else (if c then [] else unmatched unentered_reason (line_demand (string_line file s) m n) ∷ []))
    of_needed m n counts requires true c e = All-nil Right
    of_needed m n counts requires false true e = All-nil Right
    of_needed m n counts requires false false e =
        All-cons Right (unmatched unentered_reason (line_demand (string_line file s) m n)) [] (entered s n known counts requires (none_of lock.name (string_line file s) m n qs xs h e)) (All-nil Right)

    of_demand : (a : Demand) → IsDeclared all s.section → AsksFor (string_line file s) (line_parts s.text) a → All Right (unentered names xs a)
    of_demand a counts k =
        subst (λ (c : Demand). All Right (unentered names xs c)) (sym k.is)
        (of_needed k.marker k.needed counts (k.text, k.derives, (k.marker, k.has), k.url) (list_any (bytes_eq (normal k.needed.name)) names) (list_any (is_in_lock (line_demand (string_line file s) k.marker k.needed)) xs) refl)

    of_meaning : (x : LineMeaning) → is_declared s.section ≡ true → IsSectionMeaning all s.section (string_line file s) s.text x → All Right (flat_map (unentered names xs) (demands_in x))
    of_meaning (Asks a) counts is = All-append Right (unentered names xs a) [] (of_demand a (declared_so all (string_line file s) s.text a s.section counts is) (of_section all (string_line file s) s.text a s.section is)) (All-nil Right)
    of_meaning (IsNone f) counts is = All-nil Right
    of_meaning (LeftOut c) counts is = All-nil Right
    of_meaning AsksNothing counts is = All-nil Right

  module _ (entered : (s : ProjectString) (n : Needed) → Contains ss s → IsDeclared all s.section → Requires s n → All (λ q. ¬ IsEntryFor n q) qs → Right (NoRequirement (string_line file s) unentered_reason 0)) (xs : List LineMeaning) (h : AllZip (IsRequirementReading lock.name) qs xs) where
    by_section : (s : ProjectString) (x : LineMeaning) (b : Bool) → Contains ss s → is_declared s.section ≡ b → IsSectionMeaning all s.section (string_line file s) s.text x → All Right (flat_map (unentered names xs) (if b then demands_in x else []))
    by_section s x true known counts is = of_meaning entered xs h s known x counts is
    by_section s x false known counts is = All-nil Right

    of_string : (s : ProjectString) (x : StringReading) → Contains ss s → IsStringReading all file s x → All Right (unentered_in names xs x)
    of_string s x known (same, is, python) =
        subst (λ section. All Right (flat_map (unentered names xs) (if is_declared section then demands_in x.meaning else []))) (sym same) (by_section s x.meaning (is_declared s.section) known refl is)

  module _ (required : (q : LockedRequirement) → Contains qs q → All (IsOtherString all q) ss → Right (NoRequirement (requirement_line lock.name q) unrequired_reason 0)) (zs : List StringReading) (g : AllZip (IsStringReading all file) ss zs) where
    of_list : (q : LockedRequirement) (list : List Spec) (b c : Bool) → Contains qs q → DerivesList q.list list → list_any (is_in_project (entry_demand lock.name q list)) zs ≡ c → All Right (if b then [] else (if c then [] else unmatched unrequired_reason (entry_demand lock.name q list) ∷ []))
    of_list q list true c known d e = All-nil Right
    of_list q list false true known d e = All-nil Right
    of_list q list false false known d e = All-cons Right (unmatched unrequired_reason (entry_demand lock.name q list)) [] (required q known (other_strings lock.name q list d all file ss zs g e)) (All-nil Right)

    of_item : (q : LockedRequirement) (x : LineMeaning) → Contains qs q → IsRequirementReading lock.name q x → All Right (unrequired_in names zs x)
    of_item q x known (inl (list, d, is)) =
        subst (λ (y : LineMeaning). All Right (unrequired_in names zs y)) (sym is)
        (All-append Right (unrequired names zs (entry_demand lock.name q list)) []
        (of_list q list (list_any (bytes_eq (normal q.name)) names || is_some (reference_marker q.is_reference)) (list_any (is_in_project (entry_demand lock.name q list)) zs) known d refl) (All-nil Right))
    of_item q x known (inr (f, r, is)) = subst (λ (y : LineMeaning). All Right (unrequired_in names zs y)) (sym is) (All-nil Right)

  module _ (entered : (s : ProjectString) (n : Needed) → Contains ss s → IsDeclared all s.section → Requires s n → All (λ q. ¬ IsEntryFor n q) qs → Right (NoRequirement (string_line file s) unentered_reason 0)) (required : (q : LockedRequirement) → Contains qs q → All (IsOtherString all q) ss → Right (NoRequirement (requirement_line lock.name q) unrequired_reason 0)) where
    -- what is found is right
    pub differing_right : (zs : List StringReading) (xs : List LineMeaning) → AllZip (IsStringReading all file) ss zs → AllZip (IsRequirementReading lock.name) qs xs → All Right (differing names zs xs)
    differing_right zs [] g h = All-nil Right
    differing_right zs (x ∷ xs) g h =
        All-append Right (flat_map (unentered_in names (x ∷ xs)) zs) (flat_map (unrequired_in names zs) (x ∷ xs))
        (all_flat Right (unentered_in names (x ∷ xs)) zs (zip_each (IsStringReading all file) (Contains ss) (λ z. All Right (unentered_in names (x ∷ xs) z)) (λ s z known r. of_string entered (x ∷ xs) h s z known r) ss zs (All-contains_itself ss) g))
        (all_flat Right (unrequired_in names zs) (x ∷ xs) (zip_each (IsRequirementReading lock.name) (Contains qs) (λ y. All Right (unrequired_in names zs y)) (λ q y known r. of_item required zs g q y known r) qs (x ∷ xs) (All-contains_itself qs) h))

-- ---- no finding

none_of_two : (b c : Bool) (f : Finding) → b ≡ false → (if b then [] else (if c then [] else f ∷ [])) ≡ [] → c ≡ true
none_of_two true c f is e = absurd (true≢false is)
none_of_two false true f is e = refl
none_of_two false false f is e = cc e

module _ (all : Groups) (file lock : File) (names : List (List ℕ)) (ss : List ProjectString) (qs : List LockedRequirement) (zs : List StringReading) (g : AllZip (IsStringReading all file) ss zs) where
  some_there : (xs : List LineMeaning) → AllZip (IsRequirementReading lock.name) qs xs → differing names zs xs ≡ [] → nat_lt 0 (length qs) ≡ true → flat_map (unentered_in names xs) zs ≡ []
  some_there [] h e some = absurd (nothing qs h some)
    where
      nothing : (rs : List LockedRequirement) → AllZip (IsRequirementReading lock.name) rs [] → nat_lt 0 (length rs) ≡ true → ⊥
      nothing [] k more = true≢false (sym more)
      nothing (r ∷ rs) k more = absurd k
  some_there (x ∷ xs) h e some = left_nil (flat_map (unentered_in names (x ∷ xs)) zs) (flat_map (unrequired_in names zs) (x ∷ xs)) e

  nothing_unrequired : (xs : List LineMeaning) → differing names zs xs ≡ [] → flat_map (unrequired_in names zs) xs ≡ []
  nothing_unrequired [] e = refl
  nothing_unrequired (x ∷ xs) e = right_nil (flat_map (unentered_in names (x ∷ xs)) zs) (flat_map (unrequired_in names zs) (x ∷ xs)) e

  module _ (xs : List LineMeaning) (h : AllZip (IsRequirementReading lock.name) qs xs) (found : differing names zs xs ≡ []) where
    -- the requirement of a string is there
    pub entered : (s : ProjectString) (n : Needed) → Contains ss s → nat_lt 0 (length qs) ≡ true → IsDeclared all s.section → Requires s n → list_any (bytes_eq (normal n.name)) names ≡ false → (q : LockedRequirement) × Contains qs q × IsEntryFor n q
    entered s n (i, within, here) some counts (plain, d, (m, has), url) other =
        let line = string_line file s in
        let (z, (c, in_z, is_z), (same, is, python)) = beside_it (IsStringReading all file) ss zs s i within here g in
        let nothing : flat_map (unentered names xs) (if is_declared z.section then demands_in z.meaning else []) ≡ [] = nil_at (unentered_in names xs) zs z c in_z is_z (some_there xs h found some) in
        let asked : z.meaning ≡ Asks (line_demand line m n) = asks line n plain d url m all s.text s.section z.meaning has counts is in
        let locked : is_declared z.section ≡ true = ap is_declared same ∙ declared_left (is_declared s.section) (has_own_extras all s.section) counts in
        let one : unentered names xs (line_demand line m n) ++ [] ≡ [] = (λ k. flat_map (unentered names xs) (if sym locked k then demands_in (sym asked k) else [])) ∙ nothing in
        let is_there = none_of_two (list_any (bytes_eq (normal n.name)) names) (list_any (is_in_lock (line_demand line m n)) xs) (unmatched unentered_reason (line_demand line m n)) other (left_nil (unentered names xs (line_demand line m n)) [] one) in
        let (q, x, known, r, passes) = beside_some (IsRequirementReading lock.name) (is_in_lock (line_demand line m n)) qs xs h is_there in
        (q, known, entry_of lock.name q line m n x r passes)

    or_false : (a b : Bool) → a ≡ false → b ≡ false → (a || b) ≡ false
    or_false true b e f = absurd (true≢false e)
    or_false false b e f = f

    -- what is there a string requires
    pub required : (q : LockedRequirement) (list : List Spec) → Contains qs q → DerivesList q.list list → q.is_reference ≡ false → list_any (bytes_eq (normal q.name)) names ≡ false
        → (s : ProjectString) × (n : Needed) × Contains ss s × IsDeclared all s.section × Requires s n × IsEntryFor n q
    required q list (i, within, at) d plain other =
        let (x, (c, in_x, is_x), r) = beside_it (IsRequirementReading lock.name) qs xs q i within at h in
        let nothing : unrequired_in names zs x ≡ [] = nil_at (unrequired_in names zs) xs x c in_x is_x (nothing_unrequired xs found) in
        let one : unrequired names zs (entry_demand lock.name q list) ++ [] ≡ [] = ap (unrequired_in names zs) (sym (is_asked r)) ∙ nothing in
        let is_there = none_of_two (list_any (bytes_eq (normal q.name)) names || is_some (reference_marker q.is_reference)) (list_any (is_in_project (entry_demand lock.name q list)) zs) (unmatched unrequired_reason (entry_demand lock.name q list))
        (or_false (list_any (bytes_eq (normal q.name)) names) (is_some (reference_marker q.is_reference)) other (reference q.is_reference ∙ plain)) (left_nil (unrequired names zs (entry_demand lock.name q list)) [] one) in
        let (s, z, known, k, passes) = beside_some (IsStringReading all file) (is_in_project (entry_demand lock.name q list)) ss zs g is_there in
        let (n, counts, requires, of) = some_string lock.name q list d all file s z k passes in
        (s, n, known, counts, requires, of)
      where
        is_asked : {x : LineMeaning} → IsRequirementReading lock.name q x → x ≡ Asks (entry_demand lock.name q list)
        is_asked (inl (l, e, is)) = is ∙ ap (λ (l : List Spec). Asks (entry_demand lock.name q l)) (one_list q.list l list e d)
        is_asked (inr (f, r, is)) = absurd (not_both_list q.list list f d r)
