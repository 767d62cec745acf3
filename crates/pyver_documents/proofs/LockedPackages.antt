-- Packages that a lock leaves out in known environments, and requirements beside the packages of a lock, which exclude them, or which none of them meets.
use Rattle.std.proofs.Common.{◌≡◌, ◌&&◌, Bool, true, false, refl, Option, Some, None, sym, ◌∙◌, ℕ, List, Result, Ok, Err, ap, cond, [], ◌∷◌, arith, suc, zero, is_none, ◌||◌, Bor, map, option_map, if◌then◌else◌, ◌==◌, length, subst, get_or, inl, inr, ◌<◌}
use Rattle.std.proofs.lemmas.Bool.{true≢false}
use Rattle.std.proofs.lemmas.List.Elements.{All-cons, All-contains_itself, All-nil}
use Rattle.std.proofs.lemmas.List.Folds.{list_any_at}
use Rattle.std.specs.List.{find, Contains, list_any, filter, AllZip, All, flat_map}
use Rattle.pep440_pick.specs.Names.{normal, same_name}
use Rattle.pep440_pick.specs.RequirementGrammar.{Needed}
use Rattle.pep440_rs.proofs.Reading.OneMeaning.{not_both_list, one_list}
use Rattle.pep440_rs.specs.Lists.ListGrammar.{DerivesList, RejectsList}
use Rattle.pep440_rs.specs.LiteralMatching.{list_matches_literally}
use Rattle.pep440_rs.specs.Specifiers.{Spec}
use Rattle.pep440_version.proofs.Reading.Agreement.{one_record}
use Rattle.pep440_version.proofs.Rejections.ExactlyOne.{not_both}
use Rattle.pep440_version.specs.Grammar.{Derives}
use Rattle.pep440_version.specs.Record.{Record}
use Rattle.pyver_documents.proofs.Walks.{all_flat, any-both, beside_it, beside_some, filter_some, left_false, left_nil, nil_at, right_false, right_nil, zip_each}
use Rattle.pyver_documents.specs.Comparing.{leaves_out_all, lack_finding, partly_locked, taken_packages, lack_without_marker, absent, accepts_version, excluded, has_name, is_allowed, lack_in, may_take, named_line, outside, unlocked}
use Rattle.pyver_documents.specs.DocumentKinds.{locked}
use Rattle.pyver_documents.specs.DocumentLaws.{FailsIn, CannotMeet, IsLack, IsLeftOut, IsLineOfName, IsOutside, IsOutsideList, MeetsIn, LocksVersion, SomeContained}
use Rattle.pyver_documents.specs.DocumentViews.{locked_reading_of}
use Rattle.pyver_documents.specs.Meanings.{LockedReading, IsConditionReading, IsLockedReading, IsVersionReading, package_line}
use Rattle.pyver_documents.specs.declared.locked_reading.LockedReading.{LockedReading as LockedReadingValue}
use Rattle.pyver_findings.specs.Demands.{Demand, line_demand}
use Rattle.pyver_findings.specs.FileLines.{FileLine, Finding, Conflicting}
use Rattle.pyver_findings.specs.declared.finding.Conflict.TheVariants.{PinOutside}
use Rattle.pyver_locks.specs.KnownEnvironments.{is_false, read_value, ReadCondition, is_left_out_in, known_environments, is_for, known_environment, python_record, marker_value, read_condition_of}
use Rattle.pyver_locks.specs.LockContents.{LockParts, LockedPackage, PackageCondition}
use Rattle.pyver_locks.specs.declared.known_environment.KnownEnvironment.{KnownEnvironment}
use Rattle.pyver_locks.specs.declared.known_environment.ReadCondition.{ReadCondition as ReadConditionValue}
use Rattle.pyver_markers.proofs.Readings.{last_is_value}
use Rattle.pyver_markers.specs.Environments.{Environment}
use Rattle.pyver_markers.specs.MarkerValues.{value}
use Rattle.pyver_requirements.proofs.MarkerReadings.{read_steps_are_derived}
use Rattle.pyver_requirements.proofs.MarkerStepReadings.{steps_are_read}
use Rattle.pyver_requirements.specs.MarkerSteps.{Misfit, Step, marker_steps, steps}

and_false : (b : Bool) → (b && false) ≡ false
and_false true = refl
and_false false = refl

false_so : (v : Option Bool) → is_false v ≡ true → v ≡ Some false
false_so (Some false) e = refl
false_so (Some true) e = absurd (true≢false (sym e))
false_so None e = absurd (true≢false (sym e))

-- a marker that does not hold is read so
pub fails : (e : Environment) (text : List ℕ) (r : Result (List Step) Misfit) → marker_steps text ≡ r → is_false (read_value e r) ≡ true → FailsIn e text
fails e text (Ok all) is so =
    let (m, denoted, same) = read_steps_are_derived text all is in
    (m, denoted, false_so (value e m) (ap is_false (sym (last_is_value e m all same)) ∙ so))
fails e text (Err f) is so = absurd (true≢false (sym so))

pub read_to_fail : (e : Environment) (text : List ℕ) → FailsIn e text → is_false (read_value e (marker_steps text)) ≡ true
read_to_fail e text (m, denoted, so) = ap (λ r. is_false (read_value e r)) (steps_are_read text m denoted) ∙ ap is_false (last_is_value e m (steps m) refl ∙ so)

-- ---- what is found

found_by : {X : Type 0} (p : X → Bool) (b : Bool) (x y : X) (later : Option X) → p x ≡ b → cond b (Some x) later ≡ Some y → (later ≡ Some y → p y ≡ true) → p y ≡ true
found_by p true x y later is found rest = let same : Some x ≡ Some y = found in let one : x ≡ y = cc same in sym (ap p one) ∙ is
found_by p false x y later is found rest = rest found

-- what is found passes the test
pub found_so : {X : Type 0} (p : X → Bool) (xs : List X) (y : X) → find p xs ≡ Some y → p y ≡ true
found_so p [] y found = cc found
found_so p (x ∷ xs) y found = found_by p (p x) x y (find p xs) refl found (found_so p xs y)

passed_over : {X : Type 0} (p : X → Bool) (b : Bool) (x : X) (later : Option X) → p x ≡ b → cond b (Some x) later ≡ None → (p x ≡ false) × (later ≡ None)
passed_over p true x later is none = cc none
passed_over p false x later is none = (is, none)

-- where nothing is found, none of them passes the test
pub none_so : {X : Type 0} (p : X → Bool) (xs : List X) (y : X) → Contains xs y → find p xs ≡ None → p y ≡ false
none_so p [] y (k, inside, at) none = absurd (omega (arith, inside))
none_so p (x ∷ xs) y (zero, inside, at) none = ap p (sym at) ∙ (passed_over p (p x) x (find p xs) refl none).0
none_so p (x ∷ xs) y (suc k, inside, at) none = none_so p xs y (k, omega (arith, inside), at) (passed_over p (p x) x (find p xs) refl none).1

-- where no element passes the test, nothing is found
pub nothing_found : {X : Type 0} (p : X → Bool) (xs : List X) → ((x : X) → p x ≡ false) → find p xs ≡ None
nothing_found p [] none = refl
nothing_found p (x ∷ xs) none = ap (λ b. cond b (Some x) (find p xs)) (none x) ∙ nothing_found p xs none

stays : (parts : LockParts) (k : KnownEnvironment) (b : Bool) (y : LockedReading) (c : Option ReadCondition) (rest : List LockedReading) → y.condition ≡ c → is_none c ≡ b → (b ≡ false → leaves_out_all parts rest k ≡ false) → (is_left_out_in parts k c && leaves_out_all parts rest k) ≡ false
stays parts k b y None rest is none later = refl
stays parts k true y (Some c) rest is none later = absurd (true≢false (sym none))
stays parts k false y (Some c) rest is none later = ap (λ a. is_left_out_in parts k (Some c) && a) (later refl) ∙ and_false (is_left_out_in parts k (Some c))

not_all : (parts : LockParts) (k : KnownEnvironment) (taken : List LockedReading) → list_any (λ (y : LockedReading). is_none y.condition) taken ≡ true → leaves_out_all parts taken k ≡ false
not_all parts k [] some = absurd (true≢false (sym some))
not_all parts k (y ∷ taken) some = stays parts k (is_none y.condition) y y.condition taken refl refl (λ other. not_all parts k taken (ap (λ b. b || list_any (λ (z : LockedReading). is_none z.condition) taken) (sym other) ∙ some))

same_conditions : (b : Bool) (values : List (Bor LockedReadingValue)) → b ≡ list_any (λ y. is_none y.now.condition) values → b ≡ list_any (λ (y : LockedReading). is_none y.condition) (map (λ y. locked_reading_of y.now) values)
same_conditions b values is = is ∙ each values
  where
    read_none : (c : Option ReadConditionValue) → is_none c ≡ is_none (option_map read_condition_of c)
    read_none None = refl
    read_none (Some c) = refl

    each : (all : List (Bor LockedReadingValue)) → list_any (λ y. is_none y.now.condition) all ≡ list_any (λ (y : LockedReading). is_none y.condition) (map (λ y. locked_reading_of y.now) all)
    each [] = refl
    each (y ∷ all) = λ i. read_none y.now.condition i || each all i

-- a package that is everywhere is left out in no environment
pub nowhere_lacking : (parts : LockParts) (line : FileLine) (values : List (Bor LockedReadingValue)) (b : Bool) → b ≡ list_any (λ y. is_none y.now.condition) values → b ≡ true → partly_locked parts line (map (λ y. locked_reading_of y.now) values) ≡ []
nowhere_lacking parts line [] b is some = refl
nowhere_lacking parts line (y ∷ values) b is some =
    let taken = map (λ (z : Bor LockedReadingValue). locked_reading_of z.now) (y ∷ values) in
    ap (lack_finding line) (nothing_found (leaves_out_all parts taken) known_environments (λ k. not_all parts k taken (sym (same_conditions b (y ∷ values) is) ∙ some)))

either_nil : (b : Bool) (fs : List Finding) → fs ≡ [] → (if b then fs else []) ≡ []
either_nil true fs none = none
either_nil false fs none = refl

-- nothing is lacking of no packages
pub none_taken : (parts : LockParts) (a : Demand) → lack_without_marker parts a [] ≡ []
none_taken parts a = either_nil (is_none a.marker) (partly_locked parts a.line []) refl

no_zero : (n : ℕ) → (suc n == 0) ≡ false
no_zero n = grind arith

-- nothing is left out where there is nothing
pub none_lacking : (parts : LockParts) (line : FileLine) (values : List (Bor LockedReadingValue)) (b : Bool) → b ≡ (length values == 0) → b ≡ true → partly_locked parts line (map (λ y. locked_reading_of y.now) values) ≡ []
none_lacking parts line [] b is none = refl
none_lacking parts line (y ∷ values) b is none = absurd (true≢false (sym none ∙ is ∙ no_zero (length values)))

-- what is lacking where there is something
pub some_lacking : (parts : LockParts) (line : FileLine) (values : List (Bor LockedReadingValue)) (b : Bool) → b ≡ (length values == 0) → b ≡ false → partly_locked parts line (map (λ y. locked_reading_of y.now) values) ≡ lack_finding line (find (leaves_out_all parts (map (λ y. locked_reading_of y.now) values)) known_environments)
some_lacking parts line [] b is some = absurd (true≢false (sym is ∙ some))
some_lacking parts line (y ∷ values) b is some = refl

-- ---- versions that a requirement excludes

and_left : (a b : Bool) → (a && b) ≡ true → a ≡ true
and_left true b e = refl
and_left false b e = absurd (true≢false (sym e))

and_right : (a b : Bool) → (a && b) ≡ true → b ≡ true
and_right true b e = e
and_right false b e = absurd (true≢false (sym e))

module _ (lock : List ℕ) (ps : List LockedPackage) (line : FileLine) (n : Needed) where
  -- what the requirement asks for
  abbrev pub always : Demand
  always = line_demand line None n

  abbrev pub IsHere : FileLine → Type 0
  IsHere = IsLineOfName lock ps n.name

  abbrev pub IsOutsideHere : Finding → Type 0
  IsOutsideHere = IsOutside lock ps n.name n.specifiers line

  shown : (b : Bool) (p : LockedPackage) (text : List ℕ) (v : Record) → Contains ps p → p.version ≡ Some text → Derives text v → same_name n.name p.name ≡ b → All IsHere (if b then package_line lock p ∷ [] else [])
  shown true p text v here written d e = All-cons IsHere (package_line lock p) [] (p, v, here, (e, text, written, d), refl) (All-nil IsHere)
  shown false p text v here written d e = All-nil IsHere

  hidden : (b : Bool) → All IsHere (if b then [] else [])
  hidden true = All-nil IsHere
  hidden false = All-nil IsHere

  line_right : (p : LockedPackage) (w : Option (List ℕ)) (y : LockedReading) → Contains ps p → p.version ≡ w → IsVersionReading (package_line lock p) p.name y.condition w y → All IsHere (named_line always y)
  line_right p None y here written is = subst (λ (z : LockedReading). All IsHere (named_line always z)) (sym is) (hidden (same_name n.name p.name))
  line_right p (Some text) y here written (inl (r, d, is)) = subst (λ (z : LockedReading). All IsHere (named_line always z)) (sym is) (shown (same_name n.name p.name) p text r here written d refl)
  line_right p (Some text) y here written (inr (f, r, is)) = subst (λ (z : LockedReading). All IsHere (named_line always z)) (sym is) (hidden (same_name n.name p.name))

  module _ (p : LockedPackage) (y : LockedReading) (text : List ℕ) (v : Record) (d : Derives text v) (same : same_name n.name p.name ≡ true) where
    -- a package with this version is read so
    version_read : (w : Option (List ℕ)) → w ≡ Some text → IsVersionReading (package_line lock p) p.name y.condition w y → y ≡ record { line = package_line lock p; name = normal p.name; condition = y.condition; version = Some v; invalid = None }
    version_read None written is = cc written
    version_read (Some t) written (inr (f, r, is)) =
        let equal : t ≡ text = cc written in
        absurd (not_both t v f (subst (λ (q : List ℕ). Derives q v) (sym equal) d) r)
    version_read (Some t) written (inl (r, c, is)) =
        let equal : t ≡ text = cc written in
        let one : r ≡ v = one_record t r v c (subst (λ (q : List ℕ). Derives q v) (sym equal) d) in
        is ∙ ap (λ (q : Record). record { line = package_line lock p; name = normal p.name; condition = y.condition; version = Some q; invalid = None }) one

    module _ (written : p.version ≡ Some text) (is : IsLockedReading lock p y) where
      allowed_is : is_allowed always y ≡ list_matches_literally n.specifiers v
      allowed_is = ap (λ (z : LockedReading). is_allowed always z) (version_read p.version written is.1) ∙ ap (λ (b : Bool). b && list_matches_literally n.specifiers v) same

      line_is : named_line always y ≡ package_line lock p ∷ []
      line_is = ap (λ (z : LockedReading). named_line always z) (version_read p.version written is.1) ∙ ap (λ (b : Bool). if b then package_line lock p ∷ [] else []) same

  -- a package has another name than the requirement
  abbrev pub HasOtherName : LockedPackage → Type 0
  HasOtherName p = same_name n.name p.name ≡ false

  name_is : (p : LockedPackage) (w : Option (List ℕ)) (y : LockedReading) → IsVersionReading (package_line lock p) p.name y.condition w y → has_name always y ≡ same_name n.name p.name
  name_is p None y is = ap (λ (z : LockedReading). has_name always z) is
  name_is p (Some text) y (inl (r, d, is)) = ap (λ (z : LockedReading). has_name always z) is
  name_is p (Some text) y (inr (f, r, is)) = ap (λ (z : LockedReading). has_name always z) is

  pub none_named : (qs : List LockedPackage) (ys : List LockedReading) → AllZip (IsLockedReading lock) qs ys → list_any (has_name always) ys ≡ false → All HasOtherName qs
  none_named [] [] h e = All-nil HasOtherName
  none_named [] (y ∷ ys) h e = absurd h
  none_named (p ∷ qs) [] h e = absurd h
  none_named (p ∷ qs) (y ∷ ys) h e =
      All-cons HasOtherName p qs (sym (name_is p p.version y h.0.1) ∙ left_false (has_name always y) (list_any (has_name always) ys) e) (none_named qs ys h.1 (right_false (has_name always y) (list_any (has_name always) ys) e))

  no_nil : (b : Bool) (f : Finding) → (if b then [] else f ∷ []) ≡ [] → b ≡ true
  no_nil true f e = refl
  no_nil false f e = cc e

  -- ---- environments in which no package meets the requirement

  abbrev pub IsLackHere : LockParts → Finding → Type 0
  IsLackHere parts = IsLack parts ps n line

  -- a package whose version the list does not contain
  other_version : (p : LockedPackage) (w : Option (List ℕ)) (y : LockedReading) → p.version ≡ w → IsVersionReading (package_line lock p) p.name y.condition w y → may_take n.specifiers y ≡ false → IsOutsideList n.specifiers p
  other_version p None y written is not_taken = absurd (true≢false (ap (λ (z : LockedReading). may_take n.specifiers z) (sym is) ∙ not_taken))
  other_version p (Some text) y written (inl (r, d, is)) not_taken = (text, r, written, d, ap (λ (z : LockedReading). may_take n.specifiers z) (sym is) ∙ not_taken)
  other_version p (Some text) y written (inr (f, r, is)) not_taken = absurd (true≢false (ap (λ (z : LockedReading). may_take n.specifiers z) (sym is) ∙ not_taken))

  module _ (parts : LockParts) (k : KnownEnvironment) where
    left_out : (p : LockedPackage) (w : Option PackageCondition) (c : Option ReadCondition) → p.condition ≡ w → IsConditionReading w c → is_left_out_in parts k c ≡ true → IsLeftOut parts k p
    left_out p None c written is out = absurd (true≢false (sym (ap (is_left_out_in parts k) (sym is) ∙ out)))
    left_out p (Some w) c written (inr (f, r, is)) out = absurd (true≢false (sym (ap (is_left_out_in parts k) (sym is) ∙ out)))
    left_out p (Some w) c written (inl (list, d, is)) out =
        let both : (list_matches_literally list (python_record k.minor) && (is_false (marker_value parts k w.marker) && is_for parts k)) ≡ true = ap (is_left_out_in parts k) (sym is) ∙ out in
        let so = and_right (list_matches_literally list (python_record k.minor)) (is_false (marker_value parts k w.marker) && is_for parts k) both in (
          w,
          list,
          written,
          d,
          and_left (list_matches_literally list (python_record k.minor)) (is_false (marker_value parts k w.marker) && is_for parts k) both,
          and_right (is_false (marker_value parts k w.marker)) (is_for parts k) so,
          fails (known_environment parts k) w.marker (marker_steps w.marker) refl (and_left (is_false (marker_value parts k w.marker)) (is_for parts k) so),
        )

    -- a package that cannot be taken there
    one_lacks : (b c d : Bool) (p : LockedPackage) (y : LockedReading) (rest : List LockedReading) → IsLockedReading lock p y → has_name always y ≡ b → may_take n.specifiers y ≡ c → is_left_out_in parts k y.condition ≡ d
        → leaves_out_all parts (filter (may_take n.specifiers) (cond b (y ∷ rest) rest)) k ≡ true → CannotMeet parts n k p × (leaves_out_all parts (filter (may_take n.specifiers) rest) k ≡ true)
    one_lacks false c d p y rest r named taken out all = (inl (inl (sym (name_is p p.version y r.1) ∙ named)), all)
    one_lacks true false d p y rest r named taken out all =
        (inl (inr (other_version p p.version y refl r.1 taken)), ap (λ f. leaves_out_all parts (cond f (y ∷ filter (may_take n.specifiers) rest) (filter (may_take n.specifiers) rest)) k) (sym taken) ∙ all)
    one_lacks true true d p y rest r named taken out all =
        let both : (is_left_out_in parts k y.condition && leaves_out_all parts (filter (may_take n.specifiers) rest) k) ≡ true =
        ap (λ f. leaves_out_all parts (cond f (y ∷ filter (may_take n.specifiers) rest) (filter (may_take n.specifiers) rest)) k) (sym taken) ∙ all in (
          inr (left_out p p.condition y.condition refl r.0 (and_left (is_left_out_in parts k y.condition) (leaves_out_all parts (filter (may_take n.specifiers) rest) k) both)),
          and_right (is_left_out_in parts k y.condition) (leaves_out_all parts (filter (may_take n.specifiers) rest) k) both,
        )

    all_lack : (qs : List LockedPackage) (ys : List LockedReading) → AllZip (IsLockedReading lock) qs ys → leaves_out_all parts (taken_packages ys always) k ≡ true → All (CannotMeet parts n k) qs
    all_lack [] ys h all = All-nil (CannotMeet parts n k)
    all_lack (p ∷ qs) [] h all = absurd h
    all_lack (p ∷ qs) (y ∷ ys) h all =
        let (here, later) = one_lacks (has_name always y) (may_take n.specifiers y) (is_left_out_in parts k y.condition) p y (filter (has_name always) ys) h.0 refl refl refl all in
        All-cons (CannotMeet parts n k) p qs here (all_lack qs ys h.1 later)

  -- the list contains the version of a package that it may take
  inside_list : (p : LockedPackage) (y : LockedReading) → IsOutsideList n.specifiers p → IsLockedReading lock p y → may_take n.specifiers y ≡ true → ⊥
  inside_list p y (text, v, written, d, differs) r taken = inside_by p.version written r.1
    where
      inside_by : (w : Option (List ℕ)) → w ≡ Some text → IsVersionReading (package_line lock p) p.name y.condition w y → ⊥
      inside_by None is read = cc is
      inside_by (Some t) is (inr (f, rejected, read)) =
          let equal : t ≡ text = cc is in
          not_both t v f (subst (λ (q : List ℕ). Derives q v) (sym equal) d) rejected
      inside_by (Some t) is (inl (q, derived, read)) =
          let equal : t ≡ text = cc is in
          let one : q ≡ v = one_record t q v derived (subst (λ (s : List ℕ). Derives s v) (sym equal) d) in
          true≢false (sym taken ∙ ap (λ (z : LockedReading). may_take n.specifiers z) read ∙ ap (list_matches_literally n.specifiers) one ∙ differs)

  -- a package that is left out is read so
  is_out : (parts : LockParts) (k : KnownEnvironment) (p : LockedPackage) (y : LockedReading) → IsLeftOut parts k p → IsLockedReading lock p y → is_left_out_in parts k y.condition ≡ true
  is_out parts k p y (c, list, written, d, for_python, for_it, fails_there) r = out_by p.condition written r.0
    where
      same_list : (q : List Spec) → q ≡ list → is_left_out_in parts k (Some (record { python = q; marker = c.marker })) ≡ true
      same_list q one =
          ap (λ (s : List Spec). list_matches_literally s (python_record k.minor) && (is_false (marker_value parts k c.marker) && is_for parts k)) one
          ∙ ap (λ b. b && (is_false (marker_value parts k c.marker) && is_for parts k)) for_python ∙ ap (λ b. b && is_for parts k) (read_to_fail (known_environment parts k) c.marker fails_there) ∙ for_it

      out_by : (w : Option PackageCondition) → w ≡ Some c → IsConditionReading w y.condition → is_left_out_in parts k y.condition ≡ true
      out_by None is read = cc is
      out_by (Some q) is (inr (f, rejected, read)) =
          let equal : q ≡ c = cc is in
          absurd (not_both_list c.python list f d (subst (λ (z : PackageCondition). RejectsList z.python f) equal rejected))
      out_by (Some q) is (inl (s, derived, read)) =
          let equal : q ≡ c = cc is in
          ap (is_left_out_in parts k) read ∙ ap (λ (z : PackageCondition). is_left_out_in parts k (Some (record { python = s; marker = z.marker }))) equal
          ∙ same_list s (one_list c.python s list (subst (λ (z : PackageCondition). DerivesList z.python s) equal derived) d)

  module _ (ys : List LockedReading) (h : AllZip (IsLockedReading lock) ps ys) where
    lack_right : (parts : LockParts) (found : Option KnownEnvironment) → find (leaves_out_all parts (taken_packages ys always)) known_environments ≡ found → All (IsLackHere parts) (lack_finding line found)
    lack_right parts None is = All-nil (IsLackHere parts)
    lack_right parts (Some k) is =
        let all = found_so (leaves_out_all parts (taken_packages ys always)) known_environments k is in
        All-cons (IsLackHere parts) (lack_in line k) [] (record { environment = k; none = all_lack parts k ps ys h all; is = refl }) (All-nil (IsLackHere parts))

    partly_by : (parts : LockParts) (needed : List LockedReading) → taken_packages ys always ≡ needed → All (IsLackHere parts) (partly_locked parts line needed)
    partly_by parts [] is = All-nil (IsLackHere parts)
    partly_by parts (y ∷ needed) is = subst (λ (all : List LockedReading). All (IsLackHere parts) (lack_finding line (find (leaves_out_all parts all) known_environments))) is (lack_right parts (find (leaves_out_all parts (taken_packages ys always)) known_environments) refl)

    -- what is said of an environment is right
    pub partly_right : (parts : LockParts) → All (IsLackHere parts) (partly_locked parts line (taken_packages ys always))
    partly_right parts = partly_by parts (taken_packages ys always) refl

    none_contained : list_any (is_allowed always) ys ≡ false → SomeContained ps n.name n.specifiers → ⊥
    none_contained none (p, v, (k, inside, at), (same, text, written, d), contained) =
        let (y, (j, within, here), r) = beside_it (IsLockedReading lock) ps ys p k inside at h in
        let there : list_any (is_allowed always) ys ≡ true = list_any_at (is_allowed always) ys j y within (ap (λ (z : LockedReading). is_allowed always z) here ∙ allowed_is p y text v d same written r ∙ contained) in
        true≢false (sym there ∙ none)

    outside_right : (lines : List FileLine) → All IsHere lines → (SomeContained ps n.name n.specifiers → ⊥) → All IsOutsideHere (outside line lines)
    outside_right [] each none = All-nil IsOutsideHere
    outside_right (first ∷ others) each none =
        All-cons IsOutsideHere (Conflicting PinOutside (line ∷ (first ∷ others)) None) [] (record { first = first; others = others; each = each; none = none; is = refl }) (All-nil IsOutsideHere)

    excluded_by : (b : Bool) → list_any (is_allowed always) ys ≡ b → All IsOutsideHere (if b then [] else outside line (flat_map (named_line always) ys))
    excluded_by true e = All-nil IsOutsideHere
    excluded_by false e =
        outside_right (flat_map (named_line always) ys)
        (all_flat IsHere (named_line always) ys
        (zip_each (IsLockedReading lock) (Contains ps) (λ y. All IsHere (named_line always y)) (λ p y here r. line_right p p.version y here refl r.1) ps ys (All-contains_itself ps) h)) (none_contained e)

    -- what is excluded is right
    pub excluded_right : All IsOutsideHere (excluded always ys)
    excluded_right = excluded_by (list_any (is_allowed always) ys) refl

    module _ (p : LockedPackage) (k : ℕ) (inside : k < length ps) (at : get_or ps k p ≡ p) (v : Record) (locks : LocksVersion n.name p v) where
      known : (q : LockedPackage) (w : Option (List ℕ)) (z : LockedReading) → Contains ps q → q.version ≡ w → IsVersionReading (package_line lock q) q.name z.condition w z → is_allowed always z ≡ true → SomeContained ps n.name n.specifiers
      known q None z here written is e =
          let no : false ≡ true = and_right (same_name n.name q.name) false (ap (λ (x : LockedReading). is_allowed always x) (sym is) ∙ e) in
          absurd (true≢false (sym no))
      known q (Some text) z here written (inr (f, r, is)) e =
          let no : false ≡ true = and_right (same_name n.name q.name) false (ap (λ (x : LockedReading). is_allowed always x) (sym is) ∙ e) in
          absurd (true≢false (sym no))
      known q (Some text) z here written (inl (r, d, is)) e =
          let both : (same_name n.name q.name && list_matches_literally n.specifiers r) ≡ true = ap (λ (x : LockedReading). is_allowed always x) (sym is) ∙ e in
          (q, r, here, (and_left (same_name n.name q.name) (list_matches_literally n.specifiers r) both, text, written, d), and_right (same_name n.name q.name) (list_matches_literally n.specifiers r) both)

      outside_nil : (lines : List FileLine) → outside line lines ≡ [] → lines ≡ []
      outside_nil [] e = refl
      outside_nil (first ∷ others) e = cc e

      contained_by : (b : Bool) → list_any (is_allowed always) ys ≡ b → (if b then [] else outside line (flat_map (named_line always) ys)) ≡ [] → SomeContained ps n.name n.specifiers
      contained_by true e none =
          let (q, z, here, r, allowed) = beside_some (IsLockedReading lock) (is_allowed always) ps ys h e in
          known q q.version z here refl r.1 allowed
      contained_by false e none =
          let (same, text, written, d) = locks in
          let (y, (j, within, here), r) = beside_it (IsLockedReading lock) ps ys p k inside at h in
          let no_line : named_line always y ≡ [] = nil_at (named_line always) ys y j within here (outside_nil (flat_map (named_line always) ys) none) in
          let no : package_line lock p ∷ [] ≡ [] = sym (line_is p y text v d same written r) ∙ no_line in
          cc no

      -- where nothing is excluded, a version is contained
      pub not_excluded : excluded always ys ≡ [] → SomeContained ps n.name n.specifiers
      not_excluded none = contained_by (list_any (is_allowed always) ys) refl none

    may_from : (b c d : Bool) → (b && c) ≡ true → (b && (d || c)) ≡ true
    may_from true true true e = refl
    may_from true true false e = refl
    may_from true false d e = absurd (true≢false (sym e))
    may_from false c d e = absurd (true≢false (sym e))

    -- what has the name of the requirement and may be taken
    abbrev pub may_be_taken : LockedReading → Bool
    may_be_taken y = has_name always y && may_take n.specifiers y

    also_taken : (m : ℕ) (y : LockedReading) → m < length ys → get_or ys m y ≡ y → is_allowed always y ≡ true → list_any may_be_taken ys ≡ true
    also_taken m y among is allowed = list_any_at may_be_taken ys m y among (ap may_be_taken is ∙ may_from (has_name always y) (accepts_version n.specifiers y.version) (is_none y.version) allowed)

    -- some version is contained where one of the name is read, and nothing is excluded
    taken_by : (b : Bool) (p : LockedPackage) (z : LockedReading) → Contains ps p → Contains ys z → IsLockedReading lock p z → has_name always z ≡ true → may_take n.specifiers z ≡ b → excluded always ys ≡ [] → list_any may_be_taken ys ≡ true
    taken_by true p z here (j, within, there) r named taken none =
        list_any_at may_be_taken ys j z within (ap may_be_taken there ∙ ap (λ c. c && may_take n.specifiers z) named ∙ taken)
    taken_by false p z (k, inside, at) there r named taken none =
        let (text, v, written, d, differs) = other_version p p.version z refl r.1 taken in
        let same : same_name n.name p.name ≡ true = sym (name_is p p.version z r.1) ∙ named in
        let (q, w, (i, under, found), (alike, letters, spelled, e), contained) = not_excluded p k inside at v (same, text, written, d) none in
        let (y, (m, among, is), s) = beside_it (IsLockedReading lock) ps ys q i under found h in
        also_taken m y among is (allowed_is q y letters w e alike spelled s ∙ contained)

    -- a package has the name of the requirement, where none is absent
    pub some_named : absent ys always ≡ [] → (p : LockedPackage) × Contains ps p × (same_name n.name p.name ≡ true)
    some_named present =
        let (p, y, here, r, named) = beside_some (IsLockedReading lock) (has_name always) ps ys h (no_nil (list_any (has_name always) ys) _ present) in
        (p, here, sym (name_is p p.version y r.1) ∙ named)

    some_taken : absent ys always ≡ [] → excluded always ys ≡ [] → list_any may_be_taken ys ≡ true
    some_taken present none =
        let (p, y, (k, inside, at), r, named) = beside_some (IsLockedReading lock) (has_name always) ps ys h (no_nil (list_any (has_name always) ys) _ present) in
        let (z, there, s) = beside_it (IsLockedReading lock) ps ys p k inside at h in
        taken_by (may_take n.specifiers z) p z (k, inside, at) there s (name_is p p.version z s.1 ∙ sym (name_is p p.version y r.1) ∙ named) refl none

    -- the first of them, or one of the others
    one_of : (parts : LockParts) (k : KnownEnvironment) (b c d : Bool) (p : LockedPackage) (z : LockedReading) (qs : List LockedPackage) (zs : List LockedReading) → IsLockedReading lock p z → has_name always z ≡ b → may_take n.specifiers z ≡ c
        → is_left_out_in parts k z.condition ≡ d → (leaves_out_all parts (taken_packages zs always) k ≡ false → (q : LockedPackage) × Contains (p ∷ qs) q × MeetsIn parts n k q)
        → leaves_out_all parts (filter (may_take n.specifiers) (cond b (z ∷ filter (has_name always) zs) (filter (has_name always) zs))) k ≡ false
        → (q : LockedPackage) × Contains (p ∷ qs) q × MeetsIn parts n k q
    one_of parts k false c d p z qs zs r named taken out later rest = later rest
    one_of parts k true false d p z qs zs r named taken out later rest = later (ap (λ f. leaves_out_all parts (cond f (z ∷ taken_packages zs always) (taken_packages zs always)) k) (sym taken) ∙ rest)
    one_of parts k true true true p z qs zs r named taken out later rest =
        later (ap (λ f. f && leaves_out_all parts (taken_packages zs always) k) (sym out) ∙ ap (λ f. leaves_out_all parts (cond f (z ∷ taken_packages zs always) (taken_packages zs always)) k) (sym taken) ∙ rest)
    one_of parts k true true false p z qs zs r named taken out later rest =
        (p, (zero, omega arith, refl), (sym (name_is p p.version z r.1) ∙ named, (λ outside. inside_list p z outside r taken), (λ leaves. true≢false (sym (is_out parts k p z leaves r) ∙ out))))

    further : (parts : LockParts) (k : KnownEnvironment) (p : LockedPackage) (qs : List LockedPackage) → ((q : LockedPackage) × Contains qs q × MeetsIn parts n k q) → (q : LockedPackage) × Contains (p ∷ qs) q × MeetsIn parts n k q
    further parts k p qs (q, (i, inside, at), meets) = (q, (suc i, omega (arith, inside), at), meets)

    -- one of those that are taken is there, where not all are left out
    not_all_out : (parts : LockParts) (k : KnownEnvironment) (qs : List LockedPackage) (zs : List LockedReading) → AllZip (IsLockedReading lock) qs zs → leaves_out_all parts (taken_packages zs always) k ≡ false → (p : LockedPackage) × Contains qs p × MeetsIn parts n k p
    not_all_out parts k [] [] r none = absurd (true≢false none)
    not_all_out parts k [] (z ∷ zs) r none = absurd r
    not_all_out parts k (p ∷ qs) [] r none = absurd r
    not_all_out parts k (p ∷ qs) (z ∷ zs) (r, others) none =
        one_of parts k (has_name always z) (may_take n.specifiers z) (is_left_out_in parts k z.condition) p z qs zs r refl refl refl (λ rest. further parts k p qs (not_all_out parts k qs zs others rest)) none

    found_none : (parts : LockParts) (taken : List LockedReading) (k : KnownEnvironment) (found : Option KnownEnvironment) → find (leaves_out_all parts taken) known_environments ≡ found → lack_finding line found ≡ [] → Contains known_environments k → leaves_out_all parts taken k ≡ false
    found_none parts taken k (Some e) so nil inside = cc nil
    found_none parts taken k None so nil inside = none_so (leaves_out_all parts taken) known_environments k inside so

    met_in : (parts : LockParts) (taken : List LockedReading) (k : KnownEnvironment) → (taken ≡ [] → ⊥) → partly_locked parts line taken ≡ [] → Contains known_environments k → leaves_out_all parts taken k ≡ false
    met_in parts [] k some none inside = absurd (some refl)
    met_in parts (y ∷ taken) k some none inside = found_none parts (y ∷ taken) k (find (leaves_out_all parts (y ∷ taken)) known_environments) refl none inside

    -- where nothing is lacking or excluded, some package meets the requirement in each environment
    pub met_everywhere : (parts : LockParts) → unlocked parts ys always ≡ [] → excluded always ys ≡ [] → (k : KnownEnvironment) → Contains known_environments k → (p : LockedPackage) × Contains ps p × MeetsIn parts n k p
    met_everywhere parts locked none k inside =
        let taken = taken_packages ys always in
        let present = left_nil (absent ys always) (lack_without_marker parts always taken) locked in
        let complete = right_nil (absent ys always) (lack_without_marker parts always taken) locked in
        let some : list_any (may_take n.specifiers) (filter (has_name always) ys) ≡ true = any-both (has_name always) (may_take n.specifiers) ys ∙ some_taken present none in
        let met = met_in parts taken k (λ nil. filter_some (may_take n.specifiers) (filter (has_name always) ys) some nil) complete inside in
        not_all_out parts k ps ys h met
