-- What is reported: a line by itself is no requirement; lines together count together, and no version is allowed by all.
use Rattle.std.proofs.Common.{◌≡◌, ◌⊎◌, ◌∙◌, ℕ, List, [], ◌∷◌, ◌++◌, ◌&&◌, ◌||◌, Bool, true, false, IsTrue, Option, Some, None, Result, Ok, Err, bytes_eq, is_none, map, option_map, refl, sym, ap, subst, inl, inr, if◌then◌else◌}
use Rattle.std.proofs.lemmas.Bool.{true≢false}
use Rattle.std.proofs.lemmas.List.{map-append}
use Rattle.std.proofs.lemmas.List.Elements.{All-append, All-cons, All-contains_itself, All-filter, All-head, All-nil, All-tail, All-weaker, filter_passes}
use Rattle.std.specs.List.{All, AllZip, Contains, filter, flat_map, list_any}
use Rattle.pep440_pick.proofs.Once.{one_requirement}
use Rattle.pep440_pick.specs.Names.{normal}
use Rattle.pep440_pick.specs.RequirementGrammar.{DerivesRequirement, Needed}
use Rattle.pep440_rs.proofs.Agreement.Operands.{list_has_texts}
use Rattle.pep440_rs.proofs.Denoted.{is_denotable}
use Rattle.pep440_rs.specs.Denoted.{IsDenotable}
use Rattle.pep440_rs.specs.LiteralMatching.{list_matches_literally}
use Rattle.pep440_rs.specs.Specifiers.SpecifierGrammar.{IsDenotedSpecifier}
use Rattle.pep440_version.specs.Record.{Record}
use Rattle.pyver_findings.specs.Demands.{Demand, IsSound, is_pinned, line_demand}
use Rattle.pyver_findings.specs.Conflicts.{conflict_kind, first_mentions, have_none, of_all, has_same_marker, has_same_name, smallest, unmarked}
use Rattle.pyver_findings.specs.FileLines.{Conflicting, File, FileLine, Finding, NoRequirement, all_lines}
use Rattle.pyver_findings.specs.NamedFiles.{constraints_files}
use Rattle.pyver_findings.specs.FindingLaws.{AreNeeded, AskTogether, AsksFor, CountsIn, FindingsHold, FitsConflict, HasMarker, IsRight, IsRightConflict, IsRightConstraint, IsRightHash, LineAllows, NamesVersion}
use Rattle.pyver_findings.specs.LineMeanings.{IsNone, LeftOut, LineMeaning, AsksNothing, IsKindMeaning, IsMeaning, constraint_faults, has_extras, has_right_url, kind_faults, requirement_meaning, has_scheme, names_file, under_marker, with_marker, with_url}
use Rattle.pyver_findings.specs.MarkedConflicts.{AskUnder, AsksIn, FindsByUnmarked, FindsDecided, FindsOfEach, FindsOfFirsts, FindsOfName, FindsOfNames, FindsOfSet, FindsOfSets, IsDecision, conflicting_sets, counts_with, everywhere, few_first_lines, lines_to_pair, under_any}
use Rattle.pyver_findings.proofs.LackedHashes.{hashes_right}
use Rattle.pyver_findings.proofs.Grouping.{marker_yes}
use Rattle.pyver_findings.proofs.MarkedConflicts.{of_marker_of}
use Rattle.pyver_findings.proofs.SmallestLists.{Allows, IsSpared, all_smallest, none_allowed, smallest_none, smallest_right}
use Rattle.pyver_findings.proofs.Rejecting.{invalid_right}
use Rattle.pyver_findings.specs.Hashes.{lacks_hashes}
use Rattle.pyver_findings.specs.Reports.{Report, demands_in, found_in, invalid_in}
use Rattle.pyver_requirements.specs.declared.cause.Cause.{Cause}
use Rattle.pyver_requirements.specs.declared.cause.Cause.TheVariants as cause
use Rattle.pyver_findings.specs.declared.finding.Conflict.TheVariants.{NoVersion, PinOutside, TwoPins}
use Rattle.pyver_findings.specs.declared.marked_conflicts.Decision.{Decision}
use Rattle.pyver_findings.specs.declared.marked_conflicts.Decision.TheVariants.{Apart, Together, Unknown}
use Rattle.pyver_markers.specs.Conditions.{Domain}
use Rattle.pyver_markers.specs.Environments.{Environment}
use Rattle.pyver_requirements.specs.LineKinds.{ConstraintsFile, Editable, Invalid, LineKind, Location, PipOption, Requirement, RequirementsFile, Variable, has_variable, line_kind}
use Rattle.pyver_requirements.specs.LineParts.{LineParts, pip_parts}
use Rattle.pyver_requirements.specs.MarkerReading.{marker}
use Rattle.pyver_requirements.specs.MarkerSteps.{Misfit}

-- ---- what a line asks for

module _ (parts : List ℕ → LineParts) where
  -- the line derives a requirement whose name has the normal form of the demand, with this list, and with a pin where it has one
  abbrev pub IsDerived : Demand → Type 0
  IsDerived a =
      (n : Needed) × DerivesRequirement (parts a.line.text).requirement n × (normal n.name ≡ a.name) × (is_pinned n.specifiers ≡ a.pinned) × (n.specifiers ≡ a.specifiers)

  -- strings give the members of its list
  pub derived_sound : (a : Demand) → IsDerived a → IsSound a
  derived_sound a (n, d, called, pinned, same) =
      subst (All IsDenotable) same (All-weaker IsDenotedSpecifier IsDenotable is_denotable n.specifiers (list_has_texts d.0 n.specifiers d.2))

  -- the line allows what the list contains
  line_allows : (v : Record) (a : Demand) → IsDerived a → Allows v a → LineAllows parts v a.line
  line_allows v a (n, d, called, pinned, same) h = (n, d, subst (λ list. IsTrue (list_matches_literally list v)) (sym same) h)

  allows_line : (v : Record) (a : Demand) → IsDerived a → LineAllows parts v a.line → Allows v a
  allows_line v a (n, d, called, pinned, same) (m, dm, h) =
      subst (λ list. IsTrue (list_matches_literally list v)) (ap (λ (q : Needed). q.specifiers) (one_requirement (parts a.line.text).requirement m n dm d) ∙ same) h

  pub sound : (lines : List Demand) → All IsDerived lines → All IsSound lines
  sound lines k = All-weaker IsDerived IsSound derived_sound lines k

  -- the lists contain what the lines allow, and the lines allow what the lists contain
  all_allow : (v : Record) (lines : List Demand) → All IsDerived lines → All (LineAllows parts v) (map (λ (a : Demand). a.line) lines) → All (Allows v) lines
  all_allow v [] k all = All-nil (Allows v)
  all_allow v (a ∷ lines) k all =
      let rest = map (λ (b : Demand). b.line) lines in
      All-cons (Allows v) a lines (allows_line v a (All-head IsDerived a lines k) (All-head (LineAllows parts v) a.line rest all)) (all_allow v lines (All-tail IsDerived a lines k) (All-tail (LineAllows parts v) a.line rest all))

  lines_allow : (v : Record) (lines : List Demand) → All IsDerived lines → All (Allows v) lines → All (LineAllows parts v) (map (λ (a : Demand). a.line) lines)
  lines_allow v [] k all = All-nil (LineAllows parts v)
  lines_allow v (a ∷ lines) k all =
      All-cons (LineAllows parts v) a.line (map (λ (b : Demand). b.line) lines) (line_allows v a (All-head IsDerived a lines k) (All-head (Allows v) a lines all))
      (lines_allow v lines (All-tail IsDerived a lines k) (All-tail (Allows v) a lines all))

  -- without any one of the lines some version is allowed
  needed : (front kept : List Demand) → All IsDerived front → All IsDerived kept → IsSpared front kept [] → AreNeeded parts (map (λ (a : Demand). a.line) front) (map (λ (a : Demand). a.line) kept)
  needed front [] f k s = tt
  needed front (a ∷ kept) f k ((v, denoted, here, there, behind), more) =
      let line = λ (b : Demand). b.line in
      let later = All-tail IsDerived a kept k in (
        (
          v,
          denoted,
          subst (All (LineAllows parts v)) (map-append line front kept)
              (lines_allow v (front ++ kept) (All-append IsDerived front kept f later) (All-append (Allows v) front kept here there)),
        ),
        subst (λ before. AreNeeded parts before (map line kept)) (map-append line front (a ∷ []))
            (needed (front ++ a ∷ []) kept (All-append IsDerived front (a ∷ []) f (All-cons IsDerived a [] (All-head IsDerived a kept k) (All-nil IsDerived))) later more),
      )

  -- one of these lines asks for it
  abbrev pub IsAsked : List FileLine → Demand → Type 0
  IsAsked read a = Contains read a.line × IsDerived a × HasMarker (parts a.line.text) a.marker

-- ---- what lines ask for

module _ (read : List FileLine) where
  of_file : (a b : Bool) → All (IsAsked pip_parts read) (demands_in (if a then LeftOut cause.Variable else (if b then LeftOut cause.Url else AsksNothing)))
  of_file true b = All-nil (IsAsked pip_parts read)
  of_file false true = All-nil (IsAsked pip_parts read)
  of_file false false = All-nil (IsAsked pip_parts read)

  of_specifiers : (b : Bool) (f : Finding) → All (IsAsked pip_parts read) (demands_in (if b then LeftOut cause.Url else IsNone f))
  of_specifiers true f = All-nil (IsAsked pip_parts read)
  of_specifiers false f = All-nil (IsAsked pip_parts read)

  module _ (l : FileLine) (known : Contains read l) where
    module _ (n : Needed) (d : DerivesRequirement (pip_parts l.text).requirement n) where
      of_url : (m : Option (List ℕ)) → HasMarker (pip_parts l.text) m → (url : Option (List ℕ)) → All (IsAsked pip_parts read) (demands_in (with_url l (pip_parts l.text) n m url))
      of_url m has None = All-cons (IsAsked pip_parts read) (line_demand l m n) [] (known, (n, d, refl, refl, refl), has) (All-nil (IsAsked pip_parts read))
      of_url m has (Some []) = All-nil (IsAsked pip_parts read)
      of_url m has (Some (b ∷ url)) = of_specifiers (has_right_url (b ∷ url) n) _

      of_result : (t : List ℕ) (r : Result (List ℕ) Misfit) → (pip_parts l.text).marker ≡ Some t → marker t ≡ r → All (IsAsked pip_parts read) (demands_in (under_marker l (pip_parts l.text) n r))
      of_result t (Ok m) is found = of_url (Some m) (ap (option_map marker) is ∙ ap Some found) (pip_parts l.text).url
      of_result t (Err f) is found = All-nil (IsAsked pip_parts read)

      at_marker : (t : Option (List ℕ)) → (pip_parts l.text).marker ≡ t → All (IsAsked pip_parts read) (demands_in (with_marker l (pip_parts l.text) n t))
      at_marker None is = of_url None (ap (option_map marker) is) (pip_parts l.text).url
      at_marker (Some t) is = of_result t (marker t) is refl

    same_reading : (x y : LineMeaning) → x ≡ y → All (IsAsked pip_parts read) (demands_in y) → All (IsAsked pip_parts read) (demands_in x)
    same_reading x y is k = subst (λ (z : LineMeaning). All (IsAsked pip_parts read) (demands_in z)) (sym is) k

    of_kind : (kind : LineKind) (x : LineMeaning) → IsKindMeaning l kind x → All (IsAsked pip_parts read) (demands_in x)
    of_kind (RequirementsFile path) x is = same_reading x (names_file path) is (of_file (has_variable path) (has_scheme path))
    of_kind (ConstraintsFile path) x is = same_reading x (names_file path) is (of_file (has_variable path) (has_scheme path))
    of_kind (Invalid f column) x is = same_reading x _ is (All-nil (IsAsked pip_parts read))
    of_kind Editable x is = same_reading x _ is (All-nil (IsAsked pip_parts read))
    of_kind PipOption x is = same_reading x _ is (All-nil (IsAsked pip_parts read))
    of_kind Variable x is = same_reading x _ is (All-nil (IsAsked pip_parts read))
    of_kind Location x is = same_reading x _ is (All-nil (IsAsked pip_parts read))
    of_kind Requirement x (inl (not_text, is)) = same_reading x _ is (All-nil (IsAsked pip_parts read))
    of_kind Requirement x (inr (text, inl (n, d, is))) = same_reading x (requirement_meaning l (pip_parts l.text) n) is (at_marker n d (pip_parts l.text).marker refl)
    of_kind Requirement x (inr (text, inr (f, r, is))) = same_reading x _ is (All-nil (IsAsked pip_parts read))

  pub all_asked : (lines : List FileLine) (xs : List LineMeaning) → All (Contains read) lines → AllZip IsMeaning lines xs → All (IsAsked pip_parts read) (flat_map demands_in xs)
  all_asked [] [] known h = All-nil (IsAsked pip_parts read)
  all_asked [] (x ∷ xs) known h = absurd h
  all_asked (l ∷ lines) [] known h = absurd h
  all_asked (l ∷ lines) (x ∷ xs) known h =
      All-append (IsAsked pip_parts read) (demands_in x) (flat_map demands_in xs) (of_kind l (All-head (Contains read) l lines known) (line_kind l.text) x h.0)
      (all_asked lines xs (All-tail (Contains read) l lines known) h.1)

-- ---- lists and markers

-- both hold of each
pub both : (P Q : Demand → Type 0) (lines : List Demand) → All P lines → All Q lines → All (λ a. P a × Q a) lines
both P Q [] p q = All-nil (λ a. P a × Q a)
both P Q (a ∷ lines) p q = All-cons (λ a. P a × Q a) a lines (All-head P a lines p, All-head Q a lines q) (both P Q lines (All-tail P a lines p) (All-tail Q a lines q))

-- what holds of demands holds so of their lines
pub mapped : (P : FileLine → Type 0) (Q : Demand → Type 0) → ((a : Demand) → Q a → P a.line) → (lines : List Demand) → All Q lines → All P (map (λ (a : Demand). a.line) lines)
mapped P Q so [] k = All-nil P
mapped P Q so (a ∷ lines) k = All-cons P a.line (map (λ (b : Demand). b.line) lines) (so a (All-head Q a lines k)) (mapped P Q so lines (All-tail Q a lines k))

-- ---- markers that hold together

pub asks_alike : (e : Environment) (a c : Demand) → c.marker ≡ a.marker → AsksIn e a → AsksIn e c
asks_alike e a c same (inl none) = inl (same ∙ none)
asks_alike e a c same (inr (text, is, holds)) = inr (text, same ∙ is, holds)

asks_by : (e : Environment) (a c : Demand) (set : List Demand) (b : Bool) → has_same_marker c a ≡ b → AsksIn e a → (b || list_any (has_same_marker c) set) ≡ true → (list_any (has_same_marker c) set ≡ true → AsksIn e c) → AsksIn e c
asks_by e a c set true is here some others = asks_alike e a c (marker_yes c.marker a.marker is) here
asks_by e a c set false is here some others = others some

asks_like_one : (e : Environment) (c : Demand) (set : List Demand) → All (AsksIn e) set → list_any (has_same_marker c) set ≡ true → AsksIn e c
asks_like_one e c [] ask some = absurd (true≢false (sym some))
asks_like_one e c (a ∷ set) ask some = asks_by e a c set (has_same_marker c a) refl (All-head (AsksIn e) a set ask) some (asks_like_one e c set (All-tail (AsksIn e) a set ask))

pub none_yes : (m : Option (List ℕ)) → is_none m ≡ true → m ≡ None
none_yes None e = refl
none_yes (Some text) e = absurd (true≢false (sym e))

asks_or : (e : Environment) (c : Demand) (set : List Demand) (b : Bool) → is_none c.marker ≡ b → All (AsksIn e) set → (b || list_any (has_same_marker c) set) ≡ true → AsksIn e c
asks_or e c set true is ask counts = inl (none_yes c.marker is)
asks_or e c set false is ask counts = asks_like_one e c set ask counts

-- beside lines that ask those with their markers do
pub asks_beside : (e : Environment) (set : List Demand) → All (AsksIn e) set → (c : Demand) → counts_with set c ≡ true → AsksIn e c
asks_beside e set ask c counts = asks_or e c set (is_none c.marker) refl ask counts

-- ---- what holds of each finding

-- it holds of what is found of each element
pub found_each : {X : Type 0} (Q : Finding → Type 0) (P : X → List Finding → List Cause → Type 0) → ((x : X) (fs : List Finding) (cs : List Cause) → P x fs cs → All Q fs) → (xs : List X) (fs : List Finding) (cs : List Cause)
    → FindsOfEach P xs fs cs → All Q fs
found_each Q P right [] fs cs (is, also) = subst (All Q) (sym is) (All-nil Q)
found_each Q P right (x ∷ rest) fs cs (f, g, c, d, here, later, is, also) = subst (All Q) (sym is) (All-append Q f g (right x f c here) (found_each Q P right rest g d later))

module _ (P : Finding → Type 0) where
  pub where_true : (b : Bool) (f : Finding) → (b ≡ true → P f) → All P (if b then f ∷ [] else [])
  where_true true f right = All-cons P f [] (right refl) (All-nil P)
  where_true false f right = All-nil P

-- ---- lines of one name

module _ (parts : List ℕ → LineParts) where
  module _ (read : List FileLine) where
    module _ (name : List ℕ) where
      abbrev pub IsNamed : Demand → Type 0
      IsNamed a = IsAsked parts read a × (bytes_eq name a.name ≡ true)

      asks_for : (a : Demand) → IsNamed a → AsksFor parts name a.line
      asks_for a ((known, (n, d, called, pinned, list), marked), same) = (n, d, ap (bytes_eq name) called ∙ same)

      names_version : (a : Demand) → IsNamed a → a.pinned ≡ true → NamesVersion parts a.line
      names_version a ((known, (n, d, called, pinned, list), marked), same) names = (n, d, pinned ∙ names)

      names_none : (a : Demand) → IsNamed a → a.pinned ≡ false → NamesVersion parts a.line → ⊥
      names_none a ((known, (n, d, called, pinned, list), marked), same) free (m, e, holds) =
          let one : n ≡ m = one_requirement (parts a.line.text).requirement n m d e in
          true≢false (sym holds ∙ sym (ap (λ (q : Needed). is_pinned q.specifiers) one) ∙ pinned ∙ free)

      fits : (a b : Demand) → IsNamed a → IsNamed b → (p q : Bool) → a.pinned ≡ p → b.pinned ≡ q → FitsConflict parts (if p && q then TwoPins else (if p || q then PinOutside else NoVersion)) (a.line ∷ (b.line ∷ []))
      fits a b one other true true p q = (a.line, b.line, refl, names_version a one p, names_version b other q)
      fits a b one other true false p q = (a.line, b.line, refl, inl (names_version a one p), λ two. names_none b other q two.1)
      fits a b one other false true p q = (a.line, b.line, refl, inr (names_version b other q), λ two. names_none a one p two.0)
      fits a b one other false false p q = tt

      kind_fits : (lines : List Demand) → All IsNamed lines → FitsConflict parts (conflict_kind lines) (map (λ (a : Demand). a.line) lines)
      kind_fits [] k = tt
      kind_fits (a ∷ []) k = tt
      kind_fits (a ∷ (b ∷ [])) k = fits a b (All-head IsNamed a (b ∷ []) k) (All-head IsNamed b [] (All-tail IsNamed a (b ∷ []) k)) a.pinned b.pinned refl refl
      kind_fits (a ∷ (b ∷ (c ∷ rest))) k = tt

      -- lines that count together
      derived : (lines : List Demand) → All IsNamed lines → All (IsDerived parts) lines
      derived lines k = All-weaker IsNamed (IsDerived parts) (λ a one. one.0.1) lines k

      all_right : (d : Domain) (environment : Option (List ℕ)) (lines : List Demand) → All IsNamed lines → AskTogether parts d environment (map (λ (a : Demand). a.line) (smallest lines)) → All (IsRightConflict parts d read) (of_all environment lines)
      all_right d environment lines named ask =
          let some = smallest lines in
          let these = all_smallest IsNamed lines named in
          where_true (IsRightConflict parts d read) (have_none lines) (Conflicting (conflict_kind some) (map (λ (a : Demand). a.line) some) environment) (λ e. (
            mapped (Contains read) IsNamed (λ a one. one.0.0) some these,
            ask,
            kind_fits some these,
            λ v denoted all. none_allowed some (sound parts some (derived some these)) (smallest_none lines e) v denoted (all_allow parts v some (derived some these) all),
            needed parts [] some (All-nil (IsDerived parts)) (derived some these) (smallest_right lines (sound parts lines (derived lines named)) e).2,
          ))

      abbrev pub IsBare : Demand → Type 0
      IsBare a = IsNamed a × (is_none a.marker ≡ true)

      bare_line : (a : Demand) → IsBare a → HasMarker (parts a.line.text) None
      bare_line a (((known, derived, marked), same), bare) = marked ∙ ap (option_map Ok) (none_yes a.marker bare)

      -- those without a marker ask always
      unmarked_right : (d : Domain) (lines : List Demand) → All IsNamed lines → All (IsRightConflict parts d read) (of_all None (unmarked lines))
      unmarked_right d lines k =
          let these = unmarked lines in
          let some = smallest these in
          let named = All-filter (λ (a : Demand). is_none a.marker) IsNamed lines k in
          let bare = both IsNamed (λ a. is_none a.marker ≡ true) these named (filter_passes (λ (a : Demand). is_none a.marker) lines) in
          all_right d None these named ((name, mapped (AsksFor parts name) IsNamed asks_for some (all_smallest IsNamed these named)), mapped (λ l. HasMarker (parts l.text) None) IsBare bare_line some (all_smallest IsBare these bare))

      -- ---- several markers

      abbrev pub IsAsking : Environment → Demand → Type 0
      IsAsking e c = IsNamed c × AsksIn e c

      in_environment : (e : Environment) (c : Demand) → IsAsking e c → CountsIn parts e c.line
      in_environment e c (((known, derived, marked), same), inl none) = inl (marked ∙ ap (option_map Ok) none)
      in_environment e c (((known, derived, marked), same), inr (text, is, holds)) = inr (text, marked ∙ ap (option_map Ok) is, holds)

      -- wherever all lines of the set ask, so do those under their markers
      under_count : (e : Environment) (set lines : List Demand) → All IsNamed lines → All (AsksIn e) set → All (CountsIn parts e) (map (λ (a : Demand). a.line) (smallest (under_any set lines)))
      under_count e set lines k ask =
          let these = under_any set lines in
          let named = All-filter (counts_with set) IsNamed lines k in
          let asking = both IsNamed (AsksIn e) these named (All-weaker (λ c. counts_with set c ≡ true) (AsksIn e) (asks_beside e set ask) these (filter_passes (counts_with set) lines)) in
          mapped (CountsIn parts e) (IsAsking e) (in_environment e) (smallest these) (all_smallest (IsAsking e) these asking)

      set_right : (d : Domain) (set lines : List Demand) (environment : List ℕ) → All IsNamed lines → AskUnder d set environment → All (IsRightConflict parts d read) (of_all (Some environment) (under_any set lines))
      set_right d set lines environment k (variables, asked, written) =
          let these = under_any set lines in
          let named = All-filter (counts_with set) IsNamed lines k in
          all_right d (Some environment) these named (
            variables,
            record {
              name = name;
              ask = mapped (AsksFor parts name) IsNamed asks_for (smallest these) (all_smallest IsNamed these named);
              environment = asked.environment;
              known = asked.known;
              has = asked.has;
              writable = asked.writable;
              count = λ e extends. under_count e set lines k (asked.ask e extends);
            },
            written,
          )

      none_right : (d : Domain) (fs : List Finding) → fs ≡ [] → All (IsRightConflict parts d read) fs
      none_right d fs none = subst (All (IsRightConflict parts d read)) (sym none) (All-nil (IsRightConflict parts d read))

      decided_right : (d : Domain) (x : Decision) (set lines : List Demand) → All IsNamed lines → IsDecision d set x → (fs : List Finding) (cs : List Cause) → FindsDecided x (under_any set lines) fs cs → All (IsRightConflict parts d read) fs
      decided_right d (Together environment) set lines k decided fs cs (is, also) = subst (All (IsRightConflict parts d read)) (sym is) (set_right d set lines environment.items k decided)
      decided_right d Apart set lines k decided fs cs (is, also) = none_right d fs is
      decided_right d Unknown set lines k decided fs cs (is, also) = none_right d fs is

      each_set_right : (d : Domain) (lines : List Demand) (sets : List (List Demand)) → All IsNamed lines → (fs : List Finding) (cs : List Cause) → FindsOfEach (FindsOfSet d lines) sets fs cs → All (IsRightConflict parts d read) fs
      each_set_right d lines sets k = found_each (IsRightConflict parts d read) (FindsOfSet d lines) (λ set fs cs finds. decided_right d finds.0 set lines k finds.1 fs cs finds.2) sets

      sets_right : (d : Domain) (lines : List Demand) (sets : List (List Demand)) (whole : Bool) → All IsNamed lines → (fs : List Finding) (cs : List Cause) → FindsOfSets d lines sets whole fs cs → All (IsRightConflict parts d read) fs
      sets_right d lines sets true k fs cs finds = each_set_right d lines sets k fs cs finds
      sets_right d lines sets false k fs cs (told, finds, also) = each_set_right d lines sets k fs told finds

      firsts_right : (d : Domain) (lines : List Demand) → All IsNamed lines → (firsts : Option (List Demand)) (fs : List Finding) (cs : List Cause) → FindsOfFirsts d lines firsts fs cs → All (IsRightConflict parts d read) fs
      firsts_right d lines k None fs cs (is, also) = none_right d fs is
      firsts_right d lines k (Some firsts) fs cs finds =
          let found = conflicting_sets lines (lines_to_pair lines firsts) in
          sets_right d lines found.sets found.whole k fs cs finds

      name_right : (d : Domain) (lines : List Demand) → All IsNamed lines → (b : Bool) (fs : List Finding) (cs : List Cause) → FindsByUnmarked d lines b fs cs → All (IsRightConflict parts d read) fs
      name_right d lines k true fs cs (is, also) = subst (All (IsRightConflict parts d read)) (sym is) (unmarked_right d lines k)
      name_right d lines k false fs cs (f, g, c, o, one, several, is, also) =
          subst (All (IsRightConflict parts d read)) (sym is)
          (All-append (IsRightConflict parts d read) f g
          (found_each (IsRightConflict parts d read) (of_marker_of d lines) (λ a fs cs finds. decided_right d finds.0 (a ∷ []) lines k finds.1 fs cs finds.2) (first_mentions has_same_marker [] lines) f c one)
          (firsts_right d lines k (few_first_lines lines) g o several))

    pub names_right : (d : Domain) (lines : List Demand) → All (IsAsked parts read) lines → (fs : List Finding) (cs : List Cause) → FindsOfNames d lines fs cs → All (IsRightConflict parts d read) fs
    names_right d lines k =
        found_each (IsRightConflict parts d read) (λ (a : Demand). FindsOfName d (filter (has_same_name a) lines))
        (λ a fs cs finds. let these = filter (has_same_name a) lines in name_right a.name d these (both (IsAsked parts read) (λ b. has_same_name a b ≡ true) these (All-filter (has_same_name a) (IsAsked parts read) lines k) (filter_passes (has_same_name a) lines)) (have_none (unmarked these)) fs cs finds)
        (first_mentions has_same_name [] lines)

-- ---- all findings

rightly : (lines : List FileLine) (f : Finding) → IsRightConflict pip_parts everywhere lines f → IsRight lines f
rightly lines (NoRequirement l reason column) right = absurd right
rightly lines (Conflicting conflict together environment) right = right

-- a constraint that is reported is one that pip does not take
module _ (files : List File) where
  module _ (l : FileLine) (known : Contains (all_lines (constraints_files files)) l) where
    right_kind : (kind : LineKind) → line_kind l.text ≡ kind → All (IsRightConstraint files) (kind_faults l kind)
    right_kind (RequirementsFile path) is = All-nil (IsRightConstraint files)
    right_kind (ConstraintsFile path) is = All-nil (IsRightConstraint files)
    right_kind (Invalid f column) is = All-nil (IsRightConstraint files)
    right_kind Editable is = All-cons (IsRightConstraint files) (NoRequirement l _ 0) [] (known, inl is) (All-nil (IsRightConstraint files))
    right_kind PipOption is = All-nil (IsRightConstraint files)
    right_kind Variable is = All-nil (IsRightConstraint files)
    right_kind Location is = All-nil (IsRightConstraint files)
    right_kind Requirement is = where_true (IsRightConstraint files) (has_extras (pip_parts l.text).requirement) (NoRequirement l _ _) (λ e. (known, inr (is, e)))

  constraints_right : (lines : List FileLine) → All (Contains (all_lines (constraints_files files))) lines → All (IsRightConstraint files) (flat_map constraint_faults lines)
  constraints_right [] known = All-nil (IsRightConstraint files)
  constraints_right (l ∷ lines) known =
      All-append (IsRightConstraint files) (constraint_faults l) (flat_map constraint_faults lines)
      (right_kind l (All-head (Contains (all_lines (constraints_files files))) l lines known) (line_kind l.text) refl)
      (constraints_right lines (All-tail (Contains (all_lines (constraints_files files))) l lines known))

pub findings_hold : FindingsHold
findings_hold files r (xs, h, fs, cs, finds, is) =
    let lines = all_lines files in
    let some = all_lines (constraints_files files) in
    let demands = flat_map demands_in xs in
    let P = λ (f : Finding). IsRight lines f ⊎ (IsRightConstraint files f ⊎ IsRightHash files f) in
    let asked = all_asked lines lines xs (All-contains_itself lines) h in
    subst (λ (q : Report). All P q.findings) (sym is)
    (All-append P (found_in files xs) fs
    (All-append P (flat_map invalid_in xs) (flat_map constraint_faults some ++ lacks_hashes lines demands)
    (All-weaker (IsRight lines) P (λ f right. inl right) (flat_map invalid_in xs) (invalid_right lines lines xs (All-contains_itself lines) h))
    (All-append P (flat_map constraint_faults some) (lacks_hashes lines demands)
    (All-weaker (IsRightConstraint files) P (λ f right. inr (inl right)) (flat_map constraint_faults some) (constraints_right files some (All-contains_itself some)))
    (All-weaker (IsRightHash files) P (λ f right. inr (inr right)) (lacks_hashes lines demands) (hashes_right files demands (xs, h, refl)))))
    (All-weaker (IsRightConflict pip_parts everywhere lines) P (λ f right. inl (rightly lines f right)) fs (names_right pip_parts lines everywhere demands asked fs cs finds)))
