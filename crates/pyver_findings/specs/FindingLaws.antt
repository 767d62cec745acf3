-- What holds of findings: a line that is reported by itself is no requirement or no constraint, and each that is none is reported; lines that are
-- reported together ask together and cannot be satisfied, and none of them can be left out; those that have no version in common are
-- reported; there is one report but for the environments named, if nothing is undecided.
use Rattle.std.specs.Prelude.{◌≡◌, ◌⊎◌, ⊤, ℕ, List, [], ◌∷◌, ◌++◌, IsTrue, Option, Some, None, Ok, bytes_eq, false, map, option_map, true}
use Rattle.std.specs.List.{All, AllZip, Any, Contains, filter, flat_map, list_all, list_any}
use Rattle.pep440_pick.specs.Names.{normal}
use Rattle.pep440_pick.specs.RequirementGrammar.{DerivesRequirement, Needed}
use Rattle.pep440_rs.specs.Denoted.{IsDenoted}
use Rattle.pep440_rs.specs.LiteralMatching.{list_matches_literally}
use Rattle.pep440_version.specs.Record.{Record}
use Rattle.pyver_findings.specs.Conflicts.{has_same_name, unmarked}
use Rattle.pyver_findings.specs.Demands.{Demand, is_pinned}
use Rattle.pyver_findings.specs.Hashes.{has_pin, is_hashed, may_be_hashed, waives_hashes}
use Rattle.pyver_findings.specs.FileLines.{Conflicting, File, FileLine, Finding, NoRequirement, all_lines}
use Rattle.pyver_findings.specs.NamedFiles.{constraints_files}
use Rattle.pyver_findings.specs.LineMeanings.{IsMeaning, IsNone, IsPlain, LineMeaning, has_extras, has_right_url}
use Rattle.pyver_findings.specs.MarkedConflicts.{AsksIn, HoldsIn, everywhere}
use Rattle.pyver_findings.specs.Reports.{IsReport, Report, demands_in}
use Rattle.pyver_requirements.specs.declared.cause.Cause.TheVariants as cause
use Rattle.pyver_findings.specs.declared.finding.Conflict.{Conflict}
use Rattle.pyver_findings.specs.declared.finding.Conflict.TheVariants.{NoVersion, PinOutside, TwoPins}
use Rattle.pyver_markers.specs.Conditions.{Domain, IsEnvironment}
use Rattle.pyver_markers.specs.Environments.{Assignment, Environment, Extends, assigned, environment_text}
use Rattle.pyver_markers.specs.Extents.{is_writable}
use Rattle.pyver_requirements.specs.LineKinds.{Editable, Invalid, Requirement, line_kind}
use Rattle.pyver_requirements.specs.LineParts.{LineParts, pip_parts, is_blank_byte, is_url_byte, line_parts}
use Rattle.pyver_requirements.specs.MarkerGrammar.{DenotesMarker, Marker}
use Rattle.pyver_requirements.specs.MarkerReading.{marker}
use Rattle.pyver_requirements.specs.declared.line_fault.LineFault.{LineFault}

-- after `;` this marker stands, in its normal form; or there is neither
abbrev pub HasMarker : LineParts → Option (List ℕ) → Type 0
HasMarker p m = option_map marker p.marker ≡ option_map Ok m

-- where a URL stands after `@`, it has no blank, and no list before it
abbrev pub FitsUrl : Option (List ℕ) → Needed → Type 0
FitsUrl None n = ⊤
FitsUrl (Some url) n = (¬ (url ≡ [])) × IsTrue (has_right_url url n)

-- a marker stands after `;`, or nothing, and after `@` a URL, or nothing
abbrev pub IsComplete : LineParts → Needed → Type 0
IsComplete p n = ((m : Option (List ℕ)) × HasMarker p m) × FitsUrl p.url n

-- the parts are those of a requirement
abbrev pub AreParts : LineParts → Type 0
AreParts p = IsPlain p.requirement × ((n : Needed) × DerivesRequirement p.requirement n × IsComplete p n)

-- the line is a requirement
abbrev pub IsRequirementLine : FileLine → Type 0
IsRequirementLine l = (line_kind l.text ≡ Requirement) × AreParts (pip_parts l.text)

-- ---- lines, or strings, with these parts

module _ (parts : List ℕ → LineParts) where
  -- the line is a requirement whose list contains the version
  abbrev pub LineAllows : Record → FileLine → Type 0
  LineAllows v l = (n : Needed) × DerivesRequirement (parts l.text).requirement n × IsTrue (list_matches_literally n.specifiers v)

  -- the line asks for a name with this normal form
  abbrev pub AsksFor : List ℕ → FileLine → Type 0
  AsksFor name l = (n : Needed) × DerivesRequirement (parts l.text).requirement n × IsTrue (bytes_eq name (normal n.name))

  -- the line names a version, by `==` or `===`
  abbrev pub NamesVersion : FileLine → Type 0
  NamesVersion l = (n : Needed) × DerivesRequirement (parts l.text).requirement n × IsTrue (is_pinned n.specifiers)

  -- two lines name versions; one of two does, and the other does not
  abbrev pub FitsConflict : Conflict → List FileLine → Type 0
  FitsConflict NoVersion together = ⊤
  FitsConflict TwoPins together = (a : FileLine) × (b : FileLine) × (together ≡ a ∷ (b ∷ [])) × NamesVersion a × NamesVersion b
  FitsConflict PinOutside together =
      (a : FileLine) × (b : FileLine) × (together ≡ a ∷ (b ∷ [])) × (NamesVersion a ⊎ NamesVersion b) × (¬ (NamesVersion a × NamesVersion b))

  -- some version is allowed by all these lines
  abbrev pub HaveSome : List FileLine → Type 0
  HaveSome lines = (v : Record) × IsDenoted v × All (LineAllows v) lines

  -- the others have one without any one of `lines`, where `front` stands before them
  abbrev pub AreNeeded : List FileLine → List FileLine → Type 0
  AreNeeded front [] = ⊤
  AreNeeded front (l ∷ lines) = HaveSome (front ++ lines) × AreNeeded (front ++ l ∷ []) lines

  -- the line has no marker, or one that holds in the environment
  abbrev pub CountsIn : Environment → FileLine → Type 0
  CountsIn e l = HasMarker (parts l.text) None ⊎ ((m : List ℕ) × HasMarker (parts l.text) (Some m) × HoldsIn e m)

  -- where the variables are so, as they are in an environment of the domain, the lines ask for one name
  pub record HoldTogether (d : Domain) (variables : List Assignment) (together : List FileLine) : Type 0 where
    pub name : List ℕ
    pub ask : All (AsksFor name) together
    pub environment : Environment
    pub known : IsEnvironment d environment
    pub has : Extends (assigned variables) environment
    pub count : (e : Environment) → Extends (assigned variables) e → All (CountsIn e) together
    pub writable : list_all (λ (v : Assignment). is_writable v.text) variables ≡ true

  -- so it is where the marker says
  abbrev pub HoldUnder : Domain → List ℕ → List FileLine → Type 0
  HoldUnder d environment together = (variables : List Assignment) × HoldTogether d variables together × (environment ≡ environment_text variables)

  -- they ask for one name: always, if no environment is named, or where this marker says
  abbrev pub AskTogether : Domain → Option (List ℕ) → List FileLine → Type 0
  AskTogether d None together = ((name : List ℕ) × All (AsksFor name) together) × All (λ (l : FileLine). HasMarker (parts l.text) None) together
  AskTogether d (Some environment) together = HoldUnder d environment together

  -- lines that are reported together are some of these, ask so, no version is allowed by all, and without any one of them some version is
  abbrev pub IsRightConflict : Domain → List FileLine → Finding → Type 0
  IsRightConflict d lines (NoRequirement l reason column) = ⊥
  IsRightConflict d lines (Conflicting conflict together environment) =
      All (Contains lines) together × AskTogether d environment together × FitsConflict conflict together × ((v : Record) → IsDenoted v → ¬ All (LineAllows v) together)
      × AreNeeded [] together

-- ---- requirements files

-- a line that is reported by itself is one of these lines and no requirement, and has this reason and column; lines that are reported
-- together are rightly so
abbrev pub IsRight : List FileLine → Finding → Type 0
IsRight lines (NoRequirement l reason column) = Contains lines l × (¬ IsRequirementLine l) × IsMeaning l (IsNone (NoRequirement l reason column))
IsRight lines (Conflicting conflict together environment) = IsRightConflict pip_parts everywhere lines (Conflicting conflict together environment)

-- the line is of a file that a line names after `-c`
abbrev pub IsConstraint : List File → FileLine → Type 0
IsConstraint files l = Contains (all_lines (constraints_files files)) l

-- pip takes no such constraint: an editable, or a requirement with extras
abbrev pub IsWrongConstraint : FileLine → Type 0
IsWrongConstraint l = (line_kind l.text ≡ Editable) ⊎ ((line_kind l.text ≡ Requirement) × IsTrue (has_extras (pip_parts l.text).requirement))

-- the line is such a constraint
abbrev pub IsRightConstraint : List File → Finding → Type 0
IsRightConstraint files (NoRequirement l reason column) = IsConstraint files l × IsWrongConstraint l
IsRightConstraint files (Conflicting conflict together environment) = ⊥

-- the requirements of the files
abbrev pub AreDemands : List File → List Demand → Type 0
AreDemands files demands = (xs : List LineMeaning) × AllZip IsMeaning (all_lines files) xs × (demands ≡ flat_map demands_in xs)

-- one of these requirements, in a file in which hashes are wanted, where none of its name is pinned, or none has a hash
abbrev pub LacksHash : List File → List Demand → Demand → Type 0
LacksHash files demands a = Contains demands a × (list_any waives_hashes (all_lines files) ≡ false) × IsTrue (is_hashed (all_lines files) a.line.file)
    × ((has_pin demands a.name ≡ false) ⊎ (may_be_hashed demands a.name ≡ false))

-- the line is such a requirement
abbrev pub IsRightHash : List File → Finding → Type 0
IsRightHash files (NoRequirement l reason column) = (demands : List Demand) × (a : Demand) × AreDemands files demands × LacksHash files demands a × (a.line ≡ l)
IsRightHash files (Conflicting conflict together environment) = ⊥

-- each finding of a report is right
abbrev pub FindingsHold : Type 0
FindingsHold = (files : List File) (r : Report) → IsReport files r → All (λ (f : Finding). IsRight (all_lines files) f ⊎ (IsRightConstraint files f ⊎ IsRightHash files f)) r.findings

-- the line is reported by itself
abbrev pub IsAlone : FileLine → Finding → Type 0
IsAlone line (NoRequirement l reason column) = l ≡ line
IsAlone line (Conflicting conflict reported environment) = ⊥

-- a line that ought to be a requirement or an option of pip, and is neither
abbrev pub LacksRequirement : FileLine → Type 0
LacksRequirement l = ((fault : LineFault) × (column : ℕ) × (line_kind l.text ≡ Invalid fault column)) ⊎ ((line_kind l.text ≡ Requirement) × (¬ IsRequirementLine l))

-- each line that ought to be a requirement and is none is reported
abbrev pub InvalidLinesHaveFindings : Type 0
InvalidLinesHaveFindings = (files : List File) (r : Report) (l : FileLine) → IsReport files r → Contains (all_lines files) l → LacksRequirement l → Any (IsAlone l) r.findings

-- each constraint that pip does not take is reported
abbrev pub WrongConstraintsHaveFindings : Type 0
WrongConstraintsHaveFindings = (files : List File) (r : Report) (l : FileLine) → IsReport files r → IsConstraint files l → IsWrongConstraint l → Any (IsAlone l) r.findings

-- each requirement that lacks a pin or a hash is reported
abbrev pub LackedHashesHaveFindings : Type 0
LackedHashesHaveFindings = (files : List File) (r : Report) (demands : List Demand) (a : Demand) → IsReport files r → AreDemands files demands → LacksHash files demands a → Any (IsAlone a.line) r.findings

-- some of these lines are reported together, and no others
abbrev pub IsAmong : List FileLine → Finding → Type 0
IsAmong lines (NoRequirement l reason column) = ⊥
IsAmong lines (Conflicting conflict reported environment) = (¬ (reported ≡ [])) × All (Contains lines) reported

-- no version is contained in the lists of all these lines
abbrev pub HaveNone : List Demand → Type 0
HaveNone lines = (v : Record) → IsDenoted v → ¬ All (λ a. IsTrue (list_matches_literally a.specifiers v)) lines

-- where the lines of a name without a marker have no version in common, some of them are reported together
abbrev pub ConflictsHaveFindings : Type 0
ConflictsHaveFindings = (files : List File) (r : Report) (lines : List Demand) (a : Demand) → IsReport files r → AreDemands files lines → Contains lines a
    → HaveNone (unmarked (filter (has_same_name a) lines)) → Any (IsAmong (map (λ (b : Demand). b.line) (unmarked (filter (has_same_name a) lines)))) r.findings

-- something is said to be undecided
abbrev pub IsUndecided : Report → Type 0
IsUndecided r = Contains r.left_out cause.Undecided

-- of these requirements one with the name of `a` asks in the environment
abbrev pub IsOneIn : Environment → Demand → List Demand → Demand → Type 0
IsOneIn e a lines b = Contains lines b × IsTrue (has_same_name a b) × AsksIn e b

-- lines that do so are reported together
abbrev pub IsAmongIn : Environment → Demand → List Demand → Finding → Type 0
IsAmongIn e a lines (NoRequirement l reason column) = ⊥
IsAmongIn e a lines (Conflicting conflict reported environment) =
    (¬ (reported ≡ [])) × All (λ (l : FileLine). (b : Demand) × IsOneIn e a lines b × (b.line ≡ l)) reported

-- where lines of one name that ask in one environment have no version in common, lines of this name that ask there are reported together, or
-- something is said to be undecided
abbrev pub SetsHaveFindings : Type 0
SetsHaveFindings = (files : List File) (r : Report) (lines : List Demand) (a : Demand) (e : Environment) (asking : List Demand) → IsReport files r → AreDemands files lines
    → Contains lines a → IsEnvironment everywhere e → All (IsOneIn e a lines) asking → HaveNone asking → Any (IsAmongIn e a lines) r.findings ⊎ IsUndecided r

-- a line has at most one meaning
abbrev pub MeaningsOnce : Type 0
MeaningsOnce = (l : FileLine) (x y : LineMeaning) → IsMeaning l x → IsMeaning l y → x ≡ y

-- no environment is named
abbrev pub without_environment : Finding → Finding
without_environment (NoRequirement l reason column) = NoRequirement l reason column
without_environment (Conflicting conflict together environment) = Conflicting conflict together None

abbrev pub without_environments : Report → Report
without_environments r = record {
  findings = map without_environment r.findings;
  ignored = map without_environment r.ignored;
  lines = r.lines;
  files = r.files;
  left_out = r.left_out;
}

-- the two reports differ at most in the environments that they name
abbrev pub AreAlike : Report → Report → Type 0
AreAlike r s = without_environments r ≡ without_environments s

-- so do all reports of files in which nothing is undecided
abbrev pub ReportsOnce : Type 0
ReportsOnce = (files : List File) (r s : Report) → IsReport files r → IsReport files s → ¬ IsUndecided r → ¬ IsUndecided s → AreAlike r s

-- ---- the grammar of strings that are requirements (PEP 508, "Grammar")

-- spaces and tabs, or nothing
abbrev pub AreSpaces : List ℕ → Type 0
AreSpaces text = list_all is_blank_byte text ≡ true

-- one or more bytes without a blank
abbrev pub IsUrl : List ℕ → Type 0
IsUrl url = (¬ (url ≡ [])) × (list_all is_url_byte url ≡ true)

-- a name with extras
abbrev pub IsNamed : List ℕ → Type 0
IsNamed text = IsPlain text × ((n : Needed) × DerivesRequirement text n × (n.specifiers ≡ []))

-- nothing, or `;` and a marker
abbrev pub IsMarkerPart : List ℕ → Type 0
IsMarkerPart text = (text ≡ []) ⊎ ((rest : List ℕ) × (m : Marker) × (text ≡ 59 ∷ rest) × DenotesMarker rest m)

-- a name with extras and a list, and then nothing, or `;` and a marker
abbrev pub IsListed : List ℕ → Type 0
IsListed text = (front : List ℕ) × (rest : List ℕ) × (text ≡ front ++ rest) × IsPlain front × ((n : Needed) × DerivesRequirement front n) × IsMarkerPart rest

-- a name with extras, `@`, a URL, and then nothing, or blanks and perhaps `;` and a marker
abbrev pub IsLinked : List ℕ → Type 0
IsLinked text = (front blanks url more rest : List ℕ) × (text ≡ front ++ 64 ∷ (blanks ++ (url ++ (more ++ rest))))
    × IsNamed front × AreSpaces blanks × IsUrl url × AreSpaces more × (((more ≡ []) × (rest ≡ [])) ⊎ ((¬ (more ≡ [])) × IsMarkerPart rest))

-- the string is a requirement
abbrev pub DerivesString : List ℕ → Type 0
DerivesString text = IsListed text ⊎ IsLinked text

-- a string has the parts of a requirement if and only if the grammar derives it
abbrev pub StringsHaveGrammar : Type 0
StringsHaveGrammar = (text : List ℕ) → (DerivesString text → AreParts (line_parts text)) × (AreParts (line_parts text) → DerivesString text)
