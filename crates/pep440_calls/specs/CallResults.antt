-- What each call on one version or one list, or on one of each, returns.
use Rattle.std.specs.List.{flat_map, list_any, All, AllZip}
use Rattle.std.specs.Option.{option_map_or}
use Rattle.std.specs.Prelude.{◌≡◌, ◌⊎◌, ℕ, zero, suc, false, true, ◌&&◌, ◌||◌, ◌≤◌, ℤ, pos, negsuc, List, [], ◌∷◌, ◌++◌, codes, Bool, Option, Some, None, length, is_some, not, if◌then◌else◌, Result, Ok, Err, ◌↔◌, IsTrue, ◌+◌, IsSomeAnd, slice_get, take}
use Rattle.std.specs.declared.cmp.Ordering.{Ordering}
use Rattle.std.specs.declared.cmp.Ordering.TheVariants.{Less, Equal, Greater}
use Rattle.pep440_compiled.specs.Lists.{HasListFormat, IsListForm, has_set}
use Rattle.pep440_compiled.specs.SetForms.{DenotesSet, HasFormatOfSets, HasLoneSetFormat, HasSet}
use Rattle.pep440_compiled.specs.Version.{HasShortForm, HasVersionFormat, DenotesVersion, compiled_bytes}
use Rattle.pep440_keys.specs.SortKeys.{key_bytes}
use Rattle.pep440_rs.specs.Lists.{print_list}
use Rattle.pep440_rs.specs.Matching.{any_prerelease, has_local, list_matches}
use Rattle.pep440_rs.specs.Operators.{is_star, operator_text, Spells}
use Rattle.pep440_ranges.specs.RangeSegments.{contains, Segment}
use Rattle.pep440_rs.specs.Bounds.{Segments, list_range, range_of}
use Rattle.pep440_rs.specs.LiteralMatching.{list_matches_literally}
use Rattle.pep440_rs.specs.Prereleases.{requests_prereleases}
use Rattle.pep440_rs.specs.Specifiers.{Spec, print_spec}
use Rattle.pep440_version.specs.Key.{record_cmp}
use Rattle.pep440_version.specs.Print.{print}
use Rattle.pep440_version.specs.Record.{Record}
use Rattle.pep440_version.specs.Word.{is_packed, word}
use Rattle.pep440_version.specs.declared.prerelease.Prerelease.{Prerelease}
use Rattle.pep440_version.specs.declared.prerelease.PrereleaseKind.{PrereleaseKind}
use Rattle.pep440_version.specs.declared.prerelease.PrereleaseKind.TheVariants.{Alpha, Beta, Rc}
use Rattle.pep440_sets.specs.Common.{common_version}
use Rattle.pep440_calls.specs.Statuses.{Fails, FailsBy, Faults, IsFlagOf, Joins, WritesAtStart, WritesOr, fault_status, flag, SetFaults}
use Rattle.pep440_calls.specs.CallerBytes.{BytesDenote, BytesDenoteList, ListFaults, RejectsBytes, RejectsListBytes, ExplainsBytes}
use Rattle.pep440_calls.specs.declared.fault.Fault.{Fault}
use Rattle.pep440_calls.specs.declared.one_version.Parts.{Parts}
use Rattle.std.specs.declared.ops.Bound.{Bound}
use Rattle.std.specs.declared.ops.Bound.TheVariants.{Excluded, Included, Unbounded}
use Rattle.pep440_rs.specs.RangeLines.{range_lines}
use Rattle.pep440_rs.specs.declared.specifier.operator.Operator.{Operator}
use Rattle.std.specs.Str.{IsUtf8}
use Rattle.pep440_rs.specs.Build.{BuildRejection, built_pattern}
use Rattle.pep440_rs.specs.ErrorTexts.{specifier_rejection_text}
use Rattle.pep440_rs.specs.Specifiers.SpecifierGrammar.{DerivesSpecifier, RejectsSpecifier, SpecifierRejection}
use Rattle.pep440_version.specs.Patterns.{DerivesPattern}
use Rattle.pep440_version.specs.Rejections.{PatternRejection, RejectsPattern}
use Rattle.pep440_compiled.specs.SetBytes.{set_keys}
use Rattle.pep440_sets.specs.Sets.{list_set}
use Rattle.pep440_sets.specs.Emptiness.{IsSubset}
use Rattle.pep440_calls.specs.declared.set_calls.SetForm.{SetForm}
use Rattle.pep440_calls.specs.declared.set_calls.SetForm.TheVariants.{Given, Made}
use Rattle.pep440_version.specs.Changes.ChangeWords.{change_of, not_a_change_text}
use Rattle.pep440_version.specs.Changes.{Edit, apply_edits}
use Rattle.pep440_version.specs.ErrorTexts.{change_error_text}
use Rattle.pep440_version.specs.Sentinels.{print_with_sentinels}
use Rattle.pep440_version.specs.declared.change.ChangeError.{ChangeError}
use Rattle.pep440_calls.specs.declared.edits.EditError.{EditError}
use Rattle.pep440_calls.specs.declared.fault.Fault.TheVariants as fault
use Rattle.pep440_calls.specs.declared.edits.EditError.TheVariants as error

-- ---- texts

-- the normal form of a version
abbrev pub IsNormal : List ℕ → List ℕ → Type 0
IsNormal text bytes = (r : Record) × BytesDenote text r × (bytes ≡ print r)

-- the normal form of a list
abbrev pub IsNormalList : List ℕ → List ℕ → Type 0
IsNormalList text bytes = (list : List Spec) × BytesDenoteList text list × (bytes ≡ print_list list)

-- the sort key of the version
abbrev pub IsKey : List ℕ → List ℕ → Type 0
IsKey text bytes = (r : Record) × BytesDenote text r × (bytes ≡ key_bytes r)

-- the word of a version, if it is packed
abbrev pub IsPackedWord : List ℕ → Option ℕ → Type 0
IsPackedWord text found = (r : Record) × BytesDenote text r × (found ≡ if is_packed r then Some (word r) else None)

-- the word is written with status 0; otherwise the caller's number is unchanged, and the status is 7 (not packed) or that of
-- the failure
abbrev pub WordResult : List ℕ → ℕ → ℕ → ℕ → Type 0
WordResult text old new status =
    (IsPackedWord text (Some new) × (status ≡ 0))
    ⊎ ((IsPackedWord text None × (status ≡ 7) × (new ≡ old))
    ⊎ ((new ≡ old) × Fails (RejectsBytes text) ⊥ ⊥ status))

-- ---- members

-- the version, and `.*` for a star form
abbrev pub version_string : Spec → List ℕ
version_string s = if is_star s.operator then print s.version ++ codes ".*" else print s.version

-- operator and version of a member, as Display writes them
abbrev pub member_strings : Spec → List (List ℕ)
member_strings s = operator_text s.operator ∷ version_string s ∷ []

-- operator and version of each member, joined, and where each of these strings ends
abbrev pub JoinsMembers : List ℕ → List ℕ → List ℕ → Type 0
JoinsMembers text bytes ends = (list : List Spec) × BytesDenoteList text list × Joins (flat_map member_strings list) bytes ends

-- ---- order and matching

-- -1 for below, 0 for equal, 1 for above
abbrev pub order_number : Ordering → ℤ
order_number Less = negsuc 0
order_number Equal = pos 0
order_number Greater = pos 1

-- the bytes begin as a compiled version, which is taken as it lies, or denote a version
abbrev pub IsTakenAsVersion : List ℕ → Type 0
IsTakenAsVersion text = HasVersionFormat text ⊎ ((r : Record) × BytesDenote text r)

-- the bytes do not begin as a compiled version, and are no version
abbrev pub IsRejectedString : List ℕ → Type 0
IsRejectedString text = (¬ HasVersionFormat text) × RejectsBytes text

-- the number is the order of the two versions, if the bytes denote versions: -1, 0 or 1
abbrev pub IsOrder : List ℕ → List ℕ → ℤ → Type 0
IsOrder left right number = (IsTakenAsVersion left × IsTakenAsVersion right) × ((r q : Record) → BytesDenote left r → BytesDenote right q → number ≡ order_number (record_cmp r q))

module _ (left right : List ℕ) where
  -- why there is no order: the left version is invalid, or the right one
  abbrev pub OrderFaults : Fault → Type 0
  OrderFaults fault.InvalidVersion = IsRejectedString left
  OrderFaults fault.InvalidList = ⊥
  OrderFaults fault.OutOfMemory = Unit {0}
  OrderFaults fault.NumberAtMax = ⊥
  OrderFaults fault.NoSet = ⊥
  OrderFaults fault.NoList = ⊥
  OrderFaults fault.InvalidRight = IsTakenAsVersion left × IsRejectedString right

  -- the order, or why there is none
  abbrev pub ReturnsOrder : Result Ordering Fault → Type 0
  ReturnsOrder (Ok order) = IsOrder left right (order_number order)
  ReturnsOrder (Err f) = OrderFaults f

  -- the order is written with status 0; otherwise the caller's number is unchanged, and the status is that of the failure
  abbrev pub OrderResult : ℤ → ℤ → ℕ → Type 0
  OrderResult old new status = ((order : Ordering) × (status ≡ 0) × (new ≡ order_number order) × IsOrder left right new) ⊎ ((new ≡ old) × (f : Fault) × OrderFaults f × (status ≡ fault_status f))

-- the normalized form of a version whose compiled form is short
abbrev pub IsShortNormalForm : List ℕ → Type 0
IsShortNormalForm text = (r : Record) × HasShortForm r × (text ≡ print r)

-- nothing is allocated for the version: the bytes begin as its compiled form, or are its normalized form and the compiled one is short
abbrev pub NeedsNoMemory : List ℕ → Type 0
NeedsNoMemory text = HasVersionFormat text ⊎ IsShortNormalForm text

-- nothing is allocated for either
abbrev pub MatchesInPlace : List ℕ → List ℕ → Type 0
MatchesInPlace list_text text = HasListFormat list_text × NeedsNoMemory text

-- nor of the set
abbrev pub AsksInPlace : List ℕ → List ℕ → Type 0
AsksInPlace list_text text = HasFormatOfSets list_text × NeedsNoMemory text

-- the first bytes begin as a compiled list, which is taken as it lies; or they denote a list, and the others a version
abbrev pub AreMatchable : List ℕ → List ℕ → Type 0
AreMatchable list_text text = (HasListFormat list_text × IsTakenAsVersion text) ⊎ (((list : List Spec) × BytesDenoteList list_text list) × ((r : Record) × BytesDenote text r))

-- whether the list contains the version, if the bytes denote them
abbrev pub Contains : List ℕ → List ℕ → Bool → Type 0
Contains list_text text contained = AreMatchable list_text text × ((list : List Spec) (r : Record) → BytesDenoteList list_text list → BytesDenote text r → contained ≡ list_matches list r)

-- whether the version is a pre-release or a developmental release
abbrev pub IsPrerelease : List ℕ → Bool → Type 0
IsPrerelease text early = (r : Record) → BytesDenote text r → early ≡ any_prerelease r

-- the version is invalid, and the list is not, or both begin as compiled forms: else the list is read first
abbrev pub RejectsSecond : List ℕ → List ℕ → Type 0
RejectsSecond list_text text = ((HasListFormat list_text × HasVersionFormat text) ⊎ ((list : List Spec) × BytesDenoteList list_text list)) × RejectsBytes text

-- both flags are written with status 0; otherwise both are unchanged, and the status is that of the failure
abbrev pub ContainsResult : List ℕ → List ℕ → ℕ → ℕ → ℕ → ℕ → ℕ → Type 0
ContainsResult list text old contained old_prerelease prerelease status =
    ((status ≡ 0) × IsFlagOf (Contains list text) contained × IsFlagOf (IsPrerelease text) prerelease)
    ⊎ ((contained ≡ old) × (prerelease ≡ old_prerelease) × FailsBy (ListFaults (RejectsSecond list text) list ⊥) status)

-- whether a version of the list is a pre-release or a developmental release
abbrev pub NamesPrerelease : List ℕ → Bool → Type 0
NamesPrerelease text any = (list : List Spec) × BytesDenoteList text list × (any ≡ list_any (λ (s : Spec). any_prerelease s.version) list)

-- the bytes begin as a compiled list, which is taken as it lies
abbrev pub IsTakenAsList : List ℕ → Type 0
IsTakenAsList text = HasListFormat text

-- whether the list asks for pre-releases
abbrev pub RequestsPrereleases : List ℕ → Bool → Type 0
RequestsPrereleases text requests =
    (IsTakenAsList text ⊎ ((list : List Spec) × BytesDenoteList text list))
    × ((list : List Spec) → BytesDenoteList text list → requests ≡ requests_prereleases list)

-- ---- parts

-- the number that C gets for a kind: 1 alpha, 2 beta, 3 rc
abbrev pub kind_number : PrereleaseKind → ℕ
kind_number Alpha = 1
kind_number Beta = 2
kind_number Rc = 3

-- the parts of the version; 0 for a part that is absent
pub record HasPartsOf (r : Record) (p : Parts) : Type 0 where
  pub epoch : p.epoch ≡ r.epoch
  pub pre : p.pre ≡ option_map_or (λ (pre : Prerelease). pre.number) r.pre 0
  pub post : p.post ≡ option_map_or (λ n. n) r.post 0
  pub dev : p.dev ≡ option_map_or (λ n. n) r.dev 0
  pub release : p.release_length ≡ length r.release
  pub kind : p.pre_kind ≡ option_map_or (λ (pre : Prerelease). kind_number pre.kind) r.pre 0
  pub has_post : p.has_post ≡ flag (is_some r.post)
  pub has_dev : p.has_dev ≡ flag (is_some r.dev)
  pub has_local : p.has_local ≡ flag (has_local r)

-- the parts are written, and the release numbers where the caller's array has room for them; otherwise nothing is written
abbrev pub PartsResult : List ℕ → Parts → Parts → List ℕ → List ℕ → ℕ → Type 0
PartsResult text old parts old_release release status =
    ((r : Record) × BytesDenote text r × HasPartsOf r parts × WritesAtStart r.release old_release release status)
    ⊎ ((parts ≡ old) × (release ≡ old_release) × Fails (RejectsBytes text) ⊥ ⊥ status)

-- the compiled form of the version
abbrev pub IsCompiled : List ℕ → List ℕ → Type 0
IsCompiled text bytes = (r : Record) × BytesDenote text r × DenotesVersion bytes r

-- the bytes are taken as a version, and if they denote one, this is its compiled form
abbrev pub IsTakenForm : List ℕ → List ℕ → Type 0
IsTakenForm text bytes = IsTakenAsVersion text × ((r : Record) → BytesDenote text r → DenotesVersion bytes r)

-- the compiled form of the list
abbrev pub IsCompiledList : List ℕ → List ℕ → Type 0
IsCompiledList text bytes = (list : List Spec) × BytesDenoteList text list × IsListForm bytes list

-- whether pre-releases and developmental releases are taken: 0 no, 1 yes, and else if the list asks for them
abbrev pub takes : ℕ → List Spec → Bool
takes zero list = false
takes (suc zero) list = true
takes (suc (suc n)) list = requests_prereleases list

-- ---- what is allowed

-- the first bytes begin as a compiled form that has a set, which is taken as it lies; or they denote a list, and the others a version
abbrev pub AreAskable : List ℕ → List ℕ → Type 0
AreAskable list_text text = (HasFormatOfSets list_text × IsTakenAsVersion text) ⊎ (((list : List Spec) × BytesDenoteList list_text list) × ((r : Record) × BytesDenote text r))

-- pre-releases are to be taken as the list asks, of a set by itself, which has no list
abbrev pub AsksSet : List ℕ → ℕ → Type 0
AsksSet bytes prereleases = HasLoneSetFormat bytes × (2 ≤ prereleases)

-- the bytes denote a list with these members, which selects what it matches literally; or a set by itself, which has no members and selects
-- what is in it
abbrev pub Selects : List ℕ → List Spec → (Record → Bool) → Type 0
Selects bytes members selects =
    ((¬ HasLoneSetFormat bytes) × BytesDenoteList bytes members × ((r : Record) → selects r ≡ list_matches_literally members r))
    ⊎ ((members ≡ []) × (set : Segments) × DenotesSet bytes set × ((r : Record) → selects r ≡ contains record_cmp set r))

-- whether the version is selected, and is no pre-release unless these are taken
pub record Allows (list_text text : List ℕ) (prereleases : ℕ) (allowed : Bool) : Type 0 where
  pub askable : AreAskable list_text text
  pub asks : ¬ AsksSet list_text prereleases
  pub found : (members : List Spec) (selects : Record → Bool) (r : Record) → Selects list_text members selects → BytesDenote text r
      → allowed ≡ (takes prereleases members || not (any_prerelease r)) && selects r

-- the version is invalid, and the list is not, or begins as a set by itself, or both begin as compiled forms: else the list is read first
abbrev pub RejectsVersion : List ℕ → List ℕ → Type 0
RejectsVersion list_text text = ((HasFormatOfSets list_text × HasVersionFormat text) ⊎ HasLoneSetFormat list_text ⊎ ((list : List Spec) × BytesDenoteList list_text list)) × RejectsBytes text

-- the bytes are no list, or begin as a set by itself and are none
abbrev pub RejectsSet : List ℕ → Type 0
RejectsSet bytes = RejectsListBytes bytes ⊎ (HasLoneSetFormat bytes × ((set : Segments) → DenotesSet bytes set → ⊥))

-- why nothing is said
abbrev pub AllowFaults : List ℕ → List ℕ → ℕ → Fault → Type 0
AllowFaults list_text text prereleases fault.NoList = AsksSet list_text prereleases
AllowFaults list_text text prereleases f = Faults (RejectsVersion list_text text) (RejectsSet list_text) ⊥ f

-- the flag is written, or the call fails
abbrev pub AllowsResult : List ℕ → List ℕ → ℕ → ℕ → ℕ → ℕ → Type 0
AllowsResult list_text text prereleases = WritesOr (AllowFaults list_text text prereleases) (IsFlagOf (Allows list_text text prereleases))

-- the normal form of a version that the list matches literally; no bytes if it matches none
abbrev pub IsVersionIn : List ℕ → List ℕ → Type 0
IsVersionIn text bytes = (list : List Spec) × BytesDenoteList text list × (bytes ≡ option_map_or print (common_version list) [])

-- ---- the range of a list: as lines, and as bounds, two for each segment, whose versions are written as compiled ones are, with their sentinels

-- the bytes of a bound: 0 alone where there is none, else 1 for an included or 2 for an excluded version, and its bytes
abbrev pub bound_bytes : Bound Record → List ℕ
bound_bytes Unbounded = 0 ∷ []
bound_bytes (Included r) = 1 ∷ compiled_bytes r
bound_bytes (Excluded r) = 2 ∷ compiled_bytes r

-- the lower and the upper bound of a segment
abbrev pub segment_bounds : Segment Record → List (List ℕ)
segment_bounds s = bound_bytes s.0 ∷ bound_bytes s.1 ∷ []

-- the bounds of each segment of the range, joined in order, and where each bound ends
abbrev pub JoinsBounds : Segments → List ℕ → List ℕ → Type 0
JoinsBounds range bytes ends = Joins (flat_map segment_bounds range) bytes ends

module _ (conversion : Operator → Record → Option Segments) where
  -- the bytes denote a list, whose conversion returns this range
  abbrev pub HasRange : List ℕ → Segments → Type 0
  HasRange text range = (list : List Spec) × BytesDenoteList text list × (list_range conversion list ≡ Some range)

  -- the bytes denote a list, whose conversion fails, since a number to be raised is the greatest
  abbrev pub LacksRange : List ℕ → Type 0
  LacksRange text = (list : List Spec) × BytesDenoteList text list × (list_range conversion list ≡ None)

  -- the bounds of the segments of that range, joined in order, and where each bound ends
  abbrev pub JoinsRangeBounds : List ℕ → List ℕ → List ℕ → Type 0
  JoinsRangeBounds text bytes ends = (range : Segments) × HasRange text range × JoinsBounds range bytes ends

-- the lines of the range of a list
abbrev pub IsRangeLines : List ℕ → List ℕ → Type 0
IsRangeLines text bytes = (range : Segments) × HasRange range_of text range × (bytes ≡ range_lines range)

-- ---- version patterns, specifiers of an operator and a pattern, and one specifier

-- ---- patterns

-- the bytes are a string that denotes the version, with or without a star
abbrev pub StringDenotesPattern : List ℕ → Record → Bool → Type 0
StringDenotesPattern bytes r star = IsUtf8 bytes × DerivesPattern bytes r star

-- the bytes are no pattern
abbrev pub RejectsPatternBytes : List ℕ → Type 0
RejectsPatternBytes bytes = (¬ IsUtf8 bytes) ⊎ (IsUtf8 bytes × (f : PatternRejection) × RejectsPattern bytes f)

-- the normal form of the pattern's version, and whether `.*` follows it
abbrev pub IsPattern : List ℕ → List ℕ → Bool → Type 0
IsPattern text bytes star = (r : Record) × StringDenotesPattern text r star × (bytes ≡ print r)

-- the star is written, and the version at the start of the caller's buffer where there is room for it; otherwise nothing is
-- written
abbrev pub PatternResult : List ℕ → List ℕ → List ℕ → ℕ → ℕ → ℕ → ℕ → ℕ → Type 0
PatternResult text old new old_written written old_star star status =
    ((bytes : List ℕ) × (has_star : Bool) × IsPattern text bytes has_star × (star ≡ flag has_star) × (written ≡ length bytes) × WritesAtStart bytes old new status)
    ⊎ ((new ≡ old) × (written ≡ old_written) × (star ≡ old_star) × Fails (RejectsPatternBytes text) ⊥ ⊥ status)

-- ---- specifiers

-- the bytes are an operator
abbrev pub IsOperator : List ℕ → Type 0
IsOperator operator = (o : Operator) × Spells operator o

-- what the rules of specifiers give for the operator and the pattern
abbrev pub Combines : List ℕ → List ℕ → Result Spec BuildRejection → Type 0
Combines operator version combined = (o : Operator) × (r : Record) × (star : Bool) × Spells operator o × StringDenotesPattern version r star × (combined ≡ built_pattern o r star)

-- the specifier of the operator and the pattern, as Display writes it
abbrev pub IsSpecifier : List ℕ → List ℕ → List ℕ → Type 0
IsSpecifier operator version bytes = (s : Spec) × Combines operator version (Ok s) × (bytes ≡ print_spec s)

-- the operator is unknown, or does not go with the version
abbrev pub RejectsOperator : List ℕ → List ℕ → Type 0
RejectsOperator operator version = (¬ IsOperator operator) ⊎ ((why : BuildRejection) × Combines operator version (Err why))

-- the operator is known and the pattern is invalid: the operator is parsed first
abbrev pub RejectsOperand : List ℕ → List ℕ → Type 0
RejectsOperand operator version = IsOperator operator × RejectsPatternBytes version

-- the bytes are a string that denotes the specifier
abbrev pub BytesDenoteSpecifier : List ℕ → Spec → Type 0
BytesDenoteSpecifier bytes s = IsUtf8 bytes × DerivesSpecifier bytes s

-- the words say why the bytes are no specifier
abbrev pub ExplainsSpecifier : List ℕ → List ℕ → Type 0
ExplainsSpecifier bytes words = ((¬ IsUtf8 bytes) × (words ≡ codes "not UTF-8")) ⊎ (IsUtf8 bytes × (f : SpecifierRejection) × RejectsSpecifier bytes f × (words ≡ specifier_rejection_text f))

-- the bytes are no specifier
abbrev pub RejectsSpecifierBytes : List ℕ → Type 0
RejectsSpecifierBytes bytes = (words : List ℕ) × ExplainsSpecifier bytes words

-- the compiled form of the list of the one specifier that the string denotes
abbrev pub IsCompiledSpecifier : List ℕ → List ℕ → Type 0
IsCompiledSpecifier text bytes = (s : Spec) × BytesDenoteSpecifier text s × IsListForm bytes (s ∷ [])

-- ---- sets of versions, of a list without `===` or by themselves, their keys, and what is made of sets

-- the bytes denote a list that compiles with this set: it has no `===`, and strings can have its members
abbrev pub HasListSet : List ℕ → Segments → Type 0
HasListSet bytes set = (list : List Spec) × BytesDenoteList bytes list × (has_set list ≡ true) × (set ≡ list_set list)

-- the bytes denote such a list, or are the set by itself
abbrev pub HasOwnSet : List ℕ → Segments → Type 0
HasOwnSet bytes set = ((¬ HasLoneSetFormat bytes) × HasListSet bytes set) ⊎ DenotesSet bytes set

-- the bytes denote a list that compiles without a set
abbrev pub LacksListSet : List ℕ → Type 0
LacksListSet bytes = (list : List Spec) × BytesDenoteList bytes list × (has_set list ≡ false)

-- the bytes give a set, or begin as a compiled form that has one, which is taken as it lies
abbrev pub IsTakenAsSet : List ℕ → Type 0
IsTakenAsSet bytes = HasFormatOfSets bytes ⊎ ((set : Segments) × HasOwnSet bytes set)

-- the bytes of a set as a compiled form
abbrev pub form_bytes : SetForm → List ℕ
form_bytes (Given bytes) = bytes.now
form_bytes (Made bytes) = bytes.items

-- the form is the bytes, which are taken as they lie, or has the set of the list that they denote
abbrev pub IsFormOf : List ℕ → SetForm → Type 0
IsFormOf bytes form = (HasFormatOfSets bytes × (form_bytes form ≡ bytes)) ⊎ ((¬ HasLoneSetFormat bytes) × (set : Segments) × HasListSet bytes set × HasSet (form_bytes form) set)

-- why there is no complement: the bytes are no list, or begin as a set and are none; or the list has no set
abbrev pub SetFault : List ℕ → Fault → Type 0
SetFault bytes = SetFaults (RejectsListBytes bytes ⊎ ((s : Segments) → HasOwnSet bytes s → ⊥)) ⊥ (LacksListSet bytes)

-- why nothing is made of two: the left bytes are no list, or one begins as a set and is none; the right ones are no list; or a list has no set
abbrev pub TwoSetFaults : List ℕ → List ℕ → Fault → Type 0
TwoSetFaults left right =
    SetFaults (RejectsListBytes left ⊎ ((s t : Segments) → HasOwnSet left s → HasOwnSet right t → ⊥)) (RejectsListBytes right) (LacksListSet left ⊎ LacksListSet right)

-- the keys of the set, two an interval, joined in order, and where each key ends; no bytes for a missing one, since no sort key is empty
abbrev pub JoinsBoundaries : List ℕ → List ℕ → List ℕ → Type 0
JoinsBoundaries set bytes ends = IsTakenAsSet set × ((s : Segments) → HasOwnSet set s → Joins (set_keys s) bytes ends)

-- the bytes are a set by itself, of the versions of which this holds
abbrev pub DenotesVersionsOf : (Record → Bool) → List ℕ → Type 0
DenotesVersionsOf holds bytes = (set : Segments) × DenotesSet bytes set × ((v : Record) → contains record_cmp set v ≡ holds v)

-- the set of the versions that are not in this one, if the bytes give it
abbrev pub IsComplement : List ℕ → List ℕ → Type 0
IsComplement set bytes = IsTakenAsSet set × ((s : Segments) → HasOwnSet set s → DenotesVersionsOf (λ v. not (contains record_cmp s v)) bytes)

-- the set of the versions that are in both, if the bytes give them
abbrev pub IsIntersection : List ℕ → List ℕ → List ℕ → Type 0
IsIntersection left right bytes =
    IsTakenAsSet left × IsTakenAsSet right × ((s t : Segments) → HasOwnSet left s → HasOwnSet right t → DenotesVersionsOf (λ v. contains record_cmp s v && contains record_cmp t v) bytes)

-- the set of the versions that are in one of the two, if the bytes give them
abbrev pub IsUnion : List ℕ → List ℕ → List ℕ → Type 0
IsUnion left right bytes =
    IsTakenAsSet left × IsTakenAsSet right × ((s t : Segments) → HasOwnSet left s → HasOwnSet right t → DenotesVersionsOf (λ v. contains record_cmp s v || contains record_cmp t v) bytes)

-- whether each version of the left set is in the right one, if the bytes give them
abbrev pub IsInside : List ℕ → List ℕ → Bool → Type 0
IsInside left right inside = IsTakenAsSet left × IsTakenAsSet right × ((s t : Segments) → HasOwnSet left s → HasOwnSet right t → IsTrue inside ↔ IsSubset s t)

-- the flag is written, or the call fails
abbrev pub SubsetResult : List ℕ → List ℕ → ℕ → ℕ → ℕ → Type 0
SubsetResult left right = WritesOr (TwoSetFaults left right) (IsFlagOf (IsInside left right))

-- ---- a version and changes of it: change words, as the command `edit` of the program takes them. Positions count from 0

-- the bytes are a change word, which denotes this change
abbrev pub BytesDenoteChange : List ℕ → Edit → Type 0
BytesDenoteChange word change = IsUtf8 word × (change_of word ≡ Some change)

-- the bytes are no change word
abbrev pub RejectsChangeWord : List ℕ → Type 0
RejectsChangeWord word = (¬ IsUtf8 word) ⊎ (change_of word ≡ None)

-- the first bytes that are no change word have this index
pub record FirstInvalidChange (words : List (List ℕ)) (position : ℕ) : Type 0 where
  pub rejected : IsSomeAnd (slice_get words position) RejectsChangeWord
  pub before : All (λ word. (change : Edit) × BytesDenoteChange word change) (take position words)

-- the first bytes that are no change word have this number, counted from 1
abbrev pub RejectsChangeWordAt : List (List ℕ) → ℕ → Type 0
RejectsChangeWordAt words number = (position : ℕ) × FirstInvalidChange words position × (number ≡ position + 1)

-- the version after all changes in order, or the error of the first that cannot be made
abbrev pub ChangesTo : Record → List (List ℕ) → Result Record ChangeError → Type 0
ChangesTo r words changed = (changes : List Edit) × AllZip BytesDenoteChange words changes × (changed ≡ apply_edits 1 r changes)

-- the changed version with its sentinels
abbrev pub IsEdited : List ℕ → List (List ℕ) → List ℕ → Type 0
IsEdited text words bytes = (r q : Record) × BytesDenote text r × ChangesTo r words (Ok q) × (bytes ≡ print_with_sentinels q)

-- why there is no changed version: the bytes are no version, some are no change word, or a change cannot be made
abbrev pub EditFaults : List ℕ → List (List ℕ) → EditError → Type 0
EditFaults text words error.InvalidVersion = RejectsBytes text
EditFaults text words (error.NotAChange number) = (r : Record) × BytesDenote text r × RejectsChangeWordAt words number
EditFaults text words (error.Change e) = (r : Record) × BytesDenote text r × ChangesTo r words (Err e)
EditFaults text words error.OutOfMemory = Unit {0}

-- the status that says it
abbrev pub edit_status : EditError → ℕ
edit_status error.InvalidVersion = 1
edit_status (error.NotAChange number) = 8
edit_status (error.Change e) = 8
edit_status error.OutOfMemory = 3

-- the message that says it; none if an allocation failed
abbrev pub ExplainsEdit : List ℕ → EditError → List ℕ → Type 0
ExplainsEdit text error.InvalidVersion why = ExplainsBytes text why
ExplainsEdit text (error.NotAChange number) why = why ≡ not_a_change_text number
ExplainsEdit text (error.Change e) why = why ≡ change_error_text e
ExplainsEdit text error.OutOfMemory why = ⊥

-- the message of why there is no changed version; no bytes if there is one
abbrev pub IsEditError : List ℕ → List (List ℕ) → List ℕ → Type 0
IsEditError text words bytes = ((edited : List ℕ) × IsEdited text words edited × (bytes ≡ [])) ⊎ ((e : EditError) × EditFaults text words e × ExplainsEdit text e bytes)

-- the changed version is written at the start of the caller's buffer, or the buffer is too small; how many bytes are needed is
-- written. Otherwise nothing is written, and the status names the cause
abbrev pub WritesEdited : List ℕ → List (List ℕ) → List ℕ → List ℕ → ℕ → ℕ → ℕ → Type 0
WritesEdited text words old new old_written written status =
    ((bytes : List ℕ) × IsEdited text words bytes × (written ≡ length bytes) × WritesAtStart bytes old new status)
    ⊎ ((new ≡ old) × (written ≡ old_written) × (e : EditError) × EditFaults text words e × (status ≡ edit_status e))

-- what holds of what is given, or why there is no changed version
abbrev pub HoldsOrEditFaults : {X : Type 0} → List ℕ → List (List ℕ) → (X → Type 0) → Result X EditError → Type 0
HoldsOrEditFaults text words P (Ok x) = P x
HoldsOrEditFaults text words P (Err e) = EditFaults text words e
