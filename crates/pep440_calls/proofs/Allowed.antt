-- What a list allows, and what a set by itself does, of bytes that were read and of compiled bytes as they lie.
use Rattle.std.proofs.Common.{◌≡◌, ◌∙◌, ◌&&◌, ◌||◌, ℕ, Bool, true, false, not, List, refl, sym, ap, inl, inr, subst, ◌≤◌, zero, suc, true≢false, arith}
use Rattle.std.specs.Prelude.{slice_get, ◌==◌, Err, Ok, Result, if◌then◌else◌, not}
use Rattle.pep440_compiled.proofs.SetMerging.{valid_set}
use Rattle.pep440_compiled.specs.Lists.{HasSetFormat, IsFormBy, has_set, DenotesList}
use Rattle.pep440_compiled.specs.declared.error.CompiledError.{CompiledError}
use Rattle.pep440_compiled.specs.declared.error.CompiledError.TheVariants.{NotCompiled, OutOfMemory}
use Rattle.pep440_compiled.specs.SetForms.{DenotesSet, HasFormatOfSets, HasLoneSetFormat, HasSet}
use Rattle.pep440_ranges.proofs.Laws.{gaps_hold_the_rest, overlaps_hold_both}
use Rattle.pep440_ranges.specs.Complement.{gaps}
use Rattle.pep440_ranges.specs.Intersection.{overlaps}
use Rattle.pep440_ranges.specs.RangeSegments.{contains}
use Rattle.pep440_rs.specs.Bounds.{Segments}
use Rattle.pep440_sets.proofs.SetBoundaries.{gaps_set, overlaps_set}
use Rattle.pep440_sets.specs.Sets.{list_set}
use Rattle.pep440_version.specs.Key.{record_cmp}
use Rattle.pep440_version.specs.Key.KeyLaws.{record_total}
use Rattle.pep440_calls.proofs.Once.{one_bytes_list, never_both, one_version}
use Rattle.pep440_calls.specs.CallResults.{AllowFaults, Allows, AsksSet, DenotesVersionsOf, HasListSet, HasOwnSet, IsCompiled, IsCompiledList, IsFormOf, IsTakenAsSet, RejectsSet, Selects, form_bytes, takes}
use Rattle.pep440_calls.specs.Statuses.{fault_of_read, Faults, HoldsOr}
use Rattle.pep440_calls.specs.declared.fault.Fault.{Fault}
use Rattle.pep440_calls.specs.declared.set_calls.SetForm.{SetForm}
use Rattle.pep440_compiled.proofs.SetKeys.{set_matches}
use Rattle.pep440_compiled.specs.Version.{DenotesVersion, HasVersionFormat}
use Rattle.pep440_rs.specs.LiteralMatching.{list_allows_literally, list_matches_literally}
use Rattle.pep440_rs.specs.Matching.{any_prerelease}
use Rattle.pep440_rs.specs.Prereleases.{requests_prereleases}
use Rattle.pep440_rs.specs.Specifiers.{Spec}
use Rattle.pep440_version.specs.Record.{Record}
use Rattle.pep440_calls.proofs.Forms.{as_compiled, as_compiled_list, as_set_list, never_lone, no_set_list}
use Rattle.pep440_calls.specs.Batches.{IsMark}
use Rattle.pep440_calls.specs.CallerBytes.{BytesDenote, BytesDenoteList, RejectsBytes, RejectsListBytes}
use Rattle.pep440_calls.specs.declared.fault.Fault.TheVariants as fault

-- ---- sets as compiled forms: which set a form has, what is made of sets holds, and why nothing is made

-- ---- the form of a list

pub with_set : (bytes form : List ℕ) → IsCompiledList bytes form → HasSetFormat form → (s : Segments) × HasListSet bytes s × HasSet form s
with_set bytes form (l, denotes, is) format = go (has_set l) refl is
  where
    go : (b : Bool) → has_set l ≡ b → IsFormBy b form l → (s : Segments) × HasListSet bytes s × HasSet form s
    go true e d = (list_set l, (l, denotes, e, refl), inr (l, d, refl))
    go false e d = cc (format, ap (λ k. slice_get k 0) d.same)

-- ---- which set a form has

one_list_set : (bytes : List ℕ) (s t : Segments) → HasListSet bytes s → HasListSet bytes t → s ≡ t
one_list_set bytes s t (l, d, given, is) (m, e, also, other) = is ∙ ap list_set (one_bytes_list bytes l m d e) ∙ sym other

pub set_format : (bytes : List ℕ) (s : Segments) → DenotesSet bytes s → HasLoneSetFormat bytes
set_format bytes s (keys, h, is) = ap (λ l. slice_get l 0) is

as_it_lies : (bytes : List ℕ) (s : Segments) → HasFormatOfSets bytes → HasOwnSet bytes s → HasSet bytes s
as_it_lies bytes s format (inr d) = inl d
as_it_lies bytes s (inr lone) (inl (other, given)) = absurd (other lone)
as_it_lies bytes s (inl format) (inl (other, (l, inl (plain, d), given, is))) = absurd (plain (inr format))
as_it_lies bytes s (inl format) (inl (other, (l, inr (inl d), given, is))) = cc (format, ap (λ k. slice_get k 0) d.same)
as_it_lies bytes s (inl format) (inl (other, (l, inr (inr d), given, is))) = inr (l, d, is)

pub form_gives : (bytes : List ℕ) (form : SetForm) (s : Segments) → IsFormOf bytes form → HasOwnSet bytes s → HasSet (form_bytes form) s
form_gives bytes form s (inl (format, same)) given = subst (λ b. HasSet b s) (sym same) (as_it_lies bytes s format given)
form_gives bytes form s (inr (other, t, list, has)) (inl (again, given)) = subst (HasSet (form_bytes form)) (one_list_set bytes t s list given) has
form_gives bytes form s (inr (other, t, list, has)) (inr d) = absurd (other (set_format bytes s d))

pub is_taken : (bytes : List ℕ) (form : SetForm) → IsFormOf bytes form → IsTakenAsSet bytes
is_taken bytes form (inl (format, same)) = inl format
is_taken bytes form (inr (other, t, list, has)) = inr (t, inl (other, list))

-- the bytes of a form have the set
pub slice_gives : (bytes slice : List ℕ) (form : SetForm) (s : Segments) → IsFormOf bytes form → slice ≡ form_bytes form → HasOwnSet bytes s → HasSet slice s
slice_gives bytes slice form s is same given = subst (λ b. HasSet b s) (sym same) (form_gives bytes form s is given)

-- ---- why nothing is made

pub invalid_or_memory : (Cause : Fault → Type 0) (f : Fault) (e : CompiledError) → f ≡ fault_of_read e → (e ≡ NotCompiled → Cause fault.InvalidList) → Cause fault.OutOfMemory → Cause f
invalid_or_memory Cause f NotCompiled is why memory = subst Cause (sym is) (why refl)
invalid_or_memory Cause f OutOfMemory is why memory = subst Cause (sym is) memory

-- ---- what is made holds

pub complement_holds : (bytes set : List ℕ) (s : Segments) → HasSet set s → DenotesSet bytes (gaps s) → DenotesVersionsOf (λ v. not (contains record_cmp s v)) bytes
complement_holds bytes set s h d = (gaps s, d, λ v. gaps_hold_the_rest record_total s v (valid_set set s h).apart)

pub intersection_holds : (bytes : List ℕ) (s t : Segments) → DenotesSet bytes (overlaps record_cmp s t) → DenotesVersionsOf (λ v. contains record_cmp s v && contains record_cmp t v) bytes
intersection_holds bytes s t d = (overlaps record_cmp s t, d, λ v. overlaps_hold_both record_total s t v)

either : (a b : Bool) → not (not a && not b) ≡ a || b
either true b = refl
either false true = refl
either false false = refl

pub union_holds : (bytes left right : List ℕ) (s t : Segments) → HasSet left s → HasSet right t → DenotesSet bytes (gaps (overlaps record_cmp (gaps s) (gaps t))) →
    DenotesVersionsOf (λ v. contains record_cmp s v || contains record_cmp t v) bytes
union_holds bytes left right s t h k d =
    let a = valid_set left s h in
    let b = valid_set right t k in (
      gaps (overlaps record_cmp (gaps s) (gaps t)),
      d,
      λ v.
          gaps_hold_the_rest record_total (overlaps record_cmp (gaps s) (gaps t)) v (overlaps_set (gaps s) (gaps t) (gaps_set s a) (gaps_set t b)).apart
          ∙ ap not (overlaps_hold_both record_total (gaps s) (gaps t) v ∙ (λ i. gaps_hold_the_rest record_total s v a.apart i && gaps_hold_the_rest record_total t v b.apart i))
          ∙ either (contains record_cmp s v) (contains record_cmp t v),
    )

-- ---- of a list and a version that were read

-- such bytes select what the list matches
selects_read : (list : List ℕ) (l members : List Spec) (selects : Record → Bool) → (¬ HasLoneSetFormat list) → BytesDenoteList list l → Selects list members selects →
    (l ≡ members) × ((r : Record) → list_matches_literally l r ≡ selects r)
selects_read list l members selects plain means (inl (lone, also, is)) =
    let same = one_bytes_list list l members means also in
    (same, λ r. ap (λ m. list_matches_literally m r) same ∙ sym (is r))
selects_read list l members selects plain means (inr (none, set, d, is)) = absurd (plain (set_format list set d))

pub allows_read : (list text : List ℕ) (n : ℕ) (l : List Spec) (r : Record) (taken allowed : Bool) → (¬ HasLoneSetFormat list) → BytesDenoteList list l → BytesDenote text r → taken ≡ takes n l → allowed ≡ list_allows_literally taken l r → Allows list text n allowed
allows_read list text n l r taken allowed plain means also asks is = record {
  askable = inr ((l, means), (r, also));
  asks = λ h. plain h.0;
  found = λ members selects q chosen second.
      let whole = selects_read list l members selects plain means chosen in
      let version : r ≡ q = one_version text r q also second in
      let takes_same : taken ≡ takes n members = asks ∙ ap (takes n) whole.0 in
      let early_same : any_prerelease r ≡ any_prerelease q = ap any_prerelease version in
      let match_same : list_matches_literally l r ≡ selects q = ap (list_matches_literally l) version ∙ whole.1 q in
      is ∙ (λ i. (takes_same i || not (early_same i)) && match_same i);
}

-- ---- which format a form with a set has

with_list : (bytes : List ℕ) → HasFormatOfSets bytes → (¬ HasLoneSetFormat bytes) → HasSetFormat bytes
with_list bytes (inl six) lone = six
with_list bytes (inr seven) lone = absurd (lone seven)

-- ---- whether pre-releases are taken

takes_asked : (n : ℕ) (l : List Spec) → 2 ≤ n → requests_prereleases l ≡ takes n l
takes_asked zero l two = absurd (omega (arith, two))
takes_asked (suc zero) l two = absurd (omega (arith, two))
takes_asked (suc (suc n)) l two = refl

pub takes_plain : (n : ℕ) (members : List Spec) → (2 ≤ n → ⊥) → (n == 1) ≡ takes n members
takes_plain zero members few = refl
takes_plain (suc zero) members few = refl
takes_plain (suc (suc n)) members few = absurd (few (omega arith))

-- a list that is asked has its set before it
module _ (set : List ℕ) (n : ℕ) (format : HasFormatOfSets set) (asked : ¬ AsksSet set n) (two : 2 ≤ n) where
  pub listed : HasSetFormat set
  listed = with_list set format (λ lone. asked (lone, two))

  pub takes_requests : (requests : Bool) → ((l : List Spec) → DenotesList set l → requests ≡ requests_prereleases l) → (members : List Spec) (selects : Record → Bool) → Selects set members selects → requests ≡ takes n members
  takes_requests requests found members selects (inl (lone, means, is)) = found members (as_compiled_list set members (inr listed) means) ∙ takes_asked n members two
  takes_requests requests found members selects (inr (none, s, d, is)) = absurd (never_lone set (inr listed) (set_format set s d))

-- ---- what is found in the set of a form

abbrev IsFound : List ℕ → List ℕ → Bool × Bool → Type 0
IsFound set version found = (members : List Spec) (selects : Record → Bool) (r : Record) → Selects set members selects → BytesDenote version r → found ≡ (selects r, any_prerelease r)

pub found_in_set : (set version : List ℕ) (found : Bool × Bool) → HasFormatOfSets set → HasVersionFormat version
    → ((s : Segments) (r : Record) → HasSet set s → DenotesVersion version r → found ≡ (contains record_cmp s r, any_prerelease r)) → IsFound set version found
found_in_set set version found format is_version told members selects r (inl (lone, means, is)) also =
    let d = as_set_list set members (with_list set format lone) means in
    let e = as_compiled version r is_version also in
    told (list_set members) r (inr (members, d, refl)) e ∙ ap (λ b. (b, any_prerelease r)) (set_matches members r d.members.members d.given e.parsed ∙ sym (is r))
found_in_set set version found format is_version told members selects r (inr (none, s, d, is)) also =
    told s r (inl d) (as_compiled version r is_version also) ∙ ap (λ b. (b, any_prerelease r)) (sym (is r))

-- and its mark
pub marked_in_set : (set version : List ℕ) (list : List Spec) (r : Record) (held early : Bool) (mark : ℕ) → HasSetFormat set → BytesDenoteList set list → DenotesVersion version r → early ≡ any_prerelease r
    → ((s : Segments) → HasSet set s → held ≡ contains record_cmp s r) → mark ≡ (if held then (if early then 3 else 1) else 0) → IsMark list version mark
marked_in_set set version list r held early mark format means d e found is =
    let whole = as_set_list set list format means in
    let same : held ≡ list_matches_literally list r = found (list_set list) (inr (list, whole, refl)) ∙ set_matches list r whole.members.members whole.given d.parsed in
    inl (r, inr d, is ∙ (λ i. if same i then (if e i then 3 else 1) else 0))

-- a string has the mark of its compiled form
pub marked_of_form : (list : List Spec) (text form : List ℕ) (mark : ℕ) → IsCompiled text form → IsMark list form mark → IsMark list text mark
marked_of_form list text form mark (r, means, d) (inl (q, also, is)) =
    let same : q ≡ r = one_version form q r also (inr d) in
    inl (r, means, is ∙ (λ i. if list_matches_literally list (same i) then (if any_prerelease (same i) then 3 else 1) else 0))
marked_of_form list text form mark (r, means, d) (inr (why, is)) = absurd (never_both form r (inr d) why)

-- a form that has no set is rejected
pub no_set : (set : List ℕ) → HasFormatOfSets set → ((s : Segments) → HasSet set s → ⊥) → RejectsSet set
no_set set (inl six) none = inl (no_set_list set six (λ l d. none (list_set l) (inr (l, d, refl))))
no_set set (inr seven) none = inr (seven, λ s d. none s (inl d))

-- ---- of a compiled version

final_is : (taken matched early held : Bool) → matched ≡ held → early ≡ false → (taken || not early) && matched ≡ held
final_is true matched early held e f = e
final_is false matched true held e f = absurd (true≢false f)
final_is false matched false held e f = e

no_match : (taken matched early : Bool) → matched ≡ false → (taken || not early) && matched ≡ false
no_match true true early e = e
no_match true false early e = refl
no_match false matched true e = refl
no_match false matched false e = e

final_match : (taken matched early : Bool) → matched ≡ true → early ≡ false → (taken || not early) && matched ≡ true
final_match true matched early e f = e
final_match false matched true e f = sym f
final_match false matched false e f = e

early_match : (taken matched early : Bool) → matched ≡ true → early ≡ true → (taken || not early) && matched ≡ taken
early_match true matched early e f = e
early_match false matched true e f = refl
early_match false matched false e f = e ∙ sym f

module _ (set version : List ℕ) (n : ℕ) (held early : Bool) (format : HasFormatOfSets set) (asked : ¬ AsksSet set n) (is_version : HasVersionFormat version) (found : IsFound set version (held, early)) where
  allows_by : (allowed : Bool) → ((members : List Spec) (selects : Record → Bool) (r : Record) → Selects set members selects → selects r ≡ held → any_prerelease r ≡ early
      → (takes n members || not (any_prerelease r)) && selects r ≡ allowed) → Allows set version n allowed
  allows_by allowed told = record {
    askable = inl (format, inl is_version);
    asks = asked;
    found = λ members selects r chosen also.
        let is = found members selects r chosen also in
        sym (told members selects r chosen (ap (λ (p : Bool × Bool). p.0) (sym is)) (ap (λ (p : Bool × Bool). p.1) (sym is)));
  }

  pub allows_none : held ≡ false → Allows set version n false
  allows_none none = allows_by false (λ members selects r chosen h e. no_match (takes n members) (selects r) (any_prerelease r) (h ∙ none))

  pub allows_final : held ≡ true → early ≡ false → Allows set version n true
  allows_final all final = allows_by true (λ members selects r chosen h e. final_match (takes n members) (selects r) (any_prerelease r) (h ∙ all) (e ∙ final))

  abbrev Takes : Bool → Type 0
  Takes taken = (members : List Spec) (selects : Record → Bool) → Selects set members selects → taken ≡ takes n members

  pub allows_early : held ≡ true → early ≡ true → (taken : Bool) → Takes taken → Allows set version n taken
  allows_early all pre taken asks = allows_by taken (λ members selects r chosen h e.
      early_match (takes n members) (selects r) (any_prerelease r) (h ∙ all) (e ∙ pre) ∙ sym (asks members selects chosen))

  -- as pre-releases are taken
  pub allows_taken : held ≡ true → early ≡ true → (result : Result Bool Fault) → HoldsOr (Faults ⊥ (RejectsSet set) ⊥) Takes result → HoldsOr (AllowFaults set version n) (Allows set version n) result
  allows_taken all pre (Ok taken) h = allows_early all pre taken h
  allows_taken all pre (Err fault.InvalidVersion) h = absurd h
  allows_taken all pre (Err fault.InvalidList) h = h
  allows_taken all pre (Err fault.OutOfMemory) h = h
  allows_taken all pre (Err fault.NumberAtMax) h = h
  allows_taken all pre (Err fault.InvalidRight) h = h
  allows_taken all pre (Err fault.NoSet) h = h
  allows_taken all pre (Err fault.NoList) h = absurd h

-- of a version that is no pre-release
pub allows_soon : (set version : List ℕ) (n : ℕ) (held : Bool) → HasSetFormat set → HasVersionFormat version
    → ((s : Segments) (r : Record) → HasSet set s → DenotesVersion version r → held ≡ contains record_cmp s r) → ((r : Record) → DenotesVersion version r → any_prerelease r ≡ false) → Allows set version n held
allows_soon set version n held six is_version told final =
    let found = found_in_set set version (held, false) (inl six) is_version (λ s r h d. (λ i. (told s r h d i, sym (final r d) i))) in
    allows_by set version n held false (inl six) (λ h. never_lone set (inr six) h.0) is_version found held (λ members selects r chosen h e. final_is (takes n members) (selects r) (any_prerelease r) held h e)

-- ---- of a string, whose compiled form is asked

module _ (set text form : List ℕ) (n : ℕ) (format : HasFormatOfSets set) (r : Record) (means : BytesDenote text r) (compiled : DenotesVersion form r) where
  allows_same : (allowed : Bool) → Allows set form n allowed → Allows set text n allowed
  allows_same allowed h = record {
    askable = inl (format, inr (r, means));
    asks = h.asks;
    found = λ members selects q chosen also.
        let version : r ≡ q = one_version text r q means also in
        h.found members selects r chosen (inr compiled) ∙ ap (λ v. (takes n members || not (any_prerelease v)) && selects v) version;
  }

  pub allows_of_form : (result : Result Bool Fault) → HoldsOr (AllowFaults set form n) (Allows set form n) result → HoldsOr (AllowFaults set text n) (Allows set text n) result
  allows_of_form (Ok allowed) h = allows_same allowed h
  allows_of_form (Err fault.InvalidVersion) h = absurd (never_both form r (inr compiled) h.1)
  allows_of_form (Err fault.InvalidList) h = h
  allows_of_form (Err fault.OutOfMemory) h = h
  allows_of_form (Err fault.NumberAtMax) h = h
  allows_of_form (Err fault.InvalidRight) h = h
  allows_of_form (Err fault.NoSet) h = h
  allows_of_form (Err fault.NoList) h = h

-- ---- of a string that has none

pub fault_named : (set text : List ℕ) (n : ℕ) (f : Fault) → Faults (((l : List Spec) × BytesDenoteList set l) × RejectsBytes text) (RejectsListBytes set) ⊥ f → AllowFaults set text n f
fault_named set text n fault.InvalidVersion h = (inr (inr h.0), h.1)
fault_named set text n fault.InvalidList h = inl h
fault_named set text n fault.OutOfMemory h = h
fault_named set text n fault.NumberAtMax h = h
fault_named set text n fault.InvalidRight h = h
fault_named set text n fault.NoSet h = h
fault_named set text n fault.NoList h = absurd h
