-- What each call on many strings returns. Positions count from 0.
use Rattle.std.specs.List.{All, AllZip, enumerate_from}
use Rattle.std.specs.Cmp.Lexicographic.{slice_cmp}
use Rattle.std.specs.Ordering.{nat_cmp, on, ordering_then}
use Rattle.std.specs.Prelude.{◌≡◌, ◌⊎◌, ◌<◌, ◌+◌, ℕ, zero, suc, List, [], ◌∷◌, drop, get_or, length, map, if◌then◌else◌, Result, Ok, Err, IsSomeAnd, slice_get, take, IsTrue, Option, Some, None}
use Rattle.std.specs.Slice.Scan.{big_endian}
use Rattle.std.specs.declared.cmp.Ordering.{Ordering}
use Rattle.pep440_compiled.specs.Version.{compiled_bytes}
use Rattle.pep440_keys.specs.SortKeys.{key_bytes}
use Rattle.pep440_rs.specs.Arrangement.{ArrangesBy}
use Rattle.pep440_rs.specs.LiteralMatching.{list_matches_literally}
use Rattle.pep440_rs.specs.Matching.{any_prerelease}
use Rattle.pep440_rs.specs.Specifiers.{Spec}
use Rattle.pep440_version.specs.Key.{record_cmp}
use Rattle.pep440_version.specs.Record.{Record}
use Rattle.pep440_calls.specs.Statuses.{FailsBy, Joins, WritesAtStart, WritesBoth}
use Rattle.pep440_calls.specs.CallerBytes.{BytesDenote, BytesDenoteList, ListFaults, RejectsBytes}
use Rattle.pep440_calls.specs.declared.batch.BatchError.{BatchError}
use Rattle.pep440_calls.specs.declared.batch.Encoding.{Encoding}
use Rattle.pep440_calls.specs.declared.batch.Encoding.TheVariants.{Compiled, SortKey}
use Rattle.pep440_calls.specs.declared.batch.Entry.{Entry}
use Rattle.pep440_calls.specs.declared.fault.Fault.{Fault}
use Rattle.std.specs.Option.{option_map}
use Rattle.pep440_pick.specs.Newest.{Greatest, preference}
use Rattle.pep440_rs.specs.Prereleases.{requests_prereleases}
use Rattle.pep440_calls.specs.declared.batch.BatchError.TheVariants as stop
use Rattle.pep440_calls.specs.declared.fault.Fault.TheVariants as fault

-- ---- which of the texts a list matches

-- the mark of a string: 1 matched, 3 matched and a pre-release or developmental release, 0 not matched, 2 no version
abbrev pub IsMark : List Spec → List ℕ → ℕ → Type 0
IsMark list text mark = ((r : Record) × BytesDenote text r × (mark ≡ if list_matches_literally list r then (if any_prerelease r then 3 else 1) else 0)) ⊎ (RejectsBytes text × (mark ≡ 2))

-- the marks of the strings, in their order
abbrev pub Marks : List ℕ → List (List ℕ) → List ℕ → Type 0
Marks list_text texts marks = (list : List Spec) × BytesDenoteList list_text list × AllZip (IsMark list) texts marks

-- the marks are written at the start of the caller's buffer, or the buffer is too small; otherwise nothing is written
abbrev pub FilterMarks : List ℕ → List (List ℕ) → List ℕ → List ℕ → ℕ → Type 0
FilterMarks list_text texts old marks status =
    ((found : List ℕ) × Marks list_text texts found × WritesAtStart found old marks status)
    ⊎ ((marks ≡ old) × FailsBy (ListFaults ⊥ list_text ⊥) status)

-- ---- texts that are all to be versions

-- the first string that is no version has this index
pub record FirstInvalidString (texts : List (List ℕ)) (position : ℕ) : Type 0 where
  pub refused : IsSomeAnd (slice_get texts position) RejectsBytes
  pub before : All (λ text. (r : Record) × BytesDenote text r) (take position texts)

-- the index of the first string that is no version is written; or an allocation failed
abbrev pub WritesInvalidPosition : List (List ℕ) → ℕ → ℕ → ℕ → Type 0
WritesInvalidPosition texts old_at at status = ((status ≡ 1) × FirstInvalidString texts at) ⊎ ((status ≡ 3) × (at ≡ old_at))

-- the indices of the versions in ascending order, equal versions in the order given
abbrev pub ArrangesPositions : List (ℕ × Record) → List ℕ → Type 0
ArrangesPositions given places = (sorted : List (ℕ × Record)) × ArrangesBy (on (λ (p : ℕ × Record). p.1) record_cmp) given sorted × (places ≡ map (λ (p : ℕ × Record). p.0) sorted)

-- each string denotes a version, and these are their indices in ascending order
abbrev pub Sorts : List (List ℕ) → List ℕ → Type 0
Sorts texts places = (versions : List Record) × AllZip BytesDenote texts versions × ArrangesPositions (enumerate_from 0 versions) places

-- the indices are written at the start of the caller's buffer, or the buffer is too small; otherwise only the index of an
-- invalid string is written
abbrev pub SortResult : List (List ℕ) → List ℕ → List ℕ → ℕ → ℕ → ℕ → Type 0
SortResult texts old places old_at at status =
    ((found : List ℕ) × Sorts texts found × WritesAtStart found old places status × (at ≡ old_at))
    ⊎ ((places ≡ old) × WritesInvalidPosition texts old_at at status)

-- what a version is written as: its sort key, or its compiled form
abbrev pub encoding_bytes : Encoding → Record → List ℕ
encoding_bytes SortKey = key_bytes
encoding_bytes Compiled = compiled_bytes

-- each string denotes a version; these are the versions as they are written, joined, and where each ends
abbrev pub JoinsEncodings : (Record → List ℕ) → List (List ℕ) → List ℕ → List ℕ → Type 0
JoinsEncodings encode texts bytes ends = (versions : List Record) × AllZip BytesDenote texts versions × Joins (map encode versions) bytes ends

-- what is joined and the ends are written at the start of the caller's buffers, or one is too small; how many bytes are needed is written.
-- Otherwise only the index of an invalid string is written
abbrev pub EncodingsResult : (Record → List ℕ) → List (List ℕ) → List ℕ → List ℕ → List ℕ → List ℕ → ℕ → ℕ → ℕ → ℕ → ℕ → Type 0
EncodingsResult encode texts old bytes old_ends ends old_written written old_at at status =
    ((found : List ℕ) × (places : List ℕ) × JoinsEncodings encode texts found places × (written ≡ length found) × WritesBoth found places old bytes old_ends ends status × (at ≡ old_at))
    ⊎ ((bytes ≡ old) × (ends ≡ old_ends) × (written ≡ old_written) × WritesInvalidPosition texts old_at at status)

-- of sort keys, and of compiled forms
abbrev pub KeysResult : List (List ℕ) → List ℕ → List ℕ → List ℕ → List ℕ → ℕ → ℕ → ℕ → ℕ → ℕ → Type 0
KeysResult = EncodingsResult key_bytes

abbrev pub FormsResult : List (List ℕ) → List ℕ → List ℕ → List ℕ → List ℕ → ℕ → ℕ → ℕ → ℕ → ℕ → Type 0
FormsResult = EncodingsResult compiled_bytes

-- why nothing is given, where memory didn't run out
abbrev pub BatchFaults : List (List ℕ) → BatchError → Type 0
BatchFaults texts (stop.InvalidAt position) = FirstInvalidString texts position
BatchFaults texts stop.OutOfMemory = Unit {0}

-- what holds of what is given, or why nothing is
abbrev pub HoldsOrBatchFaults : {X : Type 0} → List (List ℕ) → (X → Type 0) → Result X BatchError → Type 0
HoldsOrBatchFaults texts P (Ok x) = P x
HoldsOrBatchFaults texts P (Err s) = BatchFaults texts s

-- why a batch is rejected, where the string at this position was not read
abbrev pub batch_error_at : ℕ → Fault → BatchError
batch_error_at position fault.InvalidVersion = stop.InvalidAt position
batch_error_at position fault.InvalidList = stop.InvalidAt position
batch_error_at position fault.NumberAtMax = stop.InvalidAt position
batch_error_at position fault.InvalidRight = stop.InvalidAt position
batch_error_at position fault.NoSet = stop.InvalidAt position
batch_error_at position fault.NoList = stop.InvalidAt position
batch_error_at position fault.OutOfMemory = stop.OutOfMemory

-- the position that was rejected is reported, and the status
abbrev pub ReportsBatchError : BatchError → ℕ → ℕ → ℕ → Type 0
ReportsBatchError (stop.InvalidAt position) old new status = (new ≡ position) × (status ≡ 1)
ReportsBatchError stop.OutOfMemory old new status = (new ≡ old) × (status ≡ 3)

-- ---- the order of sort keys: by their first bytes, as two numbers, then by the others, and then by position

-- the first so many bytes, with zeros for those that lack
abbrev pub padded : ℕ → List ℕ → List ℕ
padded zero bytes = []
padded (suc count) [] = 0 ∷ padded count []
padded (suc count) (b ∷ bytes) = b ∷ padded count bytes

-- the first eight bytes of the key as a number, the eight after these, and its position
pub record IsEntryOf (at : ℕ) (key : List ℕ) (entry : Entry) : Type 0 where
  pub front : entry.front ≡ big_endian 0 (padded 8 key)
  pub next : entry.next ≡ big_endian 0 (padded 8 (drop 8 key))
  pub position : entry.position ≡ at
  pub bytes : (k : ℕ) → get_or key k 0 < 256

-- the entries of the keys in their order, from this position on
abbrev pub HasEntries : ℕ → List (List ℕ) → List Entry → Type 0
HasEntries position [] [] = Unit {0}
HasEntries position (key ∷ keys) (entry ∷ entries) = IsEntryOf position key entry × HasEntries (position + 1) keys entries
HasEntries position [] (entry ∷ entries) = ⊥
HasEntries position (key ∷ keys) [] = ⊥

-- no bytes at a position past the end
abbrev pub key_at : List (List ℕ) → ℕ → List ℕ
key_at keys position = get_or keys position []

-- by the bytes after the first sixteen, and then by position
abbrev pub rest_cmp : List (List ℕ) → ℕ → ℕ → Ordering
rest_cmp keys a b = ordering_then (slice_cmp nat_cmp (drop 16 (key_at keys a)) (drop 16 (key_at keys b))) (nat_cmp a b)

-- by the numbers, and then by the rest
abbrev pub entry_cmp : List (List ℕ) → Entry → Entry → Ordering
entry_cmp keys a b = ordering_then (nat_cmp a.front b.front) (ordering_then (nat_cmp a.next b.next) (rest_cmp keys a.position b.position))

-- ---- the newest version of a batch that a list matches literally; strings that denote no version are passed over

-- the string denotes this version, which the list matches
abbrev pub IsContainedString : List Spec → List ℕ → Record → Type 0
IsContainedString list text version = BytesDenote text version × IsTrue (list_matches_literally list version)

-- its index by the list, which takes pre-releases if it asks for them
abbrev pub FindsNewestString : List ℕ → List (List ℕ) → Option ℕ → Type 0
FindsNewestString list_text texts position =
    (list : List Spec) × (newest : Option (ℕ × Record)) × BytesDenoteList list_text list × Greatest (IsContainedString list) (preference (requests_prereleases list)) texts newest × (position ≡ option_map (λ (p : ℕ × Record). p.0) newest)

-- its index is written with status 0; otherwise nothing is written, and the status is 10 if there is none, or that of the failure
abbrev pub NewestResult : List ℕ → List (List ℕ) → ℕ → ℕ → ℕ → Type 0
NewestResult list_text texts old index status =
    (FindsNewestString list_text texts (Some index) × (status ≡ 0))
    ⊎ ((FindsNewestString list_text texts None × (status ≡ 10) × (index ≡ old))
    ⊎ ((index ≡ old) × FailsBy (ListFaults ⊥ list_text ⊥) status))
