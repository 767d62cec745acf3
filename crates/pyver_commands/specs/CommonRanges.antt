-- `range [--json] SPECS..`: the versions that all lists match literally, as a set.
use Rattle.std.specs.Prelude.{Bool, List, None, Option, Some, [], codes, false, if◌then◌else◌, length, true, ℕ, ◌++◌, ◌∷◌, ◌≡◌}
use Rattle.std.specs.List.{AllZip, flat_map}
use Rattle.std.specs.Ordering.{nat_cmp, on}
use Rattle.std.specs.declared.cmp.Ordering.{Ordering}
use Rattle.pep440_rs.specs.Arrangement.{Arranges, ArrangesBy}
use Rattle.pep440_rs.specs.Bounds.{Segments, alone}
use Rattle.pep440_rs.specs.Specifiers.{Spec}
use Rattle.pep440_version.specs.Print.{print}
use Rattle.pep440_version.specs.Record.{Record}
use Rattle.pep440_sets.specs.Common.{common_version}
use Rattle.pep440_sets.specs.SetLines.{bound_text, is_closed_end, is_closed_start, set_lines}
use Rattle.pep440_sets.specs.Sets.{has_exact, list_set}
use Rattle.pyver_commands.specs.Matches.{DenotesList, ListFails, ReadsSpecifiers, SpecifiersReading, list_message}
use Rattle.pyver_commands.specs.Outcomes.{message_outcome}
use Rattle.cli_io.specs.Runs.{Outcome}
use Rattle.std.specs.declared.ops.Bound.{Bound}
use Rattle.std.specs.declared.ops.Bound.TheVariants.{Excluded, Included, Unbounded}
use Rattle.pep440_ranges.specs.RangeSegments.{Segment}
use Rattle.pyver_commands.specs.JsonObjects.{in_quotes}

-- the boundary as a string, or `null` if there is none
abbrev pub json_bound : Bound Record → List ℕ
json_bound (Included v) = in_quotes (bound_text (Included v))
json_bound (Excluded v) = in_quotes (bound_text (Excluded v))
json_bound Unbounded = codes "null"

abbrev pub json_truth : Bool → List ℕ
json_truth true = codes "true"
json_truth false = codes "false"

-- the members of the lower bound
abbrev pub json_low : Bound Record → List ℕ
json_low bound = codes "\"low\":" ++ (json_bound bound ++ (codes ",\"low_included\":" ++ json_truth (is_closed_start bound)))

-- the members of the upper bound
abbrev pub json_high : Bound Record → List ℕ
json_high bound = codes "\"high\":" ++ (json_bound bound ++ (codes ",\"high_included\":" ++ json_truth (is_closed_end bound)))

-- the segment as an object
abbrev pub json_segment : Segment Record → List ℕ
json_segment s = codes "{" ++ (json_low s.0 ++ (codes "," ++ (json_high s.1 ++ codes "}")))

-- a comma and the segment
abbrev pub next_segment : Segment Record → List ℕ
next_segment s = codes "," ++ json_segment s

-- the segments in brackets, with commas between them
abbrev pub json_segments : Segments → List ℕ
json_segments [] = codes "[]"
json_segments (s ∷ rest) = codes "[" ++ (json_segment s ++ (flat_map next_segment rest ++ codes "]"))

-- ---- each list

-- the members of a list, or the message of why the word is none
pub record ListReading : Type 0 where
  pub message : List ℕ
  pub members : List Spec

abbrev pub list_reading : List ℕ → SpecifiersReading → ListReading
list_reading word (DenotesList list) = record { message = []; members = list }
list_reading word (ListFails message) = record { message = list_message word message; members = [] }

-- the word has these members or this message
abbrev pub ReadsMembers : List ℕ → ListReading → Type 0
ReadsMembers word x = (list : SpecifiersReading) × ReadsSpecifiers word list × (x ≡ list_reading word list)

-- ---- all lists

-- the messages of lists
abbrev pub messages_in : List ListReading → List ℕ
messages_in xs = flat_map (λ (x : ListReading). x.message) xs

-- the members of all lists
abbrev pub members_in : List ListReading → List Spec
members_in xs = flat_map (λ (x : ListReading). x.members) xs

-- fewer numbers in the release come first
abbrev pub length_cmp : Spec → Spec → Ordering
length_cmp = on (λ (s : Spec). length s.version.release) nat_cmp

-- the members by version, and of equal versions the shorter first, whose bound then stands in the range, in whatever order the lists are given
abbrev pub ArrangesAll : List Spec → List Spec → Type 0
ArrangesAll members list = (short : List Spec) × ArrangesBy length_cmp members short × Arranges short list

-- ---- what is printed

-- the intervals as lines, or as a JSON array
abbrev pub set_text : Bool → Segments → List ℕ
set_text json set = if json then json_segments set ++ codes "\n" else set_lines set

-- a version, or a JSON array of the one interval that has it alone
abbrev pub named_version_text : Bool → Record → List ℕ
named_version_text json v = if json then json_segments (alone v) else print v

-- the outcome where there is no version; in JSON an array without intervals
abbrev pub none_outcome : Bool → Outcome
none_outcome json = record { output = if json then codes "[]\n" else codes "no version\n"; errors = []; status = 1 }

-- the outcome of a set
abbrev pub lines_outcome : Bool → Segments → Outcome
lines_outcome json [] = none_outcome json
lines_outcome json (s ∷ set) = record { output = set_text json (s ∷ set); errors = []; status = 0 }

-- the outcome of lists with `===`, which have at most one version
abbrev pub named_outcome : Bool → Option Record → Outcome
named_outcome json None = none_outcome json
named_outcome json (Some v) = record { output = named_version_text json v ++ codes "\n"; errors = []; status = 0 }

-- the outcome of members: of their set, or with `===` of the version that they have in common
abbrev pub set_outcome : Bool → List Spec → Outcome
set_outcome json members = if has_exact members then named_outcome json (common_version members) else lines_outcome json (list_set members)

-- the outcome of lists: the messages if there are any, and otherwise that of their members
abbrev pub PrintsLists : Bool → List ℕ → List Spec → Outcome → Type 0
PrintsLists json [] members o = (list : List Spec) × ArrangesAll members list × (o ≡ set_outcome json list)
PrintsLists json (b ∷ messages) members o = o ≡ message_outcome (b ∷ messages)

-- the outcome of `range`
abbrev pub FindsCommon : Bool → List (List ℕ) → Outcome → Type 0
FindsCommon json words o = (xs : List ListReading) × AllZip ReadsMembers words xs × PrintsLists json (messages_in xs) (members_in xs) o
