-- What the crate's own types hold, apart from where they lie in memory; and what maps with names hold: places of groups, packages by names, and names of
-- projects.
use Rattle.std.specs.Prelude.{map, option_map, option_to_list, List, bytes_eq, ℕ, Bool, nat_lt, ◌≡◌, [], not, ◌||◌}
use Rattle.std.specs.Borrow.{Bor}
use Rattle.std.specs.HashMap.{HashMap, get_by}
use Rattle.std.specs.List.{list_all, filter, list_any}
use Rattle.std.specs.Option.{unwrap_or, option_map_or}
use Rattle.toml.specs.View.{table_view}
use Rattle.pyver_documents.specs.Comparing.{Excuse, is_installer}
use Rattle.pyver_documents.specs.Meanings.{StringReading, ExtraReading, LockedReading, Document, DocumentReading, IsBroken, IsLock, IsProject, Groups}
use Rattle.pyver_documents.specs.declared.document_kind.Document.{Document as DocumentValue}
use Rattle.pyver_documents.specs.declared.document_reading.DocumentReading.{DocumentReading as DocumentReadingValue}
use Rattle.pyver_documents.specs.declared.document_reading.ExtraReading.{ExtraReading as ExtraReadingValue}
use Rattle.pyver_documents.specs.declared.document_reading.ReadDocument.{ReadDocument as ReadDocumentValue}
use Rattle.pyver_documents.specs.declared.document_reading.StringReading.{StringReading as StringReadingValue}
use Rattle.pyver_documents.specs.declared.groups.GroupOrder.{GroupOrder}
use Rattle.pyver_documents.specs.declared.groups.Groups.{Groups as GroupsValue}
use Rattle.pyver_documents.specs.declared.known_projects.KnownProjects.{KnownProjects}
use Rattle.pyver_documents.specs.declared.lock_comparison.PackageIndex.{PackageIndex}
use Rattle.pyver_documents.specs.declared.locked_reading.LockedReading.{LockedReading as LockedReadingValue}
use Rattle.pyver_findings.specs.Views.{line_meaning_of, file_line_of, finding_of, file_of}
use Rattle.pyver_locks.specs.LockContents.{LockParts, parts_of}
use Rattle.pyver_locks.specs.KnownEnvironments.{read_condition_of}
use Rattle.pyver_projects.specs.ProjectStrings.{Inclusion, section_of, indexed_names, inclusions_of, IsNameIndex, IsInclusionIndex}
use Rattle.pyver_documents.specs.declared.document_reading.DocumentReading.TheVariants as reading

abbrev pub string_reading_of : StringReadingValue → StringReading
string_reading_of x = record { section = section_of x.section; meaning = line_meaning_of x.meaning; python = x.python }

abbrev pub extra_reading_of : ExtraReadingValue → ExtraReading
extra_reading_of x = record { key = x.key.items; meaning = line_meaning_of x.meaning }

abbrev pub locked_reading_of : LockedReadingValue → LockedReading
locked_reading_of y = record { line = file_line_of y.line; name = y.name.items; condition = option_map read_condition_of y.condition; version = y.version; invalid = option_map finding_of y.invalid }

abbrev pub document_of : DocumentValue → Document
document_of d = record { kind = d.kind; file = file_of d.file }

abbrev pub document_reading_of : DocumentReadingValue → DocumentReading
document_reading_of (reading.Project p) = IsProject (table_view p.table) p.together (option_to_list (option_map (λ n. n.items) p.name)) (map (λ n. n.items) p.overridden.items) (map string_reading_of p.strings.items)
document_reading_of (reading.Lock l) = IsLock (parts_of l.parts) l.python (map locked_reading_of l.packages.items) (map line_meaning_of l.requirements.items) (map extra_reading_of l.optional.items) (map line_meaning_of l.entries.items) (map line_meaning_of l.faults.items)
document_reading_of (reading.Broken f) = IsBroken (finding_of f)

-- what a document was read as
abbrev pub reading_in : ReadDocumentValue → DocumentReading
reading_in d = document_reading_of d.reading

-- the document, and what it was read as
abbrev pub read_pair : ReadDocumentValue → Document × DocumentReading
read_pair d = (document_of d.document.now, reading_in d)

-- ---- places

-- the number of a name, or 0
abbrev pub rank_of : {S : Type 0} → HashMap (Bor (List ℕ)) ℕ S → List ℕ → ℕ
rank_of numbers name = unwrap_or (get_by (λ k. bytes_eq name k.now) numbers) 0

-- the group that includes the other stands before it
abbrev pub stands_before : (List ℕ → ℕ) → Inclusion → Bool
stands_before place i = nat_lt (place i.group) (place i.included)

-- what is known of an order
abbrev pub IsGroupOrder : List Inclusion → GroupOrder → Type 0
IsGroupOrder is order = order.is_right ≡ list_all (stands_before (rank_of order.places)) is

-- ---- groups

abbrev pub groups_of : GroupsValue → Groups
groups_of all = record { names = indexed_names all.names; inclusions = inclusions_of all.inclusions; extras = indexed_names all.extras }

-- its maps are right
abbrev pub HasGroups : GroupsValue → Type 0
HasGroups all = IsNameIndex all.names × IsInclusionIndex all.inclusions × IsGroupOrder (inclusions_of all.inclusions) all.order × IsNameIndex all.extras

abbrev pub index_parts : PackageIndex → LockParts
index_parts index = parts_of index.parts.now

abbrev pub packages_of : PackageIndex → List LockedReading
packages_of index = map locked_reading_of index.packages.now

-- the packages under a name
abbrev pub under_name : PackageIndex → List ℕ → List LockedReading
under_name index q = map (λ y. locked_reading_of y.now) (option_map_or (λ group. group.items) (get_by (λ k. bytes_eq q k.now) index.by_name) [])

-- under each name stand the packages with this name, in their order
abbrev pub IsIndex : PackageIndex → Type 0
IsIndex index = (q : List ℕ) → under_name index q ≡ filter (λ y. bytes_eq q y.name) (packages_of index)

-- ---- projects

-- what is not asked of a lock for this name, by these projects
abbrev pub excuses : KnownProjects → List ℕ → Excuse
excuses projects name = record {
  lacks = is_installer name || (not projects.is_some || list_any (bytes_eq name) (map (λ n. n.items) projects.names.items));
  overrides = list_any (bytes_eq name) (map (λ n. n.items) projects.overridden.items);
}
