-- What stands in the documents of a project: values of TOML that are tables, arrays or strings; strings of `pyproject.toml` that are to be
-- requirements, lists of specifiers or versions; on which lines they stand; and maps with names: repeated ones, and inclusions by the groups that have them.
use Rattle.std.specs.Prelude.{List, [], ◌∷◌, ℕ, Option, option_and_then, None, Some, Bool, true, is_some, option_to_list, map, bytes_eq, ◌&&◌, suc, zero, ◌||◌, length, ◌==◌, not, if◌then◌else◌, nat_lt, take, count_by, ◌+◌, nat_eq, ◌++◌, ◌≡◌, codes, drop, ◌%◌, option_map, string_bytes}
use Rattle.std.specs.BTreeMap.{get_by}
use Rattle.std.specs.Cmp.Lexicographic.{slice_cmp}
use Rattle.std.specs.List.{flat_map, list_any, prefix_len, starts_with, filter}
use Rattle.std.specs.Option.{option_or, option_map_or}
use Rattle.std.specs.Ordering.{nat_cmp}
use Rattle.toml.specs.Data.{Data, Items, item, no_items, Members, member, no_members, get, as_array, as_table, as_str}
use Rattle.pyver_projects.specs.declared.place.Places.{Places}
use Rattle.pyver_projects.specs.declared.place.QuotedLines.{QuotedLines}
use Rattle.pyver_requirements.specs.declared.cause.Cause.{Cause}
use Rattle.std.specs.Borrow.{Bor}
use Rattle.std.specs.HashMap.{HashMap, get_by as get_hashed}
use Rattle.pyver_projects.specs.declared.inclusions.Inclusion.{Inclusion as InclusionValue}
use Rattle.pyver_projects.specs.declared.inclusions.InclusionIndex.{InclusionIndex}
use Rattle.pyver_projects.specs.declared.inclusions.NameIndex.{NameIndex}
use Rattle.pyver_projects.specs.declared.place.KeyLine.{KeyLine as KeyLineValue}
use Rattle.pyver_projects.specs.declared.project.ProjectString.{ProjectString as SourceValue}
use Rattle.pyver_projects.specs.declared.project.Section.{Section as SectionValue}
use Rattle.pyver_projects.specs.declared.project.Section.TheVariants as section

abbrev pub items_list : Items → List Data
items_list no_items = []
items_list (item d ds) = d ∷ items_list ds

abbrev pub members_list : Members → List (List ℕ × Data)
members_list no_members = []
members_list (member k d ms) = (k, d) ∷ members_list ms

-- the value at a key, if there is a table that has it
abbrev pub inside : List ℕ → Option Data → Option Data
inside key value = option_and_then (get key) value

abbrev pub items_or_none : Option Items → List Data
items_or_none None = []
items_or_none (Some ds) = items_list ds

-- the items, if there is an array
abbrev pub listed : Option Data → List Data
listed value = items_or_none (option_and_then as_array value)

abbrev pub members_or_none : Option Members → List (List ℕ × Data)
members_or_none None = []
members_or_none (Some ms) = members_list ms

-- the members, if there is a table
abbrev pub entries : Option Data → List (List ℕ × Data)
entries value = members_or_none (option_and_then as_table value)

-- the string, if there is one
abbrev pub text_in : Option Data → Option (List ℕ)
text_in value = option_and_then as_str value

abbrev pub is_some_or : {X : Type 0} → (Data → Option X) → Option Data → Bool
is_some_or read None = true
is_some_or read (Some d) = is_some (read d)

-- the strings in an array
abbrev pub texts_listed : Option Data → List (List ℕ)
texts_listed value = flat_map (λ (d : Data). option_to_list (as_str d)) (listed value)

-- the value is an array, if there is one
abbrev pub is_array_or_none : Option Data → Bool
is_array_or_none value = is_some_or as_array value

-- the value is a table, if there is one
abbrev pub is_table_or_none : Option Data → Bool
is_table_or_none value = is_some_or as_table value

-- the value is a string, if there is one
abbrev pub is_text_or_none : Option Data → Bool
is_text_or_none value = is_some_or as_str value

-- where a string stands in `pyproject.toml`: extras and groups by the normal forms of their names, and for the name of a group that
-- another includes both; or, for a string that asks for extras of the project itself, the extra that includes these, if one does, and these;
-- or, for a key or a name that is invalid, the path of what it stands in, and why it is; or, for what a key of a table of
-- Poetry asks for, the path of the table and the key; or that it is a constraint or an override of uv; or why what stands there is not read
pub data Section : Type 0 where
  Dependencies : Section
  Extra : List ℕ → Section
  Group : List ℕ → Section
  Include : (group included : List ℕ) → Section
  OwnExtras : (asker : Option (List ℕ)) → (extras : List (List ℕ)) → Section
  Invalid : (table reason : List ℕ) → Section
  Entry : (table name : List ℕ) → Section
  Constraint : Section
  Unread : Cause → Section
  Build : Section
  Python : Section
  Version : Section

pub record ProjectString : Type 0 where
  pub section : Section
  pub text : List ℕ

-- ---- what includes others

-- one group includes another, or one extra: both names in their normal form, or keys of extras of packages
pub record Inclusion : Type 0 where
  pub group : List ℕ
  pub included : List ℕ

-- this one includes these, if there is one
abbrev pub inclusions_by : Option (List ℕ) → List (List ℕ) → List Inclusion
inclusions_by None extras = []
inclusions_by (Some asker) extras = map (λ (e : List ℕ). record { group = asker; included = e }) extras

-- it includes the group, and has this property
abbrev pub includes_by : (List ℕ → Bool) → List ℕ → Inclusion → Bool
includes_by has name i = bytes_eq name i.included && has i.group

-- the first group is the second, or includes it by at most so many steps
abbrev pub includes_within : List Inclusion → List ℕ → ℕ → List ℕ → Bool
includes_within is group zero name = bytes_eq name group
includes_within is group (suc n) name = includes_within is group n name || list_any (includes_by (includes_within is group n) name) is

-- the first group is the second, or includes it, itself or through others
abbrev pub includes : List Inclusion → List ℕ → List ℕ → Bool
includes is group name = includes_within is group (length is) name

-- ---- strings in documents

-- a quote of TOML or JSON: `"` or `'`
abbrev pub is_string_quote : ℕ → Bool
is_string_quote b = b == 34 || b == 39

-- how many bytes stand before the first like this
abbrev pub others : ℕ → List ℕ → ℕ
others quote text = prefix_len (λ b. not (b == quote)) text

-- what stands before the next byte like this, if there is one
abbrev pub before_next : ℕ → List ℕ → Option (List ℕ)
before_next quote text = if nat_lt (others quote text) (length text) then Some (take (others quote text) text) else None

-- the string between the quote that the text begins with and the next like it
abbrev pub opened_string : List ℕ → Option (List ℕ)
opened_string [] = None
opened_string (b ∷ rest) = if is_string_quote b then before_next b rest else None

-- the number, if this is the string, or what is found later
abbrev pub number_or : List ℕ → ℕ → Option (List ℕ) → Option ℕ → Option ℕ
number_or string number None later = later
number_or string number (Some found) later = if bytes_eq found string then Some number else later

-- the number of the line after this
abbrev pub line_after : List ℕ → ℕ
line_after before = count_by (λ b. b == 10) before + 1

-- the number of the line of what follows this byte
abbrev pub number_after : ℕ → ℕ → ℕ
number_after number b = if b == 10 then number + 1 else number

-- the number of the first line on which the string opens: of these bytes, the first of which is on the line with this number
abbrev pub line_from : List ℕ → ℕ → List ℕ → Option ℕ
line_from string number [] = None
line_from string number (b ∷ rest) = number_or string number (opened_string (b ∷ rest)) (line_from string (number_after number b) rest)

-- the number of the first line on which the string opens, between two quotes that have none like them between
abbrev pub first_line : List ℕ → List ℕ → Option ℕ
first_line text string = line_from string 1 text

-- its number, or 1 if there is none
abbrev pub number_or_one : Option ℕ → ℕ
number_or_one None = 1
number_or_one (Some number) = number

-- the numbers of the lines that begin with the header: of these bytes, the first of which is on this line, at its start or not
abbrev pub headers_from : List ℕ → Bool → ℕ → List ℕ → List ℕ
headers_from header starts number [] = []
headers_from header starts number (b ∷ rest) = (if starts && starts_with nat_eq (b ∷ rest) header then number ∷ [] else [])
    ++ headers_from header (b == 10) (if b == 10 then number + 1 else number) rest

-- the numbers of the lines of a document that begin with the header
abbrev pub header_lines : List ℕ → List ℕ → List ℕ
header_lines header text = headers_from header true 1 text

-- the number that is kept for the string
abbrev pub known_line : QuotedLines → List ℕ → Option ℕ
known_line lines string = get_by (λ k. slice_cmp nat_cmp string k.now) lines.numbers

-- each string has the number of its first line in the document
abbrev pub HasQuotedLines : QuotedLines → Type 0
HasQuotedLines lines = (string : List ℕ) → known_line lines string ≡ first_line lines.text.now string

-- ---- keys, by paths, in which a dot is after each

-- what counts in a key: all but blanks, quotes and `[`
abbrev pub is_key_byte : ℕ → Bool
is_key_byte b = not (b == 32 || (b == 9 || (b == 91 || is_string_quote b)))

-- the path of a key in the table, or of the name of a table in another
abbrev pub key_path : List ℕ → List ℕ → List ℕ
key_path table key = table ++ (filter is_key_byte key ++ codes ".")

-- what the text begins with, up to a newline
abbrev pub line_at : List ℕ → List ℕ
line_at text = take (others 10 text) text

abbrev pub after_blanks : List ℕ → List ℕ
after_blanks line = drop (prefix_len (λ b. b == 32 || b == 9) line) line

-- the name of a table, if the line is its header
abbrev pub header_name : List ℕ → Option (List ℕ)
header_name line = if starts_with nat_eq (after_blanks line) (codes "[") then before_next 93 line else None

abbrev pub unless_open : List ℕ → Option (List ℕ)
unless_open key = if count_by is_string_quote key % 2 == 0 then Some key else None

-- what the line has before `=`, unless that stands in quotes
abbrev pub line_key : List ℕ → Option (List ℕ)
line_key line = option_and_then unless_open (before_next 61 line)

-- the path of the table with this name; of a long name a dot, with which no path of a table that is read begins, since the path stands before each key
abbrev pub table_path : List ℕ → List ℕ
table_path name = if nat_lt (length (key_path [] name)) 256 then key_path [] name else codes "."

-- the table that the lines after one with this header stand in
abbrev pub table_after : List ℕ → Option (List ℕ) → List ℕ
table_after table None = table
table_after table (Some name) = table_path name

pub record KeyLine : Type 0 where
  pub path : List ℕ
  pub line : ℕ

abbrev pub key_on : ℕ → List ℕ → Option (List ℕ) → List KeyLine
key_on number table None = []
key_on number table (Some key) = record { path = key_path table key; line = number } ∷ []

-- the key that the line with this number has, or the table of which it is the header
abbrev pub line_keys : ℕ → List ℕ → List ℕ → Option (List ℕ) → List KeyLine
line_keys number table line None = key_on number table (line_key line)
line_keys number table line (Some name) = key_on number [] (Some name)

-- the keys of lines: of these bytes, the first of which is on the line with this number, at its start or not, in this table
abbrev pub keys_from : List ℕ → Bool → ℕ → List ℕ → List KeyLine
keys_from table starts number [] = []
keys_from table starts number (b ∷ rest) =
    (if starts then line_keys number table (line_at (b ∷ rest)) (header_name (line_at (b ∷ rest))) else [])
    ++ keys_from (if starts then table_after table (header_name (line_at (b ∷ rest))) else table) (b == 10) (number_after number b) rest

-- the keys of the lines of a document
abbrev pub document_keys : List ℕ → List KeyLine
document_keys text = keys_from [] true 1 text

abbrev pub first_key : List ℕ → List KeyLine → Option ℕ
first_key path [] = None
first_key path (k ∷ ks) = number_or path k.line (Some k.path) (first_key path ks)

-- the number of the first line that has the key with this path
abbrev pub key_line : List ℕ → List ℕ → Option ℕ
key_line text path = first_key path (document_keys text)

-- the path of what the strings of a section stand in
abbrev pub section_path : Section → List ℕ
section_path Dependencies = codes "project.dependencies."
section_path (Extra name) = codes "project.optional-dependencies."
section_path (Group name) = codes "dependency-groups."
section_path (Include group included) = codes "dependency-groups."
section_path (OwnExtras asker extras) = codes "project.optional-dependencies."
section_path (Invalid table reason) = table
section_path (Entry table name) = table
section_path Constraint = codes "tool.uv."
section_path (Unread c) = []
section_path Build = codes "build-system.requires."
section_path Python = codes "project.requires-python."
section_path Version = codes "project.version."

-- the number of the line of a key that is invalid, or that asks for a package
abbrev pub own_line : List ℕ → Section → List ℕ → Option ℕ
own_line text (Invalid table reason) name = key_line text (key_path table name)
own_line text (Entry table name) string = key_line text (key_path table name)
own_line text section name = None

-- the number of the line of a string: a key has its own, another string the first on which it opens, or that of what it stands in; or 1
abbrev pub string_number : List ℕ → Section → List ℕ → ℕ
string_number text section string = number_or_one (option_or (own_line text section string) (option_or (first_line text string) (key_line text (section_path section))))

-- each path and string has the number of its first line in the document
abbrev pub HasPlaces : Places → Type 0
HasPlaces places = HasQuotedLines places.quoted × ((path : List ℕ) → get_by (λ k. slice_cmp nat_cmp path k.now) places.keys ≡ key_line places.quoted.text.now path)

abbrev pub section_of : SectionValue → Section
section_of section.Dependencies = Dependencies
section_of (section.Extra name) = Extra name.items
section_of (section.Group name) = Group name.items
section_of (section.Include group included) = Include group.items included.items
section_of (section.OwnExtras asker extras) = OwnExtras (option_map (λ n. n.items) asker) (map (λ e. e.items) extras.items)
section_of (section.Invalid table reason) = Invalid table.items reason.now
section_of (section.Entry table name) = Entry table.items name.items
section_of section.Constraint = Constraint
section_of (section.Unread c) = Unread c
section_of section.Build = Build
section_of section.Python = Python
section_of section.Version = Version

abbrev pub key_line_of : KeyLineValue → KeyLine
key_line_of k = record { path = k.path.items; line = k.number }

abbrev pub project_string_of : SourceValue → ProjectString
project_string_of s = record { section = section_of s.section; text = string_bytes s.text }

abbrev pub inclusion_of : InclusionValue → Inclusion
inclusion_of i = record { group = i.group.items; included = i.included.items }

-- ---- sets of names

-- the name is in the set
abbrev pub has_key : {X S : Type 0} → HashMap (Bor (List ℕ)) X S → List ℕ → Bool
has_key names name = is_some (get_hashed (λ k. bytes_eq name k.now) names)

-- those of the set are those before, and these
abbrev pub IsFound : {X S : Type 0} → (List ℕ → Bool) → HashMap (Bor (List ℕ)) X S → List (Bor (List ℕ)) → Type 0
IsFound before names found = (q : List ℕ) → has_key names q ≡ (before q || list_any (bytes_eq q) (map (λ n. n.now) found))

-- the names with this property were added
abbrev pub GainsNames : {X S : Type 0} → HashMap (Bor (List ℕ)) X S → HashMap (Bor (List ℕ)) X S → (List ℕ → Bool) → Type 0
GainsNames old new more = (q : List ℕ) → has_key new q ≡ (has_key old q || more q)

-- what was added is found, too
abbrev pub KeepsFound : {X S : Type 0} → HashMap (Bor (List ℕ)) X S → HashMap (Bor (List ℕ)) X S → List (Bor (List ℕ)) → List (Bor (List ℕ)) → Type 0
KeepsFound old new found more = (before : List ℕ → Bool) → IsFound before old found → IsFound before new more

-- ---- repeated names

-- what is kept of a name that stands there so often: whether it is repeated
abbrev pub is_repeated : ℕ → Option Bool
is_repeated n = if nat_eq n 0 then None else Some (nat_lt 1 n)

abbrev pub indexed_names : NameIndex → List (List ℕ)
indexed_names index = map (λ n. n.items) index.names.now

abbrev pub IsNameIndex : NameIndex → Type 0
IsNameIndex index = (q : List ℕ) → get_hashed (λ k. bytes_eq q k.now) index.repeated ≡ is_repeated (count_by (bytes_eq q) (indexed_names index))

-- ---- inclusions by their groups

abbrev pub inclusions_of : InclusionIndex → List Inclusion
inclusions_of index = map inclusion_of index.inclusions.now

-- under each name stand the inclusions of the group with this name, in their order
abbrev pub IsInclusionIndex : InclusionIndex → Type 0
IsInclusionIndex index = (q : List ℕ) → map (λ i. inclusion_of i.now) (option_map_or (λ group. group.items) (get_hashed (λ k. bytes_eq q k.now) index.by_group) []) ≡ filter (λ i. bytes_eq q i.group) (inclusions_of index)
