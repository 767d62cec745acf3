-- The files that `check` reads: those that the words name, those that the lines of requirements files name, and locks, step by step.
use Rattle.std.specs.Prelude.{Bool, List, None, Option, Some, [], bytes_eq, codes, drop, false, if◌then◌else◌, length, map, nat_eq, not, string_bytes, suc, take, true, zero, ℕ, ◌&&◌, ◌++◌, ◌+◌, ◌<◌, ◌||◌, ◌∷◌, ◌≡◌, ◌≤◌, ◌⊎◌}
use Rattle.std.specs.List.{ends_with, flat_map, list_any, starts_with}
use Rattle.std.specs.Str.{IsUtf8}
use Rattle.pyver_commands.specs.Sources.SourceTexts.{FailsInText}
use Rattle.pyver_commands.specs.Sources.{IsKnownPath, KnownFile, MayFailToOpen, ReadsWhole, is_input}
use Rattle.pyver_tool.specs.declared.options.FileKind.{FileKind}
use Rattle.pyver_commands.specs.declared.sources.open_failure.OpenFailure.{OpenFailure}
use Rattle.pyver_commands.specs.declared.sources.stream.RunFailure.{RunFailure}
use Rattle.pyver_commands.specs.declared.sources.stream.RunFailure.TheVariants as run_failure
use Rattle.pyver_findings.specs.FileLines.{File}
use Rattle.pyver_findings.specs.NamedFiles.{NamedFile, folder, named_files}
use Rattle.pyver_documents.specs.Comparing.{is_project}
use Rattle.pyver_documents.specs.Meanings.{Document}
use Rattle.pyver_tool.specs.SplitWords.{kind_by_name}
use Rattle.pyver_tool.specs.declared.lock_search.LockSearch.{LockSearch}
use Rattle.pyver_tool.specs.declared.requirement_files.RequirementFiles.{RequirementFiles}
use Rattle.pyver_tool.specs.declared.requirement_files.UnopenedFile.{UnopenedFile as UnopenedFileValue}
use Rattle.pyver_findings.specs.Views.{file_of, named_file_of}
use Rattle.pyver_documents.specs.DocumentViews.{document_of}
use Rattle.pyver_tool.specs.declared.options.FileKind.TheVariants as file_kind
use Rattle.pyver_commands.specs.declared.sources.open_failure.OpenFailure.TheVariants as failure

-- a file that was not opened, and why
pub record UnopenedFile : Type 0 where
  pub named : NamedFile
  pub failure : OpenFailure

-- files that were read, by their kinds, and their paths; and those that were not opened
pub record FilesRead : Type 0 where
  pub requirements : List File
  pub documents : List Document
  pub paths : List (List ℕ)
  pub unopened : List UnopenedFile

abbrev pub none_read : FilesRead
none_read = record { requirements = []; documents = []; paths = []; unopened = [] }

-- a file of this kind more
abbrev pub with_file : FilesRead → FileKind → File → List ℕ → FilesRead
with_file a file_kind.Requirements file path = record { requirements = a.requirements ++ file ∷ []; documents = a.documents; paths = a.paths ++ path ∷ []; unopened = a.unopened }
with_file a (file_kind.Document kind) file path = record { requirements = a.requirements; documents = a.documents ++ record { kind = kind; file = file } ∷ []; paths = a.paths ++ path ∷ []; unopened = a.unopened }

abbrev pub with_unopened : FilesRead → NamedFile → OpenFailure → FilesRead
with_unopened a named why = record { requirements = a.requirements; documents = a.documents; paths = a.paths; unopened = a.unopened ++ record { named = named; failure = why } ∷ [] }

-- the file that a word names
abbrev pub word_file : List ℕ → NamedFile
word_file name = record { name = name; position = None }

-- a file with this path was read
abbrev pub has_path : FilesRead → List ℕ → Bool
has_path a path = list_any (bytes_eq path) a.paths

-- the path of a source: of standard input its name
abbrev pub IsSourcePath : Bool → Option (List ℕ) → List ℕ → List ℕ → Type 0
IsSourcePath true known name path = path ≡ name
IsSourcePath false known name path = IsKnownPath known path

-- the file was not opened, because of this: its name is no UTF-8, or the system does not open it
abbrev pub FailsOpening : KnownFile → List ℕ → OpenFailure → Type 0
FailsOpening file name why = ((¬ IsUtf8 name) × (why ≡ failure.Other)) ⊎ (IsUtf8 name × (is_input name ≡ false) × MayFailToOpen file why)

-- the text of the source with this name
abbrev pub file_with : List ℕ → List ℕ → File
file_with name text = record { name = name; text = text }

-- ---- where locks are sought

-- the numbers below this one, the greatest first
abbrev pub below : ℕ → List ℕ
below zero = []
below (suc n) = n ∷ below n

-- the start of a path is a folder in which its file lies, as the path names it: nothing, unless the path begins with `/`, or what ends with
-- `/`; and no `..` follows, which leads out of it
abbrev pub is_folder : List ℕ → List ℕ → Bool
is_folder [] rest = not (starts_with nat_eq rest (codes "/") || starts_with nat_eq rest (codes "../"))
is_folder (b ∷ start) rest = ends_with nat_eq (b ∷ start) (codes "/") && not (starts_with nat_eq rest (codes "../"))

-- the name of a lock in the folder that the start of a path is, if it is one
abbrev pub name_between : List ℕ → List ℕ → List ℕ → List (List ℕ)
name_between lock start rest = if is_folder start rest then (start ++ lock) ∷ [] else []

-- the names of a lock in the folders of a path, the longest first
abbrev pub sought_names : List ℕ → List ℕ → List (List ℕ)
sought_names path lock = flat_map (λ n. name_between lock (take n path) (drop n path)) (below (length path + 1))

-- the name of a lock in the folder of the file with this path
abbrev pub own_name : List ℕ → List ℕ → List (List ℕ)
own_name path lock = (folder path ++ lock) ∷ []

-- each lock is sought by itself, in this order: that of uv, which may have members, also in the folders above
abbrev pub path_searches : List ℕ → List (List (List ℕ))
path_searches path = own_name path (codes "pylock.toml") ∷ (sought_names path (codes "uv.lock") ∷ (own_name path (codes "poetry.lock") ∷ (own_name path (codes "pdm.lock") ∷ [])))

-- the searches for the locks of a document: it is a project, and not standard input
abbrev pub searches_for : Document → List (List (List ℕ))
searches_for d = if is_project d.kind && not (is_input d.file.name) then path_searches d.file.name else []

-- the searches for the locks of these documents
abbrev pub lock_searches : List Document → List (List (List ℕ))
lock_searches documents = flat_map searches_for documents

-- they are made, or none, after these files
abbrev pub searches_if : Bool → FilesRead → List (List (List ℕ))
searches_if seeks named = if seeks then lock_searches named.documents else []

-- ---- what is read

-- `kind` is the kind of files that have none by name, `files` is what is known of each file, `paths` what is known of its path, and
-- `remaining` are the bytes that standard input has left
module _ {R : Type 0} (kind : FileKind) (files : List ℕ → KnownFile) (paths : List ℕ → Option (List ℕ)) (remaining : R → Option (List ℕ)) where
  -- the path of the source with this name
  abbrev pub HasPath : List ℕ → List ℕ → Type 0
  HasPath name path = IsSourcePath (is_input name) (paths name) name path

  -- a source with the path of this name, which is UTF-8, had been read; or the source was read
  abbrev pub OpensNext : List ℕ → FilesRead → FilesRead → R → R → Type 0
  OpensNext name a b reader reader' = IsUtf8 name × (path : List ℕ) × HasPath name path
      × (((has_path a path ≡ true) × (b ≡ a) × (reader' ≡ reader))
      ⊎ ((has_path a path ≡ false) × ((text : List ℕ) × ReadsWhole files remaining name reader reader' text × (b ≡ with_file a (kind_by_name kind name) (file_with name text) path))))

  -- a source with the path of this name had been read, or the source was read; or the file was not opened
  abbrev pub ReadsNext : NamedFile → FilesRead → FilesRead → R → R → Type 0
  ReadsNext named a b reader reader' = OpensNext named.name a b reader reader'
      ⊎ ((why : OpenFailure) × FailsOpening (files named.name) named.name why × (b ≡ with_unopened a named why) × (reader' ≡ reader))

  -- the sources with these names, each in turn
  abbrev pub ReadsFilesInTurn : List NamedFile → FilesRead → FilesRead → R → R → Type 0
  ReadsFilesInTurn [] a b reader reader' = (b ≡ a) × (reader' ≡ reader)
  ReadsFilesInTurn (named ∷ names) a b reader reader' = (c : FilesRead) × (middle : R) × ReadsNext named a c reader middle × ReadsFilesInTurn names c b middle reader'

  -- of all names, first these and then those that the lines of each requirements file name, in the order of the files, each was read in turn
  abbrev pub ReadsNames : List NamedFile → R → R → FilesRead → Type 0
  ReadsNames first reader reader' read = ReadsFilesInTurn (first ++ flat_map named_files read.requirements) none_read read reader reader'

  -- some names were read so, and a part of the source with the next one, or, where an allocation failed, nothing
  pub record FailsInNames (first : List NamedFile) (reader reader' : R) (why : RunFailure) : Type 0 where
    pub done : List NamedFile
    pub named : NamedFile
    pub left : List NamedFile
    pub read : FilesRead
    pub split : first ++ flat_map named_files read.requirements ≡ done ++ named ∷ left
    pub middle : R
    pub each : ReadsFilesInTurn done none_read read reader middle
    pub part : FailsInText files remaining named.name middle reader' why

  -- the file with this name was read, unless one with its path had been; or it is there and was not opened
  abbrev pub EndsSearch : List ℕ → FilesRead → FilesRead → R → R → Type 0
  EndsSearch name a b reader reader' = OpensNext name a b reader reader'
      ⊎ ((why : OpenFailure) × (¬ (why ≡ failure.NotFound)) × FailsOpening (files name) name why × (b ≡ with_unopened a (word_file name) why) × (reader' ≡ reader))

  -- the first of the files with these names that is there
  abbrev pub SeeksFirst : List (List ℕ) → FilesRead → FilesRead → R → R → Type 0
  SeeksFirst [] a b reader reader' = (b ≡ a) × (reader' ≡ reader)
  SeeksFirst (name ∷ names) a b reader reader' = EndsSearch name a b reader reader' ⊎ (FailsOpening (files name) name failure.NotFound × SeeksFirst names a b reader reader')

  -- each of these searches in turn
  abbrev pub SeeksInTurn : List (List (List ℕ)) → FilesRead → FilesRead → R → R → Type 0
  SeeksInTurn [] a b reader reader' = (b ≡ a) × (reader' ≡ reader)
  SeeksInTurn (names ∷ searches) a b reader reader' = (c : FilesRead) × (middle : R) × SeeksFirst names a c reader middle × SeeksInTurn searches c b middle reader'

  -- some names were of no files, and a part of the source with the next one was read, or, where an allocation failed, nothing
  abbrev pub FailsInSearch : List (List ℕ) → R → R → RunFailure → Type 0
  FailsInSearch [] reader reader' why = ⊥
  FailsInSearch (name ∷ names) reader reader' why = FailsInText files remaining name reader reader' why ⊎ (FailsOpening (files name) name failure.NotFound × FailsInSearch names reader reader' why)

  -- some searches were made, and the next one stopped
  abbrev pub FailsInSearches : List (List (List ℕ)) → FilesRead → R → R → RunFailure → Type 0
  FailsInSearches [] a reader reader' why = ⊥
  FailsInSearches (names ∷ searches) a reader reader' why = FailsInSearch names reader reader' why
      ⊎ ((c : FilesRead) × (middle : R) × SeeksFirst names a c reader middle × FailsInSearches searches c middle reader' why)

  -- of the files that the words name, and those that their lines name, each was read in turn; then locks, if they are sought
  abbrev pub ReadsFiles : Bool → List (List ℕ) → R → R → FilesRead → Type 0
  ReadsFiles seeks words reader reader' read = (named : FilesRead) × (middle : R) × ReadsNames (map word_file words) reader middle named × SeeksInTurn (searches_if seeks named) named read middle reader'

  -- reading stopped so in one of them, or an allocation failed between
  abbrev pub FailsInFiles : Bool → List (List ℕ) → R → R → RunFailure → Type 0
  FailsInFiles seeks words reader reader' why = FailsInNames (map word_file words) reader reader' why
      ⊎ ((named : FilesRead) × (middle : R) × ReadsNames (map word_file words) reader middle named
      × (((why ≡ run_failure.OutOfMemory) × (reader' ≡ middle)) ⊎ FailsInSearches (searches_if seeks named) named middle reader' why))

abbrev pub search_of : LockSearch → List (List ℕ)
search_of search = map (λ name. name.items) search.names.items

abbrev pub unopened_file_of : UnopenedFileValue → UnopenedFile
unopened_file_of file = record { named = named_file_of file.named; failure = file.failure }

abbrev pub read_of : RequirementFiles → FilesRead
read_of state = record { requirements = map file_of state.requirements.items; documents = map document_of state.documents.items; paths = map string_bytes state.paths.items; unopened = map unopened_file_of state.unopened.items }

abbrev pub names_of_files : RequirementFiles → List NamedFile
names_of_files state = map named_file_of state.names.items

-- the files that the lines of a file of this kind name
abbrev pub names_in : FileKind → File → List NamedFile
names_in file_kind.Requirements file = named_files file
names_in (file_kind.Document kind) file = []

-- a file of this kind more, and the names in it
pub record GainsFile (kind : FileKind) (a b : RequirementFiles) (file : File) (path : List ℕ) : Type 0 where
  pub read : read_of b ≡ with_file (read_of a) kind file path
  pub names : names_of_files b ≡ names_of_files a ++ names_in kind file

-- one more that was not opened
pub record GainsUnopened (a b : RequirementFiles) (named : NamedFile) (why : OpenFailure) : Type 0 where
  pub read : read_of b ≡ with_unopened (read_of a) named why
  pub names : b.names ≡ a.names
  pub count : b.read_count ≡ a.read_count

-- the names are these, and those in the files that were read
abbrev pub HasNames : List NamedFile → RequirementFiles → Type 0
HasNames first state = names_of_files state ≡ first ++ flat_map named_files (read_of state).requirements

-- more was read than before, or there are no more names
abbrev pub Advances : RequirementFiles → RequirementFiles → Type 0
Advances a b = (a.read_count < b.read_count) ⊎ ((b.read_count ≡ a.read_count) × (length b.names.items ≡ length a.names.items))

-- no more reads than there may be
abbrev pub HasReads : RequirementFiles → Type 0
HasReads state = state.read_count ≤ 562949953421312

-- this was done with a name, and then names may follow
pub record StepsTo (Next : Type 0) (a b : RequirementFiles) : Type 0 where
  pub next : Next
  pub names : (first : List NamedFile) → HasNames first a → HasNames first b
  pub more : List NamedFile
  pub behind : names_of_files b ≡ names_of_files a ++ more
  pub advances : Advances a b
  pub reads : HasReads b

module _ {R : Type 0} (kind : FileKind) (files : List ℕ → KnownFile) (paths : List ℕ → Option (List ℕ)) (remaining : R → Option (List ℕ)) where
  -- the source with this name was read unless it had been before
  abbrev pub OpensStep : List ℕ → RequirementFiles → RequirementFiles → R → R → Type 0
  OpensStep name a b reader reader' = StepsTo (OpensNext kind files paths remaining name (read_of a) (read_of b) reader reader') a b

  -- the source with this name was read unless it had been before, or it was not opened
  abbrev pub ReadsStep : NamedFile → RequirementFiles → RequirementFiles → R → R → Type 0
  ReadsStep named a b reader reader' = StepsTo (ReadsNext kind files paths remaining named (read_of a) (read_of b) reader reader') a b

  -- a source was read so; or its file was not opened
  abbrev pub StepsOrFailsOpening : List ℕ → RequirementFiles → RequirementFiles → R → R → Option OpenFailure → Type 0
  StepsOrFailsOpening name a b reader reader' None = OpensStep name a b reader reader'
  StepsOrFailsOpening name a b reader reader' (Some why) = FailsOpening (files name) name why × (b ≡ a) × (reader' ≡ reader)

  -- the search ended with this name; or the file is not there
  abbrev pub SeeksName : List ℕ → RequirementFiles → RequirementFiles → R → R → Bool → Type 0
  SeeksName name a b reader reader' true = EndsSearch kind files paths remaining name (read_of a) (read_of b) reader reader' × HasReads b
  SeeksName name a b reader reader' false = FailsOpening (files name) name failure.NotFound × (b ≡ a) × (reader' ≡ reader)
