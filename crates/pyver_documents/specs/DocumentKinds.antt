-- The kinds of documents, by their paths and by words.
use Rattle.std.specs.Prelude.{Bool, List, bytes_eq, nat_eq, ℕ, ◌||◌, codes, count_by, length, nat_lt, ◌&&◌, ◌==◌, None, Option, Some, if◌then◌else◌, option_map}
use Rattle.std.specs.List.{ends_with, starts_with}
use Rattle.toml.specs.Parse.{parse_document}
use Rattle.pyver_documents.specs.declared.document_kind.DocumentKind.{DocumentKind}
use Rattle.pyver_documents.specs.declared.document_kind.DocumentKind.TheVariants.{Lock, Project}
use Rattle.pyver_locks.specs.LockContents.{LockContents}
use Rattle.pyver_locks.specs.LockedFiles.{last_section}
use Rattle.pyver_locks.specs.Locks.{contents}
use Rattle.pyver_locks.specs.declared.lock_kind.LockKind.{LockKind}
use Rattle.pyver_locks.specs.declared.lock_kind.LockKind.TheVariants.{Pdm, Poetry, Pylock, Uv, Unknown}

-- the path is this name, or ends with it after a `/`
abbrev pub ends_path : List ℕ → List ℕ → List ℕ → Bool
ends_path path name after_slash = bytes_eq path name || ends_with nat_eq path after_slash

-- `pylock.NAME.toml`, where NAME has no dot (PEP 751)
abbrev pub is_named_pylock : List ℕ → Bool
is_named_pylock name = nat_lt 12 (length name) && (starts_with nat_eq name (codes "pylock.") && (ends_with nat_eq name (codes ".toml") && count_by (λ b. b == 46) name == 2))

-- the path ends as those of documents do
abbrev pub is_document_path : List ℕ → Bool
is_document_path path = ends_with nat_eq path (codes ".lock") || (ends_with nat_eq path (codes ".toml") || (ends_with nat_eq path (codes ".cfg") || ends_with nat_eq path (codes ".json")))

-- the file is a Pipfile or its lock, which Pipenv itself checks
abbrev pub is_pipenv_path : List ℕ → Bool
is_pipenv_path path = ends_path path (codes "Pipfile") (codes "/Pipfile") || ends_path path (codes "Pipfile.lock") (codes "/Pipfile.lock")

-- the kind of the document with this path
abbrev pub kind_of_path : List ℕ → Option DocumentKind
kind_of_path path =
    if ends_path path (codes "pyproject.toml") (codes "/pyproject.toml") then Some Project
    else if ends_path path (codes "pylock.toml") (codes "/pylock.toml") then Some (Lock Pylock)
    else if is_named_pylock (last_section path) then Some (Lock Pylock)
    else if ends_path path (codes "uv.lock") (codes "/uv.lock") then Some (Lock Uv)
    else if ends_path path (codes "poetry.lock") (codes "/poetry.lock") then Some (Lock Poetry)
    else if ends_path path (codes "pdm.lock") (codes "/pdm.lock") then Some (Lock Pdm)
    else None

-- the kind of document that this word names
abbrev pub kind_of_word : List ℕ → Option DocumentKind
kind_of_word word =
    if bytes_eq word (codes "pyproject") then Some Project
    else if bytes_eq word (codes "pylock") then Some (Lock Pylock)
    else if bytes_eq word (codes "uv") then Some (Lock Uv)
    else if bytes_eq word (codes "poetry") then Some (Lock Poetry)
    else if bytes_eq word (codes "pdm") then Some (Lock Pdm)
    else None

-- what a TOML lock with this text has, if it is TOML: packages at the key, each under the header
abbrev pub toml_contents : LockKind → List ℕ → List ℕ → List ℕ → Option LockContents
toml_contents kind key header text = option_map (contents kind header text key) (parse_document text)

-- what a lock with this text has, if it is TOML of a known format
abbrev pub locked : LockKind → List ℕ → Option LockContents
locked Pylock text = toml_contents Pylock (codes "packages") (codes "[[packages]]") text
locked Uv text = toml_contents Uv (codes "package") (codes "[[package]]") text
locked Pdm text = toml_contents Pdm (codes "package") (codes "[[package]]") text
locked Poetry text = toml_contents Poetry (codes "package") (codes "[[package]]") text
locked Unknown text = None
