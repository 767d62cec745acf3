-- The parts of a version, by name, and how each is written by itself. A part that is absent is no bytes.
use Rattle.std.specs.Prelude.{ℕ, List, [], Option, Some, None, bytes_eq, codes, get_or, if◌then◌else◌}
use Rattle.std.specs.Fmt.{decimal}
use Rattle.std.specs.Option.{option_map_or}
use Rattle.pep440_version.specs.Print.{dotted, pre_text, print, print_segment}
use Rattle.pep440_version.specs.Record.{Record, epoch_and_release, from_release}
use Rattle.pyver_commands.specs.declared.part.VersionPart.{VersionPart}
use Rattle.pyver_commands.specs.declared.part.VersionPart.TheVariants as part

-- the part that the word names
abbrev pub part_of : List ℕ → Option VersionPart
part_of word =
    if bytes_eq word (codes "epoch") then Some part.Epoch
    else if bytes_eq word (codes "release") then Some part.Release
    else if bytes_eq word (codes "major") then Some part.Major
    else if bytes_eq word (codes "minor") then Some part.Minor
    else if bytes_eq word (codes "micro") then Some part.Micro
    else if bytes_eq word (codes "pre") then Some part.Pre
    else if bytes_eq word (codes "post") then Some part.Post
    else if bytes_eq word (codes "dev") then Some part.Dev
    else if bytes_eq word (codes "local") then Some part.Local
    else if bytes_eq word (codes "public") then Some part.Public
    else if bytes_eq word (codes "base") then Some part.Base
    else None

-- the number in decimal, or nothing if absent
abbrev pub number_text : Option ℕ → List ℕ
number_text number = option_map_or decimal number []

-- the part as it is printed. Absent numbers of the release are 0, as 1.0 is 1.0.0; the public version is all but the local
-- part, and the base version is epoch and release (PEP 440, "Public version identifiers" and "Local version identifiers").
abbrev pub part_text : VersionPart → Record → List ℕ
part_text part.Epoch r = decimal r.epoch
part_text part.Release r = print (from_release r.release)
part_text part.Major r = decimal (get_or r.release 0 0)
part_text part.Minor r = decimal (get_or r.release 1 0)
part_text part.Micro r = decimal (get_or r.release 2 0)
part_text part.Pre r = pre_text r.pre
part_text part.Post r = number_text r.post
part_text part.Dev r = number_text r.dev
part_text part.Local r = dotted print_segment r.local
part_text part.Public r = print (record r { local = [] })
part_text part.Base r = print (epoch_and_release r.epoch r.release)
