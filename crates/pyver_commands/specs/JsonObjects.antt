-- All parts of a version as a JSON object (RFC 8259). Its strings need no escape: they hold letters, digits, `.`, `+` and `!`.
use Rattle.std.specs.Prelude.{ℕ, List, [], ◌∷◌, ◌++◌, Option, codes, get_or, nat_le, if◌then◌else◌}
use Rattle.std.specs.Fmt.{decimal}
use Rattle.std.specs.List.{flat_map}
use Rattle.std.specs.Option.{option_map_or}
use Rattle.pep440_version.specs.Print.{dotted, prerelease_kind_text, print, print_segment}
use Rattle.pep440_version.specs.Record.{LocalSegmentValue, Record}
use Rattle.pep440_version.specs.declared.prerelease.Prerelease.{Prerelease}
use Rattle.pyver_commands.specs.Parts.{part_text}
use Rattle.pyver_commands.specs.declared.part.VersionPart.TheVariants as part

-- the string in double quotes
abbrev pub in_quotes : List ℕ → List ℕ
in_quotes text = codes "\"" ++ (text ++ codes "\"")

-- a number; above 2^53 it is written as a string, since readers that use floats are exact only up to there
abbrev pub json_number : ℕ → List ℕ
json_number n = if nat_le n 9007199254740992 then decimal n else in_quotes (decimal n)

-- the number, or `null`
abbrev pub json_optional : Option ℕ → List ℕ
json_optional number = option_map_or json_number number (codes "null")

-- the items in brackets, with commas between them
abbrev pub json_array : List ℕ → List ℕ
json_array [] = codes "[]"
json_array (n ∷ rest) = codes "[" ++ (json_number n ++ (flat_map (λ m. codes "," ++ json_number m) rest ++ codes "]"))

-- an array of kind and number
abbrev pub json_prerelease : Prerelease → List ℕ
json_prerelease p = codes "[" ++ (in_quotes (prerelease_kind_text p.kind) ++ ((codes "," ++ json_number p.number) ++ codes "]"))

-- the pre-release as an array, or `null`
abbrev pub json_pre : Option Prerelease → List ℕ
json_pre pre = option_map_or json_prerelease pre (codes "null")

-- the local part as a string, or `null`
abbrev pub json_local : List LocalSegmentValue → List ℕ
json_local [] = codes "null"
json_local (s ∷ rest) = in_quotes (dotted print_segment (s ∷ rest))

-- a comma, the name of a member in quotes, and a colon
abbrev pub next_name : List ℕ → List ℕ
next_name name = codes ",\"" ++ (name ++ codes "\":")

-- a member that is a number
abbrev pub number_member : List ℕ → ℕ → List ℕ
number_member name number = next_name name ++ json_number number

-- a member that is a number or `null`
abbrev pub optional_member : List ℕ → Option ℕ → List ℕ
optional_member name number = next_name name ++ json_optional number

-- a member that is a string
abbrev pub text_member : List ℕ → List ℕ → List ℕ
text_member name text = next_name name ++ in_quotes text

-- the members `major`, `minor` and `micro`
abbrev pub json_numbers : Record → List ℕ
json_numbers r = number_member (codes "major") (get_or r.release 0 0)
    ++ (number_member (codes "minor") (get_or r.release 1 0) ++ number_member (codes "micro") (get_or r.release 2 0))

-- the members `epoch`, `release`, `major`, `minor` and `micro`
abbrev pub json_release : Record → List ℕ
json_release r = number_member (codes "epoch") r.epoch ++ (next_name (codes "release") ++ (json_array r.release ++ json_numbers r))

-- the members `pre`, `post`, `dev` and `local`, `null` if absent
abbrev pub json_suffixes : Record → List ℕ
json_suffixes r = next_name (codes "pre") ++ (json_pre r.pre ++ (optional_member (codes "post") r.post
    ++ (optional_member (codes "dev") r.dev ++ (next_name (codes "local") ++ json_local r.local))))

-- the members `public` and `base`
abbrev pub json_forms : Record → List ℕ
json_forms r = text_member (codes "public") (part_text part.Public r) ++ text_member (codes "base") (part_text part.Base r)

-- all members but the first
abbrev pub json_members : Record → List ℕ
json_members r = json_release r ++ (json_suffixes r ++ json_forms r)

-- the JSON object, whose first member is the normalized form
abbrev pub json_object : Record → List ℕ
json_object r = codes "{\"version\":" ++ (in_quotes (print r) ++ (json_members r ++ codes "}"))
