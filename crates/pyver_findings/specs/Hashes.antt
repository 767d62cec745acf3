-- Which lines lack the hash or the version that pip 26.2 wants of each requirement once one has a hash (pip, "Secure installs").
use Rattle.std.specs.Prelude.{ℕ, ◌&&◌, ◌||◌, List, [], ◌∷◌, Bool, true, false, bytes_eq, codes, is_some, not, if◌then◌else◌}
use Rattle.std.specs.Borrow.{Bor}
use Rattle.std.specs.HashMap.{HashMap, get_by}
use Rattle.std.specs.List.{flat_map, list_all, list_any}
use Rattle.std.specs.Ordering.{eq_by_cmp}
use Rattle.pep440_rs.specs.Specifiers.{Spec, spec_cmp}
use Rattle.pep440_rs.specs.declared.specifier.operator.Operator.{Operator}
use Rattle.pep440_rs.specs.declared.specifier.operator.Operator.TheVariants.{Equal, EqualStar, ExactEqual}
use Rattle.pyver_requirements.specs.LineKinds.{LineKind, Location, PipOption, Requirement, Variable, line_kind}
use Rattle.pyver_requirements.specs.Options.{has_option, has_plain_options}
use Rattle.pyver_findings.specs.Demands.{Demand}
use Rattle.pyver_findings.specs.FileLines.{FileLine, Finding, NoRequirement}
use Rattle.pyver_findings.specs.NamedFiles.{constraints_names}

-- ---- whether hashes are wanted

-- a requirement, of which pip reads the hashes
abbrev pub reads_hashes : LineKind → Bool
reads_hashes Requirement = true
reads_hashes Location = true
reads_hashes Variable = true
reads_hashes _ = false

abbrev pub is_pip_option : LineKind → Bool
is_pip_option PipOption = true
is_pip_option _ = false

-- a requirement with a hash
abbrev pub has_hash : FileLine → Bool
has_hash l = has_option (codes "--hash") l.text && reads_hashes (line_kind l.text)

-- a line of options with this one
abbrev pub says : List ℕ → FileLine → Bool
says option l = has_option option l.text && is_pip_option (line_kind l.text)

-- the line wants a hash of each requirement
abbrev pub wants_hashes : FileLine → Bool
wants_hashes l = has_hash l || says (codes "--require-hashes") l

-- the line says that no hash is wanted, whatever others do
abbrev pub waives_hashes : FileLine → Bool
waives_hashes l = says (codes "--no-require-hashes") l

-- the line wants hashes, and none of the lines names its file after `-c`
abbrev pub is_hashing : List FileLine → FileLine → Bool
is_hashing lines l = wants_hashes l && not (list_any (bytes_eq l.file) (flat_map constraints_names lines))

-- one of the lines wants hashes of the file with this name
abbrev pub is_hashed : List FileLine → List ℕ → Bool
is_hashed lines file = list_any (λ (l : FileLine). bytes_eq file l.file && is_hashing lines l) lines

-- ---- what a line lacks

-- `==`, also with a star, and `===`
abbrev pub is_equality : Operator → Bool
is_equality Equal = true
is_equality EqualStar = true
is_equality ExactEqual = true
is_equality _ = false

-- a list that pip takes for a pin: one specifier of equality, which may be there again, as `==1,==1.0`
abbrev pub is_pin : List Spec → Bool
is_pin [] = false
is_pin (s ∷ rest) = is_equality s.operator && list_all (λ (m : Spec). eq_by_cmp spec_cmp m s) rest

-- the line has a hash, or may have one in quotes
abbrev pub may_have_hash : FileLine → Bool
may_have_hash l = has_option (codes "--hash") l.text || not (has_plain_options l.text)

-- a line with this name is pinned
abbrev pub has_pin : List Demand → List ℕ → Bool
has_pin lines name = list_any (λ (a : Demand). bytes_eq name a.name && is_pin a.specifiers) lines

-- a line with this name has a hash, or may have one
abbrev pub may_be_hashed : List Demand → List ℕ → Bool
may_be_hashed lines name = list_any (λ (a : Demand). bytes_eq name a.name && may_have_hash a.line) lines

-- what the line lacks where hashes are wanted, by whether a line of its name is pinned, and has a hash
abbrev pub lacking_of_line : FileLine → Bool → Bool → List Finding
lacking_of_line l pinned hashed =
    if not pinned then NoRequirement l (codes "hashes are required, but no '==' pins a version") 0 ∷ []
    else if not hashed then NoRequirement l (codes "hashes are required, but there is none") 0 ∷ []
    else []

-- what the line lacks, if it is of one of these files, by which names are pinned, and hashed
abbrev pub lacking_by : (List ℕ → Bool) → (List ℕ → Bool) → (List ℕ → Bool) → Demand → List Finding
lacking_by is_file is_pinned is_hashed a = if is_file a.line.file then lacking_of_line a.line (is_pinned a.name) (is_hashed a.name) else []

-- what the line lacks, by which names these lines pin and hash
abbrev pub lacking_in : (List ℕ → Bool) → List Demand → Demand → List Finding
lacking_in is_file lines a = lacking_by is_file (has_pin lines) (may_be_hashed lines) a

-- what requirements among these lines lack, each in a file in which hashes are wanted
abbrev pub lacks_hashes : List FileLine → List Demand → List Finding
lacks_hashes lines demands = if list_any waives_hashes lines then [] else flat_map (lacking_in (is_hashed lines) demands) demands

-- ---- names that are looked up

-- the name is among the keys
abbrev pub is_known_name : {X S : Type 0} → HashMap (Bor (List ℕ)) X S → List ℕ → Bool
is_known_name names name = is_some (get_by (λ k. bytes_eq name k.now) names)
