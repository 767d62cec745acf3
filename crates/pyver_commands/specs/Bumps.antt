-- `bump PART.. [V]`: the version with its parts raised, in order.
use Rattle.std.specs.Prelude.{◌≡◌, ◌+◌, ◌==◌, ◌||◌, ◌&&◌, not, ℕ, zero, suc, List, [], ◌∷◌, ◌++◌, Bool, true, false, Option, Some, None, Result, Ok, Err, bytes_eq, codes, get_or, is_some, map, nat_lt, if◌then◌else◌}
use Rattle.std.specs.Ordering.{is_gt}
use Rattle.pep440_rs.specs.Matching.{any_prerelease}
use Rattle.pep440_version.specs.Key.{kind_rank, record_cmp}
use Rattle.pep440_version.specs.Print.{print}
use Rattle.pep440_version.specs.Record.{Record, epoch_and_release}
use Rattle.pep440_version.specs.declared.prerelease.Prerelease.{Prerelease}
use Rattle.pep440_version.specs.declared.prerelease.PrereleaseKind.{PrereleaseKind}
use Rattle.pep440_version.specs.declared.prerelease.PrereleaseKind.TheVariants as kind
use Rattle.cli_io.specs.Runs.{Outcome}
use Rattle.pyver_commands.specs.Outcomes.{fault}
use Rattle.pyver_commands.specs.Readings.{Denotes, Fails, Reading, Reads}
use Rattle.pyver_commands.specs.declared.bump.BumpError.{BumpError}
use Rattle.pyver_commands.specs.declared.bump.BumpError.TheVariants as error
use Rattle.pyver_commands.specs.declared.bump.BumpPart.{BumpPart}
use Rattle.pyver_commands.specs.declared.bump.BumpPart.TheVariants as part

-- the part that the word names
abbrev pub bump_part_of : List ℕ → Option BumpPart
bump_part_of word =
    if bytes_eq word (codes "major") then Some (part.Release 0)
    else if bytes_eq word (codes "minor") then Some (part.Release 1)
    else if bytes_eq word (codes "patch") then Some (part.Release 2)
    else if bytes_eq word (codes "stable") then Some part.Stable
    else if bytes_eq word (codes "alpha") then Some (part.Pre kind.Alpha)
    else if bytes_eq word (codes "beta") then Some (part.Pre kind.Beta)
    else if bytes_eq word (codes "rc") then Some (part.Pre kind.Rc)
    else if bytes_eq word (codes "post") then Some part.Post
    else if bytes_eq word (codes "dev") then Some part.Dev
    else None

-- ---- one part

-- the number that is asked for; else 1 where there is none, the same where its release is still in development, or the one after it
abbrev pub new_number : Option ℕ → Bool → Option ℕ → Result ℕ BumpError
new_number (Some n) is_dev old = Ok n
new_number None is_dev None = Ok 1
new_number None true (Some n) = Ok n
new_number None false (Some n) = if n == 18446744073709551615 then Err error.Greatest else Ok (n + 1)

-- the record that is made of the number, where there is one
abbrev pub with_number : Result ℕ BumpError → (ℕ → Record) → Result Record BumpError
with_number (Ok n) make = Ok (make n)
with_number (Err e) make = Err e

-- the release with this number at the index: numbers before it that are missing are 0, and those after it become 0
abbrev pub release_with : ℕ → ℕ → List ℕ → List ℕ
release_with zero n [] = n ∷ []
release_with zero n (m ∷ rest) = n ∷ map (λ _. 0) rest
release_with (suc i) n [] = 0 ∷ release_with i n []
release_with (suc i) n (m ∷ rest) = m ∷ release_with i n rest

-- a number that is missing counts as 0; what follows the release goes
abbrev pub bump_release : Option ℕ → ℕ → Record → Result Record BumpError
bump_release to index r = with_number (new_number to false (Some (get_or r.release index 0))) (λ n. epoch_and_release r.epoch (release_with index n r.release))

-- What a pre-release or a developmental release leads to: all after the release goes where there is a pre-release, and
-- otherwise the developmental part. There is no number to set.
abbrev pub bump_stable : Option ℕ → Record → Result Record BumpError
bump_stable (Some n) r = Err error.NoNumber
bump_stable None r = Ok (if is_some r.pre then epoch_and_release r.epoch r.release else record r { dev = None; local = [] })

-- it is known which release comes next: a part before named it, or the version is a pre-release or a developmental release
abbrev pub knows_release : Bool → Record → Bool
knows_release named r = named || any_prerelease r

-- the version is a pre-release of a later kind
abbrev pub is_later_kind : PrereleaseKind → Option Prerelease → Bool
is_later_kind kind None = false
is_later_kind kind (Some p) = nat_lt (kind_rank kind) (kind_rank p.kind)

-- the number of the pre-release where it is of this kind
abbrev pub pre_number : PrereleaseKind → Option Prerelease → Option ℕ
pre_number kind None = None
pre_number kind (Some p) = if kind_rank p.kind == kind_rank kind then Some p.number else None

-- a pre-release is still in development, as 1.0a1.dev2, and not its post-release, as 1.0a1.post1.dev2
abbrev pub is_dev_of_pre : Record → Bool
is_dev_of_pre r = is_some r.dev && not (is_some r.post)

-- a pre-release of the release, and nothing after it
abbrev pub bump_pre : Option ℕ → Bool → PrereleaseKind → Record → Result Record BumpError
bump_pre to named kind r =
    if is_later_kind kind r.pre then Err error.NotGreater
    else if knows_release named r then with_number (new_number to (is_dev_of_pre r) (pre_number kind r.pre)) (λ n. record (epoch_and_release r.epoch r.release) { pre = Some (record { kind = kind; number = n }) })
    else Err error.NoRelease

-- a post-release, and nothing after it
abbrev pub bump_post : Option ℕ → Record → Result Record BumpError
bump_post to r = with_number (new_number to (is_some r.dev) r.post) (λ n. record r { post = Some n; dev = None; local = [] })

abbrev pub bump_dev : Option ℕ → Bool → Record → Result Record BumpError
bump_dev to named r =
    if knows_release named r then with_number (new_number to false r.dev) (λ n. record r { dev = Some n; local = [] })
    else Err error.NoRelease

abbrev pub bump_part : Option ℕ → Bool → BumpPart → Record → Result Record BumpError
bump_part to named (part.Release index) r = bump_release to index r
bump_part to named part.Stable r = bump_stable to r
bump_part to named (part.Pre kind) r = bump_pre to named kind r
bump_part to named part.Post r = bump_post to r
bump_part to named part.Dev r = bump_dev to named r

-- ---- all parts

-- the number is that of the last part
abbrev pub last_number : Option ℕ → List BumpPart → Option ℕ
last_number to [] = to
last_number to (part ∷ rest) = None

-- what follows a part that could be raised
abbrev pub then_bump : Result Record BumpError → (Record → Result Record BumpError) → Result Record BumpError
then_bump (Ok r) next = next r
then_bump (Err e) next = Err e

-- one part after another
abbrev pub bump_from : Bool → Option ℕ → List BumpPart → Record → Result Record BumpError
bump_from named to [] r = Ok r
bump_from named to (part ∷ rest) r = then_bump (bump_part (last_number to rest) named part r) (bump_from true to rest)

abbrev pub require_greater : Record → Result Record BumpError → Result Record BumpError
require_greater v (Ok r) = if is_gt (record_cmp r v) then Ok r else Err error.NotGreater
require_greater v (Err e) = Err e

-- the version that comes of all parts, which has to be greater
abbrev pub bump : Option ℕ → List BumpPart → Record → Result Record BumpError
bump to parts v = require_greater v (bump_from false to parts v)

-- ---- what is written

abbrev pub bump_error_text : BumpError → List ℕ
bump_error_text error.NoRelease = codes "name the next release first, by major, minor or patch, as in: pyver bump minor alpha 1.0"
bump_error_text error.NotGreater = codes "the result would not be greater"
bump_error_text error.Greatest = codes "a number is the greatest that there is"
bump_error_text error.NoNumber = codes "stable has no number that --to could set"

abbrev pub result_outcome : List ℕ → Result Record BumpError → Outcome
result_outcome word (Ok r) = record { output = print r ++ codes "\n"; errors = []; status = 0 }
result_outcome word (Err e) = fault word (bump_error_text e)

abbrev pub bump_outcome : Option ℕ → List BumpPart → List ℕ → Reading → Outcome
bump_outcome to parts word (Denotes v) = result_outcome word (bump to parts v)
bump_outcome to parts word (Fails reason) = fault word reason

abbrev pub Bumps : Option ℕ → List BumpPart → List ℕ → Outcome → Type 0
Bumps to parts word o = (x : Reading) × Reads word x × (o ≡ bump_outcome to parts word x)
