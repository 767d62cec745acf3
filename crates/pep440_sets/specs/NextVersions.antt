-- The least version above others; where there is none that is least, above all post-releases of a release, the sentinel max stands for
-- it (PEP 440, "Summary of permitted suffixes and relative ordering").
use Rattle.std.specs.Prelude.{ℕ, List, [], ◌∷◌, Option, Some, None, option_map}
use Rattle.std.specs.Option.{option_map_or}
use Rattle.pep440_rs.specs.Bounds.{next_number}
use Rattle.pep440_version.specs.Record.{Record, from_parts, from_release}
use Rattle.pep440_version.specs.declared.prerelease.Prerelease.{Prerelease}
use Rattle.pep440_version.specs.declared.prerelease.PrereleaseKind.{PrereleaseKind}
use Rattle.pep440_version.specs.declared.prerelease.PrereleaseKind.TheVariants.{Alpha, Beta, Rc}

-- `0.dev0`, the least of all versions
abbrev pub least : Record
least = record (from_release (0 ∷ [])) { dev = Some 0 }

-- the first dev release of a release, its least version
abbrev pub first_dev : ℕ → List ℕ → Record
first_dev epoch release = from_parts epoch release None None (Some 0) []

-- ---- after versions of one release

-- the first dev release of a pre-release
abbrev pub pre_dev : ℕ → List ℕ → PrereleaseKind → ℕ → Record
pre_dev epoch release kind n = from_parts epoch release (Some (record { kind = kind; number = n })) None (Some 0) []

-- after all pre-releases of a kind
abbrev pub after_kind : ℕ → List ℕ → PrereleaseKind → Record
after_kind epoch release Alpha = pre_dev epoch release Beta 0
after_kind epoch release Beta = pre_dev epoch release Rc 0
after_kind epoch release Rc = from_parts epoch release None None None []

-- after a pre-release, or a final release, and all its post-releases
abbrev pub after_posts : ℕ → List ℕ → Option Prerelease → Record
after_posts epoch release None = record (from_parts epoch release None None None []) { max = Some 0 }
after_posts epoch release (Some p) = option_map_or (pre_dev epoch release p.kind) (next_number p.number) (after_kind epoch release p.kind)

-- after a post-release
abbrev pub after_post : ℕ → List ℕ → Option Prerelease → ℕ → Record
after_post epoch release pre post = option_map_or (λ n. from_parts epoch release pre (Some n) (Some 0) []) (next_number post) (after_posts epoch release pre)

-- after all dev releases of a version; those that have nothing else come before the first alpha
abbrev pub after_dev_releases : ℕ → List ℕ → Option Prerelease → Option ℕ → Record
after_dev_releases epoch release None None = pre_dev epoch release Alpha 0
after_dev_releases epoch release pre post = from_parts epoch release pre post None []

-- after the public version of these parts and its local versions
abbrev pub after_parts : ℕ → List ℕ → Option Prerelease → Option ℕ → Option ℕ → Record
after_parts epoch release pre post (Some dev) = option_map_or (λ n. from_parts epoch release pre post (Some n) []) (next_number dev) (after_dev_releases epoch release pre post)
after_parts epoch release pre (Some post) None = after_post epoch release pre post
after_parts epoch release pre None None = from_parts epoch release pre (Some 0) (Some 0) []

-- after the public version of s and its local versions
abbrev pub after_public : Record → Record
after_public s = after_parts s.epoch s.release s.pre s.post s.dev

-- ---- after releases

-- the least release above all that begin with these numbers: the last number that is not the greatest is raised, and what follows it
-- is left out; none where each is the greatest
abbrev pub raised_release : List ℕ → Option (List ℕ)
raised_release [] = None
raised_release (n ∷ numbers) = option_map_or (λ rest. Some (n ∷ rest)) (raised_release numbers) (option_map (λ m. m ∷ []) (next_number n))

-- after all versions of an epoch; none after the last epoch
abbrev pub after_epoch : ℕ → Option Record
after_epoch epoch = option_map (λ e. first_dev e (0 ∷ [])) (next_number epoch)

-- after all versions of an epoch whose release begins with these numbers
abbrev pub after_release_prefix : ℕ → List ℕ → Option Record
after_release_prefix epoch numbers = option_map_or (λ release. Some (first_dev epoch release)) (raised_release numbers) (after_epoch epoch)
