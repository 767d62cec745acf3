-- The parts of a sort key that matching asks for; no public clause cites them.
use Rattle.std.specs.Prelude.{◌≢◌, ◌==◌, ◌&&◌, ◌||◌, Bool, nat_le, take, ℕ, List, [], ◌∷◌, ◌++◌, drop, length}
use Rattle.std.specs.List.{flat_map, list_all}
use Rattle.pep440_keys.specs.SortKeys.{number_bytes, rank_bytes}
use Rattle.pep440_version.specs.Key.{dev_rank, key, post_rank, stage_rank}
use Rattle.pep440_version.specs.Record.{Record}
use Rattle.pep440_version.specs.Key.Trim.{trim}

-- the epoch, and these numbers but for the zeros at their end
abbrev pub base_bytes : ℕ → List ℕ → List ℕ
base_bytes epoch numbers = number_bytes 0 epoch ++ flat_map (number_bytes 1) (trim numbers)

-- stage, post and dev
abbrev pub suffix_bytes : Record → List ℕ
suffix_bytes r = rank_bytes (stage_rank (key r).stage) ++ (rank_bytes (post_rank (key r).post) ++ rank_bytes (dev_rank (key r).dev))

-- all but the local part
abbrev pub public_bytes : Record → List ℕ
public_bytes r = base_bytes r.epoch r.release ++ 0 ∷ suffix_bytes r

-- how many zeros end a release
abbrev pub ending_zeros : List ℕ → ℕ
ending_zeros numbers = length (drop (length (trim numbers)) numbers)

-- the bytes do not begin with this one
abbrev pub BeginsOtherwise : ℕ → List ℕ → Type 0
BeginsOtherwise b [] = Unit {0}
BeginsOtherwise b (first ∷ rest) = first ≢ b

-- the first of the bytes are so many ones
abbrev pub begins_with_ones : ℕ → List ℕ → Bool
begins_with_ones count bytes = nat_le count (length bytes) && list_all (λ b. b == 1) (take count bytes)

-- after a release's last number, or before so many zeros
abbrev pub continues_with_zeros : ℕ → List ℕ → Bool
continues_with_zeros zeros [] = begins_with_ones zeros []
continues_with_zeros zeros (b ∷ bytes) = (b == 0) || begins_with_ones zeros (b ∷ bytes)
