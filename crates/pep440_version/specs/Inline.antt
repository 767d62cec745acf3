-- How release numbers are stored: up to four without an allocation.
use Rattle.std.specs.Prelude.{ℕ, ◌<◌, ◌≤◌, List, length, take}
use Rattle.pep440_version.specs.declared.release.Storage.{Storage}
use Rattle.pep440_version.specs.declared.release.Storage.TheVariants.{Few, Many}

-- the numbers
abbrev pub storage_numbers : Storage → List ℕ
storage_numbers (Few few) = take few.count few.numbers
storage_numbers (Many numbers) = numbers.items

-- up to four in the array, and more than four in the vector
abbrev pub IsStorage : Storage → Type 0
IsStorage (Few few) = few.count ≤ 4
IsStorage (Many numbers) = 4 < length numbers.items
