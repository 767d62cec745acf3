-- A release without the zeros at its end, which the order and the hash do not see.
use Rattle.std.specs.Prelude.{ℕ, ◌==◌, List, [], ◌∷◌, if◌then◌else◌}

-- the number before a release that has no zeros at its end
abbrev pub prepend_trimmed : ℕ → List ℕ → List ℕ
prepend_trimmed x [] = if x == 0 then [] else x ∷ []
prepend_trimmed x (y ∷ ys) = x ∷ y ∷ ys

-- a release without the zeros at its end
abbrev pub trim : List ℕ → List ℕ
trim [] = []
trim (x ∷ xs) = prepend_trimmed x (trim xs)
