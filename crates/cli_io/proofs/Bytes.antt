-- Beginnings of a list of bytes, and bytes that were written one part after another.
use Rattle.std.proofs.Common.{◌≡◌, ◌+◌, ◌-◌, ℕ, List, [], Option, refl, sym, subst, length, take, drop, arith, take-append-drop, length-drop, ◌==◌, ◌<◌, ◌∙◌, ◌∷◌, ◌++◌, false, get_or, All, ap}
use Rattle.std.proofs.lemmas.List.{take_all, drop_more}
use Rattle.std.specs.Io.KnownBytes.{Appends}
use Rattle.std.proofs.KnownBytes.{Appends-trans, Appends-nil}
use Rattle.std.proofs.Math.Seq.{take-add}
use Rattle.cli_io.specs.Streams.{WroteBeginning}
use Rattle.std.proofs.lemmas.List.Splits.{slice_split_at}
use Rattle.cli_io.specs.Newlines.{input_lines}

-- what was written is the first n bytes
pub WroteBeginning-take : (a b : Option (List ℕ)) (n : ℕ) (all : List ℕ) → Appends a b (take n all) → WroteBeginning a b all
WroteBeginning-take a b n all wrote = record { written = take n all; left = drop n all; wrote = wrote; whole = sym (take-append-drop n all) }

-- nothing was written
pub WroteBeginning-none : (a : Option (List ℕ)) (all : List ℕ) → WroteBeginning a a all
WroteBeginning-none a all = record { written = []; left = all; wrote = Appends-nil a; whole = refl }

-- the rest of a slice from `at` on
pub rest_is : (bs : List ℕ) (at : ℕ) → take (length bs - at) (drop at bs) ≡ drop at bs
rest_is bs at = take_all (length bs - at) (drop at bs) (omega (arith, length-drop at bs))

-- the first n bytes of the slice from `at` on, after the bytes before `at`
pub Appends-more : (a b c : Option (List ℕ)) (bs : List ℕ) (at n : ℕ) → Appends a b (take at bs) → Appends b c (take n (take (length bs - at) (drop at bs))) → Appends a c (take (at + n) bs)
Appends-more a b c bs at n p q =
    let step : Appends b c (take n (drop at bs)) = subst (λ (l : List ℕ). Appends b c (take n l)) (rest_is bs at) q in
    subst (Appends a c) (sym (take-add at n bs)) (Appends-trans a b c _ _ p step)

-- ---- the first line of an input

-- the first line ends at the first newline
pub line_read : (input : List ℕ) (i : ℕ) → i < length input → get_or input i 0 ≡ 10 → All (λ x. (x == 10) ≡ false) (take i input) → input_lines input ≡ take i input ∷ input_lines (drop (i + 1) input)
line_read input i inside newline before =
    let parts : input ≡ take i input ++ 10 ∷ drop (i + 1) input =
    sym (take-append-drop i input) ∙ ap (λ (zs : List ℕ). take i input ++ zs) (drop_more input i 0 inside ∙ ap (λ (z : ℕ). z ∷ drop (i + 1) input) newline) in
    ap input_lines parts ∙ slice_split_at (λ x. x == 10) (take i input) 10 (drop (i + 1) input) before refl
