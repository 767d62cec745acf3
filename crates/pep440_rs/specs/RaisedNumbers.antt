-- Which number a conversion raises. The conversion fails exactly if that number is the greatest.
use Rattle.std.specs.Prelude.{◌≡◌, ◌↔◌, ℕ, nat_eq, Bool, true, false, Option, option_map, Some, None, Result, Ok, Err, if◌then◌else◌}
use Rattle.std.specs.List.{last_or}
use Rattle.std.specs.Option.{option_eq, option_or}
use Rattle.pep440_rs.specs.Bounds.{Segments}
use Rattle.pep440_rs.specs.Matching.{without_last}
use Rattle.pep440_rs.specs.Operators.{is_star}
use Rattle.pep440_rs.specs.Specifiers.{IsSpec, Spec}
use Rattle.pep440_rs.specs.declared.specifier.operator.Operator.{Operator}
use Rattle.pep440_rs.specs.declared.specifier.operator.Operator.TheVariants.{TildeEqual, GreaterThan}
use Rattle.pep440_rs.specs.declared.range.error.RangeError.{RangeError}
use Rattle.pep440_rs.specs.declared.range.error.RangeError.TheVariants.{NumberAtMax, OutOfMemory}
use Rattle.pep440_version.specs.Record.{Record, from_release}

-- the number that the conversion raises, if any. `>`: the dev if there is one, else the post if there is one; `~=`: the last
-- number but one; a star: the post if there is one, else the pre's number if there is one, else the last number
abbrev pub raised_number : Operator → Record → Option ℕ
raised_number GreaterThan s = option_or s.dev s.post
raised_number TildeEqual s = last_or None (without_last s.release)
raised_number o s = if is_star o then option_or s.post (option_or (option_map (λ p. p.number) s.pre) (last_or None s.release)) else None

-- the number that the release-only conversion raises, if any
abbrev pub raised_release_number : Operator → Record → Option ℕ
raised_release_number op s = raised_number op (from_release s.release)

-- a conversion of a specifier fails exactly if the number to be raised is the greatest
abbrev pub FailsAtMax : (Operator → Record → Option Segments) → (Operator → Record → Option ℕ) → Type 0
FailsAtMax conversion number = (s : Spec) → IsSpec s → (conversion s.operator s.version ≡ None) ↔ (number s.operator s.version ≡ Some 18446744073709551615)

-- ---- what is returned there

-- the number that a conversion raises is the greatest
abbrev pub raises_max : (Operator → Record → Option ℕ) → Spec → Bool
raises_max number s = option_eq nat_eq (number s.operator s.version) (Some 18446744073709551615)

-- a conversion fails, memory aside, exactly if the greatest number has to be raised
abbrev pub ReportsMax : Bool → Result Segments RangeError → Type 0
ReportsMax at_max (Ok range) = at_max ≡ false
ReportsMax at_max (Err NumberAtMax) = at_max ≡ true
ReportsMax at_max (Err OutOfMemory) = Unit {0}
