-- The suffixes that a packed record can have: their order in a word is their order in the key.
use Rattle.std.proofs.Common.{◌≡◌, ℕ, ◌<◌, List, refl, arith}
use Rattle.std.specs.declared.cmp.Ordering.{Ordering}
use Rattle.std.specs.Ordering.{nat_cmp, ordering_then}
use Rattle.pep440_version.specs.Form.{record_in}
use Rattle.pep440_version.specs.Key.{key, stage_cmp, post_cmp, dev_cmp, local_cmp}
use Rattle.pep440_version.specs.Record.{Record}
use Rattle.pep440_version.proofs.Ordering.Comparisons.{then_none}

pub data Suffix : Type 0 where
  Min : ℕ → Suffix
  Dev : ℕ → Suffix
  Alpha : ℕ → Suffix
  Beta : ℕ → Suffix
  Rc : ℕ → Suffix
  Plain : Suffix
  Post : ℕ → Suffix
  Max : ℕ → Suffix

abbrev pub class_of : Suffix → ℕ
class_of (Min n) = 0
class_of (Dev n) = 1
class_of (Alpha n) = 2
class_of (Beta n) = 3
class_of (Rc n) = 4
class_of Plain = 5
class_of (Post n) = 6
class_of (Max n) = 7

abbrev pub number_of : Suffix → ℕ
number_of (Min n) = n
number_of (Dev n) = n
number_of (Alpha n) = n
number_of (Beta n) = n
number_of (Rc n) = n
number_of Plain = 0
number_of (Post n) = n
number_of (Max n) = n

pub class_lt : (s : Suffix) → class_of s < 8
class_lt (Min n) = omega arith
class_lt (Dev n) = omega arith
class_lt (Alpha n) = omega arith
class_lt (Beta n) = omega arith
class_lt (Rc n) = omega arith
class_lt Plain = omega arith
class_lt (Post n) = omega arith
class_lt (Max n) = omega arith

-- the record of a release and a suffix
abbrev pub record_of : List ℕ → Suffix → Record
record_of release s = record_in release (class_of s) (number_of s)

-- the class, and then the number
abbrev pub places_cmp : Suffix → Suffix → Ordering
places_cmp s t = ordering_then (nat_cmp (class_of s) (class_of t)) (nat_cmp (number_of s) (number_of t))

-- what is compared after the release
abbrev pub rest_cmp : Record → Record → Ordering
rest_cmp r q =
    ordering_then (stage_cmp (key r).stage (key q).stage)
    (ordering_then (post_cmp (key r).post (key q).post) (ordering_then (dev_cmp (key r).dev (key q).dev) (local_cmp r.local q.local)))

pub suffixes_in_order : (xs ys : List ℕ) (s t : Suffix) → rest_cmp (record_of xs s) (record_of ys t) ≡ places_cmp s t
suffixes_in_order xs ys (Min n) (Min k) = then_none (nat_cmp n k)
suffixes_in_order xs ys (Min n) (Dev k) = refl
suffixes_in_order xs ys (Min n) (Alpha k) = refl
suffixes_in_order xs ys (Min n) (Beta k) = refl
suffixes_in_order xs ys (Min n) (Rc k) = refl
suffixes_in_order xs ys (Min n) Plain = refl
suffixes_in_order xs ys (Min n) (Post k) = refl
suffixes_in_order xs ys (Min n) (Max k) = refl
suffixes_in_order xs ys (Dev n) (Min k) = refl
suffixes_in_order xs ys (Dev n) (Dev k) = then_none (nat_cmp n k)
suffixes_in_order xs ys (Dev n) (Alpha k) = refl
suffixes_in_order xs ys (Dev n) (Beta k) = refl
suffixes_in_order xs ys (Dev n) (Rc k) = refl
suffixes_in_order xs ys (Dev n) Plain = refl
suffixes_in_order xs ys (Dev n) (Post k) = refl
suffixes_in_order xs ys (Dev n) (Max k) = refl
suffixes_in_order xs ys (Alpha n) (Min k) = refl
suffixes_in_order xs ys (Alpha n) (Dev k) = refl
suffixes_in_order xs ys (Alpha n) (Alpha k) = then_none (nat_cmp n k)
suffixes_in_order xs ys (Alpha n) (Beta k) = refl
suffixes_in_order xs ys (Alpha n) (Rc k) = refl
suffixes_in_order xs ys (Alpha n) Plain = refl
suffixes_in_order xs ys (Alpha n) (Post k) = refl
suffixes_in_order xs ys (Alpha n) (Max k) = refl
suffixes_in_order xs ys (Beta n) (Min k) = refl
suffixes_in_order xs ys (Beta n) (Dev k) = refl
suffixes_in_order xs ys (Beta n) (Alpha k) = refl
suffixes_in_order xs ys (Beta n) (Beta k) = then_none (nat_cmp n k)
suffixes_in_order xs ys (Beta n) (Rc k) = refl
suffixes_in_order xs ys (Beta n) Plain = refl
suffixes_in_order xs ys (Beta n) (Post k) = refl
suffixes_in_order xs ys (Beta n) (Max k) = refl
suffixes_in_order xs ys (Rc n) (Min k) = refl
suffixes_in_order xs ys (Rc n) (Dev k) = refl
suffixes_in_order xs ys (Rc n) (Alpha k) = refl
suffixes_in_order xs ys (Rc n) (Beta k) = refl
suffixes_in_order xs ys (Rc n) (Rc k) = then_none (nat_cmp n k)
suffixes_in_order xs ys (Rc n) Plain = refl
suffixes_in_order xs ys (Rc n) (Post k) = refl
suffixes_in_order xs ys (Rc n) (Max k) = refl
suffixes_in_order xs ys Plain (Min k) = refl
suffixes_in_order xs ys Plain (Dev k) = refl
suffixes_in_order xs ys Plain (Alpha k) = refl
suffixes_in_order xs ys Plain (Beta k) = refl
suffixes_in_order xs ys Plain (Rc k) = refl
suffixes_in_order xs ys Plain Plain = refl
suffixes_in_order xs ys Plain (Post k) = refl
suffixes_in_order xs ys Plain (Max k) = refl
suffixes_in_order xs ys (Post n) (Min k) = refl
suffixes_in_order xs ys (Post n) (Dev k) = refl
suffixes_in_order xs ys (Post n) (Alpha k) = refl
suffixes_in_order xs ys (Post n) (Beta k) = refl
suffixes_in_order xs ys (Post n) (Rc k) = refl
suffixes_in_order xs ys (Post n) Plain = refl
suffixes_in_order xs ys (Post n) (Post k) = then_none (nat_cmp n k)
suffixes_in_order xs ys (Post n) (Max k) = refl
suffixes_in_order xs ys (Max n) (Min k) = refl
suffixes_in_order xs ys (Max n) (Dev k) = refl
suffixes_in_order xs ys (Max n) (Alpha k) = refl
suffixes_in_order xs ys (Max n) (Beta k) = refl
suffixes_in_order xs ys (Max n) (Rc k) = refl
suffixes_in_order xs ys (Max n) Plain = refl
suffixes_in_order xs ys (Max n) (Post k) = refl
suffixes_in_order xs ys (Max n) (Max k) = then_none (nat_cmp n k)
