-- The packed word: one number for the release of a record and the one suffix that it may have, ordered as the records are.
use Rattle.std.specs.Prelude.{ℕ, ◌+◌, ◌*◌, ◌/◌, ◌%◌, ◌^◌, ◌==◌, ◌&&◌, Bool, false, List, length, slice_index, Option, None, Some, unwrap_or, nat_le}
use Rattle.pep440_version.specs.declared.prerelease.Prerelease.{Prerelease}
use Rattle.pep440_version.specs.Key.{kind_rank}
use Rattle.pep440_version.specs.Record.{Record}

-- ---- the word of a record

-- the classes of a suffix; a pre-release has the rank of its kind above 2, and 5 is no suffix
abbrev pub min_class : ℕ
min_class = 0

abbrev pub dev_class : ℕ
dev_class = 1

abbrev pub post_class : ℕ
post_class = 6

abbrev pub max_class : ℕ
max_class = 7

-- the one suffix of min, dev, pre, post and max: its class and its number; class 5 if there is none, None if there are two or more
abbrev pub suffix_of : Option ℕ → Option ℕ → Option Prerelease → Option ℕ → Option ℕ → Option (ℕ × ℕ)
suffix_of (Some n) None None None None = Some (min_class, n)
suffix_of None (Some n) None None None = Some (dev_class, n)
suffix_of None None (Some p) None None = Some (2 + kind_rank p.kind, p.number)
suffix_of None None None None None = Some (5, 0)
suffix_of None None None (Some n) None = Some (post_class, n)
suffix_of None None None None (Some n) = Some (max_class, n)
suffix_of min dev pre post max = None

-- the class and the number of a record's suffix, or None if it has two or more
abbrev pub suffix : Record → Option (ℕ × ℕ)
suffix r = suffix_of r.min r.dev r.pre r.post r.max

-- at most four numbers, the first at most 65535, the others at most 255
abbrev pub is_short : List ℕ → Bool
is_short release =
    nat_le (length release) 4 && (nat_le (slice_index release 0) 65535
    && (nat_le (slice_index release 1) 255 && (nat_le (slice_index release 2) 255 && nat_le (slice_index release 3) 255)))

-- one suffix at most, its number at most 2097151
abbrev pub is_small : Option (ℕ × ℕ) → Bool
is_small (Some s) = nat_le s.1 2097151
is_small None = false

-- epoch 0, no local part, a short release, a small suffix
abbrev pub is_packed : Record → Bool
is_packed r = (r.epoch == 0) && ((length r.local == 0) && (is_short r.release && is_small (suffix r)))

-- the numbers, missing ones being 0, the class and the suffix's number, each at its bits
abbrev pub word_of : List ℕ → ℕ × ℕ → ℕ
word_of release s =
    slice_index release 0 * 2 ^ 48 + slice_index release 1 * 2 ^ 40 + slice_index release 2 * 2 ^ 32 + slice_index release 3 * 2 ^ 24 + s.0 * 2 ^ 21 + s.1

-- the word of a packed record
abbrev pub word : Record → ℕ
word r = word_of r.release (unwrap_or (suffix r) (5, 0))

-- ---- the parts of a word

-- its class
abbrev pub class_in : ℕ → ℕ
class_in w = w / 2 ^ 21 % 8

-- the number of its suffix
abbrev pub number_in : ℕ → ℕ
number_in w = w % 2 ^ 21

-- the word with this suffix in place of its own
abbrev pub word_with : ℕ → ℕ → ℕ → ℕ
word_with w class n = w / 2 ^ 24 * 2 ^ 24 + class * 2 ^ 21 + n
