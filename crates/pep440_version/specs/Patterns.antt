-- Patterns: the strings that denote them, a version, or epoch and release and `.*`; their equality and what they feed a hasher.
use Rattle.std.specs.Prelude.{◌≡◌, ℕ, Bool, true, false, List, [], ◌++◌, codes, if◌then◌else◌}
use Rattle.std.specs.Bool.{beq}
use Rattle.std.specs.Hash.{HashWrites, u64}
use Rattle.std.specs.Ordering.{eq_by_cmp, eq_of_both, on}
use Rattle.pep440_version.specs.Feed.{feed}
use Rattle.pep440_version.specs.Grammar.{Derives}
use Rattle.pep440_version.specs.Key.{record_cmp}
use Rattle.pep440_version.specs.Record.{Record, epoch_and_release}

-- the string denotes the record with a star: a prefix without blanks at its end denotes the record, which has epoch and release
-- alone, and `.*` follows
abbrev pub DerivesStar : List ℕ → Record → Type 0
DerivesStar text r = (prefix : List ℕ) × (h : Derives prefix r) × (text ≡ prefix ++ codes ".*") × (h.w2 ≡ []) × (r ≡ epoch_and_release r.epoch r.release)

-- the string denotes the record, with a star or without
abbrev pub DerivesPattern : List ℕ → Record → Bool → Type 0
DerivesPattern text r true = DerivesStar text r
DerivesPattern text r false = Derives text r

-- equal keys and the same star
abbrev pub pattern_eq : Record × Bool → Record × Bool → Bool
pattern_eq = eq_of_both (on (λ (p : Record × Bool). p.0) (eq_by_cmp record_cmp)) (on (λ (p : Record × Bool). p.1) beq)

-- a hasher gets the version, then whether a star follows
abbrev pub feed_pattern : Record × Bool → HashWrites
feed_pattern p = feed p.0 ++ u64 (if p.1 then 1 else 0)
