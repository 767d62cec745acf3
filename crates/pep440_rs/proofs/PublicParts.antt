-- Against a version without local part the local part of another makes no difference to what is below.
use Rattle.std.proofs.Common.{◌≡◌, ℕ, false, List, [], ◌∷◌, refl, sym, ap, ◌∙◌}
use Rattle.std.specs.Ordering.{ordering_then, is_lt}
use Rattle.std.specs.declared.cmp.Ordering.{Ordering}
use Rattle.std.specs.declared.cmp.Ordering.TheVariants as ord
use Rattle.pep440_rs.proofs.Agreement.VersionOrder.{by_parts}
use Rattle.pep440_version.specs.Grammar.{Derives}
use Rattle.pep440_version.specs.Key.{base_cmp, suffix_cmp, record_cmp, local_cmp}
use Rattle.pep440_version.specs.Record.{Record, LocalSegmentValue, from_parts}

-- a version without sentinels
abbrev pub unmarked : Record → Record
unmarked v = from_parts v.epoch v.release v.pre v.post v.dev v.local

pub is_unmarked : (text : List ℕ) (v : Record) → Derives text v → v ≡ unmarked v
is_unmarked text v h i = record v { min = h.no_min i; max = h.no_max i }

abbrev pub bare : Record → Record
bare v = record v { local = [] }

not_less : (l : List LocalSegmentValue) → is_lt (local_cmp l []) ≡ false
not_less [] = refl
not_less (x ∷ l) = refl

last_part : (B S L : Ordering) → is_lt L ≡ false → is_lt (ordering_then B (ordering_then S L)) ≡ is_lt (ordering_then B (ordering_then S ord.Equal))
last_part ord.Less S L h = refl
last_part ord.Greater S L h = refl
last_part ord.Equal ord.Less L h = refl
last_part ord.Equal ord.Greater L h = refl
last_part ord.Equal ord.Equal L h = h

pub below_bare : (v x : Record) → is_lt (record_cmp v (bare x)) ≡ is_lt (record_cmp (bare v) (bare x))
below_bare v x =
    ap is_lt (by_parts v (bare x)) ∙ last_part (base_cmp v x) (suffix_cmp v x) (local_cmp v.local []) (not_less v.local) ∙ ap is_lt (sym (by_parts (bare v) (bare x)))
