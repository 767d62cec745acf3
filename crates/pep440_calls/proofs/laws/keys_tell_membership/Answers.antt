-- A version's key lies in an interval of the set of a list exactly if the list matches the version literally.
use Rattle.std.proofs.Common.{◌≡◌, ◌∙◌, ℕ, List, ap}
use Rattle.std.specs.List.{All, list_any}
use Rattle.pep440_compiled.proofs.SetKeys.{not_exact, set_tells}
use Rattle.pep440_keys.specs.RangeKeys.{is_within, segment_interval}
use Rattle.pep440_keys.specs.SortKeys.{key_bytes}
use Rattle.pep440_rs.specs.Bounds.{Segments}
use Rattle.pep440_rs.specs.Denoted.{IsDenotable}
use Rattle.pep440_rs.specs.LiteralMatching.{list_matches_literally}
use Rattle.pep440_rs.specs.Specifiers.{Spec}
use Rattle.pep440_sets.proofs.Lists.{list_holds, list_is_set, parsed_denoted}
use Rattle.pep440_sets.specs.Sets.{list_set}
use Rattle.pep440_version.specs.Record.{Record}
use Rattle.pep440_calls.proofs.Forms.{means_parsed}
use Rattle.pep440_calls.proofs.Once.{one_bytes_list}
use Rattle.pep440_calls.proofs.laws.keys_tell_membership.Goals as goal
use Rattle.pep440_calls.specs.CallerBytes.{BytesDenote, BytesDenoteList}
use Rattle.pep440_calls.specs.CallResults.{HasListSet}

key_tells : (bytes text : List ℕ) (set : Segments) (l : List Spec) (r : Record) → All IsDenotable l → HasListSet bytes set → BytesDenoteList bytes l → BytesDenote text r → list_any (λ s. is_within (segment_interval s) (key_bytes r)) set ≡ list_matches_literally l r
key_tells bytes text set l r all (m, means, given, is) also denotes =
    let parsed = means_parsed text r denotes in
    let same = one_bytes_list bytes m l means also in
    ap (list_any (λ s. is_within (segment_interval s) (key_bytes r))) (is ∙ ap list_set same)
    ∙ set_tells (list_set l) r (list_is_set l all) parsed ∙ list_holds l all (not_exact l (rw (one_bytes_list bytes l m also means) given)) r (parsed_denoted r parsed)

pub returns : goal.returns
returns c = key_tells
