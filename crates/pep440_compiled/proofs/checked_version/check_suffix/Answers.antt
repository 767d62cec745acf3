use Rattle.std.proofs.Common.{◌≡◌, ◌∙◌, ◌∷◌, [], None, ap, length, lit<, refl, rules}
use Rattle.std.proofs.lemmas.List.{nil_from_length}
use Rattle.std.proofs.lemmas.List.Elements.{All-from_recursion}
use Rattle.pep440_compiled.proofs.Suffixes.{final_again}
use Rattle.pep440_compiled.proofs.checked_version.check_suffix.Goals as goal
use Rattle.pep440_version.specs.RoundTrip.{IsParsed, SegmentRoundTrips}
use Rattle.pep440_version.specs.Record.{Fits, SegmentFits, from_parts}

pub returns-then-is_empty-clause-exact : goal.returns-then-is_empty-clause-exact
returns-then-is_empty-clause-exact c =
    let rest = c.in-Some.rest.now in
    let none : length rest ≡ 0 = search rules in
    let r = from_parts 0 (0 ∷ []) None None None [] in
    let parsed : IsParsed r = record {
      valid = record {
        epoch = lit< tt;
        some = lit< tt;
        release = All-from_recursion Fits (0 ∷ []) (lit< tt, tt);
        pre = tt;
        post = tt;
        dev = tt;
        local = All-from_recursion SegmentFits [] tt;
        min = tt;
        max = tt;
      };
      round_trips = record { no_min = refl; no_max = refl; local = All-from_recursion SegmentRoundTrips [] tt };
    } in
    (r, parsed, final_again c.args.bytes.now (0 ∷ []) (c.in-Some.ensures ∙ ap (λ l. 80 ∷ 0 ∷ 16 ∷ 0 ∷ l) (nil_from_length rest none)), refl)
