use Rattle.std.proofs.Common.{Bor, List, ℕ, ◌≡◌, ◌∙◌, ap, map, subst}
use Rattle.std.specs.List.{AllZip}
use Rattle.std.specs.Prelude.{IfSome}
use Rattle.pep440_calls.proofs.Placed.{joined_parsed}
use Rattle.pep440_calls.proofs.batch.sort.Goals as goal
use Rattle.pep440_calls.specs.CallerBytes.{BytesDenote}
use Rattle.pep440_keys.specs.SortKeys.{key_bytes}
use Rattle.pep440_version.specs.Record.{Record}

pub returns-in-Some : goal.returns-in-Some
returns-in-Some c =
    let now : List (Bor (List ℕ)) → List (List ℕ) = map (λ k. k.now) in
    let views : (versions : List Record) × AllZip BytesDenote (now c.args.texts.now) versions × (now c.in-Some.keys.items ≡ map key_bytes versions) =
    subst (λ o. IfSome o (λ keys. (versions : List Record) × AllZip BytesDenote (now c.args.texts.now) versions × (now keys.items ≡ map key_bytes versions))) c.in-Some.is c.in_ok-keys.ensures in
    (views.0, views.1, c.in_ok-sort_positions.ensures views.0 (joined_parsed _ views.0 views.1) (ap now c.as_slice.ensures.value ∙ views.2))

pub returns : goal.returns
returns c =
    let keys = c.in_ok-joined.ensures in
    let split = c.in_ok-strings.ensures _ keys.2 in
    (keys.0, keys.1, c.in_ok-sort_positions-2.ensures keys.0 (joined_parsed _ keys.0 keys.1) (ap (map (λ (k : Bor (List ℕ)). k.now)) c.as_slice-2.ensures.value ∙ split))
