use Rattle.std.proofs.Common.{◌≡◌, ◌∙◌, ◌&&◌, ◌++◌, ap, length, nat_eq, sym}
use Rattle.std.proofs.Math.Seq.{drop-append_seam}
use Rattle.std.specs.List.{starts_with}
use Rattle.std.specs.Prelude.{drop}
use Rattle.pep440_compiled.proofs.Comparing.{key_front}
use Rattle.pep440_compiled.proofs.Fronts.{starts, prefix_by_bytes}
use Rattle.pep440_compiled.proofs.matching.has_prefix.Goals as goal
use Rattle.pep440_compiled.specs.KeyParts.{continues_with_zeros, ending_zeros, base_bytes, suffix_bytes}
use Rattle.pep440_keys.specs.SortKeys.{key_bytes, local_bytes}

pub returns-in-Some : goal.returns-in-Some
returns-in-Some c epoch numbers v f all q e z k =
    let front = base_bytes epoch numbers in
    let rest = c.in-Some.rest.now in
    let split : key_bytes v ≡ front ++ rest = sym k ∙ c.in-Some.ensures ∙ ap (λ l. l ++ rest) e in
    c.continues_with_zeros.ensures
    ∙ ap (λ n. continues_with_zeros n rest) z
    ∙ sym (λ i. starts front rest i && continues_with_zeros (ending_zeros numbers) (drop-append_seam front rest i))
    ∙ sym (λ i. starts_with nat_eq (split i) front && continues_with_zeros (ending_zeros numbers) (drop (length front) (split i)))
    ∙ (λ i. starts_with nat_eq (key_front v i) front && continues_with_zeros (ending_zeros numbers) (drop (length front) (key_front v i)))
    ∙ prefix_by_bytes epoch numbers v.epoch v.release (suffix_bytes v ++ local_bytes v.local) f all q.valid.epoch q.valid.release

pub returns-in-None : goal.returns-in-None
returns-in-None c epoch numbers v f all q e z k =
    let front = base_bytes epoch numbers in
    sym (ap (λ b. b && continues_with_zeros (ending_zeros numbers) (drop (length front) (key_bytes v))) ((λ i. starts_with nat_eq (sym k i) (sym e i)) ∙ c.in-None.ensures))
    ∙ (λ i. starts_with nat_eq (key_front v i) front && continues_with_zeros (ending_zeros numbers) (drop (length front) (key_front v i)))
    ∙ prefix_by_bytes epoch numbers v.epoch v.release (suffix_bytes v ++ local_bytes v.local) f all q.valid.epoch q.valid.release
