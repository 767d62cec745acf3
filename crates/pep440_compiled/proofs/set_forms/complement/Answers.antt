use Rattle.pep440_compiled.proofs.SetMerging.{complement_denoted}
use Rattle.pep440_compiled.proofs.set_forms.complement.Goals as goal

pub returns-in_default-clause-err : goal.returns-in_default-clause-err
returns-in_default-clause-err c s h _ = c.in_default.ensures.found s h

pub returns-clause-ok : goal.returns-clause-ok
returns-clause-ok c s h =
    let keys = c.in-Some.ensures.found s h in
    complement_denoted c.in-Some.keys.now c.in_ok-bytes.bytes.items c.push_gaps.new.out.items s keys c.in_ok-bytes.ensures (c.in_ok-push_gaps.ensures.ok s keys)
