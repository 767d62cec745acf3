use Rattle.pep440_compiled.proofs.set_forms.set_keys.Goals as goal

pub returns-in_default-clause-err : goal.returns-in_default-clause-err
returns-in_default-clause-err c s h _ = c.in_default.ensures.found s h

pub returns-clause-ok : goal.returns-clause-ok
returns-clause-ok c s h = let keys = c.in-Some.ensures.found s h in c.collect_keys.ensures.ok s keys.sizes keys.same

pub returns-clause-err : goal.returns-clause-err
returns-clause-err c s h = let keys = c.in-Some.ensures.found s h in c.collect_keys.ensures.err s keys.sizes keys.same
