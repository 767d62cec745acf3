use Rattle.pep440_compiled.proofs.SetMerging.{keys_before}
use Rattle.pep440_compiled.proofs.set_forms.view_set.Goals as goal

pub returns-clause-found : goal.returns-clause-found
returns-clause-found c s h = keys_before c.args.bytes.now _ c.in_ok-keys.keys.now s c.in_ok-keys.ensures.exact (λ l d. (c.in_ok-keys.ensures.found l d).0) h
