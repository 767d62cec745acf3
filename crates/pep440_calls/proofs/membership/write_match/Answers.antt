use Rattle.pep440_calls.proofs.membership.write_match.Goals as goal

pub returns-clause-found : goal.returns-clause-found
returns-clause-found c = c.put_match.ensures.found c.args.list.now c.args.text.now c.contains_compiled.ensures.found
