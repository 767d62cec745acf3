use Rattle.pep440_calls.proofs.membership.write_string_match.Goals as goal

pub returns-then-not-has_version_format-clause-found : goal.returns-then-not-has_version_format-clause-found
returns-then-not-has_version_format-clause-found c = c.put_match.ensures.found c.args.list.now c.args.text.now c.contains_string.ensures.found

pub returns-clause-found : goal.returns-clause-found
returns-clause-found c = c.put_match-2.ensures.found c.args.list.now c.args.text.now c.contains.ensures
