use Rattle.std.proofs.Common.{◌≡◌, inl}
use Rattle.pep440_calls.proofs.Forms.{as_compiled_list, never_lone, no_compiled_list}
use Rattle.pep440_calls.proofs.one_list.form_requests_prereleases.Goals as goal
use Rattle.pep440_rs.specs.Prereleases.{requests_prereleases}

pub returns-in-Ok-clause-found : goal.returns-in-Ok-clause-found
returns-in-Ok-clause-found c = (
  inl c.requires,
  λ list means.
      let whole = c.requests_prereleases.ensures.found list (as_compiled_list c.args.list.now list c.requires means) in
      let same : c.in-Ok.found ≡ requests_prereleases list = cc in
      same,
)

pub returns-in-Err-clause-found : goal.returns-in-Err-clause-found
returns-in-Err-clause-found c = (
  never_lone c.args.list.now c.requires,
  no_compiled_list c.args.list.now c.requires (λ l d. let ok = c.requests_prereleases.ensures.found l d in absurd (cc)),
)
