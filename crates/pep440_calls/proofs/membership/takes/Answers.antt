use Rattle.std.proofs.Common.{◌≡◌, ◌∙◌, inl, inr, sym}
use Rattle.pep440_calls.proofs.Allowed.{listed, takes_plain, takes_requests}
use Rattle.pep440_calls.proofs.Forms.{no_compiled_list}
use Rattle.pep440_calls.proofs.membership.takes.Goals as goal
use Rattle.pep440_rs.specs.Prereleases.{requests_prereleases}

pub returns-then-not-asks_list-clause-found : goal.returns-then-not-asks_list-clause-found
returns-then-not-asks_list-clause-found c = (λ members selects chosen. takes_plain c.args.prereleases members (λ two. cc (sym (c.asks_list.ensures.1 two) ∙ c.if-not-asks_list.true)))

pub returns-in-Ok-clause-found : goal.returns-in-Ok-clause-found
returns-in-Ok-clause-found c =
    takes_requests c.args.set.now c.args.prereleases c.requires.set c.requires.asked (c.asks_list.ensures.0 c.if-not-asks_list.false) c.in-Ok.requests (λ l d.
    let whole = c.requests_prereleases.ensures.found l d in
    let same : c.in-Ok.requests ≡ requests_prereleases l = cc in
    same)

pub returns-in-Err-clause-found : goal.returns-in-Err-clause-found
returns-in-Err-clause-found c =
    let six = listed c.args.set.now c.args.prereleases c.requires.set c.requires.asked (c.asks_list.ensures.0 c.if-not-asks_list.false) in
    inl (no_compiled_list c.args.set.now (inr six) (λ l d. let ok = c.requests_prereleases.ensures.found l d in absurd (cc)))
