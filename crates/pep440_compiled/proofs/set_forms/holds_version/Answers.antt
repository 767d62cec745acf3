use Rattle.std.proofs.Common.{◌∙◌, Some, ap}
use Rattle.pep440_compiled.proofs.SetKeys.{set_tells_by}
use Rattle.pep440_compiled.proofs.set_forms.holds_version.Goals as goal

pub returns-in-Some : goal.returns-in-Some
returns-in-Some c s r h p e = ap Some ((rw c.in-Some.is at c.holds_version_soon.ensures) s r h p e)

pub returns-in_err-keys : goal.returns-in_err-keys
returns-in_err-keys c s r h p e = absurd (c.in_err-keys.ensures.found s h)

pub returns : goal.returns
returns c s r h p e =
    let keys = c.in_ok-keys.ensures.found s h in
    c.holds_key.ensures s keys.sizes keys.same ∙ ap Some (set_tells_by s r c.args.key.now keys.valid p e)
