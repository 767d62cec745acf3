use Rattle.std.proofs.Common.{◌∙◌}
use Rattle.pep440_compiled.proofs.SetKeys.{set_tells_by}
use Rattle.pep440_compiled.proofs.set_forms.holds_version_soon.Goals as goal

pub returns : goal.returns
returns c s r h p e =
    let keys = c.in_ok-keys.ensures.found s h in
    c.in_ok-held.ensures s keys.sizes keys.same ∙ set_tells_by s r c.args.key.now keys.valid p e
