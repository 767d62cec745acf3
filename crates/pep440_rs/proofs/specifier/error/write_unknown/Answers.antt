use Rattle.pep440_rs.proofs.Reread.Direct.{between, told_straight}
use Rattle.pep440_rs.proofs.specifier.error.write_unknown.Goals as goal

pub returns : goal.returns
returns g c = search (told_straight g.W.Write.write_str_gives (λ d. d.f.now) (λ d. d.f.ghost_name) _ c.write.new.self c.write.result _ c.write.ensures.writes, between)
