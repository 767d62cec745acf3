use Rattle.pyver_requirements.proofs.MarkerReadings.{insert_step}
use Rattle.pyver_requirements.proofs.marker_terms.insert_all.Goals as goal

pub loop-term-preserved : goal.loop-term-preserved
loop-term-preserved c = insert_step c.loop-term.terms c.insert.new.self c.loop-term.more c.pop_first.new.self c.in-Some.term _ c.in_ok-insert.ensures.keys c.in-Some.ensures.removal c.loop-term.invariant
