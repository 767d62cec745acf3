use Rattle.pep440_version.proofs.Meaning.NumbersFit.{fits_more}
use Rattle.pep440_version.proofs.version.prove_segments_fit.Goals as goal

pub loop-segment-preserved : goal.loop-segment-preserved
loop-segment-preserved c = fits_more c.args.segments.now c.loop-segment.segment-index c.segment-item.result c.loop-segment.invariant c.segment-item.is c.loop-segment-test.true c.prove_segment_fits.ensures
