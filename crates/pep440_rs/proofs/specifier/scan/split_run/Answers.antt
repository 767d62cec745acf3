use Rattle.std.proofs.Common.{◌∙◌, ap}
use Rattle.std.specs.Str.{chars}
use Rattle.pep440_version.proofs.Reading.Endings.{seam}
use Rattle.pep440_rs.specs.Specifiers.SpecifierReading.{passes}
use Rattle.pep440_rs.proofs.Reading.Scanning.{rest_bytes, run_bytes}
use Rattle.pep440_rs.proofs.specifier.scan.split_run.Goals as goal

pub split_at-requires : goal.split_at-requires
split_at-requires c = seam c.args.text.now c.skip_run-rest.result.now c.skip_run-rest.ensures.ends c.skip_run-rest.utf8

pub returns-clause-prefix : goal.returns-clause-prefix
returns-clause-prefix c =
    c.split_at.ensures.front ∙ (run_bytes (passes c.args.run) c.args.text.now c.skip_run-rest.result.now c.utf8.text c.skip_run-rest.utf8 c.skip_run-rest.ensures.ends c.skip_run-rest.ensures.back).0

pub returns-clause-back : goal.returns-clause-back
returns-clause-back c =
    ap chars (c.split_at.ensures.back ∙ (run_bytes (passes c.args.run) c.args.text.now c.skip_run-rest.result.now c.utf8.text c.skip_run-rest.utf8 c.skip_run-rest.ensures.ends c.skip_run-rest.ensures.back).1)
    ∙ c.skip_run-rest.ensures.back

pub returns-clause-bytes : goal.returns-clause-bytes
returns-clause-bytes c =
    c.split_at.ensures.back ∙ (run_bytes (passes c.args.run) c.args.text.now c.skip_run-rest.result.now c.utf8.text c.skip_run-rest.utf8 c.skip_run-rest.ensures.ends c.skip_run-rest.ensures.back).1
    ∙ rest_bytes (passes c.args.run) c.args.text.now c.skip_run-rest.result.now c.skip_run-rest.utf8 c.skip_run-rest.ensures.back
