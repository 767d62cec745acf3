use Rattle.std.specs.Char.{is_whitespace}
use Rattle.pep440_rs.proofs.Reading.Scanning.{rest_bytes}
use Rattle.pep440_rs.proofs.specifier.scan.skip_white_space.Goals as goal

pub returns-clause-bytes : goal.returns-clause-bytes
returns-clause-bytes c = rest_bytes is_whitespace c.args.text.now c.skip_run.result.now c.skip_run.utf8 c.skip_run.ensures.back
