use Rattle.std.proofs.Common.{ap, refl}
use Rattle.std.specs.Prelude.{option_map}
use Rattle.pep440_version.specs.ErrorTexts.{rejection_text}
use Rattle.pep440_tool.specs.Answers.{candidate_fault_text}
use Rattle.pep440_tool.proofs.Runs.{told}
use Rattle.pep440_tool.proofs.pick.parse_candidate.Goals as goal

pub returns-in-Err : goal.returns-in-Err
returns-in-Err c = λ lacks.
    let f = told c.args.word.now _ _ lacks c.in-Err.ensures.refused c.in-Err.ensures.message in
    (candidate_fault_text c.args.number (rejection_text f.0), ap (option_map (candidate_fault_text c.args.number)) f.2, (f.0, f.1, refl))
