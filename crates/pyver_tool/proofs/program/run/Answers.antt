use Rattle.std.proofs.Common.{◌∙◌, map, refl, string_bytes, subst, sym}
use Rattle.pyver_tool.proofs.RunEnds.{ends_at_once, ends_by_answer, ends_by_check, ends_by_filter, ends_by_filter_stop, ends_by_output, ends_by_whole}
use Rattle.pyver_tool.specs.TaskViews.{IsWork, task}
use Rattle.pyver_tool.specs.Tasks.{NeedsInput, task_of}
use Rattle.pyver_tool.specs.declared.command.Work.TheVariants as work
use Rattle.pyver_tool.proofs.program.run.Goals as goal

pub returns-in-Ok-Answer-clause-ends : goal.returns-in-Ok-Answer-clause-ends
returns-in-Ok-Answer-clause-ends g c =
    let is = subst (λ t. IsWork t (work.Answer c.in-Ok-Answer.answer)) (c.parse.ensures ∙ c.in-Ok.ensures) (subst (λ w. IsWork (task c.parse.result) w) c.in-Ok-Answer.field-0-is c.in-Ok-Answer.ensures) in
    ends_by_answer _ _ _ _ (task_of (map string_bytes c.args.words.now)) c.args.input.now c.args.input.now _ _ c.args.out.now c.write_answer.new.out c.args.err.now c.write_answer.new.err c.write_answer.result c.in-Ok-Answer.answer is.0 is.1 c.write_answer.ensures

pub returns-in-Ok-Filter-clause-ends : goal.returns-in-Ok-Filter-clause-ends
returns-in-Ok-Filter-clause-ends g c =
    let is = subst (λ t. IsWork t (work.Filter c.in-Ok-Filter.rule c.in-Ok-Filter.names)) (c.parse.ensures ∙ c.in-Ok.ensures) (subst (λ w. IsWork (task c.parse.result) w) c.in-Ok-Filter.field-0-is c.in-Ok-Filter.ensures) in
    ends_by_filter_stop _ _ _ _ (task_of (map string_bytes c.args.words.now)) c.args.input.now c.filter_sources.new.input _ _ c.args.out.now c.filter_sources.new.out c.args.err.now c.report_run_failure.new.err c.report_run_failure.result _ is.0 is.2
    c.in-Ok-Filter.rule is.3 c.in-Err-filter_sources.failure c.filter_sources.new.err c.report_run_failure.ensures.0 is.1 (rw c.in_default-find_output.is at c.find_output.ensures) c.in-Err-filter_sources.ensures.stopped c.report_run_failure.ensures.1 c.report_run_failure.ensures.2

pub returns-in-Ok-filter_sources-clause-ends : goal.returns-in-Ok-filter_sources-clause-ends
returns-in-Ok-filter_sources-clause-ends g c =
    let is = subst (λ t. IsWork t (work.Filter c.in-Ok-Filter.rule c.in-Ok-Filter.names)) (c.parse.ensures ∙ c.in-Ok.ensures) (subst (λ w. IsWork (task c.parse.result) w) c.in-Ok-Filter.field-0-is c.in-Ok-Filter.ensures) in
    ends_by_filter _ _ _ _ (task_of (map string_bytes c.args.words.now)) c.args.input.now c.filter_sources.new.input _ _ c.args.out.now c.filter_sources.new.out c.args.err.now c.filter_sources.new.err c.in-Ok-filter_sources.status _ is.0 is.2
    c.in-Ok-Filter.rule is.3 (rw c.in_default-find_output.is at c.find_output.ensures) c.in-Ok-filter_sources.ensures.finished

pub returns-in-Some-clause-ends : goal.returns-in-Some-clause-ends
returns-in-Some-clause-ends g c =
    let is = subst (λ t. IsWork t (work.Filter c.in-Ok-Filter.rule c.in-Ok-Filter.names)) (c.parse.ensures ∙ c.in-Ok.ensures) (subst (λ w. IsWork (task c.parse.result) w) c.in-Ok-Filter.field-0-is c.in-Ok-Filter.ensures) in
    ends_by_output _ _ _ _ (task_of (map string_bytes c.args.words.now)) c.args.input.now c.args.input.now _ _ c.args.out.now c.write_result.new.out c.args.err.now c.write_result.new.err c.write_result.result _ is.0 is.2
    is.1 c.in-Some.name.now (rw c.in-Some.is at c.find_output.ensures) c.report_output.result c.report_output.ensures.answer c.report_output.ensures.memory refl c.write_result.ensures

pub returns-in-Ok-Whole-clause-ends : goal.returns-in-Ok-Whole-clause-ends
returns-in-Ok-Whole-clause-ends g c =
    let is = subst (λ t. IsWork t (work.Whole c.in-Ok-Whole.question c.in-Ok-Whole.names)) (c.parse.ensures ∙ c.in-Ok.ensures) (subst (λ w. IsWork (task c.parse.result) w) c.in-Ok-Whole.field-0-is c.in-Ok-Whole.ensures) in
    ends_by_whole _ _ _ _ (task_of (map string_bytes c.args.words.now)) c.args.input.now c.answer_input.new.input _ _ c.args.out.now c.write_result-in-Ok-Whole.new.out c.args.err.now c.write_result-in-Ok-Whole.new.err c.write_result-in-Ok-Whole.result _ is.0 is.2 is.1
    c.answer_input.result c.in-Ok-Whole.question is.3 c.answer_input.ensures.finished c.answer_input.ensures.stopped c.write_result-in-Ok-Whole.ensures

pub returns-in-Ok-Check-clause-ends : goal.returns-in-Ok-Check-clause-ends
returns-in-Ok-Check-clause-ends g c =
    let is = subst (λ t. IsWork t (work.Check c.in-Ok-Check.options c.in-Ok-Check.names)) (c.parse.ensures ∙ c.in-Ok.ensures) (subst (λ w. IsWork (task c.parse.result) w) c.in-Ok-Check.field-0-is c.in-Ok-Check.ensures) in
    ends_by_check _ _ _ _ (task_of (map string_bytes c.args.words.now)) c.args.input.now c.check_files.new.input _ _ c.args.out.now c.write_result-in-Ok-Check.new.out c.args.err.now c.write_result-in-Ok-Check.new.err c.write_result-in-Ok-Check.result
    c.check_files.result c.in-Ok-Check.options _ is c.check_files.ensures.finished c.check_files.ensures.stopped c.write_result-in-Ok-Check.ensures

pub returns-clause-ends : goal.returns-clause-ends
returns-clause-ends g c =
    ends_at_once _ _ _ _ (task_of (map string_bytes c.args.words.now)) c.args.input.now c.args.input.now _ _ c.args.out.now c.args.out.now c.args.err.now c.refuse-in-Err.new.err c.refuse-in-Err.result refl refl c.refuse-in-Err.ensures.status c.refuse-in-Err.ensures.written

pub returns-in_default-clause-ends : goal.returns-in_default-clause-ends
returns-in_default-clause-ends g c =
    ends_at_once _ _ _ _ (task_of (map string_bytes c.args.words.now)) c.args.input.now c.args.input.now _ _ c.args.out.now c.args.out.now c.args.err.now c.refuse.new.err c.refuse.result refl refl c.refuse.ensures.status c.refuse.ensures.written

-- a command that needs the input is none of the others
pub returns-in-Ok-Filter-clause-unread : goal.returns-in-Ok-Filter-clause-unread
returns-in-Ok-Filter-clause-unread g c =
    let is = subst (λ t. IsWork t (work.Filter c.in-Ok-Filter.rule c.in-Ok-Filter.names)) (c.parse.ensures ∙ c.in-Ok.ensures) (subst (λ w. IsWork (task c.parse.result) w) c.in-Ok-Filter.field-0-is c.in-Ok-Filter.ensures) in
    λ no. absurd (no is.0)

pub returns-in-Ok-filter_sources-clause-unread : goal.returns-in-Ok-filter_sources-clause-unread
returns-in-Ok-filter_sources-clause-unread g c =
    let is = subst (λ t. IsWork t (work.Filter c.in-Ok-Filter.rule c.in-Ok-Filter.names)) (c.parse.ensures ∙ c.in-Ok.ensures) (subst (λ w. IsWork (task c.parse.result) w) c.in-Ok-Filter.field-0-is c.in-Ok-Filter.ensures) in
    λ no. absurd (no is.0)

pub returns-in-Ok-Whole-clause-unread : goal.returns-in-Ok-Whole-clause-unread
returns-in-Ok-Whole-clause-unread g c =
    let is = subst (λ t. IsWork t (work.Whole c.in-Ok-Whole.question c.in-Ok-Whole.names)) (c.parse.ensures ∙ c.in-Ok.ensures) (subst (λ w. IsWork (task c.parse.result) w) c.in-Ok-Whole.field-0-is c.in-Ok-Whole.ensures) in
    λ no. absurd (no is.0)

pub returns-in-Ok-Check-clause-unread : goal.returns-in-Ok-Check-clause-unread
returns-in-Ok-Check-clause-unread g c =
    let is = subst (λ t. IsWork t (work.Check c.in-Ok-Check.options c.in-Ok-Check.names)) (c.parse.ensures ∙ c.in-Ok.ensures) (subst (λ w. IsWork (task c.parse.result) w) c.in-Ok-Check.field-0-is c.in-Ok-Check.ensures) in
    λ no. absurd (no (subst NeedsInput (sym is) tt))
