use Rattle.std.proofs.Common.{◌≡◌, ◌++◌, ◌∙◌, IfOk, ap, map, subst, sym}
use Rattle.std.proofs.lemmas.List.{append-nil}
use Rattle.pyver_documents.proofs.LockedPackages.{nowhere_lacking, some_lacking}
use Rattle.pyver_documents.specs.Comparing.{lack_finding}
use Rattle.pyver_findings.specs.Views.{file_line_of, finding_of}
use Rattle.pyver_locks.specs.LockContents.{parts_of}
use Rattle.pyver_documents.proofs.lack.push_first_lack.Goals as goal

pub returns-then-has_unconditional : goal.returns-then-has_unconditional
returns-then-has_unconditional c =
    let found = map finding_of c.args.findings.now.items in
    sym (append-nil found)
    ∙ ap (λ more. found ++ more) (sym (nowhere_lacking (parts_of c.args.parts.now) (file_line_of c.args.line.now) c.args.taken.now c.has_unconditional.result c.has_unconditional.ensures c.if-has_unconditional.true))

pub returns : goal.returns
returns c =
    let parts = parts_of c.args.parts.now in
    let line = file_line_of c.args.line.now in
    subst
    (λ more. IfOk c.push_lack.result (λ _. map finding_of c.push_lack.new.findings.items ≡ map finding_of c.args.findings.now.items ++ more))
    (ap (lack_finding line) c.in_ok-environment.ensures ∙ sym (some_lacking parts line c.args.taken.now c.is_empty.result c.is_empty.ensures c.if-is_empty.false))
    c.push_lack.ensures
