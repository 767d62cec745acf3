use Rattle.std.proofs.Common.{◌≡◌, ◌∙◌, ◌-◌, arith, drop, length, take, take_all}
use Rattle.std.proofs.lemmas.List.{length-drop}
use Rattle.pyver_documents.proofs.Walks.{section_is}
use Rattle.pyver_documents.proofs.document_kind.last_section.Goals as goal
use Rattle.pyver_findings.specs.NamedFiles.{folder}

pub returns : goal.returns
returns c =
    let path = c.args.path.now in
    let front = length (folder path) in
    let whole : take (length path - front) (drop front path) ≡ drop front path = take_all (length path - front) (drop front path) (omega (arith, length-drop front path)) in
    rw c.folder.ensures (whole ∙ section_is path)
