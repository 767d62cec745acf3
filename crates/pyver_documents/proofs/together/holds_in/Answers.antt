use Rattle.std.proofs.Common.{◌∙◌, ap, sym}
use Rattle.pyver_documents.specs.Together.{holds_in}
use Rattle.pyver_projects.specs.ProjectStrings.{has_key, section_of}
use Rattle.pyver_documents.proofs.together.holds_in.Goals as goal

pub returns-in-Group : goal.returns-in-Group
returns-in-Group c =
    let names = c.args.names.now in
    c.contains_key-in-Group.ensures ∙ ap (has_key names.groups) c.as_slice-in-Group.ensures.value ∙ ap (λ s. holds_in c.args.together (has_key names.groups) (has_key names.extras) (section_of names.part.now) (section_of s)) (sym c.in-Group.is)

pub returns-in-Extra : goal.returns-in-Extra
returns-in-Extra c =
    let names = c.args.names.now in
    c.contains_key.ensures ∙ ap (has_key names.extras) c.as_slice.ensures.value ∙ ap (λ s. holds_in c.args.together (has_key names.groups) (has_key names.extras) (section_of names.part.now) (section_of s)) (sym c.in-Extra.is)
