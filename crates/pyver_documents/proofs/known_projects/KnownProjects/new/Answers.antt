use Rattle.std.proofs.Common.{bytes_eq, not, sym, ◌||◌, ◌∙◌}
use Rattle.std.specs.List.{list_any}
use Rattle.pyver_documents.specs.Comparing.{is_installer, is_project_reading}
use Rattle.pyver_documents.specs.DocumentViews.{reading_in}
use Rattle.pyver_requirements.proofs.Grouped.{any_viewed}
use Rattle.pyver_documents.proofs.known_projects.KnownProjects.new.Goals as goal

pub returns : goal.returns
returns c =
    let read = c.args.read.now in
    let any = c.has_project_reading.ensures ∙ sym (any_viewed is_project_reading reading_in read) in
    λ i name. record {
      lacks = is_installer name || (not (any i) || list_any (bytes_eq name) (c.in_ok-names.ensures.names i));
      overrides = list_any (bytes_eq name) (c.in_ok-names.ensures.overridden i);
    }
