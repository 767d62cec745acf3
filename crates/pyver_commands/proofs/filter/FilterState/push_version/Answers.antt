use Rattle.std.proofs.Common.{refl}
use Rattle.pyver_commands.proofs.Filtering.{steps_kept}
use Rattle.pyver_commands.specs.Sources.SourceViews.{origin_line}
use Rattle.pyver_commands.proofs.filter.FilterState.push_version.Goals as goal

pub returns-in-Newest : goal.returns-in-Newest
returns-in-Newest c =
    steps_kept c.args.rule.now (origin_line c.args.origin c.args.self.now.line_count c.args.text.now) c.args.version.now c.args.self.now _ c.in-Newest.is refl refl refl refl refl c.in_ok-keep_newer.ensures
