use Rattle.std.proofs.Common.{◌≡◌, ◌++◌, drop, map}
use Rattle.pyver_commands.proofs.InputOutput.{kept_after}
use Rattle.pyver_commands.specs.Sorts.{without_repeats}
use Rattle.pyver_commands.specs.Sources.VersionLineViews.{version_line_of}
use Rattle.pyver_commands.proofs.sort.collect_texts.Given as goal

abbrev pub invariant-loop-line : goal.invariant-loop-line
invariant-loop-line l = map (λ t. t.now) l.texts.items ++ map (λ x. x.text) (kept_after l.unique l.before (drop l.line-index l.lines)) ≡ map (λ x. x.text) (without_repeats l.unique (map version_line_of l.lines))
