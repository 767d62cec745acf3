use Rattle.std.proofs.Common.{◌≡◌, drop, map}
use Rattle.pyver_documents.specs.DocumentViews.{groups_of}
use Rattle.pyver_documents.specs.Meanings.{has_each_extra}
use Rattle.pyver_documents.proofs.groups.Groups.has_each_extra.Given as goal

abbrev pub invariant-loop-extra : goal.invariant-loop-extra
invariant-loop-extra l =
    has_each_extra (groups_of l.self).extras (map (λ e. e.items) l.extras) ≡ has_each_extra (groups_of l.self).extras (map (λ e. e.items) (drop l.extra-index l.extras))
