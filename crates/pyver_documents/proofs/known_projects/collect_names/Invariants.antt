use Rattle.std.proofs.Common.{◌≡◌, ◌++◌, drop, map}
use Rattle.std.specs.List.{flat_map}
use Rattle.pyver_documents.specs.Comparing.{names_read, overrides_read}
use Rattle.pyver_documents.specs.DocumentViews.{reading_in}
use Rattle.pyver_documents.proofs.known_projects.collect_names.Given as goal

abbrev pub invariant-loop-document : goal.invariant-loop-document
invariant-loop-document l =
    (map (λ n. n.items) l.names.items ++ flat_map names_read (map reading_in (drop l.document-index l.read)) ≡ flat_map names_read (map reading_in l.read))
    × (map (λ n. n.items) l.overridden.items ++ flat_map overrides_read (map reading_in (drop l.document-index l.read)) ≡ flat_map overrides_read (map reading_in l.read))
