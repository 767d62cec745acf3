use Rattle.std.proofs.Common.{◌≡◌, ◌++◌, drop, map}
use Rattle.std.specs.List.{flat_map}
use Rattle.pyver_documents.specs.DocumentViews.{document_of}
use Rattle.pyver_tool.specs.RequirementFiles.{search_of, searches_for}
use Rattle.pyver_tool.proofs.lock_search.list_searches.Given as goal

abbrev pub invariant-loop-document : goal.invariant-loop-document
invariant-loop-document l =
    map search_of l.searches.items ++ flat_map searches_for (map document_of (drop l.document-index l.documents)) ≡ map search_of l.initial.searches.items ++ flat_map searches_for (map document_of l.documents)
