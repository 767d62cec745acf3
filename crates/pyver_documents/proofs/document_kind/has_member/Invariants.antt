use Rattle.std.proofs.Common.{◌≡◌, ◌++◌, bytes_eq, drop, map}
use Rattle.std.specs.List.{list_any}
use Rattle.pyver_findings.specs.NamedFiles.{folder}
use Rattle.pyver_documents.proofs.document_kind.has_member.Given as goal

abbrev pub invariant-loop-member : goal.invariant-loop-member
invariant-loop-member l =
    list_any (λ m. bytes_eq (folder l.lock ++ m) (folder l.project)) (map (λ m. m.items) l.members)
    ≡ list_any (λ m. bytes_eq (folder l.lock ++ m) (folder l.project)) (map (λ m. m.items) (drop l.member-index l.members))
