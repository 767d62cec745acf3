use Rattle.std.proofs.Common.{◌≡◌, ◌++◌, drop, map}
use Rattle.pyver_documents.proofs.known_projects.push_copies.Given as goal

abbrev pub invariant-loop-name : goal.invariant-loop-name
invariant-loop-name l = map (λ n. n.items) l.names.items ++ map (λ n. n.items) (drop l.name-index l.others) ≡ map (λ n. n.items) l.initial.names.items ++ map (λ n. n.items) l.others
