use Rattle.std.proofs.Common.{◌≡◌, ◌&&◌, List, bytes_eq, is_some, map, take, ℕ}
use Rattle.std.specs.HashMap.{get_by}
use Rattle.std.specs.List.{list_any}
use Rattle.pyver_findings.specs.Demands.{Demand}
use Rattle.pyver_findings.specs.Hashes.{is_pin, may_have_hash}
use Rattle.pyver_findings.specs.Views.{demand_of}
use Rattle.pyver_findings.proofs.hashes.SecuredNames.new.Given as goal

abbrev pub invariant-loop-line : goal.invariant-loop-line
invariant-loop-line l = record {
  pinned : (q : List ℕ) → is_some (get_by (λ k. bytes_eq q k.now) l.pinned)
      ≡ list_any (λ (a : Demand). bytes_eq q a.name && is_pin a.specifiers) (map demand_of (take l.line-index l.lines));
  hashed : (q : List ℕ) → is_some (get_by (λ k. bytes_eq q k.now) l.hashed)
      ≡ list_any (λ (a : Demand). bytes_eq q a.name && may_have_hash a.line) (map demand_of (take l.line-index l.lines));
}
