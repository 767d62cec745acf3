use Rattle.std.proofs.Common.{◌&&◌, ◌∙◌, ◌||◌, ap, bytes_eq}
use Rattle.pyver_findings.proofs.LackedHashes.{named_more}
use Rattle.pyver_findings.specs.Demands.{Demand}
use Rattle.pyver_findings.specs.Hashes.{is_known_name, is_pin, may_have_hash}
use Rattle.pyver_findings.specs.Views.{demand_of}
use Rattle.pyver_findings.proofs.hashes.SecuredNames.new.Goals as goal

pub loop-line-preserved : goal.loop-line-preserved
loop-line-preserved c =
    let line = c.line-item.result in
    record {
      pinned = λ q. named_more demand_of (λ (a : Demand). bytes_eq q a.name && is_pin a.specifiers) c.args.lines.now c.loop-line.line-index line _ _ c.loop-line-test.true c.line-item.is
          (c.in_ok-insert_if.ensures q ∙ (λ j. is_known_name c.loop-line.pinned q || (bytes_eq q (c.as_slice-name.ensures.value j) && (c.is_pin.ensures ∙ ap is_pin c.as_slice.ensures.value) j)))
          (c.loop-line.invariant.pinned q);
      hashed = λ q. named_more demand_of (λ (a : Demand). bytes_eq q a.name && may_have_hash a.line) c.args.lines.now c.loop-line.line-index line _ _ c.loop-line-test.true c.line-item.is
          (c.in_ok-insert_if-2.ensures q ∙ (λ j. is_known_name c.loop-line.hashed q || (bytes_eq q (c.as_slice-name.ensures.value j) && c.may_have_hash.ensures j)))
          (c.loop-line.invariant.hashed q);
    }
