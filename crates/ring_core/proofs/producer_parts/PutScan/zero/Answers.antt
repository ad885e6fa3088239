use Rattle.std.proofs.Common.{false, ap, ◌∙◌}
use Rattle.ring_core.proofs.Common.{ScanState, ProducerState}
use Rattle.ring_core.specs.declared.producers.Stage.TheVariants.{Scanning}
use Rattle.ring_core.specs.contracts.producer_parts.PutScan.{the_view}
use Rattle.ring_core.proofs.Machines.ProducerInvariant.{at_stage, scan_keeps}
use Rattle.ring_core.proofs.producer_parts.PutScan.zero.Goals as goal

pub invariant_of-self : goal.invariant_of-self
invariant_of-self c =
    let p : ProducerState = the_view c.self.inside in
    let (counted, putting, fresh, start, scans) = at_stage p Scanning c.self.invariant.1 c.self.invariant.0 in (
      c.self.invariant.0,
      scan_keeps p c.feed.new.self false c.self.invariant.1 c.self.invariant.0 (rw (← c.self.view_is) at c.requires.not_last) c.feed.ensures.state
          (ap (λ (x : ScanState). x.found) c.feed.ensures.state ∙ scans.not_found),
    )
