use Rattle.std.proofs.Common.{ap}
use Rattle.std.specs.Prelude.{is_some}
use Rattle.queue_calls.proofs.HearingLemmas.{no_fault}
use Rattle.queue_calls.proofs.hearings.Hearing.finding.Goals as goal

pub returns-in-None : goal.returns-in-None
returns-in-None g c capacity events heard =
    let s = c.args.self.now in
    c.report.ensures capacity events (no_fault g.S.Offered.Fifo.items g.S.Taken.Fifo.items capacity events s.fault s.witness s.tally (ap is_some c.in-None.is) heard)
