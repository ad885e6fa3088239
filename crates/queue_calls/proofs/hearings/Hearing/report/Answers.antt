use Rattle.queue_calls.proofs.HearingLemmas.{heard_linear, reported}
use Rattle.queue_calls.proofs.hearings.Hearing.report.Goals as goal

pub returns : goal.returns
returns g c capacity events (before, tallied) =
    let s = c.args.self.now in (
      heard_linear g.S.Offered.Fifo.items g.S.Taken.Fifo.items capacity events s.witness before,
      reported g.S.Offered.Fifo.items g.S.Taken.Fifo.items capacity events s.witness s.tally c.report.result before tallied c.report.ensures.under_way c.report.ensures.numbers,
    )
