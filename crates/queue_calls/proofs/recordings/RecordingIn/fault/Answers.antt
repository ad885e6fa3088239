use Rattle.queue_calls.specs.Recordings.{lines_text}
use Rattle.queue_calls.proofs.RecordingLemmas.{fault_found}
use Rattle.queue_calls.proofs.recordings.RecordingIn.fault.Goals as goal

pub returns : goal.returns
returns g c bytes has =
    let s = c.args.self.now in
    (lines_text has.ended, g.S.Bytes.Store.items s.cut, has.text, has.no_feed, fault_found g.S.Offered.Fifo.items g.S.Taken.Fifo.items s.lines has.ended has.lines)
