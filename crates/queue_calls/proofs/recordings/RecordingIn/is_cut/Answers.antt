use Rattle.queue_calls.proofs.RecordingLaws.{told_cut}
use Rattle.queue_calls.proofs.recordings.RecordingIn.is_cut.Goals as goal

pub returns : goal.returns
returns g c = told_cut g.S.Offered.Fifo.items g.S.Taken.Fifo.items g.S.Bytes.Store.items c.args.self.now
