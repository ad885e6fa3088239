use Rattle.register_recordings.proofs.RecordingLemmas.{cut_is}
use Rattle.register_recordings.proofs.recordings.RegisterRecording.is_cut.Goals as goal

pub returns : goal.returns
returns g c = cut_is g.W.Fifo.items g.R.Fifo.items g.P.Fifo.items g.C.Fifo.items g.B.Store.items c.args.self.now
