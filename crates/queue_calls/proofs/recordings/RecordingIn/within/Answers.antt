use Rattle.std.proofs.Common.{refl}
use Rattle.queue_calls.proofs.RecordingLemmas.{nothing_read}
use Rattle.queue_calls.proofs.recordings.RecordingIn.within.Goals as goal

pub returns-clause-read : goal.returns-clause-read
returns-clause-read g c =
    nothing_read g.S.Offered.Fifo.items g.S.Taken.Fifo.items g.S.Bytes.Store.items _ c.clear.ensures.items refl
    (record { are = tt; count = refl; limit = c.new.ensures.limit; unheard = λ none. c.new.ensures.no_fault; heard = λ some. absurd (some refl) })
