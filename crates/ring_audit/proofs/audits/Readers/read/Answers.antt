use Rattle.std.proofs.Common.{◌≡◌, ◌++◌, ◌∙◌, inr, arith, ap, length, subst}
use Rattle.ring_audit.specs.declared.takes.TakeStep.TheVariants as takes
use Rattle.ring_audit.proofs.Common.{Event, Shape, TakeReading, HasReadTake, reading}
use Rattle.ring_audit.specs.declared.takes.TakeStep.{TakeStep}
use Rattle.ring_audit.proofs.Readings.{put_stops, put_goes, put_stores, put_counts, take_stops, take_goes, take_takes}
use Rattle.ring_audit.proofs.Rooms.{on_err, put_needs, take_needs, take_short}
use Rattle.ring_audit.proofs.audits.Readers.read.Goals as goal

-- what is read with the shape of the takes is read with that of the puts
as_puts : (of shape : Shape) (old new : TakeReading) (e : Event) (step : TakeStep) → of ≡ shape → HasReadTake of old new e step → HasReadTake shape old new e step
as_puts of shape old new e step same read = subst (λ s. HasReadTake s old new e step) same read

pub returns-in_err-push-in-Stores-clause-refused : goal.returns-in_err-push-in-Stores-clause-refused
returns-in_err-push-in-Stores-clause-refused g c = search (arith, on_err, put_needs, c.in-P.is, c.in-Stores.ensures.read, c.in_err-push-in-Stores.ensures.full)

pub returns-in_err-push_all-in-Takes-clause-refused : goal.returns-in_err-push_all-in-Takes-clause-refused
returns-in_err-push_all-in-Takes-clause-refused g c =
    let r = c.args.self.now in
    on_err c.from_residual-in_err-push_all-in-Takes.result
    (take_needs r.puts.shape r.puts r.takes c.read-in-C.new.self r.counted (g.S.Store.items c.args.put.now) (g.S.Store.items c.args.taken.now) c.items.result.now c.args.event
    (g.S.Store.room c.args.put.now) (g.S.Store.room c.args.taken.now) c.in-C.is (as_puts r.takes.consumer.shape r.puts.shape r.takes c.read-in-C.new.self c.args.event takes.Takes c.requires c.in-Takes.ensures.read) c.items.ensures c.in_err-push_all-in-Takes.ensures.full)

pub returns-in_err-push_all-in-Takes-clause-full : goal.returns-in_err-push_all-in-Takes-clause-full
returns-in_err-push_all-in-Takes-clause-full g c =
    let r = c.args.self.now in
    on_err c.from_residual-in_err-push_all-in-Takes.result
    (inr (take_short r.puts.shape r.puts r.takes c.read-in-C.new.self r.counted (g.S.Store.items c.args.put.now) (g.S.Store.items c.args.taken.now) c.items.result.now c.args.event
    (g.S.Store.room c.args.taken.now) c.in-C.is (as_puts r.takes.consumer.shape r.puts.shape r.takes c.read-in-C.new.self c.args.event takes.Takes c.requires c.in-Takes.ensures.read) c.items.ensures c.in_err-push_all-in-Takes.ensures.full))

pub returns-in-Stops-clause-stops : goal.returns-in-Stops-clause-stops
returns-in-Stops-clause-stops g c f = search (arith, put_stops, c.in-P.is, c.in-Stops.ensures.read)

pub returns-in_ok-push-in-Stores-clause-goes_on : goal.returns-in_ok-push-in-Stores-clause-goes_on
returns-in_ok-push-in-Stores-clause-goes_on g c f =
    let r = c.args.self.now in
    put_stores r.puts.shape (reading r.puts r.takes r.counted (g.S.Store.items c.args.put.now) (g.S.Store.items c.args.taken.now)) c.read.new.self c.args.event c.in-Stores.item
    (g.S.Store.items c.push.new.store) c.in-P.is c.in-Stores.ensures.read c.in_ok-push-in-Stores.ensures.pushed

pub returns-in-Counts-clause-goes_on : goal.returns-in-Counts-clause-goes_on
returns-in-Counts-clause-goes_on g c f =
    let r = c.args.self.now in
    put_counts r.puts.shape (reading r.puts r.takes r.counted (g.S.Store.items c.args.put.now) (g.S.Store.items c.args.taken.now)) c.read.new.self c.args.event
    (length c.as_slice.result.now) c.in-P.is c.in-Counts.ensures.read (ap length c.as_slice.ensures)

pub returns-in-Stops-read-clause-stops : goal.returns-in-Stops-read-clause-stops
returns-in-Stops-read-clause-stops g c f =
    let r = c.args.self.now in
    take_stops r.puts.shape (reading r.puts r.takes r.counted (g.S.Store.items c.args.put.now) (g.S.Store.items c.args.taken.now)) c.read-in-C.new.self c.args.event c.in-C.is (as_puts r.takes.consumer.shape r.puts.shape r.takes c.read-in-C.new.self c.args.event takes.Stops c.requires c.in-Stops-read.ensures.read)

pub returns-in-GoesOn-clause-goes_on : goal.returns-in-GoesOn-clause-goes_on
returns-in-GoesOn-clause-goes_on g c f =
    let r = c.args.self.now in
    put_goes r.puts.shape (reading r.puts r.takes r.counted (g.S.Store.items c.args.put.now) (g.S.Store.items c.args.taken.now)) c.read.new.self c.args.event c.in-P.is c.in-GoesOn.ensures.read

pub returns-in-GoesOn-read-clause-goes_on : goal.returns-in-GoesOn-read-clause-goes_on
returns-in-GoesOn-read-clause-goes_on g c f =
    let r = c.args.self.now in
    take_goes r.puts.shape (reading r.puts r.takes r.counted (g.S.Store.items c.args.put.now) (g.S.Store.items c.args.taken.now)) c.read-in-C.new.self c.args.event c.in-C.is (as_puts r.takes.consumer.shape r.puts.shape r.takes c.read-in-C.new.self c.args.event takes.GoesOn c.requires c.in-GoesOn-read.ensures.read)

pub returns-in_ok-push_all-in-Takes-clause-goes_on : goal.returns-in_ok-push_all-in-Takes-clause-goes_on
returns-in_ok-push_all-in-Takes-clause-goes_on g c f =
    let r = c.args.self.now in
    take_takes r.puts.shape (reading r.puts r.takes r.counted (g.S.Store.items c.args.put.now) (g.S.Store.items c.args.taken.now)) c.read-in-C.new.self c.args.event
    (g.S.Store.items c.push_all.new.store) c.in-C.is (as_puts r.takes.consumer.shape r.puts.shape r.takes c.read-in-C.new.self c.args.event takes.Takes c.requires c.in-Takes.ensures.read) (c.in_ok-push_all-in-Takes.ensures.pushed ∙ ap (λ l. g.S.Store.items c.args.taken.now ++ l) c.items.ensures)
