use Rattle.std.proofs.Common.{[], ◌∷◌, ◌++◌, length, refl, subst}
use Rattle.ring_audit.specs.declared.takes.TakeStep.TheVariants as takes
use Rattle.ring_audit.proofs.Common.{HasReadTake, reading}
use Rattle.ring_audit.proofs.Readings.{put_stops, put_goes, put_stores, put_counts, take_stops, take_goes, take_takes}
use Rattle.ring_audit.proofs.dues.Followers.read.Goals as goal

pub returns-in-Stops-clause-stops : goal.returns-in-Stops-clause-stops
returns-in-Stops-clause-stops c f h st =
    let r = c.args.self.now in
    put_stops r.puts.shape (reading r.puts r.takes st.counted st.put st.taken) c.read.new.self c.args.event c.in-P.is c.in-Stops.ensures.read h st.stands

pub returns-in-GoesOn-clause-goes_on : goal.returns-in-GoesOn-clause-goes_on
returns-in-GoesOn-clause-goes_on c f h st =
    let r = c.args.self.now in
    record {
      counted = st.counted;
      put = st.put;
      taken = st.taken;
      stands = put_goes r.puts.shape (reading r.puts r.takes st.counted st.put st.taken) c.read.new.self c.args.event c.in-P.is c.in-GoesOn.ensures.read h st.stands;
    }

pub returns-in-Stores-clause-goes_on : goal.returns-in-Stores-clause-goes_on
returns-in-Stores-clause-goes_on c f h st =
    let r = c.args.self.now in
    record {
      counted = st.counted;
      put = st.put ++ c.in-Stores.field-0 ∷ [];
      taken = st.taken;
      stands = put_stores r.puts.shape (reading r.puts r.takes st.counted st.put st.taken) c.read.new.self c.args.event c.in-Stores.field-0
          (st.put ++ c.in-Stores.field-0 ∷ []) c.in-P.is c.in-Stores.ensures.read refl h st.stands;
    }

pub returns-in-Counts-clause-goes_on : goal.returns-in-Counts-clause-goes_on
returns-in-Counts-clause-goes_on c f h st =
    let r = c.args.self.now in
    record {
      counted = length st.put;
      put = st.put;
      taken = st.taken;
      stands = put_counts r.puts.shape (reading r.puts r.takes st.counted st.put st.taken) c.read.new.self c.args.event (length st.put) c.in-P.is
          c.in-Counts.ensures.read refl h st.stands;
    }

pub returns-in-Stops-read-clause-stops : goal.returns-in-Stops-read-clause-stops
returns-in-Stops-read-clause-stops c f h st =
    let r = c.args.self.now in
    let read = subst (λ s. HasReadTake s r.takes c.read-in-C.new.self c.args.event takes.Stops) c.requires c.in-Stops-read.ensures.read in
    take_stops r.puts.shape (reading r.puts r.takes st.counted st.put st.taken) c.read-in-C.new.self c.args.event c.in-C.is read h st.stands

pub returns-in-GoesOn-read-clause-goes_on : goal.returns-in-GoesOn-read-clause-goes_on
returns-in-GoesOn-read-clause-goes_on c f h st =
    let r = c.args.self.now in
    let read = subst (λ s. HasReadTake s r.takes c.read-in-C.new.self c.args.event takes.GoesOn) c.requires c.in-GoesOn-read.ensures.read in
    record {
      counted = st.counted;
      put = st.put;
      taken = st.taken;
      stands = take_goes r.puts.shape (reading r.puts r.takes st.counted st.put st.taken) c.read-in-C.new.self c.args.event c.in-C.is read h st.stands;
    }

pub returns-in-Takes-clause-goes_on : goal.returns-in-Takes-clause-goes_on
returns-in-Takes-clause-goes_on c f h st =
    let r = c.args.self.now in
    let kept = c.read-in-C.new.self.consumer.items in
    let read = subst (λ s. HasReadTake s r.takes c.read-in-C.new.self c.args.event takes.Takes) c.requires c.in-Takes.ensures.read in
    record {
      counted = st.counted;
      put = st.put;
      taken = st.taken ++ kept;
      stands = take_takes r.puts.shape (reading r.puts r.takes st.counted st.put st.taken) c.read-in-C.new.self c.args.event (st.taken ++ kept) c.in-C.is read refl h st.stands;
    }
