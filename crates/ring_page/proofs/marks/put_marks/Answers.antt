use Rattle.std.proofs.Common.{arith, length, ◌<◌}
use Rattle.std.proofs.lemmas.List.{length-set}
use Rattle.std.proofs.lemmas.Option.{slice_get-get_or}
use Rattle.ring_page.proofs.Puts.{ArePutTo-more, ArePut-all}
use Rattle.ring_page.proofs.marks.put_marks.Goals as goal

pub loop-i-preserved : goal.loop-i-preserved
loop-i-preserved c =
    let i = c.loop-i.i in
    let events = c.args.events.now in
    let seen = c.args.seen.now in
    let in_events : i < length events = omega arith in
    let in_seen : i < length seen = omega (arith, c.requires) in
    record {
      put = rw c.mark_of.ensures (ArePutTo-more i events seen c.loop-i.marks _ _ (slice_get-get_or events i _ in_events) (slice_get-get_or seen i _ in_seen) c.loop-i.invariant.put);
      room = rw length-set c.loop-i.invariant.room;
    }

pub returns : goal.returns
returns c = ArePut-all c.loop-i.i c.args.events.now c.args.seen.now c.loop-i.marks (omega (arith, c.loop-i.invariant.room)) c.loop-i.invariant.put
