use Rattle.std.proofs.Common.{List, subst, arith}
use Rattle.bits_core.specs.declared.events.Event.{Event}
use Rattle.bits_core.specs.declared.events.Side.TheVariants.{P}
use Rattle.ring_core.specs.declared.replies.PutReply.TheVariants as reply
use Rattle.ring_run.specs.Ring.{Ring}
use Rattle.ring_run.specs.Rule.{Stands}
use Rattle.ring_run.specs.Ends.{HasPut}
use Rattle.test_run.proofs.tests.room.put_into_room.Goals as goal

pub unreachable-requires : goal.unreachable-requires
unreachable-requires g c =
    let a = g.E.PutEnd.end c.args.putter.now in
    let b = g.E.PutEnd.end c.put.new.self in
    let k = c.requires.room in
    let f = c.in-Full.ensures in
    let stands : Stands a.ring.shape P b.list a.known = subst (λ (z : Ring × List Event). Stands z.0.shape P b.list z.1) (λ i. (f.same.ring i, f.same.known i)) f.lawful in
    let put : HasPut a.ring.shape c.args.item a.list b.list reply.Full = subst (λ (z : Ring). HasPut z.shape c.args.item a.list b.list reply.Full) f.same.ring f.phrase in
    let full = c.full_after_meeting.ensures.single a.ring.shape a.known a.list b.list k.takes k.puts c.args.item k.taken k.put k.begins stands put in
    absurd (omega (arith, full, k.room))
