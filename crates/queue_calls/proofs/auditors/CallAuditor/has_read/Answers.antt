use Rattle.queue_calls.specs.Told.{meant}
use Rattle.queue_calls.proofs.Keeping.{some}
use Rattle.queue_calls.proofs.auditors.CallAuditor.has_read.Goals as goal

pub returns : goal.returns
returns g c h k =
    let s = c.args.self.now in
    let (t, d, told) = some (meant s.capacity) (g.Q.Inside.items s.inside) s.put s.take s.shut k.few in
    (t, k.sound t d (told k.late))
