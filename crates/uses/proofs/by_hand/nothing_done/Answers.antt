use Rattle.std.proofs.Common.{ap}
use Rattle.bits_core.specs.Memory.{MemoryState}
use Rattle.ring_core.specs.ProducerState.{ProducerState}
use Rattle.uses.proofs.Driving.{fresh}
use Rattle.uses.proofs.by_hand.nothing_done.Goals as goal

pub returns-clause-driven : goal.returns-clause-driven
returns-clause-driven g c =
    let m = c.new-memory.ensures in
    let p = c.new-producer.ensures.state in
    fresh c.new-memory.result c.new-producer.result c.args.shape (ap (λ (m : MemoryState). m.shape) m) (ap (λ (m : MemoryState). m.events) m) (ap (λ (p : ProducerState). p.shape) p) c.new-producer.ensures.stands
