use Rattle.std.proofs.Common.{ap, take, ◌∙◌, ◌+◌, ◌-◌, arith}
use Rattle.lists.specs.Rings.{round_from}
use Rattle.lists.proofs.RingLemmas.{ring_pop}
use Rattle.lists.proofs.slots.SlotsFifo.pop_front.Goals as goal

pub returns-clause-rest : goal.returns-clause-rest
returns-clause-rest g c =
    let s = c.args.self.now in
    ap (λ p. take (s.used - 1) (round_from (p + 1) s.slots.now)) c.slot_of-slot.ensures.place
    ∙ ring_pop s.slots.now s.first s.used c.index-self-slot.result s.begins (omega (arith, c.if-self-eq0.false)) s.within
