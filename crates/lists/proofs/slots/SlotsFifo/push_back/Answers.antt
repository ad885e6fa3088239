use Rattle.std.proofs.Common.{ap, slice_set, take, ◌∙◌, ◌+◌, arith}
use Rattle.lists.specs.Rings.{round_from}
use Rattle.lists.proofs.RingLemmas.{ring_push}
use Rattle.lists.proofs.slots.SlotsFifo.push_back.Goals as goal

pub returns-clause-items : goal.returns-clause-items
returns-clause-items g c =
    let s = c.args.self.now in
    ap (λ p. take (s.used + 1) (round_from s.first (slice_set s.slots.now p c.args.item))) c.slot_of-back.ensures.place
    ∙ ring_push s.slots.now s.first s.used c.args.item s.begins (omega (arith, s.within, c.if-self.false))
