use Rattle.std.proofs.Common.{ap, slice_set, take, ◌∙◌}
use Rattle.lists.specs.Rings.{round_from}
use Rattle.lists.proofs.RingLemmas.{ring_set}
use Rattle.lists.proofs.slots.SlotsFifo.set.Goals as goal

pub returns-clause-items : goal.returns-clause-items
returns-clause-items g c =
    let s = c.args.self.now in
    ap (λ p. take s.used (round_from s.first (slice_set s.slots.now p c.args.item))) c.slot_of-slot.ensures.place
    ∙ ring_set s.slots.now s.first s.used c.args.index c.args.item s.begins s.within c.requires
