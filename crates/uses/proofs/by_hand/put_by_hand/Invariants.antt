use Rattle.std.proofs.Common.{◌≡◌, false}
use Rattle.uses.specs.ByHand.{IsDriven}
use Rattle.uses.proofs.by_hand.put_by_hand.Given as goal

abbrev pub invariant-events : goal.invariant-events
invariant-events g l = IsDriven l.memory l.producer × (l.producer.batched ≡ false) × (l.memory.shape ≡ l.initial.memory.shape)
