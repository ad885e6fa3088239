use Rattle.std.proofs.Common.{◌≡◌, ◌+◌, ◌-◌, ◌%◌, ◌≤◌, length, take}
use Rattle.ring_seats.proofs.Common.{AllFit, capacity_of, words_read, GrowsBy}
use Rattle.ring_seats.proofs.counter_steppers.Stepper+Counting.read_items.Given as goal

abbrev pub invariant-loads : goal.invariant-loads
invariant-loads l =
    GrowsBy l.initial.self l.self (words_read l.initial.self.ring.shape l.cell (take l.index l.into)) × AllFit l.initial.self.ring.shape (take l.index l.into) ×
    (l.index ≤ length l.into) × (length l.into ≡ length l.initial.into) × (l.place ≡ (l.cell + l.index) % capacity_of l.initial.self.ring.shape) × (l.cell ≡ l.initial.cell) × (l.capacity ≡ capacity_of l.initial.self.ring.shape)

abbrev pub decreases-loads : goal.decreases-loads
decreases-loads l = length l.into - l.index
