use Rattle.std.proofs.Common.{◌≡◌, ◌+◌, ◌-◌, ◌%◌, ◌≤◌, length, take}
use Rattle.ring_seats.proofs.Common.{capacity_of, words_phrase, GrowsBy}
use Rattle.ring_seats.proofs.counter_steppers.Stepper+Counting.write_items.Given as goal

abbrev pub invariant-stores : goal.invariant-stores
invariant-stores l =
    GrowsBy l.initial.self l.self (words_phrase l.initial.self.ring.shape l.cell (take l.index l.items)) ×
    (l.index ≤ length l.items) × (l.place ≡ (l.cell + l.index) % capacity_of l.initial.self.ring.shape) × (l.items ≡ l.initial.items) × (l.cell ≡ l.initial.cell) × (l.capacity ≡ capacity_of l.initial.self.ring.shape)

abbrev pub decreases-stores : goal.decreases-stores
decreases-stores l = length l.items - l.index
