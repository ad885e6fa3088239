-- The operations of small runs.
use Rattle.std.proofs.Common.{◌≡◌, ℕ, List, [], ◌∷◌, ◌++◌, refl}
use Rattle.ring_core.proofs.Common.{P, C, first_count, TimedOperation, operations, put_operations, take_operations}
use Rattle.queue_calls.specs.Queue.{Enqueue, Close, Dequeue, FindClosed}
use Rattle.ring_core.proofs.Examples.{one_cell, put_and_close, second_scan, three_cells, three_at_once}

-- the operations before these moments: none, the first ones, the same, and then the second ones after them
abbrev ComeAt : (ℕ → List TimedOperation) → (before with_first still with_both : ℕ) → (first second : List TimedOperation) → Type 0
ComeAt by before with_first still with_both first second = (by before ≡ []) × (by with_first ≡ first) × (by still ≡ first) × (by with_both ≡ first ++ second)

-- an item is put with the first event of its count write, number 4, and the ring is closed with the first event of the close,
-- number 8
put_and_close-operations :
    ComeAt (put_operations one_cell first_count 0 put_and_close.puts put_and_close.closes) 4 5 8 9 (operations P 0 8 (Enqueue 1 ∷ [])) (operations P 8 10 (Close ∷ []))
unfolding one_cell
put_and_close-operations = (refl, refl, refl, refl)

-- it is taken with the first event of the take's count write, number 10, and Closed is returned with the last of the 24 events
second_scan-operations :
    ComeAt (take_operations one_cell first_count 0 second_scan.takes second_scan.end) 10 11 23 24 (operations C 0 14 (Dequeue 1 ∷ [])) (operations C 14 24 (FindClosed ∷ []))
unfolding one_cell
second_scan-operations = (refl, refl, refl, refl)

-- a batch is three operations of one call, of 12 events
three_at_once-operations :
    (put_operations three_cells first_count 0 three_at_once.puts three_at_once.closes 8 ≡ []) ×
    (put_operations three_cells first_count 0 three_at_once.puts three_at_once.closes 9 ≡ operations P 0 12 (Enqueue 1 ∷ Enqueue 0 ∷ Enqueue 1 ∷ []))
unfolding three_cells
three_at_once-operations = (refl, refl)
