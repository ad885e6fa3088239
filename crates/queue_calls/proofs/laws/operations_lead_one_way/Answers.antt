use Rattle.std.proofs.Common.{◌≡◌, sym, ap, ◌∙◌}
use Rattle.queue_calls.specs.Queue.{Capacity, Operation, Enqueue, FindNoRoom, FindShut, Close, Dequeue, FindFewer, FindClosed, Queue, queue, Step}
use Rattle.queue_calls.proofs.laws.operations_lead_one_way.Goals as goal

same_queue : (a b : Queue) → a.items ≡ b.items → a.closed ≡ b.closed → a ≡ b
same_queue a b p q = ap (λ items. queue items a.closed) p ∙ ap (λ closed. queue b.items closed) q

one_way : (capacity : Capacity) (q : Queue) (d : Operation) (after other : Queue) → Step capacity q d after → Step capacity q d other → after ≡ other
one_way capacity q (Enqueue item) after other (a, b, c) (d, e, f) = c ∙ sym f
one_way capacity q (FindNoRoom count) after other (a, b, c) (d, e, f) = c ∙ sym f
one_way capacity q FindShut after other (a, b) (c, d) = b ∙ sym d
one_way capacity q Close after other a b = a ∙ sym b
one_way capacity q (Dequeue item) after other (a, b) (c, d) =
    let items : after.items ≡ other.items = cc in
    same_queue after other items (b ∙ sym d)
one_way capacity q (FindFewer count) after other (a, b, c) (d, e, f) = c ∙ sym f
one_way capacity q FindClosed after other (a, b) (c, d) = b ∙ sym d

pub returns : goal.returns
returns c = one_way
