-- An access of the consumer that ends: the reader stands after it, with the items that it brought.
use Rattle.std.proofs.Common.{◌≡◌, ℕ, Bool, true, Option, Some, None, List, [], ◌∷◌, ◌++◌, append-nil, arith}
use Rattle.ring_audit.proofs.Common.{C, Access, Event, Shape, Made, answered, end_event, TakeReply, Takes, ConsumerState, due_take, is_taking}
use Rattle.ring_core.specs.declared.consumers.Stage.TheVariants.{Counting}
use Rattle.ring_core.specs.ConsumerCalls.{ConsumerStands, ConsumerHasMoved, IsReplyToTake}
use Rattle.ring_audit.specs.TakeReading.{TakeReading, TakesStand, HasReadTake, step_by}
use Rattle.ring_audit.proofs.Readers.{ended}
use Rattle.ring_audit.proofs.TakeItems.{replied, items-after}
use Rattle.ring_audit.proofs.TakeReads.{due_takes, last_same, count_writes_bits}

pub finish_goes_on :
    (shape : Shape) (old new : ConsumerState) (a : Access) (v : Bool) (reply : Option TakeReply) → due_take old ≡ Some a → new.shape ≡ old.shape →
    new.wanted ≡ old.wanted → (old.stage ≡ Counting → is_taking new ≡ true → new.stage ≡ Counting) →
    ((calls : Takes) (made : List Made) (access : Access) → ConsumerStands old calls made → due_take old ≡ Some access → ConsumerHasMoved old new calls (made ++ answered access v ∷ [])) →
    ((calls : Takes) (made : List Made) → ConsumerStands new calls made → IsReplyToTake calls (is_taking new) reply) →
    (es : List Event) (items : List ℕ) → TakesStand shape (record { consumer = old; open_access = Some a }) es items →
    TakesStand shape (record { consumer = new; open_access = None }) (es ++ end_event C (answered a v) ∷ []) (items ++ replied reply new.items)
finish_goes_on shape old new a v reply due same wanted counts moves replies es items st =
    let (more, stands, after) = moves st.calls st.made a st.stands due in
    grind (arith, due_takes, ended, items-after, last_same, count_writes_bits)

-- the reader has read the event
pub has_read :
    (shape : Shape) (old new : TakeReading) (e : Event) (reply : Option TakeReply) →
    ((es : List Event) (items : List ℕ) → TakesStand shape old es items → TakesStand shape new (es ++ e ∷ []) (items ++ replied reply new.consumer.items)) →
    HasReadTake shape old new e (step_by reply)
has_read shape old new e reply on = grind (arith, append-nil)
