use Rattle.std.proofs.Common.{◌≡◌, inr, length, refl, subst}
use Rattle.queue_calls.specs.Rooms.{AreTooShort, Rooms}
use Rattle.ring_page.specs.Calls.{slots_for}
use Rattle.ring_page.proofs.calls.page_calls.Goals as goal

pub returns-in-Err : goal.returns-in-Err
returns-in-Err c =
    let a = c.args in
    let lent : Rooms = slots_for (length c.new.result.slots.now) (length c.new-2.result.slots.now) (length c.new-3.result.slots.now) (length c.new-4.result.slots.now) in
    let same : lent ≡ slots_for (length a.offered.now) (length a.taken.now) (length a.numbers.now) (length a.bytes.now) =
    λ i. slots_for (length (c.new.ensures.slots i)) (length (c.new-2.ensures.slots i)) (length (c.new-3.ensures.slots i)) (length (c.new-4.ensures.slots i)) in
    inr (c.in-Err.fault, c.in-Err.ensures.refused, λ short. subst (λ r. AreTooShort r a.text.now) same (c.in-Err.ensures.full short), refl, c.told_refusal.ensures)
