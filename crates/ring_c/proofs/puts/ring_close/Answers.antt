use Rattle.std.proofs.Common.{Option, true, refl, sym, subst}
use Rattle.ring_seats.specs.Ring.{RingEnd}
use Rattle.ring_c.specs.Calls.{ClosesAs, ClosesBy}
use Rattle.ring_c.proofs.puts.ring_close.Goals as goal

pub returns : goal.returns
returns c =
    let P : Option RingEnd → Type 0 = λ o. ClosesBy o c.keep.new.self.slot.value true in
    let Q : RingEnd → Type 0 = λ a. ClosesAs a c.close.new.self in
    let closes : ClosesAs c.deref_mut.result.now c.close.new.self = record { same = c.close.ensures.same; lawful = c.close.ensures.lawful; phrase = c.close.ensures.phrase; queue = c.close.ensures.stored } in
    subst P (sym c.in-Some.ensures.some) (_, c.keep.ensures, subst Q c.deref_mut.ensures.value closes, refl)
