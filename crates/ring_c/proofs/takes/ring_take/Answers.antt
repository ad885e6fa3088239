use Rattle.std.proofs.Common.{Option, sym, subst}
use Rattle.ring_seats.specs.Ring.{RingEnd}
use Rattle.ring_c.specs.Calls.{TakesBy, TakesAs}
use Rattle.ring_c.proofs.takes.ring_take.Goals as goal

pub returns : goal.returns
returns c =
    let code = c.take_by-code.result in
    let P : Option RingEnd → Type 0 = λ o. TakesBy o c.keep.new.self.slot.value code.0 c.args.item.now code.1 in
    let Q : RingEnd → Type 0 = λ a. TakesAs a c.take_by-code.new.end code.0 c.args.item.now code.1 in
    subst P (sym c.in-Some.ensures.some) (_, c.keep.ensures, subst Q c.deref_mut.ensures.value c.take_by-code.ensures)
