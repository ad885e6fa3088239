use Rattle.std.proofs.Common.{Option, sym, subst}
use Rattle.ring_seats.specs.Ring.{RingEnd}
use Rattle.ring_c.specs.Calls.{TakesAllBy, TakesAllOr}
use Rattle.ring_c.proofs.takes.ring_take_all.Goals as goal

pub returns : goal.returns
returns c =
    let code = c.take_all_by-code.result in
    let into = c.take_all_by-code.new.into in
    let P : Option RingEnd → Type 0 = λ o. TakesAllBy o c.keep.new.self.slot.value code.0 c.args.into.now into code.1 in
    let Q : RingEnd → Type 0 = λ a. TakesAllOr a c.take_all_by-code.new.end code.0 c.args.into.now into code.1 in
    subst P (sym c.in-Some.ensures.some) (_, c.keep.ensures, subst Q c.deref_mut.ensures.value c.take_all_by-code.ensures)
