use Rattle.std.proofs.Common.{Option, sym, subst}
use Rattle.ring_seats.specs.Ring.{RingEnd}
use Rattle.ring_c.specs.Calls.{PutsBy, PutsOr}
use Rattle.ring_c.proofs.puts.ring_put.Goals as goal

pub returns : goal.returns
returns c =
    let P : Option RingEnd → Type 0 = λ o. PutsBy o c.keep.new.self.slot.value c.args.item c.put_by-code.result in
    let Q : RingEnd → Type 0 = λ a. PutsOr a c.put_by-code.new.end c.args.item c.put_by-code.result in
    subst P (sym c.in-Some.ensures.some) (_, c.keep.ensures, subst Q c.deref_mut.ensures.value c.put_by-code.ensures)
