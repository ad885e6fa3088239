use Rattle.std.proofs.Common.{Option, sym, subst}
use Rattle.ring_seats.specs.Ring.{RingEnd}
use Rattle.ring_c.specs.Calls.{PutsAllBy, PutsAllOr}
use Rattle.ring_c.proofs.puts.ring_put_all.Goals as goal

pub returns : goal.returns
returns c =
    let code = c.put_all_by-code.result in
    let P : Option RingEnd → Type 0 = λ o. PutsAllBy o c.keep.new.self.slot.value c.args.items.now code.0 code.1 in
    let Q : RingEnd → Type 0 = λ a. PutsAllOr a c.put_all_by-code.new.end c.args.items.now code.0 code.1 in
    subst P (sym c.in-Some.ensures.some) (_, c.keep.ensures, subst Q c.deref_mut.ensures.value c.put_all_by-code.ensures)
