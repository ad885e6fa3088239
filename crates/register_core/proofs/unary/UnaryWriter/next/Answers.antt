-- If the value's bit is set, the writer clears below the place, or is done.
use Rattle.std.proofs.Common.{Some, None, ap, sym, ◌∙◌}
use Rattle.register_core.proofs.Common.{row_bit, UnaryState, first_access}
use Rattle.register_core.proofs.Due.{due-sets, due-clears, due-none}
use Rattle.register_core.proofs.Stands.{next-stands}
use Rattle.register_core.proofs.unary.UnaryWriter.next.Goals as goal

pub returns-then-not-self-clause-due : goal.returns-then-not-self-clause-due
returns-then-not-self-clause-due c =
    let w : UnaryState = record { side = c.self.inside.side; modulus = c.self.inside.modulus; bits = c.self.inside.bits; value = c.self.inside.value } in
    rw (← c.self.view_is) (ap Some c.write_to.ensures ∙ sym (ap (first_access (row_bit w.side)) (due-sets w c.if-not-self.true)))

pub returns-then-self-gt0-clause-due : goal.returns-then-self-gt0-clause-due
returns-then-self-gt0-clause-due c =
    let w : UnaryState = record { side = c.self.inside.side; modulus = c.self.inside.modulus; bits = c.self.inside.bits; value = c.self.inside.value } in
    rw (← c.self.view_is)
    (ap Some c.write_to-then-self-gt0.ensures ∙ sym (ap (first_access (row_bit w.side)) (due-clears w c.self.inside.place c.self.invariant c.if-not-self.false c.if-self-gt0.true)))

pub returns-else-self-gt0-clause-due : goal.returns-else-self-gt0-clause-due
returns-else-self-gt0-clause-due c =
    let w : UnaryState = record { side = c.self.inside.side; modulus = c.self.inside.modulus; bits = c.self.inside.bits; value = c.self.inside.value } in
    rw (← c.self.view_is) (sym (ap (first_access (row_bit w.side)) (due-none w c.self.inside.place c.self.invariant c.if-not-self.false c.if-self-gt0.false)))

pub returns-then-not-self-clause-stands : goal.returns-then-not-self-clause-stands
returns-then-not-self-clause-stands c = next-stands c.args.self.now (Some c.write_to.result) (returns-then-not-self-clause-due c)

pub returns-then-self-gt0-clause-stands : goal.returns-then-self-gt0-clause-stands
returns-then-self-gt0-clause-stands c = next-stands c.args.self.now (Some c.write_to-then-self-gt0.result) (returns-then-self-gt0-clause-due c)

pub returns-else-self-gt0-clause-stands : goal.returns-else-self-gt0-clause-stands
returns-else-self-gt0-clause-stands c = next-stands c.args.self.now None (returns-else-self-gt0-clause-due c)
