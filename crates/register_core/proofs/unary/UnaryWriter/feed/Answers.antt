-- If the value's bit is set, the due write clears the bit below the place.
use Rattle.std.proofs.Common.{◌≡◌, None, [], ◌<◌, length, arith, subst, sym, ap}
use Rattle.register_core.specs.Row.{row_bit}
use Rattle.register_core.specs.UnaryState.{UnaryState, due_writes, due_unary, first_access}
use Rattle.register_core.proofs.Due.{due-place, fed-clears, fed-sets}
use Rattle.register_core.proofs.Stands.{feed-stands, feed-left}
use Rattle.register_core.proofs.unary.UnaryWriter.feed.Goals as goal

some_due : (w : UnaryState) → (due_unary w ≡ None → ⊥) → due_writes w ≡ [] → ⊥
some_due w due none = due (ap (first_access (row_bit w.side)) none)

pub overflow_sub-self : goal.overflow_sub-self
overflow_sub-self c =
    let w : UnaryState = record { side = c.self.inside.side; modulus = c.self.inside.modulus; bits = c.self.inside.bits; value = c.self.inside.value } in
    due-place w c.self.inside.place c.self.invariant c.if-not-self.false (some_due w (rw (← c.self.view_is) at c.requires))

pub overflow_sub-self-inside : goal.overflow_sub-self-inside
overflow_sub-self-inside c =
    let w : UnaryState = record { side = c.self.inside.side; modulus = c.self.inside.modulus; bits = c.self.inside.bits; value = c.self.inside.value } in
    due-place w c.self.inside.place c.self.invariant c.if-not-self.false (some_due w (rw (← c.self.view_is) at c.requires))

pub returns-else-not-self-clause-state : goal.returns-else-not-self-clause-state
returns-else-not-self-clause-state c =
    let w : UnaryState = record { side = c.self.inside.side; modulus = c.self.inside.modulus; bits = c.self.inside.bits; value = c.self.inside.value } in
    let some = due-place w c.self.inside.place c.self.invariant c.if-not-self.false (some_due w (rw (← c.self.view_is) at c.requires)) in
    rw (← c.self.view_is) (sym (fed-clears w c.self.inside.place c.self.invariant c.if-not-self.false some))

pub returns-then-not-self-clause-state : goal.returns-then-not-self-clause-state
returns-then-not-self-clause-state c =
    let w : UnaryState = record { side = c.self.inside.side; modulus = c.self.inside.modulus; bits = c.self.inside.bits; value = c.self.inside.value } in
    rw (← c.self.view_is) (sym (fed-sets w c.if-not-self.true))

pub returns-then-not-self-clause-stands : goal.returns-then-not-self-clause-stands
returns-then-not-self-clause-stands c = feed-stands c.args.self.now _ (returns-then-not-self-clause-state c) c.args.answer

pub returns-else-not-self-clause-stands : goal.returns-else-not-self-clause-stands
returns-else-not-self-clause-stands c = feed-stands c.args.self.now _ (returns-else-not-self-clause-state c) c.args.answer

pub returns-then-not-self-clause-left : goal.returns-then-not-self-clause-left
returns-then-not-self-clause-left c =
    let within : c.self.inside.value < length c.self.inside.bits = omega (arith, c.self.invariant.below, c.self.invariant.fits, c.self.told) in
    feed-left c.args.self.now _ (subst (λ (u : UnaryState). u.value < length u.bits) c.self.view_is within) (returns-then-not-self-clause-state c)

pub returns-else-not-self-clause-left : goal.returns-else-not-self-clause-left
returns-else-not-self-clause-left c =
    let within : c.self.inside.value < length c.self.inside.bits = omega (arith, c.self.invariant.below, c.self.invariant.fits, c.self.told) in
    feed-left c.args.self.now _ (subst (λ (u : UnaryState). u.value < length u.bits) c.self.view_is within) (returns-else-not-self-clause-state c)
