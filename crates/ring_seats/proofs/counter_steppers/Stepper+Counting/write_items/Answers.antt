use Rattle.std.proofs.Common.{rules, ◌≡◌, refl, ℕ, suc, ◌+◌, ◌%◌, arith, subst, ap, ◌∙◌, take}
use Rattle.std.proofs.lemmas.Nat.{mod_below}
use Rattle.ring_seats.proofs.Common.{capacity_of, words_phrase, GrowsBy}
use Rattle.ring_seats.proofs.CounterPuts.{fit_at}
use Rattle.ring_seats.proofs.CounterSteps.{same_shape, next_store, stored_one, next_place}
use Rattle.ring_seats.proofs.counter_steppers.Stepper+Counting.write_items.Goals as goal

pub write_cell-requires-clause-below : goal.write_cell-requires-clause-below
write_cell-requires-clause-below c = grind (arith, fit_at, mod_below, same_shape)

pub write_cell-requires-clause-program : goal.write_cell-requires-clause-program
write_cell-requires-clause-program c = search (rules, next_store)

pub stores-preserved : goal.stores-preserved
stores-preserved c =
    let a = c.args.self.now in
    let i = c.stores.invariant in
    let grows = stored_one a c.args.cell c.args.items.now c.requires.stands.1 c.stores.self c.stores.index c.stores.place i.0 c.stores-test.true i.2 c.write_cell.new.self c.write_cell.ensures in
    let plus : suc c.stores.index ≡ c.stores.index + 1 = omega arith in
    let one : c.stores.place + 1 ≡ suc c.stores.place = omega arith in
    let next = c.past_in-place.ensures ∙ (λ j. one j % i.5 j) in (
      subst (λ (n : ℕ). GrowsBy a c.write_cell.new.self (words_phrase a.ring.shape c.args.cell (take n c.args.items.now))) plus grows,
      omega (arith, c.stores-test.true),
      next_place c.args.cell c.stores.index c.stores.place c.past_in-place.result (capacity_of a.ring.shape) i.2 next ∙ ap (λ (n : ℕ). (c.args.cell + n) % capacity_of a.ring.shape) plus,
      refl,
      refl,
      i.5,
    )
