use Rattle.std.proofs.Common.{◌≡◌, ℕ, ◌+◌, ◌%◌, List, [], ◌∷◌, ◌++◌, refl, subst, ap, ◌∙◌}
use Rattle.ring_ends.proofs.Common.{C, capacity_of, modulus_of, Made, events_of, Follows, same_shape}
use Rattle.ring_ends.proofs.CounterTakerCalls.{cell_below, one_word, one_read, to_read, to_count, fetched, kept_take}
use Rattle.ring_ends.proofs.counter_calls.fetch.Goals as goal

pub read_cell-item-requires-clause-program : goal.read_cell-item-requires-clause-program
read_cell-item-requires-clause-program c item fits =
    let r = c.requires.at in
    let b = c.args.stepper.now in
    let below = cell_below r.0 b c.args.count.now c.args.cell.now r.1 1 1 r.2 in
    subst (λ (l : List Made). Follows b.ring.shape C (b.list ++ events_of C l)) (one_word b.ring.shape c.args.cell.now item below)
    (to_read r.0 b c.args.count.now c.args.cell.now r.1 1 1 r.2 (item ∷ []) refl (fits, tt))

pub write_count-requires-clause-program : goal.write_count-requires-clause-program
write_count-requires-clause-program c =
    let r = c.requires.at in
    let b = c.args.stepper.now in
    let shape : c.shape-shape.result ≡ r.0.ring.shape = c.shape-shape.ensures ∙ (same_shape r.0 b r.2.found.same) in
    let below = cell_below r.0 b c.args.count.now c.args.cell.now r.1 1 1 r.2 in
    to_count r.0 b c.args.count.now c.args.cell.now r.1 1 1 r.2 (c.read_cell-item.result ∷ []) refl (c.read_cell-item.ensures.fits, tt) c.read_cell-item.new.self
    (one_read b c.read_cell-item.new.self c.args.cell.now c.read_cell-item.result below c.read_cell-item.ensures.grows) c.past_in.result (c.past_in.ensures ∙ ap (λ (n : ℕ). (c.args.count.now + 1) % n) (c.modulus.ensures.value ∙ ap modulus_of shape))

pub returns : goal.returns
returns c before calls l =
    let b = c.args.stepper.now in
    let shape : c.shape-shape.result ≡ before.ring.shape = c.shape-shape.ensures ∙ (same_shape before b l.found.same) in
    let next = c.past_in.ensures ∙ ap (λ (n : ℕ). (c.args.count.now + 1) % n) (c.modulus.ensures.value ∙ ap modulus_of shape) in
    let item = c.read_cell-item.result in
    let below = cell_below before b c.args.count.now c.args.cell.now calls 1 1 l in
    kept_take before c.write_count.new.self c.args.count.now c.args.cell.now calls 1 _ (item ∷ []) l.at
    (fetched before b c.args.count.now c.args.cell.now calls 1 1 l (item ∷ []) refl (c.read_cell-item.ensures.fits, tt) c.read_cell-item.new.self (one_read b c.read_cell-item.new.self c.args.cell.now c.read_cell-item.result below c.read_cell-item.ensures.grows)
    c.past_in.result next c.write_count.new.self c.write_count.ensures)
    c.past_in.result c.past_in-2.result next (c.past_in-2.ensures ∙ ap (λ (n : ℕ). (c.args.cell.now + 1) % n) (c.capacity.ensures.value ∙ ap capacity_of shape))
