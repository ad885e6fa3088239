use Rattle.std.proofs.Common.{rules, ◌≡◌, ◌+◌, ◌%◌, length, ap, ◌∙◌}
use Rattle.ring_ends.proofs.Common.{capacity_of, modulus_of, items_reply, same_shape}
use Rattle.ring_ends.proofs.CounterTakerCalls.{to_read, to_count, fetched, kept_take}
use Rattle.ring_ends.proofs.counter_calls.fetch_all.Goals as goal

pub read_items-requires-clause-program : goal.read_items-requires-clause-program
read_items-requires-clause-program c items long fits = search (rules, to_read)

pub write_count-requires-clause-program : goal.write_count-requires-clause-program
write_count-requires-clause-program c =
    let r = c.requires.at in
    let b = c.args.stepper.now in
    let shape : c.shape-shape.result ≡ r.0.ring.shape = c.shape-shape.ensures ∙ (same_shape r.0 b r.3.found.same) in
    let e = c.read_items.ensures in
    to_count r.0 b c.args.count.now c.args.cell.now r.1 r.2 (length c.args.into.now) r.3 c.read_items.new.into e.long e.fit c.read_items.new.self e.grows
    c.past_in.result (c.past_in.ensures ∙ λ i. (c.args.count.now + e.long i) % (c.modulus.ensures.value ∙ ap modulus_of shape) i)

pub returns-clause-kept : goal.returns-clause-kept
returns-clause-kept c before calls wanted l =
    let b = c.args.stepper.now in
    let shape : c.shape-shape.result ≡ before.ring.shape = c.shape-shape.ensures ∙ (same_shape before b l.found.same) in
    let e = c.read_items.ensures in
    let items = c.read_items.new.into in
    kept_take before c.write_count.new.self c.args.count.now c.args.cell.now calls wanted (items_reply items) items l.at
    (fetched before b c.args.count.now c.args.cell.now calls wanted (length c.args.into.now) l items e.long e.fit c.read_items.new.self e.grows
    c.past_in.result (c.past_in.ensures ∙ λ i. (c.args.count.now + e.long i) % (c.modulus.ensures.value ∙ ap modulus_of shape) i) c.write_count.new.self c.write_count.ensures)
    c.past_in.result c.past_in-2.result (c.past_in.ensures ∙ λ i. (c.args.count.now + length items) % (c.modulus.ensures.value ∙ ap modulus_of shape) i)
    (c.past_in-2.ensures ∙ λ i. (c.args.cell.now + length items) % (c.capacity.ensures.value ∙ ap capacity_of shape) i)
