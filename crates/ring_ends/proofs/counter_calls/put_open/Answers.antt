use Rattle.std.proofs.Common.{◌≡◌, ℕ, ◌+◌, ◌%◌, take, arith, sym, subst, ap, ◌∙◌}
use Rattle.ring_ends.proofs.Common.{Shape, same_shape}
use Rattle.bits_core.specs.Shape.{AllFit, capacity_of, modulus_of}
use Rattle.bits_core.proofs.Fitting.{AllFit-take}
use Rattle.ring_ends.proofs.CounterPutterCalls.{Fitting, kept, kept_full, to_scan, full_put, to_store, to_count, stored_put}
use Rattle.ring_ends.proofs.counter_calls.put_open.Goals.{After-fitting-most}
use Rattle.ring_ends.proofs.counter_calls.put_open.Goals as goal

shape_is : (c : After-fitting-most) → c.shape-shape.result ≡ c.args.stepper.now.ring.shape
shape_is c = c.shape-shape.ensures

-- as many are stored as fit
fit : (c : After-fitting-most) → Fitting c.args.stepper.now.ring.shape c.args.count.now c.scan-seen.result c.args.items.now c.fitting-most.result
fit c = grind arith

pub scan-seen-requires : goal.scan-seen-requires
scan-seen-requires c = record { program = to_scan c.args.stepper.now c.args.count.now c.args.cell.now c.args.items.now c.requires.at.0 c.requires.at.1 c.requires.at.2 c.requires.batch }

pub returns-then-most-eq0 : goal.returns-then-most-eq0
returns-then-most-eq0 c =
    let a = c.args.stepper.now in
    let t = (goal.at.returns-then-most-eq0 c).After-fitting-most in
    λ calls at opened. kept_full a c.scan-seen.new.self c.args.count.now c.args.cell.now c.args.items.now calls at
    (full_put a c.args.count.now c.args.cell.now c.args.items.now calls at opened c.requires.batch c.scan-seen.result c.scan-seen.ensures.below c.scan-seen.new.self c.scan-seen.ensures.grows c.fitting-most.result (fit t) c.if-most-eq0.true)

pub write_items-requires-clause-fit : goal.write_items-requires-clause-fit
write_items-requires-clause-fit c =
    subst (λ (s : Shape). AllFit s (take c.fitting-most.result c.args.items.now)) (sym (same_shape c.args.stepper.now c.scan-seen.new.self c.scan-seen.ensures.grows.same)) (AllFit-take c.args.stepper.now.ring.shape c.fitting-most.result c.args.items.now c.requires.batch.fit)

pub write_items-requires-clause-program : goal.write_items-requires-clause-program
write_items-requires-clause-program c =
    let a = c.args.stepper.now in
    let t = (goal.at.write_items-requires-clause-program c).After-fitting-most in
    to_store a c.args.count.now c.args.cell.now c.args.items.now c.requires.at.0 c.requires.at.1 c.requires.at.2 c.requires.batch c.scan-seen.result c.scan-seen.ensures.below c.scan-seen.new.self c.scan-seen.ensures.grows c.fitting-most.result (fit t) (omega (arith, c.if-most-eq0.false))

pub write_count-requires-clause-program : goal.write_count-requires-clause-program
write_count-requires-clause-program c =
    let a = c.args.stepper.now in
    let t = (goal.at.write_count-requires-clause-program c).After-fitting-most in
    to_count a c.args.count.now c.args.cell.now c.args.items.now c.requires.at.0 c.requires.at.1 c.requires.at.2 c.requires.batch c.scan-seen.result c.scan-seen.ensures.below c.scan-seen.new.self c.scan-seen.ensures.grows c.fitting-most.result (fit t) (omega (arith, c.if-most-eq0.false))
    c.write_items.new.self c.write_items.ensures c.past_in.result (c.past_in.ensures ∙ ap (λ (m : ℕ). (c.args.count.now + c.fitting-most.result) % m) (c.modulus.ensures.value ∙ ap modulus_of (shape_is t)))

pub returns : goal.returns
returns c =
    let a = c.args.stepper.now in
    let t = (goal.at.returns c).After-fitting-most in
    let next = c.past_in.ensures ∙ ap (λ (m : ℕ). (c.args.count.now + c.fitting-most.result) % m) (c.modulus.ensures.value ∙ ap modulus_of (shape_is t)) in
    λ calls at opened. kept a c.write_count.new.self c.args.count.now c.args.cell.now c.args.items.now calls c.fitting-most.result at
    (stored_put a c.args.count.now c.args.cell.now c.args.items.now calls at opened c.requires.batch c.scan-seen.result c.scan-seen.ensures.below c.scan-seen.new.self c.scan-seen.ensures.grows c.fitting-most.result (fit t) (omega (arith, c.if-most-eq0.false))
    c.write_items.new.self c.write_items.ensures c.past_in.result next c.write_count.new.self c.write_count.ensures)
    c.past_in.result c.past_in-2.result next (c.past_in-2.ensures ∙ ap (λ (m : ℕ). (c.args.cell.now + c.fitting-most.result) % m) (c.capacity.ensures.value ∙ ap capacity_of (shape_is t)))
