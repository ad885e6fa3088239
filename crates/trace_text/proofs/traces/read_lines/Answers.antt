use Rattle.std.proofs.Common.{◌≡◌, ℕ, ◌++◌, ◌∷◌, [], true, List, length, inr, refl, ap, subst, sym, ◌∙◌, append-nil, arith, rules}
use Rattle.trace_text.proofs.Common.{◌==◌, eqb-true, Event, Shape, AreOfShape, batch_of, capacity_of, modulus_of, take_batch_of, width_of, shape_line, trace_text}
use Rattle.trace_text.specs.Trace.{BeginsWithShape, HasMore}
use Rattle.trace_text.proofs.TraceLemmas.{AreOfShape-push, length-push, line_takes, text_more}
use Rattle.trace_text.proofs.traces.read_lines.Goals as goal

no_events : (shape : Shape) (bytes rest : List ℕ) → BeginsWithShape bytes shape rest → bytes ≡ trace_text shape [] ++ rest
no_events shape bytes rest begins = begins ∙ ap (λ (t : List ℕ). t ++ rest) (sym (append-nil (shape_line (capacity_of shape) (modulus_of shape) (width_of shape) (batch_of shape) (take_batch_of shape))))

no_bytes : (rest : List ℕ) → true ≡ (length rest == 0) → rest ≡ []
no_bytes [] is = refl
no_bytes (b ∷ rest) is = let some : length (b ∷ rest) ≡ 0 = eqb-true (length (b ∷ rest)) 0 (sym is) in absurd (omega arith)

pub loop-rest-init : goal.loop-rest-init
loop-rest-init g c = grind (arith, no_events)

pub loop-rest-smaller : goal.loop-rest-smaller
loop-rest-smaller g c = omega (arith, line_takes c.in-Some.event c.in-Some.others.now, ap length c.in-Some.ensures.1)

pub overflow_add-result : goal.overflow_add-result
overflow_add-result g c = omega (arith, c.loop-rest.invariant.within, ap length c.as_slice-count.ensures)

pub returns-clause-read : goal.returns-clause-read
returns-clause-read g c = grind (arith, append-nil, no_bytes)

pub returns-then-count-eq-EVENT_LIMIT-clause-refused : goal.returns-then-count-eq-EVENT_LIMIT-clause-refused
returns-then-count-eq-EVENT_LIMIT-clause-refused g c =
    let l = c.loop-rest.invariant in
    let events : List Event = g.S.Store.items c.loop-rest.store in
    inr (record {
      shape = c.in_ok-shape.shape;
      events = events;
      rest = c.loop-rest.rest.now;
      goes_on = grind (arith, c.loop-rest-test.ensures);
      full = omega (arith, ap length c.as_slice-count.ensures, c.if-count-eq-EVENT_LIMIT.true);
    })

pub returns-in_default-clause-refused : goal.returns-in_default-clause-refused
returns-in_default-clause-refused g c =
    let l = c.loop-rest.invariant in
    let events : List Event = g.S.Store.items c.loop-rest.store in
    inr (inr (record {
      shape = c.in_ok-shape.shape;
      events = events;
      rest = c.loop-rest.rest.now;
      goes_on = grind (arith, c.loop-rest-test.ensures);
      room = omega (arith, l.within, ap length c.as_slice-count.ensures, c.if-count-eq-EVENT_LIMIT.false);
      no_event = c.in_default.ensures;
      number = omega (arith, ap length c.as_slice-count.ensures);
    }))

pub returns-in_err-reserve-clause-refused : goal.returns-in_err-reserve-clause-refused
returns-in_err-reserve-clause-refused g c =
    let l = c.loop-rest.invariant in
    let before : List Event = g.S.Store.items c.loop-rest.store in
    let shape = c.in_ok-shape.shape in
    let e : Event = c.in-Some.event in
    let same : before ≡ g.S.Store.items c.reserve.new.self = sym c.in_err-reserve.ensures.items in
    let more : HasMore c.args.bytes.now (g.S.Store.items c.reserve.new.self) = subst (λ (t : List Event). HasMore c.args.bytes.now t) same (record {
      shape = shape;
      next = e;
      rest = c.in-Some.others.now;
      text = text_more shape before e c.args.bytes.now c.loop-rest.rest.now c.in-Some.others.now l.text c.in-Some.ensures.1;
      of_shape = AreOfShape-push shape before e l.of_shape c.in-Some.ensures.0;
      within = omega (arith, l.within, length-push before e, ap length c.as_slice-count.ensures, c.if-count-eq-EVENT_LIMIT.false);
    }) in
    let refuses = c.in_err-reserve.ensures.refused in
    search rules

pub loop-rest-preserved : goal.loop-rest-preserved
loop-rest-preserved g c =
    let l = c.loop-rest.invariant in
    let events : List Event = g.S.Store.items c.loop-rest.store in
    let shape = c.in_ok-shape.shape in
    let e : Event = c.in-Some.event in
    let after : List Event = g.S.Store.items c.add.new.self in
    let items : events ++ e ∷ [] ≡ after = sym (c.add.ensures.items ∙ ap (λ (t : List Event). t ++ e ∷ []) c.in_ok-reserve.ensures.items) in
    record {
      text = subst (λ (t : List Event). c.args.bytes.now ≡ trace_text shape t ++ c.in-Some.others.now) items (text_more shape events e c.args.bytes.now c.loop-rest.rest.now c.in-Some.others.now l.text c.in-Some.ensures.1);
      of_shape = subst (λ (t : List Event). AreOfShape shape t) items (AreOfShape-push shape events e l.of_shape c.in-Some.ensures.0);
      within = omega (arith, l.within, ap length items, length-push events e, ap length c.as_slice-count.ensures, c.if-count-eq-EVENT_LIMIT.false);
      slots = λ first s. c.add.ensures.slots first (c.in_ok-reserve.ensures.slots first (l.slots first s));
    }
