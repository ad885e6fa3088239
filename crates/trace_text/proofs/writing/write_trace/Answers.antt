use Rattle.std.proofs.Common.{◌≡◌, ℕ, ◌+◌, ◌<◌, ◌++◌, List, length, get_or, take, ap, ◌∙◌, append-nil, arith}
use Rattle.std.proofs.lemmas.List.{flat_map_more, take_all, take_more}
use Rattle.trace_text.proofs.Common.{Event, Shape, event_line, trace_text}
use Rattle.trace_text.proofs.writing.write_trace.Goals as goal

pub returns-clause-text : goal.returns-clause-text
returns-clause-text g c = grind (arith, take_all)

pub returns-clause-again : goal.returns-clause-again
returns-clause-again g c few =
    let all : take c.loop-event.event-index c.args.events.now ≡ c.args.events.now = take_all _ _ (omega arith) in
    record {
      text = c.loop-event.invariant ∙ ap (λ (t : List Event). trace_text c.args.shape.now t) all;
      of_shape = c.requires.of_shape;
      within = few;
    }

text_pushed : (shape : Shape) (events : List Event) (k : ℕ) (d : Event) (before after : List ℕ) → k < length events → before ≡ trace_text shape (take k events) → after ≡ before ++ event_line (get_or events k d)
    → after ≡ trace_text shape (take (k + 1) events)
text_pushed shape events k d before after below so_far pushed = grind (arith, (take_more events k d below), flat_map_more)

pub loop-event-init : goal.loop-event-init
loop-event-init g c = grind (arith, append-nil)

pub loop-event-preserved : goal.loop-event-preserved
loop-event-preserved g c = grind (arith, (text_pushed c.args.shape.now c.args.events.now c.loop-event.event-index _ _ _ (omega arith) c.loop-event.invariant c.in_ok-push_event.ensures.ok), c.args.events.now, c.args.shape.now, c.in_ok-push_event.ensures.ok, c.loop-event.event-index, c.loop-event.invariant)
