-- A history whose two sides follow their programs, and one more event.
use Rattle.std.proofs.Common.{◌≡◌, List, [], ◌∷◌, ◌++◌, if◌then◌else◌, ap, ◌∙◌, sym, subst}
use Rattle.ring_core.proofs.Common.{Side, P, C, same_side, events_of, subhistory, IsPrefix, put_program, take_program}
use Rattle.bits_core.specs.declared.events.Event.{Event}
use Rattle.ring_core.specs.RunLaws.{RunsByPut, RunsByTake}
use Rattle.bits_core.proofs.LawLemmas.{lawful_by_one_more, subhistory_changes}

-- a side's own events with one more event, which is of that side or of the other
pub own_more :
    (s t : Side) (h : List Event) (e : Event) → e.side ≡ t →
    subhistory s (h ++ e ∷ []) ≡ (if same_side s t then subhistory s h ++ e ∷ [] else subhistory s h)
own_more s t h e by = subhistory_changes s h e ∙ ap (λ (u : Side). if same_side s u then subhistory s h ++ e ∷ [] else subhistory s h) by

-- one more event of the producer
pub runs-by_put : RunsByPut
runs-by_put shape h e puts more takes run by may are events = record {
  lawful = (lawful_by_one_more shape h e).1 (run.lawful, may);
  puts_follow = record {
    are = are;
    events = subst (λ (es : List Event). IsPrefix es (events_of P (put_program shape more))) (sym (own_more P P h e by)) events;
  };
  takes_follow = record {
    are = run.takes_follow.are;
    events = subst (λ (es : List Event). IsPrefix es (events_of C (take_program shape takes))) (sym (own_more C P h e by)) run.takes_follow.events;
  };
}

-- one more event of the consumer
pub runs-by_take : RunsByTake
runs-by_take shape h e puts takes more run by may are events = record {
  lawful = (lawful_by_one_more shape h e).1 (run.lawful, may);
  puts_follow = record {
    are = run.puts_follow.are;
    events = subst (λ (es : List Event). IsPrefix es (events_of P (put_program shape puts))) (sym (own_more P C h e by)) run.puts_follow.events;
  };
  takes_follow = record {
    are = are;
    events = subst (λ (es : List Event). IsPrefix es (events_of C (take_program shape more))) (sym (own_more C C h e by)) events;
  };
}
