-- A moment of a run: what comes after it, and the state of an auditor of the recorded calls there.
use Rattle.std.proofs.Common.{◌≡◌, ◌⊎◌, ℕ, suc, ◌+◌, ◌<◌, ◌≤◌, true, List, [], ◌∷◌, ◌++◌, length, sym, ap, subst, arith, length-append}
use Rattle.queue_calls.specs.Queue.{Capacity, exactly}
use Rattle.queue_calls.specs.Calls as calls
use Rattle.queue_calls.specs.Counting.{Kept, Counts, AreCounted}
use Rattle.ring_core.proofs.Common.{Side, P, C, Shape, capacity_of, same_side, subhistory, clock, IsPlaceOf, IsPrefix, first_count, Puts, put_phrases, close_phrase, put_program, FollowsPuts, Takes}
use Rattle.ring_core.proofs.Common.{take_program, events_in, subhistory_has_place}
use Rattle.bits_core.specs.declared.events.Event.{Event}
use Rattle.ring_core.proofs.OverSpans.Spans.{counts_begun, begun_items, ended_items}
use Rattle.ring_core.proofs.OverSpans.LookSpans.{put_spans, take_spans}
use Rattle.ring_core.proofs.OverSpans.Looks.{puts_items, takes_items}
use Rattle.ring_core.proofs.OverSpans.RingOfSpans.{LawOfSpans}
use Rattle.ring_core.proofs.Machines.Following.{length-events}
use Rattle.ring_core.proofs.HistoryClocks.{clock-yes, clock-no, clock-zero}
use Rattle.ring_core.proofs.OwnEvents.{one_place, clock_within}
use Rattle.ring_core.proofs.Recorded.RecordedStates.{before_close, PutAt, TakeAt}

-- ---- the clocks

-- after p events of the producer and q of the consumer, at place t, the rest of the history follows
pub record Moment (h : List Event) (t p q : ℕ) (rest : List Event) : Type 0 where
  pub puts : (j : ℕ) → clock P h (t + j) ≡ p + clock P rest j
  pub takes : (j : ℕ) → clock C h (t + j) ≡ q + clock C rest j

pub at_p : (h : List Event) (t p q : ℕ) (rest : List Event) → Moment h t p q rest → clock P h t ≡ p
at_p h t p q rest m =
    let e : t + 0 ≡ t = omega arith in
    omega (arith, m.puts 0, ap (clock P h) e, clock-zero P rest)

pub at_q : (h : List Event) (t p q : ℕ) (rest : List Event) → Moment h t p q rest → clock C h t ≡ q
at_q h t p q rest m =
    let e : t + 0 ≡ t = omega arith in
    omega (arith, m.takes 0, ap (clock C h) e, clock-zero C rest)

pub past_p : (h : List Event) (t p q : ℕ) (e : Event) (rest : List Event) → e.side ≡ P → Moment h t p q (e ∷ rest) → Moment h (suc t) (suc p) q rest
past_p h t p q e rest by m = record {
  puts = λ j. (let on : suc t + j ≡ t + suc j = omega arith in omega (arith, ap (clock P h) on, m.puts (suc j), clock-yes P e rest j (ap (same_side P) by)));
  takes = λ j. (let on : suc t + j ≡ t + suc j = omega arith in omega (arith, ap (clock C h) on, m.takes (suc j), clock-no C e rest j (ap (same_side C) by)));
}

pub past_q : (h : List Event) (t p q : ℕ) (e : Event) (rest : List Event) → e.side ≡ C → Moment h t p q (e ∷ rest) → Moment h (suc t) p (suc q) rest
past_q h t p q e rest by m = record {
  puts = λ j. (let on : suc t + j ≡ t + suc j = omega arith in omega (arith, ap (clock P h) on, m.puts (suc j), clock-no P e rest j (ap (same_side P) by)));
  takes = λ j. (let on : suc t + j ≡ t + suc j = omega arith in omega (arith, ap (clock C h) on, m.takes (suc j), clock-yes C e rest j (ap (same_side C) by)));
}

-- the next event is one of the side's own
pub next_p : (h : List Event) (t p q : ℕ) (e : Event) (rest : List Event) → e.side ≡ P → Moment h t p q (e ∷ rest) → p < length (subhistory P h)
next_p h t p q e rest by m = omega (arith, at_p h (suc t) (suc p) q rest (past_p h t p q e rest by m), clock_within P h (suc t))

pub next_q : (h : List Event) (t p q : ℕ) (e : Event) (rest : List Event) → e.side ≡ C → Moment h t p q (e ∷ rest) → q < length (subhistory C h)
next_q h t p q e rest by m = omega (arith, at_q h (suc t) p (suc q) rest (past_q h t p q e rest by m), clock_within C h (suc t))

-- and is there
pub place_here : (s : Side) (h : List Event) (t i : ℕ) → clock s h t ≡ i → clock s h (suc t) ≡ suc i → IsPlaceOf s h i t
place_here s h t i here past = grind (arith, one_place s h i t (here, past), subhistory_has_place s h i (omega (arith, past, clock_within s h (suc t))), clock_within s h (suc t))

pub place_p : (h : List Event) (t p q : ℕ) (e : Event) (rest : List Event) → e.side ≡ P → Moment h t p q (e ∷ rest) → IsPlaceOf P h p t
place_p h t p q e rest by m = place_here P h t p (at_p h t p q (e ∷ rest) m) (at_p h (suc t) (suc p) q rest (past_p h t p q e rest by m))

pub few_puts : (shape : Shape) (h : List Event) (puts : Puts) → FollowsPuts shape h puts → length (subhistory P h) ≤ before_close shape puts + events_in (close_phrase puts.closes)
few_puts shape h puts follows =
    grind (arith, length-events P (put_program shape puts), length-append (put_phrases shape first_count puts.puts) (close_phrase puts.closes), length, length-append)

-- ---- the law at a moment

pub within_at :
    (shape : Shape) (h : List Event) (puts : Puts) (takes : Takes) → LawOfSpans shape h puts takes → (t p q : ℕ) (rest : List Event) → Moment h t p q rest →
    counts_begun (put_spans shape puts) p ≤ counts_begun (take_spans shape takes) q + capacity_of shape
within_at shape h puts takes law t p q rest m = grind (arith, at_p, at_q)

pub prefix_at :
    (shape : Shape) (h : List Event) (puts : Puts) (takes : Takes) → LawOfSpans shape h puts takes → (t p q : ℕ) (rest : List Event) → Moment h t p q rest →
    IsPrefix (ended_items (take_spans shape takes) q) (begun_items (put_spans shape puts) p)
prefix_at shape h puts takes law t p q rest m =
    let (more, e) = law.prefix t in (
      more,
      grind (arith, ended_items, take_spans, at_q, takes_items, puts_items, begun_items, put_spans, at_p),
    )

-- ---- the state at a moment

pub record Now (shape : Shape) (offers : ℕ → List ℕ) (wants : ℕ → ℕ) (h : List Event) (puts : Puts) (takes : Takes) (t p q : ℕ) (rest : List Event) (k : Kept) : Type 0 where
  pub stored : List ℕ
  pub left : List ℕ
  pub taken : List ℕ
  pub moment : Moment h t p q rest
  pub put : PutAt shape offers h puts p stored left k.put
  pub take : TakeAt shape wants h takes q taken k.take
  pub items : taken ++ k.inside ≡ stored ++ left
  pub shut : k.shut ≡ true → (before_close shape puts < p) × ((before_close shape puts + 2 ≤ p) ⊎ (events_in (take_program shape takes) ≤ q))
  pub closed : before_close shape puts + 2 ≤ p → k.shut ≡ true

-- at most one event is recorded, and it can be counted
abbrev pub Moves : Capacity → Kept → List calls.Event → Kept → Type 0
Moves capacity k [] after = after ≡ k
Moves capacity k (event ∷ []) after = Counts capacity k event after
Moves capacity k (event ∷ other ∷ events) after = ⊥

pub move_on : (capacity : Capacity) (k after : Kept) (events more : List calls.Event) → Moves capacity k events after → AreCounted capacity after more →
    AreCounted capacity k (events ++ more)
move_on capacity k after events more m r = grind arith

-- a step of one side
pub record Stepped (shape : Shape) (offers : ℕ → List ℕ) (wants : ℕ → ℕ) (h : List Event) (puts : Puts) (takes : Takes) (t p q : ℕ) (rest : List Event) (k : Kept)
    (events : List calls.Event) : Type 0 where
  pub after : Kept
  pub moves : Moves (exactly (capacity_of shape)) k events after
  pub now : Now shape offers wants h puts takes t p q rest after

pub by_events :
    (shape : Shape) (offers : ℕ → List ℕ) (wants : ℕ → ℕ) (h : List Event) (puts : Puts) (takes : Takes) (t p q : ℕ) (rest : List Event) (k : Kept) (events told : List calls.Event) →
    told ≡ events → Stepped shape offers wants h puts takes t p q rest k events → Stepped shape offers wants h puts takes t p q rest k told
by_events shape offers wants h puts takes t p q rest k events told e s = subst (Stepped shape offers wants h puts takes t p q rest k) (sym e) s
