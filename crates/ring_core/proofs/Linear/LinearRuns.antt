-- Every run of the ring is linearizable.
use Rattle.std.proofs.Common.{◌≡◌, inl, inr, ℕ, ◌+◌, ◌<◌, ◌≤◌, true, false, List, [], ◌∷◌, ◌++◌, length, refl, sym, ap, subst, ◌∙◌, arith, length-append}
use Rattle.ring_core.proofs.Common.{queue, P, C, Shape, capacity_of, subhistory, clock, Count, first_count, Puts, put_phrases, Take, Takes, taken_in, take_phrases, end_phrase, take_program, events_in}
use Rattle.ring_core.proofs.Common.{items_put, items_taken, Tells, IsRun}
use Rattle.bits_core.specs.declared.events.Event.{Event}
use Rattle.ring_core.proofs.Readings.Over.{all_are, taken_all}
use Rattle.ring_core.proofs.EndedCounts.{taken_begun}
use Rattle.ring_core.specs.Linear.{TimedOperation, EndsBefore, KeepsTime, IsLinearizableRun}
use Rattle.ring_core.proofs.OverSpans.Spans.{counts_begun, counts_ended}
use Rattle.ring_core.proofs.OverSpans.LookSpans.{put_spans, take_spans}
use Rattle.ring_core.proofs.OverSpans.RingOfSpans.{LawOfSpans}
use Rattle.ring_core.proofs.OverSpans.Timeline.{ended_begun, length-begun_items}
use Rattle.ring_core.proofs.OverSpans.Looks.{proper_puts, proper_takes, puts_items}
use Rattle.ring_core.proofs.OverSpans.CallSpans.{stands_at}
use Rattle.ring_core.proofs.CallCounts.{taken_begun_is}
use Rattle.ring_core.proofs.HistoryClocks.{clock-zero}
use Rattle.ring_core.proofs.OwnEvents.{clock_within, clock_end, clock_rises}
use Rattle.ring_core.proofs.Linear.Turns.{In, Op, Tallies}
use Rattle.ring_core.proofs.Linear.OneOrder.{IsTimely, Ordered, Numbered, items_by, IsClosedBy, goes}
use Rattle.ring_core.proofs.Linear.PutTurns.{put_turns, put_turns-ops, put_turns-sorted}
use Rattle.ring_core.proofs.Linear.PutTurnFacts.{put_turns-numbered, put_turns-items, put_turns-closed, puts_hold}
use Rattle.ring_core.proofs.Linear.TakeTurns.{take_turns, take_turns-ops, take_turns-sorted, take_turns-numbered, taken_from}
use Rattle.ring_core.proofs.Linear.TakeTurnFacts.{takes_hold}

-- an order that respects time from the front respects it
in_behind : (xs ys : List TimedOperation) (b : TimedOperation) → In b (xs ++ b ∷ ys)
in_behind [] ys b = inl refl
in_behind (x ∷ xs) ys b = inr (in_behind xs ys b)

timely_at : (h : List Event) (a b : TimedOperation) (front between rest : List TimedOperation) → IsTimely h (front ++ a ∷ between ++ b ∷ rest) → ¬ EndsBefore h b a
timely_at h a b [] between rest r = r.0 b (in_behind between rest b)
timely_at h a b (o ∷ front) between rest r = timely_at h a b front between rest r.1

keeps_time : (h : List Event) (order : List TimedOperation) → IsTimely h order → KeepsTime h order
keeps_time h order r a b front between rest e = timely_at h a b front between rest (subst (IsTimely h) e r)

-- once all takes have ended, as many items were taken as they take

all_taken : (shape : Shape) (c : Count) (takes : List Take) (t : ℕ) → events_in (take_phrases shape c takes) ≤ t → c.number + length (items_taken shape c takes t) ≡ taken_in c.number takes
all_taken shape c takes t l = omega (arith, all_are c.number takes, ap length (taken_all shape c takes t l))

module _ (shape : Shape) (h : List Event) (puts : Puts) (takes : Takes) (run : IsRun shape h puts takes) (law : LawOfSpans shape h puts takes) where
  abbrev xs : List Op
  xs = put_turns shape first_count 0 puts.puts puts.closes (length (subhistory P h))

  abbrev ys : List Op
  ys = take_turns h shape first_count 0 takes.takes takes.end (length (subhistory C h))

  abbrev stored : ℕ
  stored = counts_begun (put_spans shape puts) (length (subhistory P h))

  abbrev taken : ℕ
  taken = taken_begun shape first_count takes.takes (length (subhistory C h))

  abbrev events : ℕ
  events = events_in (put_phrases shape first_count puts.puts)

  tallies : Tallies h (capacity_of shape) (counts_begun (put_spans shape puts)) (counts_ended (put_spans shape puts)) (counts_begun (take_spans shape takes)) (counts_ended (take_spans shape takes))
  tallies = grind (arith, ended_begun, put_spans, proper_puts, take_spans, proper_takes, clock_rises)

  taken_is : counts_begun (take_spans shape takes) (length (subhistory C h)) ≡ taken
  taken_is = sym (taken_begun_is shape first_count takes.takes takes.end (length (subhistory C h)))

  more_stored : taken ≤ stored
  more_stored =
      omega (arith, (law.within (length h)).0, ap (counts_begun (put_spans shape puts)) (clock_end P h), ap (counts_begun (take_spans shape takes)) (clock_end C h), taken_is)

  within : stored ≤ taken + capacity_of shape
  within =
      omega (arith, (law.within (length h)).1, ap (counts_begun (put_spans shape puts)) (clock_end P h), ap (counts_begun (take_spans shape takes)) (clock_end C h), taken_is)

  -- as many items are put as stored
  stored_is : length (items_put shape first_count puts.puts (length (subhistory P h))) ≡ stored
  stored_is = ap length (puts_items shape first_count puts.puts (length (subhistory P h))) ∙ length-begun_items (put_spans shape puts) (length (subhistory P h))

  told :
      (t : ℕ) → Tells takes.end → 0 + events_in (take_phrases shape first_count takes.takes ++ end_phrase takes.end) ≤ clock C h t →
      (events < clock P h t) × (taken_in 0 takes.takes ≡ stored) × (puts.closes ≡ true)
  told t tells l =
      let u : ℕ = t + length h in
      let ended : events_in (take_program shape takes) ≤ clock C h t = omega (arith, l) in
      let now = law.closed t t (tells, ended) (omega arith) in
      let last : clock P h u ≡ length (subhistory P h) = omega (arith, clock_within P h u, clock_rises P h (length h) u (omega arith), clock_end P h) in
      grind (arith, length-append, all_taken, stored_is)

  takes_numbered : Numbered taken 0 ys
  takes_numbered = grind (arith, take_turns-numbered)

  puts_numbered : Numbered stored 0 xs
  puts_numbered = grind (arith, put_turns-numbered)

  items_are : items_by xs ≡ items_put shape first_count puts.puts (length (subhistory P h))
  items_are = grind (arith, put_turns-items)

  ordered : Ordered h (capacity_of shape) (queue [] false) xs ys
  ordered =
      let put_holds =
      puts_hold shape h puts takes law (proper_puts shape puts run.puts_follow.are) (proper_takes shape takes run.takes_follow.are) first_count 0 puts.puts puts.closes
      (λ s n x st. stands_at (put_spans shape puts) s (0 + s) n (0 + n) x (omega arith) (omega arith) st) (omega arith) (omega arith) in
      let take_holds =
      takes_hold shape h puts takes law (proper_takes shape takes run.takes_follow.are) first_count 0 takes.takes takes.end
      (λ s n x st. stands_at (take_spans shape takes) s (0 + s) n (0 + n) x (omega arith) (omega arith) st) told in
      let (rest, same) = taken_from (items_put shape first_count puts.puts (length (subhistory P h))) taken 0 ys takes_numbered (λ y i. (take_holds y i).1) in
      goes h (capacity_of shape) events stored taken (counts_begun (put_spans shape puts)) (counts_ended (put_spans shape puts)) (counts_begun (take_spans shape takes))
      (counts_ended (take_spans shape takes)) tallies more_stored within ys xs 0 [] false
      (record {
        fits = omega arith;
        puts_numbered = puts_numbered;
        takes_numbered = takes_numbered;
        puts_sorted = put_turns-sorted shape first_count 0 puts.puts puts.closes (length (subhistory P h));
        takes_sorted = take_turns-sorted h shape first_count 0 takes.takes takes.end (length (subhistory C h));
        puts = put_holds;
        takes = λ y i. (take_holds y i).0;
        fulls = λ x i s. omega (arith, (put_holds x i).0.full s 0 (omega (arith, clock-zero P h)));
        empties = λ y i s. (omega arith, refl);
        opened = λ x i. refl;
        ends = λ y i s.
            (let (behind, closes) = (take_holds y i).2 s in
            subst (λ b. IsClosedBy false (put_turns shape first_count 0 puts.puts b (length (subhistory P h)))) (sym closes)
            (put_turns-closed shape first_count 0 puts.puts (length (subhistory P h)) (omega (arith, behind))));
        same = (rest, items_are ∙ same);
      })

  pub linearizable : IsLinearizableRun shape h puts takes
  linearizable = grind (arith, ordered, put_turns-ops, take_turns-ops, keeps_time)
