-- The next event of a run is one of the consumer's: what it records can be counted.
use Rattle.std.proofs.Common.{◌≡◌, ◌⊎◌, inl, inr, ℕ, suc, ◌+◌, ◌-◌, ◌%◌, ◌<◌, ◌≤◌, Bool, true, false, List, [], ◌∷◌, ◌++◌, length, drop, refl, sym, ap, subst, ◌∙◌, arith, append_assoc, append-nil, length-append}
use Rattle.ring_core.proofs.Common.{append_cancel_left, exactly, TakeBegin, TakeEnd, Shut, P, C, Shape, batch_of, capacity_of, modulus_of, take_batch_of, distance, Count, first_count, Puts, Take}
use Rattle.ring_core.proofs.Common.{Item, ItemAfterClose, Empty, End, Open, Closed, Takes, count_after, end_phrase, take_program, events_in, all_put, taken_of, Tells, IsRun, take_answer, take_told}
use Rattle.ring_core.proofs.Common.{subhistory_has_place}
use Rattle.std.proofs.Math.Seq.{drop-append_seam}
use Rattle.queue_calls.specs.Calls as calls
use Rattle.queue_calls.specs.State.{offered_by, has_closed}
use Rattle.queue_calls.specs.Counting.{Kept, kept, EndsTake}
use Rattle.queue_calls.proofs.Replies.{found_fewer}
use Rattle.queue_calls.specs.declared.turns.TakeTurn.{TakeTurn}
use Rattle.queue_calls.specs.declared.turns.TakeTurn.TheVariants.{Rests, Waits}
use Rattle.bits_core.specs.declared.events.Event.{Event}
use Rattle.bits_core.specs.Made.{subhistory, clock, place_of, IsPlaceOf}
use Rattle.register_core.specs.ScanState.{row_read_by}
use Rattle.ring_core.proofs.OverSpans.Spans.{Span, Passes, Asks, whole, counts_ended, ended_items, IsSpanAt}
use Rattle.ring_core.proofs.OverSpans.LookSpans.{look, take_looks, span_of, spans, put_spans, take_spans}
use Rattle.ring_core.proofs.OverSpans.Looks.{proper_puts, proper_takes, takes_items}
use Rattle.ring_core.proofs.OverSpans.Timeline.{ended_at, ended_up}
use Rattle.ring_core.proofs.Readings.Cuts.{at_most_or_above}
use Rattle.ring_core.proofs.OverSpans.RingOfSpans.{LawOfSpans}
use Rattle.ring_core.proofs.Machines.Lengths.{length-scan}
use Rattle.ring_core.proofs.OwnEvents.{clock_rises}
use Rattle.ring_core.proofs.OverSpans.CallSpans.{stands_at, take_phrase-item, take_phrase-after, take_phrase-empty}
use Rattle.ring_core.proofs.CallCounts.{phrase_some}
use Rattle.ring_core.proofs.Linear.TakeTurns.{take_long, end_long, end_some}
use Rattle.ring_core.proofs.Recorded.RecordedSpans.{counted_here}
use Rattle.ring_core.proofs.Recorded.RecordedCalls.{told_first, TakesBehind, takes_past}
use Rattle.ring_core.proofs.Recorded.RecordedStates.{before_close, IsClosing, TakeAt, TakeRuns, TakeEnds, put_view}
use Rattle.ring_core.proofs.Recorded.RecordedMoments.{at_p, at_q, past_q, next_q, within_at, prefix_at, Now, Stepped, by_events, place_here}
use Rattle.ring_core.proofs.Recorded.TellsByOne.{between_told, last_told}
use Rattle.ring_core.proofs.Machines.Following.{length-events}

-- a take has at least two events
take_two : (shape : Shape) (c : Count) (x : Take) → 2 ≤ take_long shape c x
take_two shape c x = omega (arith, phrase_some shape c x)

end_two : (seen again : ℕ) → 2 ≤ end_long seen again
end_two seen again = omega (arith, end_some seen again)

-- every take asks for an item, including the one that returns Closed
module _ (shape : Shape) (offers : ℕ → List ℕ) (wants : ℕ → ℕ) (h : List Event) (puts : Puts) (takes : Takes) (run : IsRun shape h puts takes)
    (law : LawOfSpans shape h puts takes) (some_wanted : (j : ℕ) → 0 < wants j) where
  abbrev Here : ℕ → ℕ → ℕ → List Event → Kept → Type 0
  Here = Now shape offers wants h puts takes

  -- what the consumer's next event records
  abbrev told : ℕ → List calls.Event
  told q = take_told shape wants 0 first_count takes.takes takes.end q

  -- if the close has come, or a take has returned Closed, the same holds one event later
  shut_later :
      (p q : ℕ) → (before_close shape puts < p) × ((before_close shape puts + 2 ≤ p) ⊎ (events_in (take_program shape takes) ≤ q)) →
      (before_close shape puts < p) × ((before_close shape puts + 2 ≤ p) ⊎ (events_in (take_program shape takes) ≤ suc q))
  shut_later p q h1 = grind arith

  -- after an event of the consumer that neither takes items nor returns Closed, it is in this state
  turns :
      (t p q : ℕ) (e : Event) (rest : List Event) (k : Kept) → e.side ≡ C → (now : Here t p q (e ∷ rest) k) → (turn : TakeTurn) →
      TakeAt shape wants h takes (suc q) now.taken turn → Here (suc t) p (suc q) rest (kept k.inside k.put turn k.shut)
  turns t p q e rest k by now turn at = grind (arith, past_q, shut_later)

  -- when a take begins that will find nothing
  none_inside :
      (c : Count) (taken : List ℕ) (seen : ℕ) (more : List Take) (t p q stored inside : ℕ) → TakesBehind shape wants takes c q taken (Empty seen ∷ more) → IsPlaceOf C h q t →
      clock P h t ≡ p → clock C h t ≡ q → stored ≤ counts_ended (put_spans shape puts) p → inside ≡ stored - length taken →
      q + take_long shape c (Empty seen) ≤ length (subhistory C h) → (inside ≡ 0) × (p < before_close shape puts + 2)
  none_inside c taken seen more t p q stored inside b place ep eq ended l over =
      let y = span_of C shape c (look seen (Asks false)) in
      let most : ℕ = take_batch_of shape in
      let st = stands_at (take_spans shape takes) (q + 0) q (length taken + 0) (length taken) y (omega arith) (omega arith) (b.spans_are.stands 0 0 y (inl (refl, refl, refl))) in
      let long = take_phrase-empty shape c seen in
      let (fresh, opened) = law.empty q (length taken) y st refl (omega (arith, over, long)) t place in
      let here : q + 0 ≡ q = omega arith in
      grind (arith, ended_at, proper_takes, opened)

  -- when a scan begins whose items are all taken, and before, no more items were stored than taken up to and including these
  drained :
      (c : Count) (taken : List ℕ) (seen : ℕ) (items : List ℕ) (t s : ℕ) → IsSpanAt (take_spans shape takes) s (length taken) (span_of C shape c (look seen (Passes items))) →
      c.number ≡ length taken → distance (modulus_of shape) seen (c.number % modulus_of shape) ≡ length items → 1 ≤ length items →
      s + whole (span_of C shape c (look seen (Passes items))) ≤ length (subhistory C h) → clock C h t ≤ s →
      counts_ended (put_spans shape puts) (clock P h t) ≤ length taken + length items
  drained c taken seen items t s st number shown some over l =
      let z : Span = span_of C shape c (look seen (Passes items)) in
      let there : ℕ = place_of C h s in
      let place : IsPlaceOf C h s there = subhistory_has_place C h s (omega (arith, over, length-scan (row_read_by C) seen)) in
      let shown' = ap (λ n. distance (modulus_of shape) seen (n % modulus_of shape)) (sym number) ∙ shown in
      let few = law.drain s (length taken) z st some shown' (omega (arith, over)) there place in
      let order : t ≤ there =
      elim (at_most_or_above t there) [
        | inl m ↦ m
        | inr m ↦ absurd (omega (arith, clock_rises C h (suc there) t m, place.past, l))
      ] in
      omega (arith, few, ended_up (batch_of shape) (put_spans shape puts) (proper_puts shape puts run.puts_follow.are) (clock P h t) (clock P h there) (clock_rises P h t there order))

  -- when a take begins that will take fewer items than it asks for, no more are inside
  lacks :
      (c : Count) (taken : List ℕ) (x : Take) (more : List Take) (t p q stored inside : ℕ) → (b : TakesBehind shape wants takes c q taken (x ∷ more)) → IsPlaceOf C h q t →
      clock P h t ≡ p → clock C h t ≡ q → stored ≤ counts_ended (put_spans shape puts) p → inside ≡ stored - length taken →
      q + take_long shape c x ≤ length (subhistory C h) → length (taken_of x) < wants b.made → inside ≤ length (taken_of x)
  lacks c taken (Item seen items) more t p q stored inside b place ep eq ended l over fewer =
      let y = span_of C shape c (look seen (Passes items)) in
      let st = stands_at (take_spans shape takes) (q + 0) q (length taken + 0) (length taken) y (omega arith) (omega arith) (b.spans_are.stands 0 0 y (inl (refl, refl, refl))) in
      let shown : distance (modulus_of shape) seen (c.number % modulus_of shape) ≡ length items = grind arith in
      let few = drained c taken seen items t q st b.number shown b.are.0.1.some (omega (arith, over, take_phrase-item shape c seen items)) (omega (arith, eq)) in
      omega (arith, few, ended, l, ap (counts_ended (put_spans shape puts)) ep)
  lacks c taken (ItemAfterClose seen again items) more t p q stored inside b place ep eq ended l over fewer =
      let y = span_of C shape c (look seen (Asks true)) in
      let z = span_of C shape c (look again (Passes items)) in
      let st =
      stands_at (take_spans shape takes) (q + whole y) (q + whole y) (length taken + 0) (length taken) z refl (omega arith)
      (b.spans_are.stands (whole y) 0 z (inr (0, 0, omega arith, refl, inl (refl, refl, refl)))) in
      grind (arith, drained, take_phrase-after)
  lacks c taken (Empty seen) more t p q stored inside b place ep eq ended l over fewer = grind (arith, none_inside c taken seen more t p q stored inside b place ep eq ended l over)

  -- when a take begins that will find nothing, the ring is open
  opened :
      (c : Count) (taken : List ℕ) (x : Take) (more : List Take) (t p q stored inside : ℕ) (shut : Bool) → TakesBehind shape wants takes c q taken (x ∷ more) → IsPlaceOf C h q t →
      clock P h t ≡ p → clock C h t ≡ q → stored ≤ counts_ended (put_spans shape puts) p → inside ≡ stored - length taken →
      (shut ≡ true → (before_close shape puts < p) × ((before_close shape puts + 2 ≤ p) ⊎ (events_in (take_program shape takes) ≤ q))) →
      q < length (subhistory C h) → q + take_long shape c x ≤ length (subhistory C h) → taken_of x ≡ [] → shut ≡ false
  opened c taken (Item seen items) more t p q stored inside shut b place ep eq ended l is_shut next over none = absurd (omega (arith, b.are.0.1.some, ap length none))
  opened c taken (ItemAfterClose seen again items) more t p q stored inside shut b place ep eq ended l is_shut next over none = grind arith
  opened c taken (Empty seen) more t p q stored inside shut b place ep eq ended l is_shut next over none =
      grind (arith, none_inside c taken seen more t p q stored inside b place ep eq ended l over, length-events, length, length-append)

  -- a take begins
  take_begins :
      (t p q : ℕ) (e : Event) (rest : List Event) (k : Kept) → e.side ≡ C → (now : Here t p q (e ∷ rest) k) →
      (c : Count) (x : Take) (more : List Take) → TakesBehind shape wants takes c q now.taken (x ∷ more) → k.take ≡ Rests →
      Stepped shape offers wants h puts takes (suc t) p (suc q) rest k (told q)
  take_begins t p q e rest k by now c x more b rests =
      let wanted : ℕ = wants b.made in
      let two = take_two shape c x in
      let view = put_view shape offers h puts p now.stored now.left k.put now.put in
      let here : q ≡ q + 0 = omega arith in
      let before : ℕ = length k.inside - offered_by k.put in
      let size : before ≡ length now.stored - length now.taken =
      omega (arith, view.left_by, ap length now.items, length-append now.taken k.inside, length-append now.stored now.left) in
      let here_p = at_p h t p q (e ∷ rest) now.moment in
      let here_q = at_q h t p q (e ∷ rest) now.moment in
      let place = place_here C h t q (at_q h t p q (e ∷ rest) now.moment) (at_q h (suc t) p (suc q) rest (past_q h t p q e rest by now.moment)) in
      by_events shape offers wants h puts takes (suc t) p (suc q) rest k (TakeBegin wanted ∷ []) (told q)
      (ap told here ∙ b.told 0 ∙ told_first (take_long shape c x) (TakeBegin wanted) (take_answer x) _ (omega (arith, two)))
      (record {
        after = kept k.inside k.put (Waits wanted before k.shut) k.shut;
        moves = (rests, some_wanted b.made, refl);
        now = turns t p q e rest k by now (Waits wanted before k.shut) (inr (inl (record {
          call = x;
          rest = more;
          inside = record { count = c; start = q; before = before; shut = k.shut; behind = b; take_is = refl };
          begun = omega arith;
          not_ended = omega (arith, two);
          no_more = lacks c now.taken x more t p q (length now.stored) before b place here_p here_q view.ended size;
          open_then = opened c now.taken x more t p q (length now.stored) before k.shut b place here_p here_q view.ended size now.shut (next_q h t p q e rest by now.moment);
        })));
      })

  -- the consumer continues in a take
  take_goes_on :
      (t p q : ℕ) (e : Event) (rest : List Event) (k : Kept) → e.side ≡ C → (now : Here t p q (e ∷ rest) k) →
      (r : TakeRuns shape wants h takes q now.taken k.take) → suc q < r.start + take_long shape r.count r.call →
      Stepped shape offers wants h puts takes (suc t) p (suc q) rest k (told q)
  take_goes_on t p q e rest k by now r l =
      let j : ℕ = q - r.start in
      let on : q ≡ r.start + j = omega (arith, r.begun) in
      by_events shape offers wants h puts takes (suc t) p (suc q) rest k [] (told q)
      (ap told on ∙ r.behind.told j ∙ between_told (take_long shape r.count r.call) (TakeBegin (wants r.behind.made)) (take_answer r.call) j _ (omega (arith, r.begun)) (omega (arith, l, r.begun)))
      (record {
        after = k;
        moves = refl;
        now = turns t p q e rest k by now k.take (inr (inl (record {
          call = r.call;
          rest = r.rest;
          inside = r.inside;
          begun = omega (arith, r.begun);
          not_ended = l;
          no_more = r.no_more;
          open_then = r.open_then;
        })));
      })

  -- the state after a take ends
  record TakeLeft (t p q : ℕ) (rest : List Event) (k : Kept) (items : List ℕ) : Type 0 where
    pub more : List ℕ
    pub next : k.inside ≡ items ++ more
    pub ends : EndsTake (exactly (capacity_of shape)) k (length items) (kept (drop (length items) k.inside) k.put Rests k.shut)
    pub now : Here t p q rest (kept (drop (length items) k.inside) k.put Rests k.shut)

  take_leaves :
      (t p q : ℕ) (e : Event) (rest : List Event) (k : Kept) → e.side ≡ C → (now : Here t p q (e ∷ rest) k) →
      (r : TakeRuns shape wants h takes q now.taken k.take) → suc q ≡ r.start + take_long shape r.count r.call →
      TakeLeft (suc t) p (suc q) rest k (taken_of r.call)
  take_leaves t p q e rest k by now r stop =
      let items : List ℕ = taken_of r.call in
      let m = past_q h t p q e rest by now.moment in
      let view = put_view shape offers h puts p now.stored now.left k.put now.put in
      let next = takes_past shape wants takes r.count r.start (suc q) now.taken r.call r.rest stop r.behind in
      let ended = next.spans_are.ended 0 in
      let others = ended_items (spans C shape (count_after shape r.count r.call) (take_looks r.rest takes.end)) 0 in
      let (b, prefix) = prefix_at shape h puts takes law (suc t) p (suc q) rest m in
      let (d, begun) = view.begun in
      let first : (((now.taken ++ items) ++ others) ++ b) ++ d ≡ now.stored ++ now.left = grind arith in
      let more : List ℕ = others ++ (b ++ d) in
      let all : (now.taken ++ items) ++ more ≡ now.stored ++ now.left = sym (simp append_assoc) ∙ first in
      let inside : k.inside ≡ items ++ more = append_cancel_left now.taken k.inside (items ++ more) (now.items ∙ sym all ∙ append_assoc now.taken items more) in
      let drop_is : drop (length items) k.inside ≡ more = ap (drop (length items)) inside ∙ drop-append_seam items more in
      let within = within_at shape h puts takes law (suc t) p (suc q) rest m in
      let counted = counted_here (take_batch_of shape) (take_spans shape takes) (suc q) (now.taken ++ items) _ next.spans_are in
      record {
        more = more;
        next = inside;
        ends = (
          omega (arith, within, counted, view.few, view.left_by, length-append now.taken items, ap length now.items, length-append now.taken k.inside, length-append now.stored now.left),
          refl,
        );
        now = record {
          stored = now.stored;
          left = now.left;
          taken = now.taken ++ items;
          moment = m;
          put = now.put;
          take = inl (record { count = count_after shape r.count r.call; rest = r.rest; behind = next; take_is = refl });
          items = ap (λ l. (now.taken ++ items) ++ l) drop_is ∙ all;
          shut = λ s. shut_later p q (now.shut s);
          closed = now.closed;
        };
      }

  -- the last event of a take records its end
  take_told_end :
      (t p q : ℕ) (rest : List Event) (k : Kept) (c : Count) (start : ℕ) (taken : List ℕ) (before : ℕ) (shut : Bool) (x : Take) (more : List Take) →
      (b : TakesBehind shape wants takes c start taken (x ∷ more)) → k.take ≡ Waits (wants b.made) before shut → 0 < wants b.made →
      (length (taken_of x) < wants b.made → before ≤ length (taken_of x)) → (taken_of x ≡ [] → shut ≡ false) → TakeLeft t p q rest k (taken_of x) →
      Stepped shape offers wants h puts takes t p q rest k (take_answer x ∷ [])
  take_told_end t p q rest k c start taken before shut (Item seen items) more b waits some few open_then r = grind (arith, drop, length, found_fewer)
  take_told_end t p q rest k c start taken before shut (ItemAfterClose seen again items) more b waits some few open_then r = grind (arith, drop, length, found_fewer)
  take_told_end t p q rest k c start taken before shut (Empty seen) more b waits some few open_then r = grind (arith, drop)

  take_ends :
      (t p q : ℕ) (e : Event) (rest : List Event) (k : Kept) → e.side ≡ C → (now : Here t p q (e ∷ rest) k) →
      (r : TakeRuns shape wants h takes q now.taken k.take) → suc q ≡ r.start + take_long shape r.count r.call →
      Stepped shape offers wants h puts takes (suc t) p (suc q) rest k (told q)
  take_ends t p q e rest k by now r stop =
      let j : ℕ = q - r.start in
      let on : q ≡ r.start + j = omega (arith, r.begun) in
      let over : r.start + take_long shape r.count r.call ≤ length (subhistory C h) = omega (arith, stop, next_q h t p q e rest by now.moment) in
      by_events shape offers wants h puts takes (suc t) p (suc q) rest k (take_answer r.call ∷ []) (told q)
      (ap told on ∙ r.behind.told j ∙
      last_told (take_long shape r.count r.call) (TakeBegin (wants r.behind.made)) (take_answer r.call) j _ (omega (arith, r.begun)) (omega (arith, stop, r.begun)))
      (take_told_end (suc t) p (suc q) rest k r.count r.start now.taken r.before r.shut r.call r.rest r.behind r.take_is (some_wanted r.behind.made)
      (r.no_more over) (r.open_then over) (take_leaves t p q e rest k by now r stop))

  -- ---- the take that returns Closed

  end_told :
      (made : ℕ) (c : Count) (end : End) (seen again j : ℕ) → end ≡ Closed seen again →
      take_told shape wants made c [] end j ≡ take_told shape wants made c [] (Closed seen again) j
  end_told made c end seen again j e = ap (λ d. take_told shape wants made c [] d j) e

  -- it begins
  end_begins :
      (t p q : ℕ) (e : Event) (rest : List Event) (k : Kept) → e.side ≡ C → (now : Here t p q (e ∷ rest) k) →
      (c : Count) (seen again : ℕ) → takes.end ≡ Closed seen again → TakesBehind shape wants takes c q now.taken [] → k.take ≡ Rests →
      Stepped shape offers wants h puts takes (suc t) p (suc q) rest k (told q)
  end_begins t p q e rest k by now c seen again is b rests =
      let wanted : ℕ = wants b.made in
      let here : q ≡ q + 0 = omega arith in
      let two = end_two seen again in
      let before : ℕ = length k.inside - offered_by k.put in
      by_events shape offers wants h puts takes (suc t) p (suc q) rest k (TakeBegin wanted ∷ []) (told q)
      (ap told here ∙ b.told 0 ∙ end_told b.made c takes.end seen again 0 is ∙ told_first (end_long seen again) (TakeBegin wanted) (TakeEnd Shut) [] (omega (arith, two)))
      (record {
        after = kept k.inside k.put (Waits wanted before k.shut) k.shut;
        moves = (rests, some_wanted b.made, refl);
        now = turns t p q e rest k by now (Waits wanted before k.shut) (inr (inr (inl (record {
          seen = seen;
          again = again;
          inside = record { count = c; start = q; before = before; shut = k.shut; behind = b; take_is = refl };
          end_is = is;
          begun = omega arith;
          not_ended = omega (arith, two);
        }))));
      })

  -- it continues
  end_goes_on :
      (t p q : ℕ) (e : Event) (rest : List Event) (k : Kept) → e.side ≡ C → (now : Here t p q (e ∷ rest) k) →
      (r : TakeEnds shape wants takes q now.taken k.take) → suc q < r.start + end_long r.seen r.again → Stepped shape offers wants h puts takes (suc t) p (suc q) rest k (told q)
  end_goes_on t p q e rest k by now r l =
      let j : ℕ = q - r.start in
      let on : q ≡ r.start + j = omega (arith, r.begun) in
      by_events shape offers wants h puts takes (suc t) p (suc q) rest k [] (told q)
      (ap told on ∙ r.behind.told j ∙ end_told r.behind.made r.count takes.end r.seen r.again j r.end_is ∙
      between_told (end_long r.seen r.again) (TakeBegin (wants r.behind.made)) (TakeEnd Shut) j [] (omega (arith, r.begun)) (omega (arith, l, r.begun)))
      (record {
        after = k;
        moves = refl;
        now = turns t p q e rest k by now k.take (inr (inr (inl (record {
          seen = r.seen;
          again = r.again;
          inside = r.inside;
          end_is = r.end_is;
          begun = omega (arith, r.begun);
          not_ended = l;
        }))));
      })

  -- it ends: nothing is inside, and the close has begun
  tells : (end : End) (seen again : ℕ) → end ≡ Closed seen again → Tells end
  tells end seen again e = subst Tells (sym e) tt

  is_closed : (k : Kept) (p : ℕ) → IsClosing shape puts p k.put → (before_close shape puts + 2 ≤ p → k.shut ≡ true) → has_closed k.put k.shut ≡ true
  is_closed k p h1 closed = grind arith

  nothing : (front inside : List ℕ) → front ++ inside ≡ front → inside ≡ []
  nothing front inside e = append_cancel_left front inside [] (e ∙ sym (append-nil front))

  end_ends :
      (t p q : ℕ) (e : Event) (rest : List Event) (k : Kept) → e.side ≡ C → (now : Here t p q (e ∷ rest) k) →
      (r : TakeEnds shape wants takes q now.taken k.take) → suc q ≡ r.start + end_long r.seen r.again → Stepped shape offers wants h puts takes (suc t) p (suc q) rest k (told q)
  end_ends t p q e rest k by now r stop =
      let j : ℕ = q - r.start in
      let on : q ≡ r.start + j = omega (arith, r.begun) in
      let m = past_q h t p q e rest by now.moment in
      let view = put_view shape offers h puts p now.stored now.left k.put now.put in
      let at = at_q h (suc t) p (suc q) rest m in
      let at' = at_p h (suc t) p (suc q) rest m in
      let long : events_in (end_phrase takes.end) ≡ end_long r.seen r.again = ap (λ d. events_in (end_phrase d)) r.end_is in
      let over : events_in (take_program shape takes) ≤ suc q = omega (arith, r.behind.all, stop, long) in
      let (_, taken_all, _, behind) = law.closed (suc t) (suc t) (tells takes.end r.seen r.again r.end_is, omega (arith, over, at)) (omega arith) in
      let past : before_close shape puts < p = omega (arith, behind, at') in
      let (none, stored_all, closing) = view.over past in
      let last : suc q ≡ r.start + suc j = omega (arith, on) in
      let taken_is : now.taken ≡ all_put puts.puts =
      sym (append-nil now.taken) ∙ sym (ap (λ l. now.taken ++ l) (grind arith)) ∙ sym (r.behind.spans_are.ended (suc j)) ∙
      ap (ended_items (take_spans shape takes)) (sym last ∙ sym at) ∙ sym (takes_items shape first_count takes.takes takes.end (clock C h (suc t))) ∙ taken_all in
      let empty : k.inside ≡ [] =
      nothing now.taken k.inside (now.items ∙ ap (λ l. now.stored ++ l) none ∙ append-nil now.stored ∙ stored_all ∙ sym taken_is) in
      by_events shape offers wants h puts takes (suc t) p (suc q) rest k (TakeEnd Shut ∷ []) (told q)
      (ap told on ∙ r.behind.told j ∙ end_told r.behind.made r.count takes.end r.seen r.again j r.end_is ∙
      last_told (end_long r.seen r.again) (TakeBegin (wants r.behind.made)) (TakeEnd Shut) j [] (omega (arith, r.begun)) (omega (arith, stop, r.begun)))
      (record {
        after = kept [] k.put Rests true;
        moves = (wants r.behind.made, r.before, r.shut, r.take_is, inr (refl, empty, is_closed k p closing now.closed, refl));
        now = record {
          stored = now.stored;
          left = now.left;
          taken = now.taken;
          moment = m;
          put = now.put;
          take = inr (inr (inr (record { count = r.count; start = r.start; behind = r.behind; begun = omega (arith, r.begun); ended = over; take_is = refl })));
          items = ap (λ l. now.taken ++ l) (sym empty) ∙ now.items;
          shut = λ s. (past, inr over);
          closed = λ l. refl;
        };
      })

  -- ---- all of them

  take_idle :
      (t p q : ℕ) (e : Event) (rest : List Event) (k : Kept) → e.side ≡ C → (now : Here t p q (e ∷ rest) k) →
      (c : Count) (more : List Take) → TakesBehind shape wants takes c q now.taken more → k.take ≡ Rests → Stepped shape offers wants h puts takes (suc t) p (suc q) rest k (told q)
  take_idle t p q e rest k by now c [] b rests = elim (is_end takes.end) [
    | inl none ↦ absurd (grind (arith, next_q h t p q e rest by now.moment, b.all, ap (λ d. events_in (end_phrase d)) none, length-events C (take_program shape takes), length, length-append))
    | inr (seen, again, is) ↦ end_begins t p q e rest k by now c seen again is b rests
  ]
    where
      is_end : (end : End) → (end ≡ Open) ⊎ ((seen : ℕ) × (again : ℕ) × (end ≡ Closed seen again))
      is_end Open = inl refl
      is_end (Closed seen again) = inr (seen, again, refl)
  take_idle t p q e rest k by now c (x ∷ more) b rests = take_begins t p q e rest k by now c x more b rests

  pub take_step :
      (t p q : ℕ) (e : Event) (rest : List Event) (k : Kept) → e.side ≡ C → Here t p q (e ∷ rest) k → Stepped shape offers wants h puts takes (suc t) p (suc q) rest k (told q)
  take_step t p q e rest k by now = elim now.take [
    | inl r ↦ take_idle t p q e rest k by now r.count r.rest r.behind r.take_is
    | inr (inl r) ↦ elim (at_most_or_above (r.start + take_long shape r.count r.call) (suc q)) [
      | inl l ↦ take_ends t p q e rest k by now r (omega (arith, l, r.not_ended))
      | inr l ↦ take_goes_on t p q e rest k by now r l
    ]
    | inr (inr (inl r)) ↦ elim (at_most_or_above (r.start + end_long r.seen r.again) (suc q)) [
      | inl l ↦ end_ends t p q e rest k by now r (omega (arith, l, r.not_ended))
      | inr l ↦ end_goes_on t p q e rest k by now r l
    ]
    | inr (inr (inr r)) ↦ absurd (grind (arith, r.ended, next_q h t p q e rest by now.moment, length-events C (take_program shape takes), length, length-append))
  ]
