-- The properties of the operations of the consumer's calls in a run.
use Rattle.std.proofs.Common.{◌≡◌, inl, inr, ℕ, suc, ◌+◌, ◌*◌, ◌<◌, ◌≤◌, Bool, true, false, nat_le, Some, List, [], ◌∷◌, ◌++◌, length, refl, sym, ap, subst, ◌∙◌, arith, length-append}
use Rattle.std.specs.Prelude.{slice_get}
use Rattle.ring_core.proofs.Common.{P, C, Shape, take_batch_of, width_of, slice_get_within, leb-true, Count, first_count, Puts, put_phrases, Take, Item, ItemAfterClose, Empty, End, Open, Closed}
use Rattle.ring_core.proofs.Common.{Takes, count_after, taken_in, take_phrases, end_phrase, events_in, items_put, Tells, take_effect, subhistory_has_place}
use Rattle.bits_core.specs.declared.events.Event.{Event}
use Rattle.ring_core.proofs.OverSpans.Looks.{words_are}
use Rattle.ring_core.proofs.Cells.CellPlaces.{multiple_up}
use Rattle.ring_core.proofs.CountRow.{past_is}
use Rattle.bits_core.specs.Made.{subhistory, clock, place_of, IsPlaceOf}
use Rattle.ring_core.proofs.OverSpans.Spans.{Span, Passes, Stops, Asks, counts, items_of, before_count, whole, counts_begun, counts_ended, IsSpanAt}
use Rattle.ring_core.proofs.OverSpans.LookSpans.{look, take_looks, span_of, spans, put_spans, take_spans}
use Rattle.ring_core.proofs.OverSpans.RingOfSpans.{LawOfSpans}
use Rattle.ring_core.proofs.OverSpans.Timeline.{AllProper, ended_begun}
use Rattle.ring_core.proofs.OverSpans.CallSpans.{take_phrase-item, take_phrase-after, take_phrase-empty}
use Rattle.ring_core.proofs.CallCounts.{ended_counts, phrase_some}
use Rattle.ring_core.proofs.OwnEvents.{clock_end}
use Rattle.ring_core.proofs.Linear.Turns.{In, Misses, Ends, IsEnd, Op, TakeFact}
use Rattle.ring_core.proofs.Linear.PutTurns.{in_if, in_call, in_one, move_of}
use Rattle.ring_core.proofs.Linear.PutTurnFacts.{last_place, Stand, stand_on, stand_first, begun_there}
use Rattle.ring_core.proofs.Linear.TakeTurns.{take_turn, dequeue_turns, take_long, end_long, take_turns, item_until, after_until, end_some, ItemIs}

module _ (shape : Shape) (h : List Event) (puts : Puts) (takes : Takes) (law : LawOfSpans shape h puts takes)
    (proper_takes : AllProper (take_batch_of shape) (take_spans shape takes)) where
  abbrev all_events : ℕ
  all_events = events_in (put_phrases shape first_count puts.puts)

  abbrev all_stored : ℕ
  all_stored = counts_begun (put_spans shape puts) (length (subhistory P h))

  abbrev all_items : List ℕ
  all_items = items_put shape first_count puts.puts (length (subhistory P h))

  abbrev IsTake : Op → Type 0
  IsTake y =
      TakeFact h all_events all_stored (counts_ended (put_spans shape puts)) (counts_begun (take_spans shape takes)) (counts_ended (take_spans shape takes)) y ×
      ItemIs all_items y.kind y.number × (IsEnd y.kind → (all_events < length (subhistory P h)) × (puts.closes ≡ true))

  -- what holds once all takes from here on have ended
  abbrev Told : Count → ℕ → List Take → End → Type 0
  Told c start rest end =
      (t : ℕ) → Tells end → start + events_in (take_phrases shape c rest ++ end_phrase end) ≤ clock C h t →
      (all_events < clock P h t) × (taken_in c.number rest ≡ all_stored) × (puts.closes ≡ true)

  told_on : (c : Count) (start : ℕ) (x : Take) (rest : List Take) (end : End) → Told c start (x ∷ rest) end → Told (count_after shape c x) (start + take_long shape c x) rest end
  told_on c start x rest end told t tells l = grind (arith, length-append)

  -- the place where an operation begins
  first_at : (start : ℕ) → start < length (subhistory C h) → IsPlaceOf C h start (place_of C h start)
  first_at start l = subhistory_has_place C h start l

  -- a take of items, by its first span, and that which has its count write
  dequeue_holds :
      (k start stop start' : ℕ) (items : List ℕ) (y z : Span) → IsSpanAt (take_spans shape takes) start k y → IsSpanAt (take_spans shape takes) start' k z →
      z.outcome ≡ Passes items → stop ≡ start' + whole z → start' + before_count z < length (subhistory C h) → start < stop → start ≤ start' →
      (o : Op) → In o (dequeue_turns h k start stop items) → IsTake o
  dequeue_holds k start stop start' items y z st st' passes stops begun some order o i =
      let d = move_of (place_of C h start) k start stop items o i in
      let q = first_at start (omega (arith, begun, order)) in
      let counted : counts z.outcome ≡ length items = ap counts passes in
      let within : d.index < length items = slice_get_within items d.index d.item d.listed in
      let words : z.word ≡ 2 * (counts z.outcome * width_of shape) =
      words_are C shape (take_looks takes.takes takes.end) start' k z st' (omega (arith, counted, within)) in
      let up : suc d.index * width_of shape ≤ counts z.outcome * width_of shape = multiple_up (suc d.index) (counts z.outcome) (width_of shape) (omega (arith, counted, within)) in
      subst IsTake (sym d.is_x) (
        record {
          some = some;
          at_place = q.before;
          last_place = λ t l. last_place C h start (place_of C h start) t q l;
          not_begun = λ j l. omega (arith, begun_there (take_batch_of shape) (take_spans shape takes) proper_takes start k y st j l);
          ended = λ s j l. omega (arith, ended_counts (take_spans shape takes) start' k z j st' (omega (arith, l, stops)), counted, within);
          empty = λ s. absurd s;
          told = λ s. absurd s;
          all = λ s. absurd s;
        },
        subst (λ t. slice_get (items_put shape first_count puts.puts t) (k + d.index) ≡ Some d.item) (clock_end P h)
            (law.items (length h) start' k d.index z d.item st' (ap (λ v. slice_get (items_of v) d.index) passes ∙ d.listed)
            (omega (arith, begun, clock_end C h, words, up))),
        λ s. absurd s,
      )

  pub takes_hold :
      (c : Count) (start : ℕ) (rest : List Take) (end : End) → Stand (take_spans shape takes) (spans C shape c (take_looks rest end)) start c.number → Told c start rest end →
      (y : Op) → In y (take_turns h shape c start rest end (length (subhistory C h))) → IsTake y
  takes_hold c start [] Open stand told y i = absurd i
  takes_hold c start [] (Closed seen again) stand told y i =
      let k : ℕ = c.number in
      let t : ℕ = length (subhistory C h) in
      let stop : ℕ = start + end_long seen again in
      let u : Span = span_of C shape c (look seen (Asks true)) in
      let z : Span = span_of C shape c (look again Stops) in
      let st = stand_first (take_spans shape takes) u (z ∷ []) start k stand in
      let (over, j) = in_if y (nat_le stop t) (take_turn h k Ends start stop ∷ []) i in
      let q = first_at start (omega (arith, leb-true stop t over, end_some seen again)) in
      let at_last = told (length h) tt (omega (arith, leb-true stop t over, clock_end C h)) in
      subst IsTake (sym (in_one y (take_turn h k Ends start stop) j)) (
        record {
          some = omega (arith, end_some seen again);
          at_place = q.before;
          last_place = λ m l. last_place C h start (place_of C h start) m q l;
          not_begun = begun_there (take_batch_of shape) (take_spans shape takes) proper_takes start k u st;
          ended = λ s. absurd s;
          empty = λ s. absurd s;
          told = λ s m l. (told m tt (omega (arith, l))).0;
          all = λ s. at_last.1;
        },
        tt,
        λ s. (omega (arith, at_last.0, clock_end P h), at_last.2),
      )
  takes_hold c start (Item seen items ∷ rest) end stand told y i =
      let k : ℕ = c.number in
      let t : ℕ = length (subhistory C h) in
      let x : Take = Item seen items in
      let next : Count = count_after shape c x in
      let stop : ℕ = start + take_long shape c x in
      let u : Span = span_of C shape c (look seen (Passes items)) in
      let us : List Span = spans C shape next (take_looks rest end) in
      let st = stand_first (take_spans shape takes) u us start k stand in
      let long = take_phrase-item shape c seen items in
      let test : Bool = nat_le (start + take_effect shape c x) t in
      elim (in_call y test (dequeue_turns h k start stop items) (take_turns h shape next stop rest end t) i) [
        | inl (over, m) ↦ (
            dequeue_holds k start stop start items u u st st refl (omega (arith, long))
            (omega (arith, leb-true (start + take_effect shape c x) t over, item_until shape c seen items)) (omega (arith, phrase_some shape c x)) (omega arith) y m)
        | inr j ↦ takes_hold next stop rest end (stand_on (take_spans shape takes) u us start stop k next.number (omega (arith, long)) (past_is k items) stand) (told_on c start x rest end told) y j
      ]
  takes_hold c start (ItemAfterClose seen again items ∷ rest) end stand told y i =
      let k : ℕ = c.number in
      let t : ℕ = length (subhistory C h) in
      let x : Take = ItemAfterClose seen again items in
      let next : Count = count_after shape c x in
      let stop : ℕ = start + take_long shape c x in
      let u : Span = span_of C shape c (look seen (Asks true)) in
      let z : Span = span_of C shape c (look again (Passes items)) in
      let us : List Span = spans C shape next (take_looks rest end) in
      let st = stand_first (take_spans shape takes) u (z ∷ us) start k stand in
      let stand' : Stand (take_spans shape takes) (z ∷ us) (start + whole u) k = stand_on (take_spans shape takes) u (z ∷ us) start (start + whole u) k k refl (omega arith) stand in
      let st' = stand_first (take_spans shape takes) z us (start + whole u) k stand' in
      let long = take_phrase-after shape c seen again items in
      let test : Bool = nat_le (start + take_effect shape c x) t in
      elim (in_call y test (dequeue_turns h k start stop items) (take_turns h shape next stop rest end t) i) [
        | inl (over, m) ↦ (
            dequeue_holds k start stop (start + whole u) items u z st st' refl (omega (arith, long))
            (omega (arith, leb-true (start + take_effect shape c x) t over, after_until shape c seen again items)) (omega (arith, phrase_some shape c x)) (omega arith) y m)
        | inr j ↦ takes_hold next stop rest end (stand_on (take_spans shape takes) z us (start + whole u) stop k next.number (omega (arith, long)) (past_is k items) stand')
            (told_on c start x rest end told) y j
      ]
  takes_hold c start (Empty seen ∷ rest) end stand told y i =
      let k : ℕ = c.number in
      let t : ℕ = length (subhistory C h) in
      let x : Take = Empty seen in
      let stop : ℕ = start + take_long shape c x in
      let u : Span = span_of C shape c (look seen (Asks false)) in
      let us : List Span = spans C shape (count_after shape c x) (take_looks rest end) in
      let st = stand_first (take_spans shape takes) u us start k stand in
      let long = take_phrase-empty shape c seen in
      let some = phrase_some shape c x in
      elim (in_call y (nat_le stop t) (take_turn h k Misses start stop ∷ []) (take_turns h shape (count_after shape c x) stop rest end t) i) [
        | inl (over, m) ↦ (
            let q = first_at start (omega (arith, leb-true stop t over, some)) in
            let (few, not_closed) = law.empty start k u st refl (omega (arith, leb-true stop t over, long)) (place_of C h start) q in
            let early = (ended_begun (take_batch_of shape) (take_spans shape takes) proper_takes (clock C h (place_of C h start))).0 in
            let here = begun_there (take_batch_of shape) (take_spans shape takes) proper_takes start k u st (clock C h (place_of C h start)) (omega (arith, q.before)) in
            subst IsTake (sym (in_one y (take_turn h k Misses start stop) m)) (
              record {
                some = omega (arith, some);
                at_place = q.before;
                last_place = λ n l. last_place C h start (place_of C h start) n q l;
                not_begun = begun_there (take_batch_of shape) (take_spans shape takes) proper_takes start k u st;
                ended = λ s. absurd s;
                empty = λ s. (omega (arith, few, early, here), not_closed);
                told = λ s. absurd s;
                all = λ s. absurd s;
              },
              tt,
              λ s. absurd s,
            ))
        | inr j ↦ takes_hold (count_after shape c x) stop rest end (stand_on (take_spans shape takes) u us start stop k k (omega (arith, long)) (omega arith) stand)
            (told_on c start x rest end told) y j
      ]
