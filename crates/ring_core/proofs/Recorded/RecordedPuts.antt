-- The next event of a run is one of the producer's: what it records can be counted.
use Rattle.std.proofs.Common.{◌≡◌, inl, inr, ℕ, suc, ◌+◌, ◌-◌, ◌%◌, ◌<◌, ◌≤◌, true, false, List, [], ◌∷◌, ◌++◌, length, take, refl, sym, ap, ◌∙◌, arith, append_assoc, append-nil, length-append}
use Rattle.std.proofs.lemmas.List.{length-take-le, take_all, append_cancel_left}
use Rattle.ring_core.proofs.Common.{take-append_seam, exactly, PutBegin, CloseBegin, CloseEnd, P, C, Shape, batch_of, capacity_of, modulus_of, subhistory, clock, IsPlaceOf, distance, Count}
use Rattle.ring_core.proofs.Common.{first_count, Takes, events_in, IsRun, put_answer, put_told}
use Rattle.queue_calls.specs.Calls as calls
use Rattle.queue_calls.specs.Counting.{Kept, kept, without, EndsPut}
use Rattle.queue_calls.proofs.Replies.{may_lack_more}
use Rattle.queue_calls.specs.declared.turns.PutTurn.TheVariants.{Free, Offers, Closes}
use Rattle.bits_core.specs.declared.events.Event.{Event}
use Rattle.bits_core.proofs.OwnEvents.{by_case}
use Rattle.ring_core.specs.Puts.{Put, Stored, Full, Puts, stored_after, put_phrase, put_phrases, close_phrase, room_in}
use Rattle.ring_core.proofs.OverSpans.Spans.{Passes, Stops, counts_ended}
use Rattle.ring_core.proofs.OverSpans.LookSpans.{look, span_of, put_spans, take_spans}
use Rattle.ring_core.proofs.Readings.Cuts.{at_most_or_above}
use Rattle.ring_core.proofs.OverSpans.RingOfSpans.{LawOfSpans}
use Rattle.ring_core.proofs.Linear.PutTurns.{put_long, put_some, before_put_ends}
use Rattle.ring_core.proofs.Linear.PutTurnFacts.{long_is}
use Rattle.ring_core.proofs.Recorded.RecordedSpans.{begun_here, counted_here}
use Rattle.ring_core.proofs.Recorded.RecordedCalls.{told_first, put_items, PutsBehind, puts_past}
use Rattle.ring_core.proofs.Recorded.RecordedStates.{before_close, PutRuns, PutCloses, first_stored, take_view}
use Rattle.ring_core.proofs.Recorded.RecordedMoments.{at_q, past_p, next_p, place_p, few_puts, within_at, prefix_at, Now, Stepped, by_events}
use Rattle.ring_core.proofs.Recorded.TellsByOne.{between_told, last_told}
use Rattle.ring_core.proofs.OverSpans.CallSpans.{stands_at}

-- a put has at least two events
put_two : (shape : Shape) (c : Count) (x : Put) → 2 ≤ put_long shape c x
put_two shape c (Stored seen items) = omega (arith, before_put_ends shape c seen items)
put_two shape c (Full seen) = omega (arith, put_some shape c seen)

-- if fewer items were taken than there were, as many were taken as requested
pub took_all : (room : ℕ) (items : List ℕ) → length (take room items) < length items → length (take room items) ≡ room
took_all room items l = grind (arith, at_most_or_above, length-take-le, take_all)

fills : (d room capacity : ℕ) → room ≡ capacity - d → 1 ≤ room → d + room ≡ capacity
fills d room capacity e l = omega (arith, e, l)

module _ (shape : Shape) (offers : ℕ → List ℕ) (wants : ℕ → ℕ) (h : List Event) (puts : Puts) (takes : Takes) (run : IsRun shape h puts takes)
    (law : LawOfSpans shape h puts takes) where
  abbrev Here : ℕ → ℕ → ℕ → List Event → Kept → Type 0
  Here = Now shape offers wants h puts takes

  -- what the producer's next event records
  abbrev told : ℕ → List calls.Event
  told p = put_told shape offers 0 first_count puts.puts puts.closes p

  -- when a put begins that will store fewer items than it is offered
  lacks :
      (c : Count) (stored : List ℕ) (x : Put) (more : List Put) (t p ended inside : ℕ) → (b : PutsBehind shape offers puts c p stored (x ∷ more)) → IsPlaceOf P h p t →
      counts_ended (take_spans shape takes) (clock C h t) ≡ ended → length stored ≤ ended + inside → p + put_long shape c x ≤ length (subhistory P h) →
      length (put_items x) < length (offers b.made) → capacity_of shape ≤ inside + length (put_items x)
  lacks c stored (Stored seen items) more t p ended inside b place e l over fewer =
      let y = span_of P shape c (look seen (Passes items)) in
      let st = stands_at (put_spans shape puts) (p + 0) p (length stored + 0) (length stored) y (omega arith) (omega arith) (b.spans_are.stands 0 0 y (inl (refl, refl, refl))) in
      let n : ℕ = c.number % modulus_of shape in
      let first : items ≡ take (room_in shape n seen) (offers b.made) = b.offered.1 in
      let room : length items ≡ room_in shape n seen = ap length first ∙ took_all (room_in shape n seen) (offers b.made) (omega (arith, fewer, ap length first)) in
      let fill : distance (modulus_of shape) n seen + length items ≡ capacity_of shape = fills (distance (modulus_of shape) n seen) (length items) (capacity_of shape) room b.are.0.2.some in
      let fill' = ap (λ m. distance (modulus_of shape) (m % modulus_of shape) seen + length items) (sym b.number) ∙ fill in
      let low = law.fill p (length stored) y st fill' (omega (arith, over, long_is shape c seen items)) t place in
      omega (arith, low, e, l)
  lacks c stored (Full seen) more t p ended inside b place e l over fewer =
      let y = span_of P shape c (look seen Stops) in
      let st = stands_at (put_spans shape puts) (p + 0) p (length stored + 0) (length stored) y (omega arith) (omega arith) (b.spans_are.stands 0 0 y (inl (refl, refl, refl))) in
      grind arith

  -- a put begins
  put_begins :
      (t p q : ℕ) (e : Event) (rest : List Event) (k : Kept) → e.side ≡ P → (now : Here t p q (e ∷ rest) k) →
      (c : Count) (x : Put) (more : List Put) → PutsBehind shape offers puts c p now.stored (x ∷ more) → now.left ≡ [] → k.put ≡ Free →
      Stepped shape offers wants h puts takes (suc t) (suc p) q rest k (told p)
  put_begins t p q e rest k by now c x more b none free =
      let items : List ℕ = offers b.made in
      let two = put_two shape c x in
      let view = take_view shape wants h takes q now.taken k.take run.takes_follow.are now.take in
      let here : p ≡ p + 0 = omega arith in
      let past : before_close shape puts ≡ p + events_in (put_phrases shape c (x ∷ more)) = b.all in
      let some : put_long shape c x ≤ events_in (put_phrases shape c (x ∷ more)) = omega (arith, length-append (put_phrase shape c x) (put_phrases shape (stored_after shape c x) more)) in
      let opened : k.shut ≡ false = by_case k.shut (λ s. absurd (omega (arith, now.shut s, past))) (λ s. s) in
      let same : now.taken ++ k.inside ≡ now.stored = now.items ∙ ap (λ l. now.stored ++ l) none ∙ append-nil now.stored in
      by_events shape offers wants h puts takes (suc t) (suc p) q rest k (PutBegin items ∷ []) (told p)
      (ap told here ∙ b.told 0 ∙ told_first (put_long shape c x) (PutBegin items) (put_answer x) _ (omega (arith, two)))
      (record {
        after = kept (k.inside ++ items) (Offers (length items) (length k.inside)) k.take false;
        moves = (free, b.offered.0, inl (opened, refl));
        now = record {
          stored = now.stored;
          left = items;
          taken = now.taken;
          moment = past_p h t p q e rest by now.moment;
          put = inr (inl (record {
            of = record {
              count = c;
              start = p;
              call = x;
              rest = more;
              before = length k.inside;
              behind = b;
              left_is = refl;
              put_is = refl;
              no_room = λ over fewer.
                  lacks c now.stored x more t p (counts_ended (take_spans shape takes) q) (length k.inside) b (place_p h t p q e rest by now.moment)
                  (ap (counts_ended (take_spans shape takes)) (at_q h t p q (e ∷ rest) now.moment))
                  (omega (arith, view.ended, ap length same, length-append now.taken k.inside)) over fewer;
            };
            begun = omega arith;
            not_ended = omega (arith, two);
          }));
          take = now.take;
          items = sym (append_assoc now.taken k.inside items) ∙ ap (λ l. l ++ items) same;
          shut = λ s. absurd (cc);
          closed = λ l. absurd (omega (arith, l, past, some, two));
        };
      })

  -- the close begins
  close_begins :
      (t p q : ℕ) (e : Event) (rest : List Event) (k : Kept) → e.side ≡ P → (now : Here t p q (e ∷ rest) k) →
      (c : Count) → PutsBehind shape offers puts c p now.stored [] → now.left ≡ [] → k.put ≡ Free →
      Stepped shape offers wants h puts takes (suc t) (suc p) q rest k (told p)
  close_begins t p q e rest k by now c b none free =
      let here : p ≡ p + 0 = omega arith in
      let closes : puts.closes ≡ true = grind (arith, next_p, few_puts) in
      by_events shape offers wants h puts takes (suc t) (suc p) q rest k (CloseBegin ∷ []) (told p)
      (ap told here ∙ b.told 0 ∙ ap (λ d. put_told shape offers b.made c [] d 0) closes ∙ told_first (events_in (close_phrase true)) CloseBegin CloseEnd [] (omega arith))
      (record {
        after = kept k.inside (Closes k.shut) k.take k.shut;
        moves = (free, refl);
        now = record {
          stored = now.stored;
          left = now.left;
          taken = now.taken;
          moment = past_p h t p q e rest by now.moment;
          put = inr (inr (inl (record { past = record { count = c; start = p; behind = b; place_is = omega arith; left_is = none }; closes = closes; again = k.shut; put_is = refl })));
          take = now.take;
          items = now.items;
          shut = λ s. absurd (omega (arith, now.shut s, b.all));
          closed = λ l. absurd (omega (arith, l, b.all));
        };
      })

  -- it ends
  close_ends :
      (t p q : ℕ) (e : Event) (rest : List Event) (k : Kept) → e.side ≡ P → (now : Here t p q (e ∷ rest) k) →
      PutCloses shape offers puts p now.stored now.left k.put → Stepped shape offers wants h puts takes (suc t) (suc p) q rest k (told p)
  close_ends t p q e rest k by now r =
      let b = r.behind in
      by_events shape offers wants h puts takes (suc t) (suc p) q rest k (CloseEnd ∷ []) (told p)
      (ap told r.place_is ∙ b.told 1 ∙ ap (λ d. put_told shape offers b.made r.count [] d 1) r.closes ∙
      last_told (events_in (close_phrase true)) CloseBegin CloseEnd 1 [] (omega arith) (omega arith))
      (record {
        after = kept k.inside Free k.take true;
        moves = (r.again, r.put_is, refl);
        now = record {
          stored = now.stored;
          left = now.left;
          taken = now.taken;
          moment = past_p h t p q e rest by now.moment;
          put = inr (inr (inr (record { past = record { count = r.count; start = r.start; behind = b; place_is = omega (arith, r.place_is); left_is = r.left_is }; put_is = refl })));
          take = now.take;
          items = now.items;
          shut = λ s. (omega (arith, r.place_is, b.all), inl (omega (arith, r.place_is, b.all)));
          closed = λ l. refl;
        };
      })

  -- an event within a put records nothing
  put_goes_on :
      (t p q : ℕ) (e : Event) (rest : List Event) (k : Kept) → e.side ≡ P → (now : Here t p q (e ∷ rest) k) →
      (r : PutRuns shape offers h puts p now.stored now.left k.put) → suc p < r.start + put_long shape r.count r.call →
      Stepped shape offers wants h puts takes (suc t) (suc p) q rest k (told p)
  put_goes_on t p q e rest k by now r l =
      let j : ℕ = p - r.start in
      let on : p ≡ r.start + j = omega (arith, r.begun) in
      by_events shape offers wants h puts takes (suc t) (suc p) q rest k [] (told p)
      (ap told on ∙ r.behind.told j ∙ between_told (put_long shape r.count r.call) (PutBegin (offers r.behind.made)) (put_answer r.call) j _ (omega (arith, r.begun)) (omega (arith, l, r.begun)))
      (record {
        after = k;
        moves = refl;
        now = record {
          stored = now.stored;
          left = now.left;
          taken = now.taken;
          moment = past_p h t p q e rest by now.moment;
          put = inr (inl (record { of = r.of; begun = omega (arith, r.begun); not_ended = l }));
          take = now.take;
          items = now.items;
          shut = λ s. absurd (omega (arith, (now.shut s).0, r.behind.all, r.not_ended, length-append (put_phrase shape r.count r.call) (put_phrases shape (stored_after shape r.count r.call) r.rest)));
          closed = λ c. absurd (omega (arith, c, r.behind.all, l, length-append (put_phrase shape r.count r.call) (put_phrases shape (stored_after shape r.count r.call) r.rest)));
        };
      })

  -- the state after a put ends: the items that it did not store are dropped
  record PutLeft (t p q : ℕ) (rest : List Event) (k : Kept) (stored left items : List ℕ) : Type 0 where
    pub ends : EndsPut (exactly (capacity_of shape)) k (length left - length items) (kept (without (length left - length items) k.inside) Free k.take k.shut)
    pub now : Here t p q rest (kept (without (length left - length items) k.inside) Free k.take k.shut)

  put_leaves :
      (t p q : ℕ) (e : Event) (rest : List Event) (k : Kept) → e.side ≡ P → (now : Here t p q (e ∷ rest) k) →
      (r : PutRuns shape offers h puts p now.stored now.left k.put) → suc p ≡ r.start + put_long shape r.count r.call →
      PutLeft (suc t) (suc p) q rest k now.stored now.left (put_items r.call)
  put_leaves t p q e rest k by now r stop =
      let items : List ℕ = put_items r.call in
      let after : List ℕ = now.stored ++ items in
      let m = past_p h t p q e rest by now.moment in
      let view = take_view shape wants h takes q now.taken k.take run.takes_follow.are now.take in
      let next = puts_past shape offers puts r.count r.start (suc p) now.stored r.call r.rest stop r.behind in
      let (gone, left_is) = first_stored shape r.count.number (offers r.behind.made) r.call r.behind.offered.1 in
      let (a, taken_first) = view.first in
      let (b, prefix) = prefix_at shape h puts takes law (suc t) (suc p) q rest m in
      let all : (now.taken ++ a) ++ b ≡ after =
      ap (λ l. l ++ b) taken_first ∙ prefix ∙ begun_here (batch_of shape) (put_spans shape puts) (suc p) after _ next.spans_are in
      let inside : now.taken ++ k.inside ≡ now.taken ++ ((a ++ b) ++ gone) = grind (arith, append_assoc) in
      let inside_is : k.inside ≡ (a ++ b) ++ gone = append_cancel_left now.taken k.inside ((a ++ b) ++ gone) inside in
      let long : length k.inside ≡ length (a ++ b) + length gone = ap length inside_is ∙ length-append (a ++ b) gone in
      let over : length now.left ≡ length items + length gone = ap length (r.left_is ∙ sym left_is) ∙ length-append items gone in
      let kept_is : without (length now.left - length items) k.inside ≡ a ++ b =
      (let so_many : length k.inside - (length now.left - length items) ≡ length (a ++ b) = omega (arith, long, over) in
      ap (λ n. take n k.inside) so_many ∙ ap (take (length (a ++ b))) inside_is ∙ take-append_seam (a ++ b) gone) in
      let within = within_at shape h puts takes law (suc t) (suc p) q rest m in
      let counted = counted_here (batch_of shape) (put_spans shape puts) (suc p) after _ next.spans_are in
      let sizes : length now.taken + length (a ++ b) ≡ length after = grind (arith, length-append, append_assoc) in
      record {
        ends = ((omega (arith, long, over), omega (arith, long, over, within, counted, sizes, view.begun)), refl);
        now = record {
          stored = after;
          left = [];
          taken = now.taken;
          moment = m;
          put = inl (record { count = stored_after shape r.count r.call; rest = r.rest; behind = next; left_is = refl; put_is = refl });
          take = now.take;
          items = ap (λ l. now.taken ++ l) kept_is ∙ sym (append_assoc now.taken a b) ∙ all ∙ sym (append-nil after);
          shut = λ s. absurd (omega (arith, (now.shut s).0, r.behind.all, r.not_ended, length-append (put_phrase shape r.count r.call) (put_phrases shape (stored_after shape r.count r.call) r.rest)));
          closed = λ c. absurd (omega (arith, c, r.behind.all, stop, length-append (put_phrase shape r.count r.call) (put_phrases shape (stored_after shape r.count r.call) r.rest)));
        };
      }

  -- the last event of a put records its end
  put_told_end :
      (t p q : ℕ) (rest : List Event) (k : Kept) (stored left : List ℕ) (c : Count) (start before : ℕ) (x : Put) (more : List Put) →
      PutsBehind shape offers puts c start stored (x ∷ more) → k.put ≡ Offers (length left) before → 0 < length left → length (put_items x) ≤ length left →
      (length (put_items x) < length left → capacity_of shape ≤ before + length (put_items x)) → PutLeft t p q rest k stored left (put_items x) →
      Stepped shape offers wants h puts takes t p q rest k (put_answer x ∷ [])
  put_told_end t p q rest k stored left c start before (Stored seen items) more b offered some few lacks r = grind (arith, length, take, may_lack_more, lacks)
  put_told_end t p q rest k stored left c start before (Full seen) more b offered some few lacks r = grind (arith, length, take, lacks)

  put_ends :
      (t p q : ℕ) (e : Event) (rest : List Event) (k : Kept) → e.side ≡ P → (now : Here t p q (e ∷ rest) k) →
      (r : PutRuns shape offers h puts p now.stored now.left k.put) → suc p ≡ r.start + put_long shape r.count r.call →
      Stepped shape offers wants h puts takes (suc t) (suc p) q rest k (told p)
  put_ends t p q e rest k by now r stop =
      let j : ℕ = p - r.start in
      let on : p ≡ r.start + j = omega (arith, r.begun) in
      let (gone, left_is) = first_stored shape r.count.number (offers r.behind.made) r.call r.behind.offered.1 in
      let size = ap length (r.left_is ∙ sym left_is) ∙ length-append (put_items r.call) gone in
      by_events shape offers wants h puts takes (suc t) (suc p) q rest k (put_answer r.call ∷ []) (told p)
      (ap told on ∙ r.behind.told j ∙ last_told (put_long shape r.count r.call) (PutBegin (offers r.behind.made)) (put_answer r.call) j _ (omega (arith, r.begun)) (omega (arith, stop, r.begun)))
      (put_told_end (suc t) (suc p) q rest k now.stored now.left r.count r.start r.before r.call r.rest r.behind r.put_is
      (omega (arith, r.behind.offered.0, ap length r.left_is)) (omega (arith, size)) (r.no_room (omega (arith, stop, next_p h t p q e rest by now.moment)))
      (put_leaves t p q e rest k by now r stop))

  put_idle :
      (t p q : ℕ) (e : Event) (rest : List Event) (k : Kept) → e.side ≡ P → (now : Here t p q (e ∷ rest) k) →
      (c : Count) (more : List Put) → PutsBehind shape offers puts c p now.stored more → now.left ≡ [] → k.put ≡ Free →
      Stepped shape offers wants h puts takes (suc t) (suc p) q rest k (told p)
  put_idle t p q e rest k by now c [] b none free = close_begins t p q e rest k by now c b none free
  put_idle t p q e rest k by now c (x ∷ more) b none free = put_begins t p q e rest k by now c x more b none free

  pub put_step :
      (t p q : ℕ) (e : Event) (rest : List Event) (k : Kept) → e.side ≡ P → Here t p q (e ∷ rest) k → Stepped shape offers wants h puts takes (suc t) (suc p) q rest k (told p)
  put_step t p q e rest k by now = elim now.put [
    | inl r ↦ put_idle t p q e rest k by now r.count r.rest r.behind r.left_is r.put_is
    | inr (inl r) ↦ elim (at_most_or_above (r.start + put_long shape r.count r.call) (suc p)) [
      | inl l ↦ put_ends t p q e rest k by now r (omega (arith, l, r.not_ended))
      | inr l ↦ put_goes_on t p q e rest k by now r l
    ]
    | inr (inr (inl r)) ↦ close_ends t p q e rest k by now r
    | inr (inr (inr r)) ↦ absurd (grind (arith, r.place_is, r.behind.all, next_p h t p q e rest by now.moment, few_puts shape h puts run.puts_follow))
  ]
