-- Where each side is in its calls, with an auditor's state for it.
use Rattle.std.proofs.Common.{◌≡◌, ◌⊎◌, inl, inr, ℕ, ◌+◌, ◌-◌, ◌<◌, ◌≤◌, ◌%◌, Bool, true, false, List, [], ◌∷◌, ◌++◌, length, refl, sym, ap, subst, ◌∙◌, arith, append_assoc, append-nil, length-append, take-append-drop}
use Rattle.queue_calls.specs.State.{offered_by, asked_by}
use Rattle.queue_calls.specs.declared.turns.PutTurn.{PutTurn}
use Rattle.queue_calls.specs.declared.turns.PutTurn.TheVariants.{Free, Offers, Closes}
use Rattle.queue_calls.specs.declared.turns.TakeTurn.{TakeTurn}
use Rattle.queue_calls.specs.declared.turns.TakeTurn.TheVariants.{Rests, Waits}
use Rattle.ring_core.proofs.Common.{P, C, Shape, batch_of, capacity_of, modulus_of, take_batch_of, subhistory, IsPrefix, Count, first_count, Take, End, Closed, Takes, take_program, AreTakes, IsTakeOf}
use Rattle.ring_core.proofs.Common.{events_in, all_put, taken_of}
use Rattle.bits_core.specs.declared.events.Event.{Event}
use Rattle.ring_core.specs.Puts.{Put, Stored, Full, Puts, put_phrases, IsPutOf, room_in}
use Rattle.ring_core.proofs.OverSpans.Spans.{Passes, Stops, counts_begun, counts_ended, begun_items, ended_items}
use Rattle.ring_core.proofs.OverSpans.LookSpans.{look, take_looks, span_of, spans, put_spans, take_spans}
use Rattle.ring_core.proofs.OverSpans.Looks.{proper_takes}
use Rattle.ring_core.proofs.OverSpans.Timeline.{begun_up, length-begun_items}
use Rattle.ring_core.proofs.Linear.PutTurns.{put_long}
use Rattle.ring_core.proofs.Linear.PutTurnFacts.{long_is}
use Rattle.ring_core.proofs.Linear.TakeTurns.{take_long, end_long}
use Rattle.ring_core.proofs.Recorded.RecordedSpans.{passed_begun, passed_ended, begun_here, counted_here, begun_within}
use Rattle.ring_core.proofs.Recorded.RecordedCalls.{put_items, PutsBehind, TakesBehind, takes_past}

-- the events of all puts
abbrev pub before_close : Shape → Puts → ℕ
before_close shape puts = events_in (put_phrases shape first_count puts.puts)

-- ---- the producer

-- after p of its own events it is in no call; these items were stored
pub record PutIdle (shape : Shape) (offers : ℕ → List ℕ) (puts : Puts) (p : ℕ) (stored left : List ℕ) (put : PutTurn) : Type 0 where
  pub count : Count
  pub rest : List Put
  pub behind : PutsBehind shape offers puts count p stored rest
  pub left_is : left ≡ []
  pub put_is : put ≡ Free

-- a put, which is offered the items left. If that ends with fewer, there was no room for one more than it stored.
pub record PutOffers (shape : Shape) (offers : ℕ → List ℕ) (h : List Event) (puts : Puts) (stored left : List ℕ) (put : PutTurn) : Type 0 where
  pub count : Count
  pub start : ℕ
  pub call : Put
  pub rest : List Put
  pub before : ℕ
  pub behind : PutsBehind shape offers puts count start stored (call ∷ rest)
  pub left_is : left ≡ offers behind.made
  pub put_is : put ≡ Offers (length left) before
  pub no_room :
      start + put_long shape count call ≤ length (subhistory P h) → length (put_items call) < length left → capacity_of shape ≤ before + length (put_items call)

-- it is in one
pub record PutRuns (shape : Shape) (offers : ℕ → List ℕ) (h : List Event) (puts : Puts) (p : ℕ) (stored left : List ℕ) (put : PutTurn) : Type 0 where
  pub of : PutOffers shape offers h puts stored left put
  pub open of use *
  pub begun : start < p
  pub not_ended : p < start + put_long shape count call

-- it is past all puts, with this many of its own events in its close
pub record PastPuts (shape : Shape) (offers : ℕ → List ℕ) (puts : Puts) (p made : ℕ) (stored left : List ℕ) : Type 0 where
  pub count : Count
  pub start : ℕ
  pub behind : PutsBehind shape offers puts count start stored []
  pub place_is : p ≡ start + made
  pub left_is : left ≡ []

-- it is in its close
pub record PutCloses (shape : Shape) (offers : ℕ → List ℕ) (puts : Puts) (p : ℕ) (stored left : List ℕ) (put : PutTurn) : Type 0 where
  pub past : PastPuts shape offers puts p 1 stored left
  pub open past use *
  pub closes : puts.closes ≡ true
  pub again : Bool
  pub put_is : put ≡ Closes again

-- its close has ended
pub record PutClosed (shape : Shape) (offers : ℕ → List ℕ) (puts : Puts) (p : ℕ) (stored left : List ℕ) (put : PutTurn) : Type 0 where
  pub past : PastPuts shape offers puts p 2 stored left
  pub open past use *
  pub put_is : put ≡ Free

abbrev pub PutAt : Shape → (ℕ → List ℕ) → List Event → Puts → ℕ → (stored left : List ℕ) → PutTurn → Type 0
PutAt shape offers h puts p stored left put =
    PutIdle shape offers puts p stored left put ⊎ PutRuns shape offers h puts p stored left put ⊎ PutCloses shape offers puts p stored left put ⊎
    PutClosed shape offers puts p stored left put

-- it is past all puts: in the close or after it
abbrev pub IsClosing : Shape → Puts → ℕ → PutTurn → Type 0
IsClosing shape puts p put = ((again : Bool) × (put ≡ Closes again)) ⊎ ((before_close shape puts + 2 ≤ p) × (put ≡ Free))

-- what the consumer's steps need to know about it
pub record PutView (shape : Shape) (puts : Puts) (p : ℕ) (stored left : List ℕ) (put : PutTurn) : Type 0 where
  pub begun : IsPrefix (begun_items (put_spans shape puts) p) (stored ++ left)
  pub few : length stored ≤ counts_begun (put_spans shape puts) p
  pub ended : length stored ≤ counts_ended (put_spans shape puts) p
  pub left_by : offered_by put ≡ length left
  pub over : before_close shape puts < p → (left ≡ []) × (stored ≡ all_put puts.puts) × IsClosing shape puts p put

-- a put's items are the first of those that it is offered
pub first_stored : (shape : Shape) (n : ℕ) (items : List ℕ) (x : Put) → IsPutOf shape n items x → IsPrefix (put_items x) items
first_stored shape n items (Stored seen stored) e = grind (arith, take-append-drop (room_in shape (n % modulus_of shape) seen) items)
first_stored shape n items (Full seen) e = (items, refl)

pub longer : (a b whole : List ℕ) → IsPrefix a b → IsPrefix b whole → IsPrefix a whole
longer a b whole (more, e) (rest, f) = (more ++ rest, sym (append_assoc a more rest) ∙ ap (λ l. l ++ rest) e ∙ f)

pub begun_behind : (front a b : List ℕ) → IsPrefix a b → IsPrefix (front ++ a) (front ++ b)
begun_behind front a b (more, e) = (more, append_assoc front a more ∙ ap (λ l. front ++ l) e)

put_within :
    (shape : Shape) (offers : ℕ → List ℕ) (puts : Puts) (c : Count) (start : ℕ) (stored : List ℕ) (x : Put) (rest : List Put) (p : ℕ) → start ≤ p →
    p ≤ start + put_long shape c x → PutsBehind shape offers puts c start stored (x ∷ rest) → IsPrefix (begun_items (put_spans shape puts) p) (stored ++ put_items x)
put_within shape offers puts c start stored (Stored seen items) rest p l m b =
    begun_within (batch_of shape) (put_spans shape puts) start stored (span_of P shape c (look seen (Passes items))) _ p l (omega (arith, m, long_is shape c seen items)) b.spans_are
put_within shape offers puts c start stored (Full seen) rest p l m b =
    begun_within (batch_of shape) (put_spans shape puts) start stored (span_of P shape c (look seen Stops)) _ p l (omega (arith, m)) b.spans_are

idle_view : (shape : Shape) (offers : ℕ → List ℕ) (puts : Puts) (p : ℕ) (stored left : List ℕ) (put : PutTurn) →
    PutIdle shape offers puts p stored left put → PutView shape puts p stored left put
idle_view shape offers puts p stored left put r = record {
  begun = (left, ap (λ l. l ++ left) (begun_here (batch_of shape) (put_spans shape puts) p stored _ r.behind.spans_are));
  few = passed_begun (batch_of shape) (put_spans shape puts) p stored _ p (omega arith) r.behind.spans_are;
  ended = passed_ended (batch_of shape) (put_spans shape puts) p stored _ p (omega arith) r.behind.spans_are;
  left_by = ap offered_by r.put_is ∙ sym (ap length r.left_is);
  over = λ l. absurd (omega (arith, l, r.behind.all));
}

runs_view : (shape : Shape) (offers : ℕ → List ℕ) (h : List Event) (puts : Puts) (p : ℕ) (stored left : List ℕ) (put : PutTurn) →
    PutRuns shape offers h puts p stored left put → PutView shape puts p stored left put
runs_view shape offers h puts p stored left put r =
    let b = r.behind in
    let before : r.start ≤ p = omega (arith, r.begun) in
    record {
      begun =
          longer (begun_items (put_spans shape puts) p) (stored ++ put_items r.call) (stored ++ left)
          (put_within shape offers puts r.count r.start stored r.call r.rest p before (omega (arith, r.not_ended)) b)
          (begun_behind stored (put_items r.call) left (subst (IsPrefix (put_items r.call)) (sym r.left_is) (first_stored shape r.count.number (offers r.behind.made) r.call b.offered.1)));
      few = passed_begun (batch_of shape) (put_spans shape puts) r.start stored _ p before b.spans_are;
      ended = passed_ended (batch_of shape) (put_spans shape puts) r.start stored _ p before b.spans_are;
      left_by = ap offered_by r.put_is;
      over = λ l. grind (arith, length-append);
    }

-- after all puts
last_view :
    (shape : Shape) (offers : ℕ → List ℕ) (puts : Puts) (c : Count) (start : ℕ) (p : ℕ) (stored left : List ℕ) (put : PutTurn) → start ≤ p →
    PutsBehind shape offers puts c start stored [] → left ≡ [] → offered_by put ≡ 0 → IsClosing shape puts p put → PutView shape puts p stored left put
last_view shape offers puts c start p stored left put l b none free closing =
    let on : p ≡ start + (p - start) = omega (arith, l) in
    record {
      begun = (left, ap (λ l. l ++ left) (ap (begun_items (put_spans shape puts)) on ∙ b.spans_are.begun (p - start) ∙ append-nil stored));
      few = passed_begun (batch_of shape) (put_spans shape puts) start stored [] p l b.spans_are;
      ended = passed_ended (batch_of shape) (put_spans shape puts) start stored [] p l b.spans_are;
      left_by = free ∙ sym (ap length none);
      over = λ _. (none, sym (b.items ∙ append-nil stored), closing);
    }

pub put_view : (shape : Shape) (offers : ℕ → List ℕ) (h : List Event) (puts : Puts) (p : ℕ) (stored left : List ℕ) (put : PutTurn) →
    PutAt shape offers h puts p stored left put → PutView shape puts p stored left put
put_view shape offers h puts p stored left put (inl r) = idle_view shape offers puts p stored left put r
put_view shape offers h puts p stored left put (inr (inl r)) = runs_view shape offers h puts p stored left put r
put_view shape offers h puts p stored left put (inr (inr (inl r))) =
    last_view shape offers puts r.count r.start p stored left put (omega (arith, r.place_is)) r.behind r.left_is (ap offered_by r.put_is) (inl (r.again, r.put_is))
put_view shape offers h puts p stored left put (inr (inr (inr r))) =
    grind (
      arith,
      last_view shape offers puts r.count r.start p stored left put (omega (arith, r.place_is)) r.behind r.left_is (ap offered_by r.put_is)
          (inr (omega (arith, r.place_is, r.behind.all), r.put_is)),
    )

-- ---- the consumer

-- after q of its own events it is in no call; these items were taken
pub record TakeIdle (shape : Shape) (wants : ℕ → ℕ) (takes : Takes) (q : ℕ) (taken : List ℕ) (take : TakeTurn) : Type 0 where
  pub count : Count
  pub rest : List Take
  pub behind : TakesBehind shape wants takes count q taken rest
  pub take_is : take ≡ Rests

-- it is in a call that began after this many of its own events and that these takes follow
pub record InCall (shape : Shape) (wants : ℕ → ℕ) (takes : Takes) (left : List Take) (taken : List ℕ) (take : TakeTurn) : Type 0 where
  pub count : Count
  pub start : ℕ
  pub before : ℕ
  pub shut : Bool
  pub behind : TakesBehind shape wants takes count start taken left
  pub take_is : take ≡ Waits (wants behind.made) before shut

-- it is in a take. If that ends with fewer items than it asks for, no more were inside when it began; and if it ends with none, the ring
-- was open.
pub record TakeRuns (shape : Shape) (wants : ℕ → ℕ) (h : List Event) (takes : Takes) (q : ℕ) (taken : List ℕ) (take : TakeTurn) : Type 0 where
  pub call : Take
  pub rest : List Take
  pub inside : InCall shape wants takes (call ∷ rest) taken take
  pub open inside use *
  pub begun : start < q
  pub not_ended : q < start + take_long shape count call
  pub no_more : start + take_long shape count call ≤ length (subhistory C h) → length (taken_of call) < wants behind.made → before ≤ length (taken_of call)
  pub open_then : start + take_long shape count call ≤ length (subhistory C h) → taken_of call ≡ [] → shut ≡ false

-- it is in the take that returns Closed
pub record TakeEnds (shape : Shape) (wants : ℕ → ℕ) (takes : Takes) (q : ℕ) (taken : List ℕ) (take : TakeTurn) : Type 0 where
  pub seen : ℕ
  pub again : ℕ
  pub inside : InCall shape wants takes [] taken take
  pub open inside use *
  pub end_is : takes.end ≡ Closed seen again
  pub begun : start < q
  pub not_ended : q < start + end_long seen again

-- that take has ended
pub record TakeOver (shape : Shape) (wants : ℕ → ℕ) (takes : Takes) (q : ℕ) (taken : List ℕ) (take : TakeTurn) : Type 0 where
  pub count : Count
  pub start : ℕ
  pub behind : TakesBehind shape wants takes count start taken []
  pub begun : start ≤ q
  pub ended : events_in (take_program shape takes) ≤ q
  pub take_is : take ≡ Rests

abbrev pub TakeAt : Shape → (ℕ → ℕ) → List Event → Takes → ℕ → List ℕ → TakeTurn → Type 0
TakeAt shape wants h takes q taken take =
    TakeIdle shape wants takes q taken take ⊎ TakeRuns shape wants h takes q taken take ⊎ TakeEnds shape wants takes q taken take ⊎
    TakeOver shape wants takes q taken take

-- what the producer's steps need to know about it
pub record TakeView (shape : Shape) (takes : Takes) (q : ℕ) (taken : List ℕ) (take : TakeTurn) : Type 0 where
  pub begun : counts_begun (take_spans shape takes) q ≤ length taken + asked_by take
  pub ended : length taken ≤ counts_ended (take_spans shape takes) q
  pub first : IsPrefix taken (ended_items (take_spans shape takes) q)

first_taken :
    (shape : Shape) (wants : ℕ → ℕ) (takes : Takes) (c : Count) (start : ℕ) (taken : List ℕ) (rest : List Take) (q : ℕ) → start ≤ q →
    TakesBehind shape wants takes c start taken rest → IsPrefix taken (ended_items (take_spans shape takes) q)
first_taken shape wants takes c start taken rest q l b =
    let on : q ≡ start + (q - start) = omega (arith, l) in
    (ended_items (spans C shape c (take_looks rest takes.end)) (q - start), sym (ap (ended_items (take_spans shape takes)) on ∙ b.spans_are.ended (q - start)))

-- a take takes no more than it asks for
pub few_items : (shape : Shape) (k wanted : ℕ) (x : Take) → IsTakeOf shape k wanted x → length (taken_of x) ≤ wanted
few_items shape k wanted x e = grind arith

-- the take that returns Closed counts nothing
end_begun : (shape : Shape) (c : Count) (end : End) (j : ℕ) → begun_items (spans C shape c (take_looks [] end)) j ≡ []
end_begun shape c end j = grind arith

over_begun :
    (shape : Shape) (wants : ℕ → ℕ) (takes : Takes) (c : Count) (start : ℕ) (taken : List ℕ) (q : ℕ) → start ≤ q → TakesBehind shape wants takes c start taken [] →
    counts_begun (take_spans shape takes) q ≤ length taken
over_begun shape wants takes c start taken q l b =
    grind (arith, end_begun shape c takes.end (q - start), append-nil taken, length-begun_items (take_spans shape takes) q)

pub take_view : (shape : Shape) (wants : ℕ → ℕ) (h : List Event) (takes : Takes) (q : ℕ) (taken : List ℕ) (take : TakeTurn) → AreTakes shape 0 takes.takes takes.end →
    TakeAt shape wants h takes q taken take → TakeView shape takes q taken take
take_view shape wants h takes q taken take are (inl r) =
    grind (arith, counted_here, take_spans shape takes, passed_ended, first_taken shape wants takes r.count q taken r.rest q (omega arith) r.behind)
take_view shape wants h takes q taken take are (inr (inl r)) =
    let most : ℕ = take_batch_of shape in
    let stop : ℕ = r.start + take_long shape r.count r.call in
    let next = takes_past shape wants takes r.count r.start stop taken r.call r.rest refl r.behind in
    let asked : asked_by take ≡ wants r.behind.made = ap asked_by r.take_is in
    record {
      begun = omega (
        arith,
        asked,
        counted_here most (take_spans shape takes) stop (taken ++ taken_of r.call) _ next.spans_are,
        length-append taken (taken_of r.call),
        few_items shape r.count.number (wants r.behind.made) r.call r.behind.wanted.0,
        begun_up most (take_spans shape takes) (proper_takes shape takes are) q stop (omega (arith, r.not_ended)),
      );
      ended = passed_ended most (take_spans shape takes) r.start taken _ q (omega (arith, r.begun)) r.behind.spans_are;
      first = first_taken shape wants takes r.count r.start taken (r.call ∷ r.rest) q (omega (arith, r.begun)) r.behind;
    }
take_view shape wants h takes q taken take are (inr (inr (inl r))) = record {
  begun = omega (arith, over_begun shape wants takes r.count r.start taken q (omega (arith, r.begun)) r.behind);
  ended = passed_ended (take_batch_of shape) (take_spans shape takes) r.start taken _ q (omega (arith, r.begun)) r.behind.spans_are;
  first = first_taken shape wants takes r.count r.start taken [] q (omega (arith, r.begun)) r.behind;
}
take_view shape wants h takes q taken take are (inr (inr (inr r))) =
    search (arith, over_begun shape wants takes r.count r.start taken q r.begun r.behind, passed_ended, take_spans shape takes, first_taken shape wants takes r.count r.start taken)
