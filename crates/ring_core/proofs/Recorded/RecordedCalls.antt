-- The calls of each side after its first ones: what their own events record.
use Rattle.std.proofs.Common.{◌≡◌, ℕ, suc, ◌+◌, ◌<◌, Bool, true, false, if◌then◌else◌, List, [], ◌∷◌, ◌++◌, length, refl, sym, ap, subst, ◌∙◌, arith, append_assoc, append-nil, length-append}
use Rattle.ring_core.proofs.Common.{lt-ltb, eq-eqb, P, C, Shape, batch_of, take_batch_of, Count, first_count, Take, Item, ItemAfterClose, Empty, End, Takes, taken_after, count_after, take_phrase}
use Rattle.ring_core.proofs.Common.{take_phrases, end_phrase, take_program, AreTakes, events_in, all_put, taken_of, call_told, told_or_behind, put_told, take_told, AreOffered, AreWanted}
use Rattle.queue_calls.specs.Calls as calls
use Rattle.ring_core.specs.Puts.{Put, Stored, Full, Puts, number_after, stored_after, put_phrase, put_phrases, ArePuts}
use Rattle.ring_core.proofs.OverSpans.Spans.{Span, Passes, Stops, Asks, whole}
use Rattle.ring_core.proofs.OverSpans.Timeline.{AllProper}
use Rattle.ring_core.proofs.OverSpans.LookSpans.{look, put_looks, take_looks, span_of, spans, put_spans, take_spans}
use Rattle.ring_core.proofs.OverSpans.Looks.{proper_puts, proper_takes}
use Rattle.ring_core.proofs.CountRow.{past_is}
use Rattle.ring_core.proofs.OverSpans.CallSpans.{take_phrase-item, take_phrase-after, take_phrase-empty, stands_at}
pub use Rattle.ring_core.proofs.OverSpans.CallSpans.{put_items}
use Rattle.ring_core.proofs.Linear.PutTurns.{put_long}
use Rattle.ring_core.proofs.Linear.PutTurnFacts.{long_is}
use Rattle.ring_core.proofs.Linear.TakeTurns.{take_long}
use Rattle.ring_core.proofs.Recorded.RecordedSpans.{SpansBehind, spans_past}
use Rattle.ring_core.proofs.Recorded.TellsByOne.{behind_told}

-- ---- what the events of one call record

told_in : (long : ℕ) (begins ends : calls.Event) (i : ℕ) (behind : List calls.Event) → i < long → told_or_behind long begins ends i behind ≡ call_told long begins ends i
told_in long begins ends i behind l = ap (λ (b : Bool). if b then call_told long begins ends i else behind) (lt-ltb i long l)

-- the first records the start
pub told_first : (long : ℕ) (begins ends : calls.Event) (behind : List calls.Event) → 0 < long → told_or_behind long begins ends 0 behind ≡ begins ∷ []
told_first long begins ends behind l = grind (arith, told_in, eq-eqb)

-- ---- the calls of a side

-- After the first calls of a side, whose number, number of events and items are given, come others: these are their spans, and
-- this is what their events record, by how many calls there were before.
pub record CallsBehind (most : ℕ) (all : List Span) (tell : ℕ → List calls.Event) (start : ℕ) (passed : List ℕ) (rest : List Span) (rest_tell : ℕ → ℕ → List calls.Event) (n : ℕ) : Type 0 where
  pub spans_are : SpansBehind most all start passed rest
  pub made : ℕ
  pub told : (j : ℕ) → tell (start + j) ≡ rest_tell made j
  pub number : n ≡ length passed

-- after none
spans_first : (most : ℕ) (all : List Span) → AllProper most all → SpansBehind most all 0 [] all
spans_first most all proper = grind (arith, stands_at)

abbrev calls_first :
    (most : ℕ) (all : List Span) (tells : ℕ → ℕ → List calls.Event) → AllProper most all → CallsBehind most all (tells 0) 0 [] all tells 0
calls_first most all tells proper = record {
  spans_are = spans_first most all proper;
  made = 0;
  told = λ j. (let same : 0 + j ≡ j = omega arith in ap (tells 0) same);
  number = refl;
}

-- and after one more call, with its number of events and its items
abbrev calls_past :
    (most : ℕ) (all : List Span) (tell : ℕ → List calls.Event) (start stop long : ℕ) (passed items : List ℕ) (rest rest' : List Span) (tells tells' : ℕ → ℕ → List calls.Event) (n n' : ℕ) →
    CallsBehind most all tell start passed rest tells n → stop ≡ start + long → SpansBehind most all (start + long) (passed ++ items) rest' →
    ((made j : ℕ) → tells made (long + j) ≡ tells' (suc made) j) → n' ≡ length (passed ++ items) → CallsBehind most all tell stop (passed ++ items) rest' tells' n'
calls_past most all tell start stop long passed items rest rest' tells tells' n n' b e spans_are past number = record {
  spans_are = subst (λ s. SpansBehind most all s (passed ++ items) rest') (sym e) spans_are;
  made = suc b.made;
  told = λ j. (let on : stop + j ≡ start + (long + j) = omega (arith, e) in ap tell on ∙ b.told (long + j) ∙ past b.made j);
  number = number;
}

-- ---- puts

-- what the events of puts record, after a number of them
abbrev puts_tell : Shape → (ℕ → List ℕ) → Puts → Count → List Put → ℕ → ℕ → List calls.Event
puts_tell shape offers puts c rest made j = put_told shape offers made c rest puts.closes j

-- after the first of all puts, which stored these items, come the rest
pub record PutsBehind (shape : Shape) (offers : ℕ → List ℕ) (puts : Puts) (c : Count) (start : ℕ) (stored : List ℕ) (rest : List Put) : Type 0 where
  pub calls :
      CallsBehind (batch_of shape) (put_spans shape puts) (puts_tell shape offers puts first_count puts.puts 0) start stored (spans P shape c (put_looks rest))
      (puts_tell shape offers puts c rest) c.number
  pub open calls use *
  pub are : ArePuts shape c.number rest
  pub offered : AreOffered shape offers made c.number rest
  pub all : events_in (put_phrases shape first_count puts.puts) ≡ start + events_in (put_phrases shape c rest)
  pub items : all_put puts.puts ≡ stored ++ all_put rest

pub puts_first : (shape : Shape) (offers : ℕ → List ℕ) (puts : Puts) → ArePuts shape 0 puts.puts → AreOffered shape offers 0 0 puts.puts →
    PutsBehind shape offers puts first_count 0 [] puts.puts
puts_first shape offers puts are offered =
    let behind = calls_first (batch_of shape) (put_spans shape puts) (puts_tell shape offers puts first_count puts.puts) (proper_puts shape puts are) in
    record { calls = behind; are = are; offered = offered; all = omega arith; items = refl }

put_told_past : (shape : Shape) (offers : ℕ → List ℕ) (made : ℕ) (c : Count) (x : Put) (rest : List Put) (closes : Bool) (j : ℕ) →
    put_told shape offers made c (x ∷ rest) closes (put_long shape c x + j) ≡ put_told shape offers (suc made) (stored_after shape c x) rest closes j
put_told_past shape offers made c x rest closes j = grind (arith, put_long, behind_told)

put_spans_past : (shape : Shape) (puts : Puts) (c : Count) (start : ℕ) (stored : List ℕ) (x : Put) (rest : List Put) →
    SpansBehind (batch_of shape) (put_spans shape puts) start stored (spans P shape c (put_looks (x ∷ rest))) →
    SpansBehind (batch_of shape) (put_spans shape puts) (start + put_long shape c x) (stored ++ put_items x) (spans P shape (stored_after shape c x) (put_looks rest))
put_spans_past shape puts c start stored (Stored seen items) rest b =
    search (arith, spans_past, span_of P shape c (look seen (Passes items)), long_is shape c seen items)
put_spans_past shape puts c start stored (Full seen) rest b =
    spans_past (batch_of shape) (put_spans shape puts) start (start + put_long shape c (Full seen)) stored (span_of P shape c (look seen Stops)) _ (omega arith) b

number_past : (n : ℕ) (stored : List ℕ) (x : Put) → n ≡ length stored → number_after n x ≡ length (stored ++ put_items x)
number_past n stored x e = grind (arith, past_is, length-append, append-nil)

items_past : (stored : List ℕ) (x : Put) (rest : List Put) → stored ++ all_put (x ∷ rest) ≡ (stored ++ put_items x) ++ all_put rest
items_past stored x rest = grind (arith, append_assoc, append-nil)

-- after one more put
pub puts_past : (shape : Shape) (offers : ℕ → List ℕ) (puts : Puts) (c : Count) (start stop : ℕ) (stored : List ℕ) (x : Put) (rest : List Put) →
    stop ≡ start + put_long shape c x →
    PutsBehind shape offers puts c start stored (x ∷ rest) → PutsBehind shape offers puts (stored_after shape c x) stop (stored ++ put_items x) rest
puts_past shape offers puts c start stop stored x rest e b =
    let behind = calls_past _ _ _ start stop (put_long shape c x) stored (put_items x) _ _ (puts_tell shape offers puts c (x ∷ rest)) (puts_tell shape offers puts (stored_after shape c x) rest) _ _ b.calls e
    (put_spans_past shape puts c start stored x rest b.spans_are) (λ made j. put_told_past shape offers made c x rest puts.closes j) (number_past c.number stored x b.number) in
    record {
      calls = behind;
      are = b.are.1;
      offered = b.offered.2;
      all = omega (arith, e, b.all, length-append (put_phrase shape c x) (put_phrases shape (stored_after shape c x) rest));
      items = b.items ∙ items_past stored x rest;
    }

-- ---- takes

-- what the events of takes record, after a number of them
abbrev takes_tell : Shape → (ℕ → ℕ) → Takes → Count → List Take → ℕ → ℕ → List calls.Event
takes_tell shape wants takes c rest made j = take_told shape wants made c rest takes.end j

-- after the first of all takes, which took these items, come the rest
pub record TakesBehind (shape : Shape) (wants : ℕ → ℕ) (takes : Takes) (c : Count) (start : ℕ) (taken : List ℕ) (rest : List Take) : Type 0 where
  pub calls :
      CallsBehind (take_batch_of shape) (take_spans shape takes) (takes_tell shape wants takes first_count takes.takes 0) start taken (spans C shape c (take_looks rest takes.end))
      (takes_tell shape wants takes c rest) c.number
  pub open calls use *
  pub are : AreTakes shape c.number rest takes.end
  pub wanted : AreWanted shape wants made c.number rest
  pub among : length takes.takes ≡ made + length rest
  pub all : events_in (take_program shape takes) ≡ start + events_in (take_phrases shape c rest ++ end_phrase takes.end)

pub takes_first : (shape : Shape) (wants : ℕ → ℕ) (takes : Takes) → AreTakes shape 0 takes.takes takes.end → AreWanted shape wants 0 0 takes.takes →
    TakesBehind shape wants takes first_count 0 [] takes.takes
takes_first shape wants takes are wanted =
    let behind = calls_first (take_batch_of shape) (take_spans shape takes) (takes_tell shape wants takes first_count takes.takes) (proper_takes shape takes are) in
    record { calls = behind; are = are; wanted = wanted; among = omega arith; all = omega arith }

take_told_past : (shape : Shape) (wants : ℕ → ℕ) (made : ℕ) (c : Count) (x : Take) (rest : List Take) (end : End) (j : ℕ) →
    take_told shape wants made c (x ∷ rest) end (take_long shape c x + j) ≡ take_told shape wants (suc made) (count_after shape c x) rest end j
take_told_past shape wants made c x rest end j = grind (arith, take_long, behind_told)

take_spans_past : (shape : Shape) (takes : Takes) (c : Count) (start : ℕ) (taken : List ℕ) (x : Take) (rest : List Take) →
    SpansBehind (take_batch_of shape) (take_spans shape takes) start taken (spans C shape c (take_looks (x ∷ rest) takes.end)) →
    SpansBehind (take_batch_of shape) (take_spans shape takes) (start + take_long shape c x) (taken ++ taken_of x) (spans C shape (count_after shape c x) (take_looks rest takes.end))
take_spans_past shape takes c start taken (Item seen items) rest b =
    search (arith, spans_past, span_of C shape c (look seen (Passes items)), take_phrase-item shape c seen items)
take_spans_past shape takes c start taken (ItemAfterClose seen again items) rest b =
    let most : ℕ = take_batch_of shape in
    let next : Count = count_after shape c (ItemAfterClose seen again items) in
    let y = span_of C shape c (look seen (Asks true)) in
    let z = span_of C shape c (look again (Passes items)) in
    let one = spans_past most (take_spans shape takes) start (start + whole y) taken y (z ∷ spans C shape next (take_looks rest takes.end)) refl b in
    let two = spans_past most (take_spans shape takes) (start + whole y) (start + take_long shape c (ItemAfterClose seen again items)) (taken ++ []) z _
    (omega (arith, take_phrase-after shape c seen again items)) one in
    grind (arith, take_long, take_looks, append-nil)
take_spans_past shape takes c start taken (Empty seen) rest b =
    search (arith, spans_past, span_of C shape c (look seen (Asks false)), take_phrase-empty shape c seen)

taken_past : (k : ℕ) (taken : List ℕ) (x : Take) → k ≡ length taken → taken_after k x ≡ length (taken ++ taken_of x)
taken_past k taken x e = grind (arith, past_is, length-append, append-nil)

-- after one more take
pub takes_past : (shape : Shape) (wants : ℕ → ℕ) (takes : Takes) (c : Count) (start stop : ℕ) (taken : List ℕ) (x : Take) (rest : List Take) →
    stop ≡ start + take_long shape c x →
    TakesBehind shape wants takes c start taken (x ∷ rest) → TakesBehind shape wants takes (count_after shape c x) stop (taken ++ taken_of x) rest
takes_past shape wants takes c start stop taken x rest e b =
    let behind = calls_past _ _ _ start stop (take_long shape c x) taken (taken_of x) _ _ (takes_tell shape wants takes c (x ∷ rest)) (takes_tell shape wants takes (count_after shape c x) rest) _ _ b.calls e
    (take_spans_past shape takes c start taken x rest b.spans_are) (λ made j. take_told_past shape wants made c x rest takes.end j) (taken_past c.number taken x b.number) in
    let more = take_phrases shape (count_after shape c x) rest in
    record {
      calls = behind;
      are = b.are.1;
      wanted = b.wanted.1;
      among = omega (arith, b.among);
      all = omega (
        arith,
        e,
        b.all,
        length-append (take_phrase shape c x ++ more) (end_phrase takes.end),
        length-append (take_phrase shape c x) more,
        length-append more (end_phrase takes.end),
      );
    }
