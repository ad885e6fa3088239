-- Each call has the spans of its looks, and they are at its own events.
use Rattle.std.proofs.Common.{◌≡◌, inl, inr, ℕ, ◌+◌, true, false, List, [], ◌∷◌, ◌++◌, length, refl, ap, subst, ◌∙◌, arith, length-append}
use Rattle.ring_core.proofs.Common.{Side, P, C, X, Shape, number_past, Count, first_count, batch_phrase, Take, Item, ItemAfterClose, Empty, End, Takes, taken_in, count_after, taken_count, take_phrase}
use Rattle.ring_core.proofs.Common.{take_phrases, events_in, IsPutAt, IsTakeAt, scan_events}
use Rattle.bits_core.specs.Made.{Made, Read}
use Rattle.register_core.specs.ScanState.{scan_phrase, row_read_by}
use Rattle.ring_core.specs.Puts.{Put, Stored, Full, Puts, stored_in, stored_after, stored_count, words_phrase, put_phrase, put_phrases}
use Rattle.ring_core.proofs.OverSpans.Spans.{Span, Outcome, Passes, Stops, Asks, counts, whole, IsSpanAt}
use Rattle.ring_core.proofs.OverSpans.LookSpans.{Look, look, put_looks, take_looks, span_of, spans, put_spans, take_spans}
use Rattle.ring_core.proofs.CountRow.{past_is}
use Rattle.ring_core.proofs.Machines.PutCalls as put
use Rattle.ring_core.proofs.Machines.TakeCalls as take

-- the same, for equal numbers
pub stands_at : (xs : List Span) (s s' n n' : ℕ) (x : Span) → s ≡ s' → n ≡ n' → IsSpanAt xs s n x → IsSpanAt xs s' n' x
stands_at xs s s' n n' x e f st = subst (λ i. IsSpanAt xs i n' x) e (subst (λ j. IsSpanAt xs s j x) f st)

-- after a first span
stands_behind : (y : Span) (ys : List Span) (s n s' n' : ℕ) (x : Span) → s' ≡ whole y + s → n' ≡ counts y.outcome + n → IsSpanAt ys s n x → IsSpanAt (y ∷ ys) s' n' x
stands_behind y ys s n s' n' x e f st = inr (s, n, e, f, st)

pub three : (a b d : List Made) → length ((a ++ b) ++ d) ≡ length a + length b + length d
three a b d = omega (arith, length-append (a ++ b) d, length-append a b)

-- ---- puts

-- what a put's scan returns
abbrev pub put_seen : Put → ℕ
put_seen (Stored seen items) = seen
put_seen (Full seen) = seen

-- the items that it stores
abbrev pub put_items : Put → List ℕ
put_items (Stored seen items) = items
put_items (Full seen) = []

-- how many items puts store
abbrev pub put_counts : List Put → ℕ
put_counts [] = 0
put_counts (Stored seen items ∷ puts) = length items + put_counts puts
put_counts (Full seen ∷ puts) = put_counts puts

pub stored_is : (n : ℕ) (puts : List Put) → stored_in n puts ≡ n + put_counts puts
stored_is n [] = omega arith
stored_is n (Stored seen items ∷ puts) = omega (arith, stored_is (number_past n items) puts, past_is n items)
stored_is n (Full seen ∷ puts) = stored_is n puts

-- the accesses of a put that stores, by its span
pub put_phrase-stored :
    (shape : Shape) (c : Count) (seen : ℕ) (items : List ℕ) → events_in (put_phrase shape c (Stored seen items)) ≡ whole (span_of P shape c (look seen (Passes items)))
put_phrase-stored shape c seen items = omega (arith, three (scan_phrase (row_read_by P) seen) (words_phrase shape c.number items) (batch_phrase shape P c items))

-- what is in the spans of puts is in those of more puts, after the events and the items of the earlier ones
pub behind_puts :
    (shape : Shape) (c : Count) (before rest : List Put) (s n : ℕ) (x : Span) →
    IsSpanAt (spans P shape (stored_count shape c before) (put_looks rest)) s n x →
    IsSpanAt (spans P shape c (put_looks (before ++ rest))) (events_in (put_phrases shape c before) + s) (put_counts before + n) x
behind_puts shape c [] rest s n x st = stands_at (spans P shape c (put_looks rest)) s (0 + s) n (0 + n) x (omega arith) (omega arith) st
behind_puts shape c (Stored seen items ∷ before) rest s n x st =
    grind (arith, stands_behind, length-append, put_phrase-stored, behind_puts shape (stored_after shape c (Stored seen items)) before rest s n x st)
behind_puts shape c (Full seen ∷ before) rest s n x st = grind (arith, stands_behind, length-append, behind_puts shape c before rest s n x st)

-- the span of a look that is there
pub record HasSpan (s : Side) (xs : List Span) (n start stop seen : ℕ) (outcome : Outcome) : Type 0 where
  pub span : Span
  pub stands : IsSpanAt xs start n span
  pub seen_is : span.seen ≡ seen
  pub outcome_is : span.outcome ≡ outcome
  pub scan_is : span.scan ≡ scan_events s seen
  pub stop_is : stop ≡ start + whole span

-- that of a look that is there
has_span :
    (s : Side) (shape : Shape) (c : Count) (l : Look) (xs : List Span) (n start stop : ℕ) → IsSpanAt xs start n (span_of s shape c l) →
    stop ≡ start + whole (span_of s shape c l) → HasSpan s xs n start stop l.seen l.outcome
has_span s shape c l xs n start stop st e = grind arith

-- the events of puts and of one more
put_phrases-push :
    (shape : Shape) (c : Count) (before : List Put) (x : Put) →
    length (put_phrases shape c (before ++ x ∷ [])) ≡ length (put_phrases shape c before) + length (put_phrase shape (stored_count shape c before) x)
put_phrases-push shape c before x = ap length (put.phrases-push shape c before x) ∙ length-append (put_phrases shape c before) (put_phrase shape (stored_count shape c before) x)

abbrev pub put_outcome : Put → Outcome
put_outcome (Stored seen items) = Passes items
put_outcome (Full seen) = Stops

first_stands : (y : Span) (ys : List Span) → IsSpanAt (y ∷ ys) 0 0 y
first_stands y ys = inl (refl, refl, refl)

-- each put has its span, which is at its own events
pub put_has_span :
    (shape : Shape) (calls : Puts) (x : Put) (n start stop : ℕ) → IsPutAt shape calls x n start stop →
    HasSpan P (put_spans shape calls) n start stop (put_seen x) (put_outcome x)
put_has_span shape calls (Stored seen items) n start stop r =
    let c : Count = stored_count shape first_count r.before in
    let y : Span = span_of P shape c (look seen (Passes items)) in
    let ys : List Span = spans P shape (stored_after shape c (Stored seen items)) (put_looks r.after) in
    let st = behind_puts shape first_count r.before (Stored seen items ∷ r.after) 0 0 y (first_stands y ys) in
    has_span P shape c (look seen (Passes items)) (put_spans shape calls) n start stop
    (rw r.among (stands_at _ _ start _ n y (omega (arith, r.starts)) (omega (arith, r.number, stored_is 0 r.before)) st))
    (omega (arith, r.starts, r.stops, put_phrases-push shape first_count r.before (Stored seen items), put_phrase-stored shape c seen items))
put_has_span shape calls (Full seen) n start stop r =
    let c : Count = stored_count shape first_count r.before in
    let y : Span = span_of P shape c (look seen Stops) in
    let ys : List Span = spans P shape c (put_looks r.after) in
    let st = behind_puts shape first_count r.before (Full seen ∷ r.after) 0 0 y (first_stands y ys) in
    has_span P shape c (look seen Stops) (put_spans shape calls) n start stop
    (rw r.among (stands_at _ _ start _ n y (omega (arith, r.starts)) (omega (arith, r.number, stored_is 0 r.before)) st))
    (omega (arith, r.starts, r.stops, put_phrases-push shape first_count r.before (Full seen)))

-- ---- takes

abbrev pub take_counts : List Take → ℕ
take_counts [] = 0
take_counts (Item seen items ∷ takes) = length items + take_counts takes
take_counts (ItemAfterClose seen again items ∷ takes) = length items + take_counts takes
take_counts (Empty seen ∷ takes) = take_counts takes

pub taken_is : (k : ℕ) (takes : List Take) → taken_in k takes ≡ k + take_counts takes
taken_is k [] = omega arith
taken_is k (Item seen items ∷ takes) = omega (arith, taken_is (number_past k items) takes, past_is k items)
taken_is k (ItemAfterClose seen again items ∷ takes) = omega (arith, taken_is (number_past k items) takes, past_is k items)
taken_is k (Empty seen ∷ takes) = taken_is k takes

-- the number of the count after takes
pub taken_number : (shape : Shape) (c : Count) (takes : List Take) → (taken_count shape c takes).number ≡ taken_in c.number takes
taken_number shape c [] = refl
taken_number shape c (x ∷ takes) = taken_number shape (count_after shape c x) takes

-- and after puts
pub stored_number : (shape : Shape) (c : Count) (puts : List Put) → (stored_count shape c puts).number ≡ stored_in c.number puts
stored_number shape c [] = refl
stored_number shape c (x ∷ puts) = stored_number shape (stored_after shape c x) puts

-- the accesses of a take, by the spans of its looks
pub take_phrase-item :
    (shape : Shape) (c : Count) (seen : ℕ) (items : List ℕ) → events_in (take_phrase shape c (Item seen items)) ≡ whole (span_of C shape c (look seen (Passes items)))
take_phrase-item shape c seen items = grind (arith, length-append)

pub take_phrase-after :
    (shape : Shape) (c : Count) (seen again : ℕ) (items : List ℕ) →
    events_in (take_phrase shape c (ItemAfterClose seen again items)) ≡
    whole (span_of C shape c (look seen (Asks true))) + whole (span_of C shape c (look again (Passes items)))
take_phrase-after shape c seen again items = grind (arith, length-append)

pub take_phrase-empty :
    (shape : Shape) (c : Count) (seen : ℕ) → events_in (take_phrase shape c (Empty seen)) ≡ whole (span_of C shape c (look seen (Asks false)))
take_phrase-empty shape c seen = omega (arith, length-append (scan_phrase (row_read_by C) seen) (Read X false ∷ []))

pub behind_takes :
    (shape : Shape) (c : Count) (before rest : List Take) (end : End) (s n : ℕ) (x : Span) →
    IsSpanAt (spans C shape (taken_count shape c before) (take_looks rest end)) s n x →
    IsSpanAt (spans C shape c (take_looks (before ++ rest) end)) (events_in (take_phrases shape c before) + s) (take_counts before + n) x
behind_takes shape c [] rest end s n x st = stands_at (spans C shape c (take_looks rest end)) s (0 + s) n (0 + n) x (omega arith) (omega arith) st
behind_takes shape c (Item seen items ∷ before) rest end s n x st =
    grind (arith, stands_behind, take_looks, length-append, take_phrase-item, behind_takes shape (count_after shape c (Item seen items)) before rest end s n x st)
behind_takes shape c (ItemAfterClose seen again items ∷ before) rest end s n x st =
    let next : Count = count_after shape c (ItemAfterClose seen again items) in
    let z : Span = span_of C shape c (look again (Passes items)) in
    let zs : List Span = spans C shape next (take_looks (before ++ rest) end) in
    let s' : ℕ = whole z + (events_in (take_phrases shape next before) + s) in
    let n' : ℕ = length items + (take_counts before + n) in
    stands_behind (span_of C shape c (look seen (Asks true))) (z ∷ zs) s' n' _ _ x
    (omega (arith, length-append (take_phrase shape c (ItemAfterClose seen again items)) (take_phrases shape next before), take_phrase-after shape c seen again items))
    (omega arith)
    (stands_behind z zs (events_in (take_phrases shape next before) + s) (take_counts before + n) s' n' x refl (omega arith)
    (behind_takes shape next before rest end s n x st))
behind_takes shape c (Empty seen ∷ before) rest end s n x st = search (arith, stands_behind, take_looks, length-append, take_phrase-empty, behind_takes shape c before rest end s n x st)

take_phrases-push :
    (shape : Shape) (c : Count) (before : List Take) (x : Take) →
    length (take_phrases shape c (before ++ x ∷ [])) ≡ length (take_phrases shape c before) + length (take_phrase shape (taken_count shape c before) x)
take_phrases-push shape c before x = ap length (take.phrases-push shape c before x) ∙ length-append (take_phrases shape c before) (take_phrase shape (taken_count shape c before) x)

-- where the second scan of a take begins: after its first scan, which returned seen, and the read of the close bit
abbrev pub second_scan : ℕ → ℕ → ℕ
second_scan start seen = start + events_in (scan_phrase (row_read_by C) seen ++ Read X true ∷ [])

-- the same, by the span of its first look
second_is : (shape : Shape) (c : Count) (seen start : ℕ) → second_scan start seen ≡ start + whole (span_of C shape c (look seen (Asks true)))
second_is shape c seen start = omega (arith, length-append (scan_phrase (row_read_by C) seen) (Read X true ∷ []))

-- a take that takes items at once
pub item_has_span :
    (shape : Shape) (calls : Takes) (seen : ℕ) (items : List ℕ) (k start stop : ℕ) → IsTakeAt shape calls (Item seen items) k start stop →
    HasSpan C (take_spans shape calls) k start stop seen (Passes items)
item_has_span shape calls seen items k start stop r =
    let c : Count = taken_count shape first_count r.before in
    let y : Span = span_of C shape c (look seen (Passes items)) in
    let ys : List Span = spans C shape (count_after shape c (Item seen items)) (take_looks r.after calls.end) in
    let st = behind_takes shape first_count r.before (Item seen items ∷ r.after) calls.end 0 0 y (first_stands y ys) in
    has_span C shape c (look seen (Passes items)) (take_spans shape calls) k start stop
    (rw r.among (stands_at _ _ start _ k y (omega (arith, r.starts)) (omega (arith, r.number, taken_is 0 r.before)) st))
    (omega (arith, r.starts, r.stops, take_phrases-push shape first_count r.before (Item seen items), take_phrase-item shape c seen items))

-- one that finds the ring empty
pub empty_has_span :
    (shape : Shape) (calls : Takes) (seen k start stop : ℕ) → IsTakeAt shape calls (Empty seen) k start stop →
    HasSpan C (take_spans shape calls) k start stop seen (Asks false)
empty_has_span shape calls seen k start stop r =
    let c : Count = taken_count shape first_count r.before in
    let y : Span = span_of C shape c (look seen (Asks false)) in
    let ys : List Span = spans C shape c (take_looks r.after calls.end) in
    let st = behind_takes shape first_count r.before (Empty seen ∷ r.after) calls.end 0 0 y (first_stands y ys) in
    has_span C shape c (look seen (Asks false)) (take_spans shape calls) k start stop
    (rw r.among (stands_at _ _ start _ k y (omega (arith, r.starts)) (omega (arith, r.number, taken_is 0 r.before)) st))
    (omega (arith, r.starts, r.stops, take_phrases-push shape first_count r.before (Empty seen), take_phrase-empty shape c seen))

-- one that takes items by a second scan
pub after_has_second :
    (shape : Shape) (calls : Takes) (seen again : ℕ) (items : List ℕ) (k start stop : ℕ) → IsTakeAt shape calls (ItemAfterClose seen again items) k start stop →
    HasSpan C (take_spans shape calls) k (second_scan start seen) stop again (Passes items)
after_has_second shape calls seen again items k start stop r =
    let c : Count = taken_count shape first_count r.before in
    let y : Span = span_of C shape c (look seen (Asks true)) in
    let z : Span = span_of C shape c (look again (Passes items)) in
    let zs : List Span = spans C shape (count_after shape c (ItemAfterClose seen again items)) (take_looks r.after calls.end) in
    let st = behind_takes shape first_count r.before (ItemAfterClose seen again items ∷ r.after) calls.end (whole y) 0 z
    (stands_behind y (z ∷ zs) 0 0 (whole y) 0 z (omega arith) (omega arith) (first_stands z zs)) in
    let second = second_is shape c seen start in
    has_span C shape c (look again (Passes items)) (take_spans shape calls) k (second_scan start seen) stop
    (rw r.among (stands_at _ _ (second_scan start seen) _ k z (omega (arith, r.starts, second)) (omega (arith, r.number, taken_is 0 r.before)) st))
    (omega (arith, r.starts, r.stops, take_phrases-push shape first_count r.before (ItemAfterClose seen again items), take_phrase-after shape c seen again items, second))
