-- The calls count and take what their spans do.
use Rattle.std.proofs.Common.{◌≡◌, ℕ, zero, suc, ◌+◌, ◌-◌, Bool, true, false, if◌then◌else◌, List, [], ◌∷◌, ◌++◌, refl, ap, arith, length-append, ◌≤◌, inl, inr}
use Rattle.ring_core.proofs.Common.{nat_tests, P, C, Shape, Count, Take, Item, ItemAfterClose, Empty, End, taken_in, count_after, take_phrase, events_in}
use Rattle.register_core.specs.ScanState.{row_read_by}
use Rattle.ring_core.specs.Puts.{Put, Stored, Full, stored_in, stored_after}
use Rattle.ring_core.proofs.Machines.Lengths.{length-scan}
use Rattle.ring_core.proofs.OverSpans.Timeline.{ended_past}
use Rattle.ring_core.proofs.OverSpans.Spans.{Span, Passes, Stops, Asks, whole, counts_begun, counts_ended, sizes, tally, IsSpanAt, counts}
use Rattle.ring_core.proofs.OverSpans.LookSpans.{look, put_looks, take_looks, span_of, spans}
use Rattle.ring_core.proofs.EndedCounts.{stored_ended, taken_begun, none_or as no_count}
use Rattle.ring_core.proofs.CountRow.{past_is}
use Rattle.ring_core.proofs.OverSpans.CallSpans.{put_phrase-stored, take_phrase-item, take_phrase-after, take_phrase-empty}

-- equal counts under the same test, before equal counts
same_count : (a b : Bool) (n l m : ℕ) → a ≡ b → l ≡ m → (if a then n else 0) + l ≡ (if b then n else 0) + m
same_count a b n l m e f = cc

-- the puts that have ended
pub stored_ended_is : (shape : Shape) (c : Count) (puts : List Put) (t : ℕ) → stored_ended shape c puts t ≡ counts_ended (spans P shape c (put_looks puts)) t
stored_ended_is shape c [] t = refl
stored_ended_is shape c (Stored seen items ∷ puts) t =
    grind (arith, put_phrase-stored, same_count, stored_ended_is shape (stored_after shape c (Stored seen items)) puts (t - whole (span_of P shape c (look seen (Passes items)))))
stored_ended_is shape c (Full seen ∷ puts) t = grind (arith, same_count, stored_ended_is shape c puts (t - whole (span_of P shape c (look seen Stops))))

-- the takes whose count write has begun
pub taken_begun_is :
    (shape : Shape) (c : Count) (takes : List Take) (end : End) (t : ℕ) → taken_begun shape c takes t ≡ counts_begun (spans C shape c (take_looks takes end)) t
taken_begun_is shape c [] end t = grind (arith, no_count)
taken_begun_is shape c (Item seen items ∷ takes) end t =
    grind (arith, length-append, take_phrase-item, same_count, taken_begun_is shape (count_after shape c (Item seen items)) takes end (t - whole (span_of C shape c (look seen (Passes items)))))
taken_begun_is shape c (ItemAfterClose seen again items ∷ takes) end t =
    let x : Take = ItemAfterClose seen again items in
    let next : Count = count_after shape c x in
    let y : Span = span_of C shape c (look seen (Asks true)) in
    let z : Span = span_of C shape c (look again (Passes items)) in
    grind (arith, take_looks, length-append, take_phrase-after, same_count, no_count, taken_begun_is shape next takes end (t - whole y - whole z), nat_tests)
taken_begun_is shape c (Empty seen ∷ takes) end t =
    grind (arith, take_phrase-empty shape c seen, taken_begun_is shape c takes end (t - whole (span_of C shape c (look seen (Asks false)))))

-- ---- what the first count writes count

pub put_tally :
    (shape : Shape) (c : Count) (puts : List Put) (w : ℕ) →
    (before : List Put) × (after : List Put) × (puts ≡ before ++ after) × (c.number + tally (sizes (spans P shape c (put_looks puts))) w ≡ stored_in c.number before)
put_tally shape c [] w = ([], [], refl, omega arith)
put_tally shape c (Stored seen items ∷ puts) zero = ([], Stored seen items ∷ puts, refl, omega arith)
put_tally shape c (Stored seen items ∷ puts) (suc w) =
    let next : Count = stored_after shape c (Stored seen items) in
    let (before, after, e, f) = put_tally shape next puts w in
    (Stored seen items ∷ before, after, ap (λ l. Stored seen items ∷ l) e, omega (arith, f, past_is c.number items))
put_tally shape c (Full seen ∷ puts) w =
    let (before, after, e, f) = put_tally shape c puts w in
    (Full seen ∷ before, after, ap (λ l. Full seen ∷ l) e, f)

pub take_tally :
    (shape : Shape) (c : Count) (takes : List Take) (end : End) (w : ℕ) →
    (before : List Take) × (after : List Take) × (takes ≡ before ++ after) × (c.number + tally (sizes (spans C shape c (take_looks takes end))) w ≡ taken_in c.number before)
take_tally shape c [] end w = grind arith
take_tally shape c (Item seen items ∷ takes) end zero = ([], Item seen items ∷ takes, refl, omega arith)
take_tally shape c (Item seen items ∷ takes) end (suc w) =
    let (before, after, e, f) = take_tally shape (count_after shape c (Item seen items)) takes end w in
    (Item seen items ∷ before, after, ap (λ l. Item seen items ∷ l) e, omega (arith, f, past_is c.number items))
take_tally shape c (ItemAfterClose seen again items ∷ takes) end zero = ([], ItemAfterClose seen again items ∷ takes, refl, omega arith)
take_tally shape c (ItemAfterClose seen again items ∷ takes) end (suc w) =
    let (before, after, e, f) = take_tally shape (count_after shape c (ItemAfterClose seen again items)) takes end w in
    (ItemAfterClose seen again items ∷ before, after, ap (λ l. ItemAfterClose seen again items ∷ l) e, omega (arith, f, past_is c.number items))
take_tally shape c (Empty seen ∷ takes) end w =
    let (before, after, e, f) = take_tally shape c takes end w in
    (Empty seen ∷ before, after, ap (λ l. Empty seen ∷ l) e, f)

-- ---- spans that have ended

-- items of spans that have ended are counted
pub ended_counts : (xs : List Span) (s n : ℕ) (x : Span) (i : ℕ) → IsSpanAt xs s n x → s + whole x ≤ i → n + counts x.outcome ≤ counts_ended xs i
ended_counts [] s n x i st l = elim st [ ]
ended_counts (y ∷ ys) s n x i (inl st) l = grind (arith, ended_past)
ended_counts (y ∷ ys) s n x i (inr st) l = grind (arith, ended_past, ended_counts ys st.0 st.1 x (i - whole y) st.4 (omega (arith, l, st.2)))

-- a take has events
pub phrase_some : (shape : Shape) (c : Count) (x : Take) → 1 ≤ events_in (take_phrase shape c x)
phrase_some shape c (Item seen items) = omega (arith, take_phrase-item shape c seen items, length-scan (row_read_by C) seen)
phrase_some shape c (ItemAfterClose seen again items) = omega (arith, take_phrase-after shape c seen again items, length-scan (row_read_by C) seen)
phrase_some shape c (Empty seen) = omega (arith, take_phrase-empty shape c seen, length-scan (row_read_by C) seen)
