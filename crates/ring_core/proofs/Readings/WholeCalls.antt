-- Complete calls: all their items are put or taken, and are counted by count writes that have begun.
use Rattle.std.proofs.Common.{◌≡◌, ℕ, zero, ◌+◌, ◌-◌, ◌≤◌, Bool, nat_lt, if◌then◌else◌, List, [], ◌∷◌, ◌++◌, length, refl, arith, length-append}
use Rattle.std.proofs.lemmas.Bool.{cond-true, lt-ltb}
use Rattle.ring_core.proofs.Common.{Shape, Made, Count, IsCount, events_in, all_taken}
use Rattle.ring_core.specs.Takes.{Take, End, Item, ItemAfterClose, Empty, count_after, words_read, items_phrase, take_phrase, take_phrases, IsTakeBatch, AreTakes}
use Rattle.ring_core.proofs.EndedCounts.{take_before_count, taken_begun, takes_begun_is}
use Rattle.ring_core.specs.Whole.{WholePutsCount, WholeTakesCount}
use Rattle.ring_core.proofs.CountRow.{batch_below, take_batch_below, first_is_count, counted_is_count, batch_long}
use Rattle.ring_core.proofs.Machines.Following.{length-events}
use Rattle.ring_core.proofs.Readings.Over.{taken_all}
use Rattle.ring_core.proofs.OverSpans.Looks.{puts_items, all_proper, puts_pass}
use Rattle.ring_core.proofs.RingHolds.{all_is, put_total}
use Rattle.ring_core.proofs.OverSpans.Timeline.{all_begun}

either : (t : Bool) (n : ℕ) → (if t then n else n) ≡ n
either t n = grind arith

-- ---- takes

two_parts : (x y : List Made) (t : ℕ) → events_in (x ++ y) ≤ t → (events_in x ≤ t) × (events_in y ≤ t - events_in x)
two_parts x y t l = (omega (arith, l, length-append x y), omega (arith, l, length-append x y))

-- after a complete take its items are counted
counted_first : (shape : Shape) (c : Count) (items : List ℕ) (looks : List Made) (t more : ℕ) (all : List ℕ) → IsCount shape c → IsTakeBatch shape items →
    events_in (looks ++ items_phrase shape c items) ≤ t → more ≡ length all →
    (if nat_lt (events_in (looks ++ words_read shape c.number items)) t then length items else 0) + more ≡ length (items ++ all)
counted_first shape c items looks t more all is batch whole rest = grind (arith, cond-true, lt-ltb, length-append, batch_long, take_batch_below)

pub all-counted : (shape : Shape) (c : Count) (takes : List Take) (end : End) (t : ℕ) → IsCount shape c → AreTakes shape c.number takes end →
    events_in (take_phrases shape c takes) ≤ t → taken_begun shape c takes t ≡ length (all_taken takes)
all-counted shape c [] end t is are l = refl
all-counted shape c (Item seen items ∷ takes) end t is ((sees, batch), are) l =
    let x : Take = Item seen items in
    let parts = two_parts (take_phrase shape c x) (take_phrases shape (count_after shape c x) takes) t l in
    search (arith, counted_first, all-counted shape (count_after shape c x) takes end (t - events_in (take_phrase shape c x)) (counted_is_count shape c items) are parts.1)
all-counted shape c (ItemAfterClose seen again items ∷ takes) end t is ((none, sees, batch), are) l =
    let x : Take = ItemAfterClose seen again items in
    let parts = two_parts (take_phrase shape c x) (take_phrases shape (count_after shape c x) takes) t l in
    search (arith, counted_first, all-counted shape (count_after shape c x) takes end (t - events_in (take_phrase shape c x)) (counted_is_count shape c items) are parts.1)
all-counted shape c (Empty seen ∷ takes) end t is (none, are) l =
    let x : Take = Empty seen in
    let next : Count = count_after shape c x in
    let parts = two_parts (take_phrase shape c x) (take_phrases shape next takes) t l in
    omega (arith, either (nat_lt (events_in (take_before_count shape c x)) t) zero, all-counted shape next takes end (t - events_in (take_phrase shape c x)) is are parts.1)

pub whole-takes : WholeTakesCount
whole-takes shape h calls are is = grind (arith, length-events, length-append, taken_all, takes_begun_is, all-counted, first_is_count)

-- ---- puts

pub whole-puts : WholePutsCount
whole-puts shape h calls are is = search (arith, all_proper, batch_below, first_is_count, puts_pass, put_total, length-events, length-append, puts_items, all_begun, all_is)
