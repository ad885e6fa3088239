-- The operations of the consumer's calls, with their numbers: their order, and what holds for each in a run.
use Rattle.std.proofs.Common.{◌≡◌, inl, inr, ℕ, suc, ◌+◌, ◌-◌, ◌<◌, ◌≤◌, Bool, true, nat_lt, nat_le, if◌then◌else◌, Some, List, [], ◌∷◌, ◌++◌, length, drop, refl, ap, ap₂, subst, ◌∙◌, arith, length-append, drop-cons}
use Rattle.std.specs.Prelude.{slice_get, map}
use Rattle.ring_core.proofs.Common.{map-append, slice_get_within, get_or_from_slice_get, C, X, Shape, Take, Item, ItemAfterClose, Empty, End, Open, Closed, taken_after, count_after, take_phrase}
use Rattle.ring_core.proofs.Common.{end_phrase, Count, number_past, Dequeue, events_in, TimedOperation, operations, take_effect, take_operations}
use Rattle.std.proofs.lemmas.Bool.{lt-ltb, le-ltb, leb-true, leb-false, lt-leb}
use Rattle.bits_core.specs.declared.events.Event.{Event}
use Rattle.bits_core.specs.Made.{Read, place_of}
use Rattle.register_core.specs.ScanState.{scan_phrase, row_read_by}
use Rattle.ring_core.proofs.CountRow.{past_is}
use Rattle.ring_core.proofs.EndedCounts.{take_before_count, taken_begun}
use Rattle.ring_core.proofs.OverSpans.Spans.{Passes, Asks, before_count, whole}
use Rattle.ring_core.proofs.OverSpans.LookSpans.{look, span_of}
use Rattle.ring_core.proofs.OverSpans.CallSpans.{take_phrase-item, take_phrase-after}
use Rattle.ring_core.proofs.CallCounts.{phrase_some}
use Rattle.ring_core.proofs.Linear.Turns.{In, Kind, Moves, Misses, Ends, Op, take_op}
use Rattle.ring_core.proofs.Linear.OneOrder.{take_ops, Sorted, Numbered, next_number, with_item, items_by}
use Rattle.ring_core.proofs.Linear.PutTurns.{turn, moves, if_yes, if_no, in_if, in_call, sorted_call, no_turns, IsFrom, from_here, from_move, move_of, moves_sorted, moves_numbered}

abbrev pub take_turn : List Event → ℕ → Kind → ℕ → ℕ → Op
take_turn h k kind start stop = turn (place_of C h start) k kind start stop

-- the operations of a take of items, one by one
abbrev pub dequeue_turns : List Event → ℕ → ℕ → ℕ → List ℕ → List Op
dequeue_turns h k start stop items = moves (place_of C h start) k start stop items

abbrev pub turns_of : List Event → ℕ → Take → ℕ → ℕ → List Op
turns_of h k (Item seen items) start stop = dequeue_turns h k start stop items
turns_of h k (ItemAfterClose seen again items) start stop = dequeue_turns h k start stop items
turns_of h k (Empty seen) start stop = take_turn h k Misses start stop ∷ []

-- how many events a take has, and how many the one that returns Closed has
abbrev pub take_long : Shape → Count → Take → ℕ
take_long shape c x = events_in (take_phrase shape c x)

abbrev pub end_long : ℕ → ℕ → ℕ
end_long seen again = events_in (end_phrase (Closed seen again))

abbrev pub take_turns : List Event → Shape → Count → ℕ → List Take → End → ℕ → List Op
take_turns h shape c start [] Open t = []
take_turns h shape c start [] (Closed seen again) t =
    (if nat_le (start + end_long seen again) t then take_turn h c.number Ends start (start + end_long seen again) ∷ [] else [])
take_turns h shape c start (x ∷ takes) end t =
    (if nat_le (start + take_effect shape c x) t then turns_of h c.number x start (start + take_long shape c x) else [])
    ++ take_turns h shape (count_after shape c x) (start + take_long shape c x) takes end t

-- ---- they are those of the statement

dequeue_turns-ops : (h : List Event) (k start stop : ℕ) (items : List ℕ) → take_ops (dequeue_turns h k start stop items) ≡ operations C start stop (map Dequeue items)
dequeue_turns-ops h k start stop [] = refl
dequeue_turns-ops h k start stop (item ∷ items) = ap (λ l. take_op (take_turn h k (Moves item) start stop) ∷ l) (dequeue_turns-ops h (suc k) start stop items)

join_ops : (test : Bool) (xs ys : List Op) (os rest : List TimedOperation) → take_ops xs ≡ os → take_ops ys ≡ rest →
    take_ops ((if test then xs else []) ++ ys) ≡ (if test then os else []) ++ rest
join_ops test xs ys os rest e f = grind (arith, map-append)

pub take_turns-ops :
    (h : List Event) (shape : Shape) (c : Count) (start : ℕ) (takes : List Take) (end : End) (t : ℕ) →
    take_ops (take_turns h shape c start takes end t) ≡ take_operations shape c start takes end t
take_turns-ops h shape c start [] end t = grind arith
take_turns-ops h shape c start (x ∷ takes) end t = search (arith, join_ops, take_turns-ops h shape (count_after shape c x) (start + take_long shape c x) takes end t, dequeue_turns-ops)

-- ---- if nothing has begun there are none

pub item_until : (shape : Shape) (c : Count) (seen : ℕ) (items : List ℕ) → events_in (take_before_count shape c (Item seen items)) ≡ before_count (span_of C shape c (look seen (Passes items)))
item_until shape c seen items = grind (arith, length-append)

pub after_until :
    (shape : Shape) (c : Count) (seen again : ℕ) (items : List ℕ) →
    events_in (take_before_count shape c (ItemAfterClose seen again items)) ≡
    whole (span_of C shape c (look seen (Asks true))) + before_count (span_of C shape c (look again (Passes items)))
after_until shape c seen again items = grind (arith, length-append)

-- a take takes effect with one of its own events
effect_within : (shape : Shape) (c : Count) (x : Take) → (1 ≤ take_effect shape c x) × (take_effect shape c x ≤ suc (take_long shape c x))
effect_within shape c (Item seen items) = omega (arith, item_until shape c seen items, take_phrase-item shape c seen items)
effect_within shape c (ItemAfterClose seen again items) = omega (arith, after_until shape c seen again items, take_phrase-after shape c seen again items)
effect_within shape c (Empty seen) = omega (arith, phrase_some shape c (Empty seen))

pub end_some : (seen again : ℕ) → 1 ≤ end_long seen again
end_some seen again = omega (arith, length-append (scan_phrase (row_read_by C) seen) (Read X true ∷ scan_phrase (row_read_by C) again))

pub take_turns-none :
    (h : List Event) (shape : Shape) (c : Count) (start : ℕ) (takes : List Take) (end : End) (t : ℕ) → t ≤ start → take_turns h shape c start takes end t ≡ []
take_turns-none h shape c start [] Open t l = refl
take_turns-none h shape c start [] (Closed seen again) t l = grind (arith, if_no, lt-leb, end_some)
take_turns-none h shape c start (x ∷ takes) end t l =
    grind (arith, no_turns, if_no, lt-leb, effect_within, take_turns-none h shape (count_after shape c x) (start + take_long shape c x) takes end t (omega (arith, l)))

-- ---- their order

from_turn : (h : List Event) (k : ℕ) (x : Take) (start stop : ℕ) (y : Op) → start < stop → In y (turns_of h k x start stop) → IsFrom start k y
from_turn h k x start stop y l i = grind (arith, from_move, move_of, from_here)

pub take_turns-from :
    (h : List Event) (shape : Shape) (c : Count) (start : ℕ) (takes : List Take) (end : End) (t : ℕ) (y : Op) →
    In y (take_turns h shape c start takes end t) → IsFrom start c.number y
take_turns-from h shape c start [] Open t y i = absurd i
take_turns-from h shape c start [] (Closed seen again) t y i = grind (arith, in_if, from_here, end_some)
take_turns-from h shape c start (x ∷ takes) end t y i =
    let stop : ℕ = start + take_long shape c x in
    let next : Count = count_after shape c x in
    elim (in_call y (nat_le (start + take_effect shape c x) t) (turns_of h c.number x start stop) (take_turns h shape next stop takes end t) i) [
      | inl (over, j) ↦ from_turn h c.number x start stop y (omega (arith, phrase_some shape c x)) j
      | inr j ↦ grind (arith, take_turns-from h shape next stop takes end t y j, past_is)
    ]

turn_sorted :
    (h : List Event) (k : ℕ) (x : Take) (start stop : ℕ) (ys : List Op) → start ≤ stop → ((y : Op) → In y ys → IsFrom stop (taken_after k x) y) → Sorted ys →
    Sorted (turns_of h k x start stop ++ ys)
turn_sorted h k x start stop ys l from s = grind (arith, moves_sorted)

pub take_turns-sorted :
    (h : List Event) (shape : Shape) (c : Count) (start : ℕ) (takes : List Take) (end : End) (t : ℕ) → Sorted (take_turns h shape c start takes end t)
take_turns-sorted h shape c start [] end t = grind (arith, if_yes, if_no)
take_turns-sorted h shape c start (x ∷ takes) end t =
    let stop : ℕ = start + take_long shape c x in
    let next : Count = count_after shape c x in
    let rest : List Op = take_turns h shape next stop takes end t in
    let sorted = take_turns-sorted h shape next stop takes end t in
    sorted_call (nat_le (start + take_effect shape c x) t) (turns_of h c.number x start stop) rest
    (turn_sorted h c.number x start stop rest (omega arith) (take_turns-from h shape next stop takes end t) sorted) sorted

-- ---- their numbers

none_taken : (shape : Shape) (c : Count) (takes : List Take) → taken_begun shape c takes 0 ≡ 0
none_taken shape c [] = refl
none_taken shape c (x ∷ takes) = grind (arith, none_taken shape (count_after shape c x) takes, le-ltb)

-- after a take of items whose count write begins with its event number before
items_numbered :
    (h : List Event) (shape : Shape) (c next : Count) (start : ℕ) (takes : List Take) (end : End) (t last before long : ℕ) (items : List ℕ) → before ≤ long →
    next.number ≡ number_past c.number items →
    c.number + ((if nat_lt before (t - start) then length items else 0) + taken_begun shape next takes (t - start - long)) ≡ last →
    (next.number + taken_begun shape next takes (t - (start + long)) ≡ last → Numbered last next.number (take_turns h shape next (start + long) takes end t)) →
    Numbered last c.number
    ((if nat_le (start + suc before) t then dequeue_turns h c.number start (start + long) items else []) ++ take_turns h shape next (start + long) takes end t)
items_numbered h shape c next start takes end t last before long items within next_is e goes_on =
    grind (arith, past_is, leb-true, if_yes, moves_numbered, leb-false, if_no, take_turns-none, none_taken, lt-ltb, le-ltb)

pub take_turns-numbered :
    (h : List Event) (shape : Shape) (c : Count) (start : ℕ) (takes : List Take) (end : End) (t last : ℕ) →
    c.number + taken_begun shape c takes (t - start) ≡ last → Numbered last c.number (take_turns h shape c start takes end t)
take_turns-numbered h shape c start [] end t last e = grind (arith, if_yes, if_no)
take_turns-numbered h shape c start (Item seen items ∷ takes) end t last e =
    let x : Take = Item seen items in
    items_numbered h shape c (count_after shape c x) start takes end t last (events_in (take_before_count shape c x)) (take_long shape c x) items
    (omega (arith, (effect_within shape c x).1)) refl e
    (take_turns-numbered h shape (count_after shape c x) (start + take_long shape c x) takes end t last)
take_turns-numbered h shape c start (ItemAfterClose seen again items ∷ takes) end t last e =
    let x : Take = ItemAfterClose seen again items in
    items_numbered h shape c (count_after shape c x) start takes end t last (events_in (take_before_count shape c x)) (take_long shape c x) items
    (omega (arith, (effect_within shape c x).1)) refl e
    (take_turns-numbered h shape (count_after shape c x) (start + take_long shape c x) takes end t last)
take_turns-numbered h shape c start (Empty seen ∷ takes) end t last e =
    let x : Take = Empty seen in
    grind (arith, if_yes, if_no, take_turns-numbered h shape (count_after shape c x) (start + (take_long shape c x)) takes end t last (grind arith))

-- ---- their items

-- an operation that takes an item takes the one of its number
abbrev pub ItemIs : List ℕ → Kind → ℕ → Type 0
ItemIs items (Moves item) k = slice_get items k ≡ Some item
ItemIs items Misses k = Unit {0}
ItemIs items Ends k = Unit {0}

-- the items of a list from number k on begin with those taken
abbrev pub GoesOnWith : List ℕ → ℕ → List ℕ → Type 0
GoesOnWith items k front = (rest : List ℕ) × (drop k items ≡ front ++ rest)

goes_on_with : (items : List ℕ) (k : ℕ) (kind : Kind) (front : List ℕ) → ItemIs items kind k → GoesOnWith items (next_number k kind) front → GoesOnWith items k (with_item kind front)
goes_on_with items k (Moves item) front e (rest, f) =
    (rest, drop-cons items k 0 (slice_get_within items k item e) ∙ ap₂ (λ a b. a ∷ b) (get_or_from_slice_get items k item 0 e) f)
goes_on_with items k Misses front e r = r
goes_on_with items k Ends front e r = r

pub taken_from :
    (items : List ℕ) (last k : ℕ) (ys : List Op) → Numbered last k ys → ((y : Op) → In y ys → ItemIs items y.kind y.number) →
    GoesOnWith items k (items_by ys)
taken_from items last k [] e f = (drop k items, refl)
taken_from items last k (y ∷ ys) (e, r) f =
    goes_on_with items k y.kind (items_by ys) (subst (ItemIs items y.kind) e (f y (inl refl))) (taken_from items last (next_number k y.kind) ys r (λ z i. f z (inr i)))
