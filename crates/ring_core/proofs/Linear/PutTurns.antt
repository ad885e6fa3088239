-- The operations of the producer's calls, with their numbers: their order, and what holds for each.
use Rattle.std.proofs.Common.{◌≡◌, ◌⊎◌, inl, inr, ℕ, suc, ◌+◌, ◌-◌, ◌<◌, ◌≤◌, Bool, true, false, nat_lt, nat_le, if◌then◌else◌, Some, List, [], ◌∷◌, ◌++◌, length, refl, ap, ap₂, arith, length-append, ◌∙◌}
use Rattle.std.specs.Prelude.{slice_get, map}
use Rattle.ring_core.proofs.Common.{map-append, slice_get_within, nat_tests, lt-ltb, le-ltb, lt-leb, P, Shape, number_past, Count, events_in, Enqueue, TimedOperation, operations, put_operations}
use Rattle.register_core.specs.ScanState.{row_read_by}
use Rattle.ring_core.specs.Puts.{Put, Stored, Full, stored_after, accesses_before_count, put_phrase}
use Rattle.ring_core.proofs.OverSpans.Spans.{Span, counts, before_count, whole, counts_begun, IsSpanAt}
use Rattle.ring_core.proofs.CountRow.{past_is}
use Rattle.ring_core.proofs.Machines.Lengths.{length-scan}
use Rattle.ring_core.proofs.OverSpans.Timeline.{begun_zero}
use Rattle.ring_core.proofs.Linear.Turns.{In, Kind, Moves, Misses, Ends, IsMove, Op, put_op, move_not_miss}
use Rattle.ring_core.proofs.Linear.OneOrder.{put_ops, Sorted, Numbered}

-- ---- lists under a test

pub if_yes : {A : Type 0} (t : Bool) (xs : List A) → t ≡ true → (if t then xs else []) ≡ xs
if_yes t xs e = rw e refl

pub if_no : {A : Type 0} (t : Bool) (xs : List A) → t ≡ false → (if t then xs else []) ≡ []
if_no t xs e = rw e refl

pub in_append : {A : Type 0} (x : A) (xs ys : List A) → In x (xs ++ ys) → In x xs ⊎ In x ys
in_append x [] ys i = inr i
in_append x (z ∷ xs) ys (inl e) = inl (inl e)
in_append x (z ∷ xs) ys (inr i) = elim (in_append x xs ys i) [ inl j ↦ inl (inr j) | inr j ↦ inr j ]

pub in_if : {A : Type 0} (x : A) (t : Bool) (xs : List A) → In x (if t then xs else []) → (t ≡ true) × In x xs
in_if x t xs i = grind arith

pub in_one : (x y : Op) → In x (y ∷ []) → x ≡ y
in_one x y i = grind arith

-- operations of a call whose test has come out, and those of the calls after it
pub in_call : (x : Op) (t : Bool) (xs ys : List Op) → In x ((if t then xs else []) ++ ys) → ((t ≡ true) × In x xs) ⊎ In x ys
in_call x true xs ys i = grind (arith, in_append)
in_call x false xs ys i = inr i

pub sorted_call : (t : Bool) (xs ys : List Op) → Sorted (xs ++ ys) → Sorted ys → Sorted ((if t then xs else []) ++ ys)
sorted_call t xs ys both rest = grind arith

-- ---- counts that have begun, by the first span

pub begun_past_count : (y : Span) (ys : List Span) (i : ℕ) → before_count y < i → counts_begun (y ∷ ys) i ≡ counts y.outcome + counts_begun ys (i - whole y)
begun_past_count y ys i l = ap (λ (b : Bool). (if b then counts y.outcome else 0) + counts_begun ys (i - whole y)) (lt-ltb (before_count y) i l)

pub begun_before_count : (y : Span) (ys : List Span) (i : ℕ) → i ≤ before_count y → counts_begun (y ∷ ys) i ≡ 0
begun_before_count y ys i l = grind (arith, le-ltb, begun_zero)

pub begun_of_none : (y : Span) (ys : List Span) (i : ℕ) → counts y.outcome ≡ 0 → counts_begun (y ∷ ys) i ≡ counts_begun ys (i - whole y)
begun_of_none y ys i e = grind arith

-- the items of a span whose count write has begun are counted
pub begun_counts : (xs : List Span) (s n : ℕ) (x : Span) (i : ℕ) → IsSpanAt xs s n x → s + before_count x < i → n + counts x.outcome ≤ counts_begun xs i
begun_counts [] s n x i st l = elim st [ ]
begun_counts (y ∷ ys) s n x i (inl st) l = grind (arith, begun_past_count)
begun_counts (y ∷ ys) s n x i (inr st) l = grind (arith, begun_past_count, begun_counts ys st.0 st.1 x (i - whole y) st.4 (omega (arith, l, st.2)))

-- ---- the operations

abbrev pub turn : (place n : ℕ) → Kind → (start stop : ℕ) → Op
turn place n kind start stop = record { number = n; kind = kind; start = start; stop = stop; place = place }

-- those of a call that moves items, one by one
abbrev pub moves : (place n start stop : ℕ) → List ℕ → List Op
moves place n start stop [] = []
moves place n start stop (item ∷ items) = turn place n (Moves item) start stop ∷ moves place (suc n) start stop items

abbrev pub put_turn : ℕ → Kind → ℕ → ℕ → Op
put_turn = turn 0

abbrev pub enqueue_turns : ℕ → ℕ → ℕ → List ℕ → List Op
enqueue_turns = moves 0

-- how many events a put has, and how many one that stores has up to its count write
abbrev pub put_long : Shape → Count → Put → ℕ
put_long shape c x = events_in (put_phrase shape c x)

abbrev pub until_count : Shape → Count → ℕ → List ℕ → ℕ
until_count shape c seen items = events_in (accesses_before_count shape c.number seen items)

abbrev pub put_turns : Shape → Count → ℕ → List Put → Bool → ℕ → List Op
put_turns shape c start [] false t = []
put_turns shape c start [] true t = (if nat_lt start t then put_turn c.number Ends start (start + 2) ∷ [] else [])
put_turns shape c start (Stored seen items ∷ puts) closes t =
    (if nat_lt (start + until_count shape c seen items) t then enqueue_turns c.number start (start + put_long shape c (Stored seen items)) items else [])
    ++ put_turns shape (stored_after shape c (Stored seen items)) (start + put_long shape c (Stored seen items)) puts closes t
put_turns shape c start (Full seen ∷ puts) closes t =
    (if nat_le (start + put_long shape c (Full seen)) t then put_turn c.number Misses start (start + put_long shape c (Full seen)) ∷ [] else [])
    ++ put_turns shape c (start + put_long shape c (Full seen)) puts closes t

-- ---- they are those of the statement

enqueue_turns-ops : (n start stop : ℕ) (items : List ℕ) → put_ops (enqueue_turns n start stop items) ≡ operations P start stop (map Enqueue items)
enqueue_turns-ops n start stop [] = refl
enqueue_turns-ops n start stop (item ∷ items) = ap (λ l. put_op (put_turn n (Moves item) start stop) ∷ l) (enqueue_turns-ops (suc n) start stop items)

join_ops :
    (t t' : Bool) (xs ys : List Op) (os rest : List TimedOperation) → t ≡ t' → put_ops xs ≡ os → put_ops ys ≡ rest →
    put_ops ((if t then xs else []) ++ ys) ≡ (if t' then os else []) ++ rest
join_ops t t' xs ys os rest e f g = grind (arith, map-append)

pub put_turns-ops :
    (shape : Shape) (c : Count) (start : ℕ) (puts : List Put) (closes : Bool) (t : ℕ) →
    put_ops (put_turns shape c start puts closes t) ≡ put_operations shape c start puts closes t
put_turns-ops shape c start [] closes t = grind (arith, nat_tests)
put_turns-ops shape c start (Stored seen items ∷ puts) closes t =
    grind (arith, join_ops, enqueue_turns-ops, put_turns-ops shape (stored_after shape c (Stored seen items)) (start + put_long shape c (Stored seen items)) puts closes t, nat_tests)
put_turns-ops shape c start (Full seen ∷ puts) closes t = grind (arith, join_ops, put_turns-ops shape c (start + put_long shape c (Full seen)) puts closes t)

-- ---- if nothing has begun there are none

pub put_some : (shape : Shape) (c : Count) (seen : ℕ) → 1 ≤ put_long shape c (Full seen)
put_some shape c seen = omega (arith, length-scan (row_read_by P) seen)

pub before_put_ends : (shape : Shape) (c : Count) (seen : ℕ) (items : List ℕ) →
    (1 ≤ until_count shape c seen items) × (until_count shape c seen items ≤ put_long shape c (Stored seen items))
before_put_ends shape c seen items = grind (arith, length-scan, length-append)

pub no_turns : (xs ys : List Op) → xs ≡ [] → ys ≡ [] → xs ++ ys ≡ []
no_turns xs ys e f = ap₂ (λ a b. a ++ b) e f

pub put_turns-none :
    (shape : Shape) (c : Count) (start : ℕ) (puts : List Put) (closes : Bool) (t : ℕ) → t ≤ start → put_turns shape c start puts closes t ≡ []
put_turns-none shape c start [] closes t l = grind (arith, if_no, le-ltb)
put_turns-none shape c start (Stored seen items ∷ puts) closes t l =
    grind (arith, no_turns, if_no, le-ltb, put_turns-none shape (stored_after shape c (Stored seen items)) (start + put_long shape c (Stored seen items)) puts closes t (omega (arith, l)))
put_turns-none shape c start (Full seen ∷ puts) closes t l =
    let stop : ℕ = start + put_long shape c (Full seen) in
    no_turns _ (put_turns shape c stop puts closes t)
    (if_no (nat_le stop t) (put_turn c.number Misses start stop ∷ []) (lt-leb stop t (omega (arith, l, put_some shape c seen))))
    (put_turns-none shape c stop puts closes t (omega (arith, l)))

-- ---- their order

-- what an operation of a call that moves items is
pub record IsMoveOf (place n start stop : ℕ) (items : List ℕ) (x : Op) : Type 0 where
  pub index : ℕ
  pub item : ℕ
  pub is_x : x ≡ turn place (n + index) (Moves item) start stop
  pub listed : slice_get items index ≡ Some item

pub move_of : (place n start stop : ℕ) (items : List ℕ) (x : Op) → In x (moves place n start stop items) → IsMoveOf place n start stop items x
move_of place n start stop [] x i = absurd i
move_of place n start stop (item ∷ items) x (inl e) = record {
  index = 0;
  item = item;
  is_x = e ∙ ap (λ k. turn place k (Moves item) start stop) (omega arith);
  listed = refl;
}
move_of place n start stop (item ∷ items) x (inr i) =
    let r = move_of place (suc n) start stop items x i in
    record { index = suc r.index; item = r.item; is_x = r.is_x ∙ ap (λ k. turn place k (Moves r.item) start stop) (omega arith); listed = r.listed }

-- what follows for its fields
pub record AreMoved (n start stop : ℕ) (items : List ℕ) (index : ℕ) (x : Op) : Type 0 where
  pub number : x.number ≡ n + index
  pub inside : index < length items
  pub starts : x.start ≡ start
  pub stops : x.stop ≡ stop
  pub enqueues : IsMove x.kind

pub move_so : (place n start stop : ℕ) (items : List ℕ) (x : Op) (r : IsMoveOf place n start stop items x) → AreMoved n start stop items r.index x
move_so place n start stop items x r = grind (arith, slice_get_within)

-- an operation that comes after this many events and items
pub record IsFrom (start number : ℕ) (x : Op) : Type 0 where
  pub starts : start ≤ x.start
  pub some : x.start < x.stop
  pub behind : number ≤ x.number

pub from_here : (place n start stop : ℕ) (kind : Kind) (x : Op) → start < stop → x ≡ turn place n kind start stop → IsFrom start n x
from_here place n start stop kind x l e = grind arith

pub from_move : (place n start stop : ℕ) (items : List ℕ) (x : Op) → start < stop → IsMoveOf place n start stop items x → IsFrom start n x
from_move place n start stop items x l r = grind (arith, from_here)

pub from_later : (start start' n n' : ℕ) (x : Op) → start ≤ start' → n ≤ n' → IsFrom start' n' x → IsFrom start n x
from_later start start' n n' x l m r = record { starts = omega (arith, l, r.starts); some = r.some; behind = omega (arith, m, r.behind) }

pub put_turns-from :
    (shape : Shape) (c : Count) (start : ℕ) (puts : List Put) (closes : Bool) (t : ℕ) (x : Op) →
    In x (put_turns shape c start puts closes t) → IsFrom start c.number x
put_turns-from shape c start [] closes t x i = grind (arith, in_if, from_here)
put_turns-from shape c start (Stored seen items ∷ puts) closes t x i =
    let stop : ℕ = start + put_long shape c (Stored seen items) in
    let next : Count = stored_after shape c (Stored seen items) in
    elim (in_call x (nat_lt (start + until_count shape c seen items) t) (enqueue_turns c.number start stop items) (put_turns shape next stop puts closes t) i) [
      | inl (holds, j) ↦ from_move 0 c.number start stop items x (omega (arith, before_put_ends shape c seen items)) (move_of 0 c.number start stop items x j)
      | inr j ↦ from_later start stop c.number next.number x (omega arith) (omega (arith, past_is c.number items)) (put_turns-from shape next stop puts closes t x j)
    ]
put_turns-from shape c start (Full seen ∷ puts) closes t x i =
    let stop : ℕ = start + put_long shape c (Full seen) in
    elim (in_call x (nat_le stop t) (put_turn c.number Misses start stop ∷ []) (put_turns shape c stop puts closes t) i) [
      | inl (over, j) ↦ grind (arith, from_here, put_some shape c seen)
      | inr j ↦ from_later start stop c.number c.number x (omega arith) (omega arith) (put_turns-from shape c stop puts closes t x j)
    ]

-- they precede each other, and what comes after them
pub moves_sorted :
    (place n start stop : ℕ) (items : List ℕ) (xs : List Op) → start ≤ stop → ((x : Op) → In x xs → IsFrom stop (number_past n items) x) → Sorted xs →
    Sorted (moves place n start stop items ++ xs)
moves_sorted place n start stop [] xs l from s = s
moves_sorted place n start stop (item ∷ items) xs l from s = (
  (λ x i. (
    (elim (in_append x (moves place (suc n) start stop items) xs i) [
      | inl j ↦ grind (arith, move_so place (suc n) start stop items x (move_of place (suc n) start stop items x j), move_not_miss)
      | inr j ↦ grind (arith, past_is (suc n) items, from x j)
    ]),
    λ a. absurd a,
  )),
  moves_sorted place (suc n) start stop items xs l from s,
)

pub put_turns-sorted :
    (shape : Shape) (c : Count) (start : ℕ) (puts : List Put) (closes : Bool) (t : ℕ) → Sorted (put_turns shape c start puts closes t)
put_turns-sorted shape c start [] closes t = grind (arith, if_yes, if_no)
put_turns-sorted shape c start (Stored seen items ∷ puts) closes t =
    let stop : ℕ = start + put_long shape c (Stored seen items) in
    let next : Count = stored_after shape c (Stored seen items) in
    let rest : List Op = put_turns shape next stop puts closes t in
    sorted_call (nat_lt (start + until_count shape c seen items) t) (enqueue_turns c.number start stop items) rest
    (moves_sorted 0 c.number start stop items rest (omega arith) (put_turns-from shape next stop puts closes t) (put_turns-sorted shape next stop puts closes t))
    (put_turns-sorted shape next stop puts closes t)
put_turns-sorted shape c start (Full seen ∷ puts) closes t =
    let stop : ℕ = start + put_long shape c (Full seen) in
    let rest : List Op = put_turns shape c stop puts closes t in
    sorted_call (nat_le stop t) (put_turn c.number Misses start stop ∷ []) rest ((λ x i. grind (arith, put_turns-from shape c stop puts closes t x i)), put_turns-sorted shape c stop puts closes t)
    (put_turns-sorted shape c stop puts closes t)

-- ---- their numbers

pub moves_numbered :
    (place last n start stop : ℕ) (items : List ℕ) (xs : List Op) → Numbered last (number_past n items) xs → Numbered last n (moves place n start stop items ++ xs)
moves_numbered place last n start stop [] xs r = r
moves_numbered place last n start stop (item ∷ items) xs r = (refl, moves_numbered place last (suc n) start stop items xs r)
