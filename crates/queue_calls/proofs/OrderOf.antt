-- A history whose operations take effect at moments has an order of them.
use Rattle.std.proofs.Common.{◌≡◌, ℕ, suc, ◌+◌, ◌≤◌, false, List, [], ◌∷◌, ◌++◌, length, refl, sym, ap, subst, ◌∙◌, arith, append_assoc}
use Rattle.std.proofs.lemmas.List.{append-nil}
use Rattle.queue_calls.proofs.Common.{Capacity, Operation, Queue, queue, Step, IsLegal, Event, Mark, Happens, Effect, Idle, Resting, Point, point, Leads, LeadTo, events_among, IsLinearizable}
use Rattle.queue_calls.specs.Order.{Side, P, C, pick, side_of, doer_of, numbered, own_events, OwnStep, Comes, Makes, numbered_in, RecordedOperation, recorded_operation, next_event, recorded_operations, recorded_of_side, recorded_does, IsAmong, KeepsRecordedTime, Linearization}
use Rattle.queue_calls.proofs.OneSide.{AreCalls, mark_before, no_calls, pick_by, pick_of, picked, step_of, where_of}

-- marks lead from a point
abbrev Way : Capacity → Point → List Mark → Type 0
Way capacity s [] = Unit {0}
Way capacity s (m ∷ marks) = (t : Point) × Leads capacity s m t × Way capacity t marks

abbrev turned : List Mark → List Mark → List Mark
turned [] v = v
turned (m ∷ w) v = turned w (m ∷ v)

abbrev events : List Mark → List Event
events [] = []
events (Happens e ∷ w) = e ∷ events w
events (Effect d ∷ w) = events w

way_of : (capacity : Capacity) (w v : List Mark) (t : Point) → LeadTo capacity w t → Way capacity t v → Way capacity (point (queue [] false) Idle Resting) (turned w v)
way_of capacity [] v t l f = subst (λ z. Way capacity z v) l f
way_of capacity (m ∷ w) v t (s, l, n) f = way_of capacity w (m ∷ v) s l (t, n, f)

turned_events : (w v : List Mark) → events (turned w v) ≡ events_among w ++ events v
turned_events [] v = refl
turned_events (Happens e ∷ w) v = turned_events w (Happens e ∷ v) ∙ sym (append_assoc (events_among w) (e ∷ []) (events v))
turned_events (Effect d ∷ w) v = turned_events w (Effect d ∷ v)

-- a side's own part of the marks
abbrev own : Side → ℕ → List Mark → List OwnStep
own s n [] = []
own s n (Happens e ∷ w) = pick s (side_of e) (Comes (numbered n e) ∷ own s (suc n) w) (own s (suc n) w)
own s n (Effect d ∷ w) = pick s (doer_of d) (Makes d ∷ own s n w) (own s n w)

own_are : (s : Side) (n : ℕ) (w : List Mark) → numbered_in (own s n w) ≡ own_events s n (events w)
own_are s n [] = refl
own_are s n (Happens e ∷ w) = pick_of numbered_in s (side_of e) _ _ ∙ ap (λ z. pick s (side_of e) (numbered n e ∷ z) z) (own_are s (suc n) w)
own_are s n (Effect d ∷ w) = picked (λ z. numbered_in z ≡ own_events s n (events w)) s (doer_of d) _ _ (λ is. own_are s n w) (λ not. own_are s n w)

calls_of : (y : Side) (capacity : Capacity) (n : ℕ) (w : List Mark) (s : Point) → Way capacity s w → AreCalls y (where_of y s) (own y n w)
calls_of y capacity n [] s l = no_calls y (where_of y s)
calls_of y capacity n (Happens e ∷ w) s (t, m, l) =
    mark_before y n (Happens e) (own y (suc n) w) (where_of y s) (where_of y t) (step_of y capacity s t (Happens e) m) (calls_of y capacity (suc n) w t l)
calls_of y capacity n (Effect d ∷ w) s (t, m, l) = mark_before y n (Effect d) (own y n w) (where_of y s) (where_of y t) (step_of y capacity s t (Effect d) m) (calls_of y capacity n w t l)

-- an order of the operations of these calls, after the events of these numbers of both sides
record Ordered (capacity : Capacity) (end : ℕ) (since : Side → ℕ) (n : ℕ) (q : Queue) (calls : Side → List OwnStep) : Type 0 where
  order : List RecordedOperation
  of_side : (y : Side) → recorded_of_side y order ≡ recorded_operations y end (since y) (calls y)
  legal : IsLegal capacity q (recorded_does order)
  keeps_time : KeepsRecordedTime order
  late : (o : RecordedOperation) → IsAmong o order → n ≤ o.stop

next_late : (s : Side) (end n : ℕ) (w : List Mark) → n + length (events w) ≤ end → n ≤ next_event end (own s n w)
next_late s end n [] l = omega (arith, l)
next_late s end n (Happens e ∷ w) l = grind (arith, picked, next_late s end (suc n) w (omega (arith, l)))
next_late s end n (Effect d ∷ w) l = grind (arith, picked, next_late s end n w l)

one_more : (capacity : Capacity) (end n start stop : ℕ) (s : Side) (d : Operation) (q after : Queue) (order : List RecordedOperation) → Step capacity q d after → IsLegal capacity after (recorded_does order) → KeepsRecordedTime order →
    ((o : RecordedOperation) → IsAmong o order → n ≤ o.stop) → start ≤ n → n ≤ stop →
    IsLegal capacity q (recorded_does (recorded_operation s d start stop ∷ order)) × KeepsRecordedTime (recorded_operation s d start stop ∷ order) × ((o : RecordedOperation) → IsAmong o (recorded_operation s d start stop ∷ order) → n ≤ o.stop)
one_more capacity end n start stop s d q after order step legal keeps late ls le = grind arith

ordered :
    (capacity : Capacity) (end : ℕ) (since : Side → ℕ) (n : ℕ) (w : List Mark) (s : Point) → n + length (events w) ≤ end → ((y : Side) → since y ≤ n) → Way capacity s w →
    Ordered capacity end since n s.queue (λ y. own y n w)
ordered capacity end since n [] s l sooner f = grind arith
ordered capacity end since n (Happens e ∷ w) s l sooner (t, m, f) =
    let x = side_of e in
    let r = ordered capacity end (λ y. pick y x n (since y)) (suc n) w t (omega (arith, l)) (λ y. picked (λ z. z ≤ suc n) y x n (since y) (λ is. omega arith) (λ not. omega (arith, sooner y))) f in
    record {
      order = r.order;
      of_side = λ y.
          r.of_side y ∙ pick_of (λ z. recorded_operations y end z (own y (suc n) w)) y x n (since y)
          ∙ sym (pick_of (recorded_operations y end (since y)) y x (Comes (numbered n e) ∷ own y (suc n) w) (own y (suc n) w));
      legal = subst (λ z. IsLegal capacity z (recorded_does r.order)) m.queue r.legal;
      keeps_time = r.keeps_time;
      late = λ o i. omega (arith, r.late o i);
    }
ordered capacity end since n (Effect d ∷ w) s l sooner (t, m, f) =
    let x = doer_of d in
    let does : Side → RecordedOperation = λ y. recorded_operation y d (since y) (next_event end (own y n w)) in
    let r = ordered capacity end since n w t l sooner f in
    let (legal, keeps, late) = one_more capacity end n (since x) (next_event end (own x n w)) x d s.queue t.queue r.order m.queue r.legal r.keeps_time r.late (sooner x) (next_late x end n w l) in
    record {
      order = does x ∷ r.order;
      of_side = λ y.
          ap (λ z. pick y x (does x ∷ z) z) (r.of_side y) ∙ pick_by (λ z. does z ∷ recorded_operations y end (since y) (own y n w)) y x _
          ∙ sym (pick_of (recorded_operations y end (since y)) y x (Makes d ∷ own y n w) (own y n w));
      legal = legal;
      keeps_time = keeps;
      late = late;
    }

pub order_of : (capacity : Capacity) (h : List Event) → IsLinearizable capacity h → Linearization capacity h
order_of capacity h (t, r) =
    let w : List Mark = turned r.marks [] in
    let is : events w ≡ h = turned_events r.marks [] ∙ (append-nil (events_among r.marks) ∙ r.events) in
    let way : Way capacity (point (queue [] false) Idle Resting) w = way_of capacity r.marks [] t r.lead tt in
    let o = ordered capacity (length h) (λ y. 0) 0 w (point (queue [] false) Idle Resting) (omega (arith, ap length is)) (λ y. omega arith) way in
    record {
      puts = own P 0 w;
      takes = own C 0 w;
      put_events = own_are P 0 w ∙ ap (own_events P 0) is;
      take_events = own_are C 0 w ∙ ap (own_events C 0) is;
      are_puts = calls_of P capacity 0 w (point (queue [] false) Idle Resting) way;
      are_takes = calls_of C capacity 0 w (point (queue [] false) Idle Resting) way;
      order = o.order;
      producer = o.of_side P;
      consumer = o.of_side C;
      legal = o.legal;
      keeps_time = o.keeps_time;
    }
