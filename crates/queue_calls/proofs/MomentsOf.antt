-- A history whose operations have an order can have them take effect at moments.
use Rattle.std.proofs.Common.{◌≡◌, inl, inr, ℕ, suc, ◌<◌, ◌≤◌, false, List, [], ◌∷◌, ◌++◌, length, refl, sym, ap, subst, ◌∙◌, arith, append_assoc}
use Rattle.std.proofs.lemmas.List.{append-nil}
use Rattle.queue_calls.specs.Queue.{Capacity, Operation, Queue, queue, Step, IsLegal}
use Rattle.queue_calls.specs.Calls.{Event, Mark, Happens, Effect, Idle, Resting, QueueStep, Point, point, Leads, CanLeadTo, IsLinearizable}
use Rattle.queue_calls.specs.Order.{Side, P, C, pick, side_of, Numbered, numbered, own_events, OwnStep, Comes, Makes, numbered_in, RecordedOperation, recorded_operation, next_event, recorded_operations, recorded_of_side, recorded_does, IsAmong, KeepsRecordedTime, Linearization}
use Rattle.queue_calls.proofs.OneSide.{AreCalls, Steps, Where, calls_come, calls_make, others_mark, pick_other, pick_same, picked}
use Rattle.queue_calls.proofs.Points.{start, goes, happens}

-- numbers from this one on
abbrev From : ℕ → List Numbered → Type 0
From m [] = Unit {0}
From m (x ∷ xs) = (m ≤ x.number) × From m xs

own_from : (s : Side) (m n : ℕ) (h : List Event) → m ≤ n → From m (own_events s n h)
own_from s m n [] l = tt
own_from s m n (e ∷ h) l = grind (arith, picked, own_from s m (suc n) h (omega (arith, l)))

first_start :
    (s : Side) (end m k : ℕ) (calls : List OwnStep) (o : RecordedOperation) (rest : List RecordedOperation) → From m (numbered_in calls) → m ≤ k →
    o ∷ rest ≡ recorded_operations s end k calls → m ≤ o.start
first_start s end m k [] o rest f l e = absurd (cc)
first_start s end m k (Comes x ∷ calls) o rest (g, f) l e = first_start s end m x.number calls o rest f g e
first_start s end m k (Makes d ∷ calls) o rest f l e = grind (arith, start)

next_is : (end : ℕ) (calls : List OwnStep) (x : Numbered) (rest : List Numbered) → numbered_in calls ≡ x ∷ rest → next_event end calls ≡ x.number
next_is end [] x rest e = absurd (cc)
next_is end (Comes y ∷ calls) x rest e = let first : y ≡ x = cc in ap (λ (z : Numbered). z.number) first
next_is end (Makes d ∷ calls) x rest e = next_is end calls x rest e

among_side : (s : Side) (order : List RecordedOperation) (z : RecordedOperation) (rest : List RecordedOperation) → recorded_of_side s order ≡ z ∷ rest → IsAmong z order
among_side s [] z rest e = absurd (cc)
among_side s (o ∷ order) z rest e =
    picked (λ l. l ≡ z ∷ rest → IsAmong z (o ∷ order)) s o.side (o ∷ recorded_of_side s order) (recorded_of_side s order)
    (λ is f. let first : o ≡ z = cc in inl (sym first)) (λ not f. inr (among_side s order z rest f)) e

-- an operation of one side that comes after one of the other, whose call begins later, does not come before this event
clash :
    (s s' : Side) (end n start k : ℕ) (e : Event) (h : List Event) (o : RecordedOperation) (order rest : List RecordedOperation) (calls calls' : List OwnStep) (d : Operation) →
    numbered n e ∷ own_events s (suc n) h ≡ numbered_in calls → own_events s' (suc n) h ≡ numbered_in calls' → suc n ≤ k → o ∷ rest ≡ recorded_operations s' end k calls' →
    recorded_of_side s order ≡ recorded_operation s d start (next_event end calls) ∷ recorded_operations s end start calls →
    ((z : RecordedOperation) → IsAmong z order → z.stop < o.start → ⊥) → ⊥
clash s s' end n start k e h o order rest calls calls' d ev ev' l first mine keeps =
    let z : RecordedOperation = recorded_operation s d start (next_event end calls) in
    let later : suc n ≤ o.start = first_start s' end (suc n) k calls' o rest (subst (From (suc n)) ev' (own_from s' (suc n) (suc n) h (omega arith))) l first in
    let i : IsAmong z order = among_side s order z (recorded_operations s end start calls) mine in
    let ends : next_event end calls ≡ n = next_is end calls (numbered n e) (own_events s (suc n) h) (sym ev) in
    keeps z i (omega (arith, later, ends))

-- the state of a side, since which event, and its calls that are to come
record Own (y : Side) : Type 0 where
  place : Where y
  since : ℕ
  calls : List OwnStep

-- the same for both sides, with another of one side
abbrev with_own : (y : Side) → Own y → ((x : Side) → Own x) → (x : Side) → Own x
with_own P o own P = o
with_own P o own C = own C
with_own C o own P = own P
with_own C o own C = o

with_holds : (Q : (x : Side) → Own x → Type 0) (y : Side) (o : Own y) (own : (x : Side) → Own x) → Q y o → ((x : Side) → (y ≡ x → ⊥) → Q x (own x)) → (x : Side) → Q x (with_own y o own x)
with_holds Q P o own mine others P = mine
with_holds Q P o own mine others C = others C (λ e. cc)
with_holds Q C o own mine others P = others P (λ e. cc)
with_holds Q C o own mine others C = mine

abbrev point_of : Queue → ((y : Side) → Own y) → Point
point_of q own = point q (own P).place (own C).place

-- a mark of one side, which moves only that side
moves_one :
    (capacity : Capacity) (q q' : Queue) (m : Mark) (y : Side) (o : Own y) (own : (x : Side) → Own x) → QueueStep capacity q m q' → Steps y (own y).place m o.place →
    ((x : Side) → (y ≡ x → ⊥) → Steps x (own x).place m (own x).place) → Leads capacity (point_of q own) m (point_of q' (with_own y o own))
moves_one capacity q q' m y o own step mine others =
    let both = with_holds (λ x w. Steps x (own x).place m w.place) y o own mine others in
    record { queue = step; producer = both P; consumer = both C }

-- what is to come of an order on a side, after the first n events
record ToCome (y : Side) (end n : ℕ) (h : List Event) (order : List RecordedOperation) (o : Own y) : Type 0 where
  events : own_events y n h ≡ numbered_in o.calls
  are : AreCalls y o.place o.calls
  makes : recorded_of_side y order ≡ recorded_operations y end o.since o.calls

-- and for both
record Rest (capacity : Capacity) (end n : ℕ) (h : List Event) (q : Queue) (own : (y : Side) → Own y) (order : List RecordedOperation) : Type 0 where
  sides : (y : Side) → ToCome y end n h order (own y)
  legal : IsLegal capacity q (recorded_does order)
  keeps_time : KeepsRecordedTime order

-- the next event is not one of the side before which it has an operation to make
abbrev NoClash : Side → List Event → List OwnStep → Type 0
NoClash s [] calls = Unit {0}
NoClash s (e ∷ h) calls = (d : Operation) (rest : List OwnStep) → calls ≡ Makes d ∷ rest → side_of e ≡ s → ⊥

module _ (capacity : Capacity) (end : ℕ) where
  abbrev Passes : List Event → Type 0
  Passes h =
      (n : ℕ) (q : Queue) (own : (y : Side) → Own y) (order : List RecordedOperation) → Rest capacity end n h q own order → ((y : Side) → NoClash y h (own y).calls) →
      (past : List Event) → CanLeadTo capacity past (point_of q own) → IsLinearizable capacity (past ++ h)

  abbrev Goes : List Event → List RecordedOperation → Type 0
  Goes h order =
      (n : ℕ) (q : Queue) (own : (y : Side) → Own y) → Rest capacity end n h q own order → (past : List Event) → CanLeadTo capacity past (point_of q own) → IsLinearizable capacity (past ++ h)

  -- the next event comes
  next_comes :
      (e : Event) (h : List Event) (order : List RecordedOperation) → Goes h order → (n : ℕ) (q : Queue) (own : (y : Side) → Own y) → Rest capacity end n (e ∷ h) q own order →
      (past : List Event) → CanLeadTo capacity past (point_of q own) → (calls : List OwnStep) → (own (side_of e)).calls ≡ calls → ((d : Operation) (rest : List OwnStep) → calls ≡ Makes d ∷ rest → ⊥) →
      IsLinearizable capacity (past ++ e ∷ h)
  next_comes e h order go n q own x past r [] is never = grind (arith, pick_same)
  next_comes e h order go n q own x past r (Makes d ∷ rest) is never = absurd (never d rest refl)
  next_comes e h order go n q own x past r (Comes v ∷ rest) is never =
      let y = side_of e in
      let mine : numbered n e ∷ own_events y (suc n) h ≡ v ∷ numbered_in rest = sym (pick_same y _ _) ∙ (x.sides y).events ∙ ap numbered_in is in
      let first : v ≡ numbered n e = cc in
      let others : own_events y (suc n) h ≡ numbered_in rest = cc in
      let (after, step, more) = calls_come y (own y).place v rest (subst (λ z. AreCalls y (own y).place z) is (x.sides y).are) in
      let o : Own y = record { place = after; since = v.number; calls = rest } in
      let own' : (z : Side) → Own z = with_own y o own in
      let is_step : Steps y (own y).place (Happens e) after = subst (λ (z : Numbered). Steps y (own y).place (Happens z.event) after) first step in
      let there : CanLeadTo capacity (past ++ e ∷ []) (point_of q own') =
      happens capacity past (point_of q own) (point_of q own') e r
      (moves_one capacity q q (Happens e) y o own refl is_step (λ z not. (others_mark z (Happens e) (own z).place (own z).place not).1 refl)) in
      let sides : (z : Side) → ToCome z end (suc n) h order (own' z) =
      with_holds (λ z w. ToCome z end (suc n) h order w) y o own (record { events = others; are = more; makes = (x.sides y).makes ∙ ap (recorded_operations y end (own y).since) is })
      (λ z not. record { events = sym (pick_other z y _ _ not) ∙ (x.sides z).events; are = (x.sides z).are; makes = (x.sides z).makes }) in
      subst (IsLinearizable capacity) (append_assoc past (e ∷ []) h) (go (suc n) q own' (record { sides = sides; legal = x.legal; keeps_time = x.keeps_time }) (past ++ e ∷ []) there)

  passing : (e : Event) (h : List Event) → ((order : List RecordedOperation) → Goes h order) → Passes (e ∷ h)
  passing e h go n q own order x never past r = next_comes e h order (go order) n q own x past r (own (side_of e)).calls refl (λ d rest i. never (side_of e) d rest i refl)

  -- the next operation takes effect, or an event comes before it
  next_goes :
      (h : List Event) (o : RecordedOperation) (order : List RecordedOperation) → Passes h → Goes h order → (n : ℕ) (q : Queue) (own : (y : Side) → Own y) → Rest capacity end n h q own (o ∷ order) →
      (past : List Event) → CanLeadTo capacity past (point_of q own) → (calls : List OwnStep) → (own o.side).calls ≡ calls →
      o ∷ recorded_of_side o.side order ≡ recorded_operations o.side end (own o.side).since calls → IsLinearizable capacity (past ++ h)
  next_goes h o order pass go n q own x past r [] is mine = absurd cc
  next_goes h o order pass go n q own x past r (Makes d ∷ rest) is mine =
      let y = o.side in
      let first : o ≡ recorded_operation y d (own y).since (next_event end rest) = cc in
      let others : recorded_of_side y order ≡ recorded_operations y end (own y).since rest = cc in
      let (after, does_it, step, more) = calls_make y (own y).place d rest (subst (λ z. AreCalls y (own y).place z) is (x.sides y).are) in
      let (q', does, legal) = x.legal in
      let is_step : Step capacity q d q' = subst (λ (z : RecordedOperation). Step capacity q z.does q') first does in
      let w : Own y = record { place = after; since = (own y).since; calls = rest } in
      let sides : (z : Side) → ToCome z end n h order (with_own y w own z) =
      with_holds (λ z v. ToCome z end n h order v) y w own (record { events = (x.sides y).events ∙ ap numbered_in is; are = more; makes = others })
      (λ z not. record { events = (x.sides z).events; are = (x.sides z).are; makes = sym (pick_other z y _ _ not) ∙ (x.sides z).makes }) in
      go n q' (with_own y w own) (record { sides = sides; legal = legal; keeps_time = x.keeps_time.1 }) past
      (goes capacity past (point_of q own) (point_of q' (with_own y w own)) d r
      (moves_one capacity q q' (Effect d) y w own is_step step (λ z not. (others_mark z (Effect d) (own z).place (own z).place (λ e. not (sym does_it ∙ e))).1 refl)))
  next_goes h o order pass go n q own x past r (Comes v ∷ rest) is mine = pass n q own (o ∷ order) x (λ z. never h (λ y. (x.sides y).events) z) past r
    where
      never : (g : List Event) → ((y : Side) → own_events y n g ≡ numbered_in (own y).calls) → (z : Side) → NoClash z g (own z).calls
      never [] events z = tt
      never (e ∷ g) events z = λ d later i s.
          let y = o.side in
          picked (λ (u : Side). ⊥) z y z y (λ same. let calls : (own z).calls ≡ Comes v ∷ rest = subst (λ u. (own u).calls ≡ Comes v ∷ rest) same is in cc)
          (λ not.
          let here : numbered n e ∷ own_events z (suc n) g ≡ numbered_in later =
          sym (ap (λ u. pick z u (numbered n e ∷ own_events z (suc n) g) (own_events z (suc n) g)) s ∙ pick_same z _ _) ∙ events z ∙ ap numbered_in i in
          let others : own_events y (suc n) g ≡ v ∷ numbered_in rest = sym (pick_other y (side_of e) _ _ (λ f. not (sym f ∙ s))) ∙ events y ∙ ap numbered_in is in
          let makes : recorded_of_side z order ≡ recorded_operation z d (own z).since (next_event end later) ∷ recorded_operations z end (own z).since later =
          sym (pick_other z y _ _ not) ∙ (x.sides z).makes ∙ ap (recorded_operations z end (own z).since) i in
          let above : From (suc n) (v ∷ numbered_in rest) = subst (From (suc n)) others (own_from y (suc n) (suc n) g (omega arith)) in
          clash z y end n (own z).since v.number e g o order (recorded_of_side y order) later (Comes v ∷ rest) d here others above.0 mine makes x.keeps_time.0)

  inner : (h : List Event) → Passes h → (order : List RecordedOperation) → Goes h order
  inner h pass [] n q own x past r = pass n q own [] x (λ y. none y h (own y).calls (own y).since (x.sides y).makes) past r
    where
      none : (s : Side) (g : List Event) (calls : List OwnStep) (k : ℕ) → [] ≡ recorded_operations s end k calls → NoClash s g calls
      none s [] calls k e = tt
      none s (y ∷ g) calls k e = λ d rest i t. let f : [] ≡ recorded_operations s end k (Makes d ∷ rest) = e ∙ ap (recorded_operations s end k) i in cc
  inner h pass (o ∷ order) n q own x past r =
      next_goes h o order pass (inner h pass order) n q own x past r (own o.side).calls refl (sym (pick_same o.side _ _) ∙ (x.sides o.side).makes)

  passes : (h : List Event) → Passes h
  passes [] = λ n q own order x never past r. (point_of q own, subst (λ z. CanLeadTo capacity z (point_of q own)) (sym (append-nil past)) r)
  passes (e ∷ h) = passing e h (inner h (passes h))

-- before the first event
abbrev first_own : (puts takes : List OwnStep) → (y : Side) → Own y
first_own puts takes P = record { place = Idle; since = 0; calls = puts }
first_own puts takes C = record { place = Resting; since = 0; calls = takes }

pub moments_of : (capacity : Capacity) (h : List Event) → Linearization capacity h → IsLinearizable capacity h
moments_of capacity h l =
    inner capacity (length h) h (passes capacity (length h) h) l.order 0 (queue [] false) (first_own l.puts l.takes)
    (record { sides = sides; legal = l.legal; keeps_time = l.keeps_time }) [] (start capacity)
  where
    sides : (y : Side) → ToCome y (length h) 0 h l.order (first_own l.puts l.takes y)
    sides P = record { events = sym l.put_events; are = l.are_puts; makes = l.producer }
    sides C = record { events = sym l.take_events; are = l.are_takes; makes = l.consumer }
