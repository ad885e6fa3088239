-- A step of an end by its machine, whichever side it is of.
use Rattle.std.proofs.Common.{◌≡◌, inl, inr, ◌+◌, ◌*◌, ◌<◌, Bool, true, Option, Some, None, List, [], ◌∷◌, ◌++◌, length, refl, ap, sym, subst, ◌∙◌, arith}
use Rattle.ring_ends.proofs.Common.{length-append, Side, Access, Event, Shape, other, open_access, IsOpenRight, LastBitIsDue, EndsInZeros, Ring, RingEnd, made_leave_none_open}
use Rattle.bits_core.specs.Lawful.{IsLawful}
use Rattle.bits_core.specs.Made.{Made, answered, events_of, subhistory, IsPrefix}
use Rattle.ring_seats.specs.Programs.{Follows, GoesOn, begin_of, ending_event}
use Rattle.ring_seats.specs.Steppers.{Grows, IsSameEnd, StandsAs, CanMake, CanStep, HasStepped}
use Rattle.ring_ends.specs.Machines.{ListIs, Machine, MachineAt, MachineStep}
use Rattle.ring_ends.specs.Moves.{Due, Fed, MachineLaws, Next, TellsNext}
use Rattle.ring_seats.proofs.Histories.{own-mine, own-theirs}
use Rattle.ring_ends.proofs.Lists.{ring_follows, events_begin, events_more, begun_open, shorter, no_zero, length-events_of}
use Rattle.ring_ends.proofs.Steps.{by_end, not_by_end, list_closed, CanMakeAt, CanStepAt, none-some}

-- the due access is one that the end may make
pub right_there : (k : Machine) (e : RingEnd) (m : k.State) (calls : k.Calls) (made : List Made) → MachineAt k e m calls made → (a : Access) → Due k m a → IsOpenRight e.ring.shape e.side a
right_there k e m calls made at a d = subst (λ (z : Shape × Side). IsOpenRight z.0 z.1 a) (λ i. (at.shape_is i, sym at.side_is i)) d.right

-- what `next` returns, by what holds if no access is due, and if one is
pub tells :
    (k : Machine) (m : k.State) (due : Option Access) → (due ≡ None → (calls : k.Calls) (made : List Made) → k.Stands m calls made → k.Rests m) →
    ((a : Access) → due ≡ Some a → Due k m a) → TellsNext k m due
tells k m due h1 h2 = grind arith

module _ (k : Machine) (ks : MachineLaws k) (m : k.State) (calls : k.Calls) (made : List Made) (a : Access) (next : Next k m calls made a) where
  begins : (answer : Bool) → (LastBitIsDue (k.shape_of m) k.side (Some a) → answer ≡ true) → (more : k.Calls) × k.More (k.shape_of m) next.one calls more × IsPrefix (events_of k.side (made ++ answered a answer ∷ [])) (events_of k.side (k.program (k.shape_of m) more))
  begins answer may = let b = next.goes answer may in (b.0, b.1, events_begin k.side (made ++ answered a answer ∷ []) (k.program (k.shape_of m) b.0) b.2)

  begun_so : (more : k.Calls) × k.More (k.shape_of m) next.one calls more × IsPrefix (events_of k.side made ++ begin_of k.side a ∷ []) (events_of k.side (k.program (k.shape_of m) more))
  begun_so = let b = begins true (λ _. refl) in
      (b.0, b.1, shorter (events_of k.side made ++ begin_of k.side a ∷ []) (ending_event k.side a true) (events_of k.side (k.program (k.shape_of m) b.0)) (subst (λ (l : List Event). IsPrefix l (events_of k.side (k.program (k.shape_of m) b.0))) (events_more k.side made a true) b.2))

  follows_begun : (list : List Event) → list ≡ events_of k.side made → Follows (k.shape_of m) k.side (list ++ begin_of k.side a ∷ [])
  follows_begun list is = grind (arith, begun_so)

  module _ (zeros : LastBitIsDue (k.shape_of m) k.side (Some a) → EndsInZeros (k.shape_of m) k.side made) where
    -- the last bit is never read as 0
    answers_one : (h : List Event) → IsLawful (k.shape_of m) h → Follows (k.shape_of m) (other k.side) (subhistory (other k.side) h) → (v : Bool) → subhistory k.side h ≡ events_of k.side (made ++ answered a v ∷ []) → LastBitIsDue (k.shape_of m) k.side (Some a) → v ≡ true
    answers_one h h1 h2 v h3 h4 = grind (arith, no_zero)

    goes_on : (list : List Event) → list ≡ events_of k.side made ++ begin_of k.side a ∷ [] → GoesOn (k.shape_of m) k.side a list
    goes_on list is h v lawful ring mine =
        let x : Side = k.side in
        let h' : List Event = h ++ ending_event x a v ∷ [] in
        let whole : list ++ ending_event x a v ∷ [] ≡ events_of x (made ++ answered a v ∷ []) = ap (λ (l : List Event). l ++ ending_event x a v ∷ []) is ∙ sym (events_more x made a v) in
        let own_is : subhistory x h' ≡ events_of x (made ++ answered a v ∷ []) = own-mine x h (ending_event x a v) (by_end x a v) ∙ ap (λ (l : List Event). l ++ ending_event x a v ∷ []) mine ∙ whole in
        let theirs : Follows (k.shape_of m) (other x) (subhistory (other x) h') = subst (Follows (k.shape_of m) (other x)) (sym (own-theirs (other x) h (ending_event x a v) (not_by_end x a v))) (ring_follows (k.shape_of m) h ring (other x)) in
        let b = begins v (answers_one h' lawful theirs v own_is) in
        subst (Follows (k.shape_of m) x) (sym whole) (ks.follows (k.shape_of m) next.one calls b.0 (events_of x (made ++ answered a v ∷ [])) b.1 b.2)

    can_whole : (list : List Event) → list ≡ events_of k.side made → CanMakeAt (k.shape_of m) k.side list a
    can_whole list is = grind (arith, follows_begun, goes_on, made_leave_none_open)

    can : (list : List Event) → ListIs k.side list made (Some a) → CanStepAt (k.shape_of m) k.side list a
    can list h1 = grind (arith, begun_open, follows_begun, goes_on, made_leave_none_open)

-- ---- with the end

module _ (k : Machine) (ks : MachineLaws k) (e : RingEnd) (m : k.State) (calls : k.Calls) (made : List Made) (at : MachineAt k e m calls made) (a : Access) (d : Due k m a) where
  abbrev next : Next k m calls made a
  next = d.next calls made at.stands

  list_due : ListIs k.side e.list made (Some a)
  list_due = subst (ListIs k.side e.list made) d.is at.list_is

  pub can_there : CanStep e a
  can_there = subst (λ (z : Shape × Side). CanStepAt z.0 z.1 e.list a) (λ i. (at.shape_is i, sym at.side_is i)) (can k ks m calls made a next (d.zeros calls made at.stands) e.list list_due)

  pub can_make : e.list ≡ events_of k.side made → CanMake e a
  can_make is = subst (λ (z : Shape × Side). CanMakeAt z.0 z.1 e.list a) (λ i. (at.shape_is i, sym at.side_is i)) (can_whole k ks m calls made a next (d.zeros calls made at.stands) e.list is)

  module _ (b : RingEnd) where
    shape_b : IsSameEnd e b → k.shape_of m ≡ b.ring.shape
    shape_b g = at.shape_is ∙ sym (ap (λ (r : Ring). r.shape) g.ring)

    lawful_b : {event : Event} → Grows e b event → StandsAs k.side b
    lawful_b g = subst (λ (x : Side). StandsAs x b) (g.same.side ∙ at.side_is) g.stands

    list_begun : HasStepped e b a None → b.list ≡ events_of k.side made ++ begin_of k.side a ∷ []
    list_begun s =
        let was : e.list ≡ events_of k.side made = list_closed k.side e.list made (Some a) list_due (ap (λ (x : Side). open_access x e.list) (sym at.side_is) ∙ s.0) in
        s.1.list ∙ (λ i. was i ++ begin_of (at.side_is i) a ∷ [])

    -- the start of the due access, and the state of the end then
    pub at_begun : HasStepped e b a None → MachineAt k b m calls made
    at_begun s = record { side_is = s.1.same.side ∙ at.side_is; lawful = lawful_b s.1; shape_is = shape_b s.1.same; stands = at.stands; list_is = inr (a, d.is, list_begun s) }

    pub begun : HasStepped e b a None → MachineStep k e m b m calls
    begun s = record {
      event = begin_of e.side a;
      grows = s.1;
      more = calls;
      made = made;
      at = at_begun s;
      after = ks.stays m next.one calls next.is;
      within = λ c is.
          let same : next.one ≡ c = ks.one m next.one c next.is is in
          subst (λ (d : k.Call). length b.list < 2 * (length (k.program (k.shape_of m) calls) + k.longest (k.shape_of m) d) + 1) same
          (omega (arith, ap length (list_begun s), length-append (events_of k.side made) (begin_of k.side a ∷ []), length-events_of k.side made, next.few));
      part = λ c is.
          let same : next.one ≡ c = ks.one m next.one c next.is is in
          let f = begun_so k ks m calls made a next in
          subst (λ (z : Shape × k.Call). k.Part z.0 z.1 (events_of k.side (k.program (k.shape_of m) calls)) b.list) (λ i. (shape_b s.1.same i, same i))
          (ks.part m next.one calls f.0 made b.list at.stands f.1 (subst (λ (l : List Event). IsPrefix l (events_of k.side (k.program (k.shape_of m) f.0))) (sym (list_begun s)) f.2));
    }

    module _ (v : Bool) (s : HasStepped e b a (Some v)) where
      pub list_ended : b.list ≡ events_of k.side (made ++ answered a v ∷ [])
      list_ended = grind (arith, events_more, list_due, made_leave_none_open, none-some)

      -- the answer may be fed
      one_due : LastBitIsDue (k.shape_of m) k.side (Some a) → v ≡ true
      one_due = grind (arith, answers_one, list_ended, ring_follows, shape_b)

      pub one_there : LastBitIsDue (k.shape_of m) k.side (k.due m) → v ≡ true
      one_there last = one_due (subst (LastBitIsDue (k.shape_of m) k.side) d.is last)

      module _ (m' : k.State) (fed : Fed k m v m') where
        abbrev pub moved : (more : k.Calls) × k.Stands m' more (made ++ answered a v ∷ []) × k.After m m' calls more
        moved = fed.moved calls made a at.stands d.is

        abbrev more : k.Calls
        more = moved.0

        -- the end of the due access, and the state of the end then
        pub at_ended : MachineAt k b m' more (made ++ answered a v ∷ [])
        at_ended = record { side_is = s.1.same.side ∙ at.side_is; lawful = lawful_b s.1; shape_is = fed.shape ∙ shape_b s.1.same; stands = moved.1; list_is = inl list_ended }

        pub ended : MachineStep k e m b m' calls
        ended = record {
          event = ending_event e.side a v;
          grows = s.1;
          more = more;
          made = made ++ answered a v ∷ [];
          at = at_ended;
          after = moved.2;
          within = λ c is.
              let same : next.one ≡ c = ks.one m next.one c next.is is in
              subst (λ (d : k.Call). length b.list < 2 * (length (k.program (k.shape_of m) calls) + k.longest (k.shape_of m) d) + 1) same
              (omega (arith, ap length list_ended, length-append made (answered a v ∷ []), length-events_of k.side (made ++ answered a v ∷ []), next.few));
          part = λ c is.
              let same : next.one ≡ c = sym (ks.goes m m' next.one c calls more next.is is moved.2).0 in
              let f = begins k ks m calls made a next v one_due in
              subst (λ (z : Shape × k.Call). k.Part z.0 z.1 (events_of k.side (k.program (k.shape_of m) calls)) b.list) (λ i. (shape_b s.1.same i, same i))
              (ks.part m next.one calls f.0 made b.list at.stands f.1 (subst (λ (l : List Event). IsPrefix l (events_of k.side (k.program (k.shape_of m) f.0))) (sym list_ended) f.2));
        }
