-- A producer driven by hand: one more event.
use Rattle.std.proofs.Common.{◌≡◌, ◌≢◌, ◌⊎◌, ⊎_elim, inl, inr, ℕ, suc, ◌↔◌, Bool, true, false, IsTrue, if◌then◌else◌, Some, None, List, [], ◌∷◌, ◌++◌, length, refl, ap, sym, subst, ◌∙◌, arith, append-nil, append_assoc}
use Rattle.std.proofs.lemmas.List.{length-append}
use Rattle.bits_core.specs.declared.shapes.Shape.{Shape}
use Rattle.bits_core.specs.declared.events.Side.{Side}
use Rattle.bits_core.specs.declared.events.Side.TheVariants.{P, C}
use Rattle.bits_core.specs.declared.events.Access.{Access}
use Rattle.bits_core.specs.declared.events.Access.TheVariants as access
use Rattle.bits_core.specs.declared.events.Event.{Event}
use Rattle.bits_core.specs.Bits.{begun_by, is_by, same_side}
use Rattle.bits_core.specs.Lawful.{IsLawful}
use Rattle.bits_core.specs.History.{open_access}
use Rattle.bits_core.specs.Laws.{MadeLeaveNoneOpen, OpenChanges, OpenFromOwn, SubhistoryChanges}
use Rattle.bits_core.specs.Made.{Made, Read, answered, begin_event, end_event, events_of, opening_event, subhistory, IsPrefix}
use Rattle.bits_core.specs.Memory.{MemoryState}
use Rattle.bits_core.specs.Shape.{modulus_of}
use Rattle.register_core.specs.Phrases.{row_read_by, zero_reads}
use Rattle.ring_core.specs.Calls.{EndsInZeros, LastBitIsDue}
use Rattle.ring_core.specs.Puts.{Puts}
use Rattle.ring_core.specs.Takes.{Takes, take_program, FollowsTakes}
use Rattle.ring_core.specs.ProducerState.{ProducerState, due_put}
use Rattle.ring_core.specs.ProducerCalls.{ProducerStands, ProducerHasMoved, no_puts}
use Rattle.ring_core.specs.ConsumerCalls.{no_takes}
use Rattle.ring_core.specs.RunLaws.{TakesAreSeen}
use Rattle.ring_core.proofs.Machines.Following.{events_of-append, length-events}
use Rattle.uses.specs.ByHand.{IsDriven}
use Rattle.register_core.proofs.ScanMachine.{length-zeros as length_zeros}

-- ---- the events of an access

opened_by : (s : Side) (a : Access) → is_by s (opening_event P a) ≡ same_side s P
opened_by s (access.Read b) = refl
opened_by s (access.Write b v) = refl

ended_by : (s : Side) (a : Access) (v : Bool) → is_by s (end_event P (answered a v)) ≡ same_side s P
ended_by s (access.Read b) v = refl
ended_by s (access.Write b w) v = refl

begun_opening : (a : Access) → begun_by (opening_event P a) ≡ Some a
begun_opening (access.Read b) = refl
begun_opening (access.Write b v) = refl

begin_is : (a : Access) (v : Bool) → begin_event P (answered a v) ≡ opening_event P a
begin_is (access.Read b) v = refl
begin_is (access.Write b w) v = refl

-- ---- the last bit of a count

no_zero : TakesAreSeen → (shape : Shape) (h : List Event) (takes : Takes) → IsLawful shape h → FollowsTakes shape h takes → (made : List Made) (i : ℕ) → suc i ≡ modulus_of shape → EndsInZeros shape P made →
    subhistory P h ≡ events_of P (made ++ Read (row_read_by P i) false ∷ []) → ⊥
no_zero seen shape h takes lawful follows made i size zeros is =
    let before : List Made = zeros.0 in
    let same : i ≡ zeros.1 = omega (arith, size, zeros.2) in
    let reads : List Made = zero_reads (row_read_by P) (modulus_of shape) in
    let whole : made ++ Read (row_read_by P i) false ∷ [] ≡ before ++ reads =
    (λ j. zeros.3 j ++ Read (row_read_by P (same j)) false ∷ []) ∙
    append_assoc before (zero_reads (row_read_by P) zeros.1) (Read (row_read_by P zeros.1) false ∷ []) ∙
    ap (λ n. before ++ zero_reads (row_read_by P) n) zeros.2 in
    let now : subhistory P h ≡ events_of P (before ++ reads) = is ∙ ap (events_of P) whole in
    let lt = (seen shape h takes lawful follows).1 (before ++ reads) before [] ([], append-nil (subhistory P h) ∙ now) (ap (λ (l : List Made). before ++ l) (sym (append-nil reads))) in
    absurd (omega (arith, lt, ap length now, length-events P (before ++ reads), length-append before reads, length_zeros (row_read_by P) (modulus_of shape)))

-- ---- one more event

module _ (subhistory_changes : SubhistoryChanges) where
  own_more : (s : Side) (h : List Event) (e : Event) → is_by s e ≡ true → subhistory s (h ++ e ∷ []) ≡ subhistory s h ++ e ∷ []
  own_more s h e by = subhistory_changes s h e ∙ ap (λ (b : Bool). if b then subhistory s h ++ e ∷ [] else subhistory s h) by

  own_same : (s : Side) (h : List Event) (e : Event) → is_by s e ≡ false → subhistory s (h ++ e ∷ []) ≡ subhistory s h
  own_same s h e by = subhistory_changes s h e ∙ ap (λ (b : Bool). if b then subhistory s h ++ e ∷ [] else subhistory s h) by

  -- the consumer's events are unchanged
  follows_on : (shape : Shape) (h h' : List Event) (e : Event) (takes : Takes) → h' ≡ h ++ e ∷ [] → is_by C e ≡ false → FollowsTakes shape h takes → FollowsTakes shape h' takes
  follows_on shape h h' e takes is by f = record { are = f.are; events = subst (λ (l : List Event). IsPrefix l (events_of C (take_program shape takes))) (sym (ap (subhistory C) is ∙ own_same C h e by)) f.events }

  module _ (from_own : OpenFromOwn) (opens : OpenChanges) (none_open : MadeLeaveNoneOpen) (m : MemoryState) (p : ProducerState) (d : IsDriven m p) where
    -- no access is open, or the due one is
    IsAtRest : Type 0
    IsAtRest = (subhistory P m.events ≡ events_of P d.made) × (open_access P m.events ≡ None)

    IsAt : Access → Type 0
    IsAt a = (due_put p ≡ Some a) × (subhistory P m.events ≡ events_of P d.made ++ opening_event P a ∷ []) × (open_access P m.events ≡ Some a)

    stages : IsAtRest ⊎ ((a : Access) × IsAt a)
    unfolding IsAtRest IsAt
    stages = ⊎_elim
        (λ rest. inl (rest, from_own P m.events ∙ ap (open_access P) rest ∙ none_open P d.made))
        (λ there.
        inr (
          there.0,
          (
            there.1,
            there.2,
            from_own P m.events ∙ ap (open_access P) there.2 ∙ opens P (events_of P d.made) (opening_event P there.0) ∙
                ap (λ (b : Bool). if b then begun_by (opening_event P there.0) else open_access P (events_of P d.made)) (opened_by P there.0) ∙ begun_opening there.0,
          ),
        ))
        d.own_is

    at_rest : open_access P m.events ≡ None → subhistory P m.events ≡ events_of P d.made
    unfolding IsAtRest IsAt
    at_rest none = ⊎_elim (λ rest. rest.0) (λ there. absurd (let e : None ≡ Some there.0 = sym none ∙ there.1.2 in cc)) stages

    at_open : (a : Access) → open_access P m.events ≡ Some a → (due_put p ≡ Some a) × (subhistory P m.events ≡ events_of P d.made ++ opening_event P a ∷ [])
    unfolding IsAtRest IsAt
    at_open a is_open = ⊎_elim
        (λ rest. absurd (let e : Some a ≡ None = sym is_open ∙ rest.1 in cc))
        (λ there.
        let same : there.0 ≡ a = let e : Some there.0 ≡ Some a = sym there.1.2 ∙ is_open in cc in
        (there.1.0 ∙ ap Some same, there.1.1 ∙ ap (λ (b : Access). events_of P d.made ++ opening_event P b ∷ []) same))
        stages

    module _ (m' : MemoryState) (shape : m'.shape ≡ m.shape) where
      others_on : (e : Event) → m'.events ≡ m.events ++ e ∷ [] → is_by C e ≡ false → FollowsTakes m'.shape m'.events d.takes
      others_on e is by = subst (λ (s : Shape). FollowsTakes s m'.events d.takes) (sym shape) (follows_on m.shape m.events m'.events e d.takes is by d.others)

      -- the access that is due was begun
      pub began : (a : Access) → due_put p ≡ Some a → open_access P m.events ≡ None → m'.events ≡ m.events ++ opening_event P a ∷ [] → IsDriven m' p
      began a due none is = record {
        shape_is = d.shape_is ∙ sym shape;
        calls = d.calls;
        made = d.made;
        stands = d.stands;
        own_is = inr (a, due, ap (subhistory P) is ∙ own_more P m.events (opening_event P a) (opened_by P a) ∙ ap (λ (l : List Event). l ++ opening_event P a ∷ []) (at_rest none));
        takes = d.takes;
        others = others_on (opening_event P a) is (opened_by C a);
      }

      module _ (a : Access) (v : Bool) (is_open : open_access P m.events ≡ Some a) (is : m'.events ≡ m.events ++ end_event P (answered a v) ∷ []) where
        made_more : List Made
        made_more = d.made ++ answered a v ∷ []

        own_now : subhistory P m'.events ≡ events_of P (d.made ++ answered a v ∷ [])
        own_now =
            ap (subhistory P) is ∙ own_more P m.events (end_event P (answered a v)) (ended_by P a v) ∙
            ap (λ (l : List Event). l ++ end_event P (answered a v) ∷ []) (at_open a is_open).1 ∙
            append_assoc (events_of P d.made) (opening_event P a ∷ []) (end_event P (answered a v) ∷ []) ∙
            ap (λ (e : Event). events_of P d.made ++ (e ∷ end_event P (answered a v) ∷ [])) (sym (begin_is a v)) ∙
            sym (events_of-append P d.made (answered a v ∷ []))

        -- something was due
        pub was_due : due_put p ≢ None
        was_due none = absurd (let e : Some a ≡ None = sym (at_open a is_open).0 ∙ none in cc)

        others_now : FollowsTakes m'.shape m'.events d.takes
        others_now = others_on (end_event P (answered a v)) is (ended_by C a v)

        -- a last bit that was due was read as 1
        pub reads_one : TakesAreSeen → IsLawful m'.shape m'.events → (expects : Bool) → (IsTrue expects ↔ LastBitIsDue p.shape P (due_put p)) →
            ((calls : Puts) (made : List Made) → ProducerStands p calls made → IsTrue expects → EndsInZeros p.shape P made) → LastBitIsDue p.shape P (due_put p) → v ≡ true
        reads_one seen lawful expects expected zeros due = elim v as (λ w. v ≡ w → w ≡ true) [
          | true ↦ λ e. refl
          | false ↦ λ e.
              let i : ℕ = due.0 in
              let is_read : a ≡ access.Read (row_read_by P i) = let q : Some a ≡ Some (access.Read (row_read_by P i)) = sym (at_open a is_open).0 ∙ due.1 in cc in
              let made_is : answered a v ≡ Read (row_read_by P i) false = (λ j. answered (is_read j) (e j)) in
              absurd (no_zero seen p.shape m'.events d.takes (subst (λ (s : Shape). IsLawful s m'.events) (shape ∙ sym d.shape_is) lawful)
              (subst (λ (s : Shape). FollowsTakes s m'.events d.takes) (shape ∙ sym d.shape_is) others_now) d.made i due.2
              (zeros d.calls d.made d.stands (expected.1 due)) (own_now ∙ ap (λ (x : Made). events_of P (d.made ++ x ∷ [])) made_is))
        ] refl

        -- and the machine was fed
        pub fed : (p' : ProducerState) → p'.shape ≡ p.shape → ((calls : Puts) (made : List Made) (b : Access) → ProducerStands p calls made → due_put p ≡ Some b → ProducerHasMoved p p' calls (made ++ answered b v ∷ [])) → IsDriven m' p'
        fed p' same moves =
            let moved = moves d.calls d.made a d.stands (at_open a is_open).0 in
            record {
              shape_is = same ∙ d.shape_is ∙ sym shape;
              calls = moved.0;
              made = d.made ++ answered a v ∷ [];
              stands = moved.1;
              own_is = inl own_now;
              takes = d.takes;
              others = others_now;
            }

-- ---- calls

module _ (m : MemoryState) (p : ProducerState) (d : IsDriven m p) where
  whole_own : due_put p ≡ None → subhistory P m.events ≡ events_of P d.made
  whole_own none = ⊎_elim (λ rest. rest) (λ there. absurd (let e : Some there.0 ≡ None = sym there.1 ∙ none in cc)) d.own_is

  -- a call was begun
  pub begun : (p' : ProducerState) → due_put p ≡ None → p'.shape ≡ p.shape → ((calls : Puts) (made : List Made) → ProducerStands p calls made → ProducerStands p' calls made) → IsDriven m p'
  begun p' none same stands = record {
    shape_is = same ∙ d.shape_is;
    calls = d.calls;
    made = d.made;
    stands = stands d.calls d.made d.stands;
    own_is = inl (whole_own none);
    takes = d.takes;
    others = d.others;
  }

-- nothing was done yet
pub fresh : (m : MemoryState) (p : ProducerState) (shape : Shape) → m.shape ≡ shape → m.events ≡ [] → p.shape ≡ shape → ProducerStands p no_puts [] → IsDriven m p
fresh m p shape m_is none p_is stands = record {
  shape_is = p_is ∙ sym m_is;
  calls = no_puts;
  made = [];
  stands = stands;
  own_is = inl (ap (subhistory P) none);
  takes = no_takes;
  others = record { are = tt; events = subst (λ (h : List Event). IsPrefix (subhistory C h) (events_of C (take_program m.shape no_takes))) (sym none) ([], refl) };
}
