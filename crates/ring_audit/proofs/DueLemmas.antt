-- No event but a few may come next.
use Rattle.std.proofs.Common.{◌≡◌, ◌≢◌, ◌⊎◌, ◌↔◌, IsTrue, inl, inr, ℕ, ◌+◌, ◌<◌, Bool, true, false, Option, Some, None, List, [], ◌∷◌, ◌++◌, take, length, get_or, nat_lt, if◌then◌else◌, refl, sym, ap, subst, ◌∙◌, arith}
use Rattle.std.proofs.lemmas.Bool.{cases_eq}
use Rattle.std.proofs.lemmas.List.{take_more, take-append-le}
use Rattle.ring_audit.proofs.Common.{Side, P, C, Bit, R, Cell, Access, Event, Shape, begun_by, opening_event, row_bit, UnaryState, due_unary, due_writes, first_access, due_read, put_program}
use Rattle.ring_audit.proofs.Common.{take_program, PutReading, PutsStand, TakeReading, TakesStand, BothFollow, Dues}
use Rattle.bits_core.specs.declared.events.Act.{Act}
use Rattle.bits_core.specs.declared.events.Act.TheVariants.{WriteBegin}
use Rattle.bits_core.specs.declared.events.Access.TheVariants as begins
use Rattle.ring_core.specs.ConsumerState.{ConsumerState, IsBetweenWords, consumer_due_at, due_take}
use Rattle.ring_audit.specs.Sides.{EndsSo, AreOfPuts, AreOfTakes}
use Rattle.ring_audit.specs.Dues.{BothStand, GoesOnBehind, IsDueOf, IsNoneOf, act_rank, ComesBefore, ComeInOrder, AreInOrder}
use Rattle.ring_audit.proofs.Beginnings.{begins_so}
use Rattle.ring_audit.proofs.Breaks.{begins_take}
use Rattle.ring_audit.proofs.Readers.{end_at_rest, wrong_end}

-- ---- an access is open, or none is

pub put_open :
    (shape : Shape) (r : PutReading) (es : List Event) (items stored : List ℕ) (a : Access) (e : Event) → PutsStand shape r es items stored → r.open_access ≡ Some a → e.side ≡ P →
    ((v : Bool) → EndsSo a e v → ⊥) → AreOfPuts shape (es ++ e ∷ []) → ⊥
put_open shape r es items stored a e st some by no_end of_puts = wrong_end P es st.made (put_program shape of_puts.0) r.open_access a e st.events_are some by no_end of_puts.2

pub take_open :
    (shape : Shape) (r : TakeReading) (es : List Event) (items : List ℕ) (a : Access) (e : Event) → TakesStand shape r es items → r.open_access ≡ Some a → e.side ≡ C →
    ((v : Bool) → EndsSo a e v → ⊥) → AreOfTakes shape (es ++ e ∷ []) → ⊥
take_open shape r es items a e st some by no_end of_takes = wrong_end C es st.made (take_program shape of_takes.0) r.open_access a e st.events_are some by no_end of_takes.2

pub put_rest :
    (shape : Shape) (r : PutReading) (es : List Event) (items stored : List ℕ) (e : Event) → PutsStand shape r es items stored → r.open_access ≡ None → e.side ≡ P →
    ((a : Access) → e ≡ opening_event P a → AreOfPuts shape (es ++ opening_event P a ∷ []) → ⊥) → AreOfPuts shape (es ++ e ∷ []) → ⊥
put_rest shape r es items stored e st none by wrong of_puts =
    elim (begun_by e) as (λ o. begun_by e ≡ o → ⊥) [
      | None ↦ λ no_begin. end_at_rest P es st.made (put_program shape of_puts.0) r.open_access e st.events_are none no_begin of_puts.2
      | Some a ↦ λ begun. wrong a (begins_so P e a by begun) (subst (λ d. AreOfPuts shape (es ++ d ∷ [])) (begins_so P e a by begun) of_puts)
    ] refl

pub take_rest :
    (shape : Shape) (r : TakeReading) (es : List Event) (items : List ℕ) (e : Event) → TakesStand shape r es items → r.open_access ≡ None → e.side ≡ C →
    ((a : Access) → e ≡ opening_event C a → AreOfTakes shape (es ++ opening_event C a ∷ []) → ⊥) → AreOfTakes shape (es ++ e ∷ []) → ⊥
take_rest shape r es items e st none by wrong of_takes =
    elim (begun_by e) as (λ o. begun_by e ≡ o → ⊥) [
      | None ↦ λ no_begin. end_at_rest C es st.made (take_program shape of_takes.0) r.open_access e st.events_are none no_begin of_takes.2
      | Some a ↦ λ begun. wrong a (begins_so C e a by begun) (subst (λ d. AreOfTakes shape (es ++ d ∷ [])) (begins_so C e a by begun) of_takes)
    ] refl

-- ---- the events before it

-- if the events up to one are not of the programs, no event continues after all of them
pub follow_before : (shape : Shape) (h : List Event) (i : ℕ) (d e : Event) → i < length h → (BothFollow shape (take i h ++ get_or h i d ∷ []) → ⊥) → BothFollow shape (h ++ e ∷ []) → ⊥
follow_before shape h i d e within stops ((puts, are, events), (takes, are', events')) =
    let one : take (i + 1) (h ++ e ∷ []) ≡ take i h ++ get_or h i d ∷ [] = take-append-le (i + 1) h (e ∷ []) (omega (arith, within)) ∙ take_more h i d within in
    stops (subst (BothFollow shape) one ((puts, are, begins_take P (h ++ e ∷ []) (i + 1) _ events), (takes, are', begins_take C (h ++ e ∷ []) (i + 1) _ events')))

-- ---- whether an event is another

same_truth : (a b : Bool) → (a ≡ b) ⊎ (a ≢ b)
same_truth a b = grind arith

same_side : (s t : Side) → (s ≡ t) ⊎ (s ≢ t)
same_side s t = grind arith

one_of : (f : ℕ → Bit) (a b : ℕ) → (f a ≡ f b → a ≡ b) → (f a ≡ f b) ⊎ (f a ≢ f b)
one_of f a b back = grind (arith, cases_eq)

same_bit : (b c : Bit) → (b ≡ c) ⊎ (b ≢ c)
same_bit b c = grind (arith, one_of, cases_eq)

same_act : (a b : Act) → (a ≡ b) ⊎ (a ≢ b)
same_act a b = grind (arith, same_truth)

event : Side → Bit → Act → Event
event s b x = record { side = s; bit = b; act = x }

same_event : (e d : Event) → (e ≡ d) ⊎ (e ≢ d)
unfolding event
same_event e d =
    elim (same_side e.side d.side) [
      | inr other ↦ inr (λ same. other (ap (λ (z : Event). z.side) same))
      | inl side ↦ elim (same_bit e.bit d.bit) [
        | inr other ↦ inr (λ same. other (ap (λ (z : Event). z.bit) same))
        | inl bit ↦ elim (same_act e.act d.act) [
          | inr other ↦ inr (λ same. other (ap (λ (z : Event). z.act) same))
          | inl act ↦ inl (all_same e.side d.side e.bit d.bit e.act d.act side bit act)
        ]
      ]
    ]
  where
    all_same : (s t : Side) (b c : Bit) (x y : Act) → s ≡ t → b ≡ c → x ≡ y → event s b x ≡ event t c y
    all_same s t b c x y side bit act = cc

-- whether an event that may be there is this one
pub is_event : (o : Option Event) (e : Event) → (o ≡ Some e) ⊎ (o ≢ Some e)
is_event None e = inr (λ same. (absurd (cc)))
is_event (Some d) e = grind (arith, same_event d e)

-- a statement that each returned event satisfies, and each of these that satisfies it is returned
pub all_told :
    (shape : Shape) (h : List Event) (s : Side) (candidates told : Dues) →
    ((e : Event) → (told.first ≡ Some e) ↔ ((candidates.first ≡ Some e) × (e.side ≡ s) × GoesOnBehind shape h e)) →
    ((e : Event) → (told.second ≡ Some e) ↔ ((candidates.second ≡ Some e) × (e.side ≡ s) × GoesOnBehind shape h e)) →
    ((e : Event) → (told.third ≡ Some e) ↔ ((candidates.third ≡ Some e) × (e.side ≡ s) × GoesOnBehind shape h e)) →
    ((e : Event) → e.side ≡ s → IsNoneOf candidates e → GoesOnBehind shape h e → ⊥) → (e : Event) →
    IsDueOf told e ↔ ((e.side ≡ s) × GoesOnBehind shape h e)
all_told shape h s candidates told first second third all e = (of_told, back)
  where
    of_told : IsDueOf told e → (e.side ≡ s) × GoesOnBehind shape h e
    of_told (inl is) = (((first e).0 is).1, ((first e).0 is).2)
    of_told (inr (inl is)) = (((second e).0 is).1, ((second e).0 is).2)
    of_told (inr (inr is)) = (((third e).0 is).1, ((third e).0 is).2)

    back : (e.side ≡ s) × GoesOnBehind shape h e → IsDueOf told e
    back (by, on) =
        elim (is_event candidates.first e) [
          | inl is ↦ inl ((first e).1 (is, by, on))
          | inr no_first ↦ elim (is_event candidates.second e) [
            | inl is ↦ inr (inl ((second e).1 (is, by, on)))
            | inr no_second ↦ elim (is_event candidates.third e) [
              | inl is ↦ inr (inr ((third e).1 (is, by, on)))
              | inr no_third ↦ absurd (all e by (no_first, no_second, no_third) on)
            ]
          ]
        ]

-- ---- their order

-- those kept of events in their order are in their order
pub kept_in_order :
    (among told : Dues) → ((e : Event) → told.first ≡ Some e → among.first ≡ Some e) → ((e : Event) → told.second ≡ Some e → among.second ≡ Some e) →
    ((e : Event) → told.third ≡ Some e → among.third ≡ Some e) → AreInOrder among → AreInOrder told
kept_in_order among told first second third order = grind arith

pub in_order : (e f : Event) (one other : Option Event) → one ≡ Some e → other ≡ Some f → ComesBefore e f → ComeInOrder one other
in_order e f one other is is' before e' f' told told' = grind arith

-- two events in their order, and no third
pub two_in_order : (e f : Event) (dues : Dues) → dues.first ≡ Some e → dues.second ≡ Some f → dues.third ≡ None → ComesBefore e f → AreInOrder dues
two_in_order e f dues one other none before = grind (arith, in_order)

-- a word's digits come before the count
pub digits_in_order :
    (b : Bit) (j i : ℕ) (dues : Dues) → b ≡ Cell j i → dues.first ≡ Some (opening_event P (begins.Write b false)) → dues.second ≡ Some (opening_event P (begins.Write b true)) →
    ((e : Event) → dues.third ≡ Some e → act_rank e.bit e.act ≡ 2) → AreInOrder dues
digits_in_order b j i dues cell zero one count = grind (arith, in_order)

-- the write of a count's bit comes after them
pub counts_last : (row : UnaryState) (due : Option Access) (told : Option Event) → row.side ≡ P → due ≡ due_unary row → ((a : Access) → due ≡ Some a → told ≡ Some (opening_event P a)) →
    (due ≡ None → told ≡ None) → (e : Event) → told ≡ Some e → act_rank e.bit e.act ≡ 2
counts_last row due told side is opens none e told_is =
    elim (due_writes row) as (λ ws. due ≡ first_access (row_bit row.side) ws → act_rank e.bit e.act ≡ 2) [
      | [] ↦ λ no_due. (let clash : Some e ≡ None = sym told_is ∙ none no_due in absurd (cc))
      | x ∷ ws ↦ λ a_due.
          (let opened : told ≡ Some (opening_event P (begins.Write (row_bit row.side x.bit) x.value)) = opens (begins.Write (row_bit row.side x.bit) x.value) a_due in
          let same : opening_event P (begins.Write (row_bit row.side x.bit) x.value) ≡ e = cc in
          subst (λ (z : Event). act_rank z.bit z.act ≡ 2) same (ap (λ s. act_rank (row_bit s x.bit) (WriteBegin x.value)) side))
    ] is

-- between words, the read of the next digit comes before the write of the count
pub reads_before_count :
    (p : ConsumerState) (i : ℕ) (v : Bool) (word count : Option Event) → IsBetweenWords p → ((a : Access) → due_take p ≡ Some a → word ≡ Some (opening_event C a)) →
    (due_take p ≡ None → word ≡ None) → count ≡ Some (opening_event C (begins.Write (R i) v)) → AreInOrder (record { first = word; second = count; third = None })
reads_before_count p i v word count between opens none count_is =
    let due_is : due_take p ≡ due_read p.word = ap (λ st. consumer_due_at st p) between.stage_is in
    let read : Access = begins.Read (Cell p.word.cell p.word.read) in
    let dues : Dues = record { first = word; second = count; third = None } in
    elim (nat_lt p.word.read p.word.width) as (λ b. due_take p ≡ (if b then Some read else None) → AreInOrder dues) [
      | true ↦ λ due. two_in_order (opening_event C read) (opening_event C (begins.Write (R i) v)) dues (opens read due) count_is refl (omega arith)
      | false ↦ λ due. (
        λ e f is is'. (let clash : None ≡ Some e = sym (none due) ∙ is in absurd (cc)),
        λ e f is is'. (let clash : None ≡ Some e = sym (none due) ∙ is in absurd (cc)),
        λ e f is is'. absurd (cc),
      )
    ] due_is

-- ---- what the reader of puts has inside

abbrev pub BeginsNoOther : PutReading → Dues → Type 0
BeginsNoOther r dues =
    (es : List Event) (items stored : List ℕ) (access : Access) → PutsStand r.shape r es items stored → IsNoneOf dues (opening_event P access) →
    AreOfPuts r.shape (es ++ opening_event P access ∷ []) → ⊥

pub begins_by : (r now : PutReading) (dues : Dues) → r ≡ now → BeginsNoOther r dues → BeginsNoOther now dues
begins_by r now dues is others = subst (λ (z : PutReading). BeginsNoOther z dues) is others

-- ---- in the pass over the events

pub stops_here :
    (of shape : Shape) (h : List Event) (i : ℕ) (d e : Event) → of ≡ shape → i < length h → (BothFollow of (take i h ++ get_or h i d ∷ []) → ⊥) → BothFollow shape (h ++ e ∷ []) → ⊥
stops_here of shape h i d e same within stops = follow_before shape h i d e within (λ f. stops (subst (λ s. BothFollow s (take i h ++ get_or h i d ∷ [])) (sym same) f))

pub decides :
    (of shape : Shape) (h : List Event) (e : Event) (on : Bool) → of ≡ shape → (on ≡ true → BothFollow of (h ++ e ∷ [])) → (on ≡ false → BothFollow of (h ++ e ∷ []) → ⊥) →
    IsTrue on ↔ GoesOnBehind shape h e
decides of shape h e on same goes never = grind arith

-- what readers that stand after the events return, for their own shape
pub dues_behind :
    (of shape : Shape) (h : List Event) (s : Side) (puts : PutReading) (takes : TakeReading) (told : Dues) → of ≡ shape → BothStand shape puts takes h →
    ((g : List Event) → BothStand of puts takes g → (e : Event) → IsDueOf told e ↔ ((e.side ≡ s) × GoesOnBehind of g e)) → (e : Event) →
    IsDueOf told e ↔ ((e.side ≡ s) × GoesOnBehind shape h e)
dues_behind of shape h s puts takes told same stands due e =
    subst (λ z. IsDueOf told e ↔ ((e.side ≡ s) × GoesOnBehind z h e)) same (due h (subst (λ z. BothStand z puts takes h) (sym same) stands) e)
