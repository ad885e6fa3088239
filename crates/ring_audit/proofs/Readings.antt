-- Both readers stand after one more event of the history, or it is not of the programs.
use Rattle.std.proofs.Common.{◌≡◌, ℕ, List, [], ◌∷◌, ◌++◌, length, if◌then◌else◌, sym, ap, subst, ◌∙◌, append_assoc, append-nil}
use Rattle.ring_audit.proofs.Common.{Side, P, C, Event, Shape, subhistory, AreOfPuts, AreOfTakes, PutReading, PutsStand, HasReadPut, TakeReading, TakesStand, HasReadTake, Reading, ReadingStands}
use Rattle.ring_audit.proofs.Common.{BothFollow, reading}
use Rattle.bits_core.specs.Bits.{same_side}
use Rattle.ring_audit.specs.declared.puts.PutStep.TheVariants as p
use Rattle.ring_audit.specs.declared.takes.TakeStep.TheVariants as c
pub use Rattle.ring_core.proofs.OneMore.{own_more}

-- both readers stand after the event, if each stands after its own side's events
stand_with :
    (shape : Shape) (new : Reading) (s : Side) (h : List Event) (e : Event) (items stored : List ℕ) → e.side ≡ s →
    PutsStand shape new.puts (if same_side P s then subhistory P h ++ e ∷ [] else subhistory P h) items stored →
    TakesStand shape new.takes (if same_side C s then subhistory C h ++ e ∷ [] else subhistory C h) new.taken → new.put ≡ items ++ stored → new.counted ≡ length items →
    ReadingStands shape new (h ++ e ∷ [])
stand_with shape new s h e items stored by puts takes put_is counted_is = record {
  items = items;
  stored = stored;
  puts_stand = subst (λ es. PutsStand shape new.puts es items stored) (sym (own_more P s h e by)) puts;
  takes_stand = subst (λ es. TakesStand shape new.takes es new.taken) (sym (own_more C s h e by)) takes;
  put_is = put_is;
  counted_is = counted_is;
}

-- ---- an event of the producer

pub put_stops :
    (shape : Shape) (r : Reading) (new : PutReading) (e : Event) → e.side ≡ P → HasReadPut shape r.puts new e p.Stops →
    (h : List Event) → ReadingStands shape r h → BothFollow shape (h ++ e ∷ []) → ⊥
put_stops shape r new e by read h st (of_puts, of_takes) =
    read (subhistory P h) st.items st.stored st.puts_stand (subst (AreOfPuts shape) (own_more P P h e by) of_puts)

pub put_goes :
    (shape : Shape) (r : Reading) (new : PutReading) (e : Event) → e.side ≡ P → HasReadPut shape r.puts new e p.GoesOn →
    (h : List Event) → ReadingStands shape r h → ReadingStands shape (record r { puts = new }) (h ++ e ∷ [])
put_goes shape r new e by read h st =
    stand_with shape (record r { puts = new }) P h e st.items st.stored by (read (subhistory P h) st.items st.stored st.puts_stand) st.takes_stand st.put_is st.counted_is

pub put_stores :
    (shape : Shape) (r : Reading) (new : PutReading) (e : Event) (item : ℕ) (put : List ℕ) → e.side ≡ P → HasReadPut shape r.puts new e (p.Stores item) →
    put ≡ r.put ++ item ∷ [] → (h : List Event) → ReadingStands shape r h → ReadingStands shape (record r { puts = new; put = put }) (h ++ e ∷ [])
put_stores shape r new e item put by read more h st =
    stand_with shape (record r { puts = new; put = put }) P h e st.items (st.stored ++ item ∷ []) by (read (subhistory P h) st.items st.stored st.puts_stand) st.takes_stand
    (more ∙ ap (λ l. l ++ item ∷ []) st.put_is ∙ append_assoc st.items st.stored (item ∷ [])) st.counted_is

pub put_counts :
    (shape : Shape) (r : Reading) (new : PutReading) (e : Event) (counted : ℕ) → e.side ≡ P → HasReadPut shape r.puts new e p.Counts →
    counted ≡ length r.put → (h : List Event) → ReadingStands shape r h → ReadingStands shape (record r { puts = new; counted = counted }) (h ++ e ∷ [])
put_counts shape r new e counted by read all h st =
    stand_with shape (record r { puts = new; counted = counted }) P h e (st.items ++ st.stored) [] by (read (subhistory P h) st.items st.stored st.puts_stand) st.takes_stand
    (st.put_is ∙ sym (append-nil (st.items ++ st.stored))) (all ∙ ap length st.put_is)

-- ---- an event of the consumer

pub take_stops :
    (shape : Shape) (r : Reading) (new : TakeReading) (e : Event) → e.side ≡ C → HasReadTake shape r.takes new e c.Stops →
    (h : List Event) → ReadingStands shape r h → BothFollow shape (h ++ e ∷ []) → ⊥
take_stops shape r new e by read h st (of_puts, of_takes) =
    read (subhistory C h) r.taken st.takes_stand (subst (AreOfTakes shape) (own_more C C h e by) of_takes)

pub take_goes :
    (shape : Shape) (r : Reading) (new : TakeReading) (e : Event) → e.side ≡ C → HasReadTake shape r.takes new e c.GoesOn →
    (h : List Event) → ReadingStands shape r h → ReadingStands shape (record r { takes = new }) (h ++ e ∷ [])
take_goes shape r new e by read h st =
    stand_with shape (record r { takes = new }) C h e st.items st.stored by st.puts_stand (read (subhistory C h) r.taken st.takes_stand) st.put_is st.counted_is

pub take_takes :
    (shape : Shape) (r : Reading) (new : TakeReading) (e : Event) (taken : List ℕ) → e.side ≡ C → HasReadTake shape r.takes new e c.Takes →
    taken ≡ r.taken ++ new.consumer.items → (h : List Event) → ReadingStands shape r h → ReadingStands shape (record r { takes = new; taken = taken }) (h ++ e ∷ [])
take_takes shape r new e taken by read more h st =
    stand_with shape (record r { takes = new; taken = taken }) C h e st.items st.stored by st.puts_stand
    (subst (TakesStand shape new (subhistory C h ++ e ∷ [])) (sym more) (read (subhistory C h) r.taken st.takes_stand)) st.put_is st.counted_is

-- ---- the shape of the readers is this one

pub followed :
    (of shape : Shape) (puts : PutReading) (takes : TakeReading) (counted : ℕ) (put taken : List ℕ) (h : List Event) → of ≡ shape →
    ((g : List Event) (items ended : List ℕ) → ReadingStands of (reading puts takes counted items ended) g → BothFollow of g) →
    ReadingStands shape (reading puts takes counted put taken) h → BothFollow shape h
followed of shape puts takes counted put taken h same follow st =
    subst (λ s. BothFollow s h) same (follow h put taken (subst (λ s. ReadingStands s (reading puts takes counted put taken) h) (sym same) st))
