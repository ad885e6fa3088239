-- The cases in which there are too few slots.
pub use Rattle.lists.proofs.Results.{on_err}
use Rattle.std.proofs.Common.{◌≡◌, inr, ℕ, ◌+◌, ◌<◌, ◌≤◌, Bool, List, [], ◌∷◌, ◌++◌, length, take, get_or, refl, sym, ap, subst, arith, length-append}
use Rattle.std.proofs.lemmas.List.{take_more, take-take, take_at, length-take-le}
use Rattle.ring_audit.proofs.Common.{Event, Shape, Side, P, C, IsLawful, Put, Made, subhistory, PutReading, PutsStand, HasReadPut, MadeWhile, TakeReading, HasReadTake}
use Rattle.bits_core.specs.Shape.{batch_of}
use Rattle.ring_audit.specs.declared.puts.Stage.{Stage}
use Rattle.ring_audit.specs.Audit.{IsFound, IsFinding, FitsIn, HasTooFewSlots, statement_in}
use Rattle.ring_audit.specs.declared.audits.Found.{Found}
use Rattle.ring_audit.specs.declared.puts.PutStep.TheVariants as p
use Rattle.ring_audit.specs.declared.takes.TakeStep.TheVariants as c
use Rattle.ring_audit.specs.Reading.{ReadingStands, NeedsRoom, reading}
use Rattle.ring_audit.proofs.Readings.{put_stores, take_takes}
use Rattle.ring_audit.proofs.TakeEnds.{few_taken}

-- ---- an event for whose item there is no room

pub put_needs :
    (shape : Shape) (puts new : PutReading) (takes : TakeReading) (counted : ℕ) (put taken : List ℕ) (e : Event) (item put_room taken_room : ℕ) → e.side ≡ P →
    HasReadPut shape puts new e (p.Stores item) → put_room ≤ length put → (h : List Event) → ReadingStands shape (reading puts takes counted put taken) h →
    NeedsRoom shape new takes counted put_room taken_room (h ++ e ∷ [])
put_needs shape puts new takes counted put taken e item put_room taken_room by read full h st =
    grind (arith, put_stores shape (reading puts takes counted put taken) new e item (put ++ item ∷ []) by read refl h st, length-append put (item ∷ []))

pub take_needs :
    (shape : Shape) (puts : PutReading) (takes new : TakeReading) (counted : ℕ) (put taken kept : List ℕ) (e : Event) (put_room taken_room : ℕ) → e.side ≡ C →
    HasReadTake shape takes new e c.Takes → kept ≡ new.consumer.items → taken_room < length taken + length kept → (h : List Event) →
    ReadingStands shape (reading puts takes counted put taken) h → NeedsRoom shape puts new counted put_room taken_room (h ++ e ∷ [])
take_needs shape puts takes new counted put taken kept e put_room taken_room by read same full h st = record {
  put = put;
  taken = taken ++ kept;
  stands = take_takes shape (reading puts takes counted put taken) new e (taken ++ kept) by read (ap (λ l. taken ++ l) same) h st;
  short = inr (omega (arith, full, length-append taken kept));
}

-- no more items are taken than there are events
pub length-own : (s : Side) (h : List Event) → length (subhistory s h) ≤ length h
length-own s [] = omega arith
length-own s (e ∷ h) = grind (arith, length-own s h)

pub take_short :
    (shape : Shape) (puts : PutReading) (takes new : TakeReading) (counted : ℕ) (put taken kept : List ℕ) (e : Event) (taken_room : ℕ) → e.side ≡ C →
    HasReadTake shape takes new e c.Takes → kept ≡ new.consumer.items → taken_room < length taken + length kept → (h : List Event) →
    ReadingStands shape (reading puts takes counted put taken) h → taken_room < length (h ++ e ∷ [])
take_short shape puts takes new counted put taken kept e taken_room by read same full h st =
    let stands : ReadingStands shape (reading puts new counted put (taken ++ kept)) (h ++ e ∷ []) =
    take_takes shape (reading puts takes counted put taken) new e (taken ++ kept) by read (ap (λ l. taken ++ l) same) h st in
    omega (arith, full, length-append taken kept, few_taken shape new (subhistory C (h ++ e ∷ [])) (taken ++ kept) stands.takes_stand, length-own C (h ++ e ∷ []))

-- ---- what is returned of it

-- no more items are stored and not counted than one count write may count
few_at :
    (stage : Stage) (shape : Shape) (r : PutReading) (puts : List Put) (items stored : List ℕ) (made : List Made) → MadeWhile stage shape r puts items stored made →
    length stored ≤ batch_of shape
few_at stage shape r puts items stored made h1 = grind arith

pub few_stored : (shape : Shape) (r : PutReading) (es : List Event) (items stored : List ℕ) → PutsStand shape r es items stored → length stored ≤ batch_of shape
few_stored shape r es items stored st = few_at r.stage shape r st.puts items stored st.made st.made_is

pub too_few_slots :
    (of shape : Shape) (h : List Event) (i : ℕ) (d : Event) (puts : PutReading) (takes : TakeReading) (counted put_room taken_room : ℕ) (told : Bool) →
    of ≡ shape → i < length h → IsLawful shape (take i h ++ get_or h i d ∷ []) →
    NeedsRoom of puts takes counted put_room taken_room (take i h ++ get_or h i d ∷ []) →
    ((g : List Event) (put taken : List ℕ) → IsLawful of g → ReadingStands of (reading puts takes counted put taken) g → IsFound of g (take counted put) taken told) →
    HasTooFewSlots shape h put_room taken_room
too_few_slots of shape h i d puts takes counted put_room taken_room told same within lawful needs found =
    let g : List Event = take i h ++ get_or h i d ∷ [] in
    let are : IsFound of g (take counted needs.put) needs.taken told = found g needs.put needs.taken (subst (λ s. IsLawful s g) (sym same) lawful) needs.stands in
    let items_are : take counted needs.put ≡ needs.stands.items = grind (arith, take_at) in
    grind (arith, few_stored, length-append, take_more)

-- the items of the lists are in the first slots
pub in_slots :
    (shape : Shape) (h : List Event) (put_slots taken_slots : List ℕ) (put_used taken_used : ℕ) (found : Found) → put_used ≤ length put_slots → taken_used ≤ length taken_slots →
    FitsIn (length (take put_used put_slots)) (length (take taken_used taken_slots)) found → IsFinding shape h (statement_in (take put_used put_slots) (take taken_used taken_slots) found) →
    IsFinding shape h (statement_in put_slots taken_slots found)
in_slots shape h put_slots taken_slots put_used taken_used found put_few taken_few fits is = grind (arith, take-take, length-take-le)
