-- The writes to the digits of a cell in a history: they are the producer's, with how many began before a place.
use Rattle.std.proofs.Common.{◌≡◌, ℕ, zero, suc, ◌*◌, ◌<◌, Bool, false, Option, Some, None, List, [], ◌∷◌, ◌++◌, length, take, drop, refl, sym, ap, ◌∙◌, arith, append_assoc, append-nil, length-append}
use Rattle.std.specs.Prelude.{slice_get}
use Rattle.std.specs.List.{cons_option}
use Rattle.std.proofs.lemmas.List.{take-append-drop}
use Rattle.ring_core.proofs.Common.{filter-append, Side, P, Bit, Cell, Shape, same_side, doer, is_by, IsWrite, IsLawful}
use Rattle.bits_core.specs.declared.events.Act.{Act}
use Rattle.bits_core.specs.declared.events.Event.{Event}
use Rattle.bits_core.specs.Shape.{IsByRightSide}
use Rattle.bits_core.specs.Made.{Made, Read, Write, end_event, events_of, subhistory, clock, IsPrefix}
use Rattle.register_core.specs.Row.{RowWrite, row_write}
use Rattle.register_core.specs.WordLaw.{number_in_cell, cell_write, cell_writes}
use Rattle.ring_core.proofs.Machines.Following.{events_of-append, length-events}
use Rattle.ring_core.proofs.Readings.Cuts.{cut}
use Rattle.ring_core.proofs.Cells.CellTimes.{to_cell, own_number}
use Rattle.register_core.proofs.RowWrites.{row_write-got as no_row-answer, row_write-wrote as no_row-end}

-- ---- only the producer writes cells

-- an event that is not the producer's is not a write to a cell
not_cell : (j : ℕ) (s : Side) (b : Bit) (a : Act) → s ≡ doer b a → same_side P s ≡ false → row_write (number_in_cell j b) a ≡ None
not_cell j s b a e f = grind arith

-- each event is by the side that may do it
abbrev AllRight : Shape → List Event → Type 0
AllRight shape h = (place : ℕ) (e : Event) → slice_get h place ≡ Some e → IsByRightSide shape e

by_owner :
    (j : ℕ) (e : Event) (h : List Event) (b : Bool) → is_by P e ≡ b → (b ≡ false → cell_write j e ≡ None) →
    cell_writes j h ≡ cell_writes j (subhistory P h) → cell_writes j (e ∷ h) ≡ cell_writes j (subhistory P (e ∷ h))
by_owner j e h b by none rest = grind arith

-- so the writes to a cell are among the producer's own events
own_writes : (shape : Shape) (j : ℕ) (h : List Event) → AllRight shape h → cell_writes j h ≡ cell_writes j (subhistory P h)
own_writes shape j [] right = refl
own_writes shape j (e ∷ h) right =
    let first : IsByRightSide shape e = right 0 e refl in
    by_owner j e h (is_by P e) refl (λ not_its. not_cell j e.side e.bit e.act first.by_doer not_its) (own_writes shape j h (λ place. right (suc place)))

taken_from : {A : Type 0} → (h : List A) (t i : ℕ) (e : A) → slice_get (take t h) i ≡ Some e → slice_get h i ≡ Some e
taken_from h zero i e there = absurd (cc)
taken_from [] (suc t) i e there = there
taken_from (x ∷ h) (suc t) zero e there = there
taken_from (x ∷ h) (suc t) (suc i) e there = taken_from h t i e there

-- ---- the writes among the events of accesses

made_writes_cons :
    (j : ℕ) (x : Made) (made : List Made) → cell_write j (end_event P x) ≡ None → cell_writes j (events_of P made) ≡ to_cell j made →
    cell_writes j (events_of P (x ∷ made)) ≡ to_cell j (x ∷ made)
made_writes_cons j x made none rest = grind arith

events_write : (j : ℕ) (made : List Made) → cell_writes j (events_of P made) ≡ to_cell j made
events_write j [] = refl
events_write j (Read b v ∷ made) = made_writes_cons j (Read b v) made (no_row-answer (number_in_cell j b) v) (events_write j made)
events_write j (Write b v ∷ made) = made_writes_cons j (Write b v) made (no_row-end (number_in_cell j b)) (events_write j made)

-- a side's events before a place are those of its first accesses
own_before :
    (s : Side) (h : List Event) (before behind : List Made) (t : ℕ) → IsPrefix (subhistory s h) (events_of s (before ++ behind)) →
    clock s h t ≡ 2 * length before → subhistory s (take t h) ≡ events_of s before
own_before s h before behind t (rest, e) count =
    let parts : subhistory s (take t h) ++ subhistory s (drop t h) ≡ subhistory s h = sym (filter-append (is_by s) (take t h) (drop t h)) ∙ ap (subhistory s) (take-append-drop t h) in
    let more : List Event = subhistory s (drop t h) ++ rest in
    let all : subhistory s (take t h) ++ more ≡ events_of s before ++ events_of s behind = grind (arith, append_assoc, events_of-append) in
    let (none, is, other) = cut (events_of s before) (events_of s behind) (subhistory s (take t h)) more (omega (arith, count, length-events s before)) all in
    by_length none is (omega (arith, count, length-events s before, ap length is, length-append (events_of s before) none))
  where
    by_length : (none : List Event) → subhistory s (take t h) ≡ events_of s before ++ none → length none ≡ 0 → subhistory s (take t h) ≡ events_of s before
    by_length [] is n = is ∙ append-nil (events_of s before)
    by_length (x ∷ none) is n = absurd (omega (arith, n))

-- as many writes to a cell began before a place as its first accesses have
pub writes_before :
    (shape : Shape) (h : List Event) → IsLawful shape h → (j : ℕ) (before behind : List Made) (t : ℕ) →
    IsPrefix (subhistory P h) (events_of P (before ++ behind)) → clock P h t ≡ 2 * length before → cell_writes j (take t h) ≡ to_cell j before
writes_before shape h lawful j before behind t follows count =
    own_writes shape j (take t h) (λ place e there. (lawful.each place e (taken_from h t place e there)).right_side) ∙
    ap (cell_writes j) (own_before P h before behind t follows count) ∙ events_write j before

-- ---- the order of the writes

some_more : {A : Type 0} → (o : Option A) (x : A) (xs : List A) → o ≡ Some x → 0 < length (cons_option o xs)
some_more o x xs e = grind arith

-- a write counts at each later place
write_counts :
    (j : ℕ) (h : List Event) (a b : ℕ) (e : Event) (w : RowWrite) → slice_get h a ≡ Some e → cell_write j e ≡ Some w → a < b →
    length (cell_writes j (take a h)) < length (cell_writes j (take b h))
write_counts j [] a b e w there is l = absurd (cc)
write_counts j (x ∷ h) a zero e w there is l = absurd (omega arith)
write_counts j (x ∷ h) zero (suc b) e w there is l = grind (arith, some_more)
write_counts j (x ∷ h) (suc a) (suc b) e w there is l = grind (arith, write_counts j h a b e w there is (omega arith))

-- and at the end of the history
write_counts_at_end :
    (j : ℕ) (h : List Event) (a : ℕ) (e : Event) (w : RowWrite) → slice_get h a ≡ Some e → cell_write j e ≡ Some w →
    length (cell_writes j (take a h)) < length (cell_writes j h)
write_counts_at_end j [] a e w there is = absurd (cc)
write_counts_at_end j (x ∷ h) zero e w there is = grind (arith, some_more)
write_counts_at_end j (x ∷ h) (suc a) e w there is = grind (arith, write_counts_at_end j h a e w there is)

module _ (h : List Event) (j d : ℕ) (v : Bool) (start stop : ℕ) (w : IsWrite h (Cell j d) v start stop) where
  is_cell_write : cell_write j w.event ≡ Some (record { bit = d; value = v })
  is_cell_write = grind (arith, own_number)

  -- fewer writes to the cell began before a write of its digits than before each later place
  pub write_is_counted : (b : ℕ) → start < b → length (cell_writes j (take start h)) < length (cell_writes j (take b h))
  write_is_counted b l = write_counts j h start b w.event _ w.at_start is_cell_write l

  -- and than at the end of the history
  pub write_is_counted_at_end : length (cell_writes j (take start h)) < length (cell_writes j h)
  write_is_counted_at_end = write_counts_at_end j h start w.event _ w.at_start is_cell_write
