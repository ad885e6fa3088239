-- The writes of a side are those of the accesses that it made.
use Rattle.std.proofs.Common.{arith, ◌≡◌, ℕ, suc, Bool, true, false, Option, Some, None, List, [], ◌∷◌, filter_map, slice_get, refl, sym, ap, ◌∙◌}
use Rattle.register_core.proofs.Common.{cons_option, none-some, Side, P, Bit, Cell, Event, Shape, IsLawful, RowWrite, row_bit, writes_in, word_writes, cell_write, logical_writes, writes_of}
use Rattle.register_core.proofs.Common.{count_write}
use Rattle.std.proofs.lemmas.List.Elements.{filter_map-append}
use Rattle.bits_core.specs.declared.events.Access.TheVariants as access
use Rattle.bits_core.specs.Bits.{writer, is_by, begun_by, write_of}
use Rattle.bits_core.specs.Made.{Made, Write, begin_event, events_of, subhistory, IsPrefix}
use Rattle.register_core.specs.BitState.{writes_to}
use Rattle.register_core.specs.MadeWrites.{made_writes, CellWritesAreMade, CountWritesAreMade, BitWritesAreMade, WordsWrite, CountsWrite, BitsWrite, PartsWrite}
use Rattle.register_core.proofs.Writes.{write_of-from, write_of-to, by_writer}
use Rattle.register_core.proofs.Turns.{BeginsWrites}
use Rattle.register_core.proofs.Cells.{cell_write-to, cell_write-from}
use Rattle.register_core.proofs.Counts.{count_write-to, count_write-its}
use Rattle.bits_core.proofs.Changes.{same_side-same as side_same}
use Rattle.bits_core.proofs.MadeLemmas.{end_begins_none}

module _ {W : Type 0} (begins : Event → Option W) (s : Side) (its : BeginsWrites begins s) where
  none : (e : Event) → ((w : W) → begins e ≡ Some w → ⊥) → begins e ≡ None
  none e never = grind arith

  -- each write is begun by the side
  abbrev Own : List Event → Type 0
  Own h = (place : ℕ) (e : Event) (w : W) → slice_get h place ≡ Some e → begins e ≡ Some w → is_by s e ≡ true

  own_of : (shape : Shape) (h : List Event) → IsLawful shape h → Own h
  own_of shape h lawful place e w at is = grind (arith, by_writer, side_same)

  from_own : (h : List Event) → Own h → filter_map begins h ≡ filter_map begins (subhistory s h)
  from_own [] by = refl
  from_own (e ∷ h) by = go (is_by s e) refl (from_own h (λ place d w at is. by (suc place) d w at is))
    where
      go : (t : Bool) → is_by s e ≡ t → filter_map begins h ≡ filter_map begins (subhistory s h) → filter_map begins (e ∷ h) ≡ filter_map begins (subhistory s (e ∷ h))
      go true is rest = rw is (ap (cons_option (begins e)) rest)
      go false is rest =
          let nothing : begins e ≡ None = none e (λ w b. let k : false ≡ true = sym is ∙ by 0 e w refl b in cc) in
          rw (is, nothing) rest

  from_events : (made : List Made) → filter_map begins (events_of s made) ≡ made_writes begins s made
  from_events [] = refl
  from_events (x ∷ made) = grind (arith, end_begins_none, filter_map, none, none-some, (from_events made))

  pub are_made : (shape : Shape) (h : List Event) → IsLawful shape h → (made : List Made) → IsPrefix (subhistory s h) (events_of s made) → IsPrefix (filter_map begins h) (made_writes begins s made)
  are_made shape h lawful made (rest, e) = grind (arith, (filter_map begins rest), (filter_map begins), (filter_map-append begins (subhistory s h) rest), (from_events made), (from_own h (own_of shape h lawful)), (own_of shape h lawful))

pub cell_writes-are : CellWritesAreMade
cell_writes-are shape h lawful made follows j =
    are_made (cell_write j) P (λ e w is. (Cell j w.bit, w.value, cell_write-from j e w is, refl)) shape h lawful made follows

pub count_writes-are : CountWritesAreMade
count_writes-are shape h lawful s made follows = are_made (count_write s) s (count_write-its s) shape h lawful made follows

pub bit_writes-are : BitWritesAreMade
bit_writes-are shape h lawful b made follows =
    are_made (write_of b) (writer b) (λ e v is. (b, v, write_of-from b e v is, refl)) shape h lawful made follows

-- the writes of a row, as accesses, are these
row_writes-same : (begins : Event → Option RowWrite) (s : Side) (row : ℕ → Bit) →
    ((i : ℕ) (v : Bool) (e : Event) → begun_by e ≡ Some (access.Write (row i) v) → begins e ≡ Some (record { bit = i; value = v })) →
    (writes : List RowWrite) → made_writes begins s (writes_in row writes) ≡ writes
row_writes-same begins s row to [] = refl
row_writes-same begins s row to (w ∷ writes) =
    ap (λ o. cons_option o (made_writes begins s (writes_in row writes))) (to w.bit w.value (begin_event s (Write (row w.bit) w.value)) refl)
    ∙ ap (λ l. w ∷ l) (row_writes-same begins s row to writes)

pub words-write : WordsWrite
words-write width j items = row_writes-same (cell_write j) P (Cell j) (cell_write-to j) (word_writes width items)

pub counts-write : CountsWrite
counts-write s values = row_writes-same (count_write s) s (row_bit s) (count_write-to s) (writes_of values)

bits_same : (b : Bit) (values : List Bool) → made_writes (write_of b) (writer b) (writes_to b values) ≡ values
bits_same b [] = refl
bits_same b (v ∷ values) = grind (arith, write_of-to, (bits_same b values))

pub bits-write : BitsWrite
bits-write b first values = bits_same b (logical_writes first values)

pub parts-write : PartsWrite
parts-write xs ys = grind (arith, filter_map-append)
