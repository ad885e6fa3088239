-- The programs of small runs, access by access: one cell, modulus 3, items of one digit.
use Rattle.std.proofs.Common.{◌≡◌, ℕ, ◌+◌, ◌<◌, ◌≤◌, true, false, [], ◌∷◌, ◌++◌, refl, arith}
use Rattle.ring_core.proofs.Common.{C, S, R, X, Cell, Shape, first_count, Puts, Stored, put_program, ArePuts, Takes, Item, ItemAfterClose, Empty, Open, Closed, accesses_before_word, take_phrases}
use Rattle.ring_core.proofs.Common.{take_program, IsTakeBatch, AreTakes, items_put, items_taken, taken_of, IsTold}
use Rattle.bits_core.specs.Made.{Read, Write}
use Rattle.register_core.specs.ScanState.{scan_phrase, row_read_by}
use Rattle.ring_core.specs.CallsAt.{IsPutAt, IsTakeAt, IsPartAt, puts_ended, takes_begun}
use Rattle.ring_core.proofs.Cells.ItemPlaces.{StoresItem, TakesItem, put_scan, has_item}
use Rattle.ring_core.proofs.OverSpans.CallSpans.{put_items}

-- items of one digit, and takes of one item
abbrev pub narrow : (capacity modulus batch : ℕ) → (1 ≤ capacity) × (capacity ≤ 64) × (1 ≤ batch) × (batch ≤ capacity) × (capacity + batch < modulus) × (modulus ≤ 256) → Shape
narrow capacity modulus batch (cells, few, some, fits, room, small) = record {
  capacity = capacity;
  modulus = modulus;
  width = 1;
  batch = batch;
  take_batch = 1;
  has_cells = omega (arith, cells);
  few_cells = omega (arith, few);
  room_to_count = omega (arith, room);
  room_to_take = omega (arith, some, room);
  small_modulus = omega (arith, small);
  has_digits = omega arith;
  few_digits = omega arith;
  has_batch = omega (arith, some);
  small_batch = omega (arith, fits);
  has_take_batch = omega arith;
  small_take_batch = omega (arith, cells);
}

-- one cell, modulus 3
unfoldable pub one_cell : Shape
one_cell = narrow 1 3 1 (omega arith, omega arith, omega arith, omega arith, omega arith, omega arith)

-- ---- an item goes through: 8 events of the producer and 10 of the consumer

abbrev one_put : Puts
one_put = record { puts = Stored 0 (1 ∷ []) ∷ []; closes = false }

abbrev one_take : Takes
one_take = record { takes = Item 1 (1 ∷ []) ∷ []; end = Open }

one_put-is : put_program one_cell one_put ≡ Read (R 0) true ∷ Write (Cell 0 0) true ∷ Write (S 1) true ∷ Write (S 0) false ∷ []
unfolding one_cell
one_put-is = refl

one_put-are : ArePuts one_cell 0 one_put.puts
unfolding one_cell
one_put-are = ((omega arith, omega arith, record { some = omega arith; few = omega arith; fit = (omega arith, tt) }), record {})

one_take-is : take_program one_cell one_take ≡ Read (S 0) false ∷ Read (S 1) true ∷ Read (Cell 0 0) true ∷ Write (R 1) true ∷ Write (R 0) false ∷ []
unfolding one_cell
one_take-is = refl

-- one item of one digit may be taken under one count write
one_fits : IsTakeBatch one_cell (1 ∷ [])
unfolding one_cell
one_fits = record { some = omega arith; few = omega arith; fit = (omega arith, tt) }

one_take-are : AreTakes one_cell 0 one_take.takes one_take.end
unfolding one_cell
one_take-are = (((omega arith, omega arith, omega arith), one_fits), record {})

-- the item is put with the start of its count write, which is event 4 of the producer, and taken with its take's last event
one_put-item : (items_put one_cell first_count one_put.puts 4 ≡ []) × (items_put one_cell first_count one_put.puts 5 ≡ 1 ∷ []) × (items_taken one_cell first_count one_take.takes 9 ≡ []) × (items_taken one_cell first_count one_take.takes 10 ≡ 1 ∷ [])
unfolding one_cell
one_put-item = (refl, refl, refl, refl)

-- ---- a count write is open, and then the old count is seen: the first scan returns 1 and the second one 0

abbrev seen_old : Takes
seen_old = record { takes = Item 1 (1 ∷ []) ∷ Empty 0 ∷ []; end = Open }

seen_old-is :
    take_program one_cell seen_old ≡
    Read (S 0) false ∷ Read (S 1) true ∷ Read (Cell 0 0) true ∷ Write (R 1) true ∷ Write (R 0) false ∷
    Read (S 0) true ∷ Read X false ∷ []
unfolding one_cell
seen_old-is = refl

seen_old-are : AreTakes one_cell 0 seen_old.takes seen_old.end
unfolding one_cell
seen_old-are = (((omega arith, omega arith, omega arith), one_fits), ((omega arith, λ (low, high). omega (arith, high)), record {}))

-- ---- a second scan finds the item, and the next take returns Closed

abbrev pub put_and_close : Puts
put_and_close = record { puts = Stored 0 (1 ∷ []) ∷ []; closes = true }

abbrev pub second_scan : Takes
second_scan = record { takes = ItemAfterClose 0 1 (1 ∷ []) ∷ []; end = Closed 1 1 }

put_and_close-is :
    put_program one_cell put_and_close ≡ Read (R 0) true ∷ Write (Cell 0 0) true ∷ Write (S 1) true ∷ Write (S 0) false ∷ Write X true ∷ []
unfolding one_cell
put_and_close-is = refl

pub put_and_close-are : ArePuts one_cell 0 put_and_close.puts
put_and_close-are = one_put-are

second_scan-is :
    take_program one_cell second_scan ≡
    Read (S 0) true ∷ Read X true ∷ Read (S 0) false ∷ Read (S 1) true ∷ Read (Cell 0 0) true ∷ Write (R 1) true ∷ Write (R 0) false ∷
    Read (S 0) false ∷ Read (S 1) true ∷ Read X true ∷ Read (S 0) false ∷ Read (S 1) true ∷ []
unfolding one_cell
second_scan-is = refl

pub second_scan-are : AreTakes one_cell 0 second_scan.takes second_scan.end
unfolding one_cell
second_scan-are = grind (arith, one_fits)

-- Closed is returned with the last of its 24 events
pub second_scan-told : (IsTold one_cell second_scan 23 → ⊥) × IsTold one_cell second_scan 24
unfolding one_cell
second_scan-told = ((λ (tells, all). omega (arith, all)), (record {}, omega arith))

-- ---- a batch of three items under one count write: three cells, modulus 7

unfoldable pub three_cells : Shape
three_cells = narrow 3 7 3 (omega arith, omega arith, omega arith, omega arith, omega arith, omega arith)

abbrev pub three_at_once : Puts
three_at_once = record { puts = Stored 0 (1 ∷ 0 ∷ 1 ∷ []) ∷ []; closes = false }

three_at_once-is :
    put_program three_cells three_at_once ≡
    Read (R 0) true ∷ Write (Cell 0 0) true ∷ Write (Cell 1 0) false ∷ Write (Cell 2 0) true ∷ Write (S 3) true ∷ Write (S 0) false ∷ []
unfolding three_cells
three_at_once-is = refl

three_at_once-are : ArePuts three_cells 0 three_at_once.puts
unfolding three_cells
three_at_once-are = grind arith

-- all three items are put with the start of the one count write, which is event 8 of the producer
three_at_once-items :
    (items_put three_cells first_count three_at_once.puts 8 ≡ []) × (items_put three_cells first_count three_at_once.puts 9 ≡ 1 ∷ 0 ∷ 1 ∷ [])
unfolding three_cells
three_at_once-items = (refl, refl)

-- ---- the count wraps under an open write: the third put writes 0, and bit 2 stays set

abbrev wraps : Puts
wraps = record { puts = Stored 0 (1 ∷ []) ∷ Stored 1 (0 ∷ []) ∷ Stored 2 (1 ∷ []) ∷ []; closes = false }

abbrev wrap_takes : Takes
wrap_takes = record { takes = Item 1 (1 ∷ []) ∷ Item 2 (0 ∷ []) ∷ Empty 2 ∷ Item 0 (1 ∷ []) ∷ []; end = Open }

wraps-is :
    put_program one_cell wraps ≡
    Read (R 0) true ∷ Write (Cell 0 0) true ∷ Write (S 1) true ∷ Write (S 0) false ∷
    Read (R 0) false ∷ Read (R 1) true ∷ Write (Cell 0 0) false ∷ Write (S 2) true ∷ Write (S 1) false ∷
    Read (R 0) false ∷ Read (R 1) false ∷ Read (R 2) true ∷ Write (Cell 0 0) true ∷ Write (S 0) true ∷ []
unfolding one_cell
wraps-is = refl

wrap_takes-is :
    take_program one_cell wrap_takes ≡
    Read (S 0) false ∷ Read (S 1) true ∷ Read (Cell 0 0) true ∷ Write (R 1) true ∷ Write (R 0) false ∷
    Read (S 0) false ∷ Read (S 1) false ∷ Read (S 2) true ∷ Read (Cell 0 0) false ∷ Write (R 2) true ∷ Write (R 1) false ∷
    Read (S 0) false ∷ Read (S 1) false ∷ Read (S 2) true ∷ Read X false ∷
    Read (S 0) true ∷ Read (Cell 0 0) true ∷ Write (R 0) true ∷ []
unfolding one_cell
wrap_takes-is = refl

wraps-are : ArePuts one_cell 0 wraps.puts
unfolding one_cell
wraps-are = ((omega arith, omega arith, record { some = omega arith; few = omega arith; fit = (omega arith, tt) }), ((omega arith, omega arith, record { some = omega arith; few = omega arith; fit = (omega arith, tt) }), ((omega arith, omega arith, record { some = omega arith; few = omega arith; fit = (omega arith, tt) }), record {})))

-- with the third put's last access open, its item is put
wraps-items : (items_put one_cell first_count wraps.puts 26 ≡ 1 ∷ 0 ∷ []) × (items_put one_cell first_count wraps.puts 27 ≡ 1 ∷ 0 ∷ 1 ∷ [])
unfolding one_cell
wraps-items = (refl, refl)

-- ---- the positions of the calls, and what they store and take there

-- the first put has the producer's events 0 to 7, and the second one 8 to 17; the second has ended once 18 are made
wraps-first : IsPutAt one_cell wraps (Stored 0 (1 ∷ [])) 0 0 8
unfolding one_cell
wraps-first = record { before = []; after = Stored 1 (0 ∷ []) ∷ Stored 2 (1 ∷ []) ∷ []; among = refl; number = refl; starts = refl; stops = refl }

wraps-second : IsPutAt one_cell wraps (Stored 1 (0 ∷ [])) 1 8 18
unfolding one_cell
wraps-second = record { before = Stored 0 (1 ∷ []) ∷ []; after = Stored 2 (1 ∷ []) ∷ []; among = refl; number = refl; starts = refl; stops = refl }

wraps-ended : (puts_ended one_cell wraps 17 ≡ 1) × (puts_ended one_cell wraps 18 ≡ 2)
unfolding one_cell
wraps-ended = (refl, refl)

-- the second take's count write begins with event 18 of the consumer; the third take finds the ring empty with events 22 to 29
wrap_takes-begun : (takes_begun one_cell wrap_takes 18 ≡ 1) × (takes_begun one_cell wrap_takes 19 ≡ 2)
unfolding one_cell
wrap_takes-begun = (refl, refl)

wrap_takes-third : IsTakeAt one_cell wrap_takes (Empty 2) 2 22 30
unfolding one_cell
wrap_takes-third =
    record { before = Item 1 (1 ∷ []) ∷ Item 2 (0 ∷ []) ∷ []; after = Item 0 (1 ∷ []) ∷ []; among = refl; number = refl; starts = refl; stops = refl }

-- item 1 of the batch is written with events 4 and 5, and its put ends with event 11
three_at_once-second : StoresItem three_cells three_at_once 1 0 4 12
unfolding three_cells
three_at_once-second =
    has_item (IsPutAt three_cells three_at_once) put_scan put_items 1 (Stored 0 (1 ∷ 0 ∷ 1 ∷ [])) 0 0 12 1 0
    (record { before = []; after = []; among = refl; number = refl; starts = refl; stops = refl }) refl

-- a take that scans twice reads its item's word from event 8 on; the take that returns Closed begins with event 14, and its
-- second scan with event 20
second_scan-item : TakesItem one_cell second_scan 0 1 8 14
unfolding one_cell
second_scan-item =
    has_item (IsTakeAt one_cell second_scan) accesses_before_word taken_of 1 (ItemAfterClose 0 1 (1 ∷ [])) 0 0 14 0 1
    (record { before = []; after = []; among = refl; number = refl; starts = refl; stops = refl }) refl

second_scan-last : IsPartAt (take_program one_cell second_scan) (scan_phrase (row_read_by C) 1) 20
unfolding one_cell
second_scan-last = (take_phrases one_cell first_count second_scan.takes ++ (scan_phrase (row_read_by C) 1 ++ Read X true ∷ []), [], refl, refl)
