-- The history determines the words of a counter ring, and complete calls determine those of its counts.
use Rattle.std.proofs.Common.{◌≡◌, ℕ, zero, suc, ◌+◌, ◌%◌, ◌<◌, Bool, List, [], ◌∷◌, length, slice_index, sym, ◌∙◌, arith, length-append}
use Rattle.ring_seats.proofs.Common.{Shape, Side, P, C, Event, capacity_of, modulus_of, width_of, subhistory}
use Rattle.ring_core.specs.Counts.{Count, IsCount, first_count}
use Rattle.ring_core.specs.Items.{all_put, all_taken}
use Rattle.ring_core.specs.ConsumerCalls as takes
use Rattle.ring_core.specs.ProducerCalls.{count_of}
use Rattle.ring_core.specs.Puts.{Put, Stored, Full, stored_after, stored_count}
use Rattle.ring_core.specs.Takes.{Take, Item, ItemAfterClose, Empty, count_after, taken_count}
use Rattle.ring_seats.specs.Counters.{count_place, cell_place, value_left, ShowsWords}
use Rattle.ring_seats.specs.Laws.{PutsAreShown, TakesAreShown, WordsAreTold}
use Rattle.ring_seats.proofs.CounterPuts.{RowIs, past_is, putter_row}
use Rattle.ring_seats.proofs.CounterTakes.{taker_row}
use Rattle.ring_seats.proofs.LastWrites.{Lowest, count_shows, item_shows}
use Rattle.register_core.proofs.LawLemmas.{digits_tell_items}
use Rattle.ring_core.proofs.LawLemmas.{counts_are_written_numbers}

-- bits have at most one lowest set bit
one_lowest : (bits : ℕ → Bool) (c d : ℕ) → Lowest bits c → Lowest bits d → c ≡ d
one_lowest bits c d a b = grind arith

module _ (shape : Shape) (words others : List ℕ) (h : List Event) (a : ShowsWords shape words h) (b : ShowsWords shape others h) where
  count_told : (x : Side) → slice_index words (count_place x) ≡ slice_index others (count_place x)
  count_told x = grind (arith, (count_shows shape x (subhistory x h) (slice_index words (count_place x)) (a.small x) (a.count x)), (count_shows shape x (subhistory x h) (slice_index others (count_place x)) (b.small x) (b.count x)), (one_lowest _ (slice_index words (count_place x)) (slice_index others (count_place x)) (count_shows shape x (subhistory x h) (slice_index words (count_place x)) (a.small x) (a.count x)) (count_shows shape x (subhistory x h) (slice_index others (count_place x)) (b.small x) (b.count x))))

  cell_told : (j : ℕ) → j < capacity_of shape → slice_index words (cell_place j) ≡ slice_index others (cell_place j)
  cell_told j lt = digits_tell_items (width_of shape) (slice_index words (cell_place j)) (slice_index others (cell_place j)) (a.fits j lt) (b.fits j lt)
      (λ i small. sym (item_shows (width_of shape) j (subhistory P h) (slice_index words (cell_place j)) (a.cell j lt) i small) ∙
      item_shows (width_of shape) j (subhistory P h) (slice_index others (cell_place j)) (b.cell j lt) i small)

pub words-told : WordsAreTold
words-told shape words others h a b zero lt = a.close ∙ sym b.close
words-told shape words others h a b (suc zero) lt = count_told shape words others h a b P
words-told shape words others h a b (suc (suc zero)) lt = count_told shape words others h a b C
words-told shape words others h a b (suc (suc (suc j))) lt = grind (arith, (cell_told shape words others h a b j (omega (arith, lt))))

-- ---- complete calls

-- the lowest set bit after puts is that of the number of items stored
after_puts : (shape : Shape) (puts : List Put) (c : Count) → IsCount shape c → IsCount shape (stored_count shape c puts)
after_puts shape [] c is = is
after_puts shape (Stored seen items ∷ puts) c is = after_puts shape puts (stored_after shape c (Stored seen items)) ((counts_are_written_numbers shape).1 c seen items)
after_puts shape (Full seen ∷ puts) c is = after_puts shape puts (stored_after shape c (Full seen)) (record { set = is.set; clear = is.clear })

-- and that after takes is that of the number of items taken
after_takes : (shape : Shape) (takes : List Take) (c : Count) → IsCount shape c → IsCount shape (taken_count shape c takes)
after_takes shape [] c is = is
after_takes shape (Item seen items ∷ takes) c is = after_takes shape takes (count_after shape c (Item seen items)) ((counts_are_written_numbers shape).1 c seen items)
after_takes shape (ItemAfterClose seen again items ∷ takes) c is = grind (arith, (after_takes shape takes (count_after shape c (ItemAfterClose seen again items)) ((counts_are_written_numbers shape).1 c seen items)))
after_takes shape (Empty seen ∷ takes) c is = after_takes shape takes (count_after shape c (Empty seen)) (record { set = is.set; clear = is.clear })

-- this many are stored, and taken
stored_number : (shape : Shape) (puts : List Put) (c : Count) → (stored_count shape c puts).number ≡ c.number + length (all_put puts)
stored_number shape [] c = omega arith
stored_number shape (Stored seen items ∷ puts) c = grind (arith, length-append, past_is, (stored_number shape puts (stored_after shape c (Stored seen items))))
stored_number shape (Full seen ∷ puts) c = stored_number shape puts (stored_after shape c (Full seen))

taken_number : (shape : Shape) (takes : List Take) (c : Count) → (taken_count shape c takes).number ≡ c.number + length (all_taken takes)
taken_number shape [] c = omega arith
taken_number shape (Item seen items ∷ takes) c = grind (arith, length-append, past_is, (taken_number shape takes (count_after shape c (Item seen items))))
taken_number shape (ItemAfterClose seen again items ∷ takes) c = grind (arith, length-append, past_is, (taken_number shape takes (count_after shape c (ItemAfterClose seen again items))))
taken_number shape (Empty seen ∷ takes) c = taken_number shape takes (count_after shape c (Empty seen))

from_none : (n m : ℕ) → n ≡ 0 + m → n ≡ m
from_none n m e = omega (arith, e)

-- a count whose bits result from the list is the word that shows them
shown_count : (shape : Shape) (words : List ℕ) (h : List Event) → ShowsWords shape words h → (x : Side) (c : Count) → IsCount shape c → RowIs x (value_left (subhistory x h)) c.bits → slice_index words (count_place x) ≡ c.number % modulus_of shape
shown_count shape words h shows x c is row = grind (arith, (count_shows shape x (subhistory x h) (slice_index words (count_place x)) (shows.small x) (shows.count x)), one_lowest, c.number, is.clear, is.set, shows.count, shows.small)

pub puts-shown : PutsAreShown
puts-shown shape words h calls shows has = grind (arith, (after_puts shape calls.puts first_count (counts_are_written_numbers shape).0), (counts_are_written_numbers shape), (from_none (count_of shape calls).number (length (all_put calls.puts)) (stored_number shape calls.puts first_count)), (putter_row shape (subhistory P h) calls has), (shown_count shape words h shows P (count_of shape calls) (after_puts shape calls.puts first_count (counts_are_written_numbers shape).0) (putter_row shape (subhistory P h) calls has)), (stored_number shape calls.puts first_count), calls.puts)

pub takes-shown : TakesAreShown
takes-shown shape words h calls shows has = grind (arith, (after_takes shape calls.takes first_count (counts_are_written_numbers shape).0), (counts_are_written_numbers shape), (from_none (takes.count_taken shape calls).number (length (all_taken calls.takes)) (taken_number shape calls.takes first_count)), (shown_count shape words h shows C (takes.count_taken shape calls) (after_takes shape calls.takes first_count (counts_are_written_numbers shape).0) (taker_row shape (subhistory C h) calls has)), (taken_number shape calls.takes first_count), (taker_row shape (subhistory C h) calls has), calls.takes)
