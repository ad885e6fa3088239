-- The producer's program: puts one after the other, and perhaps a close.
use Rattle.std.specs.Prelude.{◌≡◌, ℕ, suc, ◌-◌, ◌%◌, ◌<◌, ◌≤◌, Bool, true, false, List, [], ◌∷◌, ◌++◌, length, take}
use Rattle.bits_core.specs.declared.events.Side.TheVariants.{P}
use Rattle.bits_core.specs.declared.events.Bit.TheVariants.{X}
use Rattle.bits_core.specs.declared.events.Event.{Event}
use Rattle.bits_core.specs.declared.shapes.Shape.{Shape}
use Rattle.bits_core.specs.Shape.{AllFit, batch_of, capacity_of, modulus_of, width_of}
use Rattle.bits_core.specs.Made.{Made, Write, events_of, subhistory, IsPrefix}
use Rattle.register_core.specs.Phrases.{bits_after, word_write, scan_phrase, row_read_by}
use Rattle.ring_core.specs.Counts.{distance, LeavesRoom, LeavesRoomFor, number_past, Count, first_count, count_bits, batch_phrase}

-- a put, with the count that it read: it stored some items under one count write, or it found the ring full
pub data Put : Type 0 where
  Stored : (seen : ℕ) (items : List ℕ) → Put
  Full : (seen : ℕ) → Put

-- puts, and whether a close follows them
pub record Puts : Type 0 where
  pub puts : List Put
  pub closes : Bool

-- how many items a put stores
abbrev pub stored_by : Put → ℕ
stored_by (Stored seen items) = length items
stored_by (Full seen) = 0

-- how many items are stored, after n of them and this put
abbrev pub number_after : ℕ → Put → ℕ
number_after n (Stored seen items) = number_past n items
number_after n (Full seen) = n

-- and after these puts
abbrev pub stored_in : ℕ → List Put → ℕ
stored_in n [] = n
stored_in n (x ∷ puts) = stored_in (number_after n x) puts

-- the bits of the producer's count after this put
abbrev pub put_bits : Shape → Count → Put → ℕ → Bool
put_bits shape c (Stored seen items) = bits_after c.bits (count_bits shape c items)
put_bits shape c (Full seen) = c.bits

-- the producer's count after this put
abbrev pub stored_after : Shape → Count → Put → Count
stored_after shape c x = record { number = number_after c.number x; bits = put_bits shape c x }

-- and after these puts
abbrev pub stored_count : Shape → Count → List Put → Count
stored_count shape c [] = c
stored_count shape c (x ∷ puts) = stored_count shape (stored_after shape c x) puts

-- the values that these puts write to the producer's count, after n items
abbrev pub put_values : Shape → ℕ → List Put → List ℕ
put_values shape n [] = []
put_values shape n (Stored seen items ∷ puts) = number_past n items % modulus_of shape ∷ put_values shape (number_past n items) puts
put_values shape n (Full seen ∷ puts) = put_values shape n puts

-- the word writes of items, one after the other, to the cells from that of item number n on
abbrev pub words_phrase : Shape → ℕ → List ℕ → List Made
words_phrase shape n [] = []
words_phrase shape n (item ∷ items) = word_write (width_of shape) (n % capacity_of shape) item ++ words_phrase shape (suc n) items

-- the accesses of a put that stores, up to its count write: a scan of the consumer's count, and the words of the items
abbrev pub accesses_before_count : Shape → ℕ → ℕ → List ℕ → List Made
accesses_before_count shape n seen items = scan_phrase (row_read_by P) seen ++ words_phrase shape n items

-- the accesses of a put, starting at this count: if it stores, one write of the producer's count follows
abbrev pub put_phrase : Shape → Count → Put → List Made
put_phrase shape c (Stored seen items) = accesses_before_count shape c.number seen items ++ batch_phrase shape P c items
put_phrase shape c (Full seen) = scan_phrase (row_read_by P) seen

-- the accesses of puts one after the other, starting at this count
abbrev pub put_phrases : Shape → Count → List Put → List Made
put_phrases shape c [] = []
put_phrases shape c (x ∷ puts) = put_phrase shape c x ++ put_phrases shape (stored_after shape c x) puts

-- the access of a close
abbrev pub close_phrase : Bool → List Made
close_phrase false = []
close_phrase true = Write X true ∷ []

-- the accesses of the producer's calls
abbrev pub put_program : Shape → Puts → List Made
put_program shape calls = put_phrases shape first_count calls.puts ++ close_phrase calls.closes

-- what may be stored under one count write: some items that fit, no more than the batch
pub record IsBatch (shape : Shape) (items : List ℕ) : Type 0 where
  pub some : 1 ≤ length items
  pub few : length items ≤ batch_of shape
  pub fit : AllFit shape items

-- a put stores if the count that it read leaves room for its items, and finds the ring full if it leaves none
abbrev pub IsPut : Shape → ℕ → Put → Type 0
IsPut shape n (Stored seen items) = (seen < modulus_of shape) × LeavesRoomFor shape (n % modulus_of shape) seen (length items) × IsBatch shape items
IsPut shape n (Full seen) = (seen < modulus_of shape) × ¬ LeavesRoom shape (n % modulus_of shape) seen

-- each is a put, the first after n items
abbrev pub ArePuts : Shape → ℕ → List Put → Type 0
ArePuts shape n [] = Unit {0}
ArePuts shape n (x ∷ puts) = IsPut shape n x × ArePuts shape (number_after n x) puts

-- how many cells a count that is read leaves to a producer that has put n items, modulo the modulus
abbrev pub room_in : Shape → ℕ → ℕ → ℕ
room_in shape n seen = capacity_of shape - distance (modulus_of shape) n seen

-- the put, after n items, is a put of these items: it stored those for which there was room, starting with the first, or none
abbrev pub IsPutOf : Shape → ℕ → List ℕ → Put → Type 0
IsPutOf shape n items (Stored seen stored) = stored ≡ take (room_in shape (n % modulus_of shape) seen) items
IsPutOf shape n items (Full seen) = Unit {0}

-- the producer of a history makes these calls, the last perhaps cut
pub record FollowsPuts (shape : Shape) (h : List Event) (calls : Puts) : Type 0 where
  pub are : ArePuts shape 0 calls.puts
  pub events : IsPrefix (subhistory P h) (events_of P (put_program shape calls))
