-- The consumer's program: takes one after the other, the last of which may return Closed.
use Rattle.std.specs.Prelude.{ℕ, suc, ◌%◌, ◌<◌, ◌≤◌, Bool, true, false, List, [], ◌∷◌, ◌++◌, length}
use Rattle.bits_core.specs.declared.events.Side.TheVariants.{C}
use Rattle.bits_core.specs.declared.events.Bit.TheVariants.{X}
use Rattle.bits_core.specs.declared.events.Event.{Event}
use Rattle.bits_core.specs.declared.shapes.Shape.{Shape}
use Rattle.bits_core.specs.Shape.{AllFit, capacity_of, modulus_of, take_batch_of, width_of}
use Rattle.bits_core.specs.Made.{Made, Read, events_of, subhistory, IsPrefix}
use Rattle.register_core.specs.Phrases.{bits_after, word_read, scan_phrase, row_read_by}
use Rattle.ring_core.specs.Counts.{distance, ShowsItem, number_past, Count, first_count, count_bits, batch_phrase}

-- a take, with the counts that it read: it took some items under one count write, at once or by a second scan after the close bit was
-- 1, or it found the ring empty
pub data Take : Type 0 where
  Item : (seen : ℕ) (items : List ℕ) → Take
  ItemAfterClose : (seen again : ℕ) (items : List ℕ) → Take
  Empty : (seen : ℕ) → Take

-- the end of the takes: more may come, or the last one returned Closed
pub data End : Type 0 where
  Open : End
  Closed : (seen again : ℕ) → End

-- takes, and their end
pub record Takes : Type 0 where
  pub takes : List Take
  pub end : End

-- how many items are taken, after k of them and this take
abbrev pub taken_after : ℕ → Take → ℕ
taken_after k (Item seen items) = number_past k items
taken_after k (ItemAfterClose seen again items) = number_past k items
taken_after k (Empty seen) = k

-- and after these takes
abbrev pub taken_in : ℕ → List Take → ℕ
taken_in k [] = k
taken_in k (x ∷ takes) = taken_in (taken_after k x) takes

-- the bits of the consumer's count after this take
abbrev pub take_bits : Shape → Count → Take → ℕ → Bool
take_bits shape c (Item seen items) = bits_after c.bits (count_bits shape c items)
take_bits shape c (ItemAfterClose seen again items) = bits_after c.bits (count_bits shape c items)
take_bits shape c (Empty seen) = c.bits

-- the consumer's count after this take
abbrev pub count_after : Shape → Count → Take → Count
count_after shape c x = record { number = taken_after c.number x; bits = take_bits shape c x }

-- and after these takes
abbrev pub taken_count : Shape → Count → List Take → Count
taken_count shape c [] = c
taken_count shape c (x ∷ takes) = taken_count shape (count_after shape c x) takes

-- the word reads of items, one after the other, of the cells from that of item number n on
abbrev pub words_read : Shape → ℕ → List ℕ → List Made
words_read shape n [] = []
words_read shape n (item ∷ items) = word_read (width_of shape) (n % capacity_of shape) item ++ words_read shape (suc n) items

-- the accesses that take items, starting at this count: their words, and one write of the count
abbrev pub items_phrase : Shape → Count → List ℕ → List Made
items_phrase shape c items = words_read shape c.number items ++ batch_phrase shape C c items

-- the accesses by which a take looks for an item: a scan of the producer's count; if that shows no item, a read of the
-- close bit; if that is 1, a second scan
abbrev pub accesses_before_word : Take → List Made
accesses_before_word (Item seen items) = scan_phrase (row_read_by C) seen
accesses_before_word (ItemAfterClose seen again items) = scan_phrase (row_read_by C) seen ++ Read X true ∷ scan_phrase (row_read_by C) again
accesses_before_word (Empty seen) = scan_phrase (row_read_by C) seen ++ Read X false ∷ []

-- the accesses of a take, starting at this count
abbrev pub take_phrase : Shape → Count → Take → List Made
take_phrase shape c (Item seen items) = accesses_before_word (Item seen items) ++ items_phrase shape c items
take_phrase shape c (ItemAfterClose seen again items) = accesses_before_word (ItemAfterClose seen again items) ++ items_phrase shape c items
take_phrase shape c (Empty seen) = accesses_before_word (Empty seen)

-- the accesses of takes one after the other, starting at this count
abbrev pub take_phrases : Shape → Count → List Take → List Made
take_phrases shape c [] = []
take_phrases shape c (x ∷ takes) = take_phrase shape c x ++ take_phrases shape (count_after shape c x) takes

-- the accesses of a take that returns Closed
abbrev pub end_phrase : End → List Made
end_phrase Open = []
end_phrase (Closed seen again) = scan_phrase (row_read_by C) seen ++ Read X true ∷ scan_phrase (row_read_by C) again

-- the accesses of the consumer's calls
abbrev pub take_program : Shape → Takes → List Made
take_program shape calls = take_phrases shape first_count calls.takes ++ end_phrase calls.end

-- what may be taken under one count write: some items that fit, no more than the take batch
pub record IsTakeBatch (shape : Shape) (items : List ℕ) : Type 0 where
  pub some : 1 ≤ length items
  pub few : length items ≤ take_batch_of shape
  pub fit : AllFit shape items

-- a scan returns a count below the modulus that shows at least m items, and at most as many as the ring has cells
abbrev pub SeesItems : Shape → ℕ → ℕ → ℕ → Type 0
SeesItems shape k seen m =
    (seen < modulus_of shape) × (m ≤ distance (modulus_of shape) seen (k % modulus_of shape)) × (distance (modulus_of shape) seen (k % modulus_of shape) ≤ capacity_of shape)

-- a scan returns a count below the modulus that shows no item
abbrev pub SeesNone : Shape → ℕ → ℕ → Type 0
SeesNone shape k seen = (seen < modulus_of shape) × ¬ ShowsItem shape seen (k % modulus_of shape)

-- a take takes a batch of items that its last scan shows, or finds the ring empty if its scan shows none
abbrev pub IsTake : Shape → ℕ → Take → Type 0
IsTake shape k (Item seen items) = SeesItems shape k seen (length items) × IsTakeBatch shape items
IsTake shape k (ItemAfterClose seen again items) = SeesNone shape k seen × SeesItems shape k again (length items) × IsTakeBatch shape items
IsTake shape k (Empty seen) = SeesNone shape k seen

-- each is a take, the first after k items; if the last one returns Closed, both of its scans show none
abbrev pub AreTakes : Shape → ℕ → List Take → End → Type 0
AreTakes shape k [] Open = Unit {0}
AreTakes shape k [] (Closed seen again) = SeesNone shape k seen × SeesNone shape k again
AreTakes shape k (x ∷ takes) end = IsTake shape k x × AreTakes shape (taken_after k x) takes end

-- the consumer of a history makes these calls, the last perhaps cut
pub record FollowsTakes (shape : Shape) (h : List Event) (calls : Takes) : Type 0 where
  pub are : AreTakes shape 0 calls.takes calls.end
  pub events : IsPrefix (subhistory C h) (events_of C (take_program shape calls))
