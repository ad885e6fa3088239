-- The calls of a side as looks: each scan of the other side's count with what follows it.
use Rattle.std.specs.Prelude.{◌≡◌, ℕ, ◌*◌, Bool, true, false, List, [], ◌∷◌, ◌++◌, length}
use Rattle.ring_core.proofs.Common.{Side, P, C, X, Shape, number_past, Count, first_count, count_bits, batch_phrase, Take, Item, ItemAfterClose, Empty, End, Open, Closed, Takes}
use Rattle.bits_core.specs.Made.{Made, Read}
use Rattle.register_core.specs.Row.{bits_after}
use Rattle.register_core.specs.ScanState.{scan_phrase, row_read_by}
use Rattle.ring_core.specs.Puts.{Put, Stored, Full, Puts, words_phrase}
pub use Rattle.ring_core.specs.Takes.{words_read}
use Rattle.ring_core.proofs.OverSpans.Spans.{Outcome, Passes, Stops, Asks, Span}

-- a scan's value and what follows it
pub record Look : Type 0 where
  pub seen : ℕ
  pub outcome : Outcome

abbrev pub look : ℕ → Outcome → Look
look seen outcome = record { seen = seen; outcome = outcome }

-- a put looks once
abbrev pub put_looks : List Put → List Look
put_looks [] = []
put_looks (Stored seen items ∷ puts) = look seen (Passes items) ∷ put_looks puts
put_looks (Full seen ∷ puts) = look seen Stops ∷ put_looks puts

-- a take looks again if the close bit was 1
abbrev pub take_looks : List Take → End → List Look
take_looks [] Open = []
take_looks [] (Closed seen again) = look seen (Asks true) ∷ look again Stops ∷ []
take_looks (Item seen items ∷ takes) end = look seen (Passes items) ∷ take_looks takes end
take_looks (ItemAfterClose seen again items ∷ takes) end = look seen (Asks true) ∷ look again (Passes items) ∷ take_looks takes end
take_looks (Empty seen ∷ takes) end = look seen (Asks false) ∷ take_looks takes end

-- what a side does after a scan, after n items: the word accesses or the read of the close bit, and the count write
abbrev pub word_part : Side → Shape → ℕ → Outcome → List Made
word_part P shape n (Passes items) = words_phrase shape n items
word_part C shape n (Passes items) = words_read shape n items
word_part s shape n Stops = []
word_part s shape n (Asks answer) = Read X answer ∷ []

abbrev pub count_part : Side → Shape → Count → Outcome → List Made
count_part s shape c (Passes items) = batch_phrase shape s c items
count_part s shape c Stops = []
count_part s shape c (Asks answer) = []

-- the number of items, and the bits of the side's count, after a look
abbrev pub look_number : ℕ → Outcome → ℕ
look_number n (Passes items) = number_past n items
look_number n Stops = n
look_number n (Asks answer) = n

abbrev pub look_bits : Shape → Count → Outcome → ℕ → Bool
look_bits shape c (Passes items) = bits_after c.bits (count_bits shape c items)
look_bits shape c Stops = c.bits
look_bits shape c (Asks answer) = c.bits

-- the side's count after a look
abbrev pub after_look : Shape → Count → Outcome → Count
after_look shape c o = record { number = look_number c.number o; bits = look_bits shape c o }

-- the accesses of looks, starting at a count, and of what comes after them
abbrev pub look_accesses : Side → Shape → Count → List Look → List Made → List Made
look_accesses s shape c [] behind = behind
look_accesses s shape c (l ∷ looks) behind =
    scan_phrase (row_read_by s) l.seen ++
    (word_part s shape c.number l.outcome ++ (count_part s shape c l.outcome ++ look_accesses s shape (after_look shape c l.outcome) looks behind))

-- the span of a look: an access has two events
abbrev pub span_of : Side → Shape → Count → Look → Span
span_of s shape c l = record {
  seen = l.seen;
  outcome = l.outcome;
  scan = 2 * length (scan_phrase (row_read_by s) l.seen);
  word = 2 * length (word_part s shape c.number l.outcome);
  count = 2 * length (count_part s shape c l.outcome);
}

abbrev pub spans : Side → Shape → Count → List Look → List Span
spans s shape c [] = []
spans s shape c (l ∷ looks) = span_of s shape c l ∷ spans s shape (after_look shape c l.outcome) looks

-- the spans of the calls of each side
abbrev pub put_spans : Shape → Puts → List Span
put_spans shape calls = spans P shape first_count (put_looks calls.puts)

abbrev pub take_spans : Shape → Takes → List Span
take_spans shape calls = spans C shape first_count (take_looks calls.takes calls.end)

-- ---- looks and the programs

-- the span is that of a look of the program, after n items, and begins with the look's own event
pub record LookAt (s : Side) (shape : Shape) (program : List Made) (n start : ℕ) (x : Span) : Type 0 where
  pub look : Look
  pub count : Count
  pub before : List Made
  pub after : List Made
  pub number_is : count.number ≡ n
  pub is_x : x ≡ span_of s shape count look
  pub program_is :
      program ≡ before ++ (scan_phrase (row_read_by s) look.seen ++ (word_part s shape n look.outcome ++ (count_part s shape count look.outcome ++ after)))
  pub start_is : start ≡ 2 * length before
