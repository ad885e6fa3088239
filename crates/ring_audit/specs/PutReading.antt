-- What the reader of a producer's events has read.
use Rattle.std.specs.Prelude.{◌≡◌, ◌≢◌, ℕ, ◌+◌, ◌%◌, ◌<◌, ◌≤◌, Bool, true, false, Option, Some, None, List, [], ◌∷◌, ◌++◌, length}
use Rattle.bits_core.specs.declared.events.Side.TheVariants.{P}
use Rattle.bits_core.specs.declared.events.Bit.TheVariants.{X, Cell}
use Rattle.bits_core.specs.declared.events.Access.{Access}
use Rattle.bits_core.specs.declared.events.Access.TheVariants as begins
use Rattle.bits_core.specs.declared.events.Event.{Event}
use Rattle.bits_core.specs.declared.shapes.Shape.{Shape}
use Rattle.bits_core.specs.Shape.{AllFit, capacity_of, modulus_of, width_of, batch_of}
use Rattle.bits_core.specs.Made.{Made, Write, events_of, IsPrefix}
use Rattle.register_core.specs.Row.{RowWrite, row_bit, first_bits, writes_in, bits_after}
use Rattle.register_core.specs.Word.{digit_writes}
use Rattle.register_core.specs.WordState.{ReaderState, ReaderStands}
use Rattle.register_core.specs.ScanState.{ScanState, zero_reads, scan_phrase, row_read_by, due_scan}
use Rattle.register_core.specs.UnaryState.{UnaryState, due_unary, due_writes, UnaryStands}
use Rattle.ring_core.specs.Counts.{LeavesRoomFor, number_past, first_count, count_bits}
use Rattle.ring_core.specs.Puts.{Put, Stored, Puts, words_phrase, put_phrases, put_program, IsPut, ArePuts}
use Rattle.ring_core.specs.PutParts.{count_behind}
use Rattle.ring_core.specs.Items.{items_put, all_put}
use Rattle.ring_core.specs.Calls.{IsScanning}
use Rattle.ring_audit.specs.declared.puts.PutStep.{PutStep}
use Rattle.ring_audit.specs.declared.puts.PutStep.TheVariants.{Stops, GoesOn, Stores, Counts}
use Rattle.ring_audit.specs.declared.puts.Stage.{Stage}
use Rattle.ring_audit.specs.declared.puts.Stage.TheVariants.{Resting, Scanning, Choosing, Storing, Counting, Closing, Closed}
use Rattle.ring_audit.specs.Sides.{open_events, AreOfPuts}

-- the shape; the count's remainder by the modulus, and what it will be once the items of the put under way are counted; the
-- cell of the next item; how far the put has come, with its scan, the word whose digits it writes, how many more items it
-- may store and whether it has stored one; the row of the count; the access that is open
pub record PutReading : Type 0 where
  pub shape : Shape
  pub count : ℕ
  pub next : ℕ
  pub cell : ℕ
  pub stage : Stage
  pub scan : ScanState
  pub word : ReaderState
  pub room : ℕ
  pub some : Bool
  pub row : UnaryState
  pub open_access : Option Access

-- the reader is at the stage, with this access open
abbrev pub IsAtStage : PutReading → Stage → Option Access → Type 0
IsAtStage r stage open_access = (r.stage ≡ stage) × (r.open_access ≡ open_access)

-- what holds at each stage
abbrev pub IsReaderAt : Stage → PutReading → Type 0
IsReaderAt Resting r = (r.open_access ≡ None) × (due_unary r.row ≡ None)
IsReaderAt Scanning r =
    (due_unary r.row ≡ None) × IsScanning P (modulus_of r.shape) r.scan × (r.open_access ≡ None → 0 < r.scan.zeros) ×
    ((access : Access) → r.open_access ≡ Some access → due_scan r.scan ≡ Some access)
IsReaderAt Choosing r = (r.open_access ≡ None) × (due_unary r.row ≡ None)
IsReaderAt Storing r =
    (due_unary r.row ≡ None) × (r.word.width ≡ width_of r.shape) × (r.word.cell ≡ r.cell) × (r.word.read < r.word.width) × (0 < r.room) ×
    (r.open_access ≡ None → 0 < r.word.read) ×
    ((access : Access) → r.open_access ≡ Some access → (v : Bool) × (access ≡ begins.Write (Cell r.word.cell r.word.read) v))
IsReaderAt Counting r = (due_unary r.row ≢ None) × ((access : Access) → r.open_access ≡ Some access → due_unary r.row ≡ Some access)
IsReaderAt Closing r = r.open_access ≡ Some (begins.Write X true)
IsReaderAt Closed r = r.open_access ≡ None

-- what holds for every reader of puts: its counts are in range, its row is the producer's, and its stage's invariant holds
pub record IsPutReading (r : PutReading) : Type 0 where
  pub count_below : r.count < modulus_of r.shape
  pub next_below : r.next < modulus_of r.shape
  pub cell_below : r.cell < capacity_of r.shape
  pub row_side : r.row.side ≡ P
  pub row_modulus : r.row.modulus ≡ modulus_of r.shape
  pub at : IsReaderAt r.stage r

-- after n items and a scan of this value, m is the most items that may be stored, and at least 1
pub record IsMost (shape : Shape) (n seen m : ℕ) : Type 0 where
  pub below : seen < modulus_of shape
  pub some : 1 ≤ m
  pub room : LeavesRoomFor shape (n % modulus_of shape) seen m
  pub few : m ≤ batch_of shape
  pub most : (k : ℕ) → LeavesRoomFor shape (n % modulus_of shape) seen k → k ≤ batch_of shape → k ≤ m

-- the row holds these bits, as the result of its writes
pub record RowHolds (row : UnaryState) (bits : ℕ → Bool) : Type 0 where
  pub values : List ℕ
  pub writes : List RowWrite
  pub stands : UnaryStands row values (writes_in (row_bit P) writes)
  pub left : bits_after first_bits writes ≡ bits

-- whether there are items
abbrev pub has_items : List ℕ → Bool
has_items [] = false
has_items (item ∷ items) = true

-- between puts, and while a put scans: these items were counted
pub record AtRest (shape : Shape) (r : PutReading) (puts : List Put) (items stored : List ℕ) : Type 0 where
  pub holds : RowHolds r.row (count_behind shape puts).bits
  pub cell_is : r.cell ≡ (count_behind shape puts).number % capacity_of shape
  pub items_are : items ≡ all_put puts
  pub none_stored : stored ≡ []

-- while a put stores: it has stored these items, which are not counted yet; with these fields of its reader
pub record InPut (shape : Shape) (next cell room : ℕ) (some : Bool) (row : UnaryState) (puts : List Put) (items stored : List ℕ) : Type 0 where
  pub seen : ℕ
  pub may : IsMost shape (count_behind shape puts).number seen (length stored + room)
  pub fit : AllFit shape stored
  pub next_is : next ≡ number_past (count_behind shape puts).number stored % modulus_of shape
  pub cell_is : cell ≡ number_past (count_behind shape puts).number stored % capacity_of shape
  pub some_is : some ≡ has_items stored
  pub holds : RowHolds row (count_behind shape puts).bits
  pub items_are : items ≡ all_put puts

-- while it counts them: these bit writes of the count were made
pub record InCount (shape : Shape) (r : PutReading) (puts : List Put) (items stored : List ℕ) : Type 0 where
  pub seen : ℕ
  pub batch : List ℕ
  pub is_put : IsPut shape (count_behind shape puts).number (Stored seen batch)
  pub next_is : r.next ≡ number_past (count_behind shape puts).number batch % modulus_of shape
  pub cell_is : r.cell ≡ number_past (count_behind shape puts).number batch % capacity_of shape
  pub writes : List RowWrite
  pub holds : RowHolds r.row (bits_after (count_behind shape puts).bits writes)
  pub parts : count_bits shape (count_behind shape puts) batch ≡ writes ++ due_writes r.row
  pub begun : r.open_access ≡ None → (u : RowWrite) × (more : List RowWrite) × (writes ≡ u ∷ more)
  pub items_are : items ≡ all_put puts ++ batch
  pub none_stored : stored ≡ []

-- the accesses made, by the stage: those of the puts, and of the one under way
abbrev pub MadeWhile : Stage → Shape → PutReading → List Put → List ℕ → List ℕ → List Made → Type 0
MadeWhile Resting shape r puts items stored made = AtRest shape r puts items stored × (made ≡ put_phrases shape first_count puts)
MadeWhile Scanning shape r puts items stored made =
    AtRest shape r puts items stored × (made ≡ put_phrases shape first_count puts ++ zero_reads (row_read_by P) r.scan.zeros)
MadeWhile Choosing shape r puts items stored made =
    (s : InPut shape r.next r.cell r.room r.some r.row puts items stored) ×
    (made ≡ put_phrases shape first_count puts ++ (scan_phrase (row_read_by P) s.seen ++ words_phrase shape (count_behind shape puts).number stored))
MadeWhile Storing shape r puts items stored made =
    (s : InPut shape r.next r.cell r.room r.some r.row puts items stored) × (reads : List Made) × ReaderStands r.word reads ×
    (made ≡
    put_phrases shape first_count puts ++
    (scan_phrase (row_read_by P) s.seen ++ (words_phrase shape (count_behind shape puts).number stored ++ writes_in (Cell r.cell) (digit_writes r.word.value r.word.read))))
MadeWhile Counting shape r puts items stored made =
    (s : InCount shape r puts items stored) ×
    (made ≡
    put_phrases shape first_count puts ++
    (scan_phrase (row_read_by P) s.seen ++ (words_phrase shape (count_behind shape puts).number s.batch ++ writes_in (row_bit P) s.writes)))
MadeWhile Closing shape r puts items stored made = AtRest shape r puts items stored × (made ≡ put_phrases shape first_count puts)
MadeWhile Closed shape r puts items stored made = AtRest shape r puts items stored × (made ≡ put_phrases shape first_count puts ++ Write X true ∷ [])

-- the reader stands after these events of the producer, in which these items were counted, or their count write has begun,
-- and these were stored after them
pub record PutsStand (shape : Shape) (r : PutReading) (es : List Event) (items stored : List ℕ) : Type 0 where
  pub puts : List Put
  pub made : List Made
  pub shape_is : r.shape ≡ shape
  pub are : ArePuts shape 0 puts
  pub count_is : r.count ≡ (count_behind shape puts).number % modulus_of shape
  pub events_are : es ≡ events_of P made ++ open_events P r.open_access
  pub made_is : MadeWhile r.stage shape r puts items stored made

-- One more event: if the reader stops, the events are not a prefix of those of any calls; otherwise it stands after them.
abbrev pub HasReadPut : Shape → PutReading → PutReading → Event → PutStep → Type 0
HasReadPut shape old new e Stops = (es : List Event) (items stored : List ℕ) → PutsStand shape old es items stored → ¬ AreOfPuts shape (es ++ e ∷ [])
HasReadPut shape old new e GoesOn = (es : List Event) (items stored : List ℕ) → PutsStand shape old es items stored → PutsStand shape new (es ++ e ∷ []) items stored
HasReadPut shape old new e (Stores item) =
    (es : List Event) (items stored : List ℕ) → PutsStand shape old es items stored → PutsStand shape new (es ++ e ∷ []) items (stored ++ item ∷ [])
HasReadPut shape old new e Counts =
    (es : List Event) (items stored : List ℕ) → PutsStand shape old es items stored → PutsStand shape new (es ++ e ∷ []) (items ++ stored) []

-- the events are a prefix of those of calls, by which these items were put
pub record WerePut (shape : Shape) (es : List Event) (items : List ℕ) : Type 0 where
  pub calls : Puts
  pub are : ArePuts shape 0 calls.puts
  pub events : IsPrefix es (events_of P (put_program shape calls))
  pub put : items ≡ items_put shape first_count calls.puts (length es)
