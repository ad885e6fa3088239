-- What a producer may do next, by how far its put under way has come.
use Rattle.std.specs.Prelude.{◌≡◌, ℕ, suc, ◌%◌, ◌<◌, ◌≤◌, ◌⊎◌, Bool, true, List, ◌∷◌, ◌++◌, length}
use Rattle.bits_core.specs.declared.events.Side.TheVariants.{P}
use Rattle.bits_core.specs.declared.events.Bit.TheVariants.{X, Cell}
use Rattle.bits_core.specs.declared.shapes.Shape.{Shape}
use Rattle.bits_core.specs.Shape.{AllFit, capacity_of, modulus_of, width_of, batch_of}
use Rattle.bits_core.specs.Made.{Made, Read, Write}
use Rattle.register_core.specs.Row.{RowWrite, row_bit, writes_in}
use Rattle.register_core.specs.Word.{digit_writes}
use Rattle.register_core.specs.ScanState.{zero_reads, scan_phrase, row_read_by}
use Rattle.ring_core.specs.Counts.{LeavesRoom, LeavesRoomFor, number_past, Count, first_count, count_bits}
use Rattle.ring_core.specs.Puts.{Put, Puts, stored_count, words_phrase, put_phrases, put_program, ArePuts}

-- calls of the producer continue with these accesses, after these puts
pub record GoesBehind (shape : Shape) (puts : List Put) (rest : List Made) : Type 0 where
  pub calls : Puts
  pub are : ArePuts shape 0 calls.puts
  pub program_is : put_program shape calls ≡ put_phrases shape first_count puts ++ rest

-- the count that puts result in
abbrev pub count_behind : Shape → List Put → Count
count_behind shape puts = stored_count shape first_count puts

-- a write of a count's bit, as an access
abbrev pub count_access : RowWrite → Made
count_access w = Write (row_bit P w.bit) w.value

-- after complete puts: a scan begins, or the close
abbrev pub ScansOrCloses : Type 0
ScansOrCloses =
    (shape : Shape) (puts : List Put) (x : Made) (rest : List Made) → ArePuts shape 0 puts → GoesBehind shape puts (x ∷ rest) →
    ((v : Bool) × (x ≡ Read (row_read_by P 0) v)) ⊎ (x ≡ Write X true)

-- in a scan: the next bit is read
abbrev pub ScansOn : Type 0
ScansOn =
    (shape : Shape) (puts : List Put) (zeros : ℕ) (x : Made) (rest : List Made) → ArePuts shape 0 puts →
    GoesBehind shape puts (zero_reads (row_read_by P) (suc zeros) ++ x ∷ rest) → (v : Bool) × (x ≡ Read (row_read_by P (suc zeros)) v)

-- after a scan that found room, and complete words: the next word, if there is room for one more, or the count write
abbrev pub StoresOrCounts : Type 0
StoresOrCounts =
    (shape : Shape) (puts : List Put) (seen : ℕ) (items : List ℕ) (x : Made) (rest : List Made) → ArePuts shape 0 puts →
    LeavesRoom shape ((count_behind shape puts).number % modulus_of shape) seen → AllFit shape items →
    GoesBehind shape puts (scan_phrase (row_read_by P) seen ++ (words_phrase shape (count_behind shape puts).number items ++ x ∷ rest)) →
    ((v : Bool) × (x ≡ Write (Cell (number_past (count_behind shape puts).number items % capacity_of shape) 0) v) ×
    LeavesRoomFor shape ((count_behind shape puts).number % modulus_of shape) seen (suc (length items)) × (suc (length items) ≤ batch_of shape)) ⊎
    ((1 ≤ length items) × (w : RowWrite) × (more : List RowWrite) × (count_bits shape (count_behind shape puts) items ≡ w ∷ more) × (x ≡ count_access w))

-- in a word: its next digit
abbrev pub StoresOn : Type 0
StoresOn =
    (shape : Shape) (puts : List Put) (seen : ℕ) (items : List ℕ) (value digits : ℕ) (x : Made) (rest : List Made) → ArePuts shape 0 puts →
    LeavesRoom shape ((count_behind shape puts).number % modulus_of shape) seen → AllFit shape items → suc digits < width_of shape →
    GoesBehind shape puts
    (scan_phrase (row_read_by P) seen ++
    (words_phrase shape (count_behind shape puts).number items ++ (writes_in (Cell (number_past (count_behind shape puts).number items % capacity_of shape)) (digit_writes value (suc digits)) ++ x ∷ rest))) →
    (v : Bool) × (x ≡ Write (Cell (number_past (count_behind shape puts).number items % capacity_of shape) (suc digits)) v)

-- in a count write: its next bit write
abbrev pub CountsOn : Type 0
CountsOn =
    (shape : Shape) (puts : List Put) (seen : ℕ) (items : List ℕ) (u w : RowWrite) (writes more : List RowWrite) (x : Made) (rest : List Made) → ArePuts shape 0 puts →
    LeavesRoom shape ((count_behind shape puts).number % modulus_of shape) seen → AllFit shape items → count_bits shape (count_behind shape puts) items ≡ (u ∷ writes) ++ w ∷ more →
    GoesBehind shape puts
    (scan_phrase (row_read_by P) seen ++ (words_phrase shape (count_behind shape puts).number items ++ (writes_in (row_bit P) (u ∷ writes) ++ x ∷ rest))) →
    x ≡ count_access w
