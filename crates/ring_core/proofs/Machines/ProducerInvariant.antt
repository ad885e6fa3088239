-- What holds at each stage of the producer's machine holds after an access.
use Rattle.std.proofs.Common.{◌≡◌, ℕ, suc, ◌+◌, ◌%◌, ◌<◌, Bool, true, false, Option, Some, None, List, length, take, refl, sym, subst, arith}
use Rattle.std.specs.Prelude.{slice_get}
use Rattle.ring_core.proofs.Common.{P, Access, capacity_of, modulus_of, width_of, Made, IsNext, WriterState, WriterStands, UnaryState, LastBitIsDue}
use Rattle.register_core.specs.ScanState.{ScanState, ScanStands, IsScanOf, IsValueRead, row_read_by, scan_read, due_scan}
use Rattle.register_core.specs.Word.{word_write}
use Rattle.ring_core.specs.declared.producers.Stage.{Stage}
use Rattle.ring_core.specs.declared.producers.Stage.TheVariants.{Scanning, Storing, Counting}
use Rattle.ring_core.specs.ProducerState.{ProducerState, IsProducer, ProducerIsAt, IsPutting, IsWritingWord, due_put, producer_due_at}
use Rattle.ring_core.proofs.CountRow.{batch_below}
use Rattle.ring_core.proofs.Machines.MachineParts.{ScanGoesOn, scanning, gives, counting_on}
use Rattle.ring_core.proofs.Machines.Batches.{taken_so, taken_batch}

pub at_stage : (p : ProducerState) (st : Stage) → IsProducer p → p.stage ≡ st → ProducerIsAt st p
at_stage p st is e = subst (λ s. ProducerIsAt s p) e is.at

same_putting :
    (p : ProducerState) (st : Stage) (scan : ScanState) (word : WriterState) (row : UnaryState) (most : ℕ) → IsPutting p →
    word.width ≡ p.word.width → word.cell ≡ p.word.cell → word.item ≡ p.word.item →
    IsPutting (record p { stage = st; scan = scan; word = word; row = row; most = most })
same_putting p st scan word row most is e f g = grind arith

-- a producer whose row is that of its side stays one if its stage's invariant holds
stays_one :
    (p : ProducerState) (st : Stage) (scan : ScanState) (word : WriterState) (row : UnaryState) (index : ℕ) → IsProducer p → row.side ≡ p.row.side → row.modulus ≡ p.row.modulus →
    ProducerIsAt st (record p { stage = st; scan = scan; word = word; row = row; index = index }) →
    IsProducer (record p { stage = st; scan = scan; word = word; row = row; index = index })
stays_one p st scan word row index is side modulus at = grind arith

pub scan_keeps :
    (p : ProducerState) (s : ScanState) (answer : Bool) → IsProducer p → p.stage ≡ Scanning → (LastBitIsDue p.shape P (due_put p) → answer ≡ true) →
    s ≡ scan_read p.scan answer → s.found ≡ false → IsProducer (record p { scan = s })
scan_keeps p s answer is e one fed open_still =
    let (counted, putting, fresh, start, scans) = at_stage p Scanning is e in
    let one' : LastBitIsDue p.shape P (due_scan p.scan) → answer ≡ true = subst (λ st. LastBitIsDue p.shape P (producer_due_at st p) → answer ≡ true) e one in
    stays_one p p.stage s p.word p.row p.index is refl refl
    (subst (λ st. ProducerIsAt st (record p { stage = st; scan = s })) (sym e)
    (counted, same_putting p Scanning s p.word p.row p.most putting refl refl refl, fresh, start, scanning p.shape P p.scan s answer scans one' fed open_still))

-- what is known about the scan of a put once it has a value: it is one of the consumer's count
pub record HasGiven (p : ProducerState) (s : ScanState) (answer : Bool) (seen : ℕ) : Type 0 where
  pub stage_is : p.stage ≡ Scanning
  pub fresh : p.word.written ≡ 0
  pub start : p.index ≡ 0
  pub goes : ScanGoesOn p.scan s answer
  pub is_scan : (reads : List Made) → ScanStands s reads → IsScanOf (row_read_by P) (modulus_of p.shape) reads seen

pub has_given :
    (p : ProducerState) (s : ScanState) (answer : Bool) (value : Option ℕ) (seen : ℕ) → p.stage ≡ Scanning → IsProducer p →
    record { state : s ≡ scan_read p.scan answer; stands : ScanGoesOn p.scan s answer } → value ≡ Some seen →
    ((reads : List Made) → ScanStands s reads → IsValueRead (row_read_by s.side) s.modulus reads value) → HasGiven p s answer seen
has_given p s answer value seen e is fed some values =
    grind (arith, at_stage p Scanning is e, gives p.shape P p.scan s answer value seen ((at_stage p Scanning is e).4) fed.state some values)

pub next_so :
    (p : ProducerState) (w : WriterState) (cell item i : ℕ) → i ≡ suc p.index → IsProducer p → p.stage ≡ Storing → i < p.most →
    cell ≡ (p.cell + i) % capacity_of p.shape → slice_get p.items i ≡ Some item →
    w ≡ record { width = width_of p.shape; cell = cell; item = item; written = 0 } → IsProducer (record p { word = w; index = i })
next_so p w cell item i so is e more cell_is item_is w_is = grind (arith, at_stage, stays_one)

-- the words are written
pub word_keeps :
    (p : ProducerState) (w : WriterState) (row : UnaryState) → IsProducer p → p.stage ≡ Storing → w ≡ record p.word { written = suc p.word.written } →
    row ≡ record p.row { value = (p.count + p.most) % modulus_of p.shape } → IsProducer (record p { stage = Counting; word = w; row = row })
word_keeps p w row is e fed begun =
    let (counted, putting, keeping, more) = at_stage p Storing is e in
    grind (arith, length (take p.most p.items), take p.most p.items, taken_so p.items p.most keeping.1, taken_batch, stays_one, counting_on, batch_below, same_putting)

pub word_whole :
    (p : ProducerState) (w : WriterState) (due : Option Access) → IsWritingWord p → w ≡ record p.word { written = suc p.word.written } → due ≡ None →
    ((made : List Made) → WriterStands w made → IsNext (word_write w.width w.cell w.item) made due) →
    (made : List Made) → WriterStands w made → made ≡ word_write (width_of p.shape) ((p.cell + p.index) % capacity_of p.shape) p.word.item
word_whole p w due is fed none next made stands = grind arith
