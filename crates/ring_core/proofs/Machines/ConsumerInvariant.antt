-- What holds at each stage of the consumer's machine holds after an access.
use Rattle.std.proofs.Common.{◌≡◌, ◌≢◌, ℕ, ◌+◌, ◌%◌, Bool, true, false, Option, Some, None, List, [], length, refl, ap, subst, ◌∙◌, arith}
use Rattle.ring_core.proofs.Common.{C, R, capacity_of, modulus_of, width_of, Made, ScanState, scan_read, due_scan, UnaryState, due_unary, LastBitIsDue, IsScanning, IsCounted}
use Rattle.bits_core.specs.declared.events.Access.TheVariants as begins
use Rattle.register_core.specs.WordState.{ReaderState, ReaderStands, IsReadOf, IsItemRead, read_digit}
use Rattle.ring_core.specs.declared.consumers.Stage.{Stage}
use Rattle.ring_core.specs.declared.consumers.Stage.TheVariants.{Scanning, Loading, Counting}
use Rattle.ring_core.specs.ConsumerState.{ConsumerState, IsConsumer, ConsumerIsAt, IsBetweenWords, IsTaking, IsLoading, due_take, consumer_due_at}
use Rattle.ring_core.proofs.CountRow.{take_batch_below}
use Rattle.ring_core.proofs.Machines.MachineParts.{scanning, counting_on}

-- what holds at the stage that a consumer is at
pub at_stage : (p : ConsumerState) (st : Stage) → IsConsumer p → p.stage ≡ st → ConsumerIsAt st p
at_stage p st is e = subst (λ s. ConsumerIsAt s p) e is.at

-- what holds while a take scans
abbrev AtScan : ConsumerState → Type 0
AtScan p = IsCounted p.row p.count × IsTaking p × (p.items ≡ []) × IsScanning C (modulus_of p.shape) p.scan

-- a consumer whose row is that of its side stays one if its stage's invariant holds
stays_one :
    (p : ConsumerState) (st : Stage) (scan : ScanState) (word : ReaderState) (row : UnaryState) (items : List ℕ) (wanted most : ℕ) → IsConsumer p →
    row.side ≡ p.row.side → row.modulus ≡ p.row.modulus →
    ConsumerIsAt st (record p { stage = st; scan = scan; word = word; row = row; items = items; wanted = wanted; most = most }) →
    IsConsumer (record p { stage = st; scan = scan; word = word; row = row; items = items; wanted = wanted; most = most })
stays_one p st scan word row items wanted most is side modulus at = grind arith

pub still_scans :
    (p : ConsumerState) (st : Stage) (s : ScanState) (answer : Bool) → IsConsumer p → p.stage ≡ st → consumer_due_at st p ≡ due_scan p.scan → AtScan p →
    (AtScan (record p { stage = st; scan = s }) → ConsumerIsAt st (record p { stage = st; scan = s })) → (LastBitIsDue p.shape C (due_take p) → answer ≡ true) →
    s ≡ scan_read p.scan answer → s.found ≡ false → IsConsumer (record p { scan = s })
still_scans p st s answer is e due (counted, taking, fresh, scans) at_scan one fed open_still = grind (arith, stays_one, scanning)

-- a first scan that continues
pub scan_keeps :
    (p : ConsumerState) (s : ScanState) (answer : Bool) → IsConsumer p → p.stage ≡ Scanning → (LastBitIsDue p.shape C (due_take p) → answer ≡ true) →
    s ≡ scan_read p.scan answer → s.found ≡ false → IsConsumer (record p { scan = s })
scan_keeps p s answer is e = still_scans p Scanning s answer is e refl (at_stage p Scanning is e) (λ at. at)

-- the words have been read, and the write of the count begins
pub word_keeps :
    (p : ConsumerState) (w : ReaderState) (row : UnaryState) (items : List ℕ) → IsConsumer p → p.stage ≡ Loading → length items ≡ p.most →
    row ≡ record p.row { value = (p.count + p.most) % modulus_of p.shape } → IsConsumer (record p { stage = Counting; word = w; row = row; items = items })
word_keeps p w row items is e size begun = grind (arith, at_stage, stays_one, counting_on, take_batch_below)

-- between words, the write that counts those read begins
pub now_keeps :
    (p : ConsumerState) (row : UnaryState) (m : ℕ) → IsConsumer p → IsBetweenWords p → length p.items ≡ m →
    row ≡ record p.row { value = (p.count + m) % modulus_of p.shape } → IsConsumer (record p { stage = Counting; row = row; wanted = m; most = m })
now_keeps p row m is between size begun = grind (arith, at_stage, stays_one, counting_on, take_batch_below)

-- the write of the count is of a bit of it
pub first_bit : (row : UnaryState) → row.side ≡ C → due_unary row ≢ None → (i : ℕ) × (v : Bool) × (due_unary row ≡ Some (begins.Write (R i) v))
first_bit row side some = grind arith

-- what the word machine read is its value
pub word_whole :
    (p : ConsumerState) (w : ReaderState) (answer : Bool) (value : Option ℕ) (item : ℕ) → IsLoading p → w ≡ read_digit p.word answer → value ≡ Some item →
    ((reads : List Made) → ReaderStands w reads → IsItemRead w.width w.cell reads value) →
    (reads : List Made) → ReaderStands w reads → IsReadOf (width_of p.shape) ((p.cell + length p.items) % capacity_of p.shape) reads item
word_whole p w answer value item loads fed is gives reads stands =
    let width : w.width ≡ width_of p.shape = ap (λ (r : ReaderState). r.width) fed ∙ loads.width_is in
    let cell : w.cell ≡ (p.cell + length p.items) % capacity_of p.shape = ap (λ (r : ReaderState). r.cell) fed ∙ loads.cell_is in
    subst (λ j. IsReadOf (width_of p.shape) j reads item) cell
    (subst (λ n. IsReadOf n w.cell reads item) width (subst (λ v. IsItemRead w.width w.cell reads v) is (gives reads stands)))
