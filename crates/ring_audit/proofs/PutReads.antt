-- The reader of puts: if it stops, the events are of no puts.
use Rattle.std.proofs.Common.{◌≡◌, ◌≢◌, inl, inr, ℕ, zero, suc, ◌+◌, ◌%◌, ◌<◌, ◌≤◌, Bool, true, false, not, is_some, Option, Some, None, List, [], ◌∷◌, ◌++◌, length, if◌then◌else◌, nat_lt, refl, sym, ap, subst, ◌∙◌, arith, append_assoc, append-nil, length-append}
use Rattle.std.proofs.Math.Path.{fun_ext}
use Rattle.std.proofs.lemmas.Bool.Decides.{nat_tests}
use Rattle.ring_audit.proofs.Common.{P, X, Cell, Access, Event, Shape, capacity_of, modulus_of, width_of, Made, Read, access_of, answered, end_event, events_of, opening_event, digit_writes}
use Rattle.ring_audit.proofs.Common.{events_of-append, scan_due}
use Rattle.bits_core.specs.declared.events.Access.TheVariants as begins
use Rattle.register_core.specs.Row.{RowWrite, row_bit, first_bits, bits_after, writes_in}
use Rattle.register_core.specs.WordState.{ReaderState, ReaderStands, read_digit, due_read}
use Rattle.register_core.specs.Unary.{unary_phrase}
use Rattle.register_core.specs.UnaryState.{UnaryState, bit_in, due_writes, due_unary, first_access}
use Rattle.register_core.specs.ScanState.{ScanState, LastIsDue, zero_reads, scan_phrase, row_read_by, due_scan}
use Rattle.ring_core.specs.Counts.{LeavesRoom, number_past, Count, first_count, count_bits}
use Rattle.ring_core.specs.Puts.{Puts, words_phrase, put_phrases, put_program}
use Rattle.ring_core.specs.Calls.{IsScanning}
use Rattle.ring_core.specs.PutParts.{GoesBehind, count_behind, count_access}
use Rattle.ring_audit.specs.declared.puts.PutStep.{PutStep}
use Rattle.ring_audit.specs.declared.puts.Stage.{Stage}
use Rattle.ring_audit.specs.declared.puts.Stage.TheVariants.{Resting, Scanning, Choosing, Storing, Counting, Closed}
use Rattle.ring_audit.specs.Sides.{AreOfPuts, told_of}
use Rattle.ring_audit.specs.PutReading.{PutReading, IsPutReading, HasReadPut, IsReaderAt, RowHolds, IsMost, has_items, MadeWhile, PutsStand}
use Rattle.ring_audit.proofs.Readers as readers
pub use Rattle.ring_audit.proofs.Readers.{same_open}
use Rattle.ring_audit.proofs.Beginnings.{same_access, GoesOnWith}
pub use Rattle.ring_core.proofs.Machines.ConsumerNext.{read_due}
use Rattle.ring_core.proofs.LawLemmas.{calls_are_first_puts, last_reads_are_one_puts, puts_go_on_between, puts_go_on_counts, puts_go_on_digits, puts_go_on_scans, puts_go_on_words}

-- calls whose events continue like this
rest_on :
    (shape : Shape) (r : PutReading) (es : List Event) (items stored : List ℕ) (st : PutsStand shape r es items stored) (e : Event) → r.open_access ≡ None →
    (of_puts : AreOfPuts shape (es ++ e ∷ [])) → GoesOnWith P st.made (put_program shape of_puts.0) e
rest_on shape r es items stored st e none (calls, are, begins) = readers.rest_on P es st.made (put_program shape calls) r.open_access e st.events_are none begins

-- ---- when it stops

-- a 0 of the last bit
pub zero_at_last :
    (shape : Shape) (r : PutReading) (es : List Event) (items stored : List ℕ) (a : Access) → PutsStand shape r es items stored → r.open_access ≡ Some a →
    IsScanning P (modulus_of shape) r.scan → due_scan r.scan ≡ Some a → LastIsDue r.scan → AreOfPuts shape (es ++ end_event P (answered a false) ∷ []) → ⊥
zero_at_last shape r es items stored a st some scans due last of_puts =
    let (rest, whole) = readers.answered_next P es st.made (put_program shape of_puts.0) r.open_access a false st.events_are some of_puts.2 in
    grind (arith, last_reads_are_one_puts)

-- ---- when it stops, by the stage

-- the calls continue after the puts so far
goes_behind :
    (shape : Shape) (r : PutReading) (es : List Event) (items stored : List ℕ) (st : PutsStand shape r es items stored) (part : List Made) (e : Event) →
    st.made ≡ put_phrases shape first_count st.puts ++ part → (of_puts : AreOfPuts shape (es ++ e ∷ [])) →
    (on : GoesOnWith P st.made (put_program shape of_puts.0) e) → GoesBehind shape st.puts (part ++ on.next ∷ on.rest)
goes_behind shape r es items stored st part e made_is of_puts on = grind (arith, append_assoc)

pub made_at : (shape : Shape) (r : PutReading) (es : List Event) (items stored : List ℕ) (st : PutsStand shape r es items stored) (stage : Stage) → r.stage ≡ stage →
    MadeWhile stage shape r st.puts items stored st.made
made_at shape r es items stored st stage e = subst (λ s. MadeWhile s shape r st.puts items stored st.made) e st.made_is

-- between calls
pub no_call :
    (shape : Shape) (r : PutReading) (es : List Event) (items stored : List ℕ) (a : Access) → PutsStand shape r es items stored → r.open_access ≡ None →
    r.stage ≡ Resting → (begins.Write X true ≡ a → ⊥) → (begins.Read (row_read_by P 0) ≡ a → ⊥) → AreOfPuts shape (es ++ opening_event P a ∷ []) → ⊥
no_call shape r es items stored a st none stage no_close no_read of_puts =
    let (rests, made_is) = made_at shape r es items stored st Resting stage in
    let on = rest_on shape r es items stored st (opening_event P a) none of_puts in
    let is_a : access_of on.next ≡ a = same_access P a on.next on.begins in
    let g = goes_behind shape r es items stored st [] (opening_event P a) (made_is ∙ sym (append-nil (put_phrases shape first_count st.puts))) of_puts on in
    elim (puts_go_on_between shape st.puts on.next on.rest st.are g) [
      | inl (v, e) ↦ no_read (sym (ap access_of e) ∙ is_a)
      | inr e ↦ no_close (sym (ap access_of e) ∙ is_a)
    ]

-- in a scan
pub no_read :
    (shape : Shape) (r : PutReading) (es : List Event) (items stored : List ℕ) (a : Access) → PutsStand shape r es items stored → r.open_access ≡ None →
    r.stage ≡ Scanning → 0 < r.scan.zeros → (begins.Read (row_read_by P r.scan.zeros) ≡ a → ⊥) → AreOfPuts shape (es ++ opening_event P a ∷ []) → ⊥
no_read shape r es items stored a st none stage some wrong of_puts =
    by_zeros r.scan.zeros refl
  where
    by_zeros : (zeros : ℕ) → r.scan.zeros ≡ zeros → ⊥
    by_zeros zero e = absurd (omega (arith, some, e))
    by_zeros (suc zeros) e =
        let (rests, made_is) = made_at shape r es items stored st Scanning stage in
        let on = rest_on shape r es items stored st (opening_event P a) none of_puts in
        let is_a : access_of on.next ≡ a = same_access P a on.next on.begins in
        let g = goes_behind shape r es items stored st (zero_reads (row_read_by P) (suc zeros)) (opening_event P a)
        (made_is ∙ ap (λ n. put_phrases shape first_count st.puts ++ zero_reads (row_read_by P) n) e) of_puts on in
        let (v, is) = puts_go_on_scans shape st.puts zeros on.next on.rest st.are g in
        wrong (ap (λ n. begins.Read (row_read_by P n)) e ∙ sym (ap access_of is) ∙ is_a)

-- if something may be stored there is room
pub has_room_then : (shape : Shape) (n seen m : ℕ) → IsMost shape n seen m → LeavesRoom shape (n % modulus_of shape) seen
has_room_then shape n seen m may = omega (arith, may.room, may.some)

-- the bits of a row
same_row_writes : (us vs : List RowWrite) → writes_in (row_bit P) us ≡ writes_in (row_bit P) vs → us ≡ vs
same_row_writes [] [] e = refl
same_row_writes [] (v ∷ vs) e = absurd (cc)
same_row_writes (u ∷ us) [] e = absurd (cc)
same_row_writes (u ∷ us) (v ∷ vs) e = grind (arith, same_row_writes us vs (cc))

pub row_bits : (row : UnaryState) (bits : ℕ → Bool) → row.side ≡ P → RowHolds row bits → bit_in row.bits ≡ bits
row_bits row bits side h =
    let same : h.writes ≡ h.stands.writes = grind (arith, same_row_writes) in
    fun_ext (λ i. h.stands.remembered i ∙ ap (λ ws. bits_after first_bits ws i) (sym same) ∙ ap (λ f. f i) h.left)

-- what is due once the count of these items is requested
pub count_due :
    (shape : Shape) (row : UnaryState) (c : Count) (items : List ℕ) (next : ℕ) → row.side ≡ P → RowHolds row c.bits → next ≡ number_past c.number items % modulus_of shape →
    due_writes (record row { value = next }) ≡ count_bits shape c items
count_due shape row c items next side h e = ap (λ f. unary_phrase f next) (row_bits row c.bits side h) ∙ ap (unary_phrase c.bits) e

-- the first access of bit writes
pub first_due : (row : UnaryState) (w : RowWrite) (more : List RowWrite) → row.side ≡ P → due_writes row ≡ w ∷ more → due_unary row ≡ Some (access_of (count_access w))
first_due row w more side e = ap (first_access (row_bit row.side)) e ∙ ap (λ s. Some (begins.Write (row_bit s w.bit) w.value)) side

-- after a scan that found room, or a complete word
pub no_word_nor_count :
    (shape : Shape) (r : PutReading) (es : List Event) (items stored : List ℕ) (a : Access) → PutsStand shape r es items stored → r.open_access ≡ None →
    r.stage ≡ Choosing → r.row.side ≡ P → ((v : Bool) → 0 < r.room → a ≡ begins.Write (Cell r.cell 0) v → ⊥) →
    (r.some ≡ true → due_unary (record r.row { value = r.next }) ≡ Some a → ⊥) → AreOfPuts shape (es ++ opening_event P a ∷ []) → ⊥
no_word_nor_count shape r es items stored a st none stage side no_word no_count of_puts =
    let (s, made_is) = made_at shape r es items stored st Choosing stage in
    let c : Count = count_behind shape st.puts in
    let scan : List Made = scan_phrase (row_read_by P) s.seen in
    let words : List Made = words_phrase shape c.number stored in
    let on = rest_on shape r es items stored st (opening_event P a) none of_puts in
    let is_a : access_of on.next ≡ a = same_access P a on.next on.begins in
    let g = goes_behind shape r es items stored st (scan ++ words) (opening_event P a) made_is of_puts on in
    elim (puts_go_on_words shape st.puts s.seen stored on.next on.rest st.are (has_room_then shape c.number s.seen (length stored + r.room) s.may) s.fit
    (subst (GoesBehind shape st.puts) (append_assoc scan words (on.next ∷ on.rest)) g)) [
      | inl (v, e, room, few) ↦
          no_word v (omega (arith, s.may.most (suc (length stored)) room few)) (sym is_a ∙ ap access_of e ∙ ap (λ j. begins.Write (Cell j 0) v) (sym s.cell_is))
      | inr (some, w, more, bits, e) ↦ grind (arith, first_due, count_due)
    ]
  where
    has_some : (l : List ℕ) → 1 ≤ length l → has_items l ≡ true
    has_some [] l = absurd (omega (arith, l))
    has_some (x ∷ l) m = refl

-- in a word
pub no_digit :
    (shape : Shape) (r : PutReading) (es : List Event) (items stored : List ℕ) (a : Access) → PutsStand shape r es items stored → r.open_access ≡ None →
    r.stage ≡ Storing → r.word.read < width_of shape → 0 < r.word.read → ((v : Bool) → a ≡ begins.Write (Cell r.cell r.word.read) v → ⊥) →
    AreOfPuts shape (es ++ opening_event P a ∷ []) → ⊥
no_digit shape r es items stored a st none stage below some wrong of_puts =
    by_read r.word.read refl
  where
    by_read : (read : ℕ) → r.word.read ≡ read → ⊥
    by_read zero e = absurd (omega (arith, some, e))
    by_read (suc read) e =
        let (s, reads, stands, made_is) = made_at shape r es items stored st Storing stage in
        let c : Count = count_behind shape st.puts in
        let scan : List Made = scan_phrase (row_read_by P) s.seen in
        let words : List Made = words_phrase shape c.number stored in
        let digits : List Made = writes_in (Cell (number_past c.number stored % capacity_of shape)) (digit_writes r.word.value (suc read)) in
        let on = rest_on shape r es items stored st (opening_event P a) none of_puts in
        let is_a : access_of on.next ≡ a = same_access P a on.next on.begins in
        let front : List Made = put_phrases shape first_count st.puts in
        let made_so : st.made ≡ front ++ (scan ++ (words ++ digits)) = grind arith in
        let g = goes_behind shape r es items stored st (scan ++ (words ++ digits)) (opening_event P a) made_so of_puts on in
        let parts : (scan ++ (words ++ digits)) ++ on.next ∷ on.rest ≡ scan ++ (words ++ (digits ++ on.next ∷ on.rest)) = grind (arith, append_assoc) in
        let (v, is) = puts_go_on_digits shape st.puts s.seen stored r.word.value read on.next on.rest st.are
        (has_room_then shape c.number s.seen (length stored + r.room) s.may) s.fit (omega (arith, below, e)) (subst (GoesBehind shape st.puts) parts g) in
        wrong v (sym is_a ∙ ap access_of is ∙ ap (λ j. begins.Write (Cell j (suc read)) v) (sym s.cell_is) ∙ ap (λ n. begins.Write (Cell r.cell n) v) (sym e))

some_due : (ws : List RowWrite) → (ws ≡ [] → ⊥) → (w : RowWrite) × (more : List RowWrite) × (ws ≡ w ∷ more)
some_due [] none = absurd (none refl)
some_due (w ∷ more) none = (w, more, refl)

-- in a count write
pub no_bit :
    (shape : Shape) (r : PutReading) (es : List Event) (items stored : List ℕ) (a : Access) → PutsStand shape r es items stored → r.open_access ≡ None →
    r.stage ≡ Counting → r.row.side ≡ P → due_unary r.row ≢ None → (due_unary r.row ≡ Some a → ⊥) → AreOfPuts shape (es ++ opening_event P a ∷ []) → ⊥
no_bit shape r es items stored a st none stage side due wrong of_puts =
    let (s, made_is) = made_at shape r es items stored st Counting stage in
    let c : Count = count_behind shape st.puts in
    let scan : List Made = scan_phrase (row_read_by P) s.seen in
    let words : List Made = words_phrase shape c.number s.batch in
    let front : List Made = put_phrases shape first_count st.puts in
    let (u, writes, writes_are) = s.begun none in
    let (w, more, due_are) = some_due (due_writes r.row) (λ e. due (ap (first_access (row_bit r.row.side)) e)) in
    let bits : List Made = writes_in (row_bit P) (u ∷ writes) in
    let made_so : st.made ≡ front ++ (scan ++ (words ++ bits)) = made_is ∙ ap (λ ws. front ++ (scan ++ (words ++ writes_in (row_bit P) ws))) writes_are in
    let on = rest_on shape r es items stored st (opening_event P a) none of_puts in
    let is_a : access_of on.next ≡ a = same_access P a on.next on.begins in
    let g = goes_behind shape r es items stored st (scan ++ (words ++ bits)) (opening_event P a) made_so of_puts on in
    let parts : (scan ++ (words ++ bits)) ++ on.next ∷ on.rest ≡ scan ++ (words ++ (bits ++ on.next ∷ on.rest)) = grind (arith, append_assoc) in
    let batch = s.is_put.2 in
    let room : LeavesRoom shape (c.number % modulus_of shape) s.seen = omega (arith, s.is_put.1, batch.some) in
    let is = puts_go_on_counts shape st.puts s.seen s.batch u w writes more on.next on.rest st.are room batch.fit
    (s.parts ∙ ap (λ ws. ws ++ due_writes r.row) writes_are ∙ ap (λ ws. (u ∷ writes) ++ ws) due_are) (subst (GoesBehind shape st.puts) parts g) in
    wrong (first_due r.row w more side due_are ∙ ap Some (sym (ap access_of is) ∙ is_a))

-- after the close
pub no_more :
    (shape : Shape) (r : PutReading) (es : List Event) (items stored : List ℕ) (a : Access) → PutsStand shape r es items stored → r.open_access ≡ None →
    r.stage ≡ Closed → AreOfPuts shape (es ++ opening_event P a ∷ []) → ⊥
no_more shape r es items stored a st none stage of_puts =
    let (rests, made_is) = made_at shape r es items stored st Closed stage in
    let on = rest_on shape r es items stored st (opening_event P a) none of_puts in
    let calls : Puts = record { puts = st.puts; closes = true } in
    let more : List Made = on.next ∷ on.rest in
    let whole : put_program shape calls ++ more ≡ put_program shape of_puts.0 = ap (λ l. l ++ more) (sym made_is) ∙ sym on.whole_is in
    let events : events_of P (put_program shape calls) ++ events_of P more ≡ events_of P (put_program shape of_puts.0) = grind (arith, events_of-append) in
    let all : calls ≡ of_puts.0 = (calls_are_first_puts shape calls of_puts.0 st.are of_puts.1 (events_of P more, events)).1 refl in
    absurd (omega (arith, ap length whole, length-append (put_program shape calls) more, ap (λ z. length (put_program shape z)) all))

-- ---- from what the reader is inside

pub at_stage : (r : PutReading) (stage : Stage) → IsPutReading r → r.stage ≡ stage → IsReaderAt stage r
at_stage r stage is e = subst (λ s. IsReaderAt s r) e is.at

-- what holds for its fields at a stage, with such an access open, holds for it
pub read_at :
    (r now new : PutReading) (e : Event) (step : PutStep) (stage : Stage) (o : Option Access) → r ≡ now → IsPutReading r → now.stage ≡ stage → now.open_access ≡ o →
    (r.stage ≡ stage → r.open_access ≡ o → IsReaderAt stage r → HasReadPut r.shape r new e step) → HasReadPut now.shape now new e step
read_at r now new e step stage o is inside at_now open_now read = grind (arith, at_stage)

-- in a scan the open access is its next read
pub reads_next : (r : PutReading) (a : Access) → IsReaderAt Scanning r → r.open_access ≡ Some a → a ≡ begins.Read (row_read_by P r.scan.zeros)
reads_next r a at some = same_open (due_scan r.scan) a (begins.Read (row_read_by P r.scan.zeros)) (at.3 a some) (scan_due P (modulus_of r.shape) r.scan at.1)

-- it was fed the digit that the access writes
pub fed_by_write :
    (old new : ReaderState) (a : Access) (answer told w : Bool) → a ≡ begins.Write (Cell old.cell old.read) w → old.read < old.width → told ≡ told_of a answer → new ≡ read_digit old told →
    ((made : List Made) (access : Access) → ReaderStands old made → due_read old ≡ Some access → ReaderStands new (made ++ answered access told ∷ [])) →
    (new ≡ read_digit old w) × ((made : List Made) → ReaderStands old made → ReaderStands new (made ++ Read (Cell old.cell old.read) w ∷ []))
fed_by_write old new a answer told w writes below told_is fed goes =
    let is : told ≡ w = told_is ∙ ap (λ z. told_of z answer) writes in (
      fed ∙ ap (read_digit old) is,
      λ made stands. subst (λ v. ReaderStands new (made ++ Read (Cell old.cell old.read) v ∷ [])) is (goes made (begins.Read (Cell old.cell old.read)) stands (read_due old below)),
    )

pub whole_word : (w : ReaderState) (item : ℕ) → Some item ≡ (if nat_lt w.read w.width then None else Some w.value) → (item ≡ w.value) × (w.width ≤ w.read)
whole_word w item e = grind (arith, nat_tests)

pub no_value : (s : ScanState) → None ≡ (if s.found then Some s.zeros else None) → s.found ≡ false
no_value s e = grind arith

pub no_due : (o : Option Access) (b : Bool) → is_some o ≡ not b → b ≡ true → o ≡ None
no_due o b e f = grind arith
