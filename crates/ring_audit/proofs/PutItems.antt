-- The reader of puts continues at the end of a digit and in a count write.
use Rattle.std.proofs.Common.{◌≡◌, ℕ, zero, suc, ◌+◌, ◌-◌, ◌%◌, ◌^◌, ◌<◌, Bool, true, Some, None, List, [], ◌∷◌, ◌++◌, length, map, refl, sym, ap, subst, ◌∙◌, arith, append_assoc, append-nil, length-append}
use Rattle.std.proofs.lemmas.List.{map-append}
use Rattle.std.proofs.Math.Nat.{suc-mod}
use Rattle.ring_audit.proofs.Common.{P, Bit, S, R, X, Cell, Access, Event, Shape, capacity_of, modulus_of, width_of, Made, Read, Write, answered, end_event, scan_phrase, row_read_by, count_behind}
use Rattle.bits_core.specs.declared.events.Access.TheVariants as begins
use Rattle.register_core.specs.Row.{RowWrite, row_bit, first_bits, bits_with, bits_after, writes_in}
use Rattle.register_core.specs.Word.{digit_writes, digit_reads, word_write, word_read}
use Rattle.register_core.specs.WordState.{ReaderState, ReaderStands, read_digit}
use Rattle.register_core.specs.UnaryState.{UnaryState, due_writes, due_unary, UnaryStands}
use Rattle.ring_core.specs.Counts.{number_past, Count, first_count, count_bits, batch_phrase}
use Rattle.ring_core.specs.Puts.{Put, Stored, stored_after, words_phrase, put_phrases}
use Rattle.ring_audit.specs.declared.puts.Stage.TheVariants.{Resting, Choosing, Storing, Counting}
use Rattle.ring_audit.specs.PutReading.{PutReading, RowHolds, IsMost, has_items, InPut, InCount, PutsStand}
use Rattle.ring_core.proofs.Machines.PutCalls.{phrases-push, stored-push, are-push, all_put-push}
use Rattle.ring_audit.proofs.PutReads.{made_at}
use Rattle.ring_audit.proofs.PutSteps.{counts_on, ended_so}
pub use Rattle.ring_core.proofs.Machines.ConsumerMoves.{item_fits as fit-push}

-- ---- words

-- the number and the value of the bit that an access writes
number_of : Bit → ℕ
number_of (S i) = i
number_of (R i) = i
number_of X = 0
number_of (Cell j i) = i

pub as_write : Made → RowWrite
as_write (Read b v) = record { bit = number_of b; value = v }
as_write (Write b v) = record { bit = number_of b; value = v }

reads_as_writes : (cell a n : ℕ) → map as_write (digit_reads cell a n) ≡ digit_writes a n
unfolding as_write number_of
reads_as_writes cell a zero = refl
reads_as_writes cell a (suc n) = grind (arith, map-append, as_write, reads_as_writes cell a n)

-- one more digit
more_digits :
    (cell a b n : ℕ) (v : Bool) → digit_reads cell a n ++ Read (Cell cell n) v ∷ [] ≡ digit_reads cell b (suc n) →
    digit_writes a n ++ record { bit = n; value = v } ∷ [] ≡ digit_writes b (suc n)
unfolding as_write number_of
more_digits cell a b n v e =
    ap (λ l. l ++ record { bit = n; value = v } ∷ []) (sym (reads_as_writes cell a n))
    ∙ sym (map-append as_write (digit_reads cell a n) (Read (Cell cell n) v ∷ [])) ∙ ap (map as_write) e ∙ reads_as_writes cell b (suc n)

-- the digits of a word read that begins like this
pub digits_of :
    (cell item w n value : ℕ) (v : Bool) (later : List Made) → (digit_reads cell value n ++ Read (Cell cell n) v ∷ []) ++ later ≡ word_read w cell item →
    digit_writes item w ≡ digit_writes value n ++ record { bit = n; value = v } ∷ map as_write later
unfolding as_write number_of
digits_of cell item w n value v later e =
    sym (reads_as_writes cell item w) ∙ ap (map as_write) (sym e)
    ∙ map-append as_write (digit_reads cell value n ++ Read (Cell cell n) v ∷ []) later
    ∙ ap (λ l. l ++ map as_write later) (map-append as_write (digit_reads cell value n) (Read (Cell cell n) v ∷ []) ∙ ap (λ l. l ++ record { bit = n; value = v } ∷ []) (reads_as_writes cell value n))
    ∙ append_assoc (digit_writes value n) (record { bit = n; value = v } ∷ []) (map as_write later)

-- one more write of a word or of a count
writes-push :
    (bit_of : ℕ → Bit) (front scan words : List Made) (ws : List RowWrite) (w : RowWrite) →
    (front ++ (scan ++ (words ++ writes_in bit_of ws))) ++ Write (bit_of w.bit) w.value ∷ [] ≡ front ++ (scan ++ (words ++ writes_in bit_of (ws ++ w ∷ [])))
writes-push bit_of front scan words ws w = grind (arith, append_assoc, map-append)

-- the accesses once a digit has been written
written :
    (shape : Shape) (r : PutReading) (es : List Event) (items stored : List ℕ) (st : PutsStand shape r es items stored) (word : ReaderState) (a : Access) (v w : Bool) →
    a ≡ begins.Write (Cell r.word.cell r.word.read) w → r.word.cell ≡ r.cell → r.stage ≡ Storing → word ≡ read_digit r.word w →
    ((made : List Made) → ReaderStands r.word made → ReaderStands word (made ++ Read (Cell r.word.cell r.word.read) w ∷ [])) →
    (s : InPut shape r.next r.cell r.room r.some r.row st.puts items stored) × (reads : List Made) × ReaderStands word reads ×
    (st.made ++ answered a v ∷ [] ≡
    put_phrases shape first_count st.puts ++
    (scan_phrase (row_read_by P) s.seen ++ (words_phrase shape (count_behind shape st.puts).number stored ++ writes_in (Cell r.cell) (digit_writes word.value word.read))))
written shape r es items stored st word a v w is cell stage fed goes =
    let (s, reads, stands, made_is) = made_at shape r es items stored st Storing stage in
    let front : List Made = put_phrases shape first_count st.puts in
    let scan : List Made = scan_phrase (row_read_by P) s.seen in
    let words : List Made = words_phrase shape (count_behind shape st.puts).number stored in
    let n : ℕ = r.word.read in
    let digits : List Made = writes_in (Cell r.cell) (digit_writes r.word.value n) in
    let stands_on : ReaderStands word (reads ++ Read (Cell r.word.cell n) w ∷ []) = goes reads stands in
    let read_is : word.read ≡ suc n = ap (λ (z : ReaderState). z.read) fed in
    let both : digit_reads r.word.cell r.word.value n ++ Read (Cell r.word.cell n) w ∷ [] ≡ digit_reads r.word.cell word.value (suc n) = grind arith in
    let more : digit_writes r.word.value n ++ record { bit = n; value = w } ∷ [] ≡ digit_writes word.value word.read =
    more_digits r.word.cell r.word.value word.value n w both ∙ ap (digit_writes word.value) (sym read_is) in (
      s,
      reads ++ Read (Cell r.word.cell n) w ∷ [],
      stands_on,
      ap (λ l. l ++ answered a v ∷ []) made_is ∙ ap (λ z. (front ++ (scan ++ (words ++ digits))) ++ answered z v ∷ []) (is ∙ ap (λ j. begins.Write (Cell j n) w) cell)
          ∙ writes-push (Cell r.cell) front scan words (digit_writes r.word.value n) (record { bit = n; value = w })
          ∙ ap (λ ws. front ++ (scan ++ (words ++ writes_in (Cell r.cell) ws))) more,
    )

pub ends_digit :
    (shape : Shape) (r : PutReading) (es : List Event) (items stored : List ℕ) (word : ReaderState) (a : Access) (v w : Bool) → PutsStand shape r es items stored →
    r.open_access ≡ Some a → a ≡ begins.Write (Cell r.word.cell r.word.read) w → r.word.cell ≡ r.cell → r.stage ≡ Storing → word ≡ read_digit r.word w →
    ((made : List Made) → ReaderStands r.word made → ReaderStands word (made ++ Read (Cell r.word.cell r.word.read) w ∷ [])) →
    PutsStand shape (record r { word = word; open_access = None }) (es ++ end_event P (answered a v) ∷ []) items stored
ends_digit shape r es items stored word a v w st some is cell stage fed goes =
    let (s, reads, stands, made_so) = written shape r es items stored st word a v w is cell stage fed goes in
    ended_so st a v Storing st.puts some st.are st.count_is refl refl stage (s, reads, stands, made_so)

past-push : (n : ℕ) (l : List ℕ) (x : ℕ) → number_past n (l ++ x ∷ []) ≡ suc (number_past n l)
past-push n [] x = refl
past-push n (y ∷ l) x = past-push (suc n) l x

pub words-push :
    (shape : Shape) (n : ℕ) (l : List ℕ) (x : ℕ) → words_phrase shape n (l ++ x ∷ []) ≡ words_phrase shape n l ++ word_write (width_of shape) (number_past n l % capacity_of shape) x
words-push shape n [] x = append-nil (word_write (width_of shape) (n % capacity_of shape) x)
words-push shape n (y ∷ l) x = grind (arith, append_assoc, words-push shape (suc n) l x)

has-push : (l : List ℕ) (x : ℕ) → has_items (l ++ x ∷ []) ≡ true
has-push [] x = refl
has-push (y ∷ l) x = refl

next_mod : (m k n : ℕ) → k ≡ n % m → (k + 1) % m ≡ suc n % m
next_mod m k n e = let up : k + 1 ≡ suc k = omega arith in ap (λ z. z % m) up ∙ ap (λ z. suc z % m) e ∙ sym (suc-mod n m)

pub ends_word :
    (shape : Shape) (r : PutReading) (es : List Event) (items stored : List ℕ) (word : ReaderState) (a : Access) (v w : Bool) (item cell_on next_on : ℕ) → PutsStand shape r es items stored →
    r.open_access ≡ Some a → a ≡ begins.Write (Cell r.word.cell r.word.read) w → r.word.cell ≡ r.cell → r.stage ≡ Storing → word ≡ read_digit r.word w →
    ((made : List Made) → ReaderStands r.word made → ReaderStands word (made ++ Read (Cell r.word.cell r.word.read) w ∷ [])) →
    word.read ≡ width_of shape → item ≡ word.value → 0 < r.room →
    cell_on ≡ (r.cell + 1) % capacity_of shape → next_on ≡ (r.next + 1) % modulus_of shape →
    PutsStand shape (record r { word = word; cell = cell_on; next = next_on; room = r.room - 1; some = true; stage = Choosing; open_access = None })
    (es ++ end_event P (answered a v) ∷ []) items (stored ++ item ∷ [])
ends_word shape r es items stored word a v w item cell_on next_on st some is cell stage fed goes whole item_is room cell_up next_up =
    let (s, reads, stands, made_so) = written shape r es items stored st word a v w is cell stage fed goes in
    let n : ℕ = (count_behind shape st.puts).number in
    let front : List Made = put_phrases shape first_count st.puts in
    let scan : List Made = scan_phrase (row_read_by P) s.seen in
    let words : List Made = words_phrase shape n stored in
    let long : length stored + r.room ≡ length (stored ++ item ∷ []) + (r.room - 1) = omega (arith, length-append stored (item ∷ []), room) in
    ended_so st a v Choosing st.puts some st.are st.count_is refl refl refl (
      record {
        seen = s.seen;
        may = subst (IsMost shape n s.seen) long s.may;
        fit = fit-push shape stored item s.fit (subst (λ z. z < 2 ^ width_of shape) (sym item_is) (subst (λ k. word.value < 2 ^ k) whole stands.fits));
        next_is = next_up ∙ next_mod (modulus_of shape) r.next (number_past n stored) s.next_is ∙ ap (λ z. z % modulus_of shape) (sym (past-push n stored item));
        cell_is = cell_up ∙ next_mod (capacity_of shape) r.cell (number_past n stored) s.cell_is ∙ ap (λ z. z % capacity_of shape) (sym (past-push n stored item));
        some_is = sym (has-push stored item);
        holds = s.holds;
        items_are = s.items_are;
      },
      made_so ∙ ap (λ k. front ++ (scan ++ (words ++ writes_in (Cell r.cell) (digit_writes word.value k)))) whole
          ∙ ap (λ z. front ++ (scan ++ (words ++ writes_in (Cell r.cell) (digit_writes z (width_of shape))))) (sym item_is)
          ∙ ap (λ j. front ++ (scan ++ (words ++ word_write (width_of shape) j item))) s.cell_is
          ∙ ap (λ l. front ++ (scan ++ l)) (sym (words-push shape n stored item)),
    )

-- ---- counts

bits_after-push : (bits : ℕ → Bool) (ws : List RowWrite) (w : RowWrite) → bits_after bits (ws ++ w ∷ []) ≡ bits_with (bits_after bits ws) w
bits_after-push bits [] w = refl
bits_after-push bits (u ∷ ws) w = bits_after-push (bits_with bits u) ws w

-- the row once the due bit write has been made
row_on :
    (row new : UnaryState) (bits : ℕ → Bool) (w : RowWrite) (a : Access) (v : Bool) → RowHolds row bits → a ≡ begins.Write (S w.bit) w.value → due_unary row ≡ Some a →
    ((values : List ℕ) (made : List Made) (access : Access) → UnaryStands row values made → due_unary row ≡ Some access → UnaryStands new values (made ++ answered access v ∷ [])) →
    RowHolds new (bits_with bits w)
row_on row new bits w a v h is due goes = record {
  values = h.values;
  writes = h.writes ++ w ∷ [];
  stands = subst (UnaryStands new h.values)
      (ap (λ z. writes_in (row_bit P) h.writes ++ answered z v ∷ []) is ∙ sym (map-append (λ (z : RowWrite). Write (row_bit P z.bit) z.value) h.writes (w ∷ [])))
      (goes h.values (writes_in (row_bit P) h.writes) a h.stands due);
  left = bits_after-push first_bits h.writes w ∙ ap (λ f. bits_with f w) h.left;
}

pub first_of : (row : UnaryState) (a : Access) → row.side ≡ P → due_unary row ≡ Some a → (w : RowWrite) × (more : List RowWrite) × (due_writes row ≡ w ∷ more) × (a ≡ begins.Write (S w.bit) w.value)
first_of row a side due = grind arith

begun_by_one : (ws : List RowWrite) (w : RowWrite) → (u : RowWrite) × (more : List RowWrite) × (ws ++ w ∷ [] ≡ u ∷ more)
begun_by_one [] w = (w, [], refl)
begun_by_one (u ∷ ws) w = (u, ws ++ w ∷ [], refl)

-- the count write once its due bit write was made
counted_on :
    (shape : Shape) (r : PutReading) (es : List Event) (items stored : List ℕ) (st : PutsStand shape r es items stored) (row : UnaryState) (a : Access) (v : Bool) →
    r.stage ≡ Counting → r.row.side ≡ P → due_unary r.row ≡ Some a →
    ((x : RowWrite) (rest : List RowWrite) → due_writes r.row ≡ x ∷ rest → due_writes row ≡ rest) →
    ((values : List ℕ) (made : List Made) (access : Access) → UnaryStands r.row values made → due_unary r.row ≡ Some access → UnaryStands row values (made ++ answered access v ∷ [])) →
    (s : InCount shape (record r { row = row; open_access = None }) st.puts items stored) ×
    (st.made ++ answered a v ∷ [] ≡
    put_phrases shape first_count st.puts ++
    (scan_phrase (row_read_by P) s.seen ++ (words_phrase shape (count_behind shape st.puts).number s.batch ++ writes_in (row_bit P) s.writes)))
counted_on shape r es items stored st row a v stage side due left goes =
    let (s, made_is) = made_at shape r es items stored st Counting stage in
    let c : Count = count_behind shape st.puts in
    let (w, more, due_are, is) = first_of r.row a side due in
    let front : List Made = put_phrases shape first_count st.puts in
    let scan : List Made = scan_phrase (row_read_by P) s.seen in
    let words : List Made = words_phrase shape c.number s.batch in
    let bits : List Made = writes_in (row_bit P) s.writes in (
      counts_on row None s (s.writes ++ w ∷ []) (subst (RowHolds row) (sym (bits_after-push c.bits s.writes w)) (row_on r.row row (bits_after c.bits s.writes) w a v s.holds is due goes))
          (s.parts ∙ ap (λ ws. s.writes ++ ws) due_are ∙ sym (append_assoc s.writes (w ∷ []) more) ∙ ap (λ ws. (s.writes ++ w ∷ []) ++ ws) (sym (left w more due_are)))
          (λ e. begun_by_one s.writes w),
      ap (λ l. l ++ answered a v ∷ []) made_is ∙ ap (λ z. (front ++ (scan ++ (words ++ bits))) ++ answered z v ∷ []) is
          ∙ writes-push (row_bit P) front scan words s.writes w,
    )

pub ends_bit :
    (shape : Shape) (r : PutReading) (es : List Event) (items stored : List ℕ) (row : UnaryState) (a : Access) (v : Bool) → PutsStand shape r es items stored → r.open_access ≡ Some a →
    r.stage ≡ Counting → r.row.side ≡ P → due_unary r.row ≡ Some a →
    ((x : RowWrite) (rest : List RowWrite) → due_writes r.row ≡ x ∷ rest → due_writes row ≡ rest) →
    ((values : List ℕ) (made : List Made) (access : Access) → UnaryStands r.row values made → due_unary r.row ≡ Some access → UnaryStands row values (made ++ answered access v ∷ [])) →
    PutsStand shape (record r { row = row; open_access = None }) (es ++ end_event P (answered a v) ∷ []) items stored
ends_bit shape r es items stored row a v st some stage side due left goes =
    ended_so st a v Counting st.puts some st.are st.count_is refl refl stage (counted_on shape r es items stored st row a v stage side due left goes)

no_writes : (row : UnaryState) → due_unary row ≡ None → due_writes row ≡ []
no_writes row none = grind arith

pub ends_count :
    (shape : Shape) (r : PutReading) (es : List Event) (items stored : List ℕ) (row : UnaryState) (a : Access) (v : Bool) → PutsStand shape r es items stored → r.open_access ≡ Some a →
    r.stage ≡ Counting → r.row.side ≡ P → due_unary r.row ≡ Some a →
    ((x : RowWrite) (rest : List RowWrite) → due_writes r.row ≡ x ∷ rest → due_writes row ≡ rest) →
    ((values : List ℕ) (made : List Made) (access : Access) → UnaryStands r.row values made → due_unary r.row ≡ Some access → UnaryStands row values (made ++ answered access v ∷ [])) →
    due_unary row ≡ None → PutsStand shape (record r { row = row; count = r.next; stage = Resting; open_access = None }) (es ++ end_event P (answered a v) ∷ []) items stored
ends_count shape r es items stored row a v st some stage side due left goes over =
    let (s, made_so) = counted_on shape r es items stored st row a v stage side due left goes in
    let c : Count = count_behind shape st.puts in
    let x : Put = Stored s.seen s.batch in
    let front : List Made = put_phrases shape first_count st.puts in
    let scan : List Made = scan_phrase (row_read_by P) s.seen in
    let words : List Made = words_phrase shape c.number s.batch in
    let whole : count_bits shape c s.batch ≡ s.writes = s.parts ∙ ap (λ ws. s.writes ++ ws) (no_writes row over) ∙ append-nil s.writes in
    let after : count_behind shape (st.puts ++ x ∷ []) ≡ stored_after shape c x = stored-push shape first_count st.puts x in
    ended_so st a v Resting (st.puts ++ x ∷ []) some (are-push shape first_count st.puts x st.are s.is_put)
    (s.next_is ∙ ap (λ (z : Count). z.number % modulus_of shape) (sym after)) refl refl refl (
      record {
        holds = subst (λ (z : Count). RowHolds row z.bits) (sym after) (subst (λ ws. RowHolds row (bits_after c.bits ws)) (sym whole) s.holds);
        cell_is = s.cell_is ∙ ap (λ (z : Count). z.number % capacity_of shape) (sym after);
        items_are = s.items_are ∙ sym (all_put-push st.puts s.seen s.batch);
        none_stored = s.none_stored;
      },
      made_so ∙ ap (λ ws. front ++ (scan ++ (words ++ writes_in (row_bit P) ws))) (sym whole)
          ∙ ap (λ l. front ++ l) (sym (append_assoc scan words (batch_phrase shape P c s.batch))) ∙ sym (phrases-push shape first_count st.puts x),
    )
