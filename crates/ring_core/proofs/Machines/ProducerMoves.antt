-- The producer's machine, access by access.
use Rattle.std.proofs.Common.{◌≡◌, ◌⊎◌, inl, ℕ, suc, ◌+◌, ◌%◌, ◌≤◌, Bool, true, false, Option, Some, None, List, [], ◌∷◌, ◌++◌, length, take, refl, sym, ap, subst, ◌∙◌, append_assoc, append-nil, arith}
use Rattle.std.specs.Prelude.{slice_get}
use Rattle.ring_core.proofs.Common.{append_cancel_left, P, X, Cell, Access, Shape, capacity_of, modulus_of, width_of, Made, answered, WriterState, WriterStands, due_write, count_writes, UnaryState}
use Rattle.ring_core.proofs.Common.{UnaryStands, LeavesRoom, LeavesRoomFor, distance, number_past, Count, first_count, batch_phrase, Puts, Stored, Full, number_after, words_phrase, put_phrase}
use Rattle.ring_core.proofs.Common.{put_phrases, IsBatch, IsPut, ArePuts}
use Rattle.bits_core.specs.declared.events.Access.TheVariants as begins
use Rattle.register_core.specs.Row.{writes_in}
use Rattle.register_core.specs.Word.{digit_writes, word_write}
use Rattle.register_core.specs.ScanState.{ScanState, ScanStands, scan_phrase, row_read_by, IsScanOf}
use Rattle.ring_core.specs.declared.replies.BatchReply.{BatchReply}
use Rattle.ring_core.specs.declared.replies.BatchReply.TheVariants as reply
use Rattle.ring_core.specs.declared.producers.Stage.{Stage}
use Rattle.ring_core.specs.declared.producers.Stage.TheVariants.{Idle, Scanning, Storing, Counting, Closing}
use Rattle.ring_core.specs.Puts as puts
use Rattle.ring_core.specs.ProducerState.{ProducerState, Call, Put, Close, call_of, call_at, due_put, producer_due_at}
use Rattle.ring_core.specs.ProducerCalls.{count_of, values_of, ProducerStands, ProducerMadeAt, ProducerHasMoved, ProducerMoves, IsPutOf, put_reply_to, and_put, and_close, HasCallMore, IsOpenForCall, closes_with, IsAfterCall}
use Rattle.ring_core.proofs.Machines.MachineParts.{GoesOn, ScanGoesOn, RowGoesOn, row_more, longer}
use Rattle.ring_core.proofs.Machines.Batches.{taken_so, taken_batch, words-take, far_from, past_so, take_all}
use Rattle.ring_core.proofs.Machines.PutCalls.{stored-push, are-push, reply-push, program-push, values_hold, values-push, values-full}
use Rattle.ring_core.proofs.CountRow.{values_writes-push}

-- ---- what is known at a stage

pub made_at : (st : Stage) (p : ProducerState) (calls : Puts) (made : List Made) → p.stage ≡ st → ProducerStands p calls made → ProducerMadeAt st p calls made
made_at st p calls made e stands = subst (λ s. ProducerMadeAt s p calls made) e stands.made_is

pub open_at : (st : Stage) (p : ProducerState) (calls : Puts) (made : List Made) → p.stage ≡ st → ProducerStands p calls made → IsOpenForCall (call_at st p.items) calls
open_at st p calls made e stands = subst (λ s. IsOpenForCall (call_at s p.items) calls) e stands.not_over

pub due_is : (st : Stage) (p : ProducerState) (access : Access) → p.stage ≡ st → due_put p ≡ Some access → producer_due_at st p ≡ Some access
due_is st p access e due = subst (λ s. producer_due_at s p ≡ Some access) e due

-- ---- a put continues

-- the state with the machines of its call, at a stage
abbrev pub at_stage : ProducerState → Stage → ScanState → WriterState → UnaryState → ℕ → ℕ → ProducerState
at_stage p st scan word row most index = record p { stage = st; scan = scan; word = word; row = row; most = most; index = index }

after_on : (shape : Shape) (a b : Option Call) (c : Call) (calls : Puts) (answer : Option BatchReply) → a ≡ Some c → b ≡ Some c → IsAfterCall shape a b calls calls answer
after_on shape a b c calls answer e f = grind arith

after_over :
    (shape : Shape) (a : Option Call) (c : Call) (calls more : Puts) (answer : Option BatchReply) → a ≡ Some c → HasCallMore shape c calls more →
    (c ≡ Close → answer ≡ None) → IsAfterCall shape a None calls more answer
after_over shape a c calls more answer e has h = grind arith

-- a put under way continues at a stage
pub put_goes_on :
    (p : ProducerState) (st now : Stage) (scan : ScanState) (word : WriterState) (row : UnaryState) (most index : ℕ) (calls : Puts) (made more : List Made) →
    p.stage ≡ st → call_at st p.items ≡ Some (Put p.items) → call_at now p.items ≡ Some (Put p.items) → ProducerStands p calls made →
    ProducerMadeAt now (at_stage p now scan word row most index) calls more → ProducerHasMoved p (at_stage p now scan word row most index) calls more
put_goes_on p st now scan word row most index calls made more e before after stands made_is = grind (arith, after_on)

-- and at the stage that it is at
put_stays :
    (p : ProducerState) (st : Stage) (scan : ScanState) (word : WriterState) (row : UnaryState) (index : ℕ) (calls : Puts) (made more : List Made) →
    p.stage ≡ st → call_at st p.items ≡ Some (Put p.items) → ProducerStands p calls made → ProducerMadeAt st (at_stage p st scan word row p.most index) calls more →
    ProducerHasMoved p (at_stage p p.stage scan word row p.most index) calls more
put_stays p st scan word row index calls made more e puts stands made_is = grind (arith, put_goes_on)

-- ---- a put is over

put_open : (p : ProducerState) (calls : Puts) (items : List ℕ) → IsOpenForCall (call_of p) calls → call_of p ≡ Some (Put items) → calls.closes ≡ false
put_open p calls items o was = subst (λ c. IsOpenForCall c calls) was o

-- the state of a producer that has ended a put
abbrev pub ended_put : ProducerState → puts.Put → ℕ → ℕ → ScanState → WriterState → UnaryState → ProducerState
ended_put p x count cell scan word row = record p { count = count; cell = cell; stage = Idle; scan = scan; word = word; row = row; reply = Some (put_reply_to x) }

pub put_over :
    (p : ProducerState) (st : Stage) (x : puts.Put) (count cell : ℕ) (scan : ScanState) (word : WriterState) (row : UnaryState) (calls : Puts) (made more : List Made) →
    p.stage ≡ st → call_at st p.items ≡ Some (Put p.items) → ProducerStands p calls made → IsPutOf p.shape (count_of p.shape calls).number p.items x →
    IsPut p.shape (count_of p.shape calls).number x →
    count ≡ number_after (count_of p.shape calls).number x % modulus_of p.shape → cell ≡ number_after (count_of p.shape calls).number x % capacity_of p.shape →
    UnaryStands row (values_of p.shape (and_put calls x)) (count_writes P (values_of p.shape (and_put calls x))) →
    more ≡ put_phrases p.shape first_count calls.puts ++ put_phrase p.shape (count_of p.shape calls) x →
    ProducerHasMoved p (ended_put p x count cell scan word row) calls more
put_over p st x count cell scan word row calls made more e before stands of_items is count_is cell_is rests made_is =
    let was : call_of p ≡ Some (Put p.items) = subst (λ s. call_at s p.items ≡ Some (Put p.items)) (sym e) before in
    let n : (count_of p.shape (and_put calls x)).number ≡ number_after (count_of p.shape calls).number x = grind (arith, stored-push) in
    let are : ArePuts p.shape 0 (calls.puts ++ x ∷ []) = are-push p.shape first_count calls.puts x stands.are is in (
      and_put calls x,
      record {
        are = are;
        count_is = count_is ∙ sym (ap (λ k. k % modulus_of p.shape) n);
        cell_is = cell_is ∙ sym (ap (λ k. k % capacity_of p.shape) n);
        closed_is = stands.closed_is ∙ ap (closes_with calls) was;
        not_over = tt;
        reply_is = sym (reply-push None calls.puts x);
        made_is = (rests, made_is ∙ sym (program-push p.shape calls x));
      },
      after_over p.shape (call_of p) (Put p.items) calls (and_put calls x) (Some (put_reply_to x)) was
          (x, of_items, refl, are, put_open p calls p.items stands.not_over was) (λ k. absurd (cc)),
    )

-- ---- the scan

pub scan_on : (p : ProducerState) (s : ScanState) (answer : Bool) → p.stage ≡ Scanning → ScanGoesOn p.scan s answer → ProducerMoves p answer (record p { scan = s })
scan_on p s answer e goes calls made access stands due = grind (arith, made_at, put_stays, due_is, append_assoc, append-nil)

no_writes : (w : WriterState) → w.written ≡ 0 → WriterStands w []
no_writes w e = sym (ap (λ n. writes_in (Cell w.cell) (digit_writes w.item n)) e)

pub scan_room :
    (p : ProducerState) (s : ScanState) (answer : Bool) (seen most : ℕ) → p.stage ≡ Scanning → ScanGoesOn p.scan s answer → p.word.written ≡ 0 → p.index ≡ 0 →
    ((reads : List Made) → ScanStands s reads → IsScanOf (row_read_by P) (modulus_of p.shape) reads seen) → LeavesRoomFor p.shape p.count seen most →
    (most ≡ length p.items) ⊎ (distance (modulus_of p.shape) p.count seen + most ≡ capacity_of p.shape) →
    ProducerMoves p answer (at_stage p Storing s p.word p.row most p.index)
scan_room p s answer seen most e goes fresh start gives room all calls made access stands due =
    let (rests, reads, scans, made_is) = made_at Scanning p calls made e stands in
    let x : List Made = answered access answer ∷ [] in
    let n : ℕ = (count_of p.shape calls).number in
    let (below, reads_are) = gives (reads ++ x) (goes reads access scans (due_is Scanning p access e due)) in
    grind (arith, put_goes_on, no_writes, append_assoc, append-nil, take_all)

pub scan_full :
    (p : ProducerState) (s : ScanState) (answer : Bool) (seen : ℕ) → p.stage ≡ Scanning → ScanGoesOn p.scan s answer →
    ((reads : List Made) → ScanStands s reads → IsScanOf (row_read_by P) (modulus_of p.shape) reads seen) → ¬ LeavesRoom p.shape p.count seen →
    ProducerMoves p answer (ended_put p (Full seen) p.count p.cell s p.word p.row)
scan_full p s answer seen e goes gives none calls made access stands due =
    let (rests, reads, scans, made_is) = made_at Scanning p calls made e stands in
    let x : List Made = answered access answer ∷ [] in
    let front : List Made = put_phrases p.shape first_count calls.puts in
    let (below, reads_are) = gives (reads ++ x) (goes reads access scans (due_is Scanning p access e due)) in
    put_over p Scanning (Full seen) p.count p.cell s p.word p.row calls made (made ++ x) e refl stands tt
    (below, λ room. none (subst (λ k. LeavesRoom p.shape k seen) (sym stands.count_is) room)) stands.count_is stands.cell_is
    (subst (λ l. UnaryStands p.row l (count_writes P l)) (sym (values-full p.shape first_count calls.puts seen)) rests)
    (ap (λ l. l ++ x) made_is ∙ append_assoc front reads x ∙ ap (λ l. front ++ l) reads_are)

-- ---- the words

abbrev pub WordGoesOn : WriterState → WriterState → Bool → Type 0
WordGoesOn = GoesOn WriterStands due_write

pub word_on : (p : ProducerState) (w : WriterState) (answer : Bool) → p.stage ≡ Storing → WordGoesOn p.word w answer → ProducerMoves p answer (record p { word = w })
word_on p w answer e goes calls made access stands due = grind (arith, made_at, put_stays, due_is, longer)

-- the words made, once the one under way is whole
whole_words :
    (p : ProducerState) (calls : Puts) (front scan writes x made : List Made) → (p.cell ≡ (count_of p.shape calls).number % capacity_of p.shape) →
    slice_get p.items p.index ≡ Some p.word.item →
    made ≡ front ++ (scan ++ words_phrase p.shape (count_of p.shape calls).number (take p.index p.items) ++ writes) →
    writes ++ x ≡ word_write (width_of p.shape) ((p.cell + p.index) % capacity_of p.shape) p.word.item →
    made ++ x ≡ front ++ (scan ++ words_phrase p.shape (count_of p.shape calls).number (take (suc p.index) p.items) ++ [])
whole_words p calls front scan writes x made cell_is item_is made_is all =
    let n : ℕ = (count_of p.shape calls).number in
    let words : List Made = words_phrase p.shape n (take p.index p.items) in
    let word : List Made = word_write (width_of p.shape) ((n + p.index) % capacity_of p.shape) p.word.item in
    let all_is : writes ++ x ≡ word =
    all ∙ ap (λ k. word_write (width_of p.shape) k p.word.item) (far_from p.cell n p.index (capacity_of p.shape) cell_is) in
    ap (λ l. l ++ x) made_is ∙ longer front (scan ++ words) writes x ∙ ap (λ l. front ++ ((scan ++ words) ++ l)) all_is ∙
    ap (λ l. front ++ l) (append_assoc scan words word ∙ ap (λ l. scan ++ l) (sym (words-take p.shape n p.items p.index p.word.item item_is)) ∙
    sym (append-nil (scan ++ words_phrase p.shape n (take (suc p.index) p.items))))

pub word_next :
    (p : ProducerState) (w new : WriterState) (answer : Bool) → p.stage ≡ Storing → WordGoesOn p.word w answer →
    ((writes : List Made) → WriterStands w writes → writes ≡ word_write (width_of p.shape) ((p.cell + p.index) % capacity_of p.shape) p.word.item) →
    slice_get p.items p.index ≡ Some p.word.item → WriterStands new [] →
    ProducerMoves p answer (record p { word = new; index = suc p.index })
word_next p w new answer e goes whole item_is fresh calls made access stands due =
    search (arith, made_at Storing p calls made e stands, put_stays, whole_words, due_is Storing p access e due)

pub word_so :
    (p : ProducerState) (w new : WriterState) (answer : Bool) (i : ℕ) → i ≡ suc p.index → p.stage ≡ Storing → WordGoesOn p.word w answer →
    ((writes : List Made) → WriterStands w writes → writes ≡ word_write (width_of p.shape) ((p.cell + p.index) % capacity_of p.shape) p.word.item) →
    slice_get p.items p.index ≡ Some p.word.item → WriterStands new [] →
    ProducerMoves p answer (record p { word = new; index = i })
word_so p w new answer i so e goes whole item_is fresh calls made access stands due = search (arith, word_next p w new answer e goes whole item_is fresh calls made access stands due)

pub word_over :
    (p : ProducerState) (w : WriterState) (row : UnaryState) (answer : Bool) → p.stage ≡ Storing → WordGoesOn p.word w answer →
    ((writes : List Made) → WriterStands w writes → writes ≡ word_write (width_of p.shape) ((p.cell + p.index) % capacity_of p.shape) p.word.item) →
    slice_get p.items p.index ≡ Some p.word.item → suc p.index ≡ p.most → p.most ≤ length p.items →
    ((values : List ℕ) (made : List Made) → UnaryStands p.row values made → UnaryStands row (values ++ (p.count + p.most) % modulus_of p.shape ∷ []) made) →
    ProducerMoves p answer (at_stage p Counting p.scan w row p.most p.index)
word_over p w row answer e goes whole item_is last few begins calls made access stands due =
    let (rests, seen, has, writes, words, made_is) = made_at Storing p calls made e stands in
    let x : List Made = answered access answer ∷ [] in
    let n : ℕ = (count_of p.shape calls).number in
    let front : List Made = put_phrases p.shape first_count calls.puts in
    let scan : List Made = scan_phrase (row_read_by P) seen in
    let values : List ℕ = values_of p.shape calls in
    let value : (p.count + p.most) % modulus_of p.shape ≡ number_past n (take p.most p.items) % modulus_of p.shape = grind (arith, past_so, taken_so) in
    let row_begins : UnaryStands row (values ++ number_past n (take p.most p.items) % modulus_of p.shape ∷ []) (count_writes P values) = grind arith in
    put_goes_on p Storing Counting p.scan w row p.most p.index calls made (made ++ x) e refl refl stands (
      seen,
      has,
      [],
      subst (λ l. UnaryStands row (values ++ number_past n (take p.most p.items) % modulus_of p.shape ∷ []) l) (sym (append-nil (count_writes P values))) row_begins,
      whole_words p calls front scan writes x made stands.cell_is item_is made_is (whole (writes ++ x) (goes writes access words (due_is Storing p access e due))) ∙
          ap (λ k. front ++ ((scan ++ words_phrase p.shape n (take k p.items)) ++ [])) last,
    )

-- ---- the count

pub count_on : (p : ProducerState) (row : UnaryState) (answer : Bool) → p.stage ≡ Counting → RowGoesOn p.row row answer → ProducerMoves p answer (record p { row = row })
count_on p row answer e goes calls made access stands due = grind (arith, made_at, row_more, due_is, put_stays, longer)

pub count_over :
    (p : ProducerState) (row : UnaryState) (answer : Bool) (count cell : ℕ) → p.stage ≡ Counting → RowGoesOn p.row row answer → IsBatch p.shape p.items →
    1 ≤ p.most → p.most ≤ length p.items →
    count ≡ (p.count + p.most) % modulus_of p.shape → cell ≡ (p.cell + p.most) % capacity_of p.shape →
    ((values : List ℕ) (made : List Made) → UnaryStands row values made → made ≡ count_writes P values) →
    ProducerMoves p answer (record p { count = count; cell = cell; stage = Idle; row = row; reply = Some (reply.Stored p.most) })
count_over p row answer count cell e goes batch some few count_is cell_is whole calls made access stands due =
    let (seen, has, writes, rows, made_is) = made_at Counting p calls made e stands in
    let x : List Made = answered access answer ∷ [] in
    let c : Count = count_of p.shape calls in
    let stored : List ℕ = take p.most p.items in
    let size : length stored ≡ p.most = taken_so p.items p.most few in
    let values : List ℕ = values_of p.shape calls ++ number_past c.number stored % modulus_of p.shape ∷ [] in
    let old : List Made = count_writes P (values_of p.shape calls) in
    let front : List Made = put_phrases p.shape first_count calls.puts in
    let scan_words : List Made = scan_phrase (row_read_by P) seen ++ words_phrase p.shape c.number stored in
    let rows' : UnaryStands row values (old ++ (writes ++ x)) = row_more p.row row answer values old writes access goes rows (due_is Counting p access e due) in
    let all : old ++ (writes ++ x) ≡ count_writes P values = whole values (old ++ (writes ++ x)) rows' in
    let all_counted : writes ++ x ≡ batch_phrase p.shape P c stored =
    append_cancel_left old (writes ++ x) (batch_phrase p.shape P c stored) (all ∙ values_writes-push p.shape P (values_of p.shape calls) stored c (values_hold p.shape first_count calls.puts)) in
    let rests : UnaryStands row values (count_writes P values) = subst (λ l. UnaryStands row values l) all rows' in
    let moved : ProducerHasMoved p (ended_put p (Stored seen stored) count cell p.scan p.word row) calls (made ++ x) =
    put_over p Counting (Stored seen stored) count cell p.scan p.word row calls made (made ++ x) e refl stands has.kept
    (has.below, subst (λ m. LeavesRoomFor p.shape (c.number % modulus_of p.shape) seen m) (sym size) has.room, taken_batch p.shape p.items p.most some batch)
    (count_is ∙ past_so p.count c.number (modulus_of p.shape) stored p.most stands.count_is size)
    (cell_is ∙ past_so p.cell c.number (capacity_of p.shape) stored p.most stands.cell_is size)
    (subst (λ l. UnaryStands row l (count_writes P l)) (sym (values-push p.shape first_count calls.puts seen stored)) rests)
    (ap (λ l. l ++ x) made_is ∙ longer front scan_words writes x ∙ ap (λ l. front ++ (scan_words ++ l)) all_counted) in
    subst (λ m. ProducerHasMoved p (record p { count = count; cell = cell; stage = Idle; row = row; reply = Some (reply.Stored m) }) calls (made ++ x)) size moved

-- ---- the close

-- the close bit's write, once made, is that of a close
pub close_over :
    (p : ProducerState) (answer : Bool) → p.stage ≡ Closing → p.reply ≡ None → (calls : Puts) (made : List Made) (access : Access) → ProducerStands p calls made →
    due_put p ≡ Some access → ProducerHasMoved p (record p { stage = Idle }) calls (made ++ answered access answer ∷ [])
close_over p answer e none calls made access stands due =
    let (rests, made_is) = made_at Closing p calls made e stands in
    let o : calls.closes ≡ false = open_at Closing p calls made e stands in
    let was : call_of p ≡ Some Close = ap (λ st. call_at st p.items) e in
    let access_is : begins.Write X true ≡ access = (let f : Some (begins.Write X true) ≡ Some access = due_is Closing p access e due in cc) in (
      and_close calls,
      record {
        are = stands.are;
        count_is = stands.count_is;
        cell_is = stands.cell_is;
        closed_is = stands.closed_is ∙ ap (closes_with calls) was;
        not_over = tt;
        reply_is = inl none;
        made_is = (rests, ap (λ l. l ++ answered access answer ∷ []) made_is ∙ ap (λ a. put_phrases p.shape first_count calls.puts ++ answered a answer ∷ []) (sym access_is));
      },
      after_over p.shape (call_of p) Close calls (and_close calls) p.reply was (refl, stands.are, o) (λ f. none),
    )

-- ---- which kind of put was last

pub batched_stands : (p : ProducerState) (b : Bool) (calls : Puts) (made : List Made) → ProducerStands p calls made → ProducerStands (record p { batched = b }) calls made
batched_stands p b calls made stands = grind arith
