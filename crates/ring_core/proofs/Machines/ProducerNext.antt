-- The access that the producer's machine has due is the next one of its call.
use Rattle.std.proofs.Common.{◌≡◌, ◌⊎◌, inl, inr, ℕ, zero, suc, ◌+◌, ◌%◌, ◌<◌, ◌≤◌, true, false, IfSome, Option, Some, None, List, [], ◌∷◌, ◌++◌, length, take, refl, sym, ap, subst, ◌∙◌, arith, append_assoc, length-append}
use Rattle.ring_core.proofs.Common.{mod-lt, nat_tests, P, X, Cell, Access, Shape, capacity_of, modulus_of, width_of, Made, Write, answered, IsPrefix, IsNext, WriterState, WriterStands, due_write}
use Rattle.ring_core.proofs.Common.{count_writes, UnaryStands, due_unary, LeavesRoom, LeavesRoomFor, number_past, Count, first_count, batch_phrase, IsCount, IsScanning, Puts, Stored, Full}
use Rattle.ring_core.proofs.Common.{words_phrase, put_phrase, put_phrases, put_program, IsBatch, IsPut, ArePuts}
use Rattle.bits_core.specs.declared.events.Access.TheVariants as begins
use Rattle.bits_core.specs.Open.{IsOpenRight}
use Rattle.register_core.specs.Word.{digit, word_write}
use Rattle.register_core.specs.ScanState.{scan_phrase, row_read_by, due_scan}
use Rattle.ring_core.specs.declared.producers.Stage.TheVariants.{Scanning, Storing, Counting}
use Rattle.ring_core.specs.Puts as puts
use Rattle.ring_core.specs.ProducerState.{ProducerState, Call, Put, Close, call_at, call_of, due_put, IsWritingWord, IsKeeping}
use Rattle.ring_core.specs.ProducerCalls.{count_of, values_of, room_in, ProducerStands, IsPutOf, and_put, BeginsCall, PutGoesOn, longest_of, longest}
use Rattle.ring_core.proofs.CountRow.{values_writes-push}
use Rattle.ring_core.proofs.Machines.Lengths.{item_puts-are_short, full_puts-are_short, puts-are_short}
use Rattle.ring_core.proofs.Machines.Batches.{taken_few, taken_so, taken_batch, words-split, far_from}
use Rattle.ring_core.proofs.Cells.CellPlaces.{multiple_up}
use Rattle.ring_core.proofs.Machines.MachineParts.{longer}
use Rattle.ring_core.proofs.Readings.ByCalls.{puts_open}
use Rattle.ring_core.proofs.Machines.NextParts.{length-part, scan_due, scan_goes_on, answered_write, next_write}
use Rattle.ring_core.proofs.Machines.PutCalls.{are-push, are-last, calls_are_count, values_hold, program-push}
use Rattle.ring_core.proofs.Machines.ProducerMoves.{made_at, open_at}

-- ---- prefixes of one more call

-- accesses that start a put
begins_put :
    (shape : Shape) (items : List ℕ) (calls : Puts) (made part : List Made) (x : puts.Put) → ArePuts shape 0 calls.puts → calls.closes ≡ false →
    IsPutOf shape (count_of shape calls).number items x → IsPut shape (count_of shape calls).number x →
    made ≡ put_phrases shape first_count calls.puts ++ part → IsPrefix part (put_phrase shape (count_of shape calls) x) → BeginsCall shape (Put items) calls made
begins_put shape items calls made part x are o of is made_is (rest, e) =
    let front : List Made = put_phrases shape first_count calls.puts in (
      and_put calls x,
      (x, of, refl, are-push shape first_count calls.puts x are is, o),
      (rest, ap (λ l. l ++ rest) made_is ∙ append_assoc front part rest ∙ ap (λ l. front ++ l) e ∙ sym (program-push shape calls x)),
    )

pub room_or_none : (shape : Shape) (n c : ℕ) → LeavesRoom shape n c ⊎ (LeavesRoom shape n c → ⊥)
room_or_none shape n c = grind arith

-- a scan that leaves room lets the put store some of the items
room_for : (shape : Shape) (n c : ℕ) (items : List ℕ) → LeavesRoom shape n c → (1 ≤ room_in shape n c) × LeavesRoomFor shape n c (length (take (room_in shape n c) items))
room_for shape n c items room = (omega (arith, room), omega (arith, room, (taken_few items (room_in shape n c)).0))

-- accesses that start the scan of a put
begins_scan :
    (shape : Shape) (items : List ℕ) (calls : Puts) (made part : List Made) (c : ℕ) → ArePuts shape 0 calls.puts → calls.closes ≡ false → IsBatch shape items →
    c < modulus_of shape → made ≡ put_phrases shape first_count calls.puts ++ part → IsPrefix part (scan_phrase (row_read_by P) c) → BeginsCall shape (Put items) calls made
begins_scan shape items calls made part c are o batch below made_is (rest, e) =
    let count : Count = count_of shape calls in
    let n : ℕ = count.number % modulus_of shape in
    let scan : List Made = scan_phrase (row_read_by P) c in
    elim (room_or_none shape n c) [
      | inl room ↦ (
          let stored : List ℕ = take (room_in shape n c) items in
          let words : List Made = words_phrase shape count.number stored in
          let counts : List Made = batch_phrase shape P count stored in
          let (some, fits) = room_for shape n c items room in
          begins_put shape items calls made part (Stored c stored) are o refl (below, fits, taken_batch shape items (room_in shape n c) some batch) made_is
          (rest ++ (words ++ counts), sym (append_assoc part rest (words ++ counts)) ∙ ap (λ l. l ++ (words ++ counts)) e ∙ sym (append_assoc scan words counts)))
      | inr none ↦ begins_put shape items calls made part (Full c) are o tt (below, none) made_is (rest, e)
    ]

-- ---- how many accesses a call has

put_short :
    (shape : Shape) (c : Count) (items : List ℕ) (x : puts.Put) → IsCount shape c → IsPutOf shape c.number items x → IsPut shape c.number x →
    length (put_phrase shape c x) ≤ longest_of shape items
put_short shape c [] (Stored seen stored) is of (below, room, batch) = grind (arith, length, taken_few)
put_short shape c (item ∷ []) (Stored seen stored) is of p = single (room_in shape (c.number % modulus_of shape) seen) of
  where
    single : (r : ℕ) → stored ≡ take r (item ∷ []) → length (put_phrase shape c (Stored seen stored)) ≤ longest_of shape (item ∷ [])
    single zero e = absurd (omega (arith, p.2.some, ap length e))
    single (suc r) e = one r (e ∙ none r)
      where
        none : (r : ℕ) → take (suc r) (item ∷ []) ≡ item ∷ []
        none zero = refl
        none (suc r) = refl

        one : (r : ℕ) → stored ≡ item ∷ [] → length (put_phrase shape c (Stored seen stored)) ≤ longest_of shape (item ∷ [])
        one r f =
            subst (λ (l : List ℕ). length (put_phrase shape c (Stored seen l)) ≤ longest_of shape (item ∷ [])) (sym f)
            (item_puts-are_short shape c seen item is (subst (λ (l : List ℕ). IsPut shape c.number (Stored seen l)) f p))
put_short shape c (item ∷ next ∷ items) (Stored seen stored) is of p = grind (arith, length, taken_few, puts-are_short, multiple_up)
put_short shape c [] (Full seen) is of p = full_puts-are_short shape c seen p
put_short shape c (item ∷ []) (Full seen) is of p = full_puts-are_short shape c seen p
put_short shape c (item ∷ next ∷ items) (Full seen) is of p = grind (arith, full_puts-are_short, multiple_up, length)

pub begins_short :
    (shape : Shape) (c : Call) (calls : Puts) (made : List Made) (y : Made) → BeginsCall shape c calls (made ++ y ∷ []) →
    length made < length (put_program shape calls) + longest shape c
begins_short shape (Put items) calls made y (more, (x, of, more_is, are, o), (rest, e)) =
    let c : Count = count_of shape calls in
    let front : List Made = put_phrases shape first_count calls.puts in
    let is : IsPut shape c.number x = are-last shape first_count calls.puts x (subst (λ (m : Puts). ArePuts shape 0 m.puts) more_is are) in
    let whole : (made ++ y ∷ []) ++ rest ≡ front ++ put_phrase shape c x = e ∙ ap (put_program shape) more_is ∙ program-push shape calls x in
    let program : length (put_program shape calls) ≡ length front = ap length (puts_open shape calls o) in
    omega (
      arith,
      length-part made rest (front ++ put_phrase shape c x) y whole,
      length-append front (put_phrase shape c x),
      put_short shape c items x (calls_are_count shape calls) of is,
      program,
    )
begins_short shape Close calls made y (more, (more_is, are, o), (rest, e)) =
    let front : List Made = put_phrases shape first_count calls.puts in
    let whole : (made ++ y ∷ []) ++ rest ≡ front ++ Write X true ∷ [] = e ∙ ap (put_program shape) more_is in
    let program : length (put_program shape calls) ≡ length front = ap length (puts_open shape calls o) in
    omega (arith, length-part made rest (front ++ Write X true ∷ []) y whole, length-append front (Write X true ∷ []), program)

-- ---- the stages

-- the call under way, and the access that is due, with which it continues
pub record Going (shape : Shape) (call : Option Call) (calls : Puts) (made : List Made) (due : Option Access) : Type 0 where
  pub under_way : Call
  pub access : Access
  pub call_is : call ≡ Some under_way
  pub due_is : due ≡ Some access
  pub goes_on : PutGoesOn shape calls under_way made access

going_rests :
    (shape : Shape) (call : Option Call) (calls : Puts) (made : List Made) (due : Option Access) → Going shape call calls made due → due ≡ None →
    (call ≡ None) × (made ≡ put_program shape calls)
going_rests shape call calls made due g none = absurd (let clash : Some g.access ≡ None = sym g.due_is ∙ none in cc)

pub going_on :
    (shape : Shape) (call : Option Call) (calls : Puts) (made : List Made) (due : Option Access) → Going shape call calls made due → (access : Access) →
    due ≡ Some access → (c : Call) × (call ≡ Some c) × PutGoesOn shape calls c made access
going_on shape call calls made due g access e = (g.under_way, g.call_is, subst (λ a. PutGoesOn shape calls g.under_way made a) (some_same g.access access (sym g.due_is ∙ e)) g.goes_on)
  where
    some_same : (a b : Access) → Some a ≡ Some b → a ≡ b
    some_same a b e = cc

pub going_bounded :
    (shape : Shape) (call : Option Call) (calls : Puts) (made : List Made) (due : Option Access) → Going shape call calls made due → (c : Call) →
    call ≡ Some c → length made < length (put_program shape calls) + longest shape c
going_bounded shape call calls made due g c e =
    begins_short shape c calls made (answered g.access true)
    (subst (λ d. BeginsCall shape d calls (made ++ answered g.access true ∷ [])) (some_same g.under_way c (sym g.call_is ∙ e)) (g.goes_on true (λ l. refl)))
  where
    some_same : (a b : Call) → Some a ≡ Some b → a ≡ b
    some_same a b e = cc

-- the contract of `next` for a producer whose call continues with the due access
pub told_next :
    (p : ProducerState) (next : Option Access) → next ≡ due_put p → IfSome next (IsOpenRight p.shape P) →
    ((calls : Puts) (made : List Made) → ProducerStands p calls made → Going p.shape (call_of p) calls made next) →
    record {
      due : next ≡ due_put p;
      right : IfSome next (IsOpenRight p.shape P);
      rest : (calls : Puts) (made : List Made) → ProducerStands p calls made → next ≡ None → (call_of p ≡ None) × (made ≡ put_program p.shape calls);
      goes_on : (calls : Puts) (made : List Made) (access : Access) → ProducerStands p calls made → next ≡ Some access →
          (c : Call) × (call_of p ≡ Some c) × PutGoesOn p.shape calls c made access;
      bounded : (calls : Puts) (made : List Made) (c : Call) → ProducerStands p calls made → call_of p ≡ Some c →
          length made < length (put_program p.shape calls) + longest p.shape c;
    }
told_next p next is_due right going = record {
  due = is_due;
  right = right;
  rest = λ calls made stands none. going_rests p.shape (call_of p) calls made next (going calls made stands) none;
  goes_on = λ calls made access stands some. going_on p.shape (call_of p) calls made next (going calls made stands) access some;
  bounded = λ calls made c stands call. going_bounded p.shape (call_of p) calls made next (going calls made stands) c call;
}

is_next : (shape : Shape) (call : Option Call) (c : Call) (calls : Puts) (made : List Made) (due : Option Access) (access : Access) → call ≡ Some c → due ≡ Some access →
    PutGoesOn shape calls c made access → Going shape call calls made due
is_next shape call c calls made due access call_is due_is next = record { under_way = c; access = access; call_is = call_is; due_is = due_is; goes_on = next }

pub next_scan :
    (p : ProducerState) (calls : Puts) (made : List Made) (due : Option Access) → p.stage ≡ Scanning → ProducerStands p calls made → IsBatch p.shape p.items →
    IsScanning P (modulus_of p.shape) p.scan → due ≡ due_scan p.scan → Going p.shape (call_of p) calls made due
next_scan p calls made due e stands batch scans due_is =
    let (rests, reads, scan_stands, made_is) = made_at Scanning p calls made e stands in
    let o : calls.closes ≡ false = open_at Scanning p calls made e stands in
    let access : Access = begins.Read (row_read_by P p.scan.zeros) in
    let due_some : due ≡ Some access = due_is ∙ scan_due P (modulus_of p.shape) p.scan scans in
    is_next p.shape (call_of p) (Put p.items) calls made due access (ap (λ st. call_at st p.items) e) due_some
    (λ answer one.
    let x : List Made = answered access answer ∷ [] in
    let (c, below, begins_c) = scan_goes_on p.shape P p.scan reads answer scans scan_stands one in
    begins_scan p.shape p.items calls (made ++ x) (reads ++ x) c stands.are o batch below
    (ap (λ l. l ++ x) made_is ∙ append_assoc (put_phrases p.shape first_count calls.puts) reads x) begins_c)

write_due : (w : WriterState) → w.written < w.width → due_write w ≡ Some (begins.Write (Cell w.cell w.written) (digit w.written w.item))
write_due w l = grind (arith, nat_tests)

pub word_right :
    (p : ProducerState) (due : Option Access) → IsWritingWord p → p.word.written < p.word.width → due ≡ due_write p.word → IfSome due (IsOpenRight p.shape P)
word_right p due writing more due_is = grind (arith, write_due, mod-lt, nat_tests)

pub next_word :
    (p : ProducerState) (calls : Puts) (made : List Made) (due : Option Access) → p.stage ≡ Storing → ProducerStands p calls made → IsBatch p.shape p.items → IsWritingWord p →
    IsKeeping p → p.word.written < p.word.width → due ≡ due_write p.word →
    ((writes : List Made) → WriterStands p.word writes → IsNext (word_write p.word.width p.word.cell p.word.item) writes due) →
    Going p.shape (call_of p) calls made due
next_word p calls made due e stands batch writing keeping more due_is next =
    let (rests, seen, has, writes, words, made_is) = made_at Storing p calls made e stands in
    let o : calls.closes ≡ false = open_at Storing p calls made e stands in
    let c : Count = count_of p.shape calls in
    let n : ℕ = c.number in
    let kept : List ℕ = take p.most p.items in
    let front : List Made = put_phrases p.shape first_count calls.puts in
    let scan : List Made = scan_phrase (row_read_by P) seen in
    let before : List Made = words_phrase p.shape n (take p.index p.items) in
    let count : List Made = batch_phrase p.shape P c kept in
    let word : List Made = word_write (width_of p.shape) ((n + p.index) % capacity_of p.shape) p.word.item in
    let access : Access = begins.Write (Cell p.word.cell p.word.written) (digit p.word.written p.word.item) in
    let due_some : due ≡ Some access = due_is ∙ write_due p.word more in
    let (x, rest, x_is, whole) = subst (λ d. IsNext (word_write p.word.width p.word.cell p.word.item) writes d) due_some (next writes words) in
    let word_is : word_write p.word.width p.word.cell p.word.item ≡ word = grind (arith, far_from) in
    let (later, all) = words-split p.shape n p.items p.index p.most p.word.item writing.item_is keeping.0 in
    is_next p.shape (call_of p) (Put p.items) calls made due access (ap (λ st. call_at st p.items) e) due_some
    (λ answer one.
    let y : List Made = answered access answer ∷ [] in
    let y_is : answered access answer ≡ x = answered_write x access (Cell p.word.cell p.word.written) (digit p.word.written p.word.item) answer x_is refl in
    let word_whole : (writes ++ y) ++ rest ≡ word = append_assoc writes y rest ∙ ap (λ z. writes ++ z ∷ rest) y_is ∙ sym whole ∙ word_is in
    let part : ((scan ++ before) ++ (writes ++ y)) ++ (rest ++ (later ++ count)) ≡ (scan ++ words_phrase p.shape n kept) ++ count =
    sym (append_assoc ((scan ++ before) ++ (writes ++ y)) rest (later ++ count)) ∙
    ap (λ l. l ++ (later ++ count)) (append_assoc (scan ++ before) (writes ++ y) rest ∙ ap (λ l. (scan ++ before) ++ l) word_whole) ∙
    sym (append_assoc ((scan ++ before) ++ word) later count) ∙
    ap (λ l. l ++ count) (append_assoc (scan ++ before) word later ∙ append_assoc scan before (word ++ later) ∙ ap (λ l. scan ++ l) (sym all)) in
    begins_put p.shape p.items calls (made ++ y) ((scan ++ before) ++ (writes ++ y)) (Stored seen kept) stands.are o has.kept (
      has.below,
      subst (λ m. LeavesRoomFor p.shape (n % modulus_of p.shape) seen m) (sym (taken_so p.items p.most keeping.1)) has.room,
      taken_batch p.shape p.items p.most (omega (arith, keeping.0)) batch,
    )
    (ap (λ l. l ++ y) made_is ∙ longer front (scan ++ before) writes y) (rest ++ (later ++ count), part))

pub next_count_write :
    (p : ProducerState) (calls : Puts) (made : List Made) (due : Option Access) → p.stage ≡ Counting → ProducerStands p calls made → IsBatch p.shape p.items →
    IsKeeping p → p.row.side ≡ P → (due_unary p.row ≡ None → ⊥) → due ≡ due_unary p.row →
    ((values : List ℕ) (made : List Made) → UnaryStands p.row values made → IsNext (count_writes p.row.side values) made due) →
    Going p.shape (call_of p) calls made due
next_count_write p calls made due e stands batch keeping side some due_is next =
    let (seen, has, writes, rows, made_is) = made_at Counting p calls made e stands in
    let o : calls.closes ≡ false = open_at Counting p calls made e stands in
    let c : Count = count_of p.shape calls in
    let n : ℕ = c.number in
    let kept : List ℕ = take p.most p.items in
    let values : List ℕ = values_of p.shape calls ++ number_past n kept % modulus_of p.shape ∷ [] in
    let front : List Made = put_phrases p.shape first_count calls.puts in
    let old : List Made = count_writes P (values_of p.shape calls) in
    let count : List Made = batch_phrase p.shape P c kept in
    let scan_words : List Made = scan_phrase (row_read_by P) seen ++ words_phrase p.shape n kept in
    let all : count_writes P values ≡ old ++ count = values_writes-push p.shape P (values_of p.shape calls) kept c (values_hold p.shape first_count calls.puts) in
    let r = next_write P p.row values old writes count due side some due_is (next values (old ++ writes) rows) all in
    is_next p.shape (call_of p) (Put p.items) calls made due r.access (ap (λ st. call_at st p.items) e) r.due_is
    (λ answer one.
    let y : List Made = answered r.access answer ∷ [] in
    begins_put p.shape p.items calls (made ++ y) (scan_words ++ (writes ++ y)) (Stored seen kept) stands.are o has.kept (
      has.below,
      subst (λ m. LeavesRoomFor p.shape (n % modulus_of p.shape) seen m) (sym (taken_so p.items p.most keeping.1)) has.room,
      taken_batch p.shape p.items p.most (omega (arith, keeping.0)) batch,
    )
    (ap (λ l. l ++ y) made_is ∙ longer front scan_words writes y) (r.rest, append_assoc scan_words (writes ++ y) r.rest ∙ ap (λ l. scan_words ++ l) (r.goes_on answer)))
