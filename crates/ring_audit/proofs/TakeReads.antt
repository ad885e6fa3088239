-- The reader of takes: if it stops, the events are of no takes; if it continues, they are.
use Rattle.std.proofs.Common.{◌≡◌, ◌⊎◌, inl, inr, ℕ, ◌≤◌, Bool, true, false, Option, Some, None, List, [], ◌∷◌, ◌++◌, length, refl, sym, ap, subst, ◌∙◌, arith, append_assoc, append-nil, length-append}
use Rattle.std.proofs.lemmas.Bool.Decides.{nat_tests}
use Rattle.ring_audit.proofs.Common.{Bit, S, R, X, Cell, C, Access, Event, Shape, Made, Read, access_of, answered, end_event, events_of, IsPrefix, opening_event, RowWrite, row_bit, ReaderState}
use Rattle.ring_audit.proofs.Common.{due_read, ScanState, zero_reads, scan_phrase, row_read_by, due_scan, due_writes, first_access, first_count, TakeReply, AreOfTakes, TakeReading, TakesStand}
use Rattle.ring_audit.proofs.Common.{events_of-append}
use Rattle.bits_core.specs.declared.events.Access.TheVariants as begins
use Rattle.register_core.specs.Word.{digit_reads}
use Rattle.bits_core.specs.Shape.{take_batch_of}
use Rattle.ring_core.specs.Calls.{LastBitIsDue}
use Rattle.ring_core.specs.Takes.{Takes, words_read, take_phrases, take_program, AreTakes}
use Rattle.ring_core.specs.Items.{Tells}
use Rattle.ring_core.specs.GoingOn.{WritesTakeCount, EndInCellRead, TakesPart}
use Rattle.ring_core.specs.declared.consumers.Stage.{Stage}
use Rattle.ring_core.specs.declared.consumers.Stage.TheVariants.{Idle, Scanning, Checking, Rescanning, Loading, Counting}
use Rattle.ring_core.specs.ConsumerState.{ConsumerState, IsBetweenWords, consumer_due_at, due_take, is_taking}
use Rattle.ring_core.specs.ConsumerCalls.{Finding, Once, Twice, finding_phrase, count_taken, TakeGoesOn, ConsumerMadeAt, ConsumerStands}
use Rattle.ring_audit.proofs.Readers as readers
use Rattle.ring_audit.proofs.Readers.{same_open}
use Rattle.ring_audit.proofs.Beginnings.{same_access, GoesOnWith}
use Rattle.ring_core.proofs.LawLemmas.{calls_are_first_takes, last_reads_are_one_takes, takes_go_on}
use Rattle.ring_core.proofs.Machines.TakeCalls.{closed_tells, due_at-takes}

-- calls whose events continue like this
rest_on :
    (shape : Shape) (r : TakeReading) (es : List Event) (items : List ℕ) (st : TakesStand shape r es items) (e : Event) → r.open_access ≡ None →
    (of_takes : AreOfTakes shape (es ++ e ∷ [])) → GoesOnWith C st.made (take_program shape of_takes.0) e
rest_on shape r es items st e none (calls, are, begins) = readers.rest_on C es st.made (take_program shape calls) r.open_access e st.events_are none begins

-- ---- when it stops

-- a 0 of the last bit
pub zero_at_last :
    (shape : Shape) (r : TakeReading) (es : List Event) (items : List ℕ) (a : Access) → TakesStand shape r es items → r.open_access ≡ Some a →
    due_take r.consumer ≡ Some a → LastBitIsDue shape C (due_take r.consumer) → AreOfTakes shape (es ++ end_event C (answered a false) ∷ []) → ⊥
zero_at_last shape r es items a st some due (i, reads, last) of_takes =
    let (rest, whole) = readers.answered_next C es st.made (take_program shape of_takes.0) r.open_access a false st.events_are some of_takes.2 in
    grind (arith, last_reads_are_one_takes)

-- a take is under way while an access is due

pub due_takes : (p : ConsumerState) (a : Access) → due_take p ≡ Some a → is_taking p ≡ true
due_takes p a e = due_at-takes p.stage p a e

-- ---- an access that is not due

-- the last of two lists
pub last_same : (xs ys : List Made) (x y : Made) → xs ++ x ∷ [] ≡ ys ++ y ∷ [] → x ≡ y
last_same [] [] x y e = cc
last_same [] (z ∷ ys) x y e = absurd (omega (arith, ap length e, length-append ys (y ∷ [])))
last_same (w ∷ xs) [] x y e = absurd (omega (arith, ap length e, length-append xs (x ∷ [])))
last_same (w ∷ xs) (z ∷ ys) x y e = last_same xs ys x y (cc)

-- a scan and a count write are of no cell
scan_reads_row : (s : ScanState) (j i : ℕ) → due_scan s ≡ Some (begins.Read (Cell j i)) → ⊥
scan_reads_row s j i e = grind arith

row_reads_nothing : (row : ℕ → Bit) (ws : List RowWrite) (b : Bit) → first_access row ws ≡ Some (begins.Read b) → ⊥
row_reads_nothing row ws b e = grind arith

pub count_writes_bits : (p : ConsumerState) (a : Access) → p.stage ≡ Counting → due_take p ≡ Some a → (j i : ℕ) → a ≡ begins.Read (Cell j i) → ⊥
count_writes_bits p a stage due j i reads = grind (arith, row_reads_nothing)

-- a take that has found items has scanned the row last
found_last : (look : Finding) → (before : List Made) × (i : ℕ) × (finding_phrase look ≡ before ++ Read (S i) true ∷ [])
found_last (Once seen) = (zero_reads (row_read_by C) seen, seen, refl)
found_last (Twice seen again) =
    grind (arith, append_assoc (scan_phrase (row_read_by C) seen) (Read X true ∷ zero_reads (row_read_by C) again) (Read (S again) true ∷ []))

no_words : (front made : List Made) (look : Finding) → made ≡ front ++ ((finding_phrase look ++ []) ++ []) → EndInCellRead made → ⊥
no_words front made look made_is (before, j, i, v, e) =
    let (scans, c, looks) = found_last look in
    let whole : made ≡ (front ++ scans) ++ Read (S c) true ∷ [] = grind (arith, append-nil, append_assoc) in
    grind (arith, last_same)

first_digit : (w : ReaderState) (j : ℕ) → due_read w ≡ Some (begins.Read (Cell j 0)) → w.read ≡ 0
first_digit w j due = grind (arith, nat_tests)

-- after a digit of a cell, the first digit of one is due between words
between_at :
    (st : Stage) (p : ConsumerState) (calls : Takes) (made : List Made) (j : ℕ) → p.stage ≡ st → ConsumerMadeAt st p calls made →
    consumer_due_at st p ≡ Some (begins.Read (Cell j 0)) → EndInCellRead made → IsBetweenWords p
between_at Idle p calls made j stage is due ends = absurd (cc)
between_at Scanning p calls made j stage is due ends = absurd (scan_reads_row p.scan j 0 due)
between_at Checking p calls made j stage is due ends = absurd (cc)
between_at Rescanning p calls made j stage is due ends = absurd (scan_reads_row p.scan j 0 due)
between_at Counting p calls made j stage is due ends = absurd (row_reads_nothing (row_bit p.row.side) (due_writes p.row) (Cell j 0) due)
between_at Loading p calls made j stage (rests, look, finds, fit, reads, words, made_is) due ends =
    let unread : p.word.read ≡ 0 = first_digit p.word j due in
    let none : reads ≡ [] = words.made_is ∙ ap (digit_reads p.word.cell p.word.value) unread in
    let front : List Made = take_phrases p.shape first_count calls.takes in
    let n : ℕ = (count_taken p.shape calls).number in
    record {
      stage_is = stage;
      unread = unread;
      some = by_items p.items (made_is ∙ ap (λ l. front ++ ((finding_phrase look ++ words_read p.shape n p.items) ++ l)) none);
    }
  where
    by_items : (items : List ℕ) → made ≡ take_phrases p.shape first_count calls.takes ++ ((finding_phrase look ++ words_read p.shape (count_taken p.shape calls).number items) ++ []) → 1 ≤ length items
    by_items [] is = absurd (no_words (take_phrases p.shape first_count calls.takes) made look is ends)
    by_items (item ∷ items) is = omega arith

-- what was made begins with the takes
pub front_at :
    (st : Stage) (p : ConsumerState) (calls : Takes) (made : List Made) → ConsumerMadeAt st p calls made →
    (part : List Made) × (made ≡ take_phrases p.shape first_count calls.takes ++ part)
front_at st p calls made h1 = grind arith

-- the access that begins is the one that is due, or after a complete word one reads the next and the other counts
next_or :
    (shape : Shape) (r : TakeReading) (es : List Event) (items : List ℕ) (p : ConsumerState) (due a : Access) (st : TakesStand shape r es items) →
    r.open_access ≡ None → p.shape ≡ shape → ConsumerStands p st.calls st.made → TakeGoesOn p.shape p.wanted st.calls st.made due →
    AreOfTakes shape (es ++ opening_event C a ∷ []) → (a ≡ due) ⊎ (EndInCellRead st.made × TakesPart shape p.wanted due a)
next_or shape r es items p due a st none same stands goes of_takes =
    let on = rest_on shape r es items st (opening_event C a) none of_takes in
    let is_a : access_of on.next ≡ a = same_access C a on.next on.begins in
    let (part, made_is) = front_at p.stage p st.calls st.made stands.made_is in
    let begins : IsPrefix (take_phrases shape first_count st.calls.takes) st.made = (part, sym (made_is ∙ ap (λ s. take_phrases s first_count st.calls.takes ++ part) same)) in
    subst (λ z. (z ≡ due) ⊎ (EndInCellRead st.made × TakesPart shape p.wanted due z)) is_a
    (takes_go_on shape p.wanted st.calls of_takes.0 st.made due on.next on.rest begins (subst (λ s. TakeGoesOn s p.wanted st.calls st.made due) same goes) of_takes.1 on.whole_is)

-- an access that is not due: it counts, after a complete word
pub not_due :
    (shape : Shape) (r : TakeReading) (es : List Event) (items : List ℕ) (p : ConsumerState) (due : Option Access) (a : Access) →
    (st : TakesStand shape r es items) → r.open_access ≡ None → p.shape ≡ shape → ConsumerStands p st.calls st.made → due ≡ due_take p →
    ((access : Access) → due ≡ Some access → (is_taking p ≡ true) × TakeGoesOn p.shape p.wanted st.calls st.made access) →
    (due ≡ None → (is_taking p ≡ false) × (st.made ≡ take_program p.shape st.calls)) → (is_taking p ≡ true → EndInCellRead st.made → p.wanted ≡ take_batch_of shape) →
    (is_taking p ≡ true) ⊎ (p.told ≡ true) → (due ≡ Some a → ⊥) → AreOfTakes shape (es ++ opening_event C a ∷ []) → IsBetweenWords p × WritesTakeCount a
not_due shape r es items p (Some d) a st none same stands due_is goes rests wants over wrong of_takes =
    elim (next_or shape r es items p d a st none same stands (goes d refl).1 of_takes) [
      | inl is ↦ absurd (wrong (ap Some (sym is)))
      | inr (ends, inl ((j, reads), counts, more)) ↦ (between_at p.stage p st.calls st.made j refl stands.made_is (sym due_is ∙ ap Some reads) ends, counts)
      | inr (ends, inr (counts, reads, less)) ↦ absurd (omega (arith, less, wants (goes d refl).0 ends))
    ]
not_due shape r es items p None a st none same stands due_is goes rests wants over wrong of_takes =
    let on = rest_on shape r es items st (opening_event C a) none of_takes in
    let (idle, made_is) = rests refl in
    let made_so : st.made ≡ take_program shape st.calls = made_is ∙ ap (λ s. take_program s st.calls) same in
    absurd (by_told on idle made_so over)
  where
    by_told : (on : GoesOnWith C st.made (take_program shape of_takes.0) (opening_event C a)) → is_taking p ≡ false → st.made ≡ take_program shape st.calls → (is_taking p ≡ true) ⊎ (p.told ≡ true) → ⊥
    by_told on idle made_so (inl is) = let clash : true ≡ false = sym is ∙ idle in absurd (cc)
    by_told on idle made_so (inr told) =
        let tells_end : Tells st.calls.end = closed_tells st.calls.end (sym stands.told_is ∙ told) in
        let are : AreTakes shape 0 st.calls.takes st.calls.end = subst (λ s. AreTakes s 0 st.calls.takes st.calls.end) same stands.are in
        let more : List Made = on.next ∷ on.rest in
        let whole : take_program shape st.calls ++ more ≡ take_program shape of_takes.0 = ap (λ l. l ++ more) (sym made_so) ∙ sym on.whole_is in
        let events : events_of C (take_program shape st.calls) ++ events_of C more ≡ events_of C (take_program shape of_takes.0) = grind (arith, events_of-append) in
        let all : st.calls ≡ of_takes.0 = (calls_are_first_takes shape st.calls of_takes.0 are of_takes.1 (events_of C more, events)).1 tells_end in
        absurd (omega (arith, ap length whole, length-append (take_program shape st.calls) more, ap (λ calls. length (take_program shape calls)) all))

-- when the take under way counts, no other write of the count may begin
pub counts_else :
    (shape : Shape) (r : TakeReading) (es : List Event) (items : List ℕ) (p : ConsumerState) (due : Option Access) (a : Access) (i : ℕ) (v : Bool) →
    (st : TakesStand shape r es items) → r.open_access ≡ None → p.shape ≡ shape → ConsumerStands p st.calls st.made → due ≡ Some (begins.Write (R i) v) →
    ((access : Access) → due ≡ Some access → (is_taking p ≡ true) × TakeGoesOn p.shape p.wanted st.calls st.made access) →
    (due ≡ Some a → ⊥) → WritesTakeCount a → AreOfTakes shape (es ++ opening_event C a ∷ []) → ⊥
counts_else shape r es items p due a i v st none same stands due_is goes wrong (k, w, writes) of_takes =
    grind (arith, next_or shape r es items p (begins.Write (R i) v) a st none same stands (goes (begins.Write (R i) v) due_is).1 of_takes)

-- once a take has been started when none was under way, one is, or the last one returned Closed
pub taking_or_told :
    (old new : ConsumerState) (reply : Option TakeReply) (most : ℕ) → (old.told ≡ false → (is_taking new ≡ true) × (new.wanted ≡ most)) →
    (old.told ≡ true → new ≡ record old { reply = reply }) →
    (is_taking new ≡ true) ⊎ (new.told ≡ true)
taking_or_told old new reply most begun refused = grind arith

-- and it asks for as many items as were requested
pub wants_most :
    (old new : ConsumerState) (reply : Option TakeReply) (most : ℕ) → (old.told ≡ false → (is_taking new ≡ true) × (new.wanted ≡ most)) →
    (old.told ≡ true → new ≡ record old { reply = reply }) → is_taking old ≡ false → is_taking new ≡ true → new.wanted ≡ most
wants_most old new reply most begun refused idle taking = grind arith

-- the reader stands after the same events once a take has been started
pub begun_stands :
    (p q : ConsumerState) (o : Option Access) (reply : Option TakeReply) (most : ℕ) → (p.told ≡ false → (is_taking q ≡ true) × (q.wanted ≡ most)) →
    (p.told ≡ true → q ≡ record p { reply = reply }) → most ≡ take_batch_of p.shape → q.shape ≡ p.shape →
    ((calls : Takes) (made : List Made) → ConsumerStands p calls made → is_taking p ≡ false) →
    ((calls : Takes) (made : List Made) → ConsumerStands p calls made → ConsumerStands q calls made) →
    (es : List Event) (items : List ℕ) → TakesStand p.shape (record { consumer = p; open_access = o }) es items → TakesStand p.shape (record { consumer = q; open_access = o }) es items
begun_stands p q o reply most begun refused most_is same idle stands es items st = grind (arith, wants_most)
