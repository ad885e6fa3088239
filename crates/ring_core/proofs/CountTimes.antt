-- How many count writes of a side have begun and ended after a number of its events, by its accesses and by its spans.
use Rattle.std.proofs.Common.{◌≡◌, ℕ, zero, suc, ◌+◌, ◌-◌, ◌*◌, ◌%◌, ◌<◌, ◌≤◌, Bool, true, false, nat_lt, nat_le, if◌then◌else◌, Some, None, List, [], ◌∷◌, ◌++◌, length, take, refl, ap, arith}
use Rattle.ring_core.proofs.Common.{nat_tests, length-map, filter_map-append, zero-mod, Side, P, C, Bit, Cell, Shape, modulus_of, number_past, Count, first_count, count_bits, batch_phrase, IsCount}
use Rattle.ring_core.proofs.Common.{words_phrase, close_phrase}
use Rattle.bits_core.specs.declared.events.Event.{Event}
use Rattle.bits_core.specs.Made.{Made, Read, Write, begin_event, end_event, events_of}
use Rattle.register_core.specs.Row.{RowWrite, row_bit, writes_in}
use Rattle.register_core.specs.Unary.{UnaryWrite, unary_writes, row_writes, writes_of, having_writes, numbered_of, numbered_value}
use Rattle.register_core.specs.Unary as unary
use Rattle.register_core.specs.UnaryLaw.{number_in_count, count_write, count_begun}
use Rattle.register_core.specs.Word.{digit_reads}
use Rattle.register_core.specs.ScanState.{zero_reads, scan_phrase, row_read_by}
use Rattle.ring_core.proofs.OverSpans.Spans.{Outcome, Passes, Stops, Asks, Span, counts, counts_begun, counts_ended, size_of, sizes, tally}
use Rattle.ring_core.proofs.OverSpans.LookSpans.{Look, words_read, word_part, count_part, look_number, look_bits, after_look, look_accesses, spans}
use Rattle.ring_core.proofs.Readings.Cuts.{at_most_or_above}
use Rattle.ring_core.proofs.CountRow.{past_is, first_is_count, bits_long}
use Rattle.ring_core.proofs.Machines.Following.{events_of-append, length-events}
use Rattle.ring_core.proofs.OverSpans.Timeline.{AllProper, ended_zero}
use Rattle.ring_core.proofs.OverSpans.Looks.{AllPassing, look_is_count, all_proper}
use Rattle.register_core.proofs.RowWrites.{row_write-read as read_none}

-- ---- the bit writes of a count among events

-- how many bit writes of a side's count the first i of these events begin
abbrev pub bit_writes : Side → List Event → ℕ → ℕ
bit_writes s events i = length (count_begun s (take i events))

none_taken : (s : Side) (i : ℕ) → bit_writes s [] i ≡ 0
none_taken s i = grind arith

-- those of two lists of events, one after the other
bits-append : (s : Side) (xs ys : List Event) (i : ℕ) → bit_writes s (xs ++ ys) i ≡ bit_writes s xs i + bit_writes s ys (i - length xs)
bits-append s [] ys i = grind (arith, none_taken)
bits-append s (x ∷ xs) ys zero = grind arith
bits-append s (x ∷ xs) ys (suc i) = grind (arith, bits-append s xs ys i)

-- ---- accesses without writes of the count

-- the end of an access begins no write
end_none : (s : Side) (x : Made) → count_write s (end_event s x) ≡ None
end_none s x = grind arith

-- none of the accesses is a write of the side's count
abbrev pub IsQuiet : Side → List Made → Type 0
IsQuiet s [] = Unit {0}
IsQuiet s (x ∷ xs) = (count_write s (begin_event s x) ≡ None) × IsQuiet s xs

quiet-append : (s : Side) (xs ys : List Made) → IsQuiet s xs → IsQuiet s ys → IsQuiet s (xs ++ ys)
quiet-append s [] ys p q = q
quiet-append s (x ∷ xs) ys p q = (p.0, quiet-append s xs ys p.1 q)

quiet_zeros : (s : Side) (row : ℕ → Bit) (n : ℕ) → IsQuiet s (zero_reads row n)
quiet_zeros s row zero = tt
quiet_zeros s row (suc n) = quiet-append s (zero_reads row n) (Read (row n) false ∷ []) (quiet_zeros s row n) ((read_none (number_in_count s (row n)), tt))

quiet_scan : (s : Side) (row : ℕ → Bit) (c : ℕ) → IsQuiet s (scan_phrase row c)
quiet_scan s row c = quiet-append s (zero_reads row c) (Read (row c) true ∷ []) (quiet_zeros s row c) ((read_none (number_in_count s (row c)), tt))

quiet_cells : (cell : ℕ) (writes : List RowWrite) → IsQuiet P (writes_in (Cell cell) writes)
quiet_cells cell [] = tt
quiet_cells cell (w ∷ writes) = (refl, quiet_cells cell writes)

quiet_digits : (s : Side) (cell item n : ℕ) → IsQuiet s (digit_reads cell item n)
quiet_digits s cell item zero = tt
quiet_digits s cell item (suc n) = grind (arith, quiet-append, quiet_digits s cell item n, read_none)

quiet_words : (shape : Shape) (n : ℕ) (items : List ℕ) → IsQuiet P (words_phrase shape n items)
quiet_words shape n [] = tt
quiet_words shape n (item ∷ items) = grind (arith, quiet-append, quiet_cells, quiet_words shape (suc n) items)

quiet_words_read : (shape : Shape) (n : ℕ) (items : List ℕ) → IsQuiet C (words_read shape n items)
quiet_words_read shape n [] = tt
quiet_words_read shape n (item ∷ items) = search (arith, quiet-append, quiet_digits, quiet_words_read shape (suc n) items)

quiet_word : (s : Side) (shape : Shape) (n : ℕ) (o : Outcome) → IsQuiet s (word_part s shape n o)
quiet_word s shape n o = grind (arith, quiet_words, quiet_words_read, read_none)

-- a close is not a write of the producer's count
pub quiet_close : (closes : Bool) → IsQuiet P (close_phrase closes)
quiet_close closes = grind arith

-- such accesses begin no bit write
quiet_begun : (s : Side) (xs : List Made) (i : ℕ) → IsQuiet s xs → bit_writes s (events_of s xs) i ≡ 0
quiet_begun s xs zero q = refl
quiet_begun s [] (suc i) q = refl
quiet_begun s (x ∷ xs) (suc zero) q = rw q.0 refl
quiet_begun s (x ∷ xs) (suc (suc i)) q = rw (q.0, end_none s x) (quiet_begun s xs i q.1)

quiet_all : (s : Side) (xs : List Made) → IsQuiet s xs → count_begun s (events_of s xs) ≡ []
quiet_all s [] q = refl
quiet_all s (x ∷ xs) q = rw (q.0, end_none s x) (quiet_all s xs q.1)

-- past accesses without such writes
past_quiet :
    (s : Side) (a b d : List Made) (i : ℕ) → IsQuiet s a → IsQuiet s b →
    bit_writes s (events_of s (a ++ (b ++ d))) i ≡ bit_writes s (events_of s d) (i - (2 * length a + 2 * length b))
past_quiet s a b d i p q = grind (arith, quiet_begun, events_of-append, bits-append, length-events)

-- ---- the accesses of a count write

-- each begins its bit write
row_begun : (s : Side) (w : RowWrite) → count_write s (begin_event s (Write (row_bit s w.bit) w.value)) ≡ Some w
row_begun s w = grind arith

count_all : (s : Side) (ws : List RowWrite) → count_begun s (events_of s (writes_in (row_bit s) ws)) ≡ ws
count_all s [] = refl
count_all s (w ∷ ws) = rw (row_begun s w, end_none s (Write (row_bit s w.bit) w.value)) (ap (λ l. w ∷ l) (count_all s ws))

-- no more have begun than there are bit writes, and all have begun by the last event but one
count_some :
    (s : Side) (ws : List RowWrite) (i : ℕ) →
    (bit_writes s (events_of s (writes_in (row_bit s) ws)) i ≤ length ws) ×
    (2 * length ws ≤ suc i → bit_writes s (events_of s (writes_in (row_bit s) ws)) i ≡ length ws)
count_some s [] zero = (omega arith, λ l. refl)
count_some s [] (suc i) = (omega arith, λ l. refl)
count_some s (w ∷ ws) zero = (omega arith, λ l. absurd (omega (arith, l)))
count_some s (w ∷ ws) (suc zero) = rw (row_begun s w) (omega arith, λ l. omega (arith, l))
count_some s (w ∷ ws) (suc (suc i)) = search (arith, row_begun, end_none, count_some s ws i)

-- ---- the unary writes of looks

-- the value that a look's count write writes, if there is one, after n items
abbrev pub value_of : Shape → ℕ → Outcome → List ℕ
value_of shape n (Passes items) = number_past n items % modulus_of shape ∷ []
value_of shape n Stops = []
value_of shape n (Asks answer) = []

abbrev pub values_from : Shape → ℕ → List Look → List ℕ
values_from shape n [] = []
values_from shape n (l ∷ looks) = value_of shape n l.outcome ++ values_from shape (look_number n l.outcome) looks

-- how many items each of these count writes counts
abbrev pub sizes_in : List Look → List ℕ
sizes_in [] = []
sizes_in (l ∷ looks) = size_of l.outcome ++ sizes_in looks

pub sizes_are : (s : Side) (shape : Shape) (c : Count) (looks : List Look) → sizes (spans s shape c looks) ≡ sizes_in looks
sizes_are s shape c [] = refl
sizes_are s shape c (l ∷ looks) = ap (λ ms. size_of l.outcome ++ ms) (sizes_are s shape (after_look shape c l.outcome) looks)

-- more writes count no fewer items
pub tally_up : (ms : List ℕ) (u v : ℕ) → u ≤ v → tally ms u ≤ tally ms v
tally_up [] u v l = omega arith
tally_up (m ∷ ms) zero v l = omega arith
tally_up (m ∷ ms) (suc u) zero l = absurd (omega (arith, l))
tally_up (m ∷ ms) (suc u) (suc v) l = omega (arith, tally_up ms u v (omega (arith, l)))

abbrev writes_from : Shape → Count → List Look → List UnaryWrite
writes_from shape c looks = unary_writes c.bits (values_from shape c.number looks)

-- a unary write with a bit write is numbered
kept : (u : UnaryWrite) (ws : List RowWrite) (us : List UnaryWrite) → u.writes ≡ ws → 1 ≤ length ws → having_writes (u ∷ us) ≡ u ∷ having_writes us
kept u ws us e l = grind arith

all_numbered :
    (most : ℕ) (shape : Shape) (c : Count) (looks : List Look) → most < modulus_of shape → IsCount shape c → AllPassing most looks →
    having_writes (writes_from shape c looks) ≡ writes_from shape c looks
all_numbered most shape c [] fits is p = refl
all_numbered most shape c (l ∷ looks) fits is p =
    grind (arith, look_is_count, all_numbered most shape (after_look shape c l.outcome) looks fits (look_is_count shape c l.outcome is) p.1, kept, bits_long)

-- the values of the unary writes of a program's count
abbrev pub counted_in : Shape → List Look → List ℕ
counted_in shape looks = values_from shape 0 looks

numbered_is :
    (most : ℕ) (shape : Shape) (looks : List Look) → most < modulus_of shape → AllPassing most looks →
    numbered_of (counted_in shape looks) ≡ writes_from shape first_count looks
numbered_is most shape looks fits p = all_numbered most shape first_count looks fits (first_is_count shape) p

-- the value of unary write number u is the number counted by the writes up to it, modulo the modulus
value_none : (v : ℕ) (u : ℕ) → numbered_value v [] u ≡ v
value_none v u = grind arith

value_part :
    (shape : Shape) (c : Count) (o : Outcome) (ms vs : List ℕ) →
    ((u : ℕ) → numbered_value (look_number c.number o % modulus_of shape) (unary_writes (look_bits shape c o) vs) u ≡ (look_number c.number o + tally ms u) % modulus_of shape) →
    (u : ℕ) →
    numbered_value (c.number % modulus_of shape) (unary_writes c.bits (value_of shape c.number o ++ vs)) u ≡ (c.number + tally (size_of o ++ ms) u) % modulus_of shape
value_part shape c o ms vs rest u = grind (arith, past_is)

value_from :
    (shape : Shape) (c : Count) (looks : List Look) (u : ℕ) →
    numbered_value (c.number % modulus_of shape) (writes_from shape c looks) u ≡ (c.number + tally (sizes_in looks) u) % modulus_of shape
value_from shape c [] u = grind (arith, value_none)
value_from shape c (l ∷ looks) u =
    value_part shape c l.outcome (sizes_in looks) (values_from shape (look_number c.number l.outcome) looks)
    (λ v. value_from shape (after_look shape c l.outcome) looks v) u

pub counted_value :
    (most : ℕ) (shape : Shape) (looks : List Look) (u : ℕ) → most < modulus_of shape → AllPassing most looks →
    numbered_value 0 (numbered_of (counted_in shape looks)) u ≡ tally (sizes_in looks) u % modulus_of shape
counted_value most shape looks u fits p = grind (arith, numbered_is most shape looks fits p, zero-mod (modulus_of shape), value_from shape first_count looks u)

-- ---- the count writes of looks

-- the bit writes of a count write and of what follows it
record CountThen (s : Side) (shape : Shape) (c : Count) (items : List ℕ) (after : List Made) (i : ℕ) : Type 0 where
  tail :
      bit_writes s (events_of s (batch_phrase shape s c items ++ after)) i - length (count_bits shape c items) ≡
      bit_writes s (events_of s after) (i - 2 * length (batch_phrase shape s c items))
  full :
      2 * length (batch_phrase shape s c items) ≤ suc i →
      length (count_bits shape c items) ≤ bit_writes s (events_of s (batch_phrase shape s c items ++ after)) i
  size : length (batch_phrase shape s c items) ≡ length (count_bits shape c items)

-- the rest, without those of the count write
tail_is : (t a b n i : ℕ) → t ≡ a + b → a ≤ n → (2 * n ≤ suc i → a ≡ n) → (suc i < 2 * n → b ≡ 0) → t - n ≡ b
tail_is t a b n i e most all none = grind (arith, at_most_or_above)

count_then : (s : Side) (shape : Shape) (c : Count) (items : List ℕ) (after : List Made) (i : ℕ) → CountThen s shape c items after i
count_then s shape c items after i = search (arith, length-map, tail_is, count_some s (count_bits shape c items) i, events_of-append, bits-append, length-events)

no_one : (t : Bool) → ◌≡◌ {A = ℕ} (if t then 0 else 0) 0
no_one t = grind arith

ended_more : (u : UnaryWrite) (us : List UnaryWrite) (t : ℕ) → length u.writes ≤ t → unary.ended (u ∷ us) t ≡ suc (unary.ended us (t - length u.writes))
ended_more u us t l = grind (arith, nat_tests)

-- one look: its count write and what follows, after a number of events
begun_step :
    (s : Side) (shape : Shape) (c : Count) (o : Outcome) (ms vs : List ℕ) (after : List Made) (xs : List Span) (place : ℕ) →
    ((i : ℕ) → tally ms (unary.begun_writes (unary_writes (look_bits shape c o) vs) (bit_writes s (events_of s after) i)) ≤ counts_begun xs i) → (i : ℕ) →
    tally (size_of o ++ ms)
    (unary.begun_writes (unary_writes c.bits (value_of shape c.number o ++ vs)) (bit_writes s (events_of s (count_part s shape c o ++ after)) (i - place))) ≤
    (if nat_lt place i then counts o else 0) + counts_begun xs (i - (place + 2 * length (count_part s shape c o)))
begun_step s shape c (Passes items) ms vs after xs place rest i = grind (arith, at_most_or_above, count_then, nat_tests)
begun_step s shape c Stops ms vs after xs place rest i = grind arith
begun_step s shape c (Asks answer) ms vs after xs place rest i = grind arith

begun_from_look :
    (s : Side) (shape : Shape) (c : Count) (looks : List Look) (behind : List Made) (i : ℕ) →
    tally (sizes_in looks) (unary.begun_writes (writes_from shape c looks) (bit_writes s (events_of s (look_accesses s shape c looks behind)) i)) ≤ counts_begun (spans s shape c looks) i
begun_from_look s shape c [] behind i = omega arith
begun_from_look s shape c (l ∷ looks) behind i =
    let a : List Made = scan_phrase (row_read_by s) l.seen in
    let b : List Made = word_part s shape c.number l.outcome in
    let next : Count = after_look shape c l.outcome in
    let after : List Made = look_accesses s shape next looks behind in
    let d : List Made = count_part s shape c l.outcome ++ after in
    let number_past : bit_writes s (events_of s (a ++ (b ++ d))) i ≡ bit_writes s (events_of s d) (i - (2 * length a + 2 * length b)) =
    past_quiet s a b d i (quiet_scan s (row_read_by s) l.seen) (quiet_word s shape c.number l.outcome) in
    rw number_past (begun_step s shape c l.outcome (sizes_in looks) (values_from shape next.number looks) after (spans s shape next looks) (2 * length a + 2 * length b)
    (λ j. begun_from_look s shape next looks behind j) i)

-- a count write that has ended had all its bit writes begun one event before
ended_step :
    (most : ℕ) (s : Side) (shape : Shape) (c : Count) (o : Outcome) (ms vs : List ℕ) (after : List Made) (xs : List Span) (place : ℕ) → AllProper most xs →
    ((i : ℕ) → counts_ended xs i ≤ tally ms (unary.ended (unary_writes (look_bits shape c o) vs) (bit_writes s (events_of s after) (i - 1)))) → (i : ℕ) →
    (if nat_le (place + 2 * length (count_part s shape c o)) i then counts o else 0) + counts_ended xs (i - (place + 2 * length (count_part s shape c o))) ≤
    tally (size_of o ++ ms)
    (unary.ended (unary_writes c.bits (value_of shape c.number o ++ vs)) (bit_writes s (events_of s (count_part s shape c o ++ after)) (i - 1 - place)))
ended_step most s shape c (Passes items) ms vs after xs place proper rest i = search (arith, at_most_or_above, count_then, ended_more, ended_zero, nat_tests)
ended_step most s shape c Stops ms vs after xs place proper rest i = grind (arith, no_one)
ended_step most s shape c (Asks answer) ms vs after xs place proper rest i = grind (arith, no_one)

ended_from_look :
    (most : ℕ) (s : Side) (shape : Shape) (c : Count) (looks : List Look) (behind : List Made) → most < modulus_of shape → IsCount shape c → AllPassing most looks → (i : ℕ) →
    counts_ended (spans s shape c looks) i ≤
    tally (sizes_in looks) (unary.ended (writes_from shape c looks) (bit_writes s (events_of s (look_accesses s shape c looks behind)) (i - 1)))
ended_from_look most s shape c [] behind fits is p i = omega arith
ended_from_look most s shape c (l ∷ looks) behind fits is p i =
    let a : List Made = scan_phrase (row_read_by s) l.seen in
    let b : List Made = word_part s shape c.number l.outcome in
    let next : Count = after_look shape c l.outcome in
    let next_is : IsCount shape next = look_is_count shape c l.outcome is in
    let d : List Made = count_part s shape c l.outcome ++ (look_accesses s shape next looks behind) in
    let number_past : bit_writes s (events_of s (a ++ (b ++ d))) (i - 1) ≡ bit_writes s (events_of s d) (i - 1 - (2 * length a + 2 * length b)) =
    past_quiet s a b d (i - 1) (quiet_scan s (row_read_by s) l.seen) (quiet_word s shape c.number l.outcome) in
    rw number_past (ended_step most s shape c l.outcome (sizes_in looks) (values_from shape next.number looks) (look_accesses s shape next looks behind) (spans s shape next looks)
    (2 * length a + 2 * length b) (all_proper most s shape next looks fits next_is p.1)
    (λ j. ended_from_look most s shape next looks behind fits next_is p.1 j) i)

-- ---- the count writes of a whole program

-- no more of these have begun, after any number of the side's events, than of the spans' count writes
pub count_writes_begun :
    (most : ℕ) (s : Side) (shape : Shape) (looks : List Look) (behind : List Made) → most < modulus_of shape → AllPassing most looks → (i : ℕ) →
    tally (sizes_in looks) (unary.begun_writes (numbered_of (counted_in shape looks)) (bit_writes s (events_of s (look_accesses s shape first_count looks behind)) i)) ≤
    counts_begun (spans s shape first_count looks) i
count_writes_begun most s shape looks behind fits p i = rw (numbered_is most shape looks fits p) (begun_from_look s shape first_count looks behind i)

-- if a count write of the spans has ended, all bit writes of its unary write had begun one event before
pub count_writes_ended :
    (most : ℕ) (s : Side) (shape : Shape) (looks : List Look) (behind : List Made) → most < modulus_of shape → AllPassing most looks → (i : ℕ) →
    counts_ended (spans s shape first_count looks) i ≤
    tally (sizes_in looks) (unary.ended (numbered_of (counted_in shape looks)) (bit_writes s (events_of s (look_accesses s shape first_count looks behind)) (i - 1)))
count_writes_ended most s shape looks behind fits p i = rw (numbered_is most shape looks fits p) (ended_from_look most s shape first_count looks behind fits (first_is_count shape) p i)

past_part :
    (s : Side) (a after : List Made) → IsQuiet s a → count_begun s (events_of s (a ++ after)) ≡ count_begun s (events_of s after)
past_part s a after q = grind (arith, events_of-append, filter_map-append, quiet_all)

-- the bit writes of a look's count write and of what follows it
look_writes :
    (s : Side) (shape : Shape) (c : Count) (l : Look) (after : List Made) →
    count_begun s (events_of s (scan_phrase (row_read_by s) l.seen ++ (word_part s shape c.number l.outcome ++ (count_part s shape c l.outcome ++ after)))) ≡
    count_begun s (events_of s (count_part s shape c l.outcome ++ after))
look_writes s shape c l after = search (arith, past_part, quiet_scan, quiet_word)

pub program_writes :
    (s : Side) (shape : Shape) (c : Count) (looks : List Look) (behind : List Made) → IsQuiet s behind →
    count_begun s (events_of s (look_accesses s shape c looks behind)) ≡ row_writes (writes_from shape c looks)
program_writes s shape c [] behind q = quiet_all s behind q
program_writes s shape c (l ∷ looks) behind q = grind (arith, look_writes, program_writes s shape (after_look shape c l.outcome) looks behind q, events_of-append, filter_map-append, count_all)
