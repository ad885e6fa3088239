-- The calls of each side as looks: their accesses, their items and their rules by spans.
use Rattle.std.proofs.Common.{◌≡◌, ◌⊎◌, inl, inr, ℕ, ◌+◌, ◌-◌, ◌*◌, ◌%◌, ◌<◌, ◌≤◌, Bool, true, false, if◌then◌else◌, List, [], ◌∷◌, ◌++◌, length, refl, arith, append_assoc, length-append}
use Rattle.ring_core.proofs.Common.{nat_tests, Side, P, C, X, Shape, AllFit, batch_of, capacity_of, modulus_of, take_batch_of, width_of, distance, number_past, Count, first_count, batch_phrase}
use Rattle.ring_core.proofs.Common.{IsCount, Take, Item, ItemAfterClose, Empty, End, Open, Closed, Takes, count_after, take_phrases, end_phrase, AreTakes, items_put, items_taken}
use Rattle.bits_core.specs.Made.{Made, Read}
use Rattle.register_core.specs.ScanState.{scan_phrase, row_read_by}
use Rattle.ring_core.specs.Puts.{Put, Stored, Full, Puts, stored_after, words_phrase, put_phrases, close_phrase, ArePuts}
use Rattle.ring_core.proofs.OverSpans.Spans.{Outcome, Passes, Stops, Asks, Span, counts, items_of, whole, total, begun_items, ended_items, IsSpanAt}
use Rattle.ring_core.proofs.OverSpans.Clocks as clocks
use Rattle.ring_core.proofs.OverSpans.LookSpans.{Look, look, put_looks, take_looks, put_spans, take_spans, words_read, word_part, count_part, look_number, after_look, look_accesses, span_of, spans, LookAt}
use Rattle.ring_core.proofs.OverSpans.Timeline.{AllProper}
use Rattle.ring_core.proofs.Readings.Cuts.{at_most_or_above}
use Rattle.ring_core.proofs.OverSpans.SpanLaw.{LastTwo, two_last, two_after}
use Rattle.ring_core.proofs.CountRow.{past_is, first_is_count, counted_is_count, batch_below, take_batch_below, batch_long}
use Rattle.ring_core.proofs.Machines.Lengths.{length-scan, length-words, length-words_read}
use Rattle.ring_core.proofs.Readings.PutsRead.{puts_stored, puts_full}
use Rattle.ring_core.proofs.Readings.TakesFirst.{closed_first}
use Rattle.ring_core.proofs.Readings.Phrases.{joined_two, joined}

-- ---- the accesses of the calls are those of their looks

-- the accesses of puts, and of a close after them
pub puts_as_looks :
    (shape : Shape) (c : Count) (puts : List Put) (closes : Bool) →
    put_phrases shape c puts ++ close_phrase closes ≡ look_accesses P shape c (put_looks puts) (close_phrase closes)
puts_as_looks shape c [] closes = refl
puts_as_looks shape c (Stored seen items ∷ puts) closes = grind (arith, puts_stored, puts_as_looks shape (stored_after shape c (Stored seen items)) puts closes)
puts_as_looks shape c (Full seen ∷ puts) closes = grind (arith, puts_full, puts_as_looks shape c puts closes)

-- the accesses of takes and of their end
pub takes_as_looks :
    (shape : Shape) (c : Count) (takes : List Take) (end : End) →
    take_phrases shape c takes ++ end_phrase end ≡ look_accesses C shape c (take_looks takes end) []
takes_as_looks shape c [] Open = refl
takes_as_looks shape c [] (Closed seen again) = closed_first shape c seen again
takes_as_looks shape c (Item seen items ∷ takes) end = search (arith, takes_as_looks shape (count_after shape c (Item seen items)) takes end, append_assoc, joined)
takes_as_looks shape c (ItemAfterClose seen again items ∷ takes) end =
    grind (arith, takes_as_looks shape (count_after shape c (ItemAfterClose seen again items)) takes end, joined_two, append_assoc)
takes_as_looks shape c (Empty seen ∷ takes) end = grind (arith, takes_as_looks shape c takes end, joined)

-- ---- what looks count

-- a look that passes items has at least one and at most the most
abbrev pub Passing : ℕ → Outcome → Type 0
Passing most (Passes items) = (1 ≤ length items) × (length items ≤ most)
Passing most Stops = Unit {0}
Passing most (Asks answer) = Unit {0}

abbrev pub AllPassing : ℕ → List Look → Type 0
AllPassing most [] = Unit {0}
AllPassing most (l ∷ looks) = Passing most l.outcome × AllPassing most looks

-- the looks of puts have at most a batch, and those of takes at most a take batch
pub puts_pass : (shape : Shape) (n : ℕ) (puts : List Put) → ArePuts shape n puts → AllPassing (batch_of shape) (put_looks puts)
puts_pass shape n [] h = tt
puts_pass shape n (Stored seen items ∷ puts) ((below, room, batch), h) = ((batch.some, batch.few), puts_pass shape (number_past n items) puts h)
puts_pass shape n (Full seen ∷ puts) (here, h) = (tt, puts_pass shape n puts h)

pub takes_pass : (shape : Shape) (k : ℕ) (takes : List Take) (end : End) → AreTakes shape k takes end → AllPassing (take_batch_of shape) (take_looks takes end)
takes_pass shape k [] end h = grind arith
takes_pass shape k (Item seen items ∷ takes) end ((sees, batch), h) = ((batch.some, batch.few), takes_pass shape (number_past k items) takes end h)
takes_pass shape k (ItemAfterClose seen again items ∷ takes) end ((none, sees, batch), h) = grind (arith, takes_pass shape (number_past k items) takes end h)
takes_pass shape k (Empty seen ∷ takes) end (none, h) = (tt, takes_pass shape k takes end h)

-- the bits after a look are those of a count
pub look_is_count : (shape : Shape) (c : Count) (o : Outcome) → IsCount shape c → IsCount shape (after_look shape c o)
look_is_count shape c (Passes items) h = counted_is_count shape c items
look_is_count shape c Stops h = h
look_is_count shape c (Asks answer) h = h

-- ---- the spans

-- a look that counts some items has an access of the count
count_some :
    (most : ℕ) (s : Side) (shape : Shape) (c : Count) (o : Outcome) → most < modulus_of shape → IsCount shape c → Passing most o →
    (counts o ≤ most) × (1 ≤ counts o → 1 ≤ 2 * length (count_part s shape c o))
count_some most s shape c (Passes items) fits h (some, few) = grind (arith, batch_long)
count_some most s shape c Stops fits h p = (omega arith, λ o. absurd (omega (arith, o)))
count_some most s shape c (Asks answer) fits h p = (omega arith, λ o. absurd (omega (arith, o)))

-- each span has an event in its scan, and if it counts, one in its count write
pub all_proper :
    (most : ℕ) (s : Side) (shape : Shape) (c : Count) (looks : List Look) → most < modulus_of shape → IsCount shape c → AllPassing most looks →
    AllProper most (spans s shape c looks)
all_proper most s shape c [] fits h p = tt
all_proper most s shape c (l ∷ looks) fits h p =
    let r = count_some most s shape c l.outcome fits h p.0 in (
      record { scan = omega (arith, length-scan (row_read_by s) l.seen); few = r.0; count = r.1 },
      all_proper most s shape (after_look shape c l.outcome) looks fits (look_is_count shape c l.outcome h) p.1,
    )

-- the spans of calls that follow one another are proper
pub proper_puts : (shape : Shape) (puts : Puts) → ArePuts shape 0 puts.puts → AllProper (batch_of shape) (put_spans shape puts)
proper_puts shape puts are = all_proper (batch_of shape) P shape first_count (put_looks puts.puts) (batch_below shape) (first_is_count shape) (puts_pass shape 0 puts.puts are)

pub proper_takes : (shape : Shape) (takes : Takes) → AreTakes shape 0 takes.takes takes.end → AllProper (take_batch_of shape) (take_spans shape takes)
proper_takes shape takes are = grind (arith, all_proper, take_looks, take_batch_below, first_is_count, takes_pass)

-- the spans have two events for each access
pub total_is : (s : Side) (shape : Shape) (c : Count) (looks : List Look) → total (spans s shape c looks) ≡ 2 * length (look_accesses s shape c looks [])
total_is s shape c [] = refl
total_is s shape c (l ∷ looks) = grind (arith, total_is s shape (after_look shape c l.outcome) looks, length-append)

-- ---- the position of a span

-- how many items there are after a look
pub after_counts : (n : ℕ) (o : Outcome) → look_number n o ≡ n + counts o
after_counts n o = grind (arith, past_is)

-- the first look of a program
first_look : (s : Side) (shape : Shape) (c : Count) (l : Look) (after : List Made) (start : ℕ) (x : Span) → start ≡ 0 → x ≡ span_of s shape c l →
    LookAt s shape (scan_phrase (row_read_by s) l.seen ++ (word_part s shape c.number l.outcome ++ (count_part s shape c l.outcome ++ after))) c.number start x
first_look s shape c l after start x zero_is e = grind arith

-- a look after other accesses
later_look : (s : Side) (shape : Shape) (a b d program : List Made) (k start rest : ℕ) (x : Span) →
    start ≡ 2 * length a + 2 * length b + 2 * length d + rest → LookAt s shape program k rest x → LookAt s shape (a ++ (b ++ (d ++ program))) k start x
later_look s shape a b d program k start rest x e r = grind (arith, append_assoc, length-append a (b ++ (d ++ r.before)), length-append b (d ++ r.before), length-append d r.before)

-- at the position of a span is its look
pub look_at :
    (s : Side) (shape : Shape) (c : Count) (looks : List Look) (behind : List Made) (start m : ℕ) (x : Span) →
    IsSpanAt (spans s shape c looks) start m x → LookAt s shape (look_accesses s shape c looks behind) (c.number + m) start x
look_at s shape c [] behind start m x st = elim st [ ]
look_at s shape c (l ∷ looks) behind start m x (inl st) =
    grind (arith, first_look s shape c l (look_accesses s shape (after_look shape c l.outcome) looks behind) start x st.0 st.2)
look_at s shape c (l ∷ looks) behind start m x (inr st) =
    let n : ℕ = look_number c.number l.outcome in
    let same : n + st.1 ≡ c.number + m = omega (arith, st.3, after_counts c.number l.outcome) in
    grind (arith, later_look, look_at s shape (after_look shape c l.outcome) looks behind st.0 st.1 x st.4)

-- ---- the parts of a span

pub word_length : (s : Side) (shape : Shape) (n : ℕ) (o : Outcome) → 1 ≤ counts o → length (word_part s shape n o) ≡ counts o * width_of shape
word_length s shape n o e = grind (arith, length-words, length-words_read)

-- also given its number alone, in a whole program
pub look_from_first :
    (s : Side) (shape : Shape) (looks : List Look) (behind : List Made) (start m : ℕ) (x : Span) →
    IsSpanAt (spans s shape first_count looks) start m x → LookAt s shape (look_accesses s shape first_count looks behind) m start x
look_from_first s shape looks behind start m x st = grind (arith, look_at s shape first_count looks behind start m x st)

-- the same for a span that counts some items
pub words_are :
    (s : Side) (shape : Shape) (looks : List Look) (start m : ℕ) (x : Span) →
    IsSpanAt (spans s shape first_count looks) start m x → 1 ≤ counts x.outcome → x.word ≡ 2 * (counts x.outcome * width_of shape)
words_are s shape looks start m x st e =
    let r : LookAt s shape (look_accesses s shape first_count looks []) m start x = look_from_first s shape looks [] start m x st in
    grind (arith, word_length)

-- a read of the close bit has two events
pub asks_word :
    (s : Side) (shape : Shape) (looks : List Look) (start m : ℕ) (x : Span) (answer : Bool) →
    IsSpanAt (spans s shape first_count looks) start m x → x.outcome ≡ Asks answer → x.word ≡ 2
asks_word s shape looks start m x answer st e =
    let r : LookAt s shape (look_accesses s shape first_count looks []) m start x = look_from_first s shape looks [] start m x st in
    grind arith

-- ---- the items

-- no items, whatever the test
no_items : (t : Bool) (l : List ℕ) → l ≡ (if t then [] else []) ++ l
no_items t l = grind arith

-- equal items under the same test, before equal items
same_items : (a b : Bool) (items l m : List ℕ) → a ≡ b → l ≡ m → (if a then items else []) ++ l ≡ (if b then items else []) ++ m
same_items a b items l m e f = cc

-- the items put are those of the spans whose count write has begun
pub puts_items : (shape : Shape) (c : Count) (puts : List Put) (t : ℕ) → items_put shape c puts t ≡ begun_items (spans P shape c (put_looks puts)) t
puts_items shape c [] t = refl
puts_items shape c (Stored seen items ∷ puts) t =
    let a : List Made = scan_phrase (row_read_by P) seen in
    let b : List Made = words_phrase shape c.number items in
    grind (arith, length-append, same_items, puts_items shape (stored_after shape c (Stored seen items)) puts (t - (2 * length a + 2 * length b + 2 * length (batch_phrase shape P c items))))
puts_items shape c (Full seen ∷ puts) t = grind (arith, no_items, puts_items shape c puts (t - (2 * length (scan_phrase (row_read_by P) seen) + 0 + 0)))

-- the items taken are those of the spans that have ended
pub takes_items :
    (shape : Shape) (c : Count) (takes : List Take) (end : End) (t : ℕ) →
    items_taken shape c takes t ≡ ended_items (spans C shape c (take_looks takes end)) t
takes_items shape c [] end t = grind (arith, no_items)
takes_items shape c (Item seen items ∷ takes) end t =
    let a : List Made = scan_phrase (row_read_by C) seen in
    let b : List Made = words_read shape c.number items in
    let d : List Made = batch_phrase shape C c items in
    grind (arith, length-append, same_items, takes_items shape (count_after shape c (Item seen items)) takes end (t - (2 * length a + 2 * length b + 2 * length d)))
takes_items shape c (ItemAfterClose seen again items ∷ takes) end t =
    let x : Span = span_of C shape c (look seen (Asks true)) in
    let z : Span = span_of C shape c (look again (Passes items)) in
    let a : List Made = scan_phrase (row_read_by C) seen in
    let a' : List Made = scan_phrase (row_read_by C) again in
    let b : List Made = words_read shape c.number items in
    let d : List Made = batch_phrase shape C c items in
    let next : Count = count_after shape c (ItemAfterClose seen again items) in
    let phrase : List Made = a ++ Read X true ∷ a' ++ (b ++ d) in
    let number_past : 2 * length phrase ≡ whole x + whole z = grind (arith, length-append) in
    let some : 0 < whole z = omega (arith, length-scan (row_read_by C) again) in
    grind (arith, same_items, no_items, take_looks, takes_items shape next takes end (t - whole x - whole z), nat_tests)
takes_items shape c (Empty seen ∷ takes) end t =
    grind (arith, length-append, no_items, take_looks, takes_items shape c takes end (t - whole (span_of C shape c (look seen (Asks false)))))

-- ---- the rules

-- a rule of each look, by its number
abbrev EachLook : (ℕ → ℕ → Outcome → Type 0) → ℕ → List Look → Type 0
EachLook rule n [] = Unit {0}
EachLook rule n (l ∷ looks) = rule n l.seen l.outcome × EachLook rule (look_number n l.outcome) looks

-- it holds for the look that is there
each_at :
    (rule : ℕ → ℕ → Outcome → Type 0) (s : Side) (shape : Shape) (c : Count) (looks : List Look) → EachLook rule c.number looks →
    (start m : ℕ) (x : Span) → IsSpanAt (spans s shape c looks) start m x → rule (c.number + m) x.seen x.outcome
each_at rule s shape c [] h start m x st = elim st [ ]
each_at rule s shape c (l ∷ looks) h start m x (inl st) = grind arith
each_at rule s shape c (l ∷ looks) h start m x (inr st) = grind (arith, after_counts, after_look, each_at rule s shape (after_look shape c l.outcome) looks h.1 st.0 st.1 x st.4)

-- what is true of each look: the scan returns a number below the modulus, and the items fit
pub record FitsShape (shape : Shape) (seen : ℕ) (o : Outcome) : Type 0 where
  pub below : seen < modulus_of shape
  pub items : AllFit shape (items_of o)

abbrev PutRule : Shape → ℕ → ℕ → Outcome → Type 0
PutRule shape n seen o =
    FitsShape shape seen o ×
    (1 ≤ counts o → distance (modulus_of shape) (n % modulus_of shape) seen + counts o ≤ capacity_of shape) ×
    (counts o ≡ 0 → capacity_of shape ≤ distance (modulus_of shape) (n % modulus_of shape) seen)

abbrev Shows : ℕ → ℕ → ℕ → Type 0
Shows m capacity d = (m ≤ d) × (d ≤ capacity)

abbrev TakeRule : Shape → ℕ → ℕ → Outcome → Type 0
TakeRule shape k seen o =
    FitsShape shape seen o ×
    (1 ≤ counts o → Shows (counts o) (capacity_of shape) (distance (modulus_of shape) seen (k % modulus_of shape))) ×
    (counts o ≡ 0 →
    (distance (modulus_of shape) seen (k % modulus_of shape) ≡ 0) ⊎ (capacity_of shape < distance (modulus_of shape) seen (k % modulus_of shape)))

-- a distance that shows no item is 0 or above the capacity
not_shown : (capacity d : ℕ) → ¬ ((0 < d) × (d ≤ capacity)) → (d ≡ 0) ⊎ (capacity < d)
not_shown capacity d h = grind (arith, at_most_or_above)

puts_keep : (shape : Shape) (n : ℕ) (puts : List Put) → ArePuts shape n puts → EachLook (PutRule shape) n (put_looks puts)
puts_keep shape n [] h = tt
puts_keep shape n (Stored seen items ∷ puts) ((below, room, batch), h) = grind (arith, puts_keep shape (number_past n items) puts h)
puts_keep shape n (Full seen ∷ puts) ((below, full), h) = grind (arith, puts_keep shape n puts h, at_most_or_above)

takes_keep : (shape : Shape) (k : ℕ) (takes : List Take) (end : End) → AreTakes shape k takes end → EachLook (TakeRule shape) k (take_looks takes end)
takes_keep shape k [] end h = grind (arith, not_shown)
takes_keep shape k (Item seen items ∷ takes) end (((below, few, room), batch), h) = grind (arith, takes_keep shape (number_past k items) takes end h)
takes_keep shape k (ItemAfterClose seen again items ∷ takes) end (((below, none), (below', few, room), batch), h) =
    grind (arith, not_shown, takes_keep shape (number_past k items) takes end h)
takes_keep shape k (Empty seen ∷ takes) end ((below, none), h) = grind (arith, not_shown, takes_keep shape k takes end h)

put_rule :
    (shape : Shape) (c : Count) (puts : List Put) → ArePuts shape c.number puts →
    (start m : ℕ) (x : Span) → IsSpanAt (spans P shape c (put_looks puts)) start m x → PutRule shape (c.number + m) x.seen x.outcome
put_rule shape c puts h = each_at (PutRule shape) P shape c (put_looks puts) (puts_keep shape c.number puts h)

-- each put keeps the rule of puts
pub put_rules :
    (shape : Shape) (c : Count) (puts : List Put) → ArePuts shape c.number puts →
    (start m : ℕ) (x : Span) → IsSpanAt (spans P shape c (put_looks puts)) start m x → clocks.IsPutSpan (modulus_of shape) (capacity_of shape) (c.number + m) x
put_rules shape c puts h start m x st = grind (arith, put_rule)

take_rule :
    (shape : Shape) (c : Count) (takes : List Take) (end : End) → AreTakes shape c.number takes end →
    (start m : ℕ) (x : Span) → IsSpanAt (spans C shape c (take_looks takes end)) start m x → TakeRule shape (c.number + m) x.seen x.outcome
take_rule shape c takes end h = each_at (TakeRule shape) C shape c (take_looks takes end) (takes_keep shape c.number takes end h)

-- each take keeps the rule of takes
pub take_rules :
    (shape : Shape) (c : Count) (takes : List Take) (end : End) → AreTakes shape c.number takes end →
    (start m : ℕ) (x : Span) → IsSpanAt (spans C shape c (take_looks takes end)) start m x → clocks.IsTakeSpan (modulus_of shape) (capacity_of shape) (c.number + m) x
take_rules shape c takes end h start m x st = grind (arith, take_rule)

-- the count that a put reads is below the modulus, and its items fit
pub put_fits :
    (shape : Shape) (c : Count) (puts : List Put) → ArePuts shape c.number puts →
    (start m : ℕ) (x : Span) → IsSpanAt (spans P shape c (put_looks puts)) start m x → FitsShape shape x.seen x.outcome
put_fits shape c puts h start m x st = (put_rule shape c puts h start m x st).0

-- the count that a take reads is below the modulus, and its item fits
pub take_fits :
    (shape : Shape) (c : Count) (takes : List Take) (end : End) → AreTakes shape c.number takes end →
    (start m : ℕ) (x : Span) → IsSpanAt (spans C shape c (take_looks takes end)) start m x → FitsShape shape x.seen x.outcome
take_fits shape c takes end h start m x st = (take_rule shape c takes end h start m x st).0

-- ---- the last two looks of a consumer whose last take returns Closed

-- they are a read of the close bit that is 1, and a scan after which nothing is taken
pub last_two : (shape : Shape) (c : Count) (takes : List Take) (seen again : ℕ) → LastTwo (spans C shape c (take_looks takes (Closed seen again)))
last_two shape c [] seen again = two_last _ _ refl refl
last_two shape c (Item u items ∷ takes) seen again = two_after _ _ (last_two shape (after_look shape c (Passes items)) takes seen again)
last_two shape c (ItemAfterClose u v items ∷ takes) seen again = grind (arith, two_after, after_look, last_two shape (after_look shape c (Passes items)) takes seen again)
last_two shape c (Empty u ∷ takes) seen again = two_after _ _ (last_two shape c takes seen again)
