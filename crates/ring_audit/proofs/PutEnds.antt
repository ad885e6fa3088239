-- What was put so far, by the calls whose accesses begin with these events.
use Rattle.std.proofs.Common.{◌≡◌, ◌⊎◌, inl, inr, ℕ, zero, suc, ◌+◌, ◌-◌, ◌*◌, ◌%◌, ◌^◌, ◌<◌, ◌≤◌, Bool, true, false, Option, Some, None, List, [], ◌∷◌, ◌++◌, length, map, nat_lt, if◌then◌else◌, refl, sym, ap, subst, ◌∙◌, arith, append_assoc, append-nil, length-append}
use Rattle.std.proofs.lemmas.Bool.{le-ltb, lt-ltb}
use Rattle.std.proofs.lemmas.List.{map-append, length-map}
use Rattle.std.proofs.lemmas.Nat.{pow_pos}
use Rattle.ring_audit.proofs.Common.{P, S, X, Cell, Access, Event, Shape, Made, Read, Write, access_of, end_event, events_of, IsPrefix, opening_event, RowWrite, row_bit, writes_in, digit_writes}
use Rattle.ring_audit.proofs.Common.{due_writes, zero_reads, scan_phrase, row_read_by, count_behind, open_events, events_of-append, length-events, scan_due, phrases-push, are-push}
use Rattle.bits_core.specs.declared.events.Access.TheVariants as begins
use Rattle.bits_core.specs.Shape.{AllFit, capacity_of, modulus_of, width_of}
use Rattle.register_core.specs.WordState.{ReaderStands, BeginsRead, IsNextRead, due_read}
use Rattle.ring_core.specs.Counts.{number_past, Count, IsCount, first_count, batch_phrase}
use Rattle.ring_core.specs.Puts.{Put, Puts, Stored, Full, stored_after, stored_count, words_phrase, put_phrase, put_phrases, close_phrase, accesses_before_count, IsPut, ArePuts}
use Rattle.ring_core.specs.Items.{events_in, items_put, all_put}
use Rattle.ring_audit.specs.declared.puts.Stage.{Stage}
use Rattle.ring_audit.specs.declared.puts.Stage.TheVariants.{Resting, Scanning, Choosing, Storing, Counting, Closing, Closed}
use Rattle.ring_audit.specs.PutReading.{PutReading, IsPutReading, IsReaderAt, IsMost, InCount, PutsStand, WerePut}
use Rattle.ring_core.proofs.CountRow.{batch_by_below, batch_long, counted_is_count, first_is_count}
use Rattle.ring_audit.proofs.Beginnings.{begin_is}
use Rattle.ring_audit.proofs.Readers.{at_rest, open-short, open-long}
use Rattle.ring_audit.proofs.PutReads.{made_at, at_stage, same_open, read_due}
use Rattle.ring_audit.proofs.PutItems.{first_of, fit-push, words-push, as_write, digits_of}
use Rattle.ring_audit.proofs.TakeEnds.{events_in-append}
use Rattle.ring_core.proofs.Machines.ProducerNext.{room_or_none}

-- ---- items

-- if a put has ended and its count write has begun, its items are put
begun_items :
    (shape : Shape) (c : Count) (seen : ℕ) (items rest : List ℕ) (t : ℕ) → events_in (accesses_before_count shape c.number seen items) < t →
    (if nat_lt (events_in (accesses_before_count shape c.number seen items)) t then items else []) ++ rest ≡ items ++ rest
begun_items shape c seen items rest t l = ap (λ b. (if b then items else []) ++ rest) (lt-ltb (events_in (accesses_before_count shape c.number seen items)) t l)

-- each of these puts that stores has an access of its count write
abbrev AllCount : Shape → Count → List Put → Type 0
AllCount shape c [] = Unit {0}
AllCount shape c (Stored seen items ∷ puts) = (1 ≤ length (batch_phrase shape P c items)) × AllCount shape (stored_after shape c (Stored seen items)) puts
AllCount shape c (Full seen ∷ puts) = AllCount shape c puts

-- the items of puts that have all ended, and of those after them
items-behind :
    (shape : Shape) (c : Count) (xs ys : List Put) (t : ℕ) → AllCount shape c xs → events_in (put_phrases shape c xs) ≤ t →
    items_put shape c (xs ++ ys) t ≡ all_put xs ++ items_put shape (stored_count shape c xs) ys (t - events_in (put_phrases shape c xs))
items-behind shape c [] ys t all l = let none : t - 0 ≡ t = omega arith in ap (items_put shape c ys) (sym none)
items-behind shape c (Stored seen items ∷ xs) ys t (some, all) l =
    let x : Put = Stored seen items in
    let d : Count = stored_after shape c x in
    let here : ℕ = events_in (put_phrase shape c x) in
    let there : ℕ = events_in (put_phrases shape d xs) in
    grind (arith, events_in-append, begun_items, append_assoc, items-behind shape d xs ys (t - here) all (omega (arith, l, events_in-append)))
items-behind shape c (Full seen ∷ xs) ys t all l =
    grind (arith, events_in-append, items-behind shape c xs ys (t - (events_in (put_phrase shape c (Full seen)))) all (omega (arith, l, (events_in-append (put_phrase shape c (Full seen)) (put_phrases shape c xs)))))

-- a put whose count write has not begun has put nothing, and one whose count write has begun has put its items
late : (shape : Shape) (c : Count) (seen : ℕ) (items : List ℕ) (t : ℕ) → t ≤ events_in (accesses_before_count shape c.number seen items) → items_put shape c (Stored seen items ∷ []) t ≡ []
late shape c seen items t l = ap (λ b. (if b then items else []) ++ []) (le-ltb (events_in (accesses_before_count shape c.number seen items)) t l)

early : (shape : Shape) (c : Count) (seen : ℕ) (items : List ℕ) (t : ℕ) → events_in (accesses_before_count shape c.number seen items) < t → items_put shape c (Stored seen items ∷ []) t ≡ items
early shape c seen items t l = begun_items shape c seen items [] t l ∙ append-nil items

-- ---- the events so far

-- they are a prefix of the events of a list that begins with the accesses made, followed by the open one
pub begins_so :
    (made rest : List Made) (o : Option Access) → ((a : Access) → o ≡ Some a → (x : Made) × (more : List Made) × (rest ≡ x ∷ more) × (access_of x ≡ a)) →
    IsPrefix (events_of P made ++ open_events P o) (events_of P (made ++ rest))
begins_so made rest None open_is = (events_of P rest, ap (λ l. l ++ events_of P rest) (append-nil (events_of P made)) ∙ sym (events_of-append P made rest))
begins_so made rest (Some a) open_is =
    let (x, more, rest_is, same) = open_is a refl in (
      end_event P x ∷ events_of P more,
      append_assoc (events_of P made) (opening_event P a ∷ []) (end_event P x ∷ events_of P more)
          ∙ ap (λ z. events_of P made ++ opening_event P z ∷ end_event P x ∷ events_of P more) (sym same)
          ∙ ap (λ z. events_of P made ++ z ∷ end_event P x ∷ events_of P more) (sym (begin_is P x))
          ∙ sym (events_of-append P made (x ∷ more)) ∙ ap (λ l. events_of P (made ++ l)) (sym rest_is),
    )

-- ---- counts

-- calls that continue with a put that stores, or with one that finds no room, or with at most the close
abbrev closes_of : List Put → Bool → Puts
closes_of puts closes = record { puts = puts; closes = closes }

all_count :
    (shape : Shape) (c : Count) (xs : List Put) → IsCount shape c → ArePuts shape c.number xs → AllCount shape c xs
all_count shape c [] is are = record {}
all_count shape c (Stored seen items ∷ xs) is ((below, room, batch), are) =
    (batch_long shape P c items is batch.some (omega (arith, batch.few, batch_by_below shape P)), all_count shape (stored_after shape c (Stored seen items)) xs (counted_is_count shape c items) are)
all_count shape c (Full seen ∷ xs) is (none, are) = all_count shape c xs is are

-- the access that is open is the first of the rest
abbrev OpensRest : Option Access → List Made → Type 0
OpensRest o rest = (a : Access) → o ≡ Some a → (x : Made) × (more : List Made) × (rest ≡ x ∷ more) × (access_of x ≡ a)

none_opens : (o : Option Access) (rest : List Made) → o ≡ None → OpensRest o rest
none_opens o rest none a some = let clash : None ≡ Some a = sym none ∙ some in absurd (cc)

-- no put under way
by_puts :
    (shape : Shape) (r : PutReading) (es : List Event) (items stored : List ℕ) (st : PutsStand shape r es items stored) (closes : Bool) (part rest : List Made) →
    items ≡ all_put st.puts → st.made ≡ put_phrases shape first_count st.puts ++ part → close_phrase closes ≡ part ++ rest → OpensRest r.open_access rest → WerePut shape es items
by_puts shape r es items stored st closes part rest items_are made_is close_is opens =
    let front : List Made = put_phrases shape first_count st.puts in
    let lower : 2 * length st.made ≤ length es = subst (λ l. 2 * length st.made ≤ length l) (sym st.events_are) (open-long P st.made r.open_access) in
    let reached : events_in front ≤ length es = omega (arith, lower, ap length made_is, length-append front part) in
    let program : front ++ close_phrase closes ≡ st.made ++ rest = ap (λ l. front ++ l) close_is ∙ sym (append_assoc front part rest) ∙ ap (λ l. l ++ rest) (sym made_is) in
    record {
      calls = closes_of st.puts closes;
      are = st.are;
      events = grind (arith, begins_so st.made rest r.open_access opens);
      put = items_are ∙ sym (append-nil (all_put st.puts))
          ∙ sym (items-behind shape first_count st.puts [] (length es) (all_count shape first_count st.puts (first_is_count shape) st.are) reached)
          ∙ ap (λ l. items_put shape first_count l (length es)) (append-nil st.puts);
    }

-- a put under way, of which the accesses made are a prefix
by_put :
    (shape : Shape) (r : PutReading) (es : List Event) (items stored : List ℕ) (st : PutsStand shape r es items stored) (x : Put) (part rest : List Made) (more : List ℕ) →
    IsPut shape (count_behind shape st.puts).number x → items ≡ all_put st.puts ++ more → st.made ≡ put_phrases shape first_count st.puts ++ part →
    put_phrase shape (count_behind shape st.puts) x ≡ part ++ rest → OpensRest r.open_access rest →
    ((t : ℕ) → t ≡ length es - events_in (put_phrases shape first_count st.puts) → items_put shape (count_behind shape st.puts) (x ∷ []) t ≡ more) → WerePut shape es items
by_put shape r es items stored st x part rest more is_put items_are made_is phrase_is opens put_so =
    let front : List Made = put_phrases shape first_count st.puts in
    let lower : 2 * length st.made ≤ length es = subst (λ l. 2 * length st.made ≤ length l) (sym st.events_are) (open-long P st.made r.open_access) in
    let reached : events_in front ≤ length es = omega (arith, lower, ap length made_is, length-append front part) in
    let program : put_phrases shape first_count (st.puts ++ x ∷ []) ++ [] ≡ st.made ++ rest =
    append-nil (put_phrases shape first_count (st.puts ++ x ∷ [])) ∙ phrases-push shape first_count st.puts x ∙ ap (λ l. front ++ l) phrase_is
    ∙ sym (append_assoc front part rest) ∙ ap (λ l. l ++ rest) (sym made_is) in
    record {
      calls = closes_of (st.puts ++ x ∷ []) false;
      are = are-push shape first_count st.puts x st.are is_put;
      events = subst (λ l. IsPrefix l (events_of P (put_phrases shape first_count (st.puts ++ x ∷ []) ++ []))) (sym st.events_are)
          (subst (λ l. IsPrefix (events_of P st.made ++ open_events P r.open_access) (events_of P l)) (sym program) (begins_so st.made rest r.open_access opens));
      put = grind (arith, items-behind, all_count);
    }

-- the moment, after the puts that have ended
moment :
    (shape : Shape) (r : PutReading) (es : List Event) (items stored : List ℕ) (st : PutsStand shape r es items stored) (part : List Made) (t : ℕ) →
    st.made ≡ put_phrases shape first_count st.puts ++ part → t ≡ length es - events_in (put_phrases shape first_count st.puts) → (events_in part ≤ t) × (t ≤ suc (events_in part))
moment shape r es items stored st part t made_is e = grind (arith, open-short, open-long, length-append)

scanning_put : (shape : Shape) (r : PutReading) (es : List Event) (items stored : List ℕ) → PutsStand shape r es items stored → r.stage ≡ Scanning → IsReaderAt Scanning r → WerePut shape es items
scanning_put shape r es items stored st stage (idle, scans, some, due) =
    let (rests, made_is) = made_at shape r es items stored st Scanning stage in
    let c : Count = count_behind shape st.puts in
    let z : ℕ = r.scan.zeros in
    let zeros : List Made = zero_reads (row_read_by P) z in
    let here : Made = Read (row_read_by P z) true in
    let below : z < modulus_of shape = subst (λ (s : Shape). z < modulus_of s) st.shape_is scans.below in
    let items_are : items ≡ all_put st.puts ++ [] = rests.items_are ∙ sym (append-nil (all_put st.puts)) in
    let opens_here : (tail : List Made) → OpensRest r.open_access (here ∷ tail) = grind (arith, same_open, scan_due) in
    elim (room_or_none shape (c.number % modulus_of shape) z) [
      | inl room ↦
          let tail : List Made = words_phrase shape c.number (0 ∷ []) ++ batch_phrase shape P c (0 ∷ []) in
          let is_put : IsPut shape c.number (Stored z (0 ∷ [])) = grind (arith, pow_pos) in
          by_put shape r es items stored st (Stored z (0 ∷ [])) zeros (here ∷ tail) [] is_put items_are made_is
          (append_assoc (zeros ++ here ∷ []) (words_phrase shape c.number (0 ∷ [])) (batch_phrase shape P c (0 ∷ [])) ∙ append_assoc zeros (here ∷ []) tail)
          (opens_here tail)
          (λ t e. late shape c z (0 ∷ []) t
          (let (low, high) = moment shape r es items stored st zeros t made_is e in
          let long : length (accesses_before_count shape c.number z (0 ∷ [])) ≡ length (zeros ++ here ∷ []) + length (words_phrase shape c.number (0 ∷ [])) = grind (arith, length-append) in
          let scan_long : length (zeros ++ here ∷ []) ≡ length zeros + 1 = length-append zeros (here ∷ []) in
          omega (arith, high, long, scan_long)))
      | inr none ↦
          by_put shape r es items stored st (Full z) zeros (here ∷ []) [] (below, none) items_are made_is refl (opens_here []) (λ t e. refl)
    ]

-- a put that stores these items and one more
one_more : (shape : Shape) (n seen room : ℕ) (stored : List ℕ) (item : ℕ) → IsMost shape n seen (length stored + room) → 0 < room → AllFit shape stored → item < 2 ^ width_of shape →
    IsPut shape n (Stored seen (stored ++ item ∷ []))
one_more shape n seen room stored item may some fit fits =
    let long : length (stored ++ item ∷ []) ≡ length stored + 1 = length-append stored (item ∷ []) in
    grind (arith, fit-push)

-- its accesses, with the last word in two parts
storing_phrase :
    (shape : Shape) (c : Count) (seen : ℕ) (stored : List ℕ) (item : ℕ) (first second : List RowWrite) → digit_writes item (width_of shape) ≡ first ++ second →
    put_phrase shape c (Stored seen (stored ++ item ∷ [])) ≡
    (scan_phrase (row_read_by P) seen ++ (words_phrase shape c.number stored ++ writes_in (Cell (number_past c.number stored % capacity_of shape)) first)) ++
    (writes_in (Cell (number_past c.number stored % capacity_of shape)) second ++ batch_phrase shape P c (stored ++ item ∷ []))
storing_phrase shape c seen stored item first second e = grind (arith, words-push, map-append, append_assoc)

-- after it comes nothing of the count write
late_word :
    (shape : Shape) (c : Count) (seen : ℕ) (stored : List ℕ) (item t : ℕ) (part behind_it : List Made) (first second : List RowWrite) → t ≤ suc (events_in part) →
    digit_writes item (width_of shape) ≡ first ++ second → 1 ≤ length second →
    part ≡ scan_phrase (row_read_by P) seen ++ (words_phrase shape c.number stored ++ writes_in (Cell (number_past c.number stored % capacity_of shape)) first) →
    items_put shape c (Stored seen (stored ++ item ∷ []) ∷ []) t ≡ []
late_word shape c seen stored item t part behind_it first second high e some part_is = grind (arith, length-map, length-append, words-push, late)

some_digits : (item w : ℕ) → 0 < w → 1 ≤ length (digit_writes item w)
some_digits item w l = grind (arith, length-append)

choosing_put : (shape : Shape) (r : PutReading) (es : List Event) (items stored : List ℕ) → PutsStand shape r es items stored → r.stage ≡ Choosing → IsReaderAt Choosing r → WerePut shape es items
choosing_put shape r es items stored st stage (none, idle) =
    let (s, made_is) = made_at shape r es items stored st Choosing stage in
    let c : Count = count_behind shape st.puts in
    let scan : List Made = scan_phrase (row_read_by P) s.seen in
    let words : List Made = words_phrase shape c.number stored in
    let cell : ℕ = number_past c.number stored % capacity_of shape in
    let items_are : items ≡ all_put st.puts ++ [] = s.items_are ∙ sym (append-nil (all_put st.puts)) in
    elim (zero_or_more r.room) [
      | inl no_room ↦
          let is_put : IsPut shape c.number (Stored s.seen stored) = grind arith in
          let rest : List Made = batch_phrase shape P c stored in
          let es_is : length es ≡ 2 * length st.made = ap length (at_rest P es st.made r.open_access st.events_are none) ∙ length-events P st.made in
          by_put shape r es items stored st (Stored s.seen stored) (scan ++ words) rest [] is_put items_are made_is refl (none_opens r.open_access rest none)
          (λ t e. late shape c s.seen stored t
          (let long : length st.made ≡ length (put_phrases shape first_count st.puts) + length (scan ++ words) =
          ap length made_is ∙ length-append (put_phrases shape first_count st.puts) (scan ++ words) in
          omega (arith, e, es_is, long)))
      | inr some ↦
          let whole : digit_writes 0 (width_of shape) ≡ [] ++ digit_writes 0 (width_of shape) = refl in
          let part_is : scan ++ words ≡ scan ++ (words ++ writes_in (Cell cell) []) = ap (λ l. scan ++ l) (sym (append-nil words)) in
          let rest : List Made = writes_in (Cell cell) (digit_writes 0 (width_of shape)) ++ batch_phrase shape P c (stored ++ 0 ∷ []) in
          by_put shape r es items stored st (Stored s.seen (stored ++ 0 ∷ [])) (scan ++ words) rest [] (one_more shape c.number s.seen r.room stored 0 s.may some s.fit (pow_pos (width_of shape)))
          items_are made_is (storing_phrase shape c s.seen stored 0 [] (digit_writes 0 (width_of shape)) whole ∙ ap (λ l. l ++ rest) (sym part_is)) (none_opens r.open_access rest none)
          (λ t e. late_word shape c s.seen stored 0 t (scan ++ words) [] [] (digit_writes 0 (width_of shape)) (moment shape r es items stored st (scan ++ words) t made_is e).1 whole
          (some_digits 0 (width_of shape) shape.has_digits) part_is)
    ]
  where
    zero_or_more : (n : ℕ) → (n ≡ 0) ⊎ (0 < n)
    zero_or_more zero = inl refl
    zero_or_more (suc n) = inr (omega arith)

storing_put :
    (shape : Shape) (r : PutReading) (es : List Event) (items stored : List ℕ) (st : PutsStand shape r es items stored) → r.stage ≡ Storing → IsReaderAt Storing r →
    (v : Bool) → ((a : Access) → r.open_access ≡ Some a → a ≡ begins.Write (Cell r.word.cell r.word.read) v) →
    ((made : List Made) → ReaderStands r.word made → BeginsRead r.word.width r.word.cell (made ++ Read (Cell r.word.cell r.word.read) v ∷ [])) → WerePut shape es items
storing_put shape r es items stored st stage (idle, width_is, cell_same, below, room, some, opened_so) v opened goes =
    let (s, reads, stands, made_is) = made_at shape r es items stored st Storing stage in
    let c : Count = count_behind shape st.puts in
    let scan : List Made = scan_phrase (row_read_by P) s.seen in
    let words : List Made = words_phrase shape c.number stored in
    let cell : ℕ = number_past c.number stored % capacity_of shape in
    let n : ℕ = r.word.read in
    let first : List RowWrite = digit_writes r.word.value n in
    let here : RowWrite = record { bit = n; value = v } in
    let items_are : items ≡ all_put st.puts ++ [] = s.items_are ∙ sym (append-nil (all_put st.puts)) in
    let (item, fits, (later, e)) = goes reads stands in
    let width_so : r.word.width ≡ width_of shape = width_is ∙ ap width_of st.shape_is in
    let digits : digit_writes item (width_of shape) ≡ first ++ here ∷ map as_write later = grind (arith, digits_of) in
    let part : List Made = scan ++ (words ++ writes_in (Cell r.cell) first) in
    let part_is : part ≡ scan ++ (words ++ writes_in (Cell cell) first) = ap (λ j. scan ++ (words ++ writes_in (Cell j) first)) s.cell_is in
    let tail : List Made = writes_in (Cell cell) (map as_write later) ++ batch_phrase shape P c (stored ++ item ∷ []) in
    let rest : List Made = Write (Cell cell n) v ∷ tail in
    by_put shape r es items stored st (Stored s.seen (stored ++ item ∷ [])) part rest []
    (one_more shape c.number s.seen r.room stored item s.may room s.fit (subst (λ w. item < 2 ^ w) width_so fits))
    items_are made_is (storing_phrase shape c s.seen stored item first (here ∷ map as_write later) digits ∙ ap (λ l. l ++ rest) (sym part_is))
    (λ a o. (Write (Cell cell n) v, tail, refl, ap (λ j. begins.Write (Cell j n) v) (sym (cell_same ∙ s.cell_is)) ∙ sym (opened a o)))
    (λ t f. late_word shape c s.seen stored item t part [] first (here ∷ map as_write later) (moment shape r es items stored st part t made_is f).1 digits (omega arith) part_is)

counting_put : (shape : Shape) (r : PutReading) (es : List Event) (items stored : List ℕ) → PutsStand shape r es items stored → r.stage ≡ Counting → r.row.side ≡ P → IsReaderAt Counting r → WerePut shape es items
counting_put shape r es items stored st stage side (due, opened) =
    let (s, made_is) = made_at shape r es items stored st Counting stage in
    let c : Count = count_behind shape st.puts in
    let scan : List Made = scan_phrase (row_read_by P) s.seen in
    let words : List Made = words_phrase shape c.number s.batch in
    let bits : List Made = writes_in (row_bit P) s.writes in
    let rest : List Made = writes_in (row_bit P) (due_writes r.row) in
    let phrase : put_phrase shape c (Stored s.seen s.batch) ≡ (scan ++ (words ++ bits)) ++ rest = grind (arith, map-append, append_assoc) in
    by_put shape r es items stored st (Stored s.seen s.batch) (scan ++ (words ++ bits)) rest s.batch s.is_put s.items_are made_is phrase
    (λ a o.
    (let (w, more, due_are, is) = first_of r.row a side (opened a o) in
    (Write (S w.bit) w.value, writes_in (row_bit P) more, ap (writes_in (row_bit P)) due_are, sym is)))
    (λ t e. early shape c s.seen s.batch t
    (let long : length st.made ≡ length (put_phrases shape first_count st.puts) + length (scan ++ (words ++ bits)) =
    ap length made_is ∙ length-append (put_phrases shape first_count st.puts) (scan ++ (words ++ bits)) in
    let parts : length (scan ++ (words ++ bits)) ≡ length (scan ++ words) + length bits = ap length (sym (append_assoc scan words bits)) ∙ length-append (scan ++ words) bits in
    by_open s r.open_access refl e long parts))
  where
    by_open :
        (s : InCount shape r st.puts items stored) (o : Option Access) → r.open_access ≡ o → {t : ℕ} → t ≡ length es - events_in (put_phrases shape first_count st.puts) →
        length st.made ≡ length (put_phrases shape first_count st.puts) + length (scan_phrase (row_read_by P) s.seen ++ (words_phrase shape (count_behind shape st.puts).number s.batch ++ writes_in (row_bit P) s.writes)) →
        length (scan_phrase (row_read_by P) s.seen ++ (words_phrase shape (count_behind shape st.puts).number s.batch ++ writes_in (row_bit P) s.writes)) ≡
        length (scan_phrase (row_read_by P) s.seen ++ words_phrase shape (count_behind shape st.puts).number s.batch) + length (writes_in (row_bit P) s.writes) →
        events_in (accesses_before_count shape (count_behind shape st.puts).number s.seen s.batch) < t
    by_open s None o {t = t} e long parts =
        let (u, more, is) = s.begun o in
        let es_is : length es ≡ 2 * length st.made = ap length (at_rest P es st.made r.open_access st.events_are o) ∙ length-events P st.made in
        let some : length (writes_in (row_bit P) s.writes) ≡ suc (length (writes_in (row_bit P) more)) = ap (λ ws. length (writes_in (row_bit P) ws)) is in
        omega (arith, e, long, parts, es_is, some)
    by_open s (Some a) o {t = t} e long parts =
        let es_is : length es ≡ suc (2 * length st.made) = grind (arith, length-append, length-events) in
        omega (arith, e, long, parts, es_is)
      where
        one_more_event : length (events_of P st.made) ≡ 2 * length st.made → length (events_of P st.made) + 1 ≡ suc (2 * length st.made)
        one_more_event f = omega (arith, f)

-- ---- whatever the stage

pub has_put :
    (r : PutReading) → IsPutReading r → (due : Option Access) → due ≡ due_read r.word →
    ((made : List Made) → ReaderStands r.word made → IsNextRead r.word.width r.word.cell made due) →
    (es : List Event) (items stored : List ℕ) → PutsStand r.shape r es items stored → WerePut r.shape es items
has_put r is due due_is nexts es items stored st = by_stage r.stage refl
  where
    by_stage : (stage : Stage) → r.stage ≡ stage → WerePut r.shape es items
    by_stage Resting e =
        let (rests, made_is) = made_at r.shape r es items stored st Resting e in
        let at : IsReaderAt Resting r = at_stage r Resting is e in
        by_puts r.shape r es items stored st false [] [] rests.items_are (made_is ∙ sym (append-nil (put_phrases r.shape first_count st.puts))) refl (none_opens r.open_access [] at.0)
    by_stage Scanning e = scanning_put r.shape r es items stored st e (at_stage r Scanning is e)
    by_stage Choosing e = choosing_put r.shape r es items stored st e (at_stage r Choosing is e)
    by_stage Storing e =
        let at : IsReaderAt Storing r = at_stage r Storing is e in
        let reads : (v : Bool) (made : List Made) → ReaderStands r.word made → BeginsRead r.word.width r.word.cell (made ++ Read (Cell r.word.cell r.word.read) v ∷ []) = λ v made stands.
        (subst (IsNextRead r.word.width r.word.cell made) (due_is ∙ read_due r.word at.3) (nexts made stands) v) in
        by_open r.open_access refl at reads
      where
        by_open :
            (o : Option Access) → r.open_access ≡ o → IsReaderAt Storing r →
            ((v : Bool) (made : List Made) → ReaderStands r.word made → BeginsRead r.word.width r.word.cell (made ++ Read (Cell r.word.cell r.word.read) v ∷ [])) → WerePut r.shape es items
        by_open None o at reads = storing_put r.shape r es items stored st e at true (λ a f. (let clash : None ≡ Some a = sym o ∙ f in absurd (cc))) (reads true)
        by_open (Some b) o at reads =
            let (v, writes) = at.6 b o in
            storing_put r.shape r es items stored st e at v (λ a f. same_open r.open_access a b f o ∙ writes) (reads v)
    by_stage Counting e = counting_put r.shape r es items stored st e is.row_side (at_stage r Counting is e)
    by_stage Closing e =
        let (rests, made_is) = made_at r.shape r es items stored st Closing e in
        let at : IsReaderAt Closing r = at_stage r Closing is e in
        by_puts r.shape r es items stored st true [] (Write X true ∷ []) rests.items_are (made_is ∙ sym (append-nil (put_phrases r.shape first_count st.puts))) refl
        (λ a o. (Write X true, [], refl, same_open r.open_access (begins.Write X true) a at o))
    by_stage Closed e =
        let (rests, made_is) = made_at r.shape r es items stored st Closed e in
        let at : IsReaderAt Closed r = at_stage r Closed is e in
        by_puts r.shape r es items stored st true (Write X true ∷ []) [] rests.items_are made_is refl (none_opens r.open_access [] at)
