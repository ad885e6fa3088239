-- What the producer's actor counts by its accesses, and what it has put.
use Rattle.std.proofs.Common.{◌≡◌, ℕ, ◌+◌, ◌-◌, ◌*◌, ◌/◌, ◌%◌, ◌<◌, ◌≤◌, Bool, true, false, cond, Option, Some, None, List, [], ◌∷◌, ◌++◌, length, take, drop, refl, sym, ap, ap₂, subst, ◌∙◌, append_assoc, append-nil, length-append, arith}
use Rattle.std.specs.Prelude.{nat_lt}
use Rattle.std.proofs.lemmas.Bool.{ltb-false}
use Rattle.ring_player.proofs.Common.{P, Access, Shape, batch_of, modulus_of, width_of, fulls, puts_over, Content, AreAttempts, ArePutsOf, offered, events_of-append, length-events, past_is}
use Rattle.bits_core.specs.declared.events.Bit.TheVariants as bit
use Rattle.bits_core.specs.Made.{Made, Read, Write, answered, events_of, IsPrefix, opening_event}
use Rattle.ring_core.specs.Counts.{batch_phrase, Count, first_count}
use Rattle.ring_core.specs.Items.{all_put, events_in, items_put}
use Rattle.ring_core.specs.ProducerCalls.{HasCallMore, room_in}
use Rattle.ring_core.specs.ProducerState.{Call, call_of, Close, ProducerState, Put}
use Rattle.ring_core.specs.Puts as puts
use Rattle.ring_core.specs.Puts.{accesses_before_count, ArePuts, close_phrase, Full, put_phrase, put_phrases, put_program, Puts, Stored, stored_after, stored_in}
use Rattle.ring_player.specs.Actors.{digits_by, digits_in, HasWritten, IsAsked, PutActorStands, items_begun, put_once, PutTally, so_far, with_open}
use Rattle.ring_player.specs.SoFar.{PutSoFar}
use Rattle.ring_core.proofs.Readings.Over.{calls_all_over, calls_cut_over, puts_total}
use Rattle.ring_player.proofs.Headlines.{drop-drop, parts}
use Rattle.ring_player.proofs.Moves.{begins-trans, no_open, so_far_begins, so_far_length}
use Rattle.ring_player.proofs.Nexts.{IsNextPut, NextPut}
use Rattle.ring_player.proofs.Puttings.{calls_asked, next_in}
use Rattle.ring_player.proofs.Written.{begun-append, digits-append, put_begun, put_nothing}
use Rattle.ring_core.proofs.LawLemmas.{counts_are_written_numbers}

-- ---- one more access

digit_more : (a : Access) (v : Bool) → digits_in (answered a v ∷ []) ≡ digits_by (Some a)
digit_more a v = grind arith

begun_more : (w n seen : ℕ) (a : Access) (v : Bool) → items_begun w n seen (answered a v ∷ []) ≡ put_once (Some a) (n / w) seen
begun_more w n seen a v = grind arith

-- what is begun with one more access
begun_with : (w : ℕ) (list : List Made) (a : Access) (v : Bool) → items_begun w 0 0 (list ++ answered a v ∷ []) ≡ put_once (Some a) (digits_in list / w) (items_begun w 0 0 list)
begun_with w list a v = grind (arith, begun-append, begun_more)

pub begins_writing :
    (script : Content) (digits put : ℕ) (list : List Made) (a : Access) (due : Option Access) (width now : ℕ) → due ≡ Some a → width ≡ width_of script.shape → now ≡ put_once due (digits / width) put →
    HasWritten script digits put list None → HasWritten script digits now list (Some a)
begins_writing script digits put list a due width now due_is width_is now_is s = grind (arith, begun_with)

pub ends_writing :
    (script : Content) (digits put : ℕ) (list : List Made) (a : Access) (v : Bool) (due : Option Access) (more : ℕ) → due ≡ Some a → more ≡ digits_by due → HasWritten script digits put list (Some a) →
    HasWritten script (digits + more) put (list ++ answered a v ∷ []) None
ends_writing script digits put list a v due more due_is more_is s = grind (arith, digit_more, digits-append, begun_with)

-- ---- no more than there are accesses

pub digits_few : (list : List Made) → digits_in list ≤ length list
digits_few [] = omega arith
digits_few (Read b v ∷ list) = omega (arith, digits_few list)
digits_few (Write (bit.Cell j i) v ∷ list) = omega (arith, digits_few list)
digits_few (Write (bit.S i) v ∷ list) = omega (arith, digits_few list)
digits_few (Write (bit.R i) v ∷ list) = omega (arith, digits_few list)
digits_few (Write bit.X v ∷ list) = omega (arith, digits_few list)

pub digit_few : (due : Option Access) → digits_by due ≤ 1
digit_few due = grind arith

fulls_few : (shape : Shape) (c : Count) (list : List puts.Put) → fulls list ≤ length (put_phrases shape c list)
fulls_few shape c [] = omega arith
fulls_few shape c (Stored u items ∷ list) = grind (arith, length-append, fulls_few shape (stored_after shape c (Stored u items)) list)
fulls_few shape c (Full u ∷ list) = grind (arith, length-append, fulls_few shape (stored_after shape c (Full u)) list)

pub full_few : (script : Content) (p : ProducerState) (kept : PutTally) (list : List Made) (o : Option Access) → PutActorStands script p kept list o → kept.full ≤ length list
full_few script p kept list o s = grind (arith, fulls_few, length-append)

-- ---- what is put are the first of the script's items

begin_take : (xs ys : List ℕ) → IsPrefix xs ys → xs ≡ take (length xs) ys
begin_take [] [] p = refl
begin_take [] (y ∷ ys) p = refl
begin_take (x ∷ xs) [] (r, e) = absurd (cc)
begin_take (x ∷ xs) (y ∷ ys) (r, e) = grind (arith, begin_take xs ys (r, cc))

put_first : (shape : Shape) (c : Count) (list : List puts.Put) (t : ℕ) → IsPrefix (items_put shape c list t) (all_put list)
put_first shape c [] t = ([], refl)
put_first shape c (Full u ∷ list) t = put_first shape c list (t - events_in (put_phrase shape c (Full u)))
put_first shape c (Stored u items ∷ list) t =
    by_test (put_first shape next list later) (nat_lt front t) refl
  where
    next : Count
    next = stored_after shape c (Stored u items)

    front : ℕ
    front = events_in (accesses_before_count shape c.number u items)

    later : ℕ
    later = t - events_in (put_phrase shape c (Stored u items))

    by_test : IsPrefix (items_put shape next list later) (all_put list) → (b : Bool) → nat_lt front t ≡ b → IsPrefix (cond b items [] ++ items_put shape next list later) (items ++ all_put list)
    by_test (r, e) true f = (r, append_assoc items (items_put shape next list later) r ∙ ap (λ l. items ++ l) e)
    by_test (r, e) false f =
        let none : items_put shape next list later ≡ [] = put_nothing shape next list later (omega (arith, ltb-false front t f, length-append (accesses_before_count shape c.number u items) (batch_phrase shape P c items))) in
        (items ++ all_put list, ap (λ (l : List ℕ). [] ++ l ++ (items ++ all_put list)) none)

attempts_first : (script : Content) (n : ℕ) (list : List puts.Put) → AreAttempts script n list → IsPrefix (all_put list) (drop n script.items)
attempts_first script n [] m = (drop n script.items, refl)
attempts_first script n (Stored seen items ∷ list) (l, is, m) =
    let room : ℕ = room_in script.shape (n % modulus_of script.shape) seen in
    let left : List ℕ = drop n script.items in
    let (r, e) = attempts_first script (puts.number_after n (Stored seen items)) list m in
    let there : puts.number_after n (Stored seen items) ≡ n + length (take room (offered script n)) = past_is n items ∙ ap (λ t. n + length t) is in (
      r,
      append_assoc items (all_put list) r ∙ ap₂ (λ (x : List ℕ) (y : List ℕ). x ++ y) is (e ∙ ap (λ k. drop k script.items) there ∙ sym (drop-drop (length (take room (offered script n))) n script.items))
          ∙ parts room (batch_of script.shape) left,
    )
attempts_first script n (Full seen ∷ list) (l, is, m) = attempts_first script n list m

none_dropped : (xs : List ℕ) → drop 0 xs ≡ xs
none_dropped xs = grind arith

-- ---- what was put so far

with_open_length : (list : List Made) (o : Option Access) → (length (so_far P list o) ≤ 2 * length (with_open list o)) × (2 * length (with_open list o) ≤ length (so_far P list o) + 1)
with_open_length list None = (omega (arith, length-events P list), omega (arith, length-events P list))
with_open_length list (Some a) = (
  omega (arith, length-events P list, length-append (events_of P list) (opening_event P a ∷ []), length-append list (answered a true ∷ [])),
  omega (arith, length-events P list, length-append (events_of P list) (opening_event P a ∷ []), length-append list (answered a true ∷ [])),
)

-- for one reading
reading_so_far :
    (script : Content) (digits put : ℕ) (kept : PutTally) (list : List Made) (o : Option Access) → HasWritten script digits put list o → (more : Puts) → ArePutsOf script more →
    IsPrefix (with_open list o) (put_program script.shape more) → IsPrefix (so_far P list o) (events_of P (put_program script.shape more)) →
    (ended : List puts.Put) → puts_over script.shape first_count more.puts (length (so_far P list o)) ≡ ended → kept.full ≡ fulls ended → kept.stored ≡ stored_in 0 ended →
    PutSoFar script.shape (so_far P list o) (take put script.items) kept
reading_so_far script digits put kept list o s more asked begins events ended over full stored =
    let shape : Shape = script.shape in
    let t : ℕ = length (so_far P list o) in
    let bounds = with_open_length list o in
    let w : ℕ = width_of shape in
    let start : 0 * w ≡ 0 = omega arith in
    let none : 0 + length (items_put shape first_count more.puts t) ≡ length (items_put shape first_count more.puts t) = omega arith in
    let count : put ≡ length (items_put shape first_count more.puts t) =
    s.put_is ∙ ap (λ n. items_begun w n 0 (with_open list o)) (sym start)
    ∙ put_begun shape first_count more.puts more.closes (with_open list o) t (counts_are_written_numbers shape).0 asked.are begins bounds.0 bounds.1 ∙ none in
    let first : IsPrefix (items_put shape first_count more.puts t) script.items =
    begins-trans (items_put shape first_count more.puts t) (all_put more.puts) script.items (put_first shape first_count more.puts t)
    (subst (IsPrefix (all_put more.puts)) (none_dropped script.items) (attempts_first script 0 more.puts asked.attempts)) in
    grind (arith, begin_take)

pub put_so_far :
    (script : Content) (p : ProducerState) (kept : PutTally) (digits put : ℕ) (list : List Made) (o due : Option Access) → PutActorStands script p kept list o →
    HasWritten script digits put list o → NextPut p due → ((a : Access) → o ≡ Some a → due ≡ Some a) → PutSoFar script.shape (so_far P list o) (take put script.items) kept
put_so_far script p kept digits put list o due s h next is_due = by_due due is_due (call_of p) s.asked (next_in script p kept list o due s next)
  where
    calls : Puts
    calls = s.calls

    shape : Shape
    shape = script.shape

    front : ℕ
    front = length (put_phrases shape first_count calls.puts)

    program_parts : (more : Puts) → length (put_program shape more) ≡ length (put_phrases shape first_count more.puts) + length (close_phrase more.closes)
    program_parts more = length-append (put_phrases shape first_count more.puts) (close_phrase more.closes)

    -- all events of the calls that are over have come
    come : 2 * front ≤ length (so_far P list o)
    come = omega (arith, s.made.long, program_parts calls, so_far_length P list o)

    of_calls : IsAsked script calls None → ArePutsOf script calls
    of_calls closes = record { are = subst (λ (t : Shape). ArePuts t 0 calls.puts) s.same_shape s.there.are; attempts = s.made.attempts; closes = closes }

    some_same : (a b : Access) → Some a ≡ Some b → a ≡ b
    some_same a b e = cc

    open_begins : (o : Option Access) (a : Access) → ((b : Access) → o ≡ Some b → Some a ≡ Some b) → IsPrefix (with_open list o) (list ++ answered a true ∷ [])
    open_begins None a f = (answered a true ∷ [], refl)
    open_begins (Some b) a f = ([], append-nil (list ++ answered b true ∷ []) ∙ ap (λ x. list ++ answered x true ∷ []) (sym (some_same a b (f b refl))))

    over_more : (c : Call) (more : Puts) → HasCallMore shape c calls more → length list < length (put_program shape more) → puts_over shape first_count more.puts (length (so_far P list o)) ≡ calls.puts
    over_more (Put items) more (x, of, more_is, are, still) longer =
        let t : ℕ = length (so_far P list o) in
        let size : length (put_program shape more) ≡ length (put_phrases shape first_count (calls.puts ++ x ∷ [])) = grind (arith, append-nil) in
        ap (λ (m : Puts). puts_over shape first_count m.puts t) more_is ∙ calls_cut_over (put_phrase shape) (stored_after shape) (put_phrases shape) (puts_total shape) first_count calls.puts x t come (omega (arith, longer, size, so_far_length P list o))
    over_more Close more (more_is, are, still) longer =
        let t : ℕ = length (so_far P list o) in
        ap (λ (m : Puts). puts_over shape first_count m.puts t) more_is ∙ calls_all_over (put_phrase shape) (stored_after shape) (put_phrases shape) (puts_total shape) first_count calls.puts t come

    by_due :
        (due : Option Access) → ((a : Access) → o ≡ Some a → due ≡ Some a) → (c : Option Call) → IsAsked script calls c → IsNextPut shape calls c list due →
        PutSoFar shape (so_far P list o) (take put script.items) kept
    by_due None f None asked whole =
        let none : o ≡ None = no_open o f in
        let made : with_open list o ≡ put_program shape calls = ap (with_open list) none ∙ whole in
        let es : so_far P list o ≡ events_of P (put_program shape calls) = ap (so_far P list) none ∙ ap (events_of P) whole in
        reading_so_far script digits put kept list o h calls (of_calls asked) ([], append-nil (with_open list o) ∙ made) ([], append-nil (so_far P list o) ∙ es)
        calls.puts (calls_all_over (put_phrase shape) (stored_after shape) (put_phrases shape) (puts_total shape) first_count calls.puts (length (so_far P list o)) come) s.made.filled s.made.counted
    by_due None f (Some c) asked next = absurd next
    by_due (Some a) f None asked next = absurd next
    by_due (Some a) f (Some c) asked next =
        let (more, has, (rest, e)) = next true (λ l. refl) in
        let longer : length list < length (put_program shape more) = omega (arith, ap length e, length-append (list ++ answered a true ∷ []) rest, length-append list (answered a true ∷ [])) in
        let whole : IsPrefix (list ++ answered a true ∷ []) (put_program shape more) = (rest, e) in
        let whole_events : IsPrefix (events_of P (list ++ answered a true ∷ [])) (events_of P (put_program shape more)) = grind (arith, events_of-append P (list ++ answered a true ∷ []) rest) in
        reading_so_far script digits put kept list o h more (calls_asked script c calls more s.made.attempts asked has)
        (begins-trans (with_open list o) (list ++ answered a true ∷ []) (put_program shape more) (open_begins o a f) whole)
        (begins-trans (so_far P list o) (events_of P (list ++ answered a true ∷ [])) (events_of P (put_program shape more)) (so_far_begins P list o a true f) whole_events)
        calls.puts (over_more c more has longer) s.made.filled s.made.counted
