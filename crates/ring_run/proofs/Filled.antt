-- What a put that finds the ring full implies about the takes that its putter knows.
use Rattle.std.proofs.Common.{◌≡◌, ℕ, ◌+◌, ◌-◌, ◌*◌, ◌≤◌, Bool, true, false, Some, List, [], ◌∷◌, ◌++◌, length, refl, ap, sym, subst, ◌∙◌, arith, append-nil, length-append}
use Rattle.std.proofs.lemmas.Bool.{le-leb}
use Rattle.bits_core.specs.declared.events.Side.TheVariants.{P, C}
use Rattle.bits_core.specs.declared.events.Event.{Event}
use Rattle.bits_core.specs.declared.shapes.Shape.{Shape}
use Rattle.bits_core.specs.Shape.{capacity_of}
use Rattle.bits_core.specs.Made.{Made, events_of, subhistory, clock, IsPlaceOf, IsPrefix}
use Rattle.ring_core.specs.declared.replies.PutReply.TheVariants as one
use Rattle.ring_core.specs.declared.replies.BatchReply.{BatchReply}
use Rattle.ring_core.specs.declared.replies.BatchReply.TheVariants as reply
use Rattle.ring_core.specs.Counts.{Count, first_count, number_past}
use Rattle.ring_core.specs.Puts.{Put, Stored, Full, Puts, stored_in, stored_count, put_phrases, close_phrase, put_program}
use Rattle.ring_core.specs.Takes.{Take, Item, ItemAfterClose, Empty, Takes, count_after, take_phrase, take_phrases, end_phrase, take_program}
use Rattle.ring_core.specs.Items.{events_in, all_put, all_taken, items_taken}
use Rattle.ring_core.specs.CallsAt.{IsPutAt, takes_ended}
use Rattle.ring_core.specs.Readings.{PutsAreRead, TakesAreFirst}
use Rattle.ring_core.specs.RingLaw.{IsRun, InEveryRun, FullIsFresh}
use Rattle.ring_core.specs.ProducerState.{item_reply}
use Rattle.ring_core.specs.ProducerCalls as puts
use Rattle.ring_core.specs.ProducerCalls.{and_put}
use Rattle.ring_seats.specs.Rule.{Stands}
use Rattle.ring_ends.specs.Ends.{HasPuts, HasTakes, PutAdds, HasPutAll}
use Rattle.ring_run.specs.Laws.{FullAfterMeeting, ItemFullAfterMeeting, PutsAdd}
use Rattle.ring_ends.proofs.Lists.{events_of-append, length-events_of}
use Rattle.ring_run.proofs.Emptied.{all_made, behind_known, by_true, known_first, later, past_is}
use Rattle.ring_core.proofs.Readings.Over.{puts-append as put_phrases-append}

-- ---- how many items are stored, and how many are taken by takes that have ended

stored_is : (n : ℕ) (puts : List Put) → stored_in n puts ≡ n + length (all_put puts)
stored_is n [] = omega arith
stored_is n (Full seen ∷ puts) = stored_is n puts
stored_is n (Stored seen items ∷ puts) = omega (arith, stored_is (number_past n items) puts, past_is n items, length-append items (all_put puts))

-- complete takes have ended, even if more follow
all_ended :
    (shape : Shape) (c : Count) (xs more : List Take) (t : ℕ) → events_in (take_phrases shape c xs) ≤ t →
    length (all_taken xs) ≤ length (items_taken shape c (xs ++ more) t)
all_ended shape c [] more t le = omega arith
all_ended shape c (Item seen items ∷ xs) more t le =
    let first : List Made = take_phrase shape c (Item seen items) in
    let next : Count = count_after shape c (Item seen items) in
    grind (arith, length-append, by_true, le-leb, all_ended shape next xs more (t - events_in first) (omega (arith, le, length-append first (take_phrases shape next xs))))
all_ended shape c (ItemAfterClose seen again items ∷ xs) more t le =
    let first : List Made = take_phrase shape c (ItemAfterClose seen again items) in
    let next : Count = count_after shape c (ItemAfterClose seen again items) in
    grind (arith, length-append, by_true, le-leb, all_ended shape next xs more (t - events_in first) (omega (arith, le, length-append first (take_phrases shape next xs))))
all_ended shape c (Empty seen ∷ xs) more t le =
    let first : List Made = take_phrase shape c (Empty seen) in
    let next : Count = count_after shape c (Empty seen) in
    all_ended shape next xs more (t - events_in first) (omega (arith, le, length-append first (take_phrases shape next xs)))

-- ---- the put that finds the ring full

module _ (law : InEveryRun FullIsFresh) (first : TakesAreFirst)
    (shape : Shape) (known before after : List Event) (takes : Takes) (calls : Puts) (seen : ℕ) (is_open : calls.closes ≡ false)
    (whole : HasTakes shape (subhistory C known) takes) (was : HasPuts shape before calls) (begins : IsPrefix (subhistory P known) before)
    (st : Stands shape P after known) (has : HasPuts shape after (and_put calls (Full seen))) where
  abbrev more : Puts
  more = and_put calls (Full seen)

  run : IsRun shape st.history more st.ring.takes
  run = grind (arith, append-nil)

  start : ℕ
  start = events_in (put_phrases shape first_count calls.puts)

  is_put : IsPutAt shape more (Full seen) (stored_in 0 calls.puts) start (events_in (put_phrases shape first_count (calls.puts ++ Full seen ∷ [])))
  unfolding start
  is_put = record { before = calls.puts; after = []; among = refl; number = refl; starts = refl; stops = refl }

  fresh : (place : ℕ) × IsPlaceOf P st.history start place × (takes_ended shape st.ring.takes (clock C st.history place) + capacity_of shape ≤ stored_in 0 calls.puts)
  fresh = law shape st.history more st.ring.takes run seen (stored_in 0 calls.puts) start (events_in (put_phrases shape first_count (calls.puts ++ Full seen ∷ []))) is_put (all_made P st (put_phrases shape first_count (calls.puts ++ Full seen ∷ [])) has.list_is)

  abbrev place : ℕ
  place = fresh.0

  known_before : length known ≤ place
  unfolding start
  known_before = later P st (put_phrases shape first_count calls.puts) (close_phrase calls.closes) place begins was.list_is (ap close_phrase is_open) fresh.1

  are_first : (others : List Take) × (st.ring.takes.takes ≡ takes.takes ++ others)
  are_first = let follows = st.ring.run.takes_follow in (first shape takes st.ring.takes whole.are follows.are (known_first P st C whole.list_is follows.events)).0

  known_long : length (subhistory C known) ≡ 2 * (length (take_phrases shape first_count takes.takes) + length (end_phrase takes.end))
  known_long = omega (arith, ap length whole.list_is, length-events_of C (take_program shape takes), length-append (take_phrases shape first_count takes.takes) (end_phrase takes.end))

  -- the known takes had ended when it began
  pub filled : length (all_taken takes.takes) + capacity_of shape ≤ length (all_put calls.puts)
  filled =
      let t : ℕ = clock C st.history place in
      let late : length (subhistory C known) ≤ t = behind_known P st C place known_before in
      omega (arith, all_ended, known_long, ap (λ l. length (items_taken shape first_count l t)) are_first.1, fresh.2, stored_is 0 calls.puts)

-- ---- the law

full_of : (x : Put) → puts.put_reply_to x ≡ reply.Full → (seen : ℕ) × (x ≡ Full seen)
full_of (Stored seen items) e = absurd (cc)
full_of (Full seen) e = (seen, refl)

-- what the put with this reply adds
full_adds :
    (shape : Shape) (before after : List Event) (calls : Puts) (items : List ℕ) (closed : Bool) → PutAdds closed shape calls items reply.Full before after →
    (seen : ℕ) × (closed ≡ false) × HasPuts shape after (and_put calls (Full seen))
full_adds shape before after calls items true a = absurd (cc)
full_adds shape before after calls items false (x, is, replied, has) = grind (arith, full_of)

pub full-after : InEveryRun FullIsFresh → TakesAreFirst → PutsAreRead → FullAfterMeeting
full-after law first read shape known before after takes calls items whole was begins st put =
    let same : put.calls ≡ calls = read shape put.calls calls put.before_is.are was.are (sym put.before_is.list_is ∙ was.list_is) in
    let adds : PutAdds calls.closes shape calls items reply.Full before after = subst (λ (p : Puts). PutAdds p.closes shape p items reply.Full before after) same put.adds in
    let (seen, is_open, has) = full_adds shape before after calls items calls.closes adds in
    filled law first shape known before after takes calls seen is_open whole was begins st has

full_answer : (answer : BatchReply) → Some one.Full ≡ item_reply (Some answer) → answer ≡ reply.Full
full_answer (reply.Stored n) e = absurd (cc)
full_answer reply.Full e = refl
full_answer reply.Closed e = absurd (cc)

pub item-full-after : InEveryRun FullIsFresh → TakesAreFirst → PutsAreRead → ItemFullAfterMeeting
item-full-after law first read shape known before after takes calls item whole was begins st (answer, is, put) =
    full-after law first read shape known before after takes calls (item ∷ []) whole was begins st (subst (λ r. HasPutAll shape (item ∷ []) before after r) (full_answer answer is) put)

-- ---- a put adds to the list

one_more : (shape : Shape) (calls : Puts) (x : Put) → calls.closes ≡ false → (rest : List Made) × (put_program shape (and_put calls x) ≡ put_program shape calls ++ rest)
one_more shape calls x is_open =
    let phrases : List Made = put_phrases shape first_count calls.puts in
    let program : put_program shape calls ≡ phrases = ap (λ (b : Bool). phrases ++ close_phrase b) is_open ∙ append-nil phrases in
    let last : List Made = put_phrases shape (stored_count shape first_count calls.puts) (x ∷ []) in
    (last, append-nil (put_phrases shape first_count (calls.puts ++ x ∷ [])) ∙ put_phrases-append shape first_count calls.puts (x ∷ []) ∙ ap (λ l. l ++ last) (sym program))

pub puts-add : PutsAdd
puts-add shape items before after answer put = go put.calls.closes refl put.adds
  where
    go : (closed : Bool) → put.calls.closes ≡ closed → PutAdds closed shape put.calls items answer before after → IsPrefix before after
    go true e a = ([], append-nil before ∙ sym a.1)
    go false e (x, is, replied, has) =
        let (rest, same) = one_more shape put.calls x e in
        (events_of P rest, ap (λ l. l ++ events_of P rest) put.before_is.list_is ∙ sym (events_of-append P (put_program shape put.calls) rest) ∙ ap (events_of P) (sym same) ∙ sym has.list_is)
