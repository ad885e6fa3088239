-- What a take that finds the ring empty implies about the puts that its taker knows.
use Rattle.std.proofs.Common.{◌≡◌, ⊎_elim, ℕ, zero, suc, ◌+◌, ◌-◌, ◌*◌, ◌<◌, ◌≤◌, nat_le, if◌then◌else◌, Bool, true, false, Option, Some, None, List, [], ◌∷◌, ◌++◌, length, refl, ap, sym, subst, ◌∙◌, arith, append-nil, append_assoc, length-append}
use Rattle.std.proofs.lemmas.Bool.{le-leb}
use Rattle.std.specs.Prelude.{slice_get}
use native.Mathlib.Decide.{dec_lt}
use Rattle.bits_core.specs.declared.events.Side.{Side}
use Rattle.bits_core.specs.declared.events.Side.TheVariants.{P, C}
use Rattle.bits_core.specs.declared.events.Bit.TheVariants.{X}
use Rattle.bits_core.specs.declared.events.Event.{Event}
use Rattle.bits_core.specs.declared.shapes.Shape.{Shape}
use Rattle.bits_core.specs.Intervals.{IsWrite}
use Rattle.bits_core.proofs.Statements.{MadeIsAccess}
use Rattle.bits_core.specs.Made.{Made, Write, events_of, subhistory, clock, place_of, IsPlaceOf, IsPrefix}
use Rattle.ring_core.specs.declared.replies.TakeReply.{TakeReply}
use Rattle.ring_core.specs.declared.replies.TakeReply.TheVariants as reply
use Rattle.ring_core.specs.declared.replies.TakeBatchReply.{TakeBatchReply}
use Rattle.ring_core.specs.declared.replies.TakeBatchReply.TheVariants as batch_reply
use Rattle.ring_core.specs.Counts.{Count, first_count, number_past}
use Rattle.ring_core.specs.Puts.{Put, Stored, Full, Puts, stored_after, put_phrase, put_phrases, close_phrase, put_program}
use Rattle.ring_core.specs.Takes.{Take, Item, ItemAfterClose, Empty, End, Open, Takes, taken_count, count_after, take_phrase, take_phrases, end_phrase, take_program, taken_in}
use Rattle.ring_core.specs.Items.{events_in, items_taken, all_put, all_taken, taken_of}
use Rattle.ring_core.specs.CallsAt.{IsTakeAt, items_ended, puts_ended, takes_ended}
use Rattle.ring_core.specs.Readings.{PutsAreFirst, TakesAreRead}
use Rattle.ring_core.specs.RingLaw.{IsRun, InEveryRun, EmptyIsFresh}
use Rattle.ring_core.specs.ConsumerCalls as takes
use Rattle.ring_core.specs.ConsumerCalls.{and_take, ends_closed, reply_at_end}
use Rattle.ring_seats.specs.Rule.{Stands}
use Rattle.ring_ends.specs.Ends.{HasPuts, HasTakes, HasTakenAll, HasTakenOf, TakeAdds, TakeAllAdds}
use Rattle.ring_run.specs.Laws.{EmptyAfterMeeting, ItemEmptyAfterMeeting, ItemTakesAdd, TakesAdd}
use Rattle.ring_ends.proofs.Lists.{events_of-append, length-events_of}
use Rattle.bits_core.proofs.OwnEvents.{own-no as own_theirs, own-yes as own_mine, by_case, subhistory-append}
use Rattle.ring_core.proofs.RingHolds.{there}
pub use Rattle.ring_core.proofs.CountRow.{past_is}
use Rattle.ring_core.proofs.Machines.TakeCalls.{reply-push as last-snoc}

-- ---- how many items the calls that have ended store and take

pub by_true : (b : Bool) (xs ys : List ℕ) → b ≡ true → length ((if b then xs else []) ++ ys) ≡ length xs + length ys
by_true true xs ys e = length-append xs ys
by_true false xs ys e = absurd (cc)

at_most : (b : Bool) (xs ys : List ℕ) → length ((if b then xs else []) ++ ys) ≤ length xs + length ys
at_most true xs ys = omega (arith, length-append xs ys)
at_most false xs ys = omega arith

-- puts that have all ended have stored all their items
ended_least :
    (shape : Shape) (c : Count) (puts more : List Put) (t : ℕ) → events_in (put_phrases shape c puts) ≤ t →
    length (all_put puts) ≤ length (items_ended shape c (puts ++ more) t)
ended_least shape c [] more t l = omega arith
ended_least shape c (x ∷ puts) more t l =
    let next : Count = stored_after shape c x in
    let phrase : ℕ = events_in (put_phrase shape c x) in
    let parts = length-append (put_phrase shape c x) (put_phrases shape next puts) in
    let here = by_true (nat_le phrase t) (all_put (x ∷ [])) (items_ended shape next (puts ++ more) (t - phrase)) (le-leb phrase t (omega (arith, l, parts))) in
    omega (arith, here, ended_least shape next puts more (t - phrase) (omega (arith, l, parts)), one_more_put x puts)
  where
    one_more_put : (x : Put) (puts : List Put) → length (all_put (x ∷ puts)) ≡ length (all_put (x ∷ [])) + length (all_put puts)
    one_more_put (Stored seen items) puts = omega (arith, length-append items (all_put puts), length-append items [])
    one_more_put (Full seen) puts = omega arith

-- takes take no more items than all of them
ended_most : (shape : Shape) (c : Count) (takes : List Take) (t : ℕ) → length (items_taken shape c takes t) ≤ length (all_taken takes)
ended_most shape c [] t = omega arith
ended_most shape c (Item seen items ∷ takes) t =
    let phrase : ℕ = events_in (take_phrase shape c (Item seen items)) in
    let next : Count = count_after shape c (Item seen items) in
    omega (arith, at_most (nat_le phrase t) items (items_taken shape next takes (t - phrase)), ended_most shape next takes (t - phrase), length-append items (all_taken takes))
ended_most shape c (ItemAfterClose seen again items ∷ takes) t =
    let phrase : ℕ = events_in (take_phrase shape c (ItemAfterClose seen again items)) in
    let next : Count = count_after shape c (ItemAfterClose seen again items) in
    omega (arith, at_most (nat_le phrase t) items (items_taken shape next takes (t - phrase)), ended_most shape next takes (t - phrase), length-append items (all_taken takes))
ended_most shape c (Empty seen ∷ takes) t = ended_most shape (count_after shape c (Empty seen)) takes (t - events_in (take_phrase shape c (Empty seen)))

none_more : (xs : List Take) (seen : ℕ) → all_taken (xs ++ Empty seen ∷ []) ≡ all_taken xs
none_more [] seen = refl
none_more (x ∷ xs) seen = ap (λ l. taken_of x ++ l) (none_more xs seen)

-- ---- own events

-- before a place of a prefix of the history a side has no more events than in the prefix, and after it no fewer
inside : (s : Side) (known more : List Event) (place : ℕ) → place ≤ length known → clock s (known ++ more) place ≤ length (subhistory s known)
inside s known more zero l = omega arith
inside s [] more (suc n) l = absurd (omega (arith, l))
inside s (e ∷ known) more (suc n) l = grind (arith, by_case, own_mine, own_theirs, inside s known more n (omega (arith, l)))

behind : (s : Side) (known more : List Event) (place : ℕ) → length known ≤ place → length (subhistory s known) ≤ clock s (known ++ more) place
behind s [] more place l = omega arith
behind s (e ∷ known) more zero l = absurd (omega (arith, l))
behind s (e ∷ known) more (suc n) l = grind (arith, by_case, own_mine, own_theirs, behind s known more n (omega (arith, l)))

-- one of a side's own events that is not among those of the known history comes after it
later_than : (s : Side) (known more h : List Event) (start place : ℕ) → known ++ more ≡ h → clock s h (suc place) ≡ suc start → length (subhistory s known) ≤ start → length known ≤ place
later_than s known more h start place is number_past long = go (dec_lt place (length known))
  where
    go : Dec (place < length known) → length known ≤ place
    go (yes l) =
        absurd (omega (arith, inside, ap (λ l. clock s l (suc place)) is, number_past, long))
    go (no l) = omega (arith, l)

-- ---- a call whose events come after a history that its side knows

module _ {shape : Shape} {known : List Event} (x : Side) {after : List Event} (st : Stands shape x after known) where
  -- it began after the known history, in which all its side's events are those of complete calls
  pub later : {before : List Event} (phrases ends : List Made) (place : ℕ) → IsPrefix (subhistory x known) before → before ≡ events_of x (phrases ++ ends) → ends ≡ []
      → IsPlaceOf x st.history (events_in phrases) place → length known ≤ place
  later {before} phrases ends place begins is none at =
      grind (arith, later_than x known st.begins.0 st.history (events_in phrases) place st.begins.1 at.past (omega (arith, ap length is, length-events_of x (phrases ++ ends), length-append phrases ends, ap length none, ap length begins.1, length-append (subhistory x known) begins.0)), length-events_of x (phrases ++ ends), length-append phrases ends, length-append (subhistory x known) begins.0)

  -- if its list is that of complete calls, all their accesses are made
  pub all_made : (phrases : List Made) → after ≡ events_of x (phrases ++ []) → events_in phrases ≤ length (subhistory x st.history)
  all_made phrases is = omega (arith, ap length (st.list_is ∙ is), length-events_of x (phrases ++ []), length-append phrases [])

  -- and the known part of a side's calls is a prefix of them
  pub own_known : (y : Side) → IsPrefix (subhistory y known) (subhistory y st.history)
  own_known y = (subhistory y st.begins.0, sym (subhistory-append y known st.begins.0) ∙ ap (subhistory y) st.begins.1)

  pub known_first :
      (y : Side) {whole program : List Event} → subhistory y known ≡ whole → IsPrefix (subhistory y st.history) program → IsPrefix whole program
  known_first y {whole} is follows = grind (arith, own_known y, append_assoc)

  pub behind_known : (y : Side) (place : ℕ) → length known ≤ place → length (subhistory y known) ≤ clock y st.history place
  behind_known y place l = subst (λ h. length (subhistory y known) ≤ clock y h place) st.begins.1 (behind y known st.begins.0 place l)

-- ---- the take that finds the ring empty

module _ (law : InEveryRun EmptyIsFresh) (first : PutsAreFirst) (made : MadeIsAccess)
    (shape : Shape) (known before after : List Event) (puts : Puts) (calls : Takes) (seen : ℕ) (is_open : calls.end ≡ Open)
    (whole : HasPuts shape (subhistory P known) puts) (was : HasTakes shape before calls) (begins : IsPrefix (subhistory C known) before)
    (st : Stands shape C after known) (has : HasTakes shape after (and_take calls (Empty seen))) where
  abbrev more : Takes
  more = and_take calls (Empty seen)

  run : IsRun shape st.history st.ring.puts more
  run = grind (arith, append-nil)

  start : ℕ
  start = events_in (take_phrases shape first_count calls.takes)

  is_take : IsTakeAt shape more (Empty seen) (taken_in 0 calls.takes) start (events_in (take_phrases shape first_count (calls.takes ++ Empty seen ∷ [])))
  unfolding start
  is_take = record { before = calls.takes; after = []; among = refl; number = refl; starts = refl; stops = refl }

  fresh : (first : ℕ) × IsPlaceOf C st.history start first × (puts_ended shape st.ring.puts (clock P st.history first) ≤ takes_ended shape more (clock C st.history first)) ×
      ((v : Bool) (from to : ℕ) → IsWrite st.history X v from to → ¬ (to < first))
  fresh = law shape st.history st.ring.puts more run seen (taken_in 0 calls.takes) start (events_in (take_phrases shape first_count (calls.takes ++ Empty seen ∷ []))) is_take (all_made C st (take_phrases shape first_count (calls.takes ++ Empty seen ∷ [])) has.list_is)

  abbrev place : ℕ
  place = fresh.0

  known_before : length known ≤ place
  unfolding start
  known_before = later C st (take_phrases shape first_count calls.takes) (end_phrase calls.end) place begins was.list_is (ap end_phrase is_open) fresh.1

  are_first : ((more : List Put) × (st.ring.puts.puts ≡ puts.puts ++ more)) × (puts.closes ≡ true → puts ≡ st.ring.puts)
  are_first = let follows = st.ring.run.puts_follow in first shape puts st.ring.puts whole.are follows.are (known_first C st P whole.list_is follows.events)

  known_long : length (subhistory P known) ≡ 2 * (length (put_phrases shape first_count puts.puts) + length (close_phrase puts.closes))
  known_long = grind (arith, length-events_of, length-append)

  -- the items of the known puts were taken before it
  pub items : length (all_put puts.puts) ≤ length (all_taken calls.takes)
  items =
      grind (arith, ended_least shape first_count puts.puts are_first.0.0 (clock P st.history place) (omega (arith, known_long, behind_known C st P place known_before)), known_long, behind_known C st P place known_before, ended_most shape first_count more.takes (clock C st.history place), none_more calls.takes seen)

  -- and no close is among them
  pub open_yet : puts.closes ≡ false
  open_yet = by_case (puts.closes)
      (λ closes.
      let phrases : List Made = put_phrases shape first_count puts.puts in
      let program : put_program shape st.ring.puts ≡ phrases ++ Write X true ∷ [] = ap (put_program shape) (sym (are_first.1 closes)) ∙ ap (λ b. phrases ++ close_phrase b) closes in
      let long : length (subhistory P known) ≡ 2 * (length phrases + 1) = known_long ∙ ap (λ b. 2 * (length phrases + length (close_phrase b))) closes in
      let mine = own_known C st P in
      let more_own : length (subhistory P known) ≤ length (subhistory P st.history) = omega (arith, ap length mine.1, length-append (subhistory P known) mine.0) in
      let (stop, at) = made P st.history (put_program shape st.ring.puts) st.ring.run.puts_follow.events (length phrases) (Write X true)
      (ap (λ l. slice_get l (length phrases)) program ∙ there phrases (Write X true) []) (omega (arith, long, more_own)) in
      let ended = (at.ended (omega (arith, long, more_own))).0 in
      let not_before : ¬ (stop < place) = fresh.3 true (place_of P st.history (2 * length phrases)) stop at.access in
      let begun : length known ≤ stop = omega (arith, not_before, known_before) in
      absurd (omega (arith, long, behind_known C st P stop begun, ended.before)))
      (λ no_close. no_close)

-- ---- the law

empty_of : (x : Take) → takes.take_reply_to x ≡ reply.Empty → (seen : ℕ) × (x ≡ Empty seen)
empty_of (Item seen []) e = absurd (cc)
empty_of (Item seen (item ∷ items)) e = absurd (cc)
empty_of (ItemAfterClose seen again []) e = absurd (cc)
empty_of (ItemAfterClose seen again (item ∷ items)) e = absurd (cc)
empty_of (Empty seen) e = (seen, refl)

-- what the take with this reply adds
empty_adds :
    (shape : Shape) (wanted : ℕ) (before after : List Event) (calls : Takes) (told : Bool) → TakeAdds told shape wanted calls reply.Empty before after →
    (seen : ℕ) × (calls.end ≡ Open) × HasTakes shape after (and_take calls (Empty seen))
empty_adds shape wanted before after calls true a = absurd (cc)
empty_adds shape wanted before after calls false (more, is_more, replied, has) = grind (arith, ⊎_elim, last-snoc, empty_of)

-- a take of several items, with the first of them
by_first : (r : Option TakeReply) (items : List ℕ) (y : TakeBatchReply) → Some y ≡ takes.take_batch_reply r items → (x : TakeReply) × (r ≡ Some x)
by_first None items y is = absurd (cc)
by_first (Some x) items y is = (x, refl)

of_first :
    (shape : Shape) (wanted : ℕ) (before after : List Event) (y : TakeBatchReply) (into : List ℕ) → HasTakenAll shape wanted before after y into →
    (x : TakeReply) × (items : List ℕ) × (Some y ≡ takes.take_batch_reply (Some x) items) × HasTakenOf shape wanted before after x
of_first shape wanted before after y into taken = go (ends_closed taken.calls.end) refl taken.adds
  where
    go : (told : Bool) → ends_closed taken.calls.end ≡ told → TakeAllAdds told shape wanted taken.calls y into before after →
        (x : TakeReply) × (items : List ℕ) × (Some y ≡ takes.take_batch_reply (Some x) items) × HasTakenOf shape wanted before after x
    go true is a = (
      reply.Closed,
      [],
      ap Some a.0,
      record { calls = taken.calls; before_is = taken.before_is; adds = subst (λ t. TakeAdds t shape wanted taken.calls reply.Closed before after) (sym is) (refl, a.1) },
    )
    go false is (more, is_more, (replied, places), has) =
        let first = by_first (reply_at_end more.end more.takes) (takes.items_at_end more.end more.takes) y replied in (
          first.0,
          takes.items_at_end more.end more.takes,
          replied ∙ ap (λ (r : Option TakeReply). takes.take_batch_reply r (takes.items_at_end more.end more.takes)) first.1,
          record { calls = taken.calls; before_is = taken.before_is; adds = subst (λ t. TakeAdds t shape wanted taken.calls first.0 before after) (sym is) (more, is_more, sym first.1, has) },
        )

first_empty : (x : TakeReply) (items : List ℕ) → Some batch_reply.Empty ≡ takes.take_batch_reply (Some x) items → x ≡ reply.Empty
first_empty (reply.Item item) items is = absurd (cc)
first_empty reply.Empty items is = refl
first_empty reply.Closed items is = absurd (cc)

module _ (law : InEveryRun EmptyIsFresh) (first : PutsAreFirst) (read : TakesAreRead) (made : MadeIsAccess) where
  empty_of_any :
      (shape : Shape) (wanted : ℕ) (known before after : List Event) (puts : Puts) (calls : Takes) → HasPuts shape (subhistory P known) puts → HasTakes shape before calls →
      IsPrefix (subhistory C known) before → Stands shape C after known → HasTakenOf shape wanted before after reply.Empty →
      (length (all_put puts.puts) ≤ length (all_taken calls.takes)) × (puts.closes ≡ false)
  empty_of_any shape wanted known before after puts calls whole was begins st taken =
      let same : taken.calls ≡ calls = read shape taken.calls calls taken.before_is.are was.are (sym taken.before_is.list_is ∙ was.list_is) in
      let adds : TakeAdds (ends_closed calls.end) shape wanted calls reply.Empty before after = subst (λ (t : Takes). TakeAdds (ends_closed t.end) shape wanted t reply.Empty before after) same taken.adds in
      let (seen, is_open, has) = empty_adds shape wanted before after calls (ends_closed calls.end) adds in
      search (arith, items, open_yet)

  pub empty-after : EmptyAfterMeeting
  empty-after shape known before after puts calls wanted into whole was begins st taken =
      let (x, items, is, one) = of_first shape wanted before after batch_reply.Empty into taken in
      empty_of_any shape wanted known before after puts calls whole was begins st (subst (HasTakenOf shape wanted before after) (first_empty x items is) one)

  pub item-empty-after : ItemEmptyAfterMeeting
  item-empty-after shape = empty_of_any shape 1

-- ---- a take adds to the list

take_phrases-append :
    (shape : Shape) (c : Count) (xs ys : List Take) → take_phrases shape c (xs ++ ys) ≡ take_phrases shape c xs ++ take_phrases shape (taken_count shape c xs) ys
take_phrases-append shape c [] ys = refl
take_phrases-append shape c (x ∷ xs) ys = grind (arith, append_assoc, take_phrases-append shape (count_after shape c x) xs ys)

-- the accesses of calls that are not over are a prefix of those with one more take
one_more : (shape : Shape) (wanted : ℕ) (calls next : Takes) → takes.HasTakeMore shape wanted calls next → (rest : List Made) × (take_program shape next ≡ take_program shape calls ++ rest)
one_more shape wanted calls next is_more =
    let phrases : List Made = take_phrases shape first_count calls.takes in
    let program : take_program shape calls ≡ phrases = ap (λ (e : End). phrases ++ end_phrase e) is_more.not_over ∙ append-nil phrases in
    ⊎_elim
    (λ one.
    let last : List Made = take_phrases shape (takes.count_taken shape calls) (one.0 ∷ []) in
    (last, ap (take_program shape) one.2 ∙ append-nil (take_phrases shape first_count (calls.takes ++ one.0 ∷ [])) ∙ take_phrases-append shape first_count calls.takes (one.0 ∷ []) ∙ ap (λ l. l ++ last) (sym program)))
    (λ told. (end_phrase (takes.and_end calls told.0 told.1).end, ap (take_program shape) told.2 ∙ ap (λ l. l ++ end_phrase (takes.and_end calls told.0 told.1).end) (sym program)))
    is_more.is_one_more

adds_any : (shape : Shape) (wanted : ℕ) (before after : List Event) (answer : TakeReply) → HasTakenOf shape wanted before after answer → IsPrefix before after
adds_any shape wanted before after answer taken = go (ends_closed taken.calls.end) taken.adds
  where
    go : (told : Bool) → TakeAdds told shape wanted taken.calls answer before after → IsPrefix before after
    go true a = ([], append-nil before ∙ sym a.1)
    go false (more, is_more, replied, has) =
        let (rest, is) = one_more shape wanted taken.calls more is_more in
        (events_of C rest, ap (λ l. l ++ events_of C rest) taken.before_is.list_is ∙ sym (events_of-append C (take_program shape taken.calls) rest) ∙ ap (events_of C) (sym is) ∙ sym has.list_is)

pub takes-add : TakesAdd
takes-add shape wanted before after answer into taken = let (x, items, is, one) = of_first shape wanted before after answer into taken in adds_any shape wanted before after x one

pub item-takes-add : ItemTakesAdd
item-takes-add shape = adds_any shape 1
