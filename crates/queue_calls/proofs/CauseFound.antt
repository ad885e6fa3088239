-- Nothing contradicts an event after a past exactly when the event can be counted.
use Rattle.std.proofs.Common.{◌≡◌, ◌↔◌, ◌⊎◌, inl, inr, ℕ, suc, ◌+◌, ◌-◌, ◌<◌, ◌≤◌, nat_lt, Bool, true, false, ◌==◌, not, ◌&&◌, Some, None, List, [], ◌∷◌, ◌++◌, map, length, take, drop, reverse, refl, sym, ap, subst, ◌∙◌, arith, length-append, append_assoc, append-nil}
use Rattle.std.proofs.lemmas.Bool.{false_from_ne_true, or_from, or_parts, not-false, not_from_true, ltb-true, ltb-false, lt-ltb, le-ltb, eqb-true, eqb-false, eq-eqb, ne_eqb, cond-true, cases_Bool}
use Rattle.queue_calls.proofs.Common.{none-some, Capacity, Unbounded, Between, LacksRoom, NoCall, APut, ATake, Sides, sides, MovesSides, IsProper, MayHold, AreNext, CanEndPut, CanEndTake, offered_by, asked_by}
use Rattle.queue_calls.proofs.Common.{call_of_put, call_of_take, sides_of, Kept, kept, without, FoundFewer, Counts, AreCounted, Cause, Offered, PutTurn, Free, Offers, Late, TakeTurn, Rests, Waits}
use Rattle.queue_calls.specs.Calls.{Event, PutBegin, PutEnd, CloseBegin, CloseEnd, TakeBegin, TakeEnd, Reply, Passed, Lacked, Short, Nothing, Shut, passed, is_shut, CanReply, lacked_by, IsLinearizable}
use Rattle.queue_calls.specs.Reasons.{line_behind, stored_at, has_ended, has_told, before_put, before_take, offers, stored, wanted, n_of, k_of, coming, can_hold, can_lack, stored_cause, full_cause, put_short_cause, not_taken_cause, fewer_cause, items_cause, empty_cause, take_short_cause, closed_cause, cause_of, CauseIsReason, FaultHasACause, items_of}
use Rattle.queue_calls.proofs.Agrees.{Agrees}
use Rattle.queue_calls.proofs.Agreeing.{both, long, offered_is, asked_is, coming_is, begun_is, as_put, as_take, closing, turned_behind, step, at_first, offers_none, ended_grows}
use Rattle.queue_calls.proofs.CauseTests.{can_hold_tells, can_lack_tells, and_off, and_of, and_told, none_off, off, none_on, some_or}
use Rattle.queue_calls.proofs.CountedHistories.{Stands, counts_keeps}
use Rattle.queue_calls.proofs.CountsFollow.{counts_are_exact}
use Rattle.queue_calls.proofs.Ends.TakeBegins.{keeps_nothing}
use Rattle.queue_calls.proofs.Replies.{fewer_told, found_fewer, lacks_more, lacks_room, may_lack_more, shut_is}
use Rattle.queue_calls.proofs.TurnLemmas.{last_turn, same_turns}
pub use Rattle.queue_calls.proofs.CountedHistories.{stands_linear as standing}

-- a queue lacks room for as many, by the sum
lacks_as : (capacity : Capacity) (a b c d : ℕ) → a + b ≡ c + d → LacksRoom capacity a b → LacksRoom capacity c d
lacks_as Unbounded a b c d e l = l
lacks_as (Between full most) a b c d e l = omega (arith, e, l)

-- what was stored before the take is no more than what is stored
pub stored_grows : (past : List Event) → n_of (before_take past) ≤ n_of past
stored_grows [] = omega arith
stored_grows (PutEnd reply ∷ past) = omega (arith, stored_grows past, length-append (stored past) (map (stored_at (line_behind past)) (take (passed 0 reply) (offers past))))
stored_grows (TakeBegin count ∷ past) = omega arith
stored_grows (_ ∷ past) = stored_grows past

-- what a side has under way
pub put_of : (put : PutTurn) (n : ℕ) → call_of_put put ≡ APut n → ((inside : ℕ) × (put ≡ Offers n inside)) ⊎ (put ≡ Late n)
put_of put n e = grind arith

pub take_of : (turn : TakeTurn) (n : ℕ) → call_of_take turn ≡ ATake n → (inside : ℕ) × (closed : Bool) × (turn ≡ Waits n inside closed)
take_of turn n e = grind arith

-- the numbers of items that the put under way offers, or that the take asks for
pub offers_so_many : {n m inside : ℕ} {put : PutTurn} → call_of_put put ≡ APut n → put ≡ Offers m inside → m ≡ n
offers_so_many turn is = grind arith

pub wants_so_many : {n m inside : ℕ} {closed : Bool} {turn : TakeTurn} → call_of_take turn ≡ ATake n → turn ≡ Waits m inside closed → m ≡ n
wants_so_many {n} {m} call is = let same : ATake m ≡ ATake n = ap call_of_take (sym is) ∙ call in cc

free_of : (put : PutTurn) → call_of_put put ≡ NoCall → put ≡ Free
free_of put e = grind arith

rest_of : (turn : TakeTurn) → call_of_take turn ≡ NoCall → turn ≡ Rests
rest_of turn e = grind arith

-- nothing contradicts items exactly when they are the next ones and nothing contradicts so few
pub items_next :
    (limit : ℕ) (capacity : Capacity) (why : Bool) (past : List Event) (first items : List ℕ) (rest : List Offered) → items_cause limit capacity why past first items rest ≡ None →
    AreNext items (items_of rest) × (fewer_cause capacity (length first + length items) why past ≡ None)
items_next limit capacity why past first [] rest e = grind (arith, length)
items_next limit capacity why past first (item ∷ items) [] e = absurd cc
items_next limit capacity why past first (item ∷ items) (next ∷ rest) e = grind (arith, length-append first (item ∷ []), eqb-true, items_next limit capacity why past (first ++ item ∷ []) items rest)

pub items_unspoken :
    (limit : ℕ) (capacity : Capacity) (why : Bool) (past : List Event) (first items : List ℕ) (rest : List Offered) → AreNext items (items_of rest) →
    fewer_cause capacity (length first + length items) why past ≡ None → items_cause limit capacity why past first items rest ≡ None
items_unspoken limit capacity why past first [] rest next e = grind (arith, length)
items_unspoken limit capacity why past first (item ∷ items) [] (left, g) e = absurd cc
items_unspoken limit capacity why past first (item ∷ items) (next ∷ rest) (left, g) e = grind (arith, length-append first (item ∷ []), eq-eqb, items_unspoken limit capacity why past (first ++ item ∷ []) items rest)

module _ (capacity : Capacity) (past : List Event) (k : Kept) (a : Agrees past k) where
  -- the numbers of a cause, by what is kept

  -- how many, at most, were inside when the put found no room
  pub most_inside : (n inside : ℕ) → k.put ≡ Offers n inside → n_of past - k_of (before_put past) ≡ inside
  most_inside n inside is = let f = as_put past k a (Offers n inside) is in omega (arith, f.2)

  -- and how many, at least, are inside
  pub least_stored : (n inside count : ℕ) → k.put ≡ Offers n inside → count ≤ n → (n_of past + count) - (k_of past + wanted past) ≡ (length k.inside - (n - count)) - asked_by k.take
  least_stored n inside count is few = let f = as_put past k a (Offers n inside) is in omega (arith, long past k a, asked_is past k a, f.0, few)

  -- with this many items taken, how many, at least, are inside
  pub least_left : (count : ℕ) → n_of past - (k_of past + count) ≡ (length k.inside - count) - offered_by k.put
  least_left count = omega (arith, long past k a, offered_is past k a)

  -- ---- each test, by what is kept

  -- the items of the put under way that were not stored are inside
  pub rest_inside : (n inside count : ℕ) → k.put ≡ Offers n inside → count ≤ n → (nat_lt (n_of past + count) (k_of past) ≡ false) ↔ (n - count ≤ length k.inside)
  rest_inside n inside count is few = grind (arith, as_put past k a (Offers n inside) is, ltb-false, long past k a, le-ltb)

  pub all_inside : (n inside : ℕ) → k.put ≡ Offers n inside → (nat_lt (n_of past) (k_of past) ≡ false) ↔ (n ≤ length k.inside)
  all_inside n inside is = grind (arith, as_put past k a (Offers n inside) is, ltb-false, long past k a, le-ltb)

  -- those that were stored fit
  pub stored_fit :
      (n inside count : ℕ) → k.put ≡ Offers n inside → count ≤ n →
      (not (can_hold capacity ((n_of past + count) - (k_of past + wanted past))) ≡ false) ↔ MayHold capacity ((length k.inside - (n - count)) - asked_by k.take)
  stored_fit n inside count is few = grind (arith, length, take, least_stored, can_hold_tells, not-false, not_from_true)

  -- if not all were, there may have been no room for one more
  some_room :
      (n inside count : ℕ) → k.put ≡ Offers n inside →
      ((nat_lt count (length (offers past)) && not (can_lack capacity (n_of past - k_of (before_put past)) (suc count))) ≡ false) ↔ (count < n → LacksRoom capacity inside (suc count))
  some_room n inside count is =
      let f = as_put past k a (Offers n inside) is in
      let most : ℕ = n_of past - k_of (before_put past) in
      let same : most + suc count ≡ inside + suc count = omega (arith, most_inside n inside is) in (
        λ e. λ l.
            let fewer : nat_lt count (length (offers past)) ≡ true = lt-ltb count (length (offers past)) (omega (arith, l, f.0)) in
            lacks_as capacity most (suc count) inside (suc count) same
            ((can_lack_tells capacity most (suc count)).0 (not-false (can_lack capacity most (suc count)) (and_of (nat_lt count (length (offers past))) (not (can_lack capacity most (suc count))) e fewer))),
        λ h. and_off (nat_lt count (length (offers past))) (not (can_lack capacity most (suc count))) (λ e.
            let fewer : count < n = omega (arith, ltb-true count (length (offers past)) e, f.0) in
            not_from_true (can_lack capacity most (suc count)) ((can_lack_tells capacity most (suc count)).1 (lacks_as capacity inside (suc count) most (suc count) (sym same) (h fewer)))),
      )

  -- if the put says why
  pub some_lack :
      (n inside count : ℕ) (why : Bool) → k.put ≡ Offers n inside →
      ((why && (nat_lt count (length (offers past)) && not (can_lack capacity (n_of past - k_of (before_put past)) (suc count)))) ≡ false) ↔
      (why ≡ true → count < n → LacksRoom capacity inside (suc count))
  some_lack n inside count why is = and_told why _ _ (some_room n inside count is)

  -- if none was stored: no room for this many
  pub none_lack :
      (n inside count : ℕ) → k.put ≡ Offers n inside → (not (can_lack capacity (n_of past - k_of (before_put past)) count) ≡ false) ↔ LacksRoom capacity inside count
  none_lack n inside count is = grind (arith, as_put, can_lack_tells, not-false, not_from_true)

  -- those that were not taken fit
  pub left_fit : (count : ℕ) → (not_taken_cause capacity count past ≡ None) ↔ CanEndTake capacity (length k.inside) (offered_by k.put) count
  left_fit count = grind (arith, least_left, can_hold_tells, none_on, cond-true)

  -- if the take asked for more, it found no more
  none_more :
      (n inside : ℕ) (closed : Bool) (count : ℕ) → k.take ≡ Waits n inside closed →
      ((nat_lt count (wanted past) && nat_lt (k_of past + count) (n_of (before_take past))) ≡ false) ↔ (count < n → inside ≤ count)
  none_more n inside closed count is = grind (arith, as_take, nat_lt, lt-ltb, ltb-false, and_of, and_off, ltb-true, le-ltb)

  -- if it says why
  pub no_more :
      (n inside : ℕ) (closed : Bool) (count : ℕ) (why : Bool) → k.take ≡ Waits n inside closed →
      ((why && (nat_lt count (wanted past) && nat_lt (k_of past + count) (n_of (before_take past)))) ≡ false) ↔ (why ≡ true → count < n → inside ≤ count)
  no_more n inside closed count why is = and_told why _ _ (none_more n inside closed count is)

  -- it found none
  pub none_found : (n inside : ℕ) (closed : Bool) → k.take ≡ Waits n inside closed → (nat_lt (k_of past) (n_of (before_take past)) ≡ false) ↔ (inside ≡ 0)
  none_found n inside closed is = grind (arith, as_take, ltb-false, le-ltb)

  -- it found fewer than it asked for
  pub fewer_found :
      (n inside : ℕ) (closed : Bool) → k.take ≡ Waits n inside closed → 0 < n → (nat_lt (k_of past + (wanted past - 1)) (n_of (before_take past)) ≡ false) ↔ (inside < n)
  fewer_found n inside closed is some = grind (arith, as_take, ltb-false, le-ltb)

  -- it found a closed queue empty, and no take returned Closed
  pub drained :
      (n inside : ℕ) (closed : Bool) → k.take ≡ Waits n inside closed → has_told past ≡ false →
      ((has_ended (before_take past) && (n_of past == k_of past)) ≡ false) ↔ (closed ≡ true → 0 < inside)
  drained n inside closed is not_told = grind (arith, as_take past k a (Waits n inside closed) is, long past k a, offers_none past k a, ended_grows, stored_grows past, eqb-false, ne_eqb)

  -- the items are the next ones
  pub are_next :
      (limit : ℕ) (items : List ℕ) (why : Bool) → (items_cause limit capacity why past [] items (coming past) ≡ None) ↔ (AreNext items k.inside × (fewer_cause capacity (length items) why past ≡ None))
  are_next limit items why = grind (arith, length items, items_next limit capacity why past, coming_is past k a, items_unspoken limit capacity why past)

  pub none_inside : (closed_cause (coming past) ≡ None) ↔ (k.inside ≡ [])
  none_inside = grind (arith, coming_is past k a)

  -- none of a late put was taken
  late_inside : (n : ℕ) → k.put ≡ Late n → nat_lt (n_of past) (k_of past) ≡ false
  late_inside n is = grind (arith, as_put past k a (Late n) is, long past k a, le-ltb)

  found_untold : (n inside : ℕ) (closed : Bool) → k.take ≡ Waits n inside closed → (closed ≡ true → 0 < inside) → has_told past ≡ false
  found_untold n inside closed is found = grind (arith, as_take past k a (Waits n inside closed) is, false_from_ne_true, stored_grows past, long past k a)

  -- ---- nothing contradicts an event that can be counted

  taken_unspoken :
      (limit n inside : ℕ) (closed : Bool) (reply : Reply (List ℕ)) → k.take ≡ Waits n inside closed → is_shut reply ≡ false → CanReply reply (length (passed [] reply)) n →
      FoundFewer inside closed (length (passed [] reply)) (lacked_by reply (length (passed [] reply)) (n - length (passed [] reply))) → AreNext (passed [] reply) k.inside →
      CanEndTake capacity (length k.inside) (offered_by k.put) (length (passed [] reply)) → cause_of limit capacity (TakeEnd reply) past ≡ None
  taken_unspoken limit n inside closed reply is open' within found next fits =
      grind (arith, length, length-append, fewer_told, off, false_from_ne_true, are_next, no_more, left_fit, as_take, or_parts, none_found, found_untold, fewer_found, drained)

  pub unspoken : (limit : ℕ) (event : Event) (after : Kept) → Counts capacity k event after → cause_of limit capacity event past ≡ None
  unspoken limit (PutEnd (Passed count why)) after c = elim c [
    | inl (n, inside, is, open', within, lacks, fits) ↦
        off _ _ _ (as_put past k a (Offers n inside) is).1
        (off _ _ _ ((rest_inside n inside count is within.1).1 fits.0.0)
        (off _ _ _ ((stored_fit n inside count is within.1).1 fits.0.1) (off _ _ _ ((some_lack n inside count why is).1 (lacks_more capacity inside count n why lacks)) refl)))
    | inr (n, is, none, e) ↦ absurd (elim none [ inl g ↦ cc | inr g ↦ cc ])
  ]
  unspoken limit (PutEnd Lacked) after c = grind (arith, off, as_put, all_inside, none_lack, lacks_room)
  unspoken limit (PutEnd Short) after c = grind (arith, as_put, length, lacks_room, off, all_inside, none_lack)
  unspoken limit (PutEnd Nothing) after c = grind (arith, off, all_inside, late_inside)
  unspoken limit (PutEnd Shut) after c = grind (arith, cond-true, as_put)
  unspoken limit (TakeEnd reply) after (n, inside, closed, is, c) = grind (arith, taken_unspoken limit n inside closed reply is, shut_is reply, begun_is past k a, none_inside)
  unspoken limit _ after c = refl

module _ (capacity : Capacity) (past : List Event) (k : Kept) (a : Agrees past k) (few : MayHold capacity (length k.inside - (offered_by k.put + asked_by k.take))) where
  abbrev pub Counted : Event → Type 0
  Counted event = (after : Kept) × Counts capacity k event after

  -- the put under way can end with none stored
  can_end : (n inside : ℕ) → k.put ≡ Offers n inside → nat_lt (n_of past) (k_of past) ≡ false → CanEndPut capacity (length k.inside) (asked_by k.take) (n - 0)
  can_end n inside is e = grind (arith, as_put, length, take, offered_is, all_inside)

  -- if the put began before a close had ended
  early : {A : Type 0} (n : ℕ) → k.put ≡ Late n → has_ended (before_put past) ≡ false → A
  early {A} n is e = both A (has_ended (before_put past)) (as_put past k a (Late n) is).1 e

  stored_counted : (count : ℕ) (why : Bool) (n : ℕ) → 0 < count → count ≤ n → call_of_put k.put ≡ APut n → stored_cause capacity count why past ≡ None → Counted (PutEnd (Passed count why))
  stored_counted count why n some least is e = elim (put_of k.put n is) [
    | inl (inside, is_put) ↦ (
      kept (without (n - count) k.inside) Free k.take k.shut,
      inl (n, inside, is_put, refl, (some, least), grind (arith, some_lack capacity past k a n inside count why is_put, may_lack_more), (grind (arith, rest_inside capacity past k a n inside count is_put least, stored_fit capacity past k a n inside count is_put least), refl)),
    )
    | inr late ↦ early n late (none_off _ _ _ e).0
  ]

  full_counted : (n : ℕ) → call_of_put k.put ≡ APut n → full_cause capacity past ≡ None → Counted (PutEnd Lacked)
  full_counted n is e = elim (put_of k.put n is) [
    | inl (inside, is_put) ↦ (
      kept (without (n - 0) k.inside) Free k.take k.shut,
      inl (n, inside, is_put, refl, tt, grind (arith, none_lack capacity past k a n inside 1 is_put), (grind (arith, can_end n inside is_put), refl)),
    )
    | inr late ↦ early n late (none_off _ _ _ e).0
  ]

  put_short_counted : (n : ℕ) → call_of_put k.put ≡ APut n → 1 < n → put_short_cause capacity past ≡ None → Counted (PutEnd Short)
  put_short_counted n is several e = elim (put_of k.put n is) [
    | inl (inside, is_put) ↦ (
      kept (without (n - 0) k.inside) Free k.take k.shut,
      inl (n, inside, is_put, refl, several, grind (arith, as_put past k a (Offers n inside) is_put, none_lack capacity past k a n inside (length (offers past)) is_put), (grind (arith, can_end n inside is_put), refl)),
    )
    | inr late ↦ early n late (none_off _ _ _ e).0
  ]

  put_nothing_counted : (limit n : ℕ) → call_of_put k.put ≡ APut n → cause_of limit capacity (PutEnd Nothing) past ≡ None → Counted (PutEnd Nothing)
  put_nothing_counted limit n is e = elim (put_of k.put n is) [
    | inl (inside, is_put) ↦ (kept (without (n - 0) k.inside) Free k.take k.shut, inl (n, inside, is_put, refl, tt, inl refl, (grind (arith, can_end n inside is_put), refl)))
    | inr late ↦ (kept k.inside Free k.take k.shut, inr (n, late, inl refl, refl))
  ]

  put_closed_counted : (limit n : ℕ) → call_of_put k.put ≡ APut n → cause_of limit capacity (PutEnd Shut) past ≡ None → Counted (PutEnd Shut)
  put_closed_counted limit n is e = elim (put_of k.put n is) [
    | inl (inside, is_put) ↦ both _ (has_ended (before_put past)) (none_on _ _ _ e).0 (as_put past k a (Offers n inside) is_put).1
    | inr late ↦ (kept k.inside Free k.take k.shut, inr (n, late, inr refl, refl))
  ]

  empty_counted : (n : ℕ) → call_of_take k.take ≡ ATake n → empty_cause capacity past ≡ None → Counted (TakeEnd Lacked)
  empty_counted n is e =
      let (inside, closed, is_take) = take_of k.take n is in (
        kept (drop 0 k.inside) k.put Rests k.shut,
        (n, inside, closed, is_take, inl (grind (arith, as_take past k a (Waits n inside closed) is_take, or_from, none_found capacity past k a n inside closed is_take, left_fit capacity past k a 0))),
      )

  take_short_counted : (n : ℕ) → call_of_take k.take ≡ ATake n → 1 < n → take_short_cause capacity past ≡ None → Counted (TakeEnd Short)
  take_short_counted n is several e =
      let (inside, closed, is_take) = take_of k.take n is in (
        kept (drop 0 k.inside) k.put Rests k.shut,
        (n, inside, closed, is_take, inl (grind (arith, fewer_found capacity past k a n inside closed is_take, drained capacity past k a n inside closed is_take, left_fit capacity past k a 0))),
      )

  take_closed_counted : (limit n : ℕ) → call_of_take k.take ≡ ATake n → cause_of limit capacity (TakeEnd Shut) past ≡ None → Counted (TakeEnd Shut)
  take_closed_counted limit n is e =
      let (inside, closed, is_take) = take_of k.take n is in
      (kept [] k.put Rests true, (n, inside, closed, is_take, grind (arith, none_inside capacity past k a, closing past k a)))

  -- ---- an event in turn that nothing contradicts can be counted

  pub counted : (limit : ℕ) (event : Event) (next : Sides) → MovesSides (sides_of k.put k.take) event next → cause_of limit capacity event past ≡ None → Counted event
  counted limit (PutBegin items) next (free, some, m) e = elim (cases_Bool k.shut) [
    | inl g ↦ (kept k.inside (Late (length items)) k.take true, (free_of k.put free, some, inr (g, refl)))
    | inr g ↦ (kept (k.inside ++ items) (Offers (length items) (length k.inside)) k.take false, (free_of k.put free, some, inl (g, refl)))
  ]
  counted limit (PutEnd (Passed count why)) next (n, is, (some, most), m) e = stored_counted count why n some most is e
  counted limit (PutEnd Lacked) next (n, is, w, m) e = full_counted n is e
  counted limit (PutEnd Short) next (n, is, several, m) e = put_short_counted n is several e
  counted limit (PutEnd Nothing) next (n, is, w, m) e = put_nothing_counted limit n is e
  counted limit (PutEnd Shut) next (n, is, w, m) e = put_closed_counted limit n is e
  counted limit CloseBegin next (free, m) e = grind (arith, free_of)
  counted limit CloseEnd next (is, m) e = grind (arith)
  counted limit (TakeBegin count) next (rests, some, m) e = grind (arith, length, rest_of, take)
  counted limit (TakeEnd (Passed items why)) next (n, is, (some, most), m) e =
      let (inside, closed, is_take) = take_of k.take n is in (
        kept (drop (length items) k.inside) k.put Rests k.shut,
        (n, inside, closed, is_take, inl (grind (arith, are_next capacity past k a limit items why, found_fewer inside closed items n why some, no_more capacity past k a n inside closed (length items) why is_take, left_fit capacity past k a (length items)))),
      )
  counted limit (TakeEnd Lacked) next (n, is, w, m) e = empty_counted n is e
  counted limit (TakeEnd Short) next (n, is, several, m) e = take_short_counted n is several e
  counted limit (TakeEnd Nothing) next (n, is, w, m) e =
      let (inside, closed, is_take) = take_of k.take n is in
      (kept (drop 0 k.inside) k.put Rests k.shut, (n, inside, closed, is_take, grind (arith, left_fit capacity past k a 0)))
  counted limit (TakeEnd Shut) next (n, is, w, m) e = take_closed_counted limit n is e

  -- something contradicts an event that cannot be counted
  pub spoken : (limit : ℕ) (event : Event) (next : Sides) → MovesSides (sides_of k.put k.take) event next → (Counted event → ⊥) → (cause : Cause) × (cause_of limit capacity event past ≡ Some cause)
  spoken limit event next moves never = some_or (cause_of limit capacity event past) (λ e. never (counted limit event next moves e))

-- a history whose events are counted, and what is kept then
abbrev pub Arrived : Capacity → List Event → List Event → Type 0
Arrived capacity h past = (k : Kept) × Agrees past k × Stands capacity h k

arrive :
    (capacity : Capacity) (events h past : List Event) (k : Kept) → Agrees past k → Stands capacity h k → AreCounted capacity k events →
    Arrived capacity (h ++ events) (reverse events ++ past)
arrive capacity [] h past k a j c = (k, a, (let F : List Event → Type 0 = λ z. Stands capacity z k in subst F (sym (append-nil h)) j))
arrive capacity (first ∷ events) h past k a j (after, now, later) =
    grind (arith, reverse, turned_behind, append_assoc, step, counts_keeps, arrive capacity events (h ++ first ∷ []) (first ∷ past) after (step past k a capacity first after now) (counts_keeps capacity h k j first after now) later)

-- what is kept of a linearizable history, and agrees with its past
pub arrived : (capacity : Capacity) (h : List Event) → IsProper capacity → IsLinearizable capacity h → Arrived capacity h (reverse h)
arrived capacity h proper linear =
    let F : List Event → Type 0 = λ z. Arrived capacity h z in
    subst F (append-nil (reverse h))
    (arrive capacity h [] [] (kept [] Free Rests false) at_first (keeps_nothing capacity proper) ((counts_are_exact capacity h proper).1 linear))

-- the last of counted events
abbrev Reached : Capacity → List Event → Event → Type 0
Reached capacity past event = (k : Kept) × Agrees past k × ((after : Kept) × Counts capacity k event after)

reach : (capacity : Capacity) (event : Event) (events past : List Event) (k : Kept) → Agrees past k → AreCounted capacity k (events ++ event ∷ []) → Reached capacity (reverse events ++ past) event
reach capacity event [] past k a (after, now, later) = (k, a, (after, now))
reach capacity event (first ∷ events) past k a (after, now, later) =
    grind (arith, turned_behind, step, reach capacity event events (first ∷ past) after (step past k a capacity first after now) later)

-- ---- the laws

pub cause_is_reason : CauseIsReason
cause_is_reason limit capacity before event cause proper is linear =
    let F : List Event → Type 0 = λ z. Reached capacity z event in
    let (k, a, (after, now)) = subst F (append-nil (reverse before))
    (reach capacity event before [] (kept [] Free Rests false) at_first ((counts_are_exact capacity (before ++ event ∷ []) proper).1 linear)) in
    none-some cause (sym (unspoken capacity (reverse before) k a limit event after now) ∙ is)

pub fault_has_a_cause : FaultHasACause
fault_has_a_cause limit capacity before event proper linear turn never =
    let (k, a, j) = arrived capacity before proper linear in
    let (t, r) = turn in
    let (s, sooner, last) = last_turn before event (sides NoCall NoCall) t r in
    let same : s ≡ sides_of k.put k.take = same_turns before (sides NoCall NoCall) s (sides_of k.put k.take) sooner j.turns in
    spoken capacity (reverse before) k a j.few limit event t (subst (λ x. MovesSides x event t) same last)
    (λ c. let (after, now) = c in never (standing capacity (before ++ event ∷ []) after (counts_keeps capacity before k j event after now)))
