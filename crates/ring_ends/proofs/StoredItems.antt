-- What complete calls of a ring's ends store and take, one call after the other.
use Rattle.std.proofs.Common.{◌≡◌, ℕ, zero, suc, ◌≤◌, Bool, true, false, Some, List, [], ◌∷◌, ◌++◌, length, take, refl, ap, sym, subst, arith, append-nil, append_assoc}
use Rattle.std.proofs.lemmas.Option.{same_Some}
use Rattle.ring_ends.proofs.Common.{Shape, Event, TakeReply, Takes, RingEnd, IsSameEnd}
use Rattle.ring_core.specs.declared.replies.BatchReply.{BatchReply}
use Rattle.ring_core.specs.declared.replies.BatchReply.TheVariants as several
use Rattle.ring_core.specs.declared.replies.PutReply.{PutReply}
use Rattle.ring_core.specs.declared.replies.PutReply.TheVariants as single
use Rattle.ring_core.specs.declared.replies.TakeBatchReply.{TakeBatchReply}
use Rattle.ring_core.specs.Puts as puts
use Rattle.ring_core.specs.Puts.{Put, Puts, IsPut, ArePuts, room_in}
use Rattle.ring_core.specs.Items.{all_put, all_taken}
use Rattle.ring_core.specs.ProducerCalls.{no_puts, and_close, and_put}
use Rattle.ring_core.specs.ProducerState.{item_reply}
use Rattle.ring_core.specs.ConsumerCalls.{no_takes, ends_closed, items_at_end, reply_items, HasTakeMore}
use Rattle.ring_core.proofs.LawLemmas.{programs_by_one_call_one, puts_are_read, takes_are_read}
use Rattle.ring_core.proofs.Machines.TakeCalls.{all_taken-push as all_taken_snoc, items-push as items_snoc, reply-push as last_reply}
use Rattle.ring_seats.specs.Calls.{HasPuts, HasTakes, IsTakeReply}
use Rattle.ring_ends.specs.Ends.{CloseAdds, HasClosed, HasPut, HasPutAll, PutAdds, HasTaken, TakeAdds, HasTakenAll, TakeAllAdds, number_brought}
use Rattle.ring_ends.specs.Stored.{HasStored, HasTook, StoresMore, TakesMore, item_stored, number_stored}

-- the first n elements of a list are the first ones, as many as they are
pub first : (n : ℕ) (xs : List ℕ) → (take n xs ≡ take (length (take n xs)) xs) × (length (take n xs) ≤ length xs)
first zero xs = (refl, omega arith)
first (suc n) [] = (refl, omega arith)
first (suc n) (x ∷ xs) = let r = first n xs in (ap (λ (l : List ℕ). x ∷ l) r.0, omega (arith, r.1))

-- ---- puts

all_put_snoc : (xs : List Put) (x : Put) → all_put (xs ++ x ∷ []) ≡ all_put xs ++ all_put (x ∷ [])
all_put_snoc [] x = refl
all_put_snoc (e ∷ xs) x = grind (arith, append_assoc, (all_put_snoc xs x))

last_is : (shape : Shape) (n : ℕ) (xs : List Put) (x : Put) → ArePuts shape n (xs ++ x ∷ []) → (k : ℕ) × IsPut shape k x
last_is shape n [] x are = (n, are.0)
last_is shape n (y ∷ xs) x are = last_is shape (puts.number_after n y) xs x are.1

-- a put of these items that stored m of them stored at least one, and no more than there are
pub few_stored : (shape : Shape) (given : List ℕ) (before after : List Event) (m : ℕ) → HasPutAll shape given before after (several.Stored m) → (1 ≤ m) × (m ≤ length given)
few_stored shape given before after m h = grind (arith, first, last_is)

pub few_all : (shape : Shape) (given : List ℕ) (before after : List Event) (reply : BatchReply) → HasPutAll shape given before after reply → number_stored reply ≤ length given
few_all shape given before after (several.Stored m) h = (few_stored shape given before after m h).1
few_all shape given before after several.Full h = omega arith
few_all shape given before after several.Closed h = omega arith

-- an end that has made no call
pub none_stored : (e : RingEnd) → e.list ≡ [] → HasStored e []
none_stored e is = record { calls = no_puts; list_is = record { are = tt; list_is = is }; items_are = refl }

module _ (a b : RingEnd) (same : b.ring ≡ a.ring) (items : List ℕ) (before : HasStored a items) where
  -- whichever calls the list is read as, these are its items
  put_items_of : (calls : Puts) → HasPuts b.ring.shape a.list calls → all_put calls.puts ≡ items
  put_items_of calls has = grind (arith, puts_are_read)

  put_unchanged : (calls : Puts) → HasPuts b.ring.shape a.list calls → b.list ≡ a.list → HasStored b items
  put_unchanged calls has kept = record { calls = calls; list_is = subst (λ (l : List Event). HasPuts b.ring.shape l calls) (sym kept) has; items_are = put_items_of calls has }

  -- one more put
  put_more : (calls : Puts) → HasPuts b.ring.shape a.list calls → (x : Put) → HasPuts b.ring.shape b.list (and_put calls x) → HasStored b (items ++ all_put (x ∷ []))
  put_more calls has x after = grind (arith, all_put_snoc, put_items_of)

  -- so the end has stored these and then those that the reply counts
  abbrev Then : List ℕ → BatchReply → Type 0
  Then given reply = HasStored b (items ++ take (number_stored reply) given)

  stored_by : (calls : Puts) → HasPuts b.ring.shape a.list calls → (closes : Bool) (given : List ℕ) (reply : BatchReply) → PutAdds closes b.ring.shape calls given reply a.list b.list → Then given reply
  stored_by calls has true given reply (late, kept) = subst (Then given) (sym late) (subst (HasStored b) (sym (append-nil items)) (put_unchanged calls has kept))
  stored_by calls has false given reply (puts.Full seen, of, answered, after) = subst (Then given) (sym answered) (put_more calls has (puts.Full seen) after)
  stored_by calls has false given reply (puts.Stored seen few, of, answered, after) = grind (arith, append-nil, first, put_more)

  closed_by : (calls : Puts) → HasPuts b.ring.shape a.list calls → (closes : Bool) → CloseAdds closes b.ring.shape calls a.list b.list → HasStored b items
  closed_by calls has true adds = put_unchanged calls has adds
  closed_by calls has false adds = record { calls = and_close calls; list_is = adds; items_are = put_items_of calls has }

-- the item that a put of one stored, by its reply
item_of : (shape : Shape) (item : ℕ) (before after : List Event) (answer : BatchReply) (reply : PutReply) → Some reply ≡ item_reply (Some answer) → HasPutAll shape (item ∷ []) before after answer → take (number_stored answer) (item ∷ []) ≡ item_stored reply item
item_of shape item before after (several.Stored m) reply is h = grind (arith, (few_stored shape (item ∷ []) before after m h), (same_Some reply single.Stored is))
item_of shape item before after several.Full reply is h = ap (λ (r : PutReply). item_stored r item) (sym (same_Some reply single.Full is))
item_of shape item before after several.Closed reply is h = ap (λ (r : PutReply). item_stored r item) (sym (same_Some reply single.Closed is))

-- ---- takes

pub none_took : (e : RingEnd) → e.list ≡ [] → HasTook e []
none_took e is = record { calls = no_takes; list_is = record { are = tt; list_is = is }; items_are = refl }

-- the item that a take of one took, by its reply
item_taken : (shape : Shape) (calls more : Takes) (reply : TakeReply) → HasTakeMore shape 1 calls more → IsTakeReply more reply → items_at_end more.end more.takes ≡ reply_items reply
item_taken shape calls more reply is_more replied = grind (arith, items_snoc, last_reply, programs_by_one_call_one, same_Some)

module _ (a b : RingEnd) (same : b.ring ≡ a.ring) (items : List ℕ) (before : HasTook a items) where
  -- whichever calls the list is read as, these are its items
  take_items_of : (calls : Takes) → HasTakes b.ring.shape a.list calls → all_taken calls.takes ≡ items
  take_items_of calls has = grind (arith, takes_are_read)

  -- one that made no access
  take_none : (calls : Takes) → HasTakes b.ring.shape a.list calls → b.list ≡ a.list → HasTook b (items ++ [])
  take_none calls has kept = grind (arith, append-nil, take_items_of)

  -- one more take
  take_more : (calls : Takes) → HasTakes b.ring.shape a.list calls → (wanted : ℕ) (more : Takes) → HasTakeMore b.ring.shape wanted calls more → HasTakes b.ring.shape b.list more → HasTook b (items ++ items_at_end more.end more.takes)
  take_more calls has wanted more is_more after = grind (arith, all_taken_snoc, append-nil, items_snoc, take_items_of)

  took_by : (calls : Takes) → HasTakes b.ring.shape a.list calls → (over : Bool) (reply : TakeReply) → TakeAdds over b.ring.shape 1 calls reply a.list b.list → HasTook b (items ++ reply_items reply)
  took_by calls has true reply (late, kept) = subst (λ (r : TakeReply). HasTook b (items ++ reply_items r)) (sym late) (take_none calls has kept)
  took_by calls has false reply (more, is_more, replied, after) = grind (arith, (item_taken b.ring.shape calls more reply is_more replied), (take_more calls has 1 more is_more after))

  took_all_by : (calls : Takes) → HasTakes b.ring.shape a.list calls → (over : Bool) (wanted : ℕ) (reply : TakeBatchReply) (into : List ℕ) → TakeAllAdds over b.ring.shape wanted calls reply into a.list b.list → HasTook b (items ++ take (number_brought reply) into)
  took_all_by calls has true wanted reply into (late, kept) = subst (λ (r : TakeBatchReply). HasTook b (items ++ take (number_brought r) into)) (sym late) (take_none calls has kept)
  took_all_by calls has false wanted reply into (more, is_more, (replied, places), after) = grind (arith, (take_more calls has wanted more is_more after))

-- ---- so for each call, whatever its reply

pub put_all_stores : (a b : RingEnd) (items : List ℕ) (reply : BatchReply) → IsSameEnd a b → HasPutAll b.ring.shape items a.list b.list reply → StoresMore a b (take (number_stored reply) items)
put_all_stores a b items reply same h before has = stored_by a b same.ring before has h.calls h.before_is h.calls.closes items reply h.adds

pub put_stores : (a b : RingEnd) (item : ℕ) (reply : PutReply) → IsSameEnd a b → HasPut b.ring.shape item a.list b.list reply → StoresMore a b (item_stored reply item)
put_stores a b item reply same (answer, is, h) before has = grind (arith, (item_of b.ring.shape item a.list b.list answer reply is h), (put_all_stores a b (item ∷ []) answer same h before has), a.list, b.list, b.ring.shape)

pub close_stores : (a b : RingEnd) → IsSameEnd a b → HasClosed b.ring.shape a.list b.list → StoresMore a b []
close_stores a b same h before has = subst (HasStored b) (sym (append-nil before)) (closed_by a b same.ring before has h.calls h.before_is h.calls.closes h.adds)

pub take_takes : (a b : RingEnd) (reply : TakeReply) → IsSameEnd a b → HasTaken b.ring.shape a.list b.list reply → TakesMore a b (reply_items reply)
take_takes a b reply same h before has = took_by a b same.ring before has h.calls h.before_is (ends_closed h.calls.end) reply h.adds

pub take_all_takes : (a b : RingEnd) (wanted : ℕ) (reply : TakeBatchReply) (into : List ℕ) → IsSameEnd a b → HasTakenAll b.ring.shape wanted a.list b.list reply into → TakesMore a b (take (number_brought reply) into)
take_all_takes a b wanted reply into same h before has = took_all_by a b same.ring before has h.calls h.before_is (ends_closed h.calls.end) wanted reply into h.adds
