-- The lists of a ring's two ends in terms of a queue: the items that were stored, or taken.
use Rattle.std.specs.Prelude.{◌≡◌, ℕ, Bool, true, List, [], ◌∷◌, ◌++◌}
use Rattle.bits_core.specs.Made.{IsPrefix}
use Rattle.ring_core.specs.declared.replies.PutReply.{PutReply}
use Rattle.ring_core.specs.declared.replies.PutReply.TheVariants as single
use Rattle.ring_core.specs.declared.replies.BatchReply.{BatchReply}
use Rattle.ring_core.specs.declared.replies.BatchReply.TheVariants as several
use Rattle.ring_core.specs.Puts.{Puts}
use Rattle.ring_core.specs.Takes.{Takes}
use Rattle.ring_core.specs.Items.{all_put, all_taken}
use Rattle.ring_seats.specs.Ring.{RingEnd}
use Rattle.ring_seats.specs.Calls.{HasPuts, HasTakes}

-- the end has made complete calls, whose puts stored these items, one after the other
pub record HasStored (e : RingEnd) (items : List ℕ) : Type 0 where
  pub calls : Puts
  pub list_is : HasPuts e.ring.shape e.list calls
  pub items_are : all_put calls.puts ≡ items

-- the end has made complete takes, which took these items, one after the other
pub record HasTook (e : RingEnd) (items : List ℕ) : Type 0 where
  pub calls : Takes
  pub list_is : HasTakes e.ring.shape e.list calls
  pub items_are : all_taken calls.takes ≡ items

-- how many items a put of several stored, by its reply
abbrev pub number_stored : BatchReply → ℕ
number_stored (several.Stored m) = m
number_stored several.Full = 0
number_stored several.Closed = 0

-- the item that a put of one stored, if it did
abbrev pub item_stored : PutReply → ℕ → List ℕ
item_stored single.Stored item = item ∷ []
item_stored single.Full item = []
item_stored single.Closed item = []

-- whatever items the first end has stored, the second has stored them and then these
abbrev pub StoresMore : (a b : RingEnd) → List ℕ → Type 0
StoresMore a b items = (before : List ℕ) → HasStored a before → HasStored b (before ++ items)

-- the same for items taken
abbrev pub TakesMore : (a b : RingEnd) → List ℕ → Type 0
TakesMore a b items = (before : List ℕ) → HasTook a before → HasTook b (before ++ items)

-- the items that the second end took are a prefix of those that the first stored
abbrev pub TakesArePrefix : (p c : RingEnd) → Type 0
TakesArePrefix p c = (put taken : List ℕ) → HasStored p put → HasTook c taken → IsPrefix taken put

-- if a take of the second end returned Closed, they are all of them
abbrev pub TakesAreAll : (p c : RingEnd) → Bool → Type 0
TakesAreAll p c told = (put taken : List ℕ) → HasStored p put → HasTook c taken → told ≡ true → taken ≡ put
