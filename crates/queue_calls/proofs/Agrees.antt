-- What an auditor keeps of a history agrees with the past: it counts by differences what a cause reports in full.
use Rattle.std.proofs.Common.{◌≡◌, ℕ, ◌+◌, ◌-◌, ◌≤◌, Bool, true, false, ◌||◌, List, [], ◌++◌, length}
use Rattle.queue_calls.proofs.Common.{Event, Kept, Offered, PutTurn, Free, Offers, Late, Closes, TakeTurn, Rests, Waits}
use Rattle.queue_calls.specs.Reasons.{has_begun, has_ended, has_told, before_put, before_take, offers, stored, wanted, n_of, k_of, items_of}

-- what the producer has under way, by what is offered, whether a close had ended before the put, how many were taken then, how many are
-- stored, and whether a close has begun and ended
abbrev pub PutFits : PutTurn → List Offered → (late : Bool) → (before count : ℕ) → (begun ended : Bool) → Type 0
PutFits Free offered late before count begun ended = (offered ≡ []) × (begun ≡ ended)
PutFits (Offers n inside) offered late before count begun ended = (length offered ≡ n) × (late ≡ false) × (before + inside ≡ count) × (begun ≡ false)
PutFits (Late n) offered late before count begun ended = (offered ≡ []) × (late ≡ true) × (ended ≡ true) × (begun ≡ true)
PutFits (Closes again) offered late before count begun ended = (offered ≡ []) × (begun ≡ true)

-- what the consumer has under way, by how many it asks for, how many were stored before, how many are taken, whether a close had ended
-- before the take, and whether one returned Closed
abbrev pub TakeFits : TakeTurn → (wanted before count : ℕ) → (ended told : Bool) → Type 0
TakeFits Rests wanted before count ended told = wanted ≡ 0
TakeFits (Waits wants inside closed) wanted before count ended told = (wanted ≡ wants) × (inside ≡ before - count) × (closed ≡ (ended || told))

-- the same from a past
abbrev pub PutAgrees : List Event → PutTurn → Type 0
PutAgrees past put = PutFits put (offers past) (has_ended (before_put past)) (k_of (before_put past)) (n_of past) (has_begun past) (has_ended past)

abbrev pub TakeAgrees : List Event → TakeTurn → Type 0
TakeAgrees past turn = TakeFits turn (wanted past) (n_of (before_take past)) (k_of past) (has_ended (before_take past)) (has_told past)

-- What is kept agrees with a past. The items inside follow those that are gone, among all that were stored or are offered. If a take
-- returned Closed nothing is inside, and nothing is stored after a take that began after the end of a close.
pub record Agrees (past : List Event) (k : Kept) : Type 0 where
  pub gone : List ℕ
  pub row : gone ++ k.inside ≡ items_of (stored past ++ offers past)
  pub count : length gone ≡ k_of past
  pub put_fits : PutAgrees past k.put
  pub take_fits : TakeAgrees past k.take
  pub shut : k.shut ≡ (has_ended past || has_told past)
  pub told : has_told past ≡ true → (k.inside ≡ []) × (has_begun past ≡ true)
  pub ended : has_ended past ≡ true → has_begun past ≡ true
  pub steady : has_ended (before_take past) ≡ true → n_of past ≤ n_of (before_take past)
