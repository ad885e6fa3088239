-- What is kept of a history for its report, and how an event is counted.
use Rattle.std.specs.Prelude.{◌≡◌, ℕ, ◌-◌, ◌≤◌, Bool, true, false, List, ◌∷◌, length, max, min, reverse}
use Rattle.queue_calls.specs.Queue.{Capacity, Unbounded, Between}
use Rattle.queue_calls.specs.Calls.{Event, PutBegin, PutEnd, passed}
use Rattle.queue_calls.specs.Counting.{Kept}
use Rattle.queue_calls.specs.Reasons.{offers}
use Rattle.queue_calls.specs.Reporting.{HasCounts, IsSurelyInside, IsPerhapsInside, put_is_open, take_is_open, put_overlaps, take_overlaps}
use Rattle.queue_calls.specs.State.{offered_by, asked_by}
use Rattle.queue_calls.specs.declared.reports.CallsReport.{CallsReport}
use Rattle.queue_calls.specs.declared.reports.Tally.{Tally}
use Rattle.queue_calls.specs.declared.turns.PutTurn.{PutTurn}
use Rattle.queue_calls.specs.declared.turns.PutTurn.TheVariants.{Free}
use Rattle.queue_calls.specs.declared.turns.TakeTurn.{TakeTurn}
use Rattle.queue_calls.specs.declared.turns.TakeTurn.TheVariants.{Rests}

-- whether a side has a call under way, as an auditor keeps it
abbrev pub has_put : PutTurn → Bool
has_put Free = false
has_put _ = true

-- the same for the consumer
abbrev pub has_take : TakeTurn → Bool
has_take Rests = false
has_take _ = true

-- at least how many items are inside, whatever the calls under way have done
abbrev pub least_kept : Kept → ℕ
least_kept k = (length k.inside - offered_by k.put) - asked_by k.take

-- and at most how many items are inside
abbrev pub most_kept : Capacity → Kept → ℕ
most_kept Unbounded k = length k.inside
most_kept (Between full most) k = min (length k.inside) most

-- the most items ever inside after one more event, from the most before and the most at it: it can only grow when a put begins
abbrev pub most_behind : Event → (before most : ℕ) → ℕ
most_behind (PutBegin items) before most = max before most
most_behind _ before most = before

-- a report has the numbers of another, except for the number of calls, of overlaps and of calls under way
pub record HaveOtherNumbersOf (old new : CallsReport) : Type 0 where
  pub stored : new.stored ≡ old.stored
  pub taken : new.taken ≡ old.taken
  pub full : new.full ≡ old.full
  pub empty : new.empty ≡ old.empty
  pub nothing : new.nothing ≡ old.nothing
  pub told : new.told ≡ old.told
  pub surely_inside : new.surely_inside ≡ old.surely_inside
  pub perhaps_inside : new.perhaps_inside ≡ old.perhaps_inside

-- a report has the numbers of another, except for the number of calls under way
pub record HaveNumbersOf (old new : CallsReport) : Type 0 where
  pub calls : new.calls ≡ old.calls
  pub overlapped : new.overlapped ≡ old.overlapped
  pub others : HaveOtherNumbersOf old new

-- the numbers of a past, and whether the last call of each side has overlapped one of the other
pub record Tallies (past : List Event) (tally : Tally) : Type 0 where
  pub counted : HasCounts past tally.report
  pub put_overlaps : tally.put_overlaps ≡ put_overlaps past
  pub take_overlaps : tally.take_overlaps ≡ take_overlaps past

-- a put that ends stored no more than it offered
abbrev pub StoresWithin : Event → List Event → Type 0
StoresWithin (PutEnd reply) past = passed 0 reply ≤ length (offers past)
StoresWithin _ past = Unit {0}

-- what is known about an event after a past: how many items were offered before it, and which sides have a call under way then
abbrev pub IsToldOf : Event → List Event → (offered : ℕ) → PutTurn → TakeTurn → Type 0
IsToldOf event past offered put take =
    (offered ≡ length (offers past)) × StoresWithin event past × (has_put put ≡ put_is_open (event ∷ past)) × (has_take take ≡ take_is_open (event ∷ past))

-- what is kept for the report of a history
pub record IsTallied (capacity : Capacity) (events : List Event) (tally : Tally) : Type 0 where
  pub tallies : Tallies (reverse events) tally
  pub surely : IsSurelyInside capacity events tally.report.surely_inside
  pub perhaps : IsPerhapsInside capacity events tally.report.perhaps_inside
