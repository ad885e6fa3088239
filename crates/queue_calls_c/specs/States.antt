-- What the numbers of an audit mean.
use Rattle.std.specs.Prelude.{◌==◌, if◌then◌else◌, List, Some, None, take}
use Rattle.lists.specs.Rings.{round_from}
use Rattle.queue_calls.specs.declared.auditors.AuditorState.{AuditorState}
use Rattle.queue_calls.specs.declared.capacities.Capacity.{Capacity}
use Rattle.queue_calls.specs.declared.capacities.Capacity.TheVariants.{Unbounded, Between}
use Rattle.call_causes.specs.declared.entries.Offered.{Offered}
use Rattle.call_causes.specs.declared.entries.Taken.{Taken}
use Rattle.queue_calls.specs.declared.hearings.Begun.{Begun}
use Rattle.queue_calls.specs.declared.hearings.Begun.TheVariants as begun
use Rattle.queue_calls.specs.declared.hearings.HearingState.{HearingState}
use Rattle.queue_calls.specs.declared.turns.PutTurn.{PutTurn}
use Rattle.queue_calls.specs.declared.turns.PutTurn.TheVariants.{Free, Offers, Late, Closes}
use Rattle.queue_calls.specs.declared.turns.TakeTurn.{TakeTurn}
use Rattle.queue_calls.specs.declared.turns.TakeTurn.TheVariants.{Rests, Waits}
use Rattle.queue_calls_c.specs.declared.states.Audit.{Audit}
use Rattle.queue_calls_c.specs.declared.states.Calls.{Calls}

-- the capacity of the queue
abbrev pub kept_capacity : Calls → Capacity
kept_capacity c = if c.bounded then Between c.full c.most else Unbounded

-- the producer's call under way
abbrev pub kept_put : Calls → PutTurn
kept_put c = if c.put == 1 then Offers c.offered c.before_put else if c.put == 2 then Late c.offered else if c.put == 3 then Closes c.again else Free

-- the consumer's call under way
abbrev pub kept_take : Calls → TakeTurn
kept_take c = if c.take then Waits c.wanted c.before_take c.ended else Rests

-- what the producer began last
abbrev pub kept_begun : Calls → Begun
kept_begun c = if c.begun == 1 then begun.Put c.begun_items else if c.begun == 2 then begun.Close else begun.Nothing

-- what an auditor keeps
abbrev pub auditor_state : Calls → AuditorState
auditor_state c = record { capacity = kept_capacity c; put = kept_put c; take = kept_take c; shut = c.shut }

-- what a hearing keeps
abbrev pub state_of : Audit → HearingState
state_of a = record {
  auditor = auditor_state a.calls;
  limit = a.limit;
  last_taken = a.last_taken;
  ended_at = if a.has_ended then Some a.ended_at else None;
  told_at = if a.has_told then Some a.told_at else None;
  put_at = a.put_at;
  stored_at = a.stored_at;
  report = a.report;
  put_overlaps = a.put_overlaps;
  take_overlaps = a.take_overlaps;
  begun = kept_begun a.calls;
}

-- the items in its slots
abbrev pub offered_there : Audit → List Offered
offered_there a = take a.offered_used (round_from a.offered_first a.offered.now)

-- the items taken last, in its slots
abbrev pub taken_there : Audit → List Taken
taken_there a = take a.taken_used (round_from a.taken_first a.taken.now)
