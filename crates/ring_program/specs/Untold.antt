-- What is kept while the recording of a run is written: which part of the run is not written yet.
use Rattle.std.specs.Prelude.{◌≡◌, [], ◌∷◌, drop}
use Rattle.queue_calls.specs.Calls.{Event}
use Rattle.ring_program.specs.RunRecordings.{RunCounts, TellAllBut, stored_with}
use Rattle.ring_program.specs.declared.run_recordings.Untold.{Untold}

-- how much of the run that is
abbrev pub left_of : Untold → RunCounts
left_of u = record { put = u.put; calls = u.calls; full = u.full; closes = u.closes; takes = u.takes; empty = u.empty; told = u.told; taken = u.taken.now }

-- an event accounts for all of it except what is left after the event
pub record TakesOff (before : Untold) (event : Event) (after : Untold) : Type 0 where
  pub items : after.items.now ≡ drop (stored_with event) before.items.now
  pub tells : TellAllBut (left_of after) (left_of before) (event ∷ [])
