use Rattle.std.proofs.Common.{◌≡◌, ◌≤◌, ◌+◌, ◌++◌, drop, length}
use Rattle.ring_script.specs.ScheduleReading.{letters_after, letters_of}
use Rattle.ring_script.specs.Schedule.{runs_in, spelled}
use Rattle.ring_script.specs.declared.schedules.TheConstants.{LETTER_LIMIT}
use Rattle.ring_script.proofs.schedules.runs.Given as goal

-- the runs so far and what is left make the letters
abbrev pub invariant-loop-b : goal.invariant-loop-b
invariant-loop-b g l = record {
  letters : spelled (g.S.Store.items l.runs) ++ letters_after l.side l.count (drop l.b-index l.rest) ≡ letters_of l.text;
  total : l.total ≡ length (spelled (g.S.Store.items l.runs));
  within : l.total + l.count ≤ LETTER_LIMIT;
  made : length (g.S.Store.items l.runs) + runs_in (drop l.b-index l.rest) ≡ runs_in l.rest;
  room : g.S.Store.room l.runs ≡ g.S.Store.room l.fn.store;
}
