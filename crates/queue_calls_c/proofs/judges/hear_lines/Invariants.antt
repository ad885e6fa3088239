use Rattle.std.proofs.Common.{◌≡◌, List, take}
use Rattle.register_calls.specs.declared.events.RegisterEvent.{RegisterEvent}
use Rattle.queue_calls_c.specs.Registers.{HasHeardEvents, StandFor}
use Rattle.queue_calls_c.proofs.judges.hear_lines.Given as goal

-- the auditor has heard the events of the lines so far
abbrev pub invariant-loop-place : goal.invariant-loop-place
invariant-loop-place g l = record {
  register : l.auditor.register ≡ l.fn.auditor.register;
  window : g.W.Fifo.room l.auditor.window ≡ g.W.Fifo.room l.fn.auditor.window;
  readers : g.R.Fifo.room l.auditor.readers ≡ g.R.Fifo.room l.fn.auditor.readers;
  heard : (events : List RegisterEvent) × StandFor (take l.place l.lines) events × HasHeardEvents g.W.Fifo.items g.R.Fifo.items l.auditor l.lost events;
}
