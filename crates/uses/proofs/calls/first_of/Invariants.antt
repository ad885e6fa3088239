use Rattle.std.proofs.Common.{◌≡◌, [], map, take}
use Rattle.queue_calls.specs.Audits.{Audits}
use Rattle.queue_calls.specs.Calls.{IsLinearizable}
use Rattle.queue_calls.specs.Told.{meant, told}
use Rattle.uses.proofs.calls.first_of.Given as goal

abbrev pub invariant-loop-number : goal.invariant-loop-number
invariant-loop-number g l =
    (l.auditor.capacity ≡ l.initial.auditor.capacity) × (Audits g.Q.Fifo.items l.initial.auditor [] → Audits g.Q.Fifo.items l.auditor (map told (take l.number l.events)) ×
    IsLinearizable (meant l.initial.auditor.capacity) (map told (take l.number l.events))) ×
    (g.Q.Fifo.room l.auditor.inside ≡ g.Q.Fifo.room l.initial.auditor.inside)
