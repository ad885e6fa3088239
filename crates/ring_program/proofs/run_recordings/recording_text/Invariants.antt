use Rattle.std.specs.Prelude.{string_bytes}
use Rattle.bits_core.specs.Shape.{capacity_of}
use Rattle.ring_program.specs.RunRecordings.{run_counts}
use Rattle.ring_program.proofs.RunText.{HasTold}
use Rattle.ring_program.proofs.run_recordings.recording_text.Given as goal

abbrev pub invariant-lines : goal.invariant-lines
invariant-lines g l =
    let o = l.fn.outcome in
    HasTold (λ q. q.items) l.is_cut (capacity_of l.fn.shape) l.fn.shape l.fn.items (run_counts l.fn.items o.put o.calls o.full o.taken.items o.takes o.empty o.closed)
    (string_bytes l.text) l.auditor l.untold l.room l.begun
