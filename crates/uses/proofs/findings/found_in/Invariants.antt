use Rattle.std.proofs.Common.{◌≡◌, take}
use Rattle.std.specs.Prelude.{flat_map}
use Rattle.queue_calls.specs.RecordingStates.{HasRead}
use Rattle.uses.proofs.findings.found_in.Given as goal

abbrev pub invariant-pieces : goal.invariant-pieces
invariant-pieces g l = HasRead (λ q. q.items) (λ q. q.items) (λ v. v.items) l.recording (flat_map (λ piece. piece.now) (take l.piece-index l.pieces)) × (l.pieces ≡ l.initial.pieces)
