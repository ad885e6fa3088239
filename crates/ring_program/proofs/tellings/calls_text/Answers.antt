use Rattle.std.proofs.Common.{◌∙◌, ap, false}
use Rattle.bits_core.specs.Shape.{capacity_of}
use Rattle.ring_player.specs.Tellings.{call_events}
use Rattle.ring_program.proofs.TellingText.{told_is_recording}
use Rattle.queue_calls.proofs.LawLemmas.{history_has_a_recording, linearizable_is_in_turn}
use Rattle.ring_program.proofs.tellings.calls_text.Goals as goal

pub returns-clause-recording : goal.returns-clause-recording
returns-clause-recording g c =
    let script = c.args.script.now in
    (told_is_recording false (capacity_of script.shape) c.capacity-capacity.result (call_events script c.args.told.now) _
    (c.capacity-capacity.ensures.value ∙ ap capacity_of c.shape.ensures) c.capacity-capacity.ensures.some c.capacity-capacity.ensures.few
    history_has_a_recording (linearizable_is_in_turn _ _ c.requires.linearizable) c.in_ok-text.ensures.small c.in_ok-text.ensures.text).0
