use Rattle.std.proofs.Common.{◌≡◌, ◌∷◌, ◌+◌, drop, subst, string_bytes, arith, ap₂}
use Rattle.std.proofs.lemmas.List.{drop_all}
use Rattle.bits_core.specs.Shape.{capacity_of}
use Rattle.queue_calls.specs.Told.{told as event_told}
use Rattle.ring_program.specs.Texts.{near_calls}
use Rattle.ring_program.proofs.TellingText.{IsToldSoFar, near_more, telling_goes_on, telling_is_told}
use Rattle.ring_program.proofs.tellings.near_text.Goals as goal
use Rattle.ring_program.proofs.RecordingText.{line_is}

pub loop-each-init : goal.loop-each-init
loop-each-init g c = grind (arith, ap₂, line_is, c.new-text.ensures.bytes, c.text.ensures, c.capacity-capacity.ensures.value, c.shape.ensures, c.in_ok-push_list.ensures.ok)

pub loop-each-preserved : goal.loop-each-preserved
loop-each-preserved g c =
    let script = c.args.script.now in
    let told = c.args.told.now in
    let event = event_told c.event_of-event.result in
    let later = near_calls script c.items_left-left.result.now (drop (c.loop-each.each-index + 1) told) in
    let first : near_calls script c.loop-each.left.now (drop c.loop-each.each-index told) ≡ event ∷ later =
    near_more script c.loop-each.left.now c.items_left-left.result.now told c.loop-each.each-index _ event c.loop-each-test.true c.event_of-event.ensures c.items_left-left.ensures in
    telling_goes_on (capacity_of script.shape) (near_calls script c.args.taken.now told) event later c.loop-each.begun (string_bytes c.loop-each.text) _ _ c.in_ok-push_event.ensures.line c.begun_behind-begun.ensures c.in_ok-push_event.ensures.small
    (subst (λ l. IsToldSoFar (capacity_of script.shape) (near_calls script c.args.taken.now told) l c.loop-each.begun (string_bytes c.loop-each.text)) first c.loop-each.invariant)

pub returns-clause-text : goal.returns-clause-text
returns-clause-text g c = grind (arith, telling_is_told, drop_all, c.loop-each.invariant)
