use Rattle.std.proofs.Common.{arith}
use Rattle.bits_core.specs.Shape.{capacity_of}
use Rattle.queue_calls.specs.Told.{told}
use Rattle.ring_program.specs.RunRecordings.{run_counts}
use Rattle.ring_program.proofs.RunText.{audits_more, begins_run, leaves_less, records_run, writes_more}
use Rattle.queue_calls.proofs.LawLemmas.{history_has_a_recording, linearizable_is_in_turn}
use Rattle.ring_program.proofs.run_recordings.recording_text.Goals as goal

pub lines-init : goal.lines-init
lines-init g c =
    grind (arith, begins_run, c.new-text.ensures.bytes, c.text.ensures, c.first_word.ensures, c.capacity-capacity.ensures.value, c.in_ok-push_list.ensures.ok, c.new-auditor.ensures.reads, c.new-auditor.ensures.capacity, c.exactly.ensures, c.has_read.ensures, c.all-untold.ensures.items, c.all-untold.ensures.left)

pub lines-preserved : goal.lines-preserved
lines-preserved g c =
    let shape = c.args.shape.now in
    let o = c.args.outcome.now in
    let items = c.args.items.now in
    let t = c.lines.invariant in
    let event = told c.in-Some-event_told.event in
    let left = c.in-Some-behind in
    record {
      events = _;
      is_written = writes_more c.is_cut-is_cut.result (capacity_of shape) c.lines.begun c.begun_behind-begun.result _ _ t.events event c.in_ok-push_event.ensures.line c.begun_behind-begun.ensures
          c.in_ok-push_event.ensures.small t.is_written;
      is_audited = audits_more (λ q. q.items) (capacity_of shape) c.lines.auditor c.audit.new.auditor t.events event c.in_ok-audit.ensures.capacity c.in_ok-audit.ensures.read t.is_audited;
      is_left = leaves_less shape items (run_counts items o.put o.calls o.full o.taken.items o.takes o.empty o.closed) c.lines.untold left.left c.lines.room c.behind-room.result t.events event
          left.ensures.0 left.ensures.1 c.behind-room.ensures.0 c.behind-room.ensures.1 t.is_left;
    }

pub returns-clause-text : goal.returns-clause-text
returns-clause-text g c =
    let shape = c.args.shape.now in
    let o = c.args.outcome.now in
    let items = c.args.items.now in
    records_run (λ q. q.items) c.is_cut-is_cut.result shape c.capacity-capacity.result items (run_counts items o.put o.calls o.full o.taken.items o.takes o.empty o.closed) _ c.lines.auditor c.lines.untold
    c.lines.room c.lines.begun history_has_a_recording linearizable_is_in_turn c.capacity-capacity.ensures.value c.capacity-capacity.ensures.some
    c.capacity-capacity.ensures.few
    (c.lacks_lines.ensures.cut c.if-lacks_lines.false)
    (c.lacks_lines.ensures.whole c.if-lacks_lines.false) c.lines.invariant
