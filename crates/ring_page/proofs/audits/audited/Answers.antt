use Rattle.std.proofs.Common.{◌≡◌, ◌<◌, ◌≤◌, ◌∙◌, ℕ, sym, subst, inl, inr, take, length, arith}
use Rattle.trace_text.specs.Trace.{BeginsWithMore}
use Rattle.ring_page.specs.Programs.{TellsPrograms}
use Rattle.ring_page.specs.declared.audits.TheConstants.{EVENT_ROOM}
use Rattle.ring_page.specs.Reasons.{TellsSince}
use Rattle.ring_page.specs.declared.programs.Judged.{Judged}
use Rattle.std.proofs.lemmas.List.{length-take-le}
use Rattle.ring_page.proofs.Shown.{AreMarksOf-audited}
use Rattle.ring_page.proofs.Sinces.{since_fits, since_told}
use Rattle.ring_page.proofs.audits.audited.Goals as goal

pub since_when-since-requires : goal.since_when-since-requires
since_when-since-requires c =
    let events = take c.in-Ok.count c.read_trace_into.new.events in
    let count = length-take-le c.in-Ok.count c.read_trace_into.new.events c.in-Ok.ensures.within in
    let fits = since_fits c.in-Ok.shape events c.audit_bits_into-verdict.result.0 c.audit_bits_into-verdict.result.1 c.audit_bits_into-verdict.ensures.verdict c.audit_bits_into-verdict.ensures.why in
    omega (arith, fits, count, c.in-Ok.ensures.within, c.read_trace_into.auto.events, c.requires.room)

pub returns-in-Ok : goal.returns-in-Ok
returns-in-Ok c =
    let shape = c.in-Ok.shape in
    let events = take c.in-Ok.count c.read_trace_into.new.events in
    let verdict = c.audit_bits_into-verdict.result.0 in
    let count = length-take-le c.in-Ok.count c.read_trace_into.new.events c.in-Ok.ensures.within in
    let few : length events ≤ length c.audit_bits_into-verdict.new.seen = omega (arith, count, c.in-Ok.ensures.within, c.read_trace_into.auto.events, c.requires.room, c.audit_bits_into-verdict.auto.seen, c.requires.seen.0) in
    inl (record {
      shape = shape;
      events = events;
      verdict = verdict;
      is_trace = c.in-Ok.ensures.read;
      is_verdict = c.audit_bits_into-verdict.ensures.verdict;
      tells = c.told_verdict.ensures.verdict;
      tells_shape = c.told_verdict.ensures.shape;
      count = c.told_verdict.ensures.count ∙ sym count;
      since = subst (λ (n : ℕ). TellsSince c.in-Ok.shape events verdict n) (sym c.told_verdict.ensures.since) (rw c.since_when-since.ensures (since_told c.in-Ok.shape events verdict c.audit_bits_into-verdict.result.1 c.audit_bits_into-verdict.ensures.why));
      programs = subst (λ (j : Judged). TellsPrograms shape events c.tell_programs-programs.new.put c.tell_programs-programs.new.taken j) (sym c.told_verdict.ensures.programs) c.tell_programs-programs.ensures;
      are_marks = AreMarksOf-audited shape events verdict c.args.seen.now c.audit_bits_into-verdict.new.seen c.put_marks.new.marks
          c.audit_bits_into-verdict.ensures.verdict c.requires.seen.1 c.audit_bits_into-verdict.ensures.seen few c.put_marks.ensures;
    })

pub returns-in-Err : goal.returns-in-Err
returns-in-Err c =
    let room : length c.read_trace_into.new.events ≡ EVENT_ROOM = c.read_trace_into.auto.events ∙ c.requires.room in
    inr (record {
      fault = c.in-Err.fault;
      cause = elim c.in-Err.ensures.refused [
        | inl is ↦ inr (
          is,
          record {
            begins = subst (BeginsWithMore c.args.text.now) room (c.in-Err.ensures.full is);
            only = λ shape events trace. subst (λ (n : ℕ). n < length events) room (c.in-Err.ensures.only shape events trace).1;
          },
        )
        | inr fault ↦ inl fault
      ];
      tells = c.told_fault.ensures;
    })
