use Rattle.std.proofs.Common.{subst, sym, ap, ◌∙◌}
use Rattle.ring_audit.proofs.Common.{P, put_program, PutReading, HasReadPut}
use Rattle.ring_audit.proofs.Beginnings.{begins_so}
use Rattle.ring_audit.proofs.Readers.{begin_in_access, end_at_rest, wrong_end}
use Rattle.ring_audit.proofs.puts.PutReader.read.Goals as goal

pub returns-in-Some-open_access-clause-read : goal.returns-in-Some-open_access-clause-read
returns-in-Some-open_access-clause-read c es items stored st of_puts =
    let now : PutReading = c.args.self.now in
    begin_in_access P es st.made (put_program now.shape of_puts.0) now.open_access c.in-Some-open_access.field-0 c.args.event c.in-Some.access st.events_are
    (sym (ap (λ (z : PutReading). z.open_access) c.self.view_is) ∙ c.in-Some-open_access.is) (sym c.in-Some.ensures) of_puts.2

pub returns-in-None-open_access-clause-read : goal.returns-in-None-open_access-clause-read
returns-in-None-open_access-clause-read c =
    let now : PutReading = c.args.self.now in
    subst (λ e. HasReadPut now.shape now c.begin.new.self e c.begin.result) (sym (begins_so P c.args.event c.in-Some.access c.requires (sym c.in-Some.ensures))) c.begin.ensures.read

pub returns-in-None-answer_to-clause-read : goal.returns-in-None-answer_to-clause-read
returns-in-None-answer_to-clause-read c es items stored st of_puts =
    let now : PutReading = c.args.self.now in
    wrong_end P es st.made (put_program now.shape of_puts.0) now.open_access c.in-Some-open_access-2.access c.args.event st.events_are
    (sym (ap (λ (z : PutReading). z.open_access) c.self-in-None.view_is) ∙ c.in-Some-open_access-2.is) c.requires c.in-None-answer_to.ensures of_puts.2

pub returns-in-None-open_access-2-clause-read : goal.returns-in-None-open_access-2-clause-read
returns-in-None-open_access-2-clause-read c es items stored st of_puts =
    let now : PutReading = c.args.self.now in
    end_at_rest P es st.made (put_program now.shape of_puts.0) now.open_access c.args.event st.events_are
    (sym (ap (λ (z : PutReading). z.open_access) c.self-in-None.view_is) ∙ c.in-None-open_access-2.is) (sym c.in-None.ensures) of_puts.2
