use Rattle.ring_audit.proofs.Common.{opening_event, P, Stops, PutReading, HasReadPut}
use Rattle.std.proofs.Common.{sym, ap, ◌∙◌}
use Rattle.ring_audit.proofs.PutReads.{no_more}
use Rattle.ring_audit.proofs.puts.PutReader.begin.Goals as goal

pub returns-in-Closed-clause-read : goal.returns-in-Closed-clause-read
returns-in-Closed-clause-read c =
    let now : PutReading = c.args.self.now in
    let stops : HasReadPut now.shape now now (opening_event P c.args.access) Stops = λ es items stored st of_puts.
    no_more now.shape now es items stored c.args.access st c.requires
    (sym (ap (λ (z : PutReading). z.stage) c.self.view_is) ∙ c.in-Closed.is) of_puts in
    stops
