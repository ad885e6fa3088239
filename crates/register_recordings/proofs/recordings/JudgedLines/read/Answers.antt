use Rattle.std.proofs.Common.{◌≡◌, ◌+◌, sym, arith}
use Rattle.register_recordings.proofs.FurtherLines.{further_read, further_refused, goes_on_line, no_event}
use Rattle.register_recordings.proofs.recordings.JudgedLines.read.Goals as goal

pub returns-in_default-clause-refused : goal.returns-in_default-clause-refused
returns-in_default-clause-refused g c before has = omega (arith, has.count, c.in_default.ensures)

pub returns-in_default-read_register_line-clause-refused : goal.returns-in_default-read_register_line-clause-refused
returns-in_default-read_register_line-clause-refused g c before has = grind (arith, goes_on_line, c.in-Some.ensures.1, c.in_default-read_register_line.ensures.none)

pub begin-requires : goal.begin-requires
begin-requires g c = let is = c.in-Some-read_register_line.ensures.line in is.allowed

pub returns-then-count-eq1-clause-read : goal.returns-then-count-eq1-clause-read
returns-then-count-eq1-clause-read g c = grind arith

pub returns-then-count-eq1-clause-refused : goal.returns-then-count-eq1-clause-refused
returns-then-count-eq1-clause-refused g c = grind arith

pub returns-in_default-recorded_event-clause-refused : goal.returns-in_default-recorded_event-clause-refused
returns-in_default-recorded_event-clause-refused g c before has =
    grind (arith, no_event, c.if-count-eq1.false, c.in-Some.ensures.1, c.in-Some-read_register_line.ensures.line, c.in_default-recorded_event.ensures)

pub returns-clause-read : goal.returns-clause-read
returns-clause-read g c = grind (arith, further_read, c.in-Some.ensures.1, c.if-count-eq1.false, c.in-Some-read_register_line.ensures.line, c.in-Some-recorded_event.ensures, c.hear.ensures)

pub returns-clause-refused : goal.returns-clause-refused
returns-clause-refused g c =
    let next : c.in-Some.count ≡ c.args.self.now.count + 1 = omega (arith, c.in-Some.ensures.1) in
    further_refused g.W.Fifo.items g.R.Fifo.items g.P.Fifo.items g.C.Fifo.items c.args.self.now c.hear.new.self c.args.bytes.now c.in-Some-read_register_line.line c.in-Some.count c.in-Some-recorded_event.event next c.if-count-eq1.false
    c.in-Some-read_register_line.ensures.line (sym c.in-Some-recorded_event.ensures) c.hear.result c.hear.ensures
