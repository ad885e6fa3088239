use Rattle.std.proofs.Common.{arith, refl}
use Rattle.trace_text.proofs.TraceReadings.{reads_each_small, short_begins}
use Rattle.trace_text.proofs.traces.read_filled.Goals as goal

pub returns-clause-only : goal.returns-clause-only
returns-clause-only c =
    let f = c.read_lines.new.store in
    reads_each_small c.args.bytes.now c.read_lines.result f.slots.now f.used c.read_lines.ensures.read c.read_lines.ensures.refused

pub returns-clause-refused : goal.returns-clause-refused
returns-clause-refused c = grind arith

pub returns-clause-full : goal.returns-clause-full
returns-clause-full c =
    let f = c.read_lines.new.store in
    short_begins c.args.bytes.now c.read_lines.result f.slots.now f.used c.read_lines.ensures.refused

pub returns-clause-slots : goal.returns-clause-slots
returns-clause-slots c = c.read_lines.ensures.slots c.args.filled.now refl
