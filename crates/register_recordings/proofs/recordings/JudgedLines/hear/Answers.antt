use Rattle.std.proofs.Common.{arith, refl, subst}
use Rattle.register_recordings.proofs.Common.{Register, WritesValue}
use Rattle.register_recordings.proofs.EventLemmas.{event_passed}
use Rattle.register_recordings.proofs.recordings.JudgedLines.hear.Goals as goal

pub returns-then-not-writes_value : goal.returns-then-not-writes_value
returns-then-not-writes_value g c before at so_far = grind arith

pub returns : goal.returns
returns g c before at so_far =
    event_passed g.W.Fifo.items g.R.Fifo.items g.P.Fifo.items g.C.Fifo.items c.args.self.now _ c.args.count c.args.event before c.in-Some.field-0 refl refl refl c.in-Some.is c.in-Some.is
    (subst (λ (r : Register). WritesValue r c.args.event) c.register.ensures (c.writes_value.ensures.0 c.if-not-writes_value.false)) so_far
