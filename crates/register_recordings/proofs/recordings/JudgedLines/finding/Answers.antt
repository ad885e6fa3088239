use Rattle.std.proofs.Common.{arith, ℕ, Option, subst}
use Rattle.register_recordings.specs.Reading.{HasReadEvents}
use Rattle.register_recordings.proofs.recordings.JudgedLines.finding.Goals as goal

pub returns-in-Some : goal.returns-in-Some
returns-in-Some g c events read = subst (λ (o : Option ℕ). HasReadEvents g.W.Fifo.items g.R.Fifo.items g.P.Fifo.items g.C.Fifo.items c.args.self.now o events) c.in-Some.is read

pub returns-in-None : goal.returns-in-None
returns-in-None g c events read = grind arith
