use Rattle.std.proofs.Common.{arith, refl, sym}
use Rattle.register_recordings.proofs.FurtherLines.{first_judged}
use Rattle.register_recordings.proofs.recordings.JudgedLines.begin.Goals as goal

pub returns-in_default-clause-refused : goal.returns-in_default-clause-refused
returns-in_default-clause-refused g c = (refl, sym c.in_default.ensures)

pub restart-requires : goal.restart-requires
restart-requires g c = grind (arith, c.requires, c.in-Some.ensures)

pub returns-clause-read : goal.returns-clause-read
returns-clause-read g c = grind (arith, (first_judged g.W.Fifo.items g.R.Fifo.items g.P.Fifo.items g.C.Fifo.items _ c.args.line c.in-Some.register c.requires (sym c.in-Some.ensures) refl (sym c.lacks_operations-self.ensures) c.in_ok-restart.ensures.register c.in_ok-restart.ensures.remembers c.none-self.ensures refl), c.args.line, c.in-Some.ensures, c.in-Some.register, c.in_ok-restart.ensures.register, c.in_ok-restart.ensures.remembers, c.lacks_operations-self.ensures, c.none-self.ensures, c.requires, g.C.Fifo.items, g.P.Fifo.items, g.R.Fifo.items, g.W.Fifo.items)
