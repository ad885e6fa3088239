use Rattle.std.proofs.Common.{arith, ap, subst}
use mathlib.Core.Option.{none}
use Rattle.atomic_table.specs.Table.{step}
use Rattle.atomic_table.specs.Seated.{TableId}
use Rattle.ring_seats.specs.Ring.{Ring}
use Rattle.ring_seats.proofs.words.Words.load.Goals as goal

pub load-requires : goal.load-requires
load-requires g c = grind arith

pub returns-clause-told : goal.returns-clause-told
returns-clause-told g c = subst (λ (z : TableId). g.N.Play.then (step z.slots c.args.word 0 0 none) c.args.seat.now.me c.load.result c.load.new.seat.me) (ap (λ (r : Ring). r.id) c.self.view_is) c.load.ensures.2
