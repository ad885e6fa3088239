use Rattle.std.proofs.Common.{arith, ap, subst}
use mathlib.Core.Option.{none}
use Rattle.atomic_table.specs.Table.{step}
use Rattle.atomic_table.specs.Seated.{TableId}
use Rattle.ring_seats.specs.Ring.{Ring}
use Rattle.ring_seats.proofs.words.Words.store.Goals as goal

pub store-requires : goal.store-requires
store-requires g c = grind arith

pub returns-clause-told : goal.returns-clause-told
returns-clause-told g c = subst (λ (z : TableId). g.N.Play.then (step z.slots c.args.word c.args.new 0 none) c.args.seat.now.me c.args.new c.store.new.seat.me) (ap (λ (r : Ring). r.id) c.self.view_is) c.store.ensures.2
