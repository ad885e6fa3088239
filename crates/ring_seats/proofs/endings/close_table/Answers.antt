use Rattle.std.proofs.Common.{arith}
use Rattle.ring_seats.proofs.LastStates.{last_shows}
use Rattle.ring_seats.proofs.endings.close_table.Goals as goal

pub returns-clause-shows : goal.returns-clause-shows
returns-clause-shows g c = grind (arith, (last_shows g.K.WordKind.count g.K.WordKind.shows c.args.table.shared.key c.args.seat.id c.args.seat.me.0 _ _ c.requires.knows c.close_with-closed.ensures.values.2), c.args.seat.id, c.args.seat.me.0, c.args.table.shared.key, c.close_with-closed.ensures.values.2, c.requires.knows, g.K.WordKind.count, g.K.WordKind.shows)
