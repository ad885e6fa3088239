use Rattle.std.proofs.Common.{sym, ap, ◌∙◌, map}
use Rattle.std.proofs.lemmas.List.{take-map}
use Rattle.queue_calls.proofs.insides.LinedInside.truncate.Goals as goal

pub returns-clause-items : goal.returns-clause-items
returns-clause-items g c = ap (map (λ o. o.item)) c.truncate.ensures.items ∙ sym (take-map (λ o. o.item) c.args.count (g.O.Fifo.items c.args.self.now.list))
