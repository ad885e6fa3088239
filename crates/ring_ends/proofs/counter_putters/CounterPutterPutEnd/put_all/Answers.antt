use Rattle.std.proofs.Common.{rules, sym, ◌∙◌, subst}
use Rattle.ring_core.specs.declared.replies.BatchReply.{BatchReply}
use Rattle.ring_ends.proofs.Common.{RingEnd, HasPutAll}
use Rattle.ring_ends.proofs.CounterPutterCalls.{stored_phrase}
use Rattle.ring_ends.proofs.StoredItems.{put_all_stores}
use Rattle.ring_ends.proofs.counter_putters.CounterPutterPutEnd.put_all.Goals.{in-0, in_default}
use Rattle.ring_ends.proofs.counter_putters.CounterPutterPutEnd.put_all.Goals as goal

pub returns-clause-stored : goal.returns-clause-stored
returns-clause-stored c =
    let a = c.self.invariant in
    let b = c.put_open.new in
    elim c.match-put_open.branch [
      | in-0 w ↦ put_all_stores c.args.self.now b.stepper c.args.items.now c.match-put_open.result (search rules) (search rules)
      | in_default w ↦
          let opened = sym a.2 ∙ c.if-self.false in
          let phrase = stored_phrase c.self.inside.stepper b.stepper b.count b.cell c.args.items.now a.0 c.put_open.result a.1.has opened (c.put_open.ensures a.0 a.1 opened) (search rules) in
          put_all_stores c.args.self.now b.stepper c.args.items.now c.match-put_open.result (search rules)
          (subst (λ (z : RingEnd × BatchReply). HasPutAll (b.stepper).ring.shape c.args.items.now (z.0).list (b.stepper).list z.1) (λ i. (c.self.view_is i, sym w.result-is i)) phrase)
    ]
