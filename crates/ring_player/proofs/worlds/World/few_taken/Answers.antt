use Rattle.std.proofs.Common.{◌≤◌, length, ap, subst, arith}
use Rattle.ring_player.proofs.Common.{Played, content_of, Content}
use Rattle.ring_player.proofs.TakesSoFar.{taken_few}
use Rattle.ring_player.proofs.WorldParts.{first_few, taken_first}
use Rattle.ring_player.proofs.worlds.World.few_taken.Goals as goal

pub returns-clause-items : goal.returns-clause-items
returns-clause-items g c =
    let w = c.self.inside in
    let i = c.self.invariant in
    subst (λ (x : Played). x.taken ≤ length x.script.items) c.self.view_is (first_few (g.T.Store.items w.consumer.taken) (content_of w.script).items
    (taken_first _ _ (content_of w.producer.script) (content_of w.consumer.script) _ _ _ _ _ w.producer.put (g.T.Store.items w.consumer.taken) (record { stored = w.producer.stored; full = w.producer.full }) w.consumer.told w.consumer.empty c.self.view_is
    i.put_script_is i.take_script_is i.puts i.takes c.look.ensures c.look-2.ensures c.history.ensures.plays.headline))

pub returns-clause-takes : goal.returns-clause-takes
returns-clause-takes g c =
    let w = c.self.inside in
    let i = c.self.invariant in
    subst (λ (x : Played). x.taken ≤ x.script.takes) c.self.view_is (omega (arith, taken_few, ap (λ (x : Content). x.takes) i.take_script_is))
