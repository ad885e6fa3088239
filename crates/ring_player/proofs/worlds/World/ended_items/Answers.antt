use Rattle.std.proofs.Common.{◌≡◌, sym, subst, ◌∙◌}
use Rattle.bits_core.specs.declared.events.Side.TheVariants.{C}
use Rattle.bits_core.specs.History.{open_access}
use Rattle.bits_core.specs.Made.{IsPrefix}
use Rattle.ring_player.specs.Worlds.{Played}
use Rattle.ring_core.specs.Items.{all_taken}
use Rattle.ring_core.specs.Over.{takes_over_in}
use Rattle.ring_core.specs.Takes.{FollowsTakes}
use Rattle.ring_player.proofs.WorldParts.{ended_of, taken_first}
use Rattle.ring_script.specs.Borrowed.{content_of}
use Rattle.ring_player.proofs.worlds.World.ended_items.Goals as goal

pub returns-clause-items : goal.returns-clause-items
returns-clause-items g c takes =
    let w = c.self.inside in
    let i = c.self.invariant in
    subst (λ (t : Played). FollowsTakes t.script.shape t.history takes → c.taken.result.now ≡ all_taken (takes_over_in t.script.shape t.history takes)) c.self.view_is
    (λ f. c.taken.ensures ∙ ended_of (content_of w.script) (content_of w.consumer.script) w.memory.events _ _ (g.T.Store.items w.consumer.taken) w.consumer.told w.consumer.empty i.take_script_is i.takes (c.look-2.ensures i.takes.list (open_access C w.memory.events) i.takes.there i.takes.is_due) takes f)

pub returns-clause-first : goal.returns-clause-first
returns-clause-first g c =
    let w = c.self.inside in
    let i = c.self.invariant in
    let first = taken_first _ _ (content_of w.producer.script) (content_of w.consumer.script) _ _ _ _ _ w.producer.put (g.T.Store.items w.consumer.taken) (record { stored = w.producer.stored; full = w.producer.full }) w.consumer.told w.consumer.empty c.self.view_is
    i.put_script_is i.take_script_is i.puts i.takes c.look.ensures c.look-2.ensures c.history.ensures.plays.headline in
    subst (λ (x : Played). IsPrefix c.taken.result.now x.script.items) c.self.view_is (subst (λ l. IsPrefix l (content_of w.script).items) (sym c.taken.ensures) first)
