use Rattle.std.proofs.Common.{◌≡◌, subst, ◌∙◌}
use Rattle.bits_core.specs.declared.events.Side.TheVariants.{C}
use Rattle.bits_core.specs.History.{open_access}
use Rattle.ring_core.specs.ConsumerState.{due_take}
use Rattle.ring_core.specs.Items.{items_taken_in}
use Rattle.ring_core.specs.Takes.{FollowsTakes}
use Rattle.ring_player.specs.Actors.{TakeActorStands}
use Rattle.ring_player.specs.Worlds.{Played}
use Rattle.ring_player.proofs.WorldParts.{taken_of}
use Rattle.ring_script.specs.Borrowed.{content_of}
use Rattle.ring_player.proofs.worlds.World.report.Goals as goal

pub returns-clause-taken : goal.returns-clause-taken
returns-clause-taken g c takes =
    let w = c.self.inside in
    let i = c.self.invariant in
    subst (λ (t : Played). FollowsTakes t.script.shape t.history takes → g.T.Store.items c.into_taken.result ≡ items_taken_in t.script.shape t.history takes) c.self.view_is
    (λ f. c.into_taken.ensures ∙ (taken_of (content_of w.script) (content_of w.consumer.script) w.memory.events (due_take w.consumer.consumer) (TakeActorStands (content_of w.consumer.script) w.consumer.consumer (g.T.Store.items w.consumer.taken) w.consumer.told w.consumer.empty)
    (g.T.Store.items w.consumer.taken) w.consumer.told w.consumer.empty i.take_script_is i.takes (c.look.ensures i.takes.list (open_access C w.memory.events) i.takes.there i.takes.is_due) takes f).0)
