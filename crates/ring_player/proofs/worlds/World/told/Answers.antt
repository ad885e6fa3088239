use Rattle.std.proofs.Common.{◌≡◌, true, subst}
use Rattle.std.specs.Prelude.{◌↔◌}
use Rattle.bits_core.specs.declared.events.Side.TheVariants.{C}
use Rattle.bits_core.specs.History.{open_access}
use Rattle.ring_core.specs.ConsumerState.{due_take}
use Rattle.ring_core.specs.Items.{ToldIn}
use Rattle.ring_core.specs.Takes.{FollowsTakes}
use Rattle.ring_player.specs.Actors.{TakeActorStands}
use Rattle.ring_player.specs.Worlds.{Played}
use Rattle.ring_player.proofs.WorldParts.{taken_of}
use Rattle.ring_script.specs.Borrowed.{content_of}
use Rattle.ring_player.proofs.worlds.World.told.Goals as goal

pub returns : goal.returns
returns g c takes =
    let w = c.self.inside in
    let i = c.self.invariant in
    subst (λ (t : Played). FollowsTakes t.script.shape t.history takes → (w.consumer.told ≡ true) ↔ ToldIn t.script.shape t.history takes) c.self.view_is
    (λ f. (taken_of (content_of w.script) (content_of w.consumer.script) w.memory.events (due_take w.consumer.consumer) (TakeActorStands (content_of w.consumer.script) w.consumer.consumer (g.T.Store.items w.consumer.taken) w.consumer.told w.consumer.empty)
    (g.T.Store.items w.consumer.taken) w.consumer.told w.consumer.empty i.take_script_is i.takes (c.look.ensures i.takes.list (open_access C w.memory.events) i.takes.there i.takes.is_due) takes f).1)
