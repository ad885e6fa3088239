use Rattle.std.proofs.Common.{[], None, List, Bool, sym, ap, subst, ◌∙◌}
use Rattle.bits_core.specs.Memory.{MemoryState}
use Rattle.bits_core.specs.Oracle.{turn}
use Rattle.ring_player.specs.Actors.{HasWritten, PutActorStands, TakeActorStands}
use Rattle.ring_script.specs.Borrowed.{content_of}
use Rattle.ring_script.specs.Content.{Content}
use Rattle.ring_player.proofs.WorldParts.{new_world}
use Rattle.ring_player.proofs.worlds.World.over.Goals as goal

pub invariant_of-result : goal.invariant_of-result
invariant_of-result g c =
    let script = content_of c.args.script in
    let put = c.new.result in
    let takes = c.new-2.result in
    let put_script = sym c.new.ensures.script in
    let take_script = sym c.new-2.ensures.script in
    new_world script c.over.result _ _ _ _ _ _ _ (ap (λ (m : MemoryState). m.shape) c.over.ensures ∙ c.shape.ensures) (ap (λ (m : MemoryState). m.events) c.over.ensures) c.new.ensures.script c.new-2.ensures.script (
      subst (λ (s : Content). PutActorStands s put.producer (record { stored = put.stored; full = put.full }) [] None) put_script c.new.ensures.stands,
      subst (λ (s : Content). HasWritten s put.digits put.put [] None) put_script c.new.ensures.written,
    )
    (subst (λ (s : Content). TakeActorStands s takes.consumer (g.T.Store.items takes.taken) takes.told takes.empty [] None) take_script c.new-2.ensures.stands)
    (λ i. c.new-3.ensures i ∙ ap (λ (o : List Bool). turn o i) c.oracle.ensures)
