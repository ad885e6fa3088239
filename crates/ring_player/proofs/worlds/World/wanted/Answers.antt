use Rattle.std.proofs.Common.{◌≡◌, length, ap, subst, ◌∙◌}
use Rattle.bits_core.specs.declared.events.Side.TheVariants.{C}
use Rattle.bits_core.specs.History.{open_access}
use Rattle.ring_core.specs.Items.{all_taken}
use Rattle.ring_core.specs.Over.{takes_over_in}
use Rattle.ring_core.specs.Takes.{FollowsTakes}
use Rattle.ring_player.specs.Wants.{wanted_at}
use Rattle.ring_player.specs.Worlds.{Played}
use Rattle.ring_player.proofs.WorldParts.{ended_of}
use Rattle.ring_script.specs.Borrowed.{content_of}
use Rattle.ring_script.specs.Content.{Content}
use Rattle.ring_player.proofs.worlds.World.wanted.Goals as goal

pub returns-clause-wanted : goal.returns-clause-wanted
returns-clause-wanted g c takes =
    let w = c.self.inside in
    let i = c.self.invariant in
    subst (λ (t : Played). FollowsTakes t.script.shape t.history takes → c.wanted.result ≡ wanted_at t.script (length (all_taken (takes_over_in t.script.shape t.history takes)))) c.self.view_is
    (λ f. c.wanted.ensures.value ∙ ap (λ (s : Content). wanted_at s (length (g.T.Store.items w.consumer.taken))) i.take_script_is ∙
    ap (λ l. wanted_at (content_of w.script) (length l)) (ended_of (content_of w.script) (content_of w.consumer.script) w.memory.events _ _ (g.T.Store.items w.consumer.taken) w.consumer.told w.consumer.empty i.take_script_is i.takes (c.look.ensures i.takes.list (open_access C w.memory.events) i.takes.there i.takes.is_due) takes f))
