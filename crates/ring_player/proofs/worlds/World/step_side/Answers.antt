use Rattle.ring_player.proofs.WorldParts.{consumer_steps, producer_steps}
use Rattle.ring_script.specs.Borrowed.{content_of}
use Rattle.ring_player.proofs.worlds.World.step_side.Goals as goal

pub invariant_of-self : goal.invariant_of-self
invariant_of-self g c =
    let w = c.self.inside in
    let e = c.advance.ensures in
    producer_steps (content_of w.script) w.memory c.advance.new.memory _ _ _ _ _ _ _ _ _ _ _ c.advance.result c.self.invariant e.shape e.script e.playing e.ok e.err e.turns

pub invariant_of-self-in-C : goal.invariant_of-self-in-C
invariant_of-self-in-C g c =
    let w = c.self.inside in
    let e = c.advance-in-C.ensures in
    consumer_steps (content_of w.script) w.memory c.advance-in-C.new.memory _ _ _ _ _ _ _ _ _ _ _ c.advance-in-C.result c.self.invariant e.shape e.script e.playing e.ok e.err e.turns
