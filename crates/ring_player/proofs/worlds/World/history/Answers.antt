use Rattle.std.proofs.Common.{List, subst, sym}
use Rattle.ring_player.proofs.Common.{Event, P, C, IsPlayOf, IsProgram, Plays, event_sides, Played, content_of}
use Rattle.ring_core.specs.Linear.{EachReadingIsLinearizable}
use Rattle.ring_player.proofs.WorldParts.{is_play, plays_of}
use Rattle.ring_core.proofs.LawLemmas.{ring_is_linearizable}
use Rattle.ring_player.proofs.LawLemmas.{every_play_fills, every_play_holds}
use Rattle.ring_player.proofs.worlds.World.history.Goals as goal

pub returns-clause-plays : goal.returns-clause-plays
returns-clause-plays g c =
    let w = c.self.inside in
    let i = c.self.invariant in
    let plays : Plays (content_of w.script) (event_sides w.memory.events) w.memory.events =
    plays_of (content_of w.script) w.memory (content_of w.producer.script) (content_of w.consumer.script) _ _ _ _ _ i c.events.ensures.lawful
    (subst (λ (t : List Event). IsProgram (content_of w.producer.script) P t) (sym i.puts.own_is) i.puts.there.0.program)
    (subst (λ (t : List Event). IsProgram (content_of w.consumer.script) C t) (sym i.takes.own_is) i.takes.there.program) in
    subst (λ (t : Played). IsPlayOf t.script (event_sides t.history) t.history) c.self.view_is
    (is_play every_play_holds every_play_fills (content_of w.script) (event_sides w.memory.events) w.memory.events plays)

pub returns-clause-linearizable : goal.returns-clause-linearizable
returns-clause-linearizable g c =
    let w = c.self.inside in
    subst (λ (t : Played). EachReadingIsLinearizable t.script.shape t.history) c.self.view_is
    (λ puts takes run. ring_is_linearizable (content_of w.script).shape w.memory.events puts takes run)
