use Rattle.std.proofs.Common.{List, IfOk, take, subst, arith}
use Rattle.std.proofs.lemmas.List.{take_all}
use Rattle.bits_core.specs.declared.events.Side.{Side}
use Rattle.ring_core.specs.Linear.{EachReadingIsLinearizable}
use Rattle.ring_script.specs.Content.{Content}
use Rattle.ring_player.specs.Headline.{IsPlayOf}
use Rattle.ring_player.proofs.worlds.play.Goals as goal

pub returns-clause-plays : goal.returns-clause-plays
returns-clause-plays g c =
    let script = c.args.script.now in
    let all = take_all c.len-letters.result script.letters (omega (arith, c.len-letters.ensures.value)) in
    subst (λ (l : List Side). IfOk c.play_first.result (λ r. IsPlayOf script l r.history.items)) all
    (subst (λ (t : Content). IfOk c.play_first.result (λ r. IsPlayOf t (take c.len-letters.result t.letters) r.history.items)) c.as_ref.ensures c.play_first.ensures.plays)

pub returns-clause-linearizable : goal.returns-clause-linearizable
returns-clause-linearizable g c =
    subst (λ (t : Content). IfOk c.play_first.result (λ r. EachReadingIsLinearizable t.shape r.history.items)) c.as_ref.ensures c.play_first.ensures.linearizable
