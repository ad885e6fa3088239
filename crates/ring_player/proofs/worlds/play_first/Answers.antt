use Rattle.std.proofs.Common.{◌≡◌, true, List, subst, sym, take}
use Rattle.ring_player.proofs.Common.{◌↔◌, FollowsPuts, FollowsTakes, content_of, Content, Event, Side, Shape, IsPlayOf}
use Rattle.ring_core.specs.Items.{items_put_in, items_taken_in, ToldIn}
use Rattle.ring_core.specs.Over.{empties, fulls, puts_over_in, takes_over_in}
use Rattle.ring_player.specs.Plays.{HasFlickers}
use Rattle.ring_player.proofs.Flickers.{has_flickers}
use Rattle.ring_player.proofs.WorldParts.{is_play}
use Rattle.ring_core.proofs.LawLemmas.{ring_is_linearizable}
use Rattle.ring_player.proofs.LawLemmas.{every_play_fills, every_play_holds}
use Rattle.ring_player.proofs.worlds.play_first.Goals as goal

pub returns-clause-plays : goal.returns-clause-plays
returns-clause-plays g c =
    let script = content_of c.args.script in
    let letters : List Side = take c.args.letters script.letters in
    subst (λ (l : List Event). IsPlayOf script letters l) (sym c.report.ensures.history)
    (is_play every_play_holds every_play_fills script letters c.run_first-played.new.world.history c.in_ok-played.ensures.plays)

pub returns-clause-flicker : goal.returns-clause-flicker
returns-clause-flicker g c =
    let w = c.run_first-played.new.world in
    subst (λ (l : List Event). HasFlickers l c.report.result.flicker) (sym c.report.ensures.history)
    (subst (HasFlickers w.history) (sym c.report.ensures.flicker) (has_flickers (content_of c.args.script).shape w.history c.in_ok-played.ensures.plays.played.lawful))

-- what holds for the world's history holds for the report's
reported : (says : Shape → List Event → Type 0) (script of : Content) (h history : List Event) → of ≡ script → history ≡ h → says of.shape h → says script.shape history
reported says script of h history same is told = subst (says script.shape) (sym is) (subst (λ (t : Content). says t.shape h) same told)

pub returns-clause-taken : goal.returns-clause-taken
returns-clause-taken g c takes =
    reported (λ t l. FollowsTakes t l takes → g.T.Store.items c.report.result.taken ≡ items_taken_in t l takes) (content_of c.args.script) _ c.run_first-played.new.world.history _ c.in_ok-played.ensures.script c.report.ensures.history (c.report.ensures.taken takes)

pub returns-clause-told : goal.returns-clause-told
returns-clause-told g c takes =
    reported (λ t l. FollowsTakes t l takes → (c.report.result.told ≡ true) ↔ ToldIn t l takes) (content_of c.args.script) _ c.run_first-played.new.world.history _ c.in_ok-played.ensures.script c.report.ensures.history (c.report.ensures.told takes)

pub returns-clause-put : goal.returns-clause-put
returns-clause-put g c puts =
    reported (λ t l. FollowsPuts t l puts → c.report.result.put.now ≡ items_put_in t l puts) (content_of c.args.script) _ c.run_first-played.new.world.history _ c.in_ok-played.ensures.script c.report.ensures.history (c.report.ensures.put puts)

pub returns-clause-full : goal.returns-clause-full
returns-clause-full g c puts =
    reported (λ t l. FollowsPuts t l puts → c.report.result.full ≡ fulls (puts_over_in t l puts)) (content_of c.args.script) _ c.run_first-played.new.world.history _ c.in_ok-played.ensures.script c.report.ensures.history (c.report.ensures.full puts)

pub returns-clause-empty : goal.returns-clause-empty
returns-clause-empty g c takes =
    reported (λ t l. FollowsTakes t l takes → c.report.result.empty ≡ empties (takes_over_in t l takes)) (content_of c.args.script) _ c.run_first-played.new.world.history _ c.in_ok-played.ensures.script c.report.ensures.history (c.report.ensures.empty takes)

pub returns-clause-linearizable : goal.returns-clause-linearizable
returns-clause-linearizable g c puts takes run =
    ring_is_linearizable (content_of c.args.script).shape (g.E.Store.items c.report.result.history) puts takes run
