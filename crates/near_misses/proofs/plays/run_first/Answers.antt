use Rattle.std.proofs.Common.{◌∙◌, ℕ, List, take, sym, subst, arith}
use Rattle.bits_core.specs.declared.events.Side.{Side}
use Rattle.ring_script.specs.Schedule.{spelled}
use Rattle.ring_player.proofs.WorldParts.{all_runs, on_err, one_run_more, spelled-none, take-none, within_all}
use Rattle.near_misses.specs.NearSides.{NearHas}
use Rattle.near_misses.proofs.plays.run_first.Goals as goal

pub loop-run-init : goal.loop-run-init
loop-run-init g c = grind (arith, take-none, spelled-none, c.requires.ready, c.runs-run-items.ensures, c.requires.new.0, c.requires.new.1, c.requires.new.2)

pub loop-run-preserved : goal.loop-run-preserved
loop-run-preserved g c =
    let before : List Side = spelled (take c.loop-run.run-index c.runs-run-items.result.now) in
    let k : ℕ = c.args.letters in
    let l = c.loop-run.invariant in
    let least = c.min-count.ensures in
    let (more, left, longer) = one_run_more c.runs-run-items.result.now c.loop-run.run-index k c.loop-run.left c.min-count.result c.loop-run-test.true l.left least in
    let few = c.in_ok-repeat.ensures.few in
    record {
      ready = c.in_ok-repeat.ensures.ready;
      shape = c.in_ok-repeat.ensures.shape ∙ l.shape;
      all = l.all;
      has = λ a oracle has.
          subst (λ (t : List Side). NearHas g.T.Store.items g.I.Store.items a t oracle c.repeat.new.self) (sym more) (c.in_ok-repeat.ensures.has a (take k before) oracle (l.has a oracle has));
      left = left;
      event_room = c.repeat.ensures.rooms.0 ∙ l.event_room;
      told_room = c.repeat.ensures.rooms.1 ∙ l.told_room;
      item_room = c.repeat.ensures.rooms.2 ∙ l.item_room;
      few_events = omega (arith, few.0, l.few_events, least);
      few_told = omega (arith, few.1, l.few_told, least);
      few_items = omega (arith, few.2, l.few_items, least);
      events_within = omega (arith, few.0, l.events_within, least, longer);
      told_within = omega (arith, few.1, l.told_within, least, longer);
      items_within = omega (arith, few.2, l.items_within, least, longer);
    }

pub returns-in_err-repeat-clause-full : goal.returns-in_err-repeat-clause-full
returns-in_err-repeat-clause-full g c = grind (arith, on_err, within_all, c.loop-run.invariant, c.runs-run-items.ensures, c.in_err-repeat.ensures.full, c.min-count.ensures)

pub returns-clause-has : goal.returns-clause-has
returns-clause-has g c a oracle has =
    let l = c.loop-run.invariant in
    subst (λ (t : List Side). NearHas g.T.Store.items g.I.Store.items a (take c.args.letters t) oracle c.loop-run.world)
    (all_runs c.runs-run-items.result.now c.loop-run.run-index (spelled c.args.script.runs.now) (omega arith) l.all) (l.has a oracle has)

pub returns-clause-few : goal.returns-clause-few
returns-clause-few g c = grind (arith, all_runs, c.loop-run.invariant)
