use Rattle.std.proofs.Common.{ℕ, List, length, ◌++◌, [], take, refl, sym, ap, subst, ◌∙◌, arith}
use Rattle.ring_player.proofs.Common.{replicate, slice_index_or, Event, Side, LetterRun, content_of, Content, Plays}
use Rattle.ring_script.specs.Schedule.{spelled}
use Rattle.ring_player.proofs.WorldParts.{all_runs, no_run, one_run_more, spelled-none, take-none, on_err, within_all}
use Rattle.ring_player.proofs.worlds.run_first.Goals as goal

pub loop-run-init : goal.loop-run-init
loop-run-init g c =
    let w = c.args.world.now in
    let k : ℕ = c.args.letters in
    let nothing : Plays w.script (take k (spelled [])) [] = grind (arith, take-none, c.requires.new, c.history.ensures.plays.plays) in
    record {
      script = c.requires.of_script;
      all = c.runs-run-items.ensures;
      plays = subst (λ (s : Content). Plays s (take k (spelled [])) w.history) c.requires.of_script (subst (λ (h : List Event). Plays w.script (take k (spelled [])) h) (sym c.requires.new) nothing);
      left = omega (arith, ap length spelled-none);
      event_room = refl;
      item_room = refl;
      few = omega (arith, ap length c.requires.new);
      within = omega (arith, ap length c.requires.new);
    }

pub loop-run-preserved : goal.loop-run-preserved
loop-run-preserved g c =
    let before : List Side = spelled (take c.loop-run.run-index c.runs-run-items.result.now) in
    let k : ℕ = c.args.letters in
    let l = c.loop-run.invariant in
    let (more, left, longer) = one_run_more c.runs-run-items.result.now c.loop-run.run-index k c.loop-run.left c.min-count.result c.loop-run-test.true l.left c.min-count.ensures in
    let on = c.in_ok-repeat.ensures.plays (take k before) (subst (λ (s : Content). Plays s (take k before) c.loop-run.world.history) (sym l.script) l.plays) in
    record {
      script = c.in_ok-repeat.ensures.script ∙ l.script;
      all = l.all;
      plays = subst (λ (t : List Side). Plays (content_of c.args.script) t c.repeat.new.world.history) (sym more) (subst (λ (s : Content). Plays s (take k before ++ replicate c.min-count.result (slice_index_or c.runs-run-items.result.now c.loop-run.run-index no_run).side) c.repeat.new.world.history) l.script on);
      left = left;
      event_room = c.repeat.ensures.rooms.0 ∙ l.event_room;
      item_room = c.repeat.ensures.rooms.1 ∙ l.item_room;
      few = omega (arith, c.in_ok-repeat.ensures.few, l.few, c.min-count.ensures);
      within = omega (arith, c.in_ok-repeat.ensures.few, l.within, c.min-count.ensures, longer);
    }

pub returns-in_err-repeat-clause-full : goal.returns-in_err-repeat-clause-full
returns-in_err-repeat-clause-full g c =
    let runs : List LetterRun = c.runs-run-items.result.now in
    let l = c.loop-run.invariant in
    let e = c.in_err-repeat.ensures.full in
    on_err c.from_residual.result (e.0, omega (arith, e.1, l.few, l.within, c.min-count.ensures, within_all runs c.loop-run.run-index c.loop-run-test.true, ap length c.runs-run-items.ensures))

pub returns-clause-plays : goal.returns-clause-plays
returns-clause-plays g c =
    let l = c.loop-run.invariant in
    subst (λ (t : List Side). Plays (content_of c.args.script) (take c.args.letters t) c.loop-run.world.history)
    (all_runs c.runs-run-items.result.now c.loop-run.run-index (spelled c.args.script.runs.now) (omega arith) l.all) l.plays

pub returns-clause-few : goal.returns-clause-few
returns-clause-few g c =
    let l = c.loop-run.invariant in
    omega (arith, l.few, l.within, ap length (all_runs c.runs-run-items.result.now c.loop-run.run-index (spelled c.args.script.runs.now) (omega arith) l.all))
