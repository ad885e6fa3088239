use Rattle.std.proofs.Common.{◌≡◌, ℕ, ◌+◌, List, length, ◌++◌, take, sym, ap, subst, ◌∙◌, arith}
use Rattle.ring_player.proofs.Common.{replicate, slice_index_or, take_all, Side, P, LetterRun, Content, Plays, event_sides, AreAt}
use Rattle.ring_script.specs.Schedule.{spelled}
use Rattle.ring_player.specs.declared.tellings.PutStage.TheVariants as put
use Rattle.ring_player.specs.declared.tellings.TakeStage.TheVariants as taking
use Rattle.ring_player.proofs.TellingMoves.{at_first, nothing_told}
use Rattle.ring_player.proofs.TellingRecords.{play_records}
use Rattle.ring_player.proofs.WorldParts.{spelled-more, spelled-none}
use Rattle.ring_player.proofs.tellings.play_calls.Goals as goal

pub loop-run-init : goal.loop-run-init
loop-run-init g c =
    let w = c.new-world.result in
    record {
      script = c.new-world.ensures.script;
      all = c.runs-run-items.ensures ∙ ap (λ (s : Content). s.letters) c.as_ref-script.ensures;
      at = subst (AreAt put.Between taking.Between w.script) (sym c.new-world.ensures.empty) (at_first w.script);
      told = grind (arith, nothing_told, c.new-told.ensures.items, c.new-world.ensures.empty);
      plays = grind (arith, spelled-none, c.new-world.ensures.script, c.new-world.ensures.empty, c.history.ensures.plays.plays);
    }

pub repeat_told-requires-clause-items : goal.repeat_told-requires-clause-items
repeat_told-requires-clause-items g c =
    ap length c.items-items.ensures.value ∙ ap (λ (s : Content). length s.items) (c.as_ref-script.ensures ∙ sym c.loop-run.invariant.script)

pub repeat_told-requires-clause-at : goal.repeat_told-requires-clause-at
repeat_told-requires-clause-at g c = c.loop-run.invariant.at

pub repeat_told-requires-clause-told : goal.repeat_told-requires-clause-told
repeat_told-requires-clause-told g c = c.loop-run.invariant.told

pub loop-run-preserved : goal.loop-run-preserved
loop-run-preserved g c =
    let runs : List LetterRun = c.runs-run-items.result.now in
    let i : ℕ = c.loop-run.run-index in
    let none : LetterRun = record { side = P; count = 0 } in
    let one : LetterRun = slice_index_or runs i none in
    let before : List Side = spelled (take i runs) in
    let after : spelled (take (i + 1) runs) ≡ before ++ replicate one.count one.side = spelled-more runs i none c.loop-run-test.true in
    let l = c.loop-run.invariant in
    let on = c.in_ok-repeat_told.ensures.letters before (subst (λ (s : Content). Plays s before c.loop-run.world.history) (sym l.script) l.plays) in
    record {
      script = c.in_ok-repeat_told.ensures.script ∙ l.script;
      all = l.all;
      at = c.in_ok-repeat_told.ensures.at;
      told = c.in_ok-repeat_told.ensures.told;
      plays = grind arith;
    }

pub returns : goal.returns
returns g c =
    let l = c.loop-run.invariant in
    let runs : List LetterRun = c.runs-run-items.result.now in
    let whole : spelled (take c.loop-run.run-index runs) ≡ c.args.script.now.letters = ap spelled (take_all c.loop-run.run-index runs (omega (arith, c.loop-run-test.false))) ∙ l.all in
    play_records c.loop-run.world.script c.args.script.now (event_sides c.loop-run.world.history) c.loop-run.world.history c.loop-run.told.items l.script
    c.history-2.ensures.plays (subst (λ (t : List Side). Plays c.args.script.now t c.loop-run.world.history) whole l.plays) l.told
