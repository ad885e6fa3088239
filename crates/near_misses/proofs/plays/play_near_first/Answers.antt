use Rattle.std.proofs.Common.{◌∙◌, Bool, List, length, take, refl, sym, ap}
use Rattle.bits_core.specs.Oracle.{turn}
use Rattle.bits_core.specs.declared.events.Side.{Side}
use Rattle.bits_core.specs.Memory.{MemoryState}
use Rattle.ring_script.specs.Borrowed.{content_of}
use Rattle.near_misses.specs.NearPlays.{asked_by_script}
use Rattle.near_misses.proofs.NearLemmas.{has_at_first, near_play, ready_at_first}
use Rattle.ring_player.proofs.LawLemmas.{turns_are_by_interval}
use Rattle.near_misses.proofs.plays.play_near_first.Goals as goal

pub run_first-requires-clause-ready : goal.run_first-requires-clause-ready
run_first-requires-clause-ready g c = ready_at_first _ c.shape-shape.result (g.E.Store.room c.args.events) c.over.ensures c.new.ensures.shape c.new-2.ensures.shape

pub returns-clause-plays : goal.returns-clause-plays
returns-clause-plays g c =
    let script = content_of c.args.script in
    let asked = asked_by_script c.args.miss script in
    let letters : List Side = take c.args.letters script.letters in
    near_play g.T.Store.items g.I.Store.items c.run_first.new.world c.args.miss script letters _ turns_are_by_interval (c.run_first.ensures.shape ∙ ap (λ (m : MemoryState). m.shape) c.over.ensures ∙ c.shape-shape.ensures)
    c.into_events.ensures.events c.into_events.ensures.lawful
    (c.in_ok-run_first.ensures.has asked script.oracle
    (has_at_first g.T.Store.items g.I.Store.items _ c.shape-shape.result (g.E.Store.room c.args.events) asked script.oracle c.over.ensures c.requires.none_told c.requires.none_taken c.new.ensures.starts c.new-2.ensures.starts
    (c.new.ensures.asked asked refl (sym (ap length c.items.ensures.value)) (sym c.closes.ensures)) (c.new-2.ensures.asked asked refl (sym c.takes.ensures) (sym c.shape-shape.ensures)) (λ i. c.new-3.ensures i ∙ ap (λ (t : List Bool). turn t i) c.oracle.ensures)))
