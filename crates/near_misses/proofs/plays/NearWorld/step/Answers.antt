use Rattle.std.proofs.Common.{◌∙◌, ◌++◌, append-nil, ap, arith, false, inr, length, refl, sym}
use Rattle.std.proofs.lemmas.List.{length-append}
use Rattle.bits_core.specs.declared.events.Side.TheVariants.{P, C}
use Rattle.near_misses.specs.NearPlays.{NearAsked, items_told}
use Rattle.near_misses.specs.NearSides.{take_stand}
use Rattle.ring_player.proofs.WorldParts.{on_err}
use Rattle.near_misses.proofs.NearLemmas.{has_more, moves_held, none_told, other_due}
use Rattle.bits_core.proofs.LawLemmas.{open_changes}
use Rattle.near_misses.proofs.plays.NearWorld.step.Goals as goal

pub returns-in_ok-tell-in-P-clause-ready : goal.returns-in_ok-tell-in-P-clause-ready
returns-in_ok-tell-in-P-clause-ready g c =
    let w = c.args.self.now in
    let asked : NearAsked = record { miss = w.putter.miss; items = length w.putter.items.now; takes = 0; closes = w.putter.closes; shape = w.putter.shape } in
    let moves = c.in_ok-event-in-P.ensures.moves asked (refl, refl, refl) in
    grind (arith, other_due, open_changes, c.in_ok-event-in-P.ensures.side.1, c.requires.take_shape, c.in_ok-event-in-P.ensures.shape, c.in_ok-event-in-P.ensures.due, c.requires.take_due)

pub returns-in_ok-tell-in-P-clause-has : goal.returns-in_ok-tell-in-P-clause-has
returns-in_ok-tell-in-P-clause-has g c = rw c.in-P.is (λ asked letters oracle has.
    has_more g.T.Store.items g.I.Store.items asked letters oracle P c.args.self.now _ c.in_ok-event-in-P.event refl c.in_ok-tell-in-P.ensures.told
    (sym (append-nil (g.I.Store.items c.args.self.now.taken)) ∙ ap (λ l. g.I.Store.items c.args.self.now.taken ++ l) (sym (none_told c.in_ok-event-in-P.event)))
    (c.in_ok-event-in-P.ensures.moves asked has.asked_put) (c.in_ok-event-in-P.ensures.asked asked has.asked_put) has.asked_take (c.in_ok-event-in-P.ensures.turns _ has.turns) has)

pub returns-in_ok-keep-in-C-clause-ready : goal.returns-in_ok-keep-in-C-clause-ready
returns-in_ok-keep-in-C-clause-ready g c =
    let w = c.args.self.now in
    let asked : NearAsked = record { miss = w.taker.miss; items = 0; takes = w.taker.takes; closes = false; shape = w.taker.shape } in
    let moves = c.in_ok-event-in-C.ensures.moves asked (refl, refl, refl) in
    grind (arith, other_due, open_changes, c.requires.put_shape, c.in_ok-event-in-C.ensures.shape, c.in_ok-event-in-C.ensures.side.1, c.requires.put_due, c.in_ok-event-in-C.ensures.due)

pub returns-in_ok-keep-in-C-clause-has : goal.returns-in_ok-keep-in-C-clause-has
returns-in_ok-keep-in-C-clause-has g c = rw c.in-C.is (λ asked letters oracle has.
    has_more g.T.Store.items g.I.Store.items asked letters oracle C c.args.self.now _ c.in_ok-event-in-C.event refl c.in_ok-tell-in-C.ensures.told
    (c.in_ok-keep-in-C.ensures.taken ∙ ap (λ l. g.I.Store.items c.args.self.now.taken ++ items_told c.in_ok-event-in-C.event l) c.items.ensures)
    (c.in_ok-event-in-C.ensures.moves asked has.asked_take) has.asked_put (c.in_ok-event-in-C.ensures.asked asked has.asked_take) (c.in_ok-event-in-C.ensures.turns _ has.turns) has)

pub returns-in_err-keep-in-C-clause-full : goal.returns-in_err-keep-in-C-clause-full
returns-in_err-keep-in-C-clause-full g c =
    let w = c.args.self.now in
    let asked : NearAsked = record { miss = w.taker.miss; items = 0; takes = w.taker.takes; closes = false; shape = w.taker.shape } in
    let held = moves_held asked w.memory.events (take_stand w.taker) c.in_ok-event-in-C.event _ _ (c.in_ok-event-in-C.ensures.moves asked (refl, refl, refl)) in
    on_err _ (inr (inr (omega (arith, held, c.in_err-keep-in-C.ensures.full, ap (λ l. length (items_told c.in_ok-event-in-C.event l)) c.items.ensures))))

pub returns-in_ok-keep-in-C-clause-few : goal.returns-in_ok-keep-in-C-clause-few
returns-in_ok-keep-in-C-clause-few g c =
    let w = c.args.self.now in
    let asked : NearAsked = record { miss = w.taker.miss; items = 0; takes = w.taker.takes; closes = false; shape = w.taker.shape } in
    let held = moves_held asked w.memory.events (take_stand w.taker) c.in_ok-event-in-C.event _ _ (c.in_ok-event-in-C.ensures.moves asked (refl, refl, refl)) in
    let longer = ap length c.in_ok-keep-in-C.ensures.taken ∙ length-append (g.I.Store.items w.taken) _ in
    grind (arith, c.in_ok-event-in-C.ensures.few, c.in_ok-tell-in-C.ensures.few, c.items.ensures)
