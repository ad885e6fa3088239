use Rattle.std.proofs.Common.{◌≡◌, ◌∙◌, ℕ, ◌+◌, List, [], ◌∷◌, ◌++◌, replicate, ap, subst, append_assoc, append-nil, arith}
use Rattle.std.proofs.lemmas.List.{replicate_more}
use Rattle.bits_core.specs.declared.events.Side.{Side}
use Rattle.near_misses.specs.NearSides.{NearHas}
use Rattle.near_misses.proofs.plays.NearWorld.repeat.Goals as goal

pub loop-init : goal.loop-init
loop-init g c = grind (arith, append-nil, c.requires)

pub loop-preserved : goal.loop-preserved
loop-preserved g c =
    let side : Side = c.args.side in
    let n : ℕ = c.loop.counter in
    record {
      ready = c.in_ok-step.ensures.ready;
      shape = c.in_ok-step.ensures.shape ∙ c.loop.invariant.shape;
      has = λ a letters oracle has.
          let more : (letters ++ replicate n side) ++ side ∷ [] ≡ letters ++ replicate (n + 1) side =
          append_assoc letters (replicate n side) (side ∷ []) ∙ ap (λ (t : List Side). letters ++ t) (replicate_more n side) in
          subst (λ (t : List Side). NearHas g.T.Store.items g.I.Store.items a t oracle c.step.new.self) more (c.in_ok-step.ensures.has a (letters ++ replicate n side) oracle (c.loop.invariant.has a letters oracle has));
      event_room = c.step.ensures.rooms.0 ∙ c.loop.invariant.event_room;
      told_room = c.step.ensures.rooms.1 ∙ c.loop.invariant.told_room;
      item_room = c.step.ensures.rooms.2 ∙ c.loop.invariant.item_room;
      few_events = omega (arith, c.in_ok-step.ensures.few.0, c.loop.invariant.few_events);
      few_told = omega (arith, c.in_ok-step.ensures.few.1, c.loop.invariant.few_told);
      few_items = omega (arith, c.in_ok-step.ensures.few.2, c.loop.invariant.few_items);
    }

pub returns-clause-has : goal.returns-clause-has
returns-clause-has g c a letters oracle has =
    let over : c.loop.counter ≡ c.args.count = omega (arith, c.loop.auto.counter-end, c.loop-test.false) in
    subst (λ (n : ℕ). NearHas g.T.Store.items g.I.Store.items a (letters ++ replicate n c.args.side) oracle c.loop.self) over (c.loop.invariant.has a letters oracle has)
