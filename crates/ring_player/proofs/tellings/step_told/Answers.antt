use Rattle.std.proofs.Common.{subst}
use Rattle.ring_player.proofs.Common.{IsPrefix, P, C, IsMove}
use Rattle.ring_player.specs.Tellings.{TakeTally}
use Rattle.ring_player.specs.declared.tellings.TakeCount.{TakeCount}
use Rattle.ring_player.proofs.TellingMoves.{not_stepped, put_stepped, take_stepped, Stepped}
use Rattle.ring_player.proofs.tellings.step_told.Goals as goal

-- ---- if the side was done

pub returns-then-not-moved-clause-at : goal.returns-then-not-moved-clause-at
returns-then-not-moved-clause-at g c =
    (not_stepped c.args.world.now.script c.step.new.self.script c.args.world.now.history c.step.new.self.history P _ _ c.in_ok-moved-in-P.moved c.in_ok-moved-in-P.ensures.script c.in_ok-moved-in-P.ensures.ok c.if-not-moved.true c.requires.at).0

pub returns-then-not-moved-clause-told : goal.returns-then-not-moved-clause-told
returns-then-not-moved-clause-told g c =
    (not_stepped c.args.world.now.script c.step.new.self.script c.args.world.now.history c.step.new.self.history P _ _ c.in_ok-moved-in-P.moved c.in_ok-moved-in-P.ensures.script c.in_ok-moved-in-P.ensures.ok c.if-not-moved.true c.requires.at).1

pub returns-then-not-moved-2-clause-at : goal.returns-then-not-moved-2-clause-at
returns-then-not-moved-2-clause-at g c =
    (not_stepped c.args.world.now.script c.step-in-C.new.self.script c.args.world.now.history c.step-in-C.new.self.history C _ _ c.in_ok-moved-in-C.moved c.in_ok-moved-in-C.ensures.script c.in_ok-moved-in-C.ensures.ok c.if-not-moved-2.true c.requires.at).0

pub returns-then-not-moved-2-clause-told : goal.returns-then-not-moved-2-clause-told
returns-then-not-moved-2-clause-told g c =
    (not_stepped c.args.world.now.script c.step-in-C.new.self.script c.args.world.now.history c.step-in-C.new.self.history C _ _ c.in_ok-moved-in-C.moved c.in_ok-moved-in-C.ensures.script c.in_ok-moved-in-C.ensures.ok c.if-not-moved-2.true c.requires.at).1

-- ---- a put or the close continues

put_goes :
    (g : _) (c : goal.After-at-1 g) →
    Stepped c.args.world.now.script c.step.new.self.script c.args.world.now.history c.step.new.self.history c.put_says-said.result.0 c.args.at.now.take c.put_says-said.result.1
put_goes g c =
    let script = c.args.world.now.script in
    put_stepped script c.step.new.self.script c.args.world.now.history c.step.new.self.history c.args.at.now.put c.put_says-said.result.0 c.args.at.now.take c.args.items
    (record { stored = c.put_count-before.result.stored; full = c.put_count-before.result.full }) (record { stored = c.put_count-now.result.stored; full = c.put_count-now.result.full })
    c.put_says-said.result.1 c.in_ok-moved-in-P.ensures.script
    (subst (λ b. IsMove script P b c.args.world.now.history c.step.new.self.history) c.if-not-moved.false c.in_ok-moved-in-P.ensures.ok) c.put_says-said.ensures c.requires.items c.requires.at
    (c.put_count-before.ensures.stored, c.put_count-before.ensures.full) (c.put_count-now.ensures.stored, c.put_count-now.ensures.full)

pub returns-else-not-moved-clause-at : goal.returns-else-not-moved-clause-at
returns-else-not-moved-clause-at g c = (put_goes g c).0

pub returns-else-not-moved-clause-told : goal.returns-else-not-moved-clause-told
returns-else-not-moved-clause-told g c = (put_goes g c).1

-- ---- a take continues

abbrev tally : TakeCount → TakeTally
tally count = record { taken = count.taken; empty = count.empty; told = count.told }

take_goes :
    (g : _) (c : goal.After-at-in-C-1 g) →
    Stepped c.args.world.now.script c.step-in-C.new.self.script c.args.world.now.history c.step-in-C.new.self.history c.args.at.now.put c.take_says-said.result.0 c.take_says-said.result.1
take_goes g c =
    let script = c.args.world.now.script in
    take_stepped script c.step-in-C.new.self.script c.args.world.now.history c.step-in-C.new.self.history c.args.at.now.put c.args.at.now.take c.take_says-said.result.0
    c.wanted-wanted.result (tally c.take_count-before.result) (tally c.take_count-now.result) c.take_says-said.result.1 c.in_ok-moved-in-C.ensures.script
    (subst (λ b. IsMove script C b c.args.world.now.history c.step-in-C.new.self.history) c.if-not-moved-2.false c.in_ok-moved-in-C.ensures.ok) c.take_says-said.ensures c.wanted-wanted.ensures.wanted c.requires.at
    (c.take_count-before.ensures.taken, c.take_count-before.ensures.empty, c.take_count-before.ensures.told)
    (c.take_count-now.ensures.taken, c.take_count-now.ensures.empty, c.take_count-now.ensures.told)
    (λ takes f. subst (λ l. IsPrefix l c.step-in-C.new.self.script.items) (c.ended_items.ensures.items takes f) c.ended_items.ensures.first)

pub returns-else-not-moved-2-clause-at : goal.returns-else-not-moved-2-clause-at
returns-else-not-moved-2-clause-at g c = (take_goes g c).0

pub returns-else-not-moved-2-clause-told : goal.returns-else-not-moved-2-clause-told
returns-else-not-moved-2-clause-told g c = (take_goes g c).1
