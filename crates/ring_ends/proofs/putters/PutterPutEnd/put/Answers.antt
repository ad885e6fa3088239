use Rattle.std.proofs.Common.{arith, [], ◌∷◌, sym, ◌∙◌}
use Rattle.ring_core.specs.ProducerState.{Put}
use Rattle.ring_ends.proofs.Common.{HasPutAll, AreAnswered, producing}
use Rattle.ring_ends.proofs.MachineWhole.{Whole, idle_after, lawful_whole, same_whole, whole_invariant, whole_of}
use Rattle.ring_ends.proofs.PutterCalls.{call_seen, put_begun, put_laws, put_seen}
use Rattle.ring_ends.proofs.PutterWhole.{item_told, put_ended, some_item}
use Rattle.ring_ends.proofs.StoredItems.{put_stores}
use Rattle.ring_ends.proofs.putters.PutterPutEnd.put.Given.{Over}
use Rattle.ring_ends.proofs.putters.PutterPutEnd.put.Goals.{After-finish}
use Rattle.ring_ends.proofs.putters.PutterPutEnd.put.Goals as goal

-- the call, and the result of its accesses
abbrev done : (g : Over) (c : After-finish g) → Whole producing (Put (c.args.item ∷ []))
done g c = whole_of producing (put_begun c.self.inside.oracle c.self.inside.stepper c.self.inside.machine c.self.inside.steps c.args.self.now c.self.view_is c.self.invariant (Put (c.args.item ∷ [])) c.begin_put.new.machine c.begin_put.ensures.begins)
    (call_seen c.self.view_is ∙ c.requires.idle) c.finish.new.stepper c.finish.new.machine c.finish.ensures

pub finish-requires : goal.finish-requires
finish-requires g c = grind arith

pub invariant_of-self : goal.invariant_of-self
invariant_of-self g c = whole_invariant producing put_laws (done g (goal.at.invariant_of-self g c).After-finish)

pub unwrap-requires : goal.unwrap-requires
unwrap-requires g c = grind (arith, (item_told c.finish.new.machine (HasPutAll c.finish.new.stepper.ring.shape (c.args.item ∷ []) c.args.self.now.end.list c.finish.new.stepper.list) (put_ended (c.args.item ∷ []) (done g (goal.at.unwrap-requires g c).After-finish)) (c.finish.ensures.kind ∙ c.begin_put.ensures.kind) c.reply.result c.reply.ensures.state), (put_ended (c.args.item ∷ []) (done g (goal.at.unwrap-requires g c).After-finish)), some_item, c.args.item, c.args.self.now.end.list, c.begin_put.ensures.kind, c.finish.ensures.kind, c.finish.new.machine, c.finish.new.stepper.list, c.finish.new.stepper.ring.shape, c.reply.ensures.state, c.reply.result)

pub returns : goal.returns
returns g c =
    let w = done g (goal.at.returns g c).After-finish in
    let (x, is, has) = item_told c.finish.new.machine (HasPutAll c.finish.new.stepper.ring.shape (c.args.item ∷ []) c.args.self.now.end.list c.finish.new.stepper.list) (put_ended (c.args.item ∷ []) w) (c.finish.ensures.kind ∙ c.begin_put.ensures.kind) c.reply.result c.reply.ensures.state in
    let same = same_whole producing put_laws w in
    record {
      idle = idle_after producing put_laws w;
      stored = put_stores c.args.self.now.end c.finish.new.stepper c.args.item c.unwrap.result same (x, sym c.unwrap.ensures ∙ is, has);
      same = same;
      lawful = lawful_whole producing put_laws w;
      phrase = (x, sym c.unwrap.ensures ∙ is, has);
      answered = put_seen c.self.view_is (λ e x. AreAnswered e c.finish.new.stepper (g.O.Oracle.answers x) (g.O.Oracle.answers c.finish.new.oracle)) c.finish.ensures.answered;
    }
