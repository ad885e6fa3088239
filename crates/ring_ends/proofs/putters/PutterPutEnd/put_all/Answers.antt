use Rattle.std.proofs.Common.{arith, ◌∙◌}
use Rattle.ring_core.specs.ProducerState.{Put}
use Rattle.ring_ends.proofs.Common.{HasPutAll, AreAnswered, producing}
use Rattle.ring_ends.proofs.MachineWhole.{Whole, idle_after, lawful_whole, same_whole, whole_invariant, whole_of}
use Rattle.ring_ends.proofs.PutterCalls.{call_seen, put_begun, put_laws, put_seen}
use Rattle.ring_ends.proofs.PutterWhole.{batch_told, put_ended, told_so}
use Rattle.ring_ends.proofs.StoredItems.{put_all_stores}
use Rattle.ring_ends.proofs.putters.PutterPutEnd.put_all.Given.{Over}
use Rattle.ring_ends.proofs.putters.PutterPutEnd.put_all.Goals.{After-finish}
use Rattle.ring_ends.proofs.putters.PutterPutEnd.put_all.Goals as goal

-- the call, and the result of its accesses
abbrev done : (g : Over) (c : After-finish g) → Whole producing (Put c.args.items.now)
done g c = whole_of producing (put_begun c.self.inside.oracle c.self.inside.stepper c.self.inside.machine c.self.inside.steps c.args.self.now c.self.view_is c.self.invariant (Put c.args.items.now) c.begin_put_all.new.machine c.begin_put_all.ensures.begins)
    (call_seen c.self.view_is ∙ c.requires.idle) c.finish.new.stepper c.finish.new.machine c.finish.ensures

pub finish-requires : goal.finish-requires
finish-requires g c = grind arith

pub invariant_of-self : goal.invariant_of-self
invariant_of-self g c = whole_invariant producing put_laws (done g (goal.at.invariant_of-self g c).After-finish)

pub unwrap-requires : goal.unwrap-requires
unwrap-requires g c = grind (arith, (batch_told c.finish.new.machine (HasPutAll c.finish.new.stepper.ring.shape c.args.items.now c.args.self.now.end.list c.finish.new.stepper.list) (put_ended c.args.items.now (done g (goal.at.unwrap-requires g c).After-finish)) (c.finish.ensures.kind ∙ c.begin_put_all.ensures.kind) c.batch_reply.result c.batch_reply.ensures.state), (put_ended c.args.items.now (done g (goal.at.unwrap-requires g c).After-finish)), c.args.items.now, c.args.self.now.end.list, c.batch_reply.ensures.state, c.batch_reply.result, c.begin_put_all.ensures.kind, c.finish.ensures.kind, c.finish.new.machine, c.finish.new.stepper.list, c.finish.new.stepper.ring.shape)

pub returns : goal.returns
returns g c =
    let w = done g (goal.at.returns g c).After-finish in
    let F = HasPutAll c.finish.new.stepper.ring.shape c.args.items.now c.args.self.now.end.list c.finish.new.stepper.list in
    let same = same_whole producing put_laws w in
    let phrase = told_so F c.batch_reply.result (batch_told c.finish.new.machine F (put_ended c.args.items.now w) (c.finish.ensures.kind ∙ c.begin_put_all.ensures.kind) c.batch_reply.result c.batch_reply.ensures.state) c.unwrap.result c.unwrap.ensures in
    record {
      idle = idle_after producing put_laws w;
      stored = put_all_stores c.args.self.now.end c.finish.new.stepper c.args.items.now c.unwrap.result same phrase;
      same = same;
      lawful = lawful_whole producing put_laws w;
      phrase = phrase;
      answered = put_seen c.self.view_is (λ e x. AreAnswered e c.finish.new.stepper (g.O.Oracle.answers x) (g.O.Oracle.answers c.finish.new.oracle)) c.finish.ensures.answered;
    }
