use Rattle.std.proofs.Common.{◌∙◌}
use Rattle.ring_ends.proofs.Common.{Close, AreAnswered, producing}
use Rattle.ring_ends.proofs.MachineWhole.{Whole, idle_after, lawful_whole, ready, same_whole, whole_invariant, whole_of}
use Rattle.ring_ends.proofs.PutterCalls.{call_seen, put_begun, put_laws, put_seen}
use Rattle.ring_ends.proofs.PutterWhole.{close_ended}
use Rattle.ring_ends.proofs.StoredItems.{close_stores}
use Rattle.ring_ends.proofs.putters.PutterPutEnd.close.Given.{Over}
use Rattle.ring_ends.proofs.putters.PutterPutEnd.close.Goals.{After-finish}
use Rattle.ring_ends.proofs.putters.PutterPutEnd.close.Goals as goal

-- the call, and the result of its accesses
abbrev done : (g : Over) (c : After-finish g) → Whole producing Close
done g c = whole_of producing (put_begun c.self.inside.oracle c.self.inside.stepper c.self.inside.machine c.self.inside.steps c.args.self.now c.self.view_is c.self.invariant Close c.begin_close.new.machine c.begin_close.ensures.begins)
    (call_seen c.self.view_is ∙ c.requires.idle) c.finish.new.stepper c.finish.new.machine c.finish.ensures

pub finish-requires : goal.finish-requires
finish-requires g c = ready producing put_laws (put_begun c.self.inside.oracle c.self.inside.stepper c.self.inside.machine c.self.inside.steps c.args.self.now c.self.view_is c.self.invariant Close c.begin_close.new.machine c.begin_close.ensures.begins)
    (call_seen c.self.view_is ∙ c.requires.idle)

pub invariant_of-self : goal.invariant_of-self
invariant_of-self g c = whole_invariant producing put_laws (done g (goal.at.invariant_of-self g c).After-finish)

pub returns : goal.returns
returns g c =
    let w = done g (goal.at.returns g c).After-finish in
    let same = same_whole producing put_laws w in
    record {
      idle = idle_after producing put_laws w;
      stored = close_stores c.args.self.now.end c.finish.new.stepper same (close_ended w);
      same = same;
      lawful = lawful_whole producing put_laws w;
      phrase = close_ended w;
      answered = put_seen c.self.view_is (λ e x. AreAnswered e c.finish.new.stepper (g.O.Oracle.answers x) (g.O.Oracle.answers c.finish.new.oracle)) c.finish.ensures.answered;
    }
