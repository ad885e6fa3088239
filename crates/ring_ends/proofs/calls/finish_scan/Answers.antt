use Rattle.std.proofs.Common.{arith, Bool, sym, subst, ◌∙◌}
use Rattle.ring_ends.specs.Moves.{Fed, MayFeed}
use Rattle.ring_ends.proofs.Accesses.{same}
use Rattle.ring_ends.proofs.MachineWhole.{access_can, access_feeds, access_right, access_went, went_nowhere, went_same}
use Rattle.ring_ends.proofs.calls.finish_scan.Goals as goal

pub make-answer-requires-clause-right : goal.make-answer-requires-clause-right
make-answer-requires-clause-right g c = access_right g.M.SideMachine.kind c.laws.ensures c.requires c.reads.invariant.1 c.scan_next-access.result c.scan_next-access.ensures.due

pub make-answer-requires-clause-can : goal.make-answer-requires-clause-can
make-answer-requires-clause-can g c = access_can g.M.SideMachine.kind c.laws.ensures c.requires c.reads.invariant.1 c.scan_next-access.result c.scan_next-access.ensures.due

pub end_scan-requires : goal.end_scan-requires
end_scan-requires g c = grind arith

pub returns-then-answer : goal.returns-then-answer
returns-then-answer g c =
    let k = g.M.SideMachine in
    access_went k.kind c.laws.ensures c.requires c.reads.invariant.1 c.scan_next-access.result c.scan_next-access.ensures.due c.make-answer.new.self c.make-answer.result c.make-answer.ensures.made (k.state c.end_scan.new.self)
    (subst (λ (v : Bool). Fed k.kind (k.scanned c.reads.scan) v (k.state c.end_scan.new.self)) (sym c.if-answer.true) c.end_scan.ensures) _ c.make-answer.ensures.answered

pub returns-in_default : goal.returns-in_default
returns-in_default g c = went_nowhere g.M.SideMachine.kind c.args.stepper.now (g.M.SideMachine.state c.args.machine.now) (g.O.Oracle.answers c.args.oracle.now)

pub scan_zero-requires : goal.scan_zero-requires
scan_zero-requires g c =
    let k = g.M.SideMachine in record {
      feeds = subst (MayFeed k.kind (k.scanned c.reads.scan)) c.if-answer.false
          (access_feeds k.kind c.laws.ensures c.requires c.reads.invariant.1 c.scan_next-access.result c.scan_next-access.ensures.due c.make-answer.new.self c.make-answer.result c.make-answer.ensures.made);
      left = c.scan_next-access.ensures.left;
    }

pub reads-preserved : goal.reads-preserved
reads-preserved g c =
    let k = g.M.SideMachine in (
      c.reads.invariant.0 ∙ sym (same c.reads.stepper c.make-answer.new.self c.scan_next-access.result c.make-answer.result c.make-answer.ensures.made).ring,
      access_went k.kind c.laws.ensures c.requires c.reads.invariant.1 c.scan_next-access.result c.scan_next-access.ensures.due c.make-answer.new.self c.make-answer.result c.make-answer.ensures.made (k.scanned c.scan_zero.new.scan)
          (subst (λ (v : Bool). Fed k.kind (k.scanned c.reads.scan) v (k.scanned c.scan_zero.new.scan)) (sym c.if-answer.false) c.scan_zero.ensures.fed) _ c.make-answer.ensures.answered,
      c.scan_zero.ensures.of c.reads.machine c.reads.invariant.2,
    )

pub reads-init : goal.reads-init
reads-init g c = search (arith, went_same, c.words-ring.ensures, c.in-Some.ensures)
