use Rattle.std.proofs.Common.{◌≡◌, ◌∙◌, List, length, take, ap, subst, sym, arith}
use Rattle.std.proofs.Math.Seq.{take-length}
use Rattle.ring_audit.proofs.Common.{take_more, Event, BothStand}
use Rattle.ring_audit.proofs.DueLemmas.{stops_here}
use Rattle.ring_audit.proofs.dues.read_all.Goals as goal

pub returns-then-not-read-clause-stands : goal.returns-then-not-read-clause-stands
returns-then-not-read-clause-stands c e =
    let h : List Event = c.args.events.now in
    let r = c.loop-i.readers in
    let l = c.loop-i.invariant in
    let old : BothStand r.puts.shape r.puts r.takes (take c.loop-i.i h) = subst (λ s. BothStand s r.puts r.takes (take c.loop-i.i h)) (sym l.put_shape) l.stands in
    stops_here r.puts.shape c.args.shape.now h c.loop-i.i _ e l.put_shape c.loop-i-test.true (c.read.ensures.stops c.if-not-read.true (take c.loop-i.i h) old)

pub loop-i-preserved : goal.loop-i-preserved
loop-i-preserved c = grind (arith, take_more, c.loop-i.invariant, c.read.ensures.goes_on, c.if-not-read.false, c.read.ensures.put_shape, c.read.ensures.take_shape)

pub returns-clause-stands : goal.returns-clause-stands
returns-clause-stands c =
    let h : List Event = c.args.events.now in
    let r = c.loop-i.readers in
    let end : c.loop-i.i ≡ length h = omega arith in
    subst (BothStand c.args.shape.now r.puts r.takes) (ap (λ k. take k h) end ∙ take-length h) c.loop-i.invariant.stands
