use Rattle.std.proofs.Common.{◌∙◌, sym}
use Rattle.std.proofs.lemmas.Bool.{false≢true}
use Rattle.queue_calls_c.proofs.EventLines.{lost_has, lost_now, lost_stays}
use Rattle.queue_calls_c.proofs.judges.lost_at.Goals as goal

pub returns-then-has : goal.returns-then-has
returns-then-has c class r before e at is lost = lost_has class r before e c.args.known (is.0 c.if-has.true) lost

pub returns-then-known-eq0 : goal.returns-then-known-eq0
returns-then-known-eq0 c class r before e at is lost =
    lost_now class r before e c.args.known c.args.line c.if-known-eq0.true lost (λ has. false≢true (sym c.if-has.false ∙ is.1 has)) at

pub returns : goal.returns
returns c class r before e at is lost = lost_stays class r before e c.args.known c.if-known-eq0.false lost
