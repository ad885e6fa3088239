use Rattle.queue_calls.specs.Told.{told}
use Rattle.queue_calls.proofs.Decided.{decides_reads}
use Rattle.queue_calls.proofs.auditors.CallAuditor.feed.Goals as goal

pub returns-clause-reads : goal.returns-clause-reads
returns-clause-reads g c = decides_reads g.Q.Inside.items g.Q.Inside.room c.args.self.now (told c.args.event) c.feed_at.new.self c.feed_at.result c.feed_at.ensures.decides
