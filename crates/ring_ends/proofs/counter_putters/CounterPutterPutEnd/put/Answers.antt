use Rattle.std.proofs.Common.{rules}
use Rattle.ring_core.specs.declared.replies.PutReply.TheVariants.{Stored}
use Rattle.ring_ends.proofs.StoredItems.{put_stores}
use Rattle.ring_ends.proofs.counter_putters.CounterPutterPutEnd.put.Goals as goal

pub returns-in-Stored-clause-stored : goal.returns-in-Stored-clause-stored
returns-in-Stored-clause-stored c = put_stores c.args.self.now c.put_all.new.self c.args.item Stored (search rules) (search rules)
