use Rattle.std.proofs.Common.{◌∷◌, reverse}
use Rattle.register_calls.specs.declared.events.Class.TheVariants.{Safe, Regular, AtomicByReader, Atomic}
use Rattle.queue_calls_c.proofs.judges.LostClasses.after.Goals as goal

pub returns : goal.returns
returns g c before e at audits lost =
    let r = c.args.auditor.now.register in
    record {
      safe = c.lost_at-safe.ensures Safe r before e at (c.has-is_safe.ensures (e ∷ reverse before) audits) lost.safe;
      regular = c.lost_at-regular.ensures Regular r before e at (c.has-is_regular.ensures (e ∷ reverse before) audits) lost.regular;
      by_reader = c.lost_at-by_reader.ensures AtomicByReader r before e at (c.has-is_by_reader.ensures (e ∷ reverse before) audits) lost.by_reader;
      atomic = c.lost_at-atomic.ensures Atomic r before e at (c.has-is_atomic.ensures (e ∷ reverse before) audits) lost.atomic;
    }
