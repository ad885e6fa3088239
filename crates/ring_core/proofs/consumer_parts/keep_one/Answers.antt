use Rattle.std.proofs.Common.{arith}
use Rattle.std.proofs.lemmas.List.{take_more_set}
use Rattle.ring_core.proofs.consumer_parts.keep_one.Goals as goal

pub returns : goal.returns
returns c = record { kept = take_more_set c.args.kept.now c.args.at c.args.item (omega (arith, c.requires.room, c.ranges, c.well_formed, c.told-kept)) }
