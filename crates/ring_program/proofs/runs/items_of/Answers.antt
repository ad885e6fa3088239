use Rattle.std.proofs.Common.{is_ok, ap₂, arith}
use Rattle.std.proofs.lemmas.List.FromFn.{map-range_with_len_more}
use Rattle.ring_program.specs.Runs.{run_item}
use Rattle.ring_program.proofs.runs.items_of.Goals as goal

pub loop-number-init : goal.loop-number-init
loop-number-init g c = c.in_ok-items.ensures.items

pub loop-number-preserved : goal.loop-number-preserved
loop-number-preserved g c =
    grind (arith, is_ok c.push.result, ap₂, map-range_with_len_more (run_item c.args.run.now.width) 0 c.loop-number.number c.loop-number.number (omega arith), c.if-is_err.ensures.negation, c.push.ensures.items, c.loop-number.invariant, c.run_item.ensures)

pub returns-clause-items : goal.returns-clause-items
returns-clause-items g c = grind (arith, c.loop-number.invariant)
