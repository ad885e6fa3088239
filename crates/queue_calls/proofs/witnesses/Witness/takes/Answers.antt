use Rattle.std.proofs.Common.{◌≡◌, true, Result, Ok, Err, length, get_or, map, arith, append-nil}
use Rattle.std.specs.Prelude.{OnErr, is_err}
use Rattle.queue_calls.proofs.LastOnes.{last_in_line, last_in_none, last_none_kept, took_few, took_more}
use Rattle.queue_calls.proofs.witnesses.Witness.takes.Goals as goal
use Rattle.queue_calls.proofs.witnesses.Witness.takes.Goals.{then-self-len, else-self-len, in-Some, in-None}

-- what a refusal implies
refused : {A E : Type 0} (P : Type 0) (r : Result A E) → true ≡ is_err r → OnErr r P → P
refused P (Ok x) e f = cc
refused P (Err x) e f = f

pub returns-then-is_err-clause-full : goal.returns-then-is_err-clause-full
returns-then-is_err-clause-full g c = grind (arith, then-self-len, else-self-len, length, refused, took_few)

pub loop-item-preserved : goal.loop-item-preserved
loop-item-preserved g c = grind (arith, then-self-len, else-self-len, get_or, took_more)

pub returns-clause-last : goal.returns-clause-last
returns-clause-last g c = c.loop-item.invariant.last_taken

pub loop-item-init : goal.loop-item-init
loop-item-init g c = grind (arith, append-nil, in-Some, last_in_line, in-None, last_in_none)

-- if none is kept
pub returns-then-self-eq0-clause-last : goal.returns-then-self-eq0-clause-last
returns-then-self-eq0-clause-last g c earlier is = grind (arith, in-Some, last_in_line, in-None, last_in_none)

pub returns-then-self-eq0-clause-taken : goal.returns-then-self-eq0-clause-taken
returns-then-self-eq0-clause-taken g c earlier is = grind (arith, last_none_kept, map)
