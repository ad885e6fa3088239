use Rattle.std.proofs.Common.{◌≡◌, ℕ, suc, ◌-◌, length}
use Rattle.register_calls.specs.Chains.{chain_at}
use Rattle.register_calls.proofs.witnesses.reach_chains.Given as goal

abbrev pub invariant-loop-chains : goal.invariant-loop-chains
invariant-loop-chains g l = (i : ℕ) → chain_at (g.C.Fifo.items l.chains) i ≡ chain_at (g.C.Fifo.items l.initial.chains) i

abbrev pub decreases-loop-chains : goal.decreases-loop-chains
decreases-loop-chains g l = suc l.reader - length (g.C.Fifo.items l.chains)
