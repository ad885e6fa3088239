use Rattle.std.proofs.Common.{◌≡◌, ◌≤◌, ◌++◌, length}
use Rattle.trace_text.specs.declared.traces.TheConstants.{EVENT_LIMIT}
use Rattle.trace_text.proofs.Common.{AreOfShape, trace_text}
use Rattle.trace_text.proofs.traces.read_lines.Given as goal

-- what was read so far is the text of the events so far
abbrev pub invariant-loop-rest : goal.invariant-loop-rest
invariant-loop-rest g l = record {
  text : l.bytes ≡ trace_text l.shape (g.S.Store.items l.store) ++ l.rest;
  of_shape : AreOfShape l.shape (g.S.Store.items l.store);
  within : length (g.S.Store.items l.store) ≤ EVENT_LIMIT;
  slots : (first : _) → g.S.Store.same_slots first l.initial.store → g.S.Store.same_slots first l.store;
}

abbrev pub decreases-loop-rest : goal.decreases-loop-rest
decreases-loop-rest g l = length l.rest
