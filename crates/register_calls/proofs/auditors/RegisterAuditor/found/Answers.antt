use Rattle.std.proofs.Common.{arith, ap, sym, ◌∙◌}
use Rattle.register_calls.specs.declared.auditors.ReaderState.{ReaderState}
use Rattle.register_calls.proofs.auditors.RegisterAuditor.found.Goals as goal

pub returns-in-Some : goal.returns-in-Some
returns-in-Some g c = grind arith

pub returns-in-None : goal.returns-in-None
returns-in-None g c = ap (λ (z : ReaderState). z.reading) (sym c.reader-state.ensures) ∙ c.in-None.is
