use Rattle.std.proofs.Common.{◌≡◌, ◌⊎◌, Bool, true, false, inl, inr, arith}
use Rattle.ring_program.specs.Registers.{short_ending_of}
use Rattle.ring_program.specs.declared.answers.Ending.{Ending}
use Rattle.ring_program.specs.declared.answers.Ending.TheVariants.{Done, FaultFound}
use Rattle.ring_program.proofs.ReadingLemmas.{of_input}
use Rattle.ring_program.proofs.registers.register_answer.Goals as goal

pub returns-clause-answered : goal.returns-clause-answered
returns-clause-answered g c = grind (arith, of_input, c.in_ok-text.ensures.text, c.register_ending-ending.ensures, c.in_ok-found.ensures.found)

may_end : (short : Bool) (ending : Ending) → ending ≡ short_ending_of short → (ending ≡ Done) ⊎ (ending ≡ FaultFound)
may_end true ending is = inr is
may_end false ending is = inl is

pub returns-clause-ends : goal.returns-clause-ends
returns-clause-ends g c = may_end _ c.register_ending-ending.result c.register_ending-ending.ensures
