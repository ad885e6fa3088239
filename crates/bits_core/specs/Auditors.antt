-- Which events an auditor was fed.
use Rattle.std.specs.Prelude.{◌≡◌, List}
use Rattle.bits_core.specs.declared.audits.BitAuditor.{BitAuditor}
use Rattle.bits_core.specs.declared.events.Event.{Event}
use Rattle.bits_core.specs.declared.shapes.Shape.{Shape}
use Rattle.bits_core.specs.Marks.{AreMarks}

-- the auditor accepted these events, which are a lawful history of safe bits of this shape
pub record HeardEvents (auditor : BitAuditor) (shape : Shape) (past : List Event) : Type 0 where
  pub of_shape : auditor.shape ≡ shape
  pub marks : AreMarks shape past auditor.marks
