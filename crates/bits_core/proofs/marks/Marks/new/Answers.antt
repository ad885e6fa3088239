use Rattle.bits_core.proofs.MarkLemmas.{AreMarks-empty}
use Rattle.bits_core.proofs.marks.Marks.new.Goals as goal

pub returns : goal.returns
returns c = λ shape. AreMarks-empty c.first_values.result c.first_values.ensures.size c.first_values.ensures.first shape
