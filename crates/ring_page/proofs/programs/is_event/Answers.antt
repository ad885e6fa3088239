use Rattle.std.proofs.Common.{ap, sym, ◌∙◌, Some}
use Rattle.std.proofs.lemmas.Option.{same_Some}
use Rattle.ring_page.proofs.programs.is_event.Goals as goal

pub returns-in-Some : goal.returns-in-Some
returns-in-Some c = (
  λ t. c.in-Some.is ∙ ap Some (c.is_same.ensures.0 t),
  λ e. c.is_same.ensures.1 (same_Some _ _ (sym c.in-Some.is ∙ e)),
)
