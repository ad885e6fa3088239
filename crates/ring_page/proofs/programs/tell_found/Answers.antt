use Rattle.std.proofs.Common.{refl}
use Rattle.ring_page.specs.Programs.{begins_closing, begins_scanning}
use Rattle.ring_page.proofs.programs.tell_found.Goals as goal

pub returns-in-Lawful : goal.returns-in-Lawful
returns-in-Lawful c =
    let close = c.dues_of_both.ensures.puts begins_closing in
    let scan = c.dues_of_both.ensures.takes begins_scanning in
    rw c.in-Lawful.is (
      c.is_due-may_close.result,
      c.is_due-may_scan.result,
      (λ is. (close.0 (c.is_due-may_close.ensures.0 is)).1, λ goes. c.is_due-may_close.ensures.1 (close.1 (refl, goes))),
      (λ is. (scan.0 (c.is_due-may_scan.ensures.0 is)).1, λ goes. c.is_due-may_scan.ensures.1 (scan.1 (refl, goes))),
      c.told_programs.ensures,
    )
