use Rattle.std.proofs.Common.{[], sym}
use Rattle.std.proofs.lemmas.List.{append-nil}
use Rattle.ring_program.proofs.registers.found_at_end.Goals as goal

pub returns-clause-found : goal.returns-clause-found
returns-clause-found g c bytes has =
    let found = c.in_ok-finding.ensures.found bytes has in
    (found.0, found.1, found.2, found.3, c.is_cut.ensures bytes has bytes [] (sym (append-nil bytes)) found.0 found.1 found.2)
