use Rattle.std.proofs.Common.{Bool, ap}
use Rattle.ring_program.specs.Texts.{calls_text_of}
use Rattle.ring_program.proofs.recordings.found_at_end.Goals as goal

pub returns-clause-found : goal.returns-clause-found
returns-clause-found g c bytes has =
    let found = c.in_ok-finding.ensures.found bytes has in
    (found.0, found.1, found.2, found.3, ap (λ (b : Bool). calls_text_of b c.in_ok-finding.finding) (c.is_cut.ensures bytes has found.0 found.1 found.2))
