use Rattle.ring_program.proofs.registers.shortfall.Goals as goal

pub returns-in-None : goal.returns-in-None
returns-in-None g c bytes has = c.in-None.ensures bytes has

pub returns-in-Some : goal.returns-in-Some
returns-in-Some g c bytes has =
    let short = c.in-Some.ensures bytes has in
    let finding = short.4.0 in
    (short.0, short.1, short.2, short.3, (finding.0, finding.1, finding.2, finding.3, c.is_cut.ensures bytes has short.0 short.1 short.2 finding.0 finding.1 finding.2), short.4.1)
