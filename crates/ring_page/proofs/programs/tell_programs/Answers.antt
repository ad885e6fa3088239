use Rattle.std.proofs.Common.{inl, inr}
use Rattle.ring_page.proofs.Sinces.{break_within}
use Rattle.ring_page.proofs.programs.tell_programs.Goals as goal

pub tell_found-requires : goal.tell_found-requires
tell_found-requires c = break_within c.args.shape.now c.args.events.now c.audit_into.new.put c.audit_into.new.taken c.in-Ok.found c.in-Ok.ensures.found

pub returns-in-Ok : goal.returns-in-Ok
returns-in-Ok c = inl (record { found = c.in-Ok.found; finding = c.in-Ok.ensures.found; tells = c.tell_found.ensures })

pub returns-in-Err : goal.returns-in-Err
returns-in-Err c = inr (record { nothing = c.unjudged.ensures; too_few = c.in-Err.ensures.refused; fewer = c.in-Err.ensures.few })
