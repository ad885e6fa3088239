use Rattle.std.proofs.Common.{subst, ap, ◌∙◌}
use Rattle.bits_core.proofs.Common.{open_access, IsLawful}
use Rattle.bits_core.proofs.OpenAccesses.{open_right_some}
use Rattle.bits_core.proofs.memory.Memory.pending.Goals as goal

pub returns : goal.returns
returns g c =
    let m = c.args.self.now in
    let lawful = subst (λ r. IsLawful r.shape r.events) c.self.view_is c.self.invariant.0.lawful in
    let same = ap (λ r. open_access c.args.side r.events) c.self.view_is in
    let access = c.open_access.ensures.access _ _ c.self.invariant.1 ∙ same in
    record { access = access; right = open_right_some m.shape m.events c.args.side c.open_access.result lawful access }
