use Rattle.std.proofs.Common.{◌≡◌, ℕ, ◌+◌, Some, None, sym, subst, arith}
use Rattle.register_calls.proofs.Common.{slice_get_within, IsLeast}
use Rattle.register_calls.proofs.Hearing.{first_of}
use Rattle.register_calls.proofs.auditors.RegisterAuditor.least.Goals as goal

pub returns-in-Some : goal.returns-in-Some
returns-in-Some g c = λ written is low long.
    let s = c.args.self.now in
    let kept = g.W.Fifo.items s.window in
    let at : IsLeast written c.args.from c.args.value (s.base + c.in-Some.place) = first_of written kept s.base c.args.from c.args.value (Some c.in-Some.place) is low c.in-Some.ensures in
    let within = slice_get_within written (s.base + c.in-Some.place) c.args.value at.1 in
    let sum : c.saturating_add.result ≡ s.base + c.in-Some.place = (let p = c.saturating_add.ensures in omega (arith, p, within, long)) in
    subst (λ (n : ℕ). IsLeast written c.args.from c.args.value n) (sym sum) at

pub returns-in-None : goal.returns-in-None
returns-in-None g c = λ written is low long.
    first_of written (g.W.Fifo.items c.args.self.now.window) c.args.self.now.base c.args.from c.args.value None is low c.in-None.ensures
