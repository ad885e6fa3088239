use Rattle.std.proofs.Common.{ℕ, List, take, refl, subst}
use Rattle.ring_audit.proofs.Common.{Event, TakesStand, WereTaken, reading}
use Rattle.ring_audit.proofs.Breaks.{both_read, found}
use Rattle.ring_audit.proofs.audits.Readers.told.Goals as goal

pub returns-clause-follow : goal.returns-clause-follow
returns-clause-follow c h put taken =
    let r = c.args.self.now in
    let takes_so : (es : List Event) (items : List ℕ) → TakesStand r.puts.shape r.takes es items → WereTaken r.puts.shape es items c.told.result =
    subst (λ s. (es : List Event) (items : List ℕ) → TakesStand s r.takes es items → WereTaken s es items c.told.result) c.requires c.told.ensures in
    both_read r.puts.shape (reading r.puts r.takes r.counted put taken) c.told.result c.follow.ensures takes_so h

pub returns-clause-found : goal.returns-clause-found
returns-clause-found c h put taken =
    let r = c.args.self.now in
    let takes_so : (es : List Event) (items : List ℕ) → TakesStand r.puts.shape r.takes es items → WereTaken r.puts.shape es items c.told.result =
    subst (λ s. (es : List Event) (items : List ℕ) → TakesStand s r.takes es items → WereTaken s es items c.told.result) c.requires c.told.ensures in
    found r.puts.shape (reading r.puts r.takes r.counted put taken) c.told.result (take r.counted put) c.follow.ensures takes_so refl h
