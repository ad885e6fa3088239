use Rattle.std.proofs.Common.{ℕ, drop, ap, ◌∙◌}
use Rattle.register_calls.proofs.Hearing.{ended_is, oldest_of, oldest_up, forgets}
use Rattle.register_calls.proofs.auditors.RegisterAuditor.forget.Goals as goal

pub returns-clause-base : goal.returns-clause-base
returns-clause-base g c = λ h k.
    let s = c.args.self.now in
    let kept = g.W.Fifo.items s.window in
    let readers = g.R.Fifo.items s.readers in
    oldest_of s.register h kept s.base s.begun s.is_writing readers s.floor s.is_safe s.is_regular s.is_by_reader s.is_atomic _ c.oldest-oldest.result
    (ended_is s.register h kept s.base s.begun s.is_writing readers s.floor s.is_safe s.is_regular s.is_by_reader s.is_atomic k) c.oldest-oldest.ensures k

pub returns-clause-audits : goal.returns-clause-audits
returns-clause-audits g c = λ h k.
    let s = c.args.self.now in
    let kept = g.W.Fifo.items s.window in
    let readers = g.R.Fifo.items s.readers in
    let oldest = oldest_of s.register h kept s.base s.begun s.is_writing readers s.floor s.is_safe s.is_regular s.is_by_reader s.is_atomic _ c.oldest-oldest.result
    (ended_is s.register h kept s.base s.begun s.is_writing readers s.floor s.is_safe s.is_regular s.is_by_reader s.is_atomic k) c.oldest-oldest.ensures k in
    forgets s.register h kept s.base s.begun s.is_writing readers s.floor s.is_safe s.is_regular s.is_by_reader s.is_atomic (g.W.Fifo.items c.drop_front.new.list) c.oldest-oldest.result
    (oldest_up s.register h kept s.base s.begun s.is_writing readers s.floor s.is_safe s.is_regular s.is_by_reader s.is_atomic c.oldest-oldest.result c.oldest-oldest.ensures k)
    (c.drop_front.ensures.items ∙ ap (λ (n : ℕ). drop n kept) c.saturating_sub.ensures) oldest k

pub returns-clause-up : goal.returns-clause-up
returns-clause-up g c = λ h k.
    let s = c.args.self.now in
    oldest_up s.register h (g.W.Fifo.items s.window) s.base s.begun s.is_writing (g.R.Fifo.items s.readers) s.floor s.is_safe s.is_regular s.is_by_reader s.is_atomic c.oldest-oldest.result c.oldest-oldest.ensures k
