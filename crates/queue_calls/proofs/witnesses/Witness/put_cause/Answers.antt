use Rattle.std.proofs.Common.{◌≡◌, ℕ, Some, List, subst, reverse}
use Rattle.queue_calls.proofs.Common.{Capacity, Event, PutEnd, cause_of, reply_by, Cause}
use Rattle.queue_calls.specs.declared.events.Reply.{Reply}
use Rattle.queue_calls.proofs.witnesses.Witness.put_cause.Goals as goal

-- what contradicts this reply contradicts the same reply
so :
    {reply told : Reply ℕ} (limit : ℕ) (capacity : Capacity) (events : List Event) {cause : Cause} → reply ≡ told →
    cause_of limit capacity (PutEnd (reply_by (λ n. n) reply)) (reverse events) ≡ Some cause → cause_of limit capacity (PutEnd (reply_by (λ n. n) told)) (reverse events) ≡ Some cause
so {reply} {told} limit capacity events {cause} is speaks = subst (λ z. cause_of limit capacity (PutEnd (reply_by (λ n. n) z)) (reverse events) ≡ Some cause) is speaks

pub returns-in-Lacked : goal.returns-in-Lacked
returns-in-Lacked g c capacity events cause t r m speaks = c.full_cause.ensures capacity events cause r m.0 m.1 (so c.args.self.now.limit capacity events c.in-Lacked.is speaks)

pub returns-in-Short : goal.returns-in-Short
returns-in-Short g c capacity events cause t r m speaks = c.put_short_cause.ensures capacity events cause r m.0 m.1 (so c.args.self.now.limit capacity events c.in-Short.is speaks)
