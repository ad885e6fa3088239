use Rattle.std.proofs.Common.{◌≡◌, ℕ, Some, List, [], length, subst, reverse, arith}
use Rattle.std.specs.Borrow.{Bor}
use Rattle.queue_calls.proofs.Common.{Capacity, Event, TakeEnd, CanReply, passed, cause_of, reply_by, Cause}
use Rattle.queue_calls.specs.declared.events.Reply.{Reply}
use Rattle.queue_calls.proofs.witnesses.Witness.take_cause.Goals as goal

-- what contradicts this reply contradicts the same reply
so :
    {reply told : Reply (Bor (List ℕ))} (limit : ℕ) (capacity : Capacity) (events : List Event) {cause : Cause} → reply ≡ told →
    cause_of limit capacity (TakeEnd (reply_by (λ items. items.now) reply)) (reverse events) ≡ Some cause →
    cause_of limit capacity (TakeEnd (reply_by (λ items. items.now) told)) (reverse events) ≡ Some cause
so {reply} {told} limit capacity events {cause} is speaks = subst (λ z. cause_of limit capacity (TakeEnd (reply_by (λ items. items.now) z)) (reverse events) ≡ Some cause) is speaks

pub returns-in-Lacked : goal.returns-in-Lacked
returns-in-Lacked g c capacity events cause t r number m speaks = c.empty_cause.ensures capacity events cause r m.0 m.1 (so c.args.self.now.limit capacity events c.in-Lacked.is speaks)

pub returns-in-Short : goal.returns-in-Short
returns-in-Short g c capacity events cause t r number m speaks =
    let W : Reply (Bor (List ℕ)) → Type 0 = λ z. CanReply (reply_by (λ items. items.now) z) (length (passed [] (reply_by (λ items. items.now) z))) m.0 in
    let several = subst W c.in-Short.is m.2 in
    c.take_short_cause.ensures capacity events cause r m.0 m.1 (omega (arith, several)) (so c.args.self.now.limit capacity events c.in-Short.is speaks)

pub returns-in-Nothing : goal.returns-in-Nothing
returns-in-Nothing g c capacity events cause t r number m speaks = c.not_taken_cause.ensures capacity events cause r (so c.args.self.now.limit capacity events c.in-Nothing.is speaks)

pub returns-in-Shut : goal.returns-in-Shut
returns-in-Shut g c capacity events cause t r number m speaks = c.closed_cause.ensures capacity events cause r (so c.args.self.now.limit capacity events c.in-Shut.is speaks)
