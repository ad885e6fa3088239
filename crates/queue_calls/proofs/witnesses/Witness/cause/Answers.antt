use Rattle.std.proofs.Common.{◌≡◌, inl, inr, ℕ, ◌+◌, Some, None, List, [], ◌∷◌, ◌++◌, length, refl, sym, ap, subst, ◌∙◌, reverse}
use Rattle.queue_calls.proofs.Common.{none-some, Capacity, Event, IsLinearizable, CallsAreInTurn, MovesSides, Sides, sides_of, told, Remembers, Cause, Offered, Taken, Witness}
use Rattle.std.specs.Borrow.{Bor}
use Rattle.queue_calls.specs.Reasons.{IsCause, cause_of}
use Rattle.queue_calls.specs.declared.events.CallEvent.{CallEvent}
use Rattle.queue_calls.proofs.CauseFound.{fault_has_a_cause}
use Rattle.queue_calls.proofs.Remembering.{in_turn, linear_of}
use Rattle.queue_calls.proofs.witnesses.Witness.cause.Goals as goal

-- what a witness reports against such an event is a cause, if it is the one that the past determines
heard :
    {S O T N B : Type 0} {event so : CallEvent (Bor (List ℕ)) (Bor (List ℕ))} (offered : O → List Offered) (last : T → List Taken) (w : Witness S O T N B) (line : ℕ) (result : Cause) → event ≡ so →
    ((capacity : Capacity) (events : List Event) (cause : Cause) → Remembers offered last w capacity events → length events + 2 ≡ line → (t : Sides) →
    MovesSides (sides_of w.auditor.put w.auditor.take) (told so) t → cause_of w.limit capacity (told so) (reverse events) ≡ Some cause → result ≡ cause) →
    (capacity : Capacity) (events : List Event) → Remembers offered last w capacity events → length events + 2 ≡ line → CallsAreInTurn (events ++ told event ∷ []) →
    ¬ IsLinearizable capacity (events ++ told event ∷ []) → IsCause w.limit capacity events (told event) result
heard {event = event} offered last w line result is tells capacity events r number turn never =
    let (cause, speaks) = fault_has_a_cause w.limit capacity events (told event) r.proper (linear_of offered last w capacity events r) turn never in
    let (t, moves) = in_turn offered last w capacity events (told event) r turn in
    let moves' = subst (λ z. MovesSides (sides_of w.auditor.put w.auditor.take) (told z) t) is moves in
    let speaks' = subst (λ z. cause_of w.limit capacity (told z) (reverse events) ≡ Some cause) is speaks in
    subst (λ z. IsCause w.limit capacity events (told event) z) (sym (tells capacity events cause r number t moves' speaks')) speaks

pub returns-in-PutEnds : goal.returns-in-PutEnds
returns-in-PutEnds g c =
    heard g.S.Offered.Fifo.items g.S.Taken.Fifo.items c.args.self.now c.args.line c.put_cause.result c.in-PutEnds.is (λ capacity events cause r number t m is. c.put_cause.ensures capacity events cause t r m is)

pub returns-in-TakeEnds : goal.returns-in-TakeEnds
returns-in-TakeEnds g c =
    heard g.S.Offered.Fifo.items g.S.Taken.Fifo.items c.args.self.now c.args.line c.take_cause.result c.in-TakeEnds.is (λ capacity events cause r number t m is. c.take_cause.ensures capacity events cause t r number m is)

pub returns-in-PutBegins : goal.returns-in-PutBegins
returns-in-PutBegins g c =
    heard g.S.Offered.Fifo.items g.S.Taken.Fifo.items c.args.self.now c.args.line _ refl (λ capacity events cause r number t m is.
    let none : cause_of c.args.self.now.limit capacity (told c.args.event) (reverse events) ≡ None = elim c.in-PutBegins.is [
      | inl b ↦ ap (λ z. cause_of c.args.self.now.limit capacity (told z) (reverse events)) b.1
      | inr others ↦ elim others [
        | inl b ↦ ap (λ z. cause_of c.args.self.now.limit capacity (told z) (reverse events)) b
        | inr more ↦ elim more [
          | inl b ↦ ap (λ z. cause_of c.args.self.now.limit capacity (told z) (reverse events)) b
          | inr b ↦ ap (λ z. cause_of c.args.self.now.limit capacity (told z) (reverse events)) b.1
        ]
      ]
    ] in
    absurd (none-some cause (sym none ∙ is)))
