-- What an audit finds.
use Rattle.std.proofs.Common.{◌≡◌, ℕ, suc, Option, None, Some, IfSome, List, ◌<◌, ◌≤◌, sym, length, take, refl, subst, arith, get_or}
use Rattle.bits_core.proofs.Common.{cases_order, slice_get, take-take, Event, Shape, MayFollow}
use Rattle.std.proofs.lemmas.Option.{slice_get-get_or, slice_get_within}
use Rattle.bits_core.specs.declared.faults.Kind.{Kind}
use Rattle.bits_core.specs.declared.audits.Verdict.{Verdict}
use Rattle.bits_core.specs.declared.audits.Verdict.TheVariants.{Lawful, Fault}
use Rattle.bits_core.specs.declared.reasons.Reason.{Reason}
use Rattle.bits_core.specs.Audit.{IsFault, IsFirstFault, IsFaultAfter, IsVerdict}
use Rattle.bits_core.specs.Reasons.{IsReasonBehind, HasReason}
use Rattle.bits_core.specs.Lawful.{IsLawfulEvent, IsLawful}
use Rattle.bits_core.specs.Laws.{FaultBreaks}
use Rattle.bits_core.proofs.StepLemmas.{EachMayFollow}
use Rattle.bits_core.proofs.Statements.{FaultIsFirst}
use Rattle.bits_core.proofs.Places.{slice_get-take, slice_get-from_take}
use Rattle.bits_core.proofs.OverlapLemmas.{IsByDoers, IsByDoers-below}
use Rattle.bits_core.proofs.LawfulLemmas.{same_event, IsByDoers-steps, IsLawfulEvent-from, IsLawfulEvent-to, IsLawful-from, IsLawful-to, TakesTurn-from, TakesTurn-to, AnswersSafely-to}

not_IsLawfulEvent : (shape : Shape) (h : List Event) (place : ℕ) (e : Event) (kind : Kind) → IsFault shape h place e kind → ¬ IsLawfulEvent shape h place e
not_IsLawfulEvent shape h place e kind fault f = grind arith

pub not_IsLawful : (shape : Shape) (h : List Event) (place : ℕ) (kind : Kind) → IsFirstFault shape h place kind → ¬ IsLawful shape h
not_IsLawful shape h place kind fault lawful = not_IsLawfulEvent shape h place fault.event kind fault.fault (lawful.each place fault.event fault.at_place)

-- what the audit finds at a place, if each event before it may follow those before that
pub IsFirstFault-at : (shape : Shape) (h : List Event) (i : ℕ) (d : Event) (kind : Kind) → i < length h → EachMayFollow shape (take i h) → IsFaultAfter shape (take i h) (get_or h i d) kind → IsFirstFault shape h i kind
IsFirstFault-at shape h i d kind within steps fault =
    let sides : IsByDoers h i = IsByDoers-steps shape h i steps in
    let at : slice_get h i ≡ Some (get_or h i d) = slice_get-get_or h i d within in
    record {
      event = get_or h i d;
      at_place = at;
      fault = grind (arith, TakesTurn-to, TakesTurn-from, AnswersSafely-to);
      least = λ p e below k.
          let past : take p (take i h) ≡ take p h = take-take p i h (omega arith) in
          IsLawfulEvent-from shape h p e (IsByDoers-below h p i (omega arith) sides) k (subst (λ t. MayFollow shape t e) past (steps.each p e (slice_get-take h i p e k below)));
    }

pub fault_is_first : FaultIsFirst
fault_is_first shape h place e kind at lawful fault =
    let within : place < length h = slice_get_within h place e at in
    let same : get_or h place e ≡ e = same_event h place (get_or h place e) e (slice_get-get_or h place e within) at in
    IsFirstFault-at shape h place e kind within (IsLawful-to shape (take place h) lawful) (subst (λ d. IsFaultAfter shape (take place h) d kind) (sym same) fault)

-- ---- one verdict

one_kind : (shape : Shape) (h : List Event) (place : ℕ) (e : Event) (k l : Kind) → IsFault shape h place e k → IsFault shape h place e l → k ≡ l
one_kind shape h place e k l a b = grind arith

-- no event before the first fault is at fault
not_before : (shape : Shape) (h : List Event) (p q : ℕ) (k l : Kind) → IsFirstFault shape h p k → IsFirstFault shape h q l → ¬ (p < q)
not_before shape h p q k l a b below = not_IsLawfulEvent shape h p a.event k a.fault (b.least p a.event below a.at_place)

pub one_verdict : (shape : Shape) (h : List Event) (v w : Verdict) → IsVerdict shape h v → IsVerdict shape h w → v ≡ w
one_verdict shape h Lawful w a b = grind (arith, not_IsLawful)
one_verdict shape h (Fault p k) Lawful a b = absurd (not_IsLawful shape h p k a b)
one_verdict shape h (Fault p k) (Fault q l) a b =
    let place : p ≡ q = grind (arith, cases_order, not_before) in
    grind (arith, same_event, one_kind)

-- ---- up to a fault, and with it

-- a prefix of a prefix
before_it : (h : List Event) (q p : ℕ) → q ≤ p → take q (take p h) ≡ take q h
before_it h q p l = take-take q p h l

pub fault_breaks : FaultBreaks
fault_breaks shape h place kind fault =
    let lawful : IsLawful shape (take place h) = IsLawful-from shape (take place h) (record {
      each = λ q e at.
          let here = slice_get-from_take h place q e at in
          let sides : IsByDoers h q = record { each = λ p f below k. (fault.least p f (omega (arith, below, here.1)) k).right_side.by_doer } in
          subst (λ t. MayFollow shape t e) (sym (before_it h q place (omega (arith, here.1)))) (IsLawfulEvent-to shape h q e sides here.0 (fault.least q e here.1 here.0));
    }) in (
      lawful,
      λ longer.
          (let sides : IsByDoers h place = record { each = λ p f below k. (fault.least p f below k).right_side.by_doer } in
          let at : slice_get (take (suc place) h) place ≡ Some fault.event = slice_get-take h (suc place) place fault.event fault.at_place (omega arith) in
          let follows : MayFollow shape (take place (take (suc place) h)) fault.event = (IsLawful-to shape (take (suc place) h) longer).each place fault.event at in
          not_IsLawfulEvent shape h place fault.event kind fault.fault
          (IsLawfulEvent-from shape h place fault.event sides fault.at_place (subst (λ t. MayFollow shape t fault.event) (before_it h place (suc place) (omega arith)) follows))),
    )

-- ---- why an event may not follow

not_MayFollow : (shape : Shape) (past : List Event) (e : Event) (kind : Kind) → IsFaultAfter shape past e kind → ¬ MayFollow shape past e
not_MayFollow shape past e kind fault follows = grind arith

-- if a reason is absent only for an event that may follow, it says why the one at fault may not
pub HasReason-at : (shape : Shape) (h : List Event) (place : ℕ) (d : Event) (kind : Kind) (why : Option Reason) → place < length h → IsFaultAfter shape (take place h) (get_or h place d) kind →
    (why ≡ None → MayFollow shape (take place h) (get_or h place d)) →
    IfSome why (λ reason. (¬ MayFollow shape (take place h) (get_or h place d)) × IsReasonBehind shape (take place h) (get_or h place d) reason) →
    HasReason shape h (Fault place kind) why
HasReason-at shape h place d kind None within fault none some e at = absurd (not_MayFollow shape (take place h) (get_or h place d) kind fault (none refl))
HasReason-at shape h place d kind (Some reason) within fault none some e at =
    (reason, refl, subst (λ f. IsReasonBehind shape (take place h) f reason) (same_event h place (get_or h place d) e (slice_get-get_or h place d within) at) some.1)
