use Rattle.std.proofs.Common.{arith, ◌≡◌, ℕ, ◌+◌, ◌++◌, ◌∷◌, [], List, sym, subst, append_assoc, refl}
use Rattle.bits_core.specs.declared.faults.Kind.{Kind}
use Rattle.trace_text.proofs.Common.{Event, Shape, TraceHearing}
use Rattle.trace_text.specs.TraceAudits.{BreaksAt, HeardTrace, IsFoundSoFar}
use Rattle.trace_text.proofs.TraceLemmas.{length-push}
use Rattle.trace_text.proofs.trace_audits.TraceHearing.hear.Goals as goal

breaks_before : (shape : Shape) (events : List Event) (e : Event) (place : ℕ) (kind : Kind) → BreaksAt shape events place kind → BreaksAt shape (events ++ e ∷ []) place kind
breaks_before shape events e place kind broken = grind (arith, append_assoc)

-- one more event was heard, by this auditor and with this verdict
heard_more : (h now : TraceHearing) (shape : Shape) (events : List Event) (e : Event) → HeardTrace h shape events → now.shape ≡ h.shape → now.count ≡ h.count + 1
    → IsFoundSoFar now.verdict now.auditor shape (events ++ e ∷ []) → HeardTrace now shape (events ++ e ∷ [])
heard_more h now shape events e had same more found = grind (arith, length-push)

pub returns-in-Fault-clause-heard : goal.returns-in-Fault-clause-heard
returns-in-Fault-clause-heard c shape events had =
    let broken = subst (λ v. IsFoundSoFar v c.args.self.now.auditor shape events) c.in-Fault.is had.found in
    heard_more c.args.self.now _ shape events c.args.event had refl c.in-Some.ensures.1
    (subst (λ v. IsFoundSoFar v c.args.self.now.auditor shape (events ++ c.args.event ∷ [])) (sym c.in-Fault.is) (breaks_before shape events c.args.event c.in-Fault.place c.in-Fault.kind broken))

pub returns-in-Some-feed-clause-heard : goal.returns-in-Some-feed-clause-heard
returns-in-Some-feed-clause-heard c shape events had =
    let before = subst (λ v. IsFoundSoFar v c.args.self.now.auditor shape events) c.in-Lawful.is had.found in
    heard_more c.args.self.now _ shape events c.args.event had refl c.in-Some.ensures.1 (record {
      past = events;
      event = c.args.event;
      later = [];
      parts = refl;
      is_place = sym had.count;
      lawful = before.marks.lawful;
      fault = c.in-Some-feed.ensures.kind shape events before;
    })

pub returns-in-None-clause-heard : goal.returns-in-None-clause-heard
returns-in-None-clause-heard c shape events had =
    let before = subst (λ v. IsFoundSoFar v c.args.self.now.auditor shape events) c.in-Lawful.is had.found in
    heard_more c.args.self.now _ shape events c.args.event had refl c.in-Some.ensures.1
    (subst (λ v. IsFoundSoFar v c.feed.new.self shape (events ++ c.args.event ∷ [])) (sym c.in-Lawful.is) (c.in-None.ensures.heard shape events before))
