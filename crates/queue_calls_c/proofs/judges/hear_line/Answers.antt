use Rattle.std.proofs.Common.{◌≡◌, ◌∙◌, ◌+◌, List, [], ◌∷◌, Some, None, length, reverse, refl, sym, subst, arith}
use Rattle.std.proofs.lemmas.List.{length-reverse, reverse-append}
use Rattle.register_calls.specs.declared.events.Register.{Register}
use Rattle.register_calls.specs.declared.events.RegisterEvent.{RegisterEvent}
use Rattle.register_calls.specs.Audits.{AuditsRegister}
use Rattle.queue_calls_c.specs.Registers.{AreLost, RefusesEventLine, refused_line}
use Rattle.queue_calls_c.specs.declared.judges.JudgeFault.{JudgeFault}
use Rattle.queue_calls_c.proofs.EventLines.{refusal_line, refuses_line}
use Rattle.queue_calls_c.proofs.judges.hear_line.Goals as goal

pub returns-in_default-clause-refused : goal.returns-in_default-clause-refused
returns-in_default-clause-refused g c before heard at readers = (refl, λ e is. (let no : None ≡ Some e = c.in_default.ensures.event ∙ is in cc))

pub returns-in-Ok-clause-heard : goal.returns-in-Ok-clause-heard
returns-in-Ok-clause-heard g c before heard at =
    let e = c.in-Some.event in
    let new : AuditsRegister g.W.Fifo.items g.R.Fifo.items c.feed.new.self (e ∷ reverse before) = (c.in-Ok.ensures.hears.1 (reverse before) heard.0).0 in
    let same : c.feed.new.self.register ≡ c.args.auditor.now.register = c.in-Ok.ensures.hears.0 in (
      e,
      sym c.in-Some.ensures.event,
      (
        subst (λ (h : List RegisterEvent). AuditsRegister g.W.Fifo.items g.R.Fifo.items c.feed.new.self h) (sym (reverse-append before (e ∷ []))) new,
        c.after-now.ensures before e at new (subst (λ (r : Register). AreLost r before c.args.lost) (sym same) heard.1),
      ),
    )

pub returns-in-Err-clause-refused : goal.returns-in-Err-clause-refused
returns-in-Err-clause-refused g c before heard at readers =
    let a = c.args.auditor.now in
    let refused = (c.in-Err.ensures.hears.1 (reverse before) heard.0).1 in
    let count : length (reverse before) + 2 ≡ c.args.number = omega (arith, at, length-reverse before) in
    subst (λ (f : JudgeFault). (refused_line f ≡ c.args.number) × RefusesEventLine (g.W.Fifo.room a.window) f a.register (reverse before) c.args.line.now) (sym c.refusal_of.ensures) (
      refusal_line c.in-Err.fault c.args.number,
      refuses_line c.in-Err.fault (g.W.Fifo.room a.window) (g.R.Fifo.room a.readers) c.args.number a.register (reverse before) c.args.line.now c.in-Some.event readers c.in-Some.ensures.reader c.in-Some.ensures.event count
          (omega arith) refused,
    )
