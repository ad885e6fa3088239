use Rattle.std.proofs.Common.{◌≡◌, suc, false, ap, sym, subst, ◌∙◌, arith, length-drop}
use Rattle.register_calls.proofs.Common.{Register, IsValue}
use Rattle.register_calls.proofs.ReadLemmas.{length-written}
use Rattle.register_calls.proofs.Hearing.{write_begins_as}
use Rattle.register_calls.proofs.auditors.RegisterAuditor.write_begins.Goals as goal

pub returns-in-Err-clause-hears : goal.returns-in-Err-clause-hears
returns-in-Err-clause-hears g c = grind (arith, length-drop, length-written)

pub returns-clause-hears : goal.returns-clause-hears
returns-clause-hears g c =
    let f = c.forget.new.self in
    let others = c.forget.ensures.others in (
      others.0,
      λ h k.
          let value : IsValue f.register c.args.value = subst (λ (r : Register). IsValue r c.args.value) (sym others.0) (c.has_value.ensures.0 c.if-not-has_value.false) in
          let idle : f.is_writing ≡ false = others.2 ∙ c.if-self.false in
          let up : c.in-Some.begun ≡ suc f.begun = let p = c.in-Some.ensures.1 in let q = others.1 in omega (arith, p, q) in (
            write_begins_as f.register h (g.W.Fifo.items f.window) f.base f.begun f.is_writing (g.R.Fifo.items f.readers) f.floor f.is_safe f.is_regular f.is_by_reader f.is_atomic c.args.value
                (g.W.Fifo.items c.push_back.new.self) c.in-Some.begun value idle up c.in-Ok.ensures.items (c.forget.ensures.audits h k),
            λ v same. c.forget.ensures.base h k,
          ),
    )

pub returns-in-Err-clause-others : goal.returns-in-Err-clause-others
returns-in-Err-clause-others g c = (ap g.R.Fifo.items c.forget.ensures.others.3, c.forget.ensures.others.4)

pub returns-clause-others : goal.returns-clause-others
returns-clause-others g c = (ap g.R.Fifo.items c.forget.ensures.others.3, c.forget.ensures.others.4)

pub returns-in-Err-clause-up : goal.returns-in-Err-clause-up
returns-in-Err-clause-up g c = c.forget.ensures.up

pub returns-clause-up : goal.returns-clause-up
returns-clause-up g c = c.forget.ensures.up
