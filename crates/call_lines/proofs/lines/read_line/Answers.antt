use Rattle.std.proofs.Common.{refl, sym, subst}
use Rattle.std.proofs.lemmas.Bool.{false≢true}
use Rattle.lists.proofs.Results.{on_err}
use Rattle.call_lines.specs.Lines.{Allows}
use Rattle.call_lines.specs.LineReading.{ReadsNumbers}
use Rattle.call_lines.proofs.LineLemmas.{begins_with_numbers, line_is, no_line_numbers, no_line_allowed}
use Rattle.call_lines.proofs.lines.read_line.Goals as goal
use Rattle.call_lines.proofs.lines.read_line.Goals.{else-branch-via-then-branch+else-allows, else-branch-via-else-branch}

pub returns-then-allows-clause-line : goal.returns-then-allows-clause-line
returns-then-allows-clause-line g c =
    line_is c.args.bytes.now c.in-Some.rest.now c.in-Some.word (g.R.Store.items c.read_numbers.new.numbers) c.in-Some.ensures
    (subst (λ t. ReadsNumbers c.in-Some.rest.now t (g.R.Store.items c.read_numbers.new.numbers)) c.if-branch.true c.in_ok-read_numbers.ensures.read)
    (subst (λ ns. Allows c.in-Some.word ns) c.as_slice.ensures (c.if-allows.ensures.0 refl))

pub returns-else-branch-clause-none : goal.returns-else-branch-clause-none
returns-else-branch-clause-none g c none word told =
    elim c.else-branch.branch [
      | else-branch-via-then-branch+else-allows w ↦
          no_line_allowed c.args.bytes.now c.in-Some.rest.now c.in-Some.word (g.R.Store.items c.read_numbers.new.numbers) c.in-Some.ensures
          (subst (λ t. ReadsNumbers c.in-Some.rest.now t (g.R.Store.items c.read_numbers.new.numbers)) w.if-branch.true c.in_ok-read_numbers.ensures.read)
          (λ allowed. false≢true (w.if-allows.ensures.1 (subst (λ ns. Allows c.in-Some.word ns) (sym w.as_slice.ensures) allowed))) word told
      | else-branch-via-else-branch w ↦
          no_line_numbers c.args.bytes.now c.in-Some.rest.now c.in-Some.word c.in-Some.ensures
          (subst (λ t. ReadsNumbers c.in-Some.rest.now t (g.R.Store.items c.read_numbers.new.numbers)) w.if-branch.false c.in_ok-read_numbers.ensures.read) word told
    ]

pub returns-in_err-read_numbers-clause-full : goal.returns-in_err-read_numbers-clause-full
returns-in_err-read_numbers-clause-full g c =
    let many = c.in_err-read_numbers.ensures.full in
    on_err c.from_residual.result (begins_with_numbers c.args.bytes.now c.in-Some.rest.now c.in-Some.word many.0 many.1 _ c.in-Some.ensures many.2 many.3 many.4)
