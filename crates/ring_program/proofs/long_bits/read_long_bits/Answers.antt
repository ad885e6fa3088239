use Rattle.std.proofs.Common.{rules, ◌≡◌, ℕ, List, [], Result, Ok, Err, IfErr, inr, subst, sym, refl, append_assoc, arith}
use Rattle.std.specs.Result.{IsErrAnd}
use Rattle.std.proofs.KnownBytes.{Consumes-nil, Consumes-trans}
use Rattle.trace_text.specs.Trace.{RefusesTraceText}
use Rattle.bits_core.specs.declared.audits.Verdict.{Verdict}
use Rattle.trace_text.specs.declared.faults.TraceFault.{TraceFault}
use Rattle.ring_program.specs.Answers.{IsLongBitsCause}
use Rattle.ring_program.specs.declared.faults.Refusal.{Refusal}
use Rattle.ring_program.specs.declared.faults.Refusal.TheVariants as refusal
use Rattle.ring_program.proofs.ReadingLemmas.{all_turns, of_front, of_whole, one_more}
use Rattle.ring_program.proofs.long_bits.read_long_bits.Goals as goal

-- a fault of the text, of these bytes
told : (result : Result Verdict Refusal) (fault : TraceFault) (bytes : List ℕ) → IsErrAnd result (λ e. e ≡ refusal.Trace fault) → RefusesTraceText bytes fault → IfErr result (IsLongBitsCause bytes)
unfolding IsLongBitsCause
told (Ok verdict) fault bytes is refuses = tt
told (Err e) fault bytes is refuses = inr (inr (fault, is, refuses))

pub loop-init : goal.loop-init
loop-init g c = ([], Consumes-nil _, c.new-audit.ensures, search rules)

pub loop-preserved : goal.loop-preserved
loop-preserved g c = (
  _,
  Consumes-trans _ _ _ _ _ c.loop.invariant.1 c.in-Ok.ensures.bytes.0,
  c.in_ok-read.ensures.read _ c.loop.invariant.2,
  one_more _ _ _ _ c.loop.invariant.3 c.if-count-eq0.false c.in-Ok.ensures.bound.0,
)

pub returns-then-count-eq0-clause-told : goal.returns-then-count-eq0-clause-told
returns-then-count-eq0-clause-told g c =
    search (arith, of_whole, rules, c.loop.invariant.0, c.loop.invariant.1, c.in-Ok.ensures.bytes.0, c.if-count-eq0.true, c.in-Ok.ensures.bytes.1, c.in_ok-verdict.ensures.told, c.loop.invariant.2)

pub returns-in_err-verdict-clause-refused : goal.returns-in_err-verdict-clause-refused
returns-in_err-verdict-clause-refused g c =
    let came = c.loop.invariant.0 in
    of_whole _ _ _ came _ c.in-Ok.count _ c.loop.invariant.1 c.in-Ok.ensures.bytes.0 c.if-count-eq0.true (c.in-Ok.ensures.bytes.1 c.if-count-eq0.true (search rules))
    (told c.from_residual.result c.in_err-verdict.field-0.0 came c.from_residual.ensures.1 (c.in_err-verdict.ensures.refused came c.loop.invariant.2))

pub returns-in_err-read-clause-refused : goal.returns-in_err-read-clause-refused
returns-in_err-read-clause-refused g c =
    let came = c.loop.invariant.0 in
    of_front _ _ _ _ (Consumes-trans _ _ _ _ _ c.loop.invariant.1 c.in-Ok.ensures.bytes.0)
    (λ more. told c.from_residual-in_err-read.result c.in_err-read.field-0.0 _ c.from_residual-in_err-read.ensures.1
    (subst (λ t. RefusesTraceText t c.in_err-read.field-0.0) (sym (append_assoc came _ more)) (c.in_err-read.ensures.refused came more c.loop.invariant.2)))

pub returns-clause-refused : goal.returns-clause-refused
unfolding IsLongBitsCause
returns-clause-refused g c =
    let came = c.loop.invariant.0 in
    of_front _ _ _ _ c.loop.invariant.1 (λ more. inr (inr (_, refl, all_turns _ came more c.loop.invariant.3 c.loop-test.false)))
