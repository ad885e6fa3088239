use Rattle.std.proofs.Common.{rules, ◌≡◌, ℕ, List, [], Result, Ok, Err, IfErr, inl, inr, subst, sym, refl, append_assoc, arith}
use Rattle.std.specs.Result.{IsErrAnd}
use Rattle.std.proofs.KnownBytes.{Consumes-nil, Consumes-trans}
use Rattle.register_recordings.specs.Recordings.{RefusesRegisterText}
use Rattle.register_recordings.specs.declared.faults.RegisterTextFault.{RegisterTextFault}
use Rattle.ring_program.specs.Answers.{IsRegisterCause}
use Rattle.ring_program.specs.Registers.{IsRegisterFoundBy}
use Rattle.ring_program.specs.declared.faults.Refusal.{Refusal}
use Rattle.ring_program.specs.declared.faults.Refusal.TheVariants as refusal
use Rattle.ring_program.specs.declared.registers.FoundRegister.{FoundRegister}
use Rattle.ring_program.proofs.FirstFaults.{nothing_keeps}
use Rattle.ring_program.proofs.ReadingLemmas.{all_turns, none_found, of_front, of_whole, one_found, one_more}
use Rattle.ring_program.proofs.RegisterLemmas.{register_at_end, register_at_fault}
use Rattle.ring_program.proofs.registers.read_register.Goals as goal
use Rattle.ring_program.proofs.Endings.{if_some}

-- a fault of the text, of these bytes
told : (result : Result FoundRegister Refusal) (fault : RegisterTextFault) (bytes : List ℕ) → IsErrAnd result (λ e. e ≡ refusal.Register fault) → RefusesRegisterText fault bytes → IfErr result (IsRegisterCause bytes)
unfolding IsRegisterCause
told (Ok finding) fault bytes is refuses = tt
told (Err e) fault bytes is refuses = inr (inr (fault, is, refuses))

pub loop-init : goal.loop-init
loop-init g c = ([], Consumes-nil _, c.requires.begins, search rules, λ stop. nothing_keeps c.args.class)

pub loop-preserved : goal.loop-preserved
loop-preserved g c = (
  _,
  Consumes-trans _ _ _ _ _ c.loop.invariant.1 c.in-Ok.ensures.bytes.0,
  (none_found _ _ _ c.in_default.not-Some c.in_ok-found.ensures.read).0 _ c.loop.invariant.2,
  one_more _ _ _ _ c.loop.invariant.3 c.if-count-eq0.false c.in-Ok.ensures.bound.0,
  λ stop. (none_found _ _ _ c.in_default.not-Some c.in_ok-found.ensures.read).1 stop _ c.loop.invariant.2 (c.loop.invariant.4 stop),
)

pub returns-then-count-eq0-clause-found : goal.returns-then-count-eq0-clause-found
returns-then-count-eq0-clause-found g c =
    search (arith, of_whole, rules, register_at_end, c.loop.invariant.0, c.loop.invariant.1, c.in-Ok.ensures.bytes.0, c.if-count-eq0.true, c.in-Ok.ensures.bytes.1, c.loop.invariant.4, c.in_ok-found_at_end.ensures.found, c.loop.invariant.2)

pub returns-in_err-found_at_end-clause-refused : goal.returns-in_err-found_at_end-clause-refused
returns-in_err-found_at_end-clause-refused g c =
    let came = c.loop.invariant.0 in
    of_whole _ _ _ came _ c.in-Ok.count _ c.loop.invariant.1 c.in-Ok.ensures.bytes.0 c.if-count-eq0.true (c.in-Ok.ensures.bytes.1 c.if-count-eq0.true (search rules))
    (told c.from_residual.result c.in_err-found_at_end.field-0.0 came c.from_residual.ensures.1 (c.in_err-found_at_end.ensures.refused came c.loop.invariant.2))

pub returns-in_err-found-clause-refused : goal.returns-in_err-found-clause-refused
returns-in_err-found-clause-refused g c =
    let came = c.loop.invariant.0 in
    of_front _ _ _ _ (Consumes-trans _ _ _ _ _ c.loop.invariant.1 c.in-Ok.ensures.bytes.0)
    (λ more. told c.from_residual-in_err-found.result c.in_err-found.field-0.0 _ c.from_residual-in_err-found.ensures.1
    (subst (RefusesRegisterText c.in_err-found.field-0.0) (sym (append_assoc came _ more)) (c.in_err-found.ensures.refused came more c.loop.invariant.2)))

pub returns-in-Some-clause-found : goal.returns-in-Some-clause-found
returns-in-Some-clause-found g c =
    let came = c.loop.invariant.0 in
    let found = one_found _ _ _ c.in-Some.found c.in-Some.is c.in_ok-found.ensures.read in
    of_front _ _ _ _ (Consumes-trans _ _ _ _ _ c.loop.invariant.1 c.in-Ok.ensures.bytes.0)
    (λ more. subst (λ t. IsRegisterFoundBy c.args.stop c.args.class t c.in-Some.found.is_cut c.in-Some.found.finding) (sym (append_assoc came _ more))
    (register_at_fault c.args.stop c.args.class _ c.in-Some.found.is_cut c.in-Some.found.finding found.0 (found.1 came more c.loop.invariant.2 (c.loop.invariant.4 found.0))))

pub returns-clause-refused : goal.returns-clause-refused
unfolding IsRegisterCause
returns-clause-refused g c =
    let came = c.loop.invariant.0 in
    of_front _ _ _ _ c.loop.invariant.1 (λ more. inr (inr (_, refl, all_turns _ came more c.loop.invariant.3 c.loop-test.false)))

pub returns-in-Err-clause-refused : goal.returns-in-Err-clause-refused
unfolding IsRegisterCause
returns-in-Err-clause-refused g c = if_some _ _ (λ bytes. inr (inl refl))
