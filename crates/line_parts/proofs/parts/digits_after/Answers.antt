use Rattle.std.proofs.Common.{◌≡◌, ◌+◌, ◌-◌, ◌*◌, ◌∙◌, ℕ, List, Some, ap, sym, None, arith, rules}
use Rattle.std.proofs.Common.{get_or, drop}
use Rattle.line_parts.specs.Parts.{digits_after}
use Rattle.line_parts.proofs.NumberReading.{rest_from, number_more, number_large, number_other, number_end}
use Rattle.line_parts.proofs.parts.digits_after.Goals as goal

pub returns-then-not-is_ascii_digit : goal.returns-then-not-is_ascii_digit
returns-then-not-is_ascii_digit c = ap (λ (t : List ℕ). Some (c.loop-i.number, t)) (rest_from c.args.bytes.now c.loop-i.i) ∙ sym (number_other c.args.bytes.now c.loop-i.i c.loop-i.number c.loop-i-test.true (sym c.is_ascii_digit.ensures.value ∙ c.if-not-is_ascii_digit.true)) ∙ c.loop-i.invariant

pub returns-in_err-checked_mul : goal.returns-in_err-checked_mul
returns-in_err-checked_mul c =
    let digit = sym c.is_ascii_digit.ensures.value ∙ c.if-not-is_ascii_digit.false in
    let h : None ≡ digits_after c.args.begun c.args.bytes.now = sym (number_large c.args.bytes.now c.loop-i.i c.loop-i.number c.loop-i-test.true digit (omega (arith, c.in_err-checked_mul.ensures))) ∙ c.loop-i.invariant in
    search (rules, h)

pub returns-in_err-number : goal.returns-in_err-number
returns-in_err-number c =
    let digit = sym c.is_ascii_digit.ensures.value ∙ c.if-not-is_ascii_digit.false in
    let h : None ≡ digits_after c.args.begun c.args.bytes.now = sym (number_large c.args.bytes.now c.loop-i.i c.loop-i.number c.loop-i-test.true digit (omega (arith, c.in_ok-checked_mul.ensures, c.from.ensures, c.in_err-number.ensures))) ∙ c.loop-i.invariant in
    search (rules, h)

pub loop-i-preserved : goal.loop-i-preserved
loop-i-preserved c =
    let digit = sym c.is_ascii_digit.ensures.value ∙ c.if-not-is_ascii_digit.false in
    let value : c.in_ok-number.number ≡ 10 * c.loop-i.number + (get_or c.args.bytes.now c.loop-i.i 0 - 48) = omega (arith, c.in_ok-number.ensures.1, c.in_ok-checked_mul.ensures.1, c.from.ensures) in
    ap (λ (n : ℕ). digits_after n (drop (c.loop-i.i + 1) c.args.bytes.now)) value
    ∙ sym (number_more c.args.bytes.now c.loop-i.i c.loop-i.number c.loop-i-test.true digit (omega (arith, value, c.in_ok-number.ensures.0, c.in_ok-number.ensures.1))) ∙ c.loop-i.invariant

pub returns : goal.returns
returns c = sym (number_end c.args.bytes.now c.loop-i.i c.loop-i.number c.loop-i-test.false) ∙ c.loop-i.invariant
