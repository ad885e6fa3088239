use Rattle.std.proofs.Common.{◌≡◌, ℕ, List, Bool, true, false, Some, None, if◌then◌else◌, ap, refl, arith, ◌<◌, ◌^◌}
use Rattle.std.specs.Str.Parse.{IsNumeral, digits_value, without_leading_plus}
use Rattle.clap.proofs.ValueTestLemmas.{Accepts-accepts, accepts-Accepts}
use Rattle.clap.specs.ValueTests.{is_unsigned_in}
use Rattle.clap.specs.declared.builder.value_parser.ValueParser.TheVariants.{Unsigned}
use Rattle.ring_program.specs.CommandLine.{largest, number_in}
use Rattle.ring_program.proofs.options.number_of.Goals as goal

abbrev IsWritten : List ℕ → Type 0
IsWritten text = IsNumeral 10 (without_leading_plus text) × (digits_value 10 (without_leading_plus text) < 2 ^ 64)

written : (text : List ℕ) → IsWritten text → is_unsigned_in 0 largest text ≡ true
written text h = Accepts-accepts false (Unsigned 0 largest) text (h.0, h.1, omega arith, omega (arith, h.1))

number_is : (text : List ℕ) (n : ℕ) → IsWritten text → n ≡ digits_value 10 (without_leading_plus text) → Some n ≡ number_in text
number_is text n h is = rw (written text h) (ap Some is)

no_number : (text : List ℕ) → ¬ (IsWritten text) → None ≡ number_in text
no_number text h = go (is_unsigned_in 0 largest text) refl
  where
    go : (b : Bool) → is_unsigned_in 0 largest text ≡ b → None ≡ (if b then Some (digits_value 10 (without_leading_plus text)) else None)
    go true e =
        let a = accepts-Accepts false (Unsigned 0 largest) text e in
        absurd (h (a.0, a.1))
    go false e = refl

pub returns-in-Ok : goal.returns-in-Ok
returns-in-Ok c = number_is c.args.text.now c.in-Ok.number c.in-Ok.ensures.value.0.0 c.in-Ok.ensures.value.0.1

pub returns-in-Err : goal.returns-in-Err
returns-in-Err c = no_number c.args.text.now c.in-Err.ensures.value.0
