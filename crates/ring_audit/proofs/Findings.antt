-- A history has one finding.
use Rattle.std.proofs.Common.{◌≡◌, ◌⊎◌, inl, inr, ℕ, suc, ◌<◌, Bool, IsTrue, List, take, sym, ◌∙◌, arith}
use Rattle.std.proofs.lemmas.Bool.{cases_order}
use Rattle.std.proofs.lemmas.List.{take-take}
use Rattle.ring_audit.proofs.Common.{Event, Shape, IsLawful}
use Rattle.bits_core.specs.declared.faults.Kind.{Kind}
use Rattle.bits_core.specs.declared.faults.Kind.TheVariants.{NotProgram}
use Rattle.bits_core.specs.declared.audits.Verdict.TheVariants as bits
use Rattle.bits_core.specs.Audit.{IsFirstFault}
use Rattle.ring_audit.specs.Audit.{IsFound, IsKindAt, IsFirstBreak, Lawful, Fault, OneFinding}
use Rattle.ring_audit.proofs.Breaks.{programs_take}
use Rattle.bits_core.proofs.LawLemmas.{fault_breaks, one_verdict}
use Rattle.ring_core.proofs.LawLemmas.{items_put_are_read, items_taken_are_read}

-- ---- what was put and taken, and whether a take returned Closed

same_truth : (a b : Bool) → (IsTrue a → IsTrue b) → (IsTrue b → IsTrue a) → a ≡ b
same_truth a b on back = grind arith

one_found :
    (shape : Shape) (h : List Event) (put taken put' taken' : List ℕ) (told told' : Bool) → IsFound shape h put taken told →
    IsFound shape h put' taken' told' → Lawful put taken told ≡ Lawful put' taken' told'
one_found shape h put taken put' taken' told told' f g =
    let same_put : put ≡ put' = f.put_is ∙ items_put_are_read shape h f.puts g.puts f.run.puts_follow g.run.puts_follow ∙ sym g.put_is in
    let (there, on) = items_taken_are_read shape h f.takes g.takes f.run.takes_follow g.run.takes_follow in
    grind (arith, items_taken_are_read, same_truth)

-- ---- the place and its kind

-- no place is before another
not_before :
    (shape : Shape) (h : List Event) (p q : ℕ) (k l : Kind) → IsFirstBreak shape h p k → IsFirstBreak shape h q l → p < q → ⊥
not_before shape h p q k l f g below = grind (arith, take-take (suc p) q h (omega (arith, below)), programs_take shape (take q h) (suc p) g.before)

-- a fault is the program's if the bits are lawful, otherwise that of the bits
of_kind : (shape : Shape) (h : List Event) (place : ℕ) (k : Kind) → IsKindAt shape h place k → (IsLawful shape (take (suc place) h) × (k ≡ NotProgram)) ⊎ IsFirstFault shape h place k
of_kind shape h place k is = grind arith

one_kind : (shape : Shape) (h : List Event) (place : ℕ) (k l : Kind) → IsKindAt shape h place k → IsKindAt shape h place l → k ≡ l
one_kind shape h place k l is is' = by_kinds (of_kind shape h place k is) (of_kind shape h place l is')
  where
    by_kinds :
        (IsLawful shape (take (suc place) h) × (k ≡ NotProgram)) ⊎ IsFirstFault shape h place k →
        (IsLawful shape (take (suc place) h) × (l ≡ NotProgram)) ⊎ IsFirstFault shape h place l → k ≡ l
    by_kinds (inl (lawful, e)) (inl (lawful', e')) = e ∙ sym e'
    by_kinds (inl (lawful, e)) (inr fault) = absurd ((fault_breaks shape h place l fault).1 lawful)
    by_kinds (inr fault) (inl (lawful, e)) = absurd ((fault_breaks shape h place k fault).1 lawful)
    by_kinds (inr fault) (inr fault') = let both : bits.Fault place k ≡ bits.Fault place l = one_verdict shape h (bits.Fault place k) (bits.Fault place l) fault fault' in cc

one_break :
    (shape : Shape) (h : List Event) (p q : ℕ) (k l : Kind) → IsFirstBreak shape h p k → IsFirstBreak shape h q l →
    Fault p k ≡ Fault q l
one_break shape h p q k l f g = grind (arith, one_kind, not_before, cases_order p q)

-- ---- both

never_both :
    (shape : Shape) (h : List Event) (put taken : List ℕ) (told : Bool) (place : ℕ) (kind : Kind) → IsFound shape h put taken told → IsFirstBreak shape h place kind → ⊥
never_both shape h put taken told place kind f g = g.breaks (programs_take shape h (suc place) (f.puts, f.takes, f.run))

pub one_finding : OneFinding
one_finding shape h h1 h2 f g = grind (arith, one_found, one_break, never_both)
