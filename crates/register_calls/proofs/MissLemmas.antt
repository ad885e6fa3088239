-- The first event at which a history lacks a class, and that there is at most one.
use Rattle.std.proofs.Common.{◌≡◌, ℕ, zero, suc, ◌+◌, ◌-◌, ◌≤◌, ◌<◌, Some, None, List, [], ◌∷◌, length, take, reverse, get_or, refl, sym, subst, arith}
use Rattle.std.proofs.Math.Seq.{take-suc}
use Rattle.std.proofs.Math.Numerals.{add-one}
use Rattle.std.proofs.lemmas.List.{reverse-append, take_all}
use Rattle.register_calls.proofs.Common.{cases_lt, Register, RegisterEvent, WriteEnds, Class, Safe, Regular, AtomicByReader, Atomic, HasClass, RefusesRegisterEvent}
use Rattle.register_calls.specs.declared.faults.RegisterFault.{RegisterFault}
use Rattle.register_calls.specs.declared.faults.RegisterFault.TheVariants.{NoValue, OutOfTurn, TooMany, OutOfMemory}
use Rattle.register_calls.specs.Histories.{IsWellFormed, ComesInTurn, WritesValue}
use Rattle.register_calls.specs.Findings.{IsFirstMiss, OneFirstMiss, FaultSays}
use Rattle.register_calls.proofs.ClassLemmas.{beginning}

-- one more event
pub past_more : (events : List RegisterEvent) (place : ℕ) (e : RegisterEvent) → place < length events → reverse (take (place + 1) events) ≡ get_or events place e ∷ reverse (take place events)
past_more events place e within = grind (arith, (add-one place), (reverse-append (take place events) (get_or events place e ∷ [])), (take-suc events place e within))

-- a longer prefix has a class only if a shorter one has it
shorter : (class : Class) (r : Register) (events : List RegisterEvent) (m k : ℕ) → m + k ≤ length events → HasClass class r (reverse (take (m + k) events)) → HasClass class r (reverse (take m events))
shorter class r events m zero fits has = grind arith
shorter class r events m (suc k) fits has =
    let same : m + suc k ≡ (m + k) + 1 = omega arith in
    let within : m + k < length events = omega arith in
    shorter class r events m k (omega arith)
    (beginning class r (get_or events (m + k) WriteEnds) (reverse (take (m + k) events))
    (subst (λ (h : List RegisterEvent). HasClass class r h) (past_more events (m + k) WriteEnds within)
    (subst (λ (n : ℕ). HasClass class r (reverse (take n events))) same has)))

pub prefix_has : (class : Class) (r : Register) (events : List RegisterEvent) (m n : ℕ) → m ≤ n → n ≤ length events → HasClass class r (reverse (take n events)) → HasClass class r (reverse (take m events))
prefix_has class r events m n le fits has =
    let same : n ≡ m + (n - m) = omega arith in
    shorter class r events m (n - m) (omega arith) (subst (λ (k : ℕ). HasClass class r (reverse (take k events))) same has)

whole : (class : Class) (r : Register) (events : List RegisterEvent) → HasClass class r (reverse events) → HasClass class r (reverse (take (length events) events))
whole class r events has = subst (λ (es : List RegisterEvent). HasClass class r (reverse es)) (sym (take_all (length events) events (omega arith))) has

-- no first miss comes before another
apart : (class : Class) (r : Register) (events : List RegisterEvent) (m n : ℕ) → m < n → IsFirstMiss class r events m → IsFirstMiss class r events n → ⊥
apart class r events m n lt a b = a.with_it (prefix_has class r events (m + 1) n (omega arith) (let w = b.within in omega arith) b.before)

pub one_miss : OneFirstMiss
one_miss class r events None None a b = refl
one_miss class r events None (Some n) a b = absurd (b.with_it (prefix_has class r events (n + 1) (length events) (let w = b.within in omega arith) (omega arith) (whole class r events a)))
one_miss class r events (Some m) None a b = absurd (a.with_it (prefix_has class r events (m + 1) (length events) (let w = a.within in omega arith) (omega arith) (whole class r events b)))
one_miss class r events (Some m) (Some n) a b = grind (arith, apart, cases_lt)

-- the prefixes of a well-formed history are well formed
well_shorter : (r : Register) (events : List RegisterEvent) (m k : ℕ) → m + k ≤ length events → IsWellFormed r (reverse (take (m + k) events)) → IsWellFormed r (reverse (take m events))
well_shorter r events m zero fits turns = grind arith
well_shorter r events m (suc k) fits turns =
    let same : m + suc k ≡ (m + k) + 1 = omega arith in
    let within : m + k < length events = omega arith in
    let more : IsWellFormed r (get_or events (m + k) WriteEnds ∷ reverse (take (m + k) events)) =
    subst (λ (h : List RegisterEvent). IsWellFormed r h) (past_more events (m + k) WriteEnds within) (subst (λ (n : ℕ). IsWellFormed r (reverse (take n events))) same turns) in
    well_shorter r events m k (omega arith) more.0

-- an event that is out of turn, or that writes no value, makes a history ill formed
pub ill_formed :
    (r : Register) (events : List RegisterEvent) (place : ℕ) (d : RegisterEvent) → place < length events →
    (WritesValue r (get_or events place d) × ComesInTurn (reverse (take place events)) (get_or events place d) → ⊥) → ¬ IsWellFormed r (reverse events)
ill_formed r events place d within never well =
    let all : IsWellFormed r (reverse (take (length events) events)) = subst (λ (es : List RegisterEvent). IsWellFormed r (reverse es)) (sym (take_all (length events) events (omega arith))) well in
    let same : length events ≡ (place + 1) + (length events - (place + 1)) = omega arith in
    let some : IsWellFormed r (reverse (take (place + 1) events)) =
    well_shorter r events (place + 1) (length events - (place + 1)) (omega arith) (subst (λ (n : ℕ). IsWellFormed r (reverse (take n events))) same all) in
    let more : IsWellFormed r (get_or events place d ∷ reverse (take place events)) = subst (λ (h : List RegisterEvent). IsWellFormed r h) (past_more events place d within) some in
    never (more.1, more.2)

-- what a refusal of the event at a place implies about the whole history
pub refused_tells :
    (fault : RegisterFault) (writes readers most : ℕ) (r s : Register) (events : List RegisterEvent) (place : ℕ) (d : RegisterEvent) → r ≡ s → place < length events →
    RefusesRegisterEvent writes readers most fault r (reverse (take place events)) (get_or events place d) → FaultSays fault s (reverse events)
refused_tells NoValue writes readers most r s events place d same within no_value =
    subst (λ (z : Register). ¬ IsWellFormed z (reverse events)) same (ill_formed r events place d within (λ x. no_value x.0))
refused_tells OutOfTurn writes readers most r s events place d same within out =
    subst (λ (z : Register). ¬ IsWellFormed z (reverse events)) same (ill_formed r events place d within (λ x. out.1 x.1))
refused_tells TooMany writes readers most r s events place d same within many = tt
refused_tells OutOfMemory writes readers most r s events place d same within full = tt

pub first_has : (class : Class) (r : Register) → HasClass class r []
first_has Safe r = tt
first_has Regular r = tt
first_has AtomicByReader r = ((λ k. 0), tt)
first_has Atomic r = ((λ k. 0), tt)
