-- The classes of a history with the end of one more read, by what the read may be of; and what a refusal implies.
use Rattle.std.proofs.Common.{◌≡◌, ◌↔◌, ◌⊎◌, inl, inr, ℕ, ◌<◌, Bool, true, Option, Some, None, List, ◌∷◌, set, refl, sym, ◌∙◌, arith}
use Rattle.std.specs.Prelude.{IsTrue, if◌then◌else◌}
use Rattle.register_calls.proofs.Common.{cases_lt, Register, RegisterEvent, ReadEnds, Class, Safe, Regular, AtomicByReader, Atomic, OpenRead, ReaderState, FoundWrites, IsValue, has_read_open}
use Rattle.register_calls.proofs.Common.{HasClass, IsRaised, still}
use Rattle.register_calls.specs.declared.faults.RegisterFault.{RegisterFault}
use Rattle.register_calls.specs.Audits.{FindsWrites, KeepsHistory, KeepsRead, RefusesRegisterEvent, RefusesRemembered, reader_at}
use Rattle.register_calls.proofs.Readers.{moves_set, open_within}
use Rattle.register_calls.proofs.Hearing.{read_ends_as}
use Rattle.register_calls.proofs.ReadLemmas.{few_started}

-- the flag that is kept for a class
abbrev pub flag_of : Class → (safe regular each all : Bool) → Bool
flag_of Safe safe regular each all = safe
flag_of Regular safe regular each all = regular
flag_of AtomicByReader safe regular each all = each
flag_of Atomic safe regular each all = all

module _ (r : Register) (h : List RegisterEvent) (kept : List ℕ) (base begun : ℕ) (writing : Bool) (readers : List ReaderState) (floor : ℕ) (safe regular each all : Bool) where
  pub class_told : (c : Class) → KeepsHistory r h kept base begun writing readers floor safe regular each all → IsTrue (flag_of c safe regular each all) ↔ HasClass c r h
  class_told c h1 = grind arith

raised_to : (floor : ℕ) (o : Option ℕ) → (top : ℕ) × IsRaised floor o top
raised_to floor None = (floor, refl)
raised_to floor (Some n) = elim (cases_lt floor n) [
  | inl lt ↦ (n, record { left = omega arith; right = omega arith; least = λ m p q. q })
  | inr ge ↦ (floor, record { left = omega arith; right = omega arith; least = λ m p q. p })
]

module _ (r : Register) (h : List RegisterEvent) (kept : List ℕ) (base begun : ℕ) (writing : Bool) (readers : List ReaderState) (floor : ℕ) (safe regular each all : Bool) where
  module _ (i v : ℕ) (found : FoundWrites) (now : Bool) (at : (reader_at readers i).reading ≡ Some found.read) (finds : FindsWrites kept base begun v found)
      (is : (now ≡ true) ↔ ((safe ≡ true) × IsValue r v × ((found.read.before < begun) ⊎ (still true found.of_any ≡ true))))
      (k : KeepsHistory r h kept base begun writing readers floor safe regular each all) where
    -- the read under way of a reader ends: which classes the history has with it
    pub has_with_read : (c : Class) → IsTrue (flag_of c now (still regular found.of_any) (still each found.of_own) (still all found.of_all)) ↔ HasClass c r (ReadEnds i v ∷ h)
    has_with_read c =
        let (own, own_raised) = raised_to (reader_at readers i).own found.of_own in
        let (top, raised) = raised_to floor found.of_all in
        let state : ReaderState = record { own = own; reading = None } in
        let ys = set readers i state in
        class_told r (ReadEnds i v ∷ h) kept base begun writing ys top now (still regular found.of_any) (still each found.of_own) (still all found.of_all) c
        (read_ends_as r h kept base begun writing readers floor safe regular each all ys i v top own found now (still regular found.of_any) (still each found.of_own) (still all found.of_all) at
        (moves_set readers readers i state (open_within readers i found.read at) (λ j. refl)) finds own_raised raised is refl refl refl k)

    -- the same for a flag and a class by any names
    pub has_with_as :
        (c d : Class) (b : Bool) → c ≡ d → b ≡ flag_of d now (still regular found.of_any) (still each found.of_own) (still all found.of_all) → IsTrue b ↔ HasClass c r (ReadEnds i v ∷ h)
    has_with_as c d b class flag = grind (arith, has_with_read)

    keeps_this : (c : Class) →
        IsTrue (if flag_of c safe regular each all then flag_of c now (still regular found.of_any) (still each found.of_own) (still all found.of_all) else true) ↔
        (HasClass c r h → HasClass c r (ReadEnds i v ∷ h))
    keeps_this c = grind (arith, class_told, has_with_read)

    -- it keeps each class, if it keeps the four
    pub keeps_with_read :
        (a b c d x y result : Bool) → a ≡ (if safe then now else true) → b ≡ (if regular then still regular found.of_any else true) →
        c ≡ (if each then still each found.of_own else true) → d ≡ (if all then still all found.of_all else true) →
        IsTrue x ↔ (IsTrue a × IsTrue b) → IsTrue y ↔ (IsTrue c × IsTrue d) → IsTrue result ↔ (IsTrue x × IsTrue y) →
        IsTrue result ↔ ((c : Class) → HasClass c r h → HasClass c r (ReadEnds i v ∷ h))
    keeps_with_read a b c d x y result a_is b_is c_is d_is x_is y_is is_both = (there, back)
      where
        there : IsTrue result → (c : Class) → HasClass c r h → HasClass c r (ReadEnds i v ∷ h)
        there e Safe = (keeps_this Safe).0 (sym a_is ∙ (x_is.0 (is_both.0 e).0).0)
        there e Regular = (keeps_this Regular).0 (sym b_is ∙ (x_is.0 (is_both.0 e).0).1)
        there e AtomicByReader = (keeps_this AtomicByReader).0 (sym c_is ∙ (y_is.0 (is_both.0 e).1).0)
        there e Atomic = (keeps_this Atomic).0 (sym d_is ∙ (y_is.0 (is_both.0 e).1).1)

        back : ((c : Class) → HasClass c r h → HasClass c r (ReadEnds i v ∷ h)) → IsTrue result
        back keeps = is_both.1 (
          x_is.1 (a_is ∙ (keeps_this Safe).1 (keeps Safe), b_is ∙ (keeps_this Regular).1 (keeps Regular)),
          y_is.1 (c_is ∙ (keeps_this AtomicByReader).1 (keeps AtomicByReader), d_is ∙ (keeps_this Atomic).1 (keeps Atomic)),
        )

-- what contradicts an event that an auditor refuses contradicts it in a witness
pub refused_is :
    (fault : RegisterFault) (writes readers most : ℕ) (r : Register) (h : List RegisterEvent) (e : RegisterEvent) → RefusesRegisterEvent writes readers most fault r h e →
    RefusesRemembered most fault r h e
refused_is fault writes readers most r h e h1 = grind (arith, few_started)

-- a reader that has no read under way is out of turn
pub none_open : (i : ℕ) (h : List RegisterEvent) (o : Option OpenRead) → o ≡ None → KeepsRead i h o → has_read_open i h ≡ true → ⊥
none_open i h o none keeps turn = grind arith
