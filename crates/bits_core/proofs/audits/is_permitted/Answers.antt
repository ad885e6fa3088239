use Rattle.std.proofs.Common.{◌≡◌, Bool, true, false, Some, None, List, refl, sym, subst, inl, inr, ◌∙◌, rules}
use Rattle.std.specs.Prelude.{◌↔◌, ◌⊎◌, IsTrue, if◌then◌else◌}
use mathlib.Core.Bool.{beq}
use Rattle.bits_core.proofs.Common.{Act, ReadBegin, ReadEnd, WriteBegin, WriteEnd, Bit, Event, Side, held_at_begin, is_overlapped, open_access, settled, FitsOpen, IsAnswer, IsPermittedAct}
use Rattle.bits_core.proofs.audits.is_permitted.Goals as goal

same_bools : (v w : Bool) → IsTrue (beq v w) ↔ (v ≡ w)
same_bools true true = (λ _. refl, λ _. refl)
same_bools true false = (λ is. cc, λ is. cc)
same_bools false true = (λ is. cc, λ is. cc)
same_bools false false = (λ _. refl, λ _. refl)

decided : (past : List Event) (s : Side) (b : Bit) (v held : Bool) → Some held ≡ settled s b past → IsTrue (beq v held) ↔ IsAnswer past s b v
decided past s b v held is = elim (is_overlapped s b past) as (λ t. Some held ≡ (if t then None else Some (held_at_begin s b past)) → IsTrue (beq v held) ↔ ((t ≡ true) ⊎ (v ≡ held_at_begin s b past))) [
  | true ↦ λ e. cc
  | false ↦ λ e.
      let same : held ≡ held_at_begin s b past = cc in (
        λ t. inr ((same_bools v held).0 t ∙ same),
        λ answer. elim answer [ inl over ↦ cc | inr there ↦ (same_bools v held).1 (there ∙ sym same) ],
      )
] is

permitted : (past : List Event) (s : Side) (b : Bit) (act : Act) → ((v : Bool) → act ≡ ReadEnd v → ⊥) → IsPermittedAct past s b act
permitted past s b ReadBegin none = tt
permitted past s b (WriteBegin v) none = tt
permitted past s b (ReadEnd v) none = absurd (none v refl)
permitted past s b WriteEnd none = tt

-- the search finds these goals without these two lines too; with them a mutant is refused at once
pub returns-in-None : goal.returns-in-None
returns-in-None c = search rules

pub returns-in-Some : goal.returns-in-Some
returns-in-Some c shape past marks turn =
    let e = c.args.event in
    let is = c.in-ReadEnd.is in
    let its_read = subst (λ act. FitsOpen e.bit act (open_access e.side past)) is turn in
    subst (λ act. IsTrue (beq c.in-ReadEnd.value c.in-Some.held) ↔ IsPermittedAct past e.side e.bit act) (sym is) (decided past e.side e.bit c.in-ReadEnd.value c.in-Some.held (c.in-Some.ensures shape past marks its_read))

pub returns-in_default : goal.returns-in_default
returns-in_default c shape past marks turn = (λ _. permitted past c.args.event.side c.args.event.bit c.args.event.act c.in_default.not-ReadEnd, λ _. refl)
