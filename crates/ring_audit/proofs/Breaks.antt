-- The first place up to and including which a history is not of the programs.
use Rattle.std.proofs.Common.{◌≡◌, ◌↔◌, ℕ, suc, ◌+◌, ◌<◌, Bool, IsTrue, List, [], ◌∷◌, ◌++◌, length, take, drop, get_or, refl, sym, ap, subst, ◌∙◌, arith, append_assoc}
use Rattle.std.proofs.lemmas.Option.{slice_get_within}
use Rattle.std.proofs.lemmas.List.{take-append-drop, take_more, take_at}
use Rattle.ring_audit.proofs.Common.{P, C, Event, Shape, IsLawful, Side, subhistory, IsPrefix, PutsStand, WerePut, TakesStand, WereTaken, Reading, ReadingStands, BothFollow}
use Rattle.bits_core.specs.declared.faults.Kind.{Kind}
use Rattle.bits_core.specs.declared.faults.Kind.TheVariants.{NotProgram}
use Rattle.bits_core.specs.Audit.{IsFirstFault}
use Rattle.ring_audit.specs.Audit.{IsOfPrograms, IsFound, IsFirstBreak, Statement, Lawful, Fault, IsFinding, tells_lawful}
use Rattle.bits_core.proofs.LawLemmas.{beginning_is_lawful, fault_breaks}
use Rattle.bits_core.proofs.OwnEvents.{subhistory-append}

pub of_programs : (shape : Shape) (h : List Event) → IsLawful shape h → BothFollow shape h → IsOfPrograms shape h
of_programs shape h lawful ((puts, are, events), (takes, are', events')) = grind arith

both_follow : (shape : Shape) (h : List Event) → IsOfPrograms shape h → BothFollow shape h
both_follow shape h (puts, takes, run) = grind arith

pub lawful_take : (shape : Shape) (h : List Event) (n : ℕ) → IsLawful shape h → IsLawful shape (take n h)
lawful_take shape h n lawful = beginning_is_lawful shape (take n h) (drop n h) (subst (IsLawful shape) (sym (take-append-drop n h)) lawful)

-- if the event after the first i is not of the programs
pub break_of_program :
    (of shape : Shape) (h : List Event) (i : ℕ) (d : Event) → of ≡ shape → i < length h → IsLawful shape (take i h) → IsLawful shape (take i h ++ get_or h i d ∷ []) →
    BothFollow of (take i h) → (BothFollow of (take i h ++ get_or h i d ∷ []) → ⊥) → IsFirstBreak shape h i NotProgram
break_of_program of shape h i d same within before with_it follow breaks =
    let one : suc i ≡ i + 1 = omega arith in
    let more : take (suc i) h ≡ take i h ++ get_or h i d ∷ [] = ap (λ k. take k h) one ∙ take_more h i d within in
    record {
      within = within;
      before = of_programs shape (take i h) before (subst (λ s. BothFollow s (take i h)) same follow);
      breaks = λ runs. breaks (subst (λ s. BothFollow s (take i h ++ get_or h i d ∷ [])) (sym same) (subst (BothFollow shape) more (both_follow shape (take (suc i) h) runs)));
      kind_is = subst (IsLawful shape) (sym more) with_it;
    }

-- if the bits are at fault first
pub break_of_bits :
    (shape : Shape) (h : List Event) (place : ℕ) (kind : Kind) → IsFirstFault shape h place kind → BothFollow shape (take place h) → IsFirstBreak shape h place kind
break_of_bits shape h place kind fault follow =
    grind (arith, slice_get_within h place fault.event fault.at_place, of_programs shape (take place h) (fault_breaks shape h place kind fault).0 follow)

-- ---- the finding

pub both_read :
    (shape : Shape) (r : Reading) (told : Bool) →
    ((es : List Event) (items stored : List ℕ) → PutsStand shape r.puts es items stored → WerePut shape es items) →
    ((es : List Event) (items : List ℕ) → TakesStand shape r.takes es items → WereTaken shape es items told) → (h : List Event) → ReadingStands shape r h → BothFollow shape h
both_read shape r told puts_so takes_so h st =
    let p = puts_so (subhistory P h) st.items st.stored st.puts_stand in
    let t = takes_so (subhistory C h) r.taken st.takes_stand in
    ((p.calls, p.are, p.events), (t.calls, t.are, t.events))

pub found :
    (shape : Shape) (r : Reading) (told : Bool) (put : List ℕ) →
    ((es : List Event) (items stored : List ℕ) → PutsStand shape r.puts es items stored → WerePut shape es items) →
    ((es : List Event) (items : List ℕ) → TakesStand shape r.takes es items → WereTaken shape es items told) → put ≡ take r.counted r.put →
    (h : List Event) → IsLawful shape h → ReadingStands shape r h → IsFound shape h put r.taken told
found shape r told put puts_so takes_so kept h lawful st =
    let p = puts_so (subhistory P h) st.items st.stored st.puts_stand in
    let t = takes_so (subhistory C h) r.taken st.takes_stand in
    grind (arith, take_at)

-- ---- exactly

pub begins_take : (s : Side) (h : List Event) (n : ℕ) (all : List Event) → IsPrefix (subhistory s h) all → IsPrefix (subhistory s (take n h)) all
begins_take s h n all (rest, e) = (
  subhistory s (drop n h) ++ rest,
  sym (append_assoc (subhistory s (take n h)) (subhistory s (drop n h)) rest) ∙ ap (λ l. l ++ rest) (sym (subhistory-append s (take n h) (drop n h)) ∙ ap (subhistory s) (take-append-drop n h)) ∙ e,
)

-- a prefix of a history of the programs is of the programs
pub programs_take : (shape : Shape) (h : List Event) (n : ℕ) → IsOfPrograms shape h → IsOfPrograms shape (take n h)
programs_take shape h n (puts, takes, run) = grind (arith, lawful_take, begins_take)

pub exact_finding : (shape : Shape) (h : List Event) (f : Statement) → IsFinding shape h f → IsTrue (tells_lawful f) ↔ IsOfPrograms shape h
exact_finding shape h (Lawful put taken told) found = (λ e. (found.puts, found.takes, found.run), λ runs. refl)
exact_finding shape h (Fault place kind) found = (λ e. absurd (cc), λ runs. absurd (found.breaks (programs_take shape h (suc place) runs)))
