-- What the next access of a machine implies, by cases of the call under way and of the access.
use Rattle.std.proofs.Common.{◌≡◌, ℕ, Bool, true, false, Option, Some, None, List, refl, sym, subst, arith}
use Rattle.ring_player.proofs.Common.{Access, Shape, Made, ConsumerState, is_taking, Call, call_of, ProducerState, Puts, put_program, Takes, take_program}
use Rattle.ring_core.specs.ConsumerCalls.{ConsumerStands, TakeGoesOn}
use Rattle.ring_core.specs.ProducerCalls.{ProducerStands, PutGoesOn}

abbrev pub IsNextPut : Shape → Puts → Option Call → List Made → Option Access → Type 0
IsNextPut shape calls None made None = made ≡ put_program shape calls
IsNextPut shape calls (Some c) made None = ⊥
IsNextPut shape calls None made (Some a) = ⊥
IsNextPut shape calls (Some c) made (Some a) = PutGoesOn shape calls c made a

abbrev pub NextPut : ProducerState → Option Access → Type 0
NextPut p due = (calls : Puts) (made : List Made) → ProducerStands p calls made → IsNextPut p.shape calls (call_of p) made due

pub put_next :
    (p : ProducerState) (due : Option Access) →
    ((calls : Puts) (made : List Made) → ProducerStands p calls made → due ≡ None → (call_of p ≡ None) × (made ≡ put_program p.shape calls)) →
    ((calls : Puts) (made : List Made) (a : Access) → ProducerStands p calls made → due ≡ Some a → (c : Call) × (call_of p ≡ Some c) × PutGoesOn p.shape calls c made a) →
    NextPut p due
put_next p None rest on calls made s = grind arith
put_next p (Some a) rest on calls made s =
    let (c, is, goes) = on calls made a s refl in
    subst (λ d. IsNextPut p.shape calls d made (Some a)) (sym is) goes

-- for a take of at most `wanted` items
abbrev pub IsNextTake : Shape → ℕ → Takes → Bool → List Made → Option Access → Type 0
IsNextTake shape wanted calls false made None = made ≡ take_program shape calls
IsNextTake shape wanted calls true made None = ⊥
IsNextTake shape wanted calls false made (Some a) = ⊥
IsNextTake shape wanted calls true made (Some a) = TakeGoesOn shape wanted calls made a

abbrev pub NextTake : ConsumerState → Option Access → Type 0
NextTake p due = (calls : Takes) (made : List Made) → ConsumerStands p calls made → IsNextTake p.shape p.wanted calls (is_taking p) made due

pub take_next :
    (p : ConsumerState) (due : Option Access) →
    ((calls : Takes) (made : List Made) → ConsumerStands p calls made → due ≡ None → (is_taking p ≡ false) × (made ≡ take_program p.shape calls)) →
    ((calls : Takes) (made : List Made) (a : Access) → ConsumerStands p calls made → due ≡ Some a → (is_taking p ≡ true) × TakeGoesOn p.shape p.wanted calls made a) →
    NextTake p due
take_next p None rest on calls made s = grind arith
take_next p (Some a) rest on calls made s =
    let (is, goes) = on calls made a s refl in
    subst (λ t. IsNextTake p.shape p.wanted calls t made (Some a)) (sym is) goes
