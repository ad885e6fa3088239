-- Operations of a history by their places, and the values that a register holds between them.
use Rattle.std.proofs.Common.{rules, ◌≡◌, ◌⊎◌, inl, inr, ℕ, zero, suc, ◌≤◌, ◌<◌, Some, List, [], ◌∷◌, length, sym, subst, ◌∙◌, arith}
use Rattle.register_calls.proofs.Common.{none-some, Register, RegisterEvent, WriteBegins, WriteEnds, ReadBegins, ReadEnds, started, finished, ComesInTurn, IsWellFormed, placed_event, IsWriteFrom}
use Rattle.register_calls.proofs.Common.{WriteHasEnded, MayBeOf}
use Rattle.register_calls.specs.Linearizations.{RegisterOperation, AWrite, ARead, IsOperationOf}
use Rattle.register_calls.proofs.ByIntervals.{ends_more}
use Rattle.register_calls.proofs.Places.{placed_event-here, placed_event-before, placed_event-within, placed_event-cases}
use Rattle.register_calls.proofs.Beginnings.{read_still}

-- the place that identifies an operation, and the event there: where a write begins, and where a read ends
abbrev pub place_of : RegisterOperation → ℕ
place_of (AWrite w v) = w
place_of (ARead i start stop v) = stop

abbrev pub event_of : RegisterOperation → RegisterEvent
event_of (AWrite w v) = WriteBegins v
event_of (ARead i start stop v) = ReadEnds i v

pub at_place : (h : List RegisterEvent) (o : RegisterOperation) → IsOperationOf h o → placed_event h (place_of o) ≡ Some (event_of o)
at_place h o h1 = grind arith

pub place_within : (h : List RegisterEvent) (o : RegisterOperation) → IsOperationOf h o → place_of o < length h
place_within h o is = placed_event-within h (place_of o) (event_of o) (at_place h o is)

-- there is one operation at a place
pub one_operation : (h : List RegisterEvent) (a b : RegisterOperation) → IsOperationOf h a → IsOperationOf h b → place_of a ≡ place_of b → a ≡ b
one_operation h a b h1 h2 h3 = grind arith

-- an operation of a history is one of the history with one more event, which has no other one except at that event
pub operation_still : (e : RegisterEvent) (b : List RegisterEvent) (o : RegisterOperation) → IsOperationOf b o → IsOperationOf (e ∷ b) o
operation_still e b o h1 = grind (arith, placed_event-before, placed_event-within, read_still)

pub operation_cases : (e : RegisterEvent) (b : List RegisterEvent) (o : RegisterOperation) → IsOperationOf (e ∷ b) o → ((place_of o ≡ length b) × (e ≡ event_of o)) ⊎ IsOperationOf b o
operation_cases e b o is = search (rules, at_place, placed_event-cases)

-- each write has ended when the next one begins
ended_on : (h : List RegisterEvent) (w place later : ℕ) → place ≤ later → WriteHasEnded h w place → WriteHasEnded h w later
ended_on h w place later le (q, after, before, is) = (q, after, omega arith, is)

all_ended : (r : Register) (h : List RegisterEvent) (w v : ℕ) → IsWellFormed r h → started h ≡ finished h → IsWriteFrom h v w → WriteHasEnded h w (length h)
all_ended r [] w v formed idle is = absurd (none-some (WriteBegins v) is)
all_ended r (WriteBegins u ∷ b) w v formed idle is = let k = formed.2 in absurd (omega arith)
all_ended r (WriteEnds ∷ b) w v formed idle is = grind (arith, (placed_event-cases WriteEnds b w (WriteBegins v) is), (placed_event-here WriteEnds b))
all_ended r (ReadBegins i ∷ b) w v formed idle is = elim (placed_event-cases (ReadBegins i) b w (WriteBegins v) is) [
  | inl here ↦ (let k = here.1 in absurd cc)
  | inr early ↦ ended_on (ReadBegins i ∷ b) w (length b) (suc (length b)) (omega arith) (ends_more (ReadBegins i) b w (length b) (omega arith) (all_ended r b w v formed.0 idle early.1))
]
all_ended r (ReadEnds i u ∷ b) w v formed idle is = elim (placed_event-cases (ReadEnds i u) b w (WriteBegins v) is) [
  | inl here ↦ (let k = here.1 in absurd cc)
  | inr early ↦ ended_on (ReadEnds i u ∷ b) w (length b) (suc (length b)) (omega arith) (ends_more (ReadEnds i u) b w (length b) (omega arith) (all_ended r b w v formed.0 idle early.1))
]

pub ended_next : (r : Register) (h : List RegisterEvent) (w v x u : ℕ) → IsWellFormed r h → IsWriteFrom h v w → IsWriteFrom h u x → w < x → WriteHasEnded h w x
ended_next r [] w v x u formed is that less = absurd (none-some (WriteBegins v) is)
ended_next r (e ∷ b) w v x u formed is that less = elim (placed_event-cases e b x (WriteBegins u) that) [
  | inl here ↦
      let place = here.0 in
      let idle : started b ≡ finished b = subst (λ (f : RegisterEvent). ComesInTurn b f) here.1 formed.2 in
      ended_on (e ∷ b) w (length b) x (omega arith) (ends_more e b w (length b) (omega arith) (all_ended r b w v formed.0 idle (sym (placed_event-before e b w (omega arith)) ∙ is)))
  | inr early ↦
      let place = early.0 in
      ends_more e b w x (omega arith) (ended_next r b w v x u formed.0 (sym (placed_event-before e b w (omega arith)) ∙ is) early.1 less)
]

-- what a register holds: for 0 the first value, and for suc of a place the value of the write that begins there
abbrev pub Holds : (first : ℕ) → List RegisterEvent → (number held : ℕ) → Type 0
Holds first h zero held = held ≡ first
Holds first h (suc w) held = IsWriteFrom h held w

-- what it means that a read may be of a write
module _ (first : ℕ) (h : List RegisterEvent) (start stop v : ℕ) where
  pub may_early : (k : ℕ) → MayBeOf first h start stop v k → k ≤ stop
  may_early k h1 = grind arith

  pub may_after : (k w u : ℕ) → MayBeOf first h start stop v k → IsWriteFrom h u w → WriteHasEnded h w start → w < k
  may_after k w u h1 h2 h3 = grind arith

  pub may_write : (k : ℕ) → MayBeOf first h start stop v k → (k ≡ 0) ⊎ ((w : ℕ) × (k ≡ suc w) × IsWriteFrom h v w)
  may_write k h1 = grind arith

  pub may_held : (k held : ℕ) → MayBeOf first h start stop v k → Holds first h k held → v ≡ held
  may_held k held h1 h2 = grind arith

  pub may_be : (k : ℕ) → Holds first h k v → k ≤ stop → ((w u : ℕ) → IsWriteFrom h u w → WriteHasEnded h w start → w < k) → MayBeOf first h start stop v k
  may_be k h1 h2 h3 = grind arith
