-- Why an event may not follow.
use Rattle.std.proofs.Common.{◌≡◌, ◌∙◌, ℕ, Bool, false, Option, Some, List, sym, ap, MatchOption, take, arith}
use Rattle.std.specs.Prelude.{option_and_then}
use Rattle.std.specs.List.{list_any}
use Rattle.bits_core.proofs.Common.{none-some, Side, Bit, Act, Access, Read, Event, begun_by, has_event, held_at_begin, open_access, IsLastPlace, settled, FitsOpen}
use Rattle.bits_core.proofs.Common.{IsPermittedAct}
use Rattle.bits_core.specs.Reasons.{IsHeldSince, IsLastWritten, ends_write}
use Rattle.bits_core.proofs.Histories.{before_last-place, last_event-none}

-- a side with no event has no access open
pub none_open : (s : Side) (h : List Event) (access : Access) → has_event s h ≡ false → open_access s h ≡ Some access → ⊥
none_open s h access none still = none-some access (sym (ap (option_and_then begun_by) (last_event-none s h none)) ∙ still)

-- an event in turn that is not permitted ends a read that is open
pub ends_read : (past : List Event) (s : Side) (b : Bit) (a : Act) → FitsOpen b a (open_access s past) → ¬ IsPermittedAct past s b a → open_access s past ≡ Some (Read b)
ends_read past s b a fits not_so = grind arith

pub settled_value : (s : Side) (b : Bit) (past : List Event) (v : Bool) → Some v ≡ settled s b past → v ≡ held_at_begin s b past
settled_value s b past v is = grind arith

pub held_there : (s : Side) (b : Bit) (past : List Event) (begun : ℕ) (v : Bool) (since : Option ℕ) → IsLastPlace s past begun → v ≡ held_at_begin s b past
    → MatchOption since (list_any (ends_write b) (take begun past) ≡ false) (IsLastWritten b (take begun past)) → IsHeldSince b (take begun past) v since
held_there s b past begun v since last is written = grind (arith, before_last-place)
