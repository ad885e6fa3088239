-- What is seen at the events of a lawful history.
use Rattle.std.specs.Prelude.{◌≡◌, ℕ, ◌<◌, ◌≤◌, ◌∷◌, ◌++◌, [], Bool, false, Option, Some, List, length, take, slice_get}
use Rattle.bits_core.specs.declared.events.Side.TheVariants.{P, C}
use Rattle.bits_core.specs.declared.events.Access.{Access}
use Rattle.bits_core.specs.declared.events.Access.TheVariants.{Read, Write}
use Rattle.bits_core.specs.declared.events.Event.{Event}
use Rattle.bits_core.specs.declared.audits.Seen.{Seen}
use Rattle.bits_core.specs.declared.audits.Verdict.{Verdict}
use Rattle.bits_core.specs.declared.audits.Verdict.TheVariants.{Lawful, Fault}
use Rattle.bits_core.specs.Bits.{same_bit}
use Rattle.bits_core.specs.History.{open_access, held}
use Rattle.bits_core.specs.Memory.{is_flicker}

-- whether the two accesses are a read and a write of one bit
abbrev pub is_clash : Option Access → Option Access → Bool
is_clash (Some (Read b)) (Some (Write c v)) = same_bit b c
is_clash (Some (Write c v)) (Some (Read b)) = same_bit b c
is_clash _ _ = false

-- whether one side has a read open, and the other a write of the same bit
abbrev pub clashes : List Event → Bool
clashes h = is_clash (open_access P h) (open_access C h)

-- this is seen at the event, given the events before it
pub record IsSeen (past : List Event) (e : Event) (seen : Seen) : Type 0 where
  pub held_is : seen.held ≡ held e.bit (past ++ e ∷ [])
  pub overlapped_is : seen.overlapped ≡ is_flicker past e
  pub clashes_is : seen.clashes ≡ clashes (past ++ e ∷ [])

-- how many events come before the one at fault, or in all if none is
abbrev pub sound_count : List Event → Verdict → ℕ
sound_count h Lawful = length h
sound_count h (Fault place kind) = place

-- This is seen at each of the first n events for which there is room. The rest of the room is as before.
pub record AreSeen (h : List Event) (n : ℕ) (old new : List Seen) : Type 0 where
  pub room : length new ≡ length old
  pub seen : (place : ℕ) (e : Event) (x : Seen) → place < n → slice_get h place ≡ Some e → slice_get new place ≡ Some x → IsSeen (take place h) e x
  pub rest : (place : ℕ) → n ≤ place → slice_get new place ≡ slice_get old place
