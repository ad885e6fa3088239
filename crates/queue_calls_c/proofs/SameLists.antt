-- A hearing with its lists in slots has heard the same as one whose lists are the contents of these.
use Rattle.std.proofs.Common.{Bool, List, refl}
use Rattle.queue_calls.specs.Hearings.{FollowsLines, hearing_of}
use Rattle.queue_calls.specs.Recordings.{Line}
use Rattle.lists.specs.Rings.{ring_items}
use Rattle.call_causes.specs.declared.entries.Offered.{Offered}
use Rattle.call_causes.specs.declared.entries.Taken.{Taken}
use Rattle.queue_calls.proofs.Hears.{still_remembers}
use Rattle.queue_calls.specs.declared.hearings.HearingState.{HearingState}
use Rattle.lists.specs.declared.slots.Slots.{Slots}

module _ {S N B : Type 0} (state : HearingState) (o : Slots Offered) (t : Slots Taken) (is_cut : Bool) (lines : List Line) where
  pub in_slots :
      FollowsLines {S = Unit} {N = Unit} {B = Unit} (λ x. x) (λ x. x) (hearing_of state (ring_items o) (ring_items t)) is_cut lines →
      FollowsLines {S = S} {N = N} {B = B} ring_items ring_items (hearing_of state o t) is_cut lines
  in_slots (are, (first, further, parts, begun, (r, tallied)), none) =
      (are, (first, further, parts, begun, (still_remembers r ring_items ring_items _ refl refl refl refl refl refl refl refl refl refl, tallied)), none)
