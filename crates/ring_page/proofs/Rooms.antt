-- Why the page has no room.
use Rattle.std.proofs.Common.{◌≡◌, ◌⊎◌, ℕ, ◌<◌, List, Option, Some, inl, inr, length, subst}
use Rattle.near_misses.specs.declared.misses.NearMiss.{NearMiss}
use Rattle.ring_script.specs.Schedule.{run_count}
use Rattle.ring_script.specs.Script.{HeldFields}
use Rattle.ring_script.specs.declared.faults.ScriptFault.{ScriptFault}
use Rattle.ring_script.specs.declared.faults.ScriptFault.TheVariants.{OutOfMemory}
use Rattle.ring_page.specs.NearPlay.{TellsNearPlay}
use Rattle.ring_page.specs.Play.{HasNoRoom, TellsPlay}
use Rattle.ring_page.specs.declared.marks.Mark.{Mark}
use Rattle.ring_page.specs.declared.near_plays.NearPlayed.{NearPlayed}
use Rattle.ring_page.specs.declared.near_plays.Telling.{Telling}
use Rattle.ring_page.specs.declared.plays.Played.{Played}
use Rattle.ring_page.specs.declared.plays.TheConstants.{ANSWER_ROOM, RUN_ROOM}

-- the slices have as many slots as the page has room for
pub short_or_fault : (held : HeldFields) (letters : ℕ) (why : ScriptFault) (Fault : Type 0) (runs answers : ℕ) → runs ≡ RUN_ROOM → answers ≡ ANSWER_ROOM
    → ((why ≡ OutOfMemory) × ((runs < run_count held.schedule) ⊎ (answers < length held.oracle))) ⊎ Fault → ((why ≡ OutOfMemory) × HasNoRoom held letters) ⊎ Fault
short_or_fault held letters why Fault runs answers r a (inl (is, inl few)) = inl (is, inl (subst (λ (n : ℕ). n < run_count held.schedule) r few))
short_or_fault held letters why Fault runs answers r a (inl (is, inr few)) = inl (is, inr (inl (subst (λ (n : ℕ). n < length held.oracle) a few)))
short_or_fault held letters why Fault runs answers r a (inr fault) = inr fault

-- the values of the fields unchanged laid out
pub told_of_fields : (held asked : HeldFields) (letters : ℕ) (marks : List Mark) (put taken : List ℕ) (told : Played) → held ≡ asked → TellsPlay held letters marks put taken told
    → TellsPlay asked letters marks put taken told
told_of_fields held asked letters marks put taken told is tells = subst (λ (h : HeldFields). TellsPlay h letters marks put taken told) is tells

pub near_told_of_fields :
    (found : Option NearMiss) (miss : NearMiss) (held asked : HeldFields) (letters : ℕ) (marks : List Mark) (tellings : List Telling) (items : List ℕ) (told : NearPlayed) → Some miss ≡ found → held ≡ asked →
    TellsNearPlay (Some miss) held letters marks tellings items told → TellsNearPlay found asked letters marks tellings items told
near_told_of_fields found miss held asked letters marks tellings items told by is tells =
    subst (λ (m : Option NearMiss). TellsNearPlay m asked letters marks tellings items told) by (subst (λ (h : HeldFields). TellsNearPlay (Some miss) h letters marks tellings items told) is tells)
