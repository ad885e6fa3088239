use Rattle.std.proofs.Common.{length, ◌-◌, ◌≡◌, ◌≤◌, List, ◌++◌, None, false, take}
use Rattle.queue_calls.specs.Hearings.{FollowsLines}
use Rattle.queue_calls.specs.Recordings as recordings
use Rattle.lists.specs.Rings.{ring_items}
use Rattle.queue_calls_c.specs.Heard.{TellLines, offered_room, taken_room}
use Rattle.queue_calls_c.proofs.hearings.hear_lines.Given as goal

-- this many lines were heard after those before
abbrev pub invariant-loop-heard : goal.invariant-loop-heard
invariant-loop-heard l =
    (l.heard ≤ length l.lines) × (offered_room l.hearing ≡ offered_room l.initial.hearing) × (taken_room l.hearing ≡ taken_room l.initial.hearing) × (l.hearing.witness.limit ≡ l.initial.hearing.witness.limit) ×
    ((earlier : List recordings.Line) → FollowsLines ring_items ring_items l.initial.hearing false earlier → l.before ≡ length earlier →
    (heard : List recordings.Line) × TellLines (take l.heard l.lines) l.numbers heard l.rest × FollowsLines ring_items ring_items l.hearing false (earlier ++ heard) × (l.number ≡ length (earlier ++ heard)))
    × (l.initial.hearing.fault ≡ None → l.hearing.fault ≡ None)

abbrev pub decreases-loop-heard : goal.decreases-loop-heard
decreases-loop-heard l = length l.lines - l.heard
