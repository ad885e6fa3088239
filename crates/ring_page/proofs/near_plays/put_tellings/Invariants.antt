use Rattle.std.proofs.Common.{◌≡◌, length, map, take}
use Rattle.ring_page.specs.NearPlay.{said_by, said_in}
use Rattle.ring_page.proofs.near_plays.put_tellings.Given as goal

-- this many are written
abbrev pub invariant-loop-i : goal.invariant-loop-i
invariant-loop-i l = record { put : map said_in (take l.i l.tellings) ≡ map said_by (take l.i l.calls); room : length l.tellings ≡ length l.fn.tellings }
