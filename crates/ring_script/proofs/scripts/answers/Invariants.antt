use Rattle.std.proofs.Common.{◌≡◌, map, take}
use Rattle.std.specs.Prelude.{◌==◌}
use Rattle.ring_script.proofs.scripts.answers.Given as goal

-- the answers so far are those of the bytes so far
abbrev pub invariant-loop-b : goal.invariant-loop-b
invariant-loop-b g l = record { answers : g.S.Store.items l.answers ≡ map (λ b. b == 49) (take l.b-index l.text); room : g.S.Store.room l.answers ≡ g.S.Store.room l.fn.store }
