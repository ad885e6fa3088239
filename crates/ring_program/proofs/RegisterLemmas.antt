-- The finding on a recorded register that is read in pieces.
use Rattle.std.proofs.Common.{◌≡◌, Bool, true, false, List, ℕ, [], ◌++◌, append_assoc, refl, sym, arith}
use Rattle.std.proofs.lemmas.List.{append-nil}
use Rattle.register_calls.specs.declared.events.Class.{Class}
use Rattle.register_recordings.specs.Recordings.{KeepsClass, falls_short}
use Rattle.register_recordings.specs.declared.findings.RegisterFinding.{RegisterFinding}
use Rattle.ring_program.specs.Readings.{EndsAtFirst, HoldsOfLines}
use Rattle.ring_program.specs.Registers.{IsRegisterFoundBy, IsRegisterFoundIn, IsShortAhead}
use Rattle.ring_program.proofs.FirstFaults.{holding_ends}

pub short_ahead :
    (class : Class) (bytes ended rest whole later : List ℕ) (is_cut : Bool) (found : RegisterFinding) → bytes ≡ ended ++ rest → bytes ++ later ≡ whole → IsRegisterFoundIn ended is_cut found →
    falls_short class found ≡ true → EndsAtFirst (KeepsClass class) ended → IsShortAhead class whole is_cut found
short_ahead class bytes ended rest whole later is_cut found parts is found_in short first = grind (arith, append_assoc)

pub register_at_end :
    (stop : Bool) (class : Class) (bytes : List ℕ) (is_cut : Bool) (found : RegisterFinding) → (stop ≡ true → HoldsOfLines (KeepsClass class) bytes) → IsRegisterFoundIn bytes is_cut found →
    IsRegisterFoundBy stop class bytes is_cut found
register_at_end false class bytes is_cut found keeps is = is
register_at_end true class bytes is_cut found keeps is = (bytes, [], sym (append-nil bytes), is, (λ over. refl), (λ short. holding_ends (KeepsClass class) bytes (keeps refl)))

pub register_at_fault :
    (stop : Bool) (class : Class) (bytes : List ℕ) (is_cut : Bool) (found : RegisterFinding) → stop ≡ true → IsShortAhead class bytes is_cut found → IsRegisterFoundBy stop class bytes is_cut found
register_at_fault false class bytes is_cut found is ahead = cc
register_at_fault true class bytes is_cut found is (front, rest, parts, found_in, short, first) = grind arith
