-- How many accesses a call has at most.
use Rattle.std.specs.Prelude.{ℕ, zero, suc, ◌+◌, ◌*◌, ◌≤◌, List, [], ◌∷◌, length}
use Rattle.bits_core.specs.declared.shapes.Shape.{Shape}
use Rattle.bits_core.specs.Shape.{modulus_of, width_of}
use Rattle.ring_core.specs.Counts.{Count, IsCount}
use Rattle.ring_core.specs.Puts.{Stored, Full, put_phrase, IsPut}
use Rattle.ring_core.specs.Takes.{Take, Closed, take_phrase, end_phrase, IsTake, SeesNone}
use Rattle.ring_core.specs.Items.{taken_of}

-- the most accesses of a put: a scan, a word write and two writes of the count
abbrev pub longest_put : Shape → ℕ
longest_put shape = modulus_of shape + width_of shape + 2

-- the most accesses of a take: two scans, a read of the close bit, a word read and two writes of the count
abbrev pub longest_take : Shape → ℕ
longest_take shape = 2 * modulus_of shape + width_of shape + 3

-- the most accesses of a put of m items: a scan, m word writes, and a write of the count
abbrev pub longest_batch : Shape → ℕ → ℕ
longest_batch shape m = 2 * modulus_of shape + m * width_of shape

-- the most accesses of a take of m items, if these are several: two scans, a read of the close bit, m word reads, and a write of
-- the count
abbrev pub longest_taking : Shape → ℕ → ℕ
longest_taking shape zero = longest_take shape
longest_taking shape (suc zero) = longest_take shape
longest_taking shape (suc (suc m)) = 3 * modulus_of shape + suc (suc m) * width_of shape + 1

-- a put of one item has at most `longest_put` accesses
abbrev pub ItemPutsAreShort : Type 0
ItemPutsAreShort =
    (shape : Shape) (c : Count) (seen item : ℕ) → IsCount shape c → IsPut shape c.number (Stored seen (item ∷ [])) →
    length (put_phrase shape c (Stored seen (item ∷ []))) ≤ longest_put shape

-- and one that found the ring full has no more either
abbrev pub FullPutsAreShort : Type 0
FullPutsAreShort = (shape : Shape) (c : Count) (seen : ℕ) → IsPut shape c.number (Full seen) → length (put_phrase shape c (Full seen)) ≤ longest_put shape

-- any put of m items has at most `longest_batch` accesses
abbrev pub PutsAreShort : Type 0
PutsAreShort =
    (shape : Shape) (c : Count) (seen : ℕ) (items : List ℕ) → IsCount shape c → IsPut shape c.number (Stored seen items) →
    length (put_phrase shape c (Stored seen items)) ≤ longest_batch shape (length items)

-- a take has at most `longest_take` accesses, and one of several items at most `longest_taking`
abbrev pub TakesAreShort : Type 0
TakesAreShort =
    (shape : Shape) (c : Count) (x : Take) → IsCount shape c → IsTake shape c.number x →
    length (take_phrase shape c x) ≤ longest_taking shape (length (taken_of x))

-- and so does the take that returns Closed
abbrev pub EndsAreShort : Type 0
EndsAreShort =
    (shape : Shape) (k seen again : ℕ) → SeesNone shape k seen → SeesNone shape k again →
    length (end_phrase (Closed seen again)) ≤ longest_take shape
