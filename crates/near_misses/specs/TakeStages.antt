-- How many items a take of a near miss has read, by how far it has come.
use Rattle.std.specs.Prelude.{◌≡◌, ℕ, ◌<◌, ◌≤◌, Bool, true, false}
use Rattle.near_misses.specs.declared.taking.Stage.{Stage}
use Rattle.near_misses.specs.declared.taking.Stage.TheVariants.{Scanning, Looking, ScanningAgain, Reading, Counting}

-- the stages before a take has seen items
abbrev pub is_looking : Stage → Bool
is_looking (Scanning zeros) = true
is_looking Looking = true
is_looking (ScanningAgain zeros) = true
is_looking _ = false

-- the stages while it reads them
abbrev pub is_reading : Stage → Bool
is_reading (Reading digit) = true
is_reading _ = false

-- and while it writes its count
abbrev pub is_counting : Stage → Bool
is_counting Counting = true
is_counting _ = false

-- a take asks for some items, has read none before it has seen some, reads no more than it asks for, and counts at least one
abbrev pub IsTakeWithin : Stage → (whole most wanted : ℕ) → Type 0
IsTakeWithin stage whole most wanted =
    (is_looking stage ≡ true → (whole ≡ 0) × (1 ≤ wanted)) × (is_reading stage ≡ true → (whole < most) × (most ≤ wanted)) × (is_counting stage ≡ true → (1 ≤ whole) × (whole ≤ wanted))
