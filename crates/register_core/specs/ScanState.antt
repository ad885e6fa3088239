-- Scans of a unary register, what the machine of one remembers, and the reads that it has made.
use Rattle.std.specs.Prelude.{◌≡◌, ℕ, suc, ◌<◌, Bool, true, false, Option, Some, None, List, [], ◌∷◌, ◌++◌, length, if◌then◌else◌}
use Rattle.bits_core.specs.declared.events.Side.{Side}
use Rattle.bits_core.specs.declared.events.Bit.{Bit}
use Rattle.bits_core.specs.declared.events.Access.{Access}
use Rattle.bits_core.specs.declared.events.Access.TheVariants as begins
use Rattle.bits_core.specs.Made.{Made, answered, IsPrefix}
pub use Rattle.register_core.specs.Phrases.{zero_reads, scan_phrase, row_read_by}

-- the reader's side, the modulus, how many bits were read as 0, and whether one was read as 1
pub record ScanState : Type 0 where
  pub side : Side
  pub modulus : ℕ
  pub zeros : ℕ
  pub found : Bool

-- a scan that has not begun
abbrev pub new_scan : Side → ℕ → ScanState
new_scan side modulus = record { side = side; modulus = modulus; zeros = 0; found = false }

-- the reads that were made
abbrev pub reads_made : ScanState → List Made
reads_made s = (if s.found then scan_phrase (row_read_by s.side) s.zeros else zero_reads (row_read_by s.side) s.zeros)

-- the machine stands after these accesses
pub record ScanStands (s : ScanState) (made : List Made) : Type 0 where
  pub below : s.zeros < s.modulus
  pub made_is : made ≡ reads_made s

-- the read that is due
abbrev pub due_scan : ScanState → Option Access
due_scan s = (if s.found then None else Some (begins.Read (row_read_by s.side s.zeros)))

-- the last bit of the row is due
abbrev pub LastIsDue : ScanState → Type 0
LastIsDue s = (s.found ≡ false) × (suc s.zeros ≡ s.modulus)

-- the scan after the due bit was read with this answer
abbrev pub scan_read : ScanState → Bool → ScanState
scan_read s answer = (if answer then record s { found = true } else record s { zeros = suc s.zeros })

-- the accesses are a scan of the row that returns this value
abbrev pub IsScanOf : (ℕ → Bit) → ℕ → List Made → ℕ → Type 0
IsScanOf row modulus made c = (c < modulus) × (made ≡ scan_phrase row c)

-- a scan of the row begins with the accesses
abbrev pub BeginsScan : (ℕ → Bit) → ℕ → List Made → Type 0
BeginsScan row modulus made = (c : ℕ) × (c < modulus) × IsPrefix made (scan_phrase row c)

-- Once these accesses of a scan were made, this one is next, and a scan continues whatever it returns, except for a 0
-- of the last bit; there is none if they are a whole scan.
abbrev pub IsNextScan : (ℕ → Bit) → ℕ → List Made → Option Access → Type 0
IsNextScan row modulus made None = (c : ℕ) × IsScanOf row modulus made c
IsNextScan row modulus made (Some access) = (answer : Bool) → (suc (length made) ≡ modulus → answer ≡ true) → BeginsScan row modulus (made ++ answered access answer ∷ [])

-- the value once the scan is over, none while every bit was read as 0
abbrev pub IsValueRead : (ℕ → Bit) → ℕ → List Made → Option ℕ → Type 0
IsValueRead row modulus made None = (n : ℕ) × (n < modulus) × (made ≡ zero_reads row n)
IsValueRead row modulus made (Some c) = IsScanOf row modulus made c
