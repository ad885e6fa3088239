-- The scan of a take, the first or the second.
use Rattle.std.proofs.Common.{◌≡◌, ◌⊎◌, ⊎_elim, ℕ, ◌≤◌, Bool, false, true, Option, Some, List, [], ap, arith}
use Rattle.ring_core.proofs.Common.{C, Access, modulus_of, Made, ReaderState, ReaderStands, LastBitIsDue, EndsInZeros, IsScanning, ShowsItem, distance, Takes, ConsumerState, IsConsumer, IsTaking}
use Rattle.ring_core.proofs.Common.{due_take, consumer_due_at, is_taking, ConsumerStands, ConsumerMoves}
use Rattle.register_core.specs.ScanState.{ScanState, ScanStands, LastIsDue, IsScanOf, IsValueRead, row_read_by, scan_read, due_scan}
use Rattle.ring_core.specs.declared.consumers.Stage.TheVariants.{Scanning, Rescanning, Loading}
use Rattle.ring_core.proofs.Machines.MachineParts.{ScanGoesOn, gives}
use Rattle.ring_core.proofs.Machines.NextParts.{scan_reads}
use Rattle.ring_core.proofs.Machines.ConsumerInvariant.{at_stage, scan_keeps, still_scans}
use Rattle.ring_core.proofs.Machines.ConsumerMoves.{made_at, scan_on, rescan_on, scan_item, rescan_item}
use Rattle.ring_core.proofs.Machines.ConsumerNext.{Going, next_scan, next_rescan, rescan_zeros}

abbrev pub IsAtScan : ConsumerState → Type 0
IsAtScan p = (p.stage ≡ Scanning) ⊎ (p.stage ≡ Rescanning)

pub scans_there : (p : ConsumerState) → IsAtScan p → IsConsumer p → IsScanning C (modulus_of p.shape) p.scan
scans_there p at is = ⊎_elim (λ e. (at_stage p Scanning is e).3) (λ e. (at_stage p Rescanning is e).3) at

-- the scan's read is due
pub due_there : (p : ConsumerState) → IsAtScan p → due_take p ≡ due_scan p.scan
due_there p at = ⊎_elim (λ e. ap (λ st. consumer_due_at st p) e) (λ e. ap (λ st. consumer_due_at st p) e) at

pub taking_there : (p : ConsumerState) → IsAtScan p → IsConsumer p → IsTaking p
taking_there p at is = ⊎_elim (λ e. (at_stage p Scanning is e).1) (λ e. (at_stage p Rescanning is e).1) at

pub next_there :
    (p : ConsumerState) (calls : Takes) (made : List Made) (due : Option Access) → IsAtScan p → IsConsumer p → ConsumerStands p calls made → due ≡ due_scan p.scan →
    Going p.shape p.wanted (is_taking p) calls made due
next_there p calls made due at is stands due_is = grind (arith, ⊎_elim, next_scan, taking_there, scans_there, next_rescan)

fresh_there : (p : ConsumerState) → IsAtScan p → IsConsumer p → p.items ≡ []
fresh_there p at is = ⊎_elim (λ e. (at_stage p Scanning is e).2) (λ e. (at_stage p Rescanning is e).2) at

-- a scan without a value continues
pub open_keeps :
    (p : ConsumerState) (s : ScanState) (answer : Bool) → IsAtScan p → IsConsumer p → (LastBitIsDue p.shape C (due_take p) → answer ≡ true) →
    s ≡ scan_read p.scan answer → s.found ≡ false → IsConsumer (record p { scan = s })
open_keeps p s answer at is one fed open_still = grind (arith, ⊎_elim, scan_keeps, still_scans, at_stage)

pub open_on : (p : ConsumerState) (s : ScanState) (answer : Bool) → IsAtScan p → ScanGoesOn p.scan s answer → ConsumerMoves p answer (record p { scan = s })
open_on p s answer at goes = ⊎_elim (λ e. scan_on p s answer e goes) (λ e. rescan_on p s answer e goes) at

-- what is known about a scan once it has a value: it is one of the producer's count
pub record HasGiven (p : ConsumerState) (s : ScanState) (answer : Bool) (seen : ℕ) : Type 0 where
  pub at : IsAtScan p
  pub fresh : p.items ≡ []
  pub goes : ScanGoesOn p.scan s answer
  pub is_scan : (reads : List Made) → ScanStands s reads → IsScanOf (row_read_by C) (modulus_of p.shape) reads seen

pub has_given :
    (p : ConsumerState) (s : ScanState) (answer : Bool) (value : Option ℕ) (seen : ℕ) → IsAtScan p → IsConsumer p →
    record { state : s ≡ scan_read p.scan answer; stands : ScanGoesOn p.scan s answer } → value ≡ Some seen → ((reads : List Made) → ScanStands s reads → IsValueRead (row_read_by s.side) s.modulus reads value) →
    HasGiven p s answer seen
has_given p s answer value seen at is fed some values = search (arith, fresh_there, gives, scans_there)

-- it shows an item
pub item_there :
    (p : ConsumerState) (s : ScanState) (w : ReaderState) (answer : Bool) (seen most : ℕ) → HasGiven p s answer seen → most ≤ distance (modulus_of p.shape) seen p.count →
    most ≤ p.wanted → (most ≡ p.wanted) ⊎ (most ≡ distance (modulus_of p.shape) seen p.count) → ReaderStands w [] → ShowsItem p.shape seen p.count →
    ConsumerMoves p answer (record p { stage = Loading; scan = s; word = w; most = most })
item_there p s w answer seen most g enough wants all begins shows =
    ⊎_elim (λ e. scan_item p s w answer seen most g.fresh enough wants all e g.goes g.is_scan begins shows)
    (λ e. rescan_item p s w answer seen most g.fresh enough wants all e g.goes g.is_scan begins shows) g.at

-- a scan whose due bit was read as 0 continues
pub zero_keeps :
    (p : ConsumerState) (s : ScanState) → IsAtScan p → IsConsumer p → (LastBitIsDue p.shape C (due_take p) → false ≡ true) → s ≡ scan_read p.scan false →
    IsConsumer (record p { scan = s })
zero_keeps p s at is not_last fed = grind (arith, scans_there p, open_keeps p s false)

-- if the last bit is due, the scan has read 0 in all bits below
pub zeros_there :
    (p : ConsumerState) (calls : Takes) (made : List Made) → IsAtScan p → IsConsumer p → ConsumerStands p calls made → LastIsDue p.scan → EndsInZeros p.shape C made
zeros_there p calls made at is stands last = grind (arith, ⊎_elim, scans_there, rescan_zeros, made_at, scan_reads)
