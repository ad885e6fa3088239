-- The word reads and scans of a side, if the accesses that it made are known.
use Rattle.std.specs.Prelude.{◌≡◌, ℕ, suc, ◌+◌, ◌*◌, ◌^◌, ◌<◌, List, ◌++◌, length}
use Rattle.bits_core.specs.declared.events.Side.{Side}
use Rattle.bits_core.specs.declared.events.Side.TheVariants.{C}
use Rattle.bits_core.specs.declared.events.Event.{Event}
use Rattle.bits_core.specs.Bits.{other}
use Rattle.bits_core.specs.Made.{Made, events_of, subhistory, place_of, IsPrefix}
use Rattle.register_core.specs.Word.{word_read}
use Rattle.register_core.specs.WordLaw.{IsWordRead}
use Rattle.register_core.specs.ScanState.{zero_reads, scan_phrase, row_read_by}
use Rattle.register_core.specs.UnaryLaw.{ReadsZeros, IsScan}

-- where access number n + i of a side begins
abbrev pub begin_place : Side → List Event → ℕ → ℕ → ℕ
begin_place s h n i = place_of s h (2 * (n + i))

-- where access number n + i of a side ends
abbrev pub end_place : Side → List Event → ℕ → ℕ → ℕ
end_place s h n i = place_of s h (suc (2 * (n + i)))

-- If a side's own events are a prefix of the events of accesses, a scan among these that has ended is a scan of the
-- history.
abbrev pub ScansAreMade : Type 0
ScansAreMade =
    (s : Side) (h : List Event) (made : List Made) → IsPrefix (subhistory s h) (events_of s made) →
    (before after : List Made) (c : ℕ) → made ≡ before ++ (scan_phrase (row_read_by s) c ++ after) →
    suc (2 * (length before + c)) < length (subhistory s h) →
    IsScan (other s) h c (begin_place s h (length before)) (end_place s h (length before))

-- Likewise reads of 0 with which a scan begins.
abbrev pub ZerosAreMade : Type 0
ZerosAreMade =
    (s : Side) (h : List Event) (made : List Made) → IsPrefix (subhistory s h) (events_of s made) →
    (before after : List Made) (n : ℕ) → made ≡ before ++ (zero_reads (row_read_by s) n ++ after) →
    2 * (length before + n) < length (subhistory s h) →
    ReadsZeros (other s) h n (begin_place s h (length before)) (end_place s h (length before))

-- A word read among them that has ended is a word read of the history.
abbrev pub WordReadsAreMade : Type 0
WordReadsAreMade =
    (h : List Event) (made : List Made) → IsPrefix (subhistory C h) (events_of C made) →
    (before after : List Made) (width j item : ℕ) → item < 2 ^ width → made ≡ before ++ (word_read width j item ++ after) →
    2 * (length before + width) < suc (length (subhistory C h)) →
    IsWordRead width j h (begin_place C h (length before)) (end_place C h (length before)) item
