-- The law of the unary register.
use Rattle.std.specs.Prelude.{◌≡◌, ℕ, suc, ◌<◌, ◌≤◌, true, false, All, Option, Some, None, List, take, length, filter_map}
use Rattle.bits_core.specs.declared.events.Side.{Side}
use Rattle.bits_core.specs.declared.events.Side.TheVariants.{P, C}
use Rattle.bits_core.specs.declared.events.Bit.{Bit}
use Rattle.bits_core.specs.declared.events.Bit.TheVariants.{S, R, X, Cell}
use Rattle.bits_core.specs.declared.events.Event.{Event}
use Rattle.bits_core.specs.declared.shapes.Shape.{Shape}
use Rattle.bits_core.specs.Bits.{other}
use Rattle.bits_core.specs.History.{before_last}
use Rattle.bits_core.specs.Intervals.{IsRead}
use Rattle.bits_core.specs.Lawful.{IsLawful}
use Rattle.bits_core.specs.Made.{IsPrefix}
use Rattle.register_core.specs.Row.{RowWrite, row_bit, row_write}
use Rattle.register_core.specs.Unary.{writes_of, numbered_of, numbered_value, ended, begun_writes}

-- the number of a bit of the count that a side writes
abbrev pub number_in_count : Side → Bit → Option ℕ
number_in_count P (S i) = Some i
number_in_count P (R i) = None
number_in_count C (S i) = None
number_in_count C (R i) = Some i
number_in_count P X = None
number_in_count C X = None
number_in_count P (Cell j i) = None
number_in_count C (Cell j i) = None

-- the write to a bit of the side's count that an event begins
abbrev pub count_write : Side → Event → Option RowWrite
count_write s e = row_write (number_in_count s e.bit) e.act

-- the writes that have begun, in order, to the bits of a side's count
abbrev pub count_begun : Side → List Event → List RowWrite
count_begun s h = filter_map (count_write s) h

-- those of these writes that ended
abbrev pub count_ended : Side → List Event → List RowWrite
count_ended s h = count_begun s (before_last s h)

-- the writes to the side's count are a prefix of those of unary writes of these values, one after the other
abbrev pub WritesUnary : Side → List Event → List ℕ → Type 0
WritesUnary s h values = IsPrefix (count_begun s h) (writes_of values)

-- how many of the numbered unary writes had all their accesses ended before a place
abbrev pub ended_before : Side → List Event → List ℕ → ℕ → ℕ
ended_before s h values place = ended (numbered_of values) (length (count_ended s (take place h)))

-- how many of the numbered unary writes had begun before a place
abbrev pub begun_before : Side → List Event → List ℕ → ℕ → ℕ
begun_before s h values place = begun_writes (numbered_of values) (length (count_begun s (take place h)))

-- reads of the first n bits of the count that a side writes, one after the other, that all returned 0, and the place where
-- the next read begins
pub record ReadsZeros (s : Side) (h : List Event) (n : ℕ) (start stop : ℕ → ℕ) : Type 0 where
  pub in_turn : (i : ℕ) → i < n → stop i < start (suc i)
  pub each : (i : ℕ) → i < n → IsRead h (other s) (row_bit s i) (start i) (stop i) false

-- a scan of that count with value c: it reads 0 in the bits below c, and then 1 in bit c
pub record IsScan (s : Side) (h : List Event) (c : ℕ) (start stop : ℕ → ℕ) : Type 0 where
  pub zeros : ReadsZeros s h c start stop
  pub one : IsRead h (other s) (row_bit s c) (start c) (stop c) true

-- the value is that of a numbered write, or the first value as number 0, whose number is at least the number ended before
-- one place and at most the number begun before another
pub record IsRegularValue (s : Side) (h : List Event) (values : List ℕ) (first last c : ℕ) : Type 0 where
  pub number : ℕ
  pub not_overwritten : ended_before s h values first ≤ number
  pub has_begun : number ≤ begun_before s h values last
  pub has_value : numbered_value 0 (numbered_of values) number ≡ c

-- A unary register is regular: a scan returns the value of a write whose number is at least the number of writes ended when
-- it began and at most the number begun when it ended.
abbrev pub UnaryIsRegular : Type 0
UnaryIsRegular =
    (shape : Shape) (h : List Event) → IsLawful shape h →
    (s : Side) (values : List ℕ) → WritesUnary s h values →
    (c : ℕ) (start stop : ℕ → ℕ) → IsScan s h c start stop →
    IsRegularValue s h values (start 0) (stop c) c

-- no value of a numbered write that had begun before a place is above the bound
abbrev pub BegunStayWithin : Side → List Event → List ℕ → ℕ → ℕ → Type 0
BegunStayWithin s h values place bound = (n : ℕ) → n ≤ begun_before s h values place → numbered_value 0 (numbered_of values) n ≤ bound

-- If no value whose write has begun is above the last bit's number, a scan that read 0 in all bits below the last does not
-- read 0 in it.
abbrev pub UnaryHasOne : Type 0
UnaryHasOne =
    (shape : Shape) (h : List Event) → IsLawful shape h →
    (s : Side) (values : List ℕ) → WritesUnary s h values →
    (last : ℕ) (start stop : ℕ → ℕ) → BegunStayWithin s h values (stop last) last →
    ReadsZeros s h last start stop →
    ¬ IsRead h (other s) (row_bit s last) (start last) (stop last) false

-- if no value of the list is above a bound, no value of a numbered write is
abbrev pub NumberedStayWithin : Type 0
NumberedStayWithin = (values : List ℕ) (bound : ℕ) → All (λ v. v ≤ bound) values → (n : ℕ) → numbered_value 0 (numbered_of values) n ≤ bound
