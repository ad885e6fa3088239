-- A script in terms of its format: the object, what its fields hold, and the limits.
use Rattle.std.specs.Prelude.{◌≡◌, ◌≤◌, ◌<◌, ◌^◌, ℕ, Bool, true, false, List, All, length, map, Some}
use Rattle.serde_json.specs.Data.{Members, number, unsigned, array, boolean, string}
use Rattle.bits_core.specs.Shape.{HasBatches}
use Rattle.bits_core.specs.declared.shapes.Shape.{Shape}
use Rattle.bits_core.specs.declared.events.Side.{Side}
use Rattle.ring_script.specs.Content.{Content}
use Rattle.ring_script.specs.Schedule.{IsSchedule}
use Rattle.ring_script.specs.Fields.{HasBatchField, IsObject, held_as, wholes}
use Rattle.ring_script.specs.declared.faults.Field.TheVariants.{Capacity, Modulus, Width, Items, Takes, Close, Schedule, Oracle, Batch, TakeBatch}
use Rattle.ring_script.specs.declared.schedules.TheConstants.{LETTER_LIMIT}
use Rattle.ring_script.specs.declared.scripts.TheConstants.{ITEM_LIMIT}

-- ---- the fields

-- the numbers, lists and texts that the fields hold
pub record HeldFields : Type 0 where
  pub capacity : ℕ
  pub modulus : ℕ
  pub width : ℕ
  pub items : List ℕ
  pub takes : ℕ
  pub close : Bool
  pub schedule : List ℕ
  pub oracle : List ℕ
  pub batch : ℕ
  pub take_batch : ℕ

-- what the fields hold, from its parts
abbrev pub held_fields : (capacity modulus width : ℕ) (items : List ℕ) (takes : ℕ) (close : Bool) (schedule oracle : List ℕ) (batch take_batch : ℕ) → HeldFields
held_fields capacity modulus width items takes close schedule oracle batch take_batch =
    record { capacity = capacity; modulus = modulus; width = width; items = items; takes = takes; close = close; schedule = schedule; oracle = oracle; batch = batch; take_batch = take_batch }

-- the bytes are an object whose fields are all there and hold this
pub record HoldsFields (bytes : List ℕ) (held : HeldFields) : Type 0 where
  pub members : Members
  pub is_object : IsObject bytes members
  pub capacity : held_as Capacity members ≡ Some (number (unsigned held.capacity))
  pub modulus : held_as Modulus members ≡ Some (number (unsigned held.modulus))
  pub width : held_as Width members ≡ Some (number (unsigned held.width))
  pub items : held_as Items members ≡ Some (array (wholes held.items))
  pub takes : held_as Takes members ≡ Some (number (unsigned held.takes))
  pub close : held_as Close members ≡ Some (boolean held.close)
  pub schedule : held_as Schedule members ≡ Some (string held.schedule)
  pub oracle : held_as Oracle members ≡ Some (string held.oracle)
  pub batch : HasBatchField Batch members held.batch
  pub take_batch : HasBatchField TakeBatch members held.take_batch

-- ---- what they hold

-- each item fits the width
abbrev pub Fit : ℕ → List ℕ → Type 0
Fit width items = All (λ item. item < 2 ^ width) items

-- the byte of an answer: 1 or 0
abbrev pub answer_byte : Bool → ℕ
answer_byte true = 49
answer_byte false = 48

-- the text is that of these answers
abbrev pub IsOracle : List ℕ → List Bool → Type 0
IsOracle text answers = text ≡ map answer_byte answers

-- the text is that of answers
abbrev pub IsOracleText : List ℕ → Type 0
IsOracleText text = (answers : List Bool) × IsOracle text answers

-- the five numbers make a shape
pub record HoldsShape (bytes : List ℕ) (held : HeldFields) : Type 0 where
  pub fields : HoldsFields bytes held
  pub shape : Shape
  pub numbers : HasBatches held.capacity held.modulus held.width held.batch held.take_batch shape

-- and the items are few, and fit
pub record HoldsItems (bytes : List ℕ) (held : HeldFields) : Type 0 where
  pub shaped : HoldsShape bytes held
  pub few : length held.items ≤ ITEM_LIMIT
  pub fit : Fit held.width held.items

-- and the schedule represents these letters, which are few
pub record HoldsLetters (bytes : List ℕ) (held : HeldFields) (letters : List Side) : Type 0 where
  pub stored : HoldsItems bytes held
  pub schedule : IsSchedule held.schedule letters
  pub short : length letters ≤ LETTER_LIMIT

-- what the values of the fields represent
pub record IsContentOf (held : HeldFields) (content : Content) : Type 0 where
  pub shape : HasBatches held.capacity held.modulus held.width held.batch held.take_batch content.shape
  pub items : content.items ≡ held.items
  pub takes : content.takes ≡ held.takes
  pub closes : content.closes ≡ held.close
  pub schedule : IsSchedule held.schedule content.letters
  pub oracle : IsOracle held.oracle content.oracle

-- the bytes are an object with the fields of a script, which hold this within the limits
pub record IsScript (bytes : List ℕ) (content : Content) : Type 0 where
  pub held : HeldFields
  pub lettered : HoldsLetters bytes held content.letters
  pub shape : HasBatches held.capacity held.modulus held.width held.batch held.take_batch content.shape
  pub items : content.items ≡ held.items
  pub takes : content.takes ≡ held.takes
  pub closes : content.closes ≡ held.close
  pub oracle : IsOracle held.oracle content.oracle
