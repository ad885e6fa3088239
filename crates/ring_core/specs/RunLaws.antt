-- Laws of every run besides the law of the ring: what stays once a take has returned Closed, that a count is never read as
-- all 0, runs with one more event, and that there is a run.
use Rattle.std.specs.Prelude.{◌≡◌, ◌≢◌, ℕ, suc, ◌+◌, ◌*◌, ◌<◌, ◌≤◌, Bool, false, List, [], ◌∷◌, ◌++◌, length}
use Rattle.bits_core.specs.declared.events.Side.{Side}
use Rattle.bits_core.specs.declared.events.Side.TheVariants.{P, C}
use Rattle.bits_core.specs.declared.events.Bit.{Bit}
use Rattle.bits_core.specs.declared.events.Event.{Event}
use Rattle.bits_core.specs.declared.shapes.Shape.{Shape}
use Rattle.bits_core.specs.Shape.{modulus_of}
use Rattle.bits_core.specs.Intervals as intervals
use Rattle.bits_core.specs.Intervals.{IsLawful}
use Rattle.bits_core.specs.Made.{Made, events_of, subhistory, IsPrefix}
use Rattle.bits_core.specs.Bits.{other}
use Rattle.bits_core.specs.Steps.{MayFollow}
use Rattle.register_core.specs.Phrases.{row_bit, zero_reads}
use Rattle.register_core.specs.UnaryLaw.{ReadsZeros}
use Rattle.ring_core.specs.Puts.{Full, Puts, put_program, ArePuts, FollowsPuts}
use Rattle.ring_core.specs.Takes.{Empty, Takes, take_program, AreTakes, FollowsTakes}
use Rattle.ring_core.specs.Items.{items_put_in, items_taken_in, ToldIn}
use Rattle.ring_core.specs.CallsAt.{IsPutAt, IsTakeAt}
use Rattle.ring_core.specs.RingLaw.{IsRun}

-- Once a take has returned Closed, the lists are the same in every longer history.
abbrev pub ClosedStays : Type 0
ClosedStays =
    (shape : Shape) (h h' : List Event) (puts puts' : Puts) (takes takes' : Takes) → IsRun shape h puts takes → IsRun shape h' puts' takes' →
    IsPrefix h h' → ToldIn shape h takes →
    (items_put_in shape h' puts' ≡ items_put_in shape h puts) × (items_taken_in shape h' takes' ≡ items_taken_in shape h takes)

-- no read of the last bit of the count that side s writes returns 0 after reads of 0 in all bits below, one after the other
abbrev pub NeverReadsAll : Side → Shape → List Event → Type 0
NeverReadsAll s shape h =
    (last : ℕ) → suc last ≡ modulus_of shape → (start stop : ℕ → ℕ) → ReadsZeros s h last start stop →
    ¬ intervals.IsRead h (other s) (row_bit s last) (start last) (stop last) false

-- the other side, which has made the accesses of a list, has not ended reads of 0 in all bits of that count in a row
abbrev pub NeverMisses : Side → Shape → List Event → Type 0
NeverMisses s shape h =
    (made before after : List Made) → IsPrefix (subhistory (other s) h) (events_of (other s) made) →
    made ≡ before ++ (zero_reads (row_bit s) (modulus_of shape) ++ after) → length (subhistory (other s) h) < 2 * (length before + modulus_of shape)

-- a consumer does not read the producer's count as 0 in all bits
abbrev pub PutsAreSeen : Type 0
PutsAreSeen = (shape : Shape) (h : List Event) (puts : Puts) → IsLawful shape h → FollowsPuts shape h puts → NeverReadsAll P shape h × NeverMisses P shape h

-- a producer does not read the consumer's count as 0 in all bits
abbrev pub TakesAreSeen : Type 0
TakesAreSeen = (shape : Shape) (h : List Event) (takes : Takes) → IsLawful shape h → FollowsTakes shape h takes → NeverReadsAll C shape h × NeverMisses C shape h

-- One more event: one that may follow, and that belongs to the program of calls of its side, whether these are the calls
-- known so far or others.
abbrev pub RunsByPut : Type 0
RunsByPut =
    (shape : Shape) (h : List Event) (e : Event) (puts more : Puts) (takes : Takes) → IsRun shape h puts takes → e.side ≡ P → MayFollow shape h e →
    ArePuts shape 0 more.puts → IsPrefix (subhistory P h ++ e ∷ []) (events_of P (put_program shape more)) → IsRun shape (h ++ e ∷ []) more takes

-- the same for the consumer
abbrev pub RunsByTake : Type 0
RunsByTake =
    (shape : Shape) (h : List Event) (e : Event) (puts : Puts) (takes more : Takes) → IsRun shape h puts takes → e.side ≡ C → MayFollow shape h e →
    AreTakes shape 0 more.takes more.end → IsPrefix (subhistory C h ++ e ∷ []) (events_of C (take_program shape more)) → IsRun shape (h ++ e ∷ []) puts more

-- a take that has ended found the ring empty
abbrev pub FindsEmpty : Shape → List Event → Takes → Type 0
FindsEmpty shape h takes = (seen : ℕ) × (k : ℕ) × (start : ℕ) × (stop : ℕ) × IsTakeAt shape takes (Empty seen) k start stop × (stop ≤ length (subhistory C h))

-- a put that has ended found the ring full
abbrev pub FindsFull : Shape → List Event → Puts → Type 0
FindsFull shape h puts = (seen : ℕ) × (n : ℕ) × (start : ℕ) × (stop : ℕ) × IsPutAt shape puts (Full seen) n start stop × (stop ≤ length (subhistory P h))

-- The premises can be met, even by a history in which a write overlaps a read that has ended, a take found the ring empty, a
-- put found it full, an item is put and taken, and a take returns Closed.
abbrev pub HasARun : Type 0
HasARun =
    (shape : Shape) × (h : List Event) × (puts : Puts) × (takes : Takes) × IsRun shape h puts takes ×
    ((s : Side) × (b : Bit) × (start : ℕ) × (stop : ℕ) × (v : Bool) × intervals.IsRead h s b start stop v × intervals.HasOverlap h b start stop) ×
    FindsEmpty shape h takes × FindsFull shape h puts ×
    (items_taken_in shape h takes ≡ items_put_in shape h puts) × (items_put_in shape h puts ≢ []) × ToldIn shape h takes
