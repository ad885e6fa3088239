-- One side of the world at work: its state in a history, and what one step of it does.
use Rattle.std.specs.Prelude.{◌≡◌, ℕ, ◌+◌, ◌/◌, ◌<◌, ◌≤◌, Bool, true, false, Option, Some, None, List, [], ◌∷◌, ◌++◌, length, slice_get}
use Rattle.bits_core.specs.declared.events.Side.{Side}
use Rattle.bits_core.specs.declared.events.Side.TheVariants.{P, C}
use Rattle.bits_core.specs.declared.events.Bit.TheVariants as bit
use Rattle.bits_core.specs.declared.events.Access.{Access}
use Rattle.bits_core.specs.declared.events.Access.TheVariants as access
use Rattle.bits_core.specs.declared.events.Act.TheVariants.{ReadEnd}
use Rattle.bits_core.specs.declared.events.Event.{Event}
use Rattle.bits_core.specs.History.{open_access}
use Rattle.bits_core.specs.Made.{Made, Read, Write, answered, events_of, subhistory, opening_event}
use Rattle.bits_core.specs.Memory.{count_below, flicker_count, is_flicker_at}
use Rattle.ring_core.specs.ConsumerCalls.{ConsumerStands, ends_closed}
use Rattle.ring_core.specs.ConsumerState.{ConsumerState, is_taking}
use Rattle.ring_core.specs.ProducerCalls.{ProducerStands}
use Rattle.ring_core.specs.ProducerState.{ProducerState, Call, Put, Close, call_of}
use Rattle.ring_core.specs.declared.replies.BatchReply.{BatchReply}
use Rattle.ring_core.specs.declared.replies.BatchReply.TheVariants as reply
use Rattle.bits_core.specs.Shape.{width_of}
use Rattle.ring_core.specs.Items.{all_taken}
use Rattle.ring_core.specs.Over.{empties, fulls}
use Rattle.ring_core.specs.Puts.{Puts, stored_in, put_program}
use Rattle.ring_core.specs.Takes.{Takes, taken_in, take_program}
use Rattle.ring_player.specs.Plays.{offered, AreAttempts, IsProgram, IsDone}
use Rattle.ring_player.specs.Wants.{wanted_at, AreTakesOf}
use Rattle.ring_script.specs.Content.{Content}

-- the events of accesses that were made, and of the one that is open
abbrev pub so_far : Side → List Made → Option Access → List Event
so_far s list None = events_of s list
so_far s list (Some a) = events_of s list ++ opening_event s a ∷ []

-- an actor of the side, which has an access due, agrees with the side's events in the history
pub record IsPlaying (s : Side) (h : List Event) (due : Option Access) (stands : List Made → Option Access → Type 0) : Type 0 where
  pub list : List Made
  pub there : stands list (open_access s h)
  pub own_is : subhistory s h ≡ so_far s list (open_access s h)
  pub is_due : (a : Access) → open_access s h ≡ Some a → due ≡ Some a

-- one event of the side if it was not done, otherwise nothing
abbrev pub IsMove : Content → Side → Bool → (h h' : List Event) → Type 0
IsMove script s true h h' = (e : Event) × (h' ≡ h ++ e ∷ []) × (e.side ≡ s) × (¬ IsDone script s h)
IsMove script s false h h' = (h' ≡ h) × IsDone script s h

-- the overlapped reads so far were answered in turn, and the oracle continues from there
pub record IsAtTurn (turns : ℕ → Bool) (h : List Event) (answers : ℕ → Bool) : Type 0 where
  pub answered : (place : ℕ) (e : Event) (v : Bool) → slice_get h place ≡ Some e → e.act ≡ ReadEnd v → is_flicker_at h place ≡ true → v ≡ turns (count_below place (is_flicker_at h))
  pub left : (i : ℕ) → answers i ≡ turns (flicker_count h + i)

-- ---- the producer's actor

-- the script requests the call under way; and the close that was made
abbrev pub IsAsked : Content → Puts → Option Call → Type 0
IsAsked script calls None = calls.closes ≡ true → (script.closes ≡ true) × (stored_in 0 calls.puts ≡ length script.items)
IsAsked script calls (Some (Put items)) = (items ≡ offered script (stored_in 0 calls.puts)) × (stored_in 0 calls.puts < length script.items)
IsAsked script calls (Some Close) = (script.closes ≡ true) × (stored_in 0 calls.puts ≡ length script.items)

-- how many items a put stored, by its reply
abbrev pub stored_in_reply : Option BatchReply → ℕ
stored_in_reply None = 0
stored_in_reply (Some (reply.Stored count)) = count
stored_in_reply (Some reply.Full) = 0
stored_in_reply (Some reply.Closed) = 0

-- how many puts found the ring full, by a reply
abbrev pub full_in_reply : Option BatchReply → ℕ
full_in_reply None = 0
full_in_reply (Some (reply.Stored count)) = 0
full_in_reply (Some reply.Full) = 1
full_in_reply (Some reply.Closed) = 0

-- what the actor counts by its replies: the items stored, and the puts that found the ring full
pub record PutTally : Type 0 where
  pub stored : ℕ
  pub full : ℕ

-- the puts that are over are attempts at the script's items, and are counted by the tally; their accesses are no more than these
pub record ArePutsMade (script : Content) (kept : PutTally) (list : List Made) (calls : Puts) : Type 0 where
  pub attempts : AreAttempts script 0 calls.puts
  pub counted : kept.stored ≡ stored_in 0 calls.puts
  pub filled : kept.full ≡ fulls calls.puts
  pub long : length (put_program script.shape calls) ≤ length list

-- it stands after these accesses, with this one open
pub record PutActorStands (script : Content) (p : ProducerState) (kept : PutTally) (list : List Made) (opened : Option Access) : Type 0 where
  pub calls : Puts
  pub there : ProducerStands p calls list
  pub same_shape : p.shape ≡ script.shape
  pub made : ArePutsMade script kept list calls
  pub batched : (items : List ℕ) → call_of p ≡ Some (Put items) → p.batched ≡ true
  pub asked : IsAsked script calls (call_of p)
  pub program : IsProgram script P (so_far P list opened)

-- how many digits of cells these accesses write
abbrev pub digits_in : List Made → ℕ
digits_in [] = 0
digits_in (Read b v ∷ list) = digits_in list
digits_in (Write (bit.Cell j i) v ∷ list) = 1 + digits_in list
digits_in (Write (bit.S i) v ∷ list) = digits_in list
digits_in (Write (bit.R i) v ∷ list) = digits_in list
digits_in (Write bit.X v ∷ list) = digits_in list

-- the number of items written when the last count write among these accesses begins, after n digits; `seen` if none does
abbrev pub items_begun : ℕ → (n seen : ℕ) → List Made → ℕ
items_begun width n seen [] = seen
items_begun width n seen (Read b v ∷ list) = items_begun width n seen list
items_begun width n seen (Write (bit.Cell j i) v ∷ list) = items_begun width (1 + n) seen list
items_begun width n seen (Write (bit.S i) v ∷ list) = items_begun width n (n / width) list
items_begun width n seen (Write (bit.R i) v ∷ list) = items_begun width n seen list
items_begun width n seen (Write bit.X v ∷ list) = items_begun width n seen list

-- how many digits an access writes
abbrev pub digits_by : Option Access → ℕ
digits_by None = 0
digits_by (Some (access.Read b)) = 0
digits_by (Some (access.Write (bit.Cell j i) v)) = 1
digits_by (Some (access.Write (bit.S i) v)) = 0
digits_by (Some (access.Write (bit.R i) v)) = 0
digits_by (Some (access.Write bit.X v)) = 0

-- how many items are put once this access has begun, given those written and put before
abbrev pub put_once : Option Access → (written put : ℕ) → ℕ
put_once None written put = put
put_once (Some (access.Read b)) written put = put
put_once (Some (access.Write (bit.Cell j i) v)) written put = put
put_once (Some (access.Write (bit.S i) v)) written put = written
put_once (Some (access.Write (bit.R i) v)) written put = put
put_once (Some (access.Write bit.X v)) written put = put

-- the accesses, with the one that has begun
abbrev pub with_open : List Made → Option Access → List Made
with_open list None = list
with_open list (Some a) = list ++ answered a true ∷ []

-- what the actor counts by its accesses: the digits written, and the items whose count write has begun
pub record HasWritten (script : Content) (digits put : ℕ) (list : List Made) (opened : Option Access) : Type 0 where
  pub digits_are : digits ≡ digits_in list
  pub put_is : put ≡ items_begun (width_of script.shape) 0 0 (with_open list opened)

-- ---- the consumer's actor

-- it stands after these accesses, with this one open
pub record TakeActorStands (script : Content) (p : ConsumerState) (taken : List ℕ) (told : Bool) (empty : ℕ) (list : List Made) (opened : Option Access) : Type 0 where
  pub calls : Takes
  pub there : ConsumerStands p calls list
  pub same_shape : p.shape ≡ script.shape
  pub taken_is : taken ≡ all_taken calls.takes
  pub told_is : told ≡ ends_closed calls.end
  pub empty_is : empty ≡ empties calls.takes
  pub takes_are : AreTakesOf script calls
  pub wants : is_taking p ≡ true → p.wanted ≡ wanted_at script (taken_in 0 calls.takes)
  pub few : taken_in 0 calls.takes ≤ script.takes
  pub long : length (take_program script.shape calls) ≤ length list
  pub asked : is_taking p ≡ true → taken_in 0 calls.takes < script.takes
  pub program : IsProgram script C (so_far C list opened)
