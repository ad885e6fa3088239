-- What is reported about a linearizable history. A past is the list of its events, the last one first.
use Rattle.std.specs.Prelude.{◌≡◌, ℕ, suc, ◌+◌, ◌-◌, ◌^◌, ◌≤◌, Bool, true, false, ◌||◌, not, ◌&&◌, nat_lt, if◌then◌else◌, List, [], ◌∷◌, ◌++◌, length, reverse, min}
use Rattle.queue_calls.specs.Queue.{Capacity}
use Rattle.queue_calls.specs.Calls.{Event, PutBegin, PutEnd, CloseBegin, CloseEnd, TakeBegin, TakeEnd, Passed, Lacked, Short, Nothing, Point, CanLeadTo}
use Rattle.queue_calls.specs.Reasons.{has_told, offers, n_of, k_of}
use Rattle.queue_calls.specs.declared.reports.CallsReport.{CallsReport}

-- a number, or the largest possible
abbrev pub capped : ℕ → ℕ
capped n = min n (2 ^ 64 - 1)

-- 1 if true, otherwise 0
abbrev pub as_number : Bool → ℕ
as_number holds = if holds then 1 else 0

-- how many calls have begun
abbrev pub begun : List Event → ℕ
begun [] = 0
begun (PutBegin items ∷ past) = suc (begun past)
begun (CloseBegin ∷ past) = suc (begun past)
begun (TakeBegin wanted ∷ past) = suc (begun past)
begun (_ ∷ past) = begun past

-- how many puts have ended full, short, or with only some of their items stored because there was no room
abbrev pub full_ends : List Event → ℕ
full_ends [] = 0
full_ends (PutEnd (Passed count why) ∷ past) = full_ends past + as_number (why && nat_lt count (length (offers past)))
full_ends (PutEnd Lacked ∷ past) = suc (full_ends past)
full_ends (PutEnd Short ∷ past) = suc (full_ends past)
full_ends (_ ∷ past) = full_ends past

-- how many takes have ended empty or short
abbrev pub empty_ends : List Event → ℕ
empty_ends [] = 0
empty_ends (TakeEnd Lacked ∷ past) = suc (empty_ends past)
empty_ends (TakeEnd Short ∷ past) = suc (empty_ends past)
empty_ends (_ ∷ past) = empty_ends past

-- how many calls have ended with nothing done and no reason reported
abbrev pub nothing_ends : List Event → ℕ
nothing_ends [] = 0
nothing_ends (PutEnd Nothing ∷ past) = suc (nothing_ends past)
nothing_ends (TakeEnd Nothing ∷ past) = suc (nothing_ends past)
nothing_ends (_ ∷ past) = nothing_ends past

-- whether the producer has a call under way
abbrev pub put_is_open : List Event → Bool
put_is_open [] = false
put_is_open (PutBegin items ∷ past) = true
put_is_open (CloseBegin ∷ past) = true
put_is_open (PutEnd reply ∷ past) = false
put_is_open (CloseEnd ∷ past) = false
put_is_open (_ ∷ past) = put_is_open past

-- whether the consumer has a call under way
abbrev pub take_is_open : List Event → Bool
take_is_open [] = false
take_is_open (TakeBegin wanted ∷ past) = true
take_is_open (TakeEnd reply ∷ past) = false
take_is_open (_ ∷ past) = take_is_open past

-- whether the last call of the producer has overlapped one of the consumer: one was under way when it began, or began while it was
abbrev pub put_overlaps : List Event → Bool
put_overlaps [] = false
put_overlaps (PutBegin items ∷ past) = take_is_open past
put_overlaps (CloseBegin ∷ past) = take_is_open past
put_overlaps (TakeBegin wanted ∷ past) = put_overlaps past || put_is_open past
put_overlaps (_ ∷ past) = put_overlaps past

-- whether the last call of the consumer has overlapped one of the producer
abbrev pub take_overlaps : List Event → Bool
take_overlaps [] = false
take_overlaps (TakeBegin wanted ∷ past) = put_is_open past
take_overlaps (PutBegin items ∷ past) = take_overlaps past || take_is_open past
take_overlaps (CloseBegin ∷ past) = take_overlaps past || take_is_open past
take_overlaps (_ ∷ past) = take_overlaps past

-- how many more calls overlap when one begins: that one, if the other side has a call under way, and the other, if it has
-- overlapped none before
abbrev pub overlap_more : (is_other has_overlapped : Bool) → ℕ
overlap_more is_other has_overlapped = as_number (is_other && not has_overlapped) + as_number is_other

-- how many calls have overlapped one of the other side
abbrev pub overlapped : List Event → ℕ
overlapped [] = 0
overlapped (PutBegin items ∷ past) = overlapped past + overlap_more (take_is_open past) (take_overlaps past)
overlapped (CloseBegin ∷ past) = overlapped past + overlap_more (take_is_open past) (take_overlaps past)
overlapped (TakeBegin wanted ∷ past) = overlapped past + overlap_more (put_is_open past) (put_overlaps past)
overlapped (_ ∷ past) = overlapped past

-- the numbers of a report are those of a past
pub record HasCounts (past : List Event) (report : CallsReport) : Type 0 where
  pub calls : report.calls ≡ capped (begun past)
  pub stored : report.stored ≡ capped (n_of past)
  pub taken : report.taken ≡ capped (k_of past)
  pub full : report.full ≡ capped (full_ends past)
  pub empty : report.empty ≡ capped (empty_ends past)
  pub nothing : report.nothing ≡ capped (nothing_ends past)
  pub told : report.told ≡ has_told past
  pub overlapped : report.overlapped ≡ capped (overlapped past)

-- how many calls are under way
abbrev pub under_way : List Event → ℕ
under_way past = as_number (put_is_open past) + as_number (take_is_open past)

-- at some prefix of a history
abbrev pub AtSome : (List Event → Type 0) → List Event → Type 0
AtSome Holds events = (before rest : List Event) × (events ≡ before ++ rest) × Holds before

-- at each prefix of a history
abbrev pub AtEach : (List Event → Type 0) → List Event → Type 0
AtEach Holds events = (before rest : List Event) → events ≡ before ++ rest → Holds before

-- after these events the number of items in the queue satisfies this, whatever the order of the operations
abbrev pub Surely : Capacity → (ℕ → Type 0) → List Event → Type 0
Surely capacity Holds h = (s : Point) → CanLeadTo capacity h s → Holds (length s.queue.items)

-- after these events the number of items in the queue satisfies this, in some order of the operations
abbrev pub Perhaps : Capacity → (ℕ → Type 0) → List Event → Type 0
Perhaps capacity Holds h = (s : Point) × CanLeadTo capacity h s × Holds (length s.queue.items)

-- at some moment this many items were inside, whatever the order; and at no moment can more be said
abbrev pub IsSurelyInside : Capacity → List Event → ℕ → Type 0
IsSurelyInside capacity events count = AtSome (Surely capacity (λ inside. count ≤ inside)) events × AtEach (Perhaps capacity (λ inside. inside ≤ count)) events

-- there were never more items inside than this, whatever the order; and this many may have been
abbrev pub IsPerhapsInside : Capacity → List Event → ℕ → Type 0
IsPerhapsInside capacity events count = AtEach (Surely capacity (λ inside. inside ≤ count)) events × AtSome (Perhaps capacity (λ inside. inside ≡ count)) events

-- what is reported of a history
pub record IsReport (capacity : Capacity) (events : List Event) (report : CallsReport) : Type 0 where
  pub counted : HasCounts (reverse events) report
  pub surely : IsSurelyInside capacity events report.surely_inside
  pub perhaps : IsPerhapsInside capacity events report.perhaps_inside
  pub under_way : report.under_way ≡ under_way (reverse events)
