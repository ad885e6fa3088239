-- Histories whose events can be counted are linearizable.
use Rattle.std.proofs.Common.{◌≡◌, inl, inr, ℕ, Bool, true, false, List, [], ◌∷◌, ◌++◌, length, sym, subst, append_assoc}
use Rattle.std.proofs.lemmas.List.{append-nil}
use Rattle.queue_calls.proofs.Common.{Capacity, Event, PutBegin, PutEnd, CloseBegin, CloseEnd, TakeBegin, TakeEnd, IsLinearizable, PutTurn, Free, Offers, Late, Closes, TakeTurn, Rests, Waits, Keeps}
use Rattle.queue_calls.specs.Counting.{Kept, kept, Counts, AreCounted, CountedIsLinearizable}
use Rattle.queue_calls.proofs.Keeping.{some}
use Rattle.queue_calls.proofs.Ends.PutBegins.{put_begin, late_begin}
use Rattle.queue_calls.proofs.Ends.PutEnds.{put_ends, late_ends}
use Rattle.queue_calls.proofs.Ends.Closing.{close_begin, close_end}
use Rattle.queue_calls.proofs.Ends.TakeBegins.{take_begin, keeps_nothing}
use Rattle.queue_calls.proofs.Ends.TakeEnds.{take_ends, take_closed}

-- after a history this is kept
abbrev pub Stands : Capacity → List Event → Kept → Type 0
Stands capacity h k = Keeps capacity h k.inside k.put k.take k.shut

-- what is kept, stated differently
stands_as : (capacity : Capacity) (h : List Event) (k told : Kept) → k ≡ told → Stands capacity h told → Stands capacity h k
stands_as capacity h k told e j = let F : Kept → Type 0 = λ z. Stands capacity h z in subst F (sym e) j

module _ (capacity : Capacity) (h : List Event) (k : Kept) (j : Stands capacity h k) where
  of_put : (put : PutTurn) → k.put ≡ put → Keeps capacity h k.inside put k.take k.shut
  of_put put e = let F : PutTurn → Type 0 = λ z. Keeps capacity h k.inside z k.take k.shut in subst F e j

  of_take : (turn : TakeTurn) → k.take ≡ turn → Keeps capacity h k.inside k.put turn k.shut
  of_take turn e = let F : TakeTurn → Type 0 = λ z. Keeps capacity h k.inside k.put z k.shut in subst F e j

  of_free : (shut : Bool) → k.put ≡ Free → k.shut ≡ shut → Keeps capacity h k.inside Free k.take shut
  of_free shut e f = let F : Bool → Type 0 = λ z. Keeps capacity h k.inside Free k.take z in subst F f (of_put Free e)

  of_none : (turn : TakeTurn) → k.take ≡ turn → k.inside ≡ [] → Keeps capacity h [] k.put turn k.shut
  of_none turn e f = let F : List ℕ → Type 0 = λ z. Keeps capacity h z k.put turn k.shut in subst F f (of_take turn e)

  -- an event that can be counted results in a state that describes the history
  pub counts_keeps : (event : Event) (after : Kept) → Counts capacity k event after → Stands capacity (h ++ event ∷ []) after
  counts_keeps (PutBegin items) after (free, items_come, begins) = elim begins [
    | inl b ↦
        stands_as capacity (h ++ PutBegin items ∷ []) after (kept (k.inside ++ items) (Offers (length items) (length k.inside)) k.take false) b.1
        (put_begin capacity h k.inside items k.take (of_free false free b.0) items_come).0
    | inr b ↦
        stands_as capacity (h ++ PutBegin items ∷ []) after (kept k.inside (Late (length items)) k.take true) b.1
        (late_begin capacity h k.inside items k.take (of_free true free b.0) items_come).0
  ]
  counts_keeps (PutEnd reply) after ends = elim ends [
    | inl (offered, before, is, open', within, lacks, fit) ↦
        stands_as capacity (h ++ PutEnd reply ∷ []) after _ fit.1
        (put_ends capacity h k.inside k.take k.shut offered before (of_put (Offers offered before) is) reply open' within lacks fit.0).0
    | inr (offered, is, none, e) ↦
        stands_as capacity (h ++ PutEnd reply ∷ []) after _ e (late_ends capacity h k.inside k.take k.shut offered (of_put (Late offered) is) reply none).0
  ]
  counts_keeps CloseBegin after (free, e) =
      stands_as capacity (h ++ CloseBegin ∷ []) after _ e (close_begin capacity h k.inside k.take k.shut (of_put Free free)).0
  counts_keeps CloseEnd after (again, is, e) =
      stands_as capacity (h ++ CloseEnd ∷ []) after _ e (close_end capacity h k.inside k.take again k.shut (of_put (Closes again) is)).0
  counts_keeps (TakeBegin wanted) after (rests, some_wanted, e) =
      stands_as capacity (h ++ TakeBegin wanted ∷ []) after _ e (take_begin capacity h k.inside k.shut wanted some_wanted k.put (of_take Rests rests)).0
  counts_keeps (TakeEnd reply) after (wanted, before, ended, is, ends) = elim ends [
    | inl (open', within, found, next, fit) ↦
        stands_as capacity (h ++ TakeEnd reply ∷ []) after _ fit.1
        (take_ends capacity h k.put k.shut k.inside wanted before ended (of_take (Waits wanted before ended) is) reply open' within found next fit.0).0
    | inr (shuts, none, closed, e) ↦
        stands_as capacity (h ++ TakeEnd reply ∷ []) after _ e
        (take_closed capacity h k.put wanted before ended k.shut reply shuts (of_none (Waits wanted before ended) is none) closed).0
  ]

-- the history can lead somewhere
pub stands_linear : (capacity : Capacity) (h : List Event) (k : Kept) → Stands capacity h k → IsLinearizable capacity h
stands_linear capacity h k j = let (t, d, told) = some capacity k.inside k.put k.take k.shut j.few in (t, j.sound t d (told j.late))

-- events that can be counted after a history
counted : (capacity : Capacity) (events h : List Event) (k : Kept) → Stands capacity h k → AreCounted capacity k events → IsLinearizable capacity (h ++ events)
counted capacity [] h k j c = subst (λ z. IsLinearizable capacity z) (sym (append-nil h)) (stands_linear capacity h k j)
counted capacity (event ∷ events) h k j (after, now, later) =
    subst (λ z. IsLinearizable capacity z) (append_assoc h (event ∷ []) events)
    (counted capacity events (h ++ event ∷ []) after (counts_keeps capacity h k j event after now) later)

pub counted_is_linearizable : CountedIsLinearizable
counted_is_linearizable capacity h proper c = counted capacity h [] (kept [] Free Rests false) (keeps_nothing capacity proper) c
