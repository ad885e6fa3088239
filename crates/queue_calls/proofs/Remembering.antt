-- What is counted in a history agrees with its past, and represents it.
use Rattle.std.proofs.Common.{◌≡◌, inl, inr, ℕ, true, false, Some, List, [], ◌∷◌, ◌++◌, reverse, refl, sym, subst, append_assoc, append-nil}
use Rattle.queue_calls.proofs.Common.{unwrap_or, Capacity, Event, IsLinearizable, Kept, kept, Counts, CountTo, APut, CallsAreInTurn, MovesSides, NoCall, Sides, sides, ended_line, has_ended, has_told}
use Rattle.queue_calls.proofs.Common.{items_of, IsProper, call_of_put, sides_of, Remembers, Offered, Taken, Free, Late, Offers, Rests, Witness}
use Rattle.queue_calls.proofs.Agrees.{Agrees}
use Rattle.queue_calls.proofs.Agreeing.{at_first, step, turned_behind}
use Rattle.queue_calls.proofs.CauseFound.{put_of, standing}
use Rattle.queue_calls.proofs.CauseTold.{is_line, late_ends, no_line}
use Rattle.queue_calls.proofs.CountedHistories.{Stands, counts_keeps}
use Rattle.queue_calls.proofs.Ends.TakeBegins.{keeps_nothing}
use Rattle.queue_calls.proofs.TurnLemmas.{last_turn, same_turns}

-- one more event
pub count_more :
    (capacity : Capacity) (k : Kept) (events : List Event) (event : Event) (last after : Kept) → CountTo capacity k events last → Counts capacity last event after →
    CountTo capacity k (events ++ event ∷ []) after
count_more capacity k [] event last after e now = (after, (let F : Kept → Type 0 = λ z. Counts capacity z event after in subst F e now), refl)
count_more capacity k (first ∷ events) event last after (next, c, more) now = (next, c, count_more capacity next events event last after more now)

abbrev Both : Capacity → List Event → List Event → Kept → Type 0
Both capacity h past k = Agrees past k × Stands capacity h k

both_behind :
    (capacity : Capacity) (h past events : List Event) (k last : Kept) → Both capacity h past k → CountTo capacity k events last →
    Both capacity (h ++ events) (reverse events ++ past) last
both_behind capacity h past [] k last b e =
    let F : Kept → Type 0 = λ z. Both capacity (h ++ []) past z in
    let G : List Event → Type 0 = λ z. Both capacity z past k in subst F (sym e) (subst G (sym (append-nil h)) b)
both_behind capacity h past (first ∷ events) k last (a, j) (next, c, more) =
    let F : List Event → Type 0 = λ z. Both capacity (h ++ first ∷ events) z last in
    let G : List Event → Type 0 = λ z. Both capacity z (reverse events ++ (first ∷ past)) last in
    subst F (sym (turned_behind first events past))
    (subst G (append_assoc h (first ∷ []) events)
    (both_behind capacity (h ++ first ∷ []) (first ∷ past) events next last (step past k a capacity first next c, counts_keeps capacity h k j first next c) more))

module _ (capacity : Capacity) (events : List Event) (k : Kept) (proper : IsProper capacity) (counted : CountTo capacity (kept [] Free Rests false) events k) where
  both_hold : Both capacity events (reverse events) k
  both_hold =
      let F : List Event → Type 0 = λ z. Both capacity events z k in
      subst F (append-nil (reverse events)) (both_behind capacity [] [] events (kept [] Free Rests false) k (at_first, keeps_nothing capacity proper) counted)

  pub agrees : Agrees (reverse events) k
  agrees = both_hold.0

  pub stands : Stands capacity events k
  stands = both_hold.1

  pub linear : IsLinearizable capacity events
  linear = standing capacity events k stands

-- what a witness keeps
abbrev pub kept_of : {S O T N B : Type 0} → (offered : O → List Offered) → Witness S O T N B → Kept
kept_of offered w = kept (items_of (offered w.auditor.inside.list)) w.auditor.put w.auditor.take w.auditor.shut

module _ {S O T N B : Type 0} {offered : O → List Offered} {last : T → List Taken} {w : Witness S O T N B} {capacity : Capacity} {events : List Event} (r : Remembers offered last w capacity events) where
  pub agrees_of : Agrees (reverse events) (kept_of offered w)
  agrees_of = agrees capacity events (kept_of offered w) r.proper r.counted

  -- the line that ended the first close
  pub ended_is : has_ended (reverse events) ≡ true → unwrap_or w.ended_at 0 ≡ ended_line (reverse events)
  ended_is on = is_line _ _ w.ended_at r.ended on

  -- a put under way that does not offer its items began after a close
  pub was_late : {n : ℕ} → call_of_put w.auditor.put ≡ APut n → ((m inside : ℕ) → w.auditor.put ≡ Offers m inside → ⊥) →
      (w.auditor.put ≡ Late n) × (unwrap_or w.ended_at 0 ≡ ended_line (reverse events))
  was_late {n} turn not = elim (put_of w.auditor.put n turn) [
    | inl o ↦ absurd (not n o.0 o.1)
    | inr is ↦ (is, ended_is (late_ends capacity agrees_of is))
  ]

  -- no take has returned Closed
  pub not_told : ((line : ℕ) → w.told_at ≡ Some line → ⊥) → has_told (reverse events) ≡ false
  not_told none = no_line _ _ w.told_at r.told none

pub linear_of :
    {S O T N B : Type 0} (offered : O → List Offered) (last : T → List Taken) (w : Witness S O T N B) (capacity : Capacity) (events : List Event) →
    Remembers offered last w capacity events → IsLinearizable capacity events
linear_of offered last w capacity events r = linear capacity events (kept_of offered w) r.proper r.counted

-- an event in turn changes what is kept about the sides
pub in_turn :
    {S O T N B : Type 0} (offered : O → List Offered) (last : T → List Taken) (w : Witness S O T N B) (capacity : Capacity) (events : List Event) (event : Event) →
    Remembers offered last w capacity events → CallsAreInTurn (events ++ event ∷ []) → (t : Sides) × MovesSides (sides_of w.auditor.put w.auditor.take) event t
in_turn offered last w capacity events event r (t, turns) =
    let (s, sooner, moves) = last_turn events event (sides NoCall NoCall) t turns in
    let j = stands capacity events (kept_of offered w) r.proper r.counted in
    let same : s ≡ sides_of w.auditor.put w.auditor.take = same_turns events (sides NoCall NoCall) s (sides_of w.auditor.put w.auditor.take) sooner j.turns in
    (t, subst (λ z. MovesSides z event t) same moves)
