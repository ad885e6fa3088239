-- What the report needs to know about an event, from what is counted in a history.
use Rattle.std.proofs.Common.{◌≡◌, false, List, [], ◌∷◌, ◌++◌, reverse, refl, sym, ap, subst, ◌∙◌, append-nil, arith}
use Rattle.queue_calls.proofs.Common.{Capacity, Event, Kept, kept, Counts, CountTo, IsProper, offered_by, Free, Rests}
use Rattle.queue_calls.specs.Reporting.{put_is_open, take_is_open}
use Rattle.queue_calls.specs.Tallying.{has_put, has_take, StoresWithin, IsToldOf}
use Rattle.queue_calls.proofs.Agrees.{Agrees}
use Rattle.queue_calls.proofs.Agreeing.{offered_is, turned, turned_behind}
use Rattle.queue_calls.proofs.Remembering.{agrees}
use Rattle.queue_calls.proofs.Replies.{few, none_passed}

-- the sides that have a call under way are those of the past
abbrev SidesFit : List Event → Kept → Type 0
SidesFit past k = (has_put k.put ≡ put_is_open past) × (has_take k.take ≡ take_is_open past)

module _ (capacity : Capacity) (past : List Event) (k : Kept) (f : SidesFit past k) where
  -- a side that then has a call under way, or none
  put_is : (after it : Kept) → after ≡ it → it.take ≡ k.take → (has_put after.put ≡ has_put it.put) × (has_take after.take ≡ take_is_open past)
  put_is after it e same = (ap (λ (z : Kept). has_put z.put) e, ap (λ (z : Kept). has_take z.take) e ∙ (ap has_take same ∙ f.1))

  take_is : (after it : Kept) → after ≡ it → it.put ≡ k.put → (has_put after.put ≡ put_is_open past) × (has_take after.take ≡ has_take it.take)
  take_is after it e same = (ap (λ (z : Kept). has_put z.put) e ∙ (ap has_put same ∙ f.0), ap (λ (z : Kept). has_take z.take) e)

  sides_step : (event : Event) (after : Kept) → Counts capacity k event after → SidesFit (event ∷ past) after
  sides_step event after ends = grind (arith, put_is, take_is)

sides_behind : (capacity : Capacity) (past events : List Event) (k last : Kept) → SidesFit past k → CountTo capacity k events last → SidesFit (reverse events ++ past) last
sides_behind capacity past [] k last f e = let F : Kept → Type 0 = λ z. SidesFit past z in subst F (sym e) f
sides_behind capacity past (first ∷ events) k last f (next, c, more) =
    grind (arith, turned_behind, sides_step, sides_behind capacity (first ∷ past) events next last (sides_step capacity past k f first next c) more)

-- the last event that was counted
pub last_count :
    (capacity : Capacity) (k : Kept) (events : List Event) (event : Event) (last : Kept) → CountTo capacity k (events ++ event ∷ []) last →
    (before : Kept) × CountTo capacity k events before × Counts capacity before event last
last_count capacity k [] event last (next, c, e) = (k, refl, (let F : Kept → Type 0 = λ z. Counts capacity k event z in subst F (sym e) c))
last_count capacity k (first ∷ events) event last (next, c, more) = grind (arith, last_count capacity next events event last more)

-- a put that ends stored no more than it offered
within : (capacity : Capacity) (past : List Event) (k : Kept) (a : Agrees past k) (event : Event) (after : Kept) → Counts capacity k event after → StoresWithin event past
within capacity past k a event after ends = grind (arith, few, offered_is, none_passed)

module _ (capacity : Capacity) (events : List Event) (k : Kept) (proper : IsProper capacity) (counted : CountTo capacity (kept [] Free Rests false) events k) where
  pub sides_fit : SidesFit (reverse events) k
  sides_fit =
      let F : List Event → Type 0 = λ z. SidesFit z k in
      subst F (append-nil (reverse events)) (sides_behind capacity [] events (kept [] Free Rests false) k (refl, refl) counted)

  -- what is known about one more event
  pub tells : (event : Event) (after : Kept) → CountTo capacity (kept [] Free Rests false) (events ++ event ∷ []) after → IsToldOf event (reverse events) (offered_by k.put) after.put after.take
  tells event after more =
      let (before, there, now) = last_count capacity (kept [] Free Rests false) events event after more in
      let F : List Event → Type 0 = λ z. SidesFit z after in
      let sides : SidesFit (event ∷ reverse events) after =
      subst F (turned events event)
      (subst F (append-nil (reverse (events ++ event ∷ []))) (sides_behind capacity [] (events ++ event ∷ []) (kept [] Free Rests false) after (refl, refl) more)) in (
        offered_is (reverse events) k (agrees capacity events k proper counted),
        within capacity (reverse events) before (agrees capacity events before proper there) event after now,
        sides.0,
        sides.1,
      )
