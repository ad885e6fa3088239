-- Histories of calls that are fed event by event.
use Rattle.std.proofs.Common.{◌≡◌, Bor, ℕ, suc, ◌+◌, ◌<◌, Some, List, [], ◌∷◌, ◌++◌, map, take, length, get_or, ap, sym, subst, ◌∙◌}
use Rattle.std.proofs.lemmas.List.{length-map, map-append, take-map, take_more}
use Rattle.std.proofs.Math.Numerals.{suc-eq-add-one}
use Rattle.queue_calls.specs.Audits.{HasMoreItems}
use Rattle.queue_calls.specs.Calls.{IsLinearizable}
use Rattle.queue_calls.specs.Told.{meant, told}
use Rattle.queue_calls.specs.declared.capacities.Capacity.{Capacity}
use Rattle.queue_calls.specs.declared.events.CallEvent.{CallEvent}
use Rattle.uses.specs.Judged.{JudgesCalls}

-- an event with its items in lists
abbrev pub Event : Type 0
Event = CallEvent (Bor (List ℕ)) (Bor (List ℕ))

-- one more event is read after those before it
pub one_more : (events : List Event) (number : ℕ) (d : Event) → number < length events → map told (take (number + 1) events) ≡ map told (take number events) ++ told (get_or events number d) ∷ []
one_more events number d within = ap (map told) (take_more events number d within) ∙ map-append told (take number events) (get_or events number d ∷ [])

-- the event at which a history stops being linearizable
pub stops_there :
    (of capacity : Capacity) (events : List Event) (number : ℕ) (d : Event) → of ≡ capacity → number < length events → IsLinearizable (meant capacity) (map told (take number events)) →
    (IsLinearizable (meant of) (map told (take number events) ++ told (get_or events number d) ∷ []) → ⊥) → JudgesCalls (meant capacity) (map told events) (Some number)
stops_there of capacity events number d same within so_far stops =
    let now : take (suc number) (map told events) ≡ map told (take number events) ++ told (get_or events number d) ∷ [] =
    take-map told (suc number) events ∙ ap (λ n. map told (take n events)) (suc-eq-add-one number) ∙ one_more events number d within in (
      rw length-map within,
      subst (IsLinearizable (meant capacity)) (sym (take-map told number events)) so_far,
      λ lin. stops (subst (λ (k : Capacity). IsLinearizable (meant k) (map told (take number events) ++ told (get_or events number d) ∷ [])) (sym same) (subst (IsLinearizable (meant capacity)) now lin)),
    )

-- the event at which there are more items than slots
pub outgrown :
    (of capacity : Capacity) (events : List Event) (number : ℕ) (d : Event) (now slots : ℕ) → of ≡ capacity → now ≡ slots → number < length events →
    HasMoreItems now (meant of) (map told (take number events) ++ told (get_or events number d) ∷ []) → HasMoreItems slots (meant capacity) (take (number + 1) (map told events))
outgrown of capacity events number d now slots same room within more =
    let first : take (number + 1) (map told events) ≡ map told (take number events) ++ told (get_or events number d) ∷ [] = take-map told (number + 1) events ∙ one_more events number d within in
    subst (λ z. HasMoreItems slots (meant capacity) z) (sym first)
    (subst (λ (k : Capacity). HasMoreItems slots (meant k) (map told (take number events) ++ told (get_or events number d) ∷ [])) same
    (subst (λ n. HasMoreItems n (meant of) (map told (take number events) ++ told (get_or events number d) ∷ [])) room more))
