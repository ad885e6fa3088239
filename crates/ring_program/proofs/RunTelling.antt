-- Which part of a run is not written yet, and what is written with one more event.
use Rattle.std.proofs.Common.{rules, ◌≡◌, ◌∙◌, ℕ, ◌+◌, ◌-◌, ◌≤◌, Bool, true, false, not, min, Bor, List, [], ◌∷◌, ◌++◌, length, take, drop, refl, ap, ap₂, sym, subst, append_assoc, arith}
use Rattle.std.proofs.lemmas.List.{append-nil, drop-drop, take-append-drop, take_min}
use Rattle.std.proofs.lemmas.List.Sums.{sum_by-cons, sum_by_push}
use Rattle.std.proofs.lemmas.Slice.Eq.{bytes_eq-Decides}
use Rattle.std.proofs.lemmas.Grind.{flat_map-append}
use Rattle.std.specs.List.{flat_map, sum_by}
use Rattle.std.specs.Str.{bytes_eq}
use Rattle.bits_core.specs.declared.shapes.Shape.{Shape}
use Rattle.queue_calls.specs.Calls.{Event, PutBegin, TakeEnd, Passed}
use Rattle.ring_program.specs.RunRecordings.{AreOfRun, IsOfRun, RunCounts, TellAllBut, counts_with, stored_with}
use Rattle.ring_program.specs.Untold.{TakesOff}
use Rattle.ring_program.specs.declared.run_recordings.Untold.{Untold}

un_not : (b : Bool) → not b ≡ false → b ≡ true
un_not true e = refl
un_not false e = sym e

-- items were compared with the next ones
pub next_items : (offered items : List ℕ) (batch n : ℕ) (differ : Bool) → n ≡ min batch (length items) → differ ≡ not (bytes_eq offered (take n items)) → differ ≡ false
    → offered ≡ take batch items
next_items offered items batch n differ n_is is same = grind (arith, bytes_eq-Decides, un_not, take_min)

pub front_items : (items taken left : List ℕ) → bytes_eq (take (length items) taken) items ≡ true → left ≡ drop (length items) taken → taken ≡ items ++ left
front_items items taken left same is = grind (arith, take-append-drop, ap₂, bytes_eq-Decides)

-- a take ended with the next items
pub took : (u : Untold) (items : List ℕ) (left : Bor (List ℕ)) → u.taken.now ≡ items ++ left.now → TakesOff u (TakeEnd (Passed items true)) (record u { taken = left })
took u items left is = grind (arith, append-nil, rules)

-- a put began
pub offered_next : (u : Untold) (offered : List ℕ) (calls : ℕ) → 1 ≤ u.calls → calls ≡ u.calls - 1 → TakesOff u (PutBegin offered) (record u { calls = calls })
offered_next u offered calls some is = record { items = refl; tells = search (rules, arith) }

-- ---- one more event

tells_more : (f : Event → ℕ) (events : List Event) (event : Event) (left mid all : ℕ) → sum_by f events + mid ≡ all → sum_by f (event ∷ []) + left ≡ mid
    → sum_by f (events ++ event ∷ []) + left ≡ all
tells_more f events event left mid all before now = omega (arith, sum_by_push f events event)

pub tell_more : (left mid all : RunCounts) (events : List Event) (event : Event) → TellAllBut mid all events → TellAllBut left mid (event ∷ [])
    → TellAllBut left all (events ++ event ∷ [])
tell_more left mid all events event before now = record {
  put = tells_more stored_with events event _ _ _ before.put now.put;
  calls = tells_more (λ e. (counts_with e).calls) events event _ _ _ before.calls now.calls;
  full = tells_more (λ e. (counts_with e).full) events event _ _ _ before.full now.full;
  closes = tells_more (λ e. (counts_with e).closes) events event _ _ _ before.closes now.closes;
  takes = tells_more (λ e. (counts_with e).takes) events event _ _ _ before.takes now.takes;
  empty = tells_more (λ e. (counts_with e).empty) events event _ _ _ before.empty now.empty;
  told = tells_more (λ e. (counts_with e).told) events event _ _ _ before.told now.told;
  taken = ap (λ (xs : List ℕ). xs ++ left.taken) (flat_map-append (λ e. (counts_with e).taken) events (event ∷ []))
      ∙ append_assoc (flat_map (λ e. (counts_with e).taken) events) (flat_map (λ e. (counts_with e).taken) (event ∷ [])) left.taken
      ∙ ap (λ (xs : List ℕ). flat_map (λ e. (counts_with e).taken) events ++ xs) now.taken ∙ before.taken;
}

pub are_more : (shape : Shape) (left : List ℕ) (events : List Event) (event : Event) → AreOfRun shape left events → IsOfRun shape (drop (sum_by stored_with events) left) event
    → AreOfRun shape left (events ++ event ∷ [])
are_more shape left [] event are is = (is, tt)
are_more shape left (e ∷ events) event are is =
    let same : drop (sum_by stored_with (e ∷ events)) left ≡ drop (sum_by stored_with events) (drop (stored_with e) left) =
    ap (λ (n : ℕ). drop n left) (sum_by-cons stored_with e events) ∙ sym (drop-drop (sum_by stored_with events) (stored_with e) left) in
    (are.0, are_more shape (drop (stored_with e) left) events event are.1 (subst (λ (xs : List ℕ). IsOfRun shape xs event) same is))
