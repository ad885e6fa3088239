-- What came through once both ends are done.
use Rattle.std.proofs.Common.{◌≡◌, ℕ, zero, suc, ◌+◌, ◌≤◌, List, [], ◌∷◌, ◌++◌, length, slice_index, take, refl, ap, sym, subst, ◌∙◌, arith, append_assoc, ◌%◌, ◌<◌, ◌-◌, drop, Result, Ok, Err}
use Rattle.std.specs.Prelude.{IfOk}
use Rattle.std.proofs.lemmas.List.{length-drop, length-take-le, take-append-drop}
use Rattle.std.proofs.Math.Seq.{take-add}
use Rattle.bits_core.specs.declared.shapes.Shape.{Shape}
use Rattle.bits_core.specs.declared.events.Event.{Event}
use Rattle.bits_core.specs.Shape.{AllFit, batch_of, modulus_of}
use Rattle.bits_core.specs.Made.{IsPrefix}
use Rattle.bits_core.proofs.Fitting.{AllFit-take, AllFit-drop}
use Rattle.ring_core.specs.declared.replies.PutReply.{PutReply}
use Rattle.ring_core.specs.declared.replies.PutReply.TheVariants as single
use Rattle.ring_core.specs.declared.replies.TakeReply.{TakeReply}
use Rattle.ring_core.specs.Puts.{IsBatch}
use Rattle.ring_core.specs.ConsumerCalls.{reply_items}
use Rattle.ring_run.specs.Ring.{RingEnd}
use Rattle.ring_run.specs.Meetings.{Meets}
use Rattle.ring_run.specs.Ends.{HasPuts, HasPut, HasTakes, HasTaken}
use Rattle.ring_run.specs.Counters.{ShowsWords}
use Rattle.ring_run.specs.Laws.{PutsAreShown, TakesAreShown}
use Rattle.ring_run.specs.Steppers.{IsSameEnd}
use Rattle.ring_run.specs.Stored.{HasStored, HasTook, item_stored}
use Rattle.ring_ends.proofs.Passed.{takes_here}
use Rattle.ring_ends.proofs.StoredItems.{none_stored, none_took, put_stores, take_takes}
pub use Rattle.ring_core.proofs.Machines.ConsumerMoves.{item_fits as fit_snoc}
pub use Rattle.ring_core.proofs.Recorded.RecordedStates.{longer as then_begins}

-- ---- lists

-- a chunk of the items is a batch
pub chunk : (shape : Shape) (items : List ℕ) (k next : ℕ) → AllFit shape items → k < next → next ≤ length items → next ≤ k + batch_of shape → IsBatch shape (take (next - k) (drop k items))
chunk shape items k next fit some within few =
    let left : k + length (drop k items) ≡ length items = omega (arith, some, within, length-drop k items) in
    let long : length (take (next - k) (drop k items)) ≡ next - k = length-take-le (next - k) (drop k items) (omega (arith, some, within, left)) in
    record {
      some = omega (arith, long, some);
      few = omega (arith, long, some, few);
      fit = AllFit-take shape (next - k) (drop k items) (AllFit-drop shape k items fit);
    }

first_first : (r n : ℕ) (xs : List ℕ) → r ≤ length (take n xs) → take r (take n xs) ≡ take r xs
first_first zero n xs le = refl
first_first (suc r) zero xs le = absurd (omega (arith, le))
first_first (suc r) (suc n) [] le = refl
first_first (suc r) (suc n) (x ∷ xs) le = ap (λ (l : List ℕ). x ∷ l) (first_first r n xs (omega (arith, le)))

-- the first k items, and the first r of the chunk after them
pub chunk_first : (items : List ℕ) (k next r : ℕ) → r ≤ length (take (next - k) (drop k items)) → take k items ++ take r (take (next - k) (drop k items)) ≡ take (k + r) items
chunk_first items k next r le = ap (λ (l : List ℕ). take k items ++ l) (first_first r (next - k) (drop k items) le) ∙ sym (take-add k r items)

pub chunk_within : (items : List ℕ) (k next r : ℕ) → k ≤ next → next ≤ length items → r ≤ length (take (next - k) (drop k items)) → k + r ≤ length items
chunk_within items k next r some within le =
    let left : k + length (drop k items) ≡ length items = omega (arith, some, within, length-drop k items) in
    let long : length (take (next - k) (drop k items)) ≡ next - k = length-take-le (next - k) (drop k items) (omega (arith, some, within, left)) in
    omega (arith, long, some, within, le)

-- a prefix of the first items is a prefix of all
pub of_first : (n : ℕ) (taken items : List ℕ) → IsPrefix taken (take n items) → IsPrefix taken items
of_first n taken items (rest, e) = (rest ++ drop n items, sym (append_assoc taken rest (drop n items)) ∙ ap (λ (l : List ℕ). l ++ drop n items) e ∙ take-append-drop n items)

-- ---- results and ends

pub of_ok : {A E : Type 0} (r : Result A E) (a : A) (X : Type 0) → r ≡ Ok a → IfOk r (λ _. X) → X
of_ok (Ok b) a X is x = x
of_ok (Err e) a X is x = absurd (cc)

-- ---- both ends are done

module _ (p c : RingEnd) (same : p.ring ≡ c.ring) (h : List Event) (meets : Meets p c h) (put taken : List ℕ) (ps : HasStored p put) (ts : HasTook c taken) where
  abbrev shape : Shape
  shape = p.ring.shape

  -- by the words that remain of the ring
  module _ (words : List ℕ) (shows : ShowsWords p.ring.shape words h) where
    pub counts_put : PutsAreShown → slice_index words 1 ≡ length put % modulus_of p.ring.shape
    counts_put law =
        law shape words h ps.calls shows (subst (λ (l : List Event). HasPuts shape l ps.calls) (sym meets.put) ps.list_is) ∙
        ap (λ (l : List ℕ). length l % modulus_of shape) ps.items_are

    pub counts_taken : TakesAreShown → slice_index words 2 ≡ length taken % modulus_of p.ring.shape
    counts_taken law =
        law shape words h ts.calls shows (subst (λ (l : List Event). HasTakes shape l ts.calls) (sym meets.taken) (takes_here p c same h meets put taken ps ts)) ∙
        ap (λ (l : List ℕ). length l % modulus_of shape) ts.items_are

-- ---- first calls

-- an end that has the same ring, and an empty list
emptied : RingEnd → RingEnd
emptied e = record { ring = e.ring; side = e.side; list = []; known = e.known; loads = e.loads }

same_end : (e : RingEnd) → IsSameEnd (emptied e) e
unfolding emptied
same_end e = record { ring = refl; side = refl; known = refl }

-- what a first put of an item stored, and a first take took
pub first_put : (e : RingEnd) (item : ℕ) (reply : PutReply) → HasPut e.ring.shape item [] e.list reply → HasStored e (item_stored reply item)
unfolding emptied
first_put e item reply h = put_stores (emptied e) e item reply (same_end e) h [] (none_stored (emptied e) refl)

pub first_take : (e : RingEnd) (reply : TakeReply) → HasTaken e.ring.shape [] e.list reply → HasTook e (reply_items reply)
unfolding emptied
first_take e reply h = take_takes (emptied e) e reply (same_end e) h [] (none_took (emptied e) refl)

pub stored_first : (item : ℕ) (reply : PutReply) → IsPrefix (item_stored reply item) (item ∷ [])
stored_first item single.Stored = ([], refl)
stored_first item single.Full = (item ∷ [], refl)
stored_first item single.Closed = (item ∷ [], refl)
