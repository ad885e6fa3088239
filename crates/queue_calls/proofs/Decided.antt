-- What follows from an auditor's decision: it reads the event.
use Rattle.std.proofs.Common.{◌≡◌, ℕ, false, List, [], ◌∷◌, ◌++◌, Result, Ok, Err, sym, subst}
use Rattle.queue_calls.proofs.Common.{Capacity, Event, NoCall, sides, Keeps, sides_of, meant, PutTurn, Free}
use Rattle.queue_calls.specs.Audits.{Audits, Reads, RefusesEvent, HasMoreItems}
use Rattle.queue_calls.specs.Counting.{Kept, kept_by}
use Rattle.queue_calls.specs.Deciding.{Decides, RefusesCount}
use Rattle.queue_calls.specs.declared.auditors.CallAuditor.{CallAuditor}
use Rattle.queue_calls.specs.declared.faults.Fault.{Fault}
use Rattle.queue_calls.specs.declared.faults.Fault.TheVariants.{OutOfTurn, NotLinearizable, OutOfMemory}
use Rattle.queue_calls.proofs.TurnLemmas.{one_turn_more}
use Rattle.queue_calls.proofs.Keeping.{turn_away}
use Rattle.queue_calls.proofs.CountedHistories.{Stands, counts_keeps, stands_linear}
use Rattle.queue_calls.proofs.CountsFollow.{leads_on, leads_counts}
use Rattle.queue_calls.proofs.FullLists.{more_items}

-- what is refused, for a history after which this is kept
refuses : (room : ℕ) (capacity : Capacity) (h : List Event) (k : Kept) (event : Event) (fault : Fault) → Stands capacity h k → RefusesCount room capacity k event fault → RefusesEvent room fault capacity h event
refuses room capacity h k event OutOfTurn j r = (turn_away capacity h event k.inside k.put k.take k.shut j r).1
refuses room capacity h k event NotLinearizable j (turn, not) = (
  (turn.0, one_turn_more h event (sides NoCall NoCall) (sides_of k.put k.take) turn.0 j.turns turn.1),
  λ l.
      let (s, t, d, m) = leads_on capacity h k event j l in
      let (after, counts) = leads_counts capacity k j.put_ok s t d event m in
      not after counts,
)
refuses room capacity h k event OutOfMemory j (items, is, free, not_shut, some, full) =
    let K : PutTurn → Type 0 = λ z. Keeps capacity h k.inside z k.take k.shut in
    let j' : Keeps capacity h k.inside Free k.take false = subst (λ b. Keeps capacity h k.inside Free k.take b) not_shut (subst K free j) in
    let H : Event → Type 0 = λ z. HasMoreItems room capacity (h ++ z ∷ []) in
    ((items, is), subst H (sym is) (more_items capacity h k.inside items k.take j' some room full))

module _ {Q E : Type 0} (items : Q → List ℕ) (room : Q → ℕ) (old : CallAuditor Q E) (event : Event) (new : CallAuditor Q E) where
  -- what is kept now, after a history
  kept_now : (h : List Event) → new.capacity ≡ old.capacity → Stands (meant old.capacity) h (kept_by items new) → Audits items new h
  kept_now h same j = subst (λ z. Stands (meant z) h (kept_by items new)) (sym same) j

  pub decides_reads : (result : Result Unit Fault) → Decides items room old event result new → Reads items room old event result new
  decides_reads (Ok x) (same, counts) = (
    same,
    λ h j.
        let after : Stands (meant old.capacity) (h ++ event ∷ []) (kept_by items new) = counts_keeps (meant old.capacity) h (kept_by items old) j event (kept_by items new) counts in
        (kept_now (h ++ event ∷ []) same after, stands_linear (meant old.capacity) (h ++ event ∷ []) (kept_by items new) after),
  )
  decides_reads (Err fault) (same, (is, r)) = (
    same,
    λ h j.
        let S : Kept → Type 0 = λ z. Stands (meant old.capacity) h z in
        (kept_now h same (subst S (sym is) j), refuses (room old.inside) (meant old.capacity) h (kept_by items old) event fault j r),
  )
