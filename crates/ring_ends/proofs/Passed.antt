-- What came through a ring whose two ends are done.
use Rattle.std.proofs.Common.{◌≡◌, ℕ, Bool, List, length, ap, sym, subst, ◌∙◌, arith, append-nil}
use Rattle.ring_ends.proofs.Common.{Shape, P, C, Event, Ring, RingEnd}
use Rattle.bits_core.specs.Made.{clock, IsPrefix}
use Rattle.ring_core.specs.Counts.{first_count}
use Rattle.ring_core.specs.Items.{items_put, items_taken, IsTold}
use Rattle.ring_core.specs.RingLaw.{IsRun}
use Rattle.ring_core.proofs.LawLemmas.{ring_law_closed, ring_law_prefix, takes_are_read, whole_calls_count_puts, whole_calls_count_takes}
use Rattle.ring_core.proofs.Machines.Following.{length-events}
use Rattle.ring_core.proofs.Machines.TakeCalls.{closed_tells as tells_true}
use Rattle.ring_core.proofs.OwnEvents.{clock_end as clock_at_end}
use Rattle.ring_seats.specs.Calls.{HasTakes}
use Rattle.ring_ends.specs.Meetings.{Meets, TellsAre}
use Rattle.ring_ends.specs.Stored.{HasStored, HasTook, TakesAreAll, TakesArePrefix}

module _ (p c : RingEnd) (same : p.ring ≡ c.ring) (h : List Event) (meets : Meets p c h) where
  abbrev shape : Shape
  shape = p.ring.shape

  module _ (put taken : List ℕ) (ps : HasStored p put) (ts : HasTook c taken) where
    pub takes_here : HasTakes p.ring.shape c.list ts.calls
    takes_here = subst (λ (r : Ring). HasTakes r.shape c.list ts.calls) (sym same) ts.list_is

    run : IsRun shape h ps.calls ts.calls
    run = grind (arith, append-nil)

    put_is : items_put shape first_count ps.calls.puts (clock P h (length h)) ≡ put
    put_is = ap (items_put shape first_count ps.calls.puts) (clock_at_end P h) ∙ (whole_calls_count_puts shape h ps.calls ps.list_is.are (meets.put ∙ ps.list_is.list_is)).0 ∙ ps.items_are

    taken_is : items_taken shape first_count ts.calls.takes (clock C h (length h)) ≡ taken
    taken_is = ap (items_taken shape first_count ts.calls.takes) (clock_at_end C h) ∙ (whole_calls_count_takes shape h ts.calls takes_here.are (meets.taken ∙ takes_here.list_is)).0 ∙ ts.items_are

  -- by the law of the ring
  pub takes_are_prefix : TakesArePrefix p c
  takes_are_prefix put taken ps ts = subst (λ (z : List ℕ × List ℕ). IsPrefix z.0 z.1) (λ i. (taken_is put taken ps ts i, put_is put taken ps ts i)) (ring_law_prefix shape h ps.calls ts.calls (run put taken ps ts) (length h))

  -- and once a take has returned Closed, all came through
  pub takes_are_all : (told : Bool) → TellsAre c.ring.shape c.list told → TakesAreAll p c told
  takes_are_all told tells put taken ps ts is =
      let one : ts.calls ≡ tells.calls = takes_are_read c.ring.shape ts.calls tells.calls ts.list_is.are tells.list_is.are (sym ts.list_is.list_is ∙ tells.list_is.list_is) in
      let told : IsTold shape ts.calls (clock C h (length h)) = grind (arith, tells_true, clock_at_end, length-events) in
      let all = ring_law_closed shape h ps.calls ts.calls (run put taken ps ts) (length h) (length h) told (omega arith) in
      sym (taken_is put taken ps ts) ∙ all.1 ∙ sym all.0 ∙ put_is put taken ps ts
