-- What the law of the ring implies about a relay.
use Rattle.std.proofs.Common.{Bool, false, List, ap, append-nil, arith, eqb-true, length, subst, sym, take, true, ℕ, ◌+◌, ◌==◌, ◌∙◌, ◌≡◌, ◌≤◌}
use Rattle.std.proofs.lemmas.List.{length-append, length-take-le}
use Rattle.std.proofs.Math.Seq.{take-length}
use Rattle.bits_core.specs.declared.shapes.Shape.{Shape}
use Rattle.bits_core.specs.declared.events.Side.TheVariants.{P, C}
use Rattle.bits_core.specs.declared.events.Event.{Event}
use Rattle.bits_core.specs.Shape.{capacity_of}
use Rattle.bits_core.specs.Made.{subhistory, clock, IsPrefix}
use Rattle.ring_core.specs.Counts.{first_count}
use Rattle.ring_core.specs.Puts.{Puts}
use Rattle.ring_core.specs.Takes.{Takes}
use Rattle.ring_core.specs.Items.{items_put, items_taken}
use Rattle.ring_core.specs.Whole.{WholePutsCount, WholeTakesCount}
use Rattle.ring_core.specs.RingLaw.{IsRun, InEveryRun, IsWithin, TakenArePrefix, ClosedIsTrue}
use Rattle.ring_seats.specs.Ring.{Ring, RingEnd}
use Rattle.ring_ends.specs.Meetings.{Meets}
use Rattle.ring_seats.specs.Programs.{IsRing}
use Rattle.ring_core.specs.Linear.{EachReadingIsLinearizable}
use Rattle.ring_run.specs.Relays.{HasMadePuts, HasRelayedPuts, HasRelayedTakes, HasTakenMore, IsRelayed, PutsAre, TakesAre}
use Rattle.ring_ends.proofs.Lists.{length-events_of}
use Rattle.ring_core.proofs.OwnEvents.{clock_end as clock_at_end}
use Rattle.ring_core.proofs.Machines.TakeCalls.{closed_tells}

-- one history of these puts and takes
module _ (shape : Shape) (items : List ℕ) (put made full : ℕ) (closes : Bool) (limit : ℕ) (taken : List ℕ) (made_takes empty : ℕ) (told : Bool) (h : List Event) (ring : IsRing shape h)
    (ps : PutsAre shape (subhistory P h) items put made full closes) (ts : TakesAre shape (subhistory C h) limit taken made_takes empty told) where
  run_of : IsRun shape h ps.calls ts.calls
  run_of = grind (arith, append-nil)

  put_of : WholePutsCount → items_put shape first_count ps.calls.puts (clock P h (length h)) ≡ take put items
  put_of count = ap (items_put shape first_count ps.calls.puts) (clock_at_end P h) ∙ (count shape h ps.calls ps.list_is.are ps.list_is.list_is).0 ∙ ps.in_order

  taken_of : WholeTakesCount → items_taken shape first_count ts.calls.takes (clock C h (length h)) ≡ taken
  taken_of count = ap (items_taken shape first_count ts.calls.takes) (clock_at_end C h) ∙ (count shape h ts.calls ts.list_is.are ts.list_is.list_is).0 ∙ ts.taken_is

  prefix_of : InEveryRun TakenArePrefix → WholePutsCount → WholeTakesCount → IsPrefix taken (take put items)
  prefix_of prefix puts_count takes_count = subst (λ (z : List ℕ × List ℕ). IsPrefix z.0 z.1) (λ i. (taken_of takes_count i, put_of puts_count i)) (prefix shape h ps.calls ts.calls run_of (length h))

  -- no more are taken than there are items
  few_of : InEveryRun TakenArePrefix → WholePutsCount → WholeTakesCount → length taken ≤ length items
  few_of prefix puts_count takes_count = grind (arith, prefix_of prefix puts_count takes_count, length-append, length-take-le put items ps.within)

module _ (within : InEveryRun IsWithin) (prefix : InEveryRun TakenArePrefix) (closed_law : InEveryRun ClosedIsTrue) (puts_count : WholePutsCount) (takes_count : WholeTakesCount)
    (shape : Shape) (items : List ℕ) (most_puts most_takes put made full : ℕ) (taken : List ℕ) (made_takes empty : ℕ) (closed : Bool) (r : IsRelayed shape items most_puts most_takes put made full taken made_takes empty closed) where
  abbrev h : List Event
  h = r.history

  abbrev puts : Puts
  puts = r.puts.puts.calls

  abbrev takes : Takes
  takes = r.takes.takes.calls

  run : IsRun shape h puts takes
  run = run_of shape items put made full (put == length items) most_takes taken made_takes empty closed h r.ring r.puts.puts r.takes.takes

  put_is : items_put shape first_count puts.puts (clock P h (length h)) ≡ take put items
  put_is = put_of shape items put made full (put == length items) most_takes taken made_takes empty closed h r.ring r.puts.puts r.takes.takes puts_count

  taken_is : items_taken shape first_count takes.takes (clock C h (length h)) ≡ taken
  taken_is = taken_of shape items put made full (put == length items) most_takes taken made_takes empty closed h r.ring r.puts.puts r.takes.takes takes_count

  pub relayed_prefix : IsPrefix taken (take put items)
  relayed_prefix = prefix_of shape items put made full (put == length items) most_takes taken made_takes empty closed h r.ring r.puts.puts r.takes.takes prefix puts_count takes_count

  pub relayed_all : closed ≡ true → (put ≡ length items) × (taken ≡ items)
  relayed_all e = grind (arith, closed_tells, clock_at_end, length-events_of, run, eqb-true, take-length, taken_is, put_is)

  pub relayed_within : put ≤ length taken + capacity_of shape
  relayed_within =
      let w = within shape h puts takes run (length h) in
      let p = (puts_count shape h puts r.puts.puts.list_is.are r.puts.puts.list_is.list_is).1 in
      grind (arith, clock_at_end, length-take-le)

-- what a relay's ends and their meeting imply about one history
pub relayed :
    (shape : Shape) (items : List ℕ) (most_puts most_takes put made full : ℕ) (taken : List ℕ) (made_takes empty : ℕ) (closed : Bool) (p c : RingEnd) → p.ring.shape ≡ shape → c.ring.shape ≡ shape → (h : List Event) → Meets p c h →
    EachReadingIsLinearizable p.ring.shape h → HasRelayedPuts p.ring.shape p.list items most_puts put made full → HasRelayedTakes c.ring.shape c.list most_takes taken made_takes empty closed → IsRelayed shape items most_puts most_takes put made full taken made_takes empty closed
relayed shape items most_puts most_takes put made full taken made_takes empty closed p c p_is c_is h m linear ps ts = grind arith

-- in one ring no more items are taken than there are to put
pub none_past :
    InEveryRun TakenArePrefix → WholePutsCount → WholeTakesCount → (items : List ℕ) (most_puts most_takes : ℕ) (p c : RingEnd) → c.ring ≡ p.ring → (h : List Event) → Meets p c h →
    HasMadePuts p.ring.shape p.list items most_puts → HasTakenMore c.ring.shape c.list most_takes (length items) → ⊥
none_past prefix puts_count takes_count items most_puts most_takes p c same h m made more =
    let shape : Shape = p.ring.shape in
    let ps : PutsAre shape (subhistory P h) items made.put made.made made.full (made.put == length items) = subst (λ l. PutsAre shape l items made.put made.made made.full (made.put == length items)) (sym m.put) made.puts.puts in
    let ts : TakesAre shape (subhistory C h) most_takes more.taken more.made more.empty false = subst (λ (z : Ring × List Event). TakesAre z.0.shape z.1 most_takes more.taken more.made more.empty false) (λ i. (same i, sym m.taken i)) more.takes in
    absurd (omega (arith, more.more, few_of shape items made.put made.made made.full (made.put == length items) most_takes more.taken more.made more.empty false h m.ring ps ts prefix puts_count takes_count))
