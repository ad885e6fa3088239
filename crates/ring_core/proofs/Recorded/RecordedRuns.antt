-- The recorded calls of every run of the ring can be counted, one event after the other.
use Rattle.std.proofs.Common.{◌≡◌, ◌⊎◌, inl, inr, ℕ, suc, ◌<◌, false, List, [], ◌∷◌, ◌++◌, refl, arith}
use Rattle.ring_core.proofs.Common.{exactly, Kept, kept, AreCounted, Side, P, C, Shape, capacity_of, first_count, Puts, Takes, IsRun, AreWanted}
use Rattle.queue_calls.specs.Calls as calls
use Rattle.queue_calls.specs.declared.turns.PutTurn.TheVariants.{Free}
use Rattle.queue_calls.specs.declared.turns.TakeTurn.TheVariants.{Rests}
use Rattle.bits_core.specs.declared.events.Event.{Event}
use Rattle.ring_core.specs.Recorded.{put_told, take_told, by_side, calls_told, recorded, AreOffered}
use Rattle.ring_core.proofs.OverSpans.RingOfSpans.{LawOfSpans}
use Rattle.ring_core.proofs.Recorded.RecordedCalls.{puts_first, takes_first}
use Rattle.ring_core.proofs.Recorded.RecordedMoments.{Now, move_on}
use Rattle.ring_core.proofs.Recorded.RecordedPuts.{put_step}
use Rattle.ring_core.proofs.Recorded.RecordedTakes.{take_step}

side_of : (s : Side) → (s ≡ P) ⊎ (s ≡ C)
side_of s = grind arith

-- what the events record if the first is of this side
abbrev told_by : (f g : ℕ → List calls.Event) → (p q : ℕ) → List Event → Side → List calls.Event
told_by f g p q rest s = by_side s (f p) (g q) ++ calls_told f g (by_side s (suc p) p) (by_side s q (suc q)) rest

-- every take asks for an item, including the one that returns Closed
module _ (shape : Shape) (offers : ℕ → List ℕ) (wants : ℕ → ℕ) (h : List Event) (puts : Puts) (takes : Takes) (run : IsRun shape h puts takes)
    (law : LawOfSpans shape h puts takes) (some_wanted : (j : ℕ) → 0 < wants j) where
  abbrev f : ℕ → List calls.Event
  f = put_told shape offers 0 first_count puts.puts puts.closes

  abbrev g : ℕ → List calls.Event
  g = take_told shape wants 0 first_count takes.takes takes.end

  goes :
      (rest : List Event) (t p q : ℕ) (k : Kept) → Now shape offers wants h puts takes t p q rest k → AreCounted (exactly (capacity_of shape)) k (calls_told f g p q rest)
  goes [] t p q k now = tt
  goes (e ∷ rest) t p q k now = elim (side_of e.side) [
    | inl by ↦ (
        let s = put_step shape offers wants h puts takes run law t p q e rest k by now in
        grind (arith, move_on, goes rest (suc t) (suc p) q s.after s.now))
    | inr by ↦ (
        let s = take_step shape offers wants h puts takes run law some_wanted t p q e rest k by now in
        grind (arith, move_on, goes rest (suc t) p (suc q) s.after s.now))
  ]

  pub recorded_are_counted : AreOffered shape offers 0 0 puts.puts → AreWanted shape wants 0 0 takes.takes →
      AreCounted (exactly (capacity_of shape)) (kept [] Free Rests false) (recorded shape offers wants h puts takes)
  recorded_are_counted offered wanted =
      goes h 0 0 0 (kept [] Free Rests false)
      (record {
        stored = [];
        left = [];
        taken = [];
        moment = grind arith;
        put = inl (record { count = first_count; rest = puts.puts; behind = puts_first shape offers puts run.puts_follow.are offered; left_is = refl; put_is = refl });
        take = inl (record { count = first_count; rest = takes.takes; behind = takes_first shape wants takes run.takes_follow.are wanted; take_is = refl });
        items = refl;
        shut = λ s. absurd (cc);
        closed = λ l. absurd (omega (arith, l));
      })
