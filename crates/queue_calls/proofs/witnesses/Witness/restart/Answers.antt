use Rattle.std.proofs.Common.{◌≡◌, ℕ, Bool, false, List, [], ◌-◌, refl, sym, ap, ◌∙◌, arith}
use Rattle.queue_calls.proofs.Common.{drop_all, Capacity, queue, Idle, Resting, point, kept, items_of, FitsPut, Keeps, meant, PutTurn, Free, Offers, Late, Closes, TakeTurn, Rests}
use Rattle.queue_calls.proofs.Points.{start}
use Rattle.queue_calls.proofs.witnesses.Witness.restart.Goals as goal
use Rattle.queue_calls.proofs.CountsFollow.{resting_tells as rests}

-- what is kept when there is no event yet
free : (capacity : Capacity) (put : PutTurn) (shut : Bool) → FitsPut capacity put shut Idle false → (put ≡ Free) × (shut ≡ false)
free capacity Free shut f = (refl, sym f)
free capacity (Offers offered before) shut f = absurd f
free capacity (Late offered) shut f = absurd f
free capacity (Closes again) shut f = absurd f

at_start :
    (capacity : Capacity) (inside items : List ℕ) (put : PutTurn) (take : TakeTurn) (shut : Bool) → Keeps capacity [] inside put take shut → items ≡ [] →
    kept items put take shut ≡ kept [] Free Rests false
at_start capacity inside items put take shut k none =
    let d = k.complete (point (queue [] false) Idle Resting) (start capacity) in
    let p : (put ≡ Free) × (shut ≡ false) = free capacity put shut d.producer in
    let t : take ≡ Rests = rests take (queue [] false) d.consumer in
    cc

pub returns-clause-kept : goal.returns-clause-kept
returns-clause-kept g c =
    let a = c.restart.new.self in
    let entries = g.S.Offered.Fifo.items a.inside.list in
    record {
      proper = c.requires;
      capacity_is = ap meant c.restart.ensures.capacity;
      counted = at_start (meant a.capacity) (items_of entries) (items_of entries) a.put a.take a.shut c.restart.ensures.reads (ap items_of c.restart.ensures.entries);
      inside = c.restart.ensures.entries;
      taken = c.truncate.ensures.items ∙ sym (drop_all (0 - c.args.self.now.limit) [] (omega arith));
      taken_last = refl;
      ended = refl;
      told = refl;
      put_at = refl;
      stored_at = refl;
    }
