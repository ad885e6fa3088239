-- What a complete access of an end leaves unchanged.
use Rattle.std.proofs.Common.{Bool, ◌<◌, [], ◌∷◌, length, ap, arith}
use Rattle.ring_ends.proofs.Common.{length-append, Access, begin_of, ending_event, RingEnd, same_end}
use Rattle.ring_seats.specs.Steppers.{HasMade, IsSameEnd}

-- the end is the same except for its list, which is longer
module _ (e b : RingEnd) (a : Access) (v : Bool) (h : HasMade e b a v) where
  pub same : IsSameEnd e b
  same = same_end e h.0 b h.1.same h.2.same

  pub longer : length e.list < length b.list
  longer = omega (arith, ap length h.1.list, length-append e.list (begin_of e.side a ∷ []), ap length h.2.list, length-append (h.0).list (ending_event e.side a v ∷ []))
