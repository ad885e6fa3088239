-- The ends of a ring which own it together.
use Rattle.std.specs.Prelude.{◌≡◌, Option, Some, None, []}
use Rattle.bits_core.specs.declared.shapes.Shape.{Shape}
use Rattle.bits_core.specs.declared.events.Side.{Side}
use Rattle.bits_core.specs.declared.events.Side.TheVariants.{P, C}
use Rattle.ring_seats.specs.Ring.{Ring, RingEnd}
use Rattle.ring_seats.specs.Steppers.{StandsAs}
use Rattle.ring_ends.specs.Stored.{HasStored, HasTook}

-- the model of such an end: the end that it holds
abbrev pub held_end : Ring → Option RingEnd → RingEnd
held_end ring (Some e) = e
held_end ring None = record { ring = ring; side = P; list = []; known = []; loads = [] }

-- it holds one of this ring and side
abbrev pub IsHeldEnd : Side → Ring → Option RingEnd → Type 0
IsHeldEnd x ring (Some e) = (e.ring ≡ ring) × StandsAs x e
IsHeldEnd x ring None = ⊥

-- the ends of one ring of this shape which have made no call
pub record FreshEnds (shape : Shape) (p c : RingEnd) : Type 0 where
  pub shape_is : p.ring.shape ≡ shape
  pub one : c.ring ≡ p.ring
  pub putter : p ≡ record { ring = p.ring; side = P; list = []; known = []; loads = [] }
  pub taker : c ≡ record { ring = c.ring; side = C; list = []; known = []; loads = [] }
  pub puts : StandsAs P p
  pub takes : StandsAs C c
  pub stored : HasStored p []
  pub took : HasTook c []
