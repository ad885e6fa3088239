use Rattle.std.proofs.Common.{take}
use Rattle.ring_page.specs.Order.{HaveCome, capacity_in}
use Rattle.ring_page.proofs.orders.page_order.Given as goal

-- the marks so far have come
abbrev pub invariant-loop-place : goal.invariant-loop-place
invariant-loop-place l = HaveCome l.numbers l.items (take l.place l.marks) (capacity_in l.holds) l.points l.begun
