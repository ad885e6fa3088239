-- Well-formed histories: one more event, and the calls that are under way after a history.
use Rattle.std.proofs.Common.{◌≡◌, ◌+◌, Bool, true, false, List, [], ◌∷◌, ◌++◌, length, refl, sym, subst, ◌∙◌, arith, length-append}
use Rattle.queue_calls.proofs.Common.{Capacity, Operation, Event, PutBegin, PutEnd, CloseBegin, CloseEnd, TakeBegin, TakeEnd, Mark, Happens, Effect, Producer, Idle, Putting, FoundShut, Closing}
use Rattle.queue_calls.proofs.Common.{Consumer, Resting, Taking, FoundClosed, ProducerStep, ConsumerStep, Point, LeadTo, events_among, IsLinearizable, UnderWay, NoCall, APut, AClose, ATake, Sides}
use Rattle.queue_calls.proofs.Common.{sides, MovesSides, Turns, CallsAreInTurn}
use Rattle.queue_calls.proofs.Replies.{shut_within}

pub one_turn_more : (h : List Event) (e : Event) (s t u : Sides) → Turns s h t → MovesSides t e u → Turns s (h ++ e ∷ []) u
one_turn_more [] e s t u r l = (u, subst (λ z. MovesSides z e u) r l, refl)
one_turn_more (x ∷ h) e s t u (n, f, r) l = (n, f, one_turn_more h e n t u r l)

pub last_turn : (h : List Event) (e : Event) (s u : Sides) → Turns s (h ++ e ∷ []) u → (t : Sides) × Turns s h t × MovesSides t e u
last_turn [] e s u (n, f, r) = (s, refl, subst (λ z. MovesSides s e z) (sym r) f)
last_turn (x ∷ h) e s u (n, f, r) = let (t, a, b) = last_turn h e n u r in (t, (n, f, a), b)

same_turn : (e : Event) (s t u : Sides) → MovesSides s e t → MovesSides s e u → t ≡ u
same_turn e s t u a b = grind arith

pub same_turns : (h : List Event) (s t u : Sides) → Turns s h t → Turns s h u → t ≡ u
same_turns [] s t u a b = a ∙ sym b
same_turns (x ∷ h) s t u (m, f, a) (n, g, b) =
    let same : m ≡ n = same_turn x s m n f g in
    same_turns h n t u (subst (λ z. Turns z h t) same a) b

-- what both sides have under way at a point: a side that found the queue closed no longer determines the number of items of its call
abbrev HasPut : Producer → UnderWay → Type 0
HasPut Idle NoCall = Unit {0}
HasPut (Putting lacked done left) (APut offered) = done + length left ≡ offered
HasPut FoundShut (APut offered) = Unit {0}
HasPut (Closing done) AClose = Unit {0}
HasPut _ _ = ⊥

abbrev HasTake : Consumer → UnderWay → Type 0
HasTake Resting NoCall = Unit {0}
HasTake (Taking lacked took left) (ATake wanted) = length took + left ≡ wanted
HasTake FoundClosed (ATake wanted) = Unit {0}
HasTake _ _ = ⊥

idle_has : (call : UnderWay) → HasPut Idle call → call ≡ NoCall
idle_has call f = grind arith

closing_has : (done : Bool) (call : UnderWay) → HasPut (Closing done) call → call ≡ AClose
closing_has done call f = grind arith

-- an event leads from sides to sides in turn
record Next (e : Event) (s : Sides) (p : Producer) (c : Consumer) : Type 0 where
  to : Sides
  turn : MovesSides s e to
  put : HasPut p to.producer
  take : HasTake c to.consumer

module _ (s : Sides) (p p' : Producer) (c c' : Consumer) (hp : HasPut p s.producer) (hc : HasTake c s.consumer) where
  -- the producer's side is the event's result, and the consumer's is unchanged; and vice versa
  by_put : (e : Event) (call : UnderWay) → MovesSides s e (sides call s.consumer) → HasPut p' call → c' ≡ c → Next e s p' c'
  by_put e call turn f same = record { to = sides call s.consumer; turn = turn; put = f; take = subst (λ z. HasTake z s.consumer) (sym same) hc }

  by_take : (e : Event) (call : UnderWay) → MovesSides s e (sides s.producer call) → HasTake c' call → p' ≡ p → Next e s p' c'
  by_take e call turn f same = record { to = sides s.producer call; turn = turn; put = subst (λ z. HasPut z s.producer) (sym same) hp; take = f }

  has_p : (q : Producer) → p ≡ q → HasPut q s.producer
  has_p q e = subst (λ z. HasPut z s.producer) e hp

  left_p : (q : Producer) (call : UnderWay) → p' ≡ q → HasPut q call → HasPut p' call
  left_p q call e f = subst (λ z. HasPut z call) (sym e) f

  in_turn : (e : Event) → ProducerStep p (Happens e) p' → ConsumerStep c (Happens e) c' → Next e s p' c'
  in_turn (PutBegin items) (a, some, b) f = grind (arith, by_put, length, idle_has, has_p, left_p)
  in_turn (PutEnd reply) (was, b) f = grind (arith, length, has_p, shut_within, by_put, left_p)
  in_turn CloseBegin (a, b) f = by_put CloseBegin AClose (idle_has s.producer (has_p Idle a), refl) (left_p (Closing false) AClose b tt) f
  in_turn CloseEnd (a, b) f = by_put CloseEnd NoCall (closing_has true s.producer (has_p (Closing true) a), refl) (left_p Idle NoCall b tt) f
  in_turn (TakeBegin wanted) f (a, some, b) = grind (arith, by_take)
  in_turn (TakeEnd reply) f (was, b) = grind (arith, length, shut_within, by_take)

  -- an operation leaves each side's call unchanged
  same_sides : (d : Operation) → ProducerStep p (Effect d) p' → ConsumerStep c (Effect d) c' → HasPut p' s.producer × HasTake c' s.consumer
  same_sides d f f' = grind (arith, has_p, left_p, closing_has, length-append)

marks_in_turn :
    (capacity : Capacity) (marks : List Mark) (t : Point) → LeadTo capacity marks t →
    (s : Sides) × Turns (sides NoCall NoCall) (events_among marks) s × HasPut t.producer s.producer × HasTake t.consumer s.consumer
marks_in_turn capacity [] t l = grind arith
marks_in_turn capacity (Happens e ∷ marks) t (u, l, m) =
    let (s, turns, hp, hc) = marks_in_turn capacity marks u l in
    let n : Next e s t.producer t.consumer = in_turn s u.producer t.producer u.consumer t.consumer hp hc e m.producer m.consumer in
    (n.to, one_turn_more (events_among marks) e (sides NoCall NoCall) s n.to turns n.turn, n.put, n.take)
marks_in_turn capacity (Effect d ∷ marks) t (u, l, m) =
    let (s, turns, hp, hc) = marks_in_turn capacity marks u l in
    let (hp', hc') = same_sides s u.producer t.producer u.consumer t.consumer hp hc d m.producer m.consumer in
    (s, turns, hp', hc')

-- a history that is linearizable is well formed
pub linearizable_in_turn : (capacity : Capacity) (h : List Event) → IsLinearizable capacity h → CallsAreInTurn h
linearizable_in_turn capacity h (t, r) = grind (arith, marks_in_turn)
