-- Well-formed histories: each side has at most one call under way, a put offers an item and a take asks for one, and a call ends with an
-- end of its kind, within what it offered or asked for.
use Rattle.std.specs.Prelude.{◌≡◌, ℕ, ◌<◌, List, [], ◌∷◌, length}
use Rattle.queue_calls.specs.Calls.{Event, PutBegin, PutEnd, CloseBegin, CloseEnd, TakeBegin, TakeEnd, passed, CanReply}

-- what a side has under way: a put that offered this many items, a take that asks for this many
pub data UnderWay : Type 0 where
  NoCall : UnderWay
  APut : (offered : ℕ) → UnderWay
  AClose : UnderWay
  ATake : (wanted : ℕ) → UnderWay

-- what both sides have under way
pub record Sides : Type 0 where
  pub producer : UnderWay
  pub consumer : UnderWay

-- what both sides have under way, from its parts
abbrev pub sides : UnderWay → UnderWay → Sides
sides p c = record { producer = p; consumer = c }

-- an event in turn: it needs its side to have this under way, and results in that; the other side is unchanged
abbrev pub MovesSides : Sides → Event → Sides → Type 0
MovesSides s (PutBegin items) t = (s.producer ≡ NoCall) × (0 < length items) × (t ≡ sides (APut (length items)) s.consumer)
MovesSides s (PutEnd reply) t = (offered : ℕ) × (s.producer ≡ APut offered) × CanReply reply (passed 0 reply) offered × (t ≡ sides NoCall s.consumer)
MovesSides s CloseBegin t = (s.producer ≡ NoCall) × (t ≡ sides AClose s.consumer)
MovesSides s CloseEnd t = (s.producer ≡ AClose) × (t ≡ sides NoCall s.consumer)
MovesSides s (TakeBegin wanted) t = (s.consumer ≡ NoCall) × (0 < wanted) × (t ≡ sides s.producer (ATake wanted))
MovesSides s (TakeEnd reply) t =
    (wanted : ℕ) × (s.consumer ≡ ATake wanted) × CanReply reply (length (passed [] reply)) wanted × (t ≡ sides s.producer NoCall)

-- events one after the other
abbrev pub Turns : Sides → List Event → Sides → Type 0
Turns s [] t = t ≡ s
Turns s (event ∷ h) t = (next : Sides) × MovesSides s event next × Turns next h t

-- a history is well formed
abbrev pub CallsAreInTurn : List Event → Type 0
CallsAreInTurn h = (t : Sides) × Turns (sides NoCall NoCall) h t
