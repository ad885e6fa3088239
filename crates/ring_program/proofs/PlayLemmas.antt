-- The history of a play is one that a trace may have.
use Rattle.std.proofs.Common.{◌≡◌, ◌≤◌, ℕ, suc, Some, List, [], ◌∷◌, ◌++◌, true, length, inl, inr, refl, arith}
use Rattle.std.specs.Prelude.{slice_get}
use Rattle.std.proofs.lemmas.List.Elements.{All-cons, All-nil}
use Rattle.bits_core.specs.Shape.{AreOfShape, belongs}
use Rattle.bits_core.specs.declared.events.Event.{Event}
use Rattle.bits_core.specs.declared.events.Side.{Side}
use Rattle.bits_core.specs.declared.shapes.Shape.{Shape}
use Rattle.trace_text.specs.declared.traces.TheConstants.{EVENT_LIMIT}
use Rattle.ring_player.specs.Plays.{AreMoves, Plays}
use Rattle.ring_script.specs.Content.{Content}

each_of_shape : (shape : Shape) (h : List Event) → ((p : ℕ) (e : Event) → slice_get h p ≡ Some e → belongs shape e.bit ≡ true) → AreOfShape shape h
each_of_shape shape [] each = All-nil (λ e. belongs shape e.bit ≡ true)
each_of_shape shape (x ∷ h) each = All-cons (λ e. belongs shape e.bit ≡ true) x h (each 0 x refl) (each_of_shape shape h (λ p e at. each (suc p) e at))

-- its events are of the shape
pub play_of_shape : (script : Content) (letters : List Side) (h : List Event) → Plays script letters h → AreOfShape script.shape h
play_of_shape script letters h plays = each_of_shape script.shape h (λ p e at. (plays.played.lawful.each p e at).right_side.in_shape)

-- there are no more of them than letters
moves_within : (script : Content) (letters : List Side) (past later : List Event) → AreMoves script letters past later → length later ≤ length letters
moves_within script [] past [] moves = omega arith
moves_within script [] past (e ∷ later) moves = absurd moves
moves_within script (l ∷ letters) past later (inl (done, moves)) = omega (arith, moves_within script letters past later moves)
moves_within script (l ∷ letters) past later (inr (not_done, (e, es, is, by, moves))) = grind (arith, moves_within script letters (past ++ e ∷ []) es moves)

-- so they are no more than a trace may have, if the letters are no more
pub play_within : (script : Content) (h : List Event) → length script.letters ≤ EVENT_LIMIT → Plays script script.letters h → length h ≤ EVENT_LIMIT
play_within script h short plays = omega (arith, short, moves_within script script.letters [] h plays.moves)
