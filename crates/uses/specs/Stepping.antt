-- The first call of an end of a flickering ring, by single steps.
use Rattle.std.specs.Prelude.{◌≡◌, ◌⊎◌, ℕ, false, Option, Some, None, [], ◌∷◌}
use Rattle.ring_core.specs.declared.replies.PutReply.{PutReply}
use Rattle.ring_core.specs.declared.replies.TakeReply.{TakeReply}
use Rattle.ring_core.specs.ProducerState as producer
use Rattle.ring_run.specs.Ends.{PutterState, TakerState, HasPut, HasTaken, wants_next, puts_whole, takes_whole}

-- the putter's first call is a put of the item, which has not begun, is under way, or had this reply
abbrev pub IsFirstPut : {O : Type 0} → ℕ → PutterState O → Option PutReply → Type 0
IsFirstPut item p None = ((p.call ≡ None) ⊎ ((p.call ≡ Some (producer.Put (item ∷ []))) × (p.batched ≡ false))) × (puts_whole p ≡ [])
IsFirstPut item p (Some reply) = (p.call ≡ None) × HasPut p.end.ring.shape item [] p.end.list reply

-- the taker's first take has not begun, is under way, or had this reply
abbrev pub IsFirstTake : {O : Type 0} → TakerState O → Option TakeReply → Type 0
IsFirstTake t None = (takes_whole t ≡ []) × (wants_next t.taking t.wanted 1 ≡ 1)
IsFirstTake t (Some reply) = (t.taking ≡ false) × HasTaken t.end.ring.shape [] t.end.list reply
