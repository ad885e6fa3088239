-- The events of further lines: what one more event makes of what was read, and what the refusal of an event implies.
use Rattle.std.proofs.Common.{◌≡◌, ℕ, Option, Some, None, List, reverse, subst, append_assoc, arith}
use Rattle.register_recordings.proofs.Common.{ReaderState, RegisterEvent, Chain, WritesValue, JudgedLines, AreMisses, HasReadEvents, HasReadLineEvent}
use Rattle.register_calls.specs.Witnesses.{RemembersRegister}

module _ {W R P C : Type 0} (window : W → List ℕ) (states : R → List ReaderState) (places : P → List ℕ) (chains : C → List Chain) where
  -- what was read, if no event is out of turn
  pub in_turn :
      (lines : JudgedLines W R P C) (events : List RegisterEvent) → lines.out_of_turn ≡ None → HasReadEvents window states places chains lines lines.out_of_turn events →
      RemembersRegister window states places chains lines.witness (reverse events) × AreMisses lines.witness.auditor.register events lines.misses
  in_turn lines events none read = subst (λ (o : Option ℕ). HasReadEvents window states places chains lines o events) none read

  module _ (old new : JudgedLines W R P C) (number : ℕ) (event : RegisterEvent) (events : List RegisterEvent) where
    -- an event comes after one that was out of turn
    pub event_passed :
        (line : ℕ) → new.count ≡ number → new.is_cut ≡ old.is_cut → new.witness.auditor.register ≡ old.witness.auditor.register → old.out_of_turn ≡ Some line → new.out_of_turn ≡ Some line →
        WritesValue old.witness.auditor.register event → HasReadEvents window states places chains old old.out_of_turn events → HasReadLineEvent window states places chains old number event events new
    event_passed line count cut same was is value so_far = grind (arith, append_assoc)
