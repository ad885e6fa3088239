-- What a writer gained, all of a text or a prefix of it.
use Rattle.std.proofs.Common.{◌≡◌, ◌⊎◌, ℕ, Bool, true, false, List, [], ◌++◌, Option, inl, not, refl, subst, sym, take, append-nil, arith}
use Rattle.std.proofs.KnownBytes.{Appends-trans}
use Rattle.std.proofs.Math.Seq.{take-append-add}
use Rattle.std.specs.Io.KnownBytes.{Appends}
use Rattle.ring_program.specs.Faults.{Gains, IsInText, SaysRefusal, refusal_line}
use Rattle.ring_program.specs.declared.faults.Refusal.{Refusal}

-- a refusal was reported by its line alone
pub tells_line : (before after : Option (List ℕ)) (is_told : Bool) (e : Refusal) → Gains before after is_told (refusal_line e)
    → SaysRefusal (Gains before after is_told) e
tells_line before after is_told e gains = ([], inl refl, subst (Gains before after is_told) (sym (append-nil (refusal_line e))) gains)

-- a text that was written completely was gained
pub told_whole : (before after : Option (List ℕ)) (is_told : Bool) (text : List ℕ) → not is_told ≡ false → Gains before after is_told text → Appends before after text
told_whole before after true text is gains = gains
told_whole before after false text is gains = cc

-- a second line was written after the first
both : (before middle after : Option (List ℕ)) (is_told : Bool) (line more : List ℕ) → Appends before middle line → Gains middle after is_told more → Gains before after is_told (line ++ more)
both before middle after true line more first second = Appends-trans before middle after line more first second
both before middle after false line more first (count, second) = grind (arith, take-append-add line more count, Appends-trans before middle after line (take count more) first second)

pub tells_both : (before middle after : Option (List ℕ)) (is_told : Bool) (e : Refusal) → Appends before middle (refusal_line e)
    → (more : List ℕ) × ((more ≡ []) ⊎ IsInText e) × Gains middle after is_told more → SaysRefusal (Gains before after is_told) e
tells_both before middle after is_told e first (more, why, second) = (more, why, both before middle after is_told (refusal_line e) more first second)
