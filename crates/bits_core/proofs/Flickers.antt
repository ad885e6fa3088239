-- How many reads that a write overlapped have ended, and what a memory keeps.
use Rattle.std.proofs.Common.{◌≡◌, ℕ, zero, suc, ◌+◌, ◌<◌, ◌≤◌, Bool, false, Some, List, ◌∷◌, ◌++◌, length, refl, ap₂, add-zero, length-append, arith, []}
use Rattle.bits_core.proofs.Common.{slice_get, if◌then◌else◌, Side, Bit, ReadEnd, Read, Event, Shape, open_access, is_overlapped, held_at_begin, IsLawful, MayFollow}
use Rattle.std.proofs.lemmas.List.{take-append-le, take_at}
use Rattle.bits_core.specs.Memory.{IsRecord, count_below, ends_read, flicker_count, is_flicker, is_flicker_at}
use Rattle.bits_core.proofs.LawProofs.{lawful_by_one_more}
use Rattle.bits_core.proofs.OpenAccesses.{IsAnswer-from, open_right}
use Rattle.bits_core.proofs.Places.{slice_get-last}

pub count_below-same : (n : ℕ) (f g : ℕ → Bool) → ((p : ℕ) → p < n → f p ≡ g p) → count_below n f ≡ count_below n g
count_below-same zero f g same = refl
count_below-same (suc n) f g same =
    ap₂ (λ (c : ℕ) (b : Bool). c + (if b then 1 else 0)) (count_below-same n f g (λ p below. same p (omega arith))) (same n (omega arith))

pub count_below-le : (n : ℕ) (f : ℕ → Bool) → count_below n f ≤ n
count_below-le zero f = omega arith
count_below-le (suc n) f = grind (arith, count_below-le n f)

-- one more event at the end changes no place before it
pub slice_get-front : (h : List Event) (e : Event) (p : ℕ) → p < length h → slice_get (h ++ e ∷ []) p ≡ slice_get h p
slice_get-front [] e p below = absurd (omega arith)
slice_get-front (x ∷ h) e zero below = refl
slice_get-front (x ∷ h) e (suc p) below = slice_get-front h e p (omega arith)

pub is_flicker_at-front : (h : List Event) (e : Event) (p : ℕ) → p < length h → is_flicker_at (h ++ e ∷ []) p ≡ is_flicker_at h p
is_flicker_at-front h e p below = grind (arith, take-append-le, slice_get-front)

pub is_flicker_at-last : (h : List Event) (e : Event) → is_flicker_at (h ++ e ∷ []) (length h) ≡ is_flicker h e
is_flicker_at-last h e = grind (arith, take_at, slice_get-last)

pub flicker_count-push : (h : List Event) (e : Event) → flicker_count (h ++ e ∷ []) ≡ flicker_count h + (if is_flicker h e then 1 else 0)
flicker_count-push h e = grind (arith, length-append, count_below-same, is_flicker_at-front, is_flicker_at-last)

-- ---- what a memory keeps

pub IsRecord-push : (shape : Shape) (h : List Event) (n : ℕ) (e : Event) → IsRecord shape h n → MayFollow shape h e → IsRecord shape (h ++ e ∷ []) (n + (if is_flicker h e then 1 else 0))
IsRecord-push shape h n e kept follows = grind (arith, lawful_by_one_more, flicker_count-push)

-- an event that ends no read leaves the number unchanged
pub IsRecord-quiet : (shape : Shape) (h : List Event) (n : ℕ) (e : Event) → IsRecord shape h n → MayFollow shape h e → ends_read e.act ≡ false → IsRecord shape (h ++ e ∷ []) n
IsRecord-quiet shape h n e kept follows quiet = grind (arith, add-zero n, IsRecord-push shape h n e kept follows)

-- the end of a read may follow with the answer that it gets
pub MayFollow-answer : (shape : Shape) (h : List Event) (s : Side) (b : Bit) (asked v : Bool) → IsLawful shape h → open_access s h ≡ Some (Read b)
    → v ≡ (if is_overlapped s b h then asked else held_at_begin s b h) → MayFollow shape h (record { side = s; bit = b; act = ReadEnd v })
MayFollow-answer shape h s b asked v lawful still answer = grind (arith, open_right shape h s (Read b) lawful still, IsAnswer-from h s b asked v answer)
