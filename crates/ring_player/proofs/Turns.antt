-- The oracle's answers, with one more event.
use Rattle.ring_player.proofs.Common.{opening_event, Side, Bit, ReadEnd, Access, Event, IsAtTurn}
use Rattle.std.proofs.Common.{◌≡◌, ◌⊎◌, inl, inr, ℕ, zero, suc, ◌+◌, ◌<◌, ◌≤◌, Bool, true, false, Some, List, [], ◌∷◌, ◌++◌, length, refl, ap, sym, ◌∙◌, arith}
use Rattle.std.specs.Prelude.{slice_get, if◌then◌else◌}
use Rattle.bits_core.specs.History.{is_overlapped}
use Rattle.bits_core.specs.Memory.{count_below, flicker_count, is_flicker, is_flicker_at}
use Rattle.bits_core.proofs.Flickers.{is_flicker_at-last, flicker_count-push, count_below-same, is_flicker_at-front, slice_get-front}
use Rattle.bits_core.proofs.Places.{slice_get-last}

-- a place that has an event is one before the last, or the last
place_is : (h : List Event) (e x : Event) (p : ℕ) → slice_get (h ++ e ∷ []) p ≡ Some x → (p < length h) ⊎ (p ≡ length h)
place_is [] e x zero is = inr refl
place_is [] e x (suc p) is = absurd (cc)
place_is (y ∷ h) e x zero is = inl (omega arith)
place_is (y ∷ h) e x (suc p) is = elim (place_is h e x p is) [ inl l ↦ inl (omega (arith, l)) | inr l ↦ inr (omega (arith, l)) ]

count-front : (h : List Event) (e : Event) (n : ℕ) → n ≤ length h → count_below n (is_flicker_at (h ++ e ∷ [])) ≡ count_below n (is_flicker_at h)
count-front h e n l = count_below-same n (is_flicker_at (h ++ e ∷ [])) (is_flicker_at h) (λ p below. is_flicker_at-front h e p (omega (arith, l, below)))

some_same : (x y : Event) → Some x ≡ Some y → x ≡ y
some_same x y e = cc

true_false : {G : Type 0} → true ≡ false → G
true_false e = absurd (cc)

abbrev by_flag : Bool → ℕ
by_flag b = (if b then 1 else 0)

-- one more event
pub more :
    (turns before after : ℕ → Bool) (h : List Event) (e : Event) → IsAtTurn turns h before → (is_flicker h e ≡ false → (i : ℕ) → after i ≡ before i) →
    (is_flicker h e ≡ true → ((v : Bool) → e.act ≡ ReadEnd v → v ≡ before 0) × ((i : ℕ) → after i ≡ before (i + 1))) → IsAtTurn turns (h ++ e ∷ []) after
more turns before after h e t quiet asked = record {
  answered = λ p x v at ends flickers. by_place p x v at ends flickers (place_is h e x p at);
  left = λ i. by_flicker i (is_flicker h e) refl;
}
  where
    by_place : (p : ℕ) (x : Event) (v : Bool) → slice_get (h ++ e ∷ []) p ≡ Some x → x.act ≡ ReadEnd v → is_flicker_at (h ++ e ∷ []) p ≡ true → (p < length h) ⊎ (p ≡ length h) →
        v ≡ turns (count_below p (is_flicker_at (h ++ e ∷ [])))
    by_place p x v at ends flickers (inl l) =
        t.answered p x v (sym (slice_get-front h e p l) ∙ at) ends (sym (is_flicker_at-front h e p l) ∙ flickers) ∙ ap turns (sym (count-front h e p (omega (arith, l))))
    by_place p x v at ends flickers (inr last) =
        let same : e ≡ x = some_same e x (sym (slice_get-last h e) ∙ ap (slice_get (h ++ e ∷ [])) (sym last) ∙ at) in
        let is : is_flicker h e ≡ true = sym (is_flicker_at-last h e) ∙ ap (is_flicker_at (h ++ e ∷ [])) (sym last) ∙ flickers in
        let none : flicker_count h + 0 ≡ flicker_count h = omega arith in
        (asked is).0 v (ap (λ (y : Event). y.act) same ∙ ends) ∙ t.left 0 ∙ ap turns none ∙ ap turns (sym (count-front h e (length h) (omega arith)))
        ∙ ap (λ n. turns (count_below n (is_flicker_at (h ++ e ∷ [])))) (sym last)

    by_flicker : (i : ℕ) (b : Bool) → is_flicker h e ≡ b → after i ≡ turns (flicker_count (h ++ e ∷ []) + i)
    by_flicker i true is =
        let one : (if is_flicker h e then 1 else 0) ≡ 1 = ap (λ (b : Bool). by_flag b) is in
        let shift : flicker_count h + (i + 1) ≡ flicker_count (h ++ e ∷ []) + i = omega (arith, flicker_count-push h e, one) in
        (asked is).1 i ∙ t.left (i + 1) ∙ ap turns shift
    by_flicker i false is =
        let none : (if is_flicker h e then 1 else 0) ≡ 0 = ap (λ (b : Bool). by_flag b) is in
        let shift : flicker_count h + i ≡ flicker_count (h ++ e ∷ []) + i = omega (arith, flicker_count-push h e, none) in
        quiet is i ∙ t.left i ∙ ap turns shift

-- an event that ends no read
pub turn_quiet : (turns answers : ℕ → Bool) (h h' : List Event) (e : Event) → h' ≡ h ++ e ∷ [] → is_flicker h e ≡ false → IsAtTurn turns h answers → IsAtTurn turns h' answers
turn_quiet turns answers h h' e is none t = grind (arith, more, true_false)

pub turn_begin : (turns answers : ℕ → Bool) (h h' : List Event) (s : Side) (a : Access) → h' ≡ h ++ opening_event s a ∷ [] → IsAtTurn turns h answers → IsAtTurn turns h' answers
turn_begin turns answers h h' s a is t = grind (arith, turn_quiet)

-- the end of a read
pub turn_read :
    (turns before after : ℕ → Bool) (s : Side) (b : Bit) (v held : Bool) (h h' : List Event) → h' ≡ h ++ record { side = s; bit = b; act = ReadEnd v } ∷ [] →
    v ≡ (if is_overlapped s b h then before 0 else held) → (is_overlapped s b h ≡ false → (i : ℕ) → after i ≡ before i) →
    (is_overlapped s b h ≡ true → (i : ℕ) → after i ≡ before (i + 1)) → IsAtTurn turns h before → IsAtTurn turns h' after
turn_read turns before after s b v held h h' is answer not_asked asked t = grind (arith, more)
