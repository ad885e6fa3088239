-- The ends of overlapped reads, by intervals and by the marks that a memory keeps.
use Rattle.std.proofs.Common.{◌≡◌, ℕ, zero, suc, Bool, true, false, List, length, refl, sym, ap, ◌∙◌, arith}
use Rattle.ring_player.proofs.Common.{ReadEnd, Event, Shape, IsLawful, turn, IsAtTurn}
use Rattle.bits_core.specs.Memory.{count_below, flicker_count, is_flicker_at}
use Rattle.ring_player.specs.Laws.{FlickersAreCounted}
use Rattle.ring_player.specs.Plays.{AreInTurn, AreNumbered, EndsOverlapped, HasFlickers}
use Rattle.bits_core.proofs.LawLemmas.{flicker_is_by_interval}

module _ (shape : Shape) (h : List Event) (lawful : IsLawful shape h) where
  marked : (place : ℕ) (v : Bool) → EndsOverlapped h place v → is_flicker_at h place ≡ true
  marked place v (s, b, start, read, overlap) = (flicker_is_by_interval shape h lawful place).1 (record { side = s; bit = b; answer = v; start = start; read = read; overlap = overlap })

  ends : (place : ℕ) → is_flicker_at h place ≡ true → (v : Bool) × EndsOverlapped h place v
  ends place is = let e = (flicker_is_by_interval shape h lawful place).0 is in (e.answer, (e.side, e.bit, e.start, e.read, e.overlap))

  one_more : (place : ℕ) → is_flicker_at h place ≡ true → count_below (suc place) (is_flicker_at h) ≡ suc (count_below place (is_flicker_at h))
  one_more place is = grind arith

  no_more : (place : ℕ) → is_flicker_at h place ≡ false → count_below (suc place) (is_flicker_at h) ≡ count_below place (is_flicker_at h)
  no_more place is = grind arith

  unmarked : (place : ℕ) (b : Bool) → is_flicker_at h place ≡ b → ((v : Bool) → ¬ EndsOverlapped h place v) → is_flicker_at h place ≡ false
  unmarked place true is none = let (v, e) = ends place is in absurd (none v e)
  unmarked place false is none = is

  -- marks number the places
  pub numbered_by_marks : AreNumbered h (λ place. count_below place (is_flicker_at h))
  numbered_by_marks = record {
    first = refl;
    next = λ place v e. one_more place (marked place v e);
    same = λ place none. no_more place (unmarked place (is_flicker_at h place) refl none);
  }

  -- and no others do
  by_mark : (number : ℕ → ℕ) → AreNumbered h number → (place : ℕ) (b : Bool) → is_flicker_at h place ≡ b → number place ≡ count_below place (is_flicker_at h) →
      number (suc place) ≡ count_below (suc place) (is_flicker_at h)
  by_mark number n place true is same = let (v, e) = ends place is in n.next place v e ∙ ap suc same ∙ sym (one_more place is)
  by_mark number n place false is same = n.same place (λ v e. clash (sym (marked place v e) ∙ is)) ∙ same ∙ sym (no_more place is)
    where
      clash : true ≡ false → ⊥
      clash e = absurd (cc)

  pub numbers_are_marks : (number : ℕ → ℕ) → AreNumbered h number → (place : ℕ) → number place ≡ count_below place (is_flicker_at h)
  numbers_are_marks number n zero = n.first
  numbers_are_marks number n (suc place) = by_mark number n place (is_flicker_at h place) refl (numbers_are_marks number n place)

  pub has_flickers : HasFlickers h (flicker_count h)
  unfolding HasFlickers
  has_flickers = (λ place. count_below place (is_flicker_at h), numbered_by_marks, refl)

  -- answers in turn by marks are in turn by intervals
  pub in_turn : (oracle : List Bool) (answers : ℕ → Bool) → IsAtTurn (turn oracle) h answers → AreInTurn oracle h
  unfolding AreInTurn
  in_turn oracle answers t = (λ place. count_below place (is_flicker_at h), numbered_by_marks, by_turn)
    where
      by_turn : (place : ℕ) (v : Bool) → EndsOverlapped h place v → v ≡ turn oracle (count_below place (is_flicker_at h))
      by_turn place v (s, b, start, read, overlap) =
          t.answered place (record { side = s; bit = b; act = ReadEnd v }) v read.ends refl (marked place v (s, b, start, read, overlap))

pub counted_by_marks : FlickersAreCounted
unfolding HasFlickers
counted_by_marks shape h count lawful = (
  λ f. let (number, n, is) = f in is ∙ numbers_are_marks shape h lawful number n (length h),
  λ is. (λ place. count_below place (is_flicker_at h), numbered_by_marks shape h lawful, is),
)
