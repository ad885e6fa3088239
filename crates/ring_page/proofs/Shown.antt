-- The marks of an audited history.
use Rattle.std.proofs.Common.{◌≡◌, ℕ, zero, suc, ◌<◌, ◌≤◌, ◌↔◌, true, false, Some, List, [], ◌∷◌, ◌++◌, length, take, get_or, refl, ap, sym, subst, ◌∙◌, arith}
use Rattle.std.specs.Prelude.{slice_get}
use Rattle.std.specs.Option.{option_map_or}
use Rattle.std.proofs.Math.Seq.{take-suc, take-length}
use Rattle.std.proofs.lemmas.List.{take-take}
use Rattle.std.proofs.lemmas.Option.{get_or_from_slice_get, none-some, slice_get-get_or, slice_get_within}
use Rattle.bits_core.specs.declared.events.Event.{Event}
use Rattle.bits_core.specs.declared.shapes.Shape.{Shape}
use Rattle.bits_core.specs.declared.audits.Seen.{Seen}
use Rattle.bits_core.specs.declared.audits.Verdict.{Verdict}
use Rattle.bits_core.specs.declared.audits.Verdict.TheVariants.{Lawful, Fault}
use Rattle.bits_core.specs.Audit.{IsVerdict}
use Rattle.bits_core.specs.History.{held}
use Rattle.bits_core.specs.Lawful.{IsLawful}
use Rattle.bits_core.specs.Memory.{EndsOverlappedRead, is_flicker, is_flicker_at}
use Rattle.bits_core.specs.Seen.{AreSeen, IsSeen, clashes, sound_count}
use Rattle.ring_page.specs.Audit.{AreMarksOf, IsNothingSeen, Names, ShowsPlace, ShowsNothing, nothing}
use Rattle.ring_page.specs.Marks.{ArePut, mark_of}
use Rattle.ring_page.specs.declared.marks.Mark.{Mark}
use Rattle.bits_core.proofs.LawLemmas.{fault_breaks, flicker_is_by_interval}

-- ---- lists

-- a place in a prefix
in_take : (h : List Event) (n p : ℕ) (e : Event) → slice_get h p ≡ Some e → p < n → slice_get (take n h) p ≡ Some e
in_take [] n p e at below = absurd (none-some e at)
in_take (x ∷ h) zero p e at below = absurd (omega (arith, below))
in_take (x ∷ h) (suc n) zero e at below = at
in_take (x ∷ h) (suc n) (suc p) e at below = in_take h n p e at (omega (arith, below))

-- one more event
one_more : (h : List Event) (p : ℕ) (e : Event) → slice_get h p ≡ Some e → take (suc p) h ≡ take p h ++ e ∷ []
one_more h p e at = take-suc h p e (slice_get_within h p e at) ∙ ap (λ (x : Event). take p h ++ x ∷ []) (get_or_from_slice_get h p e e at)

-- ---- marks

names : (e : Event) (x : Seen) (m : Mark) → m ≡ mark_of e x → Names e m
names e x m is = subst (λ (k : Mark). Names e k) (sym is) (record { side = refl; row = refl; index = refl; digit = refl; act = refl; value = refl })

-- the events before the one at fault are lawful
sound : (shape : Shape) (h : List Event) (verdict : Verdict) → IsVerdict shape h verdict → IsLawful shape (take (sound_count h verdict) h)
sound shape h Lawful is = subst (IsLawful shape) (sym (take-length h)) is
sound shape h (Fault place kind) is = (fault_breaks shape h place kind is).0

-- what is seen at a place is what the lawful prefix shows there
shown : (shape : Shape) (h : List Event) (n p : ℕ) (e : Event) (x : Seen) (m : Mark) → IsLawful shape (take n h) → p < n → slice_get h p ≡ Some e → IsSeen (take p h) e x → m ≡ mark_of e x
    → ShowsPlace (take n h) p e m
shown shape h n p e x m lawful below at seen is = record {
  held_is = ap (λ (k : Mark). k.held) is ∙ seen.held_is ∙ ap (held e.bit) later;
  overlapped_is = (λ t. law.0 (sym flicker ∙ t), λ ends. flicker ∙ law.1 ends);
  clashes_is = ap (λ (k : Mark). k.clashes) is ∙ seen.clashes_is ∙ ap clashes later;
}
  where
    within : suc p ≤ n
    within = omega (arith, below)

    before : p ≤ n
    before = omega (arith, below)

    later : take p h ++ e ∷ [] ≡ take (suc p) (take n h)
    later = sym (take-take (suc p) n h within ∙ one_more h p e at)

    law : (is_flicker_at (take n h) p ≡ true) ↔ EndsOverlappedRead (take n h) p
    law = flicker_is_by_interval shape (take n h) lawful p

    here : is_flicker (take p h) e ≡ is_flicker_at (take n h) p
    here = ap (λ (t : List Event). is_flicker t e) (sym (take-take p n h before)) ∙ ap (λ o. option_map_or (is_flicker (take p (take n h))) o false) (sym (in_take h n p e at below))

    flicker : m.overlapped ≡ is_flicker_at (take n h) p
    flicker = ap (λ (k : Mark). k.overlapped) is ∙ seen.overlapped_is ∙ here

-- nothing is shown if nothing is seen
shows_nothing : (e : Event) (x : Seen) (m : Mark) → m ≡ mark_of e x → x ≡ nothing → ShowsNothing m
shows_nothing e x m is none = record {
  held_is = ap (λ (k : Mark). k.held) is ∙ ap (λ (s : Seen). s.held) none;
  overlapped_is = ap (λ (k : Mark). k.overlapped) is ∙ ap (λ (s : Seen). s.overlapped) none;
  clashes_is = ap (λ (k : Mark). k.clashes) is ∙ ap (λ (s : Seen). s.clashes) none;
}

pub AreMarksOf-audited : (shape : Shape) (h : List Event) (verdict : Verdict) (old new : List Seen) (marks : List Mark) → IsVerdict shape h verdict → IsNothingSeen old
    → AreSeen h (sound_count h verdict) old new → length h ≤ length new → ArePut h new marks → AreMarksOf h (sound_count h verdict) marks
AreMarksOf-audited shape h verdict old new marks is none seen room put = record {
  names = λ p e m at there. let x = seen_at p e at in names e x.0 m (put p e x.0 m at x.1 there);
  shows = λ p e m at there below. let x = seen_at p e at in
      shown shape h (sound_count h verdict) p e x.0 m (sound shape h verdict is) below at (seen.seen p e x.0 below at x.1) (put p e x.0 m at x.1 there);
  rest = λ p e m at there past. let x = seen_at p e at in
      shows_nothing e x.0 m (put p e x.0 m at x.1 there) (unseen p x.0 (sym (seen.rest p past) ∙ x.1));
}
  where
    unseen : (p : ℕ) (x : Seen) → slice_get old p ≡ Some x → x ≡ nothing
    unseen p x at = sym (get_or_from_slice_get old p x nothing at) ∙ none p (slice_get_within old p x at)

    seen_at : (p : ℕ) (e : Event) → slice_get h p ≡ Some e → (x : Seen) × (slice_get new p ≡ Some x)
    seen_at p e at = let within : p < length h = slice_get_within h p e at in
        (get_or new p nothing, slice_get-get_or new p nothing (omega (arith, within, room)))
