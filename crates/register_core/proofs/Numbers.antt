-- What the events of a history begin, numbered by how many others began before it.
use Rattle.std.proofs.Common.{◌≡◌, ℕ, zero, suc, ◌<◌, ◌≤◌, true, false, cond, ◌||◌, List, [], ◌∷◌, length, take, drop, Option, Some, None, filter_map, slice_get, refl, ap, arith, ◌∙◌, inl, inr, append_assoc, length-append, take-append-drop, take_at}
use Rattle.register_core.proofs.Common.{cons_option, cases_lt, Side, Event, IsPrefix}
use Rattle.std.proofs.lemmas.List.Elements.{filter_map-append}
use Rattle.bits_core.specs.Bits.{is_by}
use Rattle.bits_core.specs.History.{has_event, before_last}
use Rattle.bits_core.specs.Intervals.{first_place, end_of}
use Rattle.bits_core.proofs.IntervalLemmas.{none-first_place as none_within}
use Rattle.bits_core.proofs.Histories.{before_last-none as before_last-empty}
pub use Rattle.bits_core.proofs.Places.{slice_get-append as slice_get-begin}

-- ---- the events before a side's last one

pub before_last-none : (s : Side) (x : Event) (k : List Event) → has_event s k ≡ false → before_last s (x ∷ k) ≡ []
before_last-none s x k e = ap (λ b. cond b (x ∷ before_last s k) []) e

before_last-begins : (s : Side) (k : List Event) → IsPrefix (before_last s k) k
before_last-begins s [] = ([], refl)
before_last-begins s (x ∷ k) =
    elim (has_event s k) as (λ t. IsPrefix (cond t (x ∷ before_last s k) []) (x ∷ k)) [
      | true ↦ let r = before_last-begins s k in (r.0, ap (λ l. x ∷ l) r.1)
      | false ↦ (x ∷ k, refl)
    ]

some_within : (s : Side) (xs : List Event) (n : ℕ) → first_place s xs < n → n ≤ length xs → has_event s (take n xs) ≡ true
some_within s xs zero l fits = absurd (omega arith)
some_within s [] (suc n) l fits = absurd (omega arith)
some_within s (x ∷ xs) (suc n) l fits =
    elim (is_by s x) as (λ t. (cond t 0 (suc (first_place s xs))) < suc n → (t || has_event s (take n xs)) ≡ true) [
      | true ↦ λ l. refl
      | false ↦ λ l. some_within s xs n (omega arith) (omega arith)
    ] l

-- where an access ends, in a history with one more event in front
end_of-suc : (s : Side) (x : Event) (h : List Event) (p : ℕ) → end_of s (x ∷ h) (suc p) ≡ suc (end_of s h p)
end_of-suc s x h p = grind arith

-- ---- numbers

-- number n of those that began before place q
pub record IsNumbered {W : Type 0} (begins : Event → Option W) (h : List Event) (q n : ℕ) : Type 0 where
  pub place : ℕ
  pub event : Event
  pub what : W
  pub before : place < q
  pub at_place : slice_get h place ≡ Some event
  pub begins_it : begins event ≡ Some what
  pub number : length (filter_map begins (take place h)) ≡ n

-- number n of those that ended before place q
pub record HasEnded {W : Type 0} (begins : Event → Option W) (s : Side) (h : List Event) (q n : ℕ) : Type 0 where
  pub numbered : IsNumbered begins h q n
  pub ended : end_of s h numbered.place < q

cons_le : {W : Type 0} (o : Option W) (xs ys : List W) → length xs ≤ length ys → length (cons_option o xs) ≤ length (cons_option o ys)
cons_le o xs ys h1 = grind arith

pub cons_lt : {W : Type 0} (o : Option W) (xs ys : List W) → length xs < length ys → length (cons_option o xs) < length (cons_option o ys)
cons_lt o xs ys h1 = grind arith

module _ {W : Type 0} (begins : Event → Option W) where
  -- how many began before a place
  abbrev pub begun : List Event → ℕ → ℕ
  begun h p = length (filter_map begins (take p h))

  -- how many of them had ended
  abbrev pub ended : Side → List Event → ℕ → ℕ
  ended s h p = length (filter_map begins (before_last s (take p h)))

  -- what an event begins is at its number
  pub begun_at : (h : List Event) (p : ℕ) (e : Event) (w : W) → slice_get h p ≡ Some e → begins e ≡ Some w →
      (slice_get (filter_map begins h) (begun h p) ≡ Some w) × (begun h (suc p) ≡ suc (begun h p))
  begun_at [] p e w at b = absurd (cc)
  begun_at (x ∷ h) zero e w at b = grind (arith, filter_map)
  begun_at (x ∷ h) (suc p) e w at b = grind (arith, filter_map, (begun_at h p e w))

  pub begun_rises : (h : List Event) (p q : ℕ) → p ≤ q → begun h p ≤ begun h q
  begun_rises h zero q l = omega arith
  begun_rises [] (suc p) q l = omega arith
  begun_rises (x ∷ h) (suc p) zero l = absurd (omega arith)
  begun_rises (x ∷ h) (suc p) (suc q) l = grind (arith, cons_le, filter_map, (begun_rises h p q (omega arith)))

  pub begun_least : (h : List Event) (p : ℕ) → begun h p ≤ length (filter_map begins h)
  begun_least h p = grind (arith, (filter_map begins), (filter_map begins (take p h)), (filter_map begins (drop p h)), (filter_map-append begins (take p h) (drop p h)), (length-append (filter_map begins (take p h)) (filter_map begins (drop p h))), (take-append-drop p h))

  behind : (x : Event) (h : List Event) (q n m : ℕ) (r : IsNumbered begins h q n) → length (cons_option (begins x) (filter_map begins (take r.place h))) ≡ m → IsNumbered begins (x ∷ h) (suc q) m
  behind x h q n m r e = record {
    place = suc r.place;
    event = r.event;
    what = r.what;
    before = omega (arith, r.before);
    at_place = r.at_place;
    begins_it = r.begins_it;
    number = e;
  }

  -- each number has its place
  pub numbered : (h : List Event) (q n : ℕ) → n < begun h q → IsNumbered begins h q n
  numbered h zero n l = absurd (omega arith)
  numbered [] (suc q) n l = absurd (omega arith)
  numbered (x ∷ h) (suc q) n l =
      elim (begins x) as (λ o. begins x ≡ o → n < length (cons_option o (filter_map begins (take q h))) → IsNumbered begins (x ∷ h) (suc q) n) [
        | None ↦ λ e m.
            let r = numbered h q n m in
            behind x h q n n r (ap (λ o. length (cons_option o (filter_map begins (take r.place h)))) e ∙ r.number)
        | Some w ↦ λ e m. later w e n m (numbered h q)
      ] refl l
    where
      later : (w : W) → begins x ≡ Some w → (n : ℕ) → n < suc (begun h q) → ((k : ℕ) → k < begun h q → IsNumbered begins h q k) → IsNumbered begins (x ∷ h) (suc q) n
      later w e zero m ih = record { place = 0; event = x; what = w; before = omega arith; at_place = refl; begins_it = e; number = refl }
      later w e (suc k) m ih =
          let r = ih k (omega arith) in
          behind x h q k (suc k) r (ap (λ o. length (cons_option o (filter_map begins (take r.place h)))) e ∙ ap suc r.number)

  -- if the access at p has no end before q, at most as many ended before q as began before p
  pub ended_le : (s : Side) (h : List Event) (p q : ℕ) → q ≤ end_of s h p → ended s h q ≤ begun h p
  ended_le s h p zero l = omega arith
  ended_le s [] p (suc q) l = omega arith
  ended_le s (x ∷ h) zero (suc q) l = grind (arith, before_last-none, filter_map, none_within)
  ended_le s (x ∷ h) (suc p) (suc q) l = grind (arith, cons_le, end_of-suc, filter_map, (ended_le s h p q (omega (arith, end_of-suc s x h p))))

  -- and an access that has its end before q is among those that ended
  pub ended_more : (s : Side) (h : List Event) (p q : ℕ) (e : Event) (w : W) → slice_get h p ≡ Some e → begins e ≡ Some w → end_of s h p < q → q ≤ length h → begun h p < ended s h q
  ended_more s h p zero e w at b l fits = absurd (omega arith)
  ended_more s [] p (suc q) e w at b l fits = absurd (omega arith)
  ended_more s (x ∷ h) zero (suc q) e w at b l fits = grind (arith, filter_map, some_within)
  ended_more s (x ∷ h) (suc p) (suc q) e w at b l fits = grind (arith, before_last-empty, cons_lt, end_of-suc, filter_map, (ended_more s h p q e w))

  pub ended_le_begun : (s : Side) (h : List Event) (p : ℕ) → ended s h p ≤ begun h p
  ended_le_begun s h p = ended_le s h p p (omega arith)

  -- those that ended are a prefix of those that began
  pub take-ended : (s : Side) (h : List Event) (p : ℕ) → take (ended s h p) (filter_map begins h) ≡ filter_map begins (before_last s (take p h))
  take-ended s h p = grind (arith, (before_last-begins s (take p h)), (take-append-drop p h), append_assoc, filter_map, filter_map-append, take_at)

  -- each that ended has its end before the place
  pub has_ended : (s : Side) (h : List Event) (q n : ℕ) → n < ended s h q → HasEnded begins s h q n
  has_ended s h q n l =
      let r = numbered h q n (omega (arith, ended_le_begun s h q)) in
      record {
        numbered = r;
        ended = elim (cases_lt (end_of s h r.place) q) [ inl m ↦ m | inr m ↦ absurd (omega (arith, ended_le s h r.place q m, r.number)) ];
      }

  -- at later places at least as many have ended
  pub ended_rises : (s : Side) (h : List Event) (p q : ℕ) → p ≤ q → q ≤ length h → ended s h p ≤ ended s h q
  ended_rises s h p q l fits = rises (ended s h p) refl
    where
      rises : (n : ℕ) → ended s h p ≡ n → ended s h p ≤ ended s h q
      rises zero e = omega arith
      rises (suc n) e =
          let r = has_ended s h p n (omega arith) in
          omega (arith, ended_more s h r.numbered.place q r.numbered.event r.numbered.what r.numbered.at_place r.numbered.begins_it (omega (arith, r.ended)) fits, r.numbered.number)

  -- all that began have ended if each has its end before the place
  pub all_ended : (s : Side) (h : List Event) (p : ℕ) → p ≤ length h → ((q : ℕ) (e : Event) (w : W) → q < p → slice_get h q ≡ Some e → begins e ≡ Some w → end_of s h q < p) → ended s h p ≡ begun h p
  all_ended s h p fits each = reach (begun h p) refl
    where
      reach : (n : ℕ) → begun h p ≡ n → ended s h p ≡ begun h p
      reach zero e = omega (arith, ended_le_begun s h p)
      reach (suc n) e =
          let r = numbered h p n (omega arith) in
          omega (arith, ended_le_begun s h p, ended_more s h r.place p r.event r.what r.at_place r.begins_it (each r.place r.event r.what r.before r.at_place r.begins_it) fits, r.number)
