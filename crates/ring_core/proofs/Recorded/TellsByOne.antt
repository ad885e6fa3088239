-- What one event records of calls that follow one another, by those of them that are over before it and with it.
use Rattle.std.proofs.Common.{◌≡◌, ◌⊎◌, ℕ, suc, ◌+◌, ◌-◌, ◌<◌, ◌≤◌, Bool, false, nat_eq, if◌then◌else◌, List, [], ◌∷◌, ◌++◌, length, refl, ap, ◌∙◌, arith}
use Rattle.ring_core.proofs.Common.{nat_tests, le-leb, lt-leb, lt-ltb, le-ltb, eq-eqb, call_told, told_or_behind}
use Rattle.queue_calls.specs.Calls.{Event}
use Rattle.ring_core.specs.Over.{over}
use Rattle.ring_core.proofs.Readings.Cuts.{at_most_or_above}
use Rattle.ring_core.proofs.Readings.Over.{total}

-- ---- tests

not_first : (i : ℕ) → 0 < i → nat_eq i 0 ≡ false
not_first i l = grind (arith, nat_tests)

-- the position of an event in a call: the first, one between, the last, or after the call
pub data Place (long i : ℕ) : Type 0 where
  IsFirst : i ≡ 0 → Place long i
  IsBetween : 0 < i → suc i < long → Place long i
  IsLast : 0 < i → suc i ≡ long → Place long i
  IsBehind : long ≤ i → Place long i

pub place : (long i : ℕ) → 2 ≤ long → Place long i
place long i some = grind (arith, at_most_or_above)

-- ---- what an event of one call records

pub first_told : (long : ℕ) (begins ends : Event) (i : ℕ) (behind : List Event) → 2 ≤ long → i ≡ 0 → told_or_behind long begins ends i behind ≡ begins ∷ []
first_told long begins ends i behind some e = grind (arith, lt-ltb, eq-eqb)

pub between_told :
    (long : ℕ) (begins ends : Event) (i : ℕ) (behind : List Event) → 0 < i → suc i < long → told_or_behind long begins ends i behind ≡ []
between_told long begins ends i behind l m = grind (arith, lt-ltb, not_first, nat_tests)

pub last_told :
    (long : ℕ) (begins ends : Event) (i : ℕ) (behind : List Event) → 0 < i → suc i ≡ long → told_or_behind long begins ends i behind ≡ ends ∷ []
last_told long begins ends i behind l e = grind (arith, lt-ltb, not_first, eq-eqb)

pub behind_told : (long : ℕ) (begins ends : Event) (i : ℕ) (behind : List Event) → long ≤ i → told_or_behind long begins ends i behind ≡ behind
behind_told long begins ends i behind l = ap (λ (b : Bool). if b then call_told long begins ends i else behind) (le-ltb i long l)

-- ---- what an event of calls that follow one another records

module _ {S X : Type 0} (events : S → X → ℕ) (after : S → X → S) (begins : ℕ → Event) (answer : X → Event) (last : ℕ → List Event) where
  -- the calls, from number j on, and what comes after them
  abbrev pub told : ℕ → S → List X → ℕ → List Event
  told j s [] i = last i
  told j s (x ∷ xs) i = told_or_behind (events s x) (begins j) (answer x) i (told (suc j) (after s x) xs (i - events s x))

  -- it starts a call, ends one, records nothing within one, or comes after them all
  pub data Tells (j : ℕ) (s : S) (xs : List X) (i : ℕ) (before with_it : List X) (tells : List Event) : Type 0 where
    Begins : with_it ≡ before → i ≡ total events after s before → length before < length xs → tells ≡ begins (j + length before) ∷ [] → Tells j s xs i before with_it tells
    Ends : (x : X) → with_it ≡ before ++ x ∷ [] → total events after s before < i → suc i ≡ total events after s with_it → tells ≡ answer x ∷ [] →
        Tells j s xs i before with_it tells
    Goes : with_it ≡ before → total events after s before < i → suc i < total events after s xs → tells ≡ [] → Tells j s xs i before with_it tells
    Behind : with_it ≡ before → before ≡ xs → total events after s xs ≤ i → tells ≡ last (i - total events after s xs) → Tells j s xs i before with_it tells

  none_over : (s : S) (x : X) (xs : List X) (t : ℕ) → t < events s x → over events after s (x ∷ xs) t ≡ []
  none_over s x xs t l = ap (λ (b : Bool). if b then x ∷ over events after (after s x) xs (t - events s x) else []) (lt-leb (events s x) t l)

  one_over : (s : S) (x : X) (xs : List X) (t n : ℕ) → events s x ≤ t → t - events s x ≡ n → over events after s (x ∷ xs) t ≡ x ∷ over events after (after s x) xs n
  one_over s x xs t n l e = grind (arith, le-leb)

  -- within no event no call is over
  over_at_first : ((s : S) (x : X) → 2 ≤ events s x) → (s : S) (xs : List X) → over events after s xs 0 ≡ []
  over_at_first long s [] = refl
  over_at_first long s (x ∷ xs) = none_over s x xs 0 (omega (arith, long s x))

  -- the same, by equal lists
  by_same :
      (j : ℕ) (s : S) (xs : List X) (i : ℕ) (b b' w w' : List X) (t t' : List Event) → b ≡ b' → w ≡ w' → t ≡ t' → Tells j s xs i b' w' t' → Tells j s xs i b w t
  by_same j s xs i b b' w w' t t' e f g h = rw (e, f, g) h

  -- after a first call
  behind_one :
      (j : ℕ) (s : S) (x : X) (xs : List X) (i : ℕ) (b w : List X) (t : List Event) → events s x ≤ i → Tells (suc j) (after s x) xs (i - events s x) b w t →
      Tells j s (x ∷ xs) i (x ∷ b) (x ∷ w) t
  behind_one j s x xs i b w t l (Begins e begun fewer is) = grind arith
  behind_one j s x xs i b w t l (Ends y e under ended is) = Ends y (ap (λ l. x ∷ l) e) (omega (arith, l, under)) (omega (arith, l, ended)) is
  behind_one j s x xs i b w t l (Goes e under within is) = Goes (ap (λ l. x ∷ l) e) (omega (arith, l, under)) (omega (arith, l, within)) is
  behind_one j s x xs i b w t l (Behind e all past is) = grind arith

  -- an event of calls of which the first has some events
  at :
      ((s : S) (x : X) → 2 ≤ events s x) → (j : ℕ) (s : S) (x : X) (xs : List X) (i : ℕ) → Place (events s x) i →
      Tells (suc j) (after s x) xs (i - events s x) (over events after (after s x) xs (i - events s x)) (over events after (after s x) xs (suc (i - events s x)))
      (told (suc j) (after s x) xs (i - events s x)) →
      Tells j s (x ∷ xs) i (over events after s (x ∷ xs) i) (over events after s (x ∷ xs) (suc i)) (told j s (x ∷ xs) i)
  at long j s x xs i (IsFirst e) more = grind (arith, by_same, none_over, first_told)
  at long j s x xs i (IsBetween l m) more = grind (arith, by_same, none_over, between_told)
  at long j s x xs i (IsLast l e) more =
      by_same j s (x ∷ xs) i _ [] _ (x ∷ []) _ (answer x ∷ []) (none_over s x xs i (omega (arith, e)))
      (one_over s x xs (suc i) 0 (omega (arith, e)) (omega (arith, e)) ∙ ap (λ l. x ∷ l) (over_at_first long (after s x) xs))
      (last_told (events s x) (begins j) (answer x) i _ l e) (Ends x refl l (omega (arith, e)) refl)
  at long j s x xs i (IsBehind l) more =
      search (arith, by_same, one_over s x xs i (i - events s x) l refl, one_over s x xs (suc i) (suc (i - events s x)) (omega (arith, l)) (omega (arith, l)), behind_told, behind_one)

  pub tells : ((s : S) (x : X) → 2 ≤ events s x) → (j : ℕ) (s : S) (xs : List X) (i : ℕ) → Tells j s xs i (over events after s xs i) (over events after s xs (suc i)) (told j s xs i)
  tells long j s [] i = let whole : i ≡ i - 0 = omega arith in Behind refl refl (omega arith) (ap last whole)
  tells long j s (x ∷ xs) i = at long j s x xs i (place (events s x) i (long s x)) (tells long (suc j) (after s x) xs (i - events s x))

  -- the same for the calls' number of events, stated as in the laws
  abbrev pub Told : (List X → ℕ) → ℕ → List X → ℕ → (before with_it : List X) → List Event → Type 0
  Told size j xs i before with_it tells =
      ((with_it ≡ before) × (i ≡ size before) × (length before < length xs) × (tells ≡ begins (j + length before) ∷ [])) ⊎
      (((x : X) × (with_it ≡ before ++ x ∷ []) × (size before < i) × (suc i ≡ size with_it) × (tells ≡ answer x ∷ [])) ⊎
      (((with_it ≡ before) × (size before < i) × (suc i < size xs) × (tells ≡ [])) ⊎
      ((with_it ≡ before) × (before ≡ xs) × (size xs ≤ i) × (tells ≡ last (i - size xs)))))

  told_so :
      (size : List X → ℕ) (j : ℕ) (s : S) (xs : List X) (i : ℕ) (before with_it : List X) (t : List Event) → ((ys : List X) → total events after s ys ≡ size ys) →
      Tells j s xs i before with_it t → Told size j xs i before with_it t
  told_so size j s xs i before with_it t is h1 = grind (arith, at)

  pub tells_so :
      (size : List X → ℕ) → ((s : S) (x : X) → 2 ≤ events s x) → (j : ℕ) (s : S) (xs : List X) (i : ℕ) → ((ys : List X) → total events after s ys ≡ size ys) →
      Told size j xs i (over events after s xs i) (over events after s xs (suc i)) (told j s xs i)
  tells_so size long j s xs i is = told_so size j s xs i _ _ _ is (tells long j s xs i)
