-- Orders of the reads of a history after one more event, and lower bounds of their numbers.
use Rattle.std.proofs.Common.{◌≡◌, ◌≢◌, ℕ, suc, ◌≤◌, ◌<◌, List, [], ◌∷◌, length, refl, sym, subst, arith}
use Rattle.std.specs.Prelude.{◌==◌, if◌then◌else◌}
use Rattle.register_calls.proofs.Common.{eq-eqb, ne_eqb, RegisterEvent, WriteBegins, WriteEnds, ReadBegins, ReadEnds, before_read, Scope, IsOf, Choice, NoneIsLater, Orders}
use Rattle.register_calls.proofs.ReadLemmas.{length-before_read}

module _ (s : Scope) where
  pub NoneIsLater-more : (of : Choice) (i n m : ℕ) (h : List RegisterEvent) → n ≤ m → NoneIsLater s of i n h → NoneIsLater s of i m h
  NoneIsLater-more of i n m [] le x = tt
  NoneIsLater-more of i n m (WriteBegins v ∷ h) le x = NoneIsLater-more of i n m h le x
  NoneIsLater-more of i n m (WriteEnds ∷ h) le x = NoneIsLater-more of i n m h le x
  NoneIsLater-more of i n m (ReadBegins j ∷ h) le x = NoneIsLater-more of i n m h le x
  NoneIsLater-more of i n m (ReadEnds j v ∷ h) le x = (NoneIsLater-more of i n m h le x.0, λ seen. let p = x.1 seen in omega (arith, p, le))

-- choices that are the same for the reads of a history
pub record AreSame (of other : Choice) (n : ℕ) : Type 0 where
  pub each : (j : ℕ) → j < n → of j ≡ other j

pub AreSame-less : (of other : Choice) (m n : ℕ) → m ≤ n → AreSame of other n → AreSame of other m
AreSame-less of other m n le same = record { each = λ j lt. same.each j (omega arith) }

module _ (s : Scope) where
  pub NoneIsLater-same : (of other : Choice) (i n : ℕ) (h : List RegisterEvent) → AreSame of other (length h) → NoneIsLater s of i n h → NoneIsLater s other i n h
  NoneIsLater-same of other i n [] same x = tt
  NoneIsLater-same of other i n (WriteBegins v ∷ h) same x = NoneIsLater-same of other i n h (AreSame-less of other (length h) (suc (length h)) (omega arith) same) x
  NoneIsLater-same of other i n (WriteEnds ∷ h) same x = NoneIsLater-same of other i n h (AreSame-less of other (length h) (suc (length h)) (omega arith) same) x
  NoneIsLater-same of other i n (ReadBegins j ∷ h) same x = NoneIsLater-same of other i n h (AreSame-less of other (length h) (suc (length h)) (omega arith) same) x
  NoneIsLater-same of other i n (ReadEnds j v ∷ h) same x = grind (arith, (NoneIsLater-same of other i n h (AreSame-less of other (length h) (suc (length h)) (omega arith) same) x.0))

  pub Orders-same : (first : ℕ) (of other : Choice) (h : List RegisterEvent) → AreSame of other (length h) → Orders s first of h → Orders s first other h
  Orders-same first of other [] same x = tt
  Orders-same first of other (WriteBegins v ∷ h) same x = Orders-same first of other h (AreSame-less of other (length h) (suc (length h)) (omega arith) same) x
  Orders-same first of other (WriteEnds ∷ h) same x = Orders-same first of other h (AreSame-less of other (length h) (suc (length h)) (omega arith) same) x
  Orders-same first of other (ReadBegins i ∷ h) same x = Orders-same first of other h (AreSame-less of other (length h) (suc (length h)) (omega arith) same) x
  Orders-same first of other (ReadEnds i v ∷ h) same x =
      let here : of (length h) ≡ other (length h) = same.each (length h) (omega arith) in
      let start = before_read i h in
      let early : length start ≤ suc (length h) = let k = length-before_read i h in omega arith in (
        Orders-same first of other h (AreSame-less of other (length h) (suc (length h)) (omega arith) same) x.0,
        subst (λ (k : ℕ). IsOf first start h v k) here x.1,
        NoneIsLater-same of other i (other (length h)) start (AreSame-less of other (length start) (suc (length h)) early same) (subst (λ (k : ℕ). NoneIsLater s of i k start) here x.2),
      )

-- a choice that is changed for one read
abbrev pub changed : Choice → ℕ → ℕ → Choice
changed of k n j = if j == k then n else of j

pub changed-here : (of : Choice) (k n : ℕ) → changed of k n k ≡ n
changed-here of k n = rw (eq-eqb k k refl)

pub changed-before : (of : Choice) (k n : ℕ) → AreSame of (changed of k n) k
changed-before of k n = record { each = λ j lt. (let apart : j ≢ k = omega arith in rw (ne_eqb j k apart)) }

-- one more read, of this write
pub Orders-more :
    (s : Scope) (first : ℕ) (of : Choice) (h : List RegisterEvent) (i v n : ℕ) → Orders s first of h → IsOf first (before_read i h) h v n → NoneIsLater s of i n (before_read i h) →
    Orders s first (changed of (length h) n) (ReadEnds i v ∷ h)
Orders-more s first of h i v n orders is none =
    let other = changed of (length h) n in
    let here : n ≡ other (length h) = sym (changed-here of (length h) n) in
    let start = before_read i h in (
      Orders-same s first of other h (changed-before of (length h) n) orders,
      subst (λ (k : ℕ). IsOf first start h v k) here is,
      NoneIsLater-same s of other i (other (length h)) start (AreSame-less of other (length start) (length h) (length-before_read i h) (changed-before of (length h) n))
          (subst (λ (k : ℕ). NoneIsLater s of i k start) here none),
    )
