-- What an auditor keeps of the orders of a history, after one more event.
use Rattle.std.proofs.Common.{◌≡◌, ◌≢◌, inl, inr, ℕ, ◌≤◌, Bool, true, false, Option, Some, None, List, [], ◌∷◌, length, refl, ap, sym, subst, ◌∙◌, arith}
use Rattle.register_calls.proofs.Common.{cases_lt, eqb_tells, none-some, same_Some, slice_get_within, RegisterEvent, WriteBegins, ReadBegins, ReadEnds, finished, written_values, before_read, Scope}
use Rattle.register_calls.proofs.Common.{sees, IsOf, Choice, NoneIsLater, Orders, HasOrder, HasNone, IsLeast, IsFirstPlace, IsGreater, IsRaised, still, KeepsOrder, KeepsScope}
use Rattle.register_calls.proofs.ReadLemmas.{before_read-begin, before_read-other, length-before_read, length-written}
use Rattle.register_calls.proofs.OrderLemmas.{NoneIsLater-more, NoneIsLater-same, AreSame-less, changed, changed-here, changed-before, Orders-more}

-- the lows of all readers but one are unchanged
pub record KeepsOthers (i : ℕ) (low low' : ℕ → Option ℕ) : Type 0 where
  pub each : (j : ℕ) → j ≢ i → low' j ≡ low j

module _ (s : Scope) (first : ℕ) where
  -- before any event
  pub keeps_nothing : (floor : ℕ → ℕ) (low : ℕ → Option ℕ) → ((i : ℕ) → floor i ≡ 0) → ((i : ℕ) → low i ≡ None) → KeepsOrder s first [] floor low
  keeps_nothing floor low zeros none = record {
    of = λ k. 0;
    orders = tt;
    reached = (λ i. tt);
    least = (λ i other number orders later. let z = zeros i in omega (arith, z));
    reached_before = (λ i n at. absurd (none-some n (sym (none i) ∙ at)));
    least_before = (λ i n at. absurd (none-some n (sym (none i) ∙ at)));
  }

  -- a read begins: its low is the greater of the writes that have ended and of its reader's floor
  pub keeps_read :
      (i n : ℕ) (h : List RegisterEvent) (floor floor' : ℕ → ℕ) (low low' : ℕ → Option ℕ) → ((j : ℕ) → floor' j ≡ floor j) → low' i ≡ Some n → KeepsOthers i low low' →
      IsGreater (finished h) (floor i) n → KeepsOrder s first h floor low → KeepsOrder s first (ReadBegins i ∷ h) floor' low'
  keeps_read i n h floor floor' low low' same here others top k = record {
    of = k.of;
    orders = k.orders;
    reached = (λ j. subst (λ (m : ℕ). NoneIsLater s k.of j m h) (sym (same j)) (k.reached j));
    least = (λ j other number orders later. let e = same j in let le = k.least j other number orders later in omega (arith, e, le));
    reached_before = reached_before;
    least_before = least_before;
  }
    where
      reached_before : (j m : ℕ) → low' j ≡ Some m → NoneIsLater s k.of j m (before_read j (ReadBegins i ∷ h))
      reached_before j m at = elim (eqb_tells j i) [
        | inl is ↦
            let e : n ≡ m = same_Some n m (sym here ∙ subst (λ (z : ℕ). low' z ≡ Some m) is.1 at) in
            let mine : NoneIsLater s k.of i n h = NoneIsLater-more s k.of i (floor i) n h top.right (k.reached i) in
            subst (λ (z : ℕ). NoneIsLater s k.of z m (before_read z (ReadBegins i ∷ h))) (sym is.1)
            (subst (λ (b : List RegisterEvent). NoneIsLater s k.of i m b) (sym (before_read-begin i h)) (subst (λ (z : ℕ). NoneIsLater s k.of i z h) e mine))
        | inr apart ↦
            subst (λ (b : List RegisterEvent). NoneIsLater s k.of j m b) (sym (before_read-other i j h apart.1)) (k.reached_before j m (sym (others.each j apart.1) ∙ at))
      ]

      least_before : (j m : ℕ) → low' j ≡ Some m → (other : Choice) (number : ℕ) → Orders s first other (ReadBegins i ∷ h) →
          NoneIsLater s other j number (before_read j (ReadBegins i ∷ h)) → finished (before_read j (ReadBegins i ∷ h)) ≤ number → m ≤ number
      least_before j m at other number orders later late = elim (eqb_tells j i) [
        | inl is ↦
            let e : n ≡ m = same_Some n m (sym here ∙ subst (λ (z : ℕ). low' z ≡ Some m) is.1 at) in
            let all : before_read j (ReadBegins i ∷ h) ≡ h = ap (λ z. before_read z (ReadBegins i ∷ h)) is.1 ∙ before_read-begin i h in
            let there : NoneIsLater s other j number h = subst (λ (b : List RegisterEvent). NoneIsLater s other j number b) all later in
            let above : floor i ≤ number = k.least i other number orders (subst (λ (z : ℕ). NoneIsLater s other z number h) is.1 there) in
            let past : finished h ≤ number = subst (λ (b : List RegisterEvent). finished b ≤ number) all late in
            subst (λ (z : ℕ). z ≤ number) e (top.least number past above)
        | inr apart ↦
            let all = before_read-other i j h apart.1 in
            k.least_before j m (sym (others.each j apart.1) ∙ at) other number orders (subst (λ (b : List RegisterEvent). NoneIsLater s other j number b) all later)
            (subst (λ (b : List RegisterEvent). finished b ≤ number) all late)
      ]

  module _ (i v l : ℕ) (h : List RegisterEvent) (floor : ℕ → ℕ) (low : ℕ → Option ℕ) (mine : low i ≡ Some l) where
    -- a read ends that is of no write, from its low on
    no_order : HasNone (written_values first h) l v → KeepsOrder s first h floor low → ¬ HasOrder s first (ReadEnds i v ∷ h)
    no_order none k (of, orders) = none (of (length h)) (k.least_before i l mine of (of (length h)) orders.0 orders.2 orders.1.0) orders.1.2

    module _ (floor' : ℕ → ℕ) (low' : ℕ → Option ℕ) (began : finished (before_read i h) ≤ l) (gone : low' i ≡ None) (others : KeepsOthers i low low') (kept : (j : ℕ) → sees s j i ≡ false → floor' j ≡ floor j) where
      -- a read ends that is of this write: the least that it may be of
      keeps_got : (n : ℕ) → IsLeast (written_values first h) l v n → ((j : ℕ) → sees s j i ≡ true → IsGreater (floor j) n (floor' j)) → KeepsOrder s first h floor low → KeepsOrder s first (ReadEnds i v ∷ h) floor' low'
      keeps_got n least raised k = record {
        of = of';
        orders = Orders-more s first k.of h i v n k.orders is (NoneIsLater-more s k.of i l n (before_read i h) least.0 (k.reached_before i l mine));
        reached = reached;
        least = least_of;
        reached_before = reached_before;
        least_before = (λ j m there other number orders later late. k.least_before j m (still_there j m there) other number orders.0 later late);
      }
        where
          of' : Choice
          of' = changed k.of (length h) n

          is : IsOf first (before_read i h) h v n
          is = (let p = least.0 in omega (arith, p, began), let p = slice_get_within (written_values first h) n v least.1 in let q = length-written first h in omega arith, least.1)

          chosen : changed k.of (length h) n (length h) ≡ n
          chosen = changed-here k.of (length h) n

          above : (j : ℕ) (t : Bool) → sees s j i ≡ t → floor j ≤ floor' j
          above j true seen = (raised j seen).left
          above j false seen = (let e = kept j seen in omega (arith, e))

          reached : (j : ℕ) → NoneIsLater s (changed k.of (length h) n) j (floor' j) (ReadEnds i v ∷ h)
          reached j = (
            NoneIsLater-more s (changed k.of (length h) n) j (floor j) (floor' j) h (above j (sees s j i) refl) (NoneIsLater-same s k.of (changed k.of (length h) n) j (floor j) h (changed-before k.of (length h) n) (k.reached j)),
            λ seen. subst (λ (m : ℕ). m ≤ floor' j) (sym (changed-here k.of (length h) n)) (raised j seen).right,
          )

          reaches : (other : Choice) → Orders s first other (ReadEnds i v ∷ h) → n ≤ other (length h)
          reaches other orders =
              let from : l ≤ other (length h) = k.least_before i l mine other (other (length h)) orders.0 orders.2 orders.1.0 in
              elim (cases_lt (other (length h)) n) [
                | inl early ↦ absurd (least.2 (other (length h)) from early orders.1.2)
                | inr late ↦ late
              ]

          least_seen :
              (j : ℕ) (t : Bool) → sees s j i ≡ t → (other : Choice) (number : ℕ) → Orders s first other (ReadEnds i v ∷ h) → NoneIsLater s other j number (ReadEnds i v ∷ h) → floor' j ≤ number
          least_seen j true seen other number orders later = (raised j seen).least number (k.least j other number orders.0 later.0) (let p = reaches other orders in let q = later.1 seen in omega (arith, p, q))
          least_seen j false seen other number orders later = (let e = kept j seen in let q = k.least j other number orders.0 later.0 in omega (arith, e, q))

          least_of : (j : ℕ) (other : Choice) (number : ℕ) → Orders s first other (ReadEnds i v ∷ h) → NoneIsLater s other j number (ReadEnds i v ∷ h) → floor' j ≤ number
          least_of j other number orders later = least_seen j (sees s j i) refl other number orders later

          still_there : (j m : ℕ) → low' j ≡ Some m → low j ≡ Some m
          still_there j m there = elim (eqb_tells j i) [
            | inl is ↦ absurd (none-some m (sym gone ∙ subst (λ (z : ℕ). low' z ≡ Some m) is.1 there))
            | inr apart ↦ sym (others.each j apart.1) ∙ there
          ]

          reached_before : (j m : ℕ) → low' j ≡ Some m → NoneIsLater s (changed k.of (length h) n) j m (before_read j h)
          reached_before j m there =
              NoneIsLater-same s k.of (changed k.of (length h) n) j m (before_read j h) (AreSame-less k.of (changed k.of (length h) n) (length (before_read j h)) (length h) (length-before_read j h) (changed-before k.of (length h) n)) (k.reached_before j m (still_there j m there))

      -- a read ends, and whether there still is an order
      pub scope_got :
          (held : Bool) (found : Option ℕ) → IsFirstPlace (written_values first h) l v found → ((j : ℕ) → sees s j i ≡ true → IsRaised (floor j) found (floor' j)) →
          KeepsScope held s first h floor low → KeepsScope (still held found) s first (ReadEnds i v ∷ h) floor' low'
      scope_got held found h1 h2 h3 = grind (arith, keeps_got, no_order)

  -- the other events, whether there is an order or not
  pub scope_write : (held : Bool) (v : ℕ) (h : List RegisterEvent) (floor : ℕ → ℕ) (low : ℕ → Option ℕ) → KeepsScope held s first h floor low → KeepsScope held s first (WriteBegins v ∷ h) floor low
  scope_write held v h floor low h1 = grind arith

  pub scope_read :
      (held : Bool) (i n : ℕ) (h : List RegisterEvent) (floor floor' : ℕ → ℕ) (low low' : ℕ → Option ℕ) → ((j : ℕ) → floor' j ≡ floor j) → low' i ≡ Some n → KeepsOthers i low low' →
      IsGreater (finished h) (floor i) n → KeepsScope held s first h floor low → KeepsScope held s first (ReadBegins i ∷ h) floor' low'
  scope_read held i n h floor floor' low low' h1 h2 h3 h4 h5 = grind (arith, keeps_read)

  -- the same floors and lows, by other functions
  pub scope_same :
      (held : Bool) (h : List RegisterEvent) (floor floor' : ℕ → ℕ) (low low' : ℕ → Option ℕ) → ((j : ℕ) → floor' j ≡ floor j) → ((j : ℕ) → low' j ≡ low j) →
      KeepsScope held s first h floor low → KeepsScope held s first h floor' low'
  scope_same false h floor floor' low low' floors lows keeps = keeps
  scope_same true h floor floor' low low' floors lows k = grind arith
