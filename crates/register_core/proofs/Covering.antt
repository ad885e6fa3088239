-- A scan, read by read: what each answer says about the unary writes.
use Rattle.std.proofs.Common.{◌≡◌, ℕ, zero, suc, ◌+◌, ◌-◌, ◌<◌, ◌≤◌, Bool, true, false, not, List, sym, ap, subst, arith, zero-le, le_trans, ◌∙◌, ◌⊎◌, inl, inr}
use Rattle.std.proofs.lemmas.Bool.{cases_lt}
use Rattle.register_core.proofs.WriterMoments.{Windows}
use Rattle.register_core.specs.Unary.{UnaryWrite, numbered_value, ended, begun_writes}
use Rattle.register_core.proofs.Moments.{differs, is_or_not, Chain, bits_of, Chain-changes, Chain-rest, begun-mono, ended-begun}

-- a moment from t on and before j at which f changes from x
record Turn (f : ℕ → Bool) (x : Bool) (t j : ℕ) : Type 0 where
  moment : ℕ
  after : t ≤ moment
  before : moment < j
  old : f moment ≡ x
  new : f (suc moment) ≡ not x

turn_from : (f : ℕ → Bool) (x : Bool) (t d : ℕ) → f t ≡ x → f (t + d) ≡ not x → Turn f x t (t + d)
turn_from f x t zero old new = grind (arith, differs)
turn_from f x t (suc d) old new = grind (arith, is_or_not, (turn_from f x t d old))

turn : (f : ℕ → Bool) (x : Bool) (t j : ℕ) → t ≤ j → f t ≡ x → f j ≡ not x → Turn f x t j
turn f x t j fits old new =
    let e : t + (j - t) ≡ j = omega arith in
    subst (λ k. Turn f x t k) e (turn_from f x t (j - t) old (ap f e ∙ new))

module _ (us : List UnaryWrite) (bits : ℕ → Bool) (v : ℕ) (chain : Chain v bits us) where
  -- before the read of bit i: at a past moment the bits from i on showed the value of a write that has begun and
  -- is not overwritten
  pub record Covers (least i from till : ℕ) : Type 0 where
    pub moment : ℕ
    pub number : ℕ
    pub over : moment ≤ from
    pub not_overwritten : least ≤ number
    pub first_then : number ≤ begun_writes us (suc moment)
    pub has_begun : number ≤ begun_writes us till
    pub reaches : i ≤ numbered_value v us number
    pub clear : (k : ℕ) → i ≤ k → k < numbered_value v us number → bits_of bits us moment k ≡ false
    pub is_set : bits_of bits us moment (numbered_value v us number) ≡ true

  covers_first : (from till : ℕ) → from ≤ till → Covers (ended us from) 0 from till
  covers_first from till fits =
      let r = Chain-rest us v bits from chain in
      record {
        moment = r.moment;
        number = ended us from;
        over = r.in_time;
        not_overwritten = omega arith;
        first_then = r.ended_then;
        has_begun = le_trans (ended-begun us v bits from chain) (begun-mono us from till fits);
        reaches = zero-le;
        clear = λ k _ h. r.shows.below k h;
        is_set = r.shows.here;
      }

  -- the write whose access cleared bit i, which the covering write had set
  covers_cleared :
      (least i from till from' till' : ℕ) (old : Covers least i from till) →
      till ≤ till' → till ≤ suc from' → (t : ℕ) → t ≤ till →
      Turn (λ m. bits_of bits us m i) true old.moment t → Covers least (suc i) from' till'
  covers_cleared least i from till from' till' old rises one t in_window r =
      let c = Chain-changes us v bits r.moment i true chain r.old r.new in
      record {
        moment = r.moment;
        number = begun_writes us (suc r.moment);
        over = omega (arith, r.before);
        not_overwritten =
            le_trans old.not_overwritten
            (le_trans old.first_then (begun-mono us (suc old.moment) (suc r.moment) (omega (arith, r.after))));
        first_then = omega arith;
        has_begun = begun-mono us (suc r.moment) till' (omega (arith, r.before));
        reaches = omega (arith, c.place, c.allowed.clears_below c.value);
        clear = λ k above h. c.allowed.between c.value k (omega (arith, c.place)) h;
        is_set = c.allowed.is_set c.value;
      }

  covers_next :
      (least i from till from' till' : ℕ) → Covers least i from till →
      from ≤ from' → till ≤ till' → till ≤ suc from' →
      (t : ℕ) → from ≤ t → t ≤ till → bits_of bits us t i ≡ false → Covers least (suc i) from' till'
  covers_next least i from till from' till' old later rises one t began in_window answer =
      place (cases_lt i (numbered_value v us old.number))
    where
      place : (i < numbered_value v us old.number) ⊎ (numbered_value v us old.number ≤ i) → Covers least (suc i) from' till'
      place (inl h) = record {
        moment = old.moment;
        number = old.number;
        over = le_trans old.over later;
        not_overwritten = old.not_overwritten;
        first_then = old.first_then;
        has_begun = le_trans old.has_begun (begun-mono us till till' rises);
        reaches = h;
        clear = λ k above h'. old.clear k (omega arith) h';
        is_set = old.is_set;
      }
      place (inr h) =
          let e : numbered_value v us old.number ≡ i = omega (arith, old.reaches) in
          covers_cleared least i from till from' till' old rises one t in_window
          (turn (λ m. bits_of bits us m i) true old.moment t (le_trans old.over began)
          (subst (λ k. bits_of bits us old.moment k ≡ true) e old.is_set) answer)

  -- a write whose number the covering write and the moment allow, with this value
  pub record Found (least till c : ℕ) : Type 0 where
    pub number : ℕ
    pub not_overwritten : least ≤ number
    pub has_begun : number ≤ begun_writes us till
    pub has_value : numbered_value v us number ≡ c

  found_set :
      (least c from till : ℕ) (old : Covers least c from till) (t : ℕ) → t ≤ till →
      Turn (λ m. bits_of bits us m c) false old.moment t → Found least till c
  found_set least c from till old t in_window r =
      let w = Chain-changes us v bits r.moment c false chain r.old r.new in
      record {
        number = begun_writes us (suc r.moment);
        not_overwritten =
            le_trans old.not_overwritten
            (le_trans old.first_then (begun-mono us (suc old.moment) (suc r.moment) (omega (arith, r.after))));
        has_begun = begun-mono us (suc r.moment) till (omega (arith, r.before));
        has_value = sym (w.place ∙ w.allowed.sets w.value);
      }

  found :
      (least c from till : ℕ) → Covers least c from till →
      (t : ℕ) → from ≤ t → t ≤ till → bits_of bits us t c ≡ true → Found least till c
  found least c from till old t began in_window answer =
      place (cases_lt c (numbered_value v us old.number))
    where
      place : (c < numbered_value v us old.number) ⊎ (numbered_value v us old.number ≤ c) → Found least till c
      place (inl h) =
          found_set least c from till old t in_window
          (turn (λ m. bits_of bits us m c) false old.moment t (le_trans old.over began)
          (old.clear c (omega arith) h) answer)
      place (inr h) = record {
        number = old.number;
        not_overwritten = old.not_overwritten;
        has_begun = old.has_begun;
        has_value = omega (arith, old.reaches);
      }

  -- each read returns what its bit held at a moment of its window
  abbrev pub Reads : (from till : ℕ → ℕ) → ℕ → Bool → Type 0
  Reads from till i answer = (t : ℕ) × (from i ≤ t) × (t ≤ till i) × (bits_of bits us t i ≡ answer)

  covers_to :
      (from till : ℕ → ℕ) (c : ℕ) → Windows c from till → ((i : ℕ) → i < c → Reads from till i false) →
      (i : ℕ) → i ≤ c → Covers (ended us (from 0)) i (from i) (till i)
  covers_to from till c windows below zero fits = covers_first (from 0) (till 0) (windows.in_order 0 fits)
  covers_to from till c windows below (suc i) fits =
      let h : i < c = omega arith in
      let r = below i h in
      covers_next (ended us (from 0)) i (from i) (till i) (from (suc i)) (till (suc i))
      (covers_to from till c windows below i (omega arith))
      (windows.from_rises i h) (windows.till_rises i h) (windows.one_open i h) r.0 r.1 r.2 r.3

  pub found_scan :
      (from till : ℕ → ℕ) (c : ℕ) → Windows c from till → ((i : ℕ) → i < c → Reads from till i false) →
      Reads from till c true → Found (ended us (from 0)) (till c) c
  found_scan from till c windows below r = grind (arith, (covers_to from till c windows below c (omega arith)), (found (ended us (from 0)) c (from c) (till c) (covers_to from till c windows below c (omega arith)) r.0 r.1 r.2 r.3), r.0, r.1, r.2, r.3)

  pub above_scan :
      (from till : ℕ → ℕ) (c : ℕ) → Windows c from till → ((i : ℕ) → i < c → Reads from till i false) →
      Reads from till c false → (n : ℕ) × (n ≤ begun_writes us (till c)) × (c < numbered_value v us n)
  above_scan from till c windows below r = grind (arith, (covers_next (ended us (from 0)) c (from c) (till c) (till c) (till c) (covers_to from till c windows below c (omega arith)) (windows.in_order c (omega arith)) (omega arith) (omega arith) r.0 r.1 r.2 r.3), (covers_to from till c windows below c (omega arith)), r.0, r.1, r.2, r.3, windows.in_order)
