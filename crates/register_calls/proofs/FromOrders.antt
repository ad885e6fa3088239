-- From an order of operations to a choice of writes: each read is of the last write before it.
use Rattle.std.proofs.Common.{rules, ◌≡◌, ◌≢◌, ◌⊎◌, inl, inr, ℕ, zero, suc, ◌≤◌, ◌<◌, Some, List, [], ◌∷◌, length, refl, ap, sym, subst, arith}
use Rattle.std.specs.Prelude.{◌==◌, if◌then◌else◌}
use Rattle.register_calls.proofs.Common.{cases_lt, Register, RegisterEvent, WriteBegins, ReadEnds, IsWellFormed, Together, placed_event, IsReadFrom, IsWriteFrom, WriteHasEnded, MayBeOf, HasChoice}
use Rattle.register_calls.specs.Linearizations.{RegisterOperation, AWrite, ARead, IsOperationOf, HasEndedBy, IsOrdered, AreLegal, KeepsRealTime, RegisterLinearization, AtomicIsLinearizable}
use Rattle.register_calls.proofs.Places.{placed_event-within}
use Rattle.register_calls.proofs.OrderByIntervals.{order_is}
use Rattle.register_calls.proofs.LinearLemmas.{one_operation, ended_next, Holds, may_be}
use Rattle.register_calls.proofs.ToOrders.{to_order}

-- the last write before the read that ends at this place, if k represents the last one so far
abbrev write_before : (k stop : ℕ) → List RegisterOperation → ℕ
write_before k stop [] = k
write_before k stop (AWrite w v ∷ order) = write_before (suc w) stop order
write_before k stop (ARead i start t v ∷ order) = if t == stop then k else write_before k stop order

by_test : (a b : ℕ) (P : ℕ → Type 0) (x y : ℕ) → (a ≡ b → P x) → (a ≢ b → P y) → P (if a == b then x else y)
by_test a b P x y f g = grind arith

-- what is known about the rest of a linearization: k represents the last write so far, and the register holds its value
record Reaches (first : ℕ) (h : List RegisterEvent) (k held : ℕ) (order : List RegisterOperation) : Type 0 where
  holds : Holds first h k held
  each : (o : RegisterOperation) → IsOrdered o order → IsOperationOf h o
  legal : AreLegal held order
  keeps : KeepsRealTime h order
  passed : (w u : ℕ) → IsWriteFrom h u w → WriteHasEnded h w (length h) → IsOrdered (AWrite w u) order ⊎ (w < k)
  later : (o : RegisterOperation) → IsOrdered o order → (w : ℕ) → k ≡ suc w → ¬ HasEndedBy h o w

module _ (r : Register) (h : List RegisterEvent) (formed : IsWellFormed r h) where
  -- the writes come in the order in which they began
  grows : (order : List RegisterOperation) (k held w v : ℕ) → Reaches r.first h k held (AWrite w v ∷ order) → k ≤ suc w
  grows order zero held w v is = omega arith
  grows order (suc x) held w v is = elim (cases_lt w x) [
    | inl lt ↦ absurd (is.later (AWrite w v) (inl refl) x refl (ended_next r h w v x held formed (is.each (AWrite w v) (inl refl)) is.holds lt))
    | inr ge ↦ omega arith
  ]

  after_write : (order : List RegisterOperation) (k held w v : ℕ) → Reaches r.first h k held (AWrite w v ∷ order) → Reaches r.first h (suc w) v order
  after_write order k held w v is = record {
    holds = is.each (AWrite w v) (inl refl);
    each = (λ o there. is.each o (inr there));
    legal = is.legal;
    keeps = is.keeps.1;
    passed = passed;
    later = (λ o there x same ends. is.keeps.0 o there (let one : x ≡ w = omega arith in subst (λ (y : ℕ). HasEndedBy h o y) one ends));
  }
    where
      passed : (x u : ℕ) → IsWriteFrom h u x → WriteHasEnded h x (length h) → IsOrdered (AWrite x u) order ⊎ (x < suc w)
      passed x u write ends = elim (is.passed x u write ends) [
        | inl (inl same) ↦ (let one : x ≡ w = cc in inr (omega arith))
        | inl (inr rest) ↦ inl rest
        | inr less ↦ (let l = grows order k held w v is in inr (omega arith))
      ]

  after_read : (order : List RegisterOperation) (k held i s t v : ℕ) → Reaches r.first h k held (ARead i s t v ∷ order) → Reaches r.first h k held order
  after_read order k held i s t v is = grind arith

  -- the next read may be of the last write
  early : (order : List RegisterOperation) (k held i s t v : ℕ) → Reaches r.first h k held (ARead i s t v ∷ order) → k ≤ t
  early order zero held i s t v is = omega arith
  early order (suc w) held i s t v is = elim (cases_lt w t) [
    | inl lt ↦ omega arith
    | inr ge ↦ elim (cases_lt t w) [
      | inl lt ↦ absurd (is.later (ARead i s t v) (inl refl) w refl lt)
      | inr le ↦
          let same : w ≡ t = omega arith in
          let e : placed_event h w ≡ placed_event h t = ap (placed_event h) same in
          let f : placed_event h w ≡ Some (WriteBegins held) = is.holds in
          let g : placed_event h t ≡ Some (ReadEnds i v) = (is.each (ARead i s t v) (inl refl)).ends in
          absurd cc
    ]
  ]

  may_next : (order : List RegisterOperation) (k held i s t v : ℕ) → Reaches r.first h k held (ARead i s t v ∷ order) → MayBeOf r.first h s t v k
  may_next order k held i s t v is = may_be r.first h s t v k (subst (λ (x : ℕ). Holds r.first h k x) (sym is.legal.0) is.holds) (early order k held i s t v is) after
    where
      read : IsReadFrom h i s t v
      read = is.each (ARead i s t v) (inl refl)

      after : (w u : ℕ) → IsWriteFrom h u w → WriteHasEnded h w s → w < k
      after w u write (q, begun, before, end) =
          let l = read.later in
          let m = placed_event-within h t (ReadEnds i v) read.ends in
          elim (is.passed w u write (q, begun, omega arith, end)) [
            | inl (inl same) ↦ absurd cc
            | inl (inr rest) ↦ absurd (is.keeps.0 (AWrite w u) rest (q, begun, before, end))
            | inr less ↦ less
          ]

  -- what a read may be of, if an operation is a read
  abbrev MayFor : ℕ → RegisterOperation → Type 0
  MayFor k (AWrite w v) = Unit {0}
  MayFor k (ARead i start stop v) = MayBeOf r.first h start stop v k

  may : (order : List RegisterOperation) (k held i start stop v : ℕ) → Reaches r.first h k held order → IsOrdered (ARead i start stop v) order → MayBeOf r.first h start stop v (write_before k stop order)
  may [] k held i start stop v is there = absurd there
  may (AWrite w u ∷ order) k held i start stop v is (inl same) = absurd cc
  may (AWrite w u ∷ order) k held i start stop v is (inr rest) = may order (suc w) u i start stop v (after_write order k held w u is) rest
  may (ARead j s t u ∷ order) k held i start stop v is there =
      by_test t stop (λ (n : ℕ). MayBeOf r.first h start stop v n) k (write_before k stop order)
      (λ same. (
      let one : ARead j s t u ≡ ARead i start stop v = one_operation h (ARead j s t u) (ARead i start stop v) (is.each (ARead j s t u) (inl refl)) (is.each (ARead i start stop v) there) same in
      subst (λ (o : RegisterOperation). MayFor k o) one (may_next order k held j s t u is)))
      (λ apart. elim there [
        | inl same ↦ absurd (apart cc)
        | inr rest ↦ may order k held i start stop v (after_read order k held j s t u is) rest
      ])

  no_earlier : (order : List RegisterOperation) (k held stop : ℕ) → Reaches r.first h k held order → k ≤ write_before k stop order
  no_earlier [] k held stop is = omega arith
  no_earlier (AWrite w u ∷ order) k held stop is = search (rules, after_write, grows, (no_earlier order (suc w) u stop (after_write order k held w u is)))
  no_earlier (ARead j s t u ∷ order) k held stop is = grind (arith, (no_earlier order k held stop (after_read order k held j s t u is)))

  -- of two reads, one after the other, the later one is of no earlier write
  in_order :
      (order : List RegisterOperation) (k held i start stop v j start' stop' u : ℕ) → Reaches r.first h k held order → IsOrdered (ARead i start stop v) order → IsOrdered (ARead j start' stop' u) order → stop < start' → write_before k stop order ≤ write_before k stop' order
  in_order [] k held i start stop v j start' stop' u is one two less = absurd one
  in_order (AWrite w x ∷ order) k held i start stop v j start' stop' u is (inl same) two less = absurd cc
  in_order (AWrite w x ∷ order) k held i start stop v j start' stop' u is (inr rest) (inl same) less = absurd cc
  in_order (AWrite w x ∷ order) k held i start stop v j start' stop' u is (inr rest) (inr more) less = grind (arith, (in_order order (suc w) x i start stop v j start' stop' u (after_write order k held w x is) rest more less))
  in_order (ARead m s t x ∷ order) k held i start stop v j start' stop' u is one two less =
      by_test t stop' (λ (n : ℕ). (if t == stop then k else write_before k stop order) ≤ n) k (write_before k stop' order)
      (λ same. absurd (elim one [
        | inl this ↦ (let l = (is.each (ARead j start' stop' u) two).later in let e : stop ≡ t = cc in omega arith)
        | inr rest ↦ (
            let it : ARead m s t x ≡ ARead j start' stop' u = one_operation h (ARead m s t x) (ARead j start' stop' u) (is.each (ARead m s t x) (inl refl)) (is.each (ARead j start' stop' u) two) same in
            let e : s ≡ start' = cc in
            is.keeps.0 (ARead i start stop v) rest (omega arith))
      ]))
      (λ apart. by_test t stop (λ (n : ℕ). n ≤ write_before k stop' order) k (write_before k stop order)
      (λ here. no_earlier order k held stop' (after_read order k held m s t x is))
      (λ other. elim one [
        | inl this ↦ absurd (other cc)
        | inr rest ↦ elim two [
          | inl that ↦ absurd (apart cc)
          | inr more ↦ in_order order k held i start stop v j start' stop' u (after_read order k held m s t x is) rest more less
        ]
      ]))

pub from_order : (r : Register) (h : List RegisterEvent) → IsWellFormed r h → RegisterLinearization r.first h → HasChoice Together r.first h
from_order r h formed l = (
  λ stop. write_before 0 stop l.order,
  record {
    may = (λ i start stop v is. may r h formed l.order 0 r.first i start stop v reaches (l.all_reads i start stop v is));
    in_order = (λ i start stop v j start' stop' u is that sees less. in_order r h formed l.order 0 r.first i start stop v j start' stop' u reaches (l.all_reads i start stop v is) (l.all_reads j start' stop' u that) less);
  },
)
  where
    reaches : Reaches r.first h 0 r.first l.order
    reaches = record {
      holds = refl;
      each = l.each;
      legal = l.legal;
      keeps = l.keeps_time;
      passed = (λ w u write ends. inl (l.all_writes w u write ends));
      later = (λ o there w same. absurd (omega arith));
    }

pub atomic_is_linearizable_lemma : AtomicIsLinearizable
atomic_is_linearizable_lemma = record {
  there = (λ r h formed atomic. to_order r h formed (order_is.there Together r h formed atomic));
  back = (λ r h formed l. order_is.back Together r h formed (from_order r h formed l));
}
