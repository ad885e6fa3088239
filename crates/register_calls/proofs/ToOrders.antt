-- From a choice of writes to an order of operations: by the write that each one is, or that was chosen for it, and then by place.
use Rattle.std.proofs.Common.{◌≡◌, ◌≢◌, ◌⊎◌, inl, inr, ℕ, suc, ◌≤◌, ◌<◌, List, [], ◌∷◌, length, refl, sym, subst, ◌∙◌, arith}
use Rattle.register_calls.proofs.Common.{cases_lt, Register, RegisterEvent, WriteBegins, WriteEnds, ReadBegins, ReadEnds, before_read, IsWellFormed, Together, IsWriteFrom, MayBeOf, Chooses, HasChoice}
use Rattle.register_calls.specs.Linearizations.{RegisterOperation, AWrite, ARead, IsOperationOf, operation_start, HasEndedBy, IsOrdered, AreOnce, AreLegal, KeepsRealTime, RegisterLinearization}
use Rattle.register_calls.proofs.Places.{placed_event-here}
use Rattle.register_calls.proofs.Beginnings.{reading_began, read_there}
use Rattle.register_calls.proofs.LinearLemmas.{place_of, event_of, place_within, one_operation, operation_still, operation_cases, Holds, may_early, may_after, may_write, may_held}

-- the write that an operation is, or that was chosen for it
abbrev rank : (of : ℕ → ℕ) → RegisterOperation → ℕ
rank of (AWrite w v) = suc w
rank of (ARead i start stop v) = of stop

-- an operation comes before another: by these writes, and at one write by place, so that a write comes before the reads of it
abbrev Precedes : (of : ℕ → ℕ) → RegisterOperation → RegisterOperation → Type 0
Precedes of a b = (rank of a ≤ rank of b) × (rank of b ≤ rank of a → place_of a < place_of b)

abbrev IsSorted : (of : ℕ → ℕ) → List RegisterOperation → Type 0
IsSorted of [] = Unit {0}
IsSorted of (a ∷ order) = ((b : RegisterOperation) → IsOrdered b order → Precedes of a b) × IsSorted of order

-- an order with one more operation
record Inserts (of : ℕ → ℕ) (o : RegisterOperation) (order new : List RegisterOperation) : Type 0 where
  here : IsOrdered o new
  still : (x : RegisterOperation) → IsOrdered x order → IsOrdered x new
  only : (x : RegisterOperation) → IsOrdered x new → (x ≡ o) ⊎ IsOrdered x order
  sorted : IsSorted of new

-- the operations of a history, in order
record Arranges (of : ℕ → ℕ) (h : List RegisterEvent) (order : List RegisterOperation) : Type 0 where
  each : (o : RegisterOperation) → IsOrdered o order → IsOperationOf h o
  all : (o : RegisterOperation) → IsOperationOf h o → IsOrdered o order
  sorted : IsSorted of order

precedes_on : (of : ℕ → ℕ) (a b c : RegisterOperation) → Precedes of a b → Precedes of b c → Precedes of a c
precedes_on of a b c p q = (omega arith, λ le. omega arith)

-- an operation whose place is the last one goes before the first operation of a later write
insert : (of : ℕ → ℕ) (o : RegisterOperation) (order : List RegisterOperation) → IsSorted of order → ((x : RegisterOperation) → IsOrdered x order → place_of x < place_of o) → (new : List RegisterOperation) × Inserts of o order new
insert of o [] sorted last = (
  o ∷ [],
  record {
    here = inl refl;
    still = (λ x there. absurd there);
    only = (λ x there. there);
    sorted = ((λ x there. absurd there), tt);
  },
)
insert of o (x ∷ order) sorted last = elim (cases_lt (rank of o) (rank of x)) [
  | inl lt ↦ (
    o ∷ x ∷ order,
    record {
      here = inl refl;
      still = (λ y there. inr there);
      only = (λ y there. there);
      sorted = (before lt, sorted);
    },
  )
  | inr ge ↦
      let (new, i) = insert of o order sorted.1 (λ y there. last y (inr there)) in (
        x ∷ new,
        record {
          here = inr i.here;
          still = (λ y there. elim there [ inl same ↦ inl same | inr rest ↦ inr (i.still y rest) ]);
          only = (λ y there. elim there [ inl same ↦ inr (inl same) | inr rest ↦ elim (i.only y rest) [ inl this ↦ inl this | inr old ↦ inr (inr old) ] ]);
          sorted = ((λ y there. elim (i.only y there) [ inl this ↦ subst (λ (z : RegisterOperation). Precedes of x z) (sym this) (after ge) | inr old ↦ sorted.0 y old ]), i.sorted);
        },
      )
]
  where
    first_of_two : rank of o < rank of x → Precedes of o x
    first_of_two lt = (omega arith, λ le. absurd (omega arith))

    before : rank of o < rank of x → (y : RegisterOperation) → IsOrdered y (x ∷ order) → Precedes of o y
    before lt y (inl same) = subst (λ (z : RegisterOperation). Precedes of o z) (sym same) (first_of_two lt)
    before lt y (inr rest) = precedes_on of o x y (first_of_two lt) (sorted.0 y rest)

    after : rank of x ≤ rank of o → Precedes of x o
    after ge = (ge, λ le. last x (inl refl))

-- an event that adds no operation, or one
unchanged : (of : ℕ → ℕ) (e : RegisterEvent) (b : List RegisterEvent) → ((o : RegisterOperation) → e ≢ event_of o) → (order : List RegisterOperation) × Arranges of b order → (order : List RegisterOperation) × Arranges of (e ∷ b) order
unchanged of e b other (order, a) = grind (arith, operation_cases, operation_still)

added : (of : ℕ → ℕ) (e : RegisterEvent) (b : List RegisterEvent) (o : RegisterOperation) → IsOperationOf (e ∷ b) o → place_of o ≡ length b → (order : List RegisterOperation) × Arranges of b order → (order : List RegisterOperation) × Arranges of (e ∷ b) order
added of e b o is place (order, a) =
    let (new, i) = insert of o order a.sorted (λ x there. (let k = place_within b x (a.each x there) in omega arith)) in (
      new,
      record {
        each = (λ x there. elim (i.only x there) [ inl same ↦ subst (λ (z : RegisterOperation). IsOperationOf (e ∷ b) z) (sym same) is | inr old ↦ operation_still e b x (a.each x old) ]);
        all = (λ x that. elim (operation_cases e b x that) [
          | inl last ↦ subst (λ (z : RegisterOperation). IsOrdered z new) (one_operation (e ∷ b) o x is that (place ∙ sym last.0)) i.here
          | inr old ↦ i.still x (a.all x old)
        ]);
        sorted = i.sorted;
      },
    )

other_end : (o : RegisterOperation) → WriteEnds ≢ event_of o
other_end o = grind arith

other_begin : (j : ℕ) (o : RegisterOperation) → ReadBegins j ≢ event_of o
other_begin j o = grind arith

arrange : (of : ℕ → ℕ) (r : Register) (h : List RegisterEvent) → IsWellFormed r h → (order : List RegisterOperation) × Arranges of h order
arrange of r [] formed = grind arith
arrange of r (WriteBegins v ∷ b) formed = added of (WriteBegins v) b (AWrite (length b) v) (placed_event-here (WriteBegins v) b) refl (arrange of r b formed.0)
arrange of r (WriteEnds ∷ b) formed = unchanged of WriteEnds b other_end (arrange of r b formed.0)
arrange of r (ReadBegins i ∷ b) formed = unchanged of (ReadBegins i) b (other_begin i) (arrange of r b formed.0)
arrange of r (ReadEnds i v ∷ b) formed =
    let start = length (before_read i b) in
    added of (ReadEnds i v) b (ARead i start (length b) v) (read_there i v b start (reading_began i b formed.2)) refl (arrange of r b formed.0)

-- such an order has no operation twice, respects real time, and is legal
once : (of : ℕ → ℕ) (order : List RegisterOperation) → IsSorted of order → AreOnce order
once of [] sorted = tt
once of (o ∷ order) sorted = ((λ there. (let k = (sorted.0 o there).1 (omega arith) in omega arith)), once of order sorted.1)

module _ (first : ℕ) (h : List RegisterEvent) (of : ℕ → ℕ) (c : Chooses Together first h of) where
  keeps : (a b : RegisterOperation) → Precedes of a b → IsOperationOf h a → IsOperationOf h b → ¬ HasEndedBy h b (operation_start a)
  keeps (AWrite w v) (AWrite x u) p is that ends = let (q, after, before, end) = ends in omega arith
  keeps (AWrite w v) (ARead i s t u) p is that ends = grind (arith, (may_early first h s t u (of t) (c.may i s t u that)))
  keeps (ARead i s t v) (AWrite x u) p is that ends = grind (arith, (may_after first h s t v (of t) x u (c.may i s t v is) that ends), is.later)
  keeps (ARead i s t v) (ARead j s' t' u) p is that ends =
      let k = p.1 (c.in_order j s' t' u i s t v that is refl ends) in
      let l = is.later in
      omega arith

  keep_all : (order : List RegisterOperation) → IsSorted of order → ((o : RegisterOperation) → IsOrdered o order → IsOperationOf h o) → KeepsRealTime h order
  keep_all [] sorted each = tt
  keep_all (a ∷ order) sorted each = ((λ b there. keeps a b (sorted.0 b there) (each a (inl refl)) (each b (inr there))), keep_all order sorted.1 (λ o there. each o (inr there)))

  -- k represents the last write so far: each write comes later, or is no later than that one
  legal : (order : List RegisterOperation) (k held : ℕ) → Holds first h k held → IsSorted of order → ((o : RegisterOperation) → IsOrdered o order → IsOperationOf h o) → ((w u : ℕ) → IsWriteFrom h u w → IsOrdered (AWrite w u) order ⊎ (w < k)) → ((o : RegisterOperation) → IsOrdered o order → k ≤ rank of o) → AreLegal held order
  legal [] k held is sorted each passed ahead = tt
  legal (AWrite w v ∷ order) k held is sorted each passed ahead = legal order (suc w) v (each (AWrite w v) (inl refl)) sorted.1 (λ o there. each o (inr there)) passed_on (λ o there. (sorted.0 o there).0)
    where
      passed_on : (x u : ℕ) → IsWriteFrom h u x → IsOrdered (AWrite x u) order ⊎ (x < suc w)
      passed_on x u write = elim (passed x u write) [
        | inl (inl same) ↦ (let k : x ≡ w = cc in inr (omega arith))
        | inl (inr rest) ↦ inl rest
        | inr less ↦ (let l = ahead (AWrite w v) (inl refl) in inr (omega arith))
      ]
  legal (ARead i s t v ∷ order) k held is sorted each passed ahead = (may_held first h s t v (of t) held may (subst (λ (n : ℕ). Holds first h n held) of_last is), legal order k held is sorted.1 (λ o there. each o (inr there)) passed_on (λ o there. ahead o (inr there)))
    where
      may : MayBeOf first h s t v (of t)
      may = c.may i s t v (each (ARead i s t v) (inl refl))

      passed_on : (x u : ℕ) → IsWriteFrom h u x → IsOrdered (AWrite x u) order ⊎ (x < k)
      passed_on x u write = elim (passed x u write) [
        | inl (inl same) ↦ absurd cc
        | inl (inr rest) ↦ inl rest
        | inr less ↦ inr less
      ]

      no_later : of t ≤ k
      no_later = elim (may_write first h s t v (of t) may) [
        | inl none ↦ omega arith
        | inr (w, same, write) ↦ elim (passed_on w v write) [
          | inl rest ↦ (let p = sorted.0 (AWrite w v) rest in let l = may_early first h s t v (of t) may in omega arith)
          | inr less ↦ omega arith
        ]
      ]

      of_last : k ≡ of t
      of_last = let l = no_later in let m = ahead (ARead i s t v) (inl refl) in omega arith

pub to_order : (r : Register) (h : List RegisterEvent) → IsWellFormed r h → HasChoice Together r.first h → RegisterLinearization r.first h
to_order r h formed (of, c) =
    let (order, a) = arrange of r h formed in record {
      order = order;
      each = a.each;
      all_reads = (λ i start stop v is. a.all (ARead i start stop v) is);
      all_writes = (λ start v is ends. a.all (AWrite start v) is);
      once = once of order a.sorted;
      legal = legal r.first h of c order 0 r.first refl a.sorted a.each (λ w u is. inl (a.all (AWrite w u) is)) (λ o there. omega arith);
      keeps_time = keep_all r.first h of c order a.sorted a.each;
    }
