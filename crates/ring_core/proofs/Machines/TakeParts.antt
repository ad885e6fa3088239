-- What a consumer may do next: after the same accesses and answers, a take and any takes continue with the same access, except that after
-- a complete word one may read the next and the other count.
use Rattle.std.proofs.Common.{◌≡◌, inl, inr, ℕ, suc, ◌+◌, true, List, [], ◌∷◌, ◌++◌, length, refl, sym, ap, subst, ◌∙◌, arith, append_assoc}
use Rattle.ring_core.proofs.Common.{append_cancel_left, Access, Shape, take_batch_of, Made, answered, Count, first_count, Take, End, Item, ItemAfterClose, Empty, count_after, taken_count}
use Rattle.ring_core.proofs.Common.{take_phrases, IsTake, count_taken}
use Rattle.ring_core.specs.GoingOn.{EndInCellRead, TakesPart, TakesGoOn, TakesGoOnAlike}
use Rattle.ring_core.proofs.CountRow.{first_is_count}
use Rattle.ring_core.proofs.Machines.GoingOn.{Allowed, take_goes, takes_along, takes_tree, access_back}
use Rattle.ring_core.proofs.Machines.Trees.{Tree, Along, never, next_along}
use Rattle.ring_core.proofs.Machines.TakeCalls.{calls_are_count}
use Rattle.ring_core.proofs.Readings.TakesFirst.{calls_from}
use Rattle.ring_core.proofs.Readings.TakesRead.{from_take, first_takes}

-- where a take and the tree of one of at most `wanted` items may part
abbrev Parting : Shape → ℕ → List Made → Access → Access → Type 0
Parting shape wanted before a b = EndInCellRead before × TakesPart shape wanted a b

-- any take may part from the tree where a take may
any_allowed : (shape : Shape) (wanted k : ℕ) (x : Take) → IsTake shape k x → Allowed (Parting shape wanted) shape wanted k x
any_allowed shape wanted k (Item seen items) (sees, batch) = λ before a b is. search (arith, batch.some, batch.few)
any_allowed shape wanted k (ItemAfterClose seen again items) (none, sees, batch) = λ before a b is. search (arith, batch.some, batch.few)
any_allowed shape wanted k (Empty seen) is = record {}

-- a tree parts from itself nowhere
no_parting : (shape : Shape) (wanted : ℕ) (before : List Made) (a : Access) → Parting shape wanted before a a → ⊥
no_parting shape wanted before a (is, inl ((j, e), (i, v, f), l)) = absurd (cc)
no_parting shape wanted before a (is, inr ((i, v, f), (j, e), l)) = absurd (cc)

-- calls after others
calls_behind :
    (shape : Shape) (c : Count) (xs ys : List Take) (end : End) → calls_from shape c (xs ++ ys) end ≡ take_phrases shape c xs ++ calls_from shape (taken_count shape c xs) ys end
calls_behind shape c [] ys end = refl
calls_behind shape c (x ∷ xs) ys end = grind (arith, from_take, append_assoc, calls_behind shape (count_after shape c x) xs ys end)

pub takes-go_on : TakesGoOn
takes-go_on shape wanted calls b made a y rest (part, made_is) goes are e =
    let (end, are_calls, zs, go, (later, f)) = take_goes shape wanted calls made a goes in
    let phrases : List Made = take_phrases shape first_count calls.takes in
    let k : Count = count_taken shape calls in
    let x : Made = answered a true in
    let (ys, same, right, last, are_ys) = first_takes shape first_count (first_is_count shape) calls.takes b.takes end b.end (part ++ y ∷ rest) are_calls are
    (sym (append_assoc phrases part (y ∷ rest)) ∙ ap (λ l. l ++ y ∷ rest) made_is ∙ sym e) in
    let left : part ++ x ∷ later ≡ zs = append_cancel_left phrases (part ++ x ∷ later) zs (grind (arith, append_assoc)) in
    let on : Along (Parting shape wanted) phrases (part ++ y ∷ rest) (takes_tree shape wanted (suc (length ys)) k) =
    subst (λ l. Along (Parting shape wanted) phrases l (takes_tree shape wanted (suc (length ys)) k)) (sym right)
    (takes_along shape wanted (Parting shape wanted) (suc (length ys)) k ys b.end (omega arith) (calls_are_count shape calls) are_ys (any_allowed shape wanted) phrases) in
    elim (next_along (Parting shape wanted) phrases part x y later rest (takes_tree shape wanted (suc (length ys)) k) (no_parting shape wanted)
    (subst (λ l. Along never phrases l (takes_tree shape wanted (suc (length ys)) k)) (sym left) (go (length ys) phrases)) on) [
      | inl alike ↦ inl (alike ∙ access_back a true)
      | inr parts ↦ inr (grind (arith, access_back))
    ]

-- ---- if only one item may be taken

one_allowed : (shape : Shape) → take_batch_of shape ≡ 1 → (k : ℕ) (x : Take) → IsTake shape k x → Allowed never shape 1 k x
one_allowed shape one k (Item seen items) (sees, batch) = λ before a b is. grind (arith, batch.some, batch.few)
one_allowed shape one k (ItemAfterClose seen again items) (none, sees, batch) = λ before a b is. grind (arith, batch.some, batch.few)
one_allowed shape one k (Empty seen) is = record {}

pub takes-go_on_alike : TakesGoOnAlike
takes-go_on_alike shape one a b p q made x y xs ys e f =
    let n : ℕ = suc (length a.takes + length b.takes) in
    let go = takes_along shape 1 never n first_count a.takes a.end (omega arith) (first_is_count shape) p (one_allowed shape one) in
    let go' = takes_along shape 1 never n first_count b.takes b.end (omega arith) (first_is_count shape) q (one_allowed shape one) in
    let t : Tree = takes_tree shape 1 n first_count in
    elim (next_along never [] made x y xs ys t (λ before c bad. bad) (subst (λ l. Along never [] l t) e (go [])) (subst (λ l. Along never [] l t) f (go' []))) [
      | inl same ↦ sym same
      | inr bad ↦ absurd bad
    ]
