-- One more take of a relay.
use Rattle.std.proofs.Common.{◌≡◌, ◌≢◌, ⊎_elim, ℕ, ◌+◌, ◌-◌, ◌≤◌, true, false, Some, None, List, [], ◌∷◌, ◌++◌, length, take, refl, ap, sym, subst, ◌∙◌, arith, append-nil}
use Rattle.std.specs.Prelude.{min}
use Rattle.std.proofs.lemmas.List.{length-append}
use Rattle.bits_core.specs.declared.shapes.Shape.{Shape}
use Rattle.bits_core.specs.declared.events.Event.{Event}
use Rattle.ring_core.specs.declared.replies.TakeBatchReply as replies
use Rattle.ring_core.specs.declared.replies.TakeBatchReply.TheVariants as reply
use Rattle.bits_core.specs.Shape.{take_batch_of}
use Rattle.ring_core.specs.Counts.{first_count}
use Rattle.ring_core.specs.Takes as takes
use Rattle.ring_core.specs.Takes.{Take, Takes, Open, AreTakes, IsTake, taken_after, taken_in}
use Rattle.ring_core.specs.Items.{all_taken, taken_of}
use Rattle.ring_core.specs.Over.{empties}
use Rattle.ring_core.specs.Readings.{TakesAreRead}
use Rattle.ring_core.specs.ConsumerCalls.{and_take, no_takes, IsTakeOf, items_at_end, reply_at_end, take_batch_reply, take_reply_to}
use Rattle.ring_ends.specs.Ends.{HasTakenAll, HasTakes, TakeAllAdds, number_brought}
use Rattle.ring_run.specs.Relays.{AreAsked, EndsEmpty, TakesAre, used_by}
use Rattle.ring_core.proofs.OverSpans.CallSpans.{taken_number as counted_is}
pub use Rattle.ring_core.proofs.Machines.TakeCalls.{items-push as items_snoc}
use Rattle.ring_core.proofs.Machines.TakeCalls.{all_taken-push, reply-push as last-snoc}

same_takes : TakesAreRead → (shape : Shape) (list : List Event) (a b : Takes) → HasTakes shape list a → HasTakes shape list b → a ≡ b
same_takes read shape list a b ha hb = read shape a b ha.are hb.are (sym ha.list_is ∙ hb.list_is)

pub no_takes_are : (shape : Shape) (list : List Event) (limit : ℕ) → list ≡ [] → TakesAre shape list limit [] 0 0 false
no_takes_are shape list limit is = record {
  calls = no_takes;
  list_is = record { are = tt; list_is = is };
  asked = tt;
  taken_is = refl;
  made_is = refl;
  empty_is = refl;
  told_is = refl;
}

-- ---- lists of takes, and one more

-- whether a take found the ring empty, by the take and by its reply
empty_of : Take → ℕ
empty_of (takes.Item seen items) = 0
empty_of (takes.ItemAfterClose seen again items) = 0
empty_of (takes.Empty seen) = 1

empty_one : replies.TakeBatchReply → ℕ
empty_one (reply.Taken n) = 0
empty_one reply.Empty = 1
empty_one reply.Closed = 0

empties_snoc : (xs : List Take) (x : Take) → empties (xs ++ x ∷ []) ≡ empties xs + empty_of x
unfolding empty_of
empties_snoc [] (takes.Item seen items) = refl
empties_snoc [] (takes.ItemAfterClose seen again items) = refl
empties_snoc [] (takes.Empty seen) = refl
empties_snoc (takes.Item s i ∷ xs) x = empties_snoc xs x
empties_snoc (takes.ItemAfterClose s a i ∷ xs) x = empties_snoc xs x
empties_snoc (takes.Empty s ∷ xs) x = omega (arith, empties_snoc xs x)

last_is_take : (shape : Shape) (k : ℕ) (xs : List Take) (x : Take) → AreTakes shape k (xs ++ x ∷ []) Open → IsTake shape (taken_in k xs) x
last_is_take shape k [] x are = are.0
last_is_take shape k (y ∷ xs) x are = last_is_take shape (taken_after k y) xs x are.1

-- what takes use up of the limit
used_is : (x : Take) → used_by x ≡ length (taken_of x) + empty_of x
unfolding empty_of
used_is (takes.Item seen items) = omega arith
used_is (takes.ItemAfterClose seen again items) = omega arith
used_is (takes.Empty seen) = omega arith

empties_more : (x : Take) (xs : List Take) → empties (x ∷ xs) ≡ empty_of x + empties xs
unfolding empty_of
empties_more (takes.Item seen items) xs = omega arith
empties_more (takes.ItemAfterClose seen again items) xs = omega arith
empties_more (takes.Empty seen) xs = omega arith

asked_more :
    (shape : Shape) (k left : ℕ) (xs : List Take) (x : Take) → AreAsked shape k left xs →
    IsTakeOf shape (taken_in k xs) (min (take_batch_of shape) (left - (length (all_taken xs) + empties xs))) x → AreAsked shape k left (xs ++ x ∷ [])
asked_more shape k left [] x are is = let all : left - (0 + 0) ≡ left = omega arith in (subst (λ n. IsTakeOf shape k (min (take_batch_of shape) n) x) all is, tt)
asked_more shape k left (y ∷ xs) x are is =
    let all : left - (length (all_taken (y ∷ xs)) + empties (y ∷ xs)) ≡ left - used_by y - (length (all_taken xs) + empties xs) = grind (arith, length-append) in
    (are.0, asked_more shape (taken_after k y) (left - used_by y) xs x are.1 (subst (λ n. IsTakeOf shape (taken_in (taken_after k y) xs) (min (take_batch_of shape) n) x) all is))

-- ---- one more take, by its reply

-- the reply to a take, and the take: if it took some, the reply says how many, at least one
empty_told : (x : Take) (y : replies.TakeBatchReply) → Some y ≡ take_batch_reply (Some (take_reply_to x)) (taken_of x) → empty_of x ≡ empty_one y
unfolding empty_of empty_one
empty_told (takes.Item seen []) y is = let e : y ≡ reply.Taken 0 = cc in sym (ap empty_one e)
empty_told (takes.Item seen (item ∷ items)) y is = let e : y ≡ reply.Taken (length (item ∷ items)) = cc in sym (ap empty_one e)
empty_told (takes.ItemAfterClose seen again []) y is = let e : y ≡ reply.Taken 0 = cc in sym (ap empty_one e)
empty_told (takes.ItemAfterClose seen again (item ∷ items)) y is = let e : y ≡ reply.Taken (length (item ∷ items)) = cc in sym (ap empty_one e)
empty_told (takes.Empty seen) y is = let e : y ≡ reply.Empty = cc in sym (ap empty_one e)

some_told : (shape : Shape) (k : ℕ) (x : Take) (n : ℕ) → IsTake shape k x → Some (reply.Taken n) ≡ take_batch_reply (Some (take_reply_to x)) (taken_of x) → 1 ≤ n
some_told shape k (takes.Item seen []) n is e = absurd (omega (arith, is.1.some))
some_told shape k (takes.Item seen (item ∷ items)) n is e = let long : n ≡ length (item ∷ items) = cc in omega (arith, long, is.1.some)
some_told shape k (takes.ItemAfterClose seen again []) n is e = absurd (omega (arith, is.2.some))
some_told shape k (takes.ItemAfterClose seen again (item ∷ items)) n is e = let long : n ≡ length (item ∷ items) = cc in omega (arith, long, is.2.some)
some_told shape k (takes.Empty seen) n is e = absurd (cc)

never_closed : (x : Take) → Some reply.Closed ≢ take_batch_reply (Some (take_reply_to x)) (taken_of x)
never_closed (takes.Item seen []) e = cc
never_closed (takes.Item seen (item ∷ items)) e = cc
never_closed (takes.ItemAfterClose seen again []) e = cc
never_closed (takes.ItemAfterClose seen again (item ∷ items)) e = cc
never_closed (takes.Empty seen) e = cc

-- a take with this reply found the ring empty
was_one_empty : (x : Take) → Some reply.Empty ≡ take_batch_reply (Some (take_reply_to x)) (taken_of x) → (seen : ℕ) × (x ≡ takes.Empty seen)
was_one_empty (takes.Item seen []) e = absurd (cc)
was_one_empty (takes.Item seen (item ∷ items)) e = absurd (cc)
was_one_empty (takes.ItemAfterClose seen again []) e = absurd (cc)
was_one_empty (takes.ItemAfterClose seen again (item ∷ items)) e = absurd (cc)
was_one_empty (takes.Empty seen) e = (seen, refl)

-- the take that was made, and its reply
record Made (shape : Shape) (list' : List Event) (calls : Takes) (wanted : ℕ) (y : replies.TakeBatchReply) (into : List ℕ) : Type 0 where
  x : Take
  of : IsTakeOf shape (taken_in 0 calls.takes) wanted x
  has : HasTakes shape list' (and_take calls x)
  told : Some y ≡ take_batch_reply (Some (take_reply_to x)) (taken_of x)
  brought : take (number_brought y) into ≡ taken_of x

module _ (read : TakesAreRead) (shape : Shape) (list list' : List Event) (limit : ℕ) (taken : List ℕ) (made empty : ℕ) (p : TakesAre shape list limit taken made empty false)
    (wanted : ℕ) (wanted_is : wanted ≡ min (take_batch_of shape) (limit - (length taken + empty))) (into : List ℕ) where
  adds : (y : replies.TakeBatchReply) → HasTakenAll shape wanted list list' y into → TakeAllAdds false shape wanted p.calls y into list list'
  adds y h = grind (arith, same_takes)

  made_so : (y : replies.TakeBatchReply) → y ≢ reply.Closed → HasTakenAll shape wanted list list' y into → Made shape list' p.calls wanted y into
  made_so y open_yet h =
      let a = adds y h in
      ⊎_elim
      (λ one.
      let x : Take = one.0 in
      let first = ap (λ (t : Takes). reply_at_end t.end t.takes) one.2 ∙ last-snoc None p.calls.takes x in
      let items : items_at_end (a.0).end (a.0).takes ≡ taken_of x = ap (λ (t : Takes). items_at_end t.end t.takes) one.2 ∙ items_snoc [] p.calls.takes x in
      record {
        x = x;
        of = subst (λ k. IsTakeOf shape k wanted x) (counted_is shape first_count p.calls.takes) one.1;
        has = subst (HasTakes shape list') one.2 a.3;
        told = a.2.0 ∙ (λ i. take_batch_reply (first i) (items i));
        brought = a.2.1 ∙ items;
      })
      (λ told. absurd (open_yet (let q : Some y ≡ Some reply.Closed = a.2.0 ∙ ap (λ (t : Takes). take_batch_reply (reply_at_end t.end t.takes) (items_at_end t.end t.takes)) told.2 in cc)))
      a.1.is_one_more

  one_more : (y : replies.TakeBatchReply) → Made shape list' p.calls wanted y into → TakesAre shape list' limit (taken ++ take (number_brought y) into) (made + 1) (empty + empty_one y) false
  one_more y m = record {
    calls = and_take p.calls m.x;
    list_is = m.has;
    asked = grind (arith, asked_more);
    taken_is = all_taken-push p.calls.takes m.x ∙ (λ i. p.taken_is i ++ sym m.brought i);
    made_is = omega (arith, p.made_is, length-append p.calls.takes (m.x ∷ []));
    empty_is = empties_snoc p.calls.takes m.x ∙ (λ i. p.empty_is i + empty_told m.x y m.told i);
    told_is = refl;
  }

  pub took : (n : ℕ) → HasTakenAll shape wanted list list' (reply.Taken n) into → (1 ≤ n) × TakesAre shape list' limit (taken ++ take n into) (made + 1) empty false
  unfolding empty_one
  took n h =
      let m = made_so (reply.Taken n) (λ e. cc) h in
      let same : empty + 0 ≡ empty = omega arith in (
        some_told shape (taken_in 0 p.calls.takes) m.x n (last_is_take shape 0 p.calls.takes m.x (m.has).are) m.told,
        subst (λ (k : ℕ). TakesAre shape list' limit (taken ++ take n into) (made + 1) k false) same (one_more (reply.Taken n) m),
      )

  pub was_empty : HasTakenAll shape wanted list list' reply.Empty into → TakesAre shape list' limit taken (made + 1) (empty + 1) false
  unfolding empty_one
  was_empty h =
      subst (λ (l : List ℕ). TakesAre shape list' limit l (made + 1) (empty + 1) false) (append-nil taken) (one_more reply.Empty (made_so reply.Empty (λ e. cc) h))

  pub ends_empty : HasTakenAll shape wanted list list' reply.Empty into → EndsEmpty shape list'
  ends_empty h =
      let m = made_so reply.Empty (λ e. cc) h in
      grind (arith, was_one_empty)

  pub was_told : HasTakenAll shape wanted list list' reply.Closed into → TakesAre shape list' limit taken (made + 1) empty true
  was_told h = grind (arith, adds, ⊎_elim, last-snoc, items_snoc, never_closed)
