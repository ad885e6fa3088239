-- The entries that come next, with their lines, after an event that can be counted. Other events leave them unchanged.
use Rattle.std.proofs.Common.{◌≡◌, ℕ, zero, suc, ◌-◌, ◌≤◌, Bool, true, false, if◌then◌else◌, List, [], ◌∷◌, ◌++◌, map, length, take, drop, refl, sym, ap, subst, ◌∙◌, arith, length-append, append-nil}
use Rattle.queue_calls.proofs.Common.{or_parts, take-append-add, take-nil, Kept, Offered, Free, Offers, Late}
use Rattle.std.proofs.lemmas.List.{length-map, drop-map, drop-take, drop-drop}
use Rattle.queue_calls.specs.Calls.{Event, PutBegin, PutEnd, TakeEnd, Reply, passed}
use Rattle.queue_calls.proofs.Agrees.{Agrees}
use Rattle.queue_calls.specs.Reasons.{line_behind, has_ended, has_told, offered_at, stored_at, offers, stored, k_of, coming}
use Rattle.queue_calls.proofs.Agreeing.{as_put, long, is_late}

-- the entries of a list, with those after its first part changed; and from a place on
all_changed : {A : Type 0} (f : A → A) (s o : List A) → s ++ map f o ≡ take (length s) (s ++ o) ++ map f (drop (length s) (s ++ o))
all_changed f [] o = refl
all_changed f (x ∷ s) o = ap (λ z. x ∷ z) (all_changed f s o)

changed :
    {A : Type 0} (f : A → A) (s o : List A) (gone rest : ℕ) → rest ≡ length s - gone →
    drop gone (s ++ map f o) ≡ take rest (drop gone (s ++ o)) ++ map f (drop rest (drop gone (s ++ o)))
changed f s o zero rest e = grind (arith, length, map, take, drop, all_changed)
changed f [] o (suc gone) rest e = grind (arith, drop, map, take, drop-map)
changed f (x ∷ s) o (suc gone) rest e = changed f s o gone rest (omega (arith, e))

module _ (past : List Event) (k : Kept) (a : Agrees past k) where
  -- a put begins: its items follow the others, or none do if the queue is known to be closed
  pub open_begins : (items : List ℕ) → k.put ≡ Free → k.shut ≡ false → coming (PutBegin items ∷ past) ≡ coming past ++ map (offered_at (line_behind past)) items
  open_begins items free open' =
      let f = as_put past k a Free free in
      let new = map (offered_at (line_behind past)) items in
      let (not_ended, not_told) = or_parts (has_ended past) (has_told past) (sym a.shut ∙ open') in
      let few : k_of past ≤ length (stored past ++ offers past) = omega (arith, long past k a, length-append (stored past) (offers past)) in
      let F : Bool → Type 0 = λ z. drop (k_of past) (stored past ++ (if z then [] else new)) ≡ coming past ++ new in
      subst F (sym not_ended)
      (ap (λ z. drop (k_of past) (z ++ new)) (sym (ap (λ z. stored past ++ z) f.0 ∙ append-nil (stored past))) ∙ dropped (stored past ++ offers past) new (k_of past) few)
    where
      dropped : (xs ys : List Offered) (n : ℕ) → n ≤ length xs → drop n (xs ++ ys) ≡ drop n xs ++ ys
      dropped xs ys zero l = refl
      dropped [] ys (suc n) l = absurd (omega (arith, l))
      dropped (x ∷ xs) ys (suc n) l = dropped xs ys n (omega (arith, l))

  pub late_begins : (items : List ℕ) → k.put ≡ Free → k.shut ≡ true → coming (PutBegin items ∷ past) ≡ coming past
  late_begins items free shut = grind (arith, as_put, drop, map, is_late)

  -- the put under way ends with this many of its items stored: the others are removed, and those that are not taken yet have this line
  left_over : (n inside count : ℕ) → k.put ≡ Offers n inside → count ≤ n → n - count ≤ length k.inside → drop (k_of past) (stored past ++ take count (offers past)) ≡ take (length k.inside - (n - count)) (coming past)
  left_over n inside count is few some =
      grind (arith, as_put past k a (Offers n inside) is, length k.inside, long past k a, drop, take-append-add (stored past) (offers past) count, take, drop-take (k_of past) (length k.inside - (n - count)) (stored past ++ offers past))

  pub put_ends :
      (reply : Reply ℕ) (n inside : ℕ) → k.put ≡ Offers n inside → passed 0 reply ≤ n → n - passed 0 reply ≤ length k.inside → (left : List Offered) →
      left ≡ take (length k.inside - (n - passed 0 reply)) (coming past) →
      coming (PutEnd reply ∷ past) ≡ take (length k.inside - n) left ++ map (stored_at (line_behind past)) (drop (length k.inside - n) left)
  put_ends reply n inside is few some left e =
      grind (arith, as_put past k a (Offers n inside) is, length k.inside, take (passed 0 reply) (offers past), drop, map, append-nil, left_over n inside (passed 0 reply) is few some, changed, long past k a)

  -- none of a put that began after a close is stored
  pub late_ends : (reply : Reply ℕ) (n : ℕ) → k.put ≡ Late n → coming (PutEnd reply ∷ past) ≡ coming past
  late_ends reply n is = grind (arith, as_put, drop, append-nil, map, take, take-nil)

  -- the take under way ends with items
  pub took : (reply : Reply (List ℕ)) → coming (TakeEnd reply ∷ past) ≡ drop (length (passed [] reply)) (coming past)
  took reply = grind (arith, length, length-append, map, length-map, drop, drop-drop)
