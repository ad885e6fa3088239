-- One more put or take of a relay.
use Rattle.std.proofs.Common.{◌≡◌, ◌⊎◌, ⊎_elim, ℕ, zero, suc, ◌+◌, ◌-◌, ◌<◌, ◌≤◌, false, List, [], ◌∷◌, ◌++◌, length, take, ◌%◌, refl, ap, sym, subst, ◌∙◌, arith, Result, Ok, Err}
use Rattle.std.specs.Prelude.{IfErr}
use Rattle.std.proofs.lemmas.List.{length-append, length-drop, length-take-le}
use Rattle.std.proofs.Math.Seq.{take-add, take-length, drop-nil}
use Rattle.std.proofs.Math.ListN.{drop}
use Rattle.bits_core.specs.declared.shapes.Shape.{Shape}
use Rattle.bits_core.specs.Shape.{AllFit, batch_of, modulus_of}
use Rattle.bits_core.specs.declared.events.Event.{Event}
use Rattle.bits_core.proofs.Fitting.{AllFit-take, AllFit-drop}
use Rattle.ring_core.specs.declared.replies.BatchReply as batch_replies
use Rattle.ring_core.specs.declared.replies.BatchReply.TheVariants as batch_reply
use Rattle.ring_core.specs.Puts as puts
use Rattle.ring_core.specs.Puts.{Put, Puts, IsBatch}
use Rattle.ring_core.specs.Items.{all_put}
use Rattle.ring_core.specs.Over.{fulls}
use Rattle.ring_core.specs.Readings.{PutsAreRead}
use Rattle.ring_core.specs.ProducerCalls.{and_put, no_puts, IsPutOf}
use Rattle.ring_core.specs.ProducerCalls as put_calls
use Rattle.ring_core.proofs.Machines.PutCalls.{all_put-push, all_put-full}
use Rattle.ring_core.proofs.OverSpans.CallSpans.{stored_number}
use Rattle.ring_seats.specs.Ring.{Ring, RingEnd}
use Rattle.ring_seats.specs.Steppers.{IsSameEnd}
use Rattle.ring_ends.specs.Ends.{HasPuts, HasPutAll, PutAdds}
use Rattle.ring_run.specs.Relays.{AreGiven, EndsFull, PutsAre, TakesAre}
pub use Rattle.ring_seats.proofs.CounterSteps.{same_end as same_trans}

-- ---- lists

-- a prefix of a prefix is a prefix
first_of : (a b : ℕ) (xs : List ℕ) → (take a (take b xs) ≡ take (length (take a (take b xs))) xs) × (length (take a (take b xs)) ≤ length xs)
first_of zero zero [] = (refl, omega arith)
first_of zero zero (x ∷ xs) = (refl, omega arith)
first_of zero (suc b) [] = (refl, omega arith)
first_of zero (suc b) (x ∷ xs) = (refl, omega arith)
first_of (suc a) zero [] = (refl, omega arith)
first_of (suc a) zero (x ∷ xs) = (refl, omega arith)
first_of (suc a) (suc b) [] = (refl, omega arith)
first_of (suc a) (suc b) (x ∷ xs) = let r = first_of a b xs in (ap (λ (l : List ℕ). x ∷ l) r.0, omega (arith, r.1))

fulls_stored : (xs : List Put) (seen : ℕ) (items : List ℕ) → fulls (xs ++ puts.Stored seen items ∷ []) ≡ fulls xs
fulls_stored [] seen items = refl
fulls_stored (puts.Stored s i ∷ xs) seen items = fulls_stored xs seen items
fulls_stored (puts.Full s ∷ xs) seen items = ap (λ n. 1 + n) (fulls_stored xs seen items)

fulls_full : (xs : List Put) (seen : ℕ) → fulls (xs ++ puts.Full seen ∷ []) ≡ suc (fulls xs)
fulls_full [] seen = omega arith
fulls_full (puts.Stored s i ∷ xs) seen = fulls_full xs seen
fulls_full (puts.Full s ∷ xs) seen = omega (arith, fulls_full xs seen)

one_longer : (xs : List Put) (x : Put) → length (xs ++ x ∷ []) ≡ suc (length xs)
one_longer xs x = omega (arith, length-append xs (x ∷ []))

pub offers : (shape : Shape) (items : List ℕ) (put n : ℕ) → AllFit shape items → put < length items → 0 < n → n ≤ batch_of shape → put + n ≤ length items → IsBatch shape (take n (drop put items))
offers shape items put n all more some few left = grind (arith, length-take-le, length-drop, AllFit-take, AllFit-drop)

-- what a put is offered is a batch of the items left, or all of them
pub given_is : (shape : Shape) (n : ℕ) (xs : List ℕ) → (n ≡ batch_of shape) ⊎ ((n ≡ length xs) × (length xs ≤ batch_of shape)) → take n xs ≡ take (batch_of shape) xs
given_is shape n xs most = ⊎_elim
    (λ (is : n ≡ batch_of shape). ap (λ k. take k xs) is)
    (λ (all : (n ≡ length xs) × (length xs ≤ batch_of shape)). ap (λ k. take k xs) all.0 ∙ take-length xs ∙ sym (take_whole (batch_of shape) xs all.1))
    most
  where
    take_whole : (k : ℕ) (xs : List ℕ) → length xs ≤ k → take k xs ≡ xs
    take_whole zero [] le = refl
    take_whole zero (x ∷ xs) le = absurd (omega (arith, le))
    take_whole (suc k) [] le = refl
    take_whole (suc k) (x ∷ xs) le = ap (λ l. x ∷ l) (take_whole k xs (omega (arith, le)))

pub given_there : (shape : Shape) (items : List ℕ) (put n : ℕ) → put ≤ length items → (n ≡ batch_of shape) ⊎ ((n ≡ length items - put) × (length items - put ≤ batch_of shape)) →
    take (put + n - put) (drop put items) ≡ take (batch_of shape) (drop put items)
given_there shape items put n within most = grind (arith, length-drop, given_is)

-- ---- puts

drop_both : (a b : ℕ) (xs : List ℕ) → drop b (drop a xs) ≡ drop (a + b) xs
drop_both zero b xs = ap (λ k. drop k xs) (let e : b ≡ 0 + b = omega arith in e)
drop_both (suc a) b [] = drop-nil b ∙ sym (drop-nil (suc a + b))
drop_both (suc a) b (x ∷ xs) = drop_both a b xs ∙ ap (λ k. drop k (x ∷ xs)) (let e : suc (a + b) ≡ suc a + b = omega arith in e)

-- one more put, offered the items that those before it left
given_more : (shape : Shape) (n : ℕ) (items : List ℕ) (xs : List Put) (x : Put) → AreGiven shape n items xs →
    IsPutOf shape (puts.stored_in n xs) (take (batch_of shape) (drop (length (all_put xs)) items)) x → AreGiven shape n items (xs ++ x ∷ [])
given_more shape n items [] x are is = (is, tt)
given_more shape n items (puts.Stored seen few ∷ xs) x are is =
    let left : drop (length (few ++ all_put xs)) items ≡ drop (length (all_put xs)) (drop (length few) items) =
    ap (λ k. drop k items) (length-append few (all_put xs)) ∙ sym (drop_both (length few) (length (all_put xs)) items) in (
      are.0,
      given_more shape (puts.number_after n (puts.Stored seen few)) (drop (length few) items) xs x are.1
          (subst (λ l. IsPutOf shape (puts.stored_in n (puts.Stored seen few ∷ xs)) (take (batch_of shape) l) x) left is),
    )
given_more shape n items (puts.Full seen ∷ xs) x are is = (are.0, given_more shape n items xs x are.1 is)

same_puts : PutsAreRead → (shape : Shape) (list : List Event) (a b : Puts) → HasPuts shape list a → HasPuts shape list b → a ≡ b
same_puts read shape list a b ha hb = read shape a b ha.are hb.are (sym ha.list_is ∙ hb.list_is)

pub no_puts_are : (shape : Shape) (list : List Event) (items : List ℕ) → list ≡ [] → PutsAre shape list items 0 0 0 false
no_puts_are shape list items is = record {
  calls = no_puts;
  list_is = record { are = tt; list_is = is };
  given = tt;
  in_order = refl;
  within = omega arith;
  made_is = refl;
  full_is = refl;
  closes_is = refl;
}

module _ (read : PutsAreRead) (shape : Shape) (list list' : List Event) (items : List ℕ) (put made full : ℕ) (p : PutsAre shape list items put made full false) where
  adds_false : (given : List ℕ) (reply : batch_replies.BatchReply) → HasPutAll shape given list list' reply → PutAdds false shape p.calls given reply list list'
  adds_false given reply h = grind (arith, same_puts)

  -- the calls with one more put
  more_given : (given : List ℕ) → given ≡ take (batch_of shape) (drop put items) → (x : Put) → IsPutOf shape (put_calls.count_of shape p.calls).number given x → AreGiven shape 0 items (p.calls.puts ++ x ∷ [])
  more_given given is x of = grind (arith, length-take-le, given_more, stored_number)

  -- how many a put that stored has stored
  pub stored : (given : List ℕ) (n m : ℕ) → given ≡ take n (drop put items) → given ≡ take (batch_of shape) (drop put items) → HasPutAll shape given list list' (batch_reply.Stored m) →
      (put + m ≤ length items) × PutsAre shape list' items (put + m) (suc made) full false
  stored given n m is whole h = go (adds_false given (batch_reply.Stored m) h)
    where
      go : PutAdds false shape p.calls given (batch_reply.Stored m) list list' → (put + m ≤ length items) × PutsAre shape list' items (put + m) (suc made) full false
      go (puts.Stored seen few, of, reply, has) =
          let room : ℕ = put_calls.room_in shape ((put_calls.count_of shape p.calls).number % modulus_of shape) seen in
          let few_is : few ≡ take room (take n (drop put items)) = of ∙ ap (take room) is in
          let long : m ≡ length few = cc in
          let first = first_of room n (drop put items) in
          let these : few ≡ take m (drop put items) = few_is ∙ first.0 ∙ ap (λ (k : ℕ). take k (drop put items)) (sym (long ∙ ap length few_is)) in
          let fits : put + m ≤ length items = omega (arith, long, ap length few_is, first.1, p.within, length-drop put items) in (
            fits,
            record {
              calls = and_put p.calls (puts.Stored seen few);
              list_is = has;
              given = more_given given whole (puts.Stored seen few) of;
              in_order = all_put-push p.calls.puts seen few ∙ (λ j. p.in_order j ++ these j) ∙ sym (take-add put m items);
              within = fits;
              made_is = one_longer p.calls.puts (puts.Stored seen few) ∙ ap suc p.made_is;
              full_is = fulls_stored p.calls.puts seen few ∙ p.full_is;
              closes_is = refl;
            },
          )
      go (puts.Full seen, of, reply, has) = absurd (cc)

  pub was_full : (given : List ℕ) → given ≡ take (batch_of shape) (drop put items) → HasPutAll shape given list list' batch_reply.Full → PutsAre shape list' items put (suc made) (suc full) false
  was_full given whole h = go (adds_false given batch_reply.Full h)
    where
      go : PutAdds false shape p.calls given batch_reply.Full list list' → PutsAre shape list' items put (suc made) (suc full) false
      go (puts.Stored seen i, of, reply, has) = absurd (cc)
      go (puts.Full seen, of, reply, has) = record {
        calls = and_put p.calls (puts.Full seen);
        list_is = has;
        given = more_given given whole (puts.Full seen) of;
        in_order = all_put-full p.calls.puts seen ∙ p.in_order;
        within = p.within;
        made_is = one_longer p.calls.puts (puts.Full seen) ∙ ap suc p.made_is;
        full_is = fulls_full p.calls.puts seen ∙ ap suc p.full_is;
        closes_is = refl;
      }

  pub ends_full : (given : List ℕ) → HasPutAll shape given list list' batch_reply.Full → EndsFull shape list'
  ends_full given h = go (adds_false given batch_reply.Full h)
    where
      go : PutAdds false shape p.calls given batch_reply.Full list list' → EndsFull shape list'
      go (puts.Stored seen i, of, reply, has) = absurd (cc)
      go (puts.Full seen, of, reply, has) = record { before = p.calls; seen = seen; list_is = has }

  pub not_closed : (given : List ℕ) → HasPutAll shape given list list' batch_reply.Closed → ⊥
  not_closed given h = go (adds_false given batch_reply.Closed h)
    where
      go : PutAdds false shape p.calls given batch_reply.Closed list list' → ⊥
      go (puts.Stored seen i, of, reply, has) = cc
      go (puts.Full seen, of, reply, has) = cc

-- ---- a fault, whatever it is

pub if_err : {A E : Type 0} (r : Result A E) (X : Type 0) → X → IfErr r (λ _. X)
if_err (Ok a) X x = tt
if_err (Err e) X x = x

-- ---- an end after two calls

-- what fits the ring of an end fits it later
pub fit_there : (a b : RingEnd) (items : List ℕ) → IsSameEnd a b → AllFit a.ring.shape items → AllFit b.ring.shape items
fit_there a b items s fit = subst (λ (z : Shape). AllFit z items) (sym (ap (λ (r : Ring). r.shape) s.ring)) fit

pub puts_there : (a b : RingEnd) (items : List ℕ) (put made full : ℕ) → IsSameEnd a b → PutsAre a.ring.shape a.list items put made full false → PutsAre b.ring.shape a.list items put made full false
puts_there a b items put made full s p = subst (λ (z : Shape). PutsAre z a.list items put made full false) (sym (ap (λ (r : Ring). r.shape) s.ring)) p

pub takes_there : (a b : RingEnd) (limit : ℕ) (taken : List ℕ) (made empty : ℕ) → IsSameEnd a b → TakesAre a.ring.shape a.list limit taken made empty false → TakesAre b.ring.shape a.list limit taken made empty false
takes_there a b limit taken made empty s p = subst (λ (z : Shape). TakesAre z a.list limit taken made empty false) (sym (ap (λ (r : Ring). r.shape) s.ring)) p
