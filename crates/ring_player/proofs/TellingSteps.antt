-- What one event of a side records of its calls, by the stage that the side is in and by what is counted about the calls that are over.
use Rattle.std.proofs.Common.{◌≡◌, ◌⊎◌, inl, inr, ℕ, suc, ◌+◌, ◌-◌, ◌<◌, ◌≤◌, true, List, [], ◌∷◌, ◌++◌, length, take, drop, refl, sym, ap, subst, ◌∙◌, arith, append_assoc, length-append}
use Rattle.std.proofs.Math.Seq.{drop-append_seam, take-append_seam}
use Rattle.ring_player.proofs.Common.{IsPrefix, Shape, first_count, empties, fulls, puts_over, takes_over, AreAttempts, ArePutsOf, offered, wanted_at, IsPutStage, IsTakeStage, offers_of, wants_of}
use Rattle.ring_player.proofs.Common.{Content, past_is}
use Rattle.queue_calls.specs.Calls as calls
use Rattle.ring_core.specs.Items.{all_taken, events_in, IsTold, taken_of}
use Rattle.ring_core.specs.Puts.{ArePuts, Full, IsPut, number_after, Put, Puts, put_phrases, put_program, close_phrase, Stored, stored_in}
use Rattle.ring_core.specs.Recorded.{put_answer, take_answer}
use Rattle.ring_core.specs.RecordedByOne.{events_of_puts, events_of_takes, PutTells, TakeTells}
use Rattle.ring_core.specs.Takes.{AreTakes, Empty, IsTake, Item, ItemAfterClose, Take, Takes, taken_in}
use Rattle.ring_player.specs.declared.tellings.PutStage.TheVariants as put
use Rattle.ring_player.specs.declared.tellings.TakeStage.TheVariants as taking
use Rattle.ring_core.proofs.Readings.Over.{over_front}
use Rattle.ring_player.proofs.Puttings.{fulls-more, stored-more}
use Rattle.ring_player.proofs.TakeLists.{all-more, all_are, empties-more, take_at}

-- ---- lists

next_of : {A : Type 0} (xs ys : List A) → length xs < length (xs ++ ys) → (y : A) × (rest : List A) × (ys ≡ y ∷ rest)
next_of xs [] l = absurd (omega (arith, l, length-append xs []))
next_of xs (y ∷ ys) l = (y, ys, refl)

-- a part of a list, by how many elements come before it and how many it has
part_is : (xs ys zs all : List ℕ) (n m : ℕ) → (xs ++ ys) ++ zs ≡ all → n ≡ length xs → m ≡ length ys → take m (drop n all) ≡ ys
part_is xs ys zs all n m e f g = grind (arith, append_assoc, drop-append_seam, take-append_seam)

-- ---- puts

attempt_at :
    (script : Content) (n : ℕ) (xs : List Put) (x : Put) (ys : List Put) → AreAttempts script n (xs ++ x ∷ ys) → stored_in n xs < length script.items
attempt_at script n [] x ys m = m.0
attempt_at script n (y ∷ xs) x ys m = attempt_at script (number_after n y) xs x ys m.2

put_at : (shape : Shape) (n : ℕ) (xs : List Put) (x : Put) (ys : List Put) → ArePuts shape n (xs ++ x ∷ ys) → IsPut shape (stored_in n xs) x
put_at shape n [] x ys m = m.0
put_at shape n (y ∷ xs) x ys m = put_at shape (number_after n y) xs x ys m.1

module _ (script : Content) (puts : Puts) (i : ℕ) {told : List calls.Event} (asked : ArePutsOf script puts)
    (tells : PutTells script.shape (offers_of script puts) puts i (puts_over script.shape first_count puts.puts i) (puts_over script.shape first_count puts.puts (suc i)) told) where
  abbrev before : List Put
  before = puts_over script.shape first_count puts.puts i

  abbrev after : List Put
  after = puts_over script.shape first_count puts.puts (suc i)

  front : (rest : List Put) × (puts.puts ≡ before ++ rest)
  front = over_front _ _ first_count puts.puts i

  front_after : (rest : List Put) × (puts.puts ≡ after ++ rest)
  front_after = over_front _ _ first_count puts.puts (suc i)

  offer_is : offers_of script puts (length before) ≡ offered script (stored_in 0 before)
  offer_is = grind (arith, front, take-append_seam)

  -- if a put is next, there is an item for it
  next_item : length before < length puts.puts → stored_in 0 before < length script.items
  next_item l = grind (arith, front, next_of, attempt_at)

  none_next : before ≡ puts.puts → puts.closes ≡ true → stored_in 0 before ≡ length script.items
  none_next e c = ap (stored_in 0) e ∙ (asked.closes c).1

  pub put_begins :
      (stored : ℕ) → IsPutStage put.Between script puts i → stored ≡ stored_in 0 before → stored < length script.items →
      (calls.PutBegin (offered script stored) ∷ [] ≡ told) × IsPutStage put.Putting script puts (suc i)
  put_begins stored e is l = grind (arith, offer_is, none_next)

  pub close_begins :
      (stored : ℕ) → IsPutStage put.Between script puts i → stored ≡ stored_in 0 before → length script.items ≤ stored →
      (calls.CloseBegin ∷ [] ≡ told) × IsPutStage put.Closing script puts (suc i)
  close_begins stored e is l = grind (arith, next_item)

  -- a put continues or ends, by what is counted
  pub put_goes :
      (stored full stored' full' : ℕ) → IsPutStage put.Putting script puts i → stored ≡ stored_in 0 before → full ≡ fulls before → stored' ≡ stored_in 0 after → full' ≡ fulls after →
      ((stored < stored') × (calls.PutEnd (calls.Passed (stored' - stored) true) ∷ [] ≡ told) × IsPutStage put.Between script puts (suc i)) ⊎
      (((stored' ≤ stored) × (full < full') × (calls.PutEnd calls.Lacked ∷ [] ≡ told) × IsPutStage put.Between script puts (suc i)) ⊎
      ((stored' ≤ stored) × (full' ≤ full) × ([] ≡ told) × IsPutStage put.Putting script puts (suc i)))
  put_goes stored full stored' full' at is_stored is_full now_stored now_full = elim tells [
    | inl z ↦ absurd (omega (arith, at.0, z.1))
    | inr y ↦ elim y [
      | inl z ↦ (let (x, is, less, ends, t) = z in by_put x is ends t (is_put x is))
      | inr v ↦ elim v [
        | inl z ↦ absurd (omega (arith, at.1, ap length z.1))
        | inr z ↦ inr (inr (
          omega (arith, is_stored, now_stored, ap (stored_in 0) z.0),
          omega (arith, is_full, now_full, ap fulls z.0),
          sym z.3,
          (omega (arith, z.1, ap (events_of_puts script.shape) z.0), omega (arith, at.1, ap length z.0)),
        ))
      ]
    ]
  ]
    where
      is_put : (x : Put) → after ≡ before ++ x ∷ [] → IsPut script.shape (stored_in 0 before) x
      is_put x is =
          let (rest, e) = front_after in
          put_at script.shape 0 before x rest (subst (ArePuts script.shape 0) (e ∙ ap (λ l. l ++ rest) is ∙ append_assoc before (x ∷ []) rest) asked.are)

      by_put :
          (x : Put) → after ≡ before ++ x ∷ [] → suc i ≡ events_of_puts script.shape after → told ≡ put_answer x ∷ [] → IsPut script.shape (stored_in 0 before) x →
          ((stored < stored') × (calls.PutEnd (calls.Passed (stored' - stored) true) ∷ [] ≡ told) × IsPutStage put.Between script puts (suc i)) ⊎
          (((stored' ≤ stored) × (full < full') × (calls.PutEnd calls.Lacked ∷ [] ≡ told) × IsPutStage put.Between script puts (suc i)) ⊎
          ((stored' ≤ stored) × (full' ≤ full) × ([] ≡ told) × IsPutStage put.Putting script puts (suc i)))
      by_put (Stored seen items) is ends t p =
          let more : stored' ≡ stored + length items = grind (arith, stored-more, past_is) in
          inl (omega (arith, more, p.2.some), ap (λ n. calls.PutEnd (calls.Passed n true) ∷ []) (omega (arith, more)) ∙ sym t, sym ends)
      by_put (Full seen) is ends t p = grind (arith, stored-more, fulls-more)

  pub close_ends : IsPutStage put.Closing script puts i → (calls.CloseEnd ∷ [] ≡ told) × IsPutStage put.Closed script puts (suc i)
  close_ends at = elim tells [
    | inl z ↦ absurd (omega (arith, z.1, at.2, ap (events_of_puts script.shape) at.0))
    | inr y ↦ elim y [
      | inl z ↦ (
          let (x, is, less, ends, t) = z in
          let (rest, e) = front_after in
          absurd (omega (arith, ap length is, length-append before (x ∷ []), ap length at.0, ap length e, length-append after rest)))
      | inr v ↦ elim v [
        | inl z ↦ (sym z.5, omega (arith, z.4))
        | inr z ↦ absurd (omega (arith, z.2 at.1, at.2, whole))
      ]
    ]
  ]
    where
      whole : events_in (put_program script.shape puts) ≡ events_of_puts script.shape puts.puts + 2
      whole = omega (arith, length-append (put_phrases script.shape first_count puts.puts) (close_phrase puts.closes), ap (λ b. length (close_phrase b)) at.1)

-- ---- takes

module _ (script : Content) (takes : Takes) (i : ℕ) {told : List calls.Event}
    (tells : TakeTells script.shape (wants_of script takes) takes i (takes_over script.shape first_count takes.takes i) (takes_over script.shape first_count takes.takes (suc i)) told) where
  abbrev over_before : List Take
  over_before = takes_over script.shape first_count takes.takes i

  abbrev over_after : List Take
  over_after = takes_over script.shape first_count takes.takes (suc i)

  wants_are : wants_of script takes (length over_before) ≡ wanted_at script (length (all_taken over_before))
  wants_are =
      let (rest, e) = over_front _ _ first_count takes.takes i in
      let count : taken_in 0 over_before ≡ length (all_taken over_before) = omega (arith, all_are 0 over_before) in
      ap (λ l. wanted_at script (taken_in 0 l)) (ap (λ l. take (length over_before) l) e ∙ take-append_seam over_before rest) ∙ ap (wanted_at script) count

  pub take_begins :
      (wanted taken : ℕ) → IsTakeStage taking.Between script takes i → wanted ≡ wanted_at script taken → taken ≡ length (all_taken over_before) →
      (calls.TakeBegin wanted ∷ [] ≡ told) × IsTakeStage taking.Taking script takes (suc i)
  take_begins wanted taken e is_wanted is_taken = grind (arith, wants_are)

  -- a take ends that took some items, or none
  abbrev Ends : (taken taken' empty empty' : ℕ) → Type 0
  Ends taken taken' empty empty' =
      ((taken < taken') × (calls.TakeEnd (calls.Passed (take (taken' - taken) (drop taken script.items)) true) ∷ [] ≡ told) × IsTakeStage taking.Between script takes (suc i)) ⊎
      ((taken' ≤ taken) × (empty < empty') × (calls.TakeEnd calls.Lacked ∷ [] ≡ told) × IsTakeStage taking.Between script takes (suc i))

  -- a take continues or ends, by what is counted
  pub take_goes :
      (taken taken' empty empty' : ℕ) → AreTakes script.shape 0 takes.takes takes.end → IsPrefix (all_taken over_after) script.items → IsTakeStage taking.Taking script takes i →
      taken ≡ length (all_taken over_before) → empty ≡ empties over_before → taken' ≡ length (all_taken over_after) → empty' ≡ empties over_after →
      Ends taken taken' empty empty' ⊎
      ((taken' ≤ taken) × (empty' ≤ empty) ×
      ((IsTold script.shape takes (suc i) × (calls.TakeEnd calls.Shut ∷ [] ≡ told) × IsTakeStage taking.Told script takes (suc i)) ⊎
      ((¬ IsTold script.shape takes (suc i)) × ([] ≡ told) × IsTakeStage taking.Taking script takes (suc i))))
  take_goes taken taken' empty empty' are (rest, first) at is_taken is_empty now_taken now_empty = elim tells [
    | inl z ↦ absurd (omega (arith, at, z.1))
    | inr y ↦ elim y [
      | inl z ↦ (let (x, is, less, ends, t) = z in inl (by_take x is ends t (is_take x is)))
      | inr v ↦ elim v [
        | inl z ↦ inr (
          omega (arith, now_taken, ap (λ l. length (all_taken l)) z.0, is_taken),
          omega (arith, now_empty, ap empties z.0, is_empty),
          inl ((z.1, omega (arith, z.3)), sym z.4, omega (arith, z.3)),
        )
        | inr z ↦ inr (
          omega (arith, now_taken, ap (λ l. length (all_taken l)) z.0, is_taken),
          omega (arith, now_empty, ap empties z.0, is_empty),
          inr ((λ t. absurd (omega (arith, z.2 t.0, t.1))), sym z.3, omega (arith, z.1, ap (events_of_takes script.shape) z.0)),
        )
      ]
    ]
  ]
    where
      more : (x : Take) → over_after ≡ over_before ++ x ∷ [] → all_taken over_after ≡ all_taken over_before ++ taken_of x
      more x is = ap all_taken is ∙ all-more over_before x

      count_more : (x : Take) → over_after ≡ over_before ++ x ∷ [] → taken' ≡ taken + length (taken_of x)
      count_more x is = omega (arith, now_taken, ap length (more x is), length-append (all_taken over_before) (taken_of x), is_taken)

      is_take : (x : Take) → over_after ≡ over_before ++ x ∷ [] → IsTake script.shape (taken_in 0 over_before) x
      is_take x is =
          let (rest, e) = over_front _ _ first_count takes.takes (suc i) in
          take_at script.shape 0 over_before x rest takes.end
          (subst (λ (l : List Take). AreTakes script.shape 0 l takes.end) (e ∙ ap (λ l. l ++ rest) is ∙ append_assoc over_before (x ∷ []) rest) are)

      -- the items of the take are the script's after those taken before
      part : (x : Take) → over_after ≡ over_before ++ x ∷ [] → take (taken' - taken) (drop taken script.items) ≡ taken_of x
      part x is = grind (arith, part_is, more, count_more)

      by_take :
          (x : Take) → over_after ≡ over_before ++ x ∷ [] → suc i ≡ events_of_takes script.shape over_after → told ≡ take_answer x ∷ [] → IsTake script.shape (taken_in 0 over_before) x →
          Ends taken taken' empty empty'
      by_take (Item seen items) is ends t one =
          inl (omega (arith, count_more (Item seen items) is, one.1.some), ap (λ l. calls.TakeEnd (calls.Passed l true) ∷ []) (part (Item seen items) is) ∙ sym t, sym ends)
      by_take (ItemAfterClose seen again items) is ends t one = inl (
        omega (arith, count_more (ItemAfterClose seen again items) is, one.2.some),
        ap (λ l. calls.TakeEnd (calls.Passed l true) ∷ []) (part (ItemAfterClose seen again items) is) ∙ sym t,
        sym ends,
      )
      by_take (Empty seen) is ends t one = inr (
        omega (arith, count_more (Empty seen) is),
        omega (arith, now_empty, ap empties is, empties-more over_before (Empty seen), is_empty),
        sym t,
        sym ends,
      )
