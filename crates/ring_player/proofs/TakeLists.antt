-- What takes took, and what they returned, one after the other.
use Rattle.std.proofs.Common.{◌≡◌, ℕ, ◌+◌, ◌≤◌, Some, List, [], ◌∷◌, ◌++◌, length, refl, length-append, arith, Option, None}
use Rattle.ring_player.proofs.Common.{Shape, Count, empties, TakeBatchReply, past_is}
use Rattle.ring_core.specs.ConsumerCalls.{take_batch_reply, take_reply_to}
use Rattle.ring_core.specs.Items.{taken_of}
use Rattle.ring_core.specs.Takes.{AreTakes, count_after, Empty, End, IsTake, Item, ItemAfterClose, Take, take_phrases, taken_after, taken_in}
use Rattle.ring_core.specs.declared.replies.TakeBatchReply.TheVariants as taken
pub use Rattle.ring_core.proofs.Machines.TakeCalls.{all_taken-push as all-more}
pub use Rattle.ring_core.proofs.Readings.Over.{after_is, all_are}
pub use Rattle.ring_core.proofs.Recorded.RecordedStates.{few_items as take_within}

-- ---- the items taken

pub taken-more : (k : ℕ) (xs : List Take) (x : Take) → taken_in k (xs ++ x ∷ []) ≡ taken_after (taken_in k xs) x
taken-more k [] x = refl
taken-more k (y ∷ xs) x = taken-more (taken_after k y) xs x

pub taken_rises : (k : ℕ) (xs ys : List Take) → taken_in k xs ≤ taken_in k (xs ++ ys)
taken_rises k [] [] = omega arith
taken_rises k [] (y ∷ ys) = omega (arith, after_more k y, taken_rises (taken_after k y) [] ys)
  where
    after_more : (k : ℕ) (x : Take) → k ≤ taken_after k x
    after_more k (Item seen items) = omega (arith, past_is k items)
    after_more k (ItemAfterClose seen again items) = omega (arith, past_is k items)
    after_more k (Empty seen) = omega arith
taken_rises k (x ∷ xs) ys = taken_rises (taken_after k x) xs ys

-- each of these takes is a take
pub take_at : (shape : Shape) (k : ℕ) (xs : List Take) (x : Take) (ys : List Take) (end : End) → AreTakes shape k (xs ++ x ∷ ys) end → IsTake shape (taken_in k xs) x
take_at shape k [] x ys end are = are.0
take_at shape k (y ∷ xs) x ys end are = take_at shape (taken_after k y) xs x ys end are.1

-- ---- their replies

-- how many takes found the ring empty, by a reply
abbrev pub empty_in : Option TakeBatchReply → ℕ
empty_in None = 0
empty_in (Some (taken.Taken count)) = 0
empty_in (Some taken.Empty) = 1
empty_in (Some taken.Closed) = 0

pub empties-more : (xs : List Take) (x : Take) → empties xs + empty_in (take_batch_reply (Some (take_reply_to x)) (taken_of x)) ≡ empties (xs ++ x ∷ [])
empties-more [] (Item seen []) = refl
empties-more [] (Item seen (item ∷ items)) = refl
empties-more [] (ItemAfterClose seen again []) = refl
empties-more [] (ItemAfterClose seen again (item ∷ items)) = refl
empties-more [] (Empty seen) = refl
empties-more (Item seen items ∷ xs) x = empties-more xs x
empties-more (ItemAfterClose seen again items ∷ xs) x = empties-more xs x
empties-more (Empty seen ∷ xs) x = omega (arith, empties-more xs x)

-- ---- no more than there are accesses

pub empties_few : (shape : Shape) (c : Count) (list : List Take) → empties list ≤ length (take_phrases shape c list)
empties_few shape c [] = omega arith
empties_few shape c (Item seen items ∷ list) = grind (arith, length-append, empties_few shape (count_after shape c (Item seen items)) list)
empties_few shape c (ItemAfterClose seen again items ∷ list) =
    grind (arith, length-append, empties_few shape (count_after shape c (ItemAfterClose seen again items)) list)
empties_few shape c (Empty seen ∷ list) = grind (arith, length-append, empties_few shape (count_after shape c (Empty seen)) list)
