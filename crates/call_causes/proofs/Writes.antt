-- Words that are written one after the other.
use Rattle.std.proofs.Common.{◌≡◌, ◌∙◌, ℕ, ◌+◌, ◌-◌, zero, suc, List, [], ◌∷◌, ◌++◌, length, min, take, drop, sym, ap, ap₂, arith, append_assoc, subst}
use Rattle.std.proofs.Math.Seq.{take-nil}
use borrow.Rule.Slice.PartMut.{put_mid}
use Rattle.std.proofs.lemmas.List.{length-append, length-take, length-drop}
use Rattle.call_causes.specs.Words.{AreWritten, written}

-- no words change no slot
written_none : (slots : List ℕ) → written [] slots ≡ slots
written_none slots = ap (λ xs. xs ++ slots) (take-nil (length slots))

pub nothing_written : (slots : List ℕ) → AreWritten [] slots slots 0
nothing_written slots = record { slots = sym (written_none slots); is_count = omega arith }

-- a text is written over slots by a copy of what there is room for
copied : (text slots : List ℕ) (count : ℕ) → count ≡ min (length text) (length slots) → take count text ++ drop count slots ≡ written text slots
copied [] slots count is =
    let none : count ≡ 0 = omega (arith, is) in
    ap (λ n. take {A = ℕ} n [] ++ drop n slots) none ∙ sym (written_none slots)
copied (t ∷ text) [] count is = let none : count ≡ 0 = omega (arith, is) in ap (λ n. take n (t ∷ text) ++ drop n []) none
copied (t ∷ text) (s ∷ slots) zero is = absurd (omega (arith, is))
copied (t ∷ text) (s ∷ slots) (suc count) is = ap (λ xs. t ∷ xs) (copied text slots count (omega (arith, is)))

-- and after words
behind : (words text slots : List ℕ) (used count : ℕ) → used ≡ min (length words) (length slots) → count ≡ min (length text) (length slots - used)
    → take used (written words slots) ++ (take count text ++ drop count (drop used (written words slots))) ≡ written (words ++ text) slots
behind [] text slots used count is few =
    let none : used ≡ 0 = omega (arith, is) in
    ap₂ (λ n xs. take n xs ++ (take count text ++ drop count (drop n xs))) none (written_none slots) ∙ copied text slots count (omega (arith, few, none))
behind (w ∷ words) text [] used count is few =
    let none : used ≡ 0 = omega (arith, is) in
    let neither : count ≡ 0 = omega (arith, few) in
    ap₂ (λ n m. take {A = ℕ} n [] ++ (take m text ++ drop m (drop {A = ℕ} n []))) none neither
behind (w ∷ words) text (s ∷ slots) zero count is few = absurd (omega (arith, is))
behind (w ∷ words) text (s ∷ slots) (suc used) count is few = ap (λ xs. w ∷ xs) (behind words text slots used count (omega (arith, is)) (omega (arith, few)))

length-written : (words slots : List ℕ) → length (written words slots) ≡ length slots
length-written words slots = omega (arith, length-append (take (length slots) words) (drop (length words) slots), length-take (length slots) words, length-drop (length words) slots)

pub written_behind : (words text before after part : List ℕ) (used count : ℕ) → AreWritten words before after used → count ≡ min (length text) (length after - used)
    → part ≡ take count text → AreWritten (words ++ text) before (put_mid used count after part) (used + count)
written_behind words text before after part used count so_far few is =
    let same : length after ≡ length before = ap length so_far.slots ∙ length-written words before in
    record {
      slots = ap₂ (λ xs ys. put_mid used count xs ys) so_far.slots is ∙ behind words text before used count so_far.is_count (omega (arith, few, same));
      is_count = omega (arith, few, same, so_far.is_count, length-append words text);
    }

-- texts joined from the left equal those joined from the right
pub joined : (a d b x : List ℕ) → (a ++ (d ++ b)) ++ x ≡ a ++ (d ++ (b ++ x))
joined a d b x = append_assoc a (d ++ b) x ∙ ap (λ xs. a ++ xs) (append_assoc d b x)

pub joined_twice : (a d b e c x : List ℕ) → ((a ++ (d ++ b)) ++ (e ++ c)) ++ x ≡ a ++ (d ++ (b ++ (e ++ (c ++ x))))
joined_twice a d b e c x = ap (λ xs. xs ++ x) (joined a d b (e ++ c)) ∙ joined a d (b ++ (e ++ c)) x ∙ ap (λ xs. a ++ (d ++ xs)) (joined b e c x)

-- the same words
pub written_as : {before after : List ℕ} {count : ℕ} (words text : List ℕ) → AreWritten words before after count → words ≡ text → AreWritten text before after count
written_as {before} {after} {count} words text is same = subst (λ t. AreWritten t before after count) same is
