-- The schedule's letters, byte by byte.
use Rattle.std.proofs.Common.{◌≡◌, ◌∙◌, ◌≤◌, ◌<◌, ◌+◌, ◌-◌, ◌*◌, ℕ, zero, suc, max, Bool, true, false, List, [], ◌∷◌, ◌++◌, length, replicate, get_or, drop, Some, None, refl, sym, ap, arith, add-one, append_assoc}
use Rattle.std.specs.Prelude.{slice_get, if◌then◌else◌}
use Rattle.std.proofs.lemmas.List.{at_drop_more, at_drop_all, length-append, length-replicate, append-nil, nil_from_length}
use Rattle.bits_core.specs.declared.events.Side.{Side}
use Rattle.ring_script.specs.declared.schedules.LetterRun.{LetterRun}
use Rattle.ring_script.specs.ScheduleReading.{is_digit, may_stand, stray_from, letter_side, times, letters_after, letters_of}
use Rattle.ring_script.specs.Schedule.{runs_in, spelled}

-- ---- the first stray byte

pub stray_here : (text : List ℕ) (i before : ℕ) (passes : Bool) → i < length text → passes ≡ may_stand before (get_or text i 0) → passes ≡ false → stray_from i before (drop i text) ≡ Some i
unfolding stray_from
stray_here text i before passes h is failed = grind (arith, (at_drop_more (stray_from i before) text i 0 h))

pub stray_later : (text : List ℕ) (i before : ℕ) (passes : Bool) → i < length text → passes ≡ may_stand before (get_or text i 0) → passes ≡ true
    → stray_from i before (drop i text) ≡ stray_from (i + 1) (get_or text i 0) (drop (i + 1) text)
unfolding stray_from
stray_later text i before passes h is passed = grind (arith, (add-one i), (at_drop_more (stray_from i before) text i 0 h))

pub no_stray : (text : List ℕ) (i before : ℕ) → length text ≤ i → stray_from i before (drop i text) ≡ None
unfolding stray_from
no_stray text i before h = at_drop_all (stray_from i before) text i h

-- ---- the letter at a place

pub letter_here : (n i : ℕ) (s : Side) (ys : List Side) → i < n → slice_get (replicate n s ++ ys) i ≡ Some s
letter_here zero i s ys h = absurd (omega arith)
letter_here (suc n) zero s ys h = refl
letter_here (suc n) (suc i) s ys h = letter_here n i s ys (omega arith)

pub letter_past : (n i j : ℕ) (s : Side) (ys : List Side) → j + n ≡ i → slice_get (replicate n s ++ ys) i ≡ slice_get ys j
letter_past zero i j s ys e = let same : i ≡ j = omega arith in rw same
letter_past (suc n) zero j s ys e = absurd (omega arith)
letter_past (suc n) (suc i) j s ys e = letter_past n i j s ys (omega arith)

pub run_here : (runs : List LetterRun) (k i : ℕ) (d : LetterRun) → k < length runs → i < (get_or runs k d).count → slice_get (spelled (drop k runs)) i ≡ Some (get_or runs k d).side
unfolding spelled
run_here runs k i d h less = at_drop_more (λ rs. slice_get (spelled rs) i) runs k d h ∙ letter_here _ i _ _ less

pub run_past : (runs : List LetterRun) (k i : ℕ) (d : LetterRun) → k < length runs → (get_or runs k d).count ≤ i
    → slice_get (spelled (drop k runs)) i ≡ slice_get (spelled (drop (k + 1) runs)) (i - (get_or runs k d).count)
unfolding spelled
run_past runs k i d h most = at_drop_more (λ rs. slice_get (spelled rs) i) runs k d h ∙ letter_past (get_or runs k d).count i _ _ _ (omega arith)

pub no_run : (runs : List LetterRun) (k i : ℕ) → length runs ≤ k → slice_get (spelled (drop k runs)) i ≡ None
unfolding spelled
no_run runs k i h = at_drop_all (λ rs. slice_get (spelled rs) i) runs k h

-- ---- runs

pub spelled-push : (rs : List LetterRun) (r : LetterRun) → spelled (rs ++ r ∷ []) ≡ spelled rs ++ replicate r.count r.side
unfolding spelled
spelled-push [] r = append-nil (replicate r.count r.side)
spelled-push (x ∷ rs) r = rw (spelled-push rs r) (sym (append_assoc (replicate x.count x.side) (spelled rs) (replicate r.count r.side)))

pub length-spelled-push : (rs : List LetterRun) (r : LetterRun) → length (spelled (rs ++ r ∷ [])) ≡ length (spelled rs) + r.count
length-spelled-push rs r = ap length (spelled-push rs r) ∙ length-append (spelled rs) (replicate r.count r.side) ∙ ap (λ n. length (spelled rs) + n) (length-replicate r.count r.side)

pub length-times : (n : ℕ) (s : Side) → length (times n s) ≡ max 1 n
length-times n s = length-replicate (max 1 n) s

at_least : (digit : Bool) (s : Side) (n : ℕ) (a b : List Side) → (digit ≡ true → max 1 n ≤ length a) → max 1 n ≤ length (if digit then a else times n s ++ b)
at_least digit s n a b h1 = grind (arith, length-append, length-times)

-- a letter has at least as many copies as its count so far, and at least one
pub least : (text : List ℕ) (s : Side) (n : ℕ) → max 1 n ≤ length (letters_after s n text)
unfolding letters_after
least [] s n = omega (arith, length-times n s)
least (b ∷ rest) s n = at_least (is_digit b) s n _ _ (λ _. omega (arith, least rest s (10 * n + (b - 48))))

pub digit_next : (rest : List ℕ) (i : ℕ) (s : Side) (n : ℕ) (d : Bool) → i < length rest → d ≡ is_digit (get_or rest i 0) → d ≡ true
    → letters_after s n (drop i rest) ≡ letters_after s (10 * n + (get_or rest i 0 - 48)) (drop (i + 1) rest)
unfolding letters_after
digit_next rest i s n d h is passed = grind (arith, (at_drop_more (letters_after s n) rest i 0 h))

pub letter_next : (rest : List ℕ) (i : ℕ) (s : Side) (n : ℕ) (d : Bool) → i < length rest → d ≡ is_digit (get_or rest i 0) → d ≡ false
    → letters_after s n (drop i rest) ≡ times n s ++ letters_after (letter_side (get_or rest i 0)) 0 (drop (i + 1) rest)
unfolding letters_after
letter_next rest i s n d h is failed = grind (arith, (at_drop_more (letters_after s n) rest i 0 h))

pub letters_end : (rest : List ℕ) (i : ℕ) (s : Side) (n : ℕ) → length rest ≤ i → letters_after s n (drop i rest) ≡ times n s
unfolding letters_after
letters_end rest i s n h = at_drop_all (letters_after s n) rest i h

-- ---- the loop over the bytes after the first

pub no_letters : (text : List ℕ) (rs : List LetterRun) → length text ≡ 0 → rs ≡ [] → spelled rs ≡ letters_of text
unfolding spelled letters_of
no_letters text rs e none = ap spelled none ∙ sym (ap letters_of (nil_from_length text e))

pub no_length : (text : List ℕ) (most : ℕ) → length text ≡ 0 → length (letters_of text) ≤ most
unfolding letters_of
no_length text most e = let h : length (letters_of text) ≡ 0 = ap (λ t. length (letters_of t)) (nil_from_length text e) in omega (arith, h)

pub letters_begin : (text rest : List ℕ) (b : ℕ) (s : Side) (rs : List LetterRun) → text ≡ b ∷ rest → s ≡ letter_side b → rs ≡ [] → spelled rs ++ letters_after s 0 rest ≡ letters_of text
unfolding spelled letters_of
letters_begin text rest b s rs e is none = ap (λ l. spelled l ++ letters_after s 0 rest) none ∙ ap (λ k. letters_after k 0 rest) is ∙ sym (ap letters_of e)

pub no_total : (rs : List LetterRun) → rs ≡ [] → 0 ≡ length (spelled rs)
unfolding spelled
no_total rs none = sym (ap (λ l. length (spelled l)) none)

pub too_long : (most total : ℕ) (done all : List Side) (rest : List ℕ) (s : Side) (n : ℕ) → done ++ letters_after s n rest ≡ all → total ≡ length done → most < total + max 1 n → most < length all
too_long most total done all rest s n e same h = grind (arith, least, length-append)

pub letters_pushed : (rs rs' : List LetterRun) (r : LetterRun) (all : List Side) (rest : List ℕ) (i : ℕ) (s s' : Side) (n : ℕ) (d : Bool) → i < length rest → d ≡ is_digit (get_or rest i 0) → d ≡ false
    → spelled rs ++ letters_after s n (drop i rest) ≡ all → rs' ≡ rs ++ r ∷ [] → r.count ≡ max 1 n → r.side ≡ s → s' ≡ letter_side (get_or rest i 0)
    → spelled rs' ++ letters_after s' 0 (drop (i + 1) rest) ≡ all
letters_pushed rs rs' r all rest i s s' n d h is failed e pushed count same side = grind (arith, append_assoc, letter_next, spelled-push)

pub total_pushed : (rs rs' : List LetterRun) (r : LetterRun) (total k : ℕ) → total ≡ length (spelled rs) → rs' ≡ rs ++ r ∷ [] → r.count ≡ k → total + k ≡ length (spelled rs')
total_pushed rs rs' r total k e pushed count = omega (arith, e, count, ap (λ l. length (spelled l)) pushed, length-spelled-push rs r)

pub letters_done : (rs rs' : List LetterRun) (r : LetterRun) (all : List Side) (rest : List ℕ) (i : ℕ) (s : Side) (n : ℕ) → length rest ≤ i
    → spelled rs ++ letters_after s n (drop i rest) ≡ all → rs' ≡ rs ++ r ∷ [] → r.count ≡ max 1 n → r.side ≡ s → spelled rs' ≡ all
letters_done rs rs' r all rest i s n h e pushed count same = grind (arith, letters_end, spelled-push)

pub within_done : (most total : ℕ) (done all : List Side) (rest : List ℕ) (i : ℕ) (s : Side) (n : ℕ) → length rest ≤ i
    → done ++ letters_after s n (drop i rest) ≡ all → total ≡ length done → total + max 1 n ≤ most → length all ≤ most
within_done most total done all rest i s n h e same within = grind (arith, length-append, length-times, letters_end)

-- ---- how many letters runs have

pub count_next : (runs : List LetterRun) (k : ℕ) (d : LetterRun) → k < length runs → length (spelled (drop k runs)) ≡ (get_or runs k d).count + length (spelled (drop (k + 1) runs))
unfolding spelled
count_next runs k d h =
    at_drop_more (λ rs. length (spelled rs)) runs k d h
    ∙ length-append (replicate (get_or runs k d).count (get_or runs k d).side) (spelled (drop (k + 1) runs))
    ∙ ap (λ n. n + length (spelled (drop (k + 1) runs))) (length-replicate (get_or runs k d).count (get_or runs k d).side)

pub count_end : (runs : List LetterRun) (k : ℕ) → length runs ≤ k → length (spelled (drop k runs)) ≡ 0
unfolding spelled
count_end runs k h = at_drop_all (λ rs. length (spelled rs)) runs k h

-- ---- how many runs there are

pub run_goes_on : (rest : List ℕ) (i : ℕ) (d : Bool) → i < length rest → d ≡ is_digit (get_or rest i 0) → d ≡ true → runs_in (drop i rest) ≡ runs_in (drop (i + 1) rest)
unfolding runs_in
run_goes_on rest i d h is passed = grind (arith, (at_drop_more runs_in rest i 0 h))

pub run_begins : (rest : List ℕ) (i : ℕ) (d : Bool) → i < length rest → d ≡ is_digit (get_or rest i 0) → d ≡ false → runs_in (drop i rest) ≡ suc (runs_in (drop (i + 1) rest))
unfolding runs_in
run_begins rest i d h is failed = grind (arith, (at_drop_more runs_in rest i 0 h))

pub run_made : (rs rs' : List LetterRun) (r : LetterRun) (rest : List ℕ) (i : ℕ) (d : Bool) → i < length rest → d ≡ is_digit (get_or rest i 0) → d ≡ false → rs' ≡ rs ++ r ∷ []
    → length rs + runs_in (drop i rest) ≡ runs_in rest → length rs' + runs_in (drop (i + 1) rest) ≡ runs_in rest
run_made rs rs' r rest i d h is failed pushed made = omega (arith, ap length pushed, length-append rs (r ∷ []), run_begins rest i d h is failed, made)
