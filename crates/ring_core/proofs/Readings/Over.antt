-- The calls that are over are the same in every reading of a history.
use Rattle.std.proofs.Common.{◌≡◌, inl, inr, ℕ, ◌+◌, ◌-◌, ◌*◌, ◌<◌, ◌≤◌, Bool, true, false, cond, List, [], ◌∷◌, ◌++◌, length, refl, sym, ap, subst, ◌∙◌, arith, nat_le, append_assoc, append-nil, length-append}
use Rattle.ring_core.proofs.Common.{leb-true, le-leb, lt-leb, nat_tests, Side, P, C, Shape, Made, events_of, subhistory, IsPrefix, Count, first_count, HasTakeMore, Take, Takes, End, Open, AreTakes}
use Rattle.ring_core.proofs.Common.{taken_after, taken_in, end_phrase, take_phrase, take_phrases, take_program, count_after}
use Rattle.bits_core.specs.declared.events.Event.{Event}
use Rattle.ring_core.specs.Items.{events_in, taken_of, all_taken, items_taken, ToldIn, TakenAreRead}
use Rattle.ring_core.specs.Over.{over, takes_over, PutsOverAreRead, TakesOverAreRead}
use Rattle.ring_core.specs.Puts.{Put, Puts, ArePuts, close_phrase, number_after, put_phrase, put_phrases, put_program, stored_after, stored_count}
use Rattle.ring_core.proofs.CountRow.{past_is}
use Rattle.ring_core.proofs.Readings.Cuts.{cut}
use Rattle.ring_core.proofs.Readings.ByCalls.{GoByCalls, calls-append, puts_go_by_calls, takes_go_by_calls}
use Rattle.ring_core.proofs.Readings.ItemsRead.{puts-are_first}
use Rattle.ring_core.proofs.Readings.TakesRead.{takes-are_first}
use Rattle.ring_core.proofs.Machines.Following.{events_of-append, length-events}
use Rattle.ring_core.proofs.Readings.TakesFirst.{scan}

module _ {S X : Type 0} (events : S → X → ℕ) (after : S → X → S) where
  -- the events of these calls, and the state after them
  abbrev pub total : S → List X → ℕ
  total s [] = 0
  total s (x ∷ xs) = events s x + total (after s x) xs

  abbrev state : S → List X → S
  state s [] = s
  state s (x ∷ xs) = state (after s x) xs

  -- the calls begin with these, which have at most t events
  pub record Front (s : S) (xs : List X) (t : ℕ) (ys : List X) : Type 0 where
    pub rest : List X
    pub parts : xs ≡ ys ++ rest
    pub within : total s ys ≤ t

  pub front : (s : S) (xs : List X) (t : ℕ) → Front s xs t (over events after s xs t)
  front s [] t = record { rest = []; parts = refl; within = omega arith }
  front s (x ∷ xs) t = by_test (front (after s x) xs (t - events s x)) (nat_le (events s x) t) refl
    where
      by_test : (more : Front (after s x) xs (t - events s x) (over events after (after s x) xs (t - events s x))) (b : Bool) → nat_le (events s x) t ≡ b → Front s (x ∷ xs) t (cond b (x ∷ over events after (after s x) xs (t - events s x)) [])
      by_test more true e = record { rest = more.rest; parts = ap (λ l. x ∷ l) more.parts; within = omega (arith, more.within, leb-true (events s x) t e) }
      by_test more false e = record { rest = x ∷ xs; parts = refl; within = omega arith }

  pub over_front : (s : S) (xs : List X) (t : ℕ) → (rest : List X) × (xs ≡ over events after s xs t ++ rest)
  over_front s xs t = let f = front s xs t in (f.rest, f.parts)

  -- if calls start with these, which have at most t events, these are over
  behind : (s : S) (xs ys : List X) (t : ℕ) → total s xs ≤ t → over events after s (xs ++ ys) t ≡ xs ++ over events after (state s xs) ys (t - total s xs)
  behind s [] ys t l = let whole : t ≡ t - 0 = omega arith in ap (λ n. over events after s ys n) whole
  behind s (x ∷ xs) ys t l =
      let first : nat_le (events s x) t ≡ true = le-leb (events s x) t (omega (arith, l)) in
      let left : t - events s x - total (after s x) xs ≡ t - (events s x + total (after s x) xs) = omega arith in
      ap (λ b. cond b (x ∷ over events after (after s x) (xs ++ ys) (t - events s x)) []) first
      ∙ ap (λ l. x ∷ l) (behind (after s x) xs ys (t - events s x) (omega (arith, l)))
      ∙ ap (λ n. x ∷ (xs ++ over events after (state (after s x) xs) ys n)) left

  -- calls with at most t events are all over
  all_over : (s : S) (xs : List X) (t : ℕ) → total s xs ≤ t → over events after s xs t ≡ xs
  all_over s [] t l = refl
  all_over s (x ∷ xs) t l = grind (arith, le-leb, all_over (after s x) xs (t - events s x) (omega (arith, l)))

  -- and all but the last, if that one makes them more
  cut_over : (s : S) (xs : List X) (x : X) (t : ℕ) → total s xs ≤ t → t < total s (xs ++ x ∷ []) → over events after s (xs ++ x ∷ []) t ≡ xs
  cut_over s [] x t l m = ap (λ (b : Bool). cond b (x ∷ []) []) (lt-leb (events s x) t (omega (arith, m)))
  cut_over s (y ∷ xs) x t l m = grind (arith, le-leb, cut_over (after s y) xs x (t - events s y) (omega (arith, l)) (omega (arith, m)))

  none_left : {A : Type 0} (xs ys : List A) → length xs ≤ length ys → (more : List A) → xs ≡ ys ++ more → xs ≡ ys
  none_left xs ys l [] e = e ∙ append-nil ys
  none_left xs ys l (x ∷ more) e = absurd (omega (arith, l, ap length e, length-append ys (x ∷ more)))

  -- if the calls of one list that are over are a prefix of those of the other, and vice versa, they are the same
  same_over :
      (s : S) (xs ys : List X) (t : ℕ) → ((rest : List X) × (ys ≡ over events after s xs t ++ rest)) → ((rest : List X) × (xs ≡ over events after s ys t ++ rest)) →
      over events after s xs t ≡ over events after s ys t
  same_over s xs ys t (u, e) (v, f) =
      let a : List X = over events after s xs t in
      let b : List X = over events after s ys t in
      let b_longer : b ≡ a ++ over events after (state s a) u (t - total s a) = ap (λ l. over events after s l t) e ∙ behind s a u t (front s xs t).within in
      let a_longer : a ≡ b ++ over events after (state s b) v (t - total s b) = ap (λ l. over events after s l t) f ∙ behind s b v t (front s ys t).within in
      none_left a b (omega (arith, ap length b_longer, length-append a (over events after (state s a) u (t - total s a)))) (over events after (state s b) v (t - total s b)) a_longer

-- by the accesses of the calls; each access has two events
module _ {X : Type 0} (phrase : Count → X → List Made) (next : Count → X → Count) (phrases : Count → List X → List Made)
    (total_is : (c : Count) (xs : List X) → total (λ c x. events_in (phrase c x)) next c xs ≡ 2 * length (phrases c xs)) where
  pub calls_all_over : (c : Count) (xs : List X) (t : ℕ) → 2 * length (phrases c xs) ≤ t → over (λ c x. events_in (phrase c x)) next c xs t ≡ xs
  calls_all_over c xs t l = all_over (λ c x. events_in (phrase c x)) next c xs t (omega (arith, l, total_is c xs))

  pub calls_cut_over :
      (c : Count) (xs : List X) (x : X) (t : ℕ) → 2 * length (phrases c xs) ≤ t → t < 2 * length (phrases c (xs ++ x ∷ [])) →
      over (λ c x. events_in (phrase c x)) next c (xs ++ x ∷ []) t ≡ xs
  calls_cut_over c xs x t l m = cut_over (λ c x. events_in (phrase c x)) next c xs x t (omega (arith, l, total_is c xs)) (omega (arith, m, total_is c (xs ++ x ∷ [])))

-- ---- complete calls whose events have come

-- complete accesses whose events have come, after which the accesses of a side continue, are a prefix of those of each reading
begin_each :
    (s : Side) (es : List Event) (whole rest one other : List Made) → 2 * length whole ≤ length es → one ≡ whole ++ rest →
    IsPrefix es (events_of s one) → IsPrefix es (events_of s other) → IsPrefix (events_of s whole) (events_of s other)
begin_each s es whole rest one other l is (r, e) (r', e') = grind (arith, events_of-append s whole rest, cut, length-events s whole, append_assoc)

-- ---- calls

-- the events of calls are those of their phrases
calls_total :
    {S X : Type 0} → {phrase : S → X → List Made} → {phrases : S → List X → List Made} → {after : S → X → S} → {state : S → List X → S} →
    GoByCalls phrase phrases after state → (s : S) (xs : List X) → total (λ t x. events_in (phrase t x)) after s xs ≡ 2 * length (phrases s xs)
calls_total go s [] = omega (arith, ap length (go.none s))
calls_total {phrase} {phrases} {after} go s (x ∷ xs) = grind (arith, length, length-append, calls_total go (after s x) xs)

-- the calls over in one reading are a prefix of the other
done_begins :
    {S X : Type 0} → {phrase : S → X → List Made} → {phrases : S → List X → List Made} → {after : S → X → S} → {state : S → List X → S} →
    GoByCalls phrase phrases after state → (side : Side) (es : List Event) (s : S) (xs : List X) (left other : List Made) →
    IsPrefix es (events_of side (phrases s xs ++ left)) → IsPrefix es (events_of side other) →
    IsPrefix (events_of side (phrases s (over (λ t x. events_in (phrase t x)) after s xs (length es)) ++ [])) (events_of side other)
done_begins {X} {phrase} {phrases} {after} {state} go side es s xs left other p q =
    let done : List X = over (λ t x. events_in (phrase t x)) after s xs (length es) in
    let f = front (λ t x. events_in (phrase t x)) after s xs (length es) in
    let first : List Made = phrases s done in
    let rest : List Made = phrases (state s done) f.rest ++ left in
    let program : phrases s xs ++ left ≡ (first ++ []) ++ rest =
    ap (λ l. phrases s l ++ left) f.parts ∙ ap (λ l. l ++ left) (calls-append go s done f.rest) ∙ append_assoc first (phrases (state s done) f.rest) left ∙
    ap (λ l. l ++ rest) (sym (append-nil first)) in
    let size : 2 * length (first ++ []) ≤ length es = omega (arith, f.within, calls_total go s done, ap length (append-nil first)) in
    begin_each side es (first ++ []) rest (phrases s xs ++ left) other size program p q

-- so they are the same, if calls whose events begin those of the other list are the first calls of that list
over_read :
    {S X : Type 0} → {phrase : S → X → List Made} → {phrases : S → List X → List Made} → {after : S → X → S} → {state : S → List X → S} →
    GoByCalls phrase phrases after state → (side : Side) (es : List Event) (s : S) (xs ys : List X) (left right : List Made) →
    IsPrefix es (events_of side (phrases s xs ++ left)) → IsPrefix es (events_of side (phrases s ys ++ right)) →
    ((done rest : List X) → xs ≡ done ++ rest → IsPrefix (events_of side (phrases s done ++ [])) (events_of side (phrases s ys ++ right)) → (more : List X) × (ys ≡ done ++ more)) →
    ((done rest : List X) → ys ≡ done ++ rest → IsPrefix (events_of side (phrases s done ++ [])) (events_of side (phrases s xs ++ left)) → (more : List X) × (xs ≡ done ++ more)) →
    over (λ t x. events_in (phrase t x)) after s xs (length es) ≡ over (λ t x. events_in (phrase t x)) after s ys (length es)
over_read {phrase} {phrases} {after} go side es s xs ys left right p q one two =
    let f = front (λ t x. events_in (phrase t x)) after s xs (length es) in
    let g = front (λ t x. events_in (phrase t x)) after s ys (length es) in
    same_over (λ t x. events_in (phrase t x)) after s xs ys (length es) (one _ f.rest f.parts (done_begins go side es s xs left (phrases s ys ++ right) p q))
    (two _ g.rest g.parts (done_begins go side es s ys right (phrases s xs ++ left) q p))

-- ---- puts

pub puts-append : (shape : Shape) (c : Count) (xs ys : List Put) → put_phrases shape c (xs ++ ys) ≡ put_phrases shape c xs ++ put_phrases shape (stored_count shape c xs) ys
puts-append shape = calls-append (puts_go_by_calls shape)

first_puts : (shape : Shape) (n : ℕ) (xs ys : List Put) → ArePuts shape n (xs ++ ys) → ArePuts shape n xs
first_puts shape n [] ys p = tt
first_puts shape n (x ∷ xs) ys p = (p.0, first_puts shape (number_after n x) xs ys p.1)

pub puts_total : (shape : Shape) (c : Count) (xs : List Put) → total (λ c x. events_in (put_phrase shape c x)) (stored_after shape) c xs ≡ 2 * length (put_phrases shape c xs)
puts_total shape = calls_total (puts_go_by_calls shape)

puts_begin :
    (shape : Shape) (a b : Puts) → ArePuts shape 0 a.puts → ArePuts shape 0 b.puts → (done rest : List Put) → a.puts ≡ done ++ rest →
    IsPrefix (events_of P (put_phrases shape first_count done ++ [])) (events_of P (put_program shape b)) → (more : List Put) × (b.puts ≡ done ++ more)
puts_begin shape a b p q done rest parts begun =
    (puts-are_first shape (record { puts = done; closes = false }) b (first_puts shape 0 done rest (subst (ArePuts shape 0) parts p)) q begun).0

pub puts_over-read : PutsOverAreRead
puts_over-read shape h a b p q =
    over_read (puts_go_by_calls shape) P (subhistory P h) first_count a.puts b.puts (close_phrase a.closes) (close_phrase b.closes) p.events q.events
    (puts_begin shape a b p.are q.are) (puts_begin shape b a q.are p.are)

-- ---- takes

pub first_takes : (shape : Shape) (c : Count) (xs ys : List Take) (end : End) → AreTakes shape c.number (xs ++ ys) end → AreTakes shape c.number xs Open
first_takes shape c [] ys end p = tt
first_takes shape c (x ∷ xs) ys end p = (p.0, first_takes shape (count_after shape c x) xs ys end p.1)

pub takes_total : (shape : Shape) (c : Count) (xs : List Take) → total (λ c x. events_in (take_phrase shape c x)) (count_after shape) c xs ≡ 2 * length (take_phrases shape c xs)
takes_total shape = calls_total (takes_go_by_calls shape)

takes_begin :
    (shape : Shape) (a b : Takes) → AreTakes shape 0 a.takes a.end → AreTakes shape 0 b.takes b.end → (done rest : List Take) → a.takes ≡ done ++ rest →
    IsPrefix (events_of C (take_phrases shape first_count done ++ [])) (events_of C (take_program shape b)) → (more : List Take) × (b.takes ≡ done ++ more)
takes_begin shape a b p q done rest parts begun =
    (takes-are_first shape (record { takes = done; end = Open }) b (first_takes shape first_count done rest a.end (subst (λ l. AreTakes shape 0 l a.end) parts p)) q begun).0

pub takes_over-read : TakesOverAreRead
takes_over-read shape h a b p q =
    over_read (takes_go_by_calls shape) C (subhistory C h) first_count a.takes b.takes (end_phrase a.end) (end_phrase b.end) p.events q.events
    (takes_begin shape a b p.are q.are) (takes_begin shape b a q.are p.are)

-- ---- the items taken

-- within no event no take is over
pub none_over : (shape : Shape) (c : Count) (takes : List Take) → takes_over shape c takes 0 ≡ []
none_over shape c [] = refl
none_over shape c (x ∷ takes) = grind (arith, nat_tests, length-append, scan, append_assoc)

-- the items taken are those of the takes that are over
pub taken-over : (shape : Shape) (c : Count) (takes : List Take) (t : ℕ) → items_taken shape c takes t ≡ all_taken (takes_over shape c takes t)
taken-over shape c [] t = refl
taken-over shape c (x ∷ takes) t = search (arith, nat_tests, none_over, taken-over shape (count_after shape c x) takes (t - (events_in (take_phrase shape c x))))

-- takes that have all ended have taken all their items
pub taken_all : (shape : Shape) (c : Count) (takes : List Take) (t : ℕ) → 2 * length (take_phrases shape c takes) ≤ t → items_taken shape c takes t ≡ all_taken takes
taken_all shape c takes t l = taken-over shape c takes t ∙ ap all_taken (calls_all_over (take_phrase shape) (count_after shape) (take_phrases shape) (takes_total shape) c takes t l)

pub after_is : (k : ℕ) (x : Take) → taken_after k x ≡ k + length (taken_of x)
after_is k x = grind (arith, past_is)

pub all_are : (k : ℕ) (xs : List Take) → k + length (all_taken xs) ≡ taken_in k xs
all_are k [] = omega arith
all_are k (x ∷ xs) = omega (arith, all_are (taken_after k x) xs, after_is k x, length-append (taken_of x) (all_taken xs))

-- while one more take is under way, the takes before it are over
pub over-under_way :
    (shape : Shape) (wanted : ℕ) (calls more : Takes) (t : ℕ) → HasTakeMore shape wanted calls more → 2 * length (take_phrases shape first_count calls.takes) ≤ t →
    t < 2 * length (take_program shape more) → takes_over shape first_count more.takes t ≡ calls.takes
over-under_way shape wanted calls more t has reached under_way =
    elim has.is_one_more [
      | inl (x, of, more_is) ↦
          let last : length (take_program shape more) ≡ length (take_phrases shape first_count (calls.takes ++ x ∷ [])) = grind (arith, append-nil) in
          ap (λ (m : Takes). takes_over shape first_count m.takes t) more_is
          ∙ calls_cut_over (take_phrase shape) (count_after shape) (take_phrases shape) (takes_total shape) first_count calls.takes x t reached (omega (arith, under_way, last))
      | inr (seen, again, more_is) ↦
          ap (λ (m : Takes). takes_over shape first_count m.takes t) more_is
          ∙ calls_all_over (take_phrase shape) (count_after shape) (take_phrases shape) (takes_total shape) first_count calls.takes t reached
    ]

-- the items taken in a history, and whether a take returned Closed, are the same whichever takes its events are read as
pub taken-are_read : TakenAreRead
taken-are_read shape h a b p q =
    let t : ℕ = length (subhistory C h) in
    let program : List Made = take_program shape a in (
      taken-over shape first_count a.takes t ∙ ap all_taken (takes_over-read shape h a b p q) ∙ sym (taken-over shape first_count b.takes t),
      λ told.
          (let begins = begin_each C (subhistory C h) program [] program (take_program shape b) told.1 (sym (append-nil program)) p.events q.events in
          subst (ToldIn shape h) ((takes-are_first shape a b p.are q.are begins).1 told.0) told),
    )
