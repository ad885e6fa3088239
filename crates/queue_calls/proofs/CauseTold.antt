-- What is reported from what is kept is what the past says.
use Rattle.std.proofs.Common.{◌≡◌, ℕ, suc, ◌+◌, ◌-◌, ◌<◌, ◌≤◌, nat_lt, Bool, true, false, ◌==◌, ◌||◌, if◌then◌else◌, Option, Some, None, List, [], ◌∷◌, ◌++◌, length, take, drop, get_or, refl, sym, ap, arith, append_assoc, append-nil}
use Rattle.std.specs.List.{list_any}
use Rattle.std.specs.Prelude.{unwrap_or, find, map, nat_eq}
use Rattle.std.proofs.Math.Seq.{drop-cons}
use Rattle.std.proofs.lemmas.List.{drop_all, length-take-le, take_all}
use Rattle.std.proofs.lemmas.Bool.{eqb-true, lt-ltb, eq-eqb, ne_eqb, false_from_ne_true, cond-true}
use Rattle.queue_calls.proofs.Common.{Capacity, Event, Kept, MayHold, offered_by, asked_by, has_closed, at, before_put, before_stored, before_take, closed_cause, coming, empty_cause, ended_line}
use Rattle.queue_calls.proofs.Common.{fewer_cause, full_cause, has_begun, has_ended, has_told, items_cause, k_of, last_taken, line_behind, n_of, not_taken_cause, offers, put_short_cause, stored_cause}
use Rattle.queue_calls.proofs.Common.{take_short_cause, taken_at, wanted, agreed, Cause, Offered, Taken, Offers, Late, Waits}
use Rattle.call_causes.specs.declared.causes.Cause.TheVariants.{StoredAfterClose, OnlySomeStored, StoredTooMany, OnlySomeWithRoom, FullWithRoom, FullAfterClose, NotStoredButTaken, ShortWithRoom, NoMoreWhileInside, NotTaken, EmptyWhileInside, EmptyAfterClose, ShortWhileInside, ShortAfterClose, ClosedBeforeClose, ClosedWhileInside}
use Rattle.queue_calls.proofs.Agrees.{Agrees}
use Rattle.queue_calls.proofs.Agreeing.{as_put, as_take, both, begun_is, closing, ended_grows, long, offers_none}
use Rattle.queue_calls.proofs.CauseFound.{all_inside, least_left, least_stored, most_inside, no_more, none_found, fewer_found, rest_inside, stored_fit}
use Rattle.queue_calls.proofs.CauseTests.{cannot_hold_tells}

-- ---- chains of tests

module _ {A : Type 0} where
  pub told_on : (b : Bool) (x : A) (y : Option A) (z : A) → b ≡ true → (if b then Some x else y) ≡ Some z → x ≡ z
  told_on b x y z on e = grind arith

  pub told_off : (b : Bool) (x : A) (y : Option A) (z : A) → b ≡ false → (if b then Some x else y) ≡ Some z → y ≡ Some z
  told_off b x y z off e = grind arith

-- a line that may be there
pub is_line : (b : Bool) (line : ℕ) (told : Option ℕ) → told ≡ (if b then Some line else None) → b ≡ true → unwrap_or told 0 ≡ line
is_line b line told e on = grind arith

pub no_line : (b : Bool) (line : ℕ) (told : Option ℕ) → told ≡ (if b then Some line else None) → ((x : ℕ) → told ≡ Some x → ⊥) → b ≡ false
no_line b line told e none = grind arith

module _ (capacity : Capacity) {past : List Event} {k : Kept} (a : Agrees past k) where
  -- ---- puts

  pub late_ends : {n : ℕ} → k.put ≡ Late n → has_ended past ≡ true
  late_ends {n} is = (as_put past k a (Late n) is).2

  pub late_stored : {n : ℕ} {z : Cause} (count : ℕ) (why : Bool) → k.put ≡ Late n → stored_cause capacity count why past ≡ Some z → StoredAfterClose (ended_line past) ≡ z
  late_stored {n} count why is e = told_on _ _ _ _ (as_put past k a (Late n) is).1 e

  pub late_full : {n : ℕ} {z : Cause} → k.put ≡ Late n → full_cause capacity past ≡ Some z → FullAfterClose (ended_line past) ≡ z
  late_full {n} is e = told_on _ _ _ _ (as_put past k a (Late n) is).1 e

  pub late_short : {n : ℕ} {z : Cause} → k.put ≡ Late n → put_short_cause capacity past ≡ Some z → ShortAfterClose (ended_line past) ≡ z
  late_short {n} is e = told_on _ _ _ _ (as_put past k a (Late n) is).1 e

  module _ {n inside : ℕ} (is : k.put ≡ Offers n inside) where
    early : has_ended (before_put past) ≡ false
    early = (as_put past k a (Offers n inside) is).1

    offered : length (offers past) ≡ n
    offered = (as_put past k a (Offers n inside) is).0

    pub gone : (count : ℕ) → count ≤ n → length k.inside < n - count → nat_lt (n_of past + count) (k_of past) ≡ true
    gone count few l = lt-ltb (n_of past + count) (k_of past) (omega (arith, l, long past k a, offered, few))

    none_gone : (count : ℕ) → count ≤ n → n - count ≤ length k.inside → nat_lt (n_of past + count) (k_of past) ≡ false
    none_gone count few l = (rest_inside capacity past k a n inside count is few).1 l

    pub all_gone : length k.inside < n → nat_lt (n_of past) (k_of past) ≡ true
    all_gone l = lt-ltb (n_of past) (k_of past) (omega (arith, l, long past k a, offered))

    pub stored_gone : {z : Cause} (count : ℕ) (why : Bool) → count ≤ n → length k.inside < n - count → stored_cause capacity count why past ≡ Some z → OnlySomeStored count (last_taken past) ≡ z
    stored_gone count why few l e = told_on _ _ _ _ (gone count few l) (told_off _ _ _ _ early e)

    pub stored_over :
        {z : Cause} (count : ℕ) (why : Bool) → count ≤ n → (rest least : ℕ) → rest ≡ n - count → rest ≤ length k.inside → least ≡ (length k.inside - rest) - asked_by k.take → ¬ MayHold capacity least →
        stored_cause capacity count why past ≡ Some z → StoredTooMany least ≡ z
    stored_over count why few rest least behind l is_least over e = grind (arith, least_stored capacity past k a n inside count is few, cannot_hold_tells, none_gone count few, early)

    pub stored_room :
        {z : Cause} (count : ℕ) (why : Bool) → count ≤ n → (rest least : ℕ) → rest ≡ n - count → rest ≤ length k.inside → least ≡ (length k.inside - rest) - asked_by k.take → MayHold capacity least →
        stored_cause capacity count why past ≡ Some z → OnlySomeWithRoom count inside (line_behind (before_put past)) ≡ z
    stored_room count why few rest least behind l is_least fits e = grind (arith, most_inside capacity past k a n inside is, stored_fit capacity past k a n inside count is few, none_gone count few, early)

    pub full_gone : {z : Cause} → length k.inside < n → full_cause capacity past ≡ Some z → NotStoredButTaken (last_taken past) ≡ z
    full_gone l e = told_on _ _ _ _ (all_gone l) (told_off _ _ _ _ early e)

    pub full_room : {z : Cause} → n ≤ length k.inside → full_cause capacity past ≡ Some z → FullWithRoom inside (line_behind (before_put past)) ≡ z
    full_room l e = grind (arith, most_inside capacity past k a n inside is, all_inside capacity past k a n inside is, early)

    pub short_gone : {z : Cause} → length k.inside < n → put_short_cause capacity past ≡ Some z → NotStoredButTaken (last_taken past) ≡ z
    short_gone l e = told_on _ _ _ _ (all_gone l) (told_off _ _ _ _ early e)

    pub short_room : {z : Cause} → n ≤ length k.inside → put_short_cause capacity past ≡ Some z → ShortWithRoom n inside (line_behind (before_put past)) ≡ z
    short_room l e = grind (arith, offered, most_inside capacity past k a n inside is, all_inside capacity past k a n inside is, early)

  -- ---- takes

  pub too_few : {z : Cause} (count : ℕ) → not_taken_cause capacity count past ≡ Some z → NotTaken ((length k.inside - count) - offered_by k.put) (line_behind (before_stored past)) ≡ z
  too_few count e = grind (arith, least_left)

  module _ {n before : ℕ} {closed : Bool} (is : k.take ≡ Waits n before closed) where
    wants : wanted past ≡ n
    wants = (as_take past k a (Waits n before closed) is).0

    left : before ≡ n_of (before_take past) - k_of past
    left = (as_take past k a (Waits n before closed) is).1

    ends : closed ≡ (has_ended (before_take past) || has_told past)
    ends = (as_take past k a (Waits n before closed) is).2

    pub fewer_inside : {z : Cause} (count : ℕ) (why : Bool) → why ≡ true → count < n → count < before → fewer_cause capacity count why past ≡ Some z → NoMoreWhileInside (at (coming past) count) ≡ z
    fewer_inside count why says l m e = grind (arith, lt-ltb, wants, left)

    pub fewer_left : {z : Cause} (count : ℕ) (why : Bool) → (why ≡ true → count < n → before ≤ count) → fewer_cause capacity count why past ≡ Some z → not_taken_cause capacity count past ≡ Some z
    fewer_left count why f e = told_off _ _ _ _ ((no_more capacity past k a n before closed count why is).1 f) e

    module _ (open' : has_told past ≡ false) where
      pub empty_inside : {z : Cause} → 0 < before → empty_cause capacity past ≡ Some z → EmptyWhileInside (at (coming past) 0) ≡ z
      empty_inside l e = told_on _ _ _ _ (lt-ltb (k_of past) (n_of (before_take past)) (omega (arith, l, left))) (told_off _ _ _ _ open' e)

      late : closed ≡ true → has_ended (before_take past) ≡ true
      late e = grind (arith, ends)

      pub take_ends : closed ≡ true → has_ended past ≡ true
      take_ends e = ended_grows past (late e)

      pub empty_late : {z : Cause} → before ≡ 0 → closed ≡ true → empty_cause capacity past ≡ Some z → EmptyAfterClose (ended_line past) ≡ z
      empty_late none e f = told_on _ _ _ _ (late e) (told_off _ _ _ _ ((none_found capacity past k a n before closed is).1 none) (told_off _ _ _ _ open' f))

      pub empty_early : {z : Cause} → before ≡ 0 → closed ≡ false → empty_cause capacity past ≡ Some z → not_taken_cause capacity 0 past ≡ Some z
      empty_early none e f = grind (arith, ends, none_found capacity past k a n before closed is)

      pub short_inside : {z : Cause} → 0 < n → n ≤ before → take_short_cause capacity past ≡ Some z → ShortWhileInside (at (coming past) (n - 1)) ≡ z
      short_inside some l e = grind (arith, lt-ltb, left, wants)

      pub short_late : {z : Cause} → 0 < n → before < n → closed ≡ true → length k.inside ≡ 0 → take_short_cause capacity past ≡ Some z → ShortAfterClose (ended_line past) ≡ z
      short_late some l e none f = grind (arith, offers_none past k a, a.ended, take_ends, late, long past k a, eq-eqb, fewer_found capacity past k a n before closed is some)

      pub short_early :
          {z : Cause} → 0 < n → before < n → (closed ≡ true → 0 < length k.inside) → take_short_cause capacity past ≡ Some z → not_taken_cause capacity 0 past ≡ Some z
      short_early some l inside f = grind (arith, ends, offers_none past k a, a.ended, ended_grows, long past k a, ne_eqb, fewer_found capacity past k a n before closed is some)

  pub closed_inside : {z : Cause} → has_closed k.put k.shut ≡ true → (if has_begun past then closed_cause (coming past) else Some ClosedBeforeClose) ≡ Some z → ClosedWhileInside (at (coming past) 0) ≡ z
  closed_inside {z} e f = grind (arith, begun_is)

  pub closed_open : {z : Cause} → has_closed k.put k.shut ≡ false → (if has_begun past then closed_cause (coming past) else Some ClosedBeforeClose) ≡ Some z → ClosedBeforeClose ≡ z
  closed_open {z} e f = grind (arith, false_from_ne_true, both, closing)

-- ---- items

-- the next ones of items are passed
pub passed :
    (limit : ℕ) (capacity : Capacity) (why : Bool) (past : List Event) (first items : List ℕ) (rest : List Offered) →
    items_cause limit capacity why past first items rest ≡ items_cause limit capacity why past (first ++ take (agreed items rest) items) (drop (agreed items rest) items) (drop (agreed items rest) rest)
passed limit capacity why past first [] rest = ap (λ z. items_cause limit capacity why past z [] rest) (sym (append-nil first))
passed limit capacity why past first (item ∷ items) [] = ap (λ z. items_cause limit capacity why past z (item ∷ items) []) (sym (append-nil first))
passed limit capacity why past first (item ∷ items) (next ∷ rest) =
    grind (arith, take, drop, cond-true, append_assoc, append-nil, passed limit capacity why past (first ++ item ∷ []) items rest)

-- and the one after them is not the next
pub not_passed : (items : List ℕ) (rest : List Offered) → agreed (drop (agreed items rest) items) (drop (agreed items rest) rest) ≡ 0
not_passed [] rest = refl
not_passed (item ∷ items) [] = refl
not_passed (item ∷ items) (next ∷ rest) = grind (arith, drop, not_passed items rest)

pub agreed_few : (items : List ℕ) (rest : List Offered) → agreed items rest ≤ length items
agreed_few [] rest = omega arith
agreed_few (item ∷ items) [] = omega arith
agreed_few (item ∷ items) (next ∷ rest) = grind (arith, length, agreed_few items rest)

pub one_not_passed : (item : ℕ) (more : List ℕ) (rest : List Offered) → agreed (item ∷ more) rest ≡ 0 → agreed (item ∷ []) rest ≡ 0
one_not_passed item more rest e = grind arith

-- an item that a line took before others
pub taken_first :
    (line item : ℕ) (first : List ℕ) (more : List Taken) → find (λ t. t.item == item) (map (taken_at line) first ++ more) ≡
    (if list_any (λ y. nat_eq y item) first then Some (taken_at line item) else find (λ t. t.item == item) more)
taken_first line item [] more = refl
taken_first line item (x ∷ first) more = grind (arith, eqb-true, taken_first line item first more)

-- what is reported after those that are passed
pub behind_passed :
    (limit : ℕ) (capacity : Capacity) (why : Bool) (past : List Event) (items : List ℕ) (rest : List Offered) (z : Cause) (q item d : ℕ) → q ≡ agreed items rest → q < length items → item ≡ get_or items q d →
    items_cause limit capacity why past [] items rest ≡ Some z →
    (agreed (item ∷ []) (drop (length (take q items)) rest) ≡ 0) × (items_cause limit capacity why past (take q items) (item ∷ drop (suc q) items) (drop (length (take q items)) rest) ≡ Some z)
behind_passed limit capacity why past items rest z q item d is few at_it e = grind (arith, long, length, take, length-take-le, drop, drop-cons, passed, not_passed, one_not_passed)

pub all_passed :
    (limit : ℕ) (capacity : Capacity) (why : Bool) (past : List Event) (items : List ℕ) (rest : List Offered) (z : Cause) (q : ℕ) → q ≡ agreed items rest → length items ≤ q →
    items_cause limit capacity why past [] items rest ≡ Some z → fewer_cause capacity (length items) why past ≡ Some z
all_passed limit capacity why past items rest z q is many e = grind (arith, length, agreed_few, drop, take, passed, take_all, drop_all)
