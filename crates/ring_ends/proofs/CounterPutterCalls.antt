-- The calls of a counter ring's putter, step by step, over its ends.
use Rattle.std.proofs.Common.{◌≡◌, ◌⊎◌, ℕ, zero, suc, ◌+◌, ◌-◌, ◌%◌, ◌<◌, ◌≤◌, false, List, [], ◌∷◌, ◌++◌, length, length-take-le, take, refl, ap, sym, subst, ◌∙◌, arith}
use Rattle.std.proofs.Math.Nat.{mod-mod, mod-add-mod}
use Rattle.ring_ends.proofs.Common.{Shape, Side, P, Event, capacity_of, modulus_of, Made, events_of, RingEnd, Follows, IsSameEnd, StandsAs, HasPutAll}
use Rattle.bits_core.proofs.Fitting.{AllFit-take}
use Rattle.register_core.specs.ScanState.{scan_phrase, row_read_by}
use Rattle.ring_core.specs.Counts.{distance, number_past, LeavesRoom, LeavesRoomFor}
use Rattle.ring_core.specs.Puts.{Put, Puts, Stored, Full, number_after, words_phrase, IsPut, IsBatch}
use Rattle.ring_core.specs.ProducerCalls.{count_of, room_in, and_put, IsPutOf}
use Rattle.ring_seats.specs.Calls.{HasPuts}
use Rattle.ring_seats.specs.Counters.{GrowsBy, unary_over}
use Rattle.ring_core.specs.declared.replies.BatchReply.TheVariants as several
use Rattle.ring_ends.specs.CounterEnds.{CountedList, PutterList, put_of, PutMade, PutKept}
use Rattle.ring_seats.proofs.CounterPuts.{length-first, first_all, past_is, words_same, can_scan, full_is, can_store, can_count, stored_is}
use Rattle.ring_seats.proofs.CounterSteps.{same_shape, same_end, stands_as}
use Rattle.ring_core.proofs.LawLemmas.{programs_by_one_call_puts}

-- ---- a put

leaves : (size far most : ℕ) → 0 < most → most ≤ size - far → far + most ≤ size
leaves size far most lt le = omega (arith, lt, le)

none_left : (size far n : ℕ) → 1 ≤ n → (0 ≡ n) ⊎ (0 ≡ size - far) → far < size → ⊥
none_left size far n h1 h2 h3 = grind arith

-- this many of the items fit the room that was seen: all of them, or as many as there is room for
pub record Fitting (shape : Shape) (count seen : ℕ) (items : List ℕ) (most : ℕ) : Type 0 where
  pub few : most ≤ length items
  pub room : most ≤ room_in shape count seen
  pub all : (most ≡ length items) ⊎ (most ≡ room_in shape count seen)

number_of : (most seen n : ℕ) (items : List ℕ) → most ≤ length items → number_after n (put_of most seen items) ≡ n + most
number_of most seen n items h1 = grind (arith, length-first, past_is)

-- the number of items after the put
number_now : (shape other : Shape) → other ≡ shape → (list : List Event) (calls : Puts) → HasPuts shape list calls → calls.closes ≡ false → (most seen : ℕ) (items : List ℕ) → most ≤ length items
    → IsPut shape (count_of shape calls).number (put_of most seen items) → (count_of other (and_put calls (put_of most seen items))).number ≡ (count_of other calls).number + most
number_now shape other e list calls has opened most seen items le is = grind (arith, number_of, programs_by_one_call_puts)

module _ (a : RingEnd) (count cell : ℕ) (items : List ℕ) (calls : Puts) (p : PutterList a count cell calls) (opened : calls.closes ≡ false) (batch : IsBatch a.ring.shape items) where
  pub to_scan : (c : ℕ) → c < modulus_of a.ring.shape → Follows a.ring.shape a.side (a.list ++ events_of a.side (scan_phrase (row_read_by a.side) c))
  to_scan c lt = subst (λ (s : Side). Follows a.ring.shape s (a.list ++ events_of s (scan_phrase (row_read_by s) c))) (sym p.side_is) (go items batch)
    where
      go : (xs : List ℕ) → IsBatch a.ring.shape xs → Follows a.ring.shape P (a.list ++ events_of P (scan_phrase (row_read_by P) c))
      go [] is = absurd (omega (arith, is.some))
      go (x ∷ xs) is = can_scan a.ring.shape a.list calls p.has opened x xs is c lt

  abbrev n_of : ℕ
  n_of = (count_of a.ring.shape calls).number

  module _ (seen : ℕ) (lt : seen < modulus_of a.ring.shape) (b : RingEnd) (g : GrowsBy a b (scan_phrase (row_read_by a.side) seen)) (most : ℕ) (fit : Fitting a.ring.shape count seen items most) where
    at1 : b.list ≡ a.list ++ events_of P (scan_phrase (row_read_by P) seen)
    at1 = g.list ∙ ap (λ (s : Side). a.list ++ events_of s (scan_phrase (row_read_by s) seen)) p.side_is

    pub full_put : most ≡ 0 → PutMade a b calls items 0
    full_put none = record {
      same = g.same;
      stands = stands_as a b P g.same p.side_is g.stands;
      few = omega arith;
      seen = seen;
      is = tt;
      has = subst (λ (sh : Shape). HasPuts sh b.list (and_put calls (Full seen))) (sym (same_shape a b g.same)) (full_is a.ring.shape a.list calls p.has opened seen b.list lt not_room at1);
      number = number_now a.ring.shape b.ring.shape (same_shape a b g.same) a.list calls p.has opened 0 seen items (omega arith) (lt, not_room);
    }
      where
        not_room : ¬ LeavesRoom a.ring.shape ((count_of a.ring.shape calls).number % modulus_of a.ring.shape) seen
        not_room = subst (λ (n : ℕ). ¬ LeavesRoom a.ring.shape n seen) p.count_is
            (none_left (capacity_of a.ring.shape) (distance (modulus_of a.ring.shape) count seen) (length items) batch.some
            (subst (λ (m : ℕ). (m ≡ length items) ⊎ (m ≡ room_in a.ring.shape count seen)) none fit.all))

    module _ (some : 0 < most) where
      abbrev stored : List ℕ
      stored = take most items

      long : length (take most items) ≡ most
      long = length-first most items fit.few

      is_put : IsPut a.ring.shape n_of (Stored seen stored)
      is_put = (
        lt,
        subst (λ (n : ℕ). LeavesRoomFor a.ring.shape n seen (length (take most items))) p.count_is
            (subst (λ (m : ℕ). LeavesRoomFor a.ring.shape count seen m) (sym long) (leaves (capacity_of a.ring.shape) (distance (modulus_of a.ring.shape) count seen) most some fit.room)),
        record { some = omega (arith, some, long); few = omega (arith, batch.few, long, fit.few); fit = AllFit-take a.ring.shape most items batch.fit },
      )

      cell_same : cell % capacity_of a.ring.shape ≡ n_of % capacity_of a.ring.shape
      cell_same = ap (λ (n : ℕ). n % capacity_of a.ring.shape) p.cell_is ∙ mod-mod n_of (capacity_of a.ring.shape)

      words_are : words_phrase a.ring.shape cell stored ≡ words_phrase a.ring.shape n_of stored
      words_are = words_same a.ring.shape stored cell n_of cell_same

      pub to_store : Follows b.ring.shape P (b.list ++ events_of P (words_phrase b.ring.shape cell (take most items)))
      to_store = subst (λ (s : Shape). Follows s P (b.list ++ events_of P (words_phrase s cell stored))) (sym (same_shape a b g.same))
          (subst (λ (l : List Made). Follows a.ring.shape P (b.list ++ events_of P l)) (sym words_are) (can_store a.ring.shape a.list calls p.has opened seen stored is_put b.list at1))

      module _ (b2 : RingEnd) (g2 : GrowsBy b b2 (words_phrase b.ring.shape cell (take most items))) (next : ℕ) (is : next ≡ (count + most) % modulus_of a.ring.shape) where
        at2 : b2.list ≡ b.list ++ events_of P (words_phrase a.ring.shape n_of stored)
        at2 = g2.list ∙ ((λ i. b.list ++ events_of ((g.same.side ∙ p.side_is) i) (words_phrase (same_shape a b g.same i) cell stored)) ∙ ap (λ (l : List Made). b.list ++ events_of P l) words_are)

        next_is : next ≡ number_past n_of stored % modulus_of a.ring.shape
        next_is = grind (arith, long, mod-add-mod, past_is)

        both : IsSameEnd a b2
        both = same_end a b b2 g.same g2.same

        pub to_count : Follows b2.ring.shape b2.side (b2.list ++ events_of b2.side (unary_over b2.side b2.list next))
        to_count = subst (λ (z : Shape × Side). Follows z.0 z.1 (b2.list ++ events_of z.1 (unary_over z.1 b2.list next))) (λ i. (sym (same_shape a b2 both) i, sym (both.side ∙ p.side_is) i))
            (can_count a.ring.shape a.list calls p.has opened seen stored is_put b.list b2.list at1 at2 next next_is)

        stored_calls : (b3 : RingEnd) → GrowsBy b2 b3 (unary_over b2.side b2.list next) → IsSameEnd a b3 → HasPuts b3.ring.shape b3.list (and_put calls (Stored seen stored))
        stored_calls b3 g3 same = subst (λ (z : Shape × List Event). HasPuts z.0 z.1 (and_put calls (Stored seen stored)))
            (λ i. (sym (same_shape a b3 same) i, sym (g3.list ∙ ap (λ (s : Side). b2.list ++ events_of s (unary_over s b2.list next)) (both.side ∙ p.side_is)) i))
            (stored_is a.ring.shape a.list calls p.has opened seen stored is_put b.list b2.list at1 at2 next next_is)

        put_is_of : (b3 : RingEnd) → IsSameEnd a b3 → IsPutOf b3.ring.shape (count_of b3.ring.shape calls).number items (Stored seen stored)
        put_is_of b3 same = grind (arith, first_all, same_shape)

        pub stored_put : (b3 : RingEnd) → GrowsBy b2 b3 (unary_over b2.side b2.list next) → PutMade a b3 calls items most
        stored_put b3 g3 =
            let same : IsSameEnd a b3 = same_end a b2 b3 both g3.same in
            let put : put_of most seen items ≡ Stored seen stored = is_stored most some in
            record {
              same = same;
              stands = stands_as a b3 P same p.side_is g3.stands;
              few = fit.few;
              seen = seen;
              is = subst (IsPutOf b3.ring.shape (count_of b3.ring.shape calls).number items) (sym put) (put_is_of b3 same);
              has = subst (λ (x : Put). HasPuts b3.ring.shape b3.list (and_put calls x)) (sym put) (stored_calls b3 g3 same);
              number = number_now a.ring.shape b3.ring.shape (same_shape a b3 same) a.list calls p.has opened most seen items fit.few (subst (IsPut a.ring.shape n_of) (sym put) is_put);
            }
          where
            is_stored : (m : ℕ) → 0 < m → put_of m seen items ≡ Stored seen (take m items)
            is_stored zero l = absurd (omega (arith, l))
            is_stored (suc m) l = refl

-- ---- the counts after a put

-- nothing more is counted
pub stands_still : (n k size : ℕ) → n ≡ k % size → n ≡ (n + 0) % size
stands_still n k size is = grind arith

-- this many more items are counted
pub counted_on :
    (x : Side) (Has Has' : Shape → List Event → Type 0) (number number' : Shape → ℕ) (a b : RingEnd) (count cell more : ℕ) → CountedList x Has number a count cell → IsSameEnd a b → StandsAs x b →
    Has' b.ring.shape b.list → number' b.ring.shape ≡ number b.ring.shape + more → (next next' : ℕ) → next ≡ (count + more) % modulus_of a.ring.shape → next' ≡ (cell + more) % capacity_of a.ring.shape →
    CountedList x Has' number' b next next'
counted_on x Has Has' number number' a b count cell more p same stands has counts next next' is is' = grind (arith, mod-add-mod, same_shape)

pub kept : (a b : RingEnd) (count cell : ℕ) (items : List ℕ) (calls : Puts) (most : ℕ) → PutterList a count cell calls → PutMade a b calls items most → (next next' : ℕ)
    → next ≡ (count + most) % modulus_of a.ring.shape → next' ≡ (cell + most) % capacity_of a.ring.shape → PutKept a b next next' calls items most
kept a b count cell items calls most p m next next' is is' =
    let after = and_put calls (put_of most m.seen items) in record {
      made = m;
      at = search (arith, counted_on);
    }

-- the same, for a put that found the ring full
pub kept_full : (a b : RingEnd) (count cell : ℕ) (items : List ℕ) (calls : Puts) → PutterList a count cell calls → PutMade a b calls items 0 → PutKept a b count cell calls items 0
kept_full a b count cell items calls p m = kept a b count cell items calls 0 p m count cell (stands_still count (count_of a.ring.shape calls).number (modulus_of a.ring.shape) p.count_is) (stands_still cell (count_of a.ring.shape calls).number (capacity_of a.ring.shape) p.cell_is)

-- what was stored is the call's phrase
pub stored_phrase : (a b : RingEnd) (count cell : ℕ) (items : List ℕ) (calls : Puts) (most : ℕ) → HasPuts a.ring.shape a.list calls → calls.closes ≡ false → PutKept a b count cell calls items most → (most ≡ 0 → ⊥)
    → HasPutAll b.ring.shape items a.list b.list (several.Stored most)
stored_phrase a b count cell items calls most h1 h2 h3 h4 = grind (arith, length-take-le, same_shape)
