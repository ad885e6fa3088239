-- The calls of a counter ring's taker, step by step, over its ends.
use Rattle.std.proofs.Common.{rules, ◌≡◌, ◌⊎◌, ℕ, ◌+◌, ◌%◌, ◌<◌, ◌≤◌, Bool, true, false, Some, List, [], ◌∷◌, ◌++◌, length, refl, ap, sym, subst, ◌∙◌, arith, append_assoc, append-nil}
use Rattle.std.proofs.Math.Nat.{mod-add-mod, mod-eq_of_lt, mod-mod}
use Rattle.std.proofs.lemmas.Nat.{mod_below}
use Rattle.ring_ends.proofs.Common.{Shape, Side, C, Event, Made, Read, events_of, TakeReply, RingEnd, Follows, IsSameEnd, StandsAs}
use Rattle.bits_core.specs.declared.events.Bit.TheVariants.{X}
use Rattle.bits_core.specs.Shape.{AllFit, capacity_of, modulus_of, width_of}
use Rattle.register_core.specs.Word.{word_read}
use Rattle.register_core.specs.ScanState.{scan_phrase, row_read_by}
use Rattle.ring_core.specs.declared.replies.TakeReply.TheVariants as reply
use Rattle.ring_core.specs.Counts.{distance, ShowsItem, number_past}
use Rattle.ring_core.specs.Takes.{Take, Takes, Empty, Open, taken_after, words_read, SeesItems, SeesNone, IsTakeBatch, IsTake}
use Rattle.ring_core.specs.Items.{taken_of}
use Rattle.ring_core.specs.ConsumerCalls.{Finding, Once, Twice, Finds, finding_phrase, count_taken, and_take, and_end, items_reply, take_reply_to, IsTakeOf, TakesAll}
use Rattle.ring_ends.specs.declared.counter_calls.Scanned.TheVariants.{Shows, Over}
use Rattle.ring_seats.specs.Calls.{HasTakes, closed_reply}
use Rattle.ring_seats.specs.Counters.{GrowsBy, unary_over}
use Rattle.ring_ends.specs.CounterEnds.{TakerList, TakeMade, TakeKept, HasFound, LookMade, HasLooked}
use Rattle.ring_seats.proofs.Blocks.{events_of-append}
use Rattle.ring_seats.proofs.CounterPuts.{past_is}
use Rattle.ring_ends.proofs.CounterPutterCalls.{counted_on, stands_still}
use Rattle.ring_core.proofs.Machines.TakeCalls.{take_of, take_of-items, take_of-replies}
use Rattle.ring_seats.proofs.CounterTakes.{take_of-takes, reads_same, take_more, whole_take, whole_end, can_scan, can_ask, can_rescan, can_read, can_count, is_take, taken_is}
use Rattle.ring_seats.proofs.CounterSteps.{same_shape, same_end, stands_as}

-- ---- a take that is over

-- one more take: at the ring of another end the takes count this many more items
abbrev CountsMore : Shape → Takes → Takes → ℕ → Type 0
CountsMore shape calls more m = (count_taken shape more).number ≡ (count_taken shape calls).number + m

made_take :
    (a b : RingEnd) (count cell : ℕ) (calls : Takes) → TakerList a count cell calls → calls.end ≡ Open → IsSameEnd a b → StandsAs C b →
    (wanted : ℕ) (x : Take) (r : TakeReply) (items : List ℕ) → IsTake a.ring.shape (count_taken a.ring.shape calls).number x →
    IsTakeOf a.ring.shape (count_taken a.ring.shape calls).number wanted x → take_reply_to x ≡ r → taken_of x ≡ items → closed_reply (Some r) ≡ false →
    taken_after (count_taken a.ring.shape calls).number x ≡ (count_taken a.ring.shape calls).number + length items → HasTakes a.ring.shape b.list (and_take calls x) →
    TakeMade a b calls wanted r items
made_take a b count cell calls p opened same stands wanted x r items is of answered brings open_still number has = grind (arith, (same_shape a b same), (take_more a.ring.shape a.list calls p.has opened x is), a.list, a.ring.shape, b.list, b.ring.shape, p.has)

made_end :
    (a b : RingEnd) (calls : Takes) (wanted seen again : ℕ) → calls.end ≡ Open → IsSameEnd a b → StandsAs C b → HasTakes a.ring.shape b.list (and_end calls seen again) →
    TakeMade a b calls wanted reply.Closed []
made_end a b calls wanted seen again opened same stands has = grind arith

-- ---- the scans

-- if a count shows items, as many are taken as are requested and shown
pub record ShownOf (shape : Shape) (seen count wanted most : ℕ) : Type 0 where
  pub shows : ShowsItem shape seen count
  pub some : 1 ≤ most
  pub few : most ≤ wanted
  pub shown : most ≤ distance (modulus_of shape) seen count
  pub all : (most ≡ wanted) ⊎ (most ≡ distance (modulus_of shape) seen count)

shown_once :
    (shape : Shape) (seen count k wanted most : ℕ) → seen < modulus_of shape → count ≡ k % modulus_of shape → ShownOf shape seen count wanted most →
    SeesItems shape k seen most × TakesAll shape k wanted seen most
shown_once shape seen count k wanted most lt is s = grind arith

module _ (a : RingEnd) (count cell wanted : ℕ) (calls : Takes) (p : TakerList a count cell calls) (opened : calls.end ≡ Open) where
  abbrev k_now : ℕ
  k_now = (count_taken a.ring.shape calls).number

  pub to_scan : (c : ℕ) → c < modulus_of a.ring.shape → Follows a.ring.shape a.side (a.list ++ events_of a.side (scan_phrase (row_read_by a.side) c))
  to_scan c lt = subst (λ (s : Side). Follows a.ring.shape s (a.list ++ events_of s (scan_phrase (row_read_by s) c))) (sym p.side_is) (can_scan a.ring.shape a.list calls p.has opened c lt)

  module _ (seen : ℕ) (lt : seen < modulus_of a.ring.shape) (b : RingEnd) (g : GrowsBy a b (scan_phrase (row_read_by a.side) seen)) where
    at1 : b.list ≡ a.list ++ events_of C (scan_phrase (row_read_by C) seen)
    at1 = g.list ∙ ap (λ (s : Side). a.list ++ events_of s (scan_phrase (row_read_by s) seen)) p.side_is

    pub found_once : (most : ℕ) → ShownOf a.ring.shape seen count wanted most → LookMade a b calls wanted (Shows most)
    found_once most shown = (
      Once seen,
      record { same = g.same; stands = stands_as a b C g.same p.side_is g.stands; some = shown.some; finds = shown_once a.ring.shape seen count k_now wanted most lt p.count_is shown; list_is = at1 },
    )

    module _ (not_shown : ¬ ShowsItem a.ring.shape seen count) where
      none : SeesNone a.ring.shape (count_taken a.ring.shape calls).number seen
      none = (lt, subst (λ (n : ℕ). ¬ ShowsItem a.ring.shape seen n) p.count_is not_shown)

      -- after the first scan
      behind : (made : List Made) → a.list ++ events_of C (scan_phrase (row_read_by C) seen ++ made) ≡ b.list ++ events_of C made
      behind made = grind (arith, append_assoc, at1, events_of-append)

      pub to_ask : (v : Bool) → Follows b.ring.shape C (b.list ++ events_of C (Read X v ∷ []))
      to_ask v = subst (λ (z : Shape × List Event). Follows z.0 C z.1) (λ i. (sym (same_shape a b g.same) i, behind (Read X v ∷ []) i)) (can_ask a.ring.shape a.list calls p.has opened seen none v)

      module _ (v : Bool) (b2 : RingEnd) (g2 : GrowsBy b b2 (Read X v ∷ [])) where
        at2 : b2.list ≡ b.list ++ events_of C (Read X v ∷ [])
        at2 = g2.list ∙ ap (λ (s : Side). b.list ++ events_of s (Read X v ∷ [])) (g.same.side ∙ p.side_is)

        both : IsSameEnd a b2
        both = same_end a b b2 g.same g2.same

        pub found_empty : v ≡ false → LookMade a b2 calls wanted (Over reply.Empty)
        found_empty is = (
          made_take a b2 count cell calls p opened both (stands_as a b2 C both p.side_is g2.stands) wanted (Empty seen) reply.Empty [] none tt refl refl refl same_number
              (whole_take a.ring.shape a.list calls p.has opened (Empty seen) b2.list none (at2 ∙ (ap (λ (w : Bool). b.list ++ events_of C (Read X w ∷ [])) is ∙ sym (behind (Read X false ∷ []))))),
          refl,
        )
          where
            same_number : (count_taken a.ring.shape calls).number ≡ (count_taken a.ring.shape calls).number + 0
            same_number = omega arith

        module _ (is : v ≡ true) where
          twice : (c : ℕ) → a.list ++ events_of C (scan_phrase (row_read_by C) seen ++ Read X true ∷ scan_phrase (row_read_by C) c) ≡ b2.list ++ events_of C (scan_phrase (row_read_by C) c)
          twice c = grind (arith, append_assoc, at2, behind)

          pub to_rescan : (c : ℕ) → c < modulus_of b2.ring.shape → Follows b2.ring.shape b2.side (b2.list ++ events_of b2.side (scan_phrase (row_read_by b2.side) c))
          to_rescan c small = subst (λ (z : Shape × Side). Follows z.0 z.1 (b2.list ++ events_of z.1 (scan_phrase (row_read_by z.1) c))) (λ i. (sym (same_shape a b2 both) i, sym (both.side ∙ p.side_is) i))
              (subst (Follows a.ring.shape C) (twice c) (can_rescan a.ring.shape a.list calls p.has opened seen none c (subst (λ (s : Shape). c < modulus_of s) (same_shape a b2 both) small)))

          module _ (again : ℕ) (small : again < modulus_of b2.ring.shape) (b3 : RingEnd) (g3 : GrowsBy b2 b3 (scan_phrase (row_read_by b2.side) again)) where
            at3 : b3.list ≡ a.list ++ events_of C (scan_phrase (row_read_by C) seen ++ Read X true ∷ scan_phrase (row_read_by C) again)
            at3 = g3.list ∙ (ap (λ (s : Side). b2.list ++ events_of s (scan_phrase (row_read_by s) again)) (both.side ∙ p.side_is) ∙ sym (twice again))

            below : again < modulus_of a.ring.shape
            below = subst (λ (s : Shape). again < modulus_of s) (same_shape a b2 both) small

            all : IsSameEnd a b3
            all = same_end a b2 b3 both g3.same

            pub found_twice : (most : ℕ) → ShownOf a.ring.shape again count wanted most → LookMade a b3 calls wanted (Shows most)
            found_twice most shown =
                let (sees, of) = shown_once a.ring.shape again count k_now wanted most below p.count_is shown in
                (Twice seen again, record { same = all; stands = stands_as a b3 C all p.side_is g3.stands; some = shown.some; finds = (none, sees, of); list_is = at3 })

            pub found_closed : ¬ ShowsItem a.ring.shape again count → LookMade a b3 calls wanted (Over reply.Closed)
            found_closed not_again = (
              made_end a b3 calls wanted seen again opened all (stands_as a b3 C all p.side_is g3.stands)
                  (whole_end a.ring.shape a.list calls p.has opened seen again b3.list none (below, subst (λ (n : ℕ). ¬ ShowsItem a.ring.shape again n) p.count_is not_again) at3),
              refl,
            )

-- ---- the items

-- a take counts no more items than it asks for
pub few_found : (shape : Shape) (k wanted most : ℕ) (look : Finding) → Finds shape k wanted look most → most ≤ wanted
few_found shape k wanted most look h1 = grind arith

-- so a take of one item finds one
pub one_found : (a b : RingEnd) (calls : Takes) (look : Finding) (most : ℕ) → HasFound a b calls 1 look most → HasFound a b calls 1 look 1
one_found a b calls look most f = grind arith

module _ (a b : RingEnd) (count cell : ℕ) (calls : Takes) (wanted most : ℕ) (l : HasLooked a b count cell calls wanted most) where
  abbrev k_of : ℕ
  k_of = (count_taken a.ring.shape calls).number

  abbrev p : TakerList a count cell calls
  p = l.at

  abbrev f : HasFound a b calls wanted l.look most
  f = l.found

  shape_is : b.ring.shape ≡ a.ring.shape
  shape_is = same_shape a b f.same

  pub side_now : b.side ≡ C
  side_now = f.same.side ∙ p.side_is

  pub cell_below : cell < capacity_of b.ring.shape
  cell_below = subst (λ (s : Shape). cell < capacity_of s) (sym shape_is) (subst (λ (n : ℕ). n < capacity_of a.ring.shape) (sym p.cell_is) (mod_below k_of (capacity_of a.ring.shape) a.ring.shape.has_cells))

  batch_of_items : (items : List ℕ) → length items ≡ most → AllFit a.ring.shape items → IsTakeBatch a.ring.shape items
  batch_of_items items long fit = record { some = omega (arith, long, f.some); few = omega (arith, long, few_found a.ring.shape k_of wanted most l.look f.finds, l.few); fit = fit }

  finds_items : (items : List ℕ) → length items ≡ most → Finds a.ring.shape k_of wanted l.look (length items)
  finds_items items long = subst (Finds a.ring.shape k_of wanted l.look) (sym long) f.finds

  -- the cell of the next item by its number
  near : k_of % capacity_of a.ring.shape ≡ cell % capacity_of a.ring.shape
  near = sym (mod-mod k_of (capacity_of a.ring.shape)) ∙ ap (λ (n : ℕ). n % capacity_of a.ring.shape) (sym p.cell_is)

  words_list : (items : List ℕ) → a.list ++ events_of C (finding_phrase l.look ++ words_read a.ring.shape k_of items) ≡ b.list ++ events_of C (words_read b.ring.shape cell items)
  words_list items = grind (arith, append_assoc, events_of-append, near, reads_same, shape_is)

  pub to_read : (items : List ℕ) → length items ≡ most → AllFit b.ring.shape items → Follows b.ring.shape C (b.list ++ events_of C (words_read b.ring.shape cell items))
  to_read items long fit =
      let fit' : AllFit a.ring.shape items = subst (λ (s : Shape). AllFit s items) shape_is fit in
      subst (λ (z : Shape × List Event). Follows z.0 C z.1) (λ i. (sym shape_is i, words_list items i))
      (can_read a.ring.shape a.list calls p.has l.opened wanted l.look items (finds_items items long) (batch_of_items items long fit'))

  module _ (items : List ℕ) (long : length items ≡ most) (small : AllFit b.ring.shape items) (b2 : RingEnd) (g : GrowsBy b b2 (words_read b.ring.shape cell items)) (next : ℕ) (next_is : next ≡ (count + most) % modulus_of a.ring.shape) where
    fits : AllFit a.ring.shape items
    fits = subst (λ (s : Shape). AllFit s items) shape_is small

    till_items : IsSameEnd a b2
    till_items = same_end a b b2 f.same g.same

    at_items : b2.list ≡ a.list ++ events_of C (finding_phrase l.look ++ words_read a.ring.shape k_of items)
    at_items = g.list ∙ (ap (λ (s : Side). b.list ++ events_of s (words_read b.ring.shape cell items)) side_now ∙ sym (words_list items))

    counts_on : next ≡ number_past k_of items % modulus_of a.ring.shape
    counts_on = grind (arith, mod-add-mod, past_is)

    pub to_count : Follows b2.ring.shape b2.side (b2.list ++ events_of b2.side (unary_over b2.side b2.list next))
    to_count = subst (λ (z : Shape × Side). Follows z.0 z.1 (b2.list ++ events_of z.1 (unary_over z.1 b2.list next))) (λ i. (sym (same_shape a b2 till_items) i, sym (till_items.side ∙ p.side_is) i))
        (can_count a.ring.shape a.list calls p.has l.opened wanted l.look items (finds_items items long) (batch_of_items items long fits) b2.list at_items next counts_on)

    pub fetched : (b3 : RingEnd) → GrowsBy b2 b3 (unary_over b2.side b2.list next) → TakeMade a b3 calls wanted (items_reply items) items
    fetched b3 g3 =
        let all : IsSameEnd a b3 = same_end a b2 b3 till_items g3.same in
        let is = is_take a.ring.shape a.list calls p.has l.opened wanted l.look items (finds_items items long) (batch_of_items items long fits) in
        made_take a b3 count cell calls p l.opened all (stands_as a b3 C all p.side_is g3.stands) wanted (take_of l.look items) (items_reply items) items
        is.0 is.1 (take_of-replies l.look items) (take_of-items l.look items) (not_told items) (take_of-takes k_of l.look items ∙ past_is k_of items)
        (subst (λ (t : List Event). HasTakes a.ring.shape t (and_take calls (take_of l.look items))) (sym (g3.list ∙ ap (λ (s : Side). b2.list ++ events_of s (unary_over s b2.list next)) (till_items.side ∙ p.side_is)))
        (taken_is a.ring.shape a.list calls p.has l.opened wanted l.look items (finds_items items long) (batch_of_items items long fits) b2.list at_items next counts_on))
      where
        not_told : (items : List ℕ) → closed_reply (Some (items_reply items)) ≡ false
        not_told [] = refl
        not_told (item ∷ items) = refl

-- the read of one word, of a cell below the capacity
pub one_word : (shape : Shape) (cell item : ℕ) → cell < capacity_of shape → words_read shape cell (item ∷ []) ≡ word_read (width_of shape) cell item
one_word shape cell item lt = append-nil (word_read (width_of shape) (cell % capacity_of shape) item) ∙ ap (λ (j : ℕ). word_read (width_of shape) j item) (mod-eq_of_lt lt)

pub one_read :
    (a b : RingEnd) (cell item : ℕ) → cell < capacity_of a.ring.shape → GrowsBy a b (word_read (width_of a.ring.shape) cell item) →
    GrowsBy a b (words_read a.ring.shape cell (item ∷ []))
one_read a b cell item lt grows = subst (GrowsBy a b) (sym (one_word a.ring.shape cell item lt)) grows

-- ---- complete calls

pub kept_take :
    (a b : RingEnd) (count cell : ℕ) (calls : Takes) (wanted : ℕ) (r : TakeReply) (items : List ℕ) → TakerList a count cell calls → (m : TakeMade a b calls wanted r items) →
    (next next' : ℕ) → next ≡ (count + length items) % modulus_of a.ring.shape → next' ≡ (cell + length items) % capacity_of a.ring.shape →
    TakeKept a b next next' calls wanted r items
kept_take a b count cell calls wanted r items p m next next' is is' = record {
  made = m;
  at = search (arith, counted_on);
}

-- the same, for a take that brought nothing
pub kept_none :
    (a b : RingEnd) (count cell : ℕ) (calls : Takes) (wanted : ℕ) (r : TakeReply) → TakerList a count cell calls → TakeMade a b calls wanted r [] → TakeKept a b count cell calls wanted r []
kept_none a b count cell calls wanted r p m = search (rules, kept_take, stands_still)
