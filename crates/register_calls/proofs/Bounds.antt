-- The reads that bound a read, after one more event.
use Rattle.std.proofs.Common.{◌≡◌, ◌≢◌, ◌⊎◌, inl, inr, ℕ, zero, suc, ◌-◌, ◌≤◌, ◌<◌, Bool, true, false, Option, Some, None, List, [], ◌∷◌, ◌++◌, length, drop, take, refl, sym, subst, ◌∙◌, arith, get_or-drop, take_at, length-append}
use Rattle.std.specs.Prelude.{slice_get, slice_index_or, nat_lt, if◌then◌else◌}
use Rattle.std.proofs.lemmas.Bool.{cases_lt, lt-ltb, le-ltb}
use Rattle.register_calls.proofs.Common.{eqb_tells, none-some, same_Some, slice_get_within, slice_get-get_or, RegisterEvent, WriteBegins, WriteEnds, ReadBegins, ReadEnds, Chain, EarlierRead, started}
use Rattle.register_calls.proofs.Common.{finished, written_values, before_read, Scope, sees, IsLeast, IsFirstPlace, IsGreater, IsRaised, KeepsBounds, ShowsReads, fresh_chain, begin_places, link_of}
use Rattle.std.proofs.lemmas.List.{drop-append-le}
use Rattle.register_calls.specs.Chains.{leans}
use Rattle.register_calls.specs.Reasons.{BeginsAt, IsBound}
use Rattle.register_calls.proofs.ReadLemmas.{chosen, left, before_read-begin, before_read-other, length-written}
use Rattle.register_calls.proofs.Keeping.{KeepsOthers}
use Rattle.register_calls.proofs.Sets.{get_left, get_end, drop_twice}

-- the chain that shows why a read that ends is of no write before its low
abbrev pub leaning_chain : Option ℕ → (low : ℕ) → Chain → Chain
leaning_chain any low chain = if leans any low then chain else fresh_chain

-- The chain of a floor after a read that ends, which is of the write with this number or of a later one: if that write comes after the
-- floor, the read, and after it the chain that shows why it is of none before; otherwise the chain is unchanged.
abbrev pub IsRaisedChain : (chain leaning : Chain) (floor : ℕ) → Option ℕ → (link : ℕ → EarlierRead) → (next : Chain) → Type 0
IsRaisedChain chain leaning floor None link next = next ≡ chain
IsRaisedChain chain leaning floor (Some n) link next =
    (n ≤ floor → next ≡ chain) × (floor < n → (reads : List EarlierRead) → ShowsReads leaning reads → ShowsReads next (link n ∷ reads))

-- the places where writes begin: one for the first value and for each write
pub length-places : (h : List RegisterEvent) → length (begin_places h) ≡ suc (started h)
length-places [] = refl
length-places (e ∷ b) = grind (arith, length-append, (length-places b))

begins_more : (e : RegisterEvent) (b : List RegisterEvent) (n p : ℕ) → BeginsAt b n p → BeginsAt (e ∷ b) n p
begins_more e b n p (before, v, is, number, place) = (before, v, inr is, number, place)

begins_at : (h : List RegisterEvent) (n p : ℕ) → 0 < n → slice_get (begin_places h) n ≡ Some p → BeginsAt h n p
begins_at [] zero p some at = absurd (omega (arith, some))
begins_at [] (suc n) p some at = absurd (none-some p at)
begins_at (WriteBegins v ∷ b) n p some at = elim (cases_lt n (length (begin_places b))) [
  | inl lt ↦ begins_more (WriteBegins v) b n p (begins_at b n p some (sym (get_left (begin_places b) (length b ∷ []) n lt) ∙ at))
  | inr ge ↦
      let within = slice_get_within (begin_places b ++ length b ∷ []) n p at in
      let long = length-append (begin_places b) (length b ∷ []) in
      let last : n ≡ length (begin_places b) = omega (arith, ge, within, long) in
      let is : length b ≡ p = same_Some (length b) p (sym (get_end (begin_places b) (length b) n last) ∙ at) in
      (b, v, inl refl, last ∙ length-places b, sym is)
]
begins_at (WriteEnds ∷ b) n p some at = begins_more WriteEnds b n p (begins_at b n p some at)
begins_at (ReadBegins i ∷ b) n p some at = begins_more (ReadBegins i) b n p (begins_at b n p some at)
begins_at (ReadEnds i v ∷ b) n p some at = begins_more (ReadEnds i v) b n p (begins_at b n p some at)

-- the place of a write, of those that are kept
pub begins_kept :
    (h : List RegisterEvent) (places : List ℕ) (base n : ℕ) → places ≡ drop base (begin_places h) → base ≤ n → 0 < n → n ≤ started h → BeginsAt h n (slice_index_or places (n - base) 0)
begins_kept h places base n is low some few = grind (arith, begins_at, get_or-drop, length-places, slice_get-get_or)

-- a write begins: its place is added, and some at the front are removed
pub places_more :
    (h : List RegisterEvent) (places pushed now : List ℕ) (base next count : ℕ) → places ≡ drop base (begin_places h) → count ≡ length h → base ≤ started h → base ≤ next →
    pushed ≡ places ++ count ∷ [] → now ≡ drop (next - base) pushed → now ≡ drop next (begin_places h ++ length h ∷ [])
places_more h places pushed now base next count is counted few up more gone = grind (arith, (drop_twice base (next - base) (begin_places h ++ length h ∷ [])), (length-places h), drop-append-le)

-- the event is refused
pub places_back :
    (h : List RegisterEvent) (places pushed now : List ℕ) (base next count : ℕ) → places ≡ drop base (begin_places h) → base ≤ next →
    pushed ≡ places ++ count ∷ [] → now ≡ drop (next - base) (take (length places) pushed) → now ≡ drop next (begin_places h)
places_back h places pushed now base next count is up more gone = grind (arith, drop_twice, take_at)

-- a chain shows reads that bound the next read of a reader; or one that began after these events, if these do not
abbrev pub ShownBound : Scope → (first j n : ℕ) → List RegisterEvent → Chain → Type 0
ShownBound s first j n h chain = (reads : List EarlierRead) × ShowsReads chain reads × IsBound s first reads j h n

abbrev pub ShownLow : Scope → (first j n : ℕ) → List RegisterEvent → Chain → Type 0
ShownLow s first j n b chain = (n ≤ finished b) ⊎ ((reads : List EarlierRead) × ShowsReads chain reads × IsBound s first reads j b n)

fresh_shows : ShowsReads fresh_chain []
fresh_shows = record { shown = refl; cut = refl }

shown_same : (s : Scope) (first j n m : ℕ) (h : List RegisterEvent) (chain next : Chain) → m ≡ n → next ≡ chain → ShownBound s first j n h chain → ShownBound s first j m h next
shown_same s first j n m h chain next number same shown = grind arith

shown_more : (s : Scope) (first j n m : ℕ) (e : RegisterEvent) (h : List RegisterEvent) (chain next : Chain) → m ≡ n → next ≡ chain → ShownBound s first j n h chain → ShownBound s first j m (e ∷ h) next
shown_more s first j n m e h chain next number same (reads, shows, bound) = grind arith

module _ (s : Scope) (first i v l : ℕ) (h : List RegisterEvent) (chain leaning : Chain) (places : List ℕ) (base count : ℕ) where
  -- a read ends that raises a floor to the first write that it may be of
  raised_bound :
      (any : Option ℕ) (n j : ℕ) (next : Chain) → leaning ≡ leaning_chain any l chain → IsFirstPlace (written_values first h) (finished (before_read i h)) v any →
      IsLeast (written_values first h) l v n → ShownLow s first i l (before_read i h) chain → count ≡ length h → BeginsAt h n (slice_index_or places (n - base) 0) → sees s j i ≡ true →
      ((reads : List EarlierRead) → ShowsReads leaning reads → ShowsReads next (link_of places base count i v n ∷ reads)) → ShownBound s first j n (ReadEnds i v ∷ h) next
  raised_bound None n j next is any_at least low counted begins seen after = (
    link_of places base count i v n ∷ [],
    after [] (subst (λ (c : Chain). ShowsReads c []) (sym is) fresh_shows),
    (h, finished (before_read i h), inl refl, seen, counted, begins, inl (omega arith), λ k ge lt. any_at k ge),
  )
  raised_bound (Some m) n j next is any_at least low counted begins seen after = elim (cases_lt m l) [
    | inl lt ↦
        let same : leaning ≡ chain = is ∙ chosen (nat_lt m l) chain fresh_chain (lt-ltb m l lt) in
        elim low [
          | inl ends ↦ absurd (let from = any_at.0 in omega (arith, from, ends, lt))
          | inr shown ↦ (
            link_of places base count i v n ∷ shown.0,
            after shown.0 (subst (λ (c : Chain). ShowsReads c shown.0) (sym same) shown.1),
            (h, l, inl refl, seen, counted, begins, inr shown.2, λ k ge less. least.2 k ge less),
          )
        ]
    | inr ge ↦
        let same : leaning ≡ fresh_chain = is ∙ left (nat_lt m l) chain fresh_chain (le-ltb m l ge) in (
          link_of places base count i v n ∷ [],
          after [] (subst (λ (c : Chain). ShowsReads c []) (sym same) fresh_shows),
          (h, finished (before_read i h), inl refl, seen, counted, begins, inl (omega arith), none ge),
        )
  ]
    where
      none : l ≤ m → (k : ℕ) → finished (before_read i h) ≤ k → k < n → slice_get (written_values first h) k ≢ Some v
      none ge k from less = elim (cases_lt k m) [
        | inl early ↦ any_at.2 k from early
        | inr late ↦ least.2 k (omega (arith, ge, late)) less
      ]

  -- a read ends that a reader has to respect
  seen_bound :
      (any found : Option ℕ) (j floor top : ℕ) (by next : Chain) → leaning ≡ leaning_chain any l chain → IsFirstPlace (written_values first h) (finished (before_read i h)) v any →
      IsFirstPlace (written_values first h) l v found → ShownLow s first i l (before_read i h) chain → count ≡ length h →
      ((n : ℕ) → l ≤ n → 0 < n → n ≤ started h → BeginsAt h n (slice_index_or places (n - base) 0)) → sees s j i ≡ true → IsRaised floor found top →
      IsRaisedChain by leaning floor found (link_of places base count i v) next → ShownBound s first j floor h by → ShownBound s first j top (ReadEnds i v ∷ h) next
  seen_bound any None j floor top by next is any_at at low counted begins seen raised chained shown = shown_more s first j floor top (ReadEnds i v) h by next raised chained shown
  seen_bound any (Some n) j floor top by next is any_at at low counted begins seen raised chained shown = elim (cases_lt floor n) [
    | inl lt ↦
        let within = slice_get_within (written_values first h) n v at.1 in
        let long = length-written first h in
        let few : n ≤ started h = omega (arith, within, long) in
        let least = raised.least n (omega (arith, lt)) (omega arith) in
        let over = raised.right in
        let number : top ≡ n = omega (arith, least, over) in
        shown_same s first j n top (ReadEnds i v ∷ h) next next number refl
        (raised_bound any n j next is any_at at low counted (begins n at.0 (omega (arith, lt)) few) seen (chained.1 lt))
    | inr ge ↦
        let least = raised.least floor (omega arith) ge in
        let over = raised.left in
        let number : top ≡ floor = omega (arith, least, over) in
        shown_more s first j floor top (ReadEnds i v) h by next number (chained.0 ge) shown
  ]

module _ (s : Scope) (first : ℕ) where
  -- the same bounds, by other functions; and after a write begins or ends
  pub bounds_same :
      (h : List RegisterEvent) (floor floor' : ℕ → ℕ) (by by' : ℕ → Chain) (low low' : ℕ → Option ℕ) (low_by low_by' : ℕ → Chain) → ((j : ℕ) → floor' j ≡ floor j) → ((j : ℕ) → by' j ≡ by j) →
      ((j : ℕ) → low' j ≡ low j) → ((j : ℕ) → low_by' j ≡ low_by j) → KeepsBounds s first h floor by low low_by → KeepsBounds s first h floor' by' low' low_by'
  bounds_same h floor floor' by by' low low' low_by low_by' floors chains lows low_chains k = record {
    floors = (λ j. shown_same s first j (floor j) (floor' j) h (by j) (by' j) (floors j) (chains j) (k.floors j));
    lows = (λ j n at. subst (λ (c : Chain). ShownLow s first j n (before_read j h) c) (sym (low_chains j)) (k.lows j n (sym (lows j) ∙ at)));
  }

  pub bounds_next :
      (e : RegisterEvent) (h : List RegisterEvent) (floor : ℕ → ℕ) (by : ℕ → Chain) (low : ℕ → Option ℕ) (low_by : ℕ → Chain) → ((j : ℕ) → before_read j (e ∷ h) ≡ before_read j h) →
      KeepsBounds s first h floor by low low_by → KeepsBounds s first (e ∷ h) floor by low low_by
  bounds_next e h floor by low low_by same k = record {
    floors = (λ j. shown_more s first j (floor j) (floor j) e h (by j) (by j) refl refl (k.floors j));
    lows = (λ j n at. subst (λ (b : List RegisterEvent). ShownLow s first j n b (low_by j)) (sym (same j)) (k.lows j n at));
  }

  -- a read begins: its low is the greater of the writes that have ended and of its reader's floor
  pub bounds_begin :
      (i n : ℕ) (h : List RegisterEvent) (floor floor' : ℕ → ℕ) (by by' : ℕ → Chain) (low low' : ℕ → Option ℕ) (low_by low_by' : ℕ → Chain) → ((j : ℕ) → floor' j ≡ floor j) → ((j : ℕ) → by' j ≡ by j) →
      low' i ≡ Some n → KeepsOthers i low low' → (finished h < floor i → low_by' i ≡ by i) → ((j : ℕ) → j ≢ i → low_by' j ≡ low_by j) → IsGreater (finished h) (floor i) n →
      KeepsBounds s first h floor by low low_by → KeepsBounds s first (ReadBegins i ∷ h) floor' by' low' low_by'
  bounds_begin i n h floor floor' by by' low low' low_by low_by' floors chains here others mine same top k = record {
    floors = (λ j. shown_more s first j (floor j) (floor' j) (ReadBegins i) h (by j) (by' j) (floors j) (chains j) (k.floors j));
    lows = lows;
  }
    where
      began : ShownLow s first i n h (low_by' i)
      began = elim (cases_lt (finished h) (floor i)) [
        | inl lt ↦
            let least = top.least (floor i) (omega (arith, lt)) (omega arith) in
            let over = top.right in
            let number : floor i ≡ n = omega (arith, least, over) in
            let (reads, shows, bound) = k.floors i in
            inr (reads, subst (λ (c : Chain). ShowsReads c reads) (sym (mine lt)) shows, subst (λ (m : ℕ). IsBound s first reads i h m) number bound)
        | inr ge ↦ inl (top.least (finished h) (omega arith) ge)
      ]

      lows : (j m : ℕ) → low' j ≡ Some m → ShownLow s first j m (before_read j (ReadBegins i ∷ h)) (low_by' j)
      lows j m at = elim (eqb_tells j i) [
        | inl is ↦
            let e : n ≡ m = same_Some n m (sym here ∙ subst (λ (z : ℕ). low' z ≡ Some m) is.1 at) in
            subst (λ (z : ℕ). ShownLow s first z m (before_read z (ReadBegins i ∷ h)) (low_by' z)) (sym is.1)
            (subst (λ (b : List RegisterEvent). ShownLow s first i m b (low_by' i)) (sym (before_read-begin i h)) (subst (λ (z : ℕ). ShownLow s first i z h (low_by' i)) e began))
        | inr apart ↦
            subst (λ (b : List RegisterEvent). ShownLow s first j m b (low_by' j)) (sym (before_read-other i j h apart.1))
            (subst (λ (c : Chain). ShownLow s first j m (before_read j h) c) (sym (same j apart.1)) (k.lows j m (sym (others.each j apart.1) ∙ at)))
      ]

  -- a read ends
  pub bounds_end :
      (i v l : ℕ) (h : List RegisterEvent) (floor floor' : ℕ → ℕ) (by by' : ℕ → Chain) (low low' : ℕ → Option ℕ) (low_by low_by' : ℕ → Chain) (any found : Option ℕ) (leaning : Chain) (places : List ℕ)
      (base count : ℕ) → low i ≡ Some l → low' i ≡ None → KeepsOthers i low low' → ((j : ℕ) → j ≢ i → low_by' j ≡ low_by j) →
      ((j : ℕ) → sees s j i ≡ false → (floor' j ≡ floor j) × (by' j ≡ by j)) →
      ((j : ℕ) → sees s j i ≡ true → IsRaised (floor j) found (floor' j) × IsRaisedChain (by j) leaning (floor j) found (link_of places base count i v) (by' j)) →
      IsFirstPlace (written_values first h) (finished (before_read i h)) v any → IsFirstPlace (written_values first h) l v found → leaning ≡ leaning_chain any l (low_by i) → count ≡ length h →
      ((n : ℕ) → l ≤ n → 0 < n → n ≤ started h → BeginsAt h n (slice_index_or places (n - base) 0)) →
      KeepsBounds s first h floor by low low_by → KeepsBounds s first (ReadEnds i v ∷ h) floor' by' low' low_by'
  bounds_end i v l h floor floor' by by' low low' low_by low_by' any found leaning places base count mine gone others same unseen raised any_at at is counted begins k = record {
    floors = (λ j. of_test j (sees s j i) refl);
    lows = lows;
  }
    where
      of_test : (j : ℕ) (t : Bool) → sees s j i ≡ t → ShownBound s first j (floor' j) (ReadEnds i v ∷ h) (by' j)
      of_test j true seen =
          seen_bound s first i v l h (low_by i) leaning places base count any found j (floor j) (floor' j) (by j) (by' j) is any_at at (k.lows i l mine) counted begins seen (raised j seen).0 (raised j seen).1 (k.floors j)
      of_test j false never = shown_more s first j (floor j) (floor' j) (ReadEnds i v) h (by j) (by' j) (unseen j never).0 (unseen j never).1 (k.floors j)

      lows : (j m : ℕ) → low' j ≡ Some m → ShownLow s first j m (before_read j h) (low_by' j)
      lows j m there = elim (eqb_tells j i) [
        | inl here ↦ absurd (none-some m (sym gone ∙ subst (λ (z : ℕ). low' z ≡ Some m) here.1 there))
        | inr apart ↦ subst (λ (c : Chain). ShownLow s first j m (before_read j h) c) (sym (same j apart.1)) (k.lows j m (sym (others.each j apart.1) ∙ there))
      ]
