-- The spans of one side, over its own events.
use Rattle.std.proofs.Common.{◌≡◌, ◌⊎◌, inl, inr, ℕ, zero, suc, ◌+◌, ◌-◌, ◌<◌, ◌≤◌, Bool, true, false, Some, List, [], ◌∷◌, ◌++◌, length, get_or, if◌then◌else◌, nat_lt, nat_le, refl, ap, subst, ◌∙◌, zero-add, suc-add, length-append, arith}
use Rattle.std.specs.Prelude.{slice_get}
use Rattle.std.proofs.lemmas.Option.{slice_get-get_or}
use Rattle.std.proofs.lemmas.Bool.Decides.{nat_tests}
use Rattle.ring_core.proofs.OverSpans.Spans.{Span, Outcome, Passes, Stops, Asks, counts, items_of, before_count, whole, counts_begun, counts_ended, begun_items, ended_items, all_items, total, IsSpanAt}
use Rattle.ring_core.proofs.Readings.Cuts.{at_most_or_above}

-- a scan has an event, and so has a write that counts an item; and it counts at most the most
pub record Proper (most : ℕ) (x : Span) : Type 0 where
  pub scan : 1 ≤ x.scan
  pub few : counts x.outcome ≤ most
  pub count : 1 ≤ counts x.outcome → 1 ≤ x.count

-- each span is proper
abbrev pub AllProper : ℕ → List Span → Type 0
AllProper most [] = Unit {0}
AllProper most (x ∷ xs) = Proper most x × AllProper most xs

-- the parts of a span, in order
pub before-whole : (most : ℕ) (x : Span) → Proper most x → (1 ≤ before_count x) × (before_count x ≤ whole x) × (x.scan ≤ before_count x)
before-whole most x h = omega (arith, h.scan)

pub before-count : (most : ℕ) (x : Span) → Proper most x → 1 ≤ counts x.outcome → suc (before_count x) ≤ whole x
before-count most x h o = omega (arith, h.count o)

no-items : (o : Outcome) → counts o ≡ 0 → items_of o ≡ []
no-items (Passes []) e = refl
no-items (Passes (item ∷ items)) e = absurd (omega (arith, e))
no-items Stops e = refl
no-items (Asks answer) e = refl

-- the count writes of the first span, and those past it
begun_cons :
    (y : Span) (ys : List Span) (i j t : ℕ) → i - whole y ≡ j → (if nat_lt (before_count y) i then counts y.outcome else 0) ≡ t →
    counts_begun (y ∷ ys) i ≡ t + counts_begun ys j
begun_cons y ys i j t e f = cc

ended_cons :
    (y : Span) (ys : List Span) (i j t : ℕ) → i - whole y ≡ j → (if nat_le (whole y) i then counts y.outcome else 0) ≡ t →
    counts_ended (y ∷ ys) i ≡ t + counts_ended ys j
ended_cons y ys i j t e f = cc

-- at first no count write has begun
pub begun_zero : (xs : List Span) → counts_begun xs 0 ≡ 0
begun_zero [] = refl
begun_zero (y ∷ ys) = omega (arith, begun_cons y ys 0 0 0 (omega arith) (grind (arith, nat_tests)), begun_zero ys)

-- and none has ended
pub ended_zero : (most : ℕ) (xs : List Span) → AllProper most xs → counts_ended xs 0 ≡ 0
ended_zero most [] h = refl
ended_zero most (y ∷ ys) h = grind (arith, before-whole, ended_cons, ended_zero most ys h.1, nat_tests)

-- before the count write of the first span, during it, and after the span
begun_first : (most : ℕ) (y : Span) (ys : List Span) (i : ℕ) → Proper most y → i ≤ before_count y → counts_begun (y ∷ ys) i ≡ 0
begun_first most y ys i h l = grind (arith, before-whole, begun_cons, begun_zero, nat_tests)

begun_middle : (y : Span) (ys : List Span) (i : ℕ) → before_count y < i → i ≤ whole y → counts_begun (y ∷ ys) i ≡ counts y.outcome
begun_middle y ys i l m = grind (arith, begun_cons, begun_zero, nat_tests)

begun_past : (most : ℕ) (y : Span) (ys : List Span) (i j : ℕ) → Proper most y → i ≡ whole y + j → counts_begun (y ∷ ys) i ≡ counts y.outcome + counts_begun ys j
begun_past most y ys i j h e = grind (arith, at_most_or_above, before-whole, begun_cons, before-count, nat_tests)

pub ended_past : (y : Span) (ys : List Span) (i j : ℕ) → i ≡ whole y + j → counts_ended (y ∷ ys) i ≡ counts y.outcome + counts_ended ys j
ended_past y ys i j e = ended_cons y ys i j (counts y.outcome) (omega arith) (grind (arith, nat_tests))

-- at each moment at most the last count write that has begun is open
pub ended_begun : (most : ℕ) (xs : List Span) → AllProper most xs → (i : ℕ) → (counts_ended xs i ≤ counts_begun xs i) × (counts_begun xs i ≤ counts_ended xs i + most)
ended_begun most [] h i = omega arith
ended_begun most (y ∷ ys) h i = grind (arith, at_most_or_above, begun_past, ended_past, begun_first, begun_middle, whole, ended_begun most ys h.1 (i - whole y), ended_cons, ended_zero, nat_tests)

-- a span's number is what is counted, up to the start of its count write
pub begun_at :
    (most : ℕ) (xs : List Span) → AllProper most xs → (s n : ℕ) (x : Span) → IsSpanAt xs s n x → (j : ℕ) → j ≤ before_count x → counts_begun xs (s + j) ≡ n
begun_at most [] h s n x st j l = elim st [ ]
begun_at most (y ∷ ys) h s n x (inl st) j l =
    let l' : j ≤ before_count y = rw st.2 at l in
    omega (arith, begun_first most y ys (s + j) h.0 (omega (arith, st.0)), st.1)
begun_at most (y ∷ ys) h s n x (inr st) j l = grind (arith, begun_past, begun_at most ys h.1 st.0 st.1 x st.4 j l)

-- up to its end, the writes that have ended counted as many items as its number
pub ended_at :
    (most : ℕ) (xs : List Span) → AllProper most xs → (s n : ℕ) (x : Span) → IsSpanAt xs s n x → (j : ℕ) → j < whole x → counts_ended xs (s + j) ≡ n
ended_at most [] h s n x st j l = elim st [ ]
ended_at most (y ∷ ys) h s n x (inl st) j l = grind (arith, ended_cons, ended_zero, nat_tests)
ended_at most (y ∷ ys) h s n x (inr st) j l = grind (arith, ended_past, ended_at most ys h.1 st.0 st.1 x st.4 j l)

-- the span whose count write begins with event i
pub record Begins (xs : List Span) (i : ℕ) : Type 0 where
  pub start : ℕ
  pub number : ℕ
  pub span : Span
  pub stands : IsSpanAt xs start number span
  pub passes : 1 ≤ counts span.outcome
  pub place : i ≡ start + before_count span
  pub now : counts_begun xs i ≡ number
  pub next : counts_begun xs (suc i) ≡ number + counts span.outcome

-- it comes after the first span, or is the first
later : (most : ℕ) (y : Span) (ys : List Span) (i j : ℕ) → Proper most y → i ≡ whole y + j → Begins ys j → Begins (y ∷ ys) i
later most y ys i j h e b = record {
  start = whole y + b.start;
  number = counts y.outcome + b.number;
  span = b.span;
  stands = inr (b.start, b.number, refl, refl, b.stands);
  passes = b.passes;
  place = omega (arith, b.place);
  now = omega (arith, begun_past most y ys i j h e, b.now);
  next = omega (arith, begun_past most y ys (suc i) (suc j) h (omega arith), b.next);
}

first : (most : ℕ) (y : Span) (ys : List Span) (i : ℕ) → Proper most y → i ≡ before_count y → 1 ≤ counts y.outcome → Begins (y ∷ ys) i
first most y ys i h e o =
    grind (arith, begun_first most y ys i h (omega arith), begun_middle y ys (suc i) (omega arith) (omega (arith, e, before-count most y h o)), before-count most y h o)

-- an event begins no count write, or one
pub begun_step : (most : ℕ) (xs : List Span) → AllProper most xs → (i : ℕ) → (counts_begun xs (suc i) ≡ counts_begun xs i) ⊎ Begins xs i
begun_step most [] h i = inl refl
begun_step most (y ∷ ys) h i = elim (at_most_or_above (whole y) i) [
  | inl l ↦ elim (begun_step most ys h.1 (i - whole y)) [
    | inl e ↦ inl (omega (arith, e, begun_past most y ys i (i - whole y) h.0 (omega arith), begun_past most y ys (suc i) (suc (i - whole y)) h.0 (omega arith)))
    | inr b ↦ inr (later most y ys i (i - whole y) h.0 (omega arith) b)
  ]
  | inr l ↦ elim (at_most_or_above (suc i) (before_count y)) [
    | inl m ↦ inl (omega (arith, begun_first most y ys i h.0 (omega arith), begun_first most y ys (suc i) h.0 m))
    | inr m ↦ elim (at_most_or_above i (before_count y)) [
      | inr n ↦ inl (omega (arith, begun_middle y ys i n (omega arith), begun_middle y ys (suc i) (omega arith) (omega arith)))
      | inl n ↦ elim (at_most_or_above 1 (counts y.outcome)) [
        | inl o ↦ inr (first most y ys i h.0 (omega arith) o)
        | inr o ↦ inl (omega (arith, begun_first most y ys i h.0 n, begun_middle y ys (suc i) (omega arith) (omega arith), o))
      ]
    ]
  ]
]

-- the number counted by count writes that have begun never falls
pub begun_up : (most : ℕ) (xs : List Span) → AllProper most xs → (i j : ℕ) → i ≤ j → counts_begun xs i ≤ counts_begun xs j
begun_up most xs h i j l = subst (λ m. counts_begun xs i ≤ counts_begun xs m) (omega arith) (go (j - i))
  where
    go : (k : ℕ) → counts_begun xs i ≤ counts_begun xs (k + i)
    go zero = rw zero-add (omega arith)
    go (suc k) = elim (begun_step most xs h (k + i)) [
      | inl e ↦ rw suc-add (omega (arith, e, go k))
      | inr b ↦ rw suc-add (omega (arith, b.now, b.next, go k))
    ]

-- nor that of ended ones, one event later
ended_up_one : (most : ℕ) (xs : List Span) → AllProper most xs → (i : ℕ) → counts_ended xs i ≤ counts_ended xs (suc i)
ended_up_one most [] h i = omega arith
ended_up_one most (y ∷ ys) h i = grind (arith, at_most_or_above, ended_past, ended_up_one most ys h.1 (i - whole y), ended_cons, ended_zero, nat_tests)

-- nor ever after
pub ended_up : (most : ℕ) (xs : List Span) → AllProper most xs → (i j : ℕ) → i ≤ j → counts_ended xs i ≤ counts_ended xs j
ended_up most xs h i j l = subst (λ m. counts_ended xs i ≤ counts_ended xs m) (omega arith) (go (j - i))
  where
    go : (k : ℕ) → counts_ended xs i ≤ counts_ended xs (k + i)
    go zero = rw zero-add (omega arith)
    go (suc k) = rw suc-add (omega (arith, ended_up_one most xs h (k + i), go k))

-- how many items all spans count
abbrev pub in_all : List Span → ℕ
in_all [] = 0
in_all (x ∷ xs) = counts x.outcome + in_all xs

-- no more are ever counted
pub begun_all : (most : ℕ) (xs : List Span) → AllProper most xs → (i : ℕ) → counts_begun xs i ≤ in_all xs
begun_all most [] h i = omega arith
begun_all most (y ∷ ys) h i = grind (arith, at_most_or_above, begun_past, begun_first, begun_middle, begun_all most ys h.1 (i - whole y))

-- past the last span all have ended
pub ended_all : (xs : List Span) → (i : ℕ) → total xs ≤ i → counts_ended xs i ≡ in_all xs
ended_all [] i l = refl
ended_all (y ∷ ys) i l = omega (arith, ended_past y ys i (i - whole y) (omega arith), ended_all ys (i - whole y) (omega arith))

-- the span that counts item number k, the item's place in it, and the item in the list of items
pub record Found (xs : List Span) (items : List ℕ) (k : ℕ) : Type 0 where
  pub start : ℕ
  pub number : ℕ
  pub index : ℕ
  pub span : Span
  pub item : ℕ
  pub stands : IsSpanAt xs start number span
  pub is_k : k ≡ number + index
  pub within : index < counts span.outcome
  pub stored : slice_get (items_of span.outcome) index ≡ Some item
  pub listed : slice_get items k ≡ Some item

-- an element of the first of two lists, and of the second
pub slice_get-front : (xs ys : List ℕ) (i : ℕ) → i < length xs → slice_get (xs ++ ys) i ≡ slice_get xs i
slice_get-front [] ys i l = absurd (omega (arith, l))
slice_get-front (x ∷ xs) ys zero l = refl
slice_get-front (x ∷ xs) ys (suc i) l = slice_get-front xs ys i (omega (arith, l))

pub slice_get-behind : (xs ys : List ℕ) (i j : ℕ) → i ≡ length xs + j → slice_get (xs ++ ys) i ≡ slice_get ys j
slice_get-behind [] ys i j e = ap (slice_get ys) (omega (arith, e))
slice_get-behind (x ∷ xs) ys zero j e = absurd (omega (arith, e))
slice_get-behind (x ∷ xs) ys (suc i) j e = slice_get-behind xs ys i j (omega (arith, e))

-- it is the first span, or is found after it
find_cons :
    (y : Span) (ys : List Span) (items rest : List ℕ) → items ≡ items_of y.outcome ++ rest →
    (n k : ℕ) → k < counts y.outcome + n → ((j : ℕ) → j < n → Found ys rest j) → Found (y ∷ ys) items k
find_cons y ys items rest f n k l next =
    let here : List ℕ = items_of y.outcome in
    let size : counts y.outcome ≡ length here = grind arith in
    elim (at_most_or_above (suc k) (counts y.outcome)) [
      | inl m ↦ (
          let at : slice_get here k ≡ Some (get_or here k 0) = slice_get-get_or here k 0 (omega (arith, m, size)) in
          record {
            start = 0;
            number = 0;
            index = k;
            span = y;
            item = get_or here k 0;
            stands = inl (refl, refl, refl);
            is_k = omega arith;
            within = m;
            stored = at;
            listed = ap (λ l. slice_get l k) f ∙ slice_get-front here rest k (omega (arith, m, size)) ∙ at;
          })
      | inr m ↦ (
          let r = next (k - counts y.outcome) (omega (arith, l, m)) in
          record {
            start = whole y + r.start;
            number = counts y.outcome + r.number;
            index = r.index;
            span = r.span;
            item = r.item;
            stands = inr (r.start, r.number, refl, refl, r.stands);
            is_k = omega (arith, r.is_k, m);
            within = r.within;
            stored = r.stored;
            listed = ap (λ l. slice_get l k) f ∙ slice_get-behind here rest k (k - counts y.outcome) (omega (arith, m, size)) ∙ r.listed;
          })
    ]

pub if_true : (t : Bool) (xs : List ℕ) → t ≡ true → (if t then xs else []) ≡ xs
if_true t xs e = rw e refl

if_false : (t : Bool) (xs : List ℕ) → t ≡ false → (if t then xs else []) ≡ []
if_false t xs e = rw e refl

pub ended_items_cons : (y : Span) (ys : List Span) (i : ℕ) → whole y ≤ i → ended_items (y ∷ ys) i ≡ items_of y.outcome ++ ended_items ys (i - whole y)
ended_items_cons y ys i l = ap (λ (l : List ℕ). l ++ ended_items ys (i - whole y)) (if_true _ (items_of y.outcome) (grind (arith, nat_tests)))

-- each count write that has begun is found with its item
pub begun_find : (most : ℕ) (xs : List Span) → AllProper most xs → (i k : ℕ) → k < counts_begun xs i → Found xs (begun_items xs i) k
begun_find most [] h i k l = absurd (omega arith)
begun_find most (y ∷ ys) h i k l = elim (at_most_or_above i (before_count y)) [
  | inl m ↦ absurd (omega (arith, l, begun_first most y ys i h.0 m))
  | inr m ↦ find_cons y ys (begun_items (y ∷ ys) i) (begun_items ys (i - whole y))
      (ap (λ (m : List ℕ). m ++ begun_items ys (i - whole y)) (if_true _ (items_of y.outcome) (grind (arith, nat_tests)))) (counts_begun ys (i - whole y)) k
      (omega (arith, begun_cons y ys i (i - whole y) (counts y.outcome) refl (grind (arith, nat_tests))))
      (λ j g. begun_find most ys h.1 (i - whole y) j g)
]

-- and so is each that has ended
pub ended_find : (most : ℕ) (xs : List Span) → AllProper most xs → (i k : ℕ) → k < counts_ended xs i → Found xs (ended_items xs i) k
ended_find most [] h i k l = absurd (omega arith)
ended_find most (y ∷ ys) h i k l = elim (at_most_or_above (whole y) i) [
  | inr m ↦ absurd (grind (arith, l, ended_cons, ended_zero, nat_tests))
  | inl m ↦ find_cons y ys (ended_items (y ∷ ys) i) (ended_items ys (i - whole y))
      (ended_items_cons y ys i m) (counts_ended ys (i - whole y)) k
      (omega (arith, ended_cons y ys i (i - whole y) (counts y.outcome) refl (grind (arith, nat_tests))))
      (λ j g. ended_find most ys h.1 (i - whole y) j g)
]

length_if : (t : Bool) (o : Outcome) → length (if t then items_of o else []) ≡ (if t then counts o else 0)
length_if t o = grind arith

-- there is an item for each count write that has begun
pub length-begun_items : (xs : List Span) (i : ℕ) → length (begun_items xs i) ≡ counts_begun xs i
length-begun_items [] i = refl
length-begun_items (y ∷ ys) i = grind (arith, length-append, length_if, length-begun_items ys (i - whole y))

-- and for each that has ended
pub length-ended_items : (xs : List Span) (i : ℕ) → length (ended_items xs i) ≡ counts_ended xs i
length-ended_items [] i = refl
length-ended_items (y ∷ ys) i = grind (arith, length-append, length_if, length-ended_items ys (i - whole y))

-- after the first span its items are among them
pub begun_items_past :
    (most : ℕ) (y : Span) (ys : List Span) (i : ℕ) → Proper most y → whole y ≤ i → begun_items (y ∷ ys) i ≡ items_of y.outcome ++ begun_items ys (i - whole y)
begun_items_past most y ys i h l = grind (arith, at_most_or_above, no-items, if_false, nat_tests, before-count, begun_items, whole, if_true, items_of)

-- after the last span they are all items
pub all_begun : (most : ℕ) (xs : List Span) → AllProper most xs → (i : ℕ) → total xs ≤ i → begun_items xs i ≡ all_items xs
all_begun most [] h i l = refl
all_begun most (y ∷ ys) h i l = grind (arith, begun_items_past most y ys i h.0 (omega arith), all_begun most ys h.1 (i - whole y) (omega arith))

-- at first there are none
pub none_begun : (xs : List Span) → begun_items xs 0 ≡ []
none_begun [] = refl
none_begun (y ∷ ys) = grind (arith, if_false, nat_tests, none_begun ys)

-- nor before the first count write
pub begun_items_first : (y : Span) (ys : List Span) (i : ℕ) → i ≤ before_count y → before_count y ≤ whole y → begun_items (y ∷ ys) i ≡ []
begun_items_first y ys i l w = grind (arith, none_begun, if_false, nat_tests)
