-- The spans of a side after its first ones: what had begun and ended there, and within the next one.
use Rattle.std.proofs.Common.{◌≡◌, inl, inr, ℕ, ◌+◌, ◌-◌, ◌≤◌, List, ◌∷◌, ◌++◌, length, refl, sym, ap, ◌∙◌, arith, append_assoc, append-nil, length-append}
use Rattle.ring_core.proofs.Common.{IsPrefix, nat_tests}
use Rattle.ring_core.proofs.OverSpans.Spans.{Span, counts, items_of, before_count, whole, counts_begun, counts_ended, begun_items, ended_items, IsSpanAt}
use Rattle.ring_core.proofs.OverSpans.Timeline.{AllProper, begun_items_past, begun_items_first, ended_items_cons, length-begun_items, length-ended_items, none_begun, if_true}
use Rattle.ring_core.proofs.Readings.Cuts.{at_most_or_above}
use Rattle.ring_core.proofs.OverSpans.CallSpans.{stands_at}

-- after the first of all spans, with their number of events and their items, come the rest
pub record SpansBehind (most : ℕ) (all : List Span) (start : ℕ) (passed : List ℕ) (rest : List Span) : Type 0 where
  pub begun : (j : ℕ) → begun_items all (start + j) ≡ passed ++ begun_items rest j
  pub ended : (j : ℕ) → ended_items all (start + j) ≡ passed ++ ended_items rest j
  pub stands : (s n : ℕ) (x : Span) → IsSpanAt rest s n x → IsSpanAt all (start + s) (length passed + n) x
  pub proper : AllProper most rest

-- after one more
pub spans_past :
    (most : ℕ) (all : List Span) (start stop : ℕ) (passed : List ℕ) (x : Span) (rest : List Span) → stop ≡ start + whole x →
    SpansBehind most all start passed (x ∷ rest) → SpansBehind most all stop (passed ++ items_of x.outcome) rest
spans_past most all start stop passed x rest e b = record {
  begun = λ j.
      (let on : stop + j ≡ start + (whole x + j) = omega (arith, e) in
      let back : whole x + j - whole x ≡ j = omega arith in
      ap (begun_items all) on ∙ b.begun (whole x + j) ∙
      ap (λ l. passed ++ l) (begun_items_past most x rest (whole x + j) b.proper.0 (omega arith) ∙ ap (λ i. items_of x.outcome ++ begun_items rest i) back) ∙
      sym (append_assoc passed (items_of x.outcome) (begun_items rest j)));
  ended = λ j.
      (let on : stop + j ≡ start + (whole x + j) = omega (arith, e) in
      let back : whole x + j - whole x ≡ j = omega arith in
      ap (ended_items all) on ∙ b.ended (whole x + j) ∙
      ap (λ l. passed ++ l) (ended_items_cons x rest (whole x + j) (omega arith) ∙ ap (λ i. items_of x.outcome ++ ended_items rest i) back) ∙
      sym (append_assoc passed (items_of x.outcome) (ended_items rest j)));
  stands = λ s n y st.
      stands_at all (start + (whole x + s)) (stop + s) (length passed + (counts x.outcome + n)) (length (passed ++ items_of x.outcome) + n) y (omega (arith, e))
      (grind (arith, length-append passed (items_of x.outcome)))
      (b.stands (whole x + s) (counts x.outcome + n) y (inr (s, n, refl, refl, st)));
  proper = b.proper.1;
}

-- ---- what had begun and ended

-- no fewer than were passed
passed_at : (of : ℕ → List ℕ) (n start i : ℕ) (passed more : List ℕ) → start ≤ i → n ≡ length (of i) → of (start + (i - start)) ≡ passed ++ more → length passed ≤ n
passed_at of n start i passed more l size parts = grind (arith, length-append)

pub passed_begun : (most : ℕ) (all : List Span) (start : ℕ) (passed : List ℕ) (rest : List Span) (i : ℕ) → start ≤ i →
    SpansBehind most all start passed rest → length passed ≤ counts_begun all i
passed_begun most all start passed rest i l b = passed_at (begun_items all) (counts_begun all i) start i passed _ l (sym (length-begun_items all i)) (b.begun (i - start))

pub passed_ended : (most : ℕ) (all : List Span) (start : ℕ) (passed : List ℕ) (rest : List Span) (i : ℕ) → start ≤ i →
    SpansBehind most all start passed rest → length passed ≤ counts_ended all i
passed_ended most all start passed rest i l b = passed_at (ended_items all) (counts_ended all i) start i passed _ l (sym (length-ended_items all i)) (b.ended (i - start))

-- between two spans, exactly those
pub begun_here : (most : ℕ) (all : List Span) (start : ℕ) (passed : List ℕ) (rest : List Span) →
    SpansBehind most all start passed rest → begun_items all start ≡ passed
begun_here most all start passed rest b = grind (arith, none_begun rest, append-nil passed)

pub counted_here : (most : ℕ) (all : List Span) (start : ℕ) (passed : List ℕ) (rest : List Span) →
    SpansBehind most all start passed rest → counts_begun all start ≡ length passed
counted_here most all start passed rest b = sym (length-begun_items all start) ∙ ap length (begun_here most all start passed rest b)

-- within the next one, those and perhaps its own
first_begun : (x : Span) (rest : List Span) (j : ℕ) → j ≤ whole x → IsPrefix (begun_items (x ∷ rest) j) (items_of x.outcome)
first_begun x rest j l = elim (at_most_or_above j (before_count x)) [
  | inl m ↦ (items_of x.outcome, ap (λ l. l ++ items_of x.outcome) (begun_items_first x rest j m (omega arith)))
  | inr m ↦ grind (arith, append-nil, none_begun, begun_items, whole, if_true, items_of, nat_tests)
]

pub begun_within : (most : ℕ) (all : List Span) (start : ℕ) (passed : List ℕ) (x : Span) (rest : List Span) (i : ℕ) → start ≤ i → i ≤ start + whole x →
    SpansBehind most all start passed (x ∷ rest) → IsPrefix (begun_items all i) (passed ++ items_of x.outcome)
begun_within most all start passed x rest i l m b =
    grind (arith, first_begun x rest (i - start) (omega (arith, m)), append_assoc passed (begun_items (x ∷ rest) (i - start)) ((first_begun x rest (i - start) (omega (arith, m))).0))
