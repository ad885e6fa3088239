-- Whether a write of a bit overlaps an access: decided by a search over the places.
use Rattle.std.proofs.Common.{◌≡◌, ◌⊎◌, ℕ, zero, suc, ◌<◌, Bool, true, false, Some, None, List, length, inl, inr, refl, sym, subst, ◌∙◌, arith}
use Rattle.bits_core.proofs.Common.{slice_get, cases_lt, false≢true, Bit, Event, writer, is_by, begun_by, write_of}
use Rattle.std.proofs.lemmas.Option.{none-some, same_Some, slice_get_within}
use Rattle.bits_core.specs.Intervals.{end_of, IsWrite, Overlap, HasOverlap}
use Rattle.bits_core.proofs.Changes.{same_side-same}
use Rattle.bits_core.proofs.IntervalLemmas.{same_side-true, value_written-from, value_written-to}

-- a write of the bit begins at a place
abbrev BeginsWrite : List Event → Bit → ℕ → Type 0
BeginsWrite h b p = (v : Bool) × IsWrite h b v p (end_of (writer b) h p)

no_write_by : (h : List Event) (b : Bit) (p : ℕ) (e : Event) → slice_get h p ≡ Some e → is_by (writer b) e ≡ false → ¬ BeginsWrite h b p
no_write_by h b p e at other w = grind (arith, same_Some, same_side-same, false≢true)

no_write_of : (h : List Event) (b : Bit) (p : ℕ) (e : Event) → slice_get h p ≡ Some e → write_of b e ≡ None → ¬ BeginsWrite h b p
no_write_of h b p e at none w = grind (arith, same_Some, none-some, value_written-to)

decide_write : (h : List Event) (b : Bit) (p : ℕ) → BeginsWrite h b p ⊎ ¬ BeginsWrite h b p
decide_write h b p =
    elim (slice_get h p) as (λ o. slice_get h p ≡ o → BeginsWrite h b p ⊎ ¬ BeginsWrite h b p) [
      | None ↦ λ none. inr (λ w. none-some w.1.event (sym none ∙ w.1.at_start))
      | Some e ↦ λ at. elim (is_by (writer b) e) as (λ t. is_by (writer b) e ≡ t → BeginsWrite h b p ⊎ ¬ BeginsWrite h b p) [
        | false ↦ λ other. inr (no_write_by h b p e at other)
        | true ↦ λ by. elim (write_of b e) as (λ o. write_of b e ≡ o → BeginsWrite h b p ⊎ ¬ BeginsWrite h b p) [
          | None ↦ λ none. inr (no_write_of h b p e at none)
          | Some v ↦ λ writes. inl (v, record { event = e; at_start = at; by_side = same_side-true (writer b) e.side by; begins = value_written-from b (begun_by e) v writes; ends = refl })
        ] refl
      ] refl
    ] refl

-- a write that begins at a place overlaps the access
abbrev OverlapsAt : List Event → Bit → ℕ → ℕ → ℕ → Type 0
OverlapsAt h b start stop p = BeginsWrite h b p × Overlap start stop p (end_of (writer b) h p)

decide_at : (h : List Event) (b : Bit) (start stop p : ℕ) → OverlapsAt h b start stop p ⊎ ¬ OverlapsAt h b start stop p
decide_at h b start stop p = grind (arith, decide_write h b p, cases_lt)

-- among the first n places
search_places : (h : List Event) (b : Bit) (start stop n : ℕ) → ((p : ℕ) × OverlapsAt h b start stop p) ⊎ ((p : ℕ) → p < n → ¬ OverlapsAt h b start stop p)
search_places h b start stop zero = inr (λ p below. absurd (omega arith))
search_places h b start stop (suc n) =
    elim (decide_at h b start stop n) [
      | inl here ↦ inl (n, here)
      | inr none_here ↦ elim (search_places h b start stop n) [
        | inl found ↦ inl found
        | inr none ↦ inr (λ p below. elim (cases_lt p n) [
          | inl l ↦ none p l
          | inr l ↦ let same : n ≡ p = omega arith in subst (λ m. ¬ OverlapsAt h b start stop m) same none_here
        ])
      ]
    ]

pub decide_overlap : (h : List Event) (b : Bit) (start stop : ℕ) → HasOverlap h b start stop ⊎ ¬ HasOverlap h b start stop
decide_overlap h b start stop =
    elim (search_places h b start stop (length h)) [
      | inl found ↦ inl (record { value = found.1.0.0; start' = found.0; stop' = end_of (writer b) h found.0; write = found.1.0.1; overlap = found.1.1 })
      | inr none ↦ inr (λ o.
          let write : IsWrite h b o.value o.start' (end_of (writer b) h o.start') = subst (λ n. IsWrite h b o.value o.start' n) o.write.ends o.write in
          none o.start' (slice_get_within h o.start' o.write.event o.write.at_start) ((o.value, write), subst (λ n. Overlap start stop o.start' n) o.write.ends o.overlap))
    ]
