-- Marks that are written one by one.
use Rattle.std.proofs.Common.{◌≡◌, ◌≢◌, ℕ, ◌+◌, ◌<◌, ◌≤◌, Some, List, length, ap, sym, subst, ◌∙◌, arith, inl, inr}
use Rattle.std.proofs.Math.ListN.{set}
use Rattle.std.specs.Prelude.{slice_get, min}
use Rattle.std.proofs.lemmas.Bool.{cases_lt}
use Rattle.std.proofs.lemmas.Option.{get_or_from_slice_get, same_Some, slice_get-get_or, slice_get_within}
use Rattle.std.proofs.lemmas.List.{get_or-set_other, get_or-set_same, length-set}
use Rattle.bits_core.specs.declared.events.Event.{Event}
use Rattle.bits_core.specs.declared.audits.Seen.{Seen}
use Rattle.ring_page.specs.Marks.{ArePut, mark_of}
use Rattle.ring_page.specs.declared.marks.Mark.{Mark}

-- the first n marks
abbrev pub ArePutTo : ℕ → List Event → List Seen → List Mark → Type 0
ArePutTo n events seen marks = (place : ℕ) (e : Event) (x : Seen) (m : Mark) → place < n → slice_get events place ≡ Some e → slice_get seen place ≡ Some x → slice_get marks place ≡ Some m → m ≡ mark_of e x

-- an item that was set is at its place, and the others are unchanged
set_here : (xs : List Mark) (i : ℕ) (y z : Mark) → slice_get (set xs i y) i ≡ Some z → z ≡ y
set_here xs i y z at =
    let within : i < length xs = subst (λ (n : ℕ). i < n) (length-set xs i y) (slice_get_within _ i z at) in
    sym (get_or_from_slice_get (set xs i y) i z z at) ∙ get_or-set_same xs i y z within

set_elsewhere : (xs : List Mark) (i j : ℕ) (y z : Mark) → j ≢ i → slice_get (set xs i y) j ≡ Some z → slice_get xs j ≡ Some z
set_elsewhere xs i j y z apart at =
    let within : j < length xs = subst (λ (n : ℕ). j < n) (length-set xs i y) (slice_get_within _ j z at) in
    slice_get-get_or xs j z within ∙ ap Some (sym (get_or-set_other xs i j y z apart) ∙ get_or_from_slice_get (set xs i y) j z z at)

pub ArePutTo-more : (n : ℕ) (events : List Event) (seen : List Seen) (marks : List Mark) (e : Event) (x : Seen) → slice_get events n ≡ Some e → slice_get seen n ≡ Some x
    → ArePutTo n events seen marks → ArePutTo (n + 1) events seen (set marks n (mark_of e x))
ArePutTo-more n events seen marks e x at_e at_x so_far place f y m below here seen_here put = elim (cases_lt place n) [
  | inl before ↦ so_far place f y m before here seen_here (set_elsewhere marks n place _ m (λ k. omega (arith, k, before)) put)
  | inr other ↦
      let same : place ≡ n = omega arith in
      let is_e : e ≡ f = same_Some e f (sym at_e ∙ ap (slice_get events) (sym same) ∙ here) in
      let is_x : x ≡ y = same_Some x y (sym at_x ∙ ap (slice_get seen) (sym same) ∙ seen_here) in
      set_here marks n (mark_of e x) m (ap (slice_get (set marks n (mark_of e x))) (sym same) ∙ put) ∙ (λ i. mark_of (is_e i) (is_x i))
]

pub ArePut-all : (n : ℕ) (events : List Event) (seen : List Seen) (marks : List Mark) → min (length events) (length marks) ≤ n → ArePutTo n events seen marks → ArePut events seen marks
ArePut-all n events seen marks all put place e x m here seen_here there =
    let in_events : place < length events = slice_get_within events place e here in
    let in_marks : place < length marks = slice_get_within marks place m there in
    put place e x m (omega (arith, all)) here seen_here there
