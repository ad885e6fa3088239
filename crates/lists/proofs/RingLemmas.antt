-- A list in a circular buffer: an item replaced, one added after the last, and the first one removed.
use Rattle.std.proofs.Common.{◌≡◌, ℕ, suc, ◌+◌, ◌-◌, ◌<◌, ◌≤◌, true, false, List, [], ◌∷◌, ◌++◌, length, take, drop, slice_set, if◌then◌else◌, refl, ap, ap₂, sym, ◌∙◌, append_assoc, length-append, arith}
use Rattle.std.specs.Prelude.{nat_lt, slice_index_or}
use Rattle.std.proofs.Math.Seq.{take-set-lt, take-suc-set}
use Rattle.std.proofs.lemmas.Bool.Decides.{nat_tests}
use Rattle.std.proofs.lemmas.List.{append-nil, drop-set-add, drop-set-lt, drop-take, drop_all, drop_more, length-drop, length-take-le, set-append_left, set-append_right, take-append-le, take-set-le, take_all, take_more}
use Rattle.lists.specs.Rings.{from_place, round_from}

-- the slots from a place on, round to it, are as many
pub round_length : {T : Type 0} (slots : List T) (first : ℕ) → first ≤ length slots → length (round_from first slots) ≡ length slots
round_length slots first within =
    let whole : length (round_from first slots) ≡ length (drop first slots) + length (take first slots) = length-append (drop first slots) (take first slots) in
    let behind : length (drop first slots) ≡ length slots - first = length-drop first slots in
    let before : length (take first slots) ≡ first = length-take-le first slots within in
    omega (arith, whole, behind, before, within)

-- an item is put into the slot of the place
pub round_set : {T : Type 0} (slots : List T) (first index : ℕ) (x : T) → first ≤ length slots → index < length slots
    → round_from first (slice_set slots (from_place (length slots) first index) x) ≡ slice_set (round_from first slots) index x
round_set slots first index x within few =
    let many : length (drop first slots) ≡ length slots - first = length-drop first slots in
    elim (nat_lt index (length slots - first)) as (λ t. nat_lt index (length slots - first) ≡ t
    → round_from first (slice_set slots (if t then first + index else index - (length slots - first)) x) ≡ slice_set (round_from first slots) index x) [
      | true ↦ λ e.
          let before : index < length slots - first = grind (arith, nat_tests) in
          ap₂ (λ a b. a ++ b) (drop-set-add first slots index x) (take-set-le first slots (first + index) x (omega arith))
          ∙ sym (set-append_left (drop first slots) (take first slots) index x (omega (arith, many, before)))
      | false ↦ λ e.
          let behind : length slots - first ≤ index = grind (arith, nat_tests) in
          let there : index - (length slots - first) < first = omega (arith, behind, within, few) in
          ap₂ (λ a b. a ++ b) (drop-set-lt first slots (index - (length slots - first)) x there) (take-set-lt first slots (index - (length slots - first)) x there)
          ∙ sym (set-append_right (drop first slots) (take first slots) (length slots - first) index x many behind)
    ] refl

-- an item replaces another
pub ring_set : {T : Type 0} (slots : List T) (first used index : ℕ) (x : T) → first ≤ length slots → used ≤ length slots → index < length (take used (round_from first slots))
    → take used (round_from first (slice_set slots (from_place (length slots) first index) x)) ≡ slice_set (take used (round_from first slots)) index x
ring_set slots first used index x within room few =
    let all : length (round_from first slots) ≡ length slots = round_length slots first within in
    let kept : length (take used (round_from first slots)) ≡ used = length-take-le used (round_from first slots) (omega (arith, all, room)) in
    let less : index < used = omega (arith, few, kept) in
    ap (λ r. take used r) (round_set slots first index x within (omega (arith, less, room))) ∙ take-set-lt used (round_from first slots) index x less

-- an item is added after the last
pub ring_push : {T : Type 0} (slots : List T) (first used : ℕ) (x : T) → first ≤ length slots → used < length slots
    → take (used + 1) (round_from first (slice_set slots (from_place (length slots) first used) x)) ≡ take used (round_from first slots) ++ x ∷ []
ring_push slots first used x within room =
    let all : length (round_from first slots) ≡ length slots = round_length slots first within in
    let next : used + 1 ≡ suc used = omega arith in
    ap₂ (λ n r. take n r) next (round_set slots first used x within room) ∙ take-suc-set (round_from first slots) used x (omega (arith, all, room))

-- what comes after a place is what comes from it on, without the first item, which comes last
round_next : {T : Type 0} (slots : List T) (first : ℕ) (d : T) → first < length slots → round_from (first + 1) slots ≡ drop 1 (round_from first slots) ++ slice_index_or slots first d ∷ []
round_next slots first d few =
    let head : round_from first slots ≡ (slice_index_or slots first d ∷ drop (first + 1) slots) ++ take first slots = ap (λ l. l ++ take first slots) (drop_more slots first d few) in
    ap (λ l. drop (first + 1) slots ++ l) (take_more slots first d few) ∙ sym (append_assoc (drop (first + 1) slots) (take first slots) (slice_index_or slots first d ∷ []))
    ∙ ap (λ l. drop 1 l ++ slice_index_or slots first d ∷ []) (sym head)

-- the first one is removed, and all are in the slots
ring_next : {T : Type 0} (slots : List T) (first used : ℕ) (d : T) → first < length slots → 0 < used → used ≤ length slots
    → take (used - 1) (round_from (first + 1) slots) ≡ drop 1 (take used (round_from first slots))
ring_next slots first used d few some room =
    let all : length (round_from first slots) ≡ length slots = round_length slots first (omega (arith, few)) in
    let rest : length (drop 1 (round_from first slots)) ≡ length (round_from first slots) - 1 = length-drop 1 (round_from first slots) in
    let one : 1 + (used - 1) ≡ used = omega (arith, some) in
    ap (λ r. take (used - 1) r) (round_next slots first d few)
    ∙ take-append-le (used - 1) (drop 1 (round_from first slots)) (slice_index_or slots first d ∷ []) (omega (arith, all, rest, some, room))
    ∙ sym (drop-take 1 (used - 1) (round_from first slots)) ∙ ap (λ n. drop 1 (take n (round_from first slots))) one

-- round from the end is round from the start
round_end : {T : Type 0} (slots : List T) → round_from (length slots) slots ≡ round_from 0 slots
round_end slots =
    ap₂ (λ a b. a ++ b) (drop_all (length slots) slots (omega arith)) (take_all (length slots) slots (omega arith)) ∙ sym (append-nil slots)

-- the first one is removed
pub ring_pop : {T : Type 0} (slots : List T) (first used : ℕ) (d : T) → first ≤ length slots → 0 < used → used ≤ length slots
    → take (used - 1) (round_from (from_place (length slots) first 0 + 1) slots) ≡ drop 1 (take used (round_from first slots))
ring_pop slots first used d within some room =
    elim (nat_lt 0 (length slots - first)) as (λ t. nat_lt 0 (length slots - first) ≡ t
    → take (used - 1) (round_from ((if t then first + 0 else 0 - (length slots - first)) + 1) slots) ≡ drop 1 (take used (round_from first slots))) [
      | true ↦ λ e.
          let before : 0 < length slots - first = grind (arith, nat_tests) in
          let place : (first + 0) + 1 ≡ first + 1 = omega arith in
          ap (λ n. take (used - 1) (round_from n slots)) place ∙ ring_next slots first used d (omega (arith, before)) some room
      | false ↦ λ e.
          let behind : length slots - first ≤ 0 = grind (arith, nat_tests) in
          let end : length slots ≡ first = omega (arith, behind, within) in
          let place : (0 - (length slots - first)) + 1 ≡ 0 + 1 = omega arith in
          ap (λ n. take (used - 1) (round_from n slots)) place ∙ ring_next slots 0 used d (omega (arith, some, room)) some room
          ∙ ap (λ r. drop 1 (take used r)) (sym (round_end slots) ∙ ap (λ n. round_from n slots) end)
    ] refl
