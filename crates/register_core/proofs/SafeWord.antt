-- A word read that no word write of its cell overlaps gives the item last written.
use Rattle.std.proofs.Common.{◌≡◌, ℕ, zero, suc, ◌+◌, ◌-◌, ◌*◌, ◌/◌, ◌^◌, ◌<◌, ◌≤◌, All, Bool, false, List, length, take, Some, slice_get, slice_index_or, refl, sym, ap, subst, arith, ◌∙◌, ◌⊎◌, inl, inr, length-append, take_all, suc-mul, mul-le-mul_right, le_of_mul-le-mul_right, mod-lt, div-add-mod'}
use Rattle.register_core.proofs.Common.{cases_lt, take-append-le, P, C, Cell, ReadEnd, Event, Shape, begun_by, before_last, IsLawful, bits_after, digit, word_writes, held_is_by_interval}
use Rattle.std.proofs.lemmas.Option.{same_Some, slice_get_within, slice_get-get_or}
use Rattle.bits_core.specs.declared.events.Access.TheVariants.{Write}
use Rattle.bits_core.specs.Intervals.{end_of, HasOverlap, Overlap}
use Rattle.register_core.specs.WordLaw.{cell_write, cell_writes, WritesWords, IsDigitWrite, IsWordWrite, DigitsAreSafe, IsLastWord, IsReadEnd, NoWordEnded, ReadsDigits, WordIsSafe}
use Rattle.register_core.proofs.Numbers.{IsNumbered, begun, ended, begun_at, begun_rises, begun_least, numbered, ended_le, ended_more, ended_le_begun, take-ended, has_ended, ended_rises}
use Rattle.register_core.proofs.Writes.{by_writer, begins_before}
use Rattle.register_core.proofs.Items.{digit_of_zero, same_item, length-word_writes, take-word_writes, words_left}
use Rattle.register_core.proofs.Cells.{clear_bits, held_digit, cell_write-to, cell_write-from}

-- a word write that began before a place
record BegunWord (width j : ℕ) (h : List Event) (q n : ℕ) : Type 0 where
  pub start : ℕ
  pub stop : ℕ
  pub before : start < q
  pub word : IsWordWrite width j h n start stop

module _ (shape : Shape) (h : List Event) (lawful : IsLawful shape h) (width j : ℕ) where
  -- the item at a number is the digit write with that number
  digit_write : (q n : ℕ) (r : IsNumbered (cell_write j) h q n) → IsDigitWrite j h n r.place (end_of P h r.place)
  digit_write q n r =
      let begins : begun_by r.event ≡ Some (Write (Cell j r.what.bit) r.what.value) = cell_write-from j r.event r.what r.begins_it in
      record {
        number = r.what.bit;
        value = r.what.value;
        write = record { event = r.event; at_start = r.at_place; by_side = by_writer shape h lawful r.place r.event r.at_place (Cell j r.what.bit) r.what.value begins; begins = begins; ends = refl };
        behind = r.number;
      }

  -- a digit write that ended before a place is among those that had ended there
  digit_write_ended : (n start stop q : ℕ) → IsDigitWrite j h n start stop → stop < q → q ≤ length h → n < ended (cell_write j) P h q
  digit_write_ended n start stop q d l fits = grind (arith, cell_write-to, ended_more, d.behind, d.number, d.value, d.write.at_start, d.write.begins, d.write.ends, d.write.event)

  -- if a word write has ended, so have all its digit writes
  word_write_ended : (n start stop q : ℕ) → IsWordWrite width j h n start stop → stop < q → q ≤ length h → n * width + width ≤ ended (cell_write j) P h q
  word_write_ended n start stop q w l fits = elim w.last [
    | inl d ↦ omega (arith, digit_write_ended (n * width + (width - 1)) d.0 stop q d.1 l fits)
    | inr cut ↦ absurd (omega (arith, cut.1))
  ]

  -- if its first digit write has begun, so has a word write
  word_write_begun : (q n : ℕ) → n * width < begun (cell_write j) h q → BegunWord width j h q n
  word_write_begun q n l =
      let r = numbered (cell_write j) h q (n * width) l in
      elim (cases_lt (n * width + (width - 1)) (length (cell_writes j h))) [
        | inl m ↦
            let all : begun (cell_write j) h (length h) ≡ length (cell_writes j h) = ap (λ k. length (cell_writes j k)) (take_all (length h) h (omega arith)) in
            let last = numbered (cell_write j) h (length h) (n * width + (width - 1)) (omega arith) in
            record {
              start = r.place;
              stop = end_of P h last.place;
              before = r.before;
              word = record { first_stop = end_of P h r.place; first = digit_write q (n * width) r; last = inl (last.place, digit_write (length h) (n * width + (width - 1)) last) };
            }
        | inr m ↦ record {
          start = r.place;
          stop = length h;
          before = r.before;
          word = record { first_stop = end_of P h r.place; first = digit_write q (n * width) r; last = inr (m, refl) };
        }
      ]

module _ (shape : Shape) (h : List Event) (lawful : IsLawful shape h) (width j : ℕ) (wide : 0 < width) (items : List ℕ) (fit : All (λ v. v < 2 ^ width) items) (writes : WritesWords width j h items) (count : ℕ) (some_read : 0 < count) (few_read : count ≤ width) (start stop : ℕ → ℕ) (answer : ℕ → Bool) (read : ReadsDigits j h count start stop answer) (place : ℕ) (read_end : IsReadEnd width h count stop place) (quiet : (n start' stop' : ℕ) → IsWordWrite width j h n start' stop' → ¬ Overlap (start 0) place start' stop') where
  -- how many digit writes had ended when the word read began, and how many had begun when it ended
  abbrev had_ended : ℕ
  had_ended = ended (cell_write j) P h (start 0)

  abbrev had_begun : ℕ
  had_begun = begun (cell_write j) h place

  -- each read begins before it ends, within the history
  within : (i : ℕ) → i < count → (start i < stop i) × (start i < length h) × (stop i < length h)
  within i l =
      let r = read.each i l in (
        omega (arith, r.access.ends),
        slice_get_within h (start i) r.access.event r.access.at_start,
        slice_get_within h (stop i) (record { side = C; bit = Cell j i; act = ReadEnd (answer i) }) r.ends,
      )

  -- places go up from the first read to the last
  start_rises : (i : ℕ) → i < count → start 0 ≤ start i
  start_rises zero l = omega arith
  start_rises (suc i) l = let r = within i (omega arith) in omega (arith, start_rises i (omega arith), read.in_turn i l, r.0)

  stop_rises : (i d : ℕ) → i + d < count → stop i ≤ stop (i + d)
  stop_rises i zero l = let z : i + 0 ≡ i = omega arith in rw z (omega arith)
  stop_rises i (suc d) l = grind (arith, within, (stop_rises i d (omega arith)))

  stop_below : (i : ℕ) → i < count → stop i ≤ place
  stop_below i l = grind (arith, (stop_rises i (count - 1 - i) (omega arith)), (within i l))

  ended_le_had_begun : had_ended ≤ had_begun
  ended_le_had_begun = grind (arith, begun_rises, ended_le_begun, stop_below, within)

  start_within : start 0 ≤ length h
  start_within = let r = within 0 some_read in omega (arith, r.1)

  -- no digit write had begun beyond the words that had ended
  begun_le : (n : ℕ) → had_ended < n * width + width → had_begun ≤ n * width
  begun_le n few = elim (cases_lt (n * width) had_begun) [
    | inr l ↦ l
    | inl l ↦
        let w = word_write_begun shape h lawful width j place n l in
        absurd (quiet n w.start w.stop w.word (
          λ m. absurd (omega (arith, w.before)),
          λ m. absurd (omega (arith, word_write_ended shape h lawful width j n w.start w.stop (start 0) w.word m start_within)),
        ))
  ]

  -- no more digit writes began than the items have
  writes_le : length (cell_writes j h) ≤ length items * width
  writes_le = omega (arith, ap length writes.1, length-append (cell_writes j h) writes.0, length-word_writes width items)

  -- n words had ended, and no other digit write had begun
  module _ (n : ℕ) (all_ended : had_ended ≡ n * width) (all_begun : had_begun ≡ n * width) where
    -- at least n items were written
    fits : n ≤ length items
    fits = le_of_mul-le-mul_right (omega (arith, writes_le, begun_least (cell_write j) h place)) wide

    -- the same at each digit read
    ended_there : (i : ℕ) → i < count → (ended (cell_write j) P h (start i) ≡ n * width) × (begun (cell_write j) h (stop i) ≤ n * width)
    ended_there i l =
        let r = within i l in
        let a = ended_rises (cell_write j) P h (start 0) (start i) (start_rises i l) (omega (arith, r.1)) in
        let b = ended_le_begun (cell_write j) P h (start i) in
        let c = begun_rises (cell_write j) h (start i) (stop i) (omega (arith, r.0)) in
        let d = begun_rises (cell_write j) h (stop i) place (stop_below i l) in
        (omega arith, omega arith)

    none_overlaps : (i : ℕ) → i < count → ¬ HasOverlap h (Cell j i) (start i) (stop i)
    none_overlaps i l o =
        let r = ended_there i l in
        let before : o.start' < stop i = begins_before h C (Cell j i) (start i) (stop i) (answer i) (read.each i l) P (Write (Cell j i) o.value) o.start' o.stop' o.write o.overlap.0 in
        let old = ended_le (cell_write j) P h o.start' (start i) (elim (cases_lt o.stop' (start i)) [ inl m ↦ absurd (o.overlap.1 m) | inr m ↦ omega (arith, o.write.ends) ]) in
        let at = begun_at (cell_write j) h o.start' o.write.event (record { bit = i; value = o.value }) o.write.at_start (cell_write-to j i o.value o.write.event o.write.begins) in
        omega (arith, r.0, r.1, old, at.1, begun_rises (cell_write j) h (suc o.start') (stop i) (omega arith))

    -- the writes ended when a digit read began are those of the first n words
    first_words : (i : ℕ) → i < count → cell_writes j (before_last P (take (start i) h)) ≡ word_writes width (take n items)
    first_words i l = grind (arith, (begun_least (cell_write j) h place), (ended_there i l), (take-append-le (n * width) (cell_writes j h) writes.0 (omega (arith, begun_least (cell_write j) h place))), (take-ended (cell_write j) P h (start i)), (take-word_writes width items n fits), fits)

    -- so each answer is what they leave in the digit
    digit_is : (i : ℕ) → i < count → answer i ≡ bits_after clear_bits (word_writes width (take n items)) i
    digit_is i l =
        let r = read.each i l in
        let here = within i l in
        elim ((lawful.each (stop i) (record { side = C; bit = Cell j i; act = ReadEnd (answer i) }) r.ends).permitted (start i) r.access) [
          | inl o ↦ absurd (none_overlaps i l o)
          | inr held ↦
              (held_is_by_interval shape h lawful (Cell j i) (start i) (omega (arith, here.1)) (answer i)).0 held
              ∙ held_digit j i (take (start i) h)
              ∙ ap (λ ws. bits_after clear_bits ws i) (first_words i l)
        ]

    -- a word write that had ended is among them
    word_below : (m s t : ℕ) → IsWordWrite width j h m s t → t < start 0 → m < n
    word_below m s t w l = grind (arith, (cases_lt m n), (word_write_ended shape h lawful width j m s t (start 0) w l start_within), mul-le-mul_right, start_within)

  -- the digits are those of the item last written, if there is one
  abbrev Told : Type 0
  Told =
      ((item : ℕ) × IsLastWord width j h items (start 0) item × ((i : ℕ) → i < count → answer i ≡ digit i item))
      ⊎ (NoWordEnded width j h (start 0) × ((i : ℕ) → i < count → answer i ≡ false))

  -- the law, by how many words had ended
  safe_by_words : (n : ℕ) → had_ended ≡ n * width → had_begun ≡ n * width → Told
  safe_by_words zero all_ended all_begun = inr (
    λ m s t w l. absurd (omega (arith, word_below zero all_ended all_begun m s t w l)),
    λ i l. digit_is zero all_ended all_begun i l,
  )
  safe_by_words (suc n) all_ended all_begun =
      let some : n < length items = omega (arith, fits (suc n) all_ended all_begun) in
      let item : ℕ = slice_index_or items n 0 in
      let last : slice_get items n ≡ Some item = slice_get-get_or items n 0 some in
      let first = has_ended (cell_write j) P h (start 0) (n * width) (omega (arith, suc-mul n width)) in
      let final = has_ended (cell_write j) P h (start 0) (n * width + (width - 1)) (omega (arith, suc-mul n width)) in
      inl (
        item,
        record {
          number = n;
          start = first.numbered.place;
          stop = end_of P h final.numbered.place;
          write = grind (arith, digit_write shape h lawful width j (start 0) (n * width) first.numbered, digit_write shape h lawful width j (start 0) (n * width + (width - 1)) final.numbered);
          ended = final.ended;
          last = λ m s t w l. omega (arith, word_below (suc n) all_ended all_begun m s t w l);
          writes = last;
        },
        λ i l. digit_is (suc n) all_ended all_begun i l ∙ words_left width items n item i clear_bits (omega (arith, l)) last,
      )

  pub safe_digits : Told
  safe_digits =
      let n : ℕ = had_ended / width in
      let high : had_ended < n * width + width = omega (arith, mod-lt had_ended wide, div-add-mod' had_ended width) in
      let few : had_begun ≤ n * width = begun_le n high in
      safe_by_words n (omega (arith, ended_le_had_begun)) (omega (arith, ended_le_had_begun))

pub digits-are_safe : DigitsAreSafe
digits-are_safe shape h lawful width j wide items fit writes count some_read few_read start stop answer read place read_end quiet = grind (arith, (safe_digits shape h lawful width j wide items fit writes count some_read few_read start stop answer read place read_end quiet))

-- a word read that has ended is one of all digits, and they determine its item
pub word-is_safe : WordIsSafe
word-is_safe shape h lawful width j wide items fit writes start stop item read quiet =
    elim (digits-are_safe shape h lawful width j wide items fit writes width wide (omega arith) start stop (λ i. digit i item)
    (record { in_turn = read.in_turn; each = read.each }) (stop (width - 1)) (inl (refl, refl)) quiet) [
      | inl r ↦
          let is : item ≡ r.0 = same_item width item r.0 read.fits (last_fits items fit r.1.number r.0 r.1.writes) r.2 in
          inl (subst (λ v. IsLastWord width j h items (start 0) v) (sym is) r.1)
      | inr r ↦ inr (r.0, same_item width item 0 read.fits (omega (arith, read.fits)) (λ i l. r.1 i l ∙ sym (digit_of_zero i)))
    ]
  where
    last_fits : (items : List ℕ) → All (λ v. v < 2 ^ width) items → (n v : ℕ) → slice_get items n ≡ Some v → v < 2 ^ width
    last_fits items fit n v at =
        let below : n < length items = slice_get_within items n v at in
        subst (λ w. w < 2 ^ width) (same_Some (slice_index_or items n 0) v (sym (slice_get-get_or items n 0 below) ∙ at)) (fit n 0 below)
