-- A scan of a unary register in a history, by the moments of its writer.
use Rattle.std.proofs.Common.{◌≡◌, ℕ, suc, ◌<◌, ◌≤◌, Bool, true, false, List, length, take, slice_get, refl, sym, ap, subst, arith, ◌∙◌, inl, inr, eq-or-lt_of_le}
use Rattle.register_core.proofs.Common.{cases_lt, take-append-le, slice_get_within, Side, ReadEnd, Event, Shape, IsLawful, RowWrite, row_bit, first_bits, bits_after, writes_of, held_is_by_interval}
use Rattle.bits_core.specs.declared.events.Access.TheVariants.{Write}
use Rattle.bits_core.specs.Bits.{other}
use Rattle.bits_core.specs.Intervals.{IsAccess, IsRead, IsHeld, HasOverlap}
use Rattle.register_core.proofs.WriterMoments.{Windows, Answered, SafelyAnswered, ScannedTo}
use Rattle.register_core.specs.UnaryLaw.{count_write, count_begun, count_ended, WritesUnary, ReadsZeros, UnaryIsRegular, UnaryHasOne}
use Rattle.register_core.proofs.Numbers.{begun, ended, begun_at, begun_rises, begun_least, ended_le, ended_le_begun, ended_rises, take-ended, slice_get-begin}
use Rattle.register_core.proofs.Writes.{begins_before}
use Rattle.register_core.proofs.Turns.{one_open}
use Rattle.register_core.proofs.Counts.{row_writer, count_write-to, count_write-its, held_count}
use Rattle.register_core.proofs.UnaryMoments.{moments-are_regular, moments-have_one, bits-are_regular}

-- reads of the bits below the last that answer 0, and a read of the last bit
module _ (shape : Shape) (h : List Event) (lawful : IsLawful shape h) (s : Side) (values : List ℕ) (writes : WritesUnary s h values) (last : ℕ) (start stop : ℕ → ℕ) (zeros : ReadsZeros s h last start stop) (answer : Bool) (final : IsRead h (other s) (row_bit s last) (start last) (stop last) answer) where
  -- how many writes of the count had ended when the read of a bit begins, and how many had begun when it ends
  abbrev from : ℕ → ℕ
  from i = ended (count_write s) s h (start i)

  abbrev till : ℕ → ℕ
  till i = begun (count_write s) h (stop i)

  -- a read begins before it ends, within the history
  read_within : (i : ℕ) (v : Bool) → IsRead h (other s) (row_bit s i) (start i) (stop i) v → (start i < stop i) × (stop i < length h)
  read_within i v read = (omega (arith, read.access.ends), slice_get_within h (stop i) (record { side = other s; bit = row_bit s i; act = ReadEnd v }) read.ends)

  within : (i : ℕ) → i ≤ last → (start i < stop i) × (stop i < length h)
  within i l = elim (eq-or-lt_of_le l) [
    | inl e ↦ subst (λ k. (start k < stop k) × (stop k < length h)) (sym e) (read_within last answer final)
    | inr m ↦ read_within i false (zeros.each i m)
  ]

  windows : Windows last from till
  windows = grind (arith, (count_write-its s), begun_rises, ended_le_begun, ended_rises, one_open, within)

  -- a write of the bit overlaps the read
  overlapped : (i : ℕ) (v : Bool) → IsRead h (other s) (row_bit s i) (start i) (stop i) v → HasOverlap h (row_bit s i) (start i) (stop i) → SafelyAnswered (writes_of values) from till i v
  overlapped i v read o =
      let w : RowWrite = record { bit = i; value = o.value } in
      let write : IsAccess h s (Write (row_bit s i) o.value) o.start' o.stop' = subst (λ t. IsAccess h t (Write (row_bit s i) o.value) o.start' o.stop') (row_writer s i) o.write in
      let before : o.start' < stop i = begins_before h (other s) (row_bit s i) (start i) (stop i) v read s (Write (row_bit s i) o.value) o.start' o.stop' write o.overlap.0 in
      let at = begun_at (count_write s) h o.start' write.event w write.at_start (count_write-to s i o.value write.event write.begins) in
      inr (
        begun (count_write s) h o.start',
        ended_le (count_write s) s h o.start' (start i) (elim (cases_lt o.stop' (start i)) [ inl l ↦ absurd (o.overlap.1 l) | inr l ↦ omega (arith, write.ends) ]),
        omega (arith, at.1, begun_rises (count_write s) h (suc o.start') (stop i) (omega arith)),
        (
          w,
          ap (λ ws. slice_get ws (begun (count_write s) h o.start')) (sym writes.1) ∙ slice_get-begin (count_begun s h) writes.0 (begun (count_write s) h o.start') w at.0,
          refl,
        ),
      )

  -- the first writes are those that had ended
  first_writes : (i : ℕ) → take (from i) (writes_of values) ≡ count_ended s (take (start i) h)
  first_writes i = grind (arith, begun_least, ended_le_begun, take-append-le, take-ended)

  -- the read returns what the bit held when it began
  held_there : (i : ℕ) (v : Bool) → start i ≤ length h → IsHeld h (row_bit s i) (start i) v → SafelyAnswered (writes_of values) from till i v
  held_there i v fits is =
      let e : bits_after first_bits (take (from i) (writes_of values)) i ≡ v =
      grind (arith, first_writes i, held_count s i (take (start i) h), held_is_by_interval shape h lawful (row_bit s i) (start i) fits v, row_bit s i) in
      inl e

  answered : (i : ℕ) (v : Bool) → i ≤ last → IsRead h (other s) (row_bit s i) (start i) (stop i) v → Answered (writes_of values) from till i v
  answered i v l read =
      bits-are_regular values from till i v (windows.in_order i l)
      (elim ((lawful.each (stop i) (record { side = other s; bit = row_bit s i; act = ReadEnd v }) read.ends).permitted (start i) read.access) [
        | inl o ↦ overlapped i v read o
        | inr is ↦ held_there i v (omega (arith, read_within i v read)) is
      ])

  pub scanned : ScannedTo (writes_of values) from till last
  scanned = record { windows = windows; below = λ i l. answered i false (omega arith) (zeros.each i l) }

  pub last_answered : Answered (writes_of values) from till last answer
  last_answered = answered last answer (omega arith) final

pub unary-is_regular : UnaryIsRegular
unary-is_regular shape h lawful s values writes c start stop scan = grind (arith, (last_answered shape h lawful s values writes c start stop scan.zeros true scan.one), (moments-are_regular values c _ _ (scanned shape h lawful s values writes c start stop scan.zeros true scan.one) (last_answered shape h lawful s values writes c start stop scan.zeros true scan.one)), (scanned shape h lawful s values writes c start stop scan.zeros true scan.one), scan.one, scan.zeros)

pub unary-has_one : UnaryHasOne
unary-has_one shape h lawful s values writes last start stop within zeros final = grind (arith, (last_answered shape h lawful s values writes last start stop zeros false final), (moments-have_one values last _ _ within (scanned shape h lawful s values writes last start stop zeros false final) (last_answered shape h lawful s values writes last start stop zeros false final)), (scanned shape h lawful s values writes last start stop zeros false final))
