-- A bit whose writer makes logical writes is regular.
use Rattle.std.proofs.Common.{◌≡◌, ◌≢◌, ℕ, zero, suc, ◌<◌, ◌≤◌, Bool, true, false, List, [], ◌∷◌, length, take, Some, slice_get, refl, sym, ap, subst, arith, ◌∙◌, ◌⊎◌, inl, inr}
use Rattle.register_core.proofs.Common.{cases_lt, take-append-le, slice_get_within, Side, Bit, ReadEnd, Event, Shape, IsLawful, held_is_by_interval}
use Rattle.bits_core.specs.declared.events.Access.TheVariants.{Write}
use Rattle.bits_core.specs.Bits.{writer, first_value, begun_by, write_of}
use Rattle.bits_core.specs.History.{writes_begun, last_value, held}
use Rattle.bits_core.specs.Intervals.{end_of, IsRead, IsWrite, IsHeld, HasOverlap}
use Rattle.register_core.specs.BitLaw.{logical_writes, WritesLogically, IsOverlapping, IsFirstOverlapping, IsRegularAnswer, BitIsRegular}
use Rattle.register_core.proofs.Numbers.{IsNumbered, begun, ended, begun_at, begun_rises, begun_least, numbered, ended_le, ended_more, take-ended, all_ended, slice_get-begin}
use Rattle.register_core.proofs.Writes.{write_of-from, write_of-to, by_writer, begins_before}
use Rattle.register_core.proofs.Turns.{each_ended}

-- a logical write writes a value other than the one before it
logical_changes : (values : List Bool) (v : Bool) (n : ℕ) (x : Bool) → slice_get (logical_writes v values) n ≡ Some x → x ≢ last_value v (take n (logical_writes v values))
logical_changes [] v n x e = absurd (cc)
logical_changes (true ∷ values) true n x e = logical_changes values true n x e
logical_changes (false ∷ values) false n x e = logical_changes values false n x e
logical_changes (false ∷ values) true zero x e = λ same. let other : false ≡ x = cc in cc
logical_changes (true ∷ values) false zero x e = λ same. let other : true ≡ x = cc in cc
logical_changes (false ∷ values) true (suc n) x e = logical_changes values false n x e
logical_changes (true ∷ values) false (suc n) x e = logical_changes values true n x e

-- a value is one of two that differ
one_of_two : (a c x : Bool) → c ≢ a → (x ≡ a) ⊎ (x ≡ c)
one_of_two a c x h1 = grind arith

module _ (shape : Shape) (h : List Event) (lawful : IsLawful shape h) (b : Bit) (values : List Bool) (writes : WritesLogically b h values) (s : Side) (start stop : ℕ) (v : Bool) (read : IsRead h s b start stop v) where
  -- how many writes of the bit had ended when the read began
  abbrev had_ended : ℕ
  had_ended = ended (write_of b) (writer b) h start

  within : start < length h
  within = slice_get_within h start read.access.event read.access.at_start

  -- a write that overlaps the read is not one of them
  overlapping_number : (x : Bool) (start' stop' : ℕ) → IsOverlapping h b start stop x start' stop' → had_ended ≤ begun (write_of b) h start'
  overlapping_number x start' stop' o = grind (arith, cases_lt, ended_le, o.0.ends, o.1.1)

  number_at : (x : Bool) (start' stop' : ℕ) → IsWrite h b x start' stop' → begun (write_of b) h (suc start') ≡ suc (begun (write_of b) h start')
  number_at x start' stop' a = (begun_at (write_of b) h start' a.event x a.at_start (write_of-to b a.event x a.begins)).1

  -- if a write overlaps the read, more began before its end than had ended before its start
  more_begun : HasOverlap h b start stop → had_ended < begun (write_of b) h stop
  more_begun o =
      let before : o.start' < stop = begins_before h s b start stop v read (writer b) (Write b o.value) o.start' o.stop' o.write o.overlap.0 in
      omega (arith, overlapping_number o.value o.start' o.stop' (o.write, o.overlap), number_at o.value o.start' o.stop' o.write, begun_rises (write_of b) h (suc o.start') stop (omega arith))

  -- the first write that had not ended when the read began
  module _ (r : IsNumbered (write_of b) h stop had_ended) where
    begins : begun_by r.event ≡ Some (Write b r.what)
    begins = write_of-from b r.event r.what r.begins_it

    by_side : r.event.side ≡ writer b
    by_side = by_writer shape h lawful r.place r.event r.at_place b r.what begins

    first_overlaps : IsOverlapping h b start stop r.what r.place (end_of (writer b) h r.place)
    first_overlaps = (
      record { event = r.event; at_start = r.at_place; by_side = by_side; begins = begins; ends = refl },
      (
        λ l. absurd (omega (arith, r.before)),
        λ l. absurd (omega (arith, ended_more (write_of b) (writer b) h r.place start r.event r.what r.at_place r.begins_it l (omega (arith, within)), r.number)),
      ),
    )

    is_first : IsFirstOverlapping h b start stop r.place
    is_first = (
      (r.what, end_of (writer b) h r.place, first_overlaps),
      λ x start' stop' o. elim (cases_lt start' r.place) [
        | inr l ↦ l
        | inl l ↦ absurd (omega (arith, overlapping_number x start' stop' o, number_at x start' stop' o.0, begun_rises (write_of b) h (suc start') r.place (omega arith), r.number))
      ],
    )

    place_within : r.place < length h
    place_within = slice_get_within h r.place r.event r.at_place

    -- those that began before it had ended when it begins
    all_before : ended (write_of b) (writer b) h r.place ≡ had_ended
    all_before =
        all_ended (write_of b) (writer b) h r.place (omega (arith, place_within))
        (each_ended (write_of b) (writer b) (λ e x is. (b, x, write_of-from b e x is, refl)) shape h lawful r.place r.event r.what r.at_place r.begins_it)
        ∙ r.number

    -- so the bit then holds what the writes ended when the read began left
    held_there : held b (take r.place h) ≡ last_value (first_value b) (take had_ended (writes_begun b h))
    held_there = grind (arith, all_before, take-ended)

    -- it writes a value other than the one that the bit then holds
    changes : r.what ≢ last_value (first_value b) (take had_ended (writes_begun b h))
    changes =
        let at : slice_get (writes_begun b h) had_ended ≡ Some r.what = ap (slice_get (writes_begun b h)) (sym r.number) ∙ (begun_at (write_of b) h r.place r.event r.what r.at_place r.begins_it).0 in
        let all : slice_get (logical_writes (first_value b) values) had_ended ≡ Some r.what = ap (λ l. slice_get l had_ended) (sym writes.1) ∙ slice_get-begin (writes_begun b h) writes.0 had_ended r.what at in
        let same : take had_ended (logical_writes (first_value b) values) ≡ take had_ended (writes_begun b h) =
        ap (take had_ended) (sym writes.1) ∙ take-append-le had_ended (writes_begun b h) writes.0 (omega (arith, r.number, begun_least (write_of b) h r.place)) in
        λ e. logical_changes values (first_value b) had_ended r.what all (e ∙ ap (last_value (first_value b)) (sym same))

    answer : ((first : ℕ) × IsFirstOverlapping h b start stop first × IsHeld h b first v) ⊎ ((start' : ℕ) × (stop' : ℕ) × IsOverlapping h b start stop v start' stop')
    answer = elim (one_of_two (last_value (first_value b) (take had_ended (writes_begun b h))) r.what v changes) [
      | inl e ↦ inl (r.place, is_first, (held_is_by_interval shape h lawful b r.place (omega (arith, place_within)) v).1 (e ∙ sym held_there))
      | inr e ↦ inr (r.place, end_of (writer b) h r.place, subst (λ x. IsOverlapping h b start stop x r.place (end_of (writer b) h r.place)) (sym e) first_overlaps)
    ]

  pub regular_answer : IsRegularAnswer h b start stop v
  regular_answer = record {
    overlapped = λ o. answer (numbered (write_of b) h stop had_ended (more_begun o));
    alone = λ none. elim ((lawful.each stop (record { side = s; bit = b; act = ReadEnd v }) read.ends).permitted start read.access) [
      | inl o ↦ absurd (none o)
      | inr is ↦ is
    ];
  }

pub bit-is_regular : BitIsRegular
bit-is_regular shape h lawful b values writes s start stop v read = regular_answer shape h lawful b values writes s start stop v read
