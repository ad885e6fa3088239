-- The recordings of a unary register are regular: the number that a scan of its bits found is that of a write that the read may be of.
use Rattle.std.proofs.Common.{◌≡◌, ℕ, zero, suc, ◌-◌, ◌<◌, ◌≤◌, Bool, true, false, min, List, [], ◌∷◌, length, take, Some, slice_get, refl, sym, ap, subst, arith, zero-le, ◌∙◌, inl, inr}
use Rattle.std.specs.Prelude.{◌==◌, if◌then◌else◌}
use Rattle.std.proofs.lemmas.Bool.{cases_lt}
use Rattle.std.proofs.lemmas.List.{take_min}
use Rattle.std.proofs.lemmas.Option.{slice_get_within}
use Rattle.bits_core.specs.declared.events.Side.{Side}
use Rattle.bits_core.specs.declared.events.Event.{Event}
use Rattle.bits_core.specs.declared.shapes.Shape.{Shape}
use Rattle.bits_core.specs.Lawful.{IsLawful}
use Rattle.register_core.specs.Row.{first_bits}
use Rattle.register_core.specs.Unary.{numbered_of, numbered_value}
use Rattle.register_core.specs.UnaryLaw.{IsScan, WritesUnary, count_write, count_begun, count_ended}
use Rattle.register_core.proofs.Numbers.{begun_rises, ended_rises}
use Rattle.register_core.proofs.LawLemmas.{unary_is_regular}
use Rattle.register_calls.specs.declared.events.Register.{Register}
use Rattle.register_calls.specs.declared.events.RegisterEvent.{RegisterEvent}
use Rattle.register_calls.specs.declared.events.RegisterEvent.TheVariants.{WriteBegins, WriteEnds, ReadBegins, ReadEnds}
use Rattle.register_calls.specs.Histories.{started, finished, written_values, before_read, IsWellFormed}
use Rattle.register_calls.specs.Classes.{IsOf, IsRegular}
use Rattle.register_calls.proofs.Endings.{finished-started}
use Rattle.register_calls.proofs.ReadLemmas.{finished-before_read, length-written}
use Rattle.register_calls.proofs.Sets.{get_left, get_end}
use Rattle.unary_recordings.specs.Recorded.{bit_writes_of, AreRecorded, NeverFalls, RecordedUnaryIsRegular}
use Rattle.unary_recordings.proofs.Numbering.{numbered_count, ends_count, begins_count, count_more, passes, value_at, first_shows}

module _ (s : Side) (h : List Event) (values : List ℕ) (at : ℕ → ℕ) where
  -- how many bit writes of the count had ended before a place
  abbrev bits_ended : ℕ → ℕ
  bits_ended place = length (count_ended s (take place h))

  bits_ended-rises : (p q : ℕ) → p ≤ q → bits_ended p ≤ bits_ended q
  bits_ended-rises p q le =
      let a = ap (λ (k : List Event). length (count_ended s k)) (take_min p h) in
      let b = ap (λ (k : List Event). length (count_ended s k)) (take_min q h) in
      let c = ended_rises (count_write s) s h (min p (length h)) (min q (length h)) (omega arith) (omega arith) in
      omega (arith, a, b, c)

  -- ---- the values that were written

  -- each recorded write has its value
  started_within : (x : List RegisterEvent) → AreRecorded s h values at x → started x ≤ length values
  started_within [] a = zero-le
  started_within (WriteBegins v ∷ x) a = slice_get_within values (started x) v a.1
  started_within (WriteEnds ∷ x) a = started_within x a.0
  started_within (ReadBegins i ∷ x) a = started_within x a.0
  started_within (ReadEnds i v ∷ x) a = started_within x a.0

  -- and they are the values in order
  written_are : (x : List RegisterEvent) → AreRecorded s h values at x → (k : ℕ) → k ≤ started x → slice_get (written_values 0 x) k ≡ slice_get (0 ∷ values) k
  written_are [] a zero within = refl
  written_are [] a (suc k) within = absurd (omega arith)
  written_are (WriteBegins v ∷ x) a k within =
      let long = length-written 0 x in
      elim (cases_lt k (suc (started x))) [
        | inl lt ↦ get_left (written_values 0 x) (v ∷ []) k (omega (arith, long)) ∙ written_are x a.0 k (omega arith)
        | inr ge ↦
            let same : k ≡ suc (started x) = omega arith in
            get_end (written_values 0 x) v k (omega (arith, long)) ∙ sym a.1 ∙ ap (slice_get (0 ∷ values)) (sym same)
      ]
  written_are (WriteEnds ∷ x) a k within = written_are x a.0 k within
  written_are (ReadBegins i ∷ x) a k within = written_are x a.0 k within
  written_are (ReadEnds i v ∷ x) a k within = written_are x a.0 k within

  -- ---- the writes that had ended

  module _ (rises : NeverFalls at) (r : Register) where
    -- the bit writes of the writes that finished have ended
    abbrev HasEnded : List RegisterEvent → Type 0
    HasEnded x = bit_writes_of values (finished x) ≤ bits_ended (at (length x))

    -- and at least as many have ended by the next event
    later : (n : ℕ) → bits_ended (at n) ≤ bits_ended (at (suc n))
    later n = bits_ended-rises (at n) (at (suc n)) (rises n (suc n) (omega arith))

    have_ended : (x : List RegisterEvent) → IsWellFormed r x → AreRecorded s h values at x → HasEnded x
    have_ended [] well a = zero-le
    have_ended (WriteBegins v ∷ x) well a = omega (arith, have_ended x well.0 a.0, later (length x))
    have_ended (WriteEnds ∷ x) well a =
        let turn : started x ≡ suc (finished x) = well.2 in
        omega (arith, ap (bit_writes_of values) turn, a.1, later (length x))
    have_ended (ReadBegins i ∷ x) well a = omega (arith, have_ended x well.0 a.0, later (length x))
    have_ended (ReadEnds i v ∷ x) well a = omega (arith, have_ended x well.0 a.0, later (length x))

    -- the same for one of two recordings, by a test
    either : (b : Bool) (x y : List RegisterEvent) → HasEnded x → HasEnded y → HasEnded (if b then x else y)
    either true x y p q = p
    either false x y p q = q

    -- those that had finished when a read began
    read_ended : (i : ℕ) (x : List RegisterEvent) → IsWellFormed r x → AreRecorded s h values at x → HasEnded (before_read i x)
    read_ended i [] well a = zero-le
    read_ended i (WriteBegins v ∷ x) well a = read_ended i x well.0 a.0
    read_ended i (WriteEnds ∷ x) well a = read_ended i x well.0 a.0
    read_ended i (ReadBegins j ∷ x) well a = either (i == j) x (before_read i x) (have_ended x well.0 a.0) (read_ended i x well.0 a.0)
    read_ended i (ReadEnds j v ∷ x) well a = read_ended i x well.0 a.0

    -- ---- a read

    module _ (shape : Shape) (lawful : IsLawful shape h) (writes : WritesUnary s h values) where
      -- one that ends after these events is of the write with the number found
      read_is_of :
          (i v : ℕ) (x : List RegisterEvent) → IsWellFormed r x → AreRecorded s h values at x →
          (start stop : ℕ → ℕ) → IsScan s h v start stop → at (length (before_read i x)) ≤ start 0 → stop v < at (length x) →
          length (count_begun s (take (at (length x)) h)) ≤ bit_writes_of values (started x) →
          (number : ℕ) × IsOf 0 (before_read i x) x v number
      read_is_of i v x well a start stop scan after before began =
          let f : ℕ = finished (before_read i x) in
          let g : ℕ = started x in
          let found = unary_is_regular shape h lawful s values writes v start stop scan in
          let low : numbered_count first_bits values f ≤ found.number =
          let t : ℕ = bits_ended (start 0) in
          let fits : bit_writes_of values f ≤ t = omega (arith, read_ended i x well a, bits_ended-rises (at (length (before_read i x))) (start 0) after) in
          omega (arith, ends_count values first_bits f t fits, found.not_overwritten) in
          let high : found.number ≤ numbered_count first_bits values g =
          let t : ℕ = length (count_begun s (take (stop v) h)) in
          let fits : t ≤ bit_writes_of values g = omega (arith, begun_rises (count_write s) h (stop v) (at (length x)) (omega arith), began) in
          omega (arith, begins_count values first_bits g t fits, found.has_begun) in
          let ordered : f ≤ g = omega (arith, finished-before_read i x, finished-started r x well) in
          let p = passes (numbered_count first_bits values) (count_more values first_bits) found.number (g - f) f g (omega arith) low high in
          let within : p.0 ≤ length values = omega (arith, p.2, started_within x a) in (
            p.0,
            (
              p.1,
              p.2,
              written_are x a p.0 p.2 ∙ value_at values p.0 0 first_bits within first_shows
                  ∙ ap (λ (n : ℕ). Some (numbered_value 0 (numbered_of values) n)) p.3 ∙ ap Some found.has_value,
            ),
          )

      regular : (x : List RegisterEvent) → IsWellFormed r x → AreRecorded s h values at x → IsRegular 0 x
      regular [] well a = tt
      regular (WriteBegins v ∷ x) well a = regular x well.0 a.0
      regular (WriteEnds ∷ x) well a = regular x well.0 a.0
      regular (ReadBegins i ∷ x) well a = regular x well.0 a.0
      regular (ReadEnds i v ∷ x) well a =
          let (start, stop, scan, after, before) = a.1 in
          (regular x well.0 a.0, read_is_of i v x well.0 a.0 start stop scan after before a.2)

pub recorded_is_regular : RecordedUnaryIsRegular
recorded_is_regular shape h lawful s values writes r first at rises recording well a =
    subst (λ (n : ℕ). IsRegular n recording) (sym first) (regular s h values at rises r shape lawful writes recording well a)
