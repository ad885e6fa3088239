-- Which writes a read may be of: by their numbers and by intervals these are the same.
use Rattle.std.proofs.Common.{◌≡◌, inl, inr, ℕ, zero, suc, ◌≤◌, Some, List, [], ◌∷◌, length, refl, ap, sym, subst, ◌∙◌, arith}
use Rattle.std.specs.Prelude.{slice_get}
use Rattle.register_calls.proofs.Common.{cases_lt, same_Some, Register, RegisterEvent, WriteBegins, started, finished, written_values, IsWellFormed, IsBeginning, IsOf}
use Rattle.register_calls.specs.Intervals.{IsWriteFrom, WriteHasEnded, WriteOverlaps, MayBeOf}
use Rattle.register_calls.proofs.Sets.{get_left}
use Rattle.register_calls.proofs.ReadLemmas.{length-written}
use Rattle.register_calls.proofs.Places.{placed_event-before, placed_event-within, code, code-zero, code-later, code-le, stands, IsNumbered, numbered}
use Rattle.register_calls.proofs.Endings.{finished-started}
use Rattle.register_calls.proofs.Beginnings.{started-beginning, formed-beginning, is_few, is_ended}

written-zero : (first : ℕ) (h : List RegisterEvent) → slice_get (written_values first h) 0 ≡ Some first
written-zero first [] = refl
written-zero first (e ∷ b) = grind (arith, get_left, length-written, (written-zero first b))

-- no write overlaps what is between these places
abbrev pub IsQuiet : List RegisterEvent → (start stop : ℕ) → Type 0
IsQuiet h start stop = (w u : ℕ) → IsWriteFrom h u w → ¬ WriteOverlaps h w start stop

module _ (first : ℕ) (r : Register) (s b : List RegisterEvent) (part : IsBeginning s b) (formed : IsWellFormed r b) where
  -- a write that had ended there is no later than one that the read may be of
  pub of_places : (v n : ℕ) → IsOf first s b v n → MayBeOf first b (length s) (length b) v (code b n)
  of_places v zero is =
      subst (λ (k : ℕ). MayBeOf first b (length s) (length b) v k) (sym (code-zero b)) (
        same_Some v first (sym is.2 ∙ written-zero first b),
        λ w u write ends. (
            let (m, num) = numbered first b u w write in
            let k = is_few s r b w m formed part num.few num.coded ends num.some in
            let l = num.some in let o = is.0 in omega (arith, k, l, o)),
      )
  of_places v (suc n) is =
      let (w, st) = stands first b (suc n) (omega arith) is.1 in
      let value : st.value ≡ v = same_Some st.value v (sym st.there ∙ is.2) in
      subst (λ (k : ℕ). MayBeOf first b (length s) (length b) v k) (sym st.coded) (
        subst (λ (u : ℕ). IsWriteFrom b u w) value st.write,
        st.within,
        λ w' u write ends. (
            let (m, num) = numbered first b u w' write in
            let k = is_few s r b w' m formed part num.few num.coded ends num.some in
            let o = is.0 in
            let l = code-le b m (suc n) (omega (arith, k, o)) is.1 in
            let p = num.coded in let q = st.coded in omega (arith, l, p, q)),
      )

  pub of_coded : (v k : ℕ) → MayBeOf first b (length s) (length b) v k → (n : ℕ) × (code b n ≡ k) × IsOf first s b v n
  of_coded v zero is = (0, code-zero b, (few, omega arith, written-zero first b ∙ ap Some (sym is.0)))
    where
      few : finished s ≤ 0
      few = elim (cases_lt 0 (finished s)) [
        | inl some ↦
            let e = finished-started r s (formed-beginning s r b part formed) in
            let g = started-beginning s b part in
            let (w, st) = stands first b 1 (omega arith) (omega (arith, e, g, some)) in
            absurd (is.1 w st.value st.write (is_ended s r b w 1 formed part (omega arith) (omega (arith, some)) st.coded))
        | inr none ↦ none
      ]
  of_coded v (suc w) is =
      let (n, num) = numbered first b v w is.0 in
      (n, num.coded, (late n num, num.few, num.there))
    where
      late : (n : ℕ) → IsNumbered first b v w n → finished s ≤ n
      late n num = elim (cases_lt n (finished s)) [
        | inl more ↦
            let e = finished-started r s (formed-beginning s r b part formed) in
            let g = started-beginning s b part in
            let few : suc n ≤ started b = omega (arith, e, g, more) in
            let (w', st) = stands first b (suc n) (omega arith) few in
            let ends = is_ended s r b w' (suc n) formed part (omega arith) (omega (arith, more)) st.coded in
            let k = is.2 w' st.value st.write ends in
            let l = code-later b n (suc n) (omega arith) few in
            let p = num.coded in let q = st.coded in absurd (omega (arith, k, l, p, q))
        | inr none ↦ none
      ]

  pub of_numbers : (v k : ℕ) → MayBeOf first b (length s) (length b) v k → (n : ℕ) × IsOf first s b v n
  of_numbers v k may = let found = of_coded v k may in (found.0, found.2)

  -- no write overlaps the read exactly when the writes that had ended are those that have begun
  pub quiet_places : finished s ≡ started b → IsQuiet b (length s) (length b)
  quiet_places quiet w u write over =
      let (m, num) = numbered first b u w write in
      over.1 (is_ended s r b w m formed part num.some (let k = num.few in omega (arith, k, quiet)) num.coded)

  pub quiet_numbers : IsQuiet b (length s) (length b) → finished s ≡ started b
  quiet_numbers none =
      let e = finished-started r s (formed-beginning s r b part formed) in
      let g = started-beginning s b part in
      elim (cases_lt (finished s) (started b)) [
        | inl less ↦
            let (w, st) = stands first b (started b) (omega (arith, less)) (omega arith) in
            absurd (none w st.value st.write (
              st.within,
              λ ends. (let k = is_few s r b w (started b) formed part (omega arith) st.coded ends (omega (arith, less)) in omega (arith, k, less)),
            ))
        | inr ge ↦ omega (arith, e, g, ge)
      ]

  -- and if none does, it is of the last one
  pub of_quiet : finished s ≡ started b → (v n : ℕ) → IsOf first s b v n → IsOf first s b v (started b)
  of_quiet quiet v n is = grind arith

-- with one more event, what was before it is unchanged
module _ (e : RegisterEvent) (b : List RegisterEvent) where
  pub ends_more : (w place : ℕ) → place ≤ length b → WriteHasEnded b w place → WriteHasEnded (e ∷ b) w place
  ends_more w place le (q, after, before, is) = (q, after, before, placed_event-before e b q (omega (arith, before, le)) ∙ is)

  pub may_more : (first start stop v k : ℕ) → start ≤ length b → stop ≤ length b → MayBeOf first b start stop v k → MayBeOf first (e ∷ b) start stop v k
  may_more first start stop v k h1 h2 h3 = grind arith

  pub may_less : (first start stop v k : ℕ) → start ≤ length b → stop ≤ length b → MayBeOf first (e ∷ b) start stop v k → MayBeOf first b start stop v k
  may_less first start stop v zero p q is =
      (is.0, λ w u write ends. (let (x, after, before, z) = ends in is.1 w u (placed_event-before e b w (omega (arith, p, after, before)) ∙ write) (ends_more w start p ends)))
  may_less first start stop v (suc w) p q is = (
    sym (placed_event-before e b w (let k = is.1 in omega (arith, k, q))) ∙ is.0,
    is.1,
    λ w' u write ends. (let (x, after, before, z) = ends in is.2 w' u (placed_event-before e b w' (omega (arith, p, after, before)) ∙ write) (ends_more w' start p ends)),
  )

  pub quiet_less : (start stop : ℕ) → start ≤ length b → IsQuiet (e ∷ b) start stop → IsQuiet b start stop
  quiet_less start stop le none w u write over = grind (arith, (placed_event-before e b w (placed_event-within b w (WriteBegins u) write)), (placed_event-within b w (WriteBegins u) write), placed_event-before, over.0, over.1)

  pub quiet_more : (start stop : ℕ) → start ≤ length b → stop ≤ length b → IsQuiet b start stop → IsQuiet (e ∷ b) start stop
  quiet_more start stop le within none w u write over = grind arith
