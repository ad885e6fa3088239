-- Events at their places, and writes by place and by number.
use Rattle.std.proofs.Common.{◌≡◌, ◌≢◌, ◌⊎◌, inl, inr, ℕ, suc, ◌≤◌, ◌<◌, Some, List, [], ◌∷◌, ◌++◌, length, refl, ap, sym, subst, ◌∙◌, arith}
use Rattle.std.specs.Prelude.{◌==◌, if◌then◌else◌, slice_get}
use Rattle.register_calls.proofs.Common.{eq-eqb, ne_eqb, cases_lt, eqb_tells, none-some, same_Some, RegisterEvent, WriteBegins, WriteEnds, ReadBegins, ReadEnds, started, written_values, placed_event}
use Rattle.register_calls.proofs.Common.{IsWriteFrom}
use Rattle.register_calls.proofs.ReadLemmas.{chosen, left, length-written}
use Rattle.register_calls.proofs.Sets.{get_left, get_end}

-- a choice by a test that is known
pub placed_event-here : (e : RegisterEvent) (b : List RegisterEvent) → placed_event (e ∷ b) (length b) ≡ Some e
placed_event-here e b = chosen (length b == length b) (Some e) (placed_event b (length b)) (eq-eqb (length b) (length b) refl)

pub placed_event-before : (e : RegisterEvent) (b : List RegisterEvent) (p : ℕ) → p < length b → placed_event (e ∷ b) p ≡ placed_event b p
placed_event-before e b p lt = left (p == length b) (Some e) (placed_event b p) (let apart : p ≢ length b = omega arith in ne_eqb p (length b) apart)

pub placed_event-within : (h : List RegisterEvent) (p : ℕ) (e : RegisterEvent) → placed_event h p ≡ Some e → p < length h
placed_event-within [] p e is = absurd (none-some e is)
placed_event-within (f ∷ b) p e is = elim (eqb_tells p (length b)) [
  | inl same ↦ (let k = same.1 in omega arith)
  | inr apart ↦ (let k = placed_event-within b p e (sym (left (p == length b) (Some f) (placed_event b p) apart.0) ∙ is) in omega arith)
]

-- the last event, or one before it
pub placed_event-cases : (e : RegisterEvent) (b : List RegisterEvent) (p : ℕ) (f : RegisterEvent) → placed_event (e ∷ b) p ≡ Some f → ((p ≡ length b) × (e ≡ f)) ⊎ ((p < length b) × (placed_event b p ≡ Some f))
placed_event-cases e b p f is = grind (arith, chosen, eqb_tells, left, placed_event-within, same_Some)

-- the code of a write, by its number: 0 for the first value, otherwise suc of the place where it begins
abbrev pub code : List RegisterEvent → (number : ℕ) → ℕ
code [] n = 0
code (WriteBegins v ∷ b) n = if n == suc (started b) then suc (length b) else code b n
code (WriteEnds ∷ b) n = code b n
code (ReadBegins i ∷ b) n = code b n
code (ReadEnds i v ∷ b) n = code b n

-- the write with this number begins at this place, with its value
pub record Stands (first : ℕ) (h : List RegisterEvent) (n w : ℕ) : Type 0 where
  pub value : ℕ
  pub coded : code h n ≡ suc w
  pub within : w < length h
  pub write : IsWriteFrom h value w
  pub there : slice_get (written_values first h) n ≡ Some value

pub code-last : (v : ℕ) (b : List RegisterEvent) → code (WriteBegins v ∷ b) (suc (started b)) ≡ suc (length b)
code-last v b = chosen (suc (started b) == suc (started b)) (suc (length b)) (code b (suc (started b))) (eq-eqb (suc (started b)) (suc (started b)) refl)

pub code-less : (v : ℕ) (b : List RegisterEvent) (n : ℕ) → n ≤ started b → code (WriteBegins v ∷ b) n ≡ code b n
code-less v b n le = left (n == suc (started b)) (suc (length b)) (code b n) (let apart : n ≢ suc (started b) = omega arith in ne_eqb n (suc (started b)) apart)

pub code-zero : (h : List RegisterEvent) → code h 0 ≡ 0
code-zero [] = refl
code-zero (e ∷ b) = grind (arith, (code-zero b))

-- again, since this crate does not depend on registers of bits
le_cases : (n m : ℕ) → n ≤ suc m → (n ≡ suc m) ⊎ (n ≤ m)
le_cases n m le = grind arith

-- each write that has begun has its place
pub stands : (first : ℕ) (h : List RegisterEvent) (n : ℕ) → 0 < n → n ≤ started h → (w : ℕ) × Stands first h n w
stands first [] n some le = absurd (omega arith)
stands first (WriteBegins v ∷ b) n some le = elim (le_cases n (started b) le) [
  | inl last ↦ (
    length b,
    record {
      value = v;
      coded = ap (code (WriteBegins v ∷ b)) last ∙ code-last v b;
      within = omega arith;
      write = placed_event-here (WriteBegins v) b;
      there = get_end (written_values first b) v n (last ∙ sym (length-written first b));
    },
  )
  | inr less ↦
      let (w, s) = stands first b n some less in (
        w,
        record {
          value = s.value;
          coded = code-less v b n less ∙ s.coded;
          within = (let k = s.within in omega arith);
          write = placed_event-before (WriteBegins v) b w s.within ∙ s.write;
          there = get_left (written_values first b) (v ∷ []) n (let k = length-written first b in omega arith) ∙ s.there;
        },
      )
]
stands first (WriteEnds ∷ b) n some le = let (w, s) = stands first b n some le in (w, record { value = s.value; coded = s.coded; within = (let k = s.within in omega arith); write = placed_event-before WriteEnds b w s.within ∙ s.write; there = s.there })
stands first (ReadBegins i ∷ b) n some le = let (w, s) = stands first b n some le in (w, record { value = s.value; coded = s.coded; within = (let k = s.within in omega arith); write = placed_event-before (ReadBegins i) b w s.within ∙ s.write; there = s.there })
stands first (ReadEnds i v ∷ b) n some le = let (w, s) = stands first b n some le in (w, record { value = s.value; coded = s.coded; within = (let k = s.within in omega arith); write = placed_event-before (ReadEnds i v) b w s.within ∙ s.write; there = s.there })

pub code-within : (h : List RegisterEvent) (n : ℕ) → n ≤ started h → code h n ≤ length h
code-within [] n le = omega arith
code-within (WriteBegins v ∷ b) n le = elim (le_cases n (started b) le) [
  | inl last ↦ (let k = ap (code (WriteBegins v ∷ b)) last ∙ code-last v b in omega (arith, k))
  | inr less ↦ (let k = code-less v b n less in let l = code-within b n less in omega (arith, k, l))
]
code-within (WriteEnds ∷ b) n le = let l = code-within b n le in omega (arith, l)
code-within (ReadBegins i ∷ b) n le = let l = code-within b n le in omega (arith, l)
code-within (ReadEnds i v ∷ b) n le = let l = code-within b n le in omega (arith, l)

-- a later write has a later place
pub code-later : (h : List RegisterEvent) (m n : ℕ) → m < n → n ≤ started h → code h m < code h n
code-later [] m n lt le = absurd (omega arith)
code-later (WriteBegins v ∷ b) m n lt le = elim (le_cases n (started b) le) [
  | inl last ↦
      let k = ap (code (WriteBegins v ∷ b)) last ∙ code-last v b in
      let l = code-less v b m (omega arith) in
      let o = code-within b m (omega arith) in
      omega (arith, k, l, o)
  | inr less ↦ (let k = code-less v b n less in let l = code-less v b m (omega arith) in let o = code-later b m n lt less in omega (arith, k, l, o))
]
code-later (WriteEnds ∷ b) m n lt le = code-later b m n lt le
code-later (ReadBegins i ∷ b) m n lt le = code-later b m n lt le
code-later (ReadEnds i v ∷ b) m n lt le = code-later b m n lt le

pub code-le : (h : List RegisterEvent) (m n : ℕ) → m ≤ n → n ≤ started h → code h m ≤ code h n
code-le h m n le few = grind (arith, cases_lt, code-later)

-- no two writes have the same place
pub code-one : (h : List RegisterEvent) (m n : ℕ) → m ≤ started h → n ≤ started h → code h m ≡ code h n → m ≡ n
code-one h m n p q same = grind (arith, cases_lt, code-later)

-- a write that begins at a place has a number
pub record IsNumbered (first : ℕ) (h : List RegisterEvent) (v w n : ℕ) : Type 0 where
  pub some : 0 < n
  pub few : n ≤ started h
  pub coded : code h n ≡ suc w
  pub there : slice_get (written_values first h) n ≡ Some v

pub numbered : (first : ℕ) (h : List RegisterEvent) (v w : ℕ) → IsWriteFrom h v w → (n : ℕ) × IsNumbered first h v w n
numbered first [] v w is = absurd (none-some (WriteBegins v) is)
numbered first (WriteBegins u ∷ b) v w is = elim (placed_event-cases (WriteBegins u) b w (WriteBegins v) is) [
  | inl here ↦
      let same : u ≡ v = (let k = here.1 in cc) in (
        suc (started b),
        record {
          some = omega arith;
          few = omega arith;
          coded = code-last u b ∙ ap suc (sym here.0);
          there = subst (λ (z : ℕ). slice_get (written_values first b ++ u ∷ []) (suc (started b)) ≡ Some z) same (get_end (written_values first b) u (suc (started b)) (sym (length-written first b)));
        },
      )
  | inr before ↦
      let (n, s) = numbered first b v w before.1 in (
        n,
        record {
          some = s.some;
          few = (let k = s.few in omega arith);
          coded = code-less u b n s.few ∙ s.coded;
          there = get_left (written_values first b) (u ∷ []) n (let k = length-written first b in let l = s.few in omega arith) ∙ s.there;
        },
      )
]
numbered first (WriteEnds ∷ b) v w is = elim (placed_event-cases WriteEnds b w (WriteBegins v) is) [
  | inl here ↦ (let k = here.1 in absurd cc)
  | inr before ↦ (let (n, s) = numbered first b v w before.1 in (n, record { some = s.some; few = s.few; coded = s.coded; there = s.there }))
]
numbered first (ReadBegins i ∷ b) v w is = elim (placed_event-cases (ReadBegins i) b w (WriteBegins v) is) [
  | inl here ↦ (let k = here.1 in absurd cc)
  | inr before ↦ (let (n, s) = numbered first b v w before.1 in (n, record { some = s.some; few = s.few; coded = s.coded; there = s.there }))
]
numbered first (ReadEnds i u ∷ b) v w is = elim (placed_event-cases (ReadEnds i u) b w (WriteBegins v) is) [
  | inl here ↦ (let k = here.1 in absurd cc)
  | inr before ↦ (let (n, s) = numbered first b v w before.1 in (n, record { some = s.some; few = s.few; coded = s.coded; there = s.there }))
]
