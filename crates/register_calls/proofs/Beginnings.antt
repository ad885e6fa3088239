-- A history and a prefix of it; and the read that a reader has under way.
use Rattle.std.proofs.Common.{◌≡◌, inl, inr, ℕ, suc, ◌≤◌, ◌<◌, true, false, Some, List, [], ◌∷◌, length, refl, ap, sym, subst, ◌∙◌, arith}
use Rattle.register_calls.proofs.Common.{cases_lt, eqb_tells, Register, RegisterEvent, WriteBegins, WriteEnds, ReadBegins, ReadEnds, started, finished, has_read_open, before_read, IsBeginning}
use Rattle.register_calls.proofs.Common.{IsWellFormed}
use Rattle.register_calls.specs.Intervals.{placed_event, IsWriteFrom, WriteHasEnded, IsOfReader, IsReadFrom}
use Rattle.register_calls.proofs.ReadLemmas.{before_read-begin, before_read-other, read_open-begin_other, read_open-end, read_open-end_other}
use Rattle.register_calls.proofs.Places.{placed_event-here, placed_event-before, placed_event-within, code, code-less, stands, code-one, numbered}
use Rattle.register_calls.proofs.Endings.{finished-started, few_ended, all_ended}

pub beginning_all : (h : List RegisterEvent) → IsBeginning h h
beginning_all [] = refl
beginning_all (e ∷ b) = inl refl

pub beginning_tail : (e : RegisterEvent) (b h : List RegisterEvent) → IsBeginning (e ∷ b) h → IsBeginning b h
beginning_tail e b [] is = absurd cc
beginning_tail e b (f ∷ c) (inl is) = let same : b ≡ c = cc in inr (subst (λ (z : List RegisterEvent). IsBeginning b z) same (beginning_all b))
beginning_tail e b (f ∷ c) (inr is) = inr (beginning_tail e b c is)

pub beginning_in : (s b h : List RegisterEvent) → IsBeginning s b → IsBeginning b h → IsBeginning s h
beginning_in s b [] is that = subst (λ (z : List RegisterEvent). IsBeginning s z) that is
beginning_in s b (e ∷ c) is (inl that) = subst (λ (z : List RegisterEvent). IsBeginning s z) that is
beginning_in s b (e ∷ c) is (inr that) = inr (beginning_in s b c is that)

pub before_read-beginning : (i : ℕ) (h : List RegisterEvent) → IsBeginning (before_read i h) h
before_read-beginning i [] = refl
before_read-beginning i (e ∷ b) = grind (arith, beginning_all, (before_read-beginning i b))

-- what a history has of such a prefix
module _ (s : List RegisterEvent) where
  pub length-beginning : (h : List RegisterEvent) → IsBeginning s h → length s ≤ length h
  length-beginning [] is = let k = ap length is in omega (arith, k)
  length-beginning (e ∷ b) (inl is) = let k = ap length is in omega (arith, k)
  length-beginning (e ∷ b) (inr is) = let k = length-beginning b is in omega (arith, k)

  pub placed_event-beginning : (h : List RegisterEvent) (p : ℕ) → IsBeginning s h → p < length s → placed_event h p ≡ placed_event s p
  placed_event-beginning [] p is lt = ap (λ (z : List RegisterEvent). placed_event z p) (sym is)
  placed_event-beginning (e ∷ b) p (inl is) lt = ap (λ (z : List RegisterEvent). placed_event z p) (sym is)
  placed_event-beginning (e ∷ b) p (inr is) lt = placed_event-before e b p (let k = length-beginning b is in omega (arith, k, lt)) ∙ placed_event-beginning b p is lt

  pub started-beginning : (h : List RegisterEvent) → IsBeginning s h → started s ≤ started h
  started-beginning [] is = let k = ap started is in omega (arith, k)
  started-beginning (e ∷ b) (inl is) = let k = ap started is in omega (arith, k)
  started-beginning (WriteBegins v ∷ b) (inr is) = let k = started-beginning b is in omega (arith, k)
  started-beginning (WriteEnds ∷ b) (inr is) = started-beginning b is
  started-beginning (ReadBegins i ∷ b) (inr is) = started-beginning b is
  started-beginning (ReadEnds i v ∷ b) (inr is) = started-beginning b is

  pub code-beginning : (h : List RegisterEvent) (n : ℕ) → IsBeginning s h → n ≤ started s → code h n ≡ code s n
  code-beginning [] n is le = ap (λ (z : List RegisterEvent). code z n) (sym is)
  code-beginning (e ∷ b) n (inl is) le = ap (λ (z : List RegisterEvent). code z n) (sym is)
  code-beginning (WriteBegins v ∷ b) n (inr is) le = code-less v b n (let k = started-beginning b is in omega (arith, k, le)) ∙ code-beginning b n is le
  code-beginning (WriteEnds ∷ b) n (inr is) le = code-beginning b n is le
  code-beginning (ReadBegins i ∷ b) n (inr is) le = code-beginning b n is le
  code-beginning (ReadEnds i v ∷ b) n (inr is) le = code-beginning b n is le

  pub formed-beginning : (r : Register) (h : List RegisterEvent) → IsBeginning s h → IsWellFormed r h → IsWellFormed r s
  formed-beginning r [] is formed = subst (λ (z : List RegisterEvent). IsWellFormed r z) (sym is) formed
  formed-beginning r (e ∷ b) (inl is) formed = subst (λ (z : List RegisterEvent). IsWellFormed r z) (sym is) formed
  formed-beginning r (e ∷ b) (inr is) formed = formed-beginning r b is formed.0

  ends_there : (h : List RegisterEvent) (w : ℕ) → IsBeginning s h → WriteHasEnded h w (length s) → WriteHasEnded s w (length s)
  ends_there h w is (q, after, before, end) = (q, after, before, sym (placed_event-beginning h q is before) ∙ end)

  ends_here : (h : List RegisterEvent) (w : ℕ) → IsBeginning s h → WriteHasEnded s w (length s) → WriteHasEnded h w (length s)
  ends_here h w is (q, after, before, end) = (q, after, before, placed_event-beginning h q is before ∙ end)

  -- the writes that had ended there, by their numbers
  pub is_few : (r : Register) (h : List RegisterEvent) (w n : ℕ) → IsWellFormed r h → IsBeginning s h → n ≤ started h → code h n ≡ suc w → WriteHasEnded h w (length s) → 0 < n → n ≤ finished s
  is_few r h w n formed is few coded ends some =
      let (p, st) = stands 0 h n some few in
      let same : p ≡ w = (let k = sym st.coded ∙ coded in omega (arith, k)) in
      let early : w < length s = (let (q, after, before, end) = ends in omega (arith, after, before)) in
      let write : IsWriteFrom s st.value w = sym (placed_event-beginning h w is early) ∙ subst (λ (k : ℕ). IsWriteFrom h st.value k) same st.write in
      let (m, num) = numbered 0 s st.value w write in
      let one : m ≡ n = code-one h m n (let k = started-beginning h is in let l = num.few in omega (arith, k, l)) few (code-beginning h m is num.few ∙ num.coded ∙ sym coded) in
      let fine : n ≤ started s = (let l = num.few in omega (arith, one, l)) in
      few_ended r s w n (formed-beginning r h is formed) fine (sym (code-beginning h n is fine) ∙ coded) (ends_there h w is ends)

  pub is_ended : (r : Register) (h : List RegisterEvent) (w n : ℕ) → IsWellFormed r h → IsBeginning s h → 0 < n → n ≤ finished s → code h n ≡ suc w → WriteHasEnded h w (length s)
  is_ended r h w n formed is some few coded =
      let mine = formed-beginning r h is formed in
      let le = finished-started r s mine in
      ends_here h w is (all_ended r s w n mine some few (sym (code-beginning h n is (omega (arith, le, few))) ∙ coded))

-- a reader's read under way began at this place, and no event of the reader has come since
pub record Began (i : ℕ) (h : List RegisterEvent) (start : ℕ) : Type 0 where
  pub begins : placed_event h start ≡ Some (ReadBegins i)
  pub within : start < length h
  pub none : (p : ℕ) → start < p → p < length h → ¬ IsOfReader i (placed_event h p)

-- one more event, which is not the reader's
began_still : (i : ℕ) (e : RegisterEvent) (b : List RegisterEvent) (start : ℕ) → ¬ IsOfReader i (Some e) → Began i b start → Began i (e ∷ b) start
began_still i e b start other began = grind arith

pub reading_began : (i : ℕ) (h : List RegisterEvent) → has_read_open i h ≡ true → Began i h (length (before_read i h))
reading_began i [] is = absurd cc
reading_began i (WriteBegins v ∷ b) is = began_still i (WriteBegins v) b (length (before_read i b)) (λ k. k) (reading_began i b is)
reading_began i (WriteEnds ∷ b) is = began_still i WriteEnds b (length (before_read i b)) (λ k. k) (reading_began i b is)
reading_began i (ReadBegins j ∷ b) is = elim (eqb_tells i j) [
  | inl same ↦
      let all : length (before_read i (ReadBegins j ∷ b)) ≡ length b = ap (λ (k : ℕ). length (before_read k (ReadBegins j ∷ b))) same.1 ∙ ap length (before_read-begin j b) in
      subst (λ (k : ℕ). Began i (ReadBegins j ∷ b) k) (sym all) (record {
        begins = placed_event-here (ReadBegins j) b ∙ ap (λ (k : ℕ). Some (ReadBegins k)) (sym same.1);
        within = omega arith;
        none = (λ p after before. absurd (omega (arith, after, before)));
      })
  | inr apart ↦
      subst (λ (k : ℕ). Began i (ReadBegins j ∷ b) k) (ap length (sym (before_read-other j i b apart.1)))
      (began_still i (ReadBegins j) b (length (before_read i b)) (λ k. apart.1 k) (reading_began i b (sym (read_open-begin_other j i b apart.1) ∙ is)))
]
reading_began i (ReadEnds j v ∷ b) is = elim (eqb_tells i j) [
  | inl same ↦ (let never : false ≡ true = sym (read_open-end j v b) ∙ ap (λ (k : ℕ). has_read_open k (ReadEnds j v ∷ b)) (sym same.1) ∙ is in absurd cc)
  | inr apart ↦ began_still i (ReadEnds j v) b (length (before_read i b)) (λ k. apart.1 k) (reading_began i b (sym (read_open-end_other j i v b apart.1) ∙ is))
]

-- the event that ends it makes a read of it, from there
pub read_there : (i v : ℕ) (b : List RegisterEvent) (start : ℕ) → Began i b start → IsReadFrom (ReadEnds i v ∷ b) i start (length b) v
read_there i v b start began = grind arith

-- a read of a history is one of the history with one more event, and vice versa
pub read_still : (i start stop v : ℕ) (e : RegisterEvent) (b : List RegisterEvent) → IsReadFrom b i start stop v → IsReadFrom (e ∷ b) i start stop v
read_still i start stop v e b is = grind (arith, placed_event-before, placed_event-within)

pub read_before : (i start stop v : ℕ) (e : RegisterEvent) (b : List RegisterEvent) → stop < length b → IsReadFrom (e ∷ b) i start stop v → IsReadFrom b i start stop v
read_before i start stop v e b within is = grind (arith, placed_event-before)

-- a read that ends with the last event is of its reader and its value, and began with the reader's read under way
pub record IsLastRead (b : List RegisterEvent) (j u i start stop v : ℕ) : Type 0 where
  pub reader : i ≡ j
  pub from : start ≡ length (before_read j b)
  pub to : stop ≡ length b
  pub value : v ≡ u

pub last_read : (b : List RegisterEvent) (j u i start stop v : ℕ) → has_read_open j b ≡ true → stop ≡ length b → ReadEnds j u ≡ ReadEnds i v → IsReadFrom (ReadEnds j u ∷ b) i start stop v → IsLastRead b j u i start stop v
last_read b j u i start stop v under_way place event is = grind (arith, (reading_began j b under_way), cases_lt, placed_event-before)

-- so what holds for that one holds for it
pub of_last : (b : List RegisterEvent) (j u i start stop v : ℕ) (P : ℕ → ℕ → ℕ → Type 0) → IsLastRead b j u i start stop v → P (length (before_read j b)) (length b) u → P start stop v
of_last b j u i start stop v P last p = grind arith
