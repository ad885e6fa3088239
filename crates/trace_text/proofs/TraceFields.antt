-- The parts of a line: what is read is at the front, and what is there is read again.
use Rattle.std.proofs.Common.{rules, ◌≡◌, ◌⊎◌, ℕ, ◌<◌, true, false, cond, Option, Some, None, List, [], ◌∷◌, ◌++◌, refl, ap, ◌∙◌, append_assoc, inl, inr, arith}
use Rattle.trace_text.proofs.Common.{codes, decimal, ◌==◌, Side, Bit, Act}
use Rattle.std.proofs.lemmas.Bool.{eqb-true, ltb-true}
use Rattle.std.proofs.lemmas.Bool.Decides.{nat_tests}
use Rattle.std.proofs.lemmas.Option.{cond_some, none-some, same_Some}
use Rattle.bits_core.specs.declared.events.Bit.TheVariants.{S, R, X, Cell}
use Rattle.bits_core.specs.declared.events.Act.TheVariants.{ReadBegin, ReadEnd, WriteBegin, WriteEnd}
use Rattle.trace_text.specs.declared.reading.ActWord.{ActWord}
use Rattle.trace_text.specs.declared.reading.ActWord.TheVariants.{Read, Got, Write, Wrote}
use Rattle.trace_text.specs.TraceText.{side_text, act_text, bit_text, value_text}
use Rattle.trace_text.specs.TraceReading.{◌>>=◌, or_else, named, side_at, word_at, short_number_at, index_at, cell_at, bit_at, act_at}
use Rattle.line_parts.proofs.TextReading.{after-text}
use Rattle.line_parts.proofs.NumberReading.{EndsDigits, number_at-text, number_at-again}

-- the value of a step that succeeded
pub bind_some : {A B : Type 0} (r : Option A) (f : A → Option B) (y : B) → (r >>= f) ≡ Some y → (x : A) × (r ≡ Some x) × (f x ≡ Some y)
bind_some r f y h1 = grind arith

pub or_else_some : {A : Type 0} (r s : Option A) (y : A) → or_else r s ≡ Some y → (r ≡ Some y) ⊎ (s ≡ Some y)
or_else_some r s y h1 = grind arith

-- the bytes are the text of a value, and then the rest
abbrev pub Begins : {A : Type 0} → (A → List ℕ) → List ℕ → A × List ℕ → Type 0
Begins text bytes x = bytes ≡ text x.0 ++ x.1

-- ---- texts

pub named-text : {A : Type 0} (v : A) (text bytes : List ℕ) (x : A × List ℕ) → named v text bytes ≡ Some x → (v ≡ x.0) × (bytes ≡ text ++ x.1)
named-text {A} v text bytes x e = grind (arith, after-text, bind_some, same_Some)

-- a value whose text is read by name
named-begins : {A : Type 0} (text : A → List ℕ) (v : A) (bytes : List ℕ) (x : A × List ℕ) → named v (text v) bytes ≡ Some x → Begins text bytes x
named-begins {A} text v bytes x e = grind (arith, named-text)

pub side_at-text : (bytes : List ℕ) (x : Side × List ℕ) → side_at bytes ≡ Some x → Begins side_text bytes x
side_at-text bytes x e = grind arith

-- the text of a word
abbrev pub word_text : ActWord → List ℕ
word_text Read = codes "read "
word_text Got = codes "got "
word_text Write = codes "write "
word_text Wrote = codes "wrote "

pub word_at-text : (bytes : List ℕ) (x : ActWord × List ℕ) → word_at bytes ≡ Some x → Begins word_text bytes x
word_at-text bytes x e =
    elim (or_else_some (named Read (codes "read ") bytes) _ x e) [
      | inl k ↦ named-begins word_text Read bytes x k
      | inr r ↦ elim (or_else_some (named Got (codes "got ") bytes) _ x r) [
        | inl k ↦ named-begins word_text Got bytes x k
        | inr q ↦ elim (or_else_some (named Write (codes "write ") bytes) (named Wrote (codes "wrote ") bytes) x q) [
          | inl k ↦ named-begins word_text Write bytes x k
          | inr k ↦ named-begins word_text Wrote bytes x k
        ]
      ]
    ]

pub word_at-again : (w : ActWord) (rest : List ℕ) → word_at (word_text w ++ rest) ≡ Some (w, rest)
word_at-again w rest = grind arith

-- ---- numbers

pub short_number_at-text : (bytes : List ℕ) (x : ℕ × List ℕ) → short_number_at bytes ≡ Some x → (bytes ≡ decimal x.0 ++ x.1) × (x.0 < 10000)
unfolding short_number_at
short_number_at-text bytes x e = grind (arith, bind_some, cond_some, ltb-true, number_at-text)

pub short_number_at-again : (n : ℕ) (rest : List ℕ) → n < 10000 → EndsDigits rest → short_number_at (decimal n ++ rest) ≡ Some (n, rest)
unfolding short_number_at
short_number_at-again n rest small ends = grind (arith, nat_tests, number_at-again)

-- ---- bits

index_at-text : (bytes : List ℕ) (x : ℕ × List ℕ) → index_at bytes ≡ Some x → Begins decimal bytes x
unfolding index_at
index_at-text bytes x e = grind (arith, bind_some, cond_some, number_at-text)

index_at-again : (n : ℕ) (rest : List ℕ) → n < 256 → EndsDigits rest → index_at (decimal n ++ rest) ≡ Some (n, rest)
unfolding index_at
index_at-again n rest small ends = grind (arith, nat_tests, number_at-again)

-- the indices of a bit are below 256
abbrev pub HasIndices : Bit → Type 0
HasIndices (S i) = i < 256
HasIndices (R i) = i < 256
HasIndices X = Unit {0}
HasIndices (Cell j i) = (j < 256) × (i < 256)

cell_at-text : (bytes : List ℕ) (x : Bit × List ℕ) → cell_at bytes ≡ Some x → codes "c" ++ bytes ≡ bit_text x.0 ++ x.1
unfolding cell_at
cell_at-text bytes x e = grind (arith, after-text, append_assoc, bind_some, index_at-text, same_Some)

cell_at-again : (j i : ℕ) (rest : List ℕ) → j < 256 → i < 256 → EndsDigits rest → cell_at ((decimal j ++ (codes "." ++ decimal i)) ++ rest) ≡ Some (Cell j i, rest)
unfolding cell_at
cell_at-again j i rest small_j small_i ends = grind (arith, append_assoc, index_at-again)

-- a letter, and the index after it
indexed : (make : ℕ → Bit) (bytes : List ℕ) (x : Bit × List ℕ) → (index_at bytes >>= λ i. Some (make i.0, i.1)) ≡ Some x → (i : ℕ) × (make i ≡ x.0) × (bytes ≡ decimal i ++ x.1)
indexed make bytes x e = grind (arith, bind_some, index_at-text, same_Some)

pub bit_at-text : (bytes : List ℕ) (x : Bit × List ℕ) → bit_at bytes ≡ Some x → Begins bit_text bytes x
unfolding bit_at
bit_at-text [] x e = absurd (none-some x e)
bit_at-text (b ∷ rest) x e =
    let goal : Type 0 = Begins bit_text (b ∷ rest) x in
    let letter : (l : ℕ) (text : List ℕ) → (b == l) ≡ true → l ∷ rest ≡ text → b ∷ rest ≡ text = λ l text t k. ap (λ (c : ℕ). c ∷ rest) (eqb-true b l t) ∙ k in
    elim (b == 115) as (λ t. (b == 115) ≡ t → cond t (index_at rest >>= λ i. Some (S i.0, i.1)) (cond (b == 114) (index_at rest >>= λ i. Some (R i.0, i.1)) (cond (b == 120) (Some (X, rest)) (cond (b == 99) (cell_at rest) None))) ≡ Some x → goal) [
      | true ↦ λ t k.
          let i = indexed S rest x k in
          letter 115 (bit_text x.0 ++ x.1) t (ap (λ (r : List ℕ). 115 ∷ r) i.2 ∙ ap (λ (c : Bit). bit_text c ++ x.1) i.1)
      | false ↦ λ _ k. elim (b == 114) as (λ t. (b == 114) ≡ t → cond t (index_at rest >>= λ i. Some (R i.0, i.1)) (cond (b == 120) (Some (X, rest)) (cond (b == 99) (cell_at rest) None)) ≡ Some x → goal) [
        | true ↦ λ t j.
            let i = indexed R rest x j in
            letter 114 (bit_text x.0 ++ x.1) t (ap (λ (r : List ℕ). 114 ∷ r) i.2 ∙ ap (λ (c : Bit). bit_text c ++ x.1) i.1)
        | false ↦ λ _ j. elim (b == 120) as (λ t. (b == 120) ≡ t → cond t (Some (X, rest)) (cond (b == 99) (cell_at rest) None) ≡ Some x → goal) [
          | true ↦ λ t i. letter 120 (bit_text x.0 ++ x.1) t (ap (λ (y : Bit × List ℕ). bit_text y.0 ++ y.1) (same_Some (X, rest) x i))
          | false ↦ λ _ i. elim (b == 99) as (λ t. (b == 99) ≡ t → cond t (cell_at rest) None ≡ Some x → goal) [
            | true ↦ λ t h. letter 99 (bit_text x.0 ++ x.1) t (cell_at-text rest x h)
            | false ↦ λ _ h. absurd (none-some x h)
          ] refl i
        ] refl j
      ] refl k
    ] refl e

pub bit_at-again : (b : Bit) (rest : List ℕ) → HasIndices b → EndsDigits rest → bit_at (bit_text b ++ rest) ≡ Some (b, rest)
unfolding bit_at
bit_at-again b rest h1 h2 = grind (arith, cell_at-again, index_at-again)

-- ---- acts

-- an act goes with its word, and its value comes after the bit
pub act_at-text : (w : ActWord) (bytes : List ℕ) (x : Act × List ℕ) → act_at w bytes ≡ Some x → (word_text w ≡ act_text x.0) × Begins value_text bytes x
unfolding act_at
act_at-text w bytes x h1 = search (rules, bind_some, same_Some)

-- the word of an act
abbrev pub word_of : Act → ActWord
word_of ReadBegin = Read
word_of (ReadEnd v) = Got
word_of (WriteBegin v) = Write
word_of WriteEnd = Wrote

pub act_at-again : (a : Act) (rest : List ℕ) → act_at (word_of a) (value_text a ++ rest) ≡ Some (a, rest)
unfolding act_at
act_at-again a rest = grind arith

pub act_word : (a : Act) → act_text a ≡ word_text (word_of a)
act_word a = grind arith
