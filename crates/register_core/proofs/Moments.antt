-- The bits of a row at each moment, and the unary write that each change of a bit is of.
use Rattle.std.proofs.Common.{◌≡◌, ℕ, zero, suc, ◌+◌, ◌-◌, ◌<◌, ◌≤◌, Bool, true, false, cond, not, List, [], ◌∷◌, ◌++◌, length, take, leb, refl, sym, ap, subst, arith, zero-le, suc-le-suc, ◌∙◌, ◌⊎◌, inl, inr}
use Rattle.register_core.proofs.Common.{nat_tests, RowWrite, bits_with, bits_after}
use Rattle.std.proofs.lemmas.Bool.{cases_lt, leb-true}
use Rattle.std.proofs.Math.Seq.{take-append-add}
use Rattle.register_core.specs.Unary.{UnaryWrite, unary_writes, row_writes, having_writes, numbered_value, ended, begun_writes}
use Rattle.register_core.proofs.Rows.{bits_after-append}
use Rattle.register_core.proofs.Phrase.{Shows, Allowed, Run, phrase-run}

-- unary writes that each have a bit write, over bits that show v
abbrev pub Chain : ℕ → (ℕ → Bool) → List UnaryWrite → Type 0
Chain v bits [] = Shows v bits
Chain v bits (u ∷ us) =
    Shows v bits × Run u.value bits u.writes × (0 < length u.writes) × Chain u.value (bits_after bits u.writes) us

pub Run-shows : (v : ℕ) (bits : ℕ → Bool) (writes : List RowWrite) → Run v bits writes → Shows v (bits_after bits writes)
Run-shows v bits [] run = run
Run-shows v bits (w ∷ writes) run = Run-shows v (bits_with bits w) writes run.1

pub numbered-chain :
    (values : List ℕ) (v : ℕ) (bits : ℕ → Bool) → Shows v bits → Chain v bits (having_writes (unary_writes bits values))
numbered-chain [] v bits shows = shows
numbered-chain (w ∷ values) v bits shows = grind (arith, Run-shows, phrase-run, (numbered-chain values))

numbered_writes : (w : ℕ) (writes : List RowWrite) (us : List UnaryWrite) →
    row_writes (having_writes us) ≡ row_writes us →
    row_writes (having_writes (record { value = w; writes = writes } ∷ us)) ≡ writes ++ row_writes us
numbered_writes w writes us h1 = grind arith

-- the numbered unary writes have all the bit writes
pub row_writes-numbered : (us : List UnaryWrite) → row_writes (having_writes us) ≡ row_writes us
row_writes-numbered [] = refl
row_writes-numbered (u ∷ us) = numbered_writes u.value u.writes us (row_writes-numbered us)

-- the bits after the first t bit writes of these unary writes
abbrev pub bits_of : (ℕ → Bool) → List UnaryWrite → ℕ → ℕ → Bool
bits_of bits us t = bits_after bits (take t (row_writes us))

-- the facts about a write that changed bit i from x
pub record Changes (v : ℕ) (bits : ℕ → Bool) (i : ℕ) (x : Bool) : Type 0 where
  pub write : RowWrite
  pub place : i ≡ write.bit
  pub value : write.value ≡ not x
  pub allowed : Allowed v bits write

pub differs : (x : Bool) → x ≡ not x → ⊥
differs x h1 = grind arith

pub is_or_not : (b x : Bool) → (b ≡ x) ⊎ (b ≡ not x)
is_or_not b x = grind arith

changed : (bits : ℕ → Bool) (w : RowWrite) (i : ℕ) (x : Bool) → bits i ≡ x → bits_with bits w i ≡ not x →
    (i ≡ w.bit) × (w.value ≡ not x)
changed bits w i x old new = grind (arith, differs, nat_tests, w.bit, w.value)

Run-changes :
    (writes rest : List RowWrite) (v : ℕ) (bits : ℕ → Bool) (t i : ℕ) (x : Bool) → Run v bits writes →
    t < length writes → bits_after bits (take t (writes ++ rest)) i ≡ x →
    bits_after bits (take (suc t) (writes ++ rest)) i ≡ not x → Changes v (bits_after bits (take t (writes ++ rest))) i x
Run-changes [] rest v bits t i x run fits old new = absurd (omega arith)
Run-changes (w ∷ writes) rest v bits zero i x run fits old new = grind (arith, changed, run.0)
Run-changes (w ∷ writes) rest v bits (suc t) i x run fits old new = grind (arith, (Run-changes writes rest v (bits_with bits w) t i x run.1 (omega arith) old new), run.1)

bits_of-later :
    (u : UnaryWrite) (us : List UnaryWrite) (bits : ℕ → Bool) (t : ℕ) →
    bits_of bits (u ∷ us) (length u.writes + t) ≡ bits_of (bits_after bits u.writes) us t
bits_of-later u us bits t = grind (arith, bits_after-append, take-append-add, u.writes)

pub begun-zero : (us : List UnaryWrite) → begun_writes us zero ≡ 0
begun-zero [] = refl
begun-zero (u ∷ us) = refl

begun-later :
    (u : UnaryWrite) (us : List UnaryWrite) (t : ℕ) →
    begun_writes (u ∷ us) (suc (length u.writes + t)) ≡ suc (begun_writes us (suc t))
begun-later u us t = grind (arith, u.writes)

pub begun-mono : (us : List UnaryWrite) (s t : ℕ) → s ≤ t → begun_writes us s ≤ begun_writes us t
begun-mono [] s t h = zero-le
begun-mono (u ∷ us) zero t h = zero-le
begun-mono (u ∷ us) (suc s) zero h = absurd (omega arith)
begun-mono (u ∷ us) (suc s) (suc t) h = grind (arith, suc-le-suc, (begun-mono us (suc s - length u.writes) (suc t - length u.writes) (omega arith)), u.writes)

-- a bit changes only at a write, which its unary write may make
abbrev ChangeAt : ℕ → (ℕ → Bool) → List UnaryWrite → ℕ → ℕ → Bool → Type 0
ChangeAt v bits us t i x =
    bits_of bits us t i ≡ x → bits_of bits us (suc t) i ≡ not x →
    Changes (numbered_value v us (begun_writes us (suc t))) (bits_of bits us t) i x

within :
    (u : UnaryWrite) (us : List UnaryWrite) (v : ℕ) (bits : ℕ → Bool) (t i : ℕ) (x : Bool) →
    Run u.value bits u.writes → t < length u.writes → ChangeAt v bits (u ∷ us) t i x
within u us v bits t i x run fits old new = grind (arith, Run-changes, begun-zero, u.value, u.writes)

later :
    (u : UnaryWrite) (us : List UnaryWrite) (v : ℕ) (bits : ℕ → Bool) (t i : ℕ) (x : Bool) →
    ChangeAt u.value (bits_after bits u.writes) us t i x → ChangeAt v bits (u ∷ us) (length u.writes + t) i x
later u us v bits t i x rest old new =
    let a : bits_of bits (u ∷ us) (length u.writes + t) ≡ bits_of (bits_after bits u.writes) us t = grind (arith, bits_of-later) in
    let s : suc (length u.writes + t) ≡ length u.writes + suc t = omega arith in
    let b : bits_of bits (u ∷ us) (suc (length u.writes + t)) ≡ bits_of (bits_after bits u.writes) us (suc t) = grind (arith, bits_of-later u us bits (suc t)) in
    let n : begun_writes us (suc t) ≡ begun_writes us (suc (length u.writes + t) - length u.writes) = grind arith in
    subst (λ k. Changes k (bits_of bits (u ∷ us) (length u.writes + t)) i x) (ap (λ k. numbered_value u.value us k) n)
    (subst (λ f. Changes (numbered_value u.value us (begun_writes us (suc t))) f i x) (sym a)
    (rest (ap (λ f. f i) (sym a) ∙ old) (ap (λ f. f i) (sym b) ∙ new)))

pub Chain-changes :
    (us : List UnaryWrite) (v : ℕ) (bits : ℕ → Bool) (t i : ℕ) (x : Bool) → Chain v bits us → ChangeAt v bits us t i x
Chain-changes [] v bits zero i x chain = λ old new. absurd (differs x (sym old ∙ new))
Chain-changes [] v bits (suc t) i x chain = λ old new. absurd (differs x (sym old ∙ new))
Chain-changes (u ∷ us) v bits t i x chain =
    place (cases_lt t (length u.writes))
    (Chain-changes us u.value (bits_after bits u.writes) (t - length u.writes) i x chain.3)
  where
    place : (t < length u.writes) ⊎ (length u.writes ≤ t) →
        ChangeAt u.value (bits_after bits u.writes) us (t - length u.writes) i x → ChangeAt v bits (u ∷ us) t i x
    place (inl h) rest = within u us v bits t i x chain.1 h
    place (inr h) rest =
        let e : length u.writes + (t - length u.writes) ≡ t = omega arith in
        subst (λ k. ChangeAt v bits (u ∷ us) k i x) e (later u us v bits (t - length u.writes) i x rest)

pub ended-later :
    (u : UnaryWrite) (us : List UnaryWrite) (t : ℕ) → leb (length u.writes) t ≡ true →
    ended (u ∷ us) t ≡ suc (ended us (t - length u.writes))
ended-later u us t e = ap (λ b. cond b (suc (ended us (t - length u.writes))) 0) e

pub ended-none :
    (u : UnaryWrite) (us : List UnaryWrite) (t : ℕ) → leb (length u.writes) t ≡ false → ended (u ∷ us) t ≡ 0
ended-none u us t e = ap (λ b. cond b (suc (ended us (t - length u.writes))) 0) e

-- a moment at which the row shows the value of the last write that had ended before moment a
pub record Rest (v : ℕ) (bits : ℕ → Bool) (us : List UnaryWrite) (a : ℕ) : Type 0 where
  pub moment : ℕ
  pub in_time : moment ≤ a
  pub ended_then : ended us a ≤ begun_writes us (suc moment)
  pub shows : Shows (numbered_value v us (ended us a)) (bits_of bits us moment)

rest_step :
    (u : UnaryWrite) (us : List UnaryWrite) (v : ℕ) (bits : ℕ → Bool) (a : ℕ) → Shows v bits →
    (b : Bool) → leb (length u.writes) a ≡ b → Rest u.value (bits_after bits u.writes) us (a - length u.writes) →
    Rest v bits (u ∷ us) a
rest_step u us v bits a shows true e rest = grind (arith, (begun-later u us rest.moment), (bits_of-later u us bits rest.moment), (ended-later u us a e), (leb-true (length u.writes) a e), rest.ended_then, rest.in_time, rest.moment, rest.shows, u.value, u.writes)
rest_step u us v bits a shows false e rest = grind (arith, ended-none, zero-le)

pub Chain-rest : (us : List UnaryWrite) (v : ℕ) (bits : ℕ → Bool) (a : ℕ) → Chain v bits us → Rest v bits us a
Chain-rest [] v bits a chain = record { moment = 0; in_time = zero-le; ended_then = zero-le; shows = chain }
Chain-rest (u ∷ us) v bits a chain = grind (arith, leb, rest_step, (Chain-rest us u.value (bits_after bits u.writes) (a - length u.writes) chain.3), chain.0, chain.3, u.value, u.writes)

pub ended-begun :
    (us : List UnaryWrite) (v : ℕ) (bits : ℕ → Bool) (t : ℕ) → Chain v bits us → ended us t ≤ begun_writes us t
ended-begun [] v bits t chain = zero-le
ended-begun (u ∷ us) v bits t chain = grind (arith, ended-later, ended-none, leb-true, leb, (ended-begun us u.value (bits_after bits u.writes) (t - length u.writes) chain.3), chain.2, chain.3, u.value, u.writes)
