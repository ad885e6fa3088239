-- The law of the unary register by moments, from what its scan finds.
use Rattle.std.proofs.Common.{rules, ℕ, zero, suc, ◌≤◌, Bool, true, false, List, [], ◌∷◌, All, refl, arith, suc-le-suc}
use Rattle.register_core.specs.Row.{RowWrite, first_bits, bits_after}
use Rattle.register_core.specs.Unary.{UnaryWrite, unary_phrase, unary_writes, writes_of, having_writes, numbered_of, numbered_value}
use Rattle.register_core.specs.UnaryLaw.{NumberedStayWithin}
use Rattle.register_core.proofs.WriterMoments.{Answered, MomentsAreRegular, MomentsHaveOne, BitsAreRegular}
use Rattle.register_core.proofs.Phrase.{Shows}
use Rattle.register_core.proofs.Moments.{Chain, numbered-chain, row_writes-numbered}
use Rattle.register_core.proofs.Covering.{Reads, found_scan, above_scan}
use Rattle.register_core.proofs.Changing.{changing_all, safe_answer}

first_shows : Shows 0 first_bits
first_shows = record { below = λ k h. absurd (omega arith); here = refl }

chain_of : (values : List ℕ) → Chain 0 first_bits (numbered_of values)
chain_of values = numbered-chain values 0 first_bits first_shows

read_of :
    (values : List ℕ) (from till : ℕ → ℕ) (i : ℕ) (answer : Bool) → Answered (writes_of values) from till i answer →
    Reads (numbered_of values) first_bits 0 (chain_of values) from till i answer
read_of values from till i answer (t, began, in_window, e) = search (rules, row_writes-numbered)

pub moments-are_regular : MomentsAreRegular
moments-are_regular values c from till scan answer =
    let f = found_scan (numbered_of values) first_bits 0 (chain_of values) from till c scan.windows
    (λ i h. read_of values from till i false (scan.below i h)) (read_of values from till c true answer) in
    record {
      number = f.number;
      not_overwritten = f.not_overwritten;
      has_begun = f.has_begun;
      has_value = f.has_value;
    }

value_step :
    (v w last : ℕ) (writes : List RowWrite) (us : List UnaryWrite) → v ≤ last → w ≤ last →
    ((v' : ℕ) → v' ≤ last → (n : ℕ) → numbered_value v' (having_writes us) n ≤ last) →
    (n : ℕ) → numbered_value v (having_writes (record { value = w; writes = writes } ∷ us)) n ≤ last
value_step v w last writes us h1 h2 h3 n = grind arith

value_le :
    (values : List ℕ) (last : ℕ) (bits : ℕ → Bool) → All (λ v. v ≤ last) values →
    (v : ℕ) → v ≤ last → (n : ℕ) → numbered_value v (having_writes (unary_writes bits values)) n ≤ last
value_le [] last bits all v fits zero = fits
value_le [] last bits all v fits (suc n) = fits
value_le (w ∷ values) last bits all v fits n =
    value_step v w last (unary_phrase bits w) (unary_writes (bits_after bits (unary_phrase bits w)) values) fits (all 0 0 (omega arith))
    (value_le values last (bits_after bits (unary_phrase bits w)) (λ k d h. all (suc k) d (suc-le-suc h))) n

pub moments-have_one : MomentsHaveOne
moments-have_one values last from till within scan answer =
    let (n, has_begun, above) = above_scan (numbered_of values) first_bits 0 (chain_of values) from till last scan.windows
    (λ i h. read_of values from till i false (scan.below i h)) (read_of values from till last false answer) in
    omega (arith, above, within n has_begun)

-- the numbered writes have values of the list
pub numbered-stay_within : NumberedStayWithin
numbered-stay_within values bound all n = value_le values bound first_bits all 0 (omega arith) n

pub bits-are_regular : BitsAreRegular
bits-are_regular values from till i answer fits safe = grind (arith, changing_all, safe_answer)
