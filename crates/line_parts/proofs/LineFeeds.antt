-- Where line feeds are: in no number and no plain text, and the first one in one place.
use Rattle.std.proofs.Common.{◌≡◌, ◌≢◌, ℕ, ◌+◌, ◌%◌, ◌<◌, ◌^◌, true, List, [], ◌∷◌, ◌++◌, length, get_or, drop, refl, ap, ap₂, sym, arith}
use Rattle.std.specs.Prelude.{decimal, nat_lt}
use Rattle.std.specs.List.{list_all}
use Rattle.std.proofs.lemmas.Bool.{and_parts, ltb-true}
use Rattle.std.proofs.lemmas.Fmt.{decimal_by_steps}
use Rattle.std.proofs.lemmas.List.Elements.{All-append, All-cons, All-head, All-nil, All-tail}
use Rattle.line_parts.specs.LineEnds.{HasNoFeed}

-- a byte that is not a line feed
abbrev pub IsOther : ℕ → Type 0
IsOther b = b ≢ 10

pub no_feed_digits : (n : ℕ) → n < 2 ^ 64 → HasNoFeed (decimal n)
no_feed_digits n small =
    decimal_by_steps (λ m ds. HasNoFeed ds)
    (λ m below. All-cons IsOther (48 + m) [] (λ e. absurd (omega (arith, e))) (All-nil IsOther))
    (λ m ds two before. All-append IsOther ds ((48 + m % 10) ∷ []) before (All-cons IsOther (48 + m % 10) [] (λ e. absurd (omega (arith, e))) (All-nil IsOther)))
    n small

-- a text of bytes above the line feed
pub no_feed_text : (text : List ℕ) → list_all (λ b. nat_lt 10 b) text ≡ true → HasNoFeed text
no_feed_text [] e = All-nil IsOther
no_feed_text (b ∷ text) e =
    let both = and_parts (nat_lt 10 b) (list_all (λ c. nat_lt 10 c) text) e in
    let more : 10 < b = ltb-true 10 b both.0 in
    All-cons IsOther b text (λ same. absurd (omega (arith, more, same))) (no_feed_text text both.1)

-- the first line feed is in one place
pub feed_once : (xs ys a b : List ℕ) → HasNoFeed xs → HasNoFeed ys → xs ++ 10 ∷ a ≡ ys ++ 10 ∷ b → (xs ≡ ys) × (a ≡ b)
feed_once [] [] a b none free e = (refl, ap (λ (t : List ℕ). drop 1 t) e)
feed_once [] (y ∷ ys) a b none free e = absurd (All-head IsOther y ys free (sym (ap (λ (t : List ℕ). get_or t 0 0) e)))
feed_once (x ∷ xs) [] a b none free e = absurd (All-head IsOther x xs none (ap (λ (t : List ℕ). get_or t 0 0) e))
feed_once (x ∷ xs) (y ∷ ys) a b none free e =
    let later = feed_once xs ys a b (All-tail IsOther x xs none) (All-tail IsOther y ys free) (ap (λ (t : List ℕ). drop 1 t) e) in
    (ap₂ (λ (c : ℕ) (t : List ℕ). c ∷ t) (ap (λ (t : List ℕ). get_or t 0 0) e) later.0, later.1)

pub feed_nowhere : (xs ys b : List ℕ) → HasNoFeed xs → xs ≢ ys ++ 10 ∷ b
feed_nowhere [] [] b none e = absurd (omega (arith, ap length e))
feed_nowhere [] (y ∷ ys) b none e = absurd (omega (arith, ap length e))
feed_nowhere (x ∷ xs) [] b none e = All-head IsOther x xs none (ap (λ (t : List ℕ). get_or t 0 0) e)
feed_nowhere (x ∷ xs) (y ∷ ys) b none e = feed_nowhere xs ys b (All-tail IsOther x xs none) (ap (λ (t : List ℕ). drop 1 t) e)
