-- The numbered writes among the unary writes of the first values: how many there are, how many of them have ended and begun, and their
-- values.
use Rattle.std.proofs.Common.{◌≡◌, ℕ, zero, suc, ◌+◌, ◌-◌, ◌≤◌, Bool, true, false, List, [], ◌∷◌, ◌++◌, length, take, Some, slice_get, length-append, refl, sym, ap, arith, zero-le, suc-le-suc, ◌∙◌, inl, inr}
use Rattle.std.proofs.lemmas.Bool.{cases_lt, le-leb}
use Rattle.register_core.specs.Row.{RowWrite, first_bits, bits_after}
use Rattle.register_core.specs.Unary.{UnaryWrite, unary_phrase, unary_writes, row_writes, having_writes, numbered_value, ended, begun_writes}
use Rattle.register_core.proofs.Phrase.{Shows, Run, phrase-run}
use Rattle.register_core.proofs.Moments.{Run-shows, begun-zero, ended-later}

-- how many bit writes the unary writes of the first k values have, over a row of these bits
abbrev pub bit_count : (bits : ℕ → Bool) (values : List ℕ) (k : ℕ) → ℕ
bit_count bits values k = length (row_writes (unary_writes bits (take k values)))

-- and how many of them are numbered
abbrev pub numbered_count : (bits : ℕ → Bool) (values : List ℕ) (k : ℕ) → ℕ
numbered_count bits values k = length (having_writes (unary_writes bits (take k values)))

-- ---- if the bit writes of the first values have ended, so have their numbered writes

ends_step :
    (w : ℕ) (writes : List RowWrite) (some all : List UnaryWrite) →
    ((t : ℕ) → length (row_writes some) ≤ t → length (having_writes some) ≤ ended (having_writes all) t) →
    (t : ℕ) → length (writes ++ row_writes some) ≤ t →
    length (having_writes (record { value = w; writes = writes } ∷ some)) ≤ ended (having_writes (record { value = w; writes = writes } ∷ all)) t
ends_step w [] some all rest t fits = rest t fits
ends_step w (x ∷ writes) some all rest t fits =
    let parts = length-append (x ∷ writes) (row_writes some) in
    let in_time : length (x ∷ writes) ≤ t = omega (arith, parts, fits) in
    let e = ended-later (record { value = w; writes = x ∷ writes }) (having_writes all) t (le-leb (length (x ∷ writes)) t in_time) in
    let r = rest (t - length (x ∷ writes)) (omega (arith, parts, fits)) in
    omega (arith, e, r)

pub ends_count :
    (values : List ℕ) (bits : ℕ → Bool) (k t : ℕ) → bit_count bits values k ≤ t →
    numbered_count bits values k ≤ ended (having_writes (unary_writes bits values)) t
ends_count values bits zero t fits = zero-le
ends_count [] bits (suc k) t fits = zero-le
ends_count (w ∷ values) bits (suc k) t fits =
    let next : ℕ → Bool = bits_after bits (unary_phrase bits w) in
    ends_step w (unary_phrase bits w) (unary_writes next (take k values)) (unary_writes next values) (ends_count values next k) t fits

-- ---- if only bit writes of the first values have begun, only their numbered writes have

begins_step :
    (w : ℕ) (writes : List RowWrite) (some all : List UnaryWrite) →
    ((t : ℕ) → t ≤ length (row_writes some) → begun_writes (having_writes all) t ≤ length (having_writes some)) →
    (t : ℕ) → t ≤ length (writes ++ row_writes some) →
    begun_writes (having_writes (record { value = w; writes = writes } ∷ all)) t ≤ length (having_writes (record { value = w; writes = writes } ∷ some))
begins_step w [] some all rest t fits = rest t fits
begins_step w (x ∷ writes) some all rest zero fits = zero-le
begins_step w (x ∷ writes) some all rest (suc t) fits =
    let parts = length-append (x ∷ writes) (row_writes some) in
    suc-le-suc (rest (suc t - length (x ∷ writes)) (omega (arith, parts, fits)))

none_begun : (us : List UnaryWrite) (t n : ℕ) → t ≤ 0 → begun_writes us t ≤ n
none_begun us t n fits =
    let e : t ≡ 0 = omega arith in
    omega (arith, ap (begun_writes us) e, begun-zero us)

pub begins_count :
    (values : List ℕ) (bits : ℕ → Bool) (k t : ℕ) → t ≤ bit_count bits values k →
    begun_writes (having_writes (unary_writes bits values)) t ≤ numbered_count bits values k
begins_count values bits zero t fits = none_begun (having_writes (unary_writes bits values)) t 0 fits
begins_count [] bits (suc k) t fits = zero-le
begins_count (w ∷ values) bits (suc k) t fits =
    let next : ℕ → Bool = bits_after bits (unary_phrase bits w) in
    begins_step w (unary_phrase bits w) (unary_writes next (take k values)) (unary_writes next values) (begins_count values next k) t fits

-- ---- one more value has at most one more numbered write

more_step :
    (w : ℕ) (writes : List RowWrite) (more some : List UnaryWrite) → length (having_writes more) ≤ suc (length (having_writes some)) →
    length (having_writes (record { value = w; writes = writes } ∷ more)) ≤ suc (length (having_writes (record { value = w; writes = writes } ∷ some)))
more_step w [] more some fits = fits
more_step w (x ∷ writes) more some fits = suc-le-suc fits

one_step : (w : ℕ) (writes : List RowWrite) → length (having_writes (record { value = w; writes = writes } ∷ [])) ≤ 1
one_step w [] = zero-le
one_step w (x ∷ writes) = omega arith

pub count_more : (values : List ℕ) (bits : ℕ → Bool) (k : ℕ) → numbered_count bits values (suc k) ≤ suc (numbered_count bits values k)
count_more [] bits k = zero-le
count_more (w ∷ values) bits zero = one_step w (unary_phrase bits w)
count_more (w ∷ values) bits (suc k) =
    let next : ℕ → Bool = bits_after bits (unary_phrase bits w) in
    more_step w (unary_phrase bits w) (unary_writes next (take (suc k) values)) (unary_writes next (take k values)) (count_more values next k)

-- a count that grows by at most one at a time takes each value between two of its values
pub passes :
    (count : ℕ → ℕ) → ((k : ℕ) → count (suc k) ≤ suc (count k)) →
    (n d f g : ℕ) → g ≡ d + f → count f ≤ n → n ≤ count g →
    (k : ℕ) × (f ≤ k) × (k ≤ g) × (count k ≡ n)
passes count step n zero f g e low high =
    let same : g ≡ f = omega arith in
    (f, omega arith, omega arith, omega (arith, ap count same))
passes count step n (suc d) f g e low high = elim (cases_lt (count f) n) [
  | inl lt ↦
      let r = passes count step n d (suc f) g (omega arith) (omega (arith, step f)) high in
      (r.0, omega (arith, r.1), r.2, r.3)
  | inr ge ↦ (f, omega arith, omega arith, omega arith)
]

-- ---- the value at a number

-- a row shows at most one value
shown_once : (v w : ℕ) (bits : ℕ → Bool) → Shows v bits → Shows w bits → v ≡ w
shown_once v w bits a b = elim (cases_lt v w) [
  | inl lt ↦ let p : true ≡ false = sym a.here ∙ b.below v lt in absurd (cc)
  | inr le ↦ elim (cases_lt w v) [
    | inl lt ↦ let p : true ≡ false = sym b.here ∙ a.below w lt in absurd (cc)
    | inr ge ↦ omega arith
  ]
]

-- the value of unary write k, number 0 being the one that the row shows at first, is that of the last numbered write among the first k
abbrev IsNumberedAt : (k : ℕ) (values : List ℕ) (v : ℕ) (bits : ℕ → Bool) → Type 0
IsNumberedAt k values v bits = slice_get (v ∷ values) k ≡ Some (numbered_value v (having_writes (unary_writes bits values)) (numbered_count bits values k))

value_step :
    (v w k : ℕ) (bits : ℕ → Bool) (writes : List RowWrite) (values : List ℕ) → Shows v bits → Run w bits writes →
    ((v' : ℕ) (bits' : ℕ → Bool) → Shows v' bits' → IsNumberedAt k values v' bits') →
    slice_get (w ∷ values) k ≡
    Some (numbered_value v (having_writes (record { value = w; writes = writes } ∷ unary_writes (bits_after bits writes) values))
    (length (having_writes (record { value = w; writes = writes } ∷ unary_writes (bits_after bits writes) (take k values)))))
value_step v w k bits [] values shows run rest =
    rest w bits run ∙ ap (λ z. Some (numbered_value z (having_writes (unary_writes bits values)) (numbered_count bits values k))) (shown_once w v bits run shows)
value_step v w k bits (x ∷ writes) values shows run rest =
    rest w (bits_after bits (x ∷ writes)) (Run-shows w bits (x ∷ writes) run)

pub value_at : (values : List ℕ) (k v : ℕ) (bits : ℕ → Bool) → k ≤ length values → Shows v bits → IsNumberedAt k values v bits
value_at values zero v bits within shows = refl
value_at [] (suc k) v bits within shows = absurd (omega arith)
value_at (w ∷ values) (suc k) v bits within shows =
    value_step v w k bits (unary_phrase bits w) values shows (phrase-run bits w) (λ v' bits' shows'. value_at values k v' bits' (omega arith) shows')

-- the row at first shows 0
pub first_shows : Shows 0 first_bits
first_shows = record { below = λ k h. absurd (omega arith); here = refl }
