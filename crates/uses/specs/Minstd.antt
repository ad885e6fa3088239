-- The generator x ↦ 48271 x modulo 2^31 - 1.
use Rattle.std.specs.Prelude.{ℕ, zero, suc, ◌*◌, ◌%◌, Bool, nat_lt}

-- the generator's next number
abbrev pub next_number : ℕ → ℕ
next_number x = x * 48271 % 2147483647

-- the number after n steps
abbrev pub minstd_after : ℕ → ℕ → ℕ
minstd_after zero x = x
minstd_after (suc n) x = minstd_after n (next_number x)

-- answer number i from now: whether the number after one more step is in the upper half
abbrev pub answer_at : ℕ → ℕ → Bool
answer_at x i = nat_lt 1073741823 (minstd_after (suc i) x)
