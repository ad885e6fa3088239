-- What is counted in a history: none of the counts is more than its events.
use Rattle.std.proofs.Common.{◌≡◌, ℕ, suc, ◌-◌, ◌≤◌, ◌<◌, Bool, List, [], ◌∷◌, length, arith}
use Rattle.register_calls.proofs.Common.{nat_lt, RegisterEvent}
use Rattle.register_calls.specs.Reports.{one_more_if, reads_ended, overlapped_reads, overlapped_by_several, could_invert}

pub few_reads : (h : List RegisterEvent) → reads_ended h ≤ length h
few_reads [] = omega arith
few_reads (e ∷ h) = grind (arith, (few_reads h))

pub few_overlapped : (h : List RegisterEvent) → overlapped_reads h ≤ length h
few_overlapped [] = omega arith
few_overlapped (e ∷ h) = grind (arith, (few_overlapped h))

pub few_by_several : (h : List RegisterEvent) → overlapped_by_several h ≤ length h
few_by_several [] = omega arith
few_by_several (e ∷ h) = grind (arith, (few_by_several h))

pub few_inverted : (h : List RegisterEvent) → could_invert h ≤ length h
few_inverted [] = omega arith
few_inverted (e ∷ h) = grind (arith, (few_inverted h))

-- one more of what is counted, if there is room for it
pub count_more :
    (old new n m most : ℕ) (b c : Bool) → old ≡ n → b ≡ c → n ≤ m → m < most → (old < most → new ≡ one_more_if b old) → new ≡ one_more_if c n
count_more old new n m most b c same flag few within is = grind arith

-- several writes have begun since that number of them had ended
pub several_since : (before begun : ℕ) → nat_lt 1 (begun - before) ≡ nat_lt (suc before) begun
several_since before begun = grind arith
