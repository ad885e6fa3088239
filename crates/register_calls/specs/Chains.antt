-- The first reads that a reason reports, and lists of them.
use Rattle.std.specs.Prelude.{◌≡◌, ◌≢◌, ◌<◌, ℕ, zero, suc, nat_lt, Bool, true, false, Option, Some, None, List, [], ◌∷◌, slice_index_or}
use Rattle.register_calls.specs.declared.reasons.EarlierRead.{EarlierRead}
use Rattle.register_calls.specs.declared.chains.Chain.{Chain}

-- the first reads, as many as a count, and none after the last one
abbrev pub first_reads : ℕ → List EarlierRead → List (Option EarlierRead)
first_reads zero reads = []
first_reads (suc n) [] = None ∷ first_reads n []
first_reads (suc n) (read ∷ reads) = Some read ∷ first_reads n reads

-- whether there are more than a count
abbrev pub has_more : ℕ → List EarlierRead → Bool
has_more n [] = false
has_more zero (read ∷ reads) = true
has_more (suc n) (read ∷ reads) = has_more n reads

-- a chain shows the first 8 of these reads, and whether there are more
pub record ShowsReads (chain : Chain) (reads : List EarlierRead) : Type 0 where
  pub shown : chain.reads ≡ first_reads 8 reads
  pub cut : chain.is_cut ≡ has_more 8 reads

-- the chain of no read
abbrev pub fresh_chain : Chain
fresh_chain = record { reads = None ∷ None ∷ None ∷ None ∷ None ∷ None ∷ None ∷ None ∷ []; is_cut = false }

-- the chain of a reader in a list; no read past its end
abbrev pub chain_at : List Chain → (reader : ℕ) → Chain
chain_at chains i = slice_index_or chains i fresh_chain

-- whether a read that ends depends on the reads that bound it. It does not if the writes that had ended when it began are reason enough:
-- the first write of its value that it may be of by these alone, the optional number, does not come before its low
abbrev pub leans : Option ℕ → (low : ℕ) → Bool
leans None low = false
leans (Some n) low = nat_lt n low

-- a chain after a read that raised its floor, and which depends on another
abbrev pub IsLinkedChain : (chain leaning : Chain) → Option EarlierRead → (next : Chain) → Type 0
IsLinkedChain chain leaning None next = next ≡ chain
IsLinkedChain chain leaning (Some link) next = (reads : List EarlierRead) → ShowsReads leaning reads → ShowsReads next (link ∷ reads)

-- the chain of a reader is such, and each other one is unchanged
pub record RaisesChain (cs ds : List Chain) (i : ℕ) (leaning : Chain) (link : Option EarlierRead) : Type 0 where
  pub here : IsLinkedChain (chain_at cs i) leaning link (chain_at ds i)
  pub others : (j : ℕ) → j ≢ i → chain_at ds j ≡ chain_at cs j

-- the chain of a reader is this one if its floor is above the writes that have ended, and each other one is unchanged
pub record KeepsChain (cs ds : List Chain) (i ended floor : ℕ) (chain : Chain) : Type 0 where
  pub here : ended < floor → chain_at ds i ≡ chain
  pub others : (j : ℕ) → j ≢ i → chain_at ds j ≡ chain_at cs j
