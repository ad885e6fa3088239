-- Which writes have ended, by the places where they end and by their number.
use Rattle.std.proofs.Common.{◌≡◌, ◌≢◌, ℕ, suc, ◌≤◌, ◌<◌, List, [], ◌∷◌, length, sym, ◌∙◌, arith}
use Rattle.register_calls.proofs.Common.{Register, RegisterEvent, WriteBegins, WriteEnds, ReadBegins, ReadEnds, started, finished, IsWellFormed, WriteHasEnded}
use Rattle.register_calls.proofs.Places.{placed_event-here, placed_event-before, code, stands, code-less}

-- the number of ended writes is at most that of the writes begun
pub finished-started : (r : Register) (h : List RegisterEvent) → IsWellFormed r h → finished h ≤ started h
finished-started r [] formed = omega arith
finished-started r (e ∷ b) formed = grind (arith, (finished-started r b formed.0))

-- the end of a write, if the last event ends none
ended_before : (e : RegisterEvent) (b : List RegisterEvent) (w : ℕ) → e ≢ WriteEnds → WriteHasEnded (e ∷ b) w (suc (length b)) → WriteHasEnded b w (length b)
ended_before e b w other (q, after, before, is) = grind arith

ended_still : (e : RegisterEvent) (b : List RegisterEvent) (w : ℕ) → WriteHasEnded b w (length b) → WriteHasEnded (e ∷ b) w (suc (length b))
ended_still e b w (q, after, before, is) = (q, after, omega arith, placed_event-before e b q before ∙ is)

-- the number of a write that has ended is at most that of the writes that have ended
pub few_ended : (r : Register) (h : List RegisterEvent) (w n : ℕ) → IsWellFormed r h → n ≤ started h → code h n ≡ suc w → WriteHasEnded h w (length h) → n ≤ finished h
few_ended r [] w n formed few coded ends = omega arith
few_ended r (WriteBegins v ∷ b) w n formed few coded ends = grind arith
few_ended r (WriteEnds ∷ b) w n formed few coded ends = let k = formed.2 in omega (arith, k, few)
few_ended r (ReadBegins i ∷ b) w n formed few coded ends = few_ended r b w n formed.0 few coded (ended_before (ReadBegins i) b w (λ k. cc) ends)
few_ended r (ReadEnds i v ∷ b) w n formed few coded ends = few_ended r b w n formed.0 few coded (ended_before (ReadEnds i v) b w (λ k. cc) ends)

-- and each of those writes has ended
pub all_ended : (r : Register) (h : List RegisterEvent) (w n : ℕ) → IsWellFormed r h → 0 < n → n ≤ finished h → code h n ≡ suc w → WriteHasEnded h w (length h)
all_ended r [] w n formed some few coded = absurd (omega arith)
all_ended r (WriteBegins v ∷ b) w n formed some few coded =
    let k = formed.2 in
    let less : n ≤ started b = omega (arith, k, few) in
    ended_still (WriteBegins v) b w (all_ended r b w n formed.0 some few (sym (code-less v b n less) ∙ coded))
all_ended r (WriteEnds ∷ b) w n formed some few coded =
    let k = formed.2 in
    let (p, s) = stands 0 b n some (omega (arith, k, few)) in
    let same = sym s.coded ∙ coded in
    let early = s.within in
    (length b, omega (arith, same, early), omega arith, placed_event-here WriteEnds b)
all_ended r (ReadBegins i ∷ b) w n formed some few coded = ended_still (ReadBegins i) b w (all_ended r b w n formed.0 some few coded)
all_ended r (ReadEnds i v ∷ b) w n formed some few coded = ended_still (ReadEnds i v) b w (all_ended r b w n formed.0 some few coded)
