-- A put that stored fewer items than it was offered filled the ring.
use Rattle.std.proofs.Common.{◌≡◌, ℕ, ◌%◌, ◌<◌, List, [], ◌∷◌, ◌++◌, length, take, sym, ap, subst, ◌∙◌, arith}
use Rattle.ring_player.proofs.Common.{Shape, modulus_of, EveryPlayFills, AreAttempts, offered, Content}
use Rattle.ring_core.specs.ProducerCalls.{IsPutOf, room_in}
use Rattle.ring_core.specs.Puts.{ArePuts, IsPut, number_after, Put, Stored, stored_in}
use Rattle.ring_core.specs.RingLaw.{FillIsFresh, InEveryRun, IsRun}
use Rattle.ring_core.proofs.Recorded.RecordedPuts.{took_all as taken_so}

-- a put among attempts, after others, is a put of the items offered there
attempt_at :
    (script : Content) (n : ℕ) (before after : List Put) (x : Put) → AreAttempts script n (before ++ x ∷ after) →
    IsPutOf script.shape (stored_in n before) (offered script (stored_in n before)) x
attempt_at script n [] after x (left, is, more) = is
attempt_at script n (y ∷ before) after x (left, is, more) = attempt_at script (number_after n y) before after x more

-- and a put of the program
put_at : (shape : Shape) (n : ℕ) (before after : List Put) (x : Put) → ArePuts shape n (before ++ x ∷ after) → IsPut shape (stored_in n before) x
put_at shape n [] after x p = p.0
put_at shape n (y ∷ before) after x p = put_at shape (number_after n y) before after x p.1

pub fills : InEveryRun FillIsFresh → EveryPlayFills
fills law script letters h plays puts takes asked p q seen items n start stop at ended few =
    let shape : Shape = script.shape in
    let run : IsRun shape h puts takes = record { lawful = plays.played.lawful; puts_follow = p; takes_follow = q } in
    let there : IsPut shape (stored_in 0 at.before) (Stored seen items) = put_at shape 0 at.before at.after (Stored seen items) (subst (ArePuts shape 0) at.among p.are) in
    let room : IsPut shape n (Stored seen items) = subst (λ k. IsPut shape k (Stored seen items)) (sym at.number) there in
    let attempts : AreAttempts script 0 (at.before ++ Stored seen items ∷ at.after) = subst (AreAttempts script 0) at.among asked.attempts in
    let behind : items ≡ take (room_in shape (stored_in 0 at.before % modulus_of shape) seen) (offered script (stored_in 0 at.before)) =
    attempt_at script 0 at.before at.after (Stored seen items) attempts in
    let is : items ≡ take (room_in shape (n % modulus_of shape) seen) (offered script n) = grind arith in
    let there : IsPut shape (stored_in 0 at.before) (Stored seen items) = put_at shape 0 at.before at.after (Stored seen items) (subst (ArePuts shape 0) at.among p.are) in
    let room : IsPut shape n (Stored seen items) = subst (λ k. IsPut shape k (Stored seen items)) (sym at.number) there in
    let size : length items ≡ room_in shape (n % modulus_of shape) seen =
    ap length is ∙ taken_so (room_in shape (n % modulus_of shape) seen) (offered script n) (subst (λ (l : List ℕ). length l < length (offered script n)) is few) in
    law shape h puts takes run seen items n start stop at ended (omega (arith, size, room.1))
