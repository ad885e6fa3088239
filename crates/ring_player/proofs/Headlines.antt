-- The main theorem, from the law of the ring.
use Rattle.std.proofs.Common.{◌≡◌, ℕ, zero, suc, ◌+◌, ◌%◌, List, [], ◌∷◌, ◌++◌, length, take, drop, refl, sym, ap, ap₂, subst, ◌∙◌, arith}
use Rattle.ring_player.proofs.Common.{Side, P, C, Event, batch_of, modulus_of, room_in, FollowsTakes, Takes, AreAttempts, offered, Plays, Content, past_is}
use Rattle.bits_core.specs.Made.{clock}
use Rattle.ring_core.specs.Counts.{first_count, number_past}
use Rattle.ring_core.specs.Items.{all_put, items_put, items_put_in, IsTold, ItemsAreRead, ToldIn}
use Rattle.ring_core.specs.Puts.{FollowsPuts, Full, Put, Puts, Stored, stored_in}
use Rattle.ring_core.specs.RingLaw.{ClosedIsTrue, InEveryRun, IsRun}
use Rattle.ring_core.proofs.OwnEvents.{clock_end}

drop-all : (n : ℕ) (xs : List ℕ) → n ≡ length xs → drop n xs ≡ []
drop-all zero [] e = refl
drop-all (suc n) [] e = refl
drop-all zero (x ∷ xs) e = absurd (omega (arith, e))
drop-all (suc n) (x ∷ xs) e = drop-all n xs (omega (arith, e))

drop-nil : (n : ℕ) → drop {A = ℕ} n [] ≡ []
drop-nil n = grind arith

pub drop-drop : (m n : ℕ) (xs : List ℕ) → drop m (drop n xs) ≡ drop (n + m) xs
drop-drop m zero xs = grind arith
drop-drop m (suc n) [] = drop-nil m ∙ sym (drop-nil (suc n + m))
drop-drop m (suc n) (x ∷ xs) = let shift : suc (n + m) ≡ suc n + m = omega arith in drop-drop m n xs ∙ ap (λ k. drop k (x ∷ xs)) shift

-- the first of some items, and those after them
pub parts : (r b : ℕ) (xs : List ℕ) → take r (take b xs) ++ drop (length (take r (take b xs))) xs ≡ xs
parts zero zero [] = refl
parts zero zero (x ∷ xs) = refl
parts zero (suc b) [] = refl
parts zero (suc b) (x ∷ xs) = refl
parts (suc r) zero [] = refl
parts (suc r) zero (x ∷ xs) = refl
parts (suc r) (suc b) [] = refl
parts (suc r) (suc b) (x ∷ xs) = ap (λ l. x ∷ l) (parts r b xs)

-- attempts that store all items store them in order
pub all_items : (script : Content) (n : ℕ) (puts : List Put) → AreAttempts script n puts → stored_in n puts ≡ length script.items → all_put puts ≡ drop n script.items
all_items script n [] m e = sym (drop-all n script.items e)
all_items script n (Stored seen items ∷ puts) (l, is, m) e =
    let room : ℕ = room_in script.shape (n % modulus_of script.shape) seen in
    let left : List ℕ = drop n script.items in
    let there : number_past n items ≡ n + length (take room (offered script n)) = past_is n items ∙ ap (λ t. n + length t) is in
    ap₂ (λ (x : List ℕ) (y : List ℕ). x ++ y) is
    (all_items script (number_past n items) puts m e ∙ ap (λ k. drop k script.items) there ∙ sym (drop-drop (length (take room (offered script n))) n script.items))
    ∙ parts room (batch_of script.shape) left
all_items script n (Full seen ∷ puts) (l, is, m) e = all_items script n puts m e

pub put_all_items :
    InEveryRun ClosedIsTrue → ItemsAreRead → (script : Content) (letters : List Side) (h : List Event) → Plays script letters h → (puts : Puts) (takes : Takes) → FollowsPuts script.shape h puts →
    FollowsTakes script.shape h takes → ToldIn script.shape h takes → items_put_in script.shape h puts ≡ script.items
put_all_items closed read script letters h plays puts takes p q told =
    let (calls, asked, begins) = plays.played.puts in
    let own_run : FollowsPuts script.shape h calls = record { are = asked.are; events = begins } in
    let run : IsRun script.shape h calls takes = record { lawful = plays.played.lawful; puts_follow = own_run; takes_follow = q } in
    let at : IsTold script.shape takes (clock C h (length h)) = subst (IsTold script.shape takes) (sym (clock_end C h)) told in
    let (all, taken, closes, behind) = closed script.shape h calls takes run (length h) (length h) at (omega arith) in
    read script.shape h puts calls p own_run ∙ ap (items_put script.shape first_count calls.puts) (sym (clock_end P h)) ∙ all
    ∙ all_items script 0 calls.puts asked.attempts (asked.closes closes).1 ∙ none_dropped script.items
  where
    none_dropped : (xs : List ℕ) → drop 0 xs ≡ xs
    none_dropped [] = refl
    none_dropped (x ∷ xs) = refl
