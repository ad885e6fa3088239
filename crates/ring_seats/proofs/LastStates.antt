-- The words of the last state show the history that the one seat knows.
use Rattle.std.proofs.Common.{arith, ◌≡◌, ℕ, zero, suc, List, [], ◌∷◌, ◌++◌, length, slice_index, refl, ap, sym, subst, ◌∙◌, append-nil}
use Rattle.std.proofs.lemmas.List.{append_cancel_left}
use Rattle.std.proofs.lemmas.List.Elements.{filter-append}
use mathlib.Core.Option.{some, some-injective, some-ne-none}
use Rattle.ring_seats.proofs.Common.{get_elem?, Shape, P, C, Event, subhistory, IsPrefix, View, KeptBy, SeatKnows}
use Rattle.atomic_table.specs.Table.{Final, Seen}
use Rattle.ring_seats.specs.Meetings.{KnowsAll}

-- the word found at a place
pub found_at : (xs : List ℕ) (i r : ℕ) → get_elem? xs i ≡ some r → r ≡ slice_index xs i
found_at [] i r e = absurd (some-ne-none r (sym e))
found_at (x ∷ xs) zero r e = sym (some-injective x r e)
found_at (x ∷ xs) (suc i) r e = found_at xs i r e

-- a list that adds nothing is empty
adds_none : (xs ys : List Event) → xs ++ ys ≡ xs → length ys ≡ 0
adds_none xs ys e = ap length (append_cancel_left xs ys [] (e ∙ sym (append-nil xs)))

-- a list with events of neither side is empty
no_events : (l : List Event) → length (subhistory P l) ≡ 0 → length (subhistory C l) ≡ 0 → l ≡ []
no_events [] p c = refl
no_events (e ∷ l) p c = grind arith

-- a history that begins with another, and has the same two sides, is that history
same_sides : (known h : List Event) → IsPrefix known h → subhistory P h ≡ subhistory P known → subhistory C h ≡ subhistory C known → h ≡ known
same_sides known h (rest, is) p c = grind (arith, adds_none, append-nil, filter-append, no_events)

-- the words of the last state show what the seat knows
pub last_shows : (count : Shape → ℕ) (IsShown : Shape → List ℕ → List Event → Type 0) (shape : Shape) (id : ℕ) (v : View) (words : List ℕ) (slots : List (Unit {0})) → KnowsAll v
    → Final (Seen (KeptBy count IsShown shape) id v) words slots → IsShown shape words v.known
last_shows count IsShown shape id v words slots knows (s, (k, at), words_are, _, _) =
    let p : SeatKnows k.history k.known k.owner id v P = k.seats id v at P knows.puts in
    let c : SeatKnows k.history k.known k.owner id v C = k.seats id v at C knows.takes in
    let begins : IsPrefix v.known k.history = subst (λ (l : List Event). IsPrefix l k.history) (sym p.known_is) k.begins in
    let same : k.history ≡ v.known = same_sides v.known k.history begins (sym p.list ∙ sym knows.put) (sym c.list ∙ sym knows.taken) in
    subst (λ (h : List Event). IsShown shape words h) same (subst (λ (l : List ℕ). IsShown shape l k.history) words_are k.shows)
