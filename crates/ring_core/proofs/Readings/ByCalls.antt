-- Calls one after the other, whichever side makes them: the phrases of the first ones, and of the later ones.
use Rattle.std.proofs.Common.{◌≡◌, false, List, [], ◌∷◌, ◌++◌, refl, sym, ap, ◌∙◌, append_assoc, append-nil, arith}
use Rattle.ring_core.proofs.Common.{Shape, Made, first_count, Puts, close_phrase, put_phrase, put_phrases, put_program, stored_after, stored_count, Open, Takes, end_phrase, take_phrase, take_phrases}
use Rattle.ring_core.proofs.Common.{take_program, count_after, taken_count}

-- calls have the phrase of the first one, and then, from the state it results in, those of the others
pub record GoByCalls {S X : Type 0} (phrase : S → X → List Made) (phrases : S → List X → List Made) (after : S → X → S) (state : S → List X → S) : Type 0 where
  pub none : (s : S) → phrases s [] ≡ []
  pub more : (s : S) (y : X) (xs : List X) → phrases s (y ∷ xs) ≡ phrase s y ++ phrases (after s y) xs
  pub same : (s : S) → state s [] ≡ s
  pub next : (s : S) (y : X) (xs : List X) → state s (y ∷ xs) ≡ state (after s y) xs

-- the state that results from calls and one more
pub state-push :
    {S X : Type 0} → {phrase : S → X → List Made} → {phrases : S → List X → List Made} → {after : S → X → S} → {state : S → List X → S} →
    GoByCalls phrase phrases after state → (s : S) (xs : List X) (x : X) → state s (xs ++ x ∷ []) ≡ after (state s xs) x
state-push {after} go s [] x = go.next s x [] ∙ go.same (after s x) ∙ ap (λ t. after t x) (sym (go.same s))
state-push {after} go s (y ∷ xs) x = grind (arith, state-push go (after s y) xs x)

-- the phrases of calls and of later ones
pub calls-append :
    {S X : Type 0} → {phrase : S → X → List Made} → {phrases : S → List X → List Made} → {after : S → X → S} → {state : S → List X → S} →
    GoByCalls phrase phrases after state → (s : S) (xs ys : List X) → phrases s (xs ++ ys) ≡ phrases s xs ++ phrases (state s xs) ys
calls-append {phrases} {state} go s [] ys = sym (ap (λ l. l ++ phrases (state s []) ys) (go.none s) ∙ ap (λ t. phrases t ys) (go.same s))
calls-append {phrase} {phrases} {after} {state} go s (x ∷ xs) ys = grind (arith, append_assoc, calls-append go (after s x) xs ys)

-- and of one more
pub calls-push :
    {S X : Type 0} → {phrase : S → X → List Made} → {phrases : S → List X → List Made} → {after : S → X → S} → {state : S → List X → S} →
    GoByCalls phrase phrases after state → (s : S) (xs : List X) (x : X) → phrases s (xs ++ x ∷ []) ≡ phrases s xs ++ phrase (state s xs) x
calls-push {S} {phrase} {phrases} {after} {state} go s xs x = grind (arith, calls-append go s xs (x ∷ []), append-nil (phrase (state s xs) x))

-- this holds for puts and for takes
pub puts_go_by_calls : (shape : Shape) → GoByCalls (put_phrase shape) (put_phrases shape) (stored_after shape) (stored_count shape)
puts_go_by_calls shape = record { none = λ c. refl; more = λ c y xs. refl; same = λ c. refl; next = λ c y xs. refl }

pub takes_go_by_calls : (shape : Shape) → GoByCalls (take_phrase shape) (take_phrases shape) (count_after shape) (taken_count shape)
takes_go_by_calls shape = record { none = λ c. refl; more = λ c y xs. refl; same = λ c. refl; next = λ c y xs. refl }

-- the accesses of puts without a close, and of takes none of which returned Closed
pub puts_open : (shape : Shape) (calls : Puts) → calls.closes ≡ false → put_program shape calls ≡ put_phrases shape first_count calls.puts
puts_open shape calls e = ap (λ c. put_phrases shape first_count calls.puts ++ close_phrase c) e ∙ append-nil (put_phrases shape first_count calls.puts)

pub takes_open : (shape : Shape) (calls : Takes) → calls.end ≡ Open → take_program shape calls ≡ take_phrases shape first_count calls.takes
takes_open shape calls e = ap (λ d. take_phrases shape first_count calls.takes ++ end_phrase d) e ∙ append-nil (take_phrases shape first_count calls.takes)
