-- One of the two sides: its state, the marks that move it, and what is picked by it.
use Rattle.std.proofs.Common.{◌≡◌, ◌↔◌, ℕ, List, [], ◌∷◌, refl, subst}
use Rattle.queue_calls.proofs.Common.{Capacity, Operation, Dequeue, FindFewer, FindClosed, TakeBegin, TakeEnd, Mark, Happens, Effect, Producer, Consumer, ProducerStep, ConsumerStep, Point, Leads}
use Rattle.queue_calls.specs.Order.{Side, P, C, pick, side_of, doer_of, Numbered, numbered, OwnStep, Comes, Makes, AreProducerCalls, AreConsumerCalls}

-- ---- what is picked

-- what holds for both holds for the one that is picked
pub picked : {A : Type 0} (Q : A → Type 0) (y x : Side) (same other : A) → (x ≡ y → Q same) → ((x ≡ y → ⊥) → Q other) → Q (pick y x same other)
picked Q P P same other a b = a refl
picked Q P C same other a b = b (λ e. cc)
picked Q C P same other a b = b (λ e. cc)
picked Q C C same other a b = a refl

pub pick_of : {A B : Type 0} (f : A → B) (y x : Side) (same other : A) → f (pick y x same other) ≡ pick y x (f same) (f other)
pick_of f P P same other = refl
pick_of f P C same other = refl
pick_of f C P same other = refl
pick_of f C C same other = refl

-- if the same is picked, it is that of both sides
pub pick_by : {A : Type 0} (f : Side → A) (y x : Side) (other : A) → pick y x (f x) other ≡ pick y x (f y) other
pick_by f P P other = refl
pick_by f P C other = refl
pick_by f C P other = refl
pick_by f C C other = refl

pub pick_same : {A : Type 0} (y : Side) (same other : A) → pick y y same other ≡ same
pick_same y same other = picked (λ z. z ≡ same) y y same other (λ is. refl) (λ not. absurd (not refl))

pub pick_other : {A : Type 0} (y x : Side) (same other : A) → (x ≡ y → ⊥) → pick y x same other ≡ other
pick_other y x same other not = picked (λ z. z ≡ other) y x same other (λ is. absurd (not is)) (λ differs. refl)

-- ---- the state of a side

abbrev pub Where : Side → Type 0
Where P = Producer
Where C = Consumer

abbrev pub where_of : (y : Side) → Point → Where y
where_of P s = s.producer
where_of C s = s.consumer

abbrev pub Steps : (y : Side) → Where y → Mark → Where y → Type 0
Steps P p m after = ProducerStep p m after
Steps C c m after = ConsumerStep c m after

abbrev pub AreCalls : (y : Side) → Where y → List OwnStep → Type 0
AreCalls P p calls = AreProducerCalls p calls
AreCalls C c calls = AreConsumerCalls c calls

-- the side whose mark it is
abbrev pub mark_side : Mark → Side
mark_side (Happens e) = side_of e
mark_side (Effect d) = doer_of d

pub step_of : (y : Side) (capacity : Capacity) (s t : Point) (m : Mark) → Leads capacity s m t → Steps y (where_of y s) m (where_of y t)
step_of P capacity s t m l = l.producer
step_of C capacity s t m l = l.consumer

-- a mark of the other side leaves a side unchanged
pub others_mark : (y : Side) (m : Mark) (w after : Where y) → (mark_side m ≡ y → ⊥) → Steps y w m after ↔ (after ≡ w)
others_mark P (Happens (TakeBegin wanted)) w after not = ((λ f. f), (λ f. f))
others_mark P (Happens (TakeEnd reply)) w after not = ((λ f. f), (λ f. f))
others_mark P (Effect (Dequeue item)) w after not = ((λ f. f), (λ f. f))
others_mark P (Effect (FindFewer count)) w after not = ((λ f. f), (λ f. f))
others_mark P (Effect FindClosed) w after not = ((λ f. f), (λ f. f))
others_mark P m w after not = absurd (not refl)
others_mark C (Happens (TakeBegin wanted)) w after not = absurd (not refl)
others_mark C (Happens (TakeEnd reply)) w after not = absurd (not refl)
others_mark C (Effect (Dequeue item)) w after not = absurd (not refl)
others_mark C (Effect (FindFewer count)) w after not = absurd (not refl)
others_mark C (Effect FindClosed) w after not = absurd (not refl)
others_mark C m w after not = ((λ f. f), (λ f. f))

-- ---- its calls

-- a mark of a side among its calls; the first event of the history has this number
abbrev pub own_step : ℕ → Mark → OwnStep
own_step n (Happens e) = Comes (numbered n e)
own_step n (Effect d) = Makes d

pub no_calls : (y : Side) (w : Where y) → AreCalls y w []
no_calls P w = tt
no_calls C w = tt

own_mark : (y : Side) (n : ℕ) (m : Mark) (calls : List OwnStep) (w after : Where y) → mark_side m ≡ y → Steps y w m after → AreCalls y after calls → AreCalls y w (own_step n m ∷ calls)
own_mark P n (Happens e) calls w after is step more = (after, step, more)
own_mark P n (Effect d) calls w after is step more = (after, is, step, more)
own_mark C n (Happens e) calls w after is step more = (after, step, more)
own_mark C n (Effect d) calls w after is step more = (after, is, step, more)

-- one mark before its calls, of this side or of the other
pub mark_before : (y : Side) (n : ℕ) (m : Mark) (calls : List OwnStep) (w after : Where y) → Steps y w m after → AreCalls y after calls →
    AreCalls y w (pick y (mark_side m) (own_step n m ∷ calls) calls)
mark_before y n m calls w after step more =
    picked (λ z. AreCalls y w z) y (mark_side m) (own_step n m ∷ calls) calls (λ is. own_mark y n m calls w after is step more)
    (λ not. subst (λ z. AreCalls y z calls) ((others_mark y m w after not).0 step) more)

-- the first of its calls
pub calls_come : (y : Side) (w : Where y) (e : Numbered) (calls : List OwnStep) → AreCalls y w (Comes e ∷ calls) → (after : Where y) × Steps y w (Happens e.event) after × AreCalls y after calls
calls_come P w e calls are = are
calls_come C w e calls are = are

pub calls_make : (y : Side) (w : Where y) (d : Operation) (calls : List OwnStep) → AreCalls y w (Makes d ∷ calls) →
    (after : Where y) × (doer_of d ≡ y) × Steps y w (Effect d) after × AreCalls y after calls
calls_make P w d calls are = are
calls_make C w d calls are = are
