-- The points to which a history can lead, and how one more event changes them.
use Rattle.std.proofs.Common.{◌≡◌, false, List, [], ◌∷◌, ◌++◌, length, refl, sym, ap, subst, arith, length-append, append_assoc}
use Rattle.std.proofs.lemmas.List.{append-nil}
use Rattle.queue_calls.proofs.Common.{Capacity, Operation, queue, Event, Mark, Happens, Effect, Idle, Resting, Point, point, Leads, LeadTo, events_among, CanLeadTo, IsLinearizable}

-- the point before any event
pub start : (capacity : Capacity) → CanLeadTo capacity [] (point (queue [] false) Idle Resting)
start capacity = record { marks = []; events = refl; lead = refl }

-- an operation takes effect
pub goes : (capacity : Capacity) (h : List Event) (s t : Point) (d : Operation) → CanLeadTo capacity h s → Leads capacity s (Effect d) t → CanLeadTo capacity h t
goes capacity h s t d r l = record { marks = Effect d ∷ r.marks; events = r.events; lead = (s, r.lead, l) }

-- an event comes
pub happens :
    (capacity : Capacity) (h : List Event) (s t : Point) (e : Event) → CanLeadTo capacity h s → Leads capacity s (Happens e) t →
    CanLeadTo capacity (h ++ e ∷ []) t
happens capacity h s t e r l = record { marks = Happens e ∷ r.marks; events = ap (λ z. z ++ e ∷ []) r.events; lead = (s, r.lead, l) }

-- what holds for points is preserved when operations take effect
abbrev pub Stays : Capacity → (Point → Type 0) → Type 0
Stays capacity P = (s t : Point) (d : Operation) → P s → Leads capacity s (Effect d) t → P t

only_start_marks :
    (capacity : Capacity) (P : Point → Type 0) → Stays capacity P → P (point (queue [] false) Idle Resting) →
    (marks : List Mark) (t : Point) → events_among marks ≡ [] → LeadTo capacity marks t → P t
only_start_marks capacity P stays p [] t e l = subst P (sym l) p
only_start_marks capacity P stays p (Happens x ∷ marks) t e l =
    absurd (omega (arith, ap length e, length-append (events_among marks) (x ∷ [])))
only_start_marks capacity P stays p (Effect d ∷ marks) t e (s, l, m) = stays s t d (only_start_marks capacity P stays p marks s e l) m

pub only_start :
    (capacity : Capacity) (P : Point → Type 0) → Stays capacity P → P (point (queue [] false) Idle Resting) → (t : Point) → CanLeadTo capacity [] t → P t
only_start capacity P stays p t r = only_start_marks capacity P stays p r.marks t r.events r.lead

-- two lists with one last item more
same_last : {A : Type 0} → (xs ys : List A) (x y : A) → xs ++ x ∷ [] ≡ ys ++ y ∷ [] → (xs ≡ ys) × (x ≡ y)
same_last [] [] x y e = (refl, cc)
same_last [] (b ∷ ys) x y e = absurd (omega (arith, ap length e, length-append ys (y ∷ [])))
same_last (a ∷ xs) [] x y e = absurd (omega (arith, ap length e, length-append xs (x ∷ [])))
same_last (a ∷ xs) (b ∷ ys) x y e =
    let rest : xs ++ x ∷ [] ≡ ys ++ y ∷ [] = cc in
    let (s, l) = same_last xs ys x y rest in
    (cc, l)

last_event_marks :
    (capacity : Capacity) (h : List Event) (e : Event) (P : Point → Type 0) → Stays capacity P →
    ((s t : Point) → CanLeadTo capacity h s → Leads capacity s (Happens e) t → P t) →
    (marks : List Mark) (t : Point) → events_among marks ≡ h ++ e ∷ [] → LeadTo capacity marks t → P t
last_event_marks capacity h e P stays step [] t f l = absurd (omega (arith, ap length f, length-append h (e ∷ [])))
last_event_marks capacity h e P stays step (Happens x ∷ marks) t f (s, l, m) = grind (arith, same_last)
last_event_marks capacity h e P stays step (Effect d ∷ marks) t f (s, l, m) = stays s t d (last_event_marks capacity h e P stays step marks s f l) m

-- after one more event
pub last_event :
    (capacity : Capacity) (h : List Event) (e : Event) (P : Point → Type 0) → Stays capacity P →
    ((s t : Point) → CanLeadTo capacity h s → Leads capacity s (Happens e) t → P t) → (t : Point) → CanLeadTo capacity (h ++ e ∷ []) t → P t
last_event capacity h e P stays step t r = last_event_marks capacity h e P stays step r.marks t r.events r.lead

one_less : (capacity : Capacity) (h : List Event) (e : Event) → IsLinearizable capacity (h ++ e ∷ []) → IsLinearizable capacity h
one_less capacity h e (t, r) = last_event capacity h e (λ z. IsLinearizable capacity h) (λ s u d p l. p) (λ s u q l. (s, q)) t r

-- and so after each prefix
pub beginning : (capacity : Capacity) (h rest : List Event) → IsLinearizable capacity (h ++ rest) → IsLinearizable capacity h
beginning capacity h [] l = subst (IsLinearizable capacity) (append-nil h) l
beginning capacity h (e ∷ rest) l = search (arith, one_less, beginning capacity (h ++ e ∷ []) rest (subst (IsLinearizable capacity) (sym (append_assoc h (e ∷ []) rest)) l))
