-- What one event does to the functions that define a play.
use Rattle.std.proofs.Common.{◌≡◌, inl, inr, ◌+◌, ◌*◌, ◌<◌, ◌≤◌, Bool, true, false, Option, Some, None, List, [], ◌∷◌, ◌++◌, length, refl, sym, ap, subst, ◌∙◌, append_assoc, append-nil, length-append, arith}
use Rattle.std.specs.Prelude.{if◌then◌else◌, IfSome}
use Rattle.ring_player.proofs.Common.{Side, Access, Event, Shape, so_far, Content, events_of-append, length-events}
use Rattle.bits_core.specs.Bits.{is_by, other, same_side}
use Rattle.bits_core.specs.Made.{IsPrefix, Made, answered, begin_event, end_event, events_of, subhistory, opening_event}
use Rattle.bits_core.specs.Open.{IsOpenRight}
use Rattle.ring_player.specs.Plays.{AreMoves, IsDone, IsProgram, event_sides}
use Rattle.bits_core.proofs.Changes.{same_side-same}
use Rattle.bits_core.proofs.MarkLemmas.{by_other as same_side-other}
use Rattle.bits_core.proofs.LawLemmas.{subhistory_changes}

-- ---- the events of one side

pub by_side : (s : Side) (e : Event) → e.side ≡ s → is_by s e ≡ true
by_side s e by = ap (λ t. same_side s t) by ∙ same_side-same s

pub not_by : (s : Side) (e : Event) → e.side ≡ s → is_by (other s) e ≡ false
not_by s e by = ap (λ t. same_side (other s) t) by ∙ same_side-other s

pub own_by : (s : Side) (h : List Event) (e : Event) → e.side ≡ s → subhistory s (h ++ e ∷ []) ≡ subhistory s h ++ e ∷ []
own_by s h e by = subhistory_changes s h e ∙ ap (λ t. if t then subhistory s h ++ e ∷ [] else subhistory s h) (by_side s e by)

pub own_other : (s : Side) (h : List Event) (e : Event) → e.side ≡ s → subhistory (other s) (h ++ e ∷ []) ≡ subhistory (other s) h
own_other s h e by = subhistory_changes (other s) h e ∙ ap (λ t. if t then subhistory (other s) h ++ e ∷ [] else subhistory (other s) h) (not_by s e by)

-- ---- the events of accesses

-- the start of an access does not depend on its answer
pub begins_as : (s : Side) (a : Access) (v : Bool) → begin_event s (answered a v) ≡ opening_event s a
begins_as s a v = grind arith

-- the events of one more access
pub events-more : (s : Side) (list : List Made) (a : Access) (v : Bool) → events_of s (list ++ answered a v ∷ []) ≡ so_far s list (Some a) ++ end_event s (answered a v) ∷ []
events-more s list a v =
    events_of-append s list (answered a v ∷ []) ∙ ap (λ e. events_of s list ++ (e ∷ end_event s (answered a v) ∷ [])) (begins_as s a v)
    ∙ sym (append_assoc (events_of s list) (opening_event s a ∷ []) (end_event s (answered a v) ∷ []))

pub so_far_length : (s : Side) (list : List Made) (o : Option Access) → (2 * length list ≤ length (so_far s list o)) × (length (so_far s list o) ≤ 2 * length list + 1)
so_far_length s list None = (omega (arith, length-events s list), omega (arith, length-events s list))
so_far_length s list (Some a) =
    (omega (arith, length-events s list, length-append (events_of s list) (opening_event s a ∷ [])), omega (arith, length-events s list, length-append (events_of s list) (opening_event s a ∷ [])))

-- if the accesses of these events continue, the whole has more accesses, and begins with these
pub goes_longer :
    (s : Side) (list done whole rest : List Made) (a : Access) → events_of s list ≡ events_of s done → (list ++ answered a true ∷ []) ++ rest ≡ whole →
    (2 * length done < 2 * length whole) × IsPrefix (events_of s done) (events_of s whole)
goes_longer s list done whole rest a same e =
    let more : List Made = answered a true ∷ rest in
    let parts : list ++ more ≡ whole = sym (append_assoc list (answered a true ∷ []) rest) ∙ e in (
      omega (arith, ap length parts, length-append list more, ap length same, length-events s list, length-events s done),
      (events_of s more, ap (λ l. l ++ events_of s more) (sym same) ∙ sym (events_of-append s list more) ∙ ap (events_of s) parts),
    )

-- the access that is due is of a bit of this shape, by the side that may make it
pub right : (of shape : Shape) (s : Side) (due : Option Access) (a : Access) → of ≡ shape → IfSome due (IsOpenRight of s) → due ≡ Some a → IsOpenRight shape s a
right of shape s due a same ok is = subst (λ t. IsOpenRight t s a) same (subst (λ d. IfSome d (IsOpenRight of s)) is ok)

-- a prefix of a prefix is a prefix
pub begins-trans : {A : Type 0} (xs ys zs : List A) → IsPrefix xs ys → IsPrefix ys zs → IsPrefix xs zs
begins-trans xs ys zs (r, e) (r', f) = (r ++ r', sym (append_assoc xs r r') ∙ ap (λ l. l ++ r') e ∙ f)

-- a list and its last element, if others are a prefix of it with one more element
pub split_last : {A : Type 0} (xs ys zs : List A) (x y : A) → xs ++ x ∷ [] ≡ ys ++ y ∷ zs → (ws : List A) × (xs ≡ ys ++ ws)
split_last xs [] zs x y e = (xs, refl)
split_last [] (w ∷ []) zs x y e = absurd (cc)
split_last [] (w ∷ v ∷ ys) zs x y e = absurd (cc)
split_last (w ∷ xs) (v ∷ ys) zs x y e = grind (arith, split_last xs ys zs x y cc)

-- an open access is the one that is due
pub no_open : (o : Option Access) → ((a : Access) → o ≡ Some a → None ≡ Some a) → o ≡ None
no_open o f = grind arith

-- the events so far are a prefix of those with the due access made
pub so_far_begins :
    (s : Side) (list : List Made) (o : Option Access) (a : Access) (v : Bool) → ((b : Access) → o ≡ Some b → Some a ≡ Some b) → IsPrefix (so_far s list o) (events_of s (list ++ answered a v ∷ []))
so_far_begins s list None a v due = (events_of s (answered a v ∷ []), sym (events_of-append s list (answered a v ∷ [])))
so_far_begins s list (Some b) a v due =
    let both : Some a ≡ Some b = due b refl in
    let same : a ≡ b = cc in
    (end_event s (answered a v) ∷ [], ap (λ x. so_far s list (Some x) ++ end_event s (answered a v) ∷ []) (sym same) ∙ sym (events-more s list a v))

-- events with an open access are not those of complete accesses
pub not_whole : (s : Side) (xs ys : List Made) (e : Event) → events_of s xs ++ e ∷ [] ≡ events_of s ys → ⊥
not_whole s xs ys e same = absurd (omega (arith, ap length same, length-append (events_of s xs) (e ∷ []), length-events s xs, length-events s ys))

pub open_not_done : (script : Content) (s : Side) (h : List Event) (list : List Made) (a : Access) → subhistory s h ≡ so_far s list (Some a) → ¬ IsDone script s h
open_not_done script s h list a are d = grind (arith, not_whole)

-- a prefix of a program is a program
pub program_beginning : (script : Content) (s : Side) (xs ys : List Event) → IsProgram script s (xs ++ ys) → IsProgram script s xs
program_beginning script s xs ys h1 = grind (arith, append_assoc)

-- ---- the moves

pub moves-more :
    (script : Content) (letters : List Side) (letter : Side) (past later : List Event) (e : Event) → AreMoves script letters past later →
    (¬ IsDone script letter (past ++ later)) → e.side ≡ letter → AreMoves script (letters ++ letter ∷ []) past (later ++ e ∷ [])
moves-more script [] letter past [] e m more by = inr (subst (λ (t : List Event). ¬ IsDone script letter t) (append-nil past) more, (e, [], refl, by, tt))
moves-more script [] letter past (x ∷ later) e m more by = absurd m
moves-more script (l ∷ letters) letter past later e (inl (d, m)) more by = inl (d, moves-more script letters letter past later e m more by)
moves-more script (l ∷ letters) letter past later e (inr (n, (x, xs, is, of, m))) more by =
    let more' : ¬ IsDone script letter ((past ++ x ∷ []) ++ xs) = grind (arith, append_assoc) in
    inr (n, (x, xs ++ e ∷ [], ap (λ (t : List Event). t ++ e ∷ []) is, of, moves-more script letters letter (past ++ x ∷ []) xs e m more' by))

pub moves-idle :
    (script : Content) (letters : List Side) (letter : Side) (past later : List Event) → AreMoves script letters past later →
    IsDone script letter (past ++ later) → AreMoves script (letters ++ letter ∷ []) past later
moves-idle script [] letter past [] m d = inl (subst (λ (t : List Event). IsDone script letter t) (append-nil past) d, tt)
moves-idle script [] letter past (x ∷ later) m d = absurd m
moves-idle script (l ∷ letters) letter past later (inl (d', m)) d = inl (d', moves-idle script letters letter past later m d)
moves-idle script (l ∷ letters) letter past later (inr (n, (x, xs, is, of, m))) d =
    let d' : IsDone script letter ((past ++ x ∷ []) ++ xs) = grind (arith, append_assoc) in
    inr (n, (x, xs, is, of, moves-idle script letters letter (past ++ x ∷ []) xs m d'))

pub sides-more : (h : List Event) (e : Event) → event_sides (h ++ e ∷ []) ≡ event_sides h ++ e.side ∷ []
sides-more [] e = refl
sides-more (x ∷ h) e = ap (λ (t : List Side). x.side ∷ t) (sides-more h e)
