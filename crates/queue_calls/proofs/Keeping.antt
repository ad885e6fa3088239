-- What an auditor keeps describes some point; and how it accepts or refuses an event.
use Rattle.std.proofs.Common.{◌≡◌, inl, inr, ℕ, ◌+◌, ◌-◌, ◌≤◌, Bool, true, false, List, [], ◌∷◌, ◌++◌, length, take, drop, refl, sym, ap, subst, ◌∙◌, arith, length-append, length-drop}
use Rattle.std.proofs.lemmas.List.{append-nil, take-append-drop, length-take-le}
use Rattle.queue_calls.proofs.Common.{cases_lt, Capacity, Queue, queue, Event, Happens, Idle, Putting, FoundShut, Closing, Producer, Consumer, Resting, Taking, Point, point, Leads, CanLeadTo}
use Rattle.queue_calls.proofs.Common.{IsLinearizable, PutTurn, Free, Offers, Late, Closes, TakeTurn, Rests, Waits, MayHold, taken_by, left_by, FitsPut, FitsTake, Describes, offered_by, asked_by}
use Rattle.queue_calls.proofs.Common.{IsSoundPut, IsSoundTake, TellsPoint, Keeps, sides_of, NoCall, Sides, sides, MovesSides, CallsAreInTurn}
use Rattle.queue_calls.proofs.Rooms.{holds_fewer, holds_none}
use Rattle.queue_calls.proofs.TurnLemmas.{one_turn_more, last_turn, same_turns, linearizable_in_turn}
use Rattle.queue_calls.proofs.Points.{last_event}
use Rattle.queue_calls.proofs.Effects.{stays}

-- a list's first part, and its last part, of this many
pub record Split (xs : List ℕ) (n : ℕ) : Type 0 where
  pub front : List ℕ
  pub back : List ℕ
  pub parts : xs ≡ front ++ back
  pub long : length back ≡ n

pub split : (xs : List ℕ) (n : ℕ) → n ≤ length xs → Split xs n
split xs n l = grind (arith, take (length xs - n) xs, length xs, drop (length xs - n) xs, take-append-drop (length xs - n) xs, length-drop (length xs - n) xs)

-- some point that is described, whatever items a put after a close has
abbrev pub Some : Capacity → List ℕ → PutTurn → TakeTurn → Bool → Type 0
Some capacity inside put take shut = (s : Point) × Describes capacity inside put take shut s × ((late : List ℕ) → TellsPoint late put s.producer)

-- if nothing of the put is still offered after the queue
whole_queue :
    (capacity : Capacity) (inside rest : List ℕ) (put : PutTurn) (take : TakeTurn) (shut closed : Bool) (p : Producer) (c : Consumer) → ((q : Queue) → FitsTake take c q) →
    inside ≡ taken_by c ++ rest → MayHold capacity (length rest - 0) → left_by put p ≡ [] → FitsPut capacity put shut p closed → Describes capacity inside put take shut (point (queue rest closed) p c)
whole_queue capacity inside rest put take shut closed p c fits e l none producer = grind (arith, append-nil, holds_fewer, length)

some_put :
    (capacity : Capacity) (inside rest : List ℕ) (put : PutTurn) (take : TakeTurn) (shut : Bool) (c : Consumer) →
    ((q : Queue) → FitsTake take c q) → inside ≡ taken_by c ++ rest → MayHold capacity (length rest - offered_by put) → Some capacity inside put take shut
some_put capacity inside rest Free take shut c fits e l =
    (point (queue rest shut) Idle c, whole_queue capacity inside rest Free take shut shut Idle c fits e l refl refl, λ late. tt)
some_put capacity inside rest (Offers offered before) take shut c fits e l = elim (cases_lt (length rest) offered) [
  | inr few ↦ (
      let s : Split rest offered = split rest offered few in (
        point (queue s.front false) (Putting 0 0 s.back) c,
        record {
          items = e ∙ ap (λ z. taken_by c ++ z) s.parts;
          room = holds_fewer capacity (length s.front) (length rest - offered) (omega (arith, s.long, ap length s.parts, length-append s.front s.back)) l;
          producer = (omega (arith, s.long), refl, inl refl);
          consumer = fits (queue s.front false);
        },
        λ late. tt,
      ))
  | inl many ↦ (
    point (queue [] false) (Putting 0 (offered - length rest) rest) c,
    record { items = e; room = holds_none capacity; producer = (omega (arith, many), refl, inl refl); consumer = fits (queue [] false) },
    λ late. tt,
  )
]
some_put capacity inside rest (Late offered) take shut c fits e l =
    (point (queue rest true) FoundShut c, whole_queue capacity inside rest (Late offered) take shut true FoundShut c fits e l refl refl, λ late. tt)
some_put capacity inside rest (Closes again) take shut c fits e l =
    (point (queue rest true) (Closing true) c, whole_queue capacity inside rest (Closes again) take shut true (Closing true) c fits e l refl ((λ _. refl), (λ _. refl)), λ late. tt)

pub some :
    (capacity : Capacity) (inside : List ℕ) (put : PutTurn) (take : TakeTurn) (shut : Bool) → MayHold capacity (length inside - (offered_by put + asked_by take)) →
    Some capacity inside put take shut
some capacity inside put Rests shut l =
    some_put capacity inside inside put Rests shut Resting (λ q. tt) refl
    (holds_fewer capacity (length inside - offered_by put) (length inside - (offered_by put + 0)) (omega arith) l)
some capacity inside put (Waits wanted before ended) shut l = elim (cases_lt (length inside) wanted) [
  | inr few ↦ (
      let rest : List ℕ = drop wanted inside in
      let long : length rest ≡ length inside - wanted = length-drop wanted inside in
      some_put capacity inside rest put (Waits wanted before ended) shut (Taking 0 (take wanted inside) 0)
      (λ q. (omega (arith, length-take-le wanted inside few), inl refl)) (sym (take-append-drop wanted inside))
      (holds_fewer capacity (length rest - offered_by put) (length inside - (offered_by put + wanted)) (omega (arith, long)) l))
  | inl many ↦
      some_put capacity inside [] put (Waits wanted before ended) shut (Taking 0 inside (wanted - length inside))
      (λ q. (omega (arith, many), inl refl)) (sym (append-nil inside))
      (holds_fewer capacity (0 - offered_by put) 0 (omega arith) (holds_none capacity))
]

-- what an auditor decides about a history with one more event
abbrev pub Accepts : Capacity → List Event → Event → List ℕ → PutTurn → TakeTurn → Bool → Type 0
Accepts capacity h e inside put take shut = Keeps capacity (h ++ e ∷ []) inside put take shut × IsLinearizable capacity (h ++ e ∷ [])

abbrev pub TurnedAway : Capacity → List Event → Event → List ℕ → PutTurn → TakeTurn → Bool → Type 0
TurnedAway capacity h e inside put take shut = Keeps capacity h inside put take shut × (¬ CallsAreInTurn (h ++ e ∷ []) × ¬ IsLinearizable capacity (h ++ e ∷ []))

-- it accepts if what it keeps describes exactly the points that follow
pub accept :
    (capacity : Capacity) (h : List Event) (e : Event) (inside inside' : List ℕ) (put put' : PutTurn) (take take' : TakeTurn) (shut shut' : Bool) (late : List ℕ) →
    Keeps capacity h inside put take shut → MovesSides (sides_of put take) e (sides_of put' take') → MayHold capacity (length inside' - (offered_by put' + asked_by take')) →
    IsSoundPut (length inside') put' shut' → IsSoundTake (offered_by put') (length inside') take' shut' →
    ((s t : Point) → Describes capacity inside put take shut s → Leads capacity s (Happens e) t → Describes capacity inside' put' take' shut' t) →
    ((t : Point) → Describes capacity inside' put' take' shut' t → TellsPoint late put' t.producer → CanLeadTo capacity (h ++ e ∷ []) t) →
    Accepts capacity h e inside' put' take' shut'
accept capacity h e inside inside' put put' take take' shut shut' late k turn few ok took after before = (
  record {
    proper = k.proper;
    turns = one_turn_more h e (sides NoCall NoCall) (sides_of put take) (sides_of put' take') k.turns turn;
    few = few;
    put_ok = ok;
    take_ok = took;
    late = late;
    sound = before;
    complete =
        λ t r.
        last_event capacity h e (Describes capacity inside' put' take' shut') (stays capacity inside' take' shut' put' ok took)
        (λ s t' r' l. after s t' (k.complete s r') l) t r;
  },
  (let (s, d, told) = some capacity inside' put' take' shut' few in (s, before s d (told late))),
)

pub turn_away :
    (capacity : Capacity) (h : List Event) (e : Event) (inside : List ℕ) (put : PutTurn) (take : TakeTurn) (shut : Bool) →
    Keeps capacity h inside put take shut → ((next : Sides) → MovesSides (sides_of put take) e next → ⊥) → TurnedAway capacity h e inside put take shut
turn_away capacity h e inside put take shut k none =
    let never : ¬ CallsAreInTurn (h ++ e ∷ []) =
    λ z. let (t, r) = z in
    let (s, before, last) = last_turn h e (sides NoCall NoCall) t r in
    let same : s ≡ sides_of put take = same_turns h (sides NoCall NoCall) s (sides_of put take) before k.turns in
    none t (subst (λ x. MovesSides x e t) same last) in
    (k, (never, (λ l. never (linearizable_in_turn capacity (h ++ e ∷ []) l))))
