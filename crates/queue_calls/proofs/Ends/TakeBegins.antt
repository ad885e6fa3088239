-- The takes: how they begin.
use Rattle.std.proofs.Common.{◌≡◌, ◌⊎◌, inl, inr, ℕ, ◌+◌, ◌-◌, ◌<◌, ◌≤◌, Bool, true, false, List, [], ◌∷◌, ◌++◌, length, refl, sym, ap, subst, ◌∙◌, arith, length-append}
use Rattle.std.proofs.lemmas.List.{append-nil}
use Rattle.queue_calls.proofs.Common.{cases_lt, Capacity, Queue, queue, IsDrained, Close, FindFewer, FindClosed, Event, TakeBegin, Producer, Idle, Putting, FoundShut, Closing, Consumer, Resting}
use Rattle.queue_calls.proofs.Common.{Taking, FoundClosed, Point, point, CanLeadTo, PutTurn, Free, Offers, Late, Closes, Rests, Waits, IsProper, MayHold, taken_by, left_by, MayLack, MayFindFewer}
use Rattle.queue_calls.proofs.Common.{FitsPut, Describes, offered_by, IsSoundPut, TellsPoint, Keeps}
use Rattle.queue_calls.proofs.Rooms.{holds_fewer, holds_none}
use Rattle.queue_calls.proofs.Points.{start, goes, happens, only_start}
use Rattle.queue_calls.proofs.Effects.{described_at, stays}
use Rattle.queue_calls.proofs.Keeping.{Accepts, accept, split, Split}
use Rattle.queue_calls.proofs.Sides.{free_idle, rests_resting, with_consumer}
use Rattle.queue_calls.proofs.Ends.Batches.{dequeues, moves}

-- items may still come to an open queue, or are inside a closed one
not_drained : (xs : List ℕ) (closed : Bool) → (closed ≡ true → 0 < length xs) → ¬ IsDrained (queue xs closed)
not_drained xs closed f (none, c) = omega (arith, f c, ap length none)

module _ (capacity : Capacity) (h : List Event) (inside : List ℕ) (shut : Bool) (wanted : ℕ) (some : 0 < wanted) where
  abbrev After : Point → Type 0
  After t = CanLeadTo capacity (h ++ TakeBegin wanted ∷ []) t

  module _ (put : PutTurn) (k : Keeps capacity h inside put Rests shut) where
    -- a point before the take, and that after its start
    begun : (q : Queue) (p : Producer) → inside ≡ q.items ++ left_by put p → MayHold capacity (length q.items) → FitsPut capacity put shut p q.closed → TellsPoint k.late put p → After (point q p (Taking 0 [] wanted))
    begun q p e l f told =
        grind (arith, happens capacity h (point q p Resting) (point q p (Taking 0 [] wanted)) (TakeBegin wanted) (k.sound (point q p Resting) (record { items = e; room = l; producer = f; consumer = tt }) told) (record { queue = refl; producer = refl; consumer = (refl, some, refl) }))

    -- it found fewer than this many, or did not look
    lacking :
        (q : Queue) (p : Producer) (found : ℕ) → (found ≡ 0) ⊎ ((length q.items < found) × (¬ IsDrained q)) → After (point q p (Taking 0 [] wanted)) → After (point q p (Taking found [] wanted))
    lacking q p found lacks r = elim lacks [
      | inl e ↦ subst (λ z. After (point q p (Taking z [] wanted))) (sym e) r
      | inr l ↦
          goes capacity (h ++ TakeBegin wanted ∷ []) (point q p (Taking 0 [] wanted)) (point q p (Taking found [] wanted)) (FindFewer found) r
          (record { queue = (l.0, l.1, refl); producer = refl; consumer = (wanted, refl, refl) })
    ]

    -- it returned Closed
    told_closed :
        (q : Queue) (p : Producer) → inside ≡ q.items ++ left_by put p → MayHold capacity (length q.items) → FitsPut capacity put shut p q.closed → TellsPoint k.late put p → IsDrained q →
        After (point q p FoundClosed)
    told_closed q p e l f told none =
        grind (arith, goes capacity (h ++ TakeBegin wanted ∷ []) (point q p (Taking 0 [] wanted)) (point q p FoundClosed) FindClosed (begun q p e l f told) (record { queue = (none, refl); producer = refl; consumer = (wanted, refl, refl) }), begun q p e l f told)

    -- if no item can come, all that is inside is in the queue
    took_inside :
        (xs : List ℕ) (closed : Bool) (p : Producer) (found : ℕ) (taken : List ℕ) (left : ℕ) → offered_by put ≡ 0 → left_by put p ≡ [] → inside ≡ taken ++ (xs ++ left_by put p) →
        FitsPut capacity put shut p closed → TellsPoint k.late put p → length taken + left ≡ wanted → (found ≡ 0) ⊎ ((length inside < found) × (closed ≡ true → 0 < length inside)) →
        After (point (queue xs closed) p (Taking found taken left))
    took_inside xs closed p found taken left none nothing e f told sum lacks =
        let short : inside ≡ taken ++ xs = e ∙ (ap (λ z. taken ++ (xs ++ z)) nothing ∙ ap (λ z. taken ++ z) (append-nil xs)) in
        let whole : inside ≡ inside ++ left_by put p = sym (append-nil inside) ∙ ap (λ z. inside ++ z) (sym nothing) in
        let room : MayHold capacity (length inside) = holds_fewer capacity (length inside) (length inside - (offered_by put + 0)) (omega (arith, none)) k.few in
        let lacks' : (found ≡ 0) ⊎ ((length inside < found) × (¬ IsDrained (queue inside closed))) =
        elim lacks [ inl z ↦ inl z | inr l ↦ inr (l.0, not_drained inside closed l.1) ] in
        let r0 : After (point (queue inside closed) p (Taking found [] wanted)) =
        lacking (queue inside closed) p found lacks' (begun (queue inside closed) p whole room f told) in
        let r1 : After (point (queue (taken ++ xs) closed) p (Taking found [] (length taken + left))) =
        subst (λ z. After (point (queue (taken ++ xs) closed) p (Taking found [] z))) (sym sum)
        (subst (λ z. After (point (queue z closed) p (Taking found [] wanted))) short r0) in
        dequeues capacity (h ++ TakeBegin wanted ∷ []) closed p found [] taken xs left r1

  -- a put under way: it had stored as little as it can have when the take began
  module _ (offered before : ℕ) (k : Keeps capacity h inside (Offers offered before) Rests shut) where
    took_from :
        (front back : List ℕ) (done : ℕ) → inside ≡ front ++ back → done + length back ≡ offered → length front ≡ length inside - offered →
        (xs left : List ℕ) (lacked m found : ℕ) (taken : List ℕ) (rest : ℕ) → inside ≡ taken ++ (xs ++ left) → MayHold capacity (length xs) → m + length left ≡ offered → length left ≤ length back →
        MayLack capacity before lacked → length taken + rest ≡ wanted → (found ≡ 0) ⊎ (length inside - offered < found) →
        After (point (queue xs false) (Putting lacked m left) (Taking found taken rest))
    took_from front back done parts sum long xs left lacked m found taken rest e room sum' few lacks total finds =
        let p : Producer = Putting lacked done back in
        let r0 : After (point (queue front false) p (Taking 0 [] wanted)) =
        begun (Offers offered before) k (queue front false) p parts
        (holds_fewer capacity (length front) (length inside - (offered + 0)) (omega (arith, long)) k.few) (sum, refl, lacks) tt in
        let finds' : (found ≡ 0) ⊎ ((length front < found) × (¬ IsDrained (queue front false))) =
        elim finds [ inl z ↦ inl z | inr l ↦ inr (omega (arith, l, long), not_drained front false (λ z. absurd (cc))) ] in
        let r1 : After (point (queue front false) p (Taking found [] wanted)) = lacking (Offers offered before) k (queue front false) p found finds' r0 in
        let r2 : After (point (queue front false) p (Taking found [] (length taken + rest))) = subst (λ z. After (point (queue front false) p (Taking found [] z))) (sym total) r1 in
        moves capacity (h ++ TakeBegin wanted ∷ []) k.proper lacked found front back [] taken xs left done m rest (sym parts ∙ e) few (omega (arith, sum, sum')) room r2

    took_of_put :
        (xs left : List ℕ) (lacked m found : ℕ) (taken : List ℕ) (rest : ℕ) → inside ≡ taken ++ (xs ++ left) → MayHold capacity (length xs) → m + length left ≡ offered →
        MayLack capacity before lacked → length taken + rest ≡ wanted → (found ≡ 0) ⊎ (length inside - offered < found) →
        After (point (queue xs false) (Putting lacked m left) (Taking found taken rest))
    took_of_put xs left lacked m found taken rest e room sum lacks total finds =
        let whole : length inside ≡ length taken + (length xs + length left) = omega (arith, ap length e, length-append taken (xs ++ left), length-append xs left) in
        elim (cases_lt (length inside) offered) [
          | inr few ↦ (
              let s : Split inside offered = split inside offered few in
              took_from s.front s.back 0 s.parts (omega (arith, s.long)) (omega (arith, s.long, ap length s.parts, length-append s.front s.back)) xs left lacked m found taken rest e room sum
              (omega (arith, s.long, sum)) lacks total finds)
          | inl many ↦
              took_from [] inside (offered - length inside) refl (omega (arith, many)) (omega (arith, many)) xs left lacked m found taken rest e room sum (omega (arith, whole)) lacks total finds
        ]

  abbrev Before : PutTurn → ℕ
  Before put = length inside - offered_by put

  -- it found fewer than this many in a queue that is open, or that was closed when it began
  finds_open : (put : PutTurn) (found : ℕ) (closed : Bool) → offered_by put ≡ 0 → (closed ≡ true → shut ≡ true) → MayFindFewer (Before put) shut found → (found ≡ 0) ⊎ ((length inside < found) × (closed ≡ true → 0 < length inside))
  finds_open put found closed none f lacks = elim lacks [ inl z ↦ inl z | inr l ↦ inr (omega (arith, l.0, none), λ c. let more : 0 < length inside - offered_by put = l.1 (f c) in omega (arith, more)) ]

  took_at :
      (put : PutTurn) (k : Keeps capacity h inside put Rests shut) (xs : List ℕ) (closed : Bool) (p : Producer) (found : ℕ) (taken : List ℕ) (left : ℕ) → inside ≡ taken ++ (xs ++ left_by put p) →
      MayHold capacity (length xs) → FitsPut capacity put shut p closed → TellsPoint k.late put p → length taken + left ≡ wanted → MayFindFewer (Before put) shut found →
      After (point (queue xs closed) p (Taking found taken left))
  took_at Free k xs closed Idle found taken left e room f told sum lacks =
      took_inside Free k xs closed Idle found taken left refl refl e f told sum (finds_open Free found closed refl (λ c. sym f ∙ c) lacks)
  took_at Free k xs closed (Putting lacked m its) found taken left e room f told sum lacks = absurd f
  took_at Free k xs closed FoundShut found taken left e room f told sum lacks = absurd f
  took_at Free k xs closed (Closing done) found taken left e room f told sum lacks = absurd f
  took_at (Offers offered before) k xs closed Idle found taken left e room f told sum lacks = absurd f
  took_at (Offers offered before) k xs true (Putting lacked m its) found taken left e room f told sum lacks = let o : true ≡ false = f.1 in absurd (cc)
  took_at (Offers offered before) k xs false (Putting lacked m its) found taken left e room f told sum lacks =
      took_of_put offered before k xs its lacked m found taken left e room f.0 f.2 sum (elim lacks [ inl z ↦ inl z | inr l ↦ inr l.0 ])
  took_at (Offers offered before) k xs closed FoundShut found taken left e room f told sum lacks = absurd f
  took_at (Offers offered before) k xs closed (Closing done) found taken left e room f told sum lacks = absurd f
  took_at (Late offered) k xs closed p found taken left e room f told sum lacks =
      took_inside (Late offered) k xs closed p found taken left refl refl e f told sum (finds_open (Late offered) found closed refl (λ c. k.put_ok) lacks)
  took_at (Closes again) k xs closed Idle found taken left e room f told sum lacks = absurd f
  took_at (Closes again) k xs closed (Putting lacked m its) found taken left e room f told sum lacks = absurd f
  took_at (Closes again) k xs closed FoundShut found taken left e room f told sum lacks = absurd f
  took_at (Closes true) k xs closed (Closing done) found taken left e room f told sum lacks =
      took_inside (Closes true) k xs closed (Closing done) found taken left refl refl e f told sum (finds_open (Closes true) found closed refl (λ c. k.put_ok refl) lacks)
  took_at (Closes false) k xs closed (Closing false) found taken left e room f told sum lacks =
      took_inside (Closes false) k xs closed (Closing false) found taken left refl refl e f told sum
      (finds_open (Closes false) found closed refl (λ c. let o : closed ≡ false = f.0 refl in absurd (cc)) lacks)
  took_at (Closes false) k xs closed (Closing true) found taken left e room f told sum lacks = by_shut shut refl
    where
      by_shut : (b : Bool) → shut ≡ b → After (point (queue xs closed) (Closing true) (Taking found taken left))
      by_shut true s =
          took_inside (Closes false) k xs closed (Closing true) found taken left refl refl e f told sum (finds_open (Closes false) found closed refl (λ c. s) lacks)
      by_shut false s =
          let open_first : After (point (queue xs false) (Closing false) (Taking found taken left)) =
          took_inside (Closes false) k xs false (Closing false) found taken left refl refl e ((λ z. refl), (λ z. absurd (cc))) tt sum
          (finds_open (Closes false) found false refl (λ c. absurd (cc)) lacks) in
          subst (λ b. After (point (queue xs b) (Closing true) (Taking found taken left))) (sym (f.0 refl))
          (goes capacity (h ++ TakeBegin wanted ∷ []) (point (queue xs false) (Closing false) (Taking found taken left)) (point (queue xs true) (Closing true) (Taking found taken left)) Close open_first
          (record { queue = refl; producer = (refl, refl); consumer = refl }))

  module _ (put : PutTurn) (k : Keeps capacity h inside put Rests shut) where
    points :
        (xs : List ℕ) (closed : Bool) (p : Producer) (c : Consumer) → Describes capacity inside put (Waits wanted (Before put) shut) shut (point (queue xs closed) p c) → TellsPoint k.late put p →
        After (point (queue xs closed) p c)
    points xs closed p c d told = grind (arith, took_at, told_closed)

    -- all that is inside was there before, if a close had ended
    all_before : (turn : PutTurn) → IsSoundPut (length inside) turn shut → shut ≡ true → length inside ≤ length inside - offered_by turn
    all_before turn ok s = grind arith

    pub take_begin : Accepts capacity h (TakeBegin wanted) inside put (Waits wanted (Before put) shut) shut
    take_begin =
        accept capacity h (TakeBegin wanted) inside inside put put Rests (Waits wanted (Before put) shut) shut shut k.late k (refl, some, refl)
        (holds_fewer capacity (length inside - (offered_by put + wanted)) (length inside - (offered_by put + 0)) (omega arith) k.few) k.put_ok
        (omega arith, λ e. (e, all_before put k.put_ok e))
        (λ s t d m.
        let (ec, some', ec') = m.consumer in
        let d' = with_consumer capacity inside put Rests shut s d Resting ec in
        described_at capacity inside put (Waits wanted (Before put) shut) shut t s.queue s.producer (Taking 0 [] wanted) m.queue m.producer ec'
        (record { items = d'.items; room = d'.room; producer = d'.producer; consumer = (omega arith, inl refl) }))
        (λ t d told. points t.queue.items t.queue.closed t.producer t.consumer d told)

-- no event yet
pub keeps_nothing : (capacity : Capacity) → IsProper capacity → Keeps capacity [] [] Free Rests false
keeps_nothing capacity l = record {
  proper = l;
  turns = refl;
  few = holds_fewer capacity (0 - (0 + 0)) 0 (omega arith) (holds_none capacity);
  put_ok = tt;
  take_ok = tt;
  late = [];
  sound = λ s d told. only s.queue.items s.queue.closed s.producer s.consumer d;
  complete = λ t r.
      only_start capacity (Describes capacity [] Free Rests false) (stays capacity [] Rests false Free tt tt)
      (record { items = refl; room = holds_none capacity; producer = refl; consumer = tt }) t r;
}
  where
    only : (xs : List ℕ) (closed : Bool) (p : Producer) (c : Consumer) → Describes capacity [] Free Rests false (point (queue xs closed) p c) → CanLeadTo capacity [] (point (queue xs closed) p c)
    only (x ∷ xs) closed p c d = absurd (omega (arith, ap length d.items, length-append (taken_by c) ((x ∷ xs) ++ []), length-append (x ∷ xs) []))
    only [] closed p c d =
        let (ep, ec) = free_idle capacity false closed p d.producer in
        let er = rests_resting c (queue [] closed) d.consumer in
        let C : Point → Type 0 = λ z. CanLeadTo capacity [] z in
        subst (λ z. C (point (queue [] closed) p z)) (sym er) (subst (λ z. C (point (queue [] closed) z Resting)) (sym ep) (subst (λ z. C (point (queue [] z) Idle Resting)) (sym ec) (start capacity)))
