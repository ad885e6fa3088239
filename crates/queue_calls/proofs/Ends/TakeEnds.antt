-- The takes: how they end.
use Rattle.std.proofs.Common.{◌≡◌, inl, inr, ℕ, ◌+◌, ◌-◌, ◌<◌, ◌≤◌, Bool, true, false, List, [], ◌∷◌, ◌++◌, length, take, drop, slice_index_or, refl, sym, ap, subst, ◌∙◌, arith, length-append, append_assoc}
use Rattle.queue_calls.proofs.Common.{cases_lt, Capacity, PutTurn, Rests, Waits, MayHold, left_by, has_closed, FitsPut, offered_by, IsSoundPut, MayFindFewer, AreNext, CanEndTake, Keeps, FoundFewer}
use Rattle.std.proofs.lemmas.List.{length-take-le, take_more}
use Rattle.std.proofs.Math.Seq.{drop-append_seam, get_or-append_seam}
use Rattle.queue_calls.specs.Calls.{Event, TakeEnd, Reply, passed, is_shut, CanReply, lacked_by, Producer, Consumer, Resting, Taking, FoundClosed, point}
use Rattle.queue_calls.proofs.Replies.{few, shut_within}
use Rattle.queue_calls.proofs.Rooms.{holds_fewer, holds_none}
use Rattle.queue_calls.proofs.Points.{happens}
use Rattle.queue_calls.proofs.Effects.{described_at, shut_closed}
use Rattle.queue_calls.proofs.Keeping.{Accepts, accept}
use Rattle.queue_calls.proofs.Sides.{rests_resting, with_consumer}

-- what comes after the same items is the same
behind : (xs ys zs : List ℕ) → xs ++ ys ≡ xs ++ zs → ys ≡ zs
behind [] ys zs e = e
behind (x ∷ xs) ys zs e = behind xs ys zs (let f : xs ++ ys ≡ xs ++ zs = cc in f)

module _ (capacity : Capacity) (h : List Event) (put : PutTurn) (shut : Bool) where
  -- fewer items inside
  put_stays : (n m : ℕ) (p : PutTurn) → m ≤ n → IsSoundPut n p shut → IsSoundPut m p shut
  put_stays n m p l f = grind arith

  module _ (reply : Reply (List ℕ)) (wanted before : ℕ) (ended : Bool) (inside : List ℕ) (k : Keeps capacity h (passed [] reply ++ inside) put (Waits wanted before ended) shut) where
    accepts :
        is_shut reply ≡ false → CanReply reply (length (passed [] reply)) wanted →
        MayFindFewer before ended (lacked_by reply (length (passed [] reply)) (wanted - length (passed [] reply))) → MayHold capacity (length inside - offered_by put) →
        Accepts capacity h (TakeEnd reply) inside put Rests shut
    accepts open' within lacks fits =
        let took : List ℕ = passed [] reply in
        let rest : ℕ = wanted - length took in
        let sum : length took + rest ≡ wanted = omega (arith, few length [] reply wanted refl within) in
        accept capacity h (TakeEnd reply) (took ++ inside) inside put put (Waits wanted before ended) Rests shut shut k.late k (wanted, refl, within, refl)
        (holds_fewer capacity (length inside - (offered_by put + 0)) (length inside - offered_by put) (omega arith) fits)
        (put_stays (length (took ++ inside)) (length inside) put (omega (arith, length-append took inside)) k.put_ok) tt
        (λ s t d m. elim m.consumer.0 [
          | inl (o, left, w, ec) ↦ (
              let d' = with_consumer capacity (took ++ inside) put (Waits wanted before ended) shut s d (Taking (lacked_by reply (length took) left) took left) ec in
              described_at capacity inside put Rests shut t s.queue s.producer Resting m.queue m.producer m.consumer.1
              (record { items = behind took inside (s.queue.items ++ left_by put s.producer) d'.items; room = d'.room; producer = d'.producer; consumer = tt }))
          | inr (o, ec) ↦ absurd cc
        ])
        (λ t d told.
        let ec : t.consumer ≡ Resting = rests_resting t.consumer t.queue d.consumer in
        let d' = with_consumer capacity inside put Rests shut t d Resting ec in
        let was : Consumer = Taking (lacked_by reply (length took) rest) took rest in
        happens capacity h (point t.queue t.producer was) t (TakeEnd reply)
        (k.sound (point t.queue t.producer was) (record { items = ap (λ z. took ++ z) d'.items; room = d.room; producer = d.producer; consumer = (sum, lacks) }) told)
        (record { queue = refl; producer = refl; consumer = (inl (open', rest, subst (λ z. CanReply reply (length took) z) (sym sum) within, refl), ec) }))

  module _ (inside : List ℕ) (wanted before : ℕ) (ended : Bool) (k : Keeps capacity h inside put (Waits wanted before ended) shut) where
    pub take_ends :
        (reply : Reply (List ℕ)) → is_shut reply ≡ false → CanReply reply (length (passed [] reply)) wanted →
        FoundFewer before ended (length (passed [] reply)) (lacked_by reply (length (passed [] reply)) (wanted - length (passed [] reply))) → AreNext (passed [] reply) inside →
        CanEndTake capacity (length inside) (offered_by put) (length (passed [] reply)) → Accepts capacity h (TakeEnd reply) (drop (length (passed [] reply)) inside) put Rests shut
    take_ends reply open' within found (rest, next) fits =
        let took : List ℕ = passed [] reply in
        let lacked : ℕ = lacked_by reply (length took) (wanted - length took) in
        let long : length inside ≡ length took + length rest = omega (arith, ap length next, length-append took rest) in
        let K : List ℕ → Type 0 = λ z. Keeps capacity h z put (Waits wanted before ended) shut in
        let A : List ℕ → Type 0 = λ z. Accepts capacity h (TakeEnd reply) z put Rests shut in
        let lacks : MayFindFewer before ended lacked = elim (cases_lt 0 lacked) [
          | inl some ↦ inr (
            (found some).0,
            λ e. elim (cases_lt 0 (length took)) [ inl l ↦ (let (s, all) = k.take_ok.1 e in omega (arith, all, l, long)) | inr none ↦ (found some).1 (omega (arith, none)) e ],
          )
          | inr none ↦ inl (omega (arith, none))
        ] in
        subst A (sym (ap (λ z. drop (length took) z) next ∙ drop-append_seam took rest))
        (accepts reply wanted before ended rest (subst K next k) open' within lacks
        (holds_fewer capacity (length rest - offered_by put) ((length inside - length took) - offered_by put) (omega (arith, long)) fits))

-- a close has begun, so the queue may be closed
put_shut : (shut : Bool) (p : PutTurn) → has_closed p shut ≡ true → IsSoundPut 0 p shut → IsSoundPut 0 p true
put_shut shut p e f = grind arith

module _ (capacity : Capacity) (shut closed : Bool) where
  told_shut : (turn : PutTurn) (p : Producer) → closed ≡ true → FitsPut capacity turn shut p closed → FitsPut capacity turn true p closed
  told_shut turn p c f = grind arith

  untold_shut : (turn : PutTurn) (p : Producer) → has_closed turn shut ≡ true → FitsPut capacity turn true p closed → closed ≡ true → FitsPut capacity turn shut p closed
  untold_shut turn p e f c = grind arith

  -- a queue that is closed has no items left to come, and a close has begun
  pub closed_left : (turn : PutTurn) (p : Producer) (n : ℕ) → IsSoundPut n turn shut → FitsPut capacity turn shut p closed → closed ≡ true → (left_by turn p ≡ []) × (has_closed turn shut ≡ true)
  closed_left turn p n ok f c = grind arith

none_of : (xs ys : List ℕ) → [] ≡ xs ++ ys → xs ≡ []
none_of [] ys e = refl
none_of (x ∷ xs) ys e = absurd (cc)

module _ (capacity : Capacity) (h : List Event) (put : PutTurn) (wanted before : ℕ) (ended shut : Bool) where
  pub take_closed :
      (reply : Reply (List ℕ)) → is_shut reply ≡ true → Keeps capacity h [] put (Waits wanted before ended) shut → has_closed put shut ≡ true → Accepts capacity h (TakeEnd reply) [] put Rests true
  take_closed reply shuts k closed =
      accept capacity h (TakeEnd reply) [] [] put put (Waits wanted before ended) Rests shut true k.late k
      (wanted, refl, shut_within reply (length (passed [] reply)) wanted shuts, refl)
      (holds_fewer capacity (0 - (offered_by put + 0)) 0 (omega arith) (holds_none capacity)) (put_shut shut put closed k.put_ok) tt
      (λ s t d m. elim m.consumer.0 [
        | inl (o, left, w, ec) ↦ absurd cc
        | inr (o, ec) ↦ (
            let d' = with_consumer capacity [] put (Waits wanted before ended) shut s d FoundClosed ec in
            described_at capacity [] put Rests true t s.queue s.producer Resting m.queue m.producer m.consumer.1
            (record { items = d'.items; room = d'.room; producer = told_shut capacity shut s.queue.closed put s.producer d'.consumer.1 d'.producer; consumer = tt }))
      ])
      (λ t d told.
      let ec : t.consumer ≡ Resting = rests_resting t.consumer t.queue d.consumer in
      let d' = with_consumer capacity [] put Rests true t d Resting ec in
      let is_closed : t.queue.closed ≡ true = shut_closed capacity [] Rests true 0 put t.producer t.queue.closed (put_shut shut put closed k.put_ok) d.producer refl in
      happens capacity h (point t.queue t.producer FoundClosed) t (TakeEnd reply)
      (k.sound (point t.queue t.producer FoundClosed)
      (record {
        items = d'.items;
        room = d.room;
        producer = untold_shut capacity shut t.queue.closed put t.producer closed d.producer is_closed;
        consumer = (none_of t.queue.items (left_by put t.producer) d'.items, is_closed);
      }) told)
      (record { queue = refl; producer = refl; consumer = (inr (shuts, refl), ec) }))

-- one more item is next
pub next_one :
    (items inside : List ℕ) (i : ℕ) → i < length items → i < length inside → slice_index_or inside i 0 ≡ slice_index_or items i 0 → AreNext (take i items) inside →
    AreNext (take (i + 1) items) inside
next_one items inside i l m e ([], f) = grind (arith, length, length-append, take, length-take-le)
next_one items inside i l m e (y ∷ rest, f) =
    grind (arith, length (take i items), take i items, take (i + 1) items, length-take-le i items (omega (arith, l)), slice_index_or inside i 0, slice_index_or items i 0, get_or-append_seam (take i items) y rest 0, take_more items i 0 l, append_assoc (take i items) (y ∷ []) rest)
