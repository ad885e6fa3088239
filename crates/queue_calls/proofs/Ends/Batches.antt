-- Several items of one put, and of one take, take effect.
use Rattle.std.proofs.Common.{◌≡◌, ℕ, suc, ◌+◌, ◌≤◌, Bool, false, List, [], ◌∷◌, ◌++◌, length, refl, sym, ap, subst, arith, length-append, append_assoc}
use Rattle.std.proofs.lemmas.List.{append-nil}
use Rattle.queue_calls.proofs.Common.{Capacity, queue, Enqueue, Dequeue, Event, Producer, Putting, Consumer, Taking, Point, point, CanLeadTo, IsProper, MayHold}
use Rattle.queue_calls.proofs.Rooms.{holds_fewer, room_for_one, room_at_first}
use Rattle.queue_calls.proofs.Points.{goes}

-- what is inside and offered is also what is in the queue and left: some first items of the put are in the queue
pub record Stored (inside offered items left : List ℕ) : Type 0 where
  pub done : List ℕ
  pub items_are : items ≡ inside ++ done
  pub offered_are : offered ≡ done ++ left

pub stored : (inside offered items left : List ℕ) → inside ++ offered ≡ items ++ left → length left ≤ length offered → Stored inside offered items left
stored [] offered items left e l = record { done = items; items_are = refl; offered_are = e }
stored (x ∷ inside) offered [] left e l = absurd (omega (arith, l, ap length e, length-append inside offered))
stored (x ∷ inside) offered (y ∷ items) left e l =
    let rest : inside ++ offered ≡ items ++ left = cc in
    let first : x ≡ y = cc in
    let r : Stored inside offered items left = stored inside offered items left rest l in
    record { done = r.done; items_are = (let i = r.items_are in cc); offered_are = r.offered_are }

module _ (capacity : Capacity) (h : List Event) where
  abbrev Leads : Point → Type 0
  Leads t = CanLeadTo capacity h t

  -- the items of a put are stored one after the other
  pub enqueues :
      (c : Consumer) (lacked : ℕ) (done left : List ℕ) (items : List ℕ) (n : ℕ) → MayHold capacity (length items + length done) →
      Leads (point (queue items false) (Putting lacked n (done ++ left)) c) → Leads (point (queue (items ++ done) false) (Putting lacked (n + length done) left) c)
  enqueues c lacked [] left items n l r = grind (arith, append-nil)
  enqueues c lacked (x ∷ done) left items n l r =
      let more : suc n + length done ≡ n + length (x ∷ done) = omega arith in
      let next : Leads (point (queue (items ++ x ∷ []) false) (Putting lacked (suc n) (done ++ left)) c) =
      goes capacity h (point (queue items false) (Putting lacked n (x ∷ (done ++ left))) c) (point (queue (items ++ x ∷ []) false) (Putting lacked (suc n) (done ++ left)) c) (Enqueue x) r
      (record {
        queue = (room_for_one capacity (length items) (holds_fewer capacity (suc (length items)) (length items + length (x ∷ done)) (omega arith) l), refl, refl);
        producer = (lacked, n, done ++ left, refl, refl);
        consumer = refl;
      }) in
      subst (λ z. Leads (point (queue (items ++ x ∷ done) false) (Putting lacked z left) c)) more
      (subst (λ z. Leads (point (queue z false) (Putting lacked (suc n + length done) left) c)) (append_assoc items (x ∷ []) done)
      (enqueues c lacked done left (items ++ x ∷ []) (suc n)
      (holds_fewer capacity (length (items ++ x ∷ []) + length done) (length items + length (x ∷ done)) (omega (arith, length-append items (x ∷ []))) l) next))

  -- the items of a take are taken one after the other
  pub dequeues :
      (closed : Bool) (p : Producer) (lacked : ℕ) (took done items : List ℕ) (left : ℕ) →
      Leads (point (queue (done ++ items) closed) p (Taking lacked took (length done + left))) → Leads (point (queue items closed) p (Taking lacked (took ++ done) left))
  dequeues closed p lacked took [] items left r = grind (arith, append-nil)
  dequeues closed p lacked took (x ∷ done) items left r =
      let more : length (x ∷ done) + left ≡ suc (length done + left) = omega arith in
      let r' : Leads (point (queue (x ∷ (done ++ items)) closed) p (Taking lacked took (suc (length done + left)))) =
      subst (λ z. Leads (point (queue (x ∷ (done ++ items)) closed) p (Taking lacked took z))) more r in
      let next : Leads (point (queue (done ++ items) closed) p (Taking lacked (took ++ x ∷ []) (length done + left))) =
      goes capacity h (point (queue (x ∷ (done ++ items)) closed) p (Taking lacked took (suc (length done + left))))
      (point (queue (done ++ items) closed) p (Taking lacked (took ++ x ∷ []) (length done + left))) (Dequeue x) r'
      (record { queue = (refl, refl); producer = refl; consumer = (lacked, took, length done + left, refl, refl) }) in
      subst (λ z. Leads (point (queue items closed) p (Taking lacked z left))) (append_assoc took (x ∷ []) done)
      (dequeues closed p lacked (took ++ x ∷ []) done items left next)

  -- a put and a take under way, with an open queue: items are taken, those in the queue and then those of the put as they come, and
  -- then items of the put are stored
  pub moves :
      IsProper capacity → (lacked found : ℕ) (items offered took more items' left : List ℕ) (n n' wanted : ℕ) → items ++ offered ≡ more ++ (items' ++ left) →
      length left ≤ length offered → n' + length left ≡ n + length offered → MayHold capacity (length items') →
      Leads (point (queue items false) (Putting lacked n offered) (Taking found took (length more + wanted))) →
      Leads (point (queue items' false) (Putting lacked n' left) (Taking found (took ++ more) wanted))
  moves proper lacked found items offered took [] items' left n n' wanted e l sum room r =
      let s : Stored items offered items' left = stored items offered items' left e l in
      let none : 0 + wanted ≡ wanted = omega arith in
      let count : n + length s.done ≡ n' = omega (arith, sum, ap length s.offered_are, length-append s.done left) in
      let r1 : Leads (point (queue items false) (Putting lacked n offered) (Taking found took wanted)) =
      subst (λ z. Leads (point (queue items false) (Putting lacked n offered) (Taking found took z))) none r in
      let r2 : Leads (point (queue items false) (Putting lacked n (s.done ++ left)) (Taking found took wanted)) =
      subst (λ z. Leads (point (queue items false) (Putting lacked n z) (Taking found took wanted))) s.offered_are r1 in
      let r3 : Leads (point (queue (items ++ s.done) false) (Putting lacked (n + length s.done) left) (Taking found took wanted)) =
      enqueues (Taking found took wanted) lacked s.done left items n
      (holds_fewer capacity (length items + length s.done) (length items') (omega (arith, ap length s.items_are, length-append items s.done)) room) r2 in
      let r4 : Leads (point (queue items' false) (Putting lacked n' left) (Taking found took wanted)) =
      subst (λ z. Leads (point (queue items' false) (Putting lacked z left) (Taking found took wanted))) count
      (subst (λ z. Leads (point (queue z false) (Putting lacked (n + length s.done) left) (Taking found took wanted))) (sym s.items_are) r3) in
      subst (λ z. Leads (point (queue items' false) (Putting lacked n' left) (Taking found z wanted))) (sym (append-nil took)) r4
  moves proper lacked found (y ∷ items) offered took (x ∷ more) items' left n n' wanted e l sum room r =
      let first : y ≡ x = cc in
      let rest : items ++ offered ≡ more ++ (items' ++ left) = cc in
      let count : length (x ∷ more) + wanted ≡ suc (length more + wanted) = omega arith in
      let r1 : Leads (point (queue (x ∷ items) false) (Putting lacked n offered) (Taking found took (suc (length more + wanted)))) =
      subst (λ z. Leads (point (queue (z ∷ items) false) (Putting lacked n offered) (Taking found took (suc (length more + wanted))))) first
      (subst (λ z. Leads (point (queue (y ∷ items) false) (Putting lacked n offered) (Taking found took z))) count r) in
      let r2 : Leads (point (queue items false) (Putting lacked n offered) (Taking found (took ++ x ∷ []) (length more + wanted))) =
      goes capacity h (point (queue (x ∷ items) false) (Putting lacked n offered) (Taking found took (suc (length more + wanted))))
      (point (queue items false) (Putting lacked n offered) (Taking found (took ++ x ∷ []) (length more + wanted))) (Dequeue x) r1
      (record { queue = (refl, refl); producer = refl; consumer = (found, took, length more + wanted, refl, refl) }) in
      subst (λ z. Leads (point (queue items' false) (Putting lacked n' left) (Taking found z wanted))) (append_assoc took (x ∷ []) more)
      (moves proper lacked found items offered (took ++ x ∷ []) more items' left n n' wanted rest l sum room r2)
  moves proper lacked found [] [] took (x ∷ more) items' left n n' wanted e l sum room r = absurd (cc)
  moves proper lacked found [] (y ∷ offered) took (x ∷ more) items' left n n' wanted e l sum room r =
      let first : y ≡ x = cc in
      let rest : offered ≡ more ++ (items' ++ left) = cc in
      let fewer : length left ≤ length offered = omega (arith, ap length rest, length-append more (items' ++ left), length-append items' left) in
      let r1 : Leads (point (queue [] false) (Putting lacked n (x ∷ offered)) (Taking found took (length (x ∷ more) + wanted))) =
      subst (λ z. Leads (point (queue [] false) (Putting lacked n (z ∷ offered)) (Taking found took (length (x ∷ more) + wanted)))) first r in
      let r2 : Leads (point (queue (x ∷ []) false) (Putting lacked (suc n) offered) (Taking found took (length (x ∷ more) + wanted))) =
      goes capacity h (point (queue [] false) (Putting lacked n (x ∷ offered)) (Taking found took (length (x ∷ more) + wanted)))
      (point (queue (x ∷ []) false) (Putting lacked (suc n) offered) (Taking found took (length (x ∷ more) + wanted))) (Enqueue x) r1
      (record { queue = (room_at_first capacity proper, refl, refl); producer = (lacked, n, offered, refl, refl); consumer = refl }) in
      let count : length (x ∷ more) + wanted ≡ suc (length more + wanted) = omega arith in
      let r3 : Leads (point (queue (x ∷ []) false) (Putting lacked (suc n) offered) (Taking found took (suc (length more + wanted)))) =
      subst (λ z. Leads (point (queue (x ∷ []) false) (Putting lacked (suc n) offered) (Taking found took z))) count r2 in
      let r4 : Leads (point (queue [] false) (Putting lacked (suc n) offered) (Taking found (took ++ x ∷ []) (length more + wanted))) =
      goes capacity h (point (queue (x ∷ []) false) (Putting lacked (suc n) offered) (Taking found took (suc (length more + wanted))))
      (point (queue [] false) (Putting lacked (suc n) offered) (Taking found (took ++ x ∷ []) (length more + wanted))) (Dequeue x) r3
      (record { queue = (refl, refl); producer = refl; consumer = (found, took, length more + wanted, refl, refl) }) in
      subst (λ z. Leads (point (queue items' false) (Putting lacked n' left) (Taking found z wanted))) (append_assoc took (x ∷ []) more)
      (moves proper lacked found [] offered (took ++ x ∷ []) more items' left (suc n) n' wanted rest fewer (omega (arith, sum)) room r4)
