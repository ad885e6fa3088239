use Rattle.std.proofs.Common.{◌≡◌, ◌≤◌, ℕ, ◌+◌, ◌++◌, ◌∷◌, [], Bool, true, false, None, Some, List, length, refl, ap, sym, subst, ◌∙◌, arith}
use Rattle.std.specs.Prelude.{◌↔◌, IsSome, if◌then◌else◌}
use Rattle.std.proofs.lemmas.List.{length-append}
use mir.Val.{bool_byte}
use Rattle.bits_core.proofs.Common.{Event, Read, ReadEnd, Bit, Shape, held_at_begin, is_overlapped, open_access, AreMarks}
use Rattle.bits_core.specs.Memory.{EndsOverlappedRead, IsRecord, MemoryState, held_for_read, is_read_overlapped, open_bit, with_answer}
use Rattle.bits_core.specs.Open.{bit_of}
use Rattle.bits_core.proofs.Flickers.{IsRecord-push, MayFollow-answer, count_below-le}
use Rattle.bits_core.proofs.FlickerLaws.{ends_overlapped}
use Rattle.bits_core.proofs.MarkLemmas.{answer-is, overlapped-is}
use Rattle.bits_core.proofs.memory.Memory.end_read.Given.{Over}
use Rattle.bits_core.proofs.memory.Memory.end_read.Goals.{After-read_answer-answer}
use Rattle.bits_core.proofs.memory.Memory.end_read.Goals as goal

byte_is : (b : Bool) → bool_byte b ≡ (if b then 1 else 0)
byte_is true = refl
byte_is false = refl

byte-le : (b : Bool) → bool_byte b ≤ 1
byte-le true = omega arith
byte-le false = omega arith

abbrev state : Shape → List Event → ℕ → ℕ → MemoryState
state shape h n room = record { shape = shape; events = h; flickers = n; room = room }

same_state : (shape : Shape) {x y : List Event} {m n i j : ℕ} → x ≡ y → m ≡ n → i ≡ j → state shape x m i ≡ state shape y n j
same_state shape events flickers room = cc

-- the events before the read's end
abbrev before : (g : Over) → After-read_answer-answer g → List Event
before g c = g.S.Store.items c.self.inside.events

-- the read that ends here is the side's open access
still : (g : Over) (c : After-read_answer-answer g) → open_access c.args.side (before g c) ≡ Some (Read c.in-Some-Read.bit)
still g c = ap (λ r. open_access c.args.side r.events) c.self.view_is ∙ sym c.in-Some-Read.ensures.access ∙ ap Some c.in-Some-Read.field-0-is

its_bit : (g : Over) (c : After-read_answer-answer g) → open_bit c.args.side (before g c) ≡ c.in-Some-Read.bit
its_bit g c = ap bit_of (still g c)

-- nothing is settled if a write overlapped it; otherwise what the bit held
due : (g : Over) (c : After-read_answer-answer g) → c.settled-settled.result ≡ (if is_overlapped c.args.side c.in-Some-Read.bit (before g c) then None else Some (held_at_begin c.args.side c.in-Some-Read.bit (before g c)))
due g c = c.settled-settled.ensures c.self.inside.shape (before g c) c.self.invariant.1 (still g c)

due_where : (g : Over) (c : After-read_answer-answer g) (t : Bool) → is_read_overlapped c.args.side (before g c) ≡ t
    → c.settled-settled.result ≡ (if t then None else Some (held_at_begin c.args.side c.in-Some-Read.bit (before g c)))
due_where g c t is =
    due g c ∙ ap (λ t. if t then None else Some (held_at_begin c.args.side c.in-Some-Read.bit (before g c))) (ap (λ x. is_overlapped c.args.side x (before g c)) (sym (its_bit g c)) ∙ is)

answered : (g : Over) (c : After-read_answer-answer g) → c.read_answer-answer.result
    ≡ (if is_overlapped c.args.side c.in-Some-Read.bit (before g c) then g.O.Oracle.answers c.args.oracle.now 0 else held_at_begin c.args.side c.in-Some-Read.bit (before g c))
answered g c = c.read_answer-answer.ensures.value ∙ answer-is c.args.side c.in-Some-Read.bit (before g c) c.settled-settled.result (g.O.Oracle.answers c.args.oracle.now 0) (due g c)

pub overflow_add-self : goal.overflow_add-self
overflow_add-self g c =
    let h : List Event = g.S.Store.items c.self.inside.events in
    let e : Event = record { side = c.args.side; bit = c.in-Some-Read.bit; act = ReadEnd c.read_answer-answer.result } in
    let items : g.S.Store.items c.add.new.self ≡ h ++ e ∷ [] = c.add.ensures.items ∙ ap (λ (t : List Event). t ++ e ∷ []) c.in_ok-reserve-in-Some-Read.ensures.items in
    omega (arith, count_below-le, c.self.invariant.0, c.from.ensures, byte-le c.is_none.result, c.event_count.ensures ∙ ap length items ∙ length-append h (e ∷ []), c.event_count.type_inv)

pub invariant_of-self-in-Read-1 : goal.invariant_of-self-in-Read-1
invariant_of-self-in-Read-1 g c =
    let t = (goal.at.invariant_of-self-in-Read-1 g c).After-read_answer-answer in
    let s = c.args.side in
    let b = c.in-Some-Read.bit in
    let v = c.read_answer-answer.result in
    let shape = c.self.inside.shape in
    let h : List Event = g.S.Store.items c.self.inside.events in
    let n : ℕ = c.self.inside.flickers in
    let asked = g.O.Oracle.answers c.args.oracle.now 0 in
    let e : Event = record { side = s; bit = b; act = ReadEnd v } in
    let overlapped : c.is_none.result ≡ is_overlapped s b h = overlapped-is s b h c.settled-settled.result c.is_none.result (due g t) c.is_none.ensures in
    let follows = MayFollow-answer shape h s b asked v c.self.invariant.0.lawful (still g t) (answered g t) in
    let counted : n + (if is_overlapped s b h then 1 else 0) ≡ n + c.from.result = ap (λ (k : ℕ). n + k) (ap (λ (t : Bool). if t then 1 else 0) (sym overlapped) ∙ sym (byte_is c.is_none.result) ∙ sym c.from.ensures) in
    let items : h ++ e ∷ [] ≡ g.S.Store.items c.add.new.self = sym (c.add.ensures.items ∙ ap (λ (t : List Event). t ++ e ∷ []) c.in_ok-reserve-in-Some-Read.ensures.items) in (
      subst (λ (k : ℕ). IsRecord shape (g.S.Store.items c.add.new.self) k) counted (subst (λ (t : List Event). IsRecord shape t (n + (if is_overlapped s b h then 1 else 0))) items (IsRecord-push shape h n e c.self.invariant.0 follows)),
      subst (λ (t : List Event). AreMarks shape t c.record.new.self) items (c.record.ensures shape h c.self.invariant.1 follows),
    )

pub returns-clause-overlap : goal.returns-clause-overlap
returns-clause-overlap g c =
    let t = (goal.at.returns-clause-overlap g c).After-read_answer-answer in
    let s = c.args.side in
    let b = c.in-Some-Read.bit in
    let v = c.read_answer-answer.result in
    let shape = c.self.inside.shape in
    let h : List Event = g.S.Store.items c.self.inside.events in
    let after : List Event = g.S.Store.items c.add.new.self in
    let asked = g.O.Oracle.answers c.args.oracle.now 0 in
    let e : Event = record { side = s; bit = b; act = ReadEnd v } in
    let items : h ++ e ∷ [] ≡ after = sym (c.add.ensures.items ∙ ap (λ (t : List Event). t ++ e ∷ []) c.in_ok-reserve-in-Some-Read.ensures.items) in
    let told = ends_overlapped shape h s b asked v c.self.invariant.0.lawful (still g t) (answered g t) in
    let told_after = subst (λ (t : List Event). (is_overlapped s b h ≡ true) ↔ EndsOverlappedRead t (length h)) items told in
    let told_of_bit = subst (λ x. (is_overlapped s x h ≡ true) ↔ EndsOverlappedRead after (length h)) (sym (its_bit g t)) told_after in
    subst (λ r. (is_read_overlapped s r.events ≡ true) ↔ EndsOverlappedRead after (length r.events)) c.self.view_is told_of_bit

pub returns-clause-ok : goal.returns-clause-ok
returns-clause-ok g c =
    let t = (goal.at.returns-clause-ok g c).After-read_answer-answer in
    let s = c.args.side in
    let b = c.in-Some-Read.bit in
    let h : List Event = g.S.Store.items c.self.inside.events in
    let its_bit = its_bit g t in
    let v = c.read_answer-answer.result in
    let n : ℕ = c.self.inside.flickers in
    let overlapped : c.is_none.result ≡ is_overlapped s b h = overlapped-is s b h c.settled-settled.result c.is_none.result (due g t) c.is_none.ensures in
    let counted : n + c.from.result ≡ n + (if is_read_overlapped s h then 1 else 0) = ap (λ (k : ℕ). n + k) (c.from.ensures ∙ byte_is c.is_none.result ∙ ap (λ (t : Bool). if t then 1 else 0) overlapped ∙ ap (λ x. if is_overlapped s x h then 1 else 0) (sym its_bit)) in
    let e : Bit → Event = λ x. record { side = s; bit = x; act = ReadEnd v } in
    let items : g.S.Store.items c.add.new.self ≡ h ++ e (open_bit s h) ∷ [] = c.add.ensures.items ∙ ap (λ (t : List Event). t ++ e b ∷ []) c.in_ok-reserve-in-Some-Read.ensures.items ∙ ap (λ x. h ++ e x ∷ []) (sym its_bit) in
    let room = c.add.ensures.kept ∙ c.in_ok-reserve-in-Some-Read.ensures.kept in
    same_state c.self.inside.shape items counted room ∙ ap (λ m. with_answer m s v) c.self.view_is

pub returns-clause-answer : goal.returns-clause-answer
returns-clause-answer g c =
    let t = (goal.at.returns-clause-answer g c).After-read_answer-answer in
    let h : List Event = g.S.Store.items c.self.inside.events in
    let asked = g.O.Oracle.answers c.args.oracle.now 0 in
    answered g t ∙ ap (λ x. if is_overlapped c.args.side x h then asked else held_at_begin c.args.side x h) (sym (its_bit g t))
    ∙ ap (λ m. if is_read_overlapped c.args.side m.events then asked else held_for_read c.args.side m.events) c.self.view_is

pub returns-clause-asked : goal.returns-clause-asked
returns-clause-asked g c is =
    c.read_answer-answer.ensures.asked (due_where g (goal.at.returns-clause-asked g c).After-read_answer-answer true (ap (λ m. is_read_overlapped c.args.side m.events) c.self.view_is ∙ is))

pub returns-clause-not_asked : goal.returns-clause-not_asked
returns-clause-not_asked g c is =
    c.read_answer-answer.ensures.not_asked
    (subst IsSome (sym (due_where g (goal.at.returns-clause-not_asked g c).After-read_answer-answer false (ap (λ m. is_read_overlapped c.args.side m.events) c.self.view_is ∙ is))) refl)
