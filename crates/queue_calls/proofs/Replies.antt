-- Replies: what is passed is within what was offered or asked for, and what each of them is.
use Rattle.std.proofs.Common.{◌≡◌, ◌⊎◌, inl, inr, ℕ, suc, ◌-◌, ◌<◌, ◌≤◌, Bool, true, false, if◌then◌else◌, Some, None, List, ◌∷◌, length, ap, subst, arith}
use Rattle.queue_calls.proofs.Common.{Capacity, LacksRoom, FoundFewer, MayLack, before_stored, has_told, line_behind, told_closed_line}
use Rattle.queue_calls.specs.Calls.{Event, PutEnd, TakeEnd, Reply, Nothing, Shut, passed, is_shut, CanReply, short_of, lacked_by}

pub shut_is : {A : Type 0} (reply : Reply A) → is_shut reply ≡ true → reply ≡ Shut
shut_is x e = grind arith

pub shut_within : {A : Type 0} (reply : Reply A) (done most : ℕ) → is_shut reply ≡ true → CanReply reply done most
shut_within x done most e = grind arith

pub few : {A : Type 0} (size : A → ℕ) (none : A) (reply : Reply A) (most : ℕ) → size none ≡ 0 → CanReply reply (size (passed none reply)) most → size (passed none reply) ≤ most
few size none x most e within = grind arith

-- the reply to a put that stored none, and found no lack of room, is Nothing or Shut
pub none_is :
    (reply : Reply ℕ) (most left : ℕ) → left ≡ most - passed 0 reply → CanReply reply (passed 0 reply) most → lacked_by reply (passed 0 reply) left ≡ 0 → passed 0 reply ≡ 0 →
    (reply ≡ Nothing) ⊎ (reply ≡ Shut)
none_is reply most left e within lacked none = grind arith

-- ---- what is lacked

pub lacks_room : (capacity : Capacity) (before count : ℕ) → 0 < count → MayLack capacity before count → LacksRoom capacity before count
lacks_room capacity before count l f = elim f [ inl e ↦ absurd (omega (arith, e, l)) | inr g ↦ g ]

short_more : (why : Bool) (done left : ℕ) → why ≡ true → 0 < left → short_of why done left ≡ suc done
short_more why done left says l = grind arith

pub lacks_more : (capacity : Capacity) (before count most : ℕ) (why : Bool) → MayLack capacity before (short_of why count (most - count)) → why ≡ true → count < most → LacksRoom capacity before (suc count)
lacks_more capacity before count most why lacks says l = lacks_room capacity before (suc count) (omega arith) (subst (λ z. MayLack capacity before z) (short_more why count (most - count) says (omega (arith, l))) lacks)

pub may_lack_more : (capacity : Capacity) (before count most : ℕ) (why : Bool) → (why ≡ true → count < most → LacksRoom capacity before (suc count)) → MayLack capacity before (short_of why count (most - count))
may_lack_more capacity before count most why f = grind (arith)

pub fewer_told :
    (before : ℕ) (ended : Bool) (items : List ℕ) (most : ℕ) (why : Bool) → FoundFewer before ended (length items) (short_of why (length items) (most - length items)) → why ≡ true →
    length items < most → before ≤ length items
fewer_told before ended items most why found says l = grind (arith, length, short_more)

pub found_fewer :
    (before : ℕ) (ended : Bool) (items : List ℕ) (most : ℕ) (why : Bool) → 0 < length items → (why ≡ true → length items < most → before ≤ length items) →
    FoundFewer before ended (length items) (short_of why (length items) (most - length items))
found_fewer before ended items most why some f l = grind (arith, length)

-- ---- what is reported after them

pub none_passed : (reply : Reply ℕ) → (reply ≡ Nothing) ⊎ (reply ≡ Shut) → passed 0 reply ≡ 0
none_passed reply is = elim is [ inl e ↦ ap (passed 0) e | inr e ↦ ap (passed 0) e ]

pub told_on : (reply : Reply (List ℕ)) (past : List Event) → is_shut reply ≡ false → has_told (TakeEnd reply ∷ past) ≡ has_told past
told_on reply past e = grind arith

pub told_line_on :
    (reply : Reply (List ℕ)) (past : List Event) → is_shut reply ≡ false →
    (if has_told past then Some (told_closed_line past) else None) ≡ (if has_told (TakeEnd reply ∷ past) then Some (told_closed_line (TakeEnd reply ∷ past)) else None)
told_line_on reply past e = grind arith

pub stored_line_on :
    (reply : Reply ℕ) (past : List Event) (most line : ℕ) → CanReply reply (passed 0 reply) most → (0 < passed 0 reply → line ≡ line_behind past) →
    (passed 0 reply ≡ 0 → line ≡ line_behind (before_stored past)) → line ≡ line_behind (before_stored (PutEnd reply ∷ past))
stored_line_on reply past most line within some none = grind arith
