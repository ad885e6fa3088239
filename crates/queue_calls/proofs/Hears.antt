-- What a witness remembers after one more event.
use Rattle.std.proofs.Common.{◌≡◌, inl, inr, ℕ, zero, suc, ◌+◌, ◌-◌, ◌<◌, ◌≤◌, Bool, if◌then◌else◌, Option, Some, None, List, [], ◌∷◌, ◌++◌, map, length, take, drop, reverse, refl, sym, ap, ap₂, subst, ◌∙◌, arith, length-append, append-nil}
use Rattle.std.proofs.lemmas.List.{length-map, length-reverse, length-take-le, take_all}
use Rattle.std.proofs.Math.Seq.{drop-length, take-length}
use Rattle.std.specs.Option.{option_or}
use Rattle.queue_calls.proofs.Common.{Capacity, Kept, kept, Counts, before_put, before_stored, coming, ended_line, has_ended, has_told, items_of, k_of, last_of, last_taken, line_behind, offered_at}
use Rattle.queue_calls.proofs.Common.{stored_at, taken, told_closed_line, Keeps, meant, Remembers, RefusesNext, mark_last, Offered, Taken, PutTurn, TakeTurn, Witness}
use Rattle.queue_calls.specs.Calls.{Event, PutBegin, PutEnd, TakeEnd, Reply, passed, CanReply}
use Rattle.queue_calls.specs.Audits.{RefusesEvent}
use Rattle.queue_calls.specs.Insides.{Moves}
use Rattle.queue_calls.specs.Noting.{all_got, items_got}
use Rattle.queue_calls.specs.declared.faults.Fault.{Fault}
use Rattle.queue_calls.proofs.Agrees.{Agrees}
use Rattle.queue_calls.proofs.Agreeing.{long_coming, turned, turned_behind, items_stored}
use Rattle.queue_calls.proofs.Coming.{late_begins, late_ends, open_begins, put_ends, took}
use Rattle.queue_calls.proofs.Remembering.{agrees_of, count_more, kept_of, stands}
use Rattle.queue_calls.proofs.Replies.{few, none_passed, stored_line_on}

-- ---- entries

-- first parts as long as each other are the same
take_same : {A : Type 0} (m n : ℕ) (xs : List A) → length (take m xs) ≡ length (take n xs) → take m xs ≡ take n xs
take_same zero zero xs e = refl
take_same zero (suc n) [] e = refl
take_same zero (suc n) (x ∷ xs) e = absurd (omega (arith, e))
take_same (suc m) zero [] e = refl
take_same (suc m) zero (x ∷ xs) e = absurd (omega (arith, e))
take_same (suc m) (suc n) [] e = refl
take_same (suc m) (suc n) (x ∷ xs) e = ap (λ z. x ∷ z) (take_same m n xs (omega (arith, e)))

-- the first entries are those that are kept
first_ones :
    (kept count : ℕ) (entries left : List Offered) (inside : List ℕ) → left ≡ take kept entries → items_of left ≡ take count inside → length entries ≡ length inside → count ≤ length inside →
    left ≡ take count entries
first_ones kept count entries left inside moves are same few = grind (arith, length, length-map, take, length-take-le, few, take_same)

marked_behind : (n line : ℕ) (entries : List Offered) → items_of (take n entries ++ map (stored_at line) (drop n entries)) ≡ items_of entries
marked_behind zero line entries = items_stored line entries
marked_behind (suc n) line [] = refl
marked_behind (suc n) line (x ∷ entries) = ap (λ z. x.item ∷ z) (marked_behind n line entries)

-- a line that stores entries changes no item
pub mark_items : (line count : ℕ) (entries : List Offered) → items_of (mark_last line count entries) ≡ items_of entries
mark_items line count entries = marked_behind (length entries - count) line entries

-- nor does one that stores none change an entry
mark_none : (line : ℕ) (entries : List Offered) → mark_last line 0 entries ≡ entries
mark_none line entries = grind (arith, length entries, take, map, drop, ap₂, take-length entries, drop-length entries, append-nil entries)

module _ (past : List Event) (k : Kept) (a : Agrees past k) (capacity : Capacity) where
  same_long : (entries : List Offered) → entries ≡ coming past → length entries ≡ length k.inside
  same_long entries e = ap length e ∙ long_coming past k a

  abbrev MovesSo : Event → List Offered → List Offered → Type 0
  MovesSo event entries after = Moves (offered_at (line_behind past)) k.shut event entries after

  -- all is left
  all_left : (entries left : List Offered) → entries ≡ coming past → items_of left ≡ k.inside → (kept : ℕ) × (left ≡ take kept entries) → left ≡ coming past
  all_left entries left come are (m, moves) =
      grind (arith, take (length k.inside) k.inside, length k.inside, take_all (length k.inside) k.inside (omega arith), take_all (length k.inside) entries (omega (arith, same_long entries come)), first_ones, same_long entries come)

  inside_is : (after told : Kept) → after ≡ told → after.inside ≡ told.inside
  inside_is after told e = ap (λ z. z.inside) e

  -- what comes next after an event, except for the end of a put
  pub moved :
      (event : Event) (after : Kept) (entries left : List Offered) → entries ≡ coming past → items_of left ≡ after.inside → Counts capacity k event after → MovesSo event entries left →
      ((reply : Reply ℕ) → event ≡ PutEnd reply → ⊥) → left ≡ coming (event ∷ past)
  moved (PutBegin items) after entries left come are (free, some, begins) moves other = elim begins [
    | inl b ↦
        moves ∙ ap (λ z. if z then entries else entries ++ map (offered_at (line_behind past)) items) b.0 ∙ ap (λ z. z ++ map (offered_at (line_behind past)) items) come ∙
        sym (open_begins past k a items free b.0)
    | inr b ↦ moves ∙ ap (λ z. if z then entries else entries ++ map (offered_at (line_behind past)) items) b.0 ∙ come ∙ sym (late_begins past k a items free b.0)
  ]
  moved (PutEnd reply) after entries left come are c moves other = absurd (other reply refl)
  moved (TakeEnd reply) after entries left come are c moves other = moves ∙ ap (λ z. drop (length (passed [] reply)) z) come ∙ sym (took past k a reply)
  moved event after entries left come are c moves other = moves ∙ come

  -- and after that one, with the line of what it stored written
  pub moved_put :
      (reply : Reply ℕ) (after : Kept) (entries left : List Offered) → entries ≡ coming past → items_of left ≡ after.inside → Counts capacity k (PutEnd reply) after → MovesSo (PutEnd reply) entries left →
      mark_last (line_behind past) (passed 0 reply) left ≡ coming (PutEnd reply ∷ past)
  moved_put reply after entries left come are c (same, m, moves) = elim c [
    | inl (n, inside, is, open', within, lacks, ends) ↦ (
        let count : ℕ = passed 0 reply in
        let fits : count ≤ n = few (λ z. z) 0 reply n refl within in
        let rest : ℕ = length k.inside - (n - count) in
        let left_is : left ≡ take rest (coming past) =
        first_ones m rest entries left k.inside moves (are ∙ inside_is after _ ends.1) (same_long entries come) (omega arith) ∙ ap (λ z. take rest z) come in
        let long : length left ≡ rest = ap length left_is ∙ length-take-le rest (coming past) (omega (arith, long_coming past k a)) in
        let place : length left - count ≡ length k.inside - n = omega (arith, long, fits, ends.0.0) in
        ap (λ z. take z left ++ map (stored_at (line_behind past)) (drop z left)) place ∙ sym (put_ends past k a reply n inside is fits ends.0.0 left left_is))
    | inr (n, is, none, e) ↦
        ap (λ z. mark_last (line_behind past) z left) (none_passed reply none) ∙ mark_none (line_behind past) left ∙
        all_left entries left come (are ∙ inside_is after _ e) (m, moves) ∙ sym (late_ends past k a reply n is)
  ]

  counted_within : (reply : Reply ℕ) (after : Kept) → Counts capacity k (PutEnd reply) after → (most : ℕ) × CanReply reply (passed 0 reply) most
  counted_within reply after c = grind arith

-- ---- what is remembered

-- what is remembered of a past
pub next_remembers :
    {S O T N B : Type 0} (offered : O → List Offered) (last : T → List Taken) (w next : Witness S O T N B) (capacity : Capacity) (events : List Event) (event : Event) →
    Remembers offered last w capacity events → next.auditor.capacity ≡ w.auditor.capacity → Counts capacity (kept_of offered w) event (kept_of offered next) →
    offered next.auditor.inside.list ≡ coming (event ∷ reverse events) → last next.taken ≡ last_of next.limit (taken (event ∷ reverse events)) →
    next.last_taken ≡ last_taken (event ∷ reverse events) →
    next.ended_at ≡ (if has_ended (event ∷ reverse events) then Some (ended_line (event ∷ reverse events)) else None) →
    next.told_at ≡ (if has_told (event ∷ reverse events) then Some (told_closed_line (event ∷ reverse events)) else None) →
    next.put_at ≡ line_behind (before_put (event ∷ reverse events)) → next.stored_at ≡ line_behind (before_stored (event ∷ reverse events)) →
    Remembers offered last next capacity (events ++ event ∷ [])
next_remembers offered last w next capacity events event r same counts inside taken_is taken_last ended told put_at stored_at_is = grind (arith, reverse, turned, count_more, kept_of)

-- the same with the event stated differently
pub told_so :
    {S O T N B : Type 0} (offered : O → List Offered) (last : T → List Taken) (w : Witness S O T N B) (capacity : Capacity) (events : List Event) (event told : Event) → told ≡ event →
    Remembers offered last w capacity (events ++ event ∷ []) → Remembers offered last w capacity (events ++ told ∷ [])
told_so offered last w capacity events event told e r = subst (λ z. Remembers offered last w capacity (events ++ z ∷ [])) (sym e) r

-- what is kept of the items taken last is unchanged
abbrev pub KeepsTaken : {S O T N B : Type 0} → Witness S O T N B → Witness S O T N B → Type 0
KeepsTaken w next = (next.taken ≡ w.taken) × (next.limit ≡ w.limit) × (next.last_taken ≡ w.last_taken)

pub taken_kept :
    {S O T N B : Type 0} (last : T → List Taken) (w next : Witness S O T N B) (all : List Taken) → KeepsTaken w next → last w.taken ≡ last_of w.limit all → last next.taken ≡ last_of next.limit all
taken_kept last w next all t is = ap last t.0 ∙ is ∙ ap (λ n. last_of n all) (sym t.1)

-- the line of the first of such events
pub first_line : (b : Bool) (line this now : ℕ) (old : Option ℕ) → old ≡ (if b then Some line else None) → this ≡ now → option_or old (Some this) ≡ Some (if b then line else now)
first_line b line this now old e same = grind arith

pub kept_same :
    (inside inside' : List ℕ) (put put' : PutTurn) (take take' : TakeTurn) (shut shut' : Bool) → inside' ≡ inside → put' ≡ put → take' ≡ take → shut' ≡ shut →
    kept inside put take shut ≡ kept inside' put' take' shut'
kept_same inside inside' put put' take take' shut shut' i p t s = grind (arith, take)

-- ---- how many items are taken

taken_more : (event : Event) (past : List Event) → k_of (event ∷ past) ≡ length (items_got event) + k_of past
taken_more event past = grind (arith, length-append, map, length-map)

taken_behind : (events past : List Event) → k_of (reverse events ++ past) ≡ length (all_got events) + k_of past
taken_behind [] past = omega arith
taken_behind (event ∷ events) past = grind (arith, turned_behind, taken_more, length-append, taken_behind events (event ∷ past))

pub taken_all : (events : List Event) (event : Event) → length (all_got (events ++ event ∷ [])) ≡ k_of (reverse events) + length (items_got event)
taken_all events event =
    grind (arith, length (items_got event), length (all_got (events ++ event ∷ [])), reverse events, reverse (events ++ event ∷ []), turned events event, taken_more event (reverse events), taken_behind (events ++ event ∷ []), append-nil (reverse (events ++ event ∷ [])))

module _ {S O T N B : Type 0} {offered : O → List Offered} {last : T → List Taken} {w : Witness S O T N B} {capacity : Capacity} {events : List Event} (r : Remembers offered last w capacity events) where
  pub line_is : {line : ℕ} → length events + 2 ≡ line → line ≡ line_behind (reverse events)
  line_is number = sym number ∙ sym (ap (λ n. n + 2) (length-reverse events))

  pub counted_so : (event : Event) (after : Kept) → Counts (meant w.auditor.capacity) (kept_of offered w) event after → Counts capacity (kept_of offered w) event after
  counted_so event after c = subst (λ z. Counts z (kept_of offered w) event after) r.capacity_is c

  -- the entries after an event on this line
  pub inside_after :
      (event : Event) (line : ℕ) (after : Kept) (left : List Offered) → length events + 2 ≡ line → items_of left ≡ after.inside → Counts (meant w.auditor.capacity) (kept_of offered w) event after →
      Moves (offered_at line) w.auditor.shut event (offered w.auditor.inside.list) left → ((reply : Reply ℕ) → event ≡ PutEnd reply → ⊥) → left ≡ coming (event ∷ reverse events)
  inside_after event line after left number are c moves other =
      moved (reverse events) (kept_of offered w) (agrees_of r) capacity event after (offered w.auditor.inside.list) left r.inside are (counted_so event after c)
      (subst (λ z. Moves (offered_at z) w.auditor.shut event (offered w.auditor.inside.list) left) (line_is number) moves) other

  pub put_after :
      (reply : Reply ℕ) (line : ℕ) (after : Kept) (left : List Offered) → length events + 2 ≡ line → items_of left ≡ after.inside →
      Counts (meant w.auditor.capacity) (kept_of offered w) (PutEnd reply) after → Moves (offered_at line) w.auditor.shut (PutEnd reply) (offered w.auditor.inside.list) left →
      mark_last line (passed 0 reply) left ≡ coming (PutEnd reply ∷ reverse events)
  put_after reply line after left number are c moves =
      grind (arith, line_is number, moved_put (reverse events) (kept_of offered w) (agrees_of r) capacity reply after (offered w.auditor.inside.list) left r.inside are (counted_so (PutEnd reply) after c) moves, reverse events, kept_of offered w, agrees_of r, counted_so (PutEnd reply) after c)

  pub stored_line :
      (reply : Reply ℕ) {line now : ℕ} (after : Kept) → length events + 2 ≡ line → Counts (meant w.auditor.capacity) (kept_of offered w) (PutEnd reply) after → (0 < passed 0 reply → now ≡ line) →
      (passed 0 reply ≡ 0 → now ≡ w.stored_at) → now ≡ line_behind (before_stored (PutEnd reply ∷ reverse events))
  stored_line reply after number c some none = grind (arith, counted_within, reverse, kept_of, agrees_of, counted_so, stored_line_on, line_is)

  -- what is remembered by another witness that keeps the same
  pub still_remembers :
      {S' O' T' N' B' : Type 0} (offered' : O' → List Offered) (last' : T' → List Taken) (next : Witness S' O' T' N' B') → next.auditor.capacity ≡ w.auditor.capacity →
      kept_of offered' next ≡ kept_of offered w → offered' next.auditor.inside.list ≡ offered w.auditor.inside.list → last' next.taken ≡ last w.taken → next.limit ≡ w.limit →
      next.last_taken ≡ w.last_taken → next.ended_at ≡ w.ended_at → next.told_at ≡ w.told_at → next.put_at ≡ w.put_at → next.stored_at ≡ w.stored_at → Remembers offered' last' next capacity events
  still_remembers offered' last' next same keeps inside t m l e d p s = grind (arith, reverse)

  -- what is kept, as an auditor keeps it
  pub audits : Keeps (meant w.auditor.capacity) events (items_of (offered w.auditor.inside.list)) w.auditor.put w.auditor.take w.auditor.shut
  audits = subst (λ z. Keeps z events (items_of (offered w.auditor.inside.list)) w.auditor.put w.auditor.take w.auditor.shut) (sym r.capacity_is) (stands capacity events (kept_of offered w) r.proper r.counted)

  pub refuses :
      (next : Witness S O T N B) (o t : ℕ) (event : Event) (fault : Fault) → Remembers offered last next capacity events → RefusesEvent o fault (meant w.auditor.capacity) events event →
      RefusesNext offered last o t next capacity events event fault
  refuses next o t event fault still f = grind arith

  -- what is remembered after an event on this line, except for the end of a put, if it leaves what is kept besides the
  -- auditor like this
  pub heard :
      {next : Witness S O T N B} {line : ℕ} {told' event : Event} → told' ≡ event → length events + 2 ≡ line → ((reply : Reply ℕ) → event ≡ PutEnd reply → ⊥) →
      next.auditor.capacity ≡ w.auditor.capacity → Counts (meant w.auditor.capacity) (kept_of offered w) told' (kept_of offered next) →
      Moves (offered_at line) w.auditor.shut told' (offered w.auditor.inside.list) (offered next.auditor.inside.list) → last next.taken ≡ last_of next.limit (taken (event ∷ reverse events)) →
      next.last_taken ≡ last_taken (event ∷ reverse events) → next.ended_at ≡ (if has_ended (event ∷ reverse events) then Some (ended_line (event ∷ reverse events)) else None) →
      next.told_at ≡ (if has_told (event ∷ reverse events) then Some (told_closed_line (event ∷ reverse events)) else None) → next.put_at ≡ line_behind (before_put (event ∷ reverse events)) →
      next.stored_at ≡ line_behind (before_stored (event ∷ reverse events)) → Remembers offered last next capacity (events ++ told' ∷ [])
  heard {next} {line} {told'} {event} is number other same counts moves t l e d p s =
      let counts' : Counts (meant w.auditor.capacity) (kept_of offered w) event (kept_of offered next) =
      subst (λ z. Counts (meant w.auditor.capacity) (kept_of offered w) z (kept_of offered next)) is counts in
      let moves' = subst (λ z. Moves (offered_at line) w.auditor.shut z (offered w.auditor.inside.list) (offered next.auditor.inside.list)) is moves in
      told_so offered last next capacity events event told' is
      (next_remembers offered last w next capacity events event r same (counted_so event (kept_of offered next) counts')
      (inside_after event line (kept_of offered next) (offered next.auditor.inside.list) number refl counts' moves' other) t l e d p s)
