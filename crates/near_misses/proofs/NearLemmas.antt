-- A play by a near miss, with one more letter.
use Rattle.std.proofs.Common.{◌≡◌, ◌⊎◌, ◌∙◌, inl, inr, ℕ, suc, ◌+◌, ◌≤◌, length, arith, Bool, true, false, Option, Some, None, List, [], ◌∷◌, ◌++◌, refl, ap, sym, subst, append_assoc, append-nil, ap₂, zero-add}
use Rattle.std.specs.Prelude.{if◌then◌else◌, nat_lt, slice_get}
use Rattle.std.proofs.lemmas.List.{length-append}
use Rattle.bits_core.specs.Lawful.{IsLawful}
use Rattle.bits_core.specs.Shape.{width_of}
use Rattle.bits_core.specs.Memory.{unused}
use Rattle.bits_core.specs.Oracle.{tape_answer, turn}
use Rattle.bits_core.specs.declared.shapes.Shape.{Shape}
use Rattle.ring_player.specs.Actors.{IsAtTurn}
use Rattle.ring_player.proofs.LawLemmas.{TurnsAreByInterval}
use Rattle.ring_player.proofs.Moves.{by_side, not_by}
use Rattle.ring_script.specs.Content.{Content}
use Rattle.near_misses.specs.declared.misses.NearMiss.{NearMiss}
use Rattle.near_misses.specs.declared.plays.NearWorld.{NearWorld}
use Rattle.bits_core.specs.declared.events.Access.{Access}
use Rattle.bits_core.specs.declared.events.Access.TheVariants.{Read, Write}
use Rattle.bits_core.specs.declared.events.Act.{Act}
use Rattle.bits_core.specs.declared.events.Act.TheVariants.{ReadBegin, ReadEnd, WriteBegin, WriteEnd}
use Rattle.bits_core.specs.declared.events.Bit.{Bit}
use Rattle.bits_core.specs.declared.events.Bit.TheVariants.{S, R, X, Cell}
use Rattle.bits_core.specs.declared.events.Event.{Event}
use Rattle.bits_core.specs.declared.events.Side.{Side}
use Rattle.bits_core.specs.declared.events.Side.TheVariants.{P, C}
use Rattle.bits_core.specs.Bits.{begun_access, begun_by, other}
use Rattle.bits_core.specs.History.{open_access}
use Rattle.bits_core.specs.Laws.{OpenChanges}
use Rattle.near_misses.specs.Misses.{IsRowAccess}
use Rattle.near_misses.specs.NearEnds.{IsToldByWrite}
use Rattle.near_misses.specs.declared.rows.Order.{Order}
use Rattle.near_misses.specs.NearPlays.{IsNearPlay, NearAsked, NearBegins, NearEnds, NearMakes, NearStand, NearStands, NearStep, NearStops, asked_by_script, items_told, near_stand_of, near_start, near_starts, near_stopped, with_digit, with_digit_read, with_near_stand, with_read}
use Rattle.near_misses.specs.NearSides.{IsAskedToPut, IsAskedToTake, IsInOpenCall, IsNearReady, IsOpenDue, IsToldAt, NearHas, NearMoves, items_untold, put_stand, take_stand, with_ended}
use Rattle.ring_player.specs.Tellings.{listed}
use Rattle.queue_calls.specs.declared.events.CallEvent.{CallEvent}
use Rattle.queue_calls.specs.declared.events.CallEvent.TheVariants.{PutBegins, CloseBegins, TakeBegins, TakeEnds}
use Rattle.queue_calls.specs.declared.events.Reply.TheVariants.{Passed, Lacked, Shut}

-- ---- the letters

makes_event : (asked : NearAsked) (n : NearStands) (letters : List Side) (s : Side) (h : List Event) (told : List (CallEvent ℕ ℕ)) (taken : List ℕ) (mid : NearStands) (e : Event) (t : Option (CallEvent ℕ ℕ))
    (after : NearStand) → e.side ≡ s → (near_stand_of s mid).stopped ≡ false → NearStep asked s (near_stand_of s mid) e.act e.bit t after → NearMakes asked n letters h told taken mid
    → NearMakes asked n (letters ++ s ∷ []) (h ++ e ∷ []) (told ++ listed t) (taken ++ items_told t after.read) (with_near_stand s after mid)
makes_event asked n [] s h told taken mid e t after side goes step (none, untold, untaken, same) = grind (arith, append-nil)
makes_event asked n (l ∷ letters) s h told taken mid e t after side goes step (inl (e0, later, t0, others, next, further, h_is, told_is, taken_is, side0, goes0, step0, more)) =
    grind (arith, append_assoc, makes_event asked (with_near_stand l next n) letters s later others further mid e t after side goes step more)
makes_event asked n (l ∷ letters) s h told taken mid e t after side goes step (inr (stops, more)) =
    inr (stops, makes_event asked (with_near_stand l (near_stopped (near_stand_of l n)) n) letters s h told taken mid e t after side goes step more)

makes_stop : (asked : NearAsked) (n : NearStands) (letters : List Side) (s : Side) (h : List Event) (told : List (CallEvent ℕ ℕ)) (taken : List ℕ) (mid : NearStands) → NearStops asked s (near_stand_of s mid)
    → NearMakes asked n letters h told taken mid → NearMakes asked n (letters ++ s ∷ []) h told taken (with_near_stand s (near_stopped (near_stand_of s mid)) mid)
makes_stop asked n [] s h told taken mid stops (none, untold, untaken, same) = grind arith
makes_stop asked n (l ∷ letters) s h told taken mid stops (inl (e0, later, t0, others, next, further, h_is, told_is, taken_is, side0, goes0, step0, more)) =
    inl (e0, later, t0, others, next, further, h_is, told_is, taken_is, side0, goes0, step0, makes_stop asked (with_near_stand l next n) letters s later others further mid stops more)
makes_stop asked n (l ∷ letters) s h told taken mid stops (inr (stopped, more)) =
    inr (stopped, makes_stop asked (with_near_stand l (near_stopped (near_stand_of l n)) n) letters s h told taken mid stops more)

pub makes_more : (asked : NearAsked) (n : NearStands) (letters : List Side) (s : Side) (h after : List Event) (told told_after : List (CallEvent ℕ ℕ)) (taken taken_after : List ℕ) (t : Option (CallEvent ℕ ℕ))
    (mid : NearStands) (next : NearStand) → told_after ≡ told ++ listed t → taken_after ≡ taken ++ items_told t next.read → NearMoves asked s h (near_stand_of s mid) t after next
    → NearMakes asked n letters h told taken mid → NearMakes asked n (letters ++ s ∷ []) after told_after taken_after (with_near_stand s next mid)
makes_more asked n letters s h after told told_after taken taken_after t mid next told_is taken_is (inl (e, is, side, goes, step)) made = grind (arith, makes_event)
makes_more asked n letters s h after told told_after taken taken_after t mid next told_is taken_is (inr (is, untold, none, stops, next_is)) made = grind (arith, append-nil, makes_stop)

-- ---- the items

-- a side that has read none records none
pub none_told : (t : Option (CallEvent ℕ ℕ)) → items_told t [] ≡ []
none_told (Some (TakeEnds (Passed k))) = refl
none_told t = refl

-- the items that an event records and those that are read and not recorded are at most this many more than before
abbrev HoldsMore : (before : NearStand) (t : Option (CallEvent ℕ ℕ)) (after : NearStand) (more : ℕ) → Type 0
HoldsMore before t after more = length (items_told t after.read) + items_untold after ≤ items_untold before + more

begins_held : (asked : NearAsked) (before : NearStand) (t : Option (CallEvent ℕ ℕ)) (after : NearStand) → NearBegins asked C before t after → HoldsMore before t after 0
begins_held asked before None after (in_call, is) = omega (arith, ap items_untold is)
begins_held asked before (Some (TakeBegins k)) after (a, b, c, d, is) = omega (arith, ap items_untold is)
begins_held asked before t after x = absurd x

-- while a call is under way, nothing that it has read is recorded
untold_is : (n : NearStand) → n.in_call ≡ true → items_untold n ≡ length n.read
untold_is n is = ap (λ (b : Bool). if b then length n.read else 0) is

ends_held : (asked : NearAsked) (before : NearStand) (t : Option (CallEvent ℕ ℕ)) (after : NearStand) → NearEnds asked C before t after → HoldsMore before t after 0
ends_held asked before None after (in_call, is) = omega (arith, ap items_untold is)
ends_held asked before (Some (TakeEnds (Passed k))) after (in_call, a, b, c, is) = omega (arith, ap items_untold is, ap (λ (n : NearStand). length n.read) is, untold_is before in_call)
ends_held asked before (Some (TakeEnds Lacked)) after (in_call, is) = omega (arith, ap items_untold is)
ends_held asked before (Some (TakeEnds Shut)) after (in_call, is) = omega (arith, ap items_untold is)
ends_held asked before t after x = absurd x

-- one more digit completes at most one item
digit_held : (width : ℕ) (v : Bool) (i : ℕ) (n : NearStand) → items_untold (with_digit_read width v i n) ≤ items_untold n + 1
digit_held width v i n = by_last (nat_lt (suc i) width) n.in_call
  where
    by_last : (on in_call : Bool) → items_untold (if on then record n { item = with_digit v i n.item; in_call = in_call } else record n { read = n.read ++ with_digit v i n.item ∷ []; item = 0; in_call = in_call })
        ≤ (if in_call then length n.read else 0) + 1
    by_last true true = omega arith
    by_last true false = omega arith
    by_last false true = omega (arith, length-append n.read (with_digit v i n.item ∷ []))
    by_last false false = omega arith

read_held : (asked : NearAsked) (v : Bool) (b : Bit) (n : NearStand) → items_untold (with_read asked C v b n) ≤ items_untold n + 1
read_held asked v (Cell j i) n = digit_held (width_of asked.shape) v i n
read_held asked v (S i) n = omega arith
read_held asked v (R i) n = omega arith
read_held asked v X n = omega arith

step_held : (asked : NearAsked) (before : NearStand) (act : Act) (b : Bit) (t : Option (CallEvent ℕ ℕ)) (after : NearStand) → NearStep asked C before act b t after → HoldsMore before t after 1
step_held asked before ReadBegin b t after step = omega (arith, begins_held asked before t after step)
step_held asked before (WriteBegin v) b t after step = omega (arith, begins_held asked before t after step)
step_held asked before (ReadEnd v) b t after (step, told) = omega (arith, ends_held asked (with_read asked C v b before) t after step, read_held asked v b before)
step_held asked before WriteEnd b t after (step, told) = omega (arith, ends_held asked before t after step)

pub moves_held : (asked : NearAsked) (h : List Event) (before : NearStand) (t : Option (CallEvent ℕ ℕ)) (after : List Event) (next : NearStand) → NearMoves asked C h before t after next
    → length (items_told t next.read) + items_untold next ≤ items_untold before + 1
moves_held asked h before t after next (inl (e, is, side, goes, step)) = step_held asked before e.act e.bit t next step
moves_held asked h before t after next (inr (is, untold, none, stops, next_is)) = grind arith

-- ---- what a side has open

begins_in_call : (asked : NearAsked) (s : Side) (before : NearStand) (t : Option (CallEvent ℕ ℕ)) (after : NearStand) → before.stopped ≡ false → NearBegins asked s before t after
    → (after.in_call ≡ true) × (after.stopped ≡ false)
begins_in_call asked P before None after goes (in_call, is) = (ap (λ (x : NearStand). x.in_call) is ∙ in_call, ap (λ (x : NearStand). x.stopped) is ∙ goes)
begins_in_call asked C before None after goes (in_call, is) = (ap (λ (x : NearStand). x.in_call) is ∙ in_call, ap (λ (x : NearStand). x.stopped) is ∙ goes)
begins_in_call asked P before (Some (PutBegins k)) after goes (a, b, c, d, is) = (ap (λ (x : NearStand). x.in_call) is, ap (λ (x : NearStand). x.stopped) is ∙ goes)
begins_in_call asked P before (Some CloseBegins) after goes (a, b, c, d, is) = (ap (λ (x : NearStand). x.in_call) is, ap (λ (x : NearStand). x.stopped) is ∙ goes)
begins_in_call asked C before (Some (TakeBegins k)) after goes (a, b, c, d, is) = (ap (λ (x : NearStand). x.in_call) is, ap (λ (x : NearStand). x.stopped) is ∙ goes)
begins_in_call asked s before t after goes x = absurd x

step_in_call : (asked : NearAsked) (s : Side) (before : NearStand) (act : Act) (b : Bit) (t : Option (CallEvent ℕ ℕ)) (after : NearStand) (access : Access) → before.stopped ≡ false
    → begun_access b act ≡ Some access → NearStep asked s before act b t after → (after.in_call ≡ true) × (after.stopped ≡ false)
step_in_call asked s before ReadBegin b t after access goes begun step = begins_in_call asked s before t after goes step
step_in_call asked s before (WriteBegin v) b t after access goes begun step = begins_in_call asked s before t after goes step
step_in_call asked s before (ReadEnd v) b t after access goes begun step = absurd (cc)
step_in_call asked s before WriteEnd b t after access goes begun step = absurd (cc)

pub moves_open : OpenChanges → (asked : NearAsked) (s : Side) (h : List Event) (before : NearStand) (t : Option (CallEvent ℕ ℕ)) (after : List Event) (next : NearStand)
    → NearMoves asked s h before t after next → IsInOpenCall s after next
moves_open changes asked s h before t after next (inl (e, is, side, goes, step)) access opened = grind (arith, by_side, step_in_call)
moves_open changes asked s h before t after next (inr (is, untold, none, stops, next_is)) access opened = absurd (none_some access (sym none ∙ ap (open_access s) (sym is) ∙ opened))
  where
    none_some : (a : Access) → None ≡ Some a → ⊥
    none_some a e = absurd (cc)

pub moves_other : OpenChanges → (asked : NearAsked) (s : Side) (h : List Event) (before : NearStand) (t : Option (CallEvent ℕ ℕ)) (after : List Event) (next stand : NearStand)
    → NearMoves asked s h before t after next → IsInOpenCall (other s) h stand → IsInOpenCall (other s) after stand
moves_other changes asked s h before t after next stand (inl (e, is, side, goes, step)) was access opened =
    was access (sym (changes (other s) h e ∙ ap (λ (b : Bool). if b then begun_by e else open_access (other s) h) (not_by s e side)) ∙ ap (open_access (other s)) (sym is) ∙ opened)
moves_other changes asked s h before t after next stand (inr (is, untold, none, stops, next_is)) was access opened = was access (ap (open_access (other s)) (sym is) ∙ opened)

-- the states of both sides, and that one side's step leaves the other unchanged
abbrev pub stands_of : {E T I : Type 0} → NearWorld E T I → NearStands
stands_of w = record { putting = put_stand w.putter; taking = take_stand w.taker }

abbrev pub IsStepOf : Side → (before after : NearStands) → Type 0
IsStepOf s before after = with_near_stand s (near_stand_of s after) before ≡ after

-- an access that either side has open after one side's step is one of its call under way
pub both_open : OpenChanges → (asked : NearAsked) (s : Side) (h : List Event) (before : NearStands) (t : Option (CallEvent ℕ ℕ)) (h' : List Event) (after : NearStands) → IsStepOf s before after
    → NearMoves asked s h (near_stand_of s before) t h' (near_stand_of s after) → IsInOpenCall P h before.putting → IsInOpenCall C h before.taking
    → IsInOpenCall P h' after.putting × IsInOpenCall C h' after.taking
both_open changes asked P h before t h' after same moves put take = grind (arith, moves_open, moves_other)
both_open changes asked C h before t h' after same moves put take = grind (arith, moves_other, moves_open)

-- what the letters have made, with one side's step
pub has_more : {E T I : Type 0} (told : T → List (CallEvent ℕ ℕ)) (items : I → List ℕ) (asked : NearAsked) (letters : List Side) (oracle : List Bool) (s : Side) (w w' : NearWorld E T I) (t : Option (CallEvent ℕ ℕ))
    → IsStepOf s (stands_of w) (stands_of w') → told w'.told ≡ told w.told ++ listed t → items w'.taken ≡ items w.taken ++ items_told t (near_stand_of s (stands_of w')).read
    → NearMoves asked s w.memory.events (near_stand_of s (stands_of w)) t w'.memory.events (near_stand_of s (stands_of w')) → IsAskedToPut w'.putter asked → IsAskedToTake w'.taker asked
    → IsAtTurn (turn oracle) w'.memory.events (tape_answer w'.oracle) → NearHas told items asked letters oracle w → NearHas told items asked (letters ++ s ∷ []) oracle w'
has_more told items asked letters oracle s w w' t same told_is items_is moves to_put to_take turns has =
    grind (arith, makes_more asked near_starts letters s w.memory.events w'.memory.events (told w.told) (told w'.told) (items w.taken) (items w'.taken) t (stands_of w) (near_stand_of s (stands_of w')) told_is items_is moves has.made)

-- if a side has nothing open, all that it has open is due
pub none_due : (due : Access → Type 0) → (s : Side) (h : List Event) → open_access s h ≡ None → IsOpenDue s h due
none_due due s h none a opened = absurd (none_some (sym none ∙ opened))
  where
    none_some : None ≡ Some a → ⊥
    none_some e = absurd (cc)

-- the other side's event leaves what a side has open
pub other_due : (due : Access → Type 0) → OpenChanges → (asked : NearAsked) (s : Side) (h : List Event) (before : NearStand) (t : Option (CallEvent ℕ ℕ)) (after : List Event) (next : NearStand)
    → NearMoves asked s h before t after next → IsOpenDue (other s) h due → IsOpenDue (other s) after due
other_due due changes asked s h before t after next (inl (e, is, side, goes, step)) was access opened =
    was access (sym (changes (other s) h e ∙ ap (λ (b : Bool). if b then begun_by e else open_access (other s) h) (not_by s e side)) ∙ ap (open_access (other s)) (sym is) ∙ opened)
other_due due changes asked s h before t after next (inr (is, untold, none, stops, next_is)) was access opened = was access (ap (open_access (other s)) (sym is) ∙ opened)

-- the producer reads no items
pub put_unread : (asked : NearAsked) (access : Access) (v : Bool) (n : NearStand) → with_ended asked P access v n ≡ n
put_unread asked (Read b) v n = refl
put_unread asked (Write b w) v n = refl

-- a write of a bit of the consumer's count, which was due, ends nothing or its take
pub row_told : (miss : NearMiss) (order : Order) (bits : List Bool) (value : ℕ) (access : Access) (v : Bool) (told : Option (CallEvent ℕ ℕ)) (taken : ℕ) → IsRowAccess C order bits value (Some access)
    → (told ≡ None) ⊎ (told ≡ Some (TakeEnds (Passed taken))) → IsToldAt miss access v told
row_told miss order bits value (Write b w) v told taken (i, is, due) (inl none) = subst (λ (x : Bit). IsToldByWrite miss x told) (sym is) (inl none)
row_told miss order bits value (Write b w) v told taken (i, is, due) (inr some) = subst (λ (x : Bit). IsToldByWrite miss x told) (sym is) (inr (taken, some))
row_told miss order bits value (Read b) v told taken x way = absurd x

-- ---- at the start and at the end

none_opens : (s : Side) (h : List Event) (stand : NearStand) → h ≡ [] → IsInOpenCall s h stand
none_opens s h stand none access opened = absurd (none_some s access (ap (open_access s) (sym none) ∙ opened))
  where
    none_some : (t : Side) (a : Access) → open_access t [] ≡ Some a → ⊥
    none_some P a e = absurd (cc)
    none_some C a e = absurd (cc)

turns_begin : (turns answers : ℕ → Bool) (h : List Event) → h ≡ [] → ((i : ℕ) → answers i ≡ turns i) → IsAtTurn turns h answers
turns_begin turns answers h none same = subst (λ (x : List Event). IsAtTurn turns x answers) (sym none) (record {
  answered = λ place e v at ends flickers. absurd (no_place place e at);
  left = λ i. same i ∙ ap turns (sym (zero-add i));
})
  where
    no_place : (place : ℕ) (e : Event) → slice_get [] place ≡ Some e → ⊥
    no_place place e at = absurd (cc)

pub ready_at_first : {E T I : Type 0} (w : NearWorld E T I) (shape : Shape) (room : ℕ) → w.memory ≡ unused shape room → w.putter.shape ≡ shape → w.taker.shape ≡ shape → IsNearReady w
ready_at_first w shape room fresh put_is take_is = grind (arith, none_opens, none_due)

pub has_at_first : {E T I : Type 0} (told : T → List (CallEvent ℕ ℕ)) (items : I → List ℕ) (w : NearWorld E T I) (shape : Shape) (room : ℕ) (asked : NearAsked) (oracle : List Bool) → w.memory ≡ unused shape room
    → told w.told ≡ [] → items w.taken ≡ [] → put_stand w.putter ≡ near_start → take_stand w.taker ≡ near_start → IsAskedToPut w.putter asked → IsAskedToTake w.taker asked
    → ((i : ℕ) → tape_answer w.oracle i ≡ turn oracle i) → NearHas told items asked [] oracle w
has_at_first told items w shape room asked oracle fresh untold untaken put_is take_is to_put to_take same = grind (arith, ap₂, turns_begin)

pub near_play : {E T I : Type 0} (told : T → List (CallEvent ℕ ℕ)) (items : I → List ℕ) (w : NearWorld E T I) (miss : NearMiss) (script : Content) (letters : List Side) (h : List Event) → TurnsAreByInterval
    → w.memory.shape ≡ script.shape → h ≡ w.memory.events → IsLawful w.memory.shape w.memory.events → NearHas told items (asked_by_script miss script) letters script.oracle w
    → IsNearPlay miss script letters h (told w.told) (items w.taken)
near_play told items w miss script letters h law shape_is h_is lawful has = grind arith
