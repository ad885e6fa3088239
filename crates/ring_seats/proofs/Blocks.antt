-- Complete accesses in a quiet moment: what they may return, and what the bits hold after them.
use Rattle.std.proofs.Common.{arith, ◌≡◌, Bool, true, false, Some, None, List, [], ◌∷◌, ◌++◌, refl, ap, sym, subst, ◌∙◌, append_assoc, append-nil}
use Rattle.ring_seats.proofs.Common.{if◌then◌else◌, unwrap_or, Side, Bit, Event, Shape, IsLawful, MayFollow, IsOpenRight, Follows, IsRing, value_left, held_changes}
use Rattle.std.proofs.lemmas.List.Elements.{filter_map-append}
use Rattle.bits_core.specs.Bits.{other, writer, same_side, same_bit, is_by, value_written}
use Rattle.bits_core.specs.History.{open_access, held, last_value}
use Rattle.bits_core.specs.Made.{Made, Read, Write, access_of, begin_event, end_event, events_of, subhistory}
use Rattle.ring_seats.proofs.Histories.{by_case, same_side-true, either_side, own-mine, own-theirs, open-mine}
use Rattle.ring_seats.proofs.Rights.{AllRight}
use Rattle.ring_seats.proofs.Moves.{ring_more}
use Rattle.bits_core.proofs.MadeLemmas.{begin_begins as begun_begin, begin_by as begin_side, end_begins_none as begun_end}
pub use Rattle.bits_core.proofs.OwnOpen.{by_end}
pub use Rattle.ring_core.proofs.Machines.Following.{events_of-append}
use Rattle.bits_core.proofs.LawLemmas.{open_changes, before_last_changes}

-- a lawful history whose sides follow their programs, with no access open
pub record QuietRing (shape : Shape) (h : List Event) : Type 0 where
  pub ring : IsRing shape h
  pub idle : (x : Side) → open_access x h ≡ None

-- what the bits hold after an access
abbrev pub wrote : (Bit → Bool) → Made → Bit → Bool
wrote bits (Read b v) c = bits c
wrote bits (Write b v) c = (if same_bit c b then v else bits c)

abbrev pub after : (Bit → Bool) → List Made → Bit → Bool
after bits [] = bits
after bits (x ∷ made) = after (wrote bits x) made

-- a read returns what its bit holds
abbrev pub AnswersOne : (Bit → Bool) → Made → Type 0
AnswersOne bits (Read b v) = v ≡ bits b
AnswersOne bits (Write b v) = Unit {0}

abbrev pub Answers : (Bit → Bool) → List Made → Type 0
Answers bits [] = Unit {0}
Answers bits (x ∷ made) = AnswersOne bits x × Answers (wrote bits x) made

pub by_begin : (s : Side) (x : Made) → is_by s (begin_event s x) ≡ true
by_begin s x = grind arith

end_side : (s : Side) (x : Made) → (end_event s x).side ≡ s
end_side s x = grind arith

-- the list that follows a program, cut
pub follows_shorter : (shape : Shape) (x : Side) (xs ys : List Event) → Follows shape x (xs ++ ys) → Follows shape x xs
follows_shorter shape x xs ys h1 = grind (arith, append_assoc)

two : (h : List Event) (a b : Event) → h ++ a ∷ b ∷ [] ≡ (h ++ a ∷ []) ++ b ∷ []
two h a b = sym (append_assoc h (a ∷ []) (b ∷ []))

-- the writes among the events of a list
pub last_append : (v : Bool) (xs ys : List Bool) → last_value v (xs ++ ys) ≡ last_value (last_value v xs) ys
last_append v [] ys = refl
last_append v (x ∷ xs) ys = last_append x xs ys

-- what follows from the bits of two lists that are the same
pub after_at : (made : List Made) (bits bits' : Bit → Bool) (b : Bit) → ((c : Bit) → bits c ≡ bits' c) → after bits made b ≡ after bits' made b
after_at made bits bits' b h1 = grind arith

pub after-append : (xs ys : List Made) (bits : Bit → Bool) (b : Bit) → after bits (xs ++ ys) b ≡ after (after bits xs) ys b
after-append [] ys bits b = refl
after-append (x ∷ xs) ys bits b = after-append xs ys (wrote bits x) b

pub answers_same : (made : List Made) (bits bits' : Bit → Bool) → ((c : Bit) → bits c ≡ bits' c) → Answers bits made → Answers bits' made
answers_same made bits bits' h1 h2 = grind arith

-- the values left by the events of accesses
pub left_by-made : (x : Side) (made : List Made) (list : List Event) (b : Bit) → value_left (list ++ events_of x made) b ≡ after (value_left list) made b
left_by-made x [] list b = ap (λ (l : List Event). value_left l b) (append-nil list)
left_by-made x (m ∷ made) list b = grind (arith, after_at, append_assoc, filter_map-append, last_append, (left_by-made x made (list ++ events_of x (m ∷ [])) b))

not_begin : (s : Side) (x : Made) → is_by (other s) (begin_event s x) ≡ false
not_begin s x = grind arith

not_end : (s : Side) (x : Made) → is_by (other s) (end_event s x) ≡ false
not_end s x = grind arith

-- another side's bits are unchanged
apart : (shape : Shape) (x : Side) (bits : Bit → Bool) (m : Made) (b : Bit) → IsOpenRight shape x (access_of m) → same_side (writer b) x ≡ false → wrote bits m b ≡ bits b
apart shape x bits m b h1 h2 = grind arith

module _ (shape : Shape) (x : Side) where
  begin_may : (h : List Event) (m : Made) → open_access x h ≡ None → IsOpenRight shape x (access_of m) → MayFollow shape h (begin_event x m)
  begin_may h m h1 h2 = grind arith

  begun : (h : List Event) (m : Made) → open_access x (h ++ begin_event x m ∷ []) ≡ Some (access_of m)
  begun h m = open-mine x h (begin_event x m) (by_begin x m) ∙ begun_begin x m

  end_may : (h : List Event) (m : Made) → IsOpenRight shape x (access_of m) → AnswersOne (λ b. held b h) m → MayFollow shape (h ++ begin_event x m ∷ []) (end_event x m)
  end_may h m h1 h2 = grind (arith, before_last_changes, begun, by_begin)

  held_begin : (h : List Event) (m : Made) → IsLawful shape h → ((y : Side) → open_access y h ≡ None) → (b : Bit) → held b (h ++ begin_event x m ∷ []) ≡ held b h
  held_begin h m lawful idle b = grind (arith, held_changes)

  ended : (bits : Bit → Bool) (m : Made) (b : Bit) → unwrap_or (value_written b (Some (access_of m))) (bits b) ≡ wrote bits m b
  ended bits m b = grind arith

  side_of_end : (m : Made) (b : Bit) → is_by (writer b) (end_event x m) ≡ same_side (writer b) x
  side_of_end m b = ap (same_side (writer b)) (end_side x m)

  held_end : (h : List Event) (m : Made) → IsLawful shape (h ++ begin_event x m ∷ []) → IsOpenRight shape x (access_of m) → ((c : Bit) → held c (h ++ begin_event x m ∷ []) ≡ held c h)
      → (b : Bit) → held b ((h ++ begin_event x m ∷ []) ++ end_event x m ∷ []) ≡ wrote (λ c. held c h) m b
  held_end h m lawful r still b = grind (arith, apart, begun, by_case, ended, held_changes, same_side-true, side_of_end)

  -- a quiet history and complete accesses after it
  pub record Blocked (h : List Event) (made : List Made) : Type 0 where
    pub quiet : QuietRing shape (h ++ events_of x made)
    pub bits : (b : Bit) → held b (h ++ events_of x made) ≡ after (λ c. held c h) made b
    pub mine : subhistory x (h ++ events_of x made) ≡ subhistory x h ++ events_of x made
    pub theirs : subhistory (other x) (h ++ events_of x made) ≡ subhistory (other x) h

  theirs_one : (h : List Event) (m : Made) → subhistory (other x) ((h ++ begin_event x m ∷ []) ++ end_event x m ∷ []) ≡ subhistory (other x) h
  theirs_one h m = own-theirs (other x) (h ++ begin_event x m ∷ []) (end_event x m) (not_end x m) ∙ own-theirs (other x) h (begin_event x m) (not_begin x m)

  mine_one : (h : List Event) (m : Made) → subhistory x ((h ++ begin_event x m ∷ []) ++ end_event x m ∷ []) ≡ (subhistory x h ++ begin_event x m ∷ []) ++ end_event x m ∷ []
  mine_one h m = own-mine x (h ++ begin_event x m ∷ []) (end_event x m) (by_end x m) ∙ ap (λ (l : List Event). l ++ end_event x m ∷ []) (own-mine x h (begin_event x m) (by_begin x m))

  idle_one : (h : List Event) (m : Made) → ((y : Side) → open_access y h ≡ None) → (y : Side) → open_access y ((h ++ begin_event x m ∷ []) ++ end_event x m ∷ []) ≡ None
  idle_one h m idle y = grind (arith, begun_end, by_end, either_side, not_begin, not_end, open-mine, open_changes)

  pub block : (made : List Made) (h : List Event) → QuietRing shape h → AllRight shape x made → Answers (λ b. held b h) made → Follows shape x (subhistory x h ++ events_of x made) → Blocked h made
  block [] h q r a f = grind (arith, append-nil)
  block (m ∷ made) h q r a f =
      let e1 : Event = begin_event x m in
      let e2 : Event = end_event x m in
      let h1 : List Event = h ++ e1 ∷ [] in
      let h2 : List Event = h1 ++ e2 ∷ [] in
      let list : List Event = subhistory x h in
      let whole : list ++ (e1 ∷ e2 ∷ events_of x made) ≡ ((list ++ e1 ∷ []) ++ e2 ∷ []) ++ events_of x made = grind (arith, append_assoc) in
      let f2 : Follows shape x (((list ++ e1 ∷ []) ++ e2 ∷ []) ++ events_of x made) = subst (Follows shape x) whole f in
      let f1 : Follows shape x ((list ++ e1 ∷ []) ++ e2 ∷ []) = follows_shorter shape x ((list ++ e1 ∷ []) ++ e2 ∷ []) (events_of x made) f2 in
      let f0 : Follows shape x (list ++ e1 ∷ []) = follows_shorter shape x (list ++ e1 ∷ []) (e2 ∷ []) f1 in
      let may1 : MayFollow shape h e1 = begin_may h m (q.idle x) r.0 in
      let ring1 : IsRing shape h1 = ring_more shape x h e1 (begin_side x m) q.ring may1 f0 in
      let may2 : MayFollow shape h1 e2 = end_may h m r.0 a.0 in
      let ring2 : IsRing shape h2 = ring_more shape x h1 e2 (end_side x m) ring1 may2 (subst (λ (l : List Event). Follows shape x (l ++ e2 ∷ [])) (sym (own-mine x h e1 (by_begin x m))) f1) in
      let bits : ((b : Bit) → held b h2 ≡ wrote (λ c. held c h) m b) = held_end h m ring1.run.lawful r.0 (held_begin h m q.ring.run.lawful q.idle) in
      let quiet : QuietRing shape h2 = record { ring = ring2; idle = idle_one h m q.idle } in
      let rest : Blocked h2 made = block made h2 quiet r.1 (answers_same made (wrote (λ c. held c h) m) (λ b. held b h2) (λ b. sym (bits b)) a.1)
      (subst (λ (l : List Event). Follows shape x (l ++ events_of x made)) (sym (mine_one h m)) f2) in
      let is : h2 ++ events_of x made ≡ h ++ (e1 ∷ e2 ∷ events_of x made) = append_assoc h1 (e2 ∷ []) (events_of x made) ∙ append_assoc h (e1 ∷ []) (e2 ∷ events_of x made) in
      record {
        quiet = subst (QuietRing shape) is rest.quiet;
        bits = λ b. ap (held b) (sym is) ∙ (rest.bits b ∙ after_at made (λ c. held c h2) (wrote (λ c. held c h) m) b bits);
        mine = ap (subhistory x) (sym is) ∙ (rest.mine ∙ (ap (λ (l : List Event). l ++ events_of x made) (mine_one h m) ∙ sym whole));
        theirs = ap (subhistory (other x)) (sym is) ∙ (rest.theirs ∙ theirs_one h m);
      }
