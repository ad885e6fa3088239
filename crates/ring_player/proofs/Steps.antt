-- What one step of a side does.
use Rattle.std.proofs.Common.{◌≡◌, ℕ, suc, ◌<◌, Bool, true, false, Option, Some, None, List, [], ◌∷◌, ◌++◌, length, refl, sym, ap, subst, ◌∙◌, append_assoc, append-nil, length-append, arith}
use Rattle.std.specs.Prelude.{if◌then◌else◌, ◌^◌}
use Rattle.ring_player.proofs.Common.{Side, P, C, Bit, Access, ReadEnd, Event, open_access, IsLawful, Shape, modulus_of, so_far, IsMove, IsPlaying, IsProgram, Content, length-events}
use Rattle.bits_core.specs.declared.events.Access.TheVariants as access
use Rattle.bits_core.specs.Bits.{begun_by, other}
use Rattle.bits_core.proofs.LawLemmas.{open_changes}
use Rattle.bits_core.specs.Made.{Made, Read, answered, end_event, events_of, subhistory}
use Rattle.bits_core.specs.Open.{bit_of}
use Rattle.register_core.specs.Row.{row_bit}
use Rattle.register_core.specs.ScanState.{row_read_by, zero_reads}
use Rattle.ring_core.specs.Calls.{EndsInZeros, LastBitIsDue}
use Rattle.ring_core.specs.RunLaws.{NeverMisses}
use Rattle.register_core.proofs.ScanMachine.{length-zeros}
use Rattle.ring_player.proofs.Moves.{by_side, events-more, open_not_done, own_by, own_other, so_far_length}
use Rattle.ring_audit.proofs.Rooms.{length-own as own-length}
use Rattle.ring_core.proofs.LawLemmas.{last_bit_is_one_puts, last_bit_is_one_takes}

abbrev pub Stands : Type 1
Stands = List Made → Option Access → Type 0

pub open_by : (s : Side) (h : List Event) (e : Event) → e.side ≡ s → open_access s (h ++ e ∷ []) ≡ begun_by e
open_by s h e by = open_changes s h e ∙ ap (λ t. if t then begun_by e else open_access s h) (by_side s e by)

none_some : {A : Type 0} {G : Type 0} (a : A) → None ≡ Some a → G
none_some a p = absurd (cc)

-- the side's state, by the access that it has open
pub playing :
    (s : Side) (h : List Event) (due : Option Access) (stands : Stands) (list : List Made) (o : Option Access) → open_access s h ≡ o → stands list o → subhistory s h ≡ so_far s list o →
    ((a : Access) → o ≡ Some a → due ≡ Some a) → IsPlaying s h due stands
playing s h due stands list o e there own_is is_due = grind arith

pub there_with : (s : Side) (h : List Event) (due : Option Access) (stands : Stands) (o : Option Access) → (p : IsPlaying s h due stands) → open_access s h ≡ o → stands p.list o
there_with s h due stands o p e = subst (stands p.list) e p.there

pub own_with : (s : Side) (h : List Event) (due : Option Access) (stands : Stands) (o : Option Access) → (p : IsPlaying s h due stands) → open_access s h ≡ o → subhistory s h ≡ so_far s p.list o
own_with s h due stands o p e = p.own_is ∙ ap (so_far s p.list) e

-- an actor whose side makes no step
pub playing_on : (s : Side) (h : List Event) (due due' : Option Access) (stands stands' : Stands) → IsPlaying s h due stands → due' ≡ due → ((list : List Made) (o : Option Access) → stands list o → stands' list o) → IsPlaying s h due' stands'
playing_on s h due due' stands stands' p same on = record { list = p.list; there = on p.list (open_access s h) p.there; own_is = p.own_is; is_due = λ a e. same ∙ p.is_due a e }

pub reading : (found o : Option Access) (a : Access) (b : Bit) → found ≡ o → found ≡ Some a → a ≡ access.Read b → o ≡ Some (access.Read (bit_of o))
reading found o a b same is read = grind arith

pub writing : (found o : Option Access) (a : Access) (b : Bit) (v : Bool) → found ≡ o → found ≡ Some a → a ≡ access.Write b v → o ≡ Some (access.Write (bit_of o) v)
writing found o a b v same is write = grind arith

-- the actor, which has made room, ends the access that its side has open
pub after_end :
    (s : Side) (h h' : List Event) (due mid due' : Option Access) (stands between stands' : Stands) (a : Access) (v : Bool) (e : Event) → IsPlaying s h due stands →
    mid ≡ due → ((list : List Made) (o : Option Access) → stands list o → between list o) → open_access s h ≡ Some a → h' ≡ h ++ e ∷ [] → e ≡ end_event s (answered a v) → e.side ≡ s → begun_by e ≡ None →
    ((list : List Made) (access : Access) → mid ≡ Some access → between list (Some access) → stands' (list ++ answered access v ∷ []) None) → IsPlaying s h' due' stands'
after_end s h h' due mid due' stands between stands' a v e p same on o is end by ends moves =
    subst (λ (t : List Event). IsPlaying s t due' stands') (sym is)
    (playing s (h ++ e ∷ []) due' stands' (p.list ++ answered a v ∷ []) None (open_by s h e by ∙ ends)
    (moves p.list a (same ∙ p.is_due a o) (on p.list (Some a) (there_with s h due stands (Some a) p o)))
    (own_by s h e by ∙ ap (λ l. l ++ e ∷ []) (own_with s h due stands (Some a) p o) ∙ ap (λ x. so_far s p.list (Some a) ++ x ∷ []) end ∙ sym (events-more s p.list a v))
    (λ b f. none_some b f))

-- a side whose access was open was not done
pub end_move :
    (script : Content) (s : Side) (h h' : List Event) (due : Option Access) (stands : Stands) (a : Access) (e : Event) → IsPlaying s h due stands → open_access s h ≡ Some a → h' ≡ h ++ e ∷ [] →
    e.side ≡ s → IsMove script s true h h'
end_move script s h h' due stands a e p o is by = (e, is, by, open_not_done script s h p.list a (own_with s h due stands (Some a) p o))

-- ---- the last bit of a count is not read as 0

row_same : (s : Side) (i j : ℕ) (m : ℕ) → suc i ≡ m → suc j ≡ m → row_read_by s i ≡ row_read_by s j
row_same s i j m e f = let same : i ≡ j = omega (arith, e, f) in ap (row_read_by s) same

-- the other side has not read the last bit as 0 after reads of 0 in all bits below
not_missed :
    (shape : Shape) (s : Side) (h : List Event) (list before : List Made) (b : Bit) (last : ℕ) → NeverMisses s shape h → subhistory (other s) h ≡ events_of (other s) (list ++ Read b false ∷ []) →
    list ≡ before ++ zero_reads (row_bit s) last → suc last ≡ modulus_of shape → b ≡ row_bit s last → ⊥
not_missed shape s h list before b last seen own_is list_is top b_is =
    let zeros : List Made = zero_reads (row_bit s) (modulus_of shape) in
    let made : list ++ Read b false ∷ [] ≡ before ++ (zeros ++ []) = grind (arith, append_assoc, append-nil) in
    absurd (omega (
      arith,
      seen (list ++ Read b false ∷ []) before [] ([], append-nil (subhistory (other s) h) ∙ own_is) made,
      ap length own_is,
      length-events (other s) (list ++ Read b false ∷ []),
      ap length made,
      length-append before (zeros ++ []),
      length-append zeros [],
      length-zeros (row_bit s) (modulus_of shape),
    ))

never_false :
    (script : Content) (s : Side) (h : List Event) (list : List Made) (b : Bit) → IsLawful script.shape h → IsProgram script (other s) (subhistory (other s) h) →
    subhistory s h ≡ events_of s (list ++ Read b false ∷ []) → EndsInZeros script.shape s list → (i : ℕ) → b ≡ row_read_by s i → suc i ≡ modulus_of script.shape → ⊥
never_false script P h list b lawful (calls, are, begins) own_is (before, last, top, list_is) i b_is i_top =
    not_missed script.shape C h list before b last (last_bit_is_one_takes script.shape h calls lawful (record { are = are.0; events = begins })).1 own_is list_is top (b_is ∙ row_same P i last (modulus_of script.shape) i_top top)
never_false script C h list b lawful (calls, are, begins) own_is (before, last, top, list_is) i b_is i_top =
    not_missed script.shape P h list before b last (last_bit_is_one_puts script.shape h calls lawful (record { are = are.are; events = begins })).1 own_is list_is top (b_is ∙ row_same C i last (modulus_of script.shape) i_top top)

pub answers_one :
    (script : Content) (s : Side) (h h' : List Event) (due : Option Access) (stands : Stands) (b : Bit) (v : Bool) → (p : IsPlaying s h due stands) →
    open_access s h ≡ Some (access.Read b) → h' ≡ h ++ record { side = s; bit = b; act = ReadEnd v } ∷ [] → IsLawful script.shape h' → IsProgram script (other s) (subhistory (other s) h) →
    (LastBitIsDue script.shape s due → EndsInZeros script.shape s p.list) → LastBitIsDue script.shape s due → v ≡ true
answers_one script s h h' due stands b true p o is lawful other_is zeros last = refl
answers_one script s h h' due stands b false p o is lawful other_is zeros last =
    let e : Event = record { side = s; bit = b; act = ReadEnd false } in
    let (i, due_is, top) = last in
    let there : subhistory s h' ≡ events_of s (p.list ++ Read b false ∷ []) =
    ap (subhistory s) is ∙ own_by s h e refl ∙ ap (λ l. l ++ e ∷ []) (own_with s h due stands (Some (access.Read b)) p o) ∙ sym (events-more s p.list (access.Read b) false) in
    grind (arith, own_other, never_false)

-- ---- no more accesses than a number can count

-- what has to hold when it ends the access
pub ends_there :
    (s : Side) (h : List Event) (due mid : Option Access) (stands between : Stands) (a : Access) (n : ℕ) → IsPlaying s h due stands → mid ≡ due →
    ((list : List Made) (o : Option Access) → stands list o → between list o) → open_access s h ≡ Some a → n ≡ length h → n < 2 ^ 64 →
    (list : List Made) × (access : Access) × (mid ≡ Some access) × between list (Some access) × (length list < 2 ^ 63)
ends_there s h due mid stands between a n p same on o is few = (
  p.list,
  a,
  same ∙ p.is_due a o,
  on p.list (Some a) (there_with s h due stands (Some a) p o),
  omega (arith, is, few, own-length s h, ap length p.own_is, so_far_length s p.list (open_access s h)),
)
