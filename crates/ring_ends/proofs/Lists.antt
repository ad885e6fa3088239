-- Lists of accesses that were made, and their events.
use Rattle.std.proofs.Common.{◌≡◌, ℕ, suc, Bool, false, Some, List, [], ◌∷◌, ◌++◌, length, ap, sym, ◌∙◌, arith, append_assoc, append-nil}
use Rattle.ring_ends.proofs.Common.{length-append, Side, P, C, Access, Event, Shape, modulus_of, open_access, EndsInZeros, Follows, begin_of, ending_event}
use Rattle.bits_core.specs.Bits.{other, begun_by}
use Rattle.bits_core.specs.Lawful.{IsLawful}
use Rattle.bits_core.specs.Made.{Made, Read, answered, events_of, subhistory, IsPrefix}
use Rattle.register_core.specs.ScanState.{zero_reads, row_read_by}
use Rattle.bits_core.proofs.LawLemmas.{open_changes}
use Rattle.ring_core.proofs.LawLemmas.{last_bit_is_one_puts, last_bit_is_one_takes}
use Rattle.ring_seats.proofs.Blocks.{by_begin}
pub use Rattle.register_core.proofs.ScanMachine.{length-zeros}
pub use Rattle.ring_core.proofs.Machines.Following.{events_of-append, length-events as length-events_of}
pub use Rattle.ring_seats.proofs.Histories.{same_side-same}
pub use Rattle.ring_seats.proofs.Moves.{ring_follows}

pub events_begin : (s : Side) (xs ys : List Made) → IsPrefix xs ys → IsPrefix (events_of s xs) (events_of s ys)
events_begin s xs ys b = (events_of s b.0, sym (events_of-append s xs b.0) ∙ ap (events_of s) b.1)

-- the events of one more access
pub events_more : (s : Side) (made : List Made) (a : Access) (v : Bool) → events_of s (made ++ answered a v ∷ []) ≡ (events_of s made ++ begin_of s a ∷ []) ++ ending_event s a v ∷ []
events_more s made a v = grind (arith, append_assoc, events_of-append)

-- a prefix of a prefix
pub shorter : (xs : List Event) (e : Event) (ys : List Event) → IsPrefix (xs ++ e ∷ []) ys → IsPrefix xs ys
shorter xs e ys b = (e ∷ b.0, sym (append_assoc xs (e ∷ []) b.0) ∙ b.1)

-- ---- what is open

begun_begin : (s : Side) (a : Access) → begun_by (begin_of s a) ≡ Some a
begun_begin s a = grind arith

pub begun_open : (s : Side) (list : List Event) (a : Access) → open_access s (list ++ begin_of s a ∷ []) ≡ Some a
begun_open s list a = grind (arith, begun_begin, by_begin, open_changes)

-- ---- the last bit of a count

-- a side never ends reads of 0 in all bits of the other's count, if that one follows its program
pub misses : (shape : Shape) (x : Side) (h : List Event) → IsLawful shape h → Follows shape (other x) (subhistory (other x) h) → (before : List Made)
    → subhistory x h ≡ events_of x (before ++ zero_reads (row_read_by x) (modulus_of shape)) → ⊥
misses shape P h lawful f before is =
    let made : List Made = before ++ zero_reads (row_read_by P) (modulus_of shape) in
    let never = (last_bit_is_one_takes shape h f.0 lawful (record { are = f.1; events = f.2 })).1 in
    let lt = never made before [] ([], append-nil (subhistory P h) ∙ is) (ap (λ (l : List Made). before ++ l) (sym (append-nil (zero_reads (row_read_by P) (modulus_of shape))))) in
    omega (arith, lt, ap length is, length-events_of P made, length-append before (zero_reads (row_read_by P) (modulus_of shape)), length-zeros (row_read_by P) (modulus_of shape))
misses shape C h lawful f before is =
    let made : List Made = before ++ zero_reads (row_read_by C) (modulus_of shape) in
    let never = (last_bit_is_one_puts shape h f.0 lawful (record { are = f.1; events = f.2 })).1 in
    let lt = never made before [] ([], append-nil (subhistory C h) ∙ is) (ap (λ (l : List Made). before ++ l) (sym (append-nil (zero_reads (row_read_by C) (modulus_of shape))))) in
    omega (arith, lt, ap length is, length-events_of C made, length-append before (zero_reads (row_read_by C) (modulus_of shape)), length-zeros (row_read_by C) (modulus_of shape))

-- so the last bit, after reads of 0 in all others, is not read as 0
pub no_zero : (shape : Shape) (x : Side) (h : List Event) → IsLawful shape h → Follows shape (other x) (subhistory (other x) h) → (made : List Made) (i : ℕ) → suc i ≡ modulus_of shape → EndsInZeros shape x made
    → subhistory x h ≡ events_of x (made ++ Read (row_read_by x i) false ∷ []) → ⊥
no_zero shape x h lawful f made i size zeros is =
    let before : List Made = zeros.0 in
    let last : ℕ = zeros.1 in
    let whole : made ++ Read (row_read_by x i) false ∷ [] ≡ before ++ zero_reads (row_read_by x) (modulus_of shape) = grind (arith, append_assoc) in
    misses shape x h lawful f before (is ∙ ap (events_of x) whole)
