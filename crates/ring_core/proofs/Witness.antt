-- A lawful history whose two sides follow their programs: a take finds the ring empty, an item is put, a put finds the ring
-- full, the ring is closed, the item is taken, and a take returns Closed. A write overlaps the first read of the second take.
-- One cell, modulus 3, items of one digit.
use Rattle.std.proofs.Common.{◌≡◌, ◌≢◌, Bool, true, false, Some, None, ◌≤◌, List, [], ◌∷◌, ◌++◌, length, ap, inl, inr, refl, sym, subst, append_assoc, append-nil, arith}
use Rattle.ring_core.proofs.Common.{Side, P, C, Bit, S, R, X, Cell, Shape, IsRead, HasOverlap, IsLawful, Puts, Stored, Full, ArePuts, FollowsPuts, Takes, Empty, ItemAfterClose, Closed, AreTakes}
use Rattle.ring_core.proofs.Common.{FollowsTakes}
use Rattle.bits_core.specs.declared.events.Act.TheVariants.{ReadBegin, ReadEnd, WriteBegin, WriteEnd}
use Rattle.bits_core.specs.declared.events.Access.TheVariants as access
use Rattle.bits_core.specs.declared.events.Event.{Event}
use Rattle.bits_core.specs.Bits.{reader, writer}
use Rattle.bits_core.specs.History.{open_access}
use Rattle.bits_core.specs.Shape.{belongs}
use Rattle.bits_core.specs.Steps.{IsAnswer, MayFollow}
use Rattle.ring_core.specs.Items.{items_put_in, items_taken_in, ToldIn}
use Rattle.ring_core.specs.RunLaws.{FindsEmpty, FindsFull, HasARun}
use Rattle.ring_core.proofs.Examples.{one_cell}
use Rattle.bits_core.proofs.LawLemmas.{empty_is_lawful, lawful_by_one_more}

infixr 10 ◌>>◌
-- each of these events may follow those before it
data EachFollows (shape : Shape) : List Event → List Event → Type 0 where
  no_more : {past : List Event} → EachFollows shape past []
  ◌>>◌ : {past : List Event} {e : Event} {later : List Event} → MayFollow shape past e → EachFollows shape (past ++ e ∷ []) later →
      EachFollows shape past (e ∷ later)

-- so a lawful history stays lawful with them
lawful_by_steps :
    (shape : Shape) (past later : List Event) → IsLawful shape past → EachFollows shape past later →
    IsLawful shape (past ++ later)
lawful_by_steps shape past [] lawful steps = subst (λ (h : List Event). IsLawful shape h) (sym (append-nil past)) lawful
lawful_by_steps shape past (e ∷ later) lawful (step >> steps) =
    grind (arith, append_assoc, lawful_by_steps shape (past ++ e ∷ []) later ((lawful_by_one_more shape past e).1 (lawful, step)) steps)

-- a read of a bit begins
abbrev read : Side → Bit → Event
read side bit = record { side = side; bit = bit; act = ReadBegin }

-- and ends with an answer
abbrev got : Side → Bit → Bool → Event
got side bit answer = record { side = side; bit = bit; act = ReadEnd answer }

-- a write of a bit begins
abbrev write : Side → Bit → Bool → Event
write side bit value = record { side = side; bit = bit; act = WriteBegin value }

-- and ends
abbrev wrote : Side → Bit → Event
wrote side bit = record { side = side; bit = bit; act = WriteEnd }

-- a read may begin when its side has no access open
reading :
    {shape : Shape} {past : List Event} (side : Side) (bit : Bit) → belongs shape bit ≡ true → side ≡ reader bit → open_access side past ≡ None →
    MayFollow shape past (read side bit)
reading side bit in_shape by_reader none_open = grind arith

-- it may end with an answer that is permitted
answered :
    {shape : Shape} {past : List Event} (side : Side) (bit : Bit) (answer : Bool) → belongs shape bit ≡ true → side ≡ reader bit →
    open_access side past ≡ Some (access.Read bit) → IsAnswer past side bit answer → MayFollow shape past (got side bit answer)
answered side bit answer in_shape by_reader reads permitted = grind arith

-- a write may begin when its side has no access open
writing :
    {shape : Shape} {past : List Event} (side : Side) (bit : Bit) (value : Bool) → belongs shape bit ≡ true → side ≡ writer bit →
    open_access side past ≡ None → MayFollow shape past (write side bit value)
writing side bit value in_shape by_writer none_open = grind arith

-- it may end
written :
    {shape : Shape} {past : List Event} (side : Side) (bit : Bit) (value : Bool) → belongs shape bit ≡ true → side ≡ writer bit →
    open_access side past ≡ Some (access.Write bit value) → MayFollow shape past (wrote side bit)
written side bit value in_shape by_writer writes = grind arith

-- the calls of the two sides
abbrev puts : Puts
puts = record { puts = Stored 0 (1 ∷ []) ∷ Full 0 ∷ []; closes = true }

abbrev takes : Takes
takes = record { takes = Empty 0 ∷ ItemAfterClose 0 1 (1 ∷ []) ∷ []; end = Closed 1 1 }

-- The consumer finds the ring empty. The first read of its next take has begun when the producer puts, finds the ring full
-- and closes; then the consumer takes the item, and its next take returns Closed.
abbrev events : List Event
events =
    read C (S 0) ∷ got C (S 0) true ∷ read C X ∷ got C X false ∷ read C (S 0) ∷
    read P (R 0) ∷ got P (R 0) true ∷ write P (Cell 0 0) true ∷ wrote P (Cell 0 0) ∷
    write P (S 1) true ∷ wrote P (S 1) ∷ write P (S 0) false ∷ wrote P (S 0) ∷ read P (R 0) ∷ got P (R 0) true ∷ write P X true ∷ wrote P X ∷
    got C (S 0) true ∷ read C X ∷ got C X true ∷ read C (S 0) ∷ got C (S 0) false ∷ read C (S 1) ∷ got C (S 1) true ∷
    read C (Cell 0 0) ∷ got C (Cell 0 0) true ∷ write C (R 1) true ∷ wrote C (R 1) ∷ write C (R 0) false ∷ wrote C (R 0) ∷
    read C (S 0) ∷ got C (S 0) false ∷ read C (S 1) ∷ got C (S 1) true ∷ read C X ∷ got C X true ∷
    read C (S 0) ∷ got C (S 0) false ∷ read C (S 1) ∷ got C (S 1) true ∷ []

-- they are lawful, one after another: each line is an access, unless another comes between its two events
each_follows : EachFollows one_cell [] events
unfolding one_cell
each_follows =
    reading C (S 0) refl refl refl >> answered C (S 0) true refl refl refl (inr refl) >>
    reading C X refl refl refl >> answered C X false refl refl refl (inr refl) >>
    reading C (S 0) refl refl refl >>
    reading P (R 0) refl refl refl >> answered P (R 0) true refl refl refl (inr refl) >>
    writing P (Cell 0 0) true refl refl refl >> written P (Cell 0 0) true refl refl refl >>
    writing P (S 1) true refl refl refl >> written P (S 1) true refl refl refl >>
    writing P (S 0) false refl refl refl >> written P (S 0) false refl refl refl >>
    reading P (R 0) refl refl refl >> answered P (R 0) true refl refl refl (inr refl) >>
    writing P X true refl refl refl >> written P X true refl refl refl >>
    answered C (S 0) true refl refl refl (inl refl) >>
    reading C X refl refl refl >> answered C X true refl refl refl (inr refl) >>
    reading C (S 0) refl refl refl >> answered C (S 0) false refl refl refl (inr refl) >>
    reading C (S 1) refl refl refl >> answered C (S 1) true refl refl refl (inr refl) >>
    reading C (Cell 0 0) refl refl refl >> answered C (Cell 0 0) true refl refl refl (inr refl) >>
    writing C (R 1) true refl refl refl >> written C (R 1) true refl refl refl >>
    writing C (R 0) false refl refl refl >> written C (R 0) false refl refl refl >>
    reading C (S 0) refl refl refl >> answered C (S 0) false refl refl refl (inr refl) >>
    reading C (S 1) refl refl refl >> answered C (S 1) true refl refl refl (inr refl) >>
    reading C X refl refl refl >> answered C X true refl refl refl (inr refl) >>
    reading C (S 0) refl refl refl >> answered C (S 0) false refl refl refl (inr refl) >>
    reading C (S 1) refl refl refl >> answered C (S 1) true refl refl refl (inr refl) >>
    no_more

-- the producer makes all of its calls, and so does the consumer
puts_are : ArePuts one_cell 0 puts.puts
unfolding one_cell
puts_are = grind arith

puts_follow : FollowsPuts one_cell events puts
unfolding one_cell
puts_follow = record { are = puts_are; events = ([], refl) }

takes_are : AreTakes one_cell 0 takes.takes takes.end
unfolding one_cell
takes_are = grind arith

takes_follow : FollowsTakes one_cell events takes
unfolding one_cell
takes_follow = record { are = takes_are; events = ([], refl) }

-- the first read of the consumer's second take, at places 4 and 17
read_ended : IsRead events C (S 0) 4 17 true
read_ended = record { access = record { event = read C (S 0); at_start = refl; by_side = refl; begins = refl; ends = refl }; ends = refl }

-- a write of its bit begins at place 11 and ends at place 12
overlapped : HasOverlap events (S 0) 4 17
overlapped = record {
  value = false;
  start' = 11;
  stop' = 12;
  write = record { event = write P (S 0) false; at_start = refl; by_side = refl; begins = refl; ends = refl };
  overlap = (λ l. omega (arith, l), λ l. omega (arith, l));
}

-- the first take has the consumer's events 0 to 3, and the second put the producer's events 8 and 9, after one item
finds_empty : FindsEmpty one_cell events takes
unfolding one_cell
finds_empty = (0, 0, 0, 4, record { before = []; after = ItemAfterClose 0 1 (1 ∷ []) ∷ []; among = refl; number = refl; starts = refl; stops = refl }, four)
  where
    four : 4 ≤ 28
    four = omega arith

finds_full : FindsFull one_cell events puts
unfolding one_cell
finds_full = (0, 1, 8, 10, record { before = Stored 0 (1 ∷ []) ∷ []; after = []; among = refl; number = refl; starts = refl; stops = refl }, ten)
  where
    ten : 10 ≤ 12
    ten = omega arith

-- the item is put and taken
same_items : items_taken_in one_cell events takes ≡ items_put_in one_cell events puts
unfolding one_cell
same_items = refl

-- and so some item is
some_item : items_put_in one_cell events puts ≢ []
unfolding one_cell
some_item none = omega (arith, ap length none)

-- the consumer's last take returned Closed
told : ToldIn one_cell events takes
unfolding one_cell
told = grind arith

-- there is a lawful history whose two sides follow their programs, in which all of this came about
pub has-a_run : HasARun
has-a_run = (
  one_cell,
  events,
  puts,
  takes,
  record { lawful = lawful_by_steps one_cell [] events (empty_is_lawful one_cell) each_follows; puts_follow = puts_follow; takes_follow = takes_follow },
  (C, S 0, 4, 17, true, read_ended, overlapped),
  finds_empty,
  finds_full,
  same_items,
  some_item,
  told,
)
