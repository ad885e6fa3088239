-- What an audit of a history reports: about its bits, and about the programs of its two sides.
use Rattle.std.specs.Prelude.{◌≡◌, ℕ, suc, ◌+◌, ◌<◌, ◌≤◌, ◌⊎◌, ◌↔◌, Bool, true, false, IsTrue, List, length, take}
use Rattle.bits_core.specs.declared.events.Event.{Event}
use Rattle.bits_core.specs.declared.faults.Kind.{Kind}
use Rattle.bits_core.specs.declared.faults.Kind.TheVariants.{WrongSide, OutOfTurn, NotPermitted, NotProgram}
use Rattle.bits_core.specs.declared.shapes.Shape.{Shape}
use Rattle.bits_core.specs.Shape.{batch_of}
use Rattle.bits_core.specs.Audit.{IsFirstFault}
use Rattle.bits_core.specs.Lawful.{IsLawful}
use Rattle.bits_core.specs.Made.{IsPrefix}
use Rattle.ring_audit.specs.declared.audits.Finding.{Finding}
use Rattle.ring_audit.specs.declared.audits.Finding.TheVariants as findings
use Rattle.ring_audit.specs.declared.audits.Found.{Found}
use Rattle.ring_audit.specs.declared.audits.Found.TheVariants as slots
use Rattle.ring_core.specs.Puts.{Puts}
use Rattle.ring_core.specs.Takes.{Takes}
use Rattle.ring_core.specs.Items.{items_put_in, items_taken_in, ToldIn}
use Rattle.ring_core.specs.Linear.{EachReadingIsLinearizable}
use Rattle.ring_core.specs.RingLaw.{IsRun, RingLaw}

-- the history is lawful and both sides follow their programs
abbrev pub IsOfPrograms : Shape → List Event → Type 0
IsOfPrograms shape h = (puts : Puts) × (takes : Takes) × IsRun shape h puts takes

-- by calls that both sides follow, these items were put and these taken, and a take returned Closed or not
pub record IsFound (shape : Shape) (h : List Event) (put taken : List ℕ) (told : Bool) : Type 0 where
  pub puts : Puts
  pub takes : Takes
  pub run : IsRun shape h puts takes
  pub put_is : put ≡ items_put_in shape h puts
  pub taken_is : taken ≡ items_taken_in shape h takes
  pub told_is : IsTrue told ↔ ToldIn shape h takes

-- the kind of a fault at a place: the program's if the events up to and including it are lawful, otherwise that of the bits
abbrev pub IsKindAt : Shape → List Event → ℕ → Kind → Type 0
IsKindAt shape h place NotProgram = IsLawful shape (take (suc place) h)
IsKindAt shape h place WrongSide = IsFirstFault shape h place WrongSide
IsKindAt shape h place OutOfTurn = IsFirstFault shape h place OutOfTurn
IsKindAt shape h place NotPermitted = IsFirstFault shape h place NotPermitted

-- the events before the place are of the programs, and with the event at it they are not
pub record IsFirstBreak (shape : Shape) (h : List Event) (place : ℕ) (kind : Kind) : Type 0 where
  pub within : place < length h
  pub before : IsOfPrograms shape (take place h)
  pub breaks : ¬ IsOfPrograms shape (take (suc place) h)
  pub kind_is : IsKindAt shape h place kind

-- what a finding states
pub data Statement : Type 0 where
  Lawful : (put taken : List ℕ) (told : Bool) → Statement
  Fault : (place : ℕ) (kind : Kind) → Statement

-- the statement of a finding with its items in lists
abbrev pub statement : {A : Type 0} → Finding A → Statement
statement (findings.Lawful put taken told) = Lawful put.items taken.items told
statement (findings.Fault place kind) = Fault place kind

-- the same for a finding with the items in the first slots
abbrev pub statement_in : List ℕ → List ℕ → Found → Statement
statement_in put taken (slots.Lawful put_count taken_count told) = Lawful (take put_count put) (take taken_count taken) told
statement_in put taken (slots.Fault place kind) = Fault place kind

-- there are no more items than slots
abbrev pub FitsIn : ℕ → ℕ → Found → Type 0
FitsIn put_slots taken_slots (slots.Lawful put taken told) = (put ≤ put_slots) × (taken ≤ taken_slots)
FitsIn put_slots taken_slots (slots.Fault place kind) = Unit {0}

-- In some prefix of the events, which is lawful and of the programs, more items have been taken than there are slots
-- for them, or the items put plus a batch are more than their slots.
pub record HasTooFewSlots (shape : Shape) (h : List Event) (put_slots taken_slots : ℕ) : Type 0 where
  pub until : ℕ
  pub put : List ℕ
  pub taken : List ℕ
  pub told : Bool
  pub found : IsFound shape (take until h) put taken told
  pub short : (put_slots < length put + batch_of shape) ⊎ (taken_slots < length taken)

-- a true statement about a history
abbrev pub IsFinding : Shape → List Event → Statement → Type 0
IsFinding shape h (Lawful put taken told) = IsFound shape h put taken told
IsFinding shape h (Fault place kind) = IsFirstBreak shape h place kind

-- and there is only one
abbrev pub OneFinding : Type 0
OneFinding = (shape : Shape) (h : List Event) (a b : Statement) → IsFinding shape h a → IsFinding shape h b → a ≡ b

-- whether it states that the history is lawful and of the programs
abbrev pub tells_lawful : Statement → Bool
tells_lawful (Lawful put taken told) = true
tells_lawful (Fault place kind) = false

-- The main theorem, if these items were put and taken and a take returned Closed or not: those taken are a prefix of those put;
-- after Closed, all items put have been taken, and no history of the programs that continues this one has more; and however the events
-- are read as calls, the law of the ring holds for these.
pub record MeetsSentence (shape : Shape) (h : List Event) (put taken : List ℕ) (told : Bool) : Type 0 where
  pub prefix : IsPrefix taken put
  pub all : IsTrue told → taken ≡ put
  pub stays :
      IsTrue told → (h' : List Event) (put' taken' : List ℕ) (told' : Bool) → IsPrefix h h' → IsFound shape h' put' taken' told' →
      (put' ≡ put) × (taken' ≡ taken)
  pub law : (puts : Puts) (takes : Takes) → IsRun shape h puts takes → RingLaw shape h puts takes

-- if the statement has lists, they satisfy the main theorem
abbrev pub SaysSentence : Shape → List Event → Statement → Type 0
SaysSentence shape h (Lawful put taken told) = MeetsSentence shape h put taken told
SaysSentence shape h (Fault place kind) = Unit {0}

-- if the statement has lists, the calls are linearizable, however the history is read
abbrev pub SaysLinearizable : Shape → List Event → Statement → Type 0
SaysLinearizable shape h (Lawful put taken told) = EachReadingIsLinearizable shape h
SaysLinearizable shape h (Fault place kind) = Unit {0}
