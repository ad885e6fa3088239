-- What is read from the finding of an audit of the ring.
use Rattle.std.specs.Prelude.{◌≡◌, ℕ, ◌+◌, ◌++◌, Bool, if◌then◌else◌, List, codes, decimal, length}
use Rattle.bits_core.specs.Faults.{kind_words}
use Rattle.bits_core.specs.declared.faults.Kind.{Kind}
use Rattle.bits_core.specs.declared.events.Event.{Event}
use Rattle.bits_core.specs.declared.shapes.Shape.{Shape}
use Rattle.ring_audit.specs.Audit.{IsFound, Statement, Lawful, Fault}

-- by calls that both sides follow, this many more items were put than taken
pub record HasLeft (shape : Shape) (events : List Event) (left : ℕ) : Type 0 where
  pub put : List ℕ
  pub taken : List ℕ
  pub told : Bool
  pub found : IsFound shape events put taken told
  pub left_is : length taken + left ≡ length put

-- the text for a history
abbrev pub history_words : (put taken : ℕ) → List ℕ → List ℕ
history_words put taken end = codes "a history of the ring: " ++ decimal put ++ codes " put, " ++ decimal taken ++ codes " taken, " ++ end

-- the text for a fault
abbrev pub fault_words : ℕ → Kind → List ℕ
fault_words place kind = codes "event " ++ (decimal place ++ (codes " is at fault: " ++ kind_words kind))

-- the text of a finding
abbrev pub sentence : Statement → List ℕ
sentence (Lawful put taken told) = history_words (length put) (length taken) (if told then codes "closed" else codes "open")
sentence (Fault place kind) = fault_words place kind
