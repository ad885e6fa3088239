-- The main theorem for a history that was found lawful and of the programs.
use Rattle.std.proofs.Common.{◌≡◌, ℕ, Bool, List, length, sym, ap, subst, ◌∙◌, arith}
use Rattle.ring_audit.proofs.Common.{P, C, Event, Shape, first_count}
use Rattle.bits_core.specs.Made.{clock, IsPrefix}
use Rattle.ring_core.specs.Items.{items_put, items_taken}
use Rattle.ring_core.specs.Linear.{IsLinearizableRun}
use Rattle.ring_core.specs.RingLaw.{InEveryRun, RingLaw}
use Rattle.ring_core.specs.RunLaws.{ClosedStays}
use Rattle.ring_audit.specs.Audit.{IsFound, MeetsSentence, Statement, IsFinding, SaysLinearizable, SaysSentence}
use Rattle.ring_core.proofs.OwnEvents.{clock_end}

sentence : InEveryRun RingLaw → ClosedStays → (shape : Shape) (h : List Event) (put taken : List ℕ) (told : Bool) → IsFound shape h put taken told → MeetsSentence shape h put taken told
sentence holds stays shape h put taken told f =
    let law : RingLaw shape h f.puts f.takes = holds shape h f.puts f.takes f.run in
    let put_so : items_put shape first_count f.puts.puts (clock P h (length h)) ≡ put = ap (items_put shape first_count f.puts.puts) (clock_end P h) ∙ sym f.put_is in
    let taken_so : items_taken shape first_count f.takes.takes (clock C h (length h)) ≡ taken = ap (items_taken shape first_count f.takes.takes) (clock_end C h) ∙ sym f.taken_is in
    record {
      prefix = subst (λ l. IsPrefix l put) taken_so (subst (IsPrefix (items_taken shape first_count f.takes.takes (clock C h (length h)))) put_so (law.prefix (length h)));
      all = grind (arith, clock_end);
      stays = λ e h' put' taken' told' begins g. grind arith;
      law = λ puts takes run. holds shape h puts takes run;
    }

pub says_sentence : InEveryRun RingLaw → ClosedStays → (shape : Shape) (h : List Event) (f : Statement) → IsFinding shape h f → SaysSentence shape h f
says_sentence holds stays shape h f found = grind (arith, sentence)

pub says_linearizable : InEveryRun IsLinearizableRun → (shape : Shape) (h : List Event) (f : Statement) → SaysLinearizable shape h f
says_linearizable holds shape h f = grind arith
