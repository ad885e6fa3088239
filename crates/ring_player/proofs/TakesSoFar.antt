-- What the consumer's actor has taken in its events so far.
use Rattle.std.proofs.Common.{◌≡◌, ℕ, ◌+◌, ◌*◌, ◌<◌, ◌≤◌, Bool, true, false, Option, Some, None, List, [], ◌∷◌, ◌++◌, length, refl, sym, ap, subst, ◌∙◌, append-nil, length-append, arith}
use Rattle.ring_player.proofs.Common.{C, Access, Shape, Made, answered, events_of, ConsumerState, is_taking, first_count, all_taken, Tells, events_in, empties, takes_over, TakeActorStands, so_far}
use Rattle.ring_player.proofs.Common.{wanted_at, Content, events_of-append, length-events}
use Rattle.ring_core.specs.ConsumerCalls.{ends_closed}
use Rattle.ring_core.specs.Takes.{AreTakes, Closed, count_after, End, Open, end_phrase, take_phrase, take_phrases, take_program, taken_in, Takes}
use Rattle.ring_player.specs.SoFar.{TakenSoFar}
use Rattle.ring_core.proofs.Machines.TakeCalls.{closed_tells}
use Rattle.ring_core.proofs.Readings.Over.{calls_all_over, over-under_way, taken-over, takes_total}
use Rattle.ring_player.proofs.Moves.{begins-trans, no_open, so_far_begins, so_far_length}
use Rattle.ring_player.proofs.Nexts.{IsNextTake, NextTake as NextOf}
use Rattle.ring_player.proofs.TakeLists.{all_are, empties_few}
use Rattle.ring_player.proofs.Takings.{next_in}

pub taken_so_far :
    (script : Content) (p : ConsumerState) (taken : List ℕ) (told : Bool) (empty : ℕ) (list : List Made) (o due : Option Access) → TakeActorStands script p taken told empty list o → NextOf p due →
    ((a : Access) → o ≡ Some a → due ≡ Some a) → TakenSoFar script.shape (so_far C list o) taken told empty
taken_so_far script p taken told empty list o due s next is_due = by_due due is_due (is_taking p) (next_in script p taken told empty list o due s next)
  where
    calls : Takes
    calls = s.calls

    shape : Shape
    shape = script.shape

    program-parts : (takes : Takes) → length (take_program shape takes) ≡ length (take_phrases shape first_count takes.takes) + length (end_phrase takes.end)
    program-parts takes = length-append (take_phrases shape first_count takes.takes) (end_phrase takes.end)

    calls_are : AreTakes shape 0 calls.takes calls.end
    calls_are = subst (λ (t : Shape). AreTakes t 0 calls.takes calls.end) s.same_shape s.there.are

    tells_if : (end : End) → Tells end → ends_closed end ≡ true
    tells_if Open t = absurd t
    tells_if (Closed seen again) t = refl

    over : events_in (take_phrases shape first_count calls.takes) ≤ length (so_far C list o) → takes_over shape first_count calls.takes (length (so_far C list o)) ≡ calls.takes
    over l = calls_all_over (take_phrase shape) (count_after shape) (take_phrases shape) (takes_total shape) first_count calls.takes (length (so_far C list o)) l

    by_due : (due : Option Access) → ((a : Access) → o ≡ Some a → due ≡ Some a) → (taking : Bool) → IsNextTake shape (wanted_at script (taken_in 0 calls.takes)) calls taking list due → TakenSoFar shape (so_far C list o) taken told empty
    by_due None f false whole =
        let none : o ≡ None = no_open o f in
        let es : so_far C list o ≡ events_of C (take_program shape calls) = ap (so_far C list) none ∙ ap (events_of C) whole in
        let size : length (so_far C list o) ≡ 2 * length (take_program shape calls) = ap length es ∙ length-events C (take_program shape calls) in
        record {
          takes = calls;
          are = calls_are;
          begins = ([], append-nil (so_far C list o) ∙ es);
          items = taken-over shape first_count calls.takes (length (so_far C list o)) ∙ ap all_taken (over (omega (arith, size, program-parts calls))) ∙ sym s.taken_is;
          over = ap empties (over (omega (arith, size, program-parts calls))) ∙ sym s.empty_is;
          ended = ap all_taken (over (omega (arith, size, program-parts calls))) ∙ sym s.taken_is;
          tells = (λ t. (closed_tells calls.end (sym s.told_is ∙ t), omega (arith, size)), λ t. s.told_is ∙ tells_if calls.end t.0);
        }
    by_due None f true next = absurd next
    by_due (Some a) f false next = absurd next
    by_due (Some a) f true next =
        let (more, has, (rest, e)) = next true (λ l. refl) in
        let longer : length list < length (take_program shape more) = omega (arith, ap length e, length-append (list ++ answered a true ∷ []) rest, length-append list (answered a true ∷ [])) in
        let open_tells_not : told ≡ false = s.told_is ∙ ap ends_closed has.not_over in
        let over_is : takes_over shape first_count more.takes (length (so_far C list o)) ≡ calls.takes =
        over-under_way shape _ calls more (length (so_far C list o)) has (omega (arith, s.long, program-parts calls, so_far_length)) (omega (arith, longer, so_far_length)) in
        record {
          takes = more;
          are = has.are;
          begins = begins-trans (so_far C list o) (events_of C (list ++ answered a true ∷ [])) (events_of C (take_program shape more)) (so_far_begins C list o a true f)
              (events_of C rest, sym (events_of-append C (list ++ answered a true ∷ []) rest) ∙ ap (events_of C) e);
          items = taken-over shape first_count more.takes (length (so_far C list o)) ∙ ap all_taken over_is ∙ sym s.taken_is;
          over = ap empties over_is ∙ sym s.empty_is;
          ended = ap all_taken over_is ∙ sym s.taken_is;
          tells = (λ t. absurd (true_false (sym t ∙ open_tells_not)), λ t. absurd (omega (arith, t.1, longer, so_far_length)));
        }
      where
        true_false : true ≡ false → ⊥
        true_false e = absurd (cc)

-- it has taken no more than the script asks for
pub taken_few :
    (script : Content) (p : ConsumerState) (taken : List ℕ) (told : Bool) (empty : ℕ) (list : List Made) (o : Option Access) → TakeActorStands script p taken told empty list o → length taken ≤ script.takes
taken_few script p taken told empty list o s = omega (arith, s.few, ap length s.taken_is, all_are 0 s.calls.takes)

-- no more takes found the ring empty than there are accesses
pub empty_few :
    (script : Content) (p : ConsumerState) (taken : List ℕ) (told : Bool) (empty : ℕ) (list : List Made) (o : Option Access) → TakeActorStands script p taken told empty list o → empty ≤ length list
empty_few script p taken told empty list o s = grind (arith, empties_few, length-append)
