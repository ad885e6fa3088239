-- What the consumer's actor does with its machine.
use Rattle.std.proofs.Common.{◌≡◌, ◌⊎◌, inl, inr, ℕ, ◌*◌, ◌<◌, ◌≤◌, Bool, true, false, Option, Some, None, List, [], ◌∷◌, ◌++◌, length, refl, sym, ap, subst, ◌∙◌, append-nil, arith}
use Rattle.ring_player.proofs.Common.{C, Access, Shape, Made, answered, events_of, LastBitIsDue, ConsumerState, is_taking, Tells, Closed, End, Open, Take, take_program, taken_after, taken_in, Takes}
use Rattle.ring_player.proofs.Common.{TakeActorStands, so_far, Content, events_of-append}
use Rattle.ring_core.specs.ConsumerCalls.{and_end, and_take, count_taken, ConsumerStands, ConsumerHasMoved, HasTakeMore, IsTakeOf, new_consumer, no_takes}
use Rattle.ring_player.specs.Plays.{AreWantedBy, IsDoneAfter, IsProgram}
use Rattle.ring_player.specs.Wants.{AreTakesOf, wanted_at}
use Rattle.ring_player.proofs.Nexts.{IsNextTake, NextTake as NextOf}
use Rattle.ring_player.proofs.Moves.{events-more, goes_longer, program_beginning, split_last}
use Rattle.ring_player.proofs.TakeLists.{all_are, taken_rises}
use Rattle.ring_core.proofs.Readings.TakesRead.{same_calls}
use Rattle.ring_core.proofs.LawLemmas.{calls_are_first_takes}
use Rattle.ring_core.proofs.OverSpans.CallSpans.{taken_number}

-- ---- takes that the script asks for

-- and one more
wanted-more :
    (script : Content) (k : ℕ) (xs : List Take) (x : Take) → AreWantedBy script k xs → taken_in k xs < script.takes → IsTakeOf script.shape (taken_in k xs) (wanted_at script (taken_in k xs)) x →
    AreWantedBy script k (xs ++ x ∷ [])
wanted-more script k [] x are left of = (left, of, tt)
wanted-more script k (y ∷ xs) x are left of = (are.0, are.1, wanted-more script (taken_after k y) xs x are.2 left of)

pub one_more :
    (script : Content) (calls more : Takes) → AreTakesOf script calls → taken_in 0 calls.takes < script.takes → HasTakeMore script.shape (wanted_at script (taken_in 0 calls.takes)) calls more →
    AreTakesOf script more
one_more script calls more are left has = grind (arith, wanted-more, taken_number)

-- ---- the program

abbrev StandsOn : ConsumerState → ConsumerState → Type 0
StandsOn p p' = (calls : Takes) (made : List Made) → ConsumerStands p calls made → ConsumerStands p' calls made

abbrev pub HasMovedFrom : ConsumerState → ConsumerState → List Made → Access → Bool → Type 0
HasMovedFrom p p' list a v = (calls : Takes) → ConsumerStands p calls list → ConsumerHasMoved p p' calls (list ++ answered a v ∷ [])

pub goes_on :
    (script : Content) (taking : Bool) (calls : Takes) (list : List Made) (a : Access) (v : Bool) → AreTakesOf script calls → (taking ≡ true → taken_in 0 calls.takes < script.takes) →
    IsNextTake script.shape (wanted_at script (taken_in 0 calls.takes)) calls taking list (Some a) → (LastBitIsDue script.shape C (Some a) → v ≡ true) →
    IsProgram script C (events_of C (list ++ answered a v ∷ []))
goes_on script false calls list a v are left next one = absurd next
goes_on script true calls list a v are left next one =
    let (more, has, (rest, e)) = next v one in
    let all = one_more script calls more are (left refl) has in
    (more, (all.are, all.wanted, all.ends), (events_of C rest, sym (events_of-append C (list ++ answered a v ∷ []) rest) ∙ ap (events_of C) e))

idle :
    (shape : Shape) (wanted : ℕ) (calls : Takes) (taking : Bool) (made : List Made) → IsNextTake shape wanted calls taking made None → (taking ≡ false) × (made ≡ take_program shape calls)
idle shape wanted calls taking made next = grind arith

-- if no take is under way the accesses are those of the calls
pub at_rest_is :
    (shape : Shape) (wanted : ℕ) (calls : Takes) (taking : Bool) (made : List Made) (due : Option Access) → taking ≡ false → IsNextTake shape wanted calls taking made due →
    made ≡ take_program shape calls
at_rest_is shape wanted calls taking made due e next = grind arith

pub next_in :
    (script : Content) (p : ConsumerState) (taken : List ℕ) (told : Bool) (empty : ℕ) (list : List Made) (o due : Option Access) → (s : TakeActorStands script p taken told empty list o) → NextOf p due →
    IsNextTake script.shape (wanted_at script (taken_in 0 s.calls.takes)) s.calls (is_taking p) list due
next_in script p taken told empty list o due s next = grind arith

-- the same takes, of a machine that stands after these accesses
stands_with :
    {script : Content} {p : ConsumerState} {taken : List ℕ} {told : Bool} {empty : ℕ} {list : List Made} {o : Option Access} (s : TakeActorStands script p taken told empty list o) (p' : ConsumerState) (o' : Option Access) →
    ConsumerStands p' s.calls list → p'.shape ≡ script.shape → (is_taking p' ≡ true → p'.wanted ≡ wanted_at script (taken_in 0 s.calls.takes)) →
    (is_taking p' ≡ true → taken_in 0 s.calls.takes < script.takes) → IsProgram script C (so_far C list o') → TakeActorStands script p' taken told empty list o'
stands_with s p' o' there shape wants asked program = grind arith

pub begins_access :
    (script : Content) (p : ConsumerState) (taken : List ℕ) (told : Bool) (empty : ℕ) (list : List Made) (due : Option Access) (a : Access) → TakeActorStands script p taken told empty list None → NextOf p due →
    due ≡ Some a → TakeActorStands script p taken told empty list (Some a)
begins_access script p taken told empty list due a s next is =
    let n : IsNextTake script.shape (wanted_at script (taken_in 0 s.calls.takes)) s.calls (is_taking p) list (Some a) = grind (arith, next_in) in
    stands_with s p (Some a) s.there s.same_shape s.wants s.asked (program_beginning script C (so_far C list (Some a)) _
    (subst (λ t. IsProgram script C t) (events-more C list a true) (goes_on script (is_taking p) s.calls list a true s.takes_are s.asked n (λ l. refl))))

-- ---- if an access is due the side is not done

pub unfinished :
    (script : Content) (p : ConsumerState) (taken : List ℕ) (told : Bool) (empty : ℕ) (list : List Made) (due : Option Access) (a : Access) → TakeActorStands script p taken told empty list None →
    NextOf p due → due ≡ Some a → ¬ IsDoneAfter script C (events_of C list)
unfinished script p taken told empty list due a s next is d =
    by_call (is_taking p) refl (subst (λ t. IsNextTake script.shape (wanted_at script (taken_in 0 s.calls.takes)) s.calls (is_taking p) list t) is (next_in script p taken told empty list None due s next))
  where
    not_all : (more : Takes) → d.0 ≡ more → 2 * length (take_program script.shape d.0) < 2 * length (take_program script.shape more) → ⊥
    not_all more same l = absurd (omega (arith, l, ap (λ (t : Takes). length (take_program script.shape t)) same))

    -- the done calls take no more than the calls made
    no_more : (more : Takes) → HasTakeMore script.shape (wanted_at script (taken_in 0 s.calls.takes)) s.calls more → (rest : List Take) → more.takes ≡ d.0.takes ++ rest → (Tells d.0.end → d.0 ≡ more) →
        2 * length (take_program script.shape d.0) < 2 * length (take_program script.shape more) → (d.0.end ≡ Open) → taken_in 0 d.0.takes ≤ taken_in 0 s.calls.takes
    no_more more has rest e whole l is_open = by_more has.is_one_more rest e
      where
        by_more : ((x : Take) × IsTakeOf script.shape (count_taken script.shape s.calls).number (wanted_at script (taken_in 0 s.calls.takes)) x × (more ≡ and_take s.calls x)) ⊎ ((seen again : ℕ) × (more ≡ and_end s.calls seen again)) → (rest : List Take) → more.takes ≡ d.0.takes ++ rest →
            taken_in 0 d.0.takes ≤ taken_in 0 s.calls.takes
        by_more (inl (x, of, more_is)) [] e =
            let takes_same : d.0.takes ≡ more.takes = sym (append-nil d.0.takes) ∙ sym e in
            let ends_same : d.0.end ≡ more.end = is_open ∙ sym (ap (λ (t : Takes). t.end) more_is) in
            absurd (not_all more (same_calls d.0 more takes_same ends_same) l)
        by_more (inl (x, of, more_is)) (y ∷ rest) e = grind (arith, split_last, taken_rises)
        by_more (inr (seen, again, more_is)) rest e =
            omega (arith, taken_rises 0 d.0.takes rest, ap (taken_in 0) (sym e ∙ ap (λ (t : Takes). t.takes) more_is))

    by_end : (more : Takes) → HasTakeMore script.shape (wanted_at script (taken_in 0 s.calls.takes)) s.calls more → (rest : List Take) → more.takes ≡ d.0.takes ++ rest → (Tells d.0.end → d.0 ≡ more) →
        2 * length (take_program script.shape d.0) < 2 * length (take_program script.shape more) → taken_in 0 s.calls.takes < script.takes → (end : End) → d.0.end ≡ end → ⊥
    by_end more has rest e whole l left (Closed seen again) f = not_all more (whole (subst Tells (sym f) tt)) l
    by_end more has rest e whole l left Open f = by_enough d.3
      where
        by_enough : (taken_in 0 d.0.takes ≡ script.takes) ⊎ Tells d.0.end → ⊥
        by_enough (inl all) = absurd (omega (arith, all, left, no_more more has rest e whole l f))
        by_enough (inr told) = absurd (subst Tells f told)

    by_call : (taking : Bool) → is_taking p ≡ taking → IsNextTake script.shape (wanted_at script (taken_in 0 s.calls.takes)) s.calls taking list (Some a) → ⊥
    by_call false e n = absurd n
    by_call true e n =
        let (more, has, (rest, f)) = n true (λ l. refl) in
        let (longer, begins) = goes_longer C list (take_program script.shape d.0) (take_program script.shape more) rest a d.2 f in
        let (rises, whole) = calls_are_first_takes script.shape d.0 more d.1 has.are begins in
        by_end more has rises.0 rises.1 whole longer (s.asked e) d.0.end refl

-- ---- the next take begins

pub began_take :
    (script : Content) (p p' : ConsumerState) (taken : List ℕ) (told : Bool) (empty : ℕ) (list : List Made) → TakeActorStands script p taken told empty list None → length taken < script.takes →
    told ≡ false → (p.told ≡ false → (is_taking p' ≡ true) × (p'.wanted ≡ wanted_at script (length taken))) → p'.shape ≡ p.shape → StandsOn p p' → TakeActorStands script p' taken told empty list None
began_take script p p' taken told empty list s left not_told begun shape on = grind (arith, all_are, stands_with)

pub is_done :
    (script : Content) (p : ConsumerState) (taken : List ℕ) (told : Bool) (empty : ℕ) (list : List Made) → TakeActorStands script p taken told empty list None → NextOf p None →
    (told ≡ true) ⊎ (script.takes ≤ length taken) → IsDoneAfter script C (events_of C list)
is_done script p taken told empty list s next over = grind (arith, idle, all_are)

-- an actor that has made no access
pub new_taking : (script : Content) (p : ConsumerState) → p ≡ new_consumer script.shape → ConsumerStands p no_takes [] → TakeActorStands script p [] false 0 [] None
new_taking script p is there = record {
  calls = no_takes;
  there = there;
  same_shape = ap (λ (t : ConsumerState). t.shape) is;
  taken_is = refl;
  told_is = refl;
  empty_is = refl;
  takes_are = record { are = tt; wanted = tt; ends = λ t. absurd t };
  wants = λ e. absurd (true_false (sym e ∙ ap is_taking is));
  few = omega arith;
  long = omega arith;
  asked = λ e. absurd (true_false (sym e ∙ ap is_taking is));
  program = (no_takes, (tt, tt, λ t. absurd t), (events_of C (take_program script.shape no_takes), refl));
}
  where
    true_false : true ≡ false → ⊥
    true_false e = absurd (cc)

-- if none is due, no take is under way
pub resting :
    (script : Content) (p : ConsumerState) (taken : List ℕ) (told : Bool) (empty : ℕ) (list : List Made) (due : Option Access) → TakeActorStands script p taken told empty list None → NextOf p due → due ≡ None → is_taking p ≡ false
resting script p taken told empty list due s next none = grind (arith, idle, next_in)
