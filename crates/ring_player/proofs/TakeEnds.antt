-- What the consumer's actor keeps when an access ends.
use Rattle.std.proofs.Common.{◌≡◌, ◌⊎◌, inl, inr, ℕ, ◌+◌, ◌<◌, ◌≤◌, Bool, true, false, Option, Some, None, List, [], ◌∷◌, ◌++◌, length, refl, sym, ap, ap₂, subst, ◌∙◌, append-nil, length-append, arith}
use Rattle.ring_player.proofs.Common.{C, Access, Shape, Made, answered, events_of, TakeBatchReply, LastBitIsDue, ConsumerState, due_take, is_taking, empties, Take, take_program, taken_in, Takes}
use Rattle.ring_player.proofs.Common.{TakeActorStands, IsProgram, wanted_at, Content}
use Rattle.ring_core.specs.declared.replies.TakeBatchReply.TheVariants as batch
use Rattle.ring_core.specs.ConsumerCalls.{and_end, and_take, AreItemsOfTake, count_taken, ConsumerStands, HasTakeMore, IsAfterTake, IsReplyToTake, IsTakeOf, items_at_end, reply_at_end, take_batch_reply, take_reply_to, ends_closed}
use Rattle.ring_core.specs.Items.{all_taken, taken_of}
use Rattle.ring_core.proofs.Machines.TakeCalls.{reply-push, items-push}
use Rattle.ring_player.proofs.Nexts.{IsNextTake, NextTake as NextOf}
use Rattle.ring_player.proofs.TakeLists.{empty_in, after_is, all-more, all_are, empties-more, take_within, taken-more}
use Rattle.ring_player.proofs.Takings.{at_rest_is, goes_on, HasMovedFrom, next_in, one_more}

-- what the actor keeps for a reply, by the items that the machine has
abbrev pub kept_of : Option TakeBatchReply → List ℕ → List ℕ
kept_of None items = []
kept_of (Some (batch.Taken count)) items = items
kept_of (Some batch.Empty) items = []
kept_of (Some batch.Closed) items = []

abbrev pub told_by : Option TakeBatchReply → Bool → Bool
told_by None told = told
told_by (Some (batch.Taken count)) told = told
told_by (Some batch.Empty) told = told
told_by (Some batch.Closed) told = true

-- the machine's reply
abbrev pub reply_of : ConsumerState → Option TakeBatchReply
reply_of p = take_batch_reply p.reply p.items

-- a take's reply
abbrev answer_of : Take → Option TakeBatchReply
answer_of x = take_batch_reply (Some (take_reply_to x)) (taken_of x)

kept_is : (x : Take) → kept_of (answer_of x) (taken_of x) ≡ taken_of x
kept_is x = grind arith

told_so : (x : Take) (told : Bool) → told_by (answer_of x) told ≡ told
told_so x told = grind arith

-- what the actor has once the access has ended, by the machine's reply
abbrev pub Ended : Content → (p' : ConsumerState) → (taken : List ℕ) → (told : Bool) → (empty : ℕ) → (list : List Made) → (reply : Option TakeBatchReply) → Type 0
Ended script p' taken told empty list reply =
    TakeActorStands script p' (taken ++ kept_of reply p'.items) (told_by reply told) (empty + empty_in reply) list None × (length (kept_of reply p'.items) ≤ wanted_at script (length taken))

pub ended :
    (script : Content) (p p' : ConsumerState) (taken : List ℕ) (told : Bool) (empty : ℕ) (list : List Made) (due : Option Access) (a : Access) (v : Bool) → TakeActorStands script p taken told empty list (Some a) →
    NextOf p due → due ≡ due_take p → due_take p ≡ Some a → (LastBitIsDue script.shape C (due_take p) → v ≡ true) → HasMovedFrom p p' list a v → p'.shape ≡ p.shape → p'.wanted ≡ p.wanted → (due' : Option Access) → NextOf p' due' →
    Ended script p' taken told empty (list ++ answered a v ∷ []) (reply_of p')
ended script p p' taken told empty list due a v s next due_is is one moved shape same_wanted due' next' =
    let n : IsNextTake script.shape (wanted_at script (taken_in 0 s.calls.takes)) s.calls (is_taking p) list (Some a) = grind (arith, next_in) in
    let one' : LastBitIsDue script.shape C (Some a) → v ≡ true = subst (λ d. LastBitIsDue script.shape C d → v ≡ true) is one in
    let goes : IsProgram script C (events_of C (list ++ answered a v ∷ [])) = goes_on script (is_taking p) s.calls list a v s.takes_are s.asked n one' in
    let (more, there, after) = moved s.calls s.there in
    let after' : IsAfterTake script.shape p.wanted (is_taking p) (is_taking p') s.calls more = subst (λ (t : Shape). IsAfterTake t p.wanted (is_taking p) (is_taking p') s.calls more) s.same_shape after in
    by_call (is_taking p) (is_taking p') refl refl more there after' goes
  where
    by_call :
        (b d : Bool) → is_taking p ≡ b → is_taking p' ≡ d → (more : Takes) → ConsumerStands p' more (list ++ answered a v ∷ []) → IsAfterTake script.shape p.wanted b d s.calls more →
        IsProgram script C (events_of C (list ++ answered a v ∷ [])) → Ended script p' taken told empty (list ++ answered a v ∷ []) (reply_of p')
    by_call false d b_is d_is more there after goes = absurd after
    by_call true true b_is d_is more there more_is goes = grind (arith, append-nil, length-append)
    by_call true false b_is d_is more there after goes = by_more has.is_one_more (subst (λ t. IsReplyToTake more t p'.reply) d_is there.reply_is) (subst (λ t. AreItemsOfTake more t p'.items) d_is there.items_are)
      where
        has : HasTakeMore script.shape (wanted_at script (taken_in 0 s.calls.takes)) s.calls more
        has = subst (λ (w : ℕ). HasTakeMore script.shape w s.calls more) (s.wants b_is) after

        left : taken_in 0 s.calls.takes < script.takes
        left = s.asked b_is

        same_count : taken_in 0 s.calls.takes ≡ length taken
        same_count = omega (arith, ap length s.taken_is, all_are 0 s.calls.takes)

        clash : is_taking p' ≡ true → ⊥
        clash e = absurd (true_false (sym e ∙ d_is))
          where
            true_false : true ≡ false → ⊥
            true_false e = absurd (cc)

        whole_long : (more : Takes) → ConsumerStands p' more (list ++ answered a v ∷ []) → length (take_program script.shape more) ≤ length (list ++ answered a v ∷ [])
        whole_long more there =
            let at_rest = at_rest_is p'.shape p'.wanted more (is_taking p') (list ++ answered a v ∷ []) due' d_is (next' more (list ++ answered a v ∷ []) there) in
            omega (arith, ap length at_rest, ap (λ (t : Shape). length (take_program t more)) (shape ∙ s.same_shape))

        was_open : told ≡ false
        was_open = s.told_is ∙ ap ends_closed has.not_over

        -- the take is over, by what was counted with it
        stands_over :
            taken ++ kept_of (reply_of p') p'.items ≡ all_taken more.takes → empty + empty_in (reply_of p') ≡ empties more.takes → told_by (reply_of p') told ≡ ends_closed more.end → taken_in 0 more.takes ≤ script.takes →
            TakeActorStands script p' (taken ++ kept_of (reply_of p') p'.items) (told_by (reply_of p') told) (empty + empty_in (reply_of p')) (list ++ answered a v ∷ []) None
        stands_over taken_is empty_is told_is few = record {
          calls = more;
          there = there;
          same_shape = shape ∙ s.same_shape;
          taken_is = taken_is;
          empty_is = empty_is;
          told_is = told_is;
          takes_are = one_more script s.calls more s.takes_are left has;
          wants = λ e. absurd (clash e);
          few = few;
          long = whole_long more there;
          asked = λ e. absurd (clash e);
          program = goes;
        }

        by_more : ((x : Take) × IsTakeOf script.shape (count_taken script.shape s.calls).number (wanted_at script (taken_in 0 s.calls.takes)) x × (more ≡ and_take s.calls x)) ⊎ ((seen again : ℕ) × (more ≡ and_end s.calls seen again)) → p'.reply ≡ reply_at_end more.end more.takes →
            p'.items ≡ items_at_end more.end more.takes → Ended script p' taken told empty (list ++ answered a v ∷ []) (reply_of p')
        by_more (inl (x, of, more_is)) reply_is items_is =
            let items_are : p'.items ≡ taken_of x = items_is ∙ ap (λ (t : Takes). items_at_end t.end t.takes) more_is ∙ items-push [] s.calls.takes x in
            let reply_here : p'.reply ≡ Some (take_reply_to x) = reply_is ∙ ap (λ (t : Takes). reply_at_end t.end t.takes) more_is ∙ reply-push None s.calls.takes x in
            let answer : reply_of p' ≡ answer_of x = ap₂ take_batch_reply reply_here items_are in
            let kept_here : kept_of (reply_of p') p'.items ≡ taken_of x = ap₂ kept_of answer items_are ∙ kept_is x in (
              stands_over
                  (ap (λ l. taken ++ l) kept_here ∙ ap (λ l. l ++ taken_of x) s.taken_is ∙ sym (all-more s.calls.takes x) ∙ ap (λ (t : Takes). all_taken t.takes) (sym more_is))
                  (ap (λ t. empty + empty_in t) answer ∙ ap (λ t. t + empty_in (answer_of x)) s.empty_is ∙ empties-more s.calls.takes x ∙ ap (λ (t : Takes). empties t.takes) (sym more_is))
                  (ap (λ t. told_by t told) answer ∙ told_so x told ∙ was_open ∙ ap (λ (t : Takes). ends_closed t.end) (sym more_is))
                  (omega (arith, left, take_within, ap (λ (t : Takes). taken_in 0 t.takes) more_is, taken-more 0 s.calls.takes x, after_is (taken_in 0 s.calls.takes) x)),
              omega (arith, ap length kept_here, take_within, ap (wanted_at script) same_count),
            )
        by_more (inr (seen, again, more_is)) reply_is items_is =
            let answer : reply_of p' ≡ Some batch.Closed = ap (λ t. take_batch_reply t p'.items) (reply_is ∙ ap (λ (t : Takes). reply_at_end t.end t.takes) more_is) in (
              stands_over
                  (ap (λ t. taken ++ kept_of t p'.items) answer ∙ append-nil taken ∙ s.taken_is ∙ ap (λ (t : Takes). all_taken t.takes) (sym more_is))
                  (let nothing : empty + 0 ≡ empty = omega arith in ap (λ t. empty + empty_in t) answer ∙ nothing ∙ s.empty_is ∙ ap (λ (t : Takes). empties t.takes) (sym more_is))
                  (ap (λ t. told_by t told) answer ∙ ap (λ (t : Takes). ends_closed t.end) (sym more_is))
                  (omega (arith, s.few, ap (λ (t : Takes). taken_in 0 t.takes) more_is)),
              omega (arith, ap (λ t. length (kept_of t p'.items)) answer),
            )
