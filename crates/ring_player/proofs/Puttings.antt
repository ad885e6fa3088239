-- What the producer's actor does with its machine.
use Rattle.std.proofs.Common.{◌≡◌, ℕ, zero, suc, ◌+◌, ◌*◌, ◌%◌, ◌<◌, ◌≤◌, Bool, true, false, cond, Option, Some, None, List, [], ◌∷◌, ◌++◌, length, take, drop, refl, sym, ap, subst, ◌∙◌, append-nil, length-append, arith}
use Rattle.ring_player.proofs.Common.{P, Access, Shape, Made, answered, events_of, LastBitIsDue, fulls, AreAttempts, ArePutsOf, IsDoneAfter, IsProgram, offered, Content}
use Rattle.ring_player.proofs.Common.{events_of-append, past_is}
use Rattle.bits_core.specs.Shape.{AllFit, batch_of, modulus_of, width_of}
use Rattle.ring_core.specs.declared.replies.BatchReply.{BatchReply}
use Rattle.ring_core.specs.ProducerCalls.{and_put, HasCallMore, ProducerHasMoved, IsAfterCall, IsPutOf, IsReplyToCall, new_producer, no_puts, ProducerStands, put_reply_to, room_in}
use Rattle.ring_core.specs.ProducerState.{batch_reply, Call, call_of, Close, due_put, ProducerState, Put}
use Rattle.ring_core.specs.Puts as puts
use Rattle.ring_core.specs.Puts.{Full, IsBatch, number_after, Puts, put_program, Stored, stored_in}
use Rattle.ring_player.specs.Actors.{ArePutsMade, IsAsked, PutActorStands, PutTally, full_in_reply, so_far, stored_in_reply}
use Rattle.ring_script.specs.Script.{Fit}
use Rattle.ring_player.proofs.Nexts.{IsNextPut, NextPut as NextOf}
use Rattle.ring_player.proofs.Moves.{events-more, goes_longer, program_beginning, split_last}
use Rattle.ring_core.proofs.Readings.ItemsRead.{same_calls}
pub use Rattle.bits_core.proofs.OwnOpen.{not_open as none_of}
use Rattle.bits_core.proofs.Fitting.{AllFit-take, AllFit-drop}
use Rattle.ring_core.proofs.LawLemmas.{calls_are_first_puts}
use Rattle.ring_core.proofs.OverSpans.CallSpans.{stored_number}
use Rattle.ring_core.proofs.Machines.PutCalls.{reply-push as last-more}

-- the tally after this reply
abbrev pub after_reply : PutTally → Option BatchReply → PutTally
after_reply kept reply = record { stored = kept.stored + stored_in_reply reply; full = kept.full + full_in_reply reply }

-- ---- the items offered

-- each item fits the shape
pub all_fit : (shape : Shape) (items : List ℕ) → Fit (width_of shape) items → AllFit shape items
all_fit shape [] f = tt
all_fit shape (x ∷ items) f = (f 0 0 (omega arith), all_fit shape items (λ k d l. f (suc k) d (omega (arith, l))))

pub left_some : (n : ℕ) (xs : List ℕ) → n < length xs → 1 ≤ length (drop n xs)
left_some zero [] l = absurd (omega (arith, l))
left_some zero (x ∷ xs) l = omega arith
left_some (suc n) [] l = absurd (omega (arith, l))
left_some (suc n) (x ∷ xs) l = left_some n xs (omega (arith, l))

pub taken_some : (n : ℕ) (xs : List ℕ) → 1 ≤ n → 1 ≤ length xs → 1 ≤ length (take n xs)
taken_some n xs l m = grind arith

taken_few : (n : ℕ) (xs : List ℕ) → length (take n xs) ≤ n
taken_few zero [] = omega arith
taken_few zero (x ∷ xs) = omega arith
taken_few (suc n) [] = omega arith
taken_few (suc n) (x ∷ xs) = omega (arith, taken_few n xs)

pub offered_is_batch : (script : Content) (shape : Shape) (items : List ℕ) (n : ℕ) → shape ≡ script.shape → items ≡ offered script n → AllFit script.shape script.items → n < length script.items → IsBatch shape items
offered_is_batch script shape items n same is fit l =
    subst (λ t. IsBatch t items) (sym same) (subst (λ t. IsBatch script.shape t) (sym is) (record {
      some = taken_some (batch_of script.shape) (drop n script.items) script.shape.has_batch (left_some n script.items l);
      few = taken_few (batch_of script.shape) (drop n script.items);
      fit = AllFit-take script.shape (batch_of script.shape) (drop n script.items) (AllFit-drop script.shape n script.items fit);
    }))

-- ---- attempts

attempts-more :
    (script : Content) (n : ℕ) (xs : List puts.Put) (x : puts.Put) → AreAttempts script n xs → stored_in n xs < length script.items →
    IsPutOf script.shape (stored_in n xs) (offered script (stored_in n xs)) x → AreAttempts script n (xs ++ x ∷ [])
attempts-more script n [] x m l is = (l, is, tt)
attempts-more script n (y ∷ xs) x (l', is', m) l is = (l', is', attempts-more script (number_after n y) xs x m l is)

pub stored-more : (n : ℕ) (xs : List puts.Put) (x : puts.Put) → stored_in n (xs ++ x ∷ []) ≡ number_after (stored_in n xs) x
stored-more n [] x = refl
stored-more n (y ∷ xs) x = stored-more (number_after n y) xs x

after_more : (n : ℕ) (x : puts.Put) → n ≤ number_after n x
after_more n (Stored seen items) = omega (arith, past_is n items)
after_more n (Full seen) = omega arith

stored_rises : (n : ℕ) (xs ys : List puts.Put) → stored_in n xs ≤ stored_in n (xs ++ ys)
stored_rises n [] [] = omega arith
stored_rises n [] (y ∷ ys) = omega (arith, after_more n y, stored_rises (number_after n y) [] ys)
stored_rises n (x ∷ xs) ys = stored_rises (number_after n x) xs ys

taken_within : (n k : ℕ) (xs : List ℕ) → k < length xs → k + length (take n (drop k xs)) ≤ length xs
taken_within n zero [] l = absurd (omega (arith, l))
taken_within zero zero (x ∷ xs) l = omega arith
taken_within (suc n) zero (x ∷ xs) l = omega (arith, shorter n xs)
  where
    shorter : (n : ℕ) (xs : List ℕ) → length (take n xs) ≤ length xs
    shorter zero [] = omega arith
    shorter zero (x ∷ xs) = omega arith
    shorter (suc n) [] = omega arith
    shorter (suc n) (x ∷ xs) = omega (arith, shorter n xs)
taken_within n (suc k) [] l = absurd (omega (arith, l))
taken_within n (suc k) (x ∷ xs) l = omega (arith, taken_within n k xs (omega (arith, l)))

take_shorter : (n : ℕ) (xs : List ℕ) → length (take n xs) ≤ length xs
take_shorter zero [] = omega arith
take_shorter zero (x ∷ xs) = omega arith
take_shorter (suc n) [] = omega arith
take_shorter (suc n) (x ∷ xs) = omega (arith, take_shorter n xs)

-- attempts store no more items than there are
attempt_within : (script : Content) (n : ℕ) (x : puts.Put) → n < length script.items → IsPutOf script.shape n (offered script n) x → number_after n x ≤ length script.items
attempt_within script n (Stored seen items) l is =
    omega (arith, past_is n items, ap length is, take_shorter (room_in script.shape (n % modulus_of script.shape) seen) (offered script n), taken_within (batch_of script.shape) n script.items l)
attempt_within script n (Full seen) l is = omega (arith, l)

pub attempts_within : (script : Content) (n : ℕ) (xs : List puts.Put) → n ≤ length script.items → AreAttempts script n xs → stored_in n xs ≤ length script.items
attempts_within script n [] l m = l
attempts_within script n (x ∷ xs) l (l', is, m) = attempts_within script (number_after n x) xs (attempt_within script n x l' is) m

-- ---- the program

pub calls_asked :
    (script : Content) (c : Call) (calls more : Puts) → AreAttempts script 0 calls.puts → IsAsked script calls (Some c) → HasCallMore script.shape c calls more →
    ArePutsOf script more
calls_asked script (Put items) calls more m (items_are, left) (x, of, more_is, are, o) = record {
  are = are;
  attempts = grind (arith, attempts-more, stored_number);
  closes = λ e. absurd (true_false (sym e ∙ ap (λ (t : Puts). t.closes) more_is));
}
  where
    true_false : true ≡ false → ⊥
    true_false e = absurd (cc)
calls_asked script Close calls more m asked (more_is, are, o) = grind arith

-- what the due access, with its answer, continues to
goes_on :
    (script : Content) (c : Option Call) (calls : Puts) (list : List Made) (a : Access) (v : Bool) → AreAttempts script 0 calls.puts → IsAsked script calls c →
    IsNextPut script.shape calls c list (Some a) → (LastBitIsDue script.shape P (Some a) → v ≡ true) → IsProgram script P (events_of P (list ++ answered a v ∷ []))
goes_on script None calls list a v m asked next one = absurd next
goes_on script (Some c) calls list a v m asked next one =
    let (more, has, (rest, e)) = next v one in
    (more, calls_asked script c calls more m asked has, (events_of P rest, sym (events_of-append P (list ++ answered a v ∷ []) rest) ∙ ap (events_of P) e))

-- ---- one step of the actor

abbrev StandsOn : ProducerState → ProducerState → Type 0
StandsOn p p' = (calls : Puts) (made : List Made) → ProducerStands p calls made → ProducerStands p' calls made

abbrev HasMovedFrom : ProducerState → ProducerState → List Made → Access → Bool → Type 0
HasMovedFrom p p' list a v = (calls : Puts) → ProducerStands p calls list → ProducerHasMoved p p' calls (list ++ answered a v ∷ [])

-- if none is due, no call is under way, and the accesses are those of the calls
idle : (shape : Shape) (calls : Puts) (c : Option Call) (made : List Made) → IsNextPut shape calls c made None → (c ≡ None) × (made ≡ put_program shape calls)
idle shape calls c made next = grind arith

-- if no call is under way the accesses are those of the calls
at_rest_is : (shape : Shape) (calls : Puts) (c : Option Call) (made : List Made) (due : Option Access) → c ≡ None → IsNextPut shape calls c made due → made ≡ put_program shape calls
at_rest_is shape calls c made due e next = grind arith

pub next_in :
    (script : Content) (p : ProducerState) (kept : PutTally) (list : List Made) (o due : Option Access) → (s : PutActorStands script p kept list o) → NextOf p due →
    IsNextPut script.shape s.calls (call_of p) list due
next_in script p kept list o due s next = subst (λ (t : Shape). IsNextPut t s.calls (call_of p) list due) s.same_shape (next s.calls list s.there)

-- the same calls and counts, of a machine that stands after these accesses
stands_with :
    {script : Content} {p : ProducerState} {kept : PutTally} {list : List Made} {o : Option Access} (s : PutActorStands script p kept list o) (p' : ProducerState) (o' : Option Access) →
    ProducerStands p' s.calls list → p'.shape ≡ script.shape → ((items : List ℕ) → call_of p' ≡ Some (Put items) → p'.batched ≡ true) → IsAsked script s.calls (call_of p') →
    IsProgram script P (so_far P list o') → PutActorStands script p' kept list o'
stands_with s p' o' there shape batched asked program = grind arith

pub begins_access :
    (script : Content) (p : ProducerState) (kept : PutTally) (list : List Made) (due : Option Access) (a : Access) → PutActorStands script p kept list None → NextOf p due → due ≡ Some a →
    PutActorStands script p kept list (Some a)
begins_access script p kept list due a s next is =
    let n : IsNextPut script.shape s.calls (call_of p) list (Some a) = subst (λ d. IsNextPut script.shape s.calls (call_of p) list d) is (next_in script p kept list None due s next) in
    stands_with s p (Some a) s.there s.same_shape s.batched s.asked (program_beginning script P (so_far P list (Some a)) _
    (subst (λ t. IsProgram script P t) (events-more P list a true) (goes_on script (call_of p) s.calls list a true s.made.attempts s.asked n (λ l. refl))))

-- ---- if an access is due the side is not done

pub unfinished :
    (script : Content) (p : ProducerState) (kept : PutTally) (list : List Made) (due : Option Access) (a : Access) → PutActorStands script p kept list None → NextOf p due →
    due ≡ Some a → ¬ IsDoneAfter script P (events_of P list)
unfinished script p kept list due a s next is d =
    by_call (call_of p) s.asked (subst (λ t. IsNextPut script.shape s.calls (call_of p) list t) is (next_in script p kept list None due s next))
  where
    not_all : (more : Puts) → d.0 ≡ more → 2 * length (put_program script.shape d.0) < 2 * length (put_program script.shape more) → ⊥
    not_all more same l = absurd (omega (arith, l, ap (λ (t : Puts). length (put_program script.shape t)) same))

    put_less : (more : Puts) (x : puts.Put) (rest : List puts.Put) → more ≡ and_put s.calls x → more.puts ≡ d.0.puts ++ rest →
        (d.0.closes ≡ true → d.0 ≡ more) → 2 * length (put_program script.shape d.0) < 2 * length (put_program script.shape more) → stored_in 0 s.calls.puts < length script.items → ⊥
    put_less more x [] more_is e whole l left =
        by_close d.0.closes refl
      where
        by_close : (b : Bool) → d.0.closes ≡ b → ⊥
        by_close true f = not_all more (whole f) l
        by_close false f = grind (arith, append-nil, same_calls, not_all)
    put_less more x (y ∷ rest) more_is e whole l left =
        let (ws, f) = split_last s.calls.puts d.0.puts rest x y (sym (ap (λ (t : Puts). t.puts) more_is) ∙ e) in
        absurd (omega (arith, left, d.3, stored_rises 0 d.0.puts ws, ap (stored_in 0) f))

    by_call : (c : Option Call) → IsAsked script s.calls c → IsNextPut script.shape s.calls c list (Some a) → ⊥
    by_call None asked n = absurd n
    by_call (Some (Put items)) (items_are, left) n =
        let (more, (x, of, more_is, are, o), (rest, e)) = n true (λ l. refl) in
        let (longer, begins) = goes_longer P list (put_program script.shape d.0) (put_program script.shape more) rest a d.2 e in
        let (rises, whole) = calls_are_first_puts script.shape d.0 more d.1 are begins in
        put_less more x rises.0 more_is rises.1 whole longer left
    by_call (Some Close) (closes, all) n =
        let (more, (more_is, are, o), (rest, e)) = n true (λ l. refl) in
        let (longer, begins) = goes_longer P list (put_program script.shape d.0) (put_program script.shape more) rest a d.2 e in
        let (rises, whole) = calls_are_first_puts script.shape d.0 more d.1 are begins in
        not_all more (whole (d.4 ∙ closes)) longer

-- ---- the next call begins

pub began_close :
    (script : Content) (p p' : ProducerState) (kept : PutTally) (list : List Made) → PutActorStands script p kept list None → length script.items ≤ kept.stored → script.closes ≡ true →
    p'.shape ≡ p.shape → call_of p' ≡ Some Close → StandsOn p p' → PutActorStands script p' kept list None
began_close script p p' kept list s over closes shape call on = grind (arith, stands_with, attempts_within)

pub is_done :
    (script : Content) (p : ProducerState) (kept : PutTally) (list : List Made) → PutActorStands script p kept list None → NextOf p None → length script.items ≤ kept.stored →
    script.closes ≡ p.closed → IsDoneAfter script P (events_of P list)
is_done script p kept list s next over closes = grind (arith, idle, attempts_within)

-- a close that was not requested was not made
pub not_closed : (script : Content) (p : ProducerState) (kept : PutTally) (list : List Made) → PutActorStands script p kept list None → NextOf p None → script.closes ≡ false → script.closes ≡ p.closed
not_closed script p kept list s next closes = grind (arith, idle)

-- ---- the access ends

counted_by : (n : ℕ) (x : puts.Put) → number_after n x ≡ n + stored_in_reply (Some (put_reply_to x))
counted_by n (Stored seen items) = past_is n items
counted_by n (Full seen) = omega arith

pub fulls-more : (xs : List puts.Put) (x : puts.Put) → fulls xs + full_in_reply (Some (put_reply_to x)) ≡ fulls (xs ++ x ∷ [])
fulls-more [] (Stored seen items) = refl
fulls-more [] (Full seen) = refl
fulls-more (Stored seen items ∷ xs) x = fulls-more xs x
fulls-more (Full seen ∷ xs) x = omega (arith, fulls-more xs x)

-- what the actor has counted is what is stored, and it stands after one more access
pub ended :
    (script : Content) (p p' : ProducerState) (kept : PutTally) (list : List Made) (due : Option Access) (a : Access) (v : Bool) → PutActorStands script p kept list (Some a) → NextOf p due → due ≡ due_put p →
    due_put p ≡ Some a → (LastBitIsDue script.shape P (due_put p) → v ≡ true) → HasMovedFrom p p' list a v → p'.shape ≡ p.shape → p'.batched ≡ p.batched → (due' : Option Access) → NextOf p' due' →
    PutActorStands script p' (after_reply kept (batch_reply p')) (list ++ answered a v ∷ []) None
ended script p p' kept list due a v s next due_is is one moved shape batched due' next' =
    let n : IsNextPut script.shape s.calls (call_of p) list (Some a) = subst (λ d. IsNextPut script.shape s.calls (call_of p) list d) (due_is ∙ is) (next_in script p kept list (Some a) due s next) in
    let one' : LastBitIsDue script.shape P (Some a) → v ≡ true = subst (λ d. LastBitIsDue script.shape P d → v ≡ true) is one in
    let goes : IsProgram script P (events_of P (list ++ answered a v ∷ [])) = goes_on script (call_of p) s.calls list a v s.made.attempts s.asked n one' in
    let (more, there, after) = moved s.calls s.there in
    let after' : IsAfterCall script.shape (call_of p) (call_of p') s.calls more p'.reply = subst (λ (t : Shape). IsAfterCall t (call_of p) (call_of p') s.calls more p'.reply) s.same_shape after in
    by_call (call_of p) (call_of p') refl refl more s.asked there after' goes
  where
    rest_reply : (more : Puts) (x : puts.Put) → more ≡ and_put s.calls x → IsReplyToCall more None p'.reply → p'.reply ≡ Some (put_reply_to x)
    rest_reply more x more_is r = (subst (λ (t : Puts). IsReplyToCall t None p'.reply) more_is r) ∙ last-more None s.calls.puts x

    whole_long : (more : Puts) → ProducerStands p' more (list ++ answered a v ∷ []) → call_of p' ≡ None → length (put_program script.shape more) ≤ length (list ++ answered a v ∷ [])
    whole_long more there none = grind (arith, at_rest_is)

    none_told : (p'.reply ≡ None) → batch_reply p' ≡ None
    none_told e = ap (λ t. cond p'.batched t None) e ∙ by_batched p'.batched
      where
        by_batched : (b : Bool) → cond {A = Option BatchReply} b None None ≡ None
        by_batched true = refl
        by_batched false = refl

    quiet : (p'.reply ≡ None) → kept.stored + stored_in_reply (batch_reply p') ≡ kept.stored
    quiet e = let nothing : kept.stored + 0 ≡ kept.stored = omega arith in ap (λ t. kept.stored + stored_in_reply t) (none_told e) ∙ nothing

    quiet_full : (p'.reply ≡ None) → kept.full + full_in_reply (batch_reply p') ≡ kept.full
    quiet_full e = let nothing : kept.full + 0 ≡ kept.full = omega arith in ap (λ t. kept.full + full_in_reply t) (none_told e) ∙ nothing

    -- if no put has ended
    no_more :
        (more : Puts) → more.puts ≡ s.calls.puts → p'.reply ≡ None → length (put_program script.shape more) ≤ length (list ++ answered a v ∷ []) →
        ArePutsMade script (after_reply kept (batch_reply p')) (list ++ answered a v ∷ []) more
    no_more more same none long = record {
      attempts = subst (AreAttempts script 0) (sym same) s.made.attempts;
      counted = quiet none ∙ s.made.counted ∙ ap (stored_in 0) (sym same);
      filled = quiet_full none ∙ s.made.filled ∙ ap fulls (sym same);
      long = long;
    }

    by_call :
        (c d : Option Call) → call_of p ≡ c → call_of p' ≡ d → (more : Puts) → IsAsked script s.calls c → ProducerStands p' more (list ++ answered a v ∷ []) →
        IsAfterCall script.shape c d s.calls more p'.reply → IsProgram script P (events_of P (list ++ answered a v ∷ [])) →
        PutActorStands script p' (after_reply kept (batch_reply p')) (list ++ answered a v ∷ []) None
    by_call None d c_is d_is more asked there after goes = absurd after
    by_call (Some c) (Some d) c_is d_is more asked there (same, more_is) goes =
        let silent : p'.reply ≡ None = subst (λ t. IsReplyToCall more t p'.reply) d_is there.reply_is in
        record {
          calls = more;
          there = there;
          same_shape = shape ∙ s.same_shape;
          made = no_more more (ap (λ (t : Puts). t.puts) more_is) silent (omega (arith, s.made.long, ap (λ (t : Puts). length (put_program script.shape t)) more_is, length-append list (answered a v ∷ [])));
          batched = λ items e. batched ∙ s.batched items (c_is ∙ ap (λ t. Some t) (sym same) ∙ sym d_is ∙ e);
          asked = subst (λ t. IsAsked script more t) (sym d_is) (subst (λ t. IsAsked script more (Some t)) (sym same) (subst (λ (t : Puts). IsAsked script t (Some c)) (sym more_is) asked));
          program = goes;
        }
    by_call (Some (Put items)) None c_is d_is more (items_are, left) there ((x, of, more_is, are, o), silent) goes =
        let told : p'.reply ≡ Some (put_reply_to x) = rest_reply more x more_is (subst (λ t. IsReplyToCall more t p'.reply) d_is there.reply_is) in
        let batch : p'.batched ≡ true = batched ∙ s.batched items c_is in
        let reply_is : batch_reply p' ≡ Some (put_reply_to x) = ap (λ t. cond t p'.reply None) batch ∙ told in
        record {
          calls = more;
          there = there;
          same_shape = shape ∙ s.same_shape;
          made = record {
            attempts = (calls_asked script (Put items) s.calls more s.made.attempts (items_are, left) (x, of, more_is, are, o)).attempts;
            filled = ap (λ t. kept.full + full_in_reply t) reply_is ∙ ap (λ t. t + full_in_reply (Some (put_reply_to x))) s.made.filled ∙ fulls-more s.calls.puts x ∙ ap (λ (t : Puts). fulls t.puts) (sym more_is);
            counted = ap (λ t. kept.stored + stored_in_reply t) reply_is ∙ ap (λ t. t + stored_in_reply (Some (put_reply_to x))) s.made.counted ∙ sym (counted_by (stored_in 0 s.calls.puts) x)
                ∙ sym (stored-more 0 s.calls.puts x) ∙ ap (λ (t : Puts). stored_in 0 t.puts) (sym more_is);
            long = whole_long more there d_is;
          };
          batched = λ items e. absurd (none_some items (sym d_is ∙ e));
          asked = subst (λ t. IsAsked script more t) (sym d_is) (calls_asked script (Put items) s.calls more s.made.attempts (items_are, left) (x, of, more_is, are, o)).closes;
          program = goes;
        }
      where
        none_some : (items : List ℕ) → None ≡ Some (Put items) → ⊥
        none_some items e = absurd (cc)
    by_call (Some Close) None c_is d_is more asked there ((more_is, are, o), silent) goes =
        record {
          calls = more;
          there = there;
          same_shape = shape ∙ s.same_shape;
          made = no_more more (ap (λ (t : Puts). t.puts) more_is) (silent refl) (whole_long more there d_is);
          batched = λ items e. absurd (none_some items (sym d_is ∙ e));
          asked = subst (λ t. IsAsked script more t) (sym d_is) (calls_asked script Close s.calls more s.made.attempts asked (more_is, are, o)).closes;
          program = goes;
        }
      where
        none_some : (items : List ℕ) → None ≡ Some (Put items) → ⊥
        none_some items e = absurd (cc)

pub ended_within : (script : Content) (p : ProducerState) (kept : PutTally) (list : List Made) (o : Option Access) → PutActorStands script p kept list o → kept.stored ≤ length script.items
ended_within script p kept list o s = omega (arith, s.made.counted, attempts_within script 0 s.calls.puts (omega arith) s.made.attempts)

-- an actor that has made no access
pub new_putting : (script : Content) (p : ProducerState) → p ≡ new_producer script.shape → ProducerStands p no_puts [] → PutActorStands script p (record { stored = 0; full = 0 }) [] None
new_putting script p is there = record {
  calls = no_puts;
  there = there;
  same_shape = ap (λ (t : ProducerState). t.shape) is;
  made = grind arith;
  batched = λ items e. absurd (none_some items (sym none ∙ e));
  asked = subst (λ t. IsAsked script no_puts t) (sym none) closed;
  program = (no_puts, record { are = tt; attempts = tt; closes = closed }, (events_of P (put_program script.shape no_puts), refl));
}
  where
    none : call_of p ≡ None
    none = ap call_of is

    none_some : (items : List ℕ) → None ≡ Some (Put items) → ⊥
    none_some items e = absurd (cc)

    closed : false ≡ true → (script.closes ≡ true) × (0 ≡ length script.items)
    closed e = absurd (cc)

-- if none is due, no call is under way
pub resting :
    (script : Content) (p : ProducerState) (kept : PutTally) (list : List Made) (due : Option Access) → PutActorStands script p kept list None → NextOf p due → due ≡ None → call_of p ≡ None
resting script p kept list due s next none = (idle script.shape s.calls (call_of p) list (subst (λ d. IsNextPut script.shape s.calls (call_of p) list d) none (next_in script p kept list None due s next))).0
