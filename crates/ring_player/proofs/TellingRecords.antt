-- What is recorded of a play is a linearizable history.
use Rattle.std.proofs.Common.{◌≡◌, ℕ, suc, ◌-◌, ◌<◌, List, [], ◌∷◌, ◌++◌, length, take, refl, sym, ap, ap₂, subst, ◌∙◌, arith, append_assoc, length-append}
use Rattle.std.proofs.Math.Seq.{take-append_seam}
use Rattle.bits_core.specs.Shape.{batch_of, capacity_of}
use Rattle.ring_player.proofs.Common.{Event, Side, CallEvent, IsTakeOf, Count, first_count, events_in, Tells, IsPlayOf, wanted_at, TakenItems, Content}
use Rattle.queue_calls.specs.Calls as calls
use Rattle.queue_calls.specs.Calls.{IsLinearizable}
use Rattle.queue_calls.specs.Queue.{exactly}
use Rattle.ring_core.specs.GoingOn.{AreWanted}
use Rattle.ring_core.specs.Puts.{IsPutOf, Put, Puts, number_after, stored_in}
use Rattle.ring_core.specs.Recorded.{AreOffered, by_side, calls_told, put_told, recorded, take_answer, take_told, told_or_behind}
use Rattle.ring_core.specs.Takes.{Closed, count_after, End, end_phrase, Open, Take, take_phrase, Takes, taken_after, taken_in}
use Rattle.ring_player.specs.Plays.{AreAttempts, AreWantedBy, offered, Plays}
use Rattle.ring_player.specs.Tellings.{call_events, IsReadingAsked, offers_of, RecordsPlay, TellsCalls, wants_of}
use Rattle.ring_player.proofs.Puttings.{left_some, stored-more, taken_some}
use Rattle.ring_player.proofs.TakeBatches.{some_wanted}
use Rattle.ring_player.proofs.TakeLists.{taken-more}
use Rattle.ring_core.proofs.LawLemmas.{recorded_is_linearizable}

-- ---- what puts are offered

-- each put of the script is a put of the items that the world offers it
offered_all :
    (script : Content) (puts : Puts) (front xs : List Put) (j n : ℕ) → puts.puts ≡ front ++ xs → j ≡ length front → n ≡ stored_in 0 front → AreAttempts script n xs →
    AreOffered script.shape (offers_of script puts) j n xs
offered_all script puts front [] j n e f g m = tt
offered_all script puts front (x ∷ xs) j n e f g (l, of, m) =
    let here : offered script n ≡ offers_of script puts j =
    ap (offered script) (g ∙ ap (stored_in 0) (sym (take-append_seam front (x ∷ xs)) ∙ ap₂ (λ (i : ℕ) (l : List Put). take i l) (sym f) (sym e))) in (
      subst (λ l. 0 < length l) here (taken_some (batch_of script.shape) _ script.shape.has_batch (left_some n script.items l)),
      subst (λ l. IsPutOf script.shape n l x) here of,
      offered_all script puts (front ++ x ∷ []) xs (suc j) (number_after n x) (e ∙ sym (append_assoc front (x ∷ []) xs))
          (omega (arith, f, length-append front (x ∷ []))) (ap (λ k. number_after k x) g ∙ sym (stored-more 0 front x)) m,
    )

-- ---- what takes ask for

-- the same, but 1 if that is 0: each take of a play asks for at least one
abbrev some_of : Content → Takes → ℕ → ℕ
some_of script takes j = suc (wants_of script takes j - 1)

-- a take after these asks for what the world asks for there
wants_behind : (script : Content) (takes : Takes) (front xs : List Take) (j k : ℕ) → takes.takes ≡ front ++ xs → j ≡ length front → k ≡ taken_in 0 front → wants_of script takes j ≡ wanted_at script k
wants_behind script takes front xs j k e f g = grind (arith, take-append_seam)

some_are : (script : Content) (takes : Takes) (front xs : List Take) (j k : ℕ) → takes.takes ≡ front ++ xs → j ≡ length front → k ≡ taken_in 0 front → k < script.takes → wanted_at script k ≡ some_of script takes j
some_are script takes front xs j k e f g l = omega (arith, some_wanted script k l, wants_behind script takes front xs j k e f g)

wanted_all :
    (script : Content) (takes : Takes) (front xs : List Take) (j k : ℕ) → takes.takes ≡ front ++ xs → j ≡ length front → k ≡ taken_in 0 front → AreWantedBy script k xs →
    AreWanted script.shape (some_of script takes) j k xs
wanted_all script takes front [] j k e f g m = tt
wanted_all script takes front (x ∷ xs) j k e f g (l, of, m) = (
  subst (λ w. IsTakeOf script.shape k w x) (some_are script takes front (x ∷ xs) j k e f g l) of,
  wanted_all script takes (front ++ x ∷ []) xs (suc j) (taken_after k x) (e ∙ sym (append_assoc front (x ∷ []) xs)) (omega (arith, f, length-append front (x ∷ [])))
      (ap (λ n. taken_after n x) g ∙ sym (taken-more 0 front x)) m,
)

same_told :
    (script : Content) (takes : Takes) (front xs : List Take) (j k : ℕ) → takes.takes ≡ front ++ xs → j ≡ length front → k ≡ taken_in 0 front → AreWantedBy script k xs →
    (c : Count) (end : End) → (Tells end → taken_in k xs < script.takes) → (i : ℕ) →
    take_told script.shape (wants_of script takes) j c xs end i ≡ take_told script.shape (some_of script takes) j c xs end i
same_told script takes front [] j k e f g m c Open left i = refl
same_told script takes front [] j k e f g m c (Closed seen again) left i =
    ap (λ n. told_or_behind (events_in (end_phrase (Closed seen again))) (calls.TakeBegin n) (calls.TakeEnd calls.Shut) i [])
    (wants_behind script takes front [] j k e f g ∙ some_are script takes front [] j k e f g (left tt))
same_told script takes front (x ∷ xs) j k e f g (l, of, m) c end left i =
    let long : ℕ = events_in (take_phrase script.shape c x) in
    ap₂ (λ (n : ℕ) (behind : List calls.Event). told_or_behind long (calls.TakeBegin n) (take_answer x) i behind)
    (wants_behind script takes front (x ∷ xs) j k e f g ∙ some_are script takes front (x ∷ xs) j k e f g l)
    (same_told script takes (front ++ x ∷ []) xs (suc j) (taken_after k x) (e ∙ sym (append_assoc front (x ∷ []) xs)) (omega (arith, f, length-append front (x ∷ [])))
    (ap (λ n. taken_after n x) g ∙ sym (taken-more 0 front x)) m (count_after script.shape c x) end left (i - long))

same_calls : (f g g' : ℕ → List calls.Event) (p c : ℕ) (h : List Event) → ((i : ℕ) → g i ≡ g' i) → calls_told f g p c h ≡ calls_told f g' p c h
same_calls f g g' p c [] same = refl
same_calls f g g' p c (e ∷ h) same = grind (arith, same_calls f g g' (by_side e.side (suc p) p) (by_side e.side c (suc c)) h same)

-- what is recorded of a play is a linearizable history
pub records :
    (script : Content) (letters : List Side) (h : List Event) (told : List (CallEvent ℕ TakenItems)) → IsPlayOf script letters h → TellsCalls script h (call_events script told) →
    RecordsPlay script h told
records script letters h told play tells =
    let (puts, asked, begins) = play.plays.played.puts in
    let (takes, asked', begins') = play.plays.played.takes in
    let r : IsReadingAsked script h puts takes = record { asked = asked; puts_follow = record { are = asked.are; events = begins }; takes_follow = record { are = asked'.0; events = begins' } } in
    let same : recorded script.shape (offers_of script puts) (wants_of script takes) h puts takes ≡ recorded script.shape (offers_of script puts) (some_of script takes) h puts takes =
    same_calls (put_told script.shape (offers_of script puts) 0 first_count puts.puts puts.closes) (take_told script.shape (wants_of script takes) 0 first_count takes.takes takes.end)
    (take_told script.shape (some_of script takes) 0 first_count takes.takes takes.end) 0 0 h (same_told script takes [] takes.takes 0 0 refl refl refl asked'.1 first_count takes.end asked'.2) in
    record {
      tells = tells;
      linearizable = subst (IsLinearizable (exactly (capacity_of script.shape))) (sym (tells puts takes r ∙ same))
          (recorded_is_linearizable script.shape (offers_of script puts) (some_of script takes) h puts takes (record { lawful = play.plays.played.lawful; puts_follow = r.puts_follow; takes_follow = r.takes_follow })
          (offered_all script puts [] puts.puts 0 0 refl refl refl asked.attempts) (λ j. omega arith) (wanted_all script takes [] takes.takes 0 0 refl refl refl asked'.1));
    }

-- for the play of a world
pub play_records :
    (script first : Content) (letters : List Side) (h : List Event) (told : List (CallEvent ℕ TakenItems)) → script ≡ first → IsPlayOf script letters h → Plays first first.letters h →
    TellsCalls script h (call_events script told) → (x : List Event) × IsPlayOf first first.letters x × RecordsPlay first x told
play_records script first letters h told same play plays tells =
    let p : IsPlayOf first letters h = subst (λ s. IsPlayOf s letters h) same play in
    let whole : IsPlayOf first first.letters h = record { plays = plays; headline = p.headline; batches = p.batches } in
    (h, whole, records first first.letters h told whole (subst (λ s. TellsCalls s h (call_events s told)) same tells))
