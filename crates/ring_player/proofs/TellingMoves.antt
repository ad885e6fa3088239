-- What is recorded of a history with one more event, whichever calls it is read as.
use Rattle.std.proofs.Common.{◌≡◌, ℕ, suc, ◌+◌, ◌<◌, Bool, true, false, if◌then◌else◌, Option, None, List, [], ◌∷◌, ◌++◌, length, refl, sym, ap, ap₂, subst, ◌∙◌, arith, append-nil, append_assoc, length-append}
use Rattle.ring_player.proofs.Common.{◌↔◌, replicate, Made, IsPrefix, events_of, subhistory, Event, Side, P, C, first_count, all_taken, events_in, IsTold, ToldIn, FollowsTakes, Takes, take_phrases}
use Rattle.ring_player.proofs.Common.{take_program, IsMove, PutTally, Plays, wanted_at, TakenItems, CallEvent, Content, length-events}
use Rattle.std.proofs.lemmas.List.{map-append, replicate-append-replicate}
use Rattle.bits_core.specs.Bits.{is_by}
use Rattle.queue_calls.specs.Calls as calls
use Rattle.ring_core.specs.Over.{empties, fulls, puts_over, puts_over_in, takes_over, takes_over_in}
use Rattle.ring_core.specs.Puts.{FollowsPuts, Puts, put_phrase, put_program, stored_after, stored_in}
use Rattle.ring_core.specs.Recorded.{by_side, calls_told, put_told, take_told}
use Rattle.ring_player.specs.Tellings.{AreAt, call_events, IsPutStage, IsReadingAsked, IsTakeStage, listed, offers_of, SaysPut, SaysTake, TakeTally, TellsCalls, told_in, wants_of}
use Rattle.ring_player.specs.declared.tellings.PutStage.{PutStage}
use Rattle.ring_player.specs.declared.tellings.PutStage.TheVariants as put
use Rattle.ring_player.specs.declared.tellings.TakeStage.{TakeStage}
use Rattle.ring_player.specs.declared.tellings.TakeStage.TheVariants as taking
use Rattle.ring_player.proofs.Moves.{by_side as is_by_side, not_by, own_by, own_other}
use Rattle.ring_core.proofs.Readings.Over.{front, none_over, puts_total}
use Rattle.bits_core.proofs.LawLemmas.{subhistory_changes}

-- ---- one more event

abbrev Telling : Type 0
Telling = ℕ → List calls.Event

-- what the last event records, after a number of events of the two sides
abbrev last_told : Telling → Telling → (p c : ℕ) → List Event → Event → List calls.Event
last_told f g p c h e = by_side e.side (f (p + length (subhistory P h))) (g (c + length (subhistory C h)))

told-more : (f g : Telling) (p c : ℕ) (h : List Event) (e : Event) → calls_told f g p c (h ++ e ∷ []) ≡ calls_told f g p c h ++ last_told f g p c h e
told-more f g p c [] e = grind (arith, append-nil)
told-more f g p c (x ∷ h) e = by_first (λ a b. told-more f g a b h e) x.side refl
  where
    now : List calls.Event
    now = by_side x.side (f p) (g c)

    by_first : ((a b : ℕ) → calls_told f g a b (h ++ e ∷ []) ≡ calls_told f g a b h ++ last_told f g a b h e) → (s : Side) → x.side ≡ s → calls_told f g p c ((x ∷ h) ++ e ∷ []) ≡ calls_told f g p c (x ∷ h) ++ last_told f g p c (x ∷ h) e
    by_first more P is = grind (arith, is_by_side, not_by, append_assoc)
    by_first more C is =
        let later : calls_told f g (by_side x.side (suc p) p) (by_side x.side c (suc c)) (h ++ e ∷ []) ≡
        calls_told f g (by_side x.side (suc p) p) (by_side x.side c (suc c)) h ++ last_told f g p (suc c) h e =
        more (by_side x.side (suc p) p) (by_side x.side c (suc c))
        ∙ ap (λ s. calls_told f g (by_side x.side (suc p) p) (by_side x.side c (suc c)) h ++ last_told f g (by_side s (suc p) p) (by_side s c (suc c)) h e) is in
        let place : last_told f g p (suc c) h e ≡ last_told f g p c (x ∷ h) e = grind (arith, ap₂, not_by, is_by_side) in
        ap (λ l. now ++ l) (later ∙ ap (λ l. calls_told f g (by_side x.side (suc p) p) (by_side x.side c (suc c)) h ++ l) place)
        ∙ sym (append_assoc now (calls_told f g (by_side x.side (suc p) p) (by_side x.side c (suc c)) h) (last_told f g p c (x ∷ h) e))

-- ---- what is recorded of it

module _ (script : Content) (h h' : List Event) (e : Event) (is : h' ≡ h ++ e ∷ []) where
  -- if the events of a side are a prefix of a list, so are those without this one
  begins_before : (s : Side) (es : List Event) → IsPrefix (subhistory s h') es → IsPrefix (subhistory s h) es
  begins_before s es (rest, f) = by_test (is_by s e) (ap (subhistory s) is ∙ subhistory_changes s h e)
    where
      by_test : (b : Bool) → subhistory s h' ≡ (if b then subhistory s h ++ e ∷ [] else subhistory s h) → IsPrefix (subhistory s h) es
      by_test true own = (e ∷ rest, sym (append_assoc (subhistory s h) (e ∷ []) rest) ∙ ap (λ l. l ++ rest) (sym own) ∙ f)
      by_test false own = (rest, ap (λ l. l ++ rest) (sym own) ∙ f)

  -- a reading with the event is a reading without it
  reading_before : (puts : Puts) (takes : Takes) → IsReadingAsked script h' puts takes → IsReadingAsked script h puts takes
  reading_before puts takes r = grind (arith, begins_before)

  one_more : (s : Side) → e.side ≡ s → length (subhistory s h') ≡ suc (length (subhistory s h))
  one_more s by = omega (arith, ap length (ap (subhistory s) is ∙ own_by s h e by), length-append (subhistory s h) (e ∷ []))

  -- the event is one of those of the calls
  few : (s : Side) → e.side ≡ s → (program : List Made) → IsPrefix (subhistory s h') (events_of s program) → length (subhistory s h) < events_in program
  few s by program (rest, b) = omega (arith, one_more s by, ap length b, length-append (subhistory s h') rest, length-events s program)

  -- what is recorded of the events with this one is what was recorded before, and what this one records
  tells_more :
      (s : Side) → e.side ≡ s → (told : Option (CallEvent ℕ TakenItems)) →
      ((puts : Puts) (takes : Takes) → IsReadingAsked script h' puts takes →
      told_in script told ≡ by_side s (put_told script.shape (offers_of script puts) 0 first_count puts.puts puts.closes (length (subhistory P h)))
      (take_told script.shape (wants_of script takes) 0 first_count takes.takes takes.end (length (subhistory C h)))) →
      (events : List calls.Event) → TellsCalls script h events → TellsCalls script h' (events ++ told_in script told)
  tells_more s by told told_is events tells puts takes r = grind (arith, reading_before, told-more)

  -- by what its own side records: the stage of that side then, and what is recorded
  moves_on :
      (s : Side) → e.side ≡ s → (told : Option (CallEvent ℕ TakenItems)) (Stage : Puts → Takes → ℕ → Type 0) →
      ((puts : Puts) (takes : Takes) → IsReadingAsked script h' puts takes →
      (told_in script told ≡ by_side s (put_told script.shape (offers_of script puts) 0 first_count puts.puts puts.closes (length (subhistory P h)))
      (take_told script.shape (wants_of script takes) 0 first_count takes.takes takes.end (length (subhistory C h)))) × Stage puts takes (suc (length (subhistory s h)))) →
      ((puts : Puts) (takes : Takes) → IsReadingAsked script h' puts takes → Stage puts takes (length (subhistory s h'))) ×
      ((events : List calls.Event) → TellsCalls script h events → TellsCalls script h' (events ++ told_in script told))
  moves_on s by told Stage said = grind (arith, one_more, tells_more)

  module _ (by : e.side ≡ P) (stage next : PutStage) (t : TakeStage) (items : ℕ) (before now : PutTally) (told : Option (CallEvent ℕ TakenItems)) where
    pub put_moves :
        SaysPut stage items before now next told → items ≡ length script.items → AreAt stage t script h →
        ((puts : Puts) → FollowsPuts script.shape h puts → before.stored ≡ stored_in 0 (puts_over_in script.shape h puts)) →
        ((puts : Puts) → FollowsPuts script.shape h puts → before.full ≡ fulls (puts_over_in script.shape h puts)) →
        ((puts : Puts) → FollowsPuts script.shape h' puts → now.stored ≡ stored_in 0 (puts_over_in script.shape h' puts)) →
        ((puts : Puts) → FollowsPuts script.shape h' puts → now.full ≡ fulls (puts_over_in script.shape h' puts)) →
        AreAt next t script h' × ((events : List calls.Event) → TellsCalls script h events → TellsCalls script h' (events ++ told_in script told))
    put_moves says all at stored full stored' full' =
        let (own, tells) = moves_on P by told (λ puts _ n. IsPutStage next script puts n) (λ puts takes r.
        (let r' = reading_before puts takes r in
        says script puts (length (subhistory P h)) r.asked all (few P by (put_program script.shape puts) r.puts_follow.events) (at puts takes r').0 (stored puts r'.puts_follow, full puts r'.puts_follow) (
          stored' puts r.puts_follow ∙ ap (λ n. stored_in 0 (puts_over script.shape first_count puts.puts n)) (one_more P by),
          full' puts r.puts_follow ∙ ap (λ n. fulls (puts_over script.shape first_count puts.puts n)) (one_more P by),
        ))) in (
          λ puts takes r. (own puts takes r, subst (λ l. IsTakeStage t script takes (length l)) (sym (ap (subhistory C) is ∙ own_other P h e by)) (at puts takes (reading_before puts takes r)).1),
          tells,
        )

  module _ (by : e.side ≡ C) (stage : PutStage) (t next : TakeStage) (wanted : ℕ) (before now : TakeTally) (told : Option (CallEvent ℕ TakenItems)) where
    -- what is counted about takes in a history
    abbrev pub IsCounted : List Event → TakeTally → Type 0
    IsCounted es kept =
        (takes : Takes) → FollowsTakes script.shape es takes →
        (kept.taken ≡ length (all_taken (takes_over_in script.shape es takes))) × (kept.empty ≡ empties (takes_over_in script.shape es takes)) ×
        ((kept.told ≡ true) ↔ ToldIn script.shape es takes)

    pub take_moves :
        SaysTake t wanted before now next told →
        ((takes : Takes) → FollowsTakes script.shape h takes → wanted ≡ wanted_at script (length (all_taken (takes_over_in script.shape h takes)))) →
        AreAt stage t script h → IsCounted h before → IsCounted h' now →
        ((takes : Takes) → FollowsTakes script.shape h' takes → IsPrefix (all_taken (takes_over_in script.shape h' takes)) script.items) →
        AreAt stage next script h' × ((events : List calls.Event) → TellsCalls script h events → TellsCalls script h' (events ++ told_in script told))
    take_moves says is_wanted at counted counted' first =
        let (own, tells) = moves_on C by told (λ _ takes n. IsTakeStage next script takes n) (λ puts takes r.
        (let r' = reading_before puts takes r in
        let (now_taken, now_empty, now_told) = counted' takes r.takes_follow in
        says script takes (length (subhistory C h)) (is_wanted takes r'.takes_follow ∙ ap (wanted_at script) (sym (counted takes r'.takes_follow).0)) (few C by (take_program script.shape takes) r.takes_follow.events)
        r.takes_follow.are (subst (λ n. IsPrefix (all_taken (takes_over script.shape first_count takes.takes n)) script.items) (one_more C by) (first takes r.takes_follow))
        (at puts takes r').1 (counted takes r'.takes_follow) (
          now_taken ∙ ap (λ n. length (all_taken (takes_over script.shape first_count takes.takes n))) (one_more C by),
          now_empty ∙ ap (λ n. empties (takes_over script.shape first_count takes.takes n)) (one_more C by),
          subst (λ n. (now.told ≡ true) ↔ IsTold script.shape takes n) (one_more C by) now_told,
        ))) in (
          λ puts takes r. (subst (λ l. IsPutStage stage script puts (length l)) (sym (ap (subhistory P) is ∙ own_other C h e by)) (at puts takes (reading_before puts takes r)).0, own puts takes r),
          tells,
        )

-- nothing is recorded of an empty history
pub nothing_told : (script : Content) → TellsCalls script [] []
nothing_told script puts takes r = refl

pub at_first : (script : Content) → AreAt put.Between taking.Between script []
at_first script puts takes r = (
  omega (
    arith,
    (front (λ c x. events_in (put_phrase script.shape c x)) (stored_after script.shape) first_count puts.puts 0).within,
    puts_total script.shape first_count (puts_over script.shape first_count puts.puts 0),
  ),
  ap (λ l. events_in (take_phrases script.shape first_count l)) (none_over script.shape first_count takes.takes),
)

-- ---- one step of the world

abbrev pub ArePutsCounted : Content → List Event → PutTally → Type 0
ArePutsCounted script h kept =
    ((puts : Puts) → FollowsPuts script.shape h puts → kept.stored ≡ stored_in 0 (puts_over_in script.shape h puts)) ×
    ((puts : Puts) → FollowsPuts script.shape h puts → kept.full ≡ fulls (puts_over_in script.shape h puts))

-- the stages after it, and what is recorded with it
abbrev pub Stepped : Content → Content → List Event → List Event → PutStage → TakeStage → Option (CallEvent ℕ TakenItems) → Type 0
Stepped script script' h h' stage t told =
    AreAt stage t script' h' × ((events : List calls.Event) → TellsCalls script h events → TellsCalls script' h' (events ++ told_in script told))

pub put_stepped :
    (script script' : Content) (h h' : List Event) (stage next : PutStage) (t : TakeStage) (items : ℕ) (before now : PutTally) (told : Option (CallEvent ℕ TakenItems)) → script' ≡ script →
    IsMove script P true h h' → SaysPut stage items before now next told → items ≡ length script.items → AreAt stage t script h → ArePutsCounted script h before →
    ArePutsCounted script' h' now → Stepped script script' h h' next t told
put_stepped script script' h h' stage next t items before now told same (e, is, by, not) says all at counted counted' =
    let (stored', full') = subst (λ s. ArePutsCounted s h' now) same counted' in
    subst (λ s. Stepped script s h h' next t told) (sym same)
    (put_moves script h h' e is by stage next t items before now told says all at counted.0 counted.1 stored' full')

abbrev pub AreTakesCounted : Content → List Event → TakeTally → Type 0
AreTakesCounted script h kept =
    ((takes : Takes) → FollowsTakes script.shape h takes → kept.taken ≡ length (all_taken (takes_over_in script.shape h takes))) ×
    ((takes : Takes) → FollowsTakes script.shape h takes → kept.empty ≡ empties (takes_over_in script.shape h takes)) ×
    ((takes : Takes) → FollowsTakes script.shape h takes → (kept.told ≡ true) ↔ ToldIn script.shape h takes)

-- the items that the takes that are over took are the script's first ones
abbrev pub AreFirst : Content → List Event → Type 0
AreFirst script h = (takes : Takes) → FollowsTakes script.shape h takes → IsPrefix (all_taken (takes_over_in script.shape h takes)) script.items

pub take_stepped :
    (script script' : Content) (h h' : List Event) (stage : PutStage) (t next : TakeStage) (wanted : ℕ) (before now : TakeTally) (told : Option (CallEvent ℕ TakenItems)) → script' ≡ script →
    IsMove script C true h h' → SaysTake t wanted before now next told →
    ((takes : Takes) → FollowsTakes script.shape h takes → wanted ≡ wanted_at script (length (all_taken (takes_over_in script.shape h takes)))) →
    AreAt stage t script h → AreTakesCounted script h before → AreTakesCounted script' h' now → AreFirst script' h' → Stepped script script' h h' stage next told
take_stepped script script' h h' stage t next wanted before now told same (e, is, by, not) says is_wanted at counted counted' first =
    let (taken', empty', told') = subst (λ s. AreTakesCounted s h' now) same counted' in
    subst (λ s. Stepped script s h h' stage next told) (sym same)
    (take_moves script h h' e is by stage t next wanted before now told says is_wanted at (λ takes f. (counted.0 takes f, counted.1 takes f, counted.2 takes f))
    (λ takes f. (taken' takes f, empty' takes f, told' takes f)) (subst (λ s. AreFirst s h') same first))

-- if the side was done
pub not_stepped :
    (script script' : Content) (h h' : List Event) (side : Side) (stage : PutStage) (t : TakeStage) (moved : Bool) → script' ≡ script → IsMove script side moved h h' → moved ≡ false →
    AreAt stage t script h → Stepped script script' h h' stage t None
not_stepped script script' h h' side stage t moved same m is at =
    let still : h' ≡ h = (subst (λ b. IsMove script side b h h') is m).0 in
    subst (λ s. Stepped script s h h' stage t None) (sym same)
    (subst (λ l. Stepped script script h l stage t None) (sym still) (at, (λ events tells. subst (TellsCalls script h) (sym (append-nil events)) tells)))

-- what was recorded, and with one more event
pub told_with : (script : Content) (told : List (CallEvent ℕ TakenItems)) (event : Option (CallEvent ℕ TakenItems)) → call_events script (told ++ listed event) ≡ call_events script told ++ told_in script event
told_with script told event = grind (arith, append-nil, map-append)

pub tells_with :
    (script script' : Content) (h h' : List Event) (told told' : List (CallEvent ℕ TakenItems)) (event : Option (CallEvent ℕ TakenItems)) → script' ≡ script →
    ((events : List calls.Event) → TellsCalls script h events → TellsCalls script' h' (events ++ told_in script event)) → told' ≡ told ++ listed event →
    TellsCalls script h (call_events script told) → TellsCalls script' h' (call_events script' told')
tells_with script script' h h' told told' event same step more tells = grind (arith, told_with)

pub letters_with :
    (script script' first : Content) (h first_h h' : List Event) (s : Side) (n : ℕ) → script' ≡ script → script ≡ first →
    ((letters : List Side) → Plays script letters h → Plays script' (letters ++ s ∷ []) h') →
    ((letters : List Side) → Plays first letters first_h → Plays first (letters ++ replicate n s) h) →
    (letters : List Side) → Plays first letters first_h → Plays first (letters ++ replicate (n + 1) s) h'
letters_with script script' first h first_h h' s n same was step before letters p =
    subst (λ l. Plays first l h') (append_assoc letters (replicate n s) (s ∷ []) ∙ ap (λ l. letters ++ l) (replicate-append-replicate n 1 s))
    (subst (λ t. Plays t ((letters ++ replicate n s) ++ s ∷ []) h') (same ∙ was)
    (step (letters ++ replicate n s) (subst (λ t. Plays t (letters ++ replicate n s) h) (sym was) (before letters p))))
