-- The world after a step of one side.
use Rattle.std.proofs.Common.{◌≡◌, ◌⊎◌, inl, inr, ℕ, ◌+◌, ◌-◌, ◌<◌, ◌≤◌, zero, suc, get_or, min, Bool, true, Option, Some, None, Result, List, [], ◌∷◌, ◌++◌, length, take, drop, append_assoc, append-nil, refl, sym, ap, subst, ◌∙◌, arith}
use Rattle.std.specs.Prelude.{IfOk, OnErr, OnOk, ◌↔◌, replicate, slice_index_or}
use Rattle.ring_player.proofs.Common.{Side, P, C, Access, Event, open_access, IsLawful, MemoryState, turn, IsAtTurn, IsMove, IsPlaying, PutTally, so_far, LetterRun, Content, first_count}
use Rattle.ring_player.proofs.Common.{takes_over_in, FollowsTakes, Takes}
use Rattle.bits_core.specs.Bits.{other}
use Rattle.bits_core.proofs.LawLemmas.{open_changes}
use Rattle.bits_core.specs.Made.{clock, IsPrefix, Made, subhistory}
use Rattle.ring_player.specs.Plays.{IsDone, IsPlayed, IsProgram, Plays, event_sides}
use Rattle.std.proofs.lemmas.Bool.{cases_lt}
use Rattle.std.proofs.lemmas.List.{length-append, length-replicate, take_all, take_more, take-append-drop, take-append-le, take-replicate}
use Rattle.std.proofs.Math.Seq.{take-append-add, take-length}
use Rattle.ring_script.specs.Schedule.{spelled}
use Rattle.ring_core.specs.Items.{all_taken, items_put, items_taken, items_taken_in, ToldIn}
use Rattle.ring_player.specs.Headline.{EveryPlayFills, EveryPlayHolds, HoldsHeadline, IsPlayOf}
use Rattle.ring_player.specs.SoFar.{PutSoFar, TakenSoFar}
use Rattle.ring_player.specs.Worlds.{IsWorld, Played}
use Rattle.ring_core.proofs.OwnEvents.{clock_end}
use Rattle.ring_player.proofs.Flickers.{in_turn}
use Rattle.ring_player.proofs.Moves.{moves-more, not_by, own_other, sides-more, moves-idle}
use Rattle.ring_player.proofs.Steps.{Stands}
pub use Rattle.ring_audit.proofs.Rooms.{on_err}
use Rattle.ring_core.proofs.LawLemmas.{calls_over_are_read_takes, items_taken_are_read}

-- one event of the side, which was not done, or nothing
abbrev pub Grown : Content → Side → (h h' : List Event) → Type 0
Grown script s h h' = ((e : Event) × (h' ≡ h ++ e ∷ []) × (e.side ≡ s) × (¬ IsDone script s h)) ⊎ (h' ≡ h)

grown_by : (script : Content) (s : Side) (h h' : List Event) (moved : Bool) → IsMove script s moved h h' → Grown script s h h'
grown_by script s h h' moved m = grind arith

pub grown : {E : Type 0} (script : Content) (s : Side) (h h' : List Event) (r : Result Bool E) → IfOk r (λ moved. IsMove script s moved h h') → OnErr r (h' ≡ h) → Grown script s h h'
grown script s h h' r ok err = grind (arith, grown_by)

-- the other side's state is unchanged
playing_other :
    (script : Content) (s : Side) (h h' : List Event) (due : Option Access) (stands : Stands) → Grown script s h h' → IsPlaying (other s) h due stands →
    IsPlaying (other s) h' due stands
playing_other script s h h' due stands (inl (e, is, by, n)) p =
    let open_same : open_access (other s) (h ++ e ∷ []) ≡ open_access (other s) h = grind (arith, open_changes, not_by) in
    grind (arith, own_other)
playing_other script s h h' due stands (inr is) p = subst (λ (t : List Event). IsPlaying (other s) t due stands) (sym is) p

pub producer_steps :
    {E : Type 0} (script : Content) (m m' : MemoryState) (ps ps' cs : Content) (pd pd' cd : Option Access) (pt pt' ct : Stands) (a a' : ℕ → Bool) (r : Result Bool E) → IsWorld script m ps cs pd cd pt ct a →
    m'.shape ≡ m.shape → ps' ≡ ps → IsPlaying P m'.events pd' pt' → IfOk r (λ moved. IsMove ps P moved m.events m'.events) → OnErr r (m'.events ≡ m.events) → ((turns : ℕ → Bool) → IsAtTurn turns m.events a → IsAtTurn turns m'.events a') →
    IsWorld script m' ps' cs pd' cd pt' ct a'
producer_steps script m m' ps ps' cs pd pd' cd pt pt' ct a a' r w shape same playing ok err turns =
    let g' : Grown script P m.events m'.events = subst (λ (t : Content). Grown t P m.events m'.events) w.put_script_is (grown ps P m.events m'.events r ok err) in
    record {
      shape = shape ∙ w.shape;
      put_script_is = same ∙ w.put_script_is;
      take_script_is = w.take_script_is;
      puts = playing;
      takes = playing_other script P m.events m'.events cd ct g' w.takes;
      oracle = turns (turn script.oracle) w.oracle;
      moves = grind (arith, moves-more, sides-more);
    }

pub consumer_steps :
    {E : Type 0} (script : Content) (m m' : MemoryState) (ps cs cs' : Content) (pd cd cd' : Option Access) (pt ct ct' : Stands) (a a' : ℕ → Bool) (r : Result Bool E) → IsWorld script m ps cs pd cd pt ct a →
    m'.shape ≡ m.shape → cs' ≡ cs → IsPlaying C m'.events cd' ct' → IfOk r (λ moved. IsMove cs C moved m.events m'.events) → OnErr r (m'.events ≡ m.events) → ((turns : ℕ → Bool) → IsAtTurn turns m.events a → IsAtTurn turns m'.events a') →
    IsWorld script m' ps cs' pd cd' pt ct' a'
consumer_steps script m m' ps cs cs' pd cd cd' pt ct ct' a a' r w shape same playing ok err turns =
    let g' : Grown script C m.events m'.events = subst (λ (t : Content). Grown t C m.events m'.events) w.take_script_is (grown cs C m.events m'.events r ok err) in
    record {
      shape = shape ∙ w.shape;
      put_script_is = w.put_script_is;
      take_script_is = same ∙ w.take_script_is;
      puts = playing_other script C m.events m'.events pd pt g' w.puts;
      takes = playing;
      oracle = turns (turn script.oracle) w.oracle;
      moves = grind (arith, moves-more, sides-more);
    }

-- ---- the history is a play

pub plays_of :
    (script : Content) (m : MemoryState) (ps cs : Content) (pd cd : Option Access) (pt ct : Stands) (a : ℕ → Bool) → IsWorld script m ps cs pd cd pt ct a →
    IsLawful m.shape m.events → IsProgram ps P (subhistory P m.events) → IsProgram cs C (subhistory C m.events) → Plays script (event_sides m.events) m.events
plays_of script m ps cs pd cd pt ct a w lawful puts takes = grind (arith, in_turn)

-- the laws of every play hold for it
pub is_play : EveryPlayHolds → EveryPlayFills → (script : Content) (letters : List Side) (h : List Event) → Plays script letters h → IsPlayOf script letters h
is_play holds fills script letters h plays = record { plays = plays; headline = holds script letters h plays; batches = fills script letters h plays }

pub letters_of :
    {E : Type 0} (script script' : Content) (s : Side) (h h' : List Event) (r : Result Bool E) → script' ≡ script → IfOk r (λ moved. IsMove script s moved h h') → IsPlayed script' h' →
    OnOk r ((letters : List Side) → Plays script letters h → Plays script' (letters ++ s ∷ []) h')
letters_of script script' s h h' r same m played = grind (arith, moves-more, moves-idle)

pub new_world :
    (script : Content) (m : MemoryState) (ps cs : Content) (pd cd : Option Access) (pt ct : Stands) (a : ℕ → Bool) → m.shape ≡ script.shape → m.events ≡ [] → ps ≡ script → cs ≡ script →
    pt [] None → ct [] None → ((i : ℕ) → a i ≡ turn script.oracle i) → IsWorld script m ps cs pd cd pt ct a
new_world script m ps cs pd cd pt ct a shape empty p q puts takes oracle = grind arith

-- ---- what was taken, and whether a take returned Closed

pub taken_of :
    (script cs : Content) (h : List Event) (due : Option Access) (stands : Stands) (taken : List ℕ) (told : Bool) (empty : ℕ) → cs ≡ script → (p : IsPlaying C h due stands) →
    TakenSoFar cs.shape (so_far C p.list (open_access C h)) taken told empty → (takes : Takes) → FollowsTakes script.shape h takes →
    (taken ≡ items_taken_in script.shape h takes) × ((told ≡ true) ↔ ToldIn script.shape h takes)
taken_of script cs h due stands taken told empty same p t takes follows =
    let u : TakenSoFar script.shape (subhistory C h) taken told empty = grind arith in
    let mine : FollowsTakes script.shape h u.takes = record { are = u.are; events = u.begins } in
    let (items, told_there) = items_taken_are_read script.shape h u.takes takes mine follows in
    let (items', told_back) = items_taken_are_read script.shape h takes u.takes follows mine in
    (sym u.items ∙ items, (λ e. told_there (u.tells.0 e), λ e. u.tells.1 (told_back e)))

-- ---- what was put

pub ended_of :
    (script cs : Content) (h : List Event) (due : Option Access) (stands : Stands) (taken : List ℕ) (told : Bool) (empty : ℕ) → cs ≡ script → (p : IsPlaying C h due stands) →
    TakenSoFar cs.shape (so_far C p.list (open_access C h)) taken told empty → (takes : Takes) → FollowsTakes script.shape h takes → taken ≡ all_taken (takes_over_in script.shape h takes)
ended_of script cs h due stands taken told empty same p t takes follows =
    let u : TakenSoFar script.shape (subhistory C h) taken told empty = grind arith in
    let mine : FollowsTakes script.shape h u.takes = record { are = u.are; events = u.begins } in
    sym u.ended ∙ ap all_taken (calls_over_are_read_takes script.shape h u.takes takes mine follows)

-- ---- the items taken are the script's first ones

-- the items taken are the first of those put
front_of :
    (script ps cs : Content) (h : List Event) (pd cd : Option Access) (pt ct : Stands) (put taken : List ℕ) (kept : PutTally) (told : Bool) (empty : ℕ) → ps ≡ script → cs ≡ script →
    (p : IsPlaying P h pd pt) → (t : IsPlaying C h cd ct) → PutSoFar ps.shape (so_far P p.list (open_access P h)) put kept →
    TakenSoFar cs.shape (so_far C t.list (open_access C h)) taken told empty → HoldsHeadline script h → IsPrefix taken put
front_of script ps cs h pd cd pt ct put taken kept told empty same_p same_c p t puts takes holds =
    let u : PutSoFar script.shape (subhistory P h) put kept = subst (λ (x : Content). PutSoFar x.shape (subhistory P h) put kept) same_p (subst (λ l. PutSoFar ps.shape l put kept) (sym p.own_is) puts) in
    let v : TakenSoFar script.shape (subhistory C h) taken told empty = grind arith in
    let (rest, is) = (holds u.puts v.takes (record { are = u.are; events = u.begins }) (record { are = v.are; events = v.begins })).prefix (length h) in
    let put_so : items_put script.shape first_count u.puts.puts (clock P h (length h)) ≡ put = ap (items_put script.shape first_count u.puts.puts) (clock_end P h) ∙ u.items in
    let taken_so : items_taken script.shape first_count v.takes.takes (clock C h (length h)) ≡ taken = ap (items_taken script.shape first_count v.takes.takes) (clock_end C h) ∙ v.items in
    (rest, ap (λ l. l ++ rest) (sym taken_so) ∙ is ∙ put_so)

-- so they are the first of all items, if those put are
first_of : (taken items : List ℕ) (n : ℕ) → IsPrefix taken (take n items) → IsPrefix taken items
first_of taken items n (rest, e) =
    (rest ++ drop n items, sym (append_assoc taken rest (drop n items)) ∙ ap (λ l. l ++ drop n items) e ∙ take-append-drop n items)

-- by what both sides know about their results
pub taken_first :
    (a b : Played) (ps cs : Content) (pd cd : Option Access) (A B : Stands) (ct : Stands) (n : ℕ) (taken : List ℕ) (kept : PutTally) (told : Bool) (empty : ℕ) → a ≡ b → ps ≡ a.script → cs ≡ a.script →
    IsPlaying P a.history pd (λ list opened. A list opened × B list opened) → IsPlaying C a.history cd ct →
    ((list : List Made) (opened : Option Access) → A list opened → B list opened → ((access : Access) → opened ≡ Some access → pd ≡ Some access) →
    PutSoFar ps.shape (so_far P list opened) (take n ps.items) kept) →
    ((list : List Made) (opened : Option Access) → ct list opened → ((access : Access) → opened ≡ Some access → cd ≡ Some access) → TakenSoFar cs.shape (so_far C list opened) taken told empty) →
    HoldsHeadline b.script b.history → IsPrefix taken a.script.items
taken_first a b ps cs pd cd A B ct n taken kept told empty same same_p same_c p t look look' holds =
    let h : List Event = a.history in
    let puts = look p.list (open_access P h) p.there.0 p.there.1 p.is_due in
    let takes = look' t.list (open_access C h) t.there t.is_due in
    let holds' = subst (λ (x : Played). HoldsHeadline x.script x.history) (sym same) holds in
    let front = front_of a.script ps cs h pd cd _ ct (take n ps.items) taken kept told empty same_p same_c p t puts takes holds' in
    subst (λ (x : Content). IsPrefix taken x.items) same_p (first_of taken ps.items n front)

pub first_few : (taken items : List ℕ) → IsPrefix taken items → length taken ≤ length items
first_few taken items (rest, e) = omega (arith, ap length e, length-append taken rest)

-- ---- the schedule

-- the letters of the first runs, and of one more
spelled-append : (xs ys : List LetterRun) → spelled (xs ++ ys) ≡ spelled xs ++ spelled ys
unfolding spelled
spelled-append [] ys = refl
spelled-append (x ∷ xs) ys = ap (λ l. replicate x.count x.side ++ l) (spelled-append xs ys) ∙ sym (append_assoc (replicate x.count x.side) (spelled xs) (spelled ys))

spelled-one : (x : LetterRun) → spelled (x ∷ []) ≡ replicate x.count x.side
unfolding spelled
spelled-one x = append-nil (replicate x.count x.side)

pub spelled-more :
    (xs : List LetterRun) (i : ℕ) (d : LetterRun) → i < length xs → spelled (take (i + 1) xs) ≡ spelled (take i xs) ++ replicate (slice_index_or xs i d).count (slice_index_or xs i d).side
spelled-more xs i d l =
    ap spelled (take_more xs i d l) ∙ spelled-append (take i xs) (slice_index_or xs i d ∷ []) ∙ ap (λ t. spelled (take i xs) ++ t) (spelled-one (slice_index_or xs i d))

-- the run past the last one
abbrev pub no_run : LetterRun
no_run = record { side = P; count = 0 }

-- the letters of the first runs and of one more are some of all
pub within_all : (xs : List LetterRun) (i : ℕ) → i < length xs → length (spelled (take i xs)) + (get_or xs i no_run).count ≤ length (spelled xs)
unfolding spelled
within_all [] i h = absurd (omega (arith, h))
within_all (x ∷ xs) zero h = omega (arith, length-append (replicate x.count x.side) (spelled xs), length-replicate x.count x.side)
within_all (x ∷ xs) (suc i) h = grind (arith, length-append, within_all xs i (omega (arith, h)))

pub spelled-none : spelled [] ≡ []
unfolding spelled
spelled-none = refl

-- this many of the first letters: those of the first runs, and of one more run, if there are enough
pub take-none : (k : ℕ) → take k (spelled []) ≡ []
take-none k = ap (λ (l : List Side). take k l) spelled-none ∙ take_all k [] (omega arith)

take_run : (left c : ℕ) (s : Side) → take left (replicate c s) ≡ replicate (min c left) s
take_run left c s = grind (arith, cases_lt, take_all, length-replicate, take-replicate)

take-more : (k : ℕ) (xs : List Side) (c : ℕ) (s : Side) (left count : ℕ) → left ≡ k - length xs → count ≡ min c left → take k (xs ++ replicate c s) ≡ take k xs ++ replicate count s
take-more k xs c s left count l e = elim (cases_lt (length xs) k) [
  | inl h ↦
      let all : take k xs ≡ xs = take_all k xs (omega (arith, h)) in
      let rest : take left (replicate c s) ≡ replicate count s = take_run left c s ∙ ap (λ (n : ℕ). replicate n s) (sym e) in
      ap (λ (n : ℕ). take n (xs ++ replicate c s)) (omega (arith, h, l)) ∙ take-append-add xs (replicate c s) left ∙ ap (λ (t : List Side). xs ++ t) rest ∙ ap (λ (t : List Side). t ++ replicate count s) (sym all)
  | inr h ↦ grind (arith, take-append-le, append-nil)
]

left-more : (k : ℕ) (xs : List Side) (c : ℕ) (s : Side) (left count : ℕ) → left ≡ k - length xs → count ≡ min c left → left - count ≡ k - length (xs ++ replicate c s)
left-more k xs c s left count l e = omega (arith, length-append xs (replicate c s), length-replicate c s)

-- with one more run, some of whose letters are among the first
pub one_run_more :
    (runs : List LetterRun) (i k left count : ℕ) → i < length runs → left ≡ k - length (spelled (take i runs)) → count ≡ min (slice_index_or runs i no_run).count left →
    (take k (spelled (take (i + 1) runs)) ≡ take k (spelled (take i runs)) ++ replicate count (slice_index_or runs i no_run).side) ×
    (left - count ≡ k - length (spelled (take (i + 1) runs))) ×
    (length (spelled (take (i + 1) runs)) ≡ length (spelled (take i runs)) + (slice_index_or runs i no_run).count)
one_run_more runs i k left count l left_is least =
    let one : LetterRun = slice_index_or runs i no_run in
    let before : List Side = spelled (take i runs) in
    let after : spelled (take (i + 1) runs) ≡ before ++ replicate one.count one.side = spelled-more runs i no_run l in (
      ap (take k) after ∙ take-more k before one.count one.side left count left_is least,
      left-more k before one.count one.side left count left_is least ∙ ap (λ (t : List Side). k - length t) (sym after),
      ap length after ∙ length-append before (replicate one.count one.side) ∙ ap (λ (n : ℕ). length before + n) (length-replicate one.count one.side),
    )

-- after the last run they are all letters
pub all_runs : (runs : List LetterRun) (i : ℕ) (letters : List Side) → i ≡ length runs → spelled runs ≡ letters → spelled (take i runs) ≡ letters
all_runs runs i letters end all = ap (λ i. spelled (take i runs)) end ∙ ap spelled (take-length runs) ∙ all
