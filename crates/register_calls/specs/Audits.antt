-- What an auditor of a register keeps of a history, and what it returns.
use Rattle.std.specs.Prelude.{◌≡◌, ◌≢◌, ◌⊎◌, ℕ, suc, ◌-◌, ◌≤◌, ◌<◌, Bool, true, false, Option, Some, None, List, ◌∷◌, length, drop, slice_index_or, option_map, Result, MatchResult, if◌then◌else◌}
use Rattle.register_calls.specs.declared.events.Register.{Register}
use Rattle.register_calls.specs.declared.events.RegisterEvent.{RegisterEvent}
use Rattle.register_calls.specs.declared.events.RegisterEvent.TheVariants.{WriteBegins, ReadBegins}
use Rattle.register_calls.specs.declared.faults.RegisterFault.{RegisterFault}
use Rattle.register_calls.specs.declared.faults.RegisterFault.TheVariants.{NoValue, OutOfTurn, TooMany, OutOfMemory}
use Rattle.register_calls.specs.declared.auditors.OpenRead.{OpenRead}
use Rattle.register_calls.specs.declared.auditors.ReaderState.{ReaderState}
use Rattle.register_calls.specs.declared.auditors.FoundWrites.{FoundWrites}
use Rattle.register_calls.specs.declared.auditors.RegisterAuditor.{RegisterAuditor}
use Rattle.register_calls.specs.Histories.{started, finished, written_values, has_read_open, before_read, IsWellFormed, ComesInTurn, WritesValue}
use Rattle.register_calls.specs.Judging.{FindsFirst, IsGreater, IsRaised}
use Rattle.register_calls.specs.Classes.{Scope, Together, EachAlone, Choice, NoneIsLater, Orders, HasOrder, IsSafe, IsRegular}

-- the state of a reader that has not read yet
abbrev pub fresh_reader : ReaderState
fresh_reader = record { own = 0; reading = None }

-- the state of a reader in a list; that of a reader that has not read if it is past the end
abbrev pub reader_at : List ReaderState → (reader : ℕ) → ReaderState
reader_at readers i = slice_index_or readers i fresh_reader

-- the state of one reader is this now, and that of each other one is unchanged
pub record MovesReader (xs ys : List ReaderState) (i : ℕ) (state : ReaderState) : Type 0 where
  pub here : reader_at ys i ≡ state
  pub others : (j : ℕ) → j ≢ i → reader_at ys j ≡ reader_at xs j

-- a read of a reader has begun: its lows are the greater of the number of writes that had ended and of the floors
pub record StartsRead (ended floor : ℕ) (xs ys : List ReaderState) (i : ℕ) : Type 0 where
  pub read : OpenRead
  pub moves : MovesReader xs ys i (record { own = (reader_at xs i).own; reading = Some read })
  pub low : IsGreater ended floor read.low
  pub own_low : IsGreater ended (reader_at xs i).own read.own_low

-- what a read that ends with this value may be of, by the writes that are kept
pub record FindsWrites (kept : List ℕ) (base begun value : ℕ) (found : FoundWrites) : Type 0 where
  pub any : FindsFirst kept base begun found.read.before value found.of_any
  pub own : FindsFirst kept base begun found.read.own_low value found.of_own
  pub all : FindsFirst kept base begun found.read.low value found.of_all

-- the read of a reader has ended, and raised the floors to the first writes that it may be of
pub record EndsRead (found : FoundWrites) (xs ys : List ReaderState) (i floor top : ℕ) : Type 0 where
  pub own : ℕ
  pub moves : MovesReader xs ys i (record { own = own; reading = None })
  pub own_raised : IsRaised (reader_at xs i).own found.of_own own
  pub raised : IsRaised floor found.of_all top

-- what is kept about the read that a reader has under way: how many writes had ended when it began
abbrev pub KeepsRead : (reader : ℕ) → List RegisterEvent → Option OpenRead → Type 0
KeepsRead i h None = has_read_open i h ≡ false
KeepsRead i h (Some r) = (has_read_open i h ≡ true) × (r.before ≡ finished (before_read i h)) × (r.before ≤ r.low) × (r.before ≤ r.own_low)

-- The floor of a reader is the least number that no read it has to respect exceeds, in any order: one order stays within the floors, and
-- none goes below one. The low of a read under way is the same for the reads that had ended when it began, and for the writes that had
-- ended then.
pub record KeepsOrder (s : Scope) (first : ℕ) (h : List RegisterEvent) (floor : ℕ → ℕ) (low : ℕ → Option ℕ) : Type 0 where
  pub of : Choice
  pub orders : Orders s first of h
  pub reached : (i : ℕ) → NoneIsLater s of i (floor i) h
  pub least : (i : ℕ) (other : Choice) (number : ℕ) → Orders s first other h → NoneIsLater s other i number h → floor i ≤ number
  pub reached_before : (i n : ℕ) → low i ≡ Some n → NoneIsLater s of i n (before_read i h)
  pub least_before : (i n : ℕ) → low i ≡ Some n → (other : Choice) (number : ℕ) → Orders s first other h →
      NoneIsLater s other i number (before_read i h) → finished (before_read i h) ≤ number → n ≤ number

-- the least of a number and of those of the reads under way in a list of readers
pub record IsOldestKept (ended : ℕ) (readers : List ReaderState) (number : ℕ) : Type 0 where
  pub within : number ≤ ended
  pub each : (i : ℕ) (read : OpenRead) → (reader_at readers i).reading ≡ Some read → number ≤ read.before
  pub some : (number ≡ ended) ⊎ ((i : ℕ) × (read : OpenRead) × ((reader_at readers i).reading ≡ Some read) × (number ≡ read.before))

-- whether there is an order, and its floors while there is one
abbrev pub KeepsScope : Bool → Scope → (first : ℕ) (h : List RegisterEvent) (floor : ℕ → ℕ) (low : ℕ → Option ℕ) → Type 0
KeepsScope true s first h floor low = KeepsOrder s first h floor low
KeepsScope false s first h floor low = ¬ HasOrder s first h

-- whether the Bool says that something holds
abbrev pub IsToldBy : Bool → Type 0 → Type 0
IsToldBy true P = P
IsToldBy false P = ¬ P

-- the lows kept for all readers together
abbrev pub lows : List ReaderState → ℕ → Option ℕ
lows readers i = option_map (λ r. r.low) (reader_at readers i).reading

-- the lows kept for each reader alone
abbrev pub own_lows : List ReaderState → ℕ → Option ℕ
own_lows readers i = option_map (λ r. r.own_low) (reader_at readers i).reading

-- the floors kept for each reader alone
abbrev pub own_floors : List ReaderState → ℕ → ℕ
own_floors readers i = (reader_at readers i).own

-- What is kept of a history: the values of the writes from a number on, where no read under way, and none that begins later, can be of an
-- earlier one; how many have begun, and whether the last one is under way; for each reader, its floor and its read under way; the floor of
-- all; and which classes the history has.
pub record KeepsHistory (r : Register) (h : List RegisterEvent) (kept : List ℕ) (base begun : ℕ) (writing : Bool) (readers : List ReaderState) (floor : ℕ) (safe regular by_reader atomic : Bool) : Type 0 where
  pub well_formed : IsWellFormed r h
  pub count : begun ≡ started h
  pub turn : started h ≡ (if writing then suc (finished h) else finished h)
  pub low : base ≤ finished h
  pub values : kept ≡ drop base (written_values r.first h)
  pub reads : (i : ℕ) → KeepsRead i h (reader_at readers i).reading
  pub needed : (i : ℕ) (read : OpenRead) → (reader_at readers i).reading ≡ Some read → base ≤ read.before
  pub is_safe : IsToldBy safe (IsSafe r h)
  pub is_regular : IsToldBy regular (IsRegular r.first h)
  pub order_of_each : KeepsScope by_reader EachAlone r.first h (own_floors readers) (own_lows readers)
  pub order_of_all : KeepsScope atomic Together r.first h (λ i. floor) (lows readers)

-- an auditor, whose lists have these items, has read this history
abbrev pub AuditsRegister : {W R : Type 0} → (window : W → List ℕ) → (states : R → List ReaderState) → RegisterAuditor W R → List RegisterEvent → Type 0
AuditsRegister window states a h =
    KeepsHistory a.register h (window a.window) a.base a.begun a.is_writing (states a.readers) a.floor a.is_safe a.is_regular a.is_by_reader a.is_atomic

-- the least number of a write that a read under way may be of, or one that begins now
pub record IsOldest (h : List RegisterEvent) (number : ℕ) : Type 0 where
  pub ended : number ≤ finished h
  pub each : (i : ℕ) → has_read_open i h ≡ true → number ≤ finished (before_read i h)
  pub some : (number ≡ finished h) ⊎ ((i : ℕ) × (has_read_open i h ≡ true) × (number ≡ finished (before_read i h)))

-- No room: a write begins, and those that a read may be of, with it, are more than the list of writes has room for; or a read of a
-- reader begins for which the list of readers has no room.
abbrev pub LacksRoomFor : (writes readers : ℕ) → List RegisterEvent → RegisterEvent → Type 0
LacksRoomFor writes readers h (WriteBegins v) = (number : ℕ) × IsOldest h number × (writes < suc (suc (started h)) - number)
LacksRoomFor writes readers h (ReadBegins i) = readers ≤ i
LacksRoomFor writes readers h e = ⊥

-- why an event is refused after a history, by lists with room for this many writes and readers
abbrev pub RefusesRegisterEvent : (writes readers most : ℕ) → RegisterFault → Register → List RegisterEvent → RegisterEvent → Type 0
RefusesRegisterEvent writes readers most NoValue r h e = ¬ WritesValue r e
RefusesRegisterEvent writes readers most OutOfTurn r h e = WritesValue r e × ¬ ComesInTurn h e
RefusesRegisterEvent writes readers most TooMany r h e = WritesValue r e × ComesInTurn h e × ((v : ℕ) × (e ≡ WriteBegins v)) × (started h ≡ most)
RefusesRegisterEvent writes readers most OutOfMemory r h e = WritesValue r e × ComesInTurn h e × LacksRoomFor writes readers h e

-- what holds for an event that a witness refuses after a history, if it counts this many events at most
abbrev pub RefusesRemembered : (most : ℕ) → RegisterFault → Register → List RegisterEvent → RegisterEvent → Type 0
RefusesRemembered most NoValue r h e = ¬ WritesValue r e
RefusesRemembered most OutOfTurn r h e = WritesValue r e × ¬ ComesInTurn h e
RefusesRemembered most TooMany r h e = most ≤ length h
RefusesRemembered most OutOfMemory r h e = Unit {0}

-- After each history that it has read, an auditor reads an event, and after the start of a write it keeps no write that no read can be of;
-- or it refuses the event, and has then read what it had before.
abbrev pub HearsEvent :
    {W R T : Type 0} → (window : W → List ℕ) → (states : R → List ReaderState) → (writes : W → ℕ) → (readers : R → ℕ) → (most : ℕ) →
    RegisterAuditor W R → RegisterEvent → Result T RegisterFault → RegisterAuditor W R → Type 0
HearsEvent window states writes readers most old event result new =
    (new.register ≡ old.register) ×
    ((h : List RegisterEvent) → AuditsRegister window states old h →
    MatchResult result (λ _. AuditsRegister window states new (event ∷ h) × ((v : ℕ) → event ≡ WriteBegins v → IsOldest h new.base))
    (λ fault. AuditsRegister window states new h × RefusesRegisterEvent (writes old.window) (readers old.readers) most fault old.register h event))
