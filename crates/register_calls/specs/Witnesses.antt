-- What a witness of a register's history keeps, and what it returns.
use Rattle.std.specs.Prelude.{◌≡◌, ◌⊎◌, ℕ, ◌-◌, ◌≤◌, ◌<◌, Option, Some, None, List, [], ◌∷◌, ◌++◌, length, drop, slice_index_or, Result, MatchResult}
use Rattle.register_calls.specs.declared.events.Register.{Register}
use Rattle.register_calls.specs.declared.events.RegisterEvent.{RegisterEvent}
use Rattle.register_calls.specs.declared.events.RegisterEvent.TheVariants.{WriteBegins, WriteEnds, ReadBegins, ReadEnds}
use Rattle.register_calls.specs.declared.events.Class.{Class}
use Rattle.register_calls.specs.declared.events.Class.TheVariants.{Safe, Regular, AtomicByReader, Atomic}
use Rattle.register_calls.specs.declared.faults.RegisterFault.{RegisterFault}
use Rattle.register_calls.specs.declared.auditors.ReaderState.{ReaderState}
use Rattle.register_calls.specs.declared.chains.Chain.{Chain}
use Rattle.register_calls.specs.declared.reasons.EarlierRead.{EarlierRead}
use Rattle.register_calls.specs.declared.reasons.MissReason.{MissReason}
use Rattle.register_calls.specs.declared.reasons.MissReason.TheVariants.{NoValue, Held, NotWritten, Inverted}
use Rattle.register_calls.specs.declared.witnesses.RegisterWitness.{RegisterWitness}
use Rattle.register_calls.specs.Histories.{finished, before_read}
use Rattle.register_calls.specs.Classes.{Scope, Together, EachAlone, IsStrongest}
use Rattle.register_calls.specs.Audits.{AuditsRegister, RefusesRemembered, lows, own_lows, own_floors}
use Rattle.register_calls.specs.Chains.{ShowsReads, chain_at}
use Rattle.register_calls.specs.Reasons.{IsBound, IsMissReason}
use Rattle.register_calls.specs.Reports.{TalliesRegister}

-- the places where the writes begin, each at its number, after a 0 for the first value
abbrev pub begin_places : List RegisterEvent → List ℕ
begin_places [] = 0 ∷ []
begin_places (WriteBegins v ∷ before) = begin_places before ++ length before ∷ []
begin_places (WriteEnds ∷ before) = begin_places before
begin_places (ReadBegins i ∷ before) = begin_places before
begin_places (ReadEnds i v ∷ before) = begin_places before

-- the place where the last write ended, if one has
abbrev pub last_end : List RegisterEvent → Option ℕ
last_end [] = None
last_end (WriteBegins v ∷ before) = last_end before
last_end (WriteEnds ∷ before) = Some (length before)
last_end (ReadBegins i ∷ before) = last_end before
last_end (ReadEnds i v ∷ before) = last_end before

-- The chain of a reader shows reads that bound its next read by its floor; and the writes that had ended when its read under way began
-- bound that read by its low, or its chain shows reads that do.
pub record KeepsBounds (s : Scope) (first : ℕ) (h : List RegisterEvent) (floor : ℕ → ℕ) (by : ℕ → Chain) (low : ℕ → Option ℕ) (low_by : ℕ → Chain) : Type 0 where
  pub floors : (i : ℕ) → (reads : List EarlierRead) × ShowsReads (by i) reads × IsBound s first reads i h (floor i)
  pub lows : (i n : ℕ) → low i ≡ Some n → (n ≤ finished (before_read i h)) ⊎ ((reads : List EarlierRead) × ShowsReads (low_by i) reads × IsBound s first reads i (before_read i h) n)

-- a witness, whose lists have these items, has read this history
pub record RemembersRegister {W R P C : Type 0} (window : W → List ℕ) (states : R → List ReaderState) (places : P → List ℕ) (chains : C → List Chain) (w : RegisterWitness W R P C) (h : List RegisterEvent) : Type 0 where
  pub audits : AuditsRegister window states w.auditor h
  pub count : w.count ≡ length h
  pub places_kept : places w.places ≡ drop w.auditor.base (begin_places h)
  pub last_ended : w.ended ≡ last_end h
  pub of_each : KeepsBounds EachAlone w.auditor.register.first h (own_floors (states w.auditor.readers)) (λ i. chain_at (chains w.own) i)
      (own_lows (states w.auditor.readers)) (λ i. chain_at (chains w.own_low) i)
  pub of_all : KeepsBounds Together w.auditor.register.first h (λ i. w.auditor.floor) (λ i. w.floor)
      (lows (states w.auditor.readers)) (λ i. chain_at (chains w.low) i)
  pub tallies : TalliesRegister w.tally h

-- the read that ends now, as a chain reports it, with the place where the write with this number began
abbrev pub link_of : (places : List ℕ) (base count reader value number : ℕ) → EarlierRead
link_of places base count i v n = record { reader = i; ended = count; value = v; written = slice_index_or places (n - base) 0 }

-- the read that ends, if it raises the floor
abbrev pub IsRaisingLink : (floor : ℕ) → Option ℕ → (link : ℕ → EarlierRead) → Option EarlierRead → Type 0
IsRaisingLink floor None link raising = raising ≡ None
IsRaisingLink floor (Some n) link raising = (n ≤ floor → raising ≡ None) × (floor < n → raising ≡ Some (link n))

-- the chain of the read under way: by the reads of all readers for the class atomic, otherwise by its own
abbrev pub low_chain : Class → (low own_low : Chain) → Chain
low_chain Safe low own_low = own_low
low_chain Regular low own_low = own_low
low_chain AtomicByReader low own_low = own_low
low_chain Atomic low own_low = low

-- after each history that it remembers, a witness reads an event, or refuses it and remembers what it did before
abbrev pub RemembersEvent :
    {W R P C T : Type 0} → (window : W → List ℕ) → (states : R → List ReaderState) → (places : P → List ℕ) → (chains : C → List Chain) → (most : ℕ) →
    RegisterWitness W R P C → RegisterEvent → Result T RegisterFault → RegisterWitness W R P C → Type 0
RemembersEvent window states places chains most old event result new =
    (new.auditor.register ≡ old.auditor.register) ×
    ((h : List RegisterEvent) → RemembersRegister window states places chains old h →
    MatchResult result (λ _. RemembersRegister window states places chains new (event ∷ h))
    (λ fault. RemembersRegister window states places chains new h × RefusesRemembered most fault old.auditor.register h event))

-- after each history that it remembers, a witness reads an event and returns the strongest class, or refuses it and remembers what it did
-- before
abbrev pub HearsAndRemembers :
    {W R P C : Type 0} → (window : W → List ℕ) → (states : R → List ReaderState) → (places : P → List ℕ) → (chains : C → List Chain) → (most : ℕ) →
    RegisterWitness W R P C → RegisterEvent → Result (Option Class) RegisterFault → RegisterWitness W R P C → Type 0
HearsAndRemembers window states places chains most old event result new =
    (new.auditor.register ≡ old.auditor.register) ×
    ((h : List RegisterEvent) → RemembersRegister window states places chains old h →
    MatchResult result (λ class. RemembersRegister window states places chains new (event ∷ h) × IsStrongest class old.auditor.register (event ∷ h))
    (λ fault. RemembersRegister window states places chains new h × RefusesRemembered most fault old.auditor.register h event))

-- a reason with a chain is the one with the reads that the chain shows
abbrev pub IsShownReason : Class → Register → List RegisterEvent → (reader value : ℕ) → MissReason Chain → Type 0
IsShownReason c r h i v NoValue = IsMissReason c r h i v NoValue
IsShownReason c r h i v (Held value since) = IsMissReason c r h i v (Held value since)
IsShownReason c r h i v NotWritten = IsMissReason c r h i v NotWritten
IsShownReason c r h i v (Inverted chain) = (reads : List EarlierRead) × ShowsReads chain reads × IsMissReason c r h i v (Inverted reads)
