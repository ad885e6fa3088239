-- The first reads at which a history lacks its classes, after one more event.
use Rattle.std.proofs.Common.{rules, ◌≡◌, ℕ, ◌+◌, Option, None, List, [], ◌∷◌, ◌++◌, length, reverse, append_assoc, length-append, arith}
use Rattle.std.proofs.lemmas.List.{reverse-append, take-append-le, take_all, take_at}
use Rattle.register_calls.specs.declared.events.Class.{Class}
use Rattle.register_calls.specs.declared.events.Class.TheVariants.{Safe, Regular, AtomicByReader, Atomic}
use Rattle.register_recordings.proofs.Common.{Register, RegisterEvent}
use Rattle.register_calls.specs.declared.events.RegisterEvent.TheVariants.{ReadEnds}
use Rattle.register_calls.specs.Classes.{HasClass}
use Rattle.register_calls.specs.Findings.{IsFirstMiss}
use Rattle.register_calls.specs.Witnesses.{IsShownReason}
use Rattle.register_calls.proofs.MissLemmas.{first_has}
use Rattle.register_recordings.specs.declared.findings.Misses.{Misses}
use Rattle.register_recordings.specs.declared.findings.RegisterMiss.{RegisterMiss}
use Rattle.register_recordings.specs.Misses.{AreMisses, IsMissFound, IsMissOf}

-- the last event of a longer list comes first in its history
pub one_more : (events : List RegisterEvent) (e : RegisterEvent) → reverse (events ++ e ∷ []) ≡ e ∷ reverse events
one_more events e = reverse-append events (e ∷ [])

-- the first miss of events stays their first miss after more
first_stays : (c : Class) (r : Register) (events : List RegisterEvent) (e : RegisterEvent) (p : ℕ) → IsFirstMiss c r events p → IsFirstMiss c r (events ++ e ∷ []) p
first_stays c r events e p miss = grind (arith, length-append, take-append-le)

-- the added event is the first miss
first_comes : (c : Class) (r : Register) (events : List RegisterEvent) (e : RegisterEvent) → HasClass c r (reverse events) → ¬ HasClass c r (e ∷ reverse events) → IsFirstMiss c r (events ++ e ∷ []) (length events)
first_comes c r events e had lacks = grind (arith, length-append, one_more, take_all, take_at)

-- a miss that was found stays one after more events
pub miss_stays : (c : Class) (r : Register) (events : List RegisterEvent) (e : RegisterEvent) (miss : RegisterMiss) → IsMissFound c r events miss → IsMissFound c r (events ++ e ∷ []) miss
miss_stays c r events e miss is = grind (arith, (append_assoc is.before (ReadEnds miss.reader miss.value ∷ is.rest) (e ∷ [])), (first_stays c r events e (length is.before) is.first), is.before, is.first, is.line, is.parts, is.reason, is.rest, miss.reader, miss.value)

-- a read at which the history lacks a class, for this reason
pub miss_comes :
    (c : Class) (r : Register) (events : List RegisterEvent) (miss : RegisterMiss) → length events + 2 ≡ miss.line → HasClass c r (reverse events) →
    ¬ HasClass c r (ReadEnds miss.reader miss.value ∷ reverse events) → IsShownReason c r (reverse events) miss.reader miss.value miss.reason → IsMissFound c r (events ++ ReadEnds miss.reader miss.value ∷ []) miss
miss_comes c r events miss at had lacks reason = grind (arith, (first_comes c r events (ReadEnds miss.reader miss.value) had lacks), miss.reader, miss.value)

-- an event with which the history keeps its classes
of_kept : (c : Class) (r : Register) (events : List RegisterEvent) (e : RegisterEvent) (known : Option RegisterMiss) → (HasClass c r (reverse events) → HasClass c r (e ∷ reverse events)) → IsMissOf c r events known → IsMissOf c r (events ++ e ∷ []) known
of_kept c r events e known h1 h2 = grind (arith, one_more, miss_stays)

pub all_kept : (r : Register) (events : List RegisterEvent) (e : RegisterEvent) (misses : Misses) → ((c : Class) → HasClass c r (reverse events) → HasClass c r (e ∷ reverse events)) → AreMisses r events misses → AreMisses r (events ++ e ∷ []) misses
all_kept r events e misses keeps are = search (rules, of_kept)

-- an event that ends no read is such an event
pub no_end_keeps : (r : Register) (h : List RegisterEvent) (e : RegisterEvent) → ((i v : ℕ) → ¬ (e ≡ ReadEnds i v)) → (c : Class) → HasClass c r h → HasClass c r (e ∷ h)
no_end_keeps r h e h1 c h2 = grind arith

-- no class is missed before any event
abbrev pub no_misses : Misses
no_misses = record { safe = None; regular = None; by_reader = None; atomic = None }

pub none_missed : (r : Register) → AreMisses r [] no_misses
none_missed r = record { safe = first_has Safe r; regular = first_has Regular r; by_reader = first_has AtomicByReader r; atomic = first_has Atomic r }
