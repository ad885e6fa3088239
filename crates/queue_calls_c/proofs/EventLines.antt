-- Lines that represent events, and the lines at which a history lacks classes, after one more event.
use Rattle.std.proofs.Common.{◌≡◌, ◌≢◌, ◌∙◌, ℕ, suc, ◌+◌, ◌<◌, ◌≤◌, Option, Some, None, Result, Ok, Err, inr, List, [], ◌∷◌, ◌++◌, length, map, take, reverse, get_or, refl, sym, ap, ap₂, subst, length-append, arith}
use Rattle.std.specs.Prelude.{IfErr, IfOk}
use Rattle.std.proofs.lemmas.List.{map_more, map_push, length-map, reverse-append, take-append-le, take_all, take_at}
use Rattle.std.proofs.lemmas.Option.{same_Some}
use Rattle.register_calls.specs.declared.events.Class.{Class}
use Rattle.register_calls.specs.declared.events.Class.TheVariants.{Safe, Regular, AtomicByReader, Atomic}
use Rattle.register_calls.specs.declared.events.Register.{Register}
use Rattle.register_calls.specs.declared.events.RegisterEvent.{RegisterEvent}
use Rattle.register_calls.specs.declared.events.RegisterEvent.TheVariants.{WriteBegins, WriteEnds, ReadBegins, ReadEnds}
use Rattle.register_calls.specs.declared.faults.RegisterFault.{RegisterFault}
use Rattle.register_calls.specs.declared.faults.RegisterFault.TheVariants as fault
use Rattle.register_calls.specs.Audits.{RefusesRegisterEvent}
use Rattle.register_calls.specs.Classes.{HasClass}
use Rattle.register_calls.specs.Findings.{IsFirstMiss}
use Rattle.register_calls.specs.Histories.{WritesValue}
use Rattle.register_calls.proofs.MissLemmas.{first_has}
use Rattle.register_calls.proofs.ReadLemmas.{few_started}
use Rattle.queue_calls_c.specs.Registers.{AreLost, IsJudgedHistory, IsJudgement, IsLostAt, IsWithinReaders, IsRefusedAt, RefusesEventLine, StandFor, line_event, refusal_of, refused_line, register_of}
use Rattle.queue_calls_c.specs.declared.judges.JudgedHistory.{JudgedHistory}
use Rattle.queue_calls_c.specs.declared.judges.JudgeFault.{JudgeFault}
use Rattle.queue_calls_c.specs.declared.judges.JudgeFault.TheVariants.{BadLine, TooFewSlots}
use Rattle.queue_calls_c.specs.declared.registers.EventLine.{EventLine}

-- ---- what lines represent

-- one more line represents one more event
pub stand_more :
    (lines : List EventLine) (place : ℕ) (d : EventLine) (before : List RegisterEvent) (e : RegisterEvent) → place < length lines → StandFor (take place lines) before → line_event (get_or lines place d) ≡ Some e →
    StandFor (take (place + 1) lines) (before ++ e ∷ [])
stand_more lines place d before e within stand is =
    map_more line_event lines place d within ∙ ap₂ (λ (a : List (Option RegisterEvent)) (b : Option RegisterEvent). a ++ b ∷ []) stand is ∙ sym (map_push (λ (x : RegisterEvent). Some x) before e)

-- there are as many events as lines
pub as_many : (lines : List EventLine) (events : List RegisterEvent) → StandFor lines events → length events ≡ length lines
as_many lines events stand = sym (length-map events (λ (x : RegisterEvent). Some x)) ∙ ap length (sym stand) ∙ length-map lines line_event

-- ---- the line at which a class is lost

module _ (c : Class) (r : Register) (events : List RegisterEvent) (e : RegisterEvent) where
  -- the first miss of events stays their first miss after one more
  -- again, since this crate does not depend on the text of registers
  first_stays : (p : ℕ) → IsFirstMiss c r events p → IsFirstMiss c r (events ++ e ∷ []) p
  first_stays p miss =
      let within : p < length events = miss.within in
      record {
        within = omega (arith, within, length-append events (e ∷ []));
        before = subst (λ (es : List RegisterEvent). HasClass c r (reverse es)) (sym (take-append-le p events (e ∷ []) (omega (arith, within)))) miss.before;
        with_it = subst (λ (es : List RegisterEvent). ¬ HasClass c r (reverse es)) (sym (take-append-le (p + 1) events (e ∷ []) (omega (arith, within)))) miss.with_it;
      }

  -- the added event is the first miss
  -- again, since this crate does not depend on the text of registers
  first_comes : HasClass c r (reverse events) → ¬ HasClass c r (e ∷ reverse events) → IsFirstMiss c r (events ++ e ∷ []) (length events)
  first_comes had lacks = record {
    within = omega (arith, length-append events (e ∷ []));
    before = subst (λ (es : List RegisterEvent). HasClass c r (reverse es)) (sym (take_at events (e ∷ []) (length events) refl)) had;
    with_it = subst (λ (es : List RegisterEvent). ¬ HasClass c r (reverse es)) (sym (take_all (length events + 1) (events ++ e ∷ []) (omega (arith, length-append events (e ∷ [])))))
        (subst (λ (h : List RegisterEvent). ¬ HasClass c r h) (sym (reverse-append events (e ∷ []))) lacks);
  }

  -- a class that was lost is lost with the same line
  pub lost_stays : (line : ℕ) → line ≢ 0 → IsLostAt c r events line → IsLostAt c r (events ++ e ∷ []) line
  lost_stays line some (None, had, is) = absurd (some is)
  lost_stays line some (Some p, miss, is) = (Some p, first_stays p miss, is)

  -- nor is one that the history has
  pub lost_has : (line : ℕ) → HasClass c r (e ∷ reverse events) → IsLostAt c r events line → IsLostAt c r (events ++ e ∷ []) line
  lost_has line has (None, had, is) = (None, subst (λ (h : List RegisterEvent). HasClass c r h) (sym (reverse-append events (e ∷ []))) has, is)
  lost_has line has (Some p, miss, is) = (Some p, first_stays p miss, is)

  -- one that was not lost, and that the history lacks with the event, is lost with it
  pub lost_now : (known line : ℕ) → known ≡ 0 → IsLostAt c r events known → ¬ HasClass c r (e ∷ reverse events) → length events + 2 ≡ line → IsLostAt c r (events ++ e ∷ []) line
  lost_now known line zero (None, had, is) lacks at = (Some (length events), first_comes had lacks, sym at)
  lost_now known line zero (Some p, miss, is) lacks at = absurd (omega (arith, zero, is))

-- no class is lost before any event
pub none_lost : (r : Register) → AreLost r [] (record { safe = 0; regular = 0; by_reader = 0; atomic = 0 })
none_lost r = record {
  safe = (None, first_has Safe r, refl);
  regular = (None, first_has Regular r, refl);
  by_reader = (None, first_has AtomicByReader r, refl);
  atomic = (None, first_has Atomic r, refl);
}

-- ---- lines that are refused

-- a line whose event writes no value is a bad one
writes_none :
    (slots number : ℕ) (r : Register) (h : List RegisterEvent) (l : EventLine) (e : RegisterEvent) → Some e ≡ line_event l → ¬ WritesValue r e → RefusesEventLine slots (BadLine number) r h l
writes_none slots number r h l e is never other same = subst (λ (x : RegisterEvent). ¬ WritesValue r x) (same_Some e other (is ∙ same)) never

-- each of 64 readers has room, so an event that finds no room begins a write
no_room :
    (slots readers most number : ℕ) (r : Register) (h : List RegisterEvent) (l : EventLine) (e : RegisterEvent) → readers ≡ 64 → IsWithinReaders e → Some e ≡ line_event l →
    RefusesRegisterEvent slots readers most fault.OutOfMemory r h e → RefusesEventLine slots (TooFewSlots number) r h l
no_room slots readers most number r h l (WriteBegins v) rooms within is refused = (v, sym is, refused)
no_room slots readers most number r h l WriteEnds rooms within is refused = absurd refused.2
no_room slots readers most number r h l (ReadBegins i) rooms within is refused = absurd (omega (arith, rooms, within, refused.2))
no_room slots readers most number r h l (ReadEnds i v) rooms within is refused = absurd refused.2

-- the line of an event that an auditor refuses is refused
pub refusal_line : (fault : RegisterFault) (number : ℕ) → refused_line (refusal_of fault number) ≡ number
refusal_line fault.NoValue number = refl
refusal_line fault.OutOfTurn number = refl
refusal_line fault.TooMany number = refl
refusal_line fault.OutOfMemory number = refl

pub refuses_line :
    (fault : RegisterFault) (slots readers number : ℕ) (r : Register) (h : List RegisterEvent) (l : EventLine) (e : RegisterEvent) → readers ≡ 64 → IsWithinReaders e → Some e ≡ line_event l → length h + 2 ≡ number →
    number < 18446744073709551616 → RefusesRegisterEvent slots readers 18446744073709551615 fault r h e → RefusesEventLine slots (refusal_of fault number) r h l
refuses_line fault.NoValue slots readers number r h l e rooms within is count small refused = writes_none slots number r h l e is refused
refuses_line fault.OutOfTurn slots readers number r h l e rooms within is count small refused = (e, sym is, refused.0, refused.1)
refuses_line fault.TooMany slots readers number r h l e rooms within is count small refused = absurd (omega (arith, refused.3, few_started h, count, small))
refuses_line fault.OutOfMemory slots readers number r h l e rooms within is count small refused = no_room slots readers 18446744073709551615 number r h l e rooms within is refused

-- ---- the finding

-- the finding on further lines, by the register of the first one
pub judgement :
    (numbers : List ℕ) (lines : List EventLine) (slots : ℕ) (r : Register) (result : Result JudgedHistory JudgeFault) → register_of numbers ≡ Some r →
    IfOk result (λ judged. (events : List RegisterEvent) × StandFor lines events × IsJudgedHistory r events judged) → IfErr result (λ refusal. IsRefusedAt slots r lines refusal) →
    IsJudgement numbers lines slots result
judgement numbers lines slots r (Ok judged) is ok err = (r, ok.0, is, ok.1, ok.2)
judgement numbers lines slots r (Err refusal) is ok err = inr (r, is, err)
