-- Whether a history falls short of a class, and whether the bytes that record it do.
use Rattle.std.proofs.Common.{arith, ◌≡◌, ◌≢◌, true, ℕ, Option, Some, None, List, [], ◌∷◌, refl}
use Rattle.std.specs.List.{filter_map}
use Rattle.register_recordings.proofs.Common.{ReaderState, Register, RegisterEvent, Chain, IsWellFormed, JudgedLines, HasJudged, HasReadEvents}
use Rattle.register_calls.specs.declared.events.Class.{Class}
use Rattle.register_calls.specs.declared.reports.RegisterReport.{RegisterReport}
use Rattle.register_calls.specs.Classes.{HasClass, IsStrongest}
use Rattle.register_calls.proofs.ClassLemmas.{stronger}
use Rattle.register_lines.specs.declared.lines.RegisterLine.{RegisterLine}
use Rattle.register_recordings.specs.declared.findings.Misses.{Misses}
use Rattle.register_recordings.specs.declared.findings.RegisterFinding.{RegisterFinding}
use Rattle.register_recordings.specs.declared.findings.RegisterFinding.TheVariants.{Judged}
use Rattle.register_recordings.specs.Recordings.{FallsShort, IsRegisterRecording, IsShortfall, falls_short, recorded_event, register_text}

-- the strongest class is one that the history has
strongest_has : (d : Class) (r : Register) (h : List RegisterEvent) → IsStrongest (Some d) r h → HasClass d r h
strongest_has d r h h1 = grind arith

-- if the history lacks a class, its strongest one falls short of it
pub lacking_falls_short :
    (class : Class) (found : Option Class) (misses : Misses) (report : RegisterReport) (r : Register) (h : List RegisterEvent) → IsWellFormed r h → IsStrongest found r h → ¬ HasClass class r h →
    falls_short class (Judged found misses report) ≡ true
lacking_falls_short class None misses report r h formed is lacks = refl
lacking_falls_short class (Some d) misses report r h formed is lacks = grind (arith, (strongest_has d r h is), stronger)

module _ {W R P C : Type 0} (window : W → List ℕ) (states : R → List ReaderState) (places : P → List ℕ) (chains : C → List Chain) where
  by_finding :
      (class : Class) (bytes : List ℕ) (r : Register) (events : List RegisterEvent) (found : Option RegisterFinding) → IsRegisterRecording bytes r events → FallsShort class r events found → IsShortfall class bytes found
  by_finding class bytes r events found h1 h2 = grind arith

  -- what holds for the history of lines that have ended holds for their bytes
  pub bytes_fall_short :
      (lines : JudgedLines W R P C) (class : Class) (ended : List RegisterLine) (found : Option RegisterFinding) → ended ≢ [] → HasJudged window states places chains lines ended →
      ((events : List RegisterEvent) → HasReadEvents window states places chains lines lines.out_of_turn events → FallsShort class lines.witness.auditor.register events found) → IsShortfall class (register_text ended) found
  bytes_fall_short lines class [] found some has short = absurd (some refl)
  bytes_fall_short lines class (head ∷ further) found some has short =
      let read = has.events head further refl in
      let is : IsRegisterRecording (register_text (head ∷ further)) lines.witness.auditor.register (filter_map recorded_event further) = record {
        is_cut = lines.is_cut;
        head = head;
        further = further;
        text = refl;
        are = has.are;
        gives_cut = read.1;
        gives_register = read.0;
        gives_events = refl;
      } in
      by_finding class (register_text (head ∷ further)) lines.witness.auditor.register (filter_map recorded_event further) found is (short (filter_map recorded_event further) read.2)
