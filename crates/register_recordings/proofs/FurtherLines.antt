-- One more line after lines, and bytes that are not a line after them.
use Rattle.std.proofs.Common.{◌≡◌, ◌≢◌, ℕ, ◌+◌, Some, None, Result, Ok, Err, OnOk, IfErr, List, [], ◌∷◌, ◌++◌, length, refl, sym, subst, ◌∙◌, length-append, arith}
use Rattle.std.specs.Prelude.{All}
use Rattle.std.specs.List.{filter_map}
use Rattle.std.proofs.lemmas.List.Elements.{All-head, All-push, All-tail, filter_map-append}
use Rattle.std.proofs.lemmas.Option.{none-some, same_Some}
use Rattle.register_recordings.proofs.Common.{ReaderState, Register, RegisterEvent, Chain, WritesValue, JudgedLines}
use Rattle.register_calls.specs.Witnesses.{RemembersRegister}
use Rattle.register_lines.specs.Lines.{AllowsNumbers, IsRegisterLine}
use Rattle.register_lines.specs.declared.lines.RegisterLine.{RegisterLine}
use Rattle.register_lines.proofs.LineLemmas.{line_same}
use Rattle.register_recordings.specs.declared.faults.RegisterTextFault.{RegisterTextFault}
use Rattle.register_recordings.specs.declared.faults.RegisterTextFault.TheVariants.{BadLine, TooLong, OutOfMemory}
use Rattle.register_recordings.specs.Recordings.{recorded_event, recorded_register, lacks_operations, AreRegisterLines, MayComeAfter}
use Rattle.register_recordings.specs.Reading.{ContinuesRegister, HasJudged, HasReadEvents, HasReadLineEvent, ReadsLineEvent, RefusesLineEvent, RefusesRegisterLine}
use Rattle.register_recordings.proofs.MissLemmas.{no_misses, none_missed}

-- ---- lines

-- the last one of lines
last_may : (r : Register) (further : List RegisterLine) (l : RegisterLine) → All (MayComeAfter r) (further ++ l ∷ []) → MayComeAfter r l
last_may r [] l all = All-head (MayComeAfter r) l [] all
last_may r (x ∷ further) l all = last_may r further l (All-tail (MayComeAfter r) x (further ++ l ∷ []) all)

pub last_allowed : (before : List RegisterLine) (l : RegisterLine) → AreRegisterLines (before ++ l ∷ []) → AllowsNumbers l
last_allowed [] l are = are.0
last_allowed (head ∷ further) l are = (last_may are.1.0 further l are.1.2).0

pub goes_on_line : (before : List RegisterLine) (bytes : List ℕ) (l : RegisterLine) → ContinuesRegister before bytes l → IsRegisterLine bytes l
goes_on_line before bytes l on = record { text = on.1; allowed = last_allowed before l on.0 }

-- as many events as lines
as_many : (r : Register) (further : List RegisterLine) → All (MayComeAfter r) further → length (filter_map recorded_event further) ≡ length further
as_many r [] all = refl
as_many r (l ∷ further) all = grind (arith, All-head, All-tail, as_many r further (All-tail (MayComeAfter r) l further all))

events_more : (further : List RegisterLine) (l : RegisterLine) (event : RegisterEvent) → recorded_event l ≡ Some event → filter_map recorded_event (further ++ l ∷ []) ≡ filter_map recorded_event further ++ event ∷ []
events_more further l event gives = grind (arith, filter_map-append)

-- ---- the first line

-- ---- a further line that is refused

-- it records no event
pub no_event : (before : List RegisterLine) (bytes : List ℕ) (l : RegisterLine) → before ≢ [] → IsRegisterLine bytes l → recorded_event l ≡ None → (other : RegisterLine) → ¬ ContinuesRegister before bytes other
no_event [] bytes l some is none other on = some refl
no_event (head ∷ further) bytes l some is none other on = grind (arith, (goes_on_line (head ∷ further) bytes other on), (last_may on.0.1.0 further other on.0.1.2), (line_same bytes l other is (goes_on_line (head ∷ further) bytes other on)), none-some, on.0.1.0, on.0.1.2)

-- it writes no value of the register that the first line gives
no_value :
    (head : RegisterLine) (further : List RegisterLine) (bytes : List ℕ) (l : RegisterLine) (r : Register) (event : RegisterEvent) → recorded_register head ≡ Some r → IsRegisterLine bytes l → recorded_event l ≡ Some event → ¬ WritesValue r event →
    (other : RegisterLine) → ¬ ContinuesRegister (head ∷ further) bytes other
no_value head further bytes l r event gives is records never other on =
    let s : Register = on.0.1.0 in
    let same : l ≡ other = line_same bytes l other is (goes_on_line (head ∷ further) bytes other on) in
    let may : MayComeAfter s other = last_may s further other on.0.1.2 in
    grind (arith, same_Some)

module _ {W R P C : Type 0} (window : W → List ℕ) (states : R → List ReaderState) (places : P → List ℕ) (chains : C → List Chain) where
  -- ---- the first line

  -- lines are judged, of which one has ended
  pub first_judged :
      (new : JudgedLines W R P C) (l : RegisterLine) (r : Register) → AllowsNumbers l → recorded_register l ≡ Some r → new.count ≡ 1 → lacks_operations l ≡ new.is_cut → new.witness.auditor.register ≡ r → RemembersRegister window states places chains new.witness [] →
      new.misses ≡ no_misses → new.out_of_turn ≡ None → HasJudged window states places chains new (l ∷ [])
  first_judged new l r allowed gives count cut same audits misses none = grind (arith, (none_missed new.witness.auditor.register), new.is_cut, new.out_of_turn, new.witness.auditor.register)

  -- ---- a further line

  further_line :
      (old new : JudgedLines W R P C) (before : List RegisterLine) (bytes : List ℕ) (l : RegisterLine) (number : ℕ) (event : RegisterEvent) → before ≢ [] → length before + 1 ≡ number → IsRegisterLine bytes l → recorded_event l ≡ Some event →
      HasJudged window states places chains old before → ((events : List RegisterEvent) → length events + 2 ≡ number → HasReadEvents window states places chains old old.out_of_turn events → HasReadLineEvent window states places chains old number event events new) →
      (x : RegisterLine) × ContinuesRegister before bytes x × HasJudged window states places chains new (before ++ x ∷ [])
  further_line old new [] bytes l number event some next is records has reads = absurd (some refl)
  further_line old new (head ∷ further) bytes l number event some next is records has reads =
      let r : Register = has.are.1.0 in
      let were = has.events head further refl in
      let many : length (filter_map recorded_event further) ≡ length further = as_many r further has.are.1.2 in
      let now : HasReadLineEvent window states places chains old number event (filter_map recorded_event further) new = reads (filter_map recorded_event further) (omega (arith, many, next)) were.2 in
      let same : r ≡ old.witness.auditor.register = same_Some r old.witness.auditor.register (sym has.are.1.1 ∙ were.0) in
      let may : MayComeAfter r l = (is.allowed, (event, records, subst (λ (z : Register). WritesValue z event) (sym same) now.value)) in
      let are : AreRegisterLines (head ∷ (further ++ l ∷ [])) = (has.are.0, (r, has.are.1.1, All-push (MayComeAfter r) further l has.are.1.2 may)) in
      grind (arith, events_more, length-append)

  further_refusal :
      (old : JudgedLines W R P C) (fault : RegisterTextFault) (before : List RegisterLine) (bytes : List ℕ) (l : RegisterLine) (number : ℕ) (event : RegisterEvent) → before ≢ [] → length before + 1 ≡ number → IsRegisterLine bytes l → recorded_event l ≡ Some event →
      HasJudged window states places chains old before → ((events : List RegisterEvent) → length events + 2 ≡ number → HasReadEvents window states places chains old old.out_of_turn events → RefusesLineEvent number fault old.witness.auditor.register events event) →
      RefusesRegisterLine fault before bytes
  further_refusal old fault [] bytes l number event some next is records has refuses = absurd (some refl)
  further_refusal old fault (head ∷ further) bytes l number event some next is records has refuses =
      let were = has.events head further refl in
      let many : length (filter_map recorded_event further) ≡ length further = as_many has.are.1.0 further has.are.1.2 in
      let now : RefusesLineEvent number fault old.witness.auditor.register (filter_map recorded_event further) event = refuses (filter_map recorded_event further) (omega (arith, many, next)) were.2 in
      by_fault fault now
    where
      by_fault : (f : RegisterTextFault) → RefusesLineEvent number f old.witness.auditor.register (filter_map recorded_event further) event → RefusesRegisterLine f (head ∷ further) bytes
      by_fault (BadLine n) now = (omega (arith, now.0, next), no_value head further bytes l old.witness.auditor.register event (has.events head further refl).0 is records now.1)
      by_fault TooLong now =
          let many : length (filter_map recorded_event further) ≡ length further = as_many has.are.1.0 further has.are.1.2 in
          omega (arith, many, now)
      by_fault OutOfMemory now = tt

  module _ (old new : JudgedLines W R P C) (bytes : List ℕ) (l : RegisterLine) (number : ℕ) (event : RegisterEvent) (next : number ≡ old.count + 1) (later : ¬ (number ≡ 1)) (is : IsRegisterLine bytes l) (records : recorded_event l ≡ Some event) where
    -- it comes after others
    some_before : (before : List RegisterLine) → HasJudged window states places chains old before → before ≢ []
    some_before before has none = grind arith

    number_before : (before : List RegisterLine) → HasJudged window states places chains old before → length before + 1 ≡ number
    number_before before has = let count : old.count ≡ length before = has.count in omega (arith, next, count)

    pub further_read :
        {T : Type 0} (result : Result T RegisterTextFault) → ReadsLineEvent window states places chains old number event result new →
        OnOk result ((before : List RegisterLine) → HasJudged window states places chains old before → (x : RegisterLine) × ContinuesRegister before bytes x × HasJudged window states places chains new (before ++ x ∷ []))
    further_read (Ok value) reads = λ before has. further_line old new before bytes l number event (some_before before has) (number_before before has) is records has reads
    further_read (Err fault) reads = tt

    pub further_refused :
        {T : Type 0} (result : Result T RegisterTextFault) → ReadsLineEvent window states places chains old number event result new →
        IfErr result (λ fault. (before : List RegisterLine) → HasJudged window states places chains old before → RefusesRegisterLine fault before bytes)
    further_refused (Ok value) reads = tt
    further_refused (Err fault) reads = λ before has. further_refusal old fault before bytes l number event (some_before before has) (number_before before has) is records has reads
