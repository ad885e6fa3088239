use Rattle.std.proofs.Common.{◌≡◌, ◌⊎◌, inl, inr, ◌<◌, Bool, true, false, Some, None, subst, sym, ap, ◌∙◌}
use Rattle.ring_audit.proofs.Common.{opening_event, P, Cell, Access, modulus_of, Stops, GoesOn, the_view, PutReading, HasReadPut, IsReaderAt, scan_due}
use Rattle.bits_core.specs.declared.events.Access.TheVariants as begins
use Rattle.ring_audit.specs.declared.puts.Stage.TheVariants.{Scanning, Storing, Counting}
use Rattle.ring_audit.proofs.PutReads.{at_stage, no_read, no_digit, no_bit, read_due}
use Rattle.ring_audit.proofs.PutSteps.{begins_next}
use Rattle.ring_audit.proofs.puts.PutReader.begin_next.Goals as goal
use Rattle.ring_audit.proofs.puts.PutReader.begin_next.Goals.{in-Scanning, in-Storing, in_default}

-- the reader is in a scan, a word or a count write
abbrev UnderWay : PutReading → Type 0
UnderWay r = (r.stage ≡ Scanning) ⊎ ((r.stage ≡ Storing) ⊎ (r.stage ≡ Counting))

last_one : {A B D : Type 0} → A ⊎ (B ⊎ D) → (A → ⊥) → (B → ⊥) → D
last_one (inl a) no_a no_b = absurd (no_a a)
last_one (inr (inl b)) no_a no_b = absurd (no_b b)
last_one (inr (inr d)) no_a no_b = d

not_next : (next test : Bool) → next ≡ test → next ≡ false → test ≡ true → ⊥
not_next next test is none is_next = let clash : true ≡ false = sym is_next ∙ sym is ∙ none in absurd (cc)

pub returns-then-is_next-clause-read : goal.returns-then-is_next-clause-read
returns-then-is_next-clause-read c =
    let r : PutReading = the_view c.self.inside in
    let a : Access = c.args.access in
    subst (λ (z : PutReading). HasReadPut z.shape z (record r { open_access = Some a }) (opening_event P a) GoesOn) c.self.view_is
    (λ es items stored st. begins_next r.shape r es items stored a st (ap (λ (z : PutReading). z.open_access) c.self.view_is ∙ c.requires.none) (subst UnderWay (sym c.self.view_is) c.requires.stage))

pub returns-else-is_next-clause-read : goal.returns-else-is_next-clause-read
returns-else-is_next-clause-read c =
    let r : PutReading = the_view c.self.inside in
    let a : Access = c.args.access in
    let none : r.open_access ≡ None = ap (λ (z : PutReading). z.open_access) c.self.view_is ∙ c.requires.none in
    subst (λ (z : PutReading). HasReadPut z.shape z r (opening_event P a) Stops) c.self.view_is (λ es items stored st of_puts.
    (elim c.match-self.branch [
      | in-Scanning w ↦
          let at : IsReaderAt Scanning r = at_stage r Scanning c.self.invariant w.in-Scanning.is in
          no_read r.shape r es items stored a st none w.in-Scanning.is (at.2 none)
          (λ same. not_next _ _ w.is_next-is c.if-is_next.false (w.is_same-is_next.ensures.1 (w.next.ensures.due ∙ scan_due P (modulus_of r.shape) r.scan at.1 ∙ ap Some same))) of_puts
      | in-Storing w ↦
          let at : IsReaderAt Storing r = at_stage r Storing c.self.invariant w.in-Storing.is in
          no_digit r.shape r es items stored a st none w.in-Storing.is (subst (λ w. r.word.read < w) at.1 at.3) (at.5 none)
          (λ v writes. not_next _ _ w.is_next-is c.if-is_next.false (w.writes_next-is_next.ensures.1
          (Cell r.word.cell r.word.read, v, w.next-in-Storing.ensures.due ∙ read_due r.word at.3, writes ∙ ap (λ j. begins.Write (Cell j r.word.read) v) (sym at.2)))) of_puts
      | in_default w ↦
          let stage : r.stage ≡ Counting = last_one (subst UnderWay (sym c.self.view_is) c.requires.stage) w.in_default.not-Scanning w.in_default.not-Storing in
          let at : IsReaderAt Counting r = at_stage r Counting c.self.invariant stage in
          no_bit r.shape r es items stored a st none stage c.self.invariant.row_side at.0
          (λ due. not_next _ _ w.is_next-is c.if-is_next.false (w.is_same-is_next-in_default.ensures.1 (w.next-in_default.ensures.due ∙ due))) of_puts
    ]))
