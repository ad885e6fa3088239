use Rattle.std.proofs.Common.{◌≡◌, ◌≢◌, ap, ◌∙◌, ℕ, ◌+◌, List, [], ◌∷◌, ◌++◌, length, Option, Some, IfSome, inl, length-append, ap₂, sym, subst, arith}
use Rattle.queue_calls.proofs.Common.{nil_from_length, IsLine, OutgrowsLists, AreLines, Line, line, first_word, begun_after, begun_behind, capacity_told, event_told, events_told, HasHeard, HasLines}
use Rattle.queue_calls.proofs.Common.{HeardLines, told, Offered, Taken, Word, then_err, then_ok}
use Rattle.call_causes.specs.declared.entries.TheConstants.{TAKEN_LIMIT}
use Rattle.queue_calls.specs.declared.hearings.Begun.TheVariants as begun
use Rattle.queue_calls.specs.declared.recordings.Lines.{Lines}
use Rattle.queue_calls.proofs.HeardLines.{first_line, is_line, first_heard, further_line, count_is, further_heard, not_the_first, not_further}
use Rattle.queue_calls.proofs.NotingLemmas.{line_long}
use Rattle.queue_calls.proofs.recordings.Lines.read.Goals as goal
use Rattle.queue_calls.proofs.recordings.Lines.read.Goals.{else-ne-via-then-ne+else-ne-2, else-ne-via-else-ne}

-- the line that was read
read_is : (bytes numbers : List ℕ) (r : Option Word) (w : Word) → r ≡ Some w → IfSome r (λ v. IsLine bytes v numbers) → IsLine bytes w numbers
read_is bytes numbers r w is h = let P : Option Word → Type 0 = λ o. IfSome o (λ v. IsLine bytes v numbers) in subst P is h

-- one more line has ended, which was heard
has_more :
    {S O T N B : Type 0} (offered : O → List Offered) (last : T → List Taken) (lines : Lines S O T N B) (before : List Line) (l : Line) (count : ℕ) → count ≡ length before → lines.count ≡ count + 1 →
    lines.hearing.witness.limit ≡ TAKEN_LIMIT → AreLines (before ++ l ∷ []) → HeardLines offered last lines.hearing lines.lacks_calls (before ++ l ∷ []) → HasLines offered last lines (before ++ l ∷ [])
has_more offered last lines before l count is next limit are heard =
    let all : length (before ++ l ∷ []) ≡ length before + 1 = length-append before (l ∷ []) in
    record { are = are; count = omega (arith, is, next, all); limit = limit; unheard = λ none. absurd (omega (arith, ap length none, all)); heard = λ _. heard }

pub returns-clause-read : goal.returns-clause-read
returns-clause-read g c = then_ok c.hear.result c.hear.ensures.heard (λ heard before has.
    let numbers : List ℕ = g.S.Numbers.Store.items c.read_line.new.numbers in
    let is : IsLine c.args.line.now c.in-Some-2.word numbers = read_is _ _ _ _ c.in-Some-2.is c.in_ok-word.ensures.line in
    let some : before ≢ [] = λ none. c.if-count-eq1.false (omega (arith, has.count, c.in-Some.ensures.1, ap length none)) in
    let lines = has.heard some in
    let same : c.as_slice-numbers.result.now ≡ numbers = c.as_slice-numbers.ensures in
    let begun_is = lines.3 in
    let tells : event_told (begun_behind begun.Nothing lines.1) c.in-Some-2.word numbers ≡ Some (told c.in-Some-event_told.event) =
    ap₂ (λ b ns. event_told b c.in-Some-2.word ns) (sym begun_is) (sym same) ∙ sym c.in-Some-event_told.ensures in
    let on = further_line before c.args.self.now.lacks_calls c.args.line.now lines.0 lines.1 (begun_behind begun.Nothing lines.1) c.in-Some-2.word numbers (told c.in-Some-event_told.event) lines.2 has.are is tells in (
      line c.in-Some-2.word numbers,
      on,
      has_more g.S.Offered.Fifo.items g.S.Taken.Fifo.items _ before _ c.args.self.now.count has.count c.in-Some.ensures.1 (c.hear.ensures.limit ∙ has.limit) on.0
          (further_heard g.S.Offered.Fifo.items g.S.Taken.Fifo.items c.hear.new.self before c.args.self.now.lacks_calls lines.0 lines.1 c.in-Some-2.word numbers (told c.in-Some-event_told.event) lines.2 tells
          (c.hear.ensures.begun ∙ c.begun_after-self.ensures ∙ ap₂ (λ b ns. begun_after b c.in-Some-2.word ns) begun_is same)
          (heard (capacity_told lines.0) (events_told begun.Nothing lines.1) lines.4
          (count_is before c.args.self.now.lacks_calls lines.0 lines.1 begun.Nothing c.args.self.now.count c.in-Some.count lines.2 has.are has.count c.in-Some.ensures.1))),
    ))

pub returns-then-count-eq1-clause-read : goal.returns-then-count-eq1-clause-read
returns-then-count-eq1-clause-read g c before has =
    let numbers : List ℕ = g.S.Numbers.Store.items c.read_line.new.numbers in
    let is_cut = c.eq-self.result in
    let word_is : c.in-Some-2.word ≡ first_word is_cut = elim c.else-ne.branch [
      | else-ne-via-then-ne+else-ne-2 w ↦ grind (arith, c.eq-self.ensures, w.ne-then-ne.ensures, w.if-ne-2.false)
      | else-ne-via-else-ne w ↦ grind (arith, c.eq-self.ensures, c.ne.ensures, w.if-ne.false)
    ] in
    let is = subst (λ w. IsLine c.args.line.now w numbers) word_is (read_is _ _ _ _ c.in-Some-2.is c.in_ok-word.ensures.line) in
    let none : before ≡ [] = nil_from_length before (omega (arith, has.count, c.in-Some.ensures.1, c.if-count-eq1.true)) in
    let on = first_line before c.args.line.now numbers is_cut none is in (
      line (first_word is_cut) numbers,
      on,
      has_more g.S.Offered.Fifo.items g.S.Taken.Fifo.items _ before _ c.args.self.now.count has.count c.in-Some.ensures.1 (c.begins.ensures.limit ∙ has.limit) on.0
          (first_heard g.S.Offered.Fifo.items g.S.Taken.Fifo.items c.begins.new.self before is_cut numbers none c.begins.ensures.begun
          (subst (λ ns. HasHeard g.S.Offered.Fifo.items g.S.Taken.Fifo.items c.begins.new.self (capacity_told ns) []) c.as_slice-numbers.ensures c.begins.ensures.heard)),
    )

pub returns-in_default-2-clause-refused : goal.returns-in_default-2-clause-refused
returns-in_default-2-clause-refused g c before has =
    (omega (arith, has.count, c.in-Some.ensures.1), λ l on. c.in_ok-word.ensures.none c.in_default-2.is l.word l.numbers (is_line before c.args.line.now l on))

pub returns-then-ne-2-clause-refused : goal.returns-then-ne-2-clause-refused
returns-then-ne-2-clause-refused g c before has = grind (arith, nil_from_length, read_is, not_the_first)

pub returns-in_default-event_told-clause-refused : goal.returns-in_default-event_told-clause-refused
returns-in_default-event_told-clause-refused g c before has =
    let some : before ≢ [] = λ none. c.if-count-eq1.false (omega (arith, has.count, c.in-Some.ensures.1, ap length none)) in
    let is = read_is _ _ _ _ c.in-Some-2.is c.in_ok-word.ensures.line in
    (omega (arith, has.count, c.in-Some.ensures.1), λ l. not_further before c.args.line.now _ _ c.args.self.now.hearing.begun c.in-Some-2.word l some (sym c.in_default-event_told.ensures) is)

pub returns-clause-full : goal.returns-clause-full
returns-clause-full g c = then_err c.hear.result c.hear.ensures.full (λ e needs short before has.
    let numbers : List ℕ = g.S.Numbers.Store.items c.read_line.new.numbers in
    let is : IsLine c.args.line.now c.in-Some-2.word numbers = read_is _ _ _ _ c.in-Some-2.is c.in_ok-word.ensures.line in
    let some : before ≢ [] = λ none. c.if-count-eq1.false (omega (arith, has.count, c.in-Some.ensures.1, ap length none)) in
    let lines = has.heard some in
    let same : c.as_slice-numbers.result.now ≡ numbers = c.as_slice-numbers.ensures in
    let tells : event_told (begun_behind begun.Nothing lines.1) c.in-Some-2.word numbers ≡ Some (told c.in-Some-event_told.event) =
    ap₂ (λ b ns. event_told b c.in-Some-2.word ns) (sym lines.3) (sym same) ∙ sym c.in-Some-event_told.ensures in
    let on = further_line before c.args.self.now.lacks_calls c.args.line.now lines.0 lines.1 (begun_behind begun.Nothing lines.1) c.in-Some-2.word numbers (told c.in-Some-event_told.event) lines.2 has.are is tells in
    let s = c.args.self.now in
    let o = g.S.Offered.Fifo.room s.hearing.witness.auditor.inside.list in
    let t = g.S.Taken.Fifo.room s.hearing.witness.taken in
    let outgrows = subst (λ n. OutgrowsLists n o t (capacity_told lines.0) (events_told begun.Nothing lines.1 ++ told c.in-Some-event_told.event ∷ [])) has.limit (needs (capacity_told lines.0) (events_told begun.Nothing lines.1) lines.4) in
    inl (line_long TAKEN_LIMIT o t before s.lacks_calls c.args.line.now lines.0 lines.1 c.in-Some-2.word numbers (told c.in-Some-event_told.event) lines.2 on.0 on.1 tells outgrows))
