use Rattle.std.proofs.Common.{◌∙◌, ◌+◌, ◌++◌, length, sym, ap, inr, refl, arith}
use Rattle.ring_script.specs.Schedule.{spelled}
use Rattle.ring_script.proofs.ScheduleLemmas.{no_letters, no_length, letters_begin, no_total, too_long, letters_pushed, total_pushed, letters_done, within_done, digit_next, run_goes_on, run_made}
use Rattle.ring_script.proofs.schedules.runs.Goals as goal
use Rattle.ring_script.proofs.schedules.runs.Goals.{then-is_a_digit+else-total-more-gt-LETTER_LIMIT, else-is_a_digit+else-total-times-gt-LETTER_LIMIT+in_ok-push}

pub returns-in_default-clause-spelled : goal.returns-in_default-clause-spelled
returns-in_default-clause-spelled g c = no_letters _ _ c.in_default.ensures.cases c.requires.empty

pub returns-in_default-clause-within : goal.returns-in_default-clause-within
returns-in_default-clause-within g c = no_length _ _ c.in_default.ensures.cases

pub loop-b-init : goal.loop-b-init
loop-b-init g c = grind (arith, letters_begin, no_total)

pub returns-then-total-more-gt-LETTER_LIMIT-clause-refused : goal.returns-then-total-more-gt-LETTER_LIMIT-clause-refused
returns-then-total-more-gt-LETTER_LIMIT-clause-refused g c =
    inr (
      refl,
      too_long _ _ _ _ _ _ _ (ap (λ l. spelled (g.S.Store.items c.loop-b.runs) ++ l) (sym (digit_next _ _ _ _ _ c.loop-b-test.true c.is_a_digit.ensures c.if-is_a_digit.true)) ∙ c.loop-b.invariant.letters)
          c.loop-b.invariant.total (omega (arith, c.if-total-more-gt-LETTER_LIMIT.true)),
    )

pub returns-then-total-times-gt-LETTER_LIMIT-clause-refused : goal.returns-then-total-times-gt-LETTER_LIMIT-clause-refused
returns-then-total-times-gt-LETTER_LIMIT-clause-refused g c =
    inr (
      refl,
      too_long _ _ _ _ _ _ _ c.loop-b.invariant.letters c.loop-b.invariant.total
          (omega (arith, c.if-total-times-gt-LETTER_LIMIT.true, c.at_least_one-times.ensures)),
    )

pub loop-b-preserved : goal.loop-b-preserved
loop-b-preserved g c = elim c.if-is_a_digit.branch [
  | then-is_a_digit+else-total-more-gt-LETTER_LIMIT w ↦ rw (w.runs-is, w.side-is, w.count-is, w.total-is, w.from.ensures) (record {
    letters = ap (λ l. spelled (g.S.Store.items c.loop-b.runs) ++ l) (sym (digit_next _ _ _ _ _ c.loop-b-test.true c.is_a_digit.ensures w.if-is_a_digit.true)) ∙ c.loop-b.invariant.letters;
    total = c.loop-b.invariant.total;
    within = omega (arith, w.if-total-more-gt-LETTER_LIMIT.false, w.from.ensures);
    made = ap (λ n. length (g.S.Store.items c.loop-b.runs) + n) (sym (run_goes_on _ _ _ c.loop-b-test.true c.is_a_digit.ensures w.if-is_a_digit.true)) ∙ c.loop-b.invariant.made;
    room = c.loop-b.invariant.room;
  })
  | else-is_a_digit+else-total-times-gt-LETTER_LIMIT+in_ok-push w ↦ rw (w.runs-is, w.side-is, w.count-is, w.total-is) (record {
    letters = letters_pushed _ _ _ _ _ _ _ _ _ _ c.loop-b-test.true c.is_a_digit.ensures w.if-is_a_digit.false c.loop-b.invariant.letters w.in_ok-push.ensures.items
        w.at_least_one-times.ensures refl w.letter_side-side-else-is_a_digit.ensures;
    total = total_pushed _ _ _ _ _ c.loop-b.invariant.total w.in_ok-push.ensures.items refl;
    within = omega (arith, w.if-total-times-gt-LETTER_LIMIT.false);
    made = run_made _ _ _ _ _ _ c.loop-b-test.true c.is_a_digit.ensures w.if-is_a_digit.false w.in_ok-push.ensures.items c.loop-b.invariant.made;
    room = w.push.ensures.kept ∙ c.loop-b.invariant.room;
  })
]

pub returns-then-total-times-gt-LETTER_LIMIT-2-clause-refused : goal.returns-then-total-times-gt-LETTER_LIMIT-2-clause-refused
returns-then-total-times-gt-LETTER_LIMIT-2-clause-refused g c =
    inr (
      refl,
      too_long _ _ _ _ _ _ _ c.loop-b.invariant.letters c.loop-b.invariant.total
          (omega (arith, c.if-total-times-gt-LETTER_LIMIT-2.true, c.at_least_one-times-2.ensures)),
    )

pub returns-clause-spelled : goal.returns-clause-spelled
returns-clause-spelled g c = letters_done _ _ _ _ _ _ _ _ c.loop-b-test.false c.loop-b.invariant.letters c.in_ok-push-2.ensures.items c.at_least_one-times-2.ensures refl

pub returns-clause-within : goal.returns-clause-within
returns-clause-within g c =
    within_done _ _ _ _ _ _ _ _ c.loop-b-test.false c.loop-b.invariant.letters c.loop-b.invariant.total
    (omega (arith, c.if-total-times-gt-LETTER_LIMIT-2.false, c.at_least_one-times-2.ensures))
