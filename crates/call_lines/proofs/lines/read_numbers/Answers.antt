use Rattle.std.proofs.Common.{◌≢◌, ◌∙◌, ◌++◌, ◌∷◌, [], List, ℕ, refl, sym, length, length-append, arith}
use Rattle.std.proofs.lemmas.Bool.{eq-eqb, false≢true}
use Rattle.lists.proofs.Results.{on_err}
use Rattle.call_lines.proofs.LineReadings.{one_more, small_more, shorter, left_more, left_none}
use Rattle.call_lines.proofs.lines.read_numbers.Goals as goal

pub returns-in_default-clause-read : goal.returns-in_default-clause-read
returns-in_default-clause-read g c told small text =
    let some : length c.loop-left.left.now ≢ 0 = λ same. false≢true (sym c.loop-left-test.true ∙ c.is_empty.ensures ∙ eq-eqb (length c.loop-left.left.now) 0 same) in
    let more = c.loop-left.invariant.more told small text in
    left_none c.loop-left.left.now more.0 some c.in_default.ensures more.1 more.2

pub loop-left-smaller : goal.loop-left-smaller
loop-left-smaller g c = shorter c.loop-left.left.now c.in-Some.rest.now c.in-Some.number c.in-Some.ensures

pub loop-left-preserved : goal.loop-left-preserved
loop-left-preserved g c =
    let some : length c.loop-left.left.now ≢ 0 = λ same. false≢true (sym c.loop-left-test.true ∙ c.is_empty.ensures ∙ eq-eqb (length c.loop-left.left.now) 0 same) in
    record {
      text = one_more c.args.bytes.now c.loop-left.left.now c.in-Some.rest.now (g.R.Store.items c.loop-left.numbers) (g.R.Store.items c.push.new.self) c.in-Some.number c.loop-left.invariant.text c.in-Some.ensures c.in_ok-push.ensures.items;
      small = small_more (g.R.Store.items c.loop-left.numbers) (g.R.Store.items c.push.new.self) c.loop-left.left.now c.in-Some.rest.now c.in-Some.number c.loop-left.invariant.small c.in-Some.ensures c.in_ok-push.ensures.items;
      room = c.in_ok-push.ensures.kept ∙ c.loop-left.invariant.room;
      more = λ told all text.
          let more = c.loop-left.invariant.more told all text in
          left_more c.loop-left.left.now c.in-Some.rest.now more.0 c.in-Some.number some c.in-Some.ensures more.1 more.2;
    }

pub returns-in_err-push-clause-full : goal.returns-in_err-push-clause-full
returns-in_err-push-clause-full g c =
    let so_far : List ℕ = g.R.Store.items c.loop-left.numbers in
    let one : List ℕ = so_far ++ c.in-Some.number ∷ [] in
    on_err c.from_residual.result (
      one,
      c.in-Some.rest.now,
      one_more c.args.bytes.now c.loop-left.left.now c.in-Some.rest.now so_far one c.in-Some.number c.loop-left.invariant.text c.in-Some.ensures refl,
      small_more so_far one c.loop-left.left.now c.in-Some.rest.now c.in-Some.number c.loop-left.invariant.small c.in-Some.ensures refl,
      omega (arith, c.in_err-push.ensures.full, c.loop-left.invariant.room, length-append so_far (c.in-Some.number ∷ [])),
    )
