use Rattle.std.proofs.Common.{◌≡◌, ◌≤◌, Some, arith, length, sym}
use Rattle.std.proofs.lemmas.List.{length-take-le}
use Rattle.bits_core.proofs.Common.{slice_get_within, settled}
use Rattle.bits_core.proofs.ReasonLemmas.{ends_read, held_there, none_open, settled_value}
use Rattle.bits_core.proofs.reasons.answer_reason.Goals as goal

-- the read that is open has begun
pub returns-in_err-begun : goal.returns-in_err-begun
returns-in_err-begun c =
    let past = c.args.past.now in
    let e = c.args.event in
    let still = ends_read past e.side e.bit e.act c.requires.in_turn c.requires.not_permitted in
    rw c.from_residual-in_err-begun.ensures (λ lawful. absurd (none_open e.side past _ c.in_err-begun.ensures still))

pub slice_bounds-last_written-end : goal.slice_bounds-last_written-end
slice_bounds-last_written-end c =
    let past = c.args.past.now in
    let last = c.in_ok-begun.ensures in
    let within : c.in_ok-begun.begun ≤ length past = omega (arith, slice_get_within past c.in_ok-begun.begun last.event last.at_place) in
    sym (length-take-le c.in_ok-begun.begun past within)

pub returns : goal.returns
returns c =
    let past = c.args.past.now in
    let e = c.args.event in
    let still = ends_read past e.side e.bit e.act c.requires.in_turn c.requires.not_permitted in
    let found : Some c.in_ok-value.value ≡ settled e.side e.bit past = c.in_ok-value.ensures c.args.shape.now past c.requires.marks still in
    let value = settled_value e.side e.bit past c.in_ok-value.value found in (
      c.requires.right_side,
      c.requires.in_turn,
      c.requires.not_permitted,
      c.in_ok-begun.ensures,
      held_there e.side e.bit past c.in_ok-begun.begun c.in_ok-value.value c.last_written-since.result c.in_ok-begun.ensures value c.last_written-since.ensures,
    )
