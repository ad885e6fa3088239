use Rattle.std.proofs.Common.{◌≡◌, ◌-◌, length, ◌∙◌, ap, arith}
use Rattle.queue_calls.proofs.Common.{offered_by, NotTaken}
use Rattle.queue_calls.proofs.CauseTold.{too_few}
use Rattle.queue_calls.proofs.Remembering.{agrees_of, kept_of}
use Rattle.queue_calls.proofs.witnesses.Witness.not_taken_cause.Goals as goal

pub returns : goal.returns
returns g c capacity events cause r e =
    let s = c.args.self.now in
    let k = kept_of g.S.Offered.Fifo.items s in
    let least : c.saturating_sub-2.result ≡ (length k.inside - c.args.count) - offered_by k.put =
    omega (arith, c.saturating_sub-2.ensures, c.saturating_sub.ensures, c.len.ensures.items, c.offered.ensures) in
    ap (λ z. NotTaken z s.stored_at) least ∙ ap (λ z. NotTaken ((length k.inside - c.args.count) - offered_by k.put) z) r.stored_at ∙
    too_few capacity (agrees_of r) c.args.count e
