use Rattle.std.proofs.Common.{◌≡◌, ap, ◌∙◌, sym}
use Rattle.ring_seats.specs.Ring.{Ring}
use Rattle.ring_run.proofs.Relayed.{relayed, relayed_all, relayed_prefix, relayed_within, none_past}
use Rattle.ring_core.proofs.LawLemmas.{ring_law_closed, ring_law_prefix, ring_law_within, whole_calls_count_puts, whole_calls_count_takes}
use Rattle.ring_run.proofs.relays.relay_through.Goals as goal

pub unreachable-requires : goal.unreachable-requires
unreachable-requires g c =
    let p = g.E.PutEnd.end c.relay_into-outcome.new.putter in
    let t = g.F.TakeEnd.end c.relay_into-outcome.new.taker in
    let f = c.in-Err.ensures in
    let same : t.ring ≡ p.ring = f.same.1.ring ∙ sym c.requires.ring ∙ sym f.same.0.ring in
    none_past ring_law_prefix whole_calls_count_puts whole_calls_count_takes c.args.items.now c.args.limits.puts c.args.limits.takes p t same c.finish-finished.result.history c.finish-finished.ensures.meets f.fault.0 f.fault.1

pub returns : goal.returns
returns g c =
    let o = c.in-Ok.outcome in
    let p = g.E.PutEnd.end c.relay_into-outcome.new.putter in
    let t = g.F.TakeEnd.end c.relay_into-outcome.new.taker in
    let f = c.in-Ok.ensures in
    let shape = (g.E.PutEnd.end c.args.putter).ring.shape in
    let p_is : p.ring.shape ≡ shape = ap (λ (r : Ring). r.shape) f.same.0.ring in
    let t_is : t.ring.shape ≡ shape = ap (λ (r : Ring). r.shape) (f.same.1.ring ∙ sym c.requires.ring) in
    let counted = relayed shape c.args.items.now c.args.limits.puts c.args.limits.takes o.put o.calls o.full o.taken.items o.takes o.empty o.closed p t p_is t_is c.finish-finished.result.history c.finish-finished.ensures.meets c.finish-finished.ensures.linearizable f.puts f.takes in
    record {
      counted = counted;
      prefix = relayed_prefix ring_law_within ring_law_prefix ring_law_closed whole_calls_count_puts whole_calls_count_takes shape c.args.items.now c.args.limits.puts c.args.limits.takes o.put o.calls o.full o.taken.items o.takes o.empty o.closed counted;
      all = relayed_all ring_law_within ring_law_prefix ring_law_closed whole_calls_count_puts whole_calls_count_takes shape c.args.items.now c.args.limits.puts c.args.limits.takes o.put o.calls o.full o.taken.items o.takes o.empty o.closed counted;
      within = relayed_within ring_law_within ring_law_prefix ring_law_closed whole_calls_count_puts whole_calls_count_takes shape c.args.items.now c.args.limits.puts c.args.limits.takes o.put o.calls o.full o.taken.items o.takes o.empty o.closed counted;
    }
