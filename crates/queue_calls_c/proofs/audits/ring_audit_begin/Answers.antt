use Rattle.std.proofs.Common.{◌∙◌, ◌<◌, ◌^◌, refl, arith}
use Rattle.std.proofs.lemmas.List.Elements.{All-from_get_or}
use Rattle.call_lines.specs.Lines.{AreSmall}
use Rattle.lists.specs.Rings.{ring_items}
use Rattle.queue_calls_c.proofs.ToldLines.{begins_with}
use Rattle.queue_calls_c.proofs.audits.ring_audit_begin.Goals as goal

pub returns-clause-begun : goal.returns-clause-begun
returns-clause-begun c t =
    let numbers = c.args.numbers.now in
    let small : AreSmall numbers = All-from_get_or (λ n. n < 2 ^ 64) numbers 0 (λ i l. omega (arith, c.type_inv.numbers i)) in
    record {
      follows = c.keep.ensures.follows _ (begins_with ring_items ring_items c.begins.new.self numbers small (c.if-not-allows.ensures.0 refl) c.begins.ensures.begun c.begins.ensures.no_fault c.begins.ensures.heard);
      count = refl;
      fit = c.keep.ensures.fit;
    }

pub returns-clause-limit : goal.returns-clause-limit
returns-clause-limit c t = c.keep.ensures.limit c.begins.ensures.no_fault ∙ c.begins.ensures.limit ∙ c.new-hearing.ensures.limit
