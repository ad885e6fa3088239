use Rattle.std.proofs.Common.{Some, None, Bool, false, get_or, sym, ap, ◌∙◌}
use Rattle.std.specs.Prelude.{if◌then◌else◌}
use Rattle.bits_core.specs.Marks.{table_place}
use Rattle.bits_core.proofs.MarkLemmas.{settled-is}
use Rattle.bits_core.proofs.marks.Marks.settled.Goals as goal

pub returns-then-of : goal.returns-then-of
returns-then-of c = λ shape past are reads.
    let values = c.args.self.now.values in
    let tells = ap (λ m. m.overlapped) (sym c.of.ensures) ∙ c.if-of.true in
    sym (ap (λ (t : Bool). if t then None else Some (get_or values (table_place c.args.bit) false)) tells)
    ∙ settled-is shape past c.args.side c.args.bit c.args.self.now are reads c.requires

pub returns-else-of : goal.returns-else-of
returns-else-of c = λ shape past are reads.
    let values = c.args.self.now.values in
    let tells = ap (λ m. m.overlapped) (sym c.of.ensures) ∙ c.if-of.false in
    ap (λ i. Some (get_or values i false)) c.place.ensures.at
    ∙ sym (ap (λ (t : Bool). if t then None else Some (get_or values (table_place c.args.bit) false)) tells)
    ∙ settled-is shape past c.args.side c.args.bit c.args.self.now are reads c.requires
