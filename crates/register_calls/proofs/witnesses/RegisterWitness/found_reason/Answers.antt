use Rattle.register_calls.proofs.Hearing.{first_writes}
use Rattle.register_calls.proofs.FoundReasons.{held_there, inverted_there, not_written_there}
use Rattle.register_calls.proofs.witnesses.RegisterWitness.found_reason.Goals as goal

pub returns-in-Some : goal.returns-in-Some
returns-in-Some g c = λ h k has lacks.
    let s = c.args.self.now in
    let a = s.auditor in
    let i = c.args.reader in
    let v = c.args.value in
    let found = c.args.found in
    let xs = g.R.Fifo.items a.readers in
    let os = g.C.Fifo.items s.own in
    let ts = g.C.Fifo.items s.low in
    let ls = g.C.Fifo.items s.own_low in
    let firsts = first_writes a.register h (g.W.Fifo.items a.window) a.base a.begun a.is_writing xs a.floor a.is_safe a.is_regular a.is_by_reader a.is_atomic i v found c.requires.reading c.requires.found k.audits in
    inverted_there a.register h i v a.base found firsts c.in-Some.field-0 c.in-Some.is c.args.class xs ts os ls a.floor s.floor c.low_of.result a.is_by_reader a.is_atomic c.requires.reading c.requires.value
    c.low_of.ensures k.audits.order_of_each k.audits.order_of_all k.of_each k.of_all has lacks

pub returns-then-found-self : goal.returns-then-found-self
returns-then-found-self g c = λ h k has lacks.
    let s = c.args.self.now in
    let a = s.auditor in
    let i = c.args.reader in
    let v = c.args.value in
    let found = c.args.found in
    let kept = g.W.Fifo.items a.window in
    let xs = g.R.Fifo.items a.readers in
    let firsts = first_writes a.register h kept a.base a.begun a.is_writing xs a.floor a.is_safe a.is_regular a.is_by_reader a.is_atomic i v found c.requires.reading c.requires.found k.audits in
    held_there c.args.class a.register h i v a.base a.begun c.held.result found kept s.ended firsts c.in-None.is c.if-found-self.true k.audits.count k.audits.well_formed k.audits.values c.held.ensures
    k.last_ended

pub returns-else-found-self : goal.returns-else-found-self
returns-else-found-self g c = λ h k has lacks.
    let s = c.args.self.now in
    let a = s.auditor in
    let i = c.args.reader in
    let v = c.args.value in
    let found = c.args.found in
    let xs = g.R.Fifo.items a.readers in
    let firsts = first_writes a.register h (g.W.Fifo.items a.window) a.base a.begun a.is_writing xs a.floor a.is_safe a.is_regular a.is_by_reader a.is_atomic i v found c.requires.reading c.requires.found k.audits in
    not_written_there a.register h i v a.base found firsts c.args.class a.begun c.in-None.is k.audits.count c.if-found-self.false c.requires.value has lacks
