use Rattle.std.proofs.Common.{◌≡◌, Bool, false, List, Option, Some, ap, sym, ◌∙◌}
use Rattle.bits_core.proofs.Common.{is_some, Access, Write, WriteEnd, Side}
use Rattle.bits_core.specs.declared.marks.SideMark.{SideMark}
use Rattle.bits_core.specs.declared.marks.Marks.{Marks}
use Rattle.bits_core.specs.Bits.{doer, other, value_written, writer}
use Rattle.bits_core.specs.Marks.{beside, idle, side_mark, value_ended, with_mark, with_value}
use Rattle.bits_core.proofs.MarkLemmas.{answers, reads, recorded, writes, wrote}
use Rattle.bits_core.proofs.marks.Marks.record.Goals as goal

pub returns-in-ReadBegin : goal.returns-in-ReadBegin
returns-in-ReadBegin c = λ shape past are follows.
    let e = c.args.event in
    let before = c.args.self.now in
    let overlapped = c.is_write_of-overlapped.ensures ∙ ap (λ (o : Option Access). is_some (value_written e.bit o)) (c.open_access.ensures.mark ∙ ap (λ (s : Side). (side_mark s before).opened) c.writer.ensures) in
    recorded shape past e before c.set.new.self _ _ are follows c.in-ReadBegin.is c.set.ensures (reads before e.side e.bit are.seats c.is_write_of-overlapped.result overlapped)

pub returns-in-ReadEnd : goal.returns-in-ReadEnd
returns-in-ReadEnd c = λ shape past are follows.
    let e = c.args.event in
    let before = c.args.self.now in
    recorded shape past e before c.set-in-ReadEnd.new.self _ _ are follows c.in-ReadEnd.is c.set-in-ReadEnd.ensures (answers before e.side e.bit are.seats _)

pub returns-in-WriteBegin : goal.returns-in-WriteBegin
returns-in-WriteBegin c = λ shape past are follows.
    let e = c.args.event in
    let before : Marks = c.args.self.now in
    let writes_it : e.side ≡ writer e.bit = follows.right_side.by_doer ∙ ap (doer e.bit) c.in-WriteBegin.is in
    let reads_it : c.reader-reader.result ≡ other e.side = c.reader-reader.ensures ∙ ap other (sym writes_it) in
    let mark : SideMark = record { opened = Some (Write e.bit c.in-WriteBegin.value); overlapped = false } in
    let beside_it = c.beside.ensures ∙ ap (λ (m : SideMark). beside m e.bit) c.of.ensures in
    let first = c.set-in-WriteBegin.ensures
    ∙ ap (λ (m : SideMark). with_mark before c.reader-reader.result m) beside_it
    ∙ ap (λ (s : Side). with_mark before s (beside (side_mark s before) e.bit)) reads_it in
    let second = c.set-in-WriteBegin-2.ensures ∙ ap (λ (m : Marks). with_mark m e.side mark) first in
    recorded shape past e before c.set-in-WriteBegin-2.new.self _ _ are follows c.in-WriteBegin.is second (writes before e.side e.bit are.seats c.in-WriteBegin.value)

pub returns-in-WriteEnd : goal.returns-in-WriteEnd
returns-in-WriteEnd c = λ shape past are follows.
    let e = c.args.event in
    let before : Marks = c.args.self.now in
    let value = c.value_open-value.ensures ∙ ap (λ (o : Option Access). value_ended WriteEnd o) c.open_access-in-WriteEnd.ensures.mark in
    let written = c.write_value.ensures ∙ ap (λ (v : Option Bool). with_value before.values e.bit v) value in
    let marks = c.set-in-WriteEnd.ensures ∙ ap (λ (values : List Bool). with_mark (record { values = values; sides = before.sides }) e.side idle) written in
    recorded shape past e before c.set-in-WriteEnd.new.self _ _ are follows c.in-WriteEnd.is marks (wrote before e.side e.bit are.seats)
