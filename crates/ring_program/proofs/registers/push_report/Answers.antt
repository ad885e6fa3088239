use Rattle.std.proofs.Common.{◌++◌, codes, string_bytes}
use Rattle.ring_program.specs.Registers.{none_inverts_line}
use Rattle.ring_program.specs.Texts.{count_line}
use Rattle.ring_program.proofs.TextLemmas.{behind}
use Rattle.ring_program.proofs.registers.push_report.Goals as goal

pub returns-clause-text : goal.returns-clause-text
returns-clause-text g c =
    let report = c.args.report.now in
    let reads = count_line (codes "reads") report.reads in
    let overlapped = count_line (codes "overlapped") report.overlapped in
    let by_several = count_line (codes "by several") report.by_several in
    let could_invert = count_line (codes "could invert") report.could_invert in
    let none = none_inverts_line report.could_invert in
    let front = string_bytes c.args.text.now in
    let with_writes = string_bytes c.push_count.new.text in
    let with_reads = string_bytes c.push_count-2.new.text in
    let with_overlapped = string_bytes c.push_count-3.new.text in
    let with_by_several = string_bytes c.push_count-4.new.text in
    let with_could_invert = string_bytes c.push_count-5.new.text in
    let text = string_bytes c.push_str.new.self in
    let after_by_several = behind with_by_several with_could_invert text could_invert none c.in_ok-push_count-5.ensures.ok (rw c.none_inverts_words.ensures at c.in_ok-push_str.ensures.bytes) in
    let after_overlapped = behind with_overlapped with_by_several text by_several (could_invert ++ none) c.in_ok-push_count-4.ensures.ok after_by_several in
    let after_reads = behind with_reads with_overlapped text overlapped (by_several ++ (could_invert ++ none)) c.in_ok-push_count-3.ensures.ok after_overlapped in
    let after_writes = behind with_writes with_reads text reads (overlapped ++ (by_several ++ (could_invert ++ none))) c.in_ok-push_count-2.ensures.ok after_reads in
    behind front with_writes text (count_line (codes "writes") report.writes) (reads ++ (overlapped ++ (by_several ++ (could_invert ++ none)))) c.in_ok-push_count.ensures.ok after_writes
