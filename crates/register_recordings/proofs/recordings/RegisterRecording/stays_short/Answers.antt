use Rattle.std.proofs.Common.{append_assoc, arith}
use Rattle.register_recordings.proofs.RecordingLemmas.{long_bad, too_long}
use Rattle.register_recordings.proofs.recordings.RegisterRecording.stays_short.Goals as goal

pub returns-then-length-le-LINE_LIMIT-clause-short : goal.returns-then-length-le-LINE_LIMIT-clause-short
returns-then-length-le-LINE_LIMIT-clause-short g c = grind arith

pub returns-in-Some-clause-refused : goal.returns-in-Some-clause-refused
returns-in-Some-clause-refused g c text more has = grind (arith, long_bad, c.args.bytes.now, c.args.self.now.cut, c.as_slice.ensures, c.as_slice.result.now, c.if-length-le-LINE_LIMIT.false, c.in-Some.ensures.1, c.in-Some.line, c.requires, c.saturating_add-length.ensures, g.B.Store.items, has.ended, has.lines.are, has.lines.count, has.no_feed, has.text)

pub returns-in-None-clause-refused : goal.returns-in-None-clause-refused
returns-in-None-clause-refused g c text more has = grind (arith, append_assoc, too_long)
