use Rattle.std.proofs.Common.{arith, ◌∙◌, length, ap}
use Rattle.register_recordings.specs.Recordings.{register_text}
use Rattle.register_recordings.proofs.Shortfalls.{bytes_fall_short}
use Rattle.register_recordings.proofs.recordings.RegisterRecording.shortfall.Goals as goal

pub returns-then-self-eq0 : goal.returns-then-self-eq0
returns-then-self-eq0 g c bytes has = grind arith

pub returns : goal.returns
returns g c bytes has = (
  register_text has.ended,
  g.B.Store.items c.args.self.now.cut,
  has.text,
  has.no_feed,
  bytes_fall_short g.W.Fifo.items g.R.Fifo.items g.P.Fifo.items g.C.Fifo.items c.args.self.now.lines c.args.class has.ended c.shortfall.result (λ none. c.if-self-eq0.false (has.lines.count ∙ ap length none)) has.lines
      c.shortfall.ensures,
)
