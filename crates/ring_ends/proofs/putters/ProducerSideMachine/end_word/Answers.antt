use Rattle.std.proofs.Common.{subst}
use Rattle.ring_ends.proofs.Common.{ProducerState, producing, Fed}
use Rattle.ring_ends.proofs.putters.ProducerSideMachine.end_word.Goals as goal

pub returns : goal.returns
returns c =
    let e = c.feed_word.ensures in
    subst (λ (m : ProducerState). Fed producing m c.args.answer c.feed_word.new.self) c.go_on_with_word.ensures.state (record { shape = e.shape; kind = e.kind; moved = e.stands })
