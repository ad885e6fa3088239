use Rattle.std.proofs.Common.{sym, subst}
use Rattle.bits_core.specs.declared.events.Side.TheVariants.{P}
use Rattle.near_misses.specs.NearPlays.{NearEnds, NearStand}
use Rattle.near_misses.specs.NearSides.{put_stand}
use Rattle.near_misses.proofs.NearLemmas.{put_unread}
use Rattle.near_misses.proofs.putting.NearPutterNearSide.end.Goals as goal

pub returns-clause-ends : goal.returns-clause-ends
returns-clause-ends c asked is =
    subst (λ (n : NearStand). NearEnds asked P n c.ended.result (put_stand c.ended.new.self)) (sym (put_unread asked c.args.access c.args.answer (put_stand c.args.self.now))) (c.ended.ensures.ends.2 asked is)
