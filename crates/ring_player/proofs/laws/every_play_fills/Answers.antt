use Rattle.ring_player.proofs.LawLemmas.{every_play_fills as the_law}
use Rattle.ring_player.proofs.laws.every_play_fills.Goals as goal

pub returns : goal.returns
returns c = the_law
