use Rattle.ring_player.proofs.LawLemmas.{every_play_holds as the_law}
use Rattle.ring_player.proofs.laws.every_play_holds.Goals as goal

pub returns : goal.returns
returns c = the_law
