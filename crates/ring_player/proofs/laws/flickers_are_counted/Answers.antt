use Rattle.ring_player.proofs.LawLemmas.{flickers_are_counted as the_law}
use Rattle.ring_player.proofs.laws.flickers_are_counted.Goals as goal

pub returns : goal.returns
returns c = the_law
