use Rattle.std.proofs.Common.{[], refl}
use Rattle.ring_audit.proofs.dues.Followers.new.Goals as goal

pub returns-clause-stands : goal.returns-clause-stands
returns-clause-stands c = record {
  counted = 0;
  put = [];
  taken = [];
  stands = record { items = []; stored = []; puts_stand = c.new.ensures.stands; takes_stand = c.new-2.ensures.stands; put_is = refl; counted_is = refl };
}
