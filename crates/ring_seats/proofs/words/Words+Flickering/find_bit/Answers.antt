use Rattle.ring_seats.proofs.words.Words+Flickering.find_bit.Goals as goal

pub find-requires : goal.find-requires
find-requires c = c.word_of-place.ensures.below
