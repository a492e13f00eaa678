-- `neighbours::start_of`: the block table's place.
use Rattle.neighbours.proofs.Meeting.{start-place}
use Rattle.neighbours.proofs.start_of.Goals as goal

pub number_at-requires : goal.number_at-requires
number_at-requires c = search start-place
