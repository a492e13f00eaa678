-- `neighbours::counted_along`: what `Along` gives at each place.
use Rattle.neighbours.proofs.Along.{along-asks, along-done, along-fits, along-more}
use Rattle.neighbours.proofs.counted_along.Goals as goal

pub shared_next-x-requires : goal.shared_next-x-requires
shared_next-x-requires g c = search along-asks

pub next_entry-at-requires : goal.next_entry-at-requires
next_entry-at-requires g c = search along-fits

pub loop-at-preserved : goal.loop-at-preserved
loop-at-preserved g c = search along-more

pub returns : goal.returns
returns g c = search along-done
