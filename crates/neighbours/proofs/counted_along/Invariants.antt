-- `neighbours::counted_along`: `Along` carries the loop, and the bytes that are left up to the entry are its measure.
use Rattle.std.proofs.Common.{◌-◌}
use Rattle.neighbours.proofs.Along.{Along}
use Rattle.neighbours.proofs.counted_along.Given as goal

abbrev pub invariant-loop-at : goal.invariant-loop-at
invariant-loop-at g l = Along g.R.KnownRule.rule l.book l.a l.c l.at l.x

abbrev pub decreases-loop-at : goal.decreases-loop-at
decreases-loop-at g l = l.a - l.at
