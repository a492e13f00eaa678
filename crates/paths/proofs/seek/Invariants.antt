-- The names before the child at hand have symbols below s. The measure is how far it is to the end of the row.
use Rattle.std.proofs.Common.{◌-◌}
use Rattle.paths.specs.Paths.{own_map}
use Rattle.paths.proofs.Ways.{SeekingAt}
use Rattle.paths.proofs.seek.Given as goal

abbrev pub invariant-loop-c : goal.invariant-loop-c
invariant-loop-c l = SeekingAt l.table.book.now (own_map l.table) l.o l.s l.c

abbrev pub decreases-loop-c : goal.decreases-loop-c
decreases-loop-c l = l.end - l.c
