-- The path so far, from the root to the node at hand. The measure is the room that is left in it; depths rise along it, so it never runs out.
use Rattle.std.proofs.Common.{◌-◌}
use Rattle.paths.specs.Paths.{own_map}
use Rattle.paths.proofs.Ways.{Going}
use Rattle.paths.proofs.descend.Given as goal

abbrev pub invariant-loop-c : goal.invariant-loop-c
invariant-loop-c l = Going l.table.book.now (own_map l.table) l.question l.path l.n l.o

abbrev pub decreases-loop-c : goal.decreases-loop-c
decreases-loop-c l = 202 - l.n
