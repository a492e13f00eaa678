use Rattle.std.proofs.Common.{◌+◌, ◌-◌, length}
use Rattle.merge.proofs.Joining.{Joins}
use Rattle.merge.proofs.merge_into.Given as goal

abbrev pub invariant-loop-i : goal.invariant-loop-i
invariant-loop-i l = Joins l.first l.second l.initial.room l.room l.i l.j l.names l.bytes

abbrev pub decreases-loop-i : goal.decreases-loop-i
decreases-loop-i l = length l.first + length l.second - (l.i + l.j)
