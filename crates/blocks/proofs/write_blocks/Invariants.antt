-- What `blocks::write_blocks` keeps from turn to turn: the blocks before lo are written, and where they begin. Assumes nothing.
use Rattle.std.proofs.Common.{min}
use Rattle.blocks.proofs.Walk.{BlocksPut}
use Rattle.blocks.proofs.write_blocks.Given as goal

abbrev pub invariant-loop-lo : goal.invariant-loop-lo
invariant-loop-lo l = BlocksPut l.list l.n l.k l.table l.fn.room l.room (min l.lo l.n) l.at l.size l.row
