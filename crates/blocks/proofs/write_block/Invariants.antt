-- What `blocks::write_block` keeps from turn to turn: the names before i are written at the front of the room. Assumes nothing.
use Rattle.blocks.proofs.Writing.{Filling}
use Rattle.blocks.proofs.write_block.Given as goal

abbrev pub invariant-loop-i : goal.invariant-loop-i
invariant-loop-i l = Filling l.list l.lo l.hi l.fn.room l.room l.i l.next l.size
