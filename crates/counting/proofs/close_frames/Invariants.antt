-- What the loop of `counting::close_frames` keeps: the frames above the one at hand are deeper. The measure is its number.
-- Assumes nothing.
use Rattle.counting.specs.Counting.{Deeper}
use Rattle.counting.proofs.close_frames.Given as goal

abbrev pub invariant-loop-frame : goal.invariant-loop-frame
invariant-loop-frame l = Deeper l.depths l.left l.top l.frame

abbrev pub decreases-loop-frame : goal.decreases-loop-frame
decreases-loop-frame l = l.frame
