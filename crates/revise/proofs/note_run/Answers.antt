-- `revise::note_run`: what `RunTo` gives at each place.
use Rattle.std.proofs.Common.{arith}
use Rattle.revise.proofs.Running.{run-asks, run-goes}
use Rattle.revise.proofs.note_run.Goals as goal

pub overflow_add-j : goal.overflow_add-j
overflow_add-j c = omega (arith, (run-asks c.loop-t.invariant c.loop-t-test.true).1)

pub note_next-cur-requires : goal.note_next-cur-requires
note_next-cur-requires c = run-asks c.loop-t.invariant c.loop-t-test.true

pub loop-t-preserved : goal.loop-t-preserved
loop-t-preserved c = run-goes c.loop-t.invariant c.loop-t-test.true c.note_next-cur.ensures.name_read c.note_next-cur.ensures.note_set
