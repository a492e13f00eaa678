-- What the search leaves of `salvage::records_size`.
-- Assumes nothing.
use native.Mathlib.Omega.{arith}
use Rattle.salvage.proofs.Saving.{measuring-fits, measuring-more, measuring-start}
use Rattle.salvage.proofs.records_size.Goals as goal

pub loop-init : goal.loop-init
loop-init c = measuring-start c.requires.0

pub overflow_add-at : goal.overflow_add-at
overflow_add-at c = omega (arith, measuring-fits c.loop.invariant c.loop-test.true)

pub bounds-card-at : goal.bounds-card-at
bounds-card-at c = omega (arith, measuring-fits c.loop.invariant c.loop-test.true)

pub bounds-card-at-in-loop : goal.bounds-card-at-in-loop
bounds-card-at-in-loop c = omega (arith, measuring-fits c.loop.invariant c.loop-test.true)

pub overflow_add-at-in-loop-2 : goal.overflow_add-at-in-loop-2
overflow_add-at-in-loop-2 c = omega (arith, measuring-fits c.loop.invariant c.loop-test.true, c.from-rest.ensures)

pub loop-preserved : goal.loop-preserved
loop-preserved c = measuring-more c.loop.invariant c.loop-test.true _ _ c.from.ensures c.from-rest.ensures
