-- The part of the second list, or of the first, that the head names.
use Rattle.std.proofs.Common.{arith}
use Rattle.book.proofs.Merging.{end_fits, in-first, in-second}
use Rattle.book.proofs.list_step.Goals as goal

pub overflow_add-end : goal.overflow_add-end
overflow_add-end c = let a = c.args in omega (arith, end_fits a.first a.second _ _ c.list_head-head.ensures (omega arith) (omega arith))

pub slice_bounds-result-end : goal.slice_bounds-result-end
slice_bounds-result-end c = let a = c.args in omega (arith, in-second a.first a.second _ _ c.list_head-head.ensures c.if-head-eq2.true)

pub slice_bounds-result-end-else-head-eq2 : goal.slice_bounds-result-end-else-head-eq2
slice_bounds-result-end-else-head-eq2 c = let a = c.args in omega (arith, in-first a.first a.second _ _ c.list_head-head.ensures c.if-head-eq2.false)
