-- `sweep::step`: both counts together fit.
use Rattle.std.proofs.Common.{arith}
use Rattle.sweep.proofs.Steps.{goes-most}
use Rattle.sweep.proofs.step.Goals as goal

pub overflow_add-result : goal.overflow_add-result
overflow_add-result c =
    omega (arith, goes-most _ _ _ _ c.requires _ c.from-c.ensures c.if-m-c.false _ c.next_entry-end.ensures _ c.shared_symbols-shared.ensures)
