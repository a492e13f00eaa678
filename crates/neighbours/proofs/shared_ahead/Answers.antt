-- `neighbours::shared_ahead`: both counts together.
use Rattle.std.proofs.Common.{arith}
use Rattle.neighbours.proofs.Ahead.{ahead-is, ahead-most}
use Rattle.neighbours.proofs.shared_ahead.Goals as goal

pub overflow_add-result : goal.overflow_add-result
overflow_add-result c =
    omega (arith, ahead-most _ _ _ c.requires _ _ _ _ c.from-c.ensures c.next_entry-end.ensures c.shared_symbols-more.ensures)

pub returns : goal.returns
returns c = ahead-is _ _ _ c.requires _ _ _ _ c.from-c.ensures c.next_entry-end.ensures c.shared_symbols-more.ensures
