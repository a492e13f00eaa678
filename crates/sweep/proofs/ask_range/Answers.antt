-- `sweep::ask_range` opens `range`.
use Rattle.sweep.proofs.Replies.{range-is}
use Rattle.sweep.proofs.ask_range.Goals as goal

pub returns : goal.returns
returns c = range-is _ _ _ _ _ c.range_of-found.ensures
