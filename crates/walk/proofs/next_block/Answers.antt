-- What the search leaves of `walk::next_block`.
-- Assumes nothing.
use Rattle.walk.proofs.Walking.{next-judged}
use Rattle.walk.proofs.next_block.Goals as goal

-- the first name is above the name before, and the block's own check answers
pub returns : goal.returns
returns c = next-judged _ c.args.book.now c.args.start c.args.end c.args.m _ _ _ _ c.bytes.ensures.0 c.from.ensures c.is_less.ensures _ _ c.if-not-is_less.false c.check_block.ensures
