-- What the search leaves of `walk::check_entries`: its ways out, and the turn over a block.
-- Assumes nothing.
use Rattle.walk.proofs.Walking.{walking-apart, walking-bad, walking-end, walking-more, walking-past, walking-place, walking-room}
use Rattle.walk.proofs.check_entries.Goals as goal

pub returns-then-nodes-slot-lt2 : goal.returns-then-nodes-slot-lt2
returns-then-nodes-slot-lt2 c = walking-room c.args.rule c.loop-left.invariant c.loop-left-test.true c.if-nodes-slot-lt2.true

pub returns-then-number_at-at : goal.returns-then-number_at-at
returns-then-number_at-at c = walking-place c.args.rule c.loop-left.invariant c.loop-left-test.true _ c.number_at.ensures.0 c.if-number_at-at.true

pub returns-then-blocks-end : goal.returns-then-blocks-end
returns-then-blocks-end c = walking-past c.args.rule c.loop-left.invariant c.loop-left-test.true _ c.block_end-end.ensures c.if-blocks-end.true

pub returns-then-not-next_block : goal.returns-then-not-next_block
returns-then-not-next_block c =
    walking-bad c.args.rule c.loop-left.invariant c.block_end-end.ensures c.min-m.ensures c.loop-left-test.true _ _ c.next_block.ensures c.if-not-next_block.true

pub loop-left-preserved : goal.loop-left-preserved
loop-left-preserved c =
    walking-more c.args.rule c.loop-left.invariant c.block_end-end.ensures c.min-m.ensures c.loop-left-test.true _ _ c.next_block.ensures c.if-not-next_block.false
    c.if-nodes-slot-lt2.false _ c.number_at.ensures.0 c.if-number_at-at.false c.if-blocks-end.false

pub returns-then-at-blocks : goal.returns-then-at-blocks
returns-then-at-blocks c = walking-apart c.args.rule c.loop-left.invariant c.loop-left-test.false c.if-at-blocks.true

pub returns : goal.returns
returns c = walking-end c.args.rule c.loop-left.invariant c.loop-left-test.false c.if-at-blocks.false
