-- What the search does not find for `counting::count_nodes`: what a turn of the loop asks and leaves is laws of the walk.
-- Assumes nothing.
use Rattle.std.proofs.Common.{arith}
use Rattle.counting.proofs.Counting.{asked-room, counting-all, counting-keep, counting-narrow, counting-push, counting-slot, counting-start}
use Rattle.counting.proofs.count_nodes.Goals as goal

pub loop-j-init : goal.loop-j-init
loop-j-init c = counting-start c.requires

pub left_of-left-requires : goal.left_of-left-requires
left_of-left-requires c = omega (arith, asked-room c.args.notes.now c.requires)

pub overflow_cast-depths : goal.overflow_cast-depths
overflow_cast-depths c = counting-narrow c.requires c.loop-j.invariant c.loop-j-test.true _ c.left_of-left.ensures.0 c.left_of-left.ensures.1

pub bounds-depths-top-then-from-left : goal.bounds-depths-top-then-from-left
bounds-depths-top-then-from-left c =
    counting-slot c.requires c.loop-j.invariant c.loop-j-test.true _
    c.close_frames-top.ensures c.left_of-left.ensures.0 c.left_of-left.ensures.1 _ c.from.ensures c.if-from-left.true

pub loop-j-preserved-then-from-left : goal.loop-j-preserved-then-from-left
loop-j-preserved-then-from-left c =
    counting-push c.requires c.loop-j.invariant c.loop-j-test.true _
    c.close_frames-top.ensures c.left_of-left.ensures.0 c.left_of-left.ensures.1 _ c.from.ensures c.if-from-left.true

pub loop-j-preserved : goal.loop-j-preserved
loop-j-preserved c =
    counting-keep c.requires c.loop-j.invariant c.loop-j-test.true _
    c.close_frames-top.ensures c.left_of-left.ensures.0 c.left_of-left.ensures.1 _ c.from.ensures c.if-from-left.false

pub returns : goal.returns
returns c = counting-all c.requires c.loop-j.invariant c.loop-j-test.false
