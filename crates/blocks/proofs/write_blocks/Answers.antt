-- `blocks::write_blocks` meets its contract: each way is a law of proofs/Walk.antt. The last step may lead past the names. Assumes nothing.
use Rattle.std.proofs.Common.{◌≡◌, ◌+◌, min, arith}
use Rattle.blocks.proofs.Walk.{put-more, put-part, put-row, put-start, put_all, put_along, put_here}
use Rattle.blocks.proofs.write_blocks.Goals as goal

pub loop-lo-init : goal.loop-lo-init
loop-lo-init c =
    let none : 0 ≡ min 0 c.args.n = omega arith in
    put_along none (put-start c.requires.entries_ask _ c.requires.table_value.0 c.requires.table_value.1)

pub slice_bounds-put16-end : goal.slice_bounds-put16-end
slice_bounds-put16-end c =
    let hi : c.min-hi.result ≡ min (c.loop-lo.lo + c.args.k) c.args.n = omega arith in
    omega (arith, put-row c.requires.entries_ask _ c.requires.table_value.0 c.requires.table_value.1 (put_here _ c.loop-lo-test.true c.loop-lo.invariant) c.loop-lo-test.true _ hi)

pub write_block-b-requires-clause-hi_in_bounds : goal.write_block-b-requires-clause-hi_in_bounds
write_block-b-requires-clause-hi_in_bounds c =
    let hi : c.min-hi.result ≡ min (c.loop-lo.lo + c.args.k) c.args.n = omega arith in
    put-part c.requires.entries_ask _ c.requires.table_value.0 c.requires.table_value.1 (put_here _ c.loop-lo-test.true c.loop-lo.invariant) c.loop-lo-test.true _ hi
    _ _ c.put16.ensures

pub loop-lo-preserved : goal.loop-lo-preserved
loop-lo-preserved c =
    let hi : c.min-hi.result ≡ min (c.loop-lo.lo + c.args.k) c.args.n = omega arith in
    put_along hi
    (put-more c.requires.entries_ask _ c.requires.table_value.0 c.requires.table_value.1 (put_here _ c.loop-lo-test.true c.loop-lo.invariant) c.loop-lo-test.true _ hi
    _ c.put16.ensures _ _ _ c.write_block-b.ensures)

pub returns : goal.returns
returns c =
    put_all c.requires.entries_ask _ c.requires.table_value.0 c.requires.table_value.1 c.loop-lo.invariant (omega arith)

pub returns-2 : goal.returns-2
returns-2 c =
    let hi : c.min-hi.result ≡ min (c.loop-lo.lo + c.args.k) c.args.n = omega arith in
    put_all c.requires.entries_ask _ c.requires.table_value.0 c.requires.table_value.1
    (put-more c.requires.entries_ask _ c.requires.table_value.0 c.requires.table_value.1 (put_here _ c.loop-lo-test.true c.loop-lo.invariant) c.loop-lo-test.true _ hi
    _ c.put16.ensures _ _ _ c.write_block-b.ensures)
    (omega arith)
