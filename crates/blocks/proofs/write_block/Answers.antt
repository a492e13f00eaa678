-- `blocks::write_block` meets its contract: each way is a law of proofs/Writing.antt. Assumes nothing.
use Rattle.std.proofs.Common.{arith}
use Rattle.blocks.proofs.Writing.{filling-count, filling-fits, filling-less, filling-more, filling-part, filling-place, filling-rest, filling-source, filling-start}
use Rattle.blocks.proofs.write_block.Goals as goal

pub loop-i-init : goal.loop-i-init
loop-i-init c = filling-start _ c.requires.block_ask c.requires.lengths_are _ c.requires.hi_in_bounds

pub bounds-notes-i : goal.bounds-notes-i
bounds-notes-i c = filling-place _ c.requires.block_ask c.requires.lengths_are _ c.requires.hi_in_bounds c.loop-i.invariant c.loop-i-test.true

pub count_of-c-requires : goal.count_of-c-requires
count_of-c-requires c = filling-place _ c.requires.block_ask c.requires.lengths_are _ c.requires.hi_in_bounds c.loop-i.invariant c.loop-i-test.true

pub overflow_sub-rest : goal.overflow_sub-rest
overflow_sub-rest c =
    filling-less _ c.requires.block_ask c.requires.lengths_are _ c.requires.hi_in_bounds c.loop-i.invariant c.loop-i-test.true _ _ c.from-len.ensures _ c.count_of-c.ensures

pub overflow_add-from-in-loop-i : goal.overflow_add-from-in-loop-i
overflow_add-from-in-loop-i c =
    omega (arith, filling-source _ c.requires.block_ask c.requires.lengths_are _ c.requires.hi_in_bounds c.loop-i.invariant c.loop-i-test.true _ _ c.from-len.ensures _ c.count_of-c.ensures)

pub overflow_add-to : goal.overflow_add-to
overflow_add-to c =
    omega (arith, filling-source _ c.requires.block_ask c.requires.lengths_are _ c.requires.hi_in_bounds c.loop-i.invariant c.loop-i-test.true _ _ c.from-len.ensures _ c.count_of-c.ensures)

pub slice_bounds-put_entry-end : goal.slice_bounds-put_entry-end
slice_bounds-put_entry-end c =
    omega (arith, filling-source _ c.requires.block_ask c.requires.lengths_are _ c.requires.hi_in_bounds c.loop-i.invariant c.loop-i-test.true _ _ c.from-len.ensures _ c.count_of-c.ensures)

pub slice_bounds-put_entry-end-in-loop-i : goal.slice_bounds-put_entry-end-in-loop-i
slice_bounds-put_entry-end-in-loop-i c =
    omega (arith, filling-fits _ c.requires.block_ask c.requires.lengths_are _ c.requires.hi_in_bounds c.loop-i.invariant c.loop-i-test.true _ _ c.from-len.ensures _ c.count_of-c.ensures)

pub put_entry-requires : goal.put_entry-requires
put_entry-requires c =
    let fill = c.loop-i.invariant in (
      filling-count _ c.requires.block_ask c.requires.lengths_are _ c.requires.hi_in_bounds fill c.loop-i-test.true _ _ c.from-len.ensures _ c.count_of-c.ensures,
      filling-rest _ c.requires.block_ask c.requires.lengths_are _ c.requires.hi_in_bounds fill c.loop-i-test.true _ _ c.from-len.ensures _ c.count_of-c.ensures,
      filling-part _ c.requires.block_ask c.requires.lengths_are _ c.requires.hi_in_bounds fill c.loop-i-test.true _ _ c.from-len.ensures _ c.count_of-c.ensures,
    )

pub loop-i-preserved : goal.loop-i-preserved
loop-i-preserved c =
    filling-more _ c.requires.block_ask c.requires.lengths_are _ c.requires.hi_in_bounds c.loop-i.invariant c.loop-i-test.true _ _ c.from-len.ensures _ c.count_of-c.ensures _ c.put_entry.ensures
