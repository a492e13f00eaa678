-- What the search leaves of `salvage::put_blocks`.
-- Assumes nothing.
use mathlib.Core.Path.{refl}
use native.Mathlib.Omega.{arith}
use Rattle.salvage.proofs.Saving.{blocks_more, blocks_start}
use Rattle.salvage.proofs.put_blocks.Goals as goal

pub loop-i-init : goal.loop-i-init
loop-i-init c = blocks_start _ refl (omega (arith, c.block_count-i-end.ensures))

pub loop-i-preserved : goal.loop-i-preserved
loop-i-preserved c = blocks_more c.loop-i.invariant (omega (arith, c.loop-i-test.true, c.block_count-i-end.ensures.0)) c.put_block-end.ensures.0 c.put_block-end.ensures.1
