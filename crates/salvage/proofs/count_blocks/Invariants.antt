-- `CountingBlocks` carries the loop of `salvage::count_blocks`.
-- Assumes nothing.
use Rattle.std.proofs.Common.{length}
use Rattle.answers.specs.Salvage.{card_blocks}
use Rattle.salvage.proofs.Saving.{CountingBlocks}
use Rattle.salvage.proofs.count_blocks.Given as goal

abbrev pub invariant-loop-i : goal.invariant-loop-i
invariant-loop-i l = CountingBlocks l.card l.notes (length (card_blocks l.card)) l.i l.size
