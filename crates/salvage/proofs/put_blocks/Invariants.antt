-- `Blocks` carries the loop of `salvage::put_blocks`.
-- Assumes nothing.
use Rattle.std.proofs.Common.{length}
use Rattle.answers.specs.Salvage.{card_blocks}
use Rattle.salvage.proofs.Saving.{Blocks}
use Rattle.salvage.proofs.put_blocks.Given as goal

abbrev pub invariant-loop-i : goal.invariant-loop-i
invariant-loop-i l = Blocks l.card l.initial.room l.room (length (card_blocks l.card)) l.i l.end
