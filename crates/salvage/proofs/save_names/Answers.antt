-- What the search leaves of `salvage::save_names`: what was counted tells the way out.
-- Assumes nothing.
use Rattle.salvage.proofs.Saving.{save-put, save-rows, save-short, save-unmapped}
use Rattle.salvage.proofs.save_names.Goals as goal

pub returns-then-not-is_mapped-clause-saved : goal.returns-then-not-is_mapped-clause-saved
returns-then-not-is_mapped-clause-saved c = save-unmapped _ _ _ c.is_mapped.ensures c.if-not-is_mapped.true

-- 12 comes before 4
pub returns-then-rows-block_count-clause-saved : goal.returns-then-rows-block_count-clause-saved
returns-then-rows-block_count-clause-saved c = save-rows _ _ _ c.is_mapped.ensures c.if-not-is_mapped.false c.block_count.ensures.0 c.if-rows-block_count.true

pub returns-then-room-size-clause-saved : goal.returns-then-room-size-clause-saved
returns-then-room-size-clause-saved c =
    save-short _ _ _ c.is_mapped.ensures c.if-not-is_mapped.false c.block_count.ensures.0 c.if-rows-block_count.false c.count_blocks-size.ensures c.if-room-size.true

pub returns-clause-saved : goal.returns-clause-saved
returns-clause-saved c =
    save-put _ _ _ c.is_mapped.ensures c.if-not-is_mapped.false c.block_count.ensures.0 c.if-rows-block_count.false c.count_blocks-size.ensures c.if-room-size.false
    c.put_blocks-end.ensures
