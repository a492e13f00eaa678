-- What the search leaves of `salvage::put_names`.
-- Assumes nothing.
use Rattle.salvage.proofs.Saving.{saving-entry, saving-more, saving-start}
use Rattle.salvage.proofs.put_names.Goals as goal

pub loop-init : goal.loop-init
loop-init c = rw c.clear.ensures (saving-start c.requires.0)

pub read-cur-requires : goal.read-cur-requires
read-cur-requires c = saving-entry c.loop.invariant c.loop-test.true

pub loop-preserved : goal.loop-preserved
loop-preserved c = saving-more c.loop.invariant c.loop-test.true c.read-cur.ensures c.bytes.ensures.0 c.put_record-end.ensures
