-- What the search leaves of `salvage::put_record`.
-- Assumes nothing.
use Rattle.salvage.proofs.Saving.{record-none, record-put}
use Rattle.salvage.proofs.put_record.Goals as goal

pub returns-then-room-end : goal.returns-then-room-end
returns-then-room-end c = record-none c.args.name.now c.args.room.now c.args.at c.if-room-end.true

pub returns : goal.returns
returns c = record-put c.args.name.now c.args.room.now c.copy.new.room c.args.at c.if-room-end.false c.copy.ensures.1
