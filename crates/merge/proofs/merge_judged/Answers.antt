-- What was counted tells the way out, and counting has left the room as it was.
use Rattle.merge.proofs.Merging.{merging-many, merging-put, merging-short, read-ask}
use Rattle.merge.proofs.merge_judged.Goals as goal

pub merge_into-tally-requires : goal.merge_into-tally-requires
merge_into-tally-requires c = read-ask c.requires

pub returns-then-tally-gt2000 : goal.returns-then-tally-gt2000
returns-then-tally-gt2000 c = merging-many c.requires c.args.room.now c.merge_into-tally.ensures c.if-tally-gt2000.true

pub returns-then-room-tally : goal.returns-then-room-tally
returns-then-room-tally c = merging-short c.requires c.args.room.now c.merge_into-tally.ensures c.if-tally-gt2000.false c.if-room-tally.true

pub merge_into-put-requires : goal.merge_into-put-requires
merge_into-put-requires c = read-ask c.requires

pub returns : goal.returns
returns c = merging-put c.requires c.args.room.now c.merge_into-tally.ensures c.if-tally-gt2000.false c.if-room-tally.false c.merge_into-put.ensures
