-- What the search does not find for `nodes::put_back`: a record in front of those that are written, where there is place for it.
-- Assumes nothing.
use Rattle.std.proofs.Common.{arith, refl}
use Rattle.nodes.proofs.Writing.{back_full, back_more}
use Rattle.nodes.proofs.put_back.Goals as goal

pub returns-then-room-size : goal.returns-then-room-size
returns-then-room-size c = back_full _ _ _ c.if-room-size.true

pub returns : goal.returns
returns c = back_more _ _ _ c.put_node.new.part _ _ _ (omega arith) refl refl c.put_node.ensures refl
