-- A build's case takes at least its head.
-- Assumes nothing.
use Rattle.cases.proofs.Taking.{case-case, head-taken, part-placed}
use Rattle.cases.proofs.building.Building.read.Goals as goal

pub returns : goal.returns
returns c =
    head-taken c.in_ok-size.ensures.0
    (case-case (part-placed c.in_ok-block.ensures)
    (case-case (part-placed c.in_ok-room.ensures.0) (part-placed c.in_ok-list.ensures.0)))
