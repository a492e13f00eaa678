-- A read's case takes at least its head, and its book stands in what it takes.
-- Assumes nothing.
use Rattle.cases.proofs.Taking.{case-case, head-taken, part-placed}
use Rattle.cases.proofs.reading.ReadingCase.read.Goals as goal

pub returns : goal.returns
returns c =
    head-taken c.in_ok-size.ensures.0
    (case-case (part-placed c.in_ok-position.ensures)
    (case-case (part-placed c.in_ok-room.ensures.0) c.in_ok-book.ensures.placed.0))
