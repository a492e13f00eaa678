-- A check's case takes at least its head, and its book keeps its place.
-- Assumes nothing.
use Rattle.cases.proofs.Taking.{head-taken, part-placed}
use Rattle.cases.proofs.checking.CheckingCase.read.Goals as goal

pub returns : goal.returns
returns c = head-taken c.in_ok-size.ensures.0 (part-placed c.in_ok-book.ensures.0)
