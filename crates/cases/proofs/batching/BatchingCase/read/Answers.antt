-- A batch's case takes at least its head, and its book stands in what it takes.
-- Assumes nothing.
use Rattle.cases.proofs.Taking.{case-case, head-taken, part-placed}
use Rattle.cases.proofs.batching.BatchingCase.read.Goals as goal

pub returns : goal.returns
returns c =
    head-taken c.in_ok-size.ensures.0
    (case-case (part-placed c.in_ok-asked.ensures.0)
    (case-case (part-placed c.in_ok-count.ensures.0)
    (case-case (part-placed c.in_ok-lent.ensures.0)
    (case-case c.in_ok-book.ensures.placed.0
    (case-case (part-placed c.in_ok-questions.ensures.0) c.in_ok-rows.ensures)))))
