-- A read's case: what a read counts stands in the room, by `read-within`.
-- Assumes nothing.
use Rattle.answers.proofs.Calls.{read-within}
use Rattle.cases.proofs.reading.ReadingCase.print.Goals as goal

pub new-requires : goal.new-requires
new-requires g c = λ e. read-within _ _ _ _ c.book_read-answer.ensures
