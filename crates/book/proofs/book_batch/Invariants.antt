-- What `book::book_batch` keeps from turn to turn: the first i answer rows are stored, and the rest are as they were.
use Rattle.std.proofs.Common.{◌≡◌}
use Rattle.book.proofs.Batching.{turned}
use Rattle.book.proofs.Filling.{filled}
use Rattle.book.proofs.book_batch.Given as goal

abbrev pub invariant-loop-i : goal.invariant-loop-i
invariant-loop-i l = l.answers ≡ filled (turned l.book l.questions l.rows) l.fn.answers l.i
