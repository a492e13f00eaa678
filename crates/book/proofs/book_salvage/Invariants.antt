-- What `book::book_salvage` keeps from turn to turn: the first i report rows are stored, and the rest are as they were.
use Rattle.std.proofs.Common.{◌≡◌}
use Rattle.book.proofs.Salvaging.{turned_block}
use Rattle.book.proofs.Filling.{filled}
use Rattle.book.proofs.book_salvage.Given as goal

abbrev pub invariant-loop-i : goal.invariant-loop-i
invariant-loop-i l = l.report ≡ filled (turned_block l.«data») l.fn.report l.i
